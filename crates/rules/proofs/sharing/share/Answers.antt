use Rattle.std.proofs.Common.{map, ◌∙◌}
use Rattle.std.proofs.lemmas.List.{set-get_or}
use Rattle.rules.proofs.Serving.{turn, none_left, no_place_left, same_lines}
use Rattle.rules.proofs.sharing.share.Goals as goal

pub loop-place-preserved : goal.loop-place-preserved
loop-place-preserved g c = rw c.amount.ensures (turn c.loop-place.invariant c.loop-place-test.true c.in-Some.ensures.steps)

pub returns-after-loop-place-clause-written : goal.returns-after-loop-place-clause-written
returns-after-loop-place-clause-written g c =
    let m = g.L.Weighted in
    let ls = c.args.lines.now in
    no_place_left c.args.first c.args.second (map m.in_first ls) (map m.in_second ls) (same_lines m.in_first m.in_second ls) c.in_ok-shares.ensures.0 c.loop-place.invariant c.loop-place-test.false

pub returns-in_default-clause-written : goal.returns-in_default-clause-written
returns-in_default-clause-written g c =
    let m = g.L.Weighted in
    let ls = c.args.lines.now in
    set-get_or c.loop-place.list c.loop-place.place-index c.place-item.result
    ∙ none_left c.args.first c.args.second (map m.in_first ls) (map m.in_second ls) (same_lines m.in_first m.in_second ls) c.in_ok-shares.ensures.0 c.loop-place.invariant c.in_default.ensures.steps.0
