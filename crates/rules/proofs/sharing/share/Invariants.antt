use Rattle.std.proofs.Common.{map}
use Rattle.rules.specs.Pots.{left_of_both}
use Rattle.rules.specs.Shares.{finals}
use Rattle.rules.proofs.Serving.{Handed}
use Rattle.rules.proofs.sharing.share.Given as goal

abbrev pub invariant-loop-place : goal.invariant-loop-place
invariant-loop-place g l =
    let m = g.L.Weighted in
    Handed m.amounts (finals l.first l.second (map m.in_first l.fn.lines) (map m.in_second l.fn.lines)) l.initial.list l.list l.place-index
    (left_of_both m.in_first m.in_second l.shares.first l.shares.second l.shares.lines.now)
