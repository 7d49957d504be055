use Rattle.std.proofs.Common.{◌≡◌, ◌+◌, ◌≤◌, IfOk, sym, ap, ◌∙◌, subst, arith}
use Rattle.std.proofs.lemmas.Bool.{leb-true}
use Rattle.rules.specs.Ranges.{most}
use Rattle.rules.specs.Totals.{with_parts}
use Rattle.rules.proofs.Parting.{through, second_small, totalled, totals-whole}
use Rattle.rules.proofs.totals.group_totals.Goals as goal
use Rattle.rules.proofs.totals.group_totals.Goals.{After-parts-i}

-- what the arrangement answered is its meaning at the unaccounted energy
meant : (g : _) (c : After-parts-i g) → c.parts-i.result ≡ g.A.Arrangement.meaning c.args.arrangement.now c.unaccounted_for-u.result c.args.interval c.args.profiled
meant g c =
    c.parts-i.ensures ∙ ap (λ z. g.A.Arrangement.meaning c.args.arrangement.now z c.args.interval c.args.profiled) (through c.unaccounted_for-u.result (omega (arith, c.unaccounted_for-u.ensures.small)))

pub new-requires-3 : goal.new-requires-3
new-requires-3 g c =
    let a = c.args.arrangement.now in
    let u = c.unaccounted_for-u.result in
    let wi = c.args.interval in
    let wp = c.args.profiled in
    let laws = g.met.A.Arrangement in
    let light : wi + wp ≤ most = leb-true (wi + wp) most (sym c.if-not-within_most.ensures) in
    (omega arith, second_small u c.parts-i.result (g.A.Arrangement.meaning a u wi wp) (meant g (goal.at.new-requires-3 g c).After-parts-i) (laws.whole a u wi wp) (laws.sided a u wi wp) c.unaccounted_for-u.ensures.small)

pub returns-clause-whole : goal.returns-clause-whole
returns-clause-whole g c =
    let a = c.args.arrangement.now in
    let u = c.unaccounted_for-u.result in
    let wi = c.args.interval in
    let wp = c.args.profiled in
    let m = g.A.Arrangement.meaning a in
    let laws = g.met.A.Arrangement in
    let lawful = rw (c.new-2.ensures.0, c.new-3.ensures.0) at c.lawful_totals.ensures in
    let parts : c.lawful_totals.result ≡ with_parts wi wp (m u wi wp) =
    totalled u c.parts-i.result (m u wi wp) (meant g (goal.at.returns-clause-whole g c).After-parts-i) (laws.whole a u wi wp) (laws.sided a u wi wp) c.unaccounted_for-u.ensures.small wi wp
    c.new-2.result.total c.new-3.result.total c.lawful_totals.result c.new-2.ensures.1 c.new-3.ensures.1 lawful in
    subst (λ r. IfOk r (λ t. t.0 + t.1 ≡ c.args.zone)) (sym parts) (totals-whole c.args.zone wi wp (m u wi wp) (laws.whole a u wi wp ∙ c.unaccounted_for-u.ensures.value))
