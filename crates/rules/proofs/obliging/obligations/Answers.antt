use Rattle.std.proofs.Common.{rules, ◌-◌, [], ◌∷◌, map, sym, length-append, inl, inr, arith}
use Rattle.rules.proofs.Suppliers.{obligations-none}
use Rattle.rules.proofs.Serving.{same_lines}
use Rattle.rules.proofs.Summing.{sums_more, sums_fit, finals_small, all_summed}
use Rattle.rules.proofs.obliging.obligations.Goals as goal

pub loop-supplier-init : goal.loop-supplier-init
loop-supplier-init g c = record { suppliers_left = search rules; shares_left = search rules; summed = sym (obligations-none c.args.suppliers.now); within = omega arith }

pub add_to-requires : goal.add_to-requires
add_to-requires g c =
    let m = g.L.Weighted in
    let ls = c.args.lines.now in
    let step = c.in-Some.ensures.steps in
    let fit = sums_fit c.loop-supplier.invariant step.0 step.1 (c.in-Some.supplier.now - 1) in
    omega (arith, fit, finals_small c.args.first c.args.second (map m.in_first ls) (map m.in_second ls) c.args.suppliers.now (same_lines m.in_first m.in_second ls) c.in_ok-shares.ensures.0)

pub loop-supplier-preserved : goal.loop-supplier-preserved
loop-supplier-preserved g c =
    let step = c.in-Some.ensures.steps in
    rw (length-append c.loop-supplier.yielded ((c.in-Some.supplier, c.in-Some.share) ∷ []), c.add_to.ensures) (sums_more c.loop-supplier.invariant step.0 step.1)

pub returns-clause-answer : goal.returns-clause-answer
returns-clause-answer g c =
    let m = g.L.Weighted in
    let ls = c.args.lines.now in
    all_summed c.args.first c.args.second (map m.in_first ls) (map m.in_second ls) c.args.suppliers.now (same_lines m.in_first m.in_second ls) c.in_ok-shares.ensures.0 c.loop-supplier.invariant
    (elim c.in-None.ensures.steps [ inl p ↦ inl p.1.0 | inr p ↦ inr p.1.0 ])
