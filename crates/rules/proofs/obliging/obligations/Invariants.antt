use Rattle.std.proofs.Common.{map, length}
use Rattle.rules.specs.Pots.{left_of_both}
use Rattle.rules.specs.Shares.{finals}
use Rattle.rules.proofs.Summing.{Summed}
use Rattle.rules.proofs.obliging.obligations.Given as goal

abbrev pub invariant-loop-supplier : goal.invariant-loop-supplier
invariant-loop-supplier g l =
    let m = g.L.Weighted in
    let s = l.supplier-iterator.b in
    Summed l.fn.suppliers (finals l.first l.second (map m.in_first l.fn.lines) (map m.in_second l.fn.lines)) l.sums (length l.yielded) l.supplier-iterator.a.rest.now
    (left_of_both m.in_first m.in_second s.first s.second s.lines.now)
