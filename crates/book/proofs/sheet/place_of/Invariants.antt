use Rattle.std.proofs.Common.{◌-◌}
use Rattle.book.proofs.Searching.{Halved}
use Rattle.book.proofs.sheet.place_of.Given as goal

abbrev pub invariant-loop-low : goal.invariant-loop-low
invariant-loop-low g l = Halved g.L.Accounted.account_of l.lines l.account l.low l.high

abbrev pub decreases-loop-low : goal.decreases-loop-low
decreases-loop-low g l = l.high - l.low
