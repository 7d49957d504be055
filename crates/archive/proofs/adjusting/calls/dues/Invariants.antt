use Rattle.archive.proofs.Dues.{Lacking}
use Rattle.archive.proofs.adjusting.calls.dues.Given as goal

abbrev pub invariant-loop-i : goal.invariant-loop-i
invariant-loop-i l = Lacking l.wanted l.sums l.all l.i-iterator.count l.i-iterator.iter.a.rest.now l.i-iterator.iter.b.rest.now
