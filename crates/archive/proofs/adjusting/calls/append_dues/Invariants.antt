use Rattle.std.proofs.Common.{◌≡◌, ◌-◌, get_or, pos}
use Rattle.archive.proofs.Adding.{Given}
use Rattle.archive.proofs.adjusting.calls.append_dues.Given as goal

abbrev pub invariant-loop-i : goal.invariant-loop-i
invariant-loop-i g l =
    (g.A.Archive.lent l.archive ≡ g.A.Archive.lent l.initial.archive)
    × Given g.A.Archive.stamped l.slot (λ s. get_or l.dues (s - 1) (pos 0)) (g.A.Archive.meaning l.initial.archive) (g.A.Archive.memory l.initial.archive) l.i (g.A.Archive.meaning l.archive) (g.A.Archive.memory l.archive)
