use Rattle.std.proofs.Common.{◌≡◌}
use Rattle.archive.proofs.Taking.{Taken}
use Rattle.archive.proofs.intake.append_rows.Given as goal

abbrev pub invariant-loop-row : goal.invariant-loop-row
invariant-loop-row g l =
    (l.row-iterator.size ≡ 15)
    × (g.A.Archive.lent l.archive ≡ g.A.Archive.lent l.initial.archive)
    × Taken g.A.Archive.stamped l.bytes (g.A.Archive.meaning l.initial.archive) (g.A.Archive.memory l.initial.archive) l.row-iterator.rest.now (g.A.Archive.meaning l.archive) (g.A.Archive.memory l.archive)
