use Rattle.std.proofs.Common.{◌≡◌, ◌++◌}
use Rattle.archive.proofs.Summing.{Summed}
use Rattle.archive.proofs.sums.hour_sums.Given as goal

abbrev pub invariant-loop-row : goal.invariant-loop-row
invariant-loop-row g l =
    (l.yielded ++ l.row-iterator ≡ (g.A.Archive.meaning l.archive).rows)
    × Summed l.kind l.day l.hour l.sums.suppliers l.sums.zone l.yielded
