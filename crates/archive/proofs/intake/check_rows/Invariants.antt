use Rattle.std.proofs.Common.{◌≡◌, ◌*◌, ◌/◌, length}
use Rattle.archive.specs.Intake.{all_read}
use Rattle.archive.proofs.intake.check_rows.Given as goal

abbrev pub invariant-loop-i : goal.invariant-loop-i
invariant-loop-i l =
    (l.i-iterator.iter.size ≡ 15)
    × (all_read (length l.i-iterator.iter.rest.now / 15) (l.i-iterator.count * 15) l.i-iterator.iter.rest.now ≡ all_read (length l.bytes / 15) 0 l.bytes)
