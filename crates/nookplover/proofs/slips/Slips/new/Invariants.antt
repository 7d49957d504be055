use Rattle.std.proofs.Common.{◌≡◌, ◌≤◌, vec_len, vec_capacity}
use Rattle.nookplover.proofs.slips.Slips.new.Given as goal

abbrev pub invariant-loop-day : goal.invariant-loop-day
invariant-loop-day l = (vec_len l.places ≡ l._day) × (60001 ≤ vec_capacity l.places)
