-- What each group is to share: its load with its part of the unaccounted energy.
use Rattle.std.specs.Prelude.{ℕ, ◌+◌, Bool, cond, ◌&&◌, ◌||◌, ℤ, pos, negsuc, ◌+ℤ◌, Ok, Err, Result, ◌==◌, nat_le, unsigned_abs}
use Rattle.refusals.specs.declared.Refusal.{Refusal}
use Rattle.refusals.specs.declared.Cause.TheVariants.{OutOfRange, LoadsTooHigh, UnloadedGroup, NegativeTotal}
use Rattle.refusals.specs.declared.Layer.TheVariants.{Sheet, Sharing}
use Rattle.refusals.specs.Numbers.{refusal}
use Rattle.rules.specs.Ranges.{most}
use Rattle.rules.specs.Parts.{unaccounted}

-- a total other than 0 where there is no load to share it by
abbrev pub unloaded : ℕ → ℤ → Bool
unloaded w total = w == 0 && nat_le 1 (unsigned_abs total)

abbrev pub natural : ℤ → Result ℕ Refusal
natural (pos a) = Ok a
natural (negsuc a) = Err (refusal NegativeTotal Sharing 0)

abbrev pub naturals : ℤ → ℤ → Result (ℕ × ℕ) Refusal
naturals (pos a) (pos b) = Ok (a, b)
naturals (pos a) (negsuc b) = Err (refusal NegativeTotal Sharing 0)
naturals (negsuc a) total = Err (refusal NegativeTotal Sharing 0)

-- the totals s and t of groups of the loads wi and wp
abbrev pub lawful_totals : ℕ → ℕ → ℤ → ℤ → Result (ℕ × ℕ) Refusal
lawful_totals wi wp s t = cond (unloaded wi s || unloaded wp t) (Err (refusal UnloadedGroup Sharing 0)) (naturals s t)

abbrev pub with_parts : ℕ → ℕ → ℤ × ℤ → Result (ℕ × ℕ) Refusal
with_parts wi wp p = lawful_totals wi wp (pos wi +ℤ p.0) (pos wp +ℤ p.1)

-- The totals of the interval and the profiled lines at a zone load, by the meaning m of an arrangement.
abbrev pub group_totals : (ℤ → ℕ → ℕ → ℤ × ℤ) → ℕ → ℕ → ℕ → Result (ℕ × ℕ) Refusal
group_totals m zone wi wp =
    cond (nat_le zone most) (cond (nat_le (wi + wp) most) (with_parts wi wp (m (unaccounted zone wi wp) wi wp)) (Err (refusal LoadsTooHigh Sharing 0))) (Err (refusal OutOfRange Sheet 0))
