-- A figure that is known to be in its range.
use Rattle.std.specs.Prelude.{ℕ, cond, Some, None, Option, Ok, Err, Result, ◌==◌}
use Rattle.refusals.specs.declared.Cause.{Cause}
use Rattle.refusals.specs.declared.Cause.TheVariants.{OutOfRange}
use Rattle.rules.specs.declared.ranges.Within.{Within}
use Rattle.rules.specs.Ranges.{between, missing, is_usage}

-- n, if it is within the bounds
abbrev pub in_bounds : ℕ → ℕ → ℕ → Result ℕ Cause
in_bounds low high n = cond (between low high n) (Ok n) (Err OutOfRange)

-- the number in a figure
abbrev pub number_in : {low high : ℕ} → Result (Within low high) Cause → Result ℕ Cause
number_in (Ok w) = Ok w.value
number_in (Err e) = Err e

-- what a reading in range is, none if it is missing
abbrev pub read : ℕ → Result (Option ℕ) Cause
read n = cond (n == missing) (Ok None) (cond (is_usage n) (Ok (Some n)) (Err OutOfRange))

abbrev pub reading_in : {low high : ℕ} → Result (Option (Within low high)) Cause → Result (Option ℕ) Cause
reading_in (Ok None) = Ok None
reading_in (Ok (Some w)) = Ok (Some w.value)
reading_in (Err e) = Err e
