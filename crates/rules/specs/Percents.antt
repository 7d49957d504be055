-- What making a percentage answers.
use Rattle.std.specs.Prelude.{ℕ, cond, Ok, Err, Result, nat_le}
use Rattle.refusals.specs.declared.Refusal.{Refusal}
use Rattle.refusals.specs.declared.Cause.TheVariants.{OutOfRange}
use Rattle.refusals.specs.declared.Layer.TheVariants.{Sheet}
use Rattle.refusals.specs.Numbers.{refusal}
use Rattle.rules.specs.declared.percent.Percent.{Percent}

-- 0 to 100, and no other
abbrev pub percentage : ℕ → Result ℕ Refusal
percentage p = cond (nat_le p 100) (Ok p) (Err (refusal OutOfRange Sheet 0))

-- the number in a percentage that was made
abbrev pub made_of : Result Percent Refusal → Result ℕ Refusal
made_of (Ok p) = Ok p.value
made_of (Err e) = Err e
