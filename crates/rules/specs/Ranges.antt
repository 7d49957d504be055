-- Which figures are in range. All are in units (hundredths), factors in ten-thousandths.
use Rattle.std.specs.Prelude.{ℕ, ◌*◌, Bool, cond, ◌&&◌, ◌||◌, Some, None, Option, Ok, Err, Result, ◌==◌, nat_le}
use Rattle.refusals.specs.declared.Cause.{Cause}
use Rattle.refusals.specs.declared.Cause.TheVariants.{OutOfRange, UsageTooHigh}

abbrev pub between : ℕ → ℕ → ℕ → Bool
between low high n = nat_le low n && nat_le n high

-- the reading that stands for one that is missing
abbrev pub missing : ℕ
missing = 4294967295

abbrev pub is_account : ℕ → Bool
is_account n = between 1 999999999 n

abbrev pub is_loss_factor : ℕ → Bool
is_loss_factor n = between 10000 20000 n

-- a billed usage or a highest demand
abbrev pub is_usage : ℕ → Bool
is_usage n = nat_le n 100000000

abbrev pub is_reading : ℕ → Bool
is_reading n = is_usage n || n == missing

abbrev pub is_profile_load : ℕ → Bool
is_profile_load n = nat_le n 1000000

abbrev pub is_profile_usage : ℕ → Bool
is_profile_usage n = between 1 2000000000 n

abbrev pub is_coincidence : ℕ → Bool
is_coincidence n = nat_le n 10000

-- a billed usage is at most 100 times the profile usage
abbrev pub usage_fits : ℕ → ℕ → Bool
usage_fits billed usage = nat_le billed (100 * usage)

-- whether it is, as an answer
abbrev pub ratio : ℕ → ℕ → Result (Unit {0}) Cause
ratio billed usage = cond (usage_fits billed usage) (Ok tt) (Err UsageTooHigh)

-- Neither a zone load, an allocation nor a sum of loads may be above this.
abbrev pub most : ℕ
most = 3000000000

-- What a line meets by itself: ranges first, then the billed usage.
abbrev pub verdict : Bool → Bool → Option Cause
verdict ranges usage = cond ranges (cond usage None (Some UsageTooHigh)) (Some OutOfRange)
