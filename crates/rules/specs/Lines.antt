-- A line of a settle sheet: what it meets by itself, and its load.
use Rattle.std.specs.Prelude.{ℕ, Bool, true, cond, ◌&&◌, Option}
use Rattle.refusals.specs.declared.Cause.{Cause}
use Rattle.rules.specs.declared.units.Energy.{Energy}
use Rattle.rules.specs.declared.lines.Line.{Line}
use Rattle.rules.specs.declared.lines.Line.TheVariants.{Interval, Profiled}
use Rattle.rules.specs.Ranges.{is_account, is_loss_factor, is_reading, is_profile_load, is_usage, is_profile_usage, usage_fits, verdict}
use Rattle.rules.specs.Loads.{interval_load, profiled_load}

abbrev pub energy : ℕ → Energy
energy n = record { 0 = n }

abbrev pub account_of : Line → ℕ
account_of (Interval account loss reading) = account
account_of (Profiled account loss profile billed usage) = account

abbrev pub in_range : Line → Bool
in_range (Interval account loss reading) = is_account account && (is_loss_factor loss && is_reading reading)
in_range (Profiled account loss profile billed usage) =
    is_account account && (is_loss_factor loss && (is_profile_load profile && (is_usage billed && is_profile_usage usage)))

abbrev pub usage_in_range : Line → Bool
usage_in_range (Interval account loss reading) = true
usage_in_range (Profiled account loss profile billed usage) = usage_fits billed usage

-- the cause that a line meets by itself
abbrev pub cause_of : Line → Option Cause
cause_of l = verdict (in_range l) (usage_in_range l)

abbrev pub figured_load : Line → ℕ
figured_load (Interval account loss reading) = interval_load loss reading
figured_load (Profiled account loss profile billed usage) = profiled_load loss profile billed usage

-- The load of a line. One that meets a cause by itself has none.
abbrev pub load_of : Line → ℕ
load_of l = cond (in_range l && usage_in_range l) (figured_load l) 0

-- what a line weighs among the interval lines, and what among the profiled ones
abbrev pub interval_weight : Line → ℕ
interval_weight (Interval account loss reading) = load_of (Interval account loss reading)
interval_weight (Profiled account loss profile billed usage) = 0

abbrev pub profiled_weight : Line → ℕ
profiled_weight (Interval account loss reading) = 0
profiled_weight (Profiled account loss profile billed usage) = load_of (Profiled account loss profile billed usage)
