-- A basis whose numbers are known to be in range.
use Rattle.std.specs.Prelude.{ℕ, ◌&&◌, cond, Some, None, Option, Ok, Err, Result, List}
use Rattle.refusals.specs.declared.Cause.{Cause}
use Rattle.refusals.specs.declared.Cause.TheVariants.{OutOfRange, UsageTooHigh}
use Rattle.rules.specs.declared.peaks.Basis.{Basis as BasisT}
use Rattle.rules.specs.declared.peaks.Basis.TheVariants as kept
use Rattle.rules.specs.declared.peaks.PeakLine.{PeakLine}
use Rattle.rules.specs.declared.ranges.Within.{Within}
use Rattle.rules.specs.Ranges.{is_account, is_loss_factor}
use Rattle.rules.specs.Peaks.{Basis, Readings, Profile, Demand, basis_of, further_fits, usage_fits_on, figure_fits, is_present, figure_load, all_fit, average_load}

-- the basis by its numbers
abbrev pub bare : BasisT → Basis
bare kept.Readings = Readings
bare (kept.Profile billed usage) = Profile billed.value usage.value
bare (kept.Demand highest) = Demand highest.value

abbrev pub basis_in : Result BasisT Cause → Result Basis Cause
basis_in (Ok b) = Ok (bare b)
basis_in (Err e) = Err e

abbrev pub if_further_fits : Option Basis → Result Basis Cause
if_further_fits None = Err OutOfRange
if_further_fits (Some b) = cond (further_fits b) (Ok b) (Err OutOfRange)

-- whether the billed usage is too high
abbrev pub ratio_on : Basis → Result (Unit {0}) Cause
ratio_on b = cond (usage_fits_on b) (Ok tt) (Err UsageTooHigh)

-- the load of a figure that fits, none if it is missing
abbrev pub load_if_fits : ℕ → Basis → ℕ → Result (Option ℕ) Cause
load_if_fits loss b figure = cond (figure_fits b figure) (Ok (cond (is_present b figure) (Some (figure_load loss b figure)) None)) (Err OutOfRange)

abbrev pub average_if_fits : ℕ → Basis → List ℕ → Result ℕ Cause
average_if_fits loss b figures = cond (all_fit b figures) (Ok (average_load loss b figures)) (Err OutOfRange)

-- the loss factor and the basis by their numbers
abbrev pub based_in : {low high : ℕ} → Result (Within low high × BasisT) Cause → Result (ℕ × Basis) Cause
based_in (Ok p) = Ok (p.0.value, bare p.1)
based_in (Err e) = Err e

abbrev pub with_loss : ℕ → Result Basis Cause → Result (ℕ × Basis) Cause
with_loss loss (Ok b) = Ok (loss, b)
with_loss loss (Err e) = Err e

-- a line's loss factor and basis, if account, loss factor, kind and further numbers are in range
abbrev pub based : PeakLine → Result (ℕ × Basis) Cause
based l = cond (is_account l.account && is_loss_factor l.loss_factor) (with_loss l.loss_factor (if_further_fits (basis_of l))) (Err OutOfRange)
