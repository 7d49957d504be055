-- A line of a peak sheet: what it meets by itself, and its weight.
use Rattle.std.specs.Prelude.{ℕ, ◌/◌, Bool, true, cond, not, ◌&&◌, List, length, Some, None, sum_by, filter, Option, ◌==◌}
use Rattle.std.specs.List.{list_all}
use Rattle.refusals.specs.declared.Cause.{Cause}
use Rattle.refusals.specs.declared.Cause.TheVariants.{OutOfRange}
use Rattle.rules.specs.declared.units.Power.{Power}
use Rattle.rules.specs.declared.peaks.PeakLine.{PeakLine}
use Rattle.rules.specs.Ranges.{missing, is_account, is_loss_factor, is_reading, is_profile_load, is_usage, is_profile_usage, is_coincidence, usage_fits, verdict}
use Rattle.rules.specs.Loads.{interval_load, profiled_load, demand_load}

abbrev pub power : ℕ → Power
power n = record { 0 = n }

-- what a kind makes of the figures, with its further numbers
pub data Basis : Type 0 where
  Readings : Basis
  Profile : ℕ → ℕ → Basis
  Demand : ℕ → Basis

-- What the kind and the two further numbers say of the figures: readings, with 0 and 0; profile loads, with billed usage
-- and profile usage; coincidence factors, with highest demand and 0. There is no other.
abbrev pub basis_by : ℕ → ℕ → ℕ → Option Basis
basis_by kind n m =
    cond (kind == 1 && (n == 0 && m == 0)) (Some Readings)
    (cond (kind == 2) (Some (Profile n m)) (cond (kind == 3 && m == 0) (Some (Demand n)) None))

abbrev pub basis_of : PeakLine → Option Basis
basis_of l = basis_by l.kind l.usage l.profile_usage

abbrev pub further_fits : Basis → Bool
further_fits Readings = true
further_fits (Profile billed usage) = is_usage billed && is_profile_usage usage
further_fits (Demand demand) = is_usage demand

abbrev pub figure_fits : Basis → ℕ → Bool
figure_fits Readings figure = is_reading figure
figure_fits (Profile billed usage) figure = is_profile_load figure
figure_fits (Demand demand) figure = is_coincidence figure

abbrev pub all_fit : Basis → List ℕ → Bool
all_fit b figures = list_all (figure_fits b) figures

abbrev pub in_range_on : PeakLine → Basis → Bool
in_range_on l b = is_account l.account && (is_loss_factor l.loss_factor && (further_fits b && all_fit b l.figures))

abbrev pub usage_fits_on : Basis → Bool
usage_fits_on Readings = true
usage_fits_on (Profile billed usage) = usage_fits billed usage
usage_fits_on (Demand demand) = true

abbrev pub cause_on : PeakLine → Option Basis → Option Cause
cause_on l None = Some OutOfRange
cause_on l (Some b) = verdict (in_range_on l b) (usage_fits_on b)

-- the cause that a line meets by itself
abbrev pub peak_cause_of : PeakLine → Option Cause
peak_cause_of l = cause_on l (basis_of l)

abbrev pub figure_load : ℕ → Basis → ℕ → ℕ
figure_load loss Readings figure = interval_load loss figure
figure_load loss (Profile billed usage) figure = profiled_load loss figure billed usage
figure_load loss (Demand demand) figure = demand_load loss demand figure

-- only a reading can be missing
abbrev pub is_present : Basis → ℕ → Bool
is_present Readings figure = not (figure == missing)
is_present (Profile billed usage) figure = true
is_present (Demand demand) figure = true

abbrev pub present : Basis → List ℕ → List ℕ
present b figures = filter (is_present b) figures

-- the sum of the present loads divided by their number, rounded down; 0 with none present
abbrev pub average_load : ℕ → Basis → List ℕ → ℕ
average_load loss b figures = sum_by (figure_load loss b) (present b figures) / length (present b figures)

abbrev pub weight_on : PeakLine → Option Basis → ℕ
weight_on l None = 0
weight_on l (Some b) = cond (in_range_on l b && usage_fits_on b) (average_load l.loss_factor b l.figures) 0

-- The weight of a line. One that meets a cause by itself has none.
abbrev pub weight_of : PeakLine → ℕ
weight_of l = weight_on l (basis_of l)

-- peak lines are one group
abbrev pub no_weight : PeakLine → ℕ
no_weight l = 0
