-- The worked figures, as one statement about the rules.
use Rattle.std.specs.Prelude.{◌≡◌, ℕ, List, [], ◌∷◌, map, ℤ, pos, negsuc, Ok, Err, sum, Result}
use Rattle.refusals.specs.declared.Refusal.{Refusal}
use Rattle.refusals.specs.declared.Cause.TheVariants.{UnloadedGroup, NegativeTotal}
use Rattle.refusals.specs.declared.Layer.TheVariants.{Sharing}
use Rattle.refusals.specs.Numbers.{refusal}
use Rattle.rules.specs.declared.lines.Line.{Line}
use Rattle.rules.specs.declared.lines.Line.TheVariants.{Interval, Profiled}
use Rattle.rules.specs.declared.peaks.PeakLine.{PeakLine}
use Rattle.rules.specs.Lines.{load_of, interval_weight, profiled_weight}
use Rattle.rules.specs.Peaks.{weight_of}
use Rattle.rules.specs.Shares.{shares, finals}
use Rattle.rules.specs.Parts.{unaccounted, percent_parts, pro_rata_parts}
use Rattle.rules.specs.Totals.{group_totals}

-- two interval lines and four profiled ones, of accounts 1 to 6
abbrev pub worked_sheet : List Line
worked_sheet =
    Interval 1 10930 3915
    ∷ Interval 2 10850 69255
    ∷ Profiled 3 10930 153 21600 100000
    ∷ Profiled 4 10930 1587 183500 100000
    ∷ Profiled 5 10930 185 68500 100000
    ∷ Profiled 6 10930 185 85600 100000
    ∷ []

-- a line of readings and one of coincidence factors
abbrev pub worked_peaks : List PeakLine
worked_peaks =
    record { account = 1; loss_factor = 10200; kind = 1; figures = 12400 ∷ 13100 ∷ 9000 ∷ 12500 ∷ 12600 ∷ []; usage = 0; profile_usage = 0 }
    ∷ record { account = 2; loss_factor = 10000; kind = 3; figures = 9000 ∷ 8000 ∷ 8500 ∷ 9500 ∷ 10000 ∷ []; usage = 5000; profile_usage = 0 }
    ∷ []

abbrev interval : List ℕ
interval = map interval_weight worked_sheet

abbrev profiled : List ℕ
profiled = map profiled_weight worked_sheet

-- the totals of the two groups of these lines
abbrev totals : (ℤ → ℕ → ℕ → ℤ × ℤ) → ℕ → Result (ℕ × ℕ) Refusal
totals m zone = group_totals m zone (sum interval) (sum profiled)

pub record Figures : Type 0 where
  pub loads : map load_of worked_sheet ≡ 4279 ∷ 75141 ∷ 36 ∷ 3182 ∷ 138 ∷ 173 ∷ []
  pub unaccounted_for : unaccounted 83000 (sum interval) (sum profiled) ≡ pos 51
  pub by_percent : percent_parts 5 (pos 51) (sum interval) (sum profiled) ≡ (pos 2, pos 49)
  pub by_load : pro_rata_parts (pos 51) (sum interval) (sum profiled) ≡ (pos 48, pos 3)
  pub toward_zero : percent_parts 5 (negsuc 48) (sum interval) (sum profiled) ≡ (negsuc 1, negsuc 46)
  pub totals_by_percent : totals (percent_parts 5) 83000 ≡ Ok (79422, 3578)
  pub totals_by_load : totals pro_rata_parts 83000 ≡ Ok (79468, 3532)
  pub finals_by_percent : finals 79422 3578 interval profiled ≡ 4279 ∷ 75143 ∷ 36 ∷ 3226 ∷ 140 ∷ 176 ∷ []
  pub finals_by_load : finals 79468 3532 interval profiled ≡ 4281 ∷ 75187 ∷ 36 ∷ 3184 ∷ 138 ∷ 174 ∷ []
  pub nothing_profiled : totals (percent_parts 0) 79420 ≡ Ok (79420, 0)
  pub below_nothing : totals (percent_parts 0) 79419 ≡ Err (refusal NegativeTotal Sharing 0)
  pub no_line : group_totals (percent_parts 5) 0 0 0 ≡ Ok (0, 0)
  pub no_line_to_bear_it : group_totals (percent_parts 5) 1 0 0 ≡ Err (refusal UnloadedGroup Sharing 0)
  pub peak_weights : map weight_of worked_peaks ≡ 12158 ∷ 4500 ∷ []
  pub contributions : shares 17000 (map weight_of worked_peaks) ≡ 12407 ∷ 4593 ∷ []
