-- The lines of a sheet in turn: the first that is refused, and why.
use Rattle.std.specs.Prelude.{ℕ, ◌+◌, Bool, false, cond, List, [], ◌∷◌, Some, None, Ok, Err, Option, Result, ◌==◌}
use Rattle.refusals.specs.declared.Refusal.{Refusal}
use Rattle.refusals.specs.declared.Cause.{Cause}
use Rattle.refusals.specs.declared.Cause.TheVariants.{OutOfRange, AccountNotAbove, NotServed}
use Rattle.refusals.specs.declared.Layer.TheVariants.{Sheet}
use Rattle.refusals.specs.Numbers.{number_of, refusal}
use Rattle.book.specs.Sheets.{is_above}

-- a line as the checks see it: its account, and the cause that it meets by itself, if any
pub record SheetLine : Type 0 where
  pub account : ℕ
  pub cause : Option Cause

abbrev pub sheet_line : ℕ → Option Cause → SheetLine
sheet_line account cause = record { account = account; cause = cause }

-- a figure out of range, which is looked at before anything else
abbrev pub is_range : Option Cause → Bool
is_range None = false
is_range (Some cause) = number_of cause == 10

-- the line's other cause, then whether it has a supplier
abbrev pub or_nobody : Option Cause → ℕ → Option Cause
or_nobody (Some cause) supplier = Some cause
or_nobody None supplier = cond (supplier == 0) (Some NotServed) None

-- what a line meets: its ranges, its account above that of the line before, its billed usage, its supplier that day
abbrev pub line_cause : Option Cause → Bool → ℕ → Option Cause
line_cause cause above supplier = cond (is_range cause) (Some OutOfRange) (cond above (or_nobody cause supplier) (Some AccountNotAbove))

abbrev pub refused_or : Option Cause → ℕ → Result (Unit {0}) Refusal → Result (Unit {0}) Refusal
refused_or (Some cause) place next = Err (refusal cause Sheet place)
refused_or None place next = next

-- each line in turn, completely; the place of a line counts from 1
abbrev pub checked_from : ℕ → Option ℕ → List SheetLine → List ℕ → Result (Unit {0}) Refusal
checked_from place before [] suppliers = Ok tt
checked_from place before (l ∷ ls) [] = Ok tt
checked_from place before (l ∷ ls) (s ∷ ss) =
    refused_or (line_cause l.cause (is_above before l.account) s) place (checked_from (place + 1) (Some l.account) ls ss)

-- the lines of a sheet, each with its supplier that day, 0 for nobody
abbrev pub checked_lines : List SheetLine → List ℕ → Result (Unit {0}) Refusal
checked_lines lines suppliers = checked_from 1 None lines suppliers
