-- Settling an hour: the loads of a sheet, what is unaccounted for, final loads, and each supplier's obligation.
use Rattle.std.specs.Prelude.{ℕ, Bool, cond, ◌&&◌, List, ◌++◌, map, length, drop, ℤ, Ok, Err, sum, Result, nat_le}
use Rattle.refusals.specs.declared.Refusal.{Refusal}
use Rattle.refusals.specs.declared.Cause.TheVariants.{OutOfRange, ListTooShort}
use Rattle.refusals.specs.declared.Layer.TheVariants.{Sheet}
use Rattle.refusals.specs.Numbers.{refusal}
use Rattle.rows.specs.declared.Row.{Row}
use Rattle.rows.specs.declared.Kind.TheVariants.{Energy}
use Rattle.archive.specs.declared.adjusting.Slot.{Slot}
use Rattle.archive.specs.Contents.{Contents, kept}
use Rattle.archive.specs.Adjusting.{lacking, booking, with_rows}
use Rattle.rules.specs.declared.units.Energy.{Energy as EnergyT}
use Rattle.rules.specs.declared.lines.Line.{Line}
use Rattle.rules.specs.Ranges.{most}
use Rattle.rules.specs.Lines.{account_of, cause_of, interval_weight, profiled_weight, energy}
use Rattle.rules.specs.Shares.{finals}
use Rattle.rules.specs.Totals.{group_totals}
use Rattle.rules.specs.Obligations.{obligations}
use Rattle.book.specs.declared.roster.Entry.{Entry}
use Rattle.book.specs.Ranges.{between}
use Rattle.book.specs.Slips.{DaySlip, marked}
use Rattle.book.specs.Sheets.{suppliers_on}
use Rattle.book.specs.Checks.{SheetLine, sheet_line, checked_lines}
use Rattle.book.specs.declared.settling.Owed.{Owed}

-- what a settling is given: how the arrangement parts unaccounted energy, the slip, the hour, the zone load, the sheet, and the roster's entries
pub record Hour : Type 0 where
  pub parts : ℤ → ℕ → ℕ → ℤ × ℤ
  pub slip : DaySlip
  pub hour : ℕ
  pub zone : ℕ
  pub sheet : List Line
  pub entries : List Entry

abbrev pub hour_of : (ℤ → ℕ → ℕ → ℤ × ℤ) → DaySlip → ℕ → ℕ → List Line → List Entry → Hour
hour_of parts slip hour zone sheet entries = record { parts = parts; slip = slip; hour = hour; zone = zone; sheet = sheet; entries = entries }

-- the hour is one of the slip's day, the zone load is in range, and the sheet is not too long
abbrev pub in_order : ℕ → ℕ → ℕ → ℕ → Bool
in_order hours hour zone lines = between 1 hour hours && (nat_le zone most && nat_le lines 65536)

abbrev pub line_in : Line → SheetLine
line_in l = sheet_line (account_of l) (cause_of l)

-- the supplier of each line on that day
abbrev pub served_in : Hour → List ℕ
served_in h = suppliers_on h.slip.day h.entries (map account_of h.sheet)

abbrev pub interval_loads : Hour → List ℕ
interval_loads h = map interval_weight h.sheet

abbrev pub profiled_loads : Hour → List ℕ
profiled_loads h = map profiled_weight h.sheet

-- the totals of the interval and the profiled lines, or why there are none
abbrev pub totals_in : Hour → Result (ℕ × ℕ) Refusal
totals_in h = group_totals h.parts h.zone (sum (interval_loads h)) (sum (profiled_loads h))

abbrev pub or_zero : Result (ℕ × ℕ) Refusal → ℕ × ℕ
or_zero (Ok t) = t
or_zero (Err e) = (0, 0)

-- the final load of each line
abbrev pub final_loads : Hour → List ℕ
final_loads h = finals (or_zero (totals_in h)).0 (or_zero (totals_in h)).1 (interval_loads h) (profiled_loads h)

-- the obligation of each supplier
abbrev pub owed_in : Hour → List ℕ
owed_in h = obligations (served_in h) (final_loads h)

-- the kind, day, hour and stage of the hour's rows
abbrev pub slot_in : Hour → Slot
slot_in h = record { kind = Energy; day = h.slip.day; hour = h.hour; stage = h.slip.stage }

abbrev pub next : {X Y : Type 0} → Result X Refusal → Result Y Refusal → Result Y Refusal
next (Ok x) then = then
next (Err e) then = Err e

-- The checks in their order, up to the totals of the groups, with a list of so many places.
unfoldable pub admitted : Hour → ℕ → Result (ℕ × ℕ) Refusal
admitted h room =
    cond (in_order h.slip.hours h.hour h.zone (length h.sheet))
    (cond (nat_le (length h.sheet) room)
    (next (checked_lines (map line_in h.sheet) (served_in h)) (totals_in h))
    (Err (refusal ListTooShort Sheet 0))) (Err (refusal OutOfRange Sheet 0))

-- What settling answers, with a list of so many places and an archive of that content: these checks, then the number of rows.
abbrev pub settling : Hour → ℕ → Contents → Result ℕ Refusal
settling h room c = next (admitted h room) (booking c (slot_in h) (owed_in h))

-- the rows that it adds: of each supplier in rising number, its obligation less its rows of that hour
abbrev pub rows_in : Hour → Contents → List Row
rows_in h c = lacking (slot_in h) (owed_in h) c.rows

-- archive, list and slip once it has answered
abbrev pub settled_archive : Hour → ℕ → Contents → Contents
settled_archive h room c = kept (settling h room c) (with_rows c (rows_in h c)) c

abbrev pub settled_list : Hour → List EnergyT → Contents → List EnergyT
settled_list h list c = kept (settling h (length list) c) (map energy (final_loads h) ++ drop (length h.sheet) list) list

abbrev pub settled_slip : Hour → ℕ → Contents → DaySlip
settled_slip h room c = kept (settling h room c) (marked h.hour h.slip) h.slip

-- the totals of the groups and the obligations, as the code holds them
abbrev pub owed : Result (ℕ × ℕ) Refusal → List ℕ → Result Owed Refusal
owed (Ok t) obligations = Ok (record { interval = t.0; profiled = t.1; suppliers = obligations })
owed (Err e) obligations = Err e
