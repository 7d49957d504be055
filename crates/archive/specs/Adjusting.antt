-- Bringing the sums of an hour to the amounts wanted: for each supplier a row of what is lacking.
use Rattle.std.specs.Prelude.{◌≡◌, ℕ, zero, suc, ◌-◌, ◌<◌, ◌≤◌, Bool, true, false, cond, ◌&&◌, List, [], ◌∷◌, ◌++◌, length, ℤ, pos, negsuc, ◌-ℤ◌, Ok, Err, Result, ◌==◌, ◌≢◌, nat_le, nat_lt, slice_index, slice_index_or}
use Rattle.refusals.specs.declared.Refusal.{Refusal}
use Rattle.refusals.specs.declared.Cause.TheVariants.{AmountTooLarge, ArchiveFull, UnlawfulRow}
use Rattle.rows.specs.declared.Row.{Row}
use Rattle.rows.specs.declared.Kind.{Kind}
use Rattle.rows.specs.Lawful.{between, timely}
use Rattle.archive.specs.declared.adjusting.Slot.{Slot}
use Rattle.archive.specs.Contents.{Contents, contents, refusing, kept}
use Rattle.archive.specs.Sums.{sum_of}

-- a day, and the hour and stage that fit the kind
abbrev pub lawful_slot : Slot → Bool
lawful_slot slot = between 1 60000 slot.day && timely slot.kind slot.hour slot.stage

abbrev pub is_zero : ℤ → Bool
is_zero (pos n) = n == 0
is_zero (negsuc n) = false

-- at most 3,000,000,000 either way
abbrev pub in_range : ℤ → Bool
in_range (pos n) = nat_le n 3000000000
in_range (negsuc n) = nat_lt n 3000000000

abbrev pub row_in : Slot → ℕ → ℤ → Row
row_in slot s z = record { kind = slot.kind; day = slot.day; hour = slot.hour; stage = slot.stage; supplier = s; amount = z }

-- the row of a supplier, or none if the amount is 0
abbrev pub row_for : Slot → ℕ → ℤ → List Row
row_for slot s z = cond (is_zero z) [] (row_in slot s z ∷ [])

-- the rows of suppliers 1 to n, in rising number
unfoldable pub rows_for : Slot → (ℕ → ℤ) → ℕ → List Row
rows_for slot due zero = []
rows_for slot due (suc n) = rows_for slot due n ++ row_for slot (suc n) (due (suc n))

-- the amounts of suppliers 1 to n can stand in rows
unfoldable pub all_in_range : (ℕ → ℤ) → ℕ → Bool
all_in_range due zero = true
all_in_range due (suc n) = all_in_range due n && in_range (due (suc n))

-- what supplier s is to have, of a list that begins with supplier 1
abbrev pub wanted_by : List ℕ → ℕ → ℕ
wanted_by wanted s = slice_index wanted (s - 1)

-- what is wanted less what the supplier's rows of that kind, day and hour add up to
abbrev pub due_to : Slot → List ℕ → List Row → ℕ → ℤ
due_to slot wanted rs s = pos (wanted_by wanted s) -ℤ sum_of slot.kind slot.day slot.hour s rs

-- the same, of a list of sums that begins with supplier 1
abbrev pub lacks : List ℕ → List ℤ → ℕ → ℤ
lacks wanted sums s = pos (wanted_by wanted s) -ℤ slice_index_or sums (s - 1) (pos 0)

-- the rows that bring the sums to what is wanted
abbrev pub lacking : Slot → List ℕ → List Row → List Row
lacking slot wanted rs = rows_for slot (due_to slot wanted rs) 32

-- rows of all that is lacking, if rows can hold it and there are places for them
abbrev pub booking : Contents → Slot → List ℕ → Result ℕ Refusal
booking c slot wanted =
    cond (all_in_range (due_to slot wanted c.rows) 32) (cond (nat_le (length (lacking slot wanted c.rows)) c.free) (Ok (length (lacking slot wanted c.rows))) (Err (refusing ArchiveFull 0))) (Err (refusing AmountTooLarge 0))

-- what adjusting answers
unfoldable pub adjusting : Contents → Slot → List ℕ → Result ℕ Refusal
adjusting c slot wanted = cond (lawful_slot slot) (booking c slot wanted) (Err (refusing UnlawfulRow 0))

-- the archive with these rows put last
abbrev pub with_rows : Contents → List Row → Contents
with_rows c new = contents (c.rows ++ new) (c.free - length new)

-- the archive once adjusting has answered
abbrev pub adjusted : Contents → Slot → List ℕ → Contents
adjusted c slot wanted = kept (adjusting c slot wanted) (with_rows c (lacking slot wanted c.rows)) c

-- Once the rows are there, each supplier's rows of that kind, day and hour add up to what was wanted, and all other sums are as before.
pub record Brought (slot : Slot) (wanted : List ℕ) (before after : List Row) : Type 0 where
  pub reached : (s : ℕ) → 1 ≤ s → s ≤ 32 → sum_of slot.kind slot.day slot.hour s after ≡ pos (wanted_by wanted s)
  pub elsewhere : (k : Kind) (d h s : ℕ) → (k ≡ slot.kind → d ≡ slot.day → h ≢ slot.hour) → sum_of k d h s after ≡ sum_of k d h s before
  pub others : (s : ℕ) → 32 < s → sum_of slot.kind slot.day slot.hour s after ≡ sum_of slot.kind slot.day slot.hour s before

abbrev pub AdjustingLaw : Type 0
AdjustingLaw = (slot : Slot) (wanted : List ℕ) (rs : List Row) → Brought slot wanted rs (rs ++ lacking slot wanted rs)
