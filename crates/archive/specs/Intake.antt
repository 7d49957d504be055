-- Take-in: all rows of the bytes, or none.
use Rattle.std.specs.Prelude.{◌≡◌, ℕ, zero, suc, ◌+◌, ◌-◌, ◌/◌, ◌%◌, ◌<◌, cond, List, [], ◌∷◌, ◌++◌, length, take, drop, Ok, Err, Result, ◌==◌, nat_le, slice_index}
use Rattle.std.specs.List.{flat_map}
use Rattle.refusals.specs.declared.Refusal.{Refusal}
use Rattle.refusals.specs.declared.Cause.{Cause}
use Rattle.refusals.specs.declared.Cause.TheVariants.{ArchiveFull, PartialRow, UnknownMark, UnlawfulRow}
use Rattle.rows.specs.declared.Row.{Row}
use Rattle.rows.specs.declared.Fault.{Fault}
use Rattle.rows.specs.declared.Fault.TheVariants.{Short, Mark, Field}
use Rattle.rows.specs.Format.{reading, bytes_of}
use Rattle.archive.specs.Contents.{Contents, contents, refusing, kept}
use Rattle.archive.specs.Packed.{rows_in}

abbrev pub cause_of : Fault → Cause
cause_of Short = PartialRow
cause_of Mark = UnknownMark
cause_of Field = UnlawfulRow

-- the refusal of a row that begins at that offset
abbrev pub faulty : Fault → ℕ → Refusal
faulty fault offset = refusing (cause_of fault) offset

abbrev pub then_read : Result Row Fault → ℕ → Result (Unit {0}) Refusal → Result (Unit {0}) Refusal
then_read (Ok r) offset rest = rest
then_read (Err f) offset rest = Err (faulty f offset)

-- each of n rows can be read, or the refusal of the first that cannot; the first begins at that offset
abbrev pub all_read : ℕ → ℕ → List ℕ → Result (Unit {0}) Refusal
all_read zero offset bs = Ok tt
all_read (suc n) offset bs = then_read (reading (take 15 bs)) offset (all_read n (offset + 15) (drop 15 bs))

-- so many rows, if there are places for them
abbrev pub if_room : ℕ → ℕ → Result ℕ Refusal
if_room n free = cond (nat_le n free) (Ok n) (Err (refusing ArchiveFull 0))

abbrev pub then_room : Result (Unit {0}) Refusal → ℕ → ℕ → Result ℕ Refusal
then_room (Ok u) n free = if_room n free
then_room (Err e) n free = Err e

-- what take-in answers
unfoldable pub taking_in : Contents → List ℕ → Result ℕ Refusal
taking_in c bs = cond (length bs % 15 == 0) (then_room (all_read (length bs / 15) 0 bs) (length bs / 15) c.free) (Err (refusing PartialRow 0))

-- the archive once take-in has answered
abbrev pub taken_in : Contents → List ℕ → Contents
taken_in c bs = kept (taking_in c bs) (contents (c.rows ++ rows_in (length bs / 15) bs) (c.free - length bs / 15)) c

-- the user's memory once rows are put one after another from a position on
abbrev pub entered : (List ℕ → ℕ → Row → List ℕ) → List ℕ → ℕ → List Row → List ℕ
entered stamped memory position [] = memory
entered stamped memory position (r ∷ rs) = entered stamped (stamped memory position r) (position + 1) rs

-- bytes that take-in accepts are the bytes of the rows that it takes from them
abbrev pub TakenAgain : Type 0
TakenAgain = (c : Contents) (bs : List ℕ) (n : ℕ) → ((i : ℕ) → slice_index bs i < 256) → taking_in c bs ≡ Ok n → flat_map bytes_of (rows_in n bs) ≡ bs
