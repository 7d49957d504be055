-- The fifteen bytes of a row: mark, day, hour, stage, supplier, amount, high byte first.
use Rattle.std.specs.Prelude.{◌≡◌, ℕ, ◌+◌, ◌*◌, ◌/◌, ◌%◌, ◌<◌, cond, ◌&&◌, List, [], ◌∷◌, ◌++◌, length, drop, Some, None, Ok, Err, Option, Result, ◌==◌, nat_lt, slice_index}
use Rattle.std.specs.Int.{w64}
use Rattle.std.proofs.Common.{of_z, to_z}
use Rattle.rows.specs.declared.Row.{Row}
use Rattle.rows.specs.declared.Fault.{Fault}
use Rattle.rows.specs.declared.Fault.TheVariants.{Short, Mark, Field}
use Rattle.rows.specs.declared.Kind.{Kind}
use Rattle.rows.specs.declared.Kind.TheVariants.{Energy, Peak}
use Rattle.rows.specs.Lawful.{lawful, Lawful}

abbrev pub fault_number : Fault → ℕ
fault_number Short = 30
fault_number Mark = 31
fault_number Field = 32

-- "EH" and "PL"
abbrev pub mark_bytes : Kind → List ℕ
mark_bytes Energy = 0x45 ∷ 0x48 ∷ []
mark_bytes Peak = 0x50 ∷ 0x4C ∷ []

abbrev pub kind_of : ℕ → ℕ → Option Kind
kind_of a b = cond (a == 0x45 && b == 0x48) (Some Energy) (cond (a == 0x50 && b == 0x4C) (Some Peak) None)

abbrev pub if_kind : Option Kind → Result Kind Fault
if_kind None = Err Mark
if_kind (Some k) = Ok k

-- the kind that a mark tells
abbrev pub kind_by : List ℕ → Result Kind Fault
kind_by mark = if_kind (kind_of (slice_index mark 0) (slice_index mark 1))

-- the eight bytes of x, high byte first
abbrev pub eight_bytes : ℕ → List ℕ
eight_bytes x = (x / 72057594037927936 % 256) ∷ (x / 281474976710656 % 256) ∷ (x / 1099511627776 % 256) ∷ (x / 4294967296 % 256) ∷ (x / 16777216 % 256) ∷ (x / 65536 % 256) ∷ (x / 256 % 256) ∷ (x % 256) ∷ []

-- the number that eight bytes write, high byte first
abbrev pub eight : ℕ → ℕ → ℕ → ℕ → ℕ → ℕ → ℕ → ℕ → ℕ
eight a b c d e f g h = a * 72057594037927936 + b * 281474976710656 + c * 1099511627776 + d * 4294967296 + e * 16777216 + f * 65536 + g * 256 + h

unfoldable pub bytes_of : Row → List ℕ
bytes_of r = mark_bytes r.kind ++ ((r.day / 256 % 256) ∷ (r.day % 256) ∷ r.hour ∷ r.stage ∷ r.supplier ∷ eight_bytes (of_z w64 r.amount))

-- the fields that stand after the mark
abbrev pub fields_of : Kind → List ℕ → Row
fields_of k b = record { kind = k; day = slice_index b 2 * 256 + slice_index b 3; hour = slice_index b 4; stage = slice_index b 5; supplier = slice_index b 6; amount = to_z w64 (eight (slice_index b 7) (slice_index b 8) (slice_index b 9) (slice_index b 10) (slice_index b 11) (slice_index b 12) (slice_index b 13) (slice_index b 14)) }

abbrev pub if_lawful : Row → Result Row Fault
if_lawful r = cond (lawful r) (Ok r) (Err Field)

abbrev pub marked : Option Kind → List ℕ → Result Row Fault
marked None b = Err Mark
marked (Some k) b = if_lawful (fields_of k b)

-- the row that begins the bytes, or the first of length, mark and fields that is wrong
unfoldable pub reading : List ℕ → Result Row Fault
reading b = cond (nat_lt (length b) 15) (Err Short) (marked (kind_of (slice_index b 0) (slice_index b 1)) b)

-- reading what was written gives the row, whatever follows it
abbrev pub ReadsBack : Type 0
ReadsBack = (r : Row) (rest : List ℕ) → Lawful r → reading (bytes_of r ++ rest) ≡ Ok r

-- writing what was read gives the same bytes
abbrev pub WritesBack : Type 0
WritesBack = (bs : List ℕ) (r : Row) → ((i : ℕ) → slice_index bs i < 256) → reading bs ≡ Ok r → bytes_of r ++ drop 15 bs ≡ bs
