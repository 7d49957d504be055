-- Rows of fifteen bytes in memory, and rows in a table.
use Rattle.std.specs.Prelude.{ℕ, zero, suc, ◌+◌, ◌*◌, ◌/◌, min, Bool, true, ◌&&◌, List, [], ◌∷◌, ◌++◌, take, drop, Ok, Err, Result}
use Rattle.rows.specs.declared.Row.{Row}
use Rattle.rows.specs.declared.Fault.{Fault}
use Rattle.rows.specs.Lawful.{lawful}
use Rattle.rows.specs.Format.{reading, bytes_of}

-- the row that was read, before those that follow
abbrev pub then_rows : Result Row Fault → List Row → List Row
then_rows (Ok r) rs = r ∷ rs
then_rows (Err e) rs = []

-- up to n rows that stand at the start of the bytes, as far as they can be read
abbrev pub rows_in : ℕ → List ℕ → List Row
rows_in zero bs = []
rows_in (suc n) bs = then_rows (reading (take 15 bs)) (rows_in n (drop 15 bs))

-- how many rows a memory of so many bytes holds
abbrev pub places : ℕ → ℕ
places size = min 65536 (size / 15)

-- the memory once a row is put at a position
abbrev pub put : List ℕ → ℕ → Row → List ℕ
put memory position row = take (position * 15) memory ++ (bytes_of row ++ drop (position * 15 + 15) memory)

-- a test, so that it has one proof at most and can stand in a struct's invariant
abbrev pub all_lawful : List Row → Bool
all_lawful [] = true
all_lawful (r ∷ rs) = lawful r && all_lawful rs
