-- The listing of row bytes, as the billing host calls it.
use Rattle.std.specs.Prelude.{ℕ, ◌/◌, List, [], ◌++◌, length, drop, ℤ, pos, neg_ℤ, Ok, Err, Result}
use Rattle.refusals.specs.declared.Refusal.{Refusal}
use Rattle.refusals.specs.Numbers.{number_of}
use Rattle.rows.specs.declared.Row.{Row}
use Rattle.archive.specs.Contents.{contents, kept}
use Rattle.archive.specs.Packed.{rows_in, places}
use Rattle.archive.specs.Intake.{taking_in}
use Rattle.archive.specs.Listing.{listing, listed}

-- a refusal's number with a minus
abbrev pub negated : Refusal → ℤ
negated e = neg_ℤ (pos (number_of e.cause))

abbrev pub answered : Result ℕ Refusal → ℤ
answered (Ok n) = pos n
answered (Err e) = negated e

abbrev pub first : Result ℕ Refusal → ℤ → ℤ
first (Ok n) next = next
first (Err e) next = negated e

-- what take-in answers on an empty archive in so many bytes of memory
abbrev pub taking : List ℕ → ℕ → Result ℕ Refusal
taking rows size = taking_in (contents [] (places size)) rows

-- the rows that it takes
abbrev pub rows_of : List ℕ → List Row
rows_of rows = rows_in (length rows / 15) rows

-- a refusal of take-in, or what the listing answers
abbrev pub host_answer : ℕ → ℕ → List ℕ → ℕ → ℕ → ℤ
host_answer day hour rows size room = first (taking rows size) (answered (listing day hour (rows_of rows) room))

-- the host's memory: begun with the row bytes, where they were taken in
abbrev pub host_memory : List ℕ → List ℕ → List ℕ
host_memory rows memory = kept (taking rows (length memory)) (rows ++ drop (length rows) memory) memory

-- the host's output: the listing, where the row bytes were taken in
abbrev pub host_output : ℕ → ℕ → List ℕ → ℕ → List ℕ → List ℕ
host_output day hour rows size output = kept (taking rows size) (listed day hour (rows_of rows) output) output
