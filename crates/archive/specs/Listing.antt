-- The listing of an hour: its text, by digits, and what the call answers and writes.
use Rattle.std.specs.Prelude.{ℕ, zero, suc, ◌+◌, Bool, cond, ◌&&◌, List, [], ◌∷◌, ◌++◌, length, drop, ℤ, pos, negsuc, Ok, Err, codes, decimal, Result, ◌==◌, nat_le}
use Rattle.std.specs.Fmt.{signed_decimal}
use Rattle.refusals.specs.declared.Refusal.{Refusal}
use Rattle.refusals.specs.declared.Cause.TheVariants.{OutOfRange, TextTooLong}
use Rattle.rows.specs.declared.Row.{Row}
use Rattle.rows.specs.declared.Kind.{Kind}
use Rattle.rows.specs.declared.Kind.TheVariants.{Energy, Peak}
use Rattle.rows.specs.Lawful.{between}
use Rattle.archive.specs.Contents.{refusing, kept}
use Rattle.archive.specs.Sums.{sums_of, hour_sum}

-- "supplier sum" and the end of the line, or nothing where the sum is 0
abbrev pub supplier_line : ℕ → ℤ → List ℕ
supplier_line s (pos zero) = []
supplier_line s (pos (suc n)) = decimal s ++ (32 ∷ (signed_decimal (pos (suc n)) ++ 10 ∷ []))
supplier_line s (negsuc n) = decimal s ++ (32 ∷ (signed_decimal (negsuc n) ++ 10 ∷ []))

-- "zone sum" and the end of the line
abbrev pub zone_line : ℤ → List ℕ
zone_line z = codes "zone " ++ (signed_decimal z ++ 10 ∷ [])

-- the lines of suppliers s, s + 1 and so on
abbrev pub supplier_lines : ℕ → List ℤ → List ℕ
supplier_lines s [] = []
supplier_lines s (z ∷ zs) = supplier_line s z ++ supplier_lines (s + 1) zs

abbrev pub text_of : List ℤ → ℤ → List ℕ
text_of sums zone = supplier_lines 1 sums ++ zone_line zone

-- an hour has energy rows, hour 0 stands for the peak rows of the day
abbrev pub listed_kind : ℕ → Kind
listed_kind hour = cond (hour == 0) Peak Energy

-- the text of a day and hour
unfoldable pub hour_text : ℕ → ℕ → List Row → List ℕ
hour_text day hour rs = text_of (sums_of (listed_kind hour) day hour rs) (hour_sum (listed_kind hour) day hour rs)

-- a day, and an hour or 0
abbrev pub listable : ℕ → ℕ → Bool
listable day hour = between 1 60000 day && nat_le hour 25

-- the length of a text, if it fits memory of so many bytes
abbrev pub fitting : List ℕ → ℕ → Result ℕ Refusal
fitting text size = cond (nat_le (length text) size) (Ok (length text)) (Err (refusing TextTooLong 0))

-- memory in whose first places a text is written
abbrev pub overwritten : List ℕ → List ℕ → List ℕ
overwritten text out = text ++ drop (length text) out

-- what the listing answers, for memory of so many bytes
unfoldable pub listing : ℕ → ℕ → List Row → ℕ → Result ℕ Refusal
listing day hour rs size = cond (listable day hour) (fitting (hour_text day hour rs) size) (Err (refusing OutOfRange 0))

-- the memory once the listing has answered
abbrev pub listed : ℕ → ℕ → List Row → List ℕ → List ℕ
listed day hour rs out = kept (listing day hour rs (length out)) (overwritten (hour_text day hour rs) out) out
