-- What the program prints of a call and of an answer.
use Rattle.std.specs.Prelude.{ℕ, List, [], ◌∷◌, ◌++◌, Some, None, vec_items, codes, decimal, Option}
use Rattle.std.specs.List.{flat_map}
use Rattle.refusals.specs.declared.Refusal.{Refusal}
use Rattle.refusals.specs.Numbers.{number_of, layer_number}
use Rattle.nookplover.specs.declared.call.Call.{Call}
use Rattle.nookplover.specs.declared.call.Call.TheVariants.{Enrol, Switch, Drop, Open, Turn, Close, TakeIn, List as Listing, Dump}
use Rattle.nookplover.specs.declared.answer.Answer.{Answer}
use Rattle.nookplover.specs.declared.answer.Answer.TheVariants.{Accepted, Waiting, Taken, Listed, Held}
use Rattle.nookplover.specs.declared.answer.Denial.{Denial}
use Rattle.nookplover.specs.declared.answer.Denial.TheVariants.{NoSlip, Refused}
use Rattle.nookplover.specs.declared.slips.Open.{Open as OpenSlip}
use Rattle.nookplover.specs.declared.slips.Open.TheVariants.{Estimate, Reconciliation}
use Rattle.nookplover.specs.Numerals.{hex_of}

-- a space and a number
abbrev pub spaced : ℕ → List ℕ
spaced n = 32 ∷ decimal n

-- words, and numbers after them
abbrev pub worded : List ℕ → List ℕ → List ℕ
worded words figures = words ++ flat_map spaced figures

-- a space and the digits of the bytes, or nothing where there are none
abbrev pub spaced_hex : List ℕ → List ℕ
spaced_hex [] = []
spaced_hex (b ∷ bs) = 32 ∷ hex_of (b ∷ bs)

abbrev pub take_in_words : List ℕ → List ℕ
take_in_words bytes = codes "takein" ++ spaced_hex bytes

abbrev pub list_words : ℕ → ℕ → Option ℕ → List ℕ
list_words day hour None = worded (codes "list") (day ∷ hour ∷ [])
list_words day hour (Some bytes) = worded (codes "list") (day ∷ hour ∷ bytes ∷ [])

abbrev pub call_words : Call → List ℕ
call_words (Enrol e) = worded (codes "enrol") (e.account ∷ e.from_day ∷ e.supplier ∷ [])
call_words (Switch e) = worded (codes "switch") (e.account ∷ e.from_day ∷ e.supplier ∷ [])
call_words (Drop account from) = worded (codes "drop") (account ∷ from ∷ [])
call_words (Open day hours) = worded (codes "open") (day ∷ hours ∷ [])
call_words (Turn day) = worded (codes "turn") (day ∷ [])
call_words (Close day) = worded (codes "close") (day ∷ [])
call_words (TakeIn bytes) = take_in_words (vec_items bytes)
call_words (Listing day hour bytes) = list_words day hour bytes
call_words Dump = worded (codes "dump") []

abbrev pub refused_line : Refusal → List ℕ
refused_line r = worded (codes "refused") (number_of r.cause ∷ layer_number r.layer ∷ r.place ∷ []) ++ 10 ∷ []

abbrev pub number_line : ℕ → List ℕ
number_line n = decimal n ++ 10 ∷ []

abbrev pub rows_line : ℕ → List ℕ
rows_line n = decimal n ++ (codes " rows" ++ 10 ∷ [])

abbrev pub end_line : ℕ → ℕ → ℕ → List ℕ
end_line rows free entries = codes "end: " ++ ((decimal rows ++ codes " rows, ") ++ ((decimal free ++ codes " free, ") ++ (decimal entries ++ (codes " entries" ++ 10 ∷ []))))

-- the line of an answer
abbrev pub answer_line : Answer → List ℕ
answer_line Accepted = codes "ok" ++ 10 ∷ []
answer_line (Waiting hours) = number_line hours
answer_line (Taken rows) = rows_line rows
answer_line (Listed length) = number_line length
answer_line (Held rows) = rows_line rows

abbrev pub denial_line : Denial → List ℕ
denial_line NoSlip = codes "no slip" ++ 10 ∷ []
denial_line (Refused refusal) = refused_line refusal

-- the line of a slip that is open at the end
abbrev pub open_line : OpenSlip → List ℕ
open_line (Estimate slip) = worded (codes "open at end") (slip.day ∷ 1 ∷ []) ++ 10 ∷ []
open_line (Reconciliation slip) = worded (codes "open at end") (slip.day ∷ 2 ∷ []) ++ 10 ∷ []
