-- Lines and words of a journal.
use Rattle.std.specs.Prelude.{◌≡◌, ℕ, ◌+◌, ◌-◌, ◌<◌, Bool, cond, not, ◌||◌, List, [], length, take, drop, ◌==◌, slice_index, Some, None, Option}
use Rattle.std.specs.Borrow.{Bor}
use Rattle.std.specs.List.{prefix_len}

-- a space or a tab
abbrev pub blank : ℕ → Bool
blank b = b == 32 || b == 9

-- the bytes of a word
abbrev pub in_word : ℕ → Bool
in_word b = not (blank b)

-- the bytes of a line, which LF ends
abbrev pub in_line : ℕ → Bool
in_line b = not (b == 10)

-- the line from its first word on
abbrev pub from_word : List ℕ → List ℕ
from_word line = drop (prefix_len blank line) line

abbrev pub first_word : List ℕ → List ℕ
first_word line = take (prefix_len in_word (from_word line)) (from_word line)

abbrev pub after_word : List ℕ → List ℕ
after_word line = drop (prefix_len in_word (from_word line)) (from_word line)

-- a CR at the end is dropped
abbrev pub without_return : List ℕ → List ℕ
without_return line = cond (slice_index line (length line - 1) == 13) (take (length line - 1) line) line

-- the bytes before the first LF, without a CR that stands directly before it; all, where there is no LF
abbrev pub first_line : List ℕ → List ℕ
first_line text = cond (prefix_len in_line text == length text) text (without_return (take (prefix_len in_line text) text))

abbrev pub after_line : List ℕ → List ℕ
after_line text = drop (prefix_len in_line text + 1) text

-- the word that comes next, none where the line has no more, and the rest of the line
abbrev pub TakesWord : List ℕ → Option (Bor (List ℕ)) → List ℕ → Type 0
TakesWord line None rest = (first_word line ≡ []) × (rest ≡ line)
TakesWord line (Some word) rest = (word.now ≡ first_word line) × (0 < length word.now) × (rest ≡ after_word line)

-- the line that comes next, none where the text is at its end, and the rest of the text
abbrev pub TakesLine : List ℕ → Option (Bor (List ℕ)) → List ℕ → Type 0
TakesLine text None rest = (text ≡ []) × (rest ≡ [])
TakesLine text (Some line) rest = (0 < length text) × (line.now ≡ first_line text) × (rest ≡ after_line text)
