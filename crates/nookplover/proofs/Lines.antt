-- Lines and words, found by the place of the byte that ends them.
use Rattle.std.proofs.Common.{◌≡◌, ℕ, ◌+◌, ◌-◌, ◌<◌, ◌≤◌, Bool, true, false, not, cond, List, [], ◌∷◌, length, get_or, take, drop, ◌==◌, Some, None, unwrap_or, sym, refl, ap, ◌∙◌, arith, add-one, length-drop, length-take, drop-cons}
use Rattle.std.specs.List.{prefix_len, position, position_or_len}
use Rattle.std.proofs.lemmas.List.{drop_all, take_all}
use Rattle.std.proofs.lemmas.List.Sums.{prefix_len-le-length, prefix_len_stops}
use Rattle.std.proofs.lemmas.Bool.Decides.{nat_tests}
use Rattle.nookplover.specs.Words.{blank, in_word, in_line, from_word, first_word, after_word, without_return, first_line, after_line}

-- the place at which a test first passes, and that it passes nowhere
found : (p : ℕ → Bool) (xs : List ℕ) (i : ℕ) → position p xs ≡ Some i → (i ≡ position_or_len p xs) × (i < length xs)
found p xs i e = grind (arith, nat_tests)

not_found : (p : ℕ → Bool) (xs : List ℕ) → position p xs ≡ None → position_or_len p xs ≡ length xs
not_found p xs e =
    let most : position_or_len p xs ≤ length xs = prefix_len-le-length (λ x. not (p x)) xs in
    grind (arith, nat_tests)

found_or_end : (p : ℕ → Bool) (xs : List ℕ) → unwrap_or (position p xs) (length xs) ≡ position_or_len p xs
found_or_end p xs =
    let most : position_or_len p xs ≤ length xs = prefix_len-le-length (λ x. not (p x)) xs in
    grind (arith, nat_tests)

twice_not : (b : Bool) → not (not b) ≡ b
twice_not true = refl
twice_not false = refl

-- a word begins where the blanks end
word_begins : (line : List ℕ) → position_or_len in_word line ≡ prefix_len blank line
word_begins [] = refl
word_begins (b ∷ line) =
    ap (λ t. cond t (1 + position_or_len in_word line) 0) (twice_not (blank b))
    ∙ ap (λ n. cond (blank b) (1 + n) 0) (word_begins line)

pub no_word : (line : List ℕ) → position in_word line ≡ None → first_word line ≡ []
no_word line e =
    let all : prefix_len blank line ≡ length line = sym (word_begins line) ∙ not_found in_word line e in
    let none : from_word line ≡ [] = drop_all (prefix_len blank line) line (omega arith) in
    ap (λ l. take (prefix_len in_word l) l) none

begins_word : (b : ℕ) (bs : List ℕ) → blank b ≡ false → 0 < prefix_len in_word (b ∷ bs)
begins_word b bs e = let one : prefix_len in_word (b ∷ bs) ≡ 1 + prefix_len in_word bs = ap (λ t. cond (not t) (1 + prefix_len in_word bs) 0) e in omega arith

module _ (line words : List ℕ) (start : ℕ) (begins : position in_word line ≡ Some start) (from : words ≡ drop start line) where
  pub word_from : words ≡ from_word line
  word_from = from ∙ ap (λ n. drop n line) ((found in_word line start begins).0 ∙ word_begins line)

  pub some_word : 0 < prefix_len in_word words
  some_word =
      let place = found in_word line start begins in
      let at : start ≡ prefix_len blank line = place.0 ∙ word_begins line in
      let stops : blank (get_or line start 0) ≡ false = rw at (prefix_len_stops blank line 0 (omega arith)) in
      let first : words ≡ get_or line start 0 ∷ drop (start + 1) line = from ∙ rw (add-one, drop-cons line start 0 place.1) in
      rw first (begins_word (get_or line start 0) (drop (start + 1) line) stops)

module _ (line words : List ℕ) (start n : ℕ) (begins : position in_word line ≡ Some start) (from : words ≡ drop start line) (ends : n ≡ unwrap_or (position blank words) (length words)) where
  pub word_ends : n ≡ prefix_len in_word words
  word_ends = ends ∙ found_or_end blank words

  pub taken_word : (take n words ≡ first_word line) × (0 < length (take n words)) × (drop n words ≡ after_word line)
  taken_word =
      let whole = word_from line words start begins from in
      let some = some_word line words start begins from in (
        ap (λ k. take k words) word_ends ∙ ap (λ l. take (prefix_len in_word l) l) whole,
        omega (arith, word_ends, length-take n words, prefix_len-le-length in_word words),
        ap (λ k. drop k words) word_ends ∙ ap (λ l. drop (prefix_len in_word l) l) whole,
      )

-- the last line has no end
pub last_line : (text : List ℕ) → position (λ b. b == 10) text ≡ None → (text ≡ first_line text) × ([] ≡ after_line text)
last_line text e =
    let whole : prefix_len in_line text ≡ length text = not_found (λ b. b == 10) text e in
    let same : text ≡ first_line text = grind (arith, nat_tests) in
    (same, sym (drop_all (prefix_len in_line text + 1) text (omega arith)))

module _ (text : List ℕ) (end : ℕ) (ends : position (λ b. b == 10) text ≡ Some end) where
  ends_there : (end ≡ prefix_len in_line text) × (end < length text)
  ends_there = found (λ b. b == 10) text end ends

  pub taken_line : without_return (take end text) ≡ first_line text
  taken_line =
      let at : end ≡ prefix_len in_line text = ends_there.0 in
      let inside : prefix_len in_line text < length text = omega (arith, ends_there.0, ends_there.1) in
      let same : first_line text ≡ without_return (take (prefix_len in_line text) text) = grind (arith, nat_tests) in
      ap (λ n. without_return (take n text)) at ∙ sym same

  pub rest_of_text : take (length text - (end + 1)) (drop (end + 1) text) ≡ after_line text
  rest_of_text = take_all (length text - (end + 1)) (drop (end + 1) text) (omega (arith, length-drop (end + 1) text)) ∙ ap (λ n. drop (n + 1) text) ends_there.0
