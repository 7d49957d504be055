-- The front of a sheet that rises.
use Rattle.std.proofs.Common.{◌≡◌, ℕ, suc, ◌+◌, ◌<◌, ◌≤◌, true, false, cond, ltb, List, [], ◌∷◌, map, length, get_or, take, drop, Some, None, Option, sym, ap, ◌∙◌, arith}
use Rattle.std.proofs.lemmas.List.{length-take-le, get_or-take, at_drop_more, at_drop_all, get_or-map, length-map}
use Rattle.std.proofs.lemmas.Bool.{ltb-true, cond_both, cond-true, cond-false}
use Rattle.book.specs.Rising.{Rising}
use Rattle.book.specs.Sheets.{is_above, rising_after, rising_front}
use Rattle.book.proofs.Rises.{rising_one, rising_cons}

-- the account that was read off a line
account_at : {X : Type 0} (f : X → ℕ) (lines : List X) (i account : ℕ) (line : X) → i < length lines → line ≡ get_or lines i line → account ≡ f line
    → account ≡ get_or (map f lines) i 0
account_at f lines i account line lt is told = told ∙ ap f is ∙ sym (get_or-map f lines i line 0 lt)

-- what the front goes on with at a line that was read
front_at : {X : Type 0} (f : X → ℕ) (lines : List X) (before : Option ℕ) (i account : ℕ) (line : X) → i < length lines → line ≡ get_or lines i line
    → account ≡ f line
    → rising_after before (drop i (map f lines)) ≡ cond (is_above before account) (suc (rising_after (Some account) (drop (i + 1) (map f lines)))) 0
front_at f lines before i account line lt is told =
    let accounts = map f lines in
    at_drop_more (rising_after before) accounts i 0 (omega (arith, length-map lines f))
    ∙ ap (λ a. cond (is_above before a) (suc (rising_after (Some a) (drop (i + 1) accounts))) 0) (sym (account_at f lines i account line lt is told))

-- one line more of the front, of which `all` is the length
pub front_more : {X : Type 0} (f : X → ℕ) (lines : List X) (before : Option ℕ) (i account all : ℕ) (line : X) → i < length lines → line ≡ get_or lines i line
    → account ≡ f line → true ≡ is_above before account
    → i + rising_after before (drop i (map f lines)) ≡ all → i + 1 + rising_after (Some account) (drop (i + 1) (map f lines)) ≡ all
front_more f lines before i account all line lt is told above so_far =
    let step : rising_after before (drop i (map f lines)) ≡ suc (rising_after (Some account) (drop (i + 1) (map f lines))) =
    front_at f lines before i account line lt is told ∙ cond-true _ _ _ (sym above) in
    omega (arith, step)

-- its end, at a line that is not above the one before
pub front_ends : {X : Type 0} (f : X → ℕ) (lines : List X) (before : Option ℕ) (i account all : ℕ) (line : X) → i < length lines → line ≡ get_or lines i line
    → account ≡ f line → false ≡ is_above before account
    → i + rising_after before (drop i (map f lines)) ≡ all → i ≡ all
front_ends f lines before i account all line lt is told below so_far =
    let step : rising_after before (drop i (map f lines)) ≡ 0 = front_at f lines before i account line lt is told ∙ cond-false _ _ _ (sym below) in
    omega (arith, step)

-- or where the lines end
pub front_whole : {X : Type 0} (f : X → ℕ) (lines : List X) (before : Option ℕ) (i all : ℕ) → length lines ≡ i
    → i + rising_after before (drop i (map f lines)) ≡ all → length lines ≡ all
front_whole f lines before i all ends so_far =
    let step : rising_after before (drop i (map f lines)) ≡ 0 = at_drop_all (rising_after before) (map f lines) i (omega (arith, length-map lines f)) in
    omega (arith, step)

pub front_le : (before : Option ℕ) (accounts : List ℕ) → rising_after before accounts ≤ length accounts
front_le before [] = omega arith
front_le before (x ∷ xs) =
    cond_both (is_above before x) (suc (rising_after (Some x) xs)) 0 (λ n. n ≤ suc (length xs))
    (λ _. omega (arith, front_le (Some x) xs)) (λ _. omega arith)

rises_after : (x : ℕ) (xs : List ℕ) → Rising (x ∷ take (rising_after (Some x) xs) xs)
rises_after x [] = rising_one x
rises_after x (y ∷ ys) =
    cond_both (ltb x y) (suc (rising_after (Some y) ys)) 0 (λ n. Rising (x ∷ take n (y ∷ ys)))
    (λ above. rising_cons x y (take (rising_after (Some y) ys) ys) (ltb-true x y above) (rises_after y ys))
    (λ _. rising_one x)

front_rises : (accounts : List ℕ) → Rising (take (rising_front accounts) accounts)
front_rises [] = λ i j h k. absurd (omega arith)
front_rises (x ∷ xs) = rises_after x xs

-- in a list whose first n numbers rise
rises_at : (n : ℕ) (xs : List ℕ) → n ≤ length xs → Rising (take n xs) → (i j : ℕ) → i < j → j < n → get_or xs i 0 < get_or xs j 0
rises_at n xs within rises i j less short =
    let low : i < n = omega arith in
    let step = rises i j less (omega (arith, length-take-le n xs within)) in
    omega (arith, step, get_or-take n xs i 0 low, get_or-take n xs j 0 short)

-- any part of the front rises
pub front_part_rises : (n : ℕ) (accounts : List ℕ) → n ≤ rising_front accounts → Rising (take n accounts)
front_part_rises n accounts part i j less short =
    let all = rising_front accounts in
    let within : all ≤ length accounts = front_le None accounts in
    let long : length (take n accounts) ≡ n = length-take-le n accounts (omega arith) in
    let step = rises_at all accounts within (front_rises accounts) i j less (omega arith) in
    omega (arith, step, get_or-take n accounts i 0 (omega arith), get_or-take n accounts j 0 (omega arith))
