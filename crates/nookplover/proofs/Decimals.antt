-- Numbers read digit by digit.
use Rattle.std.proofs.Common.{◌≡◌, ℕ, ◌+◌, ◌-◌, ◌*◌, ◌<◌, ◌≤◌, true, List, [], ◌∷◌, length, get_or, drop, Some, None, arith}
use Rattle.std.specs.Str.{all_ascii_digits}
use Rattle.std.proofs.lemmas.List.{at_drop_more}
use Rattle.std.proofs.lemmas.Bool.Decides.{nat_tests}
use Rattle.nookplover.specs.Numerals.{read_on, number_in}

-- further digits never make the number smaller
pub read_on_ge : (n : ℕ) (cs : List ℕ) → n ≤ read_on n cs
read_on_ge n [] = omega arith
read_on_ge n (c ∷ cs) = omega (arith, read_on_ge (n * 10 + (c - 48)) cs)

pub read_left : (w : List ℕ) (i : ℕ) → i < length w → (n : ℕ) → read_on n (drop i w) ≡ read_on (n * 10 + (get_or w i 0 - 48)) (drop (i + 1) w)
read_left w i inside n = at_drop_more (read_on n) w i 0 inside

pub none_from_large : (w : List ℕ) → 4294967295 < read_on 0 w → number_in w ≡ None
none_from_large w h = grind (arith, nat_tests)

pub some_from_digits : (w : List ℕ) → 0 < length w → all_ascii_digits w ≡ true → read_on 0 w ≤ 4294967295 → number_in w ≡ Some (read_on 0 w)
some_from_digits w long digits small = grind (arith, nat_tests)
