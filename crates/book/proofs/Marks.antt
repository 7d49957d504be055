-- The hours that are not settled: what is left of all marks once those of the settled hours are taken away.
use Rattle.std.proofs.Common.{◌≡◌, ℕ, zero, suc, ◌+◌, ◌-◌, ◌*◌, ◌/◌, ◌%◌, ◌^◌, ◌<◌, ◌≤◌, cond, ◌||◌, eqb, sym, refl, ap, ◌∙◌, ⊎_elim, mod-eq_of_lt, pow-suc, arith}
use lib.Bits.{bit_or, or_zero_r}
use Rattle.std.proofs.lemmas.Nat.{mod-pow-add, one_shl, or_lt, pow_below, pow_pos, pow-add, shl-shr, or_shr, or_mod}
use Rattle.std.proofs.lemmas.Bool.{cond_both, eqb-true, eqb-false, eq-eqb, ne_eqb, cases_eq, cases_order}
use native.Mathlib.Nat.{div_self, div-eq_of_lt}
use Rattle.book.specs.Slips.{mark_of, unsettled, MarksOne}

-- one hour more: its mark stands in one of the two numbers
either_mark : (bit p u r : ℕ) → bit < 2 → u + r + 1 ≡ p → (u + cond (eqb bit 1) 0 p) + (bit * p + r) + 1 ≡ p * 2
either_mark bit p u r small h =
    cond_both (eqb bit 1) 0 p (λ x. (u + x) + (bit * p + r) + 1 ≡ p * 2)
    (λ e. let b : bit ≡ 1 = eqb-true bit 1 e in rw b (omega arith))
    (λ e. let b : bit ≡ 0 = omega (arith, eqb-false bit 1 e) in rw b (omega arith))

pub unsettled_rest : (settled n : ℕ) → unsettled settled n + settled % 2 ^ n + 1 ≡ 2 ^ n
unfolding unsettled
unsettled_rest settled zero = omega arith
unsettled_rest settled (suc n) =
    let back : suc n - 1 ≡ n = omega arith in
    let more : suc n ≡ 1 + n = omega arith in
    let split : settled % 2 ^ (suc n) ≡ (settled / 2 ^ n % 2) * 2 ^ n + settled % 2 ^ n = ap (λ k. settled % 2 ^ k) more ∙ mod-pow-add settled 1 n in
    let twice : 2 ^ (suc n) ≡ 2 ^ n * 2 = pow-suc 2 n in
    rw (split, twice, back) (either_mark (settled / 2 ^ n % 2) (2 ^ n) (unsettled settled n) (settled % 2 ^ n) (omega arith) (unsettled_rest settled n))

pub unsettled_is : (settled n : ℕ) → settled < 2 ^ n → n < 32 → (1 * 2 ^ n) % 4294967296 - 1 - settled ≡ unsettled settled n
unsettled_is settled n within short =
    omega (arith, unsettled_rest settled n, mod-eq_of_lt within, one_shl n 32 short)

-- the mark of an hour as the code makes it
pub mark_is : (hour : ℕ) → hour ≤ 25 → (1 * 2 ^ (hour - 1)) % 4294967296 ≡ mark_of hour
mark_is hour short = one_shl (hour - 1) 32 (omega arith)

pub marked_within : (settled hours hour : ℕ) → settled < 2 ^ hours → 1 ≤ hour → hour ≤ hours → bit_or settled (mark_of hour) < 2 ^ hours
marked_within settled hours hour within begun ends = or_lt hours settled (mark_of hour) within (pow_below (hour - 1) hours (omega arith))

-- the digit of a mark at a place
own_digit : (j : ℕ) → 2 ^ j / 2 ^ j % 2 ≡ 1
own_digit j = ap (λ n. n % 2) (div_self (pow_pos j))

other_digit : (j k : ℕ) → (j ≡ k → ⊥) → 2 ^ j / 2 ^ k % 2 ≡ 0
other_digit j k apart =
    ⊎_elim (λ e. absurd (apart e))
    (⊎_elim (λ l. ap (λ n. n % 2) (div-eq_of_lt (pow_below j k l)))
    (λ l. let d = j - k - 1 in
    let split : 2 ^ j ≡ (2 ^ d * 2) * 2 ^ k =
    ap (λ n. 2 ^ n) (omega arith) ∙ pow-add 2 (suc d) k ∙ ap (λ n. n * 2 ^ k) (pow-suc 2 d) in
    let half : 2 ^ j / 2 ^ k ≡ 2 ^ d * 2 = ap (λ n. n / 2 ^ k) split ∙ shl-shr (2 ^ d * 2) k in
    ap (λ n. n % 2) half ∙ omega arith)) (cases_order j k)

-- the digit of two numbers joined
joined_digit : (a b k : ℕ) → bit_or a b / 2 ^ k % 2 ≡ bit_or (a / 2 ^ k % 2) (b / 2 ^ k % 2)
joined_digit a b k = ap (λ n. n % 2) (or_shr a b k) ∙ or_mod (a / 2 ^ k) (b / 2 ^ k) 1

joined_one : (x : ℕ) → x < 2 → bit_or x 1 ≡ 1
joined_one zero h = refl
joined_one (suc zero) h = refl
joined_one (suc (suc x)) h = absurd (omega arith)

pub marks_one : MarksOne
marks_one hour other s begun from =
    let digit = s.settled / mark_of other % 2 in
    let joined = joined_digit s.settled (mark_of hour) (other - 1) in
    ⊎_elim
    (λ e. let own : mark_of hour / mark_of other % 2 ≡ 1 = ap (λ h. mark_of hour / mark_of h % 2) e ∙ own_digit (hour - 1) in
    let one : bit_or s.settled (mark_of hour) / mark_of other % 2 ≡ 1 = joined ∙ ap (bit_or digit) own ∙ joined_one digit (omega arith) in
    ap (λ n. eqb n 1) one ∙ sym (ap (λ t. t || eqb digit 1) (eq-eqb other hour e)))
    (λ ne. let none : mark_of hour / mark_of other % 2 ≡ 0 = other_digit (hour - 1) (other - 1) (λ e. ne (omega arith)) in
    let same : bit_or s.settled (mark_of hour) / mark_of other % 2 ≡ digit = joined ∙ ap (bit_or digit) none ∙ or_zero_r digit in
    ap (λ n. eqb n 1) same ∙ sym (ap (λ t. t || eqb digit 1) (ne_eqb other hour ne)))
    (cases_eq other hour)
