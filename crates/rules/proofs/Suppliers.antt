-- Summing by supplier: one line more, the bound of a sum, and the law. Assumes nothing.
use Rattle.std.proofs.Common.{◌≡◌, ℕ, zero, suc, ◌+◌, ◌-◌, ◌<◌, ◌≤◌, false, cond, ◌&&◌, eqb, leb, List, [], ◌∷◌, ◌++◌, length, get_or, set, replicate, sum_by, sum, sym, refl, ap, ◌∙◌, inl, inr, le_of_suc-le-suc, not-suc-le-zero, arith}
use Rattle.std.specs.List.{range_with_len, AllByRecursion}
use Rattle.std.proofs.lemmas.List.Sums.{sum_by-cons, sum-map}
use Rattle.std.proofs.lemmas.List.FromFn.{length-map-range_with_len, get_or-map-range_with_len}
use Rattle.std.proofs.ByRecursion.{All-weaker}
use Rattle.std.proofs.lemmas.List.{ext_get_or, length-set, get_or-set_same, get_or-set_other, get_or_past, length-replicate, get_or-replicate}
use Rattle.std.proofs.lemmas.Bool.{cond-true, cond-false, cond_both, eq-eqb, ne_eqb, leb-true, leb-false, and_parts, and_cases, cases_eq, cases_lt}
use Rattle.rules.specs.Obligations.{obligation, obligations, added, ObligationsAddUp}
use Rattle.rules.proofs.Shares.{sum_cons}

-- no supplier is owed more than all lines receive
pub obligation_le : (s : ℕ) (suppliers finals : List ℕ) → obligation s suppliers finals ≤ sum finals
obligation_le s [] finals = omega arith
obligation_le s (x ∷ xs) [] = omega arith
obligation_le s (x ∷ xs) (f ∷ fs) =
    let one : cond (eqb x s) f 0 ≤ f = cond_both (eqb x s) f 0 (λ n. n ≤ f) (λ e. omega arith) (λ e. omega arith) in
    omega (arith, one, obligation_le s xs fs, sum_cons f fs)

pub obligation-none : (s : ℕ) (suppliers : List ℕ) → obligation s suppliers [] ≡ 0
obligation-none s [] = refl
obligation-none s (x ∷ xs) = refl

pub obligation_push : (s : ℕ) (suppliers finals : List ℕ) (f : ℕ) → length finals < length suppliers →
    obligation s suppliers (finals ++ f ∷ []) ≡ obligation s suppliers finals + cond (eqb (get_or suppliers (length finals) 0) s) f 0
obligation_push s [] fs f h = absurd (not-suc-le-zero h)
obligation_push s (x ∷ xs) [] f h = omega (arith, obligation-none s xs)
obligation_push s (x ∷ xs) (y ∷ ys) f h = omega (arith, obligation_push s xs ys f (le_of_suc-le-suc h))

pub length-obligations : (suppliers finals : List ℕ) → length (obligations suppliers finals) ≡ 32
unfolding obligations
length-obligations suppliers finals = length-map-range_with_len (λ s. obligation s suppliers finals) 1 32

pub get_or-obligations : (suppliers finals : List ℕ) (k s : ℕ) → k < 32 → 1 + k ≡ s → get_or (obligations suppliers finals) k 0 ≡ obligation s suppliers finals
unfolding obligations
get_or-obligations suppliers finals k s h e = get_or-map-range_with_len (λ t. obligation t suppliers finals) 1 32 k s 0 h e

-- supplier s stands in place s - 1
pub obligation_of : (suppliers finals : List ℕ) (s : ℕ) → 1 ≤ s → s ≤ 32 → get_or (obligations suppliers finals) (s - 1) 0 ≡ obligation s suppliers finals
obligation_of suppliers finals s p q = get_or-obligations suppliers finals (s - 1) s (omega arith) (omega arith)

pub place_le : (suppliers finals : List ℕ) (k : ℕ) → get_or (obligations suppliers finals) k 0 ≤ sum finals
place_le suppliers finals k = elim (cases_lt k 32) [
  | inl h ↦ omega (arith, get_or-obligations suppliers finals k (1 + k) h refl, obligation_le (1 + k) suppliers finals)
  | inr h ↦ omega (arith, get_or_past (obligations suppliers finals) k 0 (omega (arith, length-obligations suppliers finals)))
]

pub obligations-none : (suppliers : List ℕ) → obligations suppliers [] ≡ replicate 32 0
obligations-none suppliers =
    ext_get_or 0 (obligations suppliers []) (replicate 32 0) (length-obligations suppliers [] ∙ sym (length-replicate {A = ℕ} 32 0))
    (λ k h.
    let lt : k < 32 = omega (arith, length-obligations suppliers []) in
    get_or-obligations suppliers [] k (1 + k) lt refl ∙ obligation-none (1 + k) suppliers ∙ sym (get_or-replicate 32 k 0 0 lt))

-- one line more, of supplier x
module _ (suppliers finals : List ℕ) (x f : ℕ) (in' : length finals < length suppliers) (is : x ≡ get_or suppliers (length finals) 0) where
  at_place : (k : ℕ) → k < 32 → get_or (obligations suppliers (finals ++ f ∷ [])) k 0 ≡ get_or (obligations suppliers finals) k 0 + cond (eqb x (1 + k)) f 0
  at_place k h =
      let push : obligation (1 + k) suppliers (finals ++ f ∷ []) ≡ obligation (1 + k) suppliers finals + cond (eqb x (1 + k)) f 0 = rw is (obligation_push (1 + k) suppliers finals f in') in
      omega (arith, push, get_or-obligations suppliers (finals ++ f ∷ []) k (1 + k) h refl, get_or-obligations suppliers finals k (1 + k) h refl)

  same_place : (k : ℕ) → k < 32 → (x ≡ 1 + k → ⊥) → get_or (obligations suppliers (finals ++ f ∷ [])) k 0 ≡ get_or (obligations suppliers finals) k 0
  same_place k h ne = omega (arith, at_place k h, cond-false (eqb x (1 + k)) f 0 (ne_eqb x (1 + k) ne))

  own_place : (k : ℕ) → k < 32 → x ≡ 1 + k → get_or (obligations suppliers (finals ++ f ∷ [])) k 0 ≡ get_or (obligations suppliers finals) k 0 + f
  own_place k h e = omega (arith, at_place k h, cond-true (eqb x (1 + k)) f 0 (eq-eqb x (1 + k) e))

  long : length (obligations suppliers (finals ++ f ∷ [])) ≡ length (obligations suppliers finals)
  long = length-obligations suppliers (finals ++ f ∷ []) ∙ sym (length-obligations suppliers finals)

  within : (k : ℕ) → k < length (obligations suppliers (finals ++ f ∷ [])) → k < 32
  within k h = omega (arith, length-obligations suppliers (finals ++ f ∷ []))

  mine : 1 ≤ x → x ≤ 32 → obligations suppliers (finals ++ f ∷ []) ≡ set (obligations suppliers finals) (x - 1) (get_or (obligations suppliers finals) (x - 1) 0 + f)
  mine p q =
      let old = obligations suppliers finals in
      let y = get_or old (x - 1) 0 + f in
      let room : x - 1 < length old = omega (arith, length-obligations suppliers finals) in
      ext_get_or 0 (obligations suppliers (finals ++ f ∷ [])) (set old (x - 1) y) (long ∙ sym (length-set old (x - 1) y))
      (λ k h. elim (cases_eq k (x - 1)) [
        | inl e ↦ own_place k (within k h) (omega arith) ∙ ap (λ j. get_or old j 0 + f) e ∙ sym (get_or-set_same old (x - 1) y 0 room) ∙ ap (λ j. get_or (set old (x - 1) y) j 0) (sym e)
        | inr ne ↦ same_place k (within k h) (λ e. ne (omega arith)) ∙ sym (get_or-set_other old (x - 1) k y 0 ne)
      ])

  nobodys : (leb 1 x && leb x 32) ≡ false → obligations suppliers (finals ++ f ∷ []) ≡ obligations suppliers finals
  nobodys none =
      let out : (k : ℕ) → k < 32 → x ≡ 1 + k → ⊥ = λ k h e. elim (and_cases (leb 1 x) (leb x 32) none) [ inl a ↦ omega (arith, leb-false 1 x a) | inr b ↦ omega (arith, leb-false x 32 b) ] in
      ext_get_or 0 (obligations suppliers (finals ++ f ∷ [])) (obligations suppliers finals) long (λ k h. same_place k (within k h) (out k (within k h)))

  pub obligations_push : obligations suppliers (finals ++ f ∷ []) ≡ added (obligations suppliers finals) x f
  obligations_push =
      let old = obligations suppliers finals in
      cond_both (leb 1 x && leb x 32) (set old (x - 1) (get_or old (x - 1) 0 + f)) old (λ r. obligations suppliers (finals ++ f ∷ []) ≡ r)
      (λ yes. let p = and_parts (leb 1 x) (leb x 32) yes in mine (leb-true 1 x p.0) (leb-true x 32 p.1)) nobodys

-- a line of supplier x adds to none of the n suppliers from a on, or to one
below_all : (x f a n : ℕ) → x < a → sum_by (λ s. cond (eqb x s) f 0) (range_with_len a n) ≡ 0
below_all x f a zero lt = refl
below_all x f a (suc n) lt =
    omega (arith, sum_by-cons (λ s. cond (eqb x s) f 0) a (range_with_len (a + 1) n), below_all x f (a + 1) n (omega arith), cond-false (eqb x a) f 0 (ne_eqb x a (λ e. omega arith)))

one_of : (x f a n : ℕ) → a ≤ x → x < a + n → sum_by (λ s. cond (eqb x s) f 0) (range_with_len a n) ≡ f
one_of x f a zero p q = absurd (omega arith)
one_of x f a (suc n) p q =
    let split = sum_by-cons (λ s. cond (eqb x s) f 0) a (range_with_len (a + 1) n) in
    elim (cases_eq x a) [
      | inl e ↦ omega (arith, split, below_all x f (a + 1) n (omega arith), cond-true (eqb x a) f 0 (eq-eqb x a e))
      | inr ne ↦ omega (arith, split, one_of x f (a + 1) n (omega arith) (omega arith), cond-false (eqb x a) f 0 (ne_eqb x a ne))
    ]

sum_by_add : {X : Type 0} (p q : X → ℕ) (xs : List X) → sum_by (λ x. p x + q x) xs ≡ sum_by p xs + sum_by q xs
sum_by_add p q [] = refl
sum_by_add p q (x ∷ xs) = omega (arith, sum_by-cons (λ y. p y + q y) x xs, sum_by-cons p x xs, sum_by-cons q x xs, sum_by_add p q xs)

sum_by-none : (a n : ℕ) → sum_by (λ s. 0) (range_with_len a n) ≡ 0
sum_by-none a zero = refl
sum_by-none a (suc n) = omega (arith, sum_by-cons (λ s. 0) a (range_with_len (a + 1) n), sum_by-none (a + 1) n)

from_all : (a n : ℕ) (suppliers finals : List ℕ) → length suppliers ≡ length finals → AllByRecursion (λ s. (a ≤ s) × (s < a + n)) suppliers →
    sum_by (λ s. obligation s suppliers finals) (range_with_len a n) ≡ sum finals
from_all a n [] [] e all = sum_by-none a n
from_all a n [] (f ∷ fs) e all = absurd (omega arith)
from_all a n (x ∷ xs) [] e all = absurd (omega arith)
from_all a n (x ∷ xs) (f ∷ fs) e all =
    omega (arith, sum_by_add (λ s. cond (eqb x s) f 0) (λ s. obligation s xs fs) (range_with_len a n), one_of x f a n all.0.0 all.0.1, from_all a n xs fs (omega arith) all.1, sum_cons f fs)

pub obligations_add_up : ObligationsAddUp
unfolding obligations
obligations_add_up suppliers finals e all =
    sum-map (λ s. obligation s suppliers finals) (range_with_len 1 32)
    ∙ from_all 1 32 suppliers finals e (All-weaker (λ s. (1 ≤ s) × (s ≤ 32)) (λ s. (1 ≤ s) × (s < 1 + 32)) (λ s h. (h.0, omega (arith, h.1))) suppliers all)
