-- Totals over a list, and sums over 1 to n.
use Rattle.std.proofs.Common.{◌≡◌, ℕ, zero, suc, ◌+◌, ◌*◌, ◌≤◌, List, [], ◌∷◌, ◌++◌, map, length, ℤ, pos, ◌+ℤ◌, neg_ℤ, ◌≤ℤ◌, fold, sum, sym, refl, ap, ◌∙◌, ⊎_elim, add-one, suc-mul, arith}
use lib.IntN.{+ℤ_idr, +ℤ_idl, +ℤ_assoc}
use Rattle.std.specs.List.{range_with_len, AllByRecursion}
use Rattle.std.proofs.lemmas.List.FromFn.{map-range_with_len_more}
use Rattle.std.proofs.lemmas.Int.{ints}
use Rattle.std.proofs.lemmas.List.Sums.{fold_push, sum_by_push}
use Rattle.std.proofs.lemmas.Bool.{cases_eq}
use Rattle.archive.specs.Sums.{total, up_to}

-- at most n either way
abbrev pub Within : ℕ → ℤ → Type 0
Within n z = (neg_ℤ (pos n) ≤ℤ z) × (z ≤ℤ pos n)

within_more : (m n : ℕ) (a b : ℤ) → Within m a → Within (n * m) b → Within (suc n * m) (a +ℤ b)
within_more m n a b p q = omega (arith, ints, suc-mul n m)

module _ {X : Type 0} where
  pub total_push : (f : X → ℤ) (xs : List X) (x : X) → total f (xs ++ x ∷ []) ≡ total f xs +ℤ f x
  total_push f xs x = fold_push (λ a y. a +ℤ f y) (pos 0) xs x

  total_from : (f : X → ℤ) (a : ℤ) (xs : List X) → fold (λ b x. b +ℤ f x) a xs ≡ a +ℤ total f xs
  total_from f a [] = sym (+ℤ_idr a)
  total_from f a (x ∷ xs) =
      total_from f (a +ℤ f x) xs
      ∙ +ℤ_assoc a (f x) (total f xs)
      ∙ ap (λ z. a +ℤ z) (sym (total_from f (pos 0 +ℤ f x) xs ∙ ap (λ z. z +ℤ total f xs) (+ℤ_idl (f x))))

  pub total_cons : (f : X → ℤ) (x : X) (xs : List X) → total f (x ∷ xs) ≡ f x +ℤ total f xs
  total_cons f x xs = total_from f (pos 0 +ℤ f x) xs ∙ ap (λ z. z +ℤ total f xs) (+ℤ_idl (f x))

  -- where each element gives at most m either way
  pub total_within : (P : X → Type 0) (f : X → ℤ) (m : ℕ) → ((x : X) → P x → Within m (f x)) → (xs : List X) → AllByRecursion P xs → Within (length xs * m) (total f xs)
  total_within P f m each [] all = omega (arith, ints)
  total_within P f m each (x ∷ xs) all =
      rw (total_cons f x xs) (within_more m (length xs) (f x) (total f xs) (each x all.0) (total_within P f m each xs all.1))

  pub total_same : (P : X → Type 0) (f g : X → ℤ) → ((x : X) → P x → f x ≡ g x) → (xs : List X) → AllByRecursion P xs → total f xs ≡ total g xs
  total_same P f g e [] all = refl
  total_same P f g e (x ∷ xs) all =
      total_cons f x xs
      ∙ ap (λ z. z +ℤ total f xs) (e x all.0)
      ∙ ap (λ z. g x +ℤ z) (total_same P f g e xs all.1)
      ∙ sym (total_cons g x xs)

swap : (a b c d : ℤ) → (a +ℤ b) +ℤ (c +ℤ d) ≡ (a +ℤ c) +ℤ (b +ℤ d)
swap a b c d = omega (arith, ints)

pub up_to_zero : (n : ℕ) (f : ℕ → ℤ) → ((s : ℕ) → 1 ≤ s → s ≤ n → f s ≡ pos 0) → up_to f n ≡ pos 0
unfolding up_to
up_to_zero zero f e = refl
up_to_zero (suc n) f e =
    ap (λ z. up_to f n +ℤ z) (e (suc n) (omega arith) (omega arith)) ∙ +ℤ_idr (up_to f n) ∙ up_to_zero n f (λ s l m. e s l (omega arith))

pub up_to_add : (n : ℕ) (f g : ℕ → ℤ) → up_to (λ s. f s +ℤ g s) n ≡ up_to f n +ℤ up_to g n
unfolding up_to
up_to_add zero f g = refl
up_to_add (suc n) f g = ap (λ z. z +ℤ (f (suc n) +ℤ g (suc n))) (up_to_add n f g) ∙ swap (up_to f n) (up_to g n) (f (suc n)) (g (suc n))

pub up_to_same : (n : ℕ) (f g : ℕ → ℤ) → ((s : ℕ) → 1 ≤ s → s ≤ n → f s ≡ g s) → up_to f n ≡ up_to g n
unfolding up_to
up_to_same zero f g e = refl
up_to_same (suc n) f g e =
    ap (λ z. up_to f n +ℤ z) (e (suc n) (omega arith) (omega arith)) ∙ ap (λ z. z +ℤ g (suc n)) (up_to_same n f g (λ s l m. e s l (omega arith)))

-- only one counts
pub up_to_one : (n : ℕ) (f : ℕ → ℤ) (j : ℕ) → 1 ≤ j → j ≤ n → ((s : ℕ) → 1 ≤ s → s ≤ n → (s ≡ j → ⊥) → f s ≡ pos 0) → up_to f n ≡ f j
unfolding up_to
up_to_one zero f j l m e = absurd (omega arith)
up_to_one (suc n) f j l m e =
    ⊎_elim
    (λ q. ap (λ z. z +ℤ f (suc n)) (up_to_zero n f (λ s a b. e s a (omega arith) (λ t. omega arith))) ∙ +ℤ_idl (f (suc n)) ∙ ap f (sym q))
    (λ ne. ap (λ z. up_to f n +ℤ z) (e (suc n) (omega arith) (omega arith) (λ t. ne (sym t))) ∙ +ℤ_idr (up_to f n) ∙ up_to_one n f j l (omega arith) (λ s a b. e s a (omega arith)))
    (cases_eq j (suc n))

-- the order of adding does not matter
pub up_to-total : {X : Type 0} (n : ℕ) (f : ℕ → X → ℤ) (xs : List X) → up_to (λ s. total (f s) xs) n ≡ total (λ x. up_to (λ s. f s x) n) xs
up_to-total n f [] = up_to_zero n (λ s. pos 0) (λ s l m. refl)
up_to-total n f (x ∷ xs) =
    up_to_same n (λ s. total (f s) (x ∷ xs)) (λ s. f s x +ℤ total (f s) xs) (λ s l m. total_cons (f s) x xs)
    ∙ up_to_add n (λ s. f s x) (λ s. total (f s) xs)
    ∙ ap (λ z. up_to (λ s. f s x) n +ℤ z) (up_to-total n f xs)
    ∙ sym (total_cons (λ y. up_to (λ s. f s y) n) x xs)

-- of natural numbers
pub up_to_pos : (n : ℕ) (f : ℕ → ℕ) → up_to (λ s. pos (f s)) n ≡ pos (sum (map f (range_with_len 1 n)))
unfolding up_to
up_to_pos zero f = refl
up_to_pos (suc n) f =
    let m = map-range_with_len_more f 1 n (suc n) (omega arith) in
    let e : sum (map f (range_with_len 1 (suc n))) ≡ sum (map f (range_with_len 1 n)) + f (suc n) = ap (λ k. sum (map f (range_with_len 1 k))) (sym (add-one n)) ∙ ap sum m ∙ sum_by_push (λ x. x) (map f (range_with_len 1 n)) (f (suc n)) in
    ap (λ z. z +ℤ pos (f (suc n))) (up_to_pos n f) ∙ ap pos (sym e)
