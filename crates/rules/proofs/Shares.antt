-- The laws of sharing. Assumes nothing.
use Rattle.std.proofs.Common.{◌≡◌, ℕ, zero, suc, ◌+◌, ◌-◌, ◌*◌, ◌/◌, ◌<◌, ◌≤◌, ◌⊎◌, List, [], ◌∷◌, length, get_or, sum, sym, refl, ap, ◌∙◌, inl, inr, le_of_suc-le-suc, not-suc-le-zero, add-zero, mul-zero, zero-add, mul-add, div-mul-le_self, mul-div_cancel, arith}
use native.Mathlib.Nat.{zero-div, div-zero, lt-div-mul-add, mul-sub}
use Rattle.std.proofs.lemmas.List.Sums.{sum_by-cons}
use Rattle.std.proofs.lemmas.Nat.{le-div}
use Rattle.rules.specs.Shares.{up_to, shares_after, shares, plus, finals, Near, SharesAddUp, SharesAreNear, OwnGroupOnly, FinalsAddUp, OneGroup, SharingLaws}

-- more weight, no smaller part
pub up_to_rises : (g w c x : ℕ) → up_to g w c ≤ up_to g w (c + x)
up_to_rises g zero c x = omega (arith, div-zero (g * c))
up_to_rises g (suc v) c x = rises g (suc v) c x (omega arith)
  where
    rises : (g w c x : ℕ) → 0 < w → up_to g w c ≤ up_to g w (c + x)
    rises g w c x p = le-div (up_to g w c) (g * (c + x)) w p (omega (arith, div-mul-le_self (g * c) w, mul-add g c x))

pub up_to-none : (g w : ℕ) → up_to g w 0 ≡ 0
up_to-none g w = ap (λ n. n / w) (mul-zero g) ∙ zero-div w

-- lines of no more than the whole weight receive no more than the total
pub up_to_le : (g w c : ℕ) → c ≤ w → up_to g w c ≤ g
up_to_le g zero c h = omega (arith, div-zero (g * c))
up_to_le g (suc v) c h = within g (suc v) c (omega arith) h
  where
    within : (g w c : ℕ) → 0 < w → c ≤ w → up_to g w c ≤ g
    within g w c p h =
        let all : up_to g w (c + (w - c)) ≡ g = ap (up_to g w) (omega arith) ∙ mul-div_cancel g p in
        omega (arith, up_to_rises g w c (w - c), all)

pub sum_cons : (x : ℕ) (xs : List ℕ) → sum (x ∷ xs) ≡ x + sum xs
sum_cons x xs = sum_by-cons (λ y. y) x xs

pub length-shares : (g w c : ℕ) (ws : List ℕ) → length (shares_after g w c ws) ≡ length ws
length-shares g w c [] = refl
length-shares g w c (x ∷ xs) = ap suc (length-shares g w (c + x) xs)

pub sum_after : (g w c : ℕ) (ws : List ℕ) → sum (shares_after g w c ws) + up_to g w c ≡ up_to g w (c + sum ws)
sum_after g w c [] = zero-add (up_to g w c) ∙ ap (up_to g w) (sym (add-zero c))
sum_after g w c (x ∷ xs) =
    let ih = sum_after g w (c + x) xs in
    let up = up_to_rises g w c x in
    let e : up_to g w (c + x + sum xs) ≡ up_to g w (c + sum (x ∷ xs)) = ap (up_to g w) (omega (arith, sum_cons x xs)) in
    omega (arith, ih, up, e, sum_cons (up_to g w (c + x) - up_to g w c) (shares_after g w (c + x) xs))

-- the shares sum to g × W / W
pub shares_add_up : SharesAddUp
shares_add_up g ws = (λ p. omega (arith, told, up_to-none g (sum ws), whole (sum ws) p), λ p. omega (arith, told, up_to-none g (sum ws), none (sum ws) p))
  where
    told : sum (shares g ws) + up_to g (sum ws) 0 ≡ up_to g (sum ws) (0 + sum ws)
    told = sum_after g (sum ws) 0 ws

    whole : (w : ℕ) → 0 < w → up_to g w (0 + w) ≡ g
    whole w p = ap (up_to g w) (zero-add w) ∙ mul-div_cancel g p

    none : (w : ℕ) → w ≡ 0 → up_to g w (0 + w) ≡ 0
    none w e = ap (λ n. g * (0 + w) / n) e ∙ div-zero (g * (0 + w))

pub shares_le : (g : ℕ) (ws : List ℕ) → sum (shares g ws) ≤ g
shares_le g ws = omega (arith, sum_after g (sum ws) 0 ws, up_to_le g (sum ws) (0 + sum ws) (omega arith))

-- the two ends of a share, each within a unit of its exact place
near_after : (g w c : ℕ) → 0 < w → (ws : List ℕ) (k : ℕ) → k < length ws → Near g w (get_or ws k 0) (get_or (shares_after g w c ws) k 0)
near_after g w c p [] k h = absurd (not-suc-le-zero h)
near_after g w c p (x ∷ xs) zero h =
    let low = div-mul-le_self (g * c) w in
    let low' = div-mul-le_self (g * (c + x)) w in
    let high : g * c < g * c / w * w + w = lt-div-mul-add p in
    let high' : g * (c + x) < g * (c + x) / w * w + w = lt-div-mul-add p in
    let split = mul-sub w (up_to g w (c + x)) (up_to g w c) in
    record {
      below = omega (arith, mul-add g c x, split);
      above = omega (arith, mul-add g c x, split);
    }
near_after g w c p (x ∷ xs) (suc k) h = near_after g w (c + x) p xs k (le_of_suc-le-suc h)

-- without any weight nothing is shared
none_after : (g c : ℕ) (ws : List ℕ) (k : ℕ) → get_or (shares_after g 0 c ws) k 0 ≡ 0
none_after g c [] k = refl
none_after g c (x ∷ xs) zero = omega (arith, div-zero (g * (c + x)))
none_after g c (x ∷ xs) (suc k) = none_after g (c + x) xs k

pub shares_are_near : SharesAreNear
shares_are_near g ws k h = by_whole (sum ws) refl
  where
    by_whole : (w : ℕ) → sum ws ≡ w → Near g (sum ws) (get_or ws k 0) (get_or (shares g ws) k 0) ⊎ ((sum ws ≡ 0) × (get_or (shares g ws) k 0 ≡ 0))
    by_whole zero e = inr (e, ap (λ w. get_or (shares_after g w 0 ws) k 0) e ∙ none_after g 0 ws k)
    by_whole (suc w) e = inl (near_after g (sum ws) 0 (omega arith) ws k h)

-- a line without weight receives nothing
own_after : (g w c : ℕ) (ws : List ℕ) (k : ℕ) → get_or ws k 0 ≡ 0 → get_or (shares_after g w c ws) k 0 ≡ 0
own_after g w c [] k e = refl
own_after g w c (x ∷ xs) zero e = let same : up_to g w (c + x) ≡ up_to g w c = ap (up_to g w) (omega arith) in omega arith
own_after g w c (x ∷ xs) (suc k) e = own_after g w (c + x) xs k e

-- two lists of one length, place by place
pub length-plus : (xs ys : List ℕ) → length xs ≡ length ys → length (plus xs ys) ≡ length xs
length-plus [] ys e = refl
length-plus (x ∷ xs) [] e = absurd (omega arith)
length-plus (x ∷ xs) (y ∷ ys) e = ap suc (length-plus xs ys (omega arith))

pub sum-plus : (xs ys : List ℕ) → length xs ≡ length ys → sum (plus xs ys) ≡ sum xs + sum ys
sum-plus [] [] e = refl
sum-plus [] (y ∷ ys) e = absurd (omega arith)
sum-plus (x ∷ xs) [] e = absurd (omega arith)
sum-plus (x ∷ xs) (y ∷ ys) e = omega (arith, sum-plus xs ys (omega arith), sum_cons (x + y) (plus xs ys), sum_cons x xs, sum_cons y ys)

get_or-plus : (xs ys : List ℕ) (k : ℕ) → length xs ≡ length ys → get_or (plus xs ys) k 0 ≡ get_or xs k 0 + get_or ys k 0
get_or-plus [] [] k e = refl
get_or-plus [] (y ∷ ys) k e = absurd (omega arith)
get_or-plus (x ∷ xs) [] k e = absurd (omega arith)
get_or-plus (x ∷ xs) (y ∷ ys) zero e = refl
get_or-plus (x ∷ xs) (y ∷ ys) (suc k) e = get_or-plus xs ys k (omega arith)

module _ (g h : ℕ) (ws vs : List ℕ) (same : length ws ≡ length vs) where
  pub same_length : length (shares g ws) ≡ length (shares h vs)
  same_length = length-shares g (sum ws) 0 ws ∙ same ∙ sym (length-shares h (sum vs) 0 vs)

  pub length-finals : length (finals g h ws vs) ≡ length ws
  length-finals = length-plus (shares g ws) (shares h vs) same_length ∙ length-shares g (sum ws) 0 ws

pub finals_add_up : FinalsAddUp
finals_add_up g h ws vs same = sum-plus (shares g ws) (shares h vs) (same_length g h ws vs same)

pub own_group_only : OwnGroupOnly
own_group_only g h ws vs k same =
    let both = get_or-plus (shares g ws) (shares h vs) k (same_length g h ws vs same) in
    (λ e. omega (arith, both, own_after h (sum vs) 0 vs k e), λ e. omega (arith, both, own_after g (sum ws) 0 ws k e))

plus_none : (h c : ℕ) (xs vs : List ℕ) → length xs ≡ length vs → plus xs (shares_after h 0 c vs) ≡ xs
plus_none h c [] vs e = refl
plus_none h c (x ∷ xs) [] e = absurd (omega arith)
plus_none h c (x ∷ xs) (v ∷ vs) e =
    let nothing : x + (up_to h 0 (c + v) - up_to h 0 c) ≡ x = omega (arith, div-zero (h * (c + v)), div-zero (h * c)) in
    ap (λ t. t ∷ plus xs (shares_after h 0 (c + v) vs)) nothing ∙ ap (λ t. x ∷ t) (plus_none h (c + v) xs vs (omega arith))

pub one_group : OneGroup
one_group g h ws vs same none = rw none (plus_none h 0 (shares g ws) vs (length-shares g (sum ws) 0 ws ∙ same))

pub sharing_laws : SharingLaws
sharing_laws = record { adds_up = shares_add_up; near = shares_are_near; own_group = own_group_only; finals = finals_add_up; one_group = one_group }
