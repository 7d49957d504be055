-- When the weights of a sheet, and with them its sharing, are refused. Assumes nothing.
use Rattle.std.proofs.Common.{◌≡◌, ℕ, ◌+◌, ◌<◌, ◌≤◌, cond, ◌&&◌, leb, List, ◌++◌, map, length, get_or, take, drop, Ok, Err, sum_by, sum, Result, sym, refl, ap, arith}
use Rattle.std.proofs.lemmas.List.Sums.{sum-map, sum_by_more, sum_by-take-le}
use Rattle.std.proofs.lemmas.Bool.{cond-false, cond_both, lt-leb, leb-true, and_parts}
use Rattle.refusals.specs.declared.Refusal.{Refusal}
use Rattle.refusals.specs.declared.Cause.TheVariants.{OutOfRange, ListTooShort, LoadsTooHigh}
use Rattle.refusals.specs.declared.Layer.TheVariants.{Sheet, Sharing}
use Rattle.refusals.specs.Numbers.{refusal}
use Rattle.rules.specs.Ranges.{most}
use Rattle.rules.specs.Shares.{weighed, if_weighed, sharing, unless_refused, if_shared, shared, finals}

-- the weights of lines, as sums over them
module _ {L : Type 0} (f s : L → ℕ) (ls : List L) where
  both_sums : sum (map f ls) + sum (map s ls) ≡ sum_by f ls + sum_by s ls
  both_sums = omega (arith, sum-map f ls, sum-map s ls)

  pub weighed_heavy : most < sum_by f ls + sum_by s ls → Err (refusal LoadsTooHigh Sharing 0) ≡ weighed (map f ls) (map s ls)
  weighed_heavy h = sym (cond-false _ _ _ (lt-leb (sum (map f ls) + sum (map s ls)) most (omega (arith, both_sums))))

-- the weight of the next line, with those before, is within the whole
pub weight_within : {L : Type 0} (f : L → ℕ) (ls : List L) (i x : ℕ) (l : L) → i < length ls → l ≡ get_or ls i l → x ≡ f l → sum_by f (take i ls) + x ≤ sum_by f ls
weight_within f ls i x l lt at weight = omega (arith, ap f at, sum_by_more f ls i l lt, sum_by-take-le f ls (i + 1))

-- what an answer tells
pub weights_are : (ws vs : List ℕ) (t : ℕ × ℕ) → Ok t ≡ weighed ws vs → (t.0 ≡ sum ws) × (t.1 ≡ sum vs) × (sum ws + sum vs ≤ most)
weights_are ws vs t =
    let P : Result (ℕ × ℕ) Refusal → Type 0 = λ r. Ok t ≡ r → (t.0 ≡ sum ws) × (t.1 ≡ sum vs) × (sum ws + sum vs ≤ most) in
    cond_both (leb (sum ws + sum vs) most) (Ok (sum ws, sum vs)) (Err (refusal LoadsTooHigh Sharing 0)) P
    (λ yes e. let t-is : t ≡ (sum ws, sum vs) = cc in (ap (λ u. u.0) t-is, ap (λ u. u.1) t-is, leb-true (sum ws + sum vs) most yes))
    (λ no e. cc)

-- what sharing answers
module _ (g h : ℕ) (ws vs : List ℕ) (room : ℕ) where
  weights_light : if_weighed (weighed ws vs) ≡ Ok tt → sum ws + sum vs ≤ most
  weights_light =
      cond_both (leb (sum ws + sum vs) most) (Ok (sum ws, sum vs)) (Err (refusal LoadsTooHigh Sharing 0)) (λ r. if_weighed r ≡ Ok tt → sum ws + sum vs ≤ most)
      (λ yes e. leb-true (sum ws + sum vs) most yes) (λ no e. cc)

  -- what sharing that is not refused tells
  pub sharing-told : sharing g h ws vs room ≡ Ok tt → (g ≤ most) × (h ≤ most) × (length ws ≤ room) × (sum ws + sum vs ≤ most)
  sharing-told =
      let P : Result (Unit {0}) Refusal → Type 0 = λ r. r ≡ Ok tt → (g ≤ most) × (h ≤ most) × (length ws ≤ room) × (sum ws + sum vs ≤ most) in
      cond_both (leb g most && leb h most) (cond (leb (length ws) room) (if_weighed (weighed ws vs)) (Err (refusal ListTooShort Sheet 0))) (Err (refusal OutOfRange Sheet 0)) P
      (λ yes. cond_both (leb (length ws) room) (if_weighed (weighed ws vs)) (Err (refusal ListTooShort Sheet 0)) P
      (λ long e. let both = and_parts (leb g most) (leb h most) yes in (leb-true g most both.0, leb-true h most both.1, leb-true (length ws) room long, weights_light e))
      (λ short e. cc))
      (λ no e. cc)

-- an answer that sharing decides
module _ {X : Type 0} (x : X) where
  pub not_refused : (s : Result (Unit {0}) Refusal) (y : X) → Ok y ≡ unless_refused s x → (s ≡ Ok tt) × (y ≡ x)
  not_refused (Ok t) y e = (refl, cc)
  not_refused (Err r) y e = cc

  pub was_refused : (s : Result (Unit {0}) Refusal) (r : Refusal) → Err r ≡ unless_refused s x → s ≡ Err r
  was_refused (Ok t) r e = cc
  was_refused (Err q) r e = let same : q ≡ r = cc in ap Err same

-- what it leaves in the list
module _ {X : Type 0} (amount : ℕ → X) (g h : ℕ) (ws vs : List ℕ) (list : List X) where
  pub served : sharing g h ws vs (length list) ≡ Ok tt → map amount (finals g h ws vs) ++ drop (length ws) list ≡ shared amount g h ws vs list
  served ok = sym (ap (λ r. if_shared r (map amount (finals g h ws vs) ++ drop (length ws) list) list) ok)
