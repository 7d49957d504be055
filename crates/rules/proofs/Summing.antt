-- One turn of summing shares by supplier, and its end. Assumes nothing.
use Rattle.std.proofs.Common.{◌≡◌, ℕ, ◌+◌, ◌≤◌, ◌⊎◌, List, [], ◌∷◌, length, get_or, take, drop, Ok, sum, sym, ap, ◌∙◌, length-drop, inl, inr, arith}
use Rattle.std.proofs.lemmas.List.Sums.{sum_by_push, sum_by-take-le}
use Rattle.std.proofs.lemmas.List.{length-take-le, take_all}
use Rattle.rules.specs.Ranges.{most}
use Rattle.rules.specs.Shares.{sharing, finals, unless_refused}
use Rattle.rules.specs.Obligations.{obligations, obliging, added}
use Rattle.rules.proofs.Shares.{length-finals, shares_le, finals_add_up}
use Rattle.rules.proofs.Weighing.{sharing-told}
use Rattle.rules.proofs.Suppliers.{place_le, obligations_push}
use Rattle.rules.proofs.Serving.{one_left, next_is, left_more, seen_more, ended}

-- Of the suppliers and of all shares those from k on are left; the sums are of those before.
pub record Summed (suppliers all sums : List ℕ) (k : ℕ) (left rest : List ℕ) : Type 0 where
  pub suppliers_left : drop k suppliers ≡ left
  pub shares_left : drop k all ≡ rest
  pub summed : sums ≡ obligations suppliers (take k all)
  pub within : k ≤ length all

-- the next supplier and its share
module _ {suppliers all sums : List ℕ} {k s x : ℕ} {left rest left' rest' : List ℕ} (h : Summed suppliers all sums k left rest) (next-s : left ≡ s ∷ left') (next-x : rest ≡ x ∷ rest') where
  at-s : drop k suppliers ≡ s ∷ left'
  at-s = h.suppliers_left ∙ next-s

  at-x : drop k all ≡ x ∷ rest'
  at-x = h.shares_left ∙ next-x

  pub sums_more : Summed suppliers all (added sums s x) (k + 1) left' rest'
  sums_more =
      let long : length (take k all) ≡ k = length-take-le k all h.within in
      let is : s ≡ get_or suppliers (length (take k all)) 0 = sym (next_is suppliers k s left' at-s) ∙ ap (λ n. get_or suppliers n 0) (sym long) in
      record {
        suppliers_left = left_more suppliers k s left' at-s;
        shares_left = left_more all k x rest' at-x;
        summed = ap (λ t. added t s x) h.summed ∙ sym (obligations_push suppliers (take k all) s x (omega (arith, long, one_left suppliers k s left' at-s)) is) ∙ ap (obligations suppliers) (sym (seen_more all k x rest' at-x));
        within = omega (arith, one_left all k x rest' at-x);
      }

  -- no sum comes above that of all shares
  pub sums_fit : (place : ℕ) → get_or sums place 0 + x ≤ sum all
  sums_fit place =
      let before : get_or sums place 0 ≤ sum (take k all) = rw h.summed (place_le suppliers (take k all) place) in
      let more : sum (take (k + 1) all) ≡ sum (take k all) + x = ap sum (seen_more all k x rest' at-x) ∙ sum_by_push (λ n. n) (take k all) x in
      omega (arith, sum_by-take-le (λ n. n) all (k + 1))

module _ (g h : ℕ) (ws vs suppliers : List ℕ) (same : length ws ≡ length vs) (ok : sharing g h ws vs (length suppliers) ≡ Ok tt) where
  -- all shares are at most the two totals
  pub finals_small : sum (finals g h ws vs) ≤ most + most
  finals_small = let told = sharing-told g h ws vs (length suppliers) ok in omega (arith, finals_add_up g h ws vs same, shares_le g ws, shares_le h vs, told.0, told.1)

  -- no supplier or no share is left
  pub all_summed : {sums left rest : List ℕ} {k : ℕ} → Summed suppliers (finals g h ws vs) sums k left rest → (length left ≡ 0) ⊎ (rest ≡ []) → Ok sums ≡ obliging g h ws vs suppliers
  all_summed {sums = sums} {left = left} {k = k} summed none =
      let all = finals g h ws vs in
      let end : k ≡ length all = elim none [
        | inl n ↦ omega (arith, summed.within, length-drop k suppliers, ap length summed.suppliers_left, length-finals g h ws vs same, (sharing-told g h ws vs (length suppliers) ok).2)
        | inr n ↦ ended all k (summed.shares_left ∙ n) summed.within
      ] in
      let is : sums ≡ obligations suppliers all = summed.summed ∙ ap (obligations suppliers) (take_all k all (omega arith)) in
      ap Ok is ∙ sym (ap (λ r. unless_refused r (obligations suppliers all)) ok)
