-- One turn of handing out shares, and its end. Assumes nothing.
use Rattle.std.proofs.Common.{◌≡◌, ℕ, ◌+◌, ◌<◌, ◌≤◌, List, [], ◌∷◌, ◌++◌, map, length, get_or, take, drop, set, Ok, sym, ap, ◌∙◌, length-drop, arith}
use Rattle.rules.specs.Shares.{sharing, finals, shared}
use Rattle.rules.proofs.Shares.{length-finals}
use Rattle.rules.proofs.Weighing.{sharing-told, served}
use Rattle.std.proofs.lemmas.List.{append_assoc, length-map, length-take-le, map_push, drop_more, take_more, set_at, take_all}

-- of a list those from i on are left, x first
module _ (all : List ℕ) (i x : ℕ) (others : List ℕ) (left : drop i all ≡ x ∷ others) where
  pub one_left : i < length all
  one_left = omega (arith, length-drop i all, ap length left)

  here : get_or all i 0 ∷ drop (i + 1) all ≡ x ∷ others
  here = sym (drop_more all i 0 one_left) ∙ left

  pub next_is : get_or all i 0 ≡ x
  next_is = cc here

  pub left_more : drop (i + 1) all ≡ others
  left_more = cc here

  pub seen_more : take (i + 1) all ≡ take i all ++ x ∷ []
  seen_more = take_more all i 0 one_left ∙ ap (λ y. take i all ++ y ∷ []) next_is

-- Of all shares those from i on are left; the list has those before, and then what it had.
pub record Handed {A : Type 0} (amount : ℕ → A) (all : List ℕ) (old list : List A) (i : ℕ) (rest : List ℕ) : Type 0 where
  pub shares_left : drop i all ≡ rest
  pub written : list ≡ map amount (take i all) ++ drop i old
  pub within : i ≤ length all

-- the next share is written to its place
pub turn : {A : Type 0} {amount : ℕ → A} {all : List ℕ} {old list : List A} {i x : ℕ} {rest others : List ℕ} →
    Handed amount all old list i rest → i < length old → rest ≡ x ∷ others → Handed amount all old (set list i (amount x)) (i + 1) others
turn {amount = amount} {all = all} {old = old} {list = list} {i = i} {x = x} {others = others} h lt next =
    let left = h.shares_left ∙ next in
    let before = map amount (take i all) in
    let len : length before ≡ i = length-map (take i all) amount ∙ length-take-le i all h.within in
    let pushed : map amount (take (i + 1) all) ≡ before ++ amount x ∷ [] = ap (map amount) (seen_more all i x others left) ∙ map_push amount (take i all) x in
    let more : drop i old ≡ get_or old i (amount 0) ∷ drop (i + 1) old = drop_more old i (amount 0) lt in
    record {
      shares_left = left_more all i x others left;
      written = ap (λ t. set t i (amount x)) (h.written ∙ ap (λ t. before ++ t) more) ∙ set_at before (get_or old i (amount 0)) (drop (i + 1) old) (amount x) i len
          ∙ sym (append_assoc before (amount x ∷ []) (drop (i + 1) old)) ∙ ap (λ t. t ++ drop (i + 1) old) (sym pushed);
      within = omega (arith, one_left all i x others left);
    }

-- none is left
pub ended : (all : List ℕ) (i : ℕ) → drop i all ≡ [] → i ≤ length all → i ≡ length all
ended all i left h = omega (arith, length-drop i all, ap length left)

module _ (g h : ℕ) (ws vs : List ℕ) {A : Type 0} {amount : ℕ → A} {rest : List ℕ} {old list : List A} {i : ℕ} (same : length ws ≡ length vs) (ok : sharing g h ws vs (length old) ≡ Ok tt)
    (handed : Handed amount (finals g h ws vs) old list i rest) where
  all_handed : i ≡ length (finals g h ws vs) → list ≡ shared amount g h ws vs old
  all_handed e =
      handed.written ∙ ap (λ t. map amount t ++ drop i old) (take_all i (finals g h ws vs) (omega arith))
      ∙ ap (λ n. map amount (finals g h ws vs) ++ drop n old) (e ∙ length-finals g h ws vs same) ∙ served amount g h ws vs old ok

  pub none_left : rest ≡ [] → list ≡ shared amount g h ws vs old
  none_left none = all_handed (ended (finals g h ws vs) i (handed.shares_left ∙ none) handed.within)

  pub no_place_left : length old ≤ i → list ≡ shared amount g h ws vs old
  no_place_left full = all_handed (omega (arith, handed.within, length-finals g h ws vs same, (sharing-told g h ws vs (length old) ok).2))

pub same_lines : {L : Type 0} (f s : L → ℕ) (ls : List L) → length (map f ls) ≡ length (map s ls)
same_lines f s ls = length-map ls f ∙ sym (length-map ls s)
