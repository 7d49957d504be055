-- What totals that are not refused tell, and that the lines then receive the whole zone load. Assumes nothing.
use Rattle.std.proofs.Common.{◌≡◌, ℕ, ◌+◌, ◌≤◌, false, ◌||◌, eqb, leb, List, length, ℤ, pos, negsuc, ◌+ℤ◌, Ok, Err, sum, Result, sym, ap, ◌∙◌, inl, inr, arith}
use Rattle.std.proofs.lemmas.Int.{ints}
use Rattle.std.proofs.lemmas.Bool.{cond_both, leb-true, leb-false, eq-eqb, both_ways, and_cases, or_parts, cases_lt}
use Rattle.refusals.specs.declared.Refusal.{Refusal}
use Rattle.refusals.specs.declared.Cause.TheVariants.{LoadsTooHigh, UnloadedGroup}
use Rattle.refusals.specs.declared.Layer.TheVariants.{Sharing}
use Rattle.refusals.specs.Numbers.{refusal}
use Rattle.rules.specs.Ranges.{most}
use Rattle.rules.specs.Parts.{unaccounted}
use Rattle.rules.specs.Shares.{shares, finals}
use Rattle.rules.specs.Totals.{unloaded, naturals, with_parts, group_totals}
use Rattle.rules.proofs.Shares.{shares_add_up, finals_add_up}

-- totals t at a zone load and loads wi and wp
pub record Totalled (zone wi wp : ℕ) (t : ℕ × ℕ) : Type 0 where
  pub whole : t.0 + t.1 ≡ zone
  pub none_first : wi ≡ 0 → t.0 ≡ 0
  pub none_second : wp ≡ 0 → t.1 ≡ 0
  pub first_small : t.0 ≤ most
  pub second_small : t.1 ≤ most
  pub zone-small : zone ≤ most
  pub loads-small : wi + wp ≤ most

nothing_unloaded : (w a : ℕ) → unloaded w (pos a) ≡ false → w ≡ 0 → a ≡ 0
nothing_unloaded w a bears e = elim (and_cases (eqb w 0) (leb 1 a) bears) [
  | inl f ↦ absurd (both_ways (eqb w 0) f (eq-eqb w 0 e))
  | inr f ↦ omega (arith, leb-false 1 a f)
]

module _ (zone wi wp : ℕ) (t : ℕ × ℕ) (z-small : zone ≤ most) (w-small : wi + wp ≤ most) where
  naturals-told : (s r : ℤ) → s +ℤ r ≡ pos zone → unloaded wi s ≡ false → unloaded wp r ≡ false → naturals s r ≡ Ok t → Totalled zone wi wp t
  naturals-told (pos a) (pos b) e f g told =
      let t-is : (a, b) ≡ t = cc in
      let first : a ≡ t.0 = ap (λ u. u.0) t-is in
      let second : b ≡ t.1 = ap (λ u. u.1) t-is in
      let both : a + b ≡ zone = omega (arith, ints) in
      record {
        whole = omega arith;
        none_first = λ w. sym first ∙ nothing_unloaded wi a f w;
        none_second = λ w. sym second ∙ nothing_unloaded wp b g w;
        first_small = omega arith;
        second_small = omega arith;
        zone-small = z-small;
        loads-small = w-small;
      }
  naturals-told (pos a) (negsuc b) e f g told = cc
  naturals-told (negsuc a) r e f g told = cc

  parts-told : (p : ℤ × ℤ) → p.0 +ℤ p.1 ≡ unaccounted zone wi wp → with_parts wi wp p ≡ Ok t → Totalled zone wi wp t
  parts-told p e =
      let s = pos wi +ℤ p.0 in
      let r = pos wp +ℤ p.1 in
      cond_both (unloaded wi s || unloaded wp r) (Err (refusal UnloadedGroup Sharing 0)) (naturals s r) (λ x. x ≡ Ok t → Totalled zone wi wp t)
      (λ yes told. cc)
      (λ bear told. let parts = or_parts (unloaded wi s) (unloaded wp r) bear in naturals-told s r (omega (arith, ints)) parts.0 parts.1 told)

-- a total that is 0 where there is no weight arrives
pub arrives : (g : ℕ) (ws : List ℕ) → (sum ws ≡ 0 → g ≡ 0) → sum (shares g ws) ≡ g
arrives g ws none = elim (cases_lt 0 (sum ws)) [
  | inl p ↦ (shares_add_up g ws).0 p
  | inr p ↦ let empty : sum ws ≡ 0 = omega arith in (shares_add_up g ws).1 empty ∙ sym (none empty)
]

-- an arrangement of the meaning m, whose parts add up
module _ (m : ℤ → ℕ → ℕ → ℤ × ℤ) (adds_up : (u : ℤ) (wi wp : ℕ) → (m u wi wp).0 +ℤ (m u wi wp).1 ≡ u) where
  pub totals-told : (zone wi wp : ℕ) (t : ℕ × ℕ) → group_totals m zone wi wp ≡ Ok t → Totalled zone wi wp t
  totals-told zone wi wp t =
      let u = unaccounted zone wi wp in
      let P : Result (ℕ × ℕ) Refusal → Type 0 = λ r. r ≡ Ok t → Totalled zone wi wp t in
      cond_both (leb zone most) _ _ P
      (λ yes. cond_both (leb (wi + wp) most) (with_parts wi wp (m u wi wp)) (Err (refusal LoadsTooHigh Sharing 0)) P
      (λ light. parts-told zone wi wp t (leb-true zone most yes) (leb-true (wi + wp) most light) (m u wi wp) (adds_up u wi wp)) (λ heavy told. cc))
      (λ far told. cc)

  -- the lines receive the zone load, whole
  pub finals-whole : (zone : ℕ) (ws vs : List ℕ) (t : ℕ × ℕ) → group_totals m zone (sum ws) (sum vs) ≡ Ok t → length ws ≡ length vs → sum (finals t.0 t.1 ws vs) ≡ zone
  finals-whole zone ws vs t told same =
      let totals = totals-told zone (sum ws) (sum vs) t told in
      omega (arith, finals_add_up t.0 t.1 ws vs same, arrives t.0 ws totals.none_first, arrives t.1 vs totals.none_second, totals.whole)
