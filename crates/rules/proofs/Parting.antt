-- What the laws of an arrangement give the totals of the groups. Assumes nothing.
use Rattle.std.proofs.Common.{◌≡◌, ℕ, ◌+◌, ◌≤◌, ◌||◌, ℤ, pos, negsuc, ◌+ℤ◌, nat_abs, IfOk, Err, Result, ap, ◌∙◌, arith, w64, to_z, of_z}
use Rattle.std.proofs.lemmas.Int.{ints}
use Rattle.std.proofs.lemmas.Bool.{cond_both}
use Rattle.refusals.specs.declared.Refusal.{Refusal}
use Rattle.refusals.specs.declared.Cause.TheVariants.{UnloadedGroup}
use Rattle.refusals.specs.declared.Layer.TheVariants.{Sharing}
use Rattle.refusals.specs.Numbers.{refusal}
use Rattle.rules.specs.Ranges.{most}
use Rattle.rules.specs.Parts.{unaccounted, Sided}
use Rattle.rules.specs.Totals.{unloaded, naturals, lawful_totals, with_parts}
use Rattle.rules.specs.Portions.{parts-small}

-- a small number is the same in 64 bits
pub through : (z : ℤ) → nat_abs z ≤ most + most → to_z w64 (of_z w64 z) ≡ z
through z h = omega (arith, ints)

-- the answer r is the meaning m, which parts u
module _ (u : ℤ) (r m : ℤ × ℤ) (is : r ≡ m) (whole : m.0 +ℤ m.1 ≡ u) (sided : Sided u m.0 × Sided u m.1) (small : nat_abs u ≤ most) where
  small-parts : (nat_abs m.0 ≤ most) × (nat_abs m.1 ≤ most)
  small-parts = let p = parts-small u m.0 m.1 whole sided.0 sided.1 in (omega (arith, p.0), omega (arith, p.1))

  first_is : to_z w64 (of_z w64 r.0) ≡ m.0
  first_is = rw is (through m.0 (omega (arith, small-parts.0)))

  second_is : to_z w64 (of_z w64 r.1) ≡ m.1
  second_is = rw is (through m.1 (omega (arith, small-parts.1)))

  pub second_small : nat_abs (to_z w64 (of_z w64 r.1)) ≤ most
  second_small = rw second_is small-parts.1

  -- the totals s and t that the code makes are those of the rule
  pub totalled : (wi wp : ℕ) (s t : ℤ) (res : Result (ℕ × ℕ) Refusal) → s ≡ pos wi +ℤ to_z w64 (of_z w64 r.0) → t ≡ pos wp +ℤ to_z w64 (of_z w64 r.1) → res ≡ lawful_totals wi wp s t → res ≡ with_parts wi wp m
  totalled wi wp s t res e f told =
      told ∙ ap (λ z. lawful_totals wi wp z t) (e ∙ ap (λ z. pos wi +ℤ z) first_is) ∙ ap (lawful_totals wi wp (pos wi +ℤ m.0)) (f ∙ ap (λ z. pos wp +ℤ z) second_is)

naturals-whole : (zone : ℕ) (s t : ℤ) → s +ℤ t ≡ pos zone → IfOk (naturals s t) (λ n. n.0 + n.1 ≡ zone)
naturals-whole zone (pos a) (pos b) e = omega (arith, ints)
naturals-whole zone (pos a) (negsuc b) e = tt
naturals-whole zone (negsuc a) t e = tt

-- totals that are not refused sum to the zone load
pub totals-whole : (zone wi wp : ℕ) (p : ℤ × ℤ) → p.0 +ℤ p.1 ≡ unaccounted zone wi wp → IfOk (with_parts wi wp p) (λ n. n.0 + n.1 ≡ zone)
totals-whole zone wi wp p e =
    let s = pos wi +ℤ p.0 in
    let t = pos wp +ℤ p.1 in
    cond_both (unloaded wi s || unloaded wp t) (Err (refusal UnloadedGroup Sharing 0)) (naturals s t) (λ r. IfOk r (λ n. n.0 + n.1 ≡ zone)) (λ b. tt) (λ b. naturals-whole zone s t (omega (arith, ints)))
