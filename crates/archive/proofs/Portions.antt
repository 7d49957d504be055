-- What one row adds to the sums of an hour.
use Rattle.std.proofs.Common.{◌≡◌, ℕ, true, false, ◌&&◌, eqb, ℤ, pos, arith}
use Rattle.std.proofs.lemmas.Int.{ints}
use Rattle.std.proofs.lemmas.Bool.{eq-eqb, ne_eqb, and_from, and_left, and_right, cond-true, cond-false, cond_both}
use Rattle.std.proofs.lemmas.Bool.Decides.{nat_tests}
use Rattle.rows.specs.declared.Row.{Row}
use Rattle.rows.specs.declared.Kind.{Kind}
use Rattle.rows.specs.Lawful.{Lawful, bookable}
use Rattle.rows.proofs.Lawfully.{lawful_ranges}
use Rattle.archive.specs.Sums.{in_hour, portion, hour_portion}
use Rattle.archive.proofs.Totals.{Within}

pub bookable_within : (z : ℤ) → bookable z ≡ true → Within 3000000000 z
bookable_within z h = grind (arith, ints, nat_tests)

module _ (k : Kind) (d h : ℕ) where
  pub portion_in : (s : ℕ) (r : Row) → in_hour k d h r ≡ true → r.supplier ≡ s → portion k d h s r ≡ r.amount
  portion_in s r a b = cond-true (in_hour k d h r && eqb r.supplier s) r.amount (pos 0) (and_from (in_hour k d h r) (eqb r.supplier s) a (eq-eqb r.supplier s b))

  pub portion_out : (s : ℕ) (r : Row) → in_hour k d h r ≡ false → portion k d h s r ≡ pos 0
  portion_out s r a = cond-false (in_hour k d h r && eqb r.supplier s) r.amount (pos 0) (and_left (in_hour k d h r) (eqb r.supplier s) a)

  pub portion_other : (s : ℕ) (r : Row) → (r.supplier ≡ s → ⊥) → portion k d h s r ≡ pos 0
  portion_other s r a = cond-false (in_hour k d h r && eqb r.supplier s) r.amount (pos 0) (and_right (in_hour k d h r) (eqb r.supplier s) (ne_eqb r.supplier s a))

  pub portion_within : (s : ℕ) (r : Row) → Lawful r → Within 3000000000 (portion k d h s r)
  portion_within s r l =
      cond_both (in_hour k d h r && eqb r.supplier s) r.amount (pos 0) (Within 3000000000) (λ _. bookable_within r.amount (lawful_ranges r l).amount) (λ _. omega (arith, ints))

  pub hour_portion_within : (r : Row) → Lawful r → Within 3000000000 (hour_portion k d h r)
  hour_portion_within r l =
      cond_both (in_hour k d h r) r.amount (pos 0) (Within 3000000000) (λ _. bookable_within r.amount (lawful_ranges r l).amount) (λ _. omega (arith, ints))
