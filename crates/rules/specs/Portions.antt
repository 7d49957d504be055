-- The laws of a portion rounded toward zero. Assumes nothing.
use Rattle.std.specs.Prelude.{◌≡◌, ℕ, zero, suc, ◌*◌, ◌/◌, ◌≤◌, ℤ, pos, negsuc, ◌+ℤ◌, ◌-ℤ◌, ◌*ℤ◌, neg_ℤ, FitsSigned, int_div, unsigned_abs, refl}
use Rattle.std.proofs.Common.{mul_comm, mul-le-mul_left, arith, to_z, of_z}
use Rattle.std.proofs.Math.Nat.{zero-div, div-le_of_le-mul}
use Rattle.std.specs.Int.{w64}
use Rattle.std.proofs.lemmas.Nat.{mul-le}
use Rattle.std.proofs.lemmas.Int.{ints, to_z-of_z, to_z_pos}
use Rattle.std.proofs.lemmas.Bool.{cond_both}
use Rattle.rules.specs.Ranges.{most}
use Rattle.rules.specs.Parts.{can_part, parted, portion, Sided}

quot_neg : (m b : ℕ) → int_div (neg_ℤ (pos m)) (pos b) ≡ neg_ℤ (pos (m / b))
quot_neg zero b = rw zero-div
quot_neg (suc m) b = refl

pub portion_neg : (n a b : ℕ) → portion (negsuc n) a b ≡ neg_ℤ (pos (suc n * a / b))
portion_neg n a b = quot_neg (suc n * a) b

pub at_most : (n a b : ℕ) → a ≤ b → n * a / b ≤ n
at_most n a b h = div-le_of_le-mul b (omega (arith, mul-le-mul_left n h, mul_comm b n))

-- The portion and the rest lie between 0 and u.
pub record Between (u x : ℤ) : Type 0 where
  pub side : Sided u x
  pub small : unsigned_abs x ≤ unsigned_abs u

between_pos : (n m : ℕ) → m ≤ n → Between (pos n) (pos m)
between_pos n m h = record { side = record { not_below = λ p. omega (arith, ints); not_above = λ p. omega (arith, ints); none = λ p. omega (arith, ints) }; small = h }

between_neg : (n m : ℕ) → m ≤ suc n → Between (negsuc n) (neg_ℤ (pos m))
between_neg n m h = record { side = record { not_below = λ p. omega (arith, ints); not_above = λ p. omega (arith, ints); none = λ p. omega (arith, ints) }; small = omega (arith, ints) }

pub portion-between : (u : ℤ) (a b : ℕ) → a ≤ b → Between u (portion u a b)
portion-between (pos n) a b h = between_pos n (n * a / b) (at_most n a b h)
portion-between (negsuc n) a b h = rw portion_neg (between_neg n (suc n * a / b) (at_most (suc n) a b h))

pub rest_between : (u x : ℤ) → Between u x → Between u (u -ℤ x)
rest_between (pos n) x r =
    let s = r.side.not_below (omega (arith, ints)) in
    record { side = record { not_below = λ p. omega (arith, ints, r.small); not_above = λ p. omega (arith, ints, r.small, r.side.not_above p); none = λ p. omega (arith, ints, r.small) }; small = omega (arith, ints, r.small) }
rest_between (negsuc n) x r =
    let s = r.side.not_above (omega (arith, ints)) in
    record { side = record { not_below = λ p. omega (arith, ints, r.small); not_above = λ p. omega (arith, ints, r.small); none = λ p. omega (arith, ints, r.small) }; small = omega (arith, ints, r.small) }

pub nothing_between : (u : ℤ) → Between u (pos 0)
nothing_between u = record { side = record { not_below = λ p. omega (arith, ints); not_above = λ p. omega (arith, ints); none = λ p. omega (arith, ints) }; small = omega (arith, ints) }

pub all_between : (u : ℤ) → Between u u
all_between u = record { side = record { not_below = λ p. p; not_above = λ p. p; none = λ p. p }; small = omega arith }

pub parted-sided : (u : ℤ) (wi wp : ℕ) (i : ℤ) → Between u i → Sided u (parted u wi wp i).0 × Sided u (parted u wi wp i).1
parted-sided u wi wp i r =
    cond_both {A = ℤ × ℤ} (can_part u wi wp) (i, u -ℤ i) (pos 0, u) (λ x. Sided u x.0 × Sided u x.1)
    (λ e. (r.side, (rest_between u i r).side)) (λ e. ((nothing_between u).side, (all_between u).side))

-- Parts that add up to u, neither of the opposite sign, are no greater than u.
pub parts-small : (u x y : ℤ) → x +ℤ y ≡ u → Sided u x → Sided u y → (unsigned_abs x ≤ unsigned_abs u) × (unsigned_abs y ≤ unsigned_abs u)
parts-small (pos n) x y e sx sy =
    let p = sx.not_below (omega (arith, ints)) in
    let q = sy.not_below (omega (arith, ints)) in
    (omega (arith, ints), omega (arith, ints))
parts-small (negsuc n) x y e sx sy =
    let p = sx.not_above (omega (arith, ints)) in
    let q = sy.not_above (omega (arith, ints)) in
    (omega (arith, ints), omega (arith, ints))

-- u × a fits 64 bits, as does the portion, so the machine's numbers are those of the rule.
product_fits : (u : ℤ) (a : ℕ) → unsigned_abs u ≤ most → a ≤ most → FitsSigned w64 (u *ℤ pos a)
product_fits (pos n) a p q = omega (arith, ints, mul-le n a most most p q)
product_fits (negsuc n) a p q = omega (arith, ints, mul-le (suc n) a most most p q)

small-fits : (z : ℤ) → unsigned_abs z ≤ most → FitsSigned w64 z
small-fits z p = omega (arith, ints)

module _ (u : ℤ) (a b : ℕ) (small : unsigned_abs u ≤ most) (part : a ≤ b) (limit : b ≤ most) where
  back : to_z w64 (of_z w64 u) ≡ u
  back = to_z-of_z w64 u (small-fits u small)

  a_is : to_z w64 a ≡ pos a
  a_is = to_z_pos w64 a (omega arith)

  b_is : to_z w64 b ≡ pos b
  b_is = to_z_pos w64 b (omega arith)

  pub fits : FitsSigned w64 (to_z w64 (of_z w64 u) *ℤ to_z w64 a)
  fits = rw (back, a_is) (product_fits u a small (omega arith))

  pub computed : to_z w64 (of_z w64 (int_div (to_z w64 (of_z w64 (to_z w64 (of_z w64 u) *ℤ to_z w64 a))) (to_z w64 b))) ≡ portion u a b
  computed =
      rw (back, a_is, b_is, to_z-of_z w64 (u *ℤ pos a) (product_fits u a small (omega arith)))
      (to_z-of_z w64 (portion u a b) (small-fits (portion u a b) (omega (arith, (portion-between u a b part).small))))

  pub computed-small : unsigned_abs (to_z w64 (of_z w64 (int_div (to_z w64 (of_z w64 (to_z w64 (of_z w64 u) *ℤ to_z w64 a))) (to_z w64 b)))) ≤ unsigned_abs u
  computed-small = rw computed (portion-between u a b part).small
