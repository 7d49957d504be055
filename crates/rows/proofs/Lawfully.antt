-- What a lawful row is known to have, and what makes one unlawful.
use Rattle.std.proofs.Common.{◌≡◌, ℕ, ◌≤◌, true, false, leb, ℤ, nat_abs, arith, w64, SFits}
use Rattle.std.proofs.lemmas.Bool.{and_parts, and_left, and_right, leb-true}
use Rattle.std.proofs.lemmas.Bool.Decides.{nat_tests}
use Rattle.rows.specs.declared.Row.{Row}
use Rattle.rows.specs.Lawful.{between, bookable, timely, lawful, Lawful}

pub between-parts : (low high n : ℕ) → between low high n ≡ true → (low ≤ n) × (n ≤ high)
between-parts low high n e =
    let p = and_parts (leb low n) (leb n high) e in
    (leb-true low n p.0, leb-true n high p.1)

pub unbookable : (r : Row) → bookable r.amount ≡ false → lawful r ≡ false
unfolding lawful
unbookable r h =
    and_right (between 1 60000 r.day) _ (and_right (between 1 32 r.supplier) _ (and_left (bookable r.amount) (timely r.kind r.hour r.stage) h))

pub record Ranges (r : Row) : Type 0 where
  pub day : (1 ≤ r.day) × (r.day ≤ 60000)
  pub supplier : (1 ≤ r.supplier) × (r.supplier ≤ 32)
  pub amount : bookable r.amount ≡ true

pub lawful_ranges : (r : Row) → Lawful r → Ranges r
unfolding lawful
lawful_ranges r h =
    let p = and_parts (between 1 60000 r.day) _ h in
    let q = and_parts (between 1 32 r.supplier) _ p.1 in
    let t = and_parts (bookable r.amount) _ q.1 in
    record { day = between-parts 1 60000 r.day p.0; supplier = between-parts 1 32 r.supplier q.0; amount = t.0 }

pub bookable-fits : (a : ℤ) → bookable a ≡ true → SFits w64 a
bookable-fits a h = grind (arith, nat_tests)

pub bookable-small : (a : ℤ) → bookable a ≡ true → nat_abs a ≤ 3000000000
bookable-small a h = grind (arith, nat_tests)
