-- Products of figures that are in range fit 64 bits. Assumes nothing.
use Rattle.std.proofs.Common.{◌≡◌, ℕ, ◌*◌, ◌≤◌, true, arith}
use Rattle.std.proofs.lemmas.Nat.{mul-le}
use Rattle.std.proofs.lemmas.Bool.Decides.{nat_tests}
use Rattle.rules.specs.Ranges.{is_loss_factor, is_profile_load, is_usage}

-- no load before it is divided is above this
abbrev pub greatest : ℕ
greatest = 2000000000000000000

pub loss_small : (loss : ℕ) → is_loss_factor loss ≡ true → loss ≤ 20000
loss_small loss h = grind (arith, nat_tests)

pub usage_small : (n : ℕ) → is_usage n ≡ true → n ≤ 100000000
usage_small n h = grind (arith, nat_tests)

pub profile_small : (n : ℕ) → is_profile_load n ≡ true → n ≤ 1000000
profile_small n h = grind (arith, nat_tests)

pub product_small : (a b c m n k : ℕ) → a ≤ m → b ≤ n → c ≤ k → a * b * c ≤ m * n * k
product_small a b c m n k p q r = mul-le (a * b) c (m * n) k (mul-le a b m n p q) r
