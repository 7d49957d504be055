-- How unaccounted energy u is parted between the interval lines, of load wi, and the profiled lines, of load wp.
use Rattle.std.specs.Prelude.{◌≡◌, ℕ, ◌+◌, Bool, cond, ◌&&◌, ℤ, pos, ◌+ℤ◌, ◌-ℤ◌, ◌*ℤ◌, ◌≤ℤ◌, int_div, nat_le, unsigned_abs}
use Rattle.rules.specs.Ranges.{most}

-- zone load less the sum of the loads
abbrev pub unaccounted : ℕ → ℕ → ℕ → ℤ
unaccounted zone wi wp = pos zone -ℤ (pos wi +ℤ pos wp)

-- Neither the loads together nor u without its sign are above the most.
abbrev pub can_part : ℤ → ℕ → ℕ → Bool
can_part u wi wp = nat_le (wi + wp) most && nat_le (unsigned_abs u) most

-- the interval part i, and the rest of u; 0 and u where it cannot be parted
abbrev pub parted : ℤ → ℕ → ℕ → ℤ → ℤ × ℤ
parted u wi wp i = cond (can_part u wi wp) (i, u -ℤ i) (pos 0, u)

-- u × a / b, rounded toward zero; 0 if b is 0
abbrev pub portion : ℤ → ℕ → ℕ → ℤ
portion u a b = int_div (u *ℤ pos a) (pos b)

abbrev pub percent_parts : ℕ → ℤ → ℕ → ℕ → ℤ × ℤ
percent_parts p u wi wp = parted u wi wp (portion u p 100)

abbrev pub pro_rata_parts : ℤ → ℕ → ℕ → ℤ × ℤ
pro_rata_parts u wi wp = parted u wi wp (portion u wi (wi + wp))

-- The part x has not the sign opposite to u, and is 0 if u is 0.
pub record Sided (u x : ℤ) : Type 0 where
  pub not_below : pos 0 ≤ℤ u → pos 0 ≤ℤ x
  pub not_above : u ≤ℤ pos 0 → x ≤ℤ pos 0
  pub none : u ≡ pos 0 → x ≡ pos 0
