-- Sums of the rows of an hour. A peak row has hour 0, so hour 0 of kind peak is a day's peak rows.
use Rattle.std.specs.Prelude.{◌≡◌, ℕ, zero, suc, ◌<◌, ◌≤◌, Bool, true, false, cond, ◌&&◌, List, map, length, ℤ, pos, ◌+ℤ◌, fold, ◌==◌, slice_index_or, unsigned_abs}
use Rattle.std.specs.List.{range_with_len, AllByRecursion}
use Rattle.rows.specs.declared.Row.{Row}
use Rattle.rows.specs.declared.Kind.{Kind}
use Rattle.rows.specs.declared.Kind.TheVariants.{Energy, Peak}
use Rattle.rows.specs.Lawful.{Lawful}

abbrev pub same_kind : Kind → Kind → Bool
same_kind Energy Energy = true
same_kind Energy Peak = false
same_kind Peak Energy = false
same_kind Peak Peak = true

-- a row of that kind, day and hour
abbrev pub in_hour : Kind → ℕ → ℕ → Row → Bool
in_hour k d h r = same_kind k r.kind && (r.day == d && r.hour == h)

-- what a function gives of each element, added up
abbrev pub total : {X : Type 0} → (X → ℤ) → List X → ℤ
total f xs = fold (λ a x. a +ℤ f x) (pos 0) xs

-- what a row adds to a supplier's sum of an hour, and to that of the hour
abbrev pub portion : Kind → ℕ → ℕ → ℕ → Row → ℤ
portion k d h s r = cond (in_hour k d h r && r.supplier == s) r.amount (pos 0)

abbrev pub hour_portion : Kind → ℕ → ℕ → Row → ℤ
hour_portion k d h r = cond (in_hour k d h r) r.amount (pos 0)

-- the sum of a supplier's rows of that kind, day and hour
unfoldable pub sum_of : Kind → ℕ → ℕ → ℕ → List Row → ℤ
sum_of k d h s rs = total (portion k d h s) rs

-- the sum of all rows of that kind, day and hour
unfoldable pub hour_sum : Kind → ℕ → ℕ → List Row → ℤ
hour_sum k d h rs = total (hour_portion k d h) rs

-- the sums of suppliers 1 to 32
unfoldable pub sums_of : Kind → ℕ → ℕ → List Row → List ℤ
sums_of k d h rs = map (λ s. sum_of k d h s rs) (range_with_len 1 32)

-- f 1 + .. + f n
unfoldable pub up_to : (ℕ → ℤ) → ℕ → ℤ
up_to f zero = pos 0
up_to f (suc n) = up_to f n +ℤ f (suc n)

-- the suppliers' sums add up to that of the hour
abbrev pub ZoneLaw : Type 0
ZoneLaw = (k : Kind) (d h : ℕ) (rs : List Row) → AllByRecursion Lawful rs → up_to (λ s. sum_of k d h s rs) 32 ≡ hour_sum k d h rs

-- thirty-two sums and that of all, each at most 3,000,000,000,000,000 either way
pub record Small (sums : List ℤ) (all : ℤ) : Type 0 where
  pub many : length sums ≡ 32
  pub suppliers : (s : ℕ) → s < 32 → unsigned_abs (slice_index_or sums s (pos 0)) ≤ 3000000000000000
  pub zone : unsigned_abs all ≤ 3000000000000000
