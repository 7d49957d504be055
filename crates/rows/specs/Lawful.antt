-- When a row is lawful.
use Rattle.std.specs.Prelude.{◌≡◌, ℕ, Bool, true, ◌&&◌, ℤ, pos, negsuc, ◌==◌, nat_le, nat_lt}
use Rattle.rows.specs.declared.Row.{Row}
use Rattle.rows.specs.declared.Kind.{Kind}
use Rattle.rows.specs.declared.Kind.TheVariants.{Energy, Peak}

-- low ≤ n ≤ high
abbrev pub between : ℕ → ℕ → ℕ → Bool
between low high n = nat_le low n && nat_le n high

-- at most 3,000,000,000 either way, and not 0
abbrev pub bookable : ℤ → Bool
bookable (pos n) = between 1 3000000000 n
bookable (negsuc n) = nat_lt n 3000000000

-- an energy row has an hour and a stage, a peak row neither
abbrev pub timely : Kind → ℕ → ℕ → Bool
timely Energy hour stage = between 1 25 hour && between 1 2 stage
timely Peak hour stage = hour == 0 && stage == 0

unfoldable pub lawful : Row → Bool
lawful r = between 1 60000 r.day && (between 1 32 r.supplier && (bookable r.amount && timely r.kind r.hour r.stage))

abbrev pub Lawful : Row → Type 0
Lawful r = lawful r ≡ true
