-- The split of a zone that has interval lines bear what is unaccounted for.
use Rattle.std.specs.Prelude.{ℕ, cond, ◌&&◌, ℤ, pos, nat_le}
use Rattle.rules.specs.Parts.{can_part}

-- All of u goes to the interval lines if they have any load, else to the profiled ones.
abbrev pub interval_first : ℤ → ℕ → ℕ → ℤ × ℤ
interval_first u wi wp = cond (can_part u wi wp && nat_le 1 wi) (u, pos 0) (pos 0, u)
