-- What a load is, in units.
use Rattle.std.specs.Prelude.{ℕ, ◌*◌, ◌/◌, cond, ◌==◌}
use Rattle.rules.specs.Ranges.{missing}

-- How every load is rounded: down.
abbrev pub rounded : ℕ → ℕ → ℕ
rounded n d = n / d

-- reading × loss factor / 10,000; a missing reading gives 0
abbrev pub interval_load : ℕ → ℕ → ℕ
interval_load loss reading = cond (reading == missing) 0 (rounded (reading * loss) 10000)

-- profile load × billed usage × loss factor / (profile usage × 10,000), divided once
abbrev pub profiled_load : ℕ → ℕ → ℕ → ℕ → ℕ
profiled_load loss profile billed usage = rounded (profile * billed * loss) (usage * 10000)

-- highest demand × coincidence factor × loss factor / 100,000,000
abbrev pub demand_load : ℕ → ℕ → ℕ → ℕ
demand_load loss demand factor = rounded (demand * factor * loss) 100000000
