-- What is so once an hour is settled, in the words of the subject.
use Rattle.std.specs.Prelude.{◌≡◌, ℕ, ◌<◌, ◌≤◌, ◌⊎◌, List, ◌++◌, length, ℤ, pos, ◌+ℤ◌, Ok, sum, ◌≢◌, slice_index, slice_index_or}
use Rattle.std.specs.List.{AllByRecursion}
use Rattle.rows.specs.declared.Row.{Row}
use Rattle.rows.specs.declared.Kind.{Kind}
use Rattle.rows.specs.declared.Kind.TheVariants.{Energy}
use Rattle.rows.specs.Lawful.{Lawful}
use Rattle.archive.specs.Contents.{Contents}
use Rattle.archive.specs.Sums.{sum_of, hour_sum}
use Rattle.rules.specs.declared.lines.Line.{Line}
use Rattle.rules.specs.declared.lines.Line.TheVariants.{Interval, Profiled}
use Rattle.rules.specs.Lines.{load_of}
use Rattle.rules.specs.Shares.{Near}
use Rattle.rules.specs.Obligations.{obligation}
use Rattle.book.specs.Slips.{DaySlip}
use Rattle.book.specs.Settling.{Hour, served_in, interval_loads, profiled_loads, totals_in, or_zero, final_loads, rows_in, settling}

-- the total and the load of a line's own group
abbrev pub group_total : Hour → Line → ℕ
group_total h (Interval account loss reading) = (or_zero (totals_in h)).0
group_total h (Profiled account loss profile billed usage) = (or_zero (totals_in h)).1

abbrev pub group_load : Hour → Line → ℕ
group_load h (Interval account loss reading) = sum (interval_loads h)
group_load h (Profiled account loss profile billed usage) = sum (profiled_loads h)

-- A final load is less than one unit from its exact proportion of its group's total; it is 0 in a group without load.
abbrev pub NearIn : Hour → Line → ℕ → Type 0
NearIn h l final = Near (group_total h l) (group_load h l) (load_of l) final ⊎ ((group_load h l ≡ 0) × (final ≡ 0))

pub record Settled (h : Hour) (before after : List Row) : Type 0 where
  -- each supplier's rows of that day and hour add up to the final loads of the lines that it serves that day
  pub suppliers : (s : ℕ) → 1 ≤ s → s ≤ 32 → sum_of Energy h.slip.day h.hour s after ≡ pos (obligation s (served_in h) (final_loads h))
  -- and all of them to the zone load
  pub zone : hour_sum Energy h.slip.day h.hour after ≡ pos h.zone
  -- every other day, hour and kind is as before
  pub elsewhere : (k : Kind) (d e s : ℕ) → (k ≡ Energy → d ≡ h.slip.day → e ≢ h.hour) → sum_of k d e s after ≡ sum_of k d e s before
  -- the final loads add up to the zone load, and each is near its exact proportion
  pub loads : sum (final_loads h) ≡ h.zone
  pub near : (k : ℕ) (l : Line) → k < length h.sheet → NearIn h (slice_index_or h.sheet k l) (slice_index (final_loads h) k)

-- the parts of an arrangement add up
abbrev pub Whole : (ℤ → ℕ → ℕ → ℤ × ℤ) → Type 0
Whole parts = (u : ℤ) (wi wp : ℕ) → (parts u wi wp).0 +ℤ (parts u wi wp).1 ≡ u

-- what the type of a slip keeps
pub record LawfulSlip (s : DaySlip) : Type 0 where
  pub day : (1 ≤ s.day) × (s.day ≤ 60000)
  pub stage : (1 ≤ s.stage) × (s.stage ≤ 2)
  pub hours : s.hours ≤ 25

-- of every accepted settling, whatever the archive held before
abbrev pub SettlingLaw : Type 0
SettlingLaw = (h : Hour) (room : ℕ) (c : Contents) (n : ℕ) → Whole h.parts → LawfulSlip h.slip → AllByRecursion Lawful c.rows → settling h room c ≡ Ok n → Settled h c.rows (c.rows ++ rows_in h c)
