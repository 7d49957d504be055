-- Slips: the duty to close an opened day.
use Rattle.std.specs.Prelude.{◌≡◌, ℕ, zero, suc, ◌+◌, ◌-◌, ◌/◌, ◌%◌, ◌^◌, ◌<◌, ◌≤◌, Bool, cond, ◌||◌, ◌==◌, bit_or}

-- what a slip says: its stage, its day, how many hours the day has, and the settled ones of these
pub record DaySlip : Type 0 where
  pub stage : ℕ
  pub day : ℕ
  pub hours : ℕ
  pub settled : ℕ

-- what a slip of a stage keeps: no hour beyond those of its day is settled
pub record IsSlip (stage : ℕ) (s : DaySlip) : Type 0 where
  pub own : s.stage ≡ stage
  pub staged : (1 ≤ s.stage) × (s.stage ≤ 2)
  pub dated : (1 ≤ s.day) × (s.day ≤ 60000)
  pub timed : (23 ≤ s.hours) × (s.hours ≤ 25)
  pub within : s.settled < 2 ^ s.hours

-- The settled hours are kept as the sum of their marks.
abbrev pub mark_of : ℕ → ℕ
mark_of hour = 2 ^ (hour - 1)

abbrev pub is_settled : ℕ → ℕ → Bool
is_settled settled hour = settled / mark_of hour % 2 == 1

-- the sum of the marks of the hours from 1 to n that are not settled
unfoldable pub unsettled : ℕ → ℕ → ℕ
unsettled settled zero = 0
unsettled settled (suc n) = unsettled settled n + cond (is_settled settled (suc n)) 0 (mark_of (suc n))

-- the slip of stage 2 that a slip is turned into: no hour is settled in it
abbrev pub turned : DaySlip → DaySlip
turned s = record { stage = 2; day = s.day; hours = s.hours; settled = 0 }

-- what closing a slip answers
abbrev pub closing : DaySlip → ℕ
closing s = unsettled s.settled s.hours

-- the slip once an hour is settled
abbrev pub marked : ℕ → DaySlip → DaySlip
marked hour s = record { stage = s.stage; day = s.day; hours = s.hours; settled = bit_or s.settled (mark_of hour) }

-- After an hour is marked it is settled, and of every other hour the same is so as before.
abbrev pub MarksOne : Type 0
MarksOne = (hour other : ℕ) (s : DaySlip) → 1 ≤ hour → 1 ≤ other
    → is_settled (marked hour s).settled other ≡ (other == hour || is_settled s.settled other)
