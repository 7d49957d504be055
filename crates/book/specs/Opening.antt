-- Opening days.
use Rattle.std.specs.Prelude.{ℕ, ◌&&◌, List, [], ◌∷◌, ◌++◌, Ok, Err, Result, nat_lt}
use Rattle.refusals.specs.declared.Cause.TheVariants.{OutOfRange, DayNotAfter}
use Rattle.refusals.specs.declared.Refusal.{Refusal}
use Rattle.book.specs.Ranges.{is_day, is_hours, unless}
use Rattle.book.specs.Rising.{Rising}
use Rattle.book.specs.Slips.{DaySlip}

-- the slip of a day that is opened: stage 1, no hour settled
abbrev pub new_slip : ℕ → ℕ → DaySlip
new_slip day hours = record { stage = 1; day = day; hours = hours; settled = 0 }

-- what opening a day answers, from the last opened day
abbrev pub opening : ℕ → ℕ → ℕ → Result DaySlip Refusal
opening last day hours =
    unless (is_day day && is_hours hours) OutOfRange
    (unless (nat_lt last day) DayNotAfter
    (Ok (new_slip day hours)))

-- the last opened day after that
abbrev pub last_after : ℕ → Result DaySlip Refusal → ℕ
last_after last (Ok slip) = slip.day
last_after last (Err refusal) = last

-- the days of the slips that a list of calls was given, in order; each call is a day and its count of hours
abbrev pub day_given : Result DaySlip Refusal → List ℕ
day_given (Ok slip) = slip.day ∷ []
day_given (Err refusal) = []

abbrev pub opened_days : ℕ → List (ℕ × ℕ) → List ℕ
opened_days last [] = []
opened_days last (call ∷ calls) =
    day_given (opening last call.0 call.1)
    ++ opened_days (last_after last (opening last call.0 call.1)) calls

-- Whatever calls are made, the opened days rise from the day that was last before, so that none is opened twice.
abbrev pub DaysRise : Type 0
DaysRise = (last : ℕ) (calls : List (ℕ × ℕ)) → Rising (last ∷ opened_days last calls)
