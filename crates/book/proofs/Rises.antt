-- Lists that rise, and the days that a book opens.
use Rattle.std.proofs.Common.{◌≡◌, ℕ, zero, suc, ◌<◌, Bool, true, false, ◌&&◌, ltb, List, [], ◌∷◌, ◌++◌, Ok, refl, arith}
use Rattle.std.proofs.lemmas.Bool.{ltb-true}
use Rattle.refusals.specs.declared.Cause.TheVariants.{OutOfRange, DayNotAfter}
use Rattle.book.specs.Ranges.{is_day, is_hours, unless}
use Rattle.book.specs.Rising.{Rising}
use Rattle.book.specs.Opening.{new_slip, last_after, day_given, opened_days, DaysRise}

pub rising_one : (x : ℕ) → Rising (x ∷ [])
rising_one x i zero h k = absurd (omega arith)
rising_one x i (suc j) h k = absurd (omega arith)

pub rising_cons : (x y : ℕ) (ys : List ℕ) → x < y → Rising (y ∷ ys) → Rising (x ∷ y ∷ ys)
rising_cons x y ys less rises i zero h k = absurd (omega arith)
rising_cons x y ys less rises zero (suc zero) h k = less
rising_cons x y ys less rises zero (suc (suc j)) h k = omega (arith, less, rises zero (suc j) (omega arith) (omega arith))
rising_cons x y ys less rises (suc i) (suc j) h k = rises i j (omega arith) (omega arith)

-- one call, by its two checks
one_opening : (ranged late : Bool) (last day hours : ℕ) (calls : List (ℕ × ℕ)) → (late ≡ true → last < day)
    → ((first : ℕ) → Rising (first ∷ opened_days first calls))
    → Rising (last ∷ (day_given (unless ranged OutOfRange (unless late DayNotAfter (Ok (new_slip day hours))))
    ++ opened_days (last_after last (unless ranged OutOfRange (unless late DayNotAfter (Ok (new_slip day hours))))) calls))
one_opening false late last day hours calls above rest = rest last
one_opening true false last day hours calls above rest = rest last
one_opening true true last day hours calls above rest = rising_cons last day (opened_days day calls) (above refl) (rest day)

pub days_rise : DaysRise
days_rise last [] = rising_one last
days_rise last (call ∷ calls) =
    one_opening (is_day call.0 && is_hours call.1) (ltb last call.0) last call.0 call.1 calls
    (ltb-true last call.0) (λ first. days_rise first calls)
