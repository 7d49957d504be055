-- A slip as its user sees it.
use Rattle.std.specs.Prelude.{ℕ}
use Rattle.book.specs.declared.slip.Slip.TheInside.{Inside}
use Rattle.book.specs.Slips.{DaySlip}

abbrev pub slip_of : {stage : ℕ} → Inside stage → DaySlip
slip_of {stage} s = record { stage = stage; day = s.day; hours = s.hours; settled = s.settled }
