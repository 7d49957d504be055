-- The number of each cause of refusal and of each layer.
use Rattle.std.specs.Prelude.{ℕ}
use Rattle.refusals.specs.declared.Cause.{Cause}
use Rattle.refusals.specs.declared.Cause.TheVariants.{OutOfRange, RosterFull, AlreadyServed, NotServed, SameSupplier, NotAfterLastEntry, NotAfterLastOpened, DayNotAfter, ListTooShort, AccountNotAbove, UsageTooHigh, LoadsTooHigh, UnloadedGroup, NegativeTotal, AmountTooLarge, ArchiveFull, PartialRow, UnknownMark, UnlawfulRow, TextTooLong}
use Rattle.refusals.specs.declared.Layer.{Layer}
use Rattle.refusals.specs.declared.Layer.TheVariants.{Roster, Sheet, Sharing, Archive}
use Rattle.refusals.specs.declared.Refusal.{Refusal}

abbrev pub number_of : Cause → ℕ
number_of OutOfRange = 10
number_of RosterFull = 11
number_of AlreadyServed = 12
number_of NotServed = 13
number_of SameSupplier = 14
number_of NotAfterLastEntry = 15
number_of NotAfterLastOpened = 16
number_of DayNotAfter = 17
number_of ListTooShort = 20
number_of AccountNotAbove = 21
number_of UsageTooHigh = 22
number_of LoadsTooHigh = 23
number_of UnloadedGroup = 24
number_of NegativeTotal = 25
number_of AmountTooLarge = 26
number_of ArchiveFull = 27
number_of PartialRow = 30
number_of UnknownMark = 31
number_of UnlawfulRow = 32
number_of TextTooLong = 33

abbrev pub layer_number : Layer → ℕ
layer_number Roster = 1
layer_number Sheet = 2
layer_number Sharing = 3
layer_number Archive = 4

-- a refusal by its parts
abbrev pub refusal : Cause → Layer → ℕ → Refusal
refusal cause layer place = record { cause = cause; layer = layer; place = place }
