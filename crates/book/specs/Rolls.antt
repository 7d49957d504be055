-- A roster as its user sees it.
use Rattle.std.specs.Prelude.{take, drop}
use Rattle.book.specs.declared.roster.Roster.TheInside.{Inside}
use Rattle.book.specs.Entries.{Roll}

-- its entries, and what the user's memory holds after them
abbrev pub roll_of : Inside → Roll
roll_of r = record { entries = take r.count r.memory.now; beyond = drop r.count r.memory.now }
