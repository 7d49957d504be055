use Rattle.std.proofs.Common.{◌≡◌, map, take}
use Rattle.book.specs.Sheets.{suppliers_on}
use Rattle.book.proofs.roster.Roster.enter_suppliers.Given as goal

abbrev pub invariant-loop-entry : goal.invariant-loop-entry
invariant-loop-entry g l = l.table ≡ suppliers_on l.day (take l.entry-index l.entry-items) (map g.L.Accounted.account_of l.lines)
