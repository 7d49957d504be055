use Rattle.std.proofs.Common.{◌≡◌, ◌+◌, map, drop}
use Rattle.book.specs.Sheets.{rising_after, rising_front}
use Rattle.book.proofs.sheet.rising_front.Given as goal

abbrev pub invariant-loop-i : goal.invariant-loop-i
invariant-loop-i g l =
    l.i + rising_after l.before (drop l.i (map g.L.Accounted.account_of l.lines))
    ≡ rising_front (map g.L.Accounted.account_of l.lines)
