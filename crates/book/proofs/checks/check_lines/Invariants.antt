use Rattle.std.proofs.Common.{◌≡◌, ◌+◌, map, length, drop}
use Rattle.book.specs.Checks.{sheet_line, checked_from, checked_lines}
use Rattle.book.proofs.checks.check_lines.Given as goal

abbrev pub invariant-loop-i : goal.invariant-loop-i
invariant-loop-i g l =
    checked_from (length l.yielded + 1) l.before (map (λ x. sheet_line (g.L.Accounted.account_of x) (g.L.Checked.cause_in x)) (drop (length l.yielded) l.lines)) (drop (length l.yielded) l.suppliers)
    ≡ checked_lines (map (λ x. sheet_line (g.L.Accounted.account_of x) (g.L.Checked.cause_in x)) l.lines) l.suppliers
