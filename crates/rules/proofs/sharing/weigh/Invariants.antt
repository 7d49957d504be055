use Rattle.std.proofs.Common.{◌≡◌, ◌+◌, ◌≤◌, take, sum_by}
use Rattle.rules.specs.Ranges.{most}
use Rattle.rules.proofs.sharing.weigh.Given as goal

abbrev pub invariant-loop-line : goal.invariant-loop-line
invariant-loop-line g l =
    let m = g.L.Weighted in
    let seen = take l.line-index l.lines in
    (l.first ≡ sum_by m.in_first seen) × (l.second ≡ sum_by m.in_second seen) × (l.first + l.second ≤ most)
