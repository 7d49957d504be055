use Rattle.std.proofs.Common.{◌≡◌, ◌*◌, ◌≤◌, length, take, drop, sum_by}
use Rattle.rules.specs.Peaks.{figure_load, present, all_fit}
use Rattle.rules.specs.Bases.{bare}
use Rattle.rules.proofs.Products.{greatest}
use Rattle.rules.proofs.peaks.Basis.average_load.Given as goal

-- What is left decides whether all figures fit; those seen have loads.
abbrev pub invariant-loop-figure : goal.invariant-loop-figure
invariant-loop-figure l =
    let b = bare l.self in
    let seen = present b (take l.figure-index l.figures) in
    (all_fit b (drop l.figure-index l.figures) ≡ all_fit b l.figures) × (l.total ≡ sum_by (figure_load l.loss.value b) seen) × (l.number ≡ length seen) × (l.total ≤ l.figure-index * greatest) × (l.number ≤ l.figure-index)
