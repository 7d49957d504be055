use Rattle.std.proofs.Common.{◌≡◌, ◌<◌, length, get_or, sum_by, Ok, Some, sym, ap, ◌∙◌, arith}
use Rattle.rules.specs.Peaks.{figure_load, is_present}
use Rattle.rules.specs.Bases.{bare, load_if_fits}
use Rattle.rules.proofs.Figured.{fit_more, fits_told, load_told, none_told, kept_fits, load_small, sum-kept_more, number_kept_more, kept_same}
use Rattle.rules.proofs.peaks.Basis.average_load.Goals as goal
use Rattle.rules.proofs.peaks.Basis.average_load.Goals.{in-Some, in_default}

pub overflow_add-total : goal.overflow_add-total
overflow_add-total c =
    let b = bare c.args.self in
    let x = get_or c.args.figures.now c.loop-figure.figure-index 0 in
    let loss = c.args.loss.value in
    let told : Ok (Some c.in-Some.load) ≡ load_if_fits loss b x = ap Ok (sym c.in-Some.is) ∙ c.in_ok-load.ensures in
    omega (arith, (load_told loss b x c.in-Some.load told).1, load_small loss b x c.args.loss.ok (kept_fits c.args.self) (fits_told loss b x (Some c.in-Some.load) told))

pub loop-figure-preserved : goal.loop-figure-preserved
loop-figure-preserved c =
    let b = bare c.args.self in
    let xs = c.args.figures.now in
    let i = c.loop-figure.figure-index in
    let h : i < length xs = omega arith in
    let x = get_or xs i 0 in
    let loss = c.args.loss.value in
    let f = figure_load loss b in
    let fits = fits_told loss b x c.in_ok-load.field-0 c.in_ok-load.ensures in
    let more = fit_more b xs i h fits ∙ c.loop-figure.invariant.0 in
    elim c.match-branch-2.branch [
      | in-Some w ↦
          let told = load_told loss b x w.in-Some.load (ap Ok (sym w.in-Some.is) ∙ c.in_ok-load.ensures) in (
            more,
            omega (arith, w.total-is, told.1, sum-kept_more (is_present b) xs i h f told.0),
            omega (arith, w.number-is, number_kept_more (is_present b) xs i h told.0),
            omega (arith, w.total-is, told.1, load_small loss b x c.args.loss.ok (kept_fits c.args.self) fits),
            omega (arith, w.number-is),
          )
      | in_default w ↦
          let same = kept_same (is_present b) xs i h (none_told loss b x (ap Ok (sym w.in_default.is) ∙ c.in_ok-load.ensures)) in (
            more,
            w.total-is ∙ c.loop-figure.invariant.1 ∙ sym (ap (sum_by f) same),
            w.number-is ∙ c.loop-figure.invariant.2 ∙ sym (ap length same),
            omega (arith, w.total-is),
            omega (arith, w.number-is),
          )
    ]
