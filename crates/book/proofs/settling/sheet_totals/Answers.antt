use Rattle.std.proofs.Common.{map, Err, sum, ap, ◌∙◌}
use Rattle.std.proofs.lemmas.Result.{err_from_is_err_and}
use Rattle.rules.specs.Lines.{interval_weight, profiled_weight}
use Rattle.rules.specs.Totals.{group_totals}
use Rattle.rules.proofs.Weighing.{weights_are}
use Rattle.book.proofs.Admitting.{heavy_totals}
use Rattle.book.proofs.settling.sheet_totals.Goals as goal

pub returns : goal.returns
returns g c =
    let m = g.R.Arrangement.meaning c.args.arrangement.now in
    let p = weights_are (map interval_weight c.args.sheet.now) (map profiled_weight c.args.sheet.now) _ c.in_ok-interval.ensures in
    c.group_totals.ensures.answer
    ∙ ap (λ z. group_totals m z c.in_ok-interval.interval c.in_ok-interval.profiled) c.from.ensures
    ∙ ap (λ n. group_totals m c.args.zone_load n c.in_ok-interval.profiled) p.0 ∙ ap (group_totals m c.args.zone_load (sum (map interval_weight c.args.sheet.now))) p.1

pub returns-in_err-interval : goal.returns-in_err-interval
returns-in_err-interval g c =
    let p = err_from_is_err_and c.from_residual.result c.from_residual.ensures.1 in
    p.1 ∙ ap Err p.2 ∙ heavy_totals (g.R.Arrangement.meaning c.args.arrangement.now) c.args.zone_load (map interval_weight c.args.sheet.now) (map profiled_weight c.args.sheet.now) _ c.requires c.in_err-interval.ensures
