use Rattle.std.proofs.Common.{map, length, take, Ok, Err, sym, ap, ◌∙◌, arith}
use Rattle.std.proofs.lemmas.List.{length-map, length-take}
use Rattle.std.proofs.lemmas.Result.{err_from_is_err_and}
use Rattle.rules.specs.Lines.{account_of, interval_weight, profiled_weight}
use Rattle.rules.proofs.Settled.{totals-told}
use Rattle.rules.proofs.Weighing.{not_refused, was_refused}
use Rattle.book.specs.Sheets.{suppliers_on}
use Rattle.book.specs.Checks.{checked_lines}
use Rattle.book.specs.Settling.{Hour, hour_of, line_in, owed_in, in_order}
use Rattle.book.proofs.Admitting.{out_of_order, list_short, line_refused, totals_refused, all_admitted, sums_owed, sharing_passes, never_both}
use Rattle.book.proofs.Settlement.{order_parts}
use Rattle.book.proofs.settling.hour_owed.Goals as goal

pub returns-then-not-is_in_order : goal.returns-then-not-is_in_order
returns-then-not-is_in_order g c =
    let h : Hour = hour_of (g.R.Arrangement.meaning c.args.arrangement.now) c.args.slip.now c.args.hour c.args.zone_load c.args.sheet.now c.args.roster.now.entries in
    out_of_order h c.args.places (owed_in h) c.new.result c.new.ensures (ap (λ n. in_order n h.hour h.zone (length h.sheet)) (sym c.hours.ensures.answer) ∙ sym c.is_in_order.ensures ∙ c.if-not-is_in_order.true)

pub returns-then-places-sheet : goal.returns-then-places-sheet
returns-then-places-sheet g c =
    let h : Hour = hour_of (g.R.Arrangement.meaning c.args.arrangement.now) c.args.slip.now c.args.hour c.args.zone_load c.args.sheet.now c.args.roster.now.entries in
    list_short h c.args.places (owed_in h) c.new-then-places-sheet.result c.new-then-places-sheet.ensures (ap (λ n. in_order n h.hour h.zone (length h.sheet)) (sym c.hours.ensures.answer) ∙ sym c.is_in_order.ensures ∙ c.if-not-is_in_order.false) c.if-places-sheet.true

pub returns-in_err-check_sheet : goal.returns-in_err-check_sheet
returns-in_err-check_sheet g c =
    let h : Hour = hour_of (g.R.Arrangement.meaning c.args.arrangement.now) c.args.slip.now c.args.hour c.args.zone_load c.args.sheet.now c.args.roster.now.entries in
    let order = ap (λ n. in_order n h.hour h.zone (length h.sheet)) (sym c.hours.ensures.answer) ∙ sym c.is_in_order.ensures ∙ c.if-not-is_in_order.false in
    let p = err_from_is_err_and c.from_residual.result c.from_residual.ensures.1 in
    p.1 ∙ ap Err p.2 ∙ line_refused h c.args.places (owed_in h) order c.if-places-sheet.false _ (c.in_err-check_sheet.ensures.answer ∙ ap (λ d. checked_lines (map line_in h.sheet) (suppliers_on d h.entries (map account_of h.sheet))) c.day.ensures.answer)

pub returns-in_err-interval : goal.returns-in_err-interval
returns-in_err-interval g c =
    let h : Hour = hour_of (g.R.Arrangement.meaning c.args.arrangement.now) c.args.slip.now c.args.hour c.args.zone_load c.args.sheet.now c.args.roster.now.entries in
    let order = ap (λ n. in_order n h.hour h.zone (length h.sheet)) (sym c.hours.ensures.answer) ∙ sym c.is_in_order.ensures ∙ c.if-not-is_in_order.false in
    let p = err_from_is_err_and c.from_residual-in_err-interval.result c.from_residual-in_err-interval.ensures.1 in
    p.1 ∙ ap Err p.2 ∙ totals_refused h c.args.places (owed_in h) order c.if-places-sheet.false _ _ (c.in_ok-check_sheet.ensures.answer ∙ ap (λ d. checked_lines (map line_in h.sheet) (suppliers_on d h.entries (map account_of h.sheet))) c.day.ensures.answer) c.in_err-interval.ensures

pub returns-in_err-suppliers : goal.returns-in_err-suppliers
returns-in_err-suppliers g c =
    let sheet = c.args.sheet.now in
    let ws = map interval_weight sheet in
    let vs = map profiled_weight sheet in
    let part = take (length sheet) c.check_sheet.new.table in
    let t = totals-told (g.R.Arrangement.meaning c.args.arrangement.now) (λ u wi wp. g.met.R.Arrangement.whole c.args.arrangement.now u wi wp) c.args.zone_load _ _ _ (sym c.in_ok-interval.ensures) in
    let order = order_parts c.hours.result c.args.hour c.args.zone_load (length sheet) (sym c.is_in_order.ensures ∙ c.if-not-is_in_order.false) in
    let bad = was_refused _ _ _ c.in_err-suppliers.ensures.answer in
    let good = sharing_passes c.in_ok-interval.interval c.in_ok-interval.profiled ws vs (length part) t.first_small t.second_small (omega (arith, order, length-map sheet interval_weight, length-take (length sheet) c.check_sheet.new.table)) t.loads-small in
    absurd (never_both _ _ bad good)

pub returns : goal.returns
returns g c =
    let h : Hour = hour_of (g.R.Arrangement.meaning c.args.arrangement.now) c.args.slip.now c.args.hour c.args.zone_load c.args.sheet.now c.args.roster.now.entries in
    let order = ap (λ n. in_order n h.hour h.zone (length h.sheet)) (sym c.hours.ensures.answer) ∙ sym c.is_in_order.ensures ∙ c.if-not-is_in_order.false in
    let i = c.in_ok-interval.interval in
    let p = c.in_ok-interval.profiled in
    let n = length c.args.sheet.now in
    let told = c.in_ok-check_sheet.ensures.told ∙ ap (λ d. suppliers_on d h.entries (map account_of h.sheet)) c.day.ensures.answer in
    let sums = (not_refused _ _ _ c.in_ok-suppliers.ensures.answer).1 ∙ sums_owed h (i, p) _ c.in_ok-interval.ensures told in
    ap (λ s. Ok (record { interval = i; profiled = p; suppliers = s })) sums
    ∙ all_admitted h c.args.places (owed_in h) order c.if-places-sheet.false _ (i, p) (c.in_ok-check_sheet.ensures.answer ∙ ap (λ d. checked_lines (map line_in h.sheet) (suppliers_on d h.entries (map account_of h.sheet))) c.day.ensures.answer) c.in_ok-interval.ensures
