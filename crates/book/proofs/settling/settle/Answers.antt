use Rattle.std.proofs.Common.{◌≡◌, ◌++◌, map, length, drop, Err, sym, refl, ap, ◌∙◌, arith}
use Rattle.std.proofs.lemmas.Result.{err_from_is_err_and}
use Rattle.rows.specs.declared.Kind.TheVariants.{Energy}
use Rattle.archive.specs.declared.adjusting.Slot.{Slot}
use Rattle.archive.specs.Contents.{kept}
use Rattle.archive.specs.Intake.{entered}
use Rattle.archive.specs.Adjusting.{booking}
use Rattle.archive.proofs.Answered.{kept_old}
use Rattle.rules.specs.Lines.{energy}
use Rattle.rules.proofs.Settled.{totals-told}
use Rattle.book.specs.Slips.{marked}
use Rattle.book.specs.Settling.{Hour, hour_of, owed_in, slot_in, final_loads, admitted, next}
use Rattle.book.proofs.Admitting.{admitted-hour}
use Rattle.book.proofs.Reconciling.{settling_law, settled_by, made_refused, owed_refused}
use Rattle.book.proofs.Settlement.{order_parts, slot_lawful, settling_by, rows_are, archive_by, list_by}
use Rattle.book.proofs.settling.settle.Goals as goal

pub overflow_cast-slot-2 : goal.overflow_cast-slot-2
overflow_cast-slot-2 g c =
    let h : Hour = hour_of (g.R.Arrangement.meaning c.args.arrangement.now) c.args.slip.now c.args.hour c.args.zone_load c.args.sheet.now c.args.roster.now.entries in
    let ok = admitted-hour h (length c.args.list.now) (owed_in h) c.in_ok-owed.owed c.in_ok-owed.ensures in
    omega (arith, order_parts h.slip.hours h.hour h.zone (length h.sheet) ok.order, c.day.ensures.kept.timed.1)

pub returns-in_err-owed : goal.returns-in_err-owed
returns-in_err-owed g c =
    let h : Hour = hour_of (g.R.Arrangement.meaning c.args.arrangement.now) c.args.slip.now c.args.hour c.args.zone_load c.args.sheet.now c.args.roster.now.entries in
    let p = err_from_is_err_and c.from_residual.result c.from_residual.ensures.1 in
    let refused = p.1 ∙ ap Err p.2 in
    let a = ap (λ x. next x (booking (g.A.Archive.meaning c.args.archive.now) (slot_in h) (owed_in h))) (owed_refused (admitted h (length c.args.list.now)) (owed_in h) _ c.in_err-owed.ensures) in
    record {
      answer = refused ∙ sym a;
      archive = kept_old _ _ _ _ a;
      list = kept_old _ _ _ _ a;
      slip = kept_old _ _ _ _ a;
      memory = kept_old _ _ _ _ refused;
      lent = refl;
      settled = made_refused _ _ _ refused;
      law = settling_law;
    }

pub returns-in_err-rows : goal.returns-in_err-rows
returns-in_err-rows g c =
    let h : Hour = hour_of (g.R.Arrangement.meaning c.args.arrangement.now) c.args.slip.now c.args.hour c.args.zone_load c.args.sheet.now c.args.roster.now.entries in
    let before = g.A.Archive.meaning c.args.archive.now in
    let ok = admitted-hour h (length c.args.list.now) (owed_in h) c.in_ok-owed.owed c.in_ok-owed.ensures in
    let order = order_parts h.slip.hours h.hour h.zone (length h.sheet) ok.order in
    let lawful = slot_lawful h c.day.ensures.kept.dated c.day.ensures.kept.staged order.0 (omega (arith, order, c.day.ensures.kept.timed.1)) in
    let slot : Slot = record { kind = Energy; day = c.day.result; hour = c.args.hour; stage = g.row.STAGE } in
    let is : slot ≡ slot_in h =
    ap (λ d. record { kind = Energy; day = d; hour = c.args.hour; stage = g.row.STAGE }) c.day.ensures.answer
    ∙ ap (λ t. record { kind = Energy; day = h.slip.day; hour = c.args.hour; stage = t }) (sym c.day.ensures.kept.own) in
    let p = err_from_is_err_and c.from_residual-in_err-rows.result c.from_residual-in_err-rows.ensures.1 in
    let refused = p.1 ∙ ap Err p.2 in
    let a = settling_by h (length c.args.list.now) c.in_ok-owed.owed ok lawful before slot is _ c.in_err-rows.ensures.answer in
    record {
      answer = refused ∙ a;
      archive = archive_by h (length c.args.list.now) c.in_ok-owed.owed ok lawful before slot is _ c.adjust.ensures.after;
      list = ap (λ x. kept x (map energy (final_loads h) ++ drop (length h.sheet) c.args.list.now) c.args.list.now) a;
      slip = ap (λ x. kept x (marked h.hour h.slip) h.slip) a;
      memory = c.in_err-rows.ensures.memory ∙ kept_old _ _ _ _ refused;
      lent = c.adjust.ensures.lent;
      settled = made_refused _ _ _ refused;
      law = settling_law;
    }

pub mark-requires : goal.mark-requires
mark-requires g c =
    let h : Hour = hour_of (g.R.Arrangement.meaning c.args.arrangement.now) c.args.slip.now c.args.hour c.args.zone_load c.args.sheet.now c.args.roster.now.entries in
    let ok = admitted-hour h (length c.args.list.now) (owed_in h) c.in_ok-owed.owed c.in_ok-owed.ensures in
    let order = order_parts h.slip.hours h.hour h.zone (length h.sheet) ok.order in
    (omega arith, (order.0, order.1))

pub returns : goal.returns
returns g c =
    let h : Hour = hour_of (g.R.Arrangement.meaning c.args.arrangement.now) c.args.slip.now c.args.hour c.args.zone_load c.args.sheet.now c.args.roster.now.entries in
    let before = g.A.Archive.meaning c.args.archive.now in
    let ok = admitted-hour h (length c.args.list.now) (owed_in h) c.in_ok-owed.owed c.in_ok-owed.ensures in
    let order = order_parts h.slip.hours h.hour h.zone (length h.sheet) ok.order in
    let lawful = slot_lawful h c.day.ensures.kept.dated c.day.ensures.kept.staged order.0 (omega (arith, order, c.day.ensures.kept.timed.1)) in
    let slot : Slot = record { kind = Energy; day = c.day.result; hour = c.args.hour; stage = g.row.STAGE } in
    let is : slot ≡ slot_in h =
    ap (λ d. record { kind = Energy; day = d; hour = c.args.hour; stage = g.row.STAGE }) c.day.ensures.answer
    ∙ ap (λ t. record { kind = Energy; day = h.slip.day; hour = c.args.hour; stage = t }) (sym c.day.ensures.kept.own) in
    let t = totals-told h.parts (λ u wi wp. g.met.R.Arrangement.whole c.args.arrangement.now u wi wp) h.zone _ _ _ ok.totals in
    let a = settling_by h (length c.args.list.now) c.in_ok-owed.owed ok lawful before slot is _ c.in_ok-rows.ensures.answer in
    record {
      answer = a;
      archive = archive_by h (length c.args.list.now) c.in_ok-owed.owed ok lawful before slot is _ c.adjust.ensures.after;
      list = list_by h c.args.list.now _ c.in_ok-owed.owed before c.in_ok-rows.rows ok t.first_small t.second_small t.loads-small a c.share.ensures.written;
      slip = c.mark.ensures.after ∙ ap (λ x. kept x (marked h.hour h.slip) h.slip) a;
      settled = settled_by h (length c.args.list.now) before _ c.in_ok-rows.rows (λ u wi wp. g.met.R.Arrangement.whole c.args.arrangement.now u wi wp) (record { day = c.day.ensures.kept.dated; stage = c.day.ensures.kept.staged; hours = c.day.ensures.kept.timed.1 }) c.count-held.ensures.lawful (sym a) (archive_by h (length c.args.list.now) c.in_ok-owed.owed ok lawful before slot is _ c.adjust.ensures.after);
      law = settling_law;
      memory = c.in_ok-rows.ensures.memory ∙ ap (entered g.A.Archive.stamped (g.A.Archive.memory c.args.archive.now) (length before.rows)) (rows_are h (length c.args.list.now) c.in_ok-owed.owed ok lawful before slot is);
      lent = c.adjust.ensures.lent;
    }
