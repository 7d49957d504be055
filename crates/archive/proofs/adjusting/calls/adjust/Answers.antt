use Rattle.std.proofs.Common.{rules, length, Ok, Err, sym, refl, ap, ◌∙◌, arith}
use Rattle.archive.specs.Intake.{entered}
use Rattle.archive.specs.Adjusting.{due_to, with_rows}
use Rattle.archive.proofs.Adjusted.{lacks_is, unlawful_slot, too_large, no_place, all_placed, adjusted_by, sums_asked, found_rows, found_small, due_small}
use Rattle.archive.proofs.Bringing.{adjusting_law}
use Rattle.archive.proofs.Dues.{all_in_range_same, rows_for_count}
use Rattle.archive.proofs.adjusting.calls.adjust.Goals as goal

pub returns-then-not-is_lawful : goal.returns-then-not-is_lawful
returns-then-not-is_lawful g c =
    let before = g.A.Archive.meaning c.args.archive.now in
    let a = ap Err c.new.ensures ∙ unlawful_slot before c.args.slot c.args.wanted.now (sym c.is_lawful.ensures ∙ c.if-not-is_lawful.true) in
    record { answer = a; after = adjusted_by before c.args.slot c.args.wanted.now _ a; memory = refl; lent = refl; law = adjusting_law }

pub returns-in_default : goal.returns-in_default
returns-in_default g c =
    let before = g.A.Archive.meaning c.args.archive.now in
    let slot = c.args.slot in
    let wanted = c.args.wanted.now in
    let are = sums_asked slot before.rows c.hour_sums-sums.result.suppliers _ _ c.hour_sums-sums.ensures.suppliers c.from.ensures c.from-2.ensures in
    let due = lacks_is slot wanted c.hour_sums-sums.result.suppliers before.rows are in
    let a = ap Err c.new-in_default.ensures ∙ too_large before slot wanted (sym c.is_lawful.ensures ∙ c.if-not-is_lawful.false) (sym (all_in_range_same _ (due_to slot wanted before.rows) 32 due) ∙ c.in_default.ensures) in
    record { answer = a; after = adjusted_by before slot wanted _ a; memory = refl; lent = refl; law = adjusting_law }

pub returns-then-rows-free_places : goal.returns-then-rows-free_places
returns-then-rows-free_places g c =
    let before = g.A.Archive.meaning c.args.archive.now in
    let slot = c.args.slot in
    let wanted = c.args.wanted.now in
    let sums = c.hour_sums-sums.result.suppliers in
    let are = sums_asked slot before.rows c.hour_sums-sums.result.suppliers _ _ c.hour_sums-sums.ensures.suppliers c.from.ensures c.from-2.ensures in
    let q = c.in-Some.ensures in
    let rows = found_rows before slot wanted sums c.in-Some.all are q.1 in
    let small = due_small before slot wanted sums c.in-Some.all are q.1 q.0 in
    let count = c.rows_needed-rows.ensures ∙ rows_for_count slot c.in-Some.all (search rules) ∙ ap length rows in
    let a = ap Err c.new-then-rows-free_places.ensures ∙ no_place before slot wanted (sym c.is_lawful.ensures ∙ c.if-not-is_lawful.false) small (omega (arith, count, c.free_places.ensures)) in
    record { answer = a; after = adjusted_by before slot wanted _ a; memory = refl; lent = refl; law = adjusting_law }

pub append_dues-requires : goal.append_dues-requires
append_dues-requires g c =
    let before = g.A.Archive.meaning c.args.archive.now in
    let are = sums_asked c.args.slot before.rows c.hour_sums-sums.result.suppliers _ _ c.hour_sums-sums.ensures.suppliers c.from.ensures c.from-2.ensures in
    let q = c.in-Some.ensures in
    record {
      slot = sym c.is_lawful.ensures ∙ c.if-not-is_lawful.false;
      amounts = found_small before c.args.slot c.args.wanted.now c.hour_sums-sums.result.suppliers c.in-Some.all are q.1 q.0;
      room = omega (arith, c.rows_needed-rows.ensures ∙ rows_for_count c.args.slot c.in-Some.all (search rules), c.free_places.ensures);
    }

pub returns : goal.returns
returns g c =
    let before = g.A.Archive.meaning c.args.archive.now in
    let slot = c.args.slot in
    let wanted = c.args.wanted.now in
    let sums = c.hour_sums-sums.result.suppliers in
    let are = sums_asked slot before.rows c.hour_sums-sums.result.suppliers _ _ c.hour_sums-sums.ensures.suppliers c.from.ensures c.from-2.ensures in
    let q = c.in-Some.ensures in
    let rows = found_rows before slot wanted sums c.in-Some.all are q.1 in
    let small = due_small before slot wanted sums c.in-Some.all are q.1 q.0 in
    let count = c.rows_needed-rows.ensures ∙ rows_for_count slot c.in-Some.all (search rules) ∙ ap length rows in
    let a = all_placed before slot wanted (sym c.is_lawful.ensures ∙ c.if-not-is_lawful.false) small (omega (arith, count, c.free_places.ensures)) in
    record {
      answer = ap Ok count ∙ a;
      after = c.append_dues.ensures.after ∙ ap (with_rows before) rows ∙ adjusted_by before slot wanted _ a;
      memory = c.append_dues.ensures.memory ∙ ap (entered g.A.Archive.stamped (g.A.Archive.memory c.args.archive.now) (length before.rows)) rows;
      lent = c.append_dues.ensures.lent;
      law = adjusting_law;
    }
