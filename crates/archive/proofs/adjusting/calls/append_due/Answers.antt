use Rattle.std.proofs.Common.{length, sym, refl, ap, ◌∙◌}
use Rattle.std.proofs.lemmas.Int.{to_z-of_z}
use Rattle.archive.specs.Contents.{appending, appended, kept}
use Rattle.archive.specs.Intake.{entered}
use Rattle.archive.specs.Adjusting.{with_rows}
use Rattle.archive.proofs.Adding.{one_appended, with_rows-none}
use Rattle.archive.proofs.Dues.{bits_zero, bits_other, row_for-none}
use Rattle.archive.proofs.adjusting.calls.append_due.Goals as goal

pub returns-then-amount-eq0 : goal.returns-then-amount-eq0
returns-then-amount-eq0 g c =
    let before = g.A.Archive.meaning c.args.archive.now in
    let none = sym (row_for-none c.args.slot c.args.supplier c.args.amount (bits_zero c.args.amount c.ranges.amount c.if-amount-eq0.true)) in
    record {
      after = with_rows-none before ∙ ap (with_rows before) none;
      memory = ap (entered g.A.Archive.stamped (g.A.Archive.memory c.args.archive.now) (length before.rows)) none;
      lent = refl;
    }

pub returns : goal.returns
returns g c =
    let f = c.ranges.amount in
    let before = g.A.Archive.meaning c.args.archive.now in
    let is = simp to_z-of_z at c.row.ensures in
    let answer = c.append.ensures.answer ∙ ap (appending before) is in
    let after = c.append.ensures.after ∙ ap (appended before) is in
    let memory = c.append.ensures.memory ∙ ap (λ r. kept c.append.result (g.A.Archive.stamped (g.A.Archive.memory c.args.archive.now) (length before.rows) r) (g.A.Archive.memory c.args.archive.now)) is in
    let p = one_appended g.A.Archive.stamped c.args.slot c.args.supplier c.args.amount before _ (g.A.Archive.memory c.args.archive.now) _ c.append.result c.requires.slot c.requires.supplier c.requires.amount (bits_other c.args.amount c.if-amount-eq0.false) c.requires.room answer after memory in
    record { after = p.0; memory = p.1; lent = c.append.ensures.lent }
