use Rattle.std.proofs.Common.{Err, refl, ap, ◌∙◌, arith}
use Rattle.std.proofs.lemmas.Result.{err_from_is_err_and}
use Rattle.archive.proofs.Answered.{kept_old, not_whole, unreadable, no_room, all_read_lem, taken_by}
use Rattle.archive.proofs.Again.{taken_again}
use Rattle.archive.proofs.intake.take_in.Goals as goal

pub returns-then-bytes-ne0 : goal.returns-then-bytes-ne0
returns-then-bytes-ne0 g c =
    let before = g.A.Archive.meaning c.args.archive.now in
    let a = ap Err c.new.ensures ∙ not_whole before c.args.bytes.now c.if-bytes-ne0.true in
    record { answer = a; after = taken_by before c.args.bytes.now _ a; memory = refl; lent = refl; again = taken_again }

pub returns-in_err-check_rows : goal.returns-in_err-check_rows
returns-in_err-check_rows g c =
    let before = g.A.Archive.meaning c.args.archive.now in
    let p = err_from_is_err_and c.from_residual.result c.from_residual.ensures.1 in
    let is = p.1 ∙ ap Err p.2 in
    let a = unreadable before c.args.bytes.now c.if-bytes-ne0.false _ c.in_err-check_rows.ensures in
    record { answer = is ∙ a; after = taken_by before c.args.bytes.now _ a; memory = kept_old _ _ _ _ is; lent = refl; again = taken_again }

pub returns-then-rows-free_places : goal.returns-then-rows-free_places
returns-then-rows-free_places g c =
    let before = g.A.Archive.meaning c.args.archive.now in
    let a = ap Err c.new-then-rows-free_places.ensures ∙ no_room before c.args.bytes.now c.if-bytes-ne0.false c.in_ok-check_rows.ensures (omega (arith, c.free_places.ensures)) in
    record { answer = a; after = taken_by before c.args.bytes.now _ a; memory = refl; lent = refl; again = taken_again }

pub returns : goal.returns
returns g c =
    let before = g.A.Archive.meaning c.args.archive.now in
    let a = all_read_lem before c.args.bytes.now c.if-bytes-ne0.false c.in_ok-check_rows.ensures (omega (arith, c.free_places.ensures)) in
    record { answer = a; after = c.append_rows.ensures.after ∙ taken_by before c.args.bytes.now _ a; memory = c.append_rows.ensures.memory; lent = c.append_rows.ensures.lent; again = taken_again }
