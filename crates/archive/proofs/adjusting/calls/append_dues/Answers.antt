use Rattle.std.proofs.Common.{◌≡◌, ℕ, ◌+◌, ◌-◌, ◌≤◌, length, get_or, ℤ, pos, sym, refl, ap, ◌∙◌, arith, w64, SFits, rules}
use Rattle.std.proofs.lemmas.Int.{to_z-of_z}
use Rattle.archive.specs.Intake.{entered}
use Rattle.archive.specs.Adjusting.{in_range, row_for, rows_for, with_rows}
use Rattle.archive.proofs.Adding.{given_none, given_more}
use Rattle.archive.proofs.Dues.{all_in_range_at, rows_for_room}
use Rattle.archive.proofs.adjusting.calls.append_dues.Goals as goal

pub loop-i-init : goal.loop-i-init
loop-i-init g c = (refl, given_none _ _ _ _ _)

pub append_due-requires : goal.append_due-requires
append_due-requires g c =
    let i = c.loop-i.i in
    let slot = c.args.slot in
    let due : ℕ → ℤ = λ s. get_or c.args.dues.now (s - 1) (pos 0) in
    let at : i + 1 - 1 ≡ i = omega arith in
    let f : SFits w64 (get_or c.args.dues.now i (pos 0)) = search rules in
    let next = ap (λ k. get_or c.args.dues.now k (pos 0)) at in
    let room : length (row_for slot (i + 1) (get_or c.args.dues.now i (pos 0))) ≤ (g.A.Archive.meaning c.loop-i.archive).free = omega (arith, ap (λ t. t.free) c.loop-i.invariant.1.rows, rows_for_room slot due i c.loop-i-test.true, ap (λ z. length (row_for slot (i + 1) z)) next, c.requires.room) in
    record {
      slot = c.requires.slot;
      supplier = (omega arith, omega arith);
      amount = simp to_z-of_z (ap in_range (sym next) ∙ all_in_range_at due (i + 1) 32 (omega arith) (omega arith) c.requires.amounts);
      room = simp to_z-of_z room;
    }

pub loop-i-preserved : goal.loop-i-preserved
loop-i-preserved g c =
    let i = c.loop-i.i in
    let slot = c.args.slot in
    let due : ℕ → ℤ = λ s. get_or c.args.dues.now (s - 1) (pos 0) in
    let at : i ≡ i + 1 - 1 = omega arith in
    let f : SFits w64 (get_or c.args.dues.now i (pos 0)) = search rules in
    let next = ap (λ k. get_or c.args.dues.now k (pos 0)) at in
    let after = simp to_z-of_z at c.append_due.ensures.after in
    let memory = simp to_z-of_z at c.append_due.ensures.memory in
    (c.append_due.ensures.lent ∙ c.loop-i.invariant.0, given_more g.A.Archive.stamped slot due _ _ i (g.A.Archive.meaning c.loop-i.archive) _ (g.A.Archive.memory c.loop-i.archive) _ (after ∙ ap (λ z. with_rows (g.A.Archive.meaning c.loop-i.archive) (row_for slot (i + 1) z)) next) (memory ∙ ap (λ z. entered g.A.Archive.stamped (g.A.Archive.memory c.loop-i.archive) (length (g.A.Archive.meaning c.loop-i.archive).rows) (row_for slot (i + 1) z)) next) c.loop-i.invariant.1)

pub returns : goal.returns
returns g c =
    let due : ℕ → ℤ = λ s. get_or c.args.dues.now (s - 1) (pos 0) in
    let all : c.loop-i.i ≡ 32 = omega arith in
    let before = g.A.Archive.meaning c.args.archive.now in
    record {
      after = c.loop-i.invariant.1.rows ∙ ap (λ n. with_rows before (rows_for c.args.slot due n)) all;
      memory = c.loop-i.invariant.1.memory ∙ ap (λ n. entered g.A.Archive.stamped (g.A.Archive.memory c.args.archive.now) (length before.rows) (rows_for c.args.slot due n)) all;
      lent = c.loop-i.invariant.0;
    }
