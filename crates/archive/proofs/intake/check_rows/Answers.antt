use Rattle.std.proofs.Common.{rules, ◌≡◌, ℕ, ◌+◌, ◌*◌, ◌/◌, ◌++◌, List, length, Ok, Err, Result, sym, ap, ◌∙◌}
use Rattle.std.proofs.lemmas.Result.{err_from_is_err_and}
use Rattle.refusals.specs.declared.Refusal.{Refusal}
use Rattle.rows.specs.declared.Row.{Row}
use Rattle.rows.specs.declared.Fault.{Fault}
use Rattle.rows.specs.Format.{reading}
use Rattle.archive.specs.Intake.{all_read, faulty}
use Rattle.archive.proofs.Reading.{read_more, read_fault, none_left}
use Rattle.archive.proofs.intake.check_rows.Goals as goal

pub loop-i-preserved : goal.loop-i-preserved
loop-i-preserved c =
    let left = c.loop-i.i-iterator.iter.rest.now in
    let rest = c.next.new.self.iter.rest.now in
    let at = c.loop-i.i-iterator.count * 15 in
    let t : (r : Row) × (reading c.in-Some.row.now ≡ Ok r) = search rules in
    let s : left ≡ c.in-Some.row.now ++ rest = search rules in
    let n : length c.in-Some.row.now ≡ 15 = search rules in
    let m = read_more left c.in-Some.row.now rest s n at t.0 t.1 in
    let on : at + 15 ≡ c.next.new.self.count * 15 = search rules in
    (search rules, sym (ap (λ k. all_read (length rest / 15) k rest) on) ∙ sym m ∙ c.loop-i.invariant.1)

first_fault : {T : Type 0} (left row rest : List ℕ) (at : ℕ) (x : Result T Refusal) (e : Refusal) → left ≡ row ++ rest → length row ≡ 15 → (f : Fault) × (reading row ≡ Err f) × (x ≡ Err (faulty f at)) → x ≡ Err e → Err e ≡ all_read (length left / 15) at left
first_fault left row rest at x e split n (f, bad, is) was =
    let m = read_fault left row rest split n at f bad in
    let same : e ≡ faulty f at = cc in
    ap Err same ∙ sym m

pub returns-in_err-map_err : goal.returns-in_err-map_err
returns-in_err-map_err c =
    let p = err_from_is_err_and c.from_residual.result c.from_residual.ensures.1 in
    p.1 ∙ ap Err p.2 ∙ first_fault c.loop-i.i-iterator.iter.rest.now c.in-Some.row.now c.next.new.self.iter.rest.now (c.loop-i.i-iterator.count * 15) c.map_err.result _ (search rules) (search rules) (search rules) c.in_err-map_err.was ∙ c.loop-i.invariant.1

pub returns : goal.returns
returns c =
    let left = c.loop-i.i-iterator.iter.rest.now in
    let none : length left / 15 ≡ 0 = search rules in
    sym (none_left left _ none) ∙ c.loop-i.invariant.1
