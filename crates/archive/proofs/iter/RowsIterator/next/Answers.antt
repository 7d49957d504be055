use Rattle.std.proofs.Common.{rules, ◌≡◌, ℕ, ◌+◌, ◌<◌, List, length, drop, Option, sym, ap, ◌∙◌, subst}
use Rattle.std.proofs.lemmas.List.{drop_more}
use Rattle.std.proofs.lemmas.Option.{slice_get-get_or}
use Rattle.std.specs.Iterator.{YieldsFirst}
use Rattle.std.specs.List.{slice_get}
use Rattle.rows.specs.declared.Row.{Row}
use Rattle.archive.proofs.Summing.{no_row}
use Rattle.archive.proofs.iter.RowsIterator.next.Goals as goal

first_comes : (all : List Row) (p : ℕ) (o : Option Row) → p < length all → o ≡ slice_get all p → YieldsFirst (λ s. s) (drop p all) o (drop (p + 1) all)
first_comes all p o l e =
    let P : Option Row → Type 0 = λ x. YieldsFirst (λ s. s) (drop p all) x (drop (p + 1) all) in
    subst P (sym (e ∙ slice_get-get_or all p no_row l)) (drop_more all p no_row l)

pub returns-clause-steps : goal.returns-clause-steps
returns-clause-steps g c =
    let all = (g.A.Archive.meaning c.self.inside.archive.now).rows in
    let p = c.in_ok-next.field-0 in
    let start : p ≡ c.self.inside.positions.start = search rules in
    let next : p + 1 ≡ c.next.new.self.start = search rules in
    let left = ap (λ k. drop k all) start ∙ c.self.view_is in
    rw (← left, ← next) (first_comes all p _ (search rules) c.row.ensures)
