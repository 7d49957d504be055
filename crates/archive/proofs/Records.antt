-- Rows in a table.
use Rattle.std.proofs.Common.{◌≡◌, true, List, [], ◌∷◌, ◌++◌, refl}
use Rattle.std.specs.List.{AllByRecursion}
use Rattle.std.proofs.lemmas.Bool.{and_parts, and_from}
use Rattle.rows.specs.declared.Row.{Row}
use Rattle.rows.specs.Lawful.{lawful, Lawful}
use Rattle.archive.specs.Packed.{all_lawful}

pub all_from_test : (rs : List Row) → all_lawful rs ≡ true → AllByRecursion Lawful rs
all_from_test [] e = tt
all_from_test (r ∷ rs) e = let p = and_parts (lawful r) (all_lawful rs) e in (p.0, all_from_test rs p.1)

pub test_push : (rs : List Row) (r : Row) → all_lawful rs ≡ true → Lawful r → all_lawful (rs ++ r ∷ []) ≡ true
test_push [] r e l = and_from (lawful r) true l refl
test_push (x ∷ xs) r e l =
    let p = and_parts (lawful x) (all_lawful xs) e in
    and_from (lawful x) (all_lawful (xs ++ r ∷ [])) p.0 (test_push xs r p.1 l)
