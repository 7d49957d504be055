-- A row is read from its fifteen bytes alone.
use Rattle.std.proofs.Common.{◌≡◌, ℕ, ◌<◌, ◌≤◌, ltb, List, length, get_or, take, Some, None, Err, Option, refl, ap, ⊎_elim, arith}
use Rattle.std.proofs.lemmas.List.{take_all, get_or-take, length-take-le}
use Rattle.std.proofs.lemmas.Bool.{cases_lt, le-ltb, cond-false}
use Rattle.rows.specs.declared.Fault.TheVariants.{Short}
use Rattle.rows.specs.declared.Kind.{Kind}
use Rattle.rows.specs.Format.{kind_of, fields_of, if_lawful, marked, reading}

same_fields : (bs cs : List ℕ) (k : Kind) → ((i : ℕ) → i < 15 → get_or bs i 0 ≡ get_or cs i 0) → fields_of k bs ≡ fields_of k cs
same_fields bs cs k same =
    let e2 = same 2 (omega arith) in
    let e3 = same 3 (omega arith) in
    let e4 = same 4 (omega arith) in
    let e5 = same 5 (omega arith) in
    let e6 = same 6 (omega arith) in
    let e7 = same 7 (omega arith) in
    let e8 = same 8 (omega arith) in
    let e9 = same 9 (omega arith) in
    let e10 = same 10 (omega arith) in
    let e11 = same 11 (omega arith) in
    let e12 = same 12 (omega arith) in
    let e13 = same 13 (omega arith) in
    let e14 = same 14 (omega arith) in
    cc

same_marked : (bs cs : List ℕ) (o : Option Kind) → ((i : ℕ) → i < 15 → get_or bs i 0 ≡ get_or cs i 0) → marked o bs ≡ marked o cs
same_marked bs cs None same = refl
same_marked bs cs (Some k) same = ap if_lawful (same_fields bs cs k same)

long_reading : (bs : List ℕ) → 15 ≤ length bs → reading bs ≡ marked (kind_of (get_or bs 0 0) (get_or bs 1 0)) bs
unfolding reading
long_reading bs h = cond-false (ltb (length bs) 15) (Err Short) (marked (kind_of (get_or bs 0 0) (get_or bs 1 0)) bs) (le-ltb (length bs) 15 h)

pub reading_front : (bs : List ℕ) → reading (take 15 bs) ≡ reading bs
reading_front bs =
    ⊎_elim
    (λ short. ap reading (take_all 15 bs (omega arith)))
    (λ long.
    let n = length-take-le 15 bs long in
    let same : (i : ℕ) → i < 15 → get_or (take 15 bs) i 0 ≡ get_or bs i 0 = λ i h. get_or-take 15 bs i 0 h in
    let a = long_reading (take 15 bs) (omega arith) in
    let b = long_reading bs long in
    let e0 = same 0 (omega arith) in
    let e1 = same 1 (omega arith) in
    let m = same_marked (take 15 bs) bs (kind_of (get_or bs 0 0) (get_or bs 1 0)) same in
    cc)
    (cases_lt (length bs) 15)
