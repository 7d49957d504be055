-- Rows that stand one after another in bytes.
use Rattle.std.proofs.Common.{◌≡◌, ℕ, zero, suc, ◌*◌, ◌<◌, ◌≤◌, List, [], ◌∷◌, ◌++◌, length, take, drop, Some, Ok, Err, Result, sym, refl, ap, ◌∙◌, suc-mul, add_comm, arith, take-add}
use Rattle.std.specs.List.{slice_get, AllByRecursion}
use Rattle.std.proofs.lemmas.List.{take_at, drop_at, append_assoc, length-take, length-drop, length-take-le, drop-drop}
use Rattle.rows.specs.declared.Row.{Row}
use Rattle.rows.specs.declared.Fault.{Fault}
use Rattle.rows.specs.Lawful.{Lawful}
use Rattle.rows.specs.Format.{reading}
use Rattle.rows.proofs.Found.{found}
use Rattle.archive.specs.Packed.{then_rows, rows_in}

then_lawful : (x : Result Row Fault) (bs : List ℕ) (rs : List Row) → reading bs ≡ x → AllByRecursion Lawful rs → AllByRecursion Lawful (then_rows x rs)
then_lawful (Ok r) bs rs e h = ((found bs r e).lawful, h)
then_lawful (Err f) bs rs e h = tt

pub rows_in-lawful : (n : ℕ) (bs : List ℕ) → AllByRecursion Lawful (rows_in n bs)
rows_in-lawful zero bs = tt
rows_in-lawful (suc n) bs = then_lawful (reading (take 15 bs)) (take 15 bs) _ refl (rows_in-lawful n (drop 15 bs))

-- of n + 1 rows, the first was read, and n follow
first-whole : (x : Result Row Fault) (rs : List Row) (n : ℕ) → length (then_rows x rs) ≡ suc n → (r : Row) × (x ≡ Ok r) × (length rs ≡ n)
first-whole (Ok r) rs n h = (r, refl, omega arith)
first-whole (Err f) rs n h = absurd (omega arith)

module _ (n : ℕ) (bs : List ℕ) (whole : length (rows_in (suc n) bs) ≡ suc n) where
  head_read : reading (take 15 bs) ≡ Ok (first-whole (reading (take 15 bs)) (rows_in n (drop 15 bs)) n whole).0
  head_read = (first-whole (reading (take 15 bs)) (rows_in n (drop 15 bs)) n whole).1

  tail_whole : length (rows_in n (drop 15 bs)) ≡ n
  tail_whole = (first-whole (reading (take 15 bs)) (rows_in n (drop 15 bs)) n whole).2

  head_long : 15 ≤ length bs
  head_long = let h = (found (take 15 bs) _ head_read).long in omega (arith, length-take 15 bs)

  -- the rows before any others
  rows_by_head : (rs : List Row) → then_rows (reading (take 15 bs)) rs ≡ (first-whole (reading (take 15 bs)) (rows_in n (drop 15 bs)) n whole).0 ∷ rs
  rows_by_head rs = ap (λ x. then_rows x rs) head_read

pub whole-fits : (n : ℕ) (bs : List ℕ) → length (rows_in n bs) ≡ n → n * 15 ≤ length bs
whole-fits zero bs e = omega arith
whole-fits (suc n) bs e =
    let t = whole-fits n (drop 15 bs) (tail_whole n bs e) in
    omega (arith, head_long n bs e, length-drop 15 bs, suc-mul n 15)

-- the first row of n + 1, and the other n, in bytes of which other bytes follow these
module _ (n : ℕ) (bs more : List ℕ) (whole : length (rows_in (suc n) bs) ≡ suc n) where
  front_parts : take (suc n * 15) bs ++ more ≡ take 15 bs ++ (take (n * 15) (drop 15 bs) ++ more)
  front_parts =
      ap (λ m. take m bs ++ more) (suc-mul n 15 ∙ add_comm (n * 15) 15)
      ∙ ap (λ z. z ++ more) (take-add 15 (n * 15) bs)
      ∙ append_assoc (take 15 bs) (take (n * 15) (drop 15 bs)) more

  front_rows : (k : ℕ) → rows_in (suc k) (take (suc n * 15) bs ++ more) ≡ then_rows (reading (take 15 bs)) (rows_in k (take (n * 15) (drop 15 bs) ++ more))
  front_rows k =
      let q : length (take 15 bs) ≡ 15 = length-take-le 15 bs (head_long n bs whole) in
      let rest : List ℕ = take (n * 15) (drop 15 bs) ++ more in
      ap (rows_in (suc k)) front_parts
      ∙ ap (λ z. then_rows (reading z) (rows_in k (drop 15 (take 15 bs ++ rest)))) (take_at (take 15 bs) rest 15 q)
      ∙ ap (λ z. then_rows (reading (take 15 bs)) (rows_in k z)) (drop_at (take 15 bs) rest 15 q)

-- a row written after n rows
pub rows_in-put : (n : ℕ) (bs ys end : List ℕ) (r : Row) → length (rows_in n bs) ≡ n → reading ys ≡ Ok r → length ys ≡ 15 → rows_in (suc n) (take (n * 15) bs ++ (ys ++ end)) ≡ rows_in n bs ++ r ∷ []
rows_in-put zero bs ys end r w e l = ap (λ z. then_rows (reading z) []) (take_at ys end 15 l) ∙ ap (λ x. then_rows x []) e
rows_in-put (suc n) bs ys end r w e l =
    front_rows n bs (ys ++ end) w (suc n)
    ∙ ap (λ z. then_rows (reading (take 15 bs)) z) (rows_in-put n (drop 15 bs) ys end r (tail_whole n bs w) e l)
    ∙ rows_by_head n bs w (rows_in n (drop 15 bs) ++ r ∷ [])
    ∙ sym (ap (λ z. z ++ r ∷ []) (rows_by_head n bs w (rows_in n (drop 15 bs))))

-- what stands after n rows does not matter to them
pub rows_in_keep : (n : ℕ) (bs more : List ℕ) → length (rows_in n bs) ≡ n → rows_in n (take (n * 15) bs ++ more) ≡ rows_in n bs
rows_in_keep zero bs more w = refl
rows_in_keep (suc n) bs more w =
    front_rows n bs more w n ∙ ap (λ z. then_rows (reading (take 15 bs)) z) (rows_in_keep n (drop 15 bs) more (tail_whole n bs w))

-- the row at a position
pub rows_in_at : (n : ℕ) (bs : List ℕ) (p : ℕ) (r : Row) → length (rows_in n bs) ≡ n → p < n → reading (take 15 (drop (p * 15) bs)) ≡ Ok r → slice_get (rows_in n bs) p ≡ Some r
rows_in_at zero bs p r w l e = absurd (omega arith)
rows_in_at (suc n) bs zero r w l e = ap (λ x. slice_get (then_rows x (rows_in n (drop 15 bs))) 0) e
rows_in_at (suc n) bs (suc p) r w l e =
    ap (λ z. slice_get z (suc p)) (rows_by_head n bs w (rows_in n (drop 15 bs)))
    ∙ rows_in_at n (drop 15 bs) p r (tail_whole n bs w) (omega arith)
    (ap (λ z. reading (take 15 z)) (drop-drop (p * 15) 15 bs) ∙ ap (λ m. reading (take 15 (drop m bs))) (sym (suc-mul p 15 ∙ add_comm (p * 15) 15)) ∙ e)

-- each of n rows can be read
pub rows_in_read : (n : ℕ) (bs : List ℕ) (p : ℕ) → length (rows_in n bs) ≡ n → p < n → (r : Row) × (reading (take 15 (drop (p * 15) bs)) ≡ Ok r)
rows_in_read zero bs p w l = absurd (omega arith)
rows_in_read (suc n) bs zero w l = ((first-whole (reading (take 15 bs)) (rows_in n (drop 15 bs)) n w).0, head_read n bs w)
rows_in_read (suc n) bs (suc p) w l =
    let t = rows_in_read n (drop 15 bs) p (tail_whole n bs w) (omega arith) in
    (t.0, ap (λ m. reading (take 15 (drop m bs))) (suc-mul p 15 ∙ add_comm (p * 15) 15) ∙ ap (λ z. reading (take 15 z)) (sym (drop-drop (p * 15) 15 bs)) ∙ t.1)
