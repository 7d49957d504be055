-- Rows read from bytes, one after another.
use Rattle.std.proofs.Common.{◌≡◌, ℕ, suc, ◌+◌, ◌/◌, List, ◌∷◌, ◌++◌, length, take, drop, Ok, Err, ap, ◌∙◌, arith}
use Rattle.std.proofs.lemmas.List.{take_at, drop_at, length-append}
use Rattle.rows.specs.declared.Row.{Row}
use Rattle.rows.specs.declared.Fault.{Fault}
use Rattle.rows.specs.Format.{reading}
use Rattle.archive.specs.Packed.{then_rows, rows_in}
use Rattle.archive.specs.Intake.{then_read, faulty, all_read}

-- of the bytes that are left, the fifteen of the next row, and those after them
module _ (left row rest : List ℕ) (split : left ≡ row ++ rest) (fifteen : length row ≡ 15) where
  one_fewer : length left / 15 ≡ suc (length rest / 15)
  one_fewer = omega (arith, ap length split, length-append row rest)

  first : take 15 left ≡ row
  first = ap (take 15) split ∙ take_at row rest 15 fifteen

  others : drop 15 left ≡ rest
  others = ap (drop 15) split ∙ drop_at row rest 15 fifteen

  read_turn : (at : ℕ) → all_read (length left / 15) at left ≡ then_read (reading row) at (all_read (length rest / 15) (at + 15) rest)
  read_turn at =
      ap (λ k. all_read k at left) one_fewer
      ∙ ap (λ t. then_read (reading t) at (all_read (length rest / 15) (at + 15) (drop 15 left))) first
      ∙ ap (λ t. then_read (reading row) at (all_read (length rest / 15) (at + 15) t)) others

  pub read_more : (at : ℕ) (r : Row) → reading row ≡ Ok r → all_read (length left / 15) at left ≡ all_read (length rest / 15) (at + 15) rest
  read_more at r e = read_turn at ∙ ap (λ x. then_read x at (all_read (length rest / 15) (at + 15) rest)) e

  pub read_fault : (at : ℕ) (f : Fault) → reading row ≡ Err f → all_read (length left / 15) at left ≡ Err (faulty f at)
  read_fault at f e = read_turn at ∙ ap (λ x. then_read x at (all_read (length rest / 15) (at + 15) rest)) e

  pub rows_more : (r : Row) → reading row ≡ Ok r → rows_in (length left / 15) left ≡ r ∷ rows_in (length rest / 15) rest
  rows_more r e =
      ap (λ k. rows_in k left) one_fewer
      ∙ ap (λ t. then_rows (reading t) (rows_in (length rest / 15) (drop 15 left))) first
      ∙ ap (λ t. then_rows (reading row) (rows_in (length rest / 15) t)) others
      ∙ ap (λ x. then_rows x (rows_in (length rest / 15) rest)) e

pub none_left : (left : List ℕ) (at : ℕ) → length left / 15 ≡ 0 → all_read (length left / 15) at left ≡ Ok tt
none_left left at e = ap (λ k. all_read k at left) e
