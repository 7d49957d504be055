-- Rows appended one after another.
use Rattle.std.proofs.Common.{◌≡◌, ℕ, ◌+◌, ◌-◌, ◌/◌, ◌<◌, ◌≤◌, List, [], ◌∷◌, ◌++◌, length, Ok, Err, Result, sym, refl, ap, ◌∙◌, arith}
use Rattle.std.proofs.lemmas.List.{append_assoc, append-nil, length_push, length-append}
use Rattle.refusals.specs.declared.Refusal.{Refusal}
use Rattle.rows.specs.declared.Row.{Row}
use Rattle.rows.specs.declared.Fault.{Fault}
use Rattle.rows.specs.Format.{reading}
use Rattle.rows.proofs.Found.{found}
use Rattle.archive.specs.Contents.{Contents, contents, appending, appended, kept}
use Rattle.archive.specs.Packed.{rows_in}
use Rattle.archive.specs.Intake.{all_read, entered}
use Rattle.archive.proofs.Putting.{accepting}
use Rattle.archive.proofs.Reading.{read_more, read_fault, rows_more}

-- the rows that bytes hold
abbrev pub rows_of : List ℕ → List Row
rows_of bs = rows_in (length bs / 15) bs

module _ (stamped : List ℕ → ℕ → Row → List ℕ) (bs : List ℕ) (c₀ : Contents) (m₀ : List ℕ) where
  -- the rows before the bytes that are left are appended, and those that are left would complete them
  pub record Taken (left : List ℕ) (c : Contents) (m : List ℕ) : Type 0 where
    pub at : ℕ
    pub read : all_read (length left / 15) at left ≡ Ok tt
    pub rows : c.rows ++ rows_of left ≡ c₀.rows ++ rows_of bs
    pub free : c.free + length bs / 15 ≡ c₀.free + length left / 15
    pub memory : entered stamped m (length c.rows) (rows_of left) ≡ entered stamped m₀ (length c₀.rows) (rows_of bs)

  pub taken_none : all_read (length bs / 15) 0 bs ≡ Ok tt → Taken bs c₀ m₀
  taken_none e = record { at = 0; read = e; rows = refl; free = refl; memory = refl }

  module _ (left row rest : List ℕ) (split : left ≡ row ++ rest) (fifteen : length row ≡ 15) (c : Contents) (m : List ℕ) (p : Taken left c m) where
    -- no row that is left is unreadable
    pub taken_good : (f : Fault) → reading row ≡ Err f → ⊥
    taken_good f bad =
        let ok = p.read in
        let e = read_fault left row rest split fifteen p.at f bad in
        let z : ◌≡◌ {A = ℕ} 0 1 = cc in
        omega arith

    pub taken_more : (c' : Contents) (m' : List ℕ) (r : Row) (a : Result (Unit {0}) Refusal) → length bs / 15 ≤ c₀.free → reading row ≡ Ok r → a ≡ appending c r → c' ≡ appended c r → m' ≡ kept a (stamped m (length c.rows) r) m → Taken rest c' m'
    taken_more c' m' r a room e answer after memory =
        let some : 0 < c.free = omega (arith, p.free, ap length split, length-append row rest) in
        let ok = accepting c r (found row r e).lawful some in
        let more = rows_more left row rest split fifteen r e in
        let is : c' ≡ contents (c.rows ++ r ∷ []) (c.free - 1) = after ∙ ap (λ x. kept x (contents (c.rows ++ r ∷ []) (c.free - 1)) c) ok in
        let put : m' ≡ stamped m (length c.rows) r = memory ∙ ap (λ x. kept x (stamped m (length c.rows) r) m) (answer ∙ ok) in
        let next : List Row = rows_of rest in
        record {
          at = p.at + 15;
          read = sym (read_more left row rest split fifteen p.at r e) ∙ p.read;
          rows = ap (λ t. t.rows ++ next) is ∙ append_assoc c.rows (r ∷ []) next ∙ ap (λ t. c.rows ++ t) (sym more) ∙ p.rows;
          free = omega (arith, ap (λ t. t.free) is, p.free, ap length split, length-append row rest);
          memory = ap (λ t. entered stamped m' (length t.rows) next) is ∙ ap (λ k. entered stamped m' k next) (length_push c.rows r) ∙ ap (λ t. entered stamped t (length c.rows + 1) next) put ∙ sym (ap (entered stamped m (length c.rows)) more) ∙ p.memory;
        }

  pub taken_all : (left : List ℕ) (c : Contents) (m : List ℕ) → length left < 15 → Taken left c m → (c ≡ contents (c₀.rows ++ rows_of bs) (c₀.free - length bs / 15)) × (m ≡ entered stamped m₀ (length c₀.rows) (rows_of bs))
  taken_all left c m l p =
      let none : length left / 15 ≡ 0 = omega arith in
      let rows = sym (append-nil c.rows) ∙ ap (λ k. c.rows ++ rows_in k left) (sym none) ∙ p.rows in
      let free : c.free ≡ c₀.free - length bs / 15 = omega (arith, p.free) in
      (ap (λ t. contents t c.free) rows ∙ ap (contents (c₀.rows ++ rows_of bs)) free, ap (λ k. entered stamped m (length c.rows) (rows_in k left)) (sym none) ∙ p.memory)
