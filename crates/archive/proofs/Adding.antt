-- Rows of what is due, appended one after another.
use Rattle.std.proofs.Common.{◌≡◌, ℕ, ◌+◌, ◌-◌, ◌<◌, ◌≤◌, true, List, [], ◌∷◌, ◌++◌, length, ℤ, pos, Result, sym, ap, ◌∙◌, arith}
use Rattle.std.proofs.lemmas.List.{append_assoc, append-nil, length-append}
use Rattle.refusals.specs.declared.Refusal.{Refusal}
use Rattle.rows.specs.declared.Row.{Row}
use Rattle.archive.specs.declared.adjusting.Slot.{Slot}
use Rattle.archive.specs.Contents.{Contents, contents, appending, appended, kept}
use Rattle.archive.specs.Intake.{entered}
use Rattle.archive.specs.Adjusting.{lawful_slot, in_range, row_in, row_for, rows_for, with_rows}
use Rattle.archive.proofs.Putting.{accepting}
use Rattle.archive.proofs.Dues.{row_for_one, rows_for-none, rows_for_more, lawful_due}

pub with_rows-none : (c : Contents) → c ≡ with_rows c []
with_rows-none c = let f : c.free ≡ c.free - 0 = omega arith in ap (λ t. contents t c.free) (sym (append-nil c.rows)) ∙ ap (contents (c.rows ++ [])) f

pub with_rows_then : (c : Contents) (xs ys : List Row) → with_rows (with_rows c xs) ys ≡ with_rows c (xs ++ ys)
with_rows_then c xs ys =
    let f : c.free - length xs - length ys ≡ c.free - length (xs ++ ys) = omega (arith, length-append xs ys) in
    ap (λ t. contents t (c.free - length xs - length ys)) (append_assoc c.rows xs ys) ∙ ap (contents (c.rows ++ (xs ++ ys))) f

module _ (stamped : List ℕ → ℕ → Row → List ℕ) where
  pub entered-append : (m : List ℕ) (n : ℕ) (xs ys : List Row) → entered stamped m n (xs ++ ys) ≡ entered stamped (entered stamped m n xs) (n + length xs) ys
  entered-append m n [] ys = let z : n ≡ n + 0 = omega arith in ap (λ k. entered stamped m k ys) z
  entered-append m n (x ∷ xs) ys =
      let z : n + 1 + length xs ≡ n + length (x ∷ xs) = omega arith in
      entered-append (stamped m n x) (n + 1) xs ys ∙ ap (λ k. entered stamped (entered stamped (stamped m n x) (n + 1) xs) k ys) z

  -- the row of one supplier, where it is due something
  pub one_appended : (slot : Slot) (s : ℕ) (z : ℤ) (c c' : Contents) (m m' : List ℕ) (a : Result (Unit {0}) Refusal) → lawful_slot slot ≡ true → (1 ≤ s) × (s ≤ 32) → in_range z ≡ true → (z ≡ pos 0 → ⊥) → length (row_for slot s z) ≤ c.free → a ≡ appending c (row_in slot s z) → c' ≡ appended c (row_in slot s z) → m' ≡ kept a (stamped m (length c.rows) (row_in slot s z)) m → (c' ≡ with_rows c (row_for slot s z)) × (m' ≡ entered stamped m (length c.rows) (row_for slot s z))
  one_appended slot s z c c' m m' a good range small ne room answer after memory =
      let one = row_for_one slot s z ne in
      let some : 0 < c.free = omega (arith, ap length one) in
      let ok = accepting c (row_in slot s z) (lawful_due slot s z good range.0 range.1 small ne) some in
      (after ∙ ap (λ x. kept x (contents (c.rows ++ row_in slot s z ∷ []) (c.free - 1)) c) ok ∙ ap (with_rows c) (sym one), memory ∙ ap (λ x. kept x (stamped m (length c.rows) (row_in slot s z)) m) (answer ∙ ok) ∙ ap (entered stamped m (length c.rows)) (sym one))

  -- n suppliers have their rows
  pub record Given (slot : Slot) (due : ℕ → ℤ) (c₀ : Contents) (m₀ : List ℕ) (n : ℕ) (c : Contents) (m : List ℕ) : Type 0 where
    pub rows : c ≡ with_rows c₀ (rows_for slot due n)
    pub memory : m ≡ entered stamped m₀ (length c₀.rows) (rows_for slot due n)

  module _ (slot : Slot) (due : ℕ → ℤ) (c₀ : Contents) (m₀ : List ℕ) where
    pub given_none : Given slot due c₀ m₀ 0 c₀ m₀
    given_none = record {
      rows = with_rows-none c₀ ∙ ap (with_rows c₀) (sym (rows_for-none slot due));
      memory = sym (ap (entered stamped m₀ (length c₀.rows)) (rows_for-none slot due));
    }

    pub given_more : (n : ℕ) (c c' : Contents) (m m' : List ℕ) → c' ≡ with_rows c (row_for slot (n + 1) (due (n + 1))) → m' ≡ entered stamped m (length c.rows) (row_for slot (n + 1) (due (n + 1))) → Given slot due c₀ m₀ n c m → Given slot due c₀ m₀ (n + 1) c' m'
    given_more n c c' m m' after memory p =
        let old : List Row = rows_for slot due n in
        let new : List Row = row_for slot (n + 1) (due (n + 1)) in
        let len : length c.rows ≡ length c₀.rows + length old = ap (λ t. length t.rows) p.rows ∙ length-append c₀.rows old in
        record {
          rows = after ∙ ap (λ t. with_rows t new) p.rows ∙ with_rows_then c₀ old new ∙ ap (with_rows c₀) (sym (rows_for_more slot due n));
          memory = memory ∙ ap (λ k. entered stamped m k new) len ∙ ap (λ t. entered stamped t (length c₀.rows + length old) new) p.memory ∙ sym (entered-append m₀ (length c₀.rows) old new) ∙ ap (entered stamped m₀ (length c₀.rows)) (sym (rows_for_more slot due n));
        }
