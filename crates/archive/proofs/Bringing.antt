-- The rows that are lacking bring the sums to what is wanted.
use Rattle.std.proofs.Common.{◌≡◌, ℕ, zero, suc, ◌+◌, ◌<◌, ◌≤◌, Bool, true, false, ◌&&◌, eqb, List, ◌++◌, ℤ, pos, ◌+ℤ◌, ◌-ℤ◌, sym, refl, ap, ◌∙◌, ⊎_elim, add-one, arith}
use lib.IntN.{+ℤ_idr}
use Rattle.std.proofs.lemmas.List.{append-nil, append_assoc}
use Rattle.std.proofs.lemmas.Int.{ints}
use Rattle.std.proofs.lemmas.Bool.{and_parts, and_from, cases_Bool, cases_eq, cond-true, cond-false, eq-eqb, eqb-true, false≢true}
use Rattle.rows.specs.declared.Row.{Row}
use Rattle.rows.specs.declared.Kind.{Kind}
use Rattle.rows.specs.declared.Kind.TheVariants.{Energy, Peak}
use Rattle.archive.specs.declared.adjusting.Slot.{Slot}
use Rattle.archive.specs.Sums.{same_kind, in_hour, portion, sum_of}
use Rattle.archive.specs.Adjusting.{row_in, row_for, rows_for, wanted_by, due_to, AdjustingLaw}
use Rattle.archive.proofs.Summing.{sum_of_push}
use Rattle.archive.proofs.Portions.{portion_in, portion_out, portion_other}
use Rattle.archive.proofs.Dues.{cases_zero, row_for-none, row_for_one, rows_for-none, rows_for_more}

same_kind_lem : (k : Kind) → same_kind k k ≡ true
same_kind_lem Energy = refl
same_kind_lem Peak = refl

kinds_same : (j k : Kind) → same_kind j k ≡ true → j ≡ k
kinds_same Energy Energy e = refl
kinds_same Energy Peak e = absurd (false≢true e)
kinds_same Peak Energy e = absurd (false≢true e)
kinds_same Peak Peak e = refl

module _ (slot : Slot) (rs : List Row) (due : ℕ → ℤ) where
  -- a row of amount 0 would add nothing
  zero_portion : (k : Kind) (d h s t : ℕ) (z : ℤ) → z ≡ pos 0 → portion k d h s (row_in slot t z) ≡ pos 0
  zero_portion k d h s t z e =
      let b : Bool = in_hour k d h (row_in slot t z) && eqb t s in
      ⊎_elim (λ y. cond-true b z (pos 0) y ∙ e) (λ n. cond-false b z (pos 0) n) (cases_Bool b)

  -- one supplier more
  sum_step : (k : Kind) (d h s n : ℕ) → sum_of k d h s (rs ++ rows_for slot due (n + 1)) ≡ sum_of k d h s (rs ++ rows_for slot due n) +ℤ portion k d h s (row_in slot (n + 1) (due (n + 1)))
  sum_step k d h s n =
      let z : ℤ = due (n + 1) in
      let old : List Row = rs ++ rows_for slot due n in
      let more = ap (λ t. rs ++ t) (rows_for_more slot due n) ∙ sym (append_assoc rs (rows_for slot due n) (row_for slot (n + 1) z)) in
      ap (sum_of k d h s) more
      ∙ ⊎_elim
      (λ e. ap (λ t. sum_of k d h s (old ++ t)) (row_for-none slot (n + 1) z e) ∙ ap (sum_of k d h s) (append-nil old) ∙ sym (ap (λ x. sum_of k d h s old +ℤ x) (zero_portion k d h s (n + 1) z e) ∙ +ℤ_idr _))
      (λ ne. ap (λ t. sum_of k d h s (old ++ t)) (row_for_one slot (n + 1) z ne) ∙ sum_of_push k d h s old (row_in slot (n + 1) z))
      (cases_zero z)

  -- where none of the rows counts
  sum_same : (k : Kind) (d h s n : ℕ) → ((i : ℕ) → i < n → portion k d h s (row_in slot (i + 1) (due (i + 1))) ≡ pos 0) → sum_of k d h s (rs ++ rows_for slot due n) ≡ sum_of k d h s rs
  sum_same k d h s zero none = ap (λ t. sum_of k d h s (rs ++ t)) (rows_for-none slot due) ∙ ap (sum_of k d h s) (append-nil rs)
  sum_same k d h s (suc n) none =
      ap (λ m. sum_of k d h s (rs ++ rows_for slot due m)) (sym (add-one n))
      ∙ sum_step k d h s n
      ∙ ap (λ z. sum_of k d h s (rs ++ rows_for slot due n) +ℤ z) (none n (omega arith))
      ∙ +ℤ_idr _
      ∙ sum_same k d h s n (λ i l. none i (omega arith))

  here : (s : ℕ) (z : ℤ) → in_hour slot.kind slot.day slot.hour (row_in slot s z) ≡ true
  here s z =
      and_from (same_kind slot.kind slot.kind) (eqb slot.day slot.day && eqb slot.hour slot.hour) (same_kind_lem slot.kind) (and_from (eqb slot.day slot.day) (eqb slot.hour slot.hour) (eq-eqb slot.day slot.day refl) (eq-eqb slot.hour slot.hour refl))

  not_here : (k : Kind) (d h s : ℕ) (z : ℤ) → (k ≡ slot.kind → d ≡ slot.day → h ≡ slot.hour → ⊥) → in_hour k d h (row_in slot s z) ≡ false
  not_here k d h s z ne =
      ⊎_elim
      (λ t. let p = and_parts (same_kind k slot.kind) _ t in let q = and_parts (eqb slot.day d) (eqb slot.hour h) p.1 in absurd (ne (kinds_same k slot.kind p.0) (sym (eqb-true slot.day d q.0)) (sym (eqb-true slot.hour h q.1))))
      (λ f. f)
      (cases_Bool (in_hour k d h (row_in slot s z)))

  abbrev sum_here : ℕ → List Row → ℤ
  sum_here s xs = sum_of slot.kind slot.day slot.hour s xs

  -- a supplier among the first n has what it was due
  sum_done : (s n : ℕ) → s < n → sum_here (s + 1) (rs ++ rows_for slot due n) ≡ sum_here (s + 1) rs +ℤ due (s + 1)
  sum_done s zero l = absurd (omega arith)
  sum_done s (suc n) l =
      ap (λ m. sum_here (s + 1) (rs ++ rows_for slot due m)) (sym (add-one n))
      ∙ sum_step slot.kind slot.day slot.hour (s + 1) n
      ∙ ⊎_elim
      (λ e. ap (λ z. sum_here (s + 1) (rs ++ rows_for slot due n) +ℤ z) (portion_in slot.kind slot.day slot.hour (s + 1) (row_in slot (n + 1) (due (n + 1))) (here (n + 1) (due (n + 1))) (ap (λ i. i + 1) (sym e)) ∙ ap (λ i. due (i + 1)) (sym e))
      ∙ ap (λ z. z +ℤ due (s + 1)) (sum_same slot.kind slot.day slot.hour (s + 1) n (λ i b. portion_other slot.kind slot.day slot.hour (s + 1) (row_in slot (i + 1) (due (i + 1))) (λ q. omega (arith, e, q)))))
      (λ ne. ap (λ z. sum_here (s + 1) (rs ++ rows_for slot due n) +ℤ z) (portion_other slot.kind slot.day slot.hour (s + 1) (row_in slot (n + 1) (due (n + 1))) (λ q. ne (omega arith))) ∙ +ℤ_idr _ ∙ sum_done s n (omega arith))
      (cases_eq s n)

  sum-reached : (s : ℕ) → 1 ≤ s → s ≤ 32 → sum_here s (rs ++ rows_for slot due 32) ≡ sum_here s rs +ℤ due s
  sum-reached zero l h = absurd (omega arith)
  sum-reached (suc s) l h = ap (λ t. sum_here t (rs ++ rows_for slot due 32)) (sym (add-one s)) ∙ sum_done s 32 (omega arith) ∙ ap (λ t. sum_here t rs +ℤ due t) (add-one s)

closed : (a b : ℤ) → a +ℤ (b -ℤ a) ≡ b
closed a b = omega (arith, ints)

pub adjusting_law : AdjustingLaw
adjusting_law slot wanted rs =
    let due : ℕ → ℤ = due_to slot wanted rs in
    record {
      reached = λ s l h. sum-reached slot rs due s l h ∙ closed (sum_of slot.kind slot.day slot.hour s rs) (pos (wanted_by wanted s));
      elsewhere = λ k d h s ne. sum_same slot rs due k d h s 32 (λ i l. portion_out k d h s (row_in slot (i + 1) (due (i + 1))) (not_here slot rs due k d h (i + 1) (due (i + 1)) ne));
      others = λ s l. sum_same slot rs due slot.kind slot.day slot.hour s 32 (λ i b. portion_other slot.kind slot.day slot.hour s (row_in slot (i + 1) (due (i + 1))) (λ q. omega arith));
    }
