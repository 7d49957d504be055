-- What adjusting answers, case by case.
use Rattle.std.proofs.Common.{◌≡◌, ℕ, ◌-◌, ◌<◌, ◌≤◌, Bool, true, false, cond, leb, List, length, get_or, ℤ, pos, ◌-ℤ◌, Ok, Err, Result, sym, refl, ap, ap₂, ◌∙◌, arith}
use Rattle.std.proofs.lemmas.List.FromFn.{get_or-map-range_with_len}
use Rattle.std.proofs.lemmas.Bool.{le-leb, lt-leb}
use Rattle.refusals.specs.declared.Refusal.{Refusal}
use Rattle.refusals.specs.declared.Cause.TheVariants.{AmountTooLarge, ArchiveFull, UnlawfulRow}
use Rattle.rows.specs.declared.Row.{Row}
use Rattle.rows.specs.declared.Kind.{Kind}
use Rattle.archive.specs.declared.adjusting.Slot.{Slot}
use Rattle.archive.specs.Contents.{Contents, refusing, kept}
use Rattle.archive.specs.Sums.{sum_of, sums_of}
use Rattle.archive.specs.Adjusting.{lawful_slot, all_in_range, wanted_by, due_to, lacks, lacking, rows_for, with_rows, booking, adjusting, adjusted}
use Rattle.archive.proofs.Dues.{all_in_range_same, rows_for_same}

pub sums_of_at : (k : Kind) (d h s : ℕ) (rs : List Row) → 1 ≤ s → s ≤ 32 → get_or (sums_of k d h rs) (s - 1) (pos 0) ≡ sum_of k d h s rs
unfolding sums_of
sums_of_at k d h s rs l m = get_or-map-range_with_len (λ t. sum_of k d h t rs) 1 32 (s - 1) s (pos 0) (omega arith) (omega arith)

-- sums that were asked for by the slot's figures are those of the slot
pub sums_asked : (slot : Slot) (rs : List Row) (sums : List ℤ) (d h : ℕ) → sums ≡ sums_of slot.kind d h rs → d ≡ slot.day → h ≡ slot.hour → sums ≡ sums_of slot.kind slot.day slot.hour rs
sums_asked slot rs sums d h are p q = are ∙ ap₂ (λ d h. sums_of slot.kind d h rs) p q

-- what is lacking by the sums of an archive's rows
pub lacks_is : (slot : Slot) (wanted : List ℕ) (sums : List ℤ) (rs : List Row) → sums ≡ sums_of slot.kind slot.day slot.hour rs → (s : ℕ) → 1 ≤ s → s ≤ 32 → lacks wanted sums s ≡ due_to slot wanted rs s
lacks_is slot wanted sums rs e s l m =
    ap (λ t. pos (wanted_by wanted s) -ℤ get_or t (s - 1) (pos 0)) e ∙ ap (λ z. pos (wanted_by wanted s) -ℤ z) (sums_of_at slot.kind slot.day slot.hour s rs l m)

module _ (c : Contents) (slot : Slot) (wanted : List ℕ) where
  abbrev new : List Row
  new = lacking slot wanted c.rows

  abbrev checked : Bool → Bool → Bool → Result ℕ Refusal
  checked good small fits =
      cond good (cond small (cond fits (Ok (length (lacking slot wanted c.rows))) (Err (refusing ArchiveFull 0))) (Err (refusing AmountTooLarge 0))) (Err (refusing UnlawfulRow 0))

  by_checks : (good small fits : Bool) → lawful_slot slot ≡ good → all_in_range (due_to slot wanted c.rows) 32 ≡ small → leb (length new) c.free ≡ fits → checked good small fits ≡ adjusting c slot wanted
  unfolding adjusting
  by_checks good small fits p q r =
      sym (ap (λ b. checked b (all_in_range (due_to slot wanted c.rows) 32) (leb (length new) c.free)) p ∙ ap (λ b. checked good b (leb (length new) c.free)) q ∙ ap (checked good small) r)

  pub unlawful_slot : lawful_slot slot ≡ false → Err (refusing UnlawfulRow 0) ≡ adjusting c slot wanted
  unlawful_slot p = by_checks false _ _ p refl refl

  pub too_large : lawful_slot slot ≡ true → all_in_range (due_to slot wanted c.rows) 32 ≡ false → Err (refusing AmountTooLarge 0) ≡ adjusting c slot wanted
  too_large p q = by_checks true false _ p q refl

  pub no_place : lawful_slot slot ≡ true → all_in_range (due_to slot wanted c.rows) 32 ≡ true → c.free < length (lacking slot wanted c.rows) → Err (refusing ArchiveFull 0) ≡ adjusting c slot wanted
  no_place p q l = by_checks true true false p q (lt-leb (length new) c.free l)

  pub all_placed : lawful_slot slot ≡ true → all_in_range (due_to slot wanted c.rows) 32 ≡ true → length (lacking slot wanted c.rows) ≤ c.free → Ok (length (lacking slot wanted c.rows)) ≡ adjusting c slot wanted
  all_placed p q l = by_checks true true true p q (le-leb (length new) c.free l)

  pub adjusting_is : lawful_slot slot ≡ true → adjusting c slot wanted ≡ booking c slot wanted
  unfolding adjusting
  adjusting_is p = ap (λ b. cond b (booking c slot wanted) (Err (refusing UnlawfulRow 0))) p

  pub adjusted_by : (a : Result ℕ Refusal) → a ≡ adjusting c slot wanted → kept a (with_rows c (lacking slot wanted c.rows)) c ≡ adjusted c slot wanted
  adjusted_by a e = ap (λ x. kept x (with_rows c new) c) e

-- the amounts that were found, where all are in range, are those that are due
module _ (c : Contents) (slot : Slot) (wanted : List ℕ) (sums zs : List ℤ) (are : sums ≡ sums_of slot.kind slot.day slot.hour c.rows) (found : (s : ℕ) → 1 ≤ s → s ≤ 32 → get_or zs (s - 1) (pos 0) ≡ lacks wanted sums s) where
  each_due : (s : ℕ) → 1 ≤ s → s ≤ 32 → get_or zs (s - 1) (pos 0) ≡ due_to slot wanted c.rows s
  each_due s l m = found s l m ∙ lacks_is slot wanted sums c.rows are s l m

  pub found_rows : rows_for slot (λ s. get_or zs (s - 1) (pos 0)) 32 ≡ lacking slot wanted c.rows
  found_rows = rows_for_same slot (λ s. get_or zs (s - 1) (pos 0)) (due_to slot wanted c.rows) 32 each_due

  pub found_small : all_in_range (lacks wanted sums) 32 ≡ true → all_in_range (λ s. get_or zs (s - 1) (pos 0)) 32 ≡ true
  found_small e = all_in_range_same (λ s. get_or zs (s - 1) (pos 0)) (lacks wanted sums) 32 found ∙ e

  pub due_small : all_in_range (lacks wanted sums) 32 ≡ true → all_in_range (due_to slot wanted c.rows) 32 ≡ true
  due_small e = sym (all_in_range_same (lacks wanted sums) (due_to slot wanted c.rows) 32 (lacks_is slot wanted sums c.rows are)) ∙ e

-- what is booked is in range
pub booking-small : (c : Contents) (slot : Slot) (wanted : List ℕ) (n : ℕ) → booking c slot wanted ≡ Ok n → all_in_range (due_to slot wanted c.rows) 32 ≡ true
booking-small c slot wanted n e = by (all_in_range (due_to slot wanted c.rows) 32) e
  where
    by : (b : Bool) → cond b (cond (leb (length (lacking slot wanted c.rows)) c.free) (Ok (length (lacking slot wanted c.rows))) (Err (refusing ArchiveFull 0))) (Err (refusing AmountTooLarge 0)) ≡ Ok n → b ≡ true
    by true e = refl
    by false e = let z : ◌≡◌ {A = ℕ} 0 1 = cc in absurd (omega arith)
