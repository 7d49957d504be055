-- What take-in answers, case by case.
use Rattle.std.proofs.Common.{◌≡◌, ℕ, ◌-◌, ◌/◌, ◌%◌, ◌<◌, ◌≤◌, Bool, cond, List, ◌++◌, length, Ok, Err, Result, sym, ap, ◌∙◌}
use Rattle.std.proofs.lemmas.Bool.{eq-eqb, ne_eqb, le-leb, lt-leb}
use Rattle.refusals.specs.declared.Refusal.{Refusal}
use Rattle.refusals.specs.declared.Cause.TheVariants.{ArchiveFull, PartialRow}
use Rattle.archive.specs.Contents.{Contents, contents, refusing, kept}
use Rattle.archive.specs.Packed.{rows_in}
use Rattle.archive.specs.Intake.{all_read, then_room, taking_in, taken_in}

-- a refused call leaves the old state
pub kept_old : {X S : Type 0} (a : Result X Refusal) (e : Refusal) (new old : S) → a ≡ Err e → old ≡ kept a new old
kept_old a e new old q = sym (ap (λ x. kept x new old) q)

module _ (c : Contents) (bs : List ℕ) where
  abbrev by_rows : Bool → Result (Unit {0}) Refusal → Result ℕ Refusal
  by_rows whole read = cond whole (then_room read (length bs / 15) c.free) (Err (refusing PartialRow 0))

  pub not_whole : (length bs % 15 ≡ 0 → ⊥) → Err (refusing PartialRow 0) ≡ taking_in c bs
  unfolding taking_in
  not_whole h = sym (ap (λ b. by_rows b (all_read (length bs / 15) 0 bs)) (ne_eqb (length bs % 15) 0 h))

  module _ (whole : length bs % 15 ≡ 0) where
    by_reading : (x : Result (Unit {0}) Refusal) → x ≡ all_read (length bs / 15) 0 bs → then_room x (length bs / 15) c.free ≡ taking_in c bs
    unfolding taking_in
    by_reading x e = ap (λ y. then_room y (length bs / 15) c.free) e ∙ sym (ap (λ b. by_rows b (all_read (length bs / 15) 0 bs)) (eq-eqb (length bs % 15) 0 whole))

    pub unreadable : (e : Refusal) → Err e ≡ all_read (length bs / 15) 0 bs → Err e ≡ taking_in c bs
    unreadable e q = by_reading (Err e) q

    pub no_room : Ok tt ≡ all_read (length bs / 15) 0 bs → c.free < length bs / 15 → Err (refusing ArchiveFull 0) ≡ taking_in c bs
    no_room q l = sym (ap (λ b. cond b (Ok (length bs / 15)) (Err (refusing ArchiveFull 0))) (lt-leb (length bs / 15) c.free l)) ∙ by_reading (Ok tt) q

    pub all_read_lem : Ok tt ≡ all_read (length bs / 15) 0 bs → length bs / 15 ≤ c.free → Ok (length bs / 15) ≡ taking_in c bs
    all_read_lem q l = sym (ap (λ b. cond b (Ok (length bs / 15)) (Err (refusing ArchiveFull 0))) (le-leb (length bs / 15) c.free l)) ∙ by_reading (Ok tt) q

  pub taken_by : (a : Result ℕ Refusal) → a ≡ taking_in c bs → kept a (contents (c.rows ++ rows_in (length bs / 15) bs) (c.free - length bs / 15)) c ≡ taken_in c bs
  taken_by a e = ap (λ x. kept x (contents (c.rows ++ rows_in (length bs / 15) bs) (c.free - length bs / 15)) c) e
