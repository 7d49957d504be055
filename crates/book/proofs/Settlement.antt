-- An hour that is admitted: its rows, its list and its slip.
use Rattle.std.proofs.Common.{◌≡◌, ℕ, ◌+◌, ◌≤◌, true, ◌&&◌, leb, List, ◌++◌, map, length, drop, Ok, sum, Result, sym, refl, ap, ◌∙◌, arith}
use Rattle.std.proofs.lemmas.List.{length-map}
use Rattle.std.proofs.lemmas.Bool.{and_from, and_parts, le-leb, leb-true}
use Rattle.refusals.specs.declared.Refusal.{Refusal}
use Rattle.archive.specs.declared.adjusting.Slot.{Slot}
use Rattle.archive.specs.Contents.{Contents, kept}
use Rattle.archive.specs.Adjusting.{lawful_slot, lacking, with_rows, booking, adjusting, adjusted}
use Rattle.archive.proofs.Adjusted.{adjusting_is}
use Rattle.rules.specs.declared.units.Energy.{Energy}
use Rattle.rules.specs.Ranges.{most}
use Rattle.rules.specs.Lines.{interval_weight, energy}
use Rattle.rules.specs.Shares.{finals, shared, if_shared}
use Rattle.book.specs.declared.settling.Owed.{Owed}
use Rattle.book.specs.Ranges.{between}
use Rattle.book.specs.Settling.{Hour, in_order, interval_loads, profiled_loads, or_zero, final_loads, owed_in, slot_in, next, rows_in, settling, settled_archive, settled_list}
use Rattle.book.proofs.Admitting.{Admitted, sharing_passes}

pub order_parts : (hours hour zone lines : ℕ) → in_order hours hour zone lines ≡ true → (1 ≤ hour) × (hour ≤ hours) × (zone ≤ most) × (lines ≤ 65536)
order_parts hours hour zone lines e =
    let a = and_parts (between 1 hour hours) (leb zone most && leb lines 65536) e in
    let b = and_parts (leb 1 hour) (leb hour hours) a.0 in
    let c = and_parts (leb zone most) (leb lines 65536) a.1 in
    (leb-true 1 hour b.0, leb-true hour hours b.1, leb-true zone most c.0, leb-true lines 65536 c.1)

both : (low n high : ℕ) → low ≤ n → n ≤ high → (leb low n && leb n high) ≡ true
both low n high p q = and_from (leb low n) (leb n high) (le-leb low n p) (le-leb n high q)

pub slot_lawful : (h : Hour) → (1 ≤ h.slip.day) × (h.slip.day ≤ 60000) → (1 ≤ h.slip.stage) × (h.slip.stage ≤ 2) → 1 ≤ h.hour → h.hour ≤ 25 → lawful_slot (slot_in h) ≡ true
slot_lawful h d s p q =
    and_from (leb 1 h.slip.day && leb h.slip.day 60000) _ (both 1 h.slip.day 60000 d.0 d.1) (and_from (leb 1 h.hour && leb h.hour 25) (leb 1 h.slip.stage && leb h.slip.stage 2) (both 1 h.hour 25 p q) (both 1 h.slip.stage 2 s.0 s.1))

module _ (h : Hour) (room : ℕ) (o : Owed) (ok : Admitted h room (owed_in h) o) (lawful : lawful_slot (slot_in h) ≡ true) (c : Contents) (slot : Slot) (is : slot ≡ slot_in h) where
  pub settling_by : (a : Result ℕ Refusal) → a ≡ adjusting c slot o.suppliers → a ≡ settling h room c
  settling_by a e =
      e
      ∙ ap (λ s. adjusting c s o.suppliers) is
      ∙ ap (adjusting c (slot_in h)) ok.sums
      ∙ adjusting_is c (slot_in h) (owed_in h) lawful
      ∙ sym (ap (λ x. next x (booking c (slot_in h) (owed_in h))) ok.all)

  pub rows_are : lacking slot o.suppliers c.rows ≡ rows_in h c
  rows_are = ap (λ s. lacking s o.suppliers c.rows) is ∙ ap (λ w. lacking (slot_in h) w c.rows) ok.sums

  pub archive_by : (c' : Contents) → c' ≡ adjusted c slot o.suppliers → c' ≡ settled_archive h room c
  archive_by c' e =
      e
      ∙ ap (λ x. kept x (with_rows c (lacking slot o.suppliers c.rows)) c) (settling_by (adjusting c slot o.suppliers) refl)
      ∙ ap (λ t. kept (settling h room c) (with_rows c t) c) rows_are

-- the list receives the final loads
pub list_by : (h : Hour) (list list' : List Energy) (o : Owed) (c : Contents) (n : ℕ) → Admitted h (length list) (owed_in h) o → o.interval ≤ most → o.profiled ≤ most → sum (interval_loads h) + sum (profiled_loads h) ≤ most → Ok n ≡ settling h (length list) c → list' ≡ shared energy o.interval o.profiled (interval_loads h) (profiled_loads h) list → list' ≡ settled_list h list c
list_by h list list' o c n ok i p w accepted e =
    let ws = interval_loads h in
    let vs = profiled_loads h in
    let passes = sharing_passes o.interval o.profiled ws vs (length list) i p (omega (arith, length-map h.sheet interval_weight, ok.fits)) w in
    let new : List Energy = map energy (finals o.interval o.profiled ws vs) ++ drop (length ws) list in
    e
    ∙ ap (λ s. if_shared s new list) passes
    ∙ ap (λ k. map energy (finals o.interval o.profiled ws vs) ++ drop k list) (length-map h.sheet interval_weight)
    ∙ ap (λ r. map energy (finals (or_zero r).0 (or_zero r).1 ws vs) ++ drop (length h.sheet) list) (sym ok.totals)
    ∙ ap (λ a. kept a (map energy (final_loads h) ++ drop (length h.sheet) list) list) accepted
