-- Once an hour is settled its rows add up to what they stand for.
use Rattle.std.proofs.Common.{◌≡◌, ℕ, ◌<◌, ◌≤◌, ◌⊎◌, List, [], ◌∷◌, ◌++◌, map, length, get_or, pos, IfOk, Some, None, Ok, Err, sum, Option, Result, sym, refl, ap, ◌∙◌, subst, inl, inr, ⊎_elim, arith}
use Rattle.std.specs.List.{range_with_len, AllByRecursion}
use Rattle.std.proofs.ByRecursion.{All-append}
use Rattle.std.proofs.lemmas.List.{length-map, get_or-map, get_or_default}
use Rattle.std.proofs.lemmas.Bool.{cases_Bool, and_parts, leb-true}
use Rattle.refusals.specs.declared.Refusal.{Refusal}
use Rattle.rows.specs.declared.Row.{Row}
use Rattle.rows.specs.declared.Kind.TheVariants.{Energy}
use Rattle.rows.specs.Lawful.{Lawful}
use Rattle.archive.specs.Contents.{Contents, kept}
use Rattle.archive.specs.Sums.{sum_of}
use Rattle.archive.specs.Adjusting.{due_to, booking, with_rows}
use Rattle.archive.proofs.Adjusted.{booking-small}
use Rattle.archive.proofs.Bringing.{adjusting_law}
use Rattle.archive.proofs.Dues.{rows_for-lawful}
use Rattle.archive.proofs.Totals.{up_to_same, up_to_pos}
use Rattle.archive.proofs.Zoning.{zone_law}
use Rattle.rules.specs.declared.lines.Line.{Line}
use Rattle.rules.specs.declared.lines.Line.TheVariants.{Interval, Profiled}
use Rattle.rules.specs.Lines.{account_of, interval_weight, profiled_weight}
use Rattle.rules.specs.Shares.{Near, shares, finals}
use Rattle.rules.specs.Obligations.{obligation, obligations}
use Rattle.rules.proofs.Settled.{finals-whole}
use Rattle.rules.proofs.Shares.{length-shares, length-plus, own_group_only, shares_are_near}
use Rattle.rules.proofs.Suppliers.{obligation_of, obligations_add_up}
use Rattle.book.specs.declared.roster.Entry.{Entry}
use Rattle.book.specs.declared.settling.Owed.{Owed}
use Rattle.book.specs.Ranges.{is_supplier}
use Rattle.book.specs.Entries.{last_entry, supplier_in, supplier_on}
use Rattle.book.specs.Settling.{Hour, line_in, served_in, interval_loads, profiled_loads, totals_in, or_zero, final_loads, owed_in, slot_in, next, rows_in, admitted, owed, settling, settled_archive}
use Rattle.book.specs.Settled.{NearIn, Settled, Whole, LawfulSlip, SettlingLaw}
use Rattle.book.proofs.Admitting.{Admitted, admitted-hour}
use Rattle.book.proofs.Checking.{all_served}
use Rattle.book.proofs.Settlement.{order_parts, slot_lawful}

-- a supplier is at most 32
supplier_small : (e : Option Entry) → supplier_in e ≤ 32
supplier_small None = omega arith
supplier_small (Some e) =
    ⊎_elim
    (λ y. let p = and_parts _ _ y in let q = leb-true e.supplier 32 p.1 in rw y q)
    (λ n. rw n (omega arith))
    (cases_Bool (is_supplier e.supplier))

served_small : (day : ℕ) (entries : List Entry) (accounts : List ℕ) → AllByRecursion (λ s. s ≡ 0 → ⊥) (map (λ a. supplier_on a day entries) accounts) → AllByRecursion (λ s. (1 ≤ s) × (s ≤ 32)) (map (λ a. supplier_on a day entries) accounts)
served_small day entries [] all = tt
served_small day entries (a ∷ rest) all =
    ((let ne = all.0 in omega arith, supplier_small (last_entry a (Some day) entries)), served_small day entries rest all.1)

near_at : (g w x y s t : ℕ) → x ≡ y → s ≡ t → Near g w x s ⊎ ((w ≡ 0) × (s ≡ 0)) → Near g w y t ⊎ ((w ≡ 0) × (t ≡ 0))
near_at g w x y s t p q (inl n) = inl (subst (λ z. Near g w y z) q (subst (λ z. Near g w z s) p n))
near_at g w x y s t p q (inr z) = inr (z.0, sym q ∙ z.1)

-- the final load of a line is its share of its own group's total
module _ (h : Hour) (k : ℕ) (lt : k < length h.sheet) where
  same_length : length (interval_loads h) ≡ length (profiled_loads h)
  same_length = length-map h.sheet interval_weight ∙ sym (length-map h.sheet profiled_weight)

  weight_at : (f : Line → ℕ) (l : Line) → l ≡ get_or h.sheet k l → get_or (map f h.sheet) k 0 ≡ f l
  weight_at f l at = get_or-map f h.sheet k l 0 lt ∙ ap f (sym at)

  near_own : (l : Line) → l ≡ get_or h.sheet k l → NearIn h l (get_or (final_loads h) k 0)
  near_own (Interval account loss reading) at =
      let g : ℕ = (or_zero (totals_in h)).0 in
      let own = (own_group_only g (or_zero (totals_in h)).1 (interval_loads h) (profiled_loads h) k same_length).0 (weight_at profiled_weight (Interval account loss reading) at) in
      near_at g (sum (interval_loads h)) _ _ _ _ (weight_at interval_weight (Interval account loss reading) at) (sym own) (shares_are_near g (interval_loads h) k (omega (arith, length-map h.sheet interval_weight)))
  near_own (Profiled account loss profile billed usage) at =
      let g : ℕ = (or_zero (totals_in h)).1 in
      let own = (own_group_only (or_zero (totals_in h)).0 g (interval_loads h) (profiled_loads h) k same_length).1 (weight_at interval_weight (Profiled account loss profile billed usage) at) in
      near_at g (sum (profiled_loads h)) _ _ _ _ (weight_at profiled_weight (Profiled account loss profile billed usage) at) (sym own) (shares_are_near g (profiled_loads h) k (omega (arith, length-map h.sheet profiled_weight)))

at_any : (ls : List Line) (k : ℕ) (l : Line) → k < length ls → get_or ls k l ≡ get_or ls k (get_or ls k l)
at_any ls k l lt = get_or_default ls k l (get_or ls k l) lt

next_ok : {X : Type 0} (x : Result X Refusal) (y : Result ℕ Refusal) (n : ℕ) → next x y ≡ Ok n → (t : X) × (x ≡ Ok t) × (y ≡ Ok n)
next_ok (Ok t) y n e = (t, refl, e)
next_ok (Err f) y n e = let z : ◌≡◌ {A = ℕ} 0 1 = cc in absurd (omega arith)

total-owed : (suppliers finals : List ℕ) → sum (map (λ s. obligation s suppliers finals) (range_with_len 1 32)) ≡ sum (obligations suppliers finals)
unfolding obligations
total-owed suppliers finals = refl

module _ (h : Hour) (room : ℕ) (o : Owed) (ok : Admitted h room (owed_in h) o) (whole : Whole h.parts) where
  loads-whole : sum (final_loads h) ≡ h.zone
  loads-whole =
      ap (λ r. sum (finals (or_zero r).0 (or_zero r).1 (interval_loads h) (profiled_loads h))) ok.totals
      ∙ finals-whole h.parts whole h.zone (interval_loads h) (profiled_loads h) _ ok.totals (length-map h.sheet interval_weight ∙ sym (length-map h.sheet profiled_weight))

  length-finals : length (final_loads h) ≡ length h.sheet
  length-finals =
      let g : ℕ = (or_zero (totals_in h)).0 in
      let k : ℕ = (or_zero (totals_in h)).1 in
      let a = length-shares g (sum (interval_loads h)) 0 (interval_loads h) in
      let b = length-shares k (sum (profiled_loads h)) 0 (profiled_loads h) in
      let u = length-map h.sheet interval_weight in
      let v = length-map h.sheet profiled_weight in
      length-plus (shares g (interval_loads h)) (shares k (profiled_loads h)) (omega arith) ∙ a ∙ u

  length_served : length (served_in h) ≡ length h.sheet
  length_served = length-map (map account_of h.sheet) _ ∙ length-map h.sheet account_of

  owed_whole : sum (obligations (served_in h) (final_loads h)) ≡ h.zone
  owed_whole =
      let served = all_served 1 None (map line_in h.sheet) (served_in h) (omega (arith, length-map h.sheet line_in, length_served)) ok.lines in
      obligations_add_up (served_in h) (final_loads h) (omega (arith, length_served, length-finals)) (served_small h.slip.day h.entries (map account_of h.sheet) served) ∙ loads-whole

pub settling_law : SettlingLaw
settling_law h room c n whole slip lawful e =
    let p = next_ok (admitted h room) (booking c (slot_in h) (owed_in h)) n e in
    let o : Owed = record { interval = p.0.0; profiled = p.0.1; suppliers = owed_in h } in
    let ok = admitted-hour h room (owed_in h) o (sym (ap (λ x. owed x (owed_in h)) p.1)) in
    let order = order_parts h.slip.hours h.hour h.zone (length h.sheet) ok.order in
    let good = slot_lawful h slip.day slip.stage order.0 (omega (arith, order, slip.hours)) in
    let small = booking-small c (slot_in h) (owed_in h) n p.2 in
    let brought = adjusting_law (slot_in h) (owed_in h) c.rows in
    let after : List Row = c.rows ++ rows_in h c in
    let all = All-append Lawful c.rows (rows_in h c) lawful (rows_for-lawful (slot_in h) (due_to (slot_in h) (owed_in h) c.rows) good small 32 (omega arith)) in
    let each : (s : ℕ) → 1 ≤ s → s ≤ 32 → sum_of Energy h.slip.day h.hour s after ≡ pos (obligation s (served_in h) (final_loads h)) = λ s l m. brought.reached s l m ∙ ap pos (obligation_of (served_in h) (final_loads h) s l m) in
    record {
      suppliers = each;
      zone = sym (zone_law Energy h.slip.day h.hour after all) ∙ up_to_same 32 (λ s. sum_of Energy h.slip.day h.hour s after) (λ s. pos (obligation s (served_in h) (final_loads h))) each ∙ up_to_pos 32 (λ s. obligation s (served_in h) (final_loads h)) ∙ ap pos (total-owed (served_in h) (final_loads h) ∙ owed_whole h room o ok whole);
      elsewhere = brought.elsewhere;
      loads = loads-whole h room o ok whole;
      near = λ k l lt. near_own h k lt (get_or h.sheet k l) (at_any h.sheet k l lt);
    }

-- the same of the archive that an accepted call leaves
pub settled_by : (h : Hour) (room : ℕ) (c c' : Contents) (n : ℕ) → Whole h.parts → LawfulSlip h.slip → AllByRecursion Lawful c.rows → settling h room c ≡ Ok n → c' ≡ settled_archive h room c → Settled h c.rows c'.rows
settled_by h room c c' n whole slip lawful e after =
    let is : c'.rows ≡ c.rows ++ rows_in h c = ap (λ t. t.rows) (after ∙ ap (λ x. kept x (with_rows c (rows_in h c)) c) e) in
    subst (Settled h c.rows) (sym is) (settling_law h room c n whole slip lawful e)

pub made_refused : {X : Type 0} (r : Result X Refusal) (e : Refusal) (P : X → Type 0) → r ≡ Err e → IfOk r P
made_refused (Ok x) e P q = let z : ◌≡◌ {A = ℕ} 0 1 = cc in absurd (omega arith)
made_refused (Err f) e P q = tt

-- what the checks refuse is what settling refuses
pub owed_refused : (a : Result (ℕ × ℕ) Refusal) (o : List ℕ) (e : Refusal) → Err e ≡ owed a o → a ≡ Err e
owed_refused (Ok t) o e q = let z : ◌≡◌ {A = ℕ} 0 1 = cc in absurd (omega arith)
owed_refused (Err f) o e q = let z : f ≡ e = cc in ap Err z
