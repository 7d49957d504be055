-- The lines of a sheet in turn, by a table that is right for the lines that rise.
use Rattle.std.proofs.Common.{◌≡◌, ℕ, suc, ◌+◌, ◌<◌, ◌≤◌, Bool, true, false, cond, eqb, List, [], ◌∷◌, ◌++◌, map, length, get_or, take, drop, IfOk, Some, None, Ok, Err, Option, Result, sym, refl, ap, ◌∙◌, ⊎_elim, arith}
use Rattle.std.specs.List.{AllByRecursion, enumerate_from, zip}
use Rattle.std.proofs.lemmas.List.{drop_all, drop_more, get_or_default, length-map, length-take-le, take_all, take_at, take-map}
use Rattle.std.proofs.lemmas.Simd.{map-map}
use Rattle.std.proofs.lemmas.List.FromFn.{length-enumerate_from, get_or-enumerate_from}
use Rattle.std.proofs.lemmas.Slice.Zip.{length-zip, get_or-zip}
use Rattle.std.proofs.lemmas.Bool.{cases_Bool, eqb-false}
use Rattle.refusals.specs.declared.Refusal.{Refusal}
use Rattle.refusals.specs.declared.Cause.{Cause}
use Rattle.refusals.specs.declared.Cause.TheVariants.{OutOfRange, AccountNotAbove, NotServed}
use Rattle.refusals.specs.declared.Layer.TheVariants.{Sheet}
use Rattle.refusals.specs.Numbers.{refusal}
use Rattle.book.specs.declared.roster.Entry.{Entry}
use Rattle.book.specs.Sheets.{is_above, rising_after, rising_front, suppliers_on, lines_told, table_on}
use Rattle.book.specs.Checks.{SheetLine, is_range, or_nobody, line_cause, refused_or, checked_from, checked_lines}
use Rattle.book.proofs.Fronts.{front_le}

-- the lines and their suppliers in pairs, numbered: the n-th
pub pairs_turn : {L : Type 0} (ls : List L) (ss : List ℕ) (n i : ℕ) (l : L) (s : ℕ) → length ls ≤ length ss
    → (n < length (enumerate_from 0 (zip ls ss))) × ((i, (l, s)) ≡ get_or (enumerate_from 0 (zip ls ss)) n (i, (l, s)))
    → (n < length ls) × (i ≡ n) × (l ≡ get_or ls n l) × (s ≡ get_or ss n 0)
pairs_turn ls ss n i l s long t =
    let short : n < length ls = omega (arith, t.0, length-enumerate_from 0 (zip ls ss), length-zip ls ss) in
    let within : n < length ss = omega arith in
    let number : 0 + n ≡ n = omega arith in
    let is : (i, (l, s)) ≡ (n, (get_or ls n l, get_or ss n s)) =
    t.1
    ∙ get_or-enumerate_from 0 (zip ls ss) n (i, (l, s)) (omega (arith, length-zip ls ss))
    ∙ ap (λ k. (k, get_or (zip ls ss) n (l, s))) number
    ∙ ap (λ p. (n, p)) (get_or-zip ls ss n (l, s) short within) in
    (short, ap (λ p. p.0) is, ap (λ p. p.1.0) is, ap (λ p. p.1.1) is ∙ get_or_default ss n s 0 within)

-- one line of a sheet whose checks have come to the i-th
module _ {L : Type 0} (f : L → SheetLine) (ls : List L) (ss : List ℕ) (i : ℕ) (l : L) (lt : i < length ls) (long : length ls ≤ length ss) (at : l ≡ get_or ls i l) where
  check_turn : (before : Option ℕ) → checked_from (i + 1) before (map f (drop i ls)) (drop i ss) ≡ refused_or (line_cause (f l).cause (is_above before (f l).account) (get_or ss i 0)) (i + 1) (checked_from (i + 1 + 1) (Some (f l).account) (map f (drop (i + 1) ls)) (drop (i + 1) ss))
  check_turn before =
      ap (λ t. checked_from (i + 1) before (map f t) (drop i ss)) (drop_more ls i l lt)
      ∙ ap (checked_from (i + 1) before (map f (get_or ls i l ∷ drop (i + 1) ls))) (drop_more ss i 0 (omega arith))
      ∙ ap (λ x. checked_from (i + 1) before (map f (x ∷ drop (i + 1) ls)) (get_or ss i 0 ∷ drop (i + 1) ss)) (sym at)

  -- what was found of the line: its cause, its account, whether that is above the one before, and so what it meets
  module _ (before : Option ℕ) (k : Option Cause) (account : ℕ) (above : Bool) (own : k ≡ (f l).cause) (named : account ≡ (f l).account) (order : above ≡ is_above before account) where
    found : (m : Option Cause) → m ≡ line_cause k above (get_or ss i 0) → m ≡ line_cause (f l).cause (is_above before (f l).account) (get_or ss i 0)
    found m e =
        e
        ∙ ap (λ c. line_cause c above (get_or ss i 0)) own
        ∙ ap (λ a. line_cause (f l).cause a (get_or ss i 0)) (order ∙ ap (is_above before) named)

    pub check_stops : (cause : Cause) → Some cause ≡ line_cause k above (get_or ss i 0) → Err (refusal cause Sheet (i + 1)) ≡ checked_from (i + 1) before (map f (drop i ls)) (drop i ss)
    check_stops cause e =
        ap (λ m. refused_or m (i + 1) (checked_from (i + 1 + 1) (Some (f l).account) (map f (drop (i + 1) ls)) (drop (i + 1) ss))) (found (Some cause) e)
        ∙ sym (check_turn before)

    pub check_goes_on : None ≡ line_cause k above (get_or ss i 0) → checked_from (i + 1 + 1) (Some account) (map f (drop (i + 1) ls)) (drop (i + 1) ss) ≡ checked_from (i + 1) before (map f (drop i ls)) (drop i ss)
    check_goes_on e =
        ap (λ a. checked_from (i + 1 + 1) (Some a) (map f (drop (i + 1) ls)) (drop (i + 1) ss)) named
        ∙ ap (λ m. refused_or m (i + 1) (checked_from (i + 1 + 1) (Some (f l).account) (map f (drop (i + 1) ls)) (drop (i + 1) ss))) (found None e)
        ∙ sym (check_turn before)

-- all lines are looked at
pub check_ends : {L : Type 0} (f : L → SheetLine) (ls : List L) (ss : List ℕ) (i place : ℕ) (before : Option ℕ) → length ls ≤ i → Ok tt ≡ checked_from place before (map f (drop i ls)) (drop i ss)
check_ends f ls ss i place before l = sym (ap (λ t. checked_from place before (map f t) (drop i ss)) (drop_all i ls l))

abbrev accounts : List SheetLine → List ℕ
accounts ls = map (λ l. l.account) ls

refused_same : (b : Bool) (c d : Option Cause) (place : ℕ) (x y : Result (Unit {0}) Refusal) → c ≡ cond b (Some OutOfRange) (Some AccountNotAbove) → d ≡ c → refused_or c place x ≡ refused_or d place y
refused_same true c d place x y e q = ap (λ t. refused_or t place x) e ∙ sym (ap (λ t. refused_or t place y) (q ∙ e))
refused_same false c d place x y e q = ap (λ t. refused_or t place x) e ∙ sym (ap (λ t. refused_or t place y) (q ∙ e))

same_front : (a : Bool) (n x y : ℕ) (xs ys : List ℕ) → a ≡ true → take (cond a (suc n) 0) (x ∷ xs) ≡ take (cond a (suc n) 0) (y ∷ ys) → (x ≡ y) × (take n xs ≡ take n ys)
same_front true n x y xs ys e q = let h : x ≡ y = cc in let t : take n xs ≡ take n ys = cc in (h, t)
same_front false n x y xs ys e q = let z : ◌≡◌ {A = ℕ} 0 1 = cc in absurd (omega arith)

-- The checks look at the suppliers of the lines that rise, and at no others.
pub same_suppliers : (place : ℕ) (before : Option ℕ) (ls : List SheetLine) (xs ys : List ℕ) → length ls ≤ length xs → length ls ≤ length ys → take (rising_after before (accounts ls)) xs ≡ take (rising_after before (accounts ls)) ys → checked_from place before ls xs ≡ checked_from place before ls ys
same_suppliers place before [] xs ys p q e = refl
same_suppliers place before (l ∷ ls) [] ys p q e = absurd (omega arith)
same_suppliers place before (l ∷ ls) (x ∷ xs) [] p q e = absurd (omega arith)
same_suppliers place before (l ∷ ls) (x ∷ xs) (y ∷ ys) p q e =
    ⊎_elim
    (λ above.
    let s = same_front (is_above before l.account) (rising_after (Some l.account) (accounts ls)) x y xs ys above e in
    ap (λ s. refused_or (line_cause l.cause (is_above before l.account) s) place (checked_from (place + 1) (Some l.account) ls xs)) s.0
    ∙ ap (refused_or (line_cause l.cause (is_above before l.account) y) place) (same_suppliers (place + 1) (Some l.account) ls xs ys (omega arith) (omega arith) s.1))
    (λ below.
    let out : (s : ℕ) → line_cause l.cause (is_above before l.account) s ≡ cond (is_range l.cause) (Some OutOfRange) (Some AccountNotAbove) = λ s. ap (λ a. line_cause l.cause a s) below in
    refused_same (is_range l.cause) _ _ place _ _ (out x) (out y ∙ sym (out x)))
    (cases_Bool (is_above before l.account))

-- a line that is not refused is above the one before and has a supplier
nobody_refused : (c : Option Cause) (s : ℕ) → or_nobody c s ≡ None → (s ≡ 0 → ⊥)
nobody_refused (Some c) s e = let z : ◌≡◌ {A = ℕ} 0 1 = cc in absurd (omega arith)
nobody_refused None s e =
    ⊎_elim
    (λ t. let a = ap (λ b. cond b (Some NotServed) None) t in let z : ◌≡◌ {A = ℕ} 0 1 = cc in absurd (omega arith))
    (λ f. eqb-false s 0 f)
    (cases_Bool (eqb s 0))

passed : (b a : Bool) (c : Option Cause) (s : ℕ) → cond b (Some OutOfRange) (cond a (or_nobody c s) (Some AccountNotAbove)) ≡ None → (a ≡ true) × (s ≡ 0 → ⊥)
passed true a c s e = let z : ◌≡◌ {A = ℕ} 0 1 = cc in absurd (omega arith)
passed false true c s e = (refl, nobody_refused c s e)
passed false false c s e = let z : ◌≡◌ {A = ℕ} 0 1 = cc in absurd (omega arith)

accepted_line : (c : Option Cause) (place : ℕ) (next : Result (Unit {0}) Refusal) → refused_or c place next ≡ Ok tt → (c ≡ None) × (next ≡ Ok tt)
accepted_line (Some c) place next e = let z : ◌≡◌ {A = ℕ} 0 1 = cc in absurd (omega arith)
accepted_line None place next e = (refl, e)

pub all_rise : (place : ℕ) (before : Option ℕ) (ls : List SheetLine) (ss : List ℕ) → length ls ≤ length ss → checked_from place before ls ss ≡ Ok tt → rising_after before (accounts ls) ≡ length ls
all_rise place before [] ss p e = refl
all_rise place before (l ∷ ls) [] p e = absurd (omega arith)
all_rise place before (l ∷ ls) (s ∷ ss) p e =
    let a = accepted_line (line_cause l.cause (is_above before l.account) s) place _ e in
    let b = passed (is_range l.cause) (is_above before l.account) l.cause s a.0 in
    ap (λ t. cond t (suc (rising_after (Some l.account) (accounts ls))) 0) b.0 ∙ ap suc (all_rise (place + 1) (Some l.account) ls ss (omega arith) a.1)

pub all_served : (place : ℕ) (before : Option ℕ) (ls : List SheetLine) (ss : List ℕ) → length ls ≡ length ss → checked_from place before ls ss ≡ Ok tt → AllByRecursion (λ s. s ≡ 0 → ⊥) ss
all_served place before [] [] p e = tt
all_served place before [] (s ∷ ss) p e = absurd (omega arith)
all_served place before (l ∷ ls) [] p e = absurd (omega arith)
all_served place before (l ∷ ls) (s ∷ ss) p e =
    let a = accepted_line (line_cause l.cause (is_above before l.account) s) place _ e in
    let b = passed (is_range l.cause) (is_above before l.account) l.cause s a.0 in
    (b.1, all_served (place + 1) (Some l.account) ls ss (omega arith) a.1)

-- the table that the roster tells serves as well as the suppliers themselves
module _ (day : ℕ) (entries : List Entry) (ls : List SheetLine) (old table : List ℕ) (long : length ls ≤ length old) (told : table ≡ table_on day entries (map (λ l. l.account) ls) old) where
  abbrev served : List ℕ
  served = suppliers_on day entries (accounts ls)

  abbrev rising : ℕ
  rising = rising_front (accounts ls)

  length_served : length served ≡ length ls
  length_served = length-map (accounts ls) _ ∙ length-map ls (λ l. l.account)

  some_rise : rising ≤ length ls
  some_rise = omega (arith, front_le None (accounts ls), length-map ls (λ l. l.account))

  all_told : lines_told (accounts ls) old ≡ rising
  all_told = omega (arith, some_rise)

  table_front : take rising table ≡ take rising served
  table_front =
      let n : ℕ = rising in
      let front : List ℕ = suppliers_on day entries (take n (accounts ls)) in
      let len : length front ≡ n = length-map (take n (accounts ls)) _ ∙ length-take-le n (accounts ls) (front_le None (accounts ls)) in
      ap (take n) (told ∙ ap (λ k. suppliers_on day entries (take k (accounts ls)) ++ drop k old) all_told)
      ∙ take_at front (drop n old) n len
      ∙ sym (take-map _ n (accounts ls))

  pub table_checks : length ls ≤ length table → checked_lines ls table ≡ checked_lines ls (suppliers_on day entries (map (λ l. l.account) ls))
  table_checks h = same_suppliers 1 None ls table served h (omega (arith, length_served)) table_front

  pub table_tells : checked_lines ls (suppliers_on day entries (map (λ l. l.account) ls)) ≡ Ok tt → take (length ls) table ≡ suppliers_on day entries (map (λ l. l.account) ls)
  table_tells e =
      let all = all_rise 1 None ls served (omega (arith, length_served)) e in
      ap (λ n. take n table) (sym all) ∙ table_front ∙ ap (λ n. take n served) all ∙ take_all (length ls) served (omega (arith, length_served))

-- what the lines of any kind are answered by the table, and that it then holds their suppliers
module _ {L : Type 0} (f : L → SheetLine) (day : ℕ) (entries : List Entry) (lines : List L) (old table : List ℕ) (long : length lines ≤ length old) (still : length lines ≤ length table) (told : table ≡ table_on day entries (map (λ l. (f l).account) lines) old) where
  abbrev suppliers : List ℕ
  suppliers = suppliers_on day entries (map (λ l. (f l).account) lines)

  long_sheet : length (map f lines) ≤ length old
  long_sheet = omega (arith, length-map lines f)

  told-sheet : table ≡ table_on day entries (accounts (map f lines)) old
  told-sheet = told ∙ sym (ap (λ t. table_on day entries t old) (map-map (λ l. l.account) f lines))

  same_served : suppliers_on day entries (accounts (map f lines)) ≡ suppliers
  same_served = ap (suppliers_on day entries) (map-map (λ l. l.account) f lines)

  pub sheet_checked : checked_lines (map f lines) table ≡ checked_lines (map f lines) (suppliers_on day entries (map (λ l. (f l).account) lines))
  sheet_checked =
      table_checks day entries (map f lines) old table long_sheet told-sheet (omega (arith, length-map lines f)) ∙ ap (checked_lines (map f lines)) same_served

  tells : (r : Result (Unit {0}) Refusal) → r ≡ checked_lines (map f lines) suppliers → IfOk r (λ _. take (length lines) table ≡ suppliers)
  tells (Err e) q = tt
  tells (Ok u) q =
      ap (λ n. take n table) (sym (length-map lines f))
      ∙ table_tells day entries (map f lines) old table long_sheet told-sheet (ap (checked_lines (map f lines)) same_served ∙ sym q)
      ∙ same_served

  pub sheet-told : (r : Result (Unit {0}) Refusal) → r ≡ checked_lines (map f lines) table → IfOk r (λ _. take (length lines) table ≡ suppliers_on day entries (map (λ l. (f l).account) lines))
  sheet-told r q = tells r (q ∙ sheet_checked)
