-- The checks of a settling up to the totals of the groups, case by case.
use Rattle.std.proofs.Common.{◌≡◌, ℕ, ◌+◌, ◌<◌, ◌≤◌, Bool, true, false, cond, leb, List, map, length, ℤ, Ok, Err, sum, Result, sym, refl, ap, ◌∙◌, arith}
use Rattle.std.proofs.lemmas.Bool.{and_from, le-leb, lt-leb, leb-true}
use Rattle.refusals.specs.declared.Refusal.{Refusal}
use Rattle.refusals.specs.declared.Cause.TheVariants.{OutOfRange, ListTooShort, LoadsTooHigh}
use Rattle.refusals.specs.declared.Layer.TheVariants.{Sheet, Sharing}
use Rattle.refusals.specs.Numbers.{refusal}
use Rattle.rules.specs.Ranges.{most}
use Rattle.rules.specs.Shares.{finals, weighed, if_weighed, sharing}
use Rattle.rules.specs.Parts.{unaccounted}
use Rattle.rules.specs.Totals.{with_parts, group_totals}
use Rattle.rules.specs.Obligations.{obligations}
use Rattle.book.specs.declared.settling.Owed.{Owed}
use Rattle.book.specs.Checks.{checked_lines}
use Rattle.book.specs.Settling.{Hour, in_order, line_in, served_in, interval_loads, profiled_loads, totals_in, or_zero, owed_in, next, admitted, owed}

heavy_by : (b : Bool) (e : Refusal) (t : ℕ × ℕ) (x : Result (ℕ × ℕ) Refusal) → Err e ≡ cond b (Ok t) (Err (refusal LoadsTooHigh Sharing 0)) → Err e ≡ cond b x (Err (refusal LoadsTooHigh Sharing 0))
heavy_by true e t x p = let z : ◌≡◌ {A = ℕ} 0 1 = cc in absurd (omega arith)
heavy_by false e t x p = p

-- loads that are too high by themselves are so in the totals
pub heavy_totals : (m : ℤ → ℕ → ℕ → ℤ × ℤ) (zone : ℕ) (ws vs : List ℕ) (e : Refusal) → zone ≤ most → Err e ≡ weighed ws vs → Err e ≡ group_totals m zone (sum ws) (sum vs)
heavy_totals m zone ws vs e small q =
    let x : Result (ℕ × ℕ) Refusal = with_parts (sum ws) (sum vs) (m (unaccounted zone (sum ws) (sum vs)) (sum ws) (sum vs)) in
    let light : Bool = leb (sum ws + sum vs) most in
    heavy_by light e (sum ws, sum vs) x q
    ∙ sym (ap (λ b. cond b (cond light x (Err (refusal LoadsTooHigh Sharing 0))) (Err (refusal OutOfRange Sheet 0))) (le-leb zone most small))

module _ (h : Hour) (room : ℕ) (os : List ℕ) where
  abbrev lines : Result (Unit {0}) Refusal
  lines = checked_lines (map line_in h.sheet) (served_in h)

  abbrev order : Bool
  order = in_order h.slip.hours h.hour h.zone (length h.sheet)

  abbrev by_tests : Bool → Bool → Result (ℕ × ℕ) Refusal
  by_tests a b = cond a (cond b (next (checked_lines (map line_in h.sheet) (served_in h)) (totals_in h)) (Err (refusal ListTooShort Sheet 0))) (Err (refusal OutOfRange Sheet 0))

  tested : (a b : Bool) → in_order h.slip.hours h.hour h.zone (length h.sheet) ≡ a → leb (length h.sheet) room ≡ b → by_tests a b ≡ admitted h room
  unfolding admitted
  tested a b p q = sym (ap (λ x. by_tests x (leb (length h.sheet) room)) p ∙ ap (by_tests a) q)

  pub out_of_order : (e : Refusal) → e ≡ refusal OutOfRange Sheet 0 → in_order h.slip.hours h.hour h.zone (length h.sheet) ≡ false → Err e ≡ owed (admitted h room) os
  out_of_order e is p = ap Err is ∙ ap (λ x. owed x os) (tested false _ p refl)

  pub list_short : (e : Refusal) → e ≡ refusal ListTooShort Sheet 0 → in_order h.slip.hours h.hour h.zone (length h.sheet) ≡ true → room < length h.sheet → Err e ≡ owed (admitted h room) os
  list_short e is p l = ap Err is ∙ ap (λ x. owed x os) (tested true false p (lt-leb (length h.sheet) room l))

  module _ (p : in_order h.slip.hours h.hour h.zone (length h.sheet) ≡ true) (l : length h.sheet ≤ room) where
    by_lines : (x : Result (Unit {0}) Refusal) → x ≡ checked_lines (map line_in h.sheet) (served_in h) → owed (next x (totals_in h)) os ≡ owed (admitted h room) os
    by_lines x e = ap (λ y. owed (next y (totals_in h)) os) e ∙ ap (λ y. owed y os) (tested true true p (le-leb (length h.sheet) room l))

    pub line_refused : (e : Refusal) → Err e ≡ checked_lines (map line_in h.sheet) (served_in h) → Err e ≡ owed (admitted h room) os
    line_refused e q = by_lines (Err e) q

    pub totals_refused : (u : Unit {0}) (e : Refusal) → Ok u ≡ checked_lines (map line_in h.sheet) (served_in h) → Err e ≡ totals_in h → Err e ≡ owed (admitted h room) os
    totals_refused u e q t = ap (λ x. owed x os) t ∙ by_lines (Ok u) q

    pub all_admitted : (u : Unit {0}) (t : ℕ × ℕ) → Ok u ≡ checked_lines (map line_in h.sheet) (served_in h) → Ok t ≡ totals_in h → owed (Ok t) os ≡ owed (admitted h room) os
    all_admitted u t q e = ap (λ x. owed x os) e ∙ by_lines (Ok u) q

-- what was summed by supplier are the obligations
pub sums_owed : (h : Hour) (t : ℕ × ℕ) (told : List ℕ) → Ok t ≡ totals_in h → told ≡ served_in h → obligations told (finals t.0 t.1 (interval_loads h) (profiled_loads h)) ≡ owed_in h
sums_owed h t told e q =
    ap (λ s. obligations s (finals t.0 t.1 (interval_loads h) (profiled_loads h))) q
    ∙ ap (λ r. obligations (served_in h) (finals (or_zero r).0 (or_zero r).1 (interval_loads h) (profiled_loads h))) e

-- what is known of an hour that was admitted
pub record Admitted (h : Hour) (room : ℕ) (os : List ℕ) (o : Owed) : Type 0 where
  pub order : in_order h.slip.hours h.hour h.zone (length h.sheet) ≡ true
  pub fits : length h.sheet ≤ room
  pub lines : checked_lines (map line_in h.sheet) (served_in h) ≡ Ok tt
  pub totals : totals_in h ≡ Ok (o.interval, o.profiled)
  pub sums : o.suppliers ≡ os
  pub all : admitted h room ≡ Ok (o.interval, o.profiled)

module _ (h : Hour) (room : ℕ) (os : List ℕ) (o : Owed) where
  by_totals : (x : Result (ℕ × ℕ) Refusal) → Ok o ≡ owed x os → (x ≡ Ok (o.interval, o.profiled)) × (o.suppliers ≡ os)
  by_totals (Ok t) e = let i : t.0 ≡ o.interval = cc in let p : t.1 ≡ o.profiled = cc in let s : o.suppliers ≡ os = cc in (ap (λ a. Ok (a, t.1)) i ∙ ap (λ b. Ok (o.interval, b)) p, s)
  by_totals (Err f) e = let z : ◌≡◌ {A = ℕ} 0 1 = cc in absurd (omega arith)

  after_lines : (x : Result (Unit {0}) Refusal) (y : Result (ℕ × ℕ) Refusal) (t : ℕ × ℕ) → next x y ≡ Ok t → (x ≡ Ok tt) × (y ≡ Ok t)
  after_lines (Ok u) y t e = (refl, e)
  after_lines (Err f) y t e = let z : ◌≡◌ {A = ℕ} 0 1 = cc in absurd (omega arith)

  after_tests : (a b : Bool) (x : Result (ℕ × ℕ) Refusal) (t : ℕ × ℕ) → cond a (cond b x (Err (refusal ListTooShort Sheet 0))) (Err (refusal OutOfRange Sheet 0)) ≡ Ok t → (a ≡ true) × (b ≡ true) × (x ≡ Ok t)
  after_tests true true x t e = (refl, refl, e)
  after_tests true false x t e = let z : ◌≡◌ {A = ℕ} 0 1 = cc in absurd (omega arith)
  after_tests false b x t e = let z : ◌≡◌ {A = ℕ} 0 1 = cc in absurd (omega arith)

  pub admitted-hour : Ok o ≡ owed (admitted h room) os → Admitted h room os o
  unfolding admitted
  admitted-hour e =
      let t = by_totals (admitted h room) e in
      let a = after_tests (in_order h.slip.hours h.hour h.zone (length h.sheet)) (leb (length h.sheet) room) (next (checked_lines (map line_in h.sheet) (served_in h)) (totals_in h)) (o.interval, o.profiled) t.0 in
      let l = after_lines (checked_lines (map line_in h.sheet) (served_in h)) (totals_in h) (o.interval, o.profiled) a.2 in
      record { order = a.0; fits = leb-true (length h.sheet) room a.1; lines = l.0; totals = l.1; sums = t.1; all = t.0 }

-- lawful totals over a sheet are shared without a refusal
pub sharing_passes : (g h : ℕ) (ws vs : List ℕ) (room : ℕ) → g ≤ most → h ≤ most → length ws ≤ room → sum ws + sum vs ≤ most → sharing g h ws vs room ≡ Ok tt
sharing_passes g h ws vs room p q l w =
    ap (λ b. cond b (cond (leb (length ws) room) (if_weighed (weighed ws vs)) (Err (refusal ListTooShort Sheet 0))) (Err (refusal OutOfRange Sheet 0))) (and_from (leb g most) (leb h most) (le-leb g most p) (le-leb h most q))
    ∙ ap (λ b. cond b (if_weighed (weighed ws vs)) (Err (refusal ListTooShort Sheet 0))) (le-leb (length ws) room l)
    ∙ ap (λ b. if_weighed (cond b (Ok (sum ws, sum vs)) (Err (refusal LoadsTooHigh Sharing 0)))) (le-leb (sum ws + sum vs) most w)

pub never_both : (s : Result (Unit {0}) Refusal) (e : Refusal) → s ≡ Err e → s ≡ Ok tt → ⊥
never_both s e p q = let z : ◌≡◌ {A = ℕ} 0 1 = cc in omega arith
