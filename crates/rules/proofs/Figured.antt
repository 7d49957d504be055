-- The figures of a peak line: that they fit, and the sum and number of the present ones. Assumes nothing.
use Rattle.std.proofs.Common.{◌≡◌, cond, Some, None, Option, Ok, Err, Result, refl, ℕ, ◌+◌, ◌*◌, ◌<◌, ◌≤◌, Bool, true, false, ◌&&◌, eqb, leb, List, [], ◌∷◌, ◌++◌, length, get_or, take, drop, sum_by, filter, sym, ap, ◌∙◌, div-le_self, arith}
use Rattle.std.proofs.lemmas.Nat.{mul-le}
use Rattle.std.proofs.lemmas.List.Elements.{filter_more}
use Rattle.std.proofs.lemmas.List.{at_drop_more, length-append, append-nil}
use Rattle.std.proofs.lemmas.List.Sums.{sum_by_push}
use Rattle.std.proofs.lemmas.Bool.{and_from, cond_both, cond-true, cond-false, and_parts}
use Rattle.std.proofs.lemmas.Bool.Decides.{nat_tests}
use Rattle.std.specs.Result.{IsErrAnd, result_err, result_unwrap_or}
use Rattle.std.proofs.lemmas.Result.{err_from_is_err_and}
use Rattle.rules.specs.Ranges.{is_account, between, missing, is_loss_factor, is_usage, is_profile_usage, is_reading, is_coincidence, verdict}
use Rattle.rules.specs.Loads.{rounded}
use Rattle.rules.specs.Peaks.{Basis, Readings, Profile, Demand, basis_of, is_present, peak_cause_of, cause_on, weight_of, weight_on, in_range_on, usage_fits_on, further_fits, figure_fits, all_fit, figure_load, average_load}
use Rattle.rules.specs.declared.peaks.Basis.{Basis as BasisT}
use Rattle.rules.specs.declared.peaks.Basis.TheVariants as kept
use Rattle.rules.specs.Bases.{bare, load_if_fits, if_further_fits, average_if_fits, ratio_on, with_loss, based}
use Rattle.rules.specs.declared.peaks.PeakLine.{PeakLine}
use Rattle.refusals.specs.declared.Cause.{Cause}
use Rattle.refusals.specs.declared.Cause.TheVariants.{OutOfRange, UsageTooHigh}
use Rattle.rules.proofs.Products.{greatest, loss_small, usage_small, profile_small, product_small}

module _ (b : Basis) (xs : List ℕ) (i : ℕ) (h : i < length xs) where
  here : all_fit b (drop i xs) ≡ (figure_fits b (get_or xs i 0) && all_fit b (drop (i + 1) xs))
  here = at_drop_more (all_fit b) xs i 0 h

  pub fit_more : figure_fits b (get_or xs i 0) ≡ true → all_fit b (drop (i + 1) xs) ≡ all_fit b (drop i xs)
  fit_more e = sym (here ∙ ap (λ t. t && all_fit b (drop (i + 1) xs)) e)

-- one figure more, that passes or not
module _ (p : ℕ → Bool) (xs : List ℕ) (i : ℕ) (h : i < length xs) where
  kept_more : p (get_or xs i 0) ≡ true → filter p (take (i + 1) xs) ≡ filter p (take i xs) ++ get_or xs i 0 ∷ []
  kept_more e = filter_more p xs i 0 h ∙ ap (λ t. filter p (take i xs) ++ t) (cond-true (p (get_or xs i 0)) (get_or xs i 0 ∷ []) [] e)

  pub sum-kept_more : (f : ℕ → ℕ) → p (get_or xs i 0) ≡ true → sum_by f (filter p (take (i + 1) xs)) ≡ sum_by f (filter p (take i xs)) + f (get_or xs i 0)
  sum-kept_more f e = ap (sum_by f) (kept_more e) ∙ sum_by_push f (filter p (take i xs)) (get_or xs i 0)

  pub number_kept_more : p (get_or xs i 0) ≡ true → length (filter p (take (i + 1) xs)) ≡ length (filter p (take i xs)) + 1
  number_kept_more e = ap length (kept_more e) ∙ length-append (filter p (take i xs)) (get_or xs i 0 ∷ [])

  pub kept_same : p (get_or xs i 0) ≡ false → filter p (take (i + 1) xs) ≡ filter p (take i xs)
  kept_same e =
      filter_more p xs i 0 h ∙ ap (λ t. filter p (take i xs) ++ t) (cond-false (p (get_or xs i 0)) (get_or xs i 0 ∷ []) [] e)
      ∙ append-nil (filter p (take i xs))

rounded-small : (n d : ℕ) → rounded n d ≤ n
rounded-small n d = div-le_self n d

reading_small : (n : ℕ) → is_reading n ≡ true → eqb n missing ≡ false → n ≤ 100000000
reading_small n h e = grind (arith, nat_tests)

coincidence_small : (n : ℕ) → is_coincidence n ≡ true → n ≤ 10000
coincidence_small n h = grind (arith, nat_tests)

pub load_small : (loss : ℕ) (b : Basis) (x : ℕ) → is_loss_factor loss ≡ true → further_fits b ≡ true → figure_fits b x ≡ true → figure_load loss b x ≤ greatest
load_small loss Readings x l f e =
    cond_both (eqb x missing) 0 (rounded (x * loss) 10000) (λ n. n ≤ greatest) (λ t. omega arith)
    (λ t. omega (arith, rounded-small (x * loss) 10000, mul-le x loss 100000000 20000 (reading_small x e t) (loss_small loss l)))
load_small loss (Profile billed usage) x l f e =
    let u = usage_small billed (and_parts (is_usage billed) (is_profile_usage usage) f).0 in
    omega (arith, rounded-small (x * billed * loss) (usage * 10000), product_small x billed loss 1000000 100000000 20000 (profile_small x e) u (loss_small loss l))
load_small loss (Demand demand) x l f e =
    omega (arith, rounded-small (demand * x * loss) 100000000, product_small demand x loss 100000000 10000 20000 (usage_small demand f) (coincidence_small x e) (loss_small loss l))

-- what an answer tells that a test decides
passed : {X : Type 0} (t : Bool) (x y : X) (e : Cause) → Ok x ≡ cond t (Ok y) (Err e) → (t ≡ true) × (x ≡ y)
passed true x y e h = (refl, cc)
passed false x y e h = cc

-- what the load o of a figure tells
module _ (loss : ℕ) (b : Basis) (x : ℕ) where
  told : (o : Option ℕ) → Ok o ≡ load_if_fits loss b x → (figure_fits b x ≡ true) × (o ≡ cond (is_present b x) (Some (figure_load loss b x)) None)
  told o = passed (figure_fits b x) o (cond (is_present b x) (Some (figure_load loss b x)) None) OutOfRange

  pub fits_told : (o : Option ℕ) → Ok o ≡ load_if_fits loss b x → figure_fits b x ≡ true
  fits_told o e = (told o e).0

  pub load_told : (n : ℕ) → Ok (Some n) ≡ load_if_fits loss b x → (is_present b x ≡ true) × (n ≡ figure_load loss b x)
  load_told n e = cond_both (is_present b x) (Some (figure_load loss b x)) None (λ r. Some n ≡ r → (is_present b x ≡ true) × (n ≡ figure_load loss b x)) (λ yes f. (yes, cc)) (λ no f. cc) (told (Some n) e).1

  pub none_told : Ok None ≡ load_if_fits loss b x → is_present b x ≡ false
  none_told e = cond_both (is_present b x) (Some (figure_load loss b x)) None (λ r. None ≡ r → is_present b x ≡ false) (λ yes f. cc) (λ no f. no) (told None e).1

below : (n : ℕ) → between 0 100000000 n ≡ true → is_usage n ≡ true
below n h = (and_parts (leb 0 n) (is_usage n) h).1

-- further numbers that are known to be in range fit
pub kept_fits : (b : BasisT) → further_fits (bare b) ≡ true
kept_fits kept.Readings = refl
kept_fits (kept.Profile billed usage) = and_from (is_usage billed.value) (is_profile_usage usage.value) (below billed.value billed.ok) usage.ok
kept_fits (kept.Demand highest) = below highest.value highest.ok

-- what the answer `based` tells of a line
module _ (w : ℕ) (d : Basis) where
  further_split : (f : Bool) (loss : ℕ) (b : Basis) → Ok (loss, b) ≡ with_loss w (cond f (Ok d) (Err OutOfRange)) → (f ≡ true) × (loss ≡ w) × (b ≡ d)
  further_split true loss b e = (refl, ap (λ (r : Result (ℕ × Basis) Cause). (result_unwrap_or r (w, d)).0) e, ap (λ (r : Result (ℕ × Basis) Cause). (result_unwrap_or r (w, d)).1) e)
  further_split false loss b e = cc

  refused_split : (t f : Bool) (e : Cause) → Err e ≡ cond t (with_loss w (cond f (Ok d) (Err OutOfRange))) (Err OutOfRange) → (e ≡ OutOfRange) × ((t && f) ≡ false)
  refused_split true true e h = cc
  refused_split true false e h = (cc, refl)
  refused_split false f e h = (cc, refl)

based_split : (t : Bool) (w : ℕ) (o : Option Basis) (loss : ℕ) (b : Basis) → Ok (loss, b) ≡ cond t (with_loss w (if_further_fits o)) (Err OutOfRange) →
    (t ≡ true) × (loss ≡ w) × (o ≡ Some b) × (further_fits b ≡ true)
based_split false w o loss b e = cc
based_split true w None loss b e = cc
based_split true w (Some d) loss b e =
    let p = further_split w d (further_fits d) loss b e in
    (refl, p.1, ap Some (sym p.2), ap further_fits p.2 ∙ p.0)

-- A line of a basis that was found: its figures alone decide whether it is in range.
pub record Found (l : PeakLine) (loss : ℕ) (b : Basis) : Type 0 where
  pub basis : basis_of l ≡ Some b
  pub factor : loss ≡ l.loss_factor
  pub ranged : in_range_on l b ≡ all_fit b l.figures

found : (l : PeakLine) (loss : ℕ) (b : Basis) → Ok (loss, b) ≡ based l → Found l loss b
found l loss b e =
    let p = based_split (is_account l.account && is_loss_factor l.loss_factor) l.loss_factor (basis_of l) loss b e in
    let parts = and_parts (is_account l.account) (is_loss_factor l.loss_factor) p.0 in
    record { basis = p.2; factor = p.1; ranged = rw (parts.0, parts.1, p.3) refl }

unwrapped : (t : Bool) (n : ℕ) (e : Cause) → result_unwrap_or (cond t (Ok n) (Err e)) 0 ≡ cond (t && true) n 0
unwrapped true n e = refl
unwrapped false n e = refl

-- what a line weighs whose billed usage is not too high
pub weighs : (l : PeakLine) (loss : ℕ) (b : Basis) (r : Result ℕ Cause) → Ok (loss, b) ≡ based l → Ok tt ≡ ratio_on b → r ≡ average_if_fits loss b l.figures →
    result_unwrap_or r 0 ≡ weight_of l
weighs l loss b r h ratio is =
    let f = found l loss b h in
    let usage = (passed (usage_fits_on b) tt tt UsageTooHigh ratio).0 in
    let line : weight_on l (Some b) ≡ cond (all_fit b l.figures && true) (average_load loss b l.figures) 0 = rw (f.ranged, usage, f.factor) refl in
    ap (λ x. result_unwrap_or x 0) is ∙ unwrapped (all_fit b l.figures) (average_load loss b l.figures) OutOfRange ∙ sym (ap (weight_on l) f.basis ∙ line)

out_of_range : (a w f x : Bool) → ((a && w) && f) ≡ false → (a && (w && (f && x))) ≡ false
out_of_range false w f x e = refl
out_of_range true false f x e = refl
out_of_range true true false x e = refl
out_of_range true true true x e = cc

nothing_else : (t : Bool) (w : ℕ) (e : Cause) → Err e ≡ cond t (with_loss w (Err OutOfRange)) (Err OutOfRange) → e ≡ OutOfRange
nothing_else true w e h = cc
nothing_else false w e h = cc

without_basis : (l : PeakLine) (o : Option Basis) (e : Cause) → Err e ≡ cond (is_account l.account && is_loss_factor l.loss_factor) (with_loss l.loss_factor (if_further_fits o)) (Err OutOfRange) →
    Some e ≡ cause_on l o
without_basis l None e h = ap Some (nothing_else (is_account l.account && is_loss_factor l.loss_factor) l.loss_factor e h)
without_basis l (Some d) e h =
    let p = refused_split l.loss_factor d (is_account l.account && is_loss_factor l.loss_factor) (further_fits d) e h in
    let out = out_of_range (is_account l.account) (is_loss_factor l.loss_factor) (further_fits d) (all_fit d l.figures) p.1 in
    ap Some p.0 ∙ sym (ap (λ t. verdict t (usage_fits_on d)) out)

-- the cause of a line of which no basis was found
pub not_based : (l : PeakLine) (r : Result (Unit {0}) Cause) (e : Cause) → Err e ≡ based l → IsErrAnd r (λ x. x ≡ e) → result_err r ≡ peak_cause_of l
not_based l r e h is =
    let p = err_from_is_err_and r is in
    ap result_err (p.1 ∙ ap Err p.2) ∙ without_basis l (basis_of l) e h
