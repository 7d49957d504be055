-- All sums of an hour, one row after another.
use Rattle.std.proofs.Common.{◌≡◌, ℕ, ◌+◌, ◌-◌, ◌*◌, ◌<◌, ◌≤◌, true, false, List, [], ◌∷◌, ◌++◌, map, length, get_or, set, replicate, ℤ, pos, ◌+ℤ◌, nat_abs, sym, refl, ap, ◌∙◌, ⊎_elim, subst, arith}
use lib.IntN.{+ℤ_idr}
use Rattle.std.specs.List.{range_with_len, AllByRecursion}
use Rattle.std.proofs.lemmas.List.FromFn.{length-map-range_with_len, get_or-map-range_with_len}
use Rattle.std.proofs.lemmas.List.{get_or-set_same, get_or-set_other, get_or-replicate, length-set, length-append, length_push, append_assoc, ext_get_or}
use Rattle.std.proofs.lemmas.Int.{ints}
use Rattle.std.proofs.lemmas.Bool.{cases_eq, cond-true, cond-false}
use Rattle.rows.specs.declared.Row.{Row}
use Rattle.rows.specs.declared.Kind.{Kind}
use Rattle.rows.specs.declared.Kind.TheVariants.{Energy}
use Rattle.rows.specs.Lawful.{Lawful}
use Rattle.rows.proofs.Lawfully.{lawful_ranges}
use Rattle.archive.specs.Sums.{in_hour, portion, hour_portion, sum_of, hour_sum, sums_of, Small}
use Rattle.archive.proofs.Totals.{Within, total_push, total_within}
use Rattle.archive.proofs.Portions.{portion_in, portion_out, portion_other, portion_within, hour_portion_within}

-- stands for an element where there is none
abbrev pub no_row : Row
no_row = record { kind = Energy; day = 0; hour = 0; stage = 0; supplier = 0; amount = pos 0 }

-- what all elements are, the first of them are
all_front : {X : Type 0} (P : X → Type 0) (xs ys : List X) → AllByRecursion P (xs ++ ys) → AllByRecursion P xs
all_front P [] ys all = tt
all_front P (x ∷ xs) ys all = (all.0, all_front P xs ys all.1)

-- the last of them is too
all_last : {X : Type 0} (P : X → Type 0) (xs : List X) (x : X) → AllByRecursion P (xs ++ x ∷ []) → P x
all_last P [] x all = all.0
all_last P (y ∷ xs) x all = all_last P xs x all.1

pub small_abs : (i : ℕ) (z : ℤ) → i ≤ 1000000 → Within (i * 3000000000) z → nat_abs z ≤ 3000000000000000
small_abs i z l h = omega (arith, ints)

module _ (k : Kind) (d h : ℕ) where
  -- the sums of rs: of suppliers 1 to 32, and of all
  pub record Summed (sums : List ℤ) (all : ℤ) (rs : List Row) : Type 0 where
    pub many : length sums ≡ 32
    pub each : (s : ℕ) → s < 32 → get_or sums s (pos 0) ≡ sum_of k d h (s + 1) rs
    pub zone : all ≡ hour_sum k d h rs

  pub summed_none : Summed (replicate 32 (pos 0)) (pos 0) []
  unfolding sum_of hour_sum
  summed_none = record { many = refl; each = λ s l. get_or-replicate 32 s (pos 0) (pos 0) l; zone = refl }

  pub sum_of_push : (s : ℕ) (rs : List Row) (r : Row) → sum_of k d h s (rs ++ r ∷ []) ≡ sum_of k d h s rs +ℤ portion k d h s r
  unfolding sum_of
  sum_of_push s rs r = total_push (portion k d h s) rs r

  hour_sum_push : (rs : List Row) (r : Row) → hour_sum k d h (rs ++ r ∷ []) ≡ hour_sum k d h rs +ℤ hour_portion k d h r
  unfolding hour_sum
  hour_sum_push rs r = total_push (hour_portion k d h) rs r

  pub summed_skip : (rs : List Row) (r : Row) (sums : List ℤ) (all : ℤ) → in_hour k d h r ≡ false → Summed sums all rs → Summed sums all (rs ++ r ∷ [])
  summed_skip rs r sums all out p = record {
    many = p.many;
    each = λ s b. p.each s b ∙ sym (sum_of_push (s + 1) rs r ∙ ap (λ z. sum_of k d h (s + 1) rs +ℤ z) (portion_out k d h (s + 1) r out) ∙ +ℤ_idr _);
    zone = p.zone ∙ sym (hour_sum_push rs r ∙ ap (λ z. hour_sum k d h rs +ℤ z) (cond-false (in_hour k d h r) r.amount (pos 0) out) ∙ +ℤ_idr _);
  }

  pub summed_add : (rs : List Row) (r : Row) (sums : List ℤ) (all x y : ℤ) → in_hour k d h r ≡ true → Lawful r → x ≡ get_or sums (r.supplier - 1) (pos 0) +ℤ r.amount → y ≡ all +ℤ r.amount → Summed sums all rs → Summed (set sums (r.supplier - 1) x) y (rs ++ r ∷ [])
  summed_add rs r sums all x y inside law ex ey p =
      let u = (lawful_ranges r law).supplier in
      let j : ℕ = r.supplier - 1 in
      record {
        many = length-set sums j x ∙ p.many;
        each = λ s b.
            let old : ℤ = sum_of k d h (s + 1) rs in
            ⊎_elim
            (λ same. ap (λ n. get_or (set sums j x) n (pos 0)) same ∙ get_or-set_same sums j x (pos 0) (omega (arith, p.many)) ∙ ex ∙ ap (λ n. get_or sums n (pos 0) +ℤ r.amount) (sym same) ∙ ap (λ z. z +ℤ r.amount) (p.each s b) ∙ ap (λ z. old +ℤ z) (sym (portion_in k d h (s + 1) r inside (omega arith))) ∙ sym (sum_of_push (s + 1) rs r))
            (λ apart. get_or-set_other sums j s x (pos 0) apart ∙ p.each s b ∙ sym (sum_of_push (s + 1) rs r ∙ ap (λ z. old +ℤ z) (portion_other k d h (s + 1) r (λ w. apart (omega arith))) ∙ +ℤ_idr _))
            (cases_eq s j);
        zone = ey ∙ ap (λ z. z +ℤ r.amount) p.zone ∙ ap (λ z. hour_sum k d h rs +ℤ z) (sym (cond-true (in_hour k d h r) r.amount (pos 0) inside)) ∙ sym (hour_sum_push rs r);
      }

  -- No sum overflows: at most 1,000,000 rows of at most 3,000,000,000 each.
  sum_within : (rs : List Row) (s : ℕ) → AllByRecursion Lawful rs → Within (length rs * 3000000000) (sum_of k d h s rs)
  unfolding sum_of
  sum_within rs s all = total_within Lawful (portion k d h s) 3000000000 (portion_within k d h s) rs all

  hour_within : (rs : List Row) → AllByRecursion Lawful rs → Within (length rs * 3000000000) (hour_sum k d h rs)
  unfolding hour_sum
  hour_within rs all = total_within Lawful (hour_portion k d h) 3000000000 (hour_portion_within k d h) rs all

  pub summed_small : (sums : List ℤ) (zone : ℤ) (rs : List Row) → AllByRecursion Lawful rs → length rs ≤ 1000000 → Summed sums zone rs → Small sums zone
  summed_small sums zone rs all few p = record {
    many = p.many;
    suppliers = λ s b. rw (p.each s b) (small_abs (length rs) _ few (sum_within rs (s + 1) all));
    zone = rw p.zone (small_abs (length rs) _ few (hour_within rs all));
  }

  -- of the rows of an archive, those that are summed, the next, and those after it
  module _ (rows rs : List Row) (r : Row) (after : List Row) (order : rs ++ r ∷ after ≡ rows) (lawful : AllByRecursion Lawful rows) where
    next_lawful : AllByRecursion Lawful (rs ++ r ∷ [])
    next_lawful =
        let q = append_assoc rs (r ∷ []) after ∙ order in
        all_front Lawful (rs ++ r ∷ []) after (subst (AllByRecursion Lawful) (sym q) lawful)

    pub row_lawful : Lawful r
    row_lawful = all_last Lawful rs r next_lawful

    -- the sums once the row is added
    pub added-small : length rows ≤ 1000000 → (sums : List ℤ) (zone : ℤ) → in_hour k d h r ≡ true → Summed sums zone rs → (nat_abs (get_or sums (r.supplier - 1) (pos 0) +ℤ r.amount) ≤ 3000000000000000) × (nat_abs (zone +ℤ r.amount) ≤ 3000000000000000)
    added-small few sums zone inside p =
        let u = (lawful_ranges r row_lawful).supplier in
        let j : ℕ = r.supplier - 1 in
        let few' : length (rs ++ r ∷ []) ≤ 1000000 = omega (arith, length_push rs r, ap length order, length-append rs (r ∷ after)) in
        let t = summed_small _ _ (rs ++ r ∷ []) next_lawful few' (summed_add rs r sums zone _ _ inside row_lawful refl refl p) in
        (subst (λ z. nat_abs z ≤ 3000000000000000) (get_or-set_same sums j (get_or sums j (pos 0) +ℤ r.amount) (pos 0) (omega (arith, p.many))) (t.suppliers j (omega arith)), t.zone)

  pub summed_is : (sums : List ℤ) (zone : ℤ) (rs : List Row) → Summed sums zone rs → sums ≡ sums_of k d h rs
  unfolding sums_of
  summed_is sums zone rs p =
      ext_get_or (pos 0) sums (map (λ s. sum_of k d h s rs) (range_with_len 1 32)) (p.many ∙ sym (length-map-range_with_len (λ s. sum_of k d h s rs) 1 32)) (λ s l. p.each s (omega (arith, p.many)) ∙ sym (get_or-map-range_with_len (λ s. sum_of k d h s rs) 1 32 s (s + 1) (pos 0) (omega (arith, p.many)) (omega arith)))
