-- The rows of what suppliers 1 to n are due.
use Rattle.std.proofs.Common.{◌≡◌, ℕ, zero, suc, ◌+◌, ◌-◌, ◌<◌, ◌≤◌, Bool, true, false, ◌&&◌, leb, ◌⊎◌, List, [], ◌∷◌, ◌++◌, length, get_or, set, take, drop, not, count_by, ℤ, pos, negsuc, ◌-ℤ◌, sym, refl, ap, ◌∙◌, subst, inl, inr, ⊎_elim, add-one, arith, w64, SFits, to_z, of_z}
use Rattle.std.specs.List.{AllByRecursion}
use Rattle.std.proofs.ByRecursion.{All-append}
use Rattle.std.proofs.lemmas.List.{append-nil, length-append, length_push, length-drop, length-set, drop-drop, take_all, get_or-drop, get_or-set_same, get_or-set_other}
use Rattle.std.proofs.lemmas.List.Sums.{count_by_more_no, count_by_more_yes}
use Rattle.std.proofs.lemmas.Int.{to_z-of_z, ints}
use Rattle.std.proofs.lemmas.Bool.{and_parts, and_from, and_left, and_right, cases_eq, cond_both, cond-false, le-leb, ne_eqb}
use Rattle.rows.specs.Lawful.{between, bookable, timely, lawful, Lawful}
use Rattle.archive.specs.declared.adjusting.Slot.{Slot}
use Rattle.archive.specs.Adjusting.{lawful_slot, is_zero, in_range, row_in, row_for, rows_for, all_in_range, lacks}

pub cases_zero : (z : ℤ) → (z ≡ pos 0) ⊎ (z ≡ pos 0 → ⊥)
cases_zero (pos zero) = inl refl
cases_zero (pos (suc n)) = inr (λ e. omega (arith, ints))
cases_zero (negsuc n) = inr (λ e. omega (arith, ints))

pub bits_zero : (z : ℤ) → SFits w64 z → of_z w64 z ≡ 0 → z ≡ pos 0
bits_zero z f e = sym (to_z-of_z w64 z f) ∙ ap (to_z w64) e

pub bits_other : (z : ℤ) → (of_z w64 z ≡ 0 → ⊥) → z ≡ pos 0 → ⊥
bits_other z ne e = ne (ap (of_z w64) e)

not_zero : (z : ℤ) → (z ≡ pos 0 → ⊥) → is_zero z ≡ false
not_zero (pos n) ne = ne_eqb n 0 (λ e. ne (ap pos e))
not_zero (negsuc n) ne = refl

bookable_due : (z : ℤ) → in_range z ≡ true → (z ≡ pos 0 → ⊥) → bookable z ≡ true
bookable_due (pos n) r ne =
    and_from (leb 1 n) (leb n 3000000000) (le-leb 1 n (⊎_elim (λ e. absurd (ne (ap pos e))) (λ p. omega arith) (cases_eq n 0))) r
bookable_due (negsuc n) r ne = r

module _ (slot : Slot) where
  pub row_for-none : (s : ℕ) (z : ℤ) → z ≡ pos 0 → row_for slot s z ≡ []
  row_for-none s z e = ap (row_for slot s) e

  pub row_for_one : (s : ℕ) (z : ℤ) → (z ≡ pos 0 → ⊥) → row_for slot s z ≡ row_in slot s z ∷ []
  row_for_one s z ne = cond-false (is_zero z) [] (row_in slot s z ∷ []) (not_zero z ne)

  row_for_short : (s : ℕ) (z : ℤ) → length (row_for slot s z) ≤ 1
  row_for_short s z = cond_both (is_zero z) [] (row_in slot s z ∷ []) (λ l. length l ≤ 1) (λ _. omega arith) (λ _. omega arith)

  pub rows_for-none : (due : ℕ → ℤ) → rows_for slot due 0 ≡ []
  unfolding rows_for
  rows_for-none due = refl

  pub rows_for_more : (due : ℕ → ℤ) (n : ℕ) → rows_for slot due (n + 1) ≡ rows_for slot due n ++ row_for slot (n + 1) (due (n + 1))
  unfolding rows_for
  rows_for_more due n = ap (rows_for slot due) (add-one n) ∙ ap (λ s. rows_for slot due n ++ row_for slot s (due s)) (sym (add-one n))

  pub rows_for_short : (due : ℕ → ℤ) (n : ℕ) → length (rows_for slot due n) ≤ n
  unfolding rows_for
  rows_for_short due zero = omega arith
  rows_for_short due (suc n) =
      omega (arith, length-append (rows_for slot due n) (row_for slot (suc n) (due (suc n))), rows_for_short due n, row_for_short (suc n) (due (suc n)))

  pub rows_for_rises : (due : ℕ → ℤ) (n m : ℕ) → n ≤ m → length (rows_for slot due n) ≤ length (rows_for slot due m)
  unfolding rows_for
  rows_for_rises due n zero l = let z : n ≡ 0 = omega arith in rw z (omega arith)
  rows_for_rises due n (suc m) l =
      ⊎_elim
      (λ e. rw e (omega arith))
      (λ ne. omega (arith, rows_for_rises due n m (omega arith), length-append (rows_for slot due m) (row_for slot (suc m) (due (suc m)))))
      (cases_eq n (suc m))

  pub rows_for_same : (f g : ℕ → ℤ) (n : ℕ) → ((s : ℕ) → 1 ≤ s → s ≤ n → f s ≡ g s) → rows_for slot f n ≡ rows_for slot g n
  unfolding rows_for
  rows_for_same f g zero e = refl
  rows_for_same f g (suc n) e =
      ap (λ z. rows_for slot f n ++ row_for slot (suc n) z) (e (suc n) (omega arith) (omega arith))
      ∙ ap (λ t. t ++ row_for slot (suc n) (g (suc n))) (rows_for_same f g n (λ s l m. e s l (omega arith)))

  pub length_more_none : (due : ℕ → ℤ) (n : ℕ) → due (n + 1) ≡ pos 0 → length (rows_for slot due (n + 1)) ≡ length (rows_for slot due n)
  length_more_none due n e = ap length (rows_for_more due n ∙ ap (λ t. rows_for slot due n ++ t) (row_for-none (n + 1) (due (n + 1)) e) ∙ append-nil (rows_for slot due n))

  pub length_more_one : (due : ℕ → ℤ) (n : ℕ) → (due (n + 1) ≡ pos 0 → ⊥) → length (rows_for slot due (n + 1)) ≡ length (rows_for slot due n) + 1
  length_more_one due n ne = ap length (rows_for_more due n ∙ ap (λ t. rows_for slot due n ++ t) (row_for_one (n + 1) (due (n + 1)) ne)) ∙ length_push (rows_for slot due n) (row_in slot (n + 1) (due (n + 1)))

  -- there is room for the next row where there is room for all
  pub rows_for_room : (due : ℕ → ℤ) (n : ℕ) → n < 32 → length (rows_for slot due n) + length (row_for slot (n + 1) (due (n + 1))) ≤ length (rows_for slot due 32)
  rows_for_room due n l =
      omega (arith, ap length (rows_for_more due n), length-append (rows_for slot due n) (row_for slot (n + 1) (due (n + 1))), rows_for_rises due (n + 1) 32 (omega arith))

  pub lawful_due : (s : ℕ) (z : ℤ) → lawful_slot slot ≡ true → 1 ≤ s → s ≤ 32 → in_range z ≡ true → (z ≡ pos 0 → ⊥) → Lawful (row_in slot s z)
  unfolding lawful
  lawful_due s z good low high r ne =
      let t : Bool = timely slot.kind slot.hour slot.stage in
      let p = and_parts (between 1 60000 slot.day) t good in
      and_from (between 1 60000 slot.day) (between 1 32 s && (bookable z && t)) p.0 (and_from (between 1 32 s) (bookable z && t) (and_from (leb 1 s) (leb s 32) (le-leb 1 s low) (le-leb s 32 high)) (and_from (bookable z) t (bookable_due z r ne) p.1))

pub all_in_range_more : (due : ℕ → ℤ) (n : ℕ) → in_range (due (n + 1)) ≡ true → all_in_range due n ≡ true → all_in_range due (n + 1) ≡ true
unfolding all_in_range
all_in_range_more due n p q = ap (all_in_range due) (add-one n) ∙ and_from (all_in_range due n) (in_range (due (suc n))) q (ap (λ s. in_range (due s)) (sym (add-one n)) ∙ p)

pub all_in_range_fails : (due : ℕ → ℤ) (s m : ℕ) → 1 ≤ s → s ≤ m → in_range (due s) ≡ false → all_in_range due m ≡ false
unfolding all_in_range
all_in_range_fails due s zero l h p = absurd (omega arith)
all_in_range_fails due s (suc m) l h p =
    ⊎_elim
    (λ e. and_right (all_in_range due m) (in_range (due (suc m))) (ap (λ i. in_range (due i)) (sym e) ∙ p))
    (λ ne. and_left (all_in_range due m) (in_range (due (suc m))) (all_in_range_fails due s m l (omega arith) p))
    (cases_eq s (suc m))

pub all_in_range_at : (due : ℕ → ℤ) (s m : ℕ) → 1 ≤ s → s ≤ m → all_in_range due m ≡ true → in_range (due s) ≡ true
unfolding all_in_range
all_in_range_at due s zero l h p = absurd (omega arith)
all_in_range_at due s (suc m) l h p =
    let q = and_parts (all_in_range due m) (in_range (due (suc m))) p in
    ⊎_elim (λ e. ap (λ i. in_range (due i)) e ∙ q.1) (λ ne. all_in_range_at due s m l (omega arith) q.0) (cases_eq s (suc m))

pub all_in_range_same : (f g : ℕ → ℤ) (n : ℕ) → ((s : ℕ) → 1 ≤ s → s ≤ n → f s ≡ g s) → all_in_range f n ≡ all_in_range g n
unfolding all_in_range
all_in_range_same f g zero e = refl
all_in_range_same f g (suc n) e =
    ap (λ z. all_in_range f n && in_range z) (e (suc n) (omega arith) (omega arith)) ∙ ap (λ b. b && in_range (g (suc n))) (all_in_range_same f g n (λ s l m. e s l (omega arith)))

-- one more of the first places of a list is due
dues_more : (all : List ℤ) (due : ℕ → ℤ) (i : ℕ) (z : ℤ) → i < length all → z ≡ due (i + 1) → ((s : ℕ) → 1 ≤ s → s ≤ i → get_or all (s - 1) (pos 0) ≡ due s) → (s : ℕ) → 1 ≤ s → s ≤ i + 1 → get_or (set all i z) (s - 1) (pos 0) ≡ due s
dues_more all due i z l e below s low high =
    ⊎_elim
    (λ q. let at : s - 1 ≡ i = omega arith in ap (λ n. get_or (set all i z) n (pos 0)) at ∙ get_or-set_same all i z (pos 0) l ∙ e ∙ ap due (sym q))
    (λ ne. get_or-set_other all i (s - 1) z (pos 0) (λ q. ne (omega arith)) ∙ below s low (omega arith))
    (cases_eq s (i + 1))

-- the rows that are due are lawful
pub rows_for-lawful : (slot : Slot) (due : ℕ → ℤ) → lawful_slot slot ≡ true → all_in_range due 32 ≡ true → (n : ℕ) → n ≤ 32 → AllByRecursion Lawful (rows_for slot due n)
unfolding rows_for
rows_for-lawful slot due good small zero l = tt
rows_for-lawful slot due good small (suc n) l =
    All-append Lawful (rows_for slot due n) (row_for slot (suc n) (due (suc n))) (rows_for-lawful slot due good small n (omega arith))
    (⊎_elim
    (λ e. subst (AllByRecursion Lawful) (sym (row_for-none slot (suc n) (due (suc n)) e)) tt)
    (λ ne. subst (AllByRecursion Lawful) (sym (row_for_one slot (suc n) (due (suc n)) ne)) (lawful_due slot (suc n) (due (suc n)) good (omega arith) (omega arith) (all_in_range_at due (suc n) 32 (omega arith) (omega arith) small) ne, tt))
    (cases_zero (due (suc n))))

-- the first of what is left of a list, and what is left after it
module _ {X : Type 0} (xs : List X) (i : ℕ) (x : X) (rest : List X) (left : drop i xs ≡ x ∷ rest) where
  first_left : (d : X) → get_or xs i d ≡ x
  first_left d = (let z : i ≡ i + 0 = omega arith in ap (λ k. get_or xs k d) z) ∙ sym (get_or-drop i xs 0 d) ∙ ap (λ t. get_or t 0 d) left

  rest_left : drop (i + 1) xs ≡ rest
  rest_left = sym (drop-drop 1 i xs) ∙ ap (drop 1) left

-- of the amounts wanted and of the sums, those from the i-th on are left, and what the suppliers before lack is found
pub record Lacking (wanted : List ℕ) (sums all : List ℤ) (i : ℕ) (ws : List ℕ) (ss : List ℤ) : Type 0 where
  pub long : length all ≡ 32
  pub few : i ≤ 32
  pub wants : drop i wanted ≡ ws
  pub haves : drop i sums ≡ ss
  pub small : all_in_range (lacks wanted sums) i ≡ true
  pub each : (s : ℕ) → 1 ≤ s → s ≤ i → get_or all (s - 1) (pos 0) ≡ lacks wanted sums s

pub lacking_none : (wanted : List ℕ) (sums all : List ℤ) → length all ≡ 32 → Lacking wanted sums all 0 wanted sums
unfolding all_in_range
lacking_none wanted sums all l =
    record { long = l; few = omega arith; wants = refl; haves = refl; small = refl; each = λ s a b. absurd (omega arith) }

module _ (wanted : List ℕ) (sums all : List ℤ) (i w : ℕ) (z : ℤ) (ws : List ℕ) (ss : List ℤ) (p : Lacking wanted sums all i (w ∷ ws) (z ∷ ss)) where
  lacks_here : pos w -ℤ z ≡ lacks wanted sums (i + 1)
  lacks_here =
      let at : i ≡ i + 1 - 1 = omega arith in
      sym (ap (λ n. pos n -ℤ get_or sums i (pos 0)) (first_left wanted i w ws p.wants 0) ∙ ap (λ n. pos w -ℤ n) (first_left sums i z ss p.haves (pos 0)))
      ∙ ap (λ k. pos (get_or wanted k 0) -ℤ get_or sums k (pos 0)) at

  pub lacking_fails : length wanted ≡ 32 → in_range (pos w -ℤ z) ≡ false → all_in_range (lacks wanted sums) 32 ≡ false
  lacking_fails l e =
      all_in_range_fails (lacks wanted sums) (i + 1) 32 (omega arith) (omega (arith, ap length p.wants, length-drop i wanted)) (ap in_range (sym lacks_here) ∙ e)

  pub lacking_more : length wanted ≡ 32 → (x : ℤ) → x ≡ pos w -ℤ z → in_range (pos w -ℤ z) ≡ true → Lacking wanted sums (set all i x) (i + 1) ws ss
  lacking_more l x e r = record {
    long = length-set all i x ∙ p.long;
    few = omega (arith, l, ap length p.wants, length-drop i wanted);
    wants = rest_left wanted i w ws p.wants;
    haves = rest_left sums i z ss p.haves;
    small = all_in_range_more (lacks wanted sums) i (ap in_range (sym lacks_here) ∙ r) p.small;
    each = dues_more all (lacks wanted sums) i x (omega (arith, p.long, l, ap length p.wants, length-drop i wanted)) (e ∙ lacks_here) p.each;
  }

pub lacking_all : (wanted : List ℕ) (sums all : List ℤ) (i : ℕ) (ws : List ℕ) (ss : List ℤ) → Lacking wanted sums all i ws ss → length wanted ≡ 32 → length sums ≡ 32 → (length ws ≡ 0) ⊎ (length ss ≡ 0) → (all_in_range (lacks wanted sums) 32 ≡ true) × ((s : ℕ) → 1 ≤ s → s ≤ 32 → get_or all (s - 1) (pos 0) ≡ lacks wanted sums s)
lacking_all wanted sums all i ws ss p lw ls none =
    let last : i ≡ 32 = ⊎_elim
    (λ e. omega (arith, p.few, lw, e, ap length p.wants, length-drop i wanted))
    (λ e. omega (arith, p.few, ls, e, ap length p.haves, length-drop i sums))
    none in
    (ap (all_in_range (lacks wanted sums)) (sym last) ∙ p.small, λ s l m. p.each s l (omega arith))

-- as many rows are due as amounts are not 0
module _ (slot : Slot) (zs : List ℤ) where
  count_first : (n : ℕ) → n ≤ length zs → length (rows_for slot (λ s. get_or zs (s - 1) (pos 0)) n) ≡ count_by (λ z. not (is_zero z)) (take n zs)
  count_first zero l = ap length (rows_for-none slot (λ s. get_or zs (s - 1) (pos 0)))
  count_first (suc n) l =
      let due : ℕ → ℤ = λ s. get_or zs (s - 1) (pos 0) in
      let here : due (n + 1) ≡ get_or zs n (pos 0) = (let at : n + 1 - 1 ≡ n = omega arith in ap (λ k. get_or zs k (pos 0)) at) in
      ap (λ k. length (rows_for slot due k)) (sym (add-one n))
      ∙ ⊎_elim
      (λ e. length_more_none slot due n (here ∙ e) ∙ count_first n (omega arith) ∙ sym (count_by_more_no (λ z. not (is_zero z)) zs n (pos 0) (omega arith) (ap (λ z. not (is_zero z)) e)))
      (λ ne. length_more_one slot due n (λ e. ne (sym here ∙ e)) ∙ ap (λ k. k + 1) (count_first n (omega arith)) ∙ sym (count_by_more_yes (λ z. not (is_zero z)) zs n (pos 0) (omega arith) (ap not (not_zero (get_or zs n (pos 0)) ne))))
      (cases_zero (get_or zs n (pos 0)))
      ∙ ap (λ k. count_by (λ z. not (is_zero z)) (take k zs)) (add-one n)

  pub rows_for_count : length zs ≡ 32 → count_by (λ z. not (is_zero z)) zs ≡ length (rows_for slot (λ s. get_or zs (s - 1) (pos 0)) 32)
  rows_for_count l =
      sym (count_first 32 (omega (arith, l)) ∙ ap (count_by (λ z. not (is_zero z))) (take_all 32 zs (omega (arith, l))))
