-- The table of suppliers after one entry more.
use Rattle.std.proofs.Common.{◌≡◌, ℕ, zero, suc, ◌+◌, ◌<◌, ◌≤◌, Bool, true, false, cond, eqb, leb, ◌≢◌, List, [], ◌∷◌, ◌++◌, map, length, get_or, take, drop, set, replicate, unwrap_or, Some, Option, sym, refl, ap, ◌∙◌, ⊎_elim, arith}
use Rattle.std.proofs.lemmas.Bool.{and_from, and_left, and_right, cond-true, cond-false, eq-eqb, ne_eqb, le-leb, lt-leb, cases_order}
use Rattle.book.specs.declared.roster.Entry.{Entry}
use Rattle.book.specs.Rising.{Rising}
use Rattle.book.specs.Entries.{concerns, last_entry, somebody, supplier_in, supplier_on}
use Rattle.book.specs.Sheets.{suppliers_on, lines_told, table_on}
use Rattle.book.proofs.Latest.{one_entry}

chosen : (b : Bool) (e f : Option Entry) → supplier_in (cond b e f) ≡ cond b (supplier_in e) (supplier_in f)
chosen true e f = refl
chosen false e f = refl

-- an account's supplier after one entry more
supplier_more : (account day : ℕ) (es : List Entry) (i : ℕ) (d : Entry) → i < length es
    → supplier_on account day (take (i + 1) es) ≡ cond (concerns account (Some day) (get_or es i d)) (supplier_in (Some (get_or es i d))) (supplier_on account day (take i es))
supplier_more account day es i d lt =
    ap supplier_in (one_entry account (Some day) es i d lt)
    ∙ chosen (concerns account (Some day) (get_or es i d)) (Some (get_or es i d)) (last_entry account (Some day) (take i es))

supplier_stays : (account day : ℕ) (es : List Entry) (i : ℕ) (d : Entry) → i < length es → concerns account (Some day) (get_or es i d) ≡ false
    → supplier_on account day (take (i + 1) es) ≡ supplier_on account day (take i es)
supplier_stays account day es i d lt other = supplier_more account day es i d lt ∙ cond-false _ _ _ other

supplier_changes : (account day : ℕ) (es : List Entry) (i : ℕ) (d : Entry) → i < length es → concerns account (Some day) (get_or es i d) ≡ true
    → supplier_on account day (take (i + 1) es) ≡ supplier_in (Some (get_or es i d))
supplier_changes account day es i d lt it = supplier_more account day es i d lt ∙ cond-true _ _ _ it

-- two functions that agree on a list, and on all of it but one place
map_same : (f g : ℕ → ℕ) (xs : List ℕ) → ((k : ℕ) → k < length xs → f (get_or xs k 0) ≡ g (get_or xs k 0)) → map f xs ≡ map g xs
map_same f g [] same = refl
map_same f g (x ∷ xs) same =
    let head : f x ≡ g x = same zero (omega arith) in
    let tail : map f xs ≡ map g xs = map_same f g xs (λ k h. same (suc k) (omega arith)) in
    cc

map_at : (f g : ℕ → ℕ) (xs : List ℕ) (k : ℕ) → k < length xs → ((j : ℕ) → j < length xs → j ≢ k → f (get_or xs j 0) ≡ g (get_or xs j 0))
    → map f xs ≡ set (map g xs) k (f (get_or xs k 0))
map_at f g [] k lt same = absurd (omega arith)
map_at f g (x ∷ xs) zero lt same =
    ap (λ ys. f x ∷ ys) (map_same f g xs (λ j h. same (suc j) (omega arith) (λ e. omega arith)))
map_at f g (x ∷ xs) (suc k) lt same =
    let head : f x ≡ g x = same zero (omega arith) (λ e. omega arith) in
    let tail : map f xs ≡ set (map g xs) k (f (get_or xs k 0)) =
    map_at f g xs k (omega arith) (λ j h ne. same (suc j) (omega arith) (λ e. ne (omega arith))) in
    cc

-- an entry that begins later changes nothing
pub passed_late : (day : ℕ) (es : List Entry) (accounts : List ℕ) (i : ℕ) (d : Entry) → i < length es → day < (get_or es i d).from_day
    → suppliers_on day (take (i + 1) es) accounts ≡ suppliers_on day (take i es) accounts
passed_late day es accounts i d lt late =
    map_same (λ a. supplier_on a day (take (i + 1) es)) (λ a. supplier_on a day (take i es)) accounts
    (λ k h. supplier_stays (get_or accounts k 0) day es i d lt
    (and_right (eqb (get_or es i d).account (get_or accounts k 0)) (leb (get_or es i d).from_day day) (lt-leb _ _ late)))

-- nor does one of an account that is not in the sheet
pub passed_absent : (day : ℕ) (es : List Entry) (accounts : List ℕ) (i : ℕ) (d : Entry) → i < length es
    → ((k : ℕ) → k < length accounts → get_or accounts k 0 ≡ (get_or es i d).account → ⊥)
    → suppliers_on day (take (i + 1) es) accounts ≡ suppliers_on day (take i es) accounts
passed_absent day es accounts i d lt absent =
    map_same (λ a. supplier_on a day (take (i + 1) es)) (λ a. supplier_on a day (take i es)) accounts
    (λ k h. supplier_stays (get_or accounts k 0) day es i d lt
    (and_left (eqb (get_or es i d).account (get_or accounts k 0)) (leb (get_or es i d).from_day day) (ne_eqb _ _ (λ e. absent k h (sym e)))))

-- numbers at two places of a rising list differ
apart : (xs : List ℕ) → Rising xs → (j k : ℕ) → j < length xs → k < length xs → j ≢ k → get_or xs j 0 ≡ get_or xs k 0 → ⊥
apart xs rises j k short within ne same =
    ⊎_elim (λ e. ne e) (⊎_elim (λ l. omega (arith, rises j k l within)) (λ l. omega (arith, rises k j l short))) (cases_order j k)

-- any other is written at its account's place
pub written_at : (day : ℕ) (es : List Entry) (accounts : List ℕ) (i k : ℕ) (d : Entry) → i < length es → (get_or es i d).from_day ≤ day
    → Rising accounts → k < length accounts → get_or accounts k 0 ≡ (get_or es i d).account
    → suppliers_on day (take (i + 1) es) accounts ≡ set (suppliers_on day (take i es) accounts) k (supplier_in (Some (get_or es i d)))
written_at day es accounts i k d lt early rises within is =
    let e = get_or es i d in
    let f : ℕ → ℕ = λ a. supplier_on a day (take (i + 1) es) in
    let g : ℕ → ℕ = λ a. supplier_on a day (take i es) in
    let there : f (get_or accounts k 0) ≡ supplier_in (Some e) =
    supplier_changes (get_or accounts k 0) day es i d lt
    (and_from (eqb e.account (get_or accounts k 0)) (leb e.from_day day) (eq-eqb _ _ (sym is)) (le-leb _ _ early)) in
    map_at f g accounts k within
    (λ j h ne. supplier_stays (get_or accounts j 0) day es i d lt
    (and_left (eqb e.account (get_or accounts j 0)) (leb e.from_day day)
    (ne_eqb _ _ (λ same. apart accounts rises j k h within ne (sym same ∙ sym is)))))
    ∙ ap (set (suppliers_on day (take i es) accounts) k) there

-- with no entry yet everybody has nobody
pub nobody_yet : (day : ℕ) (accounts : List ℕ) → suppliers_on day [] accounts ≡ replicate (length accounts) 0
nobody_yet day [] = refl
nobody_yet day (account ∷ rest) = ap (λ t. 0 ∷ t) (nobody_yet day rest)

-- what a line is given in the table
pub or_nobody : (n : ℕ) → unwrap_or (somebody n) 0 ≡ n
or_nobody zero = refl
or_nobody (suc n) = refl

-- the whole: how many lines, and the places that were filled for them
pub table_told : (day n : ℕ) (es : List Entry) (all table filled : List ℕ) → n ≡ lines_told all table
    → filled ≡ suppliers_on day es (take n all) → filled ++ drop n table ≡ table_on day es all table
table_told day n es all table filled count fill =
    ap (λ t. t ++ drop n table) fill ∙ ap (λ k. suppliers_on day es (take k all) ++ drop k table) count
