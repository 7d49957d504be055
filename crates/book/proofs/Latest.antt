-- An account's last entry, entry by entry.
use Rattle.std.proofs.Common.{◌≡◌, ℕ, ◌+◌, ◌<◌, Bool, true, false, cond, List, [], ◌∷◌, ◌++◌, reverse, length, get_or, take, Some, None, fold, Option, sym, refl, subst, ap, ◌∙◌}
use Rattle.std.specs.List.{find}
use Rattle.std.specs.Option.{option_or}
use Rattle.std.specs.declared.slice.Iter.{Iter}
use Rattle.std.specs.Slice.Iter.{iter_rest, iter_steps_back}
use Rattle.std.proofs.lemmas.Iterator.{YieldsList}
use Rattle.std.proofs.lemmas.Iterator.Consumers.{YieldsList-from_shown}
use Rattle.std.proofs.lemmas.List.{reverse-append, length-reverse}
use Rattle.std.proofs.lemmas.List.Folds.{find-append}
use Rattle.std.proofs.lemmas.List.Sums.{fold_more}
use Rattle.std.proofs.lemmas.Bool.{cond-true, cond-false}
use Rattle.book.specs.declared.roster.Entry.{Entry}
use Rattle.book.specs.Entries.{concerns, last_entry, NoneOf, LastDecides}

pub one_entry : (account : ℕ) (by : Option ℕ) (es : List Entry) (i : ℕ) (d : Entry) → i < length es
    → last_entry account by (take (i + 1) es) ≡ cond (concerns account by (get_or es i d)) (Some (get_or es i d)) (last_entry account by (take i es))
one_entry account by es i d lt = fold_more (λ found e. cond (concerns account by e) (Some e) found) None es i d lt

-- a fold that keeps the last that passes finds the first from the end
or_of_one : {X : Type 0} (b : Bool) (a c : Option X) (x : X) → option_or a (cond b (Some x) c) ≡ option_or (option_or a (cond b (Some x) None)) c
or_of_one b (Some y) c x = refl
or_of_one true None c x = refl
or_of_one false None c x = refl

last_kept : {X : Type 0} (p : X → Bool) (first : Option X) (xs : List X) → fold (λ found x. cond (p x) (Some x) found) first xs ≡ option_or (find p (reverse xs)) first
last_kept p first [] = refl
last_kept p first (x ∷ xs) =
    last_kept p (cond (p x) (Some x) first) xs
    ∙ or_of_one (p x) (find p (reverse xs)) first x
    ∙ sym (ap (λ t. option_or t first) (ap (find p) (reverse-append (x ∷ []) xs) ∙ find-append p (reverse xs) (x ∷ [])))

or_none : {X : Type 0} (a : Option X) → option_or a None ≡ a
or_none None = refl
or_none (Some x) = refl

pub last_found : (account : ℕ) (by : Option ℕ) (es : List Entry) → last_entry account by es ≡ find (concerns account by) (reverse es)
last_found account by es = last_kept (concerns account by) None es ∙ or_none (find (concerns account by) (reverse es))

-- entries that do not fit leave what was found before them
kept : (account : ℕ) (by : Option ℕ) (first : Option Entry) (es : List Entry) → NoneOf account by es
    → fold (λ latest e. cond (concerns account by e) (Some e) latest) first es ≡ first
kept account by first [] none = refl
kept account by first (e ∷ es) none =
    ap (λ latest. fold (λ found x. cond (concerns account by x) (Some x) found) latest es) (cond-false _ _ _ none.0)
    ∙ kept account by first es none.1

last_fits : (account : ℕ) (by : Option ℕ) (first : Option Entry) (before after : List Entry) (e : Entry) → concerns account by e ≡ true → NoneOf account by after
    → fold (λ latest x. cond (concerns account by x) (Some x) latest) first (before ++ e ∷ after) ≡ Some e
last_fits account by first [] after e it none =
    ap (λ latest. fold (λ found x. cond (concerns account by x) (Some x) found) latest after) (cond-true _ _ _ it)
    ∙ kept account by (Some e) after none
last_fits account by first (x ∷ before) after e it none =
    last_fits account by (cond (concerns account by x) (Some x) first) before after e it none

pub last_decides : LastDecides
last_decides = record { last = λ account by. last_fits account by None; absent = λ account by. kept account by None }

-- an iterator over entries gives them from the back, last first
pub last_first : (s : Iter Entry) (es : List Entry) → iter_rest s ≡ es → YieldsList iter_steps_back (λ y. y.now) s (reverse es)
last_first s es e = subst (λ k. YieldsList iter_steps_back (λ y. y.now) s (reverse k)) e
    (YieldsList-from_shown iter_steps_back (λ y. y.now) (λ u. reverse (iter_rest u)) (λ u t p. length-reverse _ ∙ p.0)
    (λ u x t p. ap reverse p ∙ reverse-append (iter_rest t) (x.now ∷ [])) s)
