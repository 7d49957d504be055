-- A row put into memory.
use Rattle.std.proofs.Common.{◌≡◌, ℕ, ◌+◌, ◌-◌, ◌*◌, ◌<◌, ◌≤◌, Bool, true, false, cond, eqb, List, [], ◌∷◌, ◌++◌, length, take, drop, Ok, Err, Result, sym, refl, ap, ◌∙◌, add-one, arith}
use Rattle.std.proofs.lemmas.List.{append-nil, drop-drop, length-take, length-drop, length-append}
use Rattle.std.proofs.lemmas.Bool.{ne_eqb, eqb-false}
use Rattle.refusals.specs.declared.Refusal.{Refusal}
use Rattle.refusals.specs.declared.Cause.TheVariants.{ArchiveFull, UnlawfulRow}
use Rattle.rows.specs.declared.Row.{Row}
use Rattle.rows.specs.Lawful.{lawful, Lawful}
use Rattle.rows.specs.Format.{reading, bytes_of, ReadsBack}
use Rattle.rows.proofs.Written.{length-bytes_of}
use Rattle.archive.specs.Contents.{Contents, contents, refusing, appending, appended, kept}
use Rattle.archive.specs.Packed.{rows_in, places, put}
use Rattle.archive.proofs.Packing.{rows_in-put}

pub room_for : (m : List ℕ) (u : ℕ) → u < places (length m) → u * 15 + 15 ≤ length m
room_for m u h = omega arith

pub length-put : (m : List ℕ) (u : ℕ) (r : Row) → u * 15 + 15 ≤ length m → length (put m u r) ≡ length m
length-put m u r h = simp (length-append, length-take, length-drop, length-bytes_of) (omega arith)

-- the row's bytes b, copied over the n that stand at its position
pub copied_is : (m b : List ℕ) (u n : ℕ) (r : Row) → b ≡ bytes_of r → n ≡ 15 → take (u * 15) m ++ (b ++ drop n (drop (u * 15) m)) ≡ put m u r
copied_is m b u n r e l =
    ap (λ t. take (u * 15) m ++ (t ++ drop n (drop (u * 15) m))) e
    ∙ ap (λ k. take (u * 15) m ++ (bytes_of r ++ drop k (drop (u * 15) m))) l
    ∙ ap (λ t. take (u * 15) m ++ (bytes_of r ++ t)) (drop-drop 15 (u * 15) m)

pub put-rows : (m : List ℕ) (u : ℕ) (r : Row) → length (rows_in u m) ≡ u → ReadsBack → Lawful r → rows_in (u + 1) (put m u r) ≡ rows_in u m ++ r ∷ []
put-rows m u r whole back l =
    ap (λ n. rows_in n (put m u r)) (add-one u)
    ∙ rows_in-put u m (bytes_of r) (drop (u * 15 + 15) m) r whole (ap reading (sym (append-nil (bytes_of r))) ∙ back r [] l) (length-bytes_of r)

pub accepting : (c : Contents) (r : Row) → Lawful r → 0 < c.free → appending c r ≡ Ok tt
accepting c r l h =
    ap (λ b. cond b (cond (eqb c.free 0) (Err (refusing ArchiveFull 0)) (Ok tt)) (Err (refusing UnlawfulRow 0))) l ∙ ap (λ b. cond b (Err (refusing ArchiveFull 0)) (Ok tt)) (ne_eqb c.free 0 (omega arith))

-- one row more, one place fewer
pub appended_is : (c : Contents) (r : Row) (rs : List Row) (free : ℕ) → Lawful r → 0 < c.free → rs ≡ c.rows ++ r ∷ [] → free ≡ c.free - 1 → contents rs free ≡ appended c r
appended_is c r rs free l h p q =
    ap (λ t. contents t free) p
    ∙ ap (contents (c.rows ++ r ∷ [])) q
    ∙ sym (ap (λ a. kept a (contents (c.rows ++ r ∷ []) (c.free - 1)) c) (accepting c r l h))

both_pass : (good full : Bool) (e f : Refusal) → ◌≡◌ {A = Result (Unit {0}) Refusal} (cond good (cond full (Err e) (Ok tt)) (Err f)) (Ok tt) → (good ≡ true) × (full ≡ false)
both_pass true false e f q = (refl, refl)
both_pass true true e f q = let z : ◌≡◌ {A = ℕ} 0 1 = cc in absurd (omega arith)
both_pass false full e f q = let z : ◌≡◌ {A = ℕ} 0 1 = cc in absurd (omega arith)

-- what is admitted where so many places are free is lawful, and one is free
pub admitted : (r : Row) (free : ℕ) → Ok tt ≡ appending (contents [] free) r → Lawful r × (0 < free)
admitted r free q =
    let p = both_pass (lawful r) (eqb free 0) _ _ (sym q) in
    (p.0, omega (arith, eqb-false free 0 p.1))
