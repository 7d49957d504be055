-- What was read is a lawful row, and is written as the same bytes.
use Rattle.std.proofs.Common.{◌≡◌, ℕ, ◌+◌, ◌*◌, ◌/◌, ◌%◌, ◌<◌, ◌≤◌, true, ltb, List, [], ◌∷◌, ◌++◌, length, get_or, drop, Some, None, Ok, Err, Option, sym, refl, ap, ◌∙◌, ⊎_elim, arith, w64, to_z, of_z}
use Rattle.std.proofs.lemmas.List.{take-append-drop}
use Rattle.std.proofs.lemmas.Int.{of_z-to_z}
use Rattle.std.proofs.lemmas.Bool.{ltb-false, cond-true, cond-false, cases_Bool}
use Rattle.std.proofs.lemmas.Bool.Decides.{nat_tests}
use Rattle.rows.specs.declared.Row.{Row}
use Rattle.rows.specs.declared.Fault.TheVariants.{Short}
use Rattle.rows.specs.declared.Kind.{Kind}
use Rattle.rows.specs.Lawful.{lawful, Lawful}
use Rattle.rows.specs.Format.{mark_bytes, bytes_of, eight_bytes, eight, fields_of, kind_of, if_lawful, marked, reading, WritesBack}
use Rattle.rows.proofs.Digits.{eight_again, eight-small, two_again, front_spread}

pub record Found (bs : List ℕ) (r : Row) : Type 0 where
  pub kind : Kind
  pub long : 15 ≤ length bs
  pub mark : kind_of (get_or bs 0 0) (get_or bs 1 0) ≡ Some kind
  pub fields : fields_of kind bs ≡ r
  pub lawful : Lawful r

if_lawful_lem : (x r : Row) → if_lawful x ≡ Ok r → (x ≡ r) × (lawful r ≡ true)
if_lawful_lem x r e = grind arith

if_marked : (o : Option Kind) (bs : List ℕ) (r : Row) → 15 ≤ length bs → kind_of (get_or bs 0 0) (get_or bs 1 0) ≡ o → marked o bs ≡ Ok r → Found bs r
if_marked None bs r l m e = let z : ◌≡◌ {A = ℕ} 0 1 = cc in absurd (omega arith)
if_marked (Some k) bs r l m e =
    let p = if_lawful_lem (fields_of k bs) r e in
    record { kind = k; long = l; mark = m; fields = p.0; lawful = p.1 }

pub found : (bs : List ℕ) (r : Row) → reading bs ≡ Ok r → Found bs r
unfolding reading
found bs r e =
    let o : Option Kind = kind_of (get_or bs 0 0) (get_or bs 1 0) in
    ⊎_elim
    (λ t. let y = cond-true (ltb (length bs) 15) (Err Short) (marked o bs) t in let z : ◌≡◌ {A = ℕ} 0 1 = cc in absurd (omega arith))
    (λ f. if_marked o bs r (ltb-false (length bs) 15 f) refl (sym (cond-false (ltb (length bs) 15) (Err Short) (marked o bs) f) ∙ e))
    (cases_Bool (ltb (length bs) 15))

same_mark : (a b : ℕ) (k : Kind) → kind_of a b ≡ Some k → mark_bytes k ≡ a ∷ b ∷ []
same_mark a b k e = grind (arith, nat_tests)

bytes_again : (k : Kind) (bs : List ℕ) → ((i : ℕ) → get_or bs i 0 < 256) → kind_of (get_or bs 0 0) (get_or bs 1 0) ≡ Some k → bytes_of (fields_of k bs) ≡ get_or bs 0 0 ∷ get_or bs 1 0 ∷ get_or bs 2 0 ∷ get_or bs 3 0 ∷ get_or bs 4 0 ∷ get_or bs 5 0 ∷ get_or bs 6 0 ∷ get_or bs 7 0 ∷ get_or bs 8 0 ∷ get_or bs 9 0 ∷ get_or bs 10 0 ∷ get_or bs 11 0 ∷ get_or bs 12 0 ∷ get_or bs 13 0 ∷ get_or bs 14 0 ∷ []
unfolding bytes_of
bytes_again k bs small e =
    let g : ℕ → ℕ = λ i. get_or bs i 0 in
    let d = two_again (g 2) (g 3) (small 2) (small 3) in
    let n : ℕ = eight (g 7) (g 8) (g 9) (g 10) (g 11) (g 12) (g 13) (g 14) in
    let a = ap eight_bytes (of_z-to_z w64 n (eight-small (g 7) (g 8) (g 9) (g 10) (g 11) (g 12) (g 13) (g 14) (small 7) (small 8) (small 9) (small 10) (small 11) (small 12) (small 13) (small 14))) ∙ eight_again (g 7) (g 8) (g 9) (g 10) (g 11) (g 12) (g 13) (g 14) (small 7) (small 8) (small 9) (small 10) (small 11) (small 12) (small 13) (small 14) in
    let day : ℕ = g 2 * 256 + g 3 in
    let end : List ℕ = g 4 ∷ g 5 ∷ g 6 ∷ eight_bytes (of_z w64 (to_z w64 n)) in
    ap (λ m. m ++ day / 256 % 256 ∷ day % 256 ∷ end) (same_mark (g 0) (g 1) k e)
    ∙ ap (λ x. g 0 ∷ g 1 ∷ x ∷ day % 256 ∷ end) d.0
    ∙ ap (λ x. g 0 ∷ g 1 ∷ g 2 ∷ x ∷ end) d.1
    ∙ ap (λ t. g 0 ∷ g 1 ∷ g 2 ∷ g 3 ∷ g 4 ∷ g 5 ∷ g 6 ∷ t) a

pub writes_back : WritesBack
writes_back bs r small e =
    let p = found bs r e in
    ap (λ x. bytes_of x ++ drop 15 bs) (sym p.fields)
    ∙ ap (λ m. m ++ drop 15 bs) (bytes_again p.kind bs small p.mark ∙ sym (front_spread 15 bs p.long))
    ∙ take-append-drop 15 bs
