-- The lines of a listing, and how long they are.
use Rattle.std.proofs.Common.{◌≡◌, ℕ, zero, suc, ◌+◌, ◌<◌, ◌≤◌, List, [], ◌∷◌, ◌++◌, length, get_or, take, ℤ, pos, negsuc, nat_abs, decimal, sym, refl, ap, ◌∙◌, arith, w64, of_z}
use Rattle.std.specs.Fmt.{signed_decimal}
use Rattle.std.proofs.lemmas.Fmt.{length-decimal-le, length_signed_le}
use Rattle.std.proofs.lemmas.List.{length-append, append_assoc, append-nil, take_more, length-take-le}
use Rattle.archive.specs.Listing.{supplier_line, supplier_lines}

pub line_is : (s : ℕ) (z : ℤ) → (of_z w64 z ≡ 0 → ⊥) → supplier_line s z ≡ decimal s ++ (32 ∷ (signed_decimal z ++ 10 ∷ []))
line_is s (pos zero) e = absurd (e refl)
line_is s (pos (suc n)) e = refl
line_is s (negsuc n) e = refl

length_line : (s : ℕ) (z : ℤ) → length (decimal s ++ (32 ∷ (signed_decimal z ++ 10 ∷ []))) ≡ length (decimal s) + 1 + length (signed_decimal z) + 1
length_line s z = simp length-append (omega arith)

pub length_signed_small : (z : ℤ) → nat_abs z ≤ 3000000000000000 → length (signed_decimal z) ≤ 17
length_signed_small (pos n) h = length_signed_le 16 (pos n) (omega arith) (omega arith)
length_signed_small (negsuc n) h = length_signed_le 16 (negsuc n) (omega arith) (omega arith)

pub length_line_le : (s : ℕ) (z : ℤ) → s ≤ 32 → nat_abs z ≤ 3000000000000000 → length (supplier_line s z) ≤ 21
length_line_le s (pos zero) h l = omega arith
length_line_le s (pos (suc n)) h l = omega (arith, length_line s (pos (suc n)), length_signed_small (pos (suc n)) l, length-decimal-le 2 s (omega arith) (omega arith) (omega arith))
length_line_le s (negsuc n) h l = omega (arith, length_line s (negsuc n), length_signed_small (negsuc n) l, length-decimal-le 2 s (omega arith) (omega arith) (omega arith))

pub lines_push : (s : ℕ) (zs : List ℤ) (z : ℤ) → supplier_lines s (zs ++ z ∷ []) ≡ supplier_lines s zs ++ supplier_line (s + length zs) z
lines_push s [] z = append-nil (supplier_line s z) ∙ ap (λ n. supplier_line n z) (let e : s ≡ s + 0 = omega arith in e)
lines_push s (x ∷ xs) z =
    ap (λ t. supplier_line s x ++ t) (lines_push (s + 1) xs z)
    ∙ sym (append_assoc (supplier_line s x) (supplier_lines (s + 1) xs) (supplier_line (s + 1 + length xs) z))
    ∙ ap (λ n. (supplier_line s x ++ supplier_lines (s + 1) xs) ++ supplier_line n z) (let e : s + 1 + length xs ≡ s + suc (length xs) = omega arith in e)

-- one supplier more
pub lines_more : (zs : List ℤ) (i : ℕ) → i < length zs → supplier_lines 1 (take (i + 1) zs) ≡ supplier_lines 1 (take i zs) ++ supplier_line (i + 1) (get_or zs i (pos 0))
lines_more zs i l =
    ap (supplier_lines 1) (take_more zs i (pos 0) l)
    ∙ lines_push 1 (take i zs) (get_or zs i (pos 0))
    ∙ ap (λ n. supplier_lines 1 (take i zs) ++ supplier_line n (get_or zs i (pos 0))) (let e : 1 + length (take i zs) ≡ i + 1 = omega (arith, length-take-le i zs (omega arith)) in e)
