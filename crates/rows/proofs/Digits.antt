-- Bytes of a number, high byte first, put together again and taken apart again.
use Rattle.std.proofs.Common.{◌≡◌, ℕ, zero, suc, ◌+◌, ◌*◌, ◌/◌, ◌%◌, ◌^◌, ◌<◌, ◌≤◌, List, [], ◌∷◌, ◌++◌, map, length, get_or, take, sym, refl, ap, ◌∙◌, add-one, arith}
use Rattle.std.specs.List.{range_with_len}
use Rattle.std.proofs.lemmas.List.FromFn.{map-range_with_len_more}
use Rattle.std.proofs.lemmas.List.{take_more}
use Rattle.rows.specs.Format.{eight, eight_bytes}

pub eight-back : (x : ℕ) → x < 2 ^ 64 → eight (x / 72057594037927936 % 256) (x / 281474976710656 % 256) (x / 1099511627776 % 256) (x / 4294967296 % 256) (x / 16777216 % 256) (x / 65536 % 256) (x / 256 % 256) (x % 256) ≡ x
eight-back x h = omega arith

pub eight_again : (a b c d e f g h : ℕ) → a < 256 → b < 256 → c < 256 → d < 256 → e < 256 → f < 256 → g < 256 → h < 256 → eight_bytes (eight a b c d e f g h) ≡ a ∷ b ∷ c ∷ d ∷ e ∷ f ∷ g ∷ h ∷ []
eight_again a b c d e f g h p q r s t u v w =
    let n : ℕ = eight a b c d e f g h in
    let d0 : n / 72057594037927936 % 256 ≡ a = omega arith in
    let d1 : n / 281474976710656 % 256 ≡ b = omega arith in
    let d2 : n / 1099511627776 % 256 ≡ c = omega arith in
    let d3 : n / 4294967296 % 256 ≡ d = omega arith in
    let d4 : n / 16777216 % 256 ≡ e = omega arith in
    let d5 : n / 65536 % 256 ≡ f = omega arith in
    let d6 : n / 256 % 256 ≡ g = omega arith in
    let d7 : n % 256 ≡ h = omega arith in
    cc

pub eight-small : (a b c d e f g h : ℕ) → a < 256 → b < 256 → c < 256 → d < 256 → e < 256 → f < 256 → g < 256 → h < 256 → eight a b c d e f g h < 2 ^ 64
eight-small a b c d e f g h p q r s t u v w = omega arith

pub two_back : (d : ℕ) → d ≤ 60000 → (d / 256 % 256) * 256 + d % 256 ≡ d
two_back d h = omega arith

pub two_again : (a b : ℕ) → a < 256 → b < 256 → ((a * 256 + b) / 256 % 256 ≡ a) × ((a * 256 + b) % 256 ≡ b)
two_again a b p q = (omega arith, omega arith)

-- the first n elements, one by one
pub front_spread : (n : ℕ) (bs : List ℕ) → n ≤ length bs → take n bs ≡ map (λ i. get_or bs i 0) (range_with_len 0 n)
front_spread zero bs h = refl
front_spread (suc n) bs h =
    let one : n + 1 ≡ suc n = add-one n in
    ap (λ k. take k bs) (sym one)
    ∙ take_more bs n 0 (omega arith)
    ∙ ap (λ t. t ++ get_or bs n 0 ∷ []) (front_spread n bs (omega arith))
    ∙ sym (map-range_with_len_more (λ i. get_or bs i 0) 0 n n (omega arith))
    ∙ ap (λ k. map (λ i. get_or bs i 0) (range_with_len 0 k)) one
