-- Bytes read from pairs of digits.
use Rattle.std.proofs.Common.{◌≡◌, ℕ, ◌≤◌, List, [], ◌∷◌, ◌++◌, length, get_or, drop, Some, None, Option, sym, refl, ap, ◌∙◌, append_assoc, arith}
use Rattle.nookplover.specs.Numerals.{byte_pair, then_bytes, bytes_in}

-- bytes before those that were read
abbrev pub prepended : List ℕ → Option (List ℕ) → Option (List ℕ)
prepended bs None = None
prepended bs (Some more) = Some (bs ++ more)

prepended_byte : (bs : List ℕ) (b : ℕ) (o : Option (List ℕ)) → prepended bs (then_bytes (Some b) o) ≡ prepended (bs ++ b ∷ []) o
prepended_byte bs b None = refl
prepended_byte bs b (Some more) = ap Some (sym (append_assoc bs (b ∷ []) more))

pub pair_first : (rest : List ℕ) → 2 ≤ length rest → bytes_in rest ≡ then_bytes (byte_pair (get_or rest 0 0) (get_or rest 1 0)) (bytes_in (drop 2 rest))
pair_first [] h = absurd (omega arith)
pair_first (a ∷ []) h = absurd (omega arith)
pair_first (a ∷ b ∷ rest) h = refl

-- a byte more
pub one_byte : (bs rest : List ℕ) (b : ℕ) → 2 ≤ length rest → byte_pair (get_or rest 0 0) (get_or rest 1 0) ≡ Some b → prepended bs (bytes_in rest) ≡ prepended (bs ++ b ∷ []) (bytes_in (drop 2 rest))
one_byte bs rest b long e =
    ap (prepended bs) (pair_first rest long ∙ ap (λ o. then_bytes o (bytes_in (drop 2 rest))) e) ∙ prepended_byte bs b (bytes_in (drop 2 rest))
