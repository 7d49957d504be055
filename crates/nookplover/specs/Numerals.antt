-- Numbers and bytes as a journal writes them.
use Rattle.std.specs.Prelude.{ℕ, ◌+◌, ◌-◌, ◌*◌, ◌/◌, ◌%◌, cond, not, ◌&&◌, List, [], ◌∷◌, length, Some, None, Option, ◌==◌, nat_le, nat_lt}
use Rattle.std.specs.List.{flat_map}
use Rattle.std.specs.Str.{all_ascii_digits}

-- the number that digits write after those that gave n
abbrev pub read_on : ℕ → List ℕ → ℕ
read_on n [] = n
read_on n (c ∷ cs) = read_on (n * 10 + (c - 48)) cs

-- one or more digits, and no more than 4294967295
abbrev pub number_in : List ℕ → Option ℕ
number_in w = cond (not (length w == 0) && (all_ascii_digits w && nat_le (read_on 0 w) 4294967295)) (Some (read_on 0 w)) None

-- the value of a hexadecimal digit: 0 to 9, A to F, a to f
abbrev pub hex_value : ℕ → Option ℕ
hex_value b = cond (nat_le 48 b && nat_le b 57) (Some (b - 48)) (cond (nat_le 65 b && nat_le b 70) (Some (b - 65 + 10)) (cond (nat_le 97 b && nat_le b 102) (Some (b - 97 + 10)) None))

abbrev pub paired : Option ℕ → Option ℕ → Option ℕ
paired None low = None
paired (Some h) None = None
paired (Some h) (Some l) = Some (h * 16 + l)

-- the byte that two digits write
abbrev pub byte_pair : ℕ → ℕ → Option ℕ
byte_pair high low = paired (hex_value high) (hex_value low)

abbrev pub then_bytes : Option ℕ → Option (List ℕ) → Option (List ℕ)
then_bytes None rest = None
then_bytes (Some b) None = None
then_bytes (Some b) (Some bs) = Some (b ∷ bs)

-- the bytes that pairs of digits write
abbrev pub bytes_in : List ℕ → Option (List ℕ)
bytes_in [] = Some []
bytes_in (high ∷ []) = None
bytes_in (high ∷ low ∷ rest) = then_bytes (byte_pair high low) (bytes_in rest)

-- the digit of a value below 16, in capitals
abbrev pub hex_digit : ℕ → ℕ
hex_digit n = cond (nat_lt n 10) (48 + n) (65 + (n - 10))

abbrev pub hex_pair : ℕ → List ℕ
hex_pair b = hex_digit (b / 16) ∷ hex_digit (b % 16) ∷ []

abbrev pub hex_of : List ℕ → List ℕ
hex_of bs = flat_map hex_pair bs
