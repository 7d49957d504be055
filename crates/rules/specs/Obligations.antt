-- What the lines of each supplier receive together, of suppliers 1 to 32.
use Rattle.std.specs.Prelude.{◌≡◌, ℕ, ◌+◌, ◌-◌, ◌≤◌, cond, ◌&&◌, List, [], ◌∷◌, map, length, sum, Result, ◌==◌, nat_le, slice_index, slice_set}
use Rattle.std.specs.List.{range_with_len, AllByRecursion}
use Rattle.refusals.specs.declared.Refusal.{Refusal}
use Rattle.rules.specs.Shares.{sharing, unless_refused, finals}

-- what a supplier's lines receive together: suppliers, one for each line, beside what each line receives
abbrev pub obligation : ℕ → List ℕ → List ℕ → ℕ
obligation s [] finals = 0
obligation s (x ∷ suppliers) [] = 0
obligation s (x ∷ suppliers) (f ∷ finals) = cond (x == s) f 0 + obligation s suppliers finals

-- of suppliers 1 to 32
unfoldable pub obligations : List ℕ → List ℕ → List ℕ
obligations suppliers finals = map (λ s. obligation s suppliers finals) (range_with_len 1 32)

-- What summing by supplier answers: refused as sharing is, with a supplier for each line in the place of a list.
abbrev pub obliging : ℕ → ℕ → List ℕ → List ℕ → List ℕ → Result (List ℕ) Refusal
obliging g h ws vs suppliers = unless_refused (sharing g h ws vs (length suppliers)) (obligations suppliers (finals g h ws vs))

-- the sums with a share more for supplier s, if it is one of the 32
abbrev pub added : List ℕ → ℕ → ℕ → List ℕ
added sums s share = cond (nat_le 1 s && nat_le s 32) (slice_set sums (s - 1) (slice_index sums (s - 1) + share)) sums

-- Where each line has one of the 32 suppliers, their obligations add up to what the lines receive.
abbrev pub ObligationsAddUp : Type 0
ObligationsAddUp = (suppliers finals : List ℕ) → length suppliers ≡ length finals → AllByRecursion (λ s. (1 ≤ s) × (s ≤ 32)) suppliers → sum (obligations suppliers finals) ≡ sum finals
