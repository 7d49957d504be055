-- A search by halving among lines whose accounts rise.
use Rattle.std.proofs.Common.{◌≡◌, ℕ, ◌+◌, ◌<◌, ◌≤◌, List, map, length, get_or, sym, ap, ◌∙◌, ⊎_elim, arith}
use Rattle.std.proofs.lemmas.List.{get_or-map, length-map}
use Rattle.std.proofs.lemmas.Bool.{cases_order}
use Rattle.book.specs.Rising.{Rising}

module _ {X : Type 0} (f : X → ℕ) (lines : List X) (account : ℕ) where
  -- the accounts before `low` are below the one sought, those from `high` on above it
  pub record Halved (low high : ℕ) : Type 0 where
    pub ordered : low ≤ high
    pub within : high ≤ length lines
    pub below : (k : ℕ) → k < low → get_or (map f lines) k 0 < account
    pub above : (k : ℕ) → high ≤ k → k < length lines → account < get_or (map f lines) k 0

  pub halved_start : Halved 0 (length lines)
  halved_start = record { ordered = omega arith; within = omega arith; below = λ k h. absurd (omega arith); above = λ k h s. absurd (omega arith) }

  -- where nothing is left between, the account is not there
  pub halved_none : (low high : ℕ) → Halved low high → high ≤ low → (k : ℕ) → k < length lines → get_or (map f lines) k 0 ≡ account → ⊥
  halved_none low high h ends k short same =
      ⊎_elim (λ e. omega (arith, h.above k (omega arith) short))
      (⊎_elim (λ l. omega (arith, h.below k l)) (λ l. omega (arith, h.above k (omega arith) short))) (cases_order k low)

  -- One step: the account there was read off the line in the middle.
  module _ (low high middle there : ℕ) (line : X) (h : Halved low high) (to : middle < high) (is : line ≡ get_or lines middle line) (told : there ≡ f line) where
    read : there ≡ get_or (map f lines) middle 0
    read = told ∙ ap f is ∙ sym (get_or-map f lines middle line 0 (omega (arith, h.within)))

    pub searched_found : there ≡ account → (middle < length lines) × (get_or (map f lines) middle 0 ≡ account)
    searched_found same = (omega (arith, h.within), sym read ∙ same)

    module _ (rises : Rising (map f lines)) (from : low ≤ middle) where
      rise : (i j : ℕ) → i < j → j < length lines → get_or (map f lines) i 0 < get_or (map f lines) j 0
      rise i j less short = rises i j less (omega (arith, length-map lines f))

      pub searched_up : there < account → Halved (middle + 1) high
      searched_up less = record {
        ordered = omega arith;
        within = h.within;
        below = λ k s. ⊎_elim (λ e. let here = ap (λ i. get_or (map f lines) i 0) e in omega (arith, here, read))
            (⊎_elim (λ l. omega (arith, read, rise k middle l (omega (arith, h.within)))) (λ l. absurd (omega arith))) (cases_order k middle);
        above = h.above;
      }

      pub searched_down : account < there → Halved low middle
      searched_down more = record {
        ordered = from;
        within = omega (arith, h.within);
        below = h.below;
        above = λ k s short. ⊎_elim (λ e. let here = ap (λ i. get_or (map f lines) i 0) e in omega (arith, here, read))
            (⊎_elim (λ l. absurd (omega arith)) (λ l. omega (arith, read, rise middle k l short))) (cases_order k middle);
      }
