-- Sharing a total over lines by their weights, and two totals over one sheet, each by its own group's weights.
use Rattle.std.specs.Prelude.{◌≡◌, ℕ, ◌+◌, ◌-◌, ◌*◌, ◌/◌, ◌<◌, cond, ◌&&◌, ◌⊎◌, List, [], ◌∷◌, ◌++◌, map, length, drop, Ok, Err, sum, Result, nat_le, slice_index}
use Rattle.refusals.specs.declared.Refusal.{Refusal}
use Rattle.refusals.specs.declared.Cause.TheVariants.{OutOfRange, ListTooShort, LoadsTooHigh}
use Rattle.refusals.specs.declared.Layer.TheVariants.{Sheet, Sharing}
use Rattle.refusals.specs.Numbers.{refusal}
use Rattle.rules.specs.Ranges.{most}

-- What lines of weight c in all receive of the total g, where all weights sum to w: g × c / w rounded down, and 0 if w is 0.
abbrev pub up_to : ℕ → ℕ → ℕ → ℕ
up_to g w c = g * c / w

-- the shares of lines that follow lines of weight c in all
abbrev pub shares_after : ℕ → ℕ → ℕ → List ℕ → List ℕ
shares_after g w c [] = []
shares_after g w c (x ∷ xs) = (up_to g w (c + x) - up_to g w c) ∷ shares_after g w (c + x) xs

-- Line k receives g × (w1 + … + wk) / W rounded down, less g × (w1 + … + w(k−1)) / W rounded down; W is the sum of the weights.
abbrev pub shares : ℕ → List ℕ → List ℕ
shares g ws = shares_after g (sum ws) 0 ws

-- place by place
abbrev pub plus : List ℕ → List ℕ → List ℕ
plus [] ys = []
plus (x ∷ xs) [] = []
plus (x ∷ xs) (y ∷ ys) = (x + y) ∷ plus xs ys

-- A line weighs in one group and has weight 0 in the other, of which it receives nothing: what it receives is the sum.
abbrev pub finals : ℕ → ℕ → List ℕ → List ℕ → List ℕ
finals g h ws vs = plus (shares g ws) (shares h vs)

-- the weights of the two groups, which together may not be above the most
abbrev pub weighed : List ℕ → List ℕ → Result (ℕ × ℕ) Refusal
weighed ws vs = cond (nat_le (sum ws + sum vs) most) (Ok (sum ws, sum vs)) (Err (refusal LoadsTooHigh Sharing 0))

abbrev pub if_weighed : Result (ℕ × ℕ) Refusal → Result (Unit {0}) Refusal
if_weighed (Ok t) = Ok tt
if_weighed (Err e) = Err e

-- What sharing answers: totals in range, then a place in the list for each line, then the weights.
abbrev pub sharing : ℕ → ℕ → List ℕ → List ℕ → ℕ → Result (Unit {0}) Refusal
sharing g h ws vs room =
    cond (nat_le g most && nat_le h most) (cond (nat_le (length ws) room) (if_weighed (weighed ws vs)) (Err (refusal ListTooShort Sheet 0))) (Err (refusal OutOfRange Sheet 0))

-- x, unless sharing is refused
abbrev pub unless_refused : {X : Type 0} → Result (Unit {0}) Refusal → X → Result X Refusal
unless_refused (Ok t) x = Ok x
unless_refused (Err e) x = Err e

abbrev pub if_shared : {X : Type 0} → Result (Unit {0}) Refusal → X → X → X
if_shared (Ok t) new old = new
if_shared (Err e) new old = old

-- the list afterwards: what each line receives, and then what it had; if refused, all as it was
abbrev pub shared : {X : Type 0} → (ℕ → X) → ℕ → ℕ → List ℕ → List ℕ → List X → List X
shared amount g h ws vs list = if_shared (sharing g h ws vs (length list)) (map amount (finals g h ws vs) ++ drop (length ws) list) list

-- All that is shared arrives; nothing, where there is no weight.
abbrev pub SharesAddUp : Type 0
SharesAddUp = (g : ℕ) (ws : List ℕ) → (0 < sum ws → sum (shares g ws) ≡ g) × (sum ws ≡ 0 → sum (shares g ws) ≡ 0)

-- The share s of a line of weight x is less than one unit from g × x / w.
pub record Near (g w x s : ℕ) : Type 0 where
  pub below : s * w < g * x + w
  pub above : g * x < s * w + w

abbrev pub SharesAreNear : Type 0
SharesAreNear = (g : ℕ) (ws : List ℕ) (k : ℕ) → k < length ws → Near g (sum ws) (slice_index ws k) (slice_index (shares g ws) k) ⊎ ((sum ws ≡ 0) × (slice_index (shares g ws) k ≡ 0))

-- A line receives its share of its own group's total, and no more.
abbrev pub OwnGroupOnly : Type 0
OwnGroupOnly =
    (g h : ℕ) (ws vs : List ℕ) (k : ℕ) → length ws ≡ length vs →
    (slice_index vs k ≡ 0 → slice_index (finals g h ws vs) k ≡ slice_index (shares g ws) k) × (slice_index ws k ≡ 0 → slice_index (finals g h ws vs) k ≡ slice_index (shares h vs) k)

-- Both totals arrive.
abbrev pub FinalsAddUp : Type 0
FinalsAddUp = (g h : ℕ) (ws vs : List ℕ) → length ws ≡ length vs → sum (finals g h ws vs) ≡ sum (shares g ws) + sum (shares h vs)

-- Where only the first group has weight, the lines receive the shares of the first total.
abbrev pub OneGroup : Type 0
OneGroup = (g h : ℕ) (ws vs : List ℕ) → length ws ≡ length vs → sum vs ≡ 0 → finals g h ws vs ≡ shares g ws

pub record SharingLaws : Type 0 where
  pub adds_up : SharesAddUp
  pub near : SharesAreNear
  pub own_group : OwnGroupOnly
  pub finals : FinalsAddUp
  pub one_group : OneGroup
