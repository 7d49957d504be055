-- A total on its way to the lines of a group.
use Rattle.std.specs.Prelude.{ℕ, List, map}
use Rattle.rules.specs.declared.pots.Pot.{Pot}
use Rattle.rules.specs.Shares.{shares_after, plus}

-- what lines of the weights ws receive, where they are next
abbrev pub left : Pot → List ℕ → List ℕ
left p ws = shares_after p.total p.whole p.served ws

-- what the lines ls, which weigh f and s in the two groups, receive where they are next
abbrev pub left_of_both : {L : Type 0} → (L → ℕ) → (L → ℕ) → Pot → Pot → List L → List ℕ
left_of_both f s p q ls = plus (left p (map f ls)) (left q (map s ls))
