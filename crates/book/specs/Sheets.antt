-- The suppliers of a sheet's lines.
use Rattle.std.specs.Prelude.{ℕ, suc, min, Bool, true, cond, List, [], ◌∷◌, ◌++◌, map, length, take, drop, Some, None, Option, nat_lt}
use Rattle.book.specs.declared.roster.Entry.{Entry}
use Rattle.book.specs.Entries.{supplier_on}

-- an account above that of the line before, if there is one
abbrev pub is_above : Option ℕ → ℕ → Bool
is_above None account = true
is_above (Some before) account = nat_lt before account

-- how many accounts there are before the first that is not above the one before it
abbrev pub rising_after : Option ℕ → List ℕ → ℕ
rising_after before [] = 0
rising_after before (account ∷ accounts) = cond (is_above before account) (suc (rising_after (Some account) accounts)) 0

abbrev pub rising_front : List ℕ → ℕ
rising_front accounts = rising_after None accounts

-- the supplier of each account on a day, 0 for nobody
abbrev pub suppliers_on : ℕ → List Entry → List ℕ → List ℕ
suppliers_on day entries accounts = map (λ account. supplier_on account day entries) accounts

-- a table holds the suppliers of the lines before the first that is not above the one before, as far as it reaches
abbrev pub lines_told : List ℕ → List ℕ → ℕ
lines_told accounts table = min (rising_front accounts) (length table)

-- the table then: what it holds beyond these lines stays
abbrev pub table_on : ℕ → List Entry → List ℕ → List ℕ → List ℕ
table_on day entries accounts table =
    suppliers_on day entries (take (lines_told accounts table) accounts) ++ drop (lines_told accounts table) table
