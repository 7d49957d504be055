-- The roster's entries, and the supplier that they tell.
use Rattle.std.specs.Prelude.{◌≡◌, ℕ, zero, suc, Bool, true, false, cond, ◌&&◌, List, [], ◌∷◌, ◌++◌, drop, Some, None, fold, Option, ◌==◌, nat_le}
use Rattle.std.specs.List.{AllByRecursion}
use Rattle.book.specs.declared.roster.Entry.{Entry}
use Rattle.book.specs.Ranges.{is_supplier}

-- a roster: its entries, of any content, and what the user's memory holds after them
pub record Roll : Type 0 where
  pub entries : List Entry
  pub beyond : List Entry

abbrev pub empty_roll : List Entry → Roll
empty_roll memory = record { entries = []; beyond = memory }

abbrev pub entry : ℕ → ℕ → ℕ → Entry
entry account from supplier = record { account = account; from_day = from; supplier = supplier }

-- one entry more, put last, in the first place of the memory after the entries
abbrev pub added : Roll → Entry → Roll
added roll e = record { entries = roll.entries ++ e ∷ []; beyond = drop 1 roll.beyond }

-- an entry of the account; if a day is given, one whose from-day is not after it
abbrev pub concerns : ℕ → Option ℕ → Entry → Bool
concerns account None e = e.account == account
concerns account (Some day) e = e.account == account && nat_le e.from_day day

-- the last of these in the list
abbrev pub last_entry : ℕ → Option ℕ → List Entry → Option Entry
last_entry account by entries = fold (λ found e. cond (concerns account by e) (Some e) found) None entries

-- the supplier that an entry names, or 0 for nobody
abbrev pub supplier_in : Option Entry → ℕ
supplier_in None = 0
supplier_in (Some e) = cond (is_supplier e.supplier) e.supplier 0

-- the supplier of an account on a day, or 0 for nobody
abbrev pub supplier_on : ℕ → ℕ → List Entry → ℕ
supplier_on account day entries = supplier_in (last_entry account (Some day) entries)

-- the supplier, if it is not nobody
abbrev pub somebody : ℕ → Option ℕ
somebody zero = None
somebody (suc n) = Some (suc n)

-- none of the entries is one of the account by that day
abbrev pub NoneOf : ℕ → Option ℕ → List Entry → Type 0
NoneOf account by entries = AllByRecursion (λ e. concerns account by e ≡ false) entries

-- What the last entry is, whatever the entries: one that fits and has none behind it that fits; there is none where none fits.
pub record LastDecides : Type 0 where
  pub last : (account : ℕ) (by : Option ℕ) (before after : List Entry) (e : Entry) → concerns account by e ≡ true → NoneOf account by after
      → last_entry account by (before ++ e ∷ after) ≡ Some e
  pub absent : (account : ℕ) (by : Option ℕ) (entries : List Entry) → NoneOf account by entries → last_entry account by entries ≡ None
