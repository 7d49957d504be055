-- Enrol, switch and drop: what each answers, from the last opened day and the roster that it meets.
use Rattle.std.specs.Prelude.{◌≡◌, ℕ, Bool, true, not, ◌&&◌, List, [], ◌∷◌, ◌++◌, length, drop, Some, None, Ok, Err, Option, Result, ◌==◌, nat_lt}
use Rattle.refusals.specs.declared.Cause.TheVariants.{OutOfRange, RosterFull, AlreadyServed, NotServed, SameSupplier, NotAfterLastEntry, NotAfterLastOpened}
use Rattle.refusals.specs.declared.Refusal.{Refusal}
use Rattle.book.specs.declared.roster.Entry.{Entry}
use Rattle.book.specs.Ranges.{are_dated, are_terms, unless}
use Rattle.book.specs.Entries.{Roll, entry, added, last_entry, supplier_in}

-- a place is left: the memory goes on after the entries, and fewer than 65,536 are used
abbrev pub has_place : Roll → Bool
has_place roll = nat_lt (length roll.entries) 65536 && nat_lt 0 (length roll.beyond)

-- the checks that come first: the figures are within their ranges, and a place is left
abbrev pub admitting : Roll → Bool → Result (Unit {0}) Refusal → Result (Unit {0}) Refusal
admitting roll ranged next = unless ranged OutOfRange (unless (has_place roll) RosterFull next)

-- the account's last entry
abbrev pub last_of : ℕ → Roll → Option Entry
last_of account roll = last_entry account None roll.entries

-- an account is served if its last entry has a supplier
abbrev pub is_served : ℕ → Roll → Bool
is_served account roll = not (supplier_in (last_of account roll) == 0)

-- the from-day is after that of an entry, if there is one
abbrev pub is_after : Option Entry → ℕ → Bool
is_after None from = true
is_after (Some e) from = nat_lt e.from_day from

-- the last two checks: the from-day against the account's last entry, then against the last opened day
abbrev pub timing : ℕ → Option Entry → ℕ → Result (Unit {0}) Refusal
timing opened last from =
    unless (is_after last from) NotAfterLastEntry
    (unless (nat_lt opened from) NotAfterLastOpened
    (Ok tt))

abbrev pub enrolling : ℕ → Roll → ℕ → ℕ → ℕ → Result (Unit {0}) Refusal
enrolling opened roll account from supplier =
    admitting roll (are_terms account from supplier)
    (unless (not (is_served account roll)) AlreadyServed
    (timing opened (last_of account roll) from))

abbrev pub switching : ℕ → Roll → ℕ → ℕ → ℕ → Result (Unit {0}) Refusal
switching opened roll account from supplier =
    admitting roll (are_terms account from supplier)
    (unless (is_served account roll) NotServed
    (unless (not (supplier_in (last_of account roll) == supplier)) SameSupplier
    (timing opened (last_of account roll) from)))

abbrev pub dropping : ℕ → Roll → ℕ → ℕ → Result (Unit {0}) Refusal
dropping opened roll account from =
    admitting roll (are_dated account from)
    (unless (is_served account roll) NotServed
    (timing opened (last_of account roll) from))

-- what is so after a call: the new where it was accepted, the old where it was refused
abbrev pub if_ok : {X : Type 0} → Result (Unit {0}) Refusal → X → X → X
if_ok (Ok done) new old = new
if_ok (Err refusal) new old = old

-- A roster call with the day that was last opened when it was made.
pub data RosterCall : Type 0 where
  to_enrol : ℕ → ℕ → ℕ → ℕ → RosterCall
  to_switch : ℕ → ℕ → ℕ → ℕ → RosterCall
  to_drop : ℕ → ℕ → ℕ → RosterCall

abbrev pub answer_to : Roll → RosterCall → Result (Unit {0}) Refusal
answer_to roll (to_enrol opened account from supplier) = enrolling opened roll account from supplier
answer_to roll (to_switch opened account from supplier) = switching opened roll account from supplier
answer_to roll (to_drop opened account from) = dropping opened roll account from

abbrev pub entry_asked : RosterCall → Entry
entry_asked (to_enrol opened account from supplier) = entry account from supplier
entry_asked (to_switch opened account from supplier) = entry account from supplier
entry_asked (to_drop opened account from) = entry account from 0

abbrev pub after_call : Roll → RosterCall → Roll
after_call roll call = if_ok (answer_to roll call) (added roll (entry_asked call)) roll

abbrev pub after_calls : Roll → List RosterCall → Roll
after_calls roll [] = roll
after_calls roll (call ∷ calls) = after_calls (after_call roll call) calls

-- the entries of the calls that were accepted, in their order
abbrev pub accepted_entries : Roll → List RosterCall → List Entry
accepted_entries roll [] = []
accepted_entries roll (call ∷ calls) =
    if_ok (answer_to roll call) (entry_asked call ∷ []) [] ++ accepted_entries (after_call roll call) calls

-- Whatever calls are made, the entries before them stay as they were; behind them stands one entry for each
-- accepted call; and the memory behind these is as it was.
pub record EntriesStay : Type 0 where
  pub only_added : (roll : Roll) (calls : List RosterCall) → (after_calls roll calls).entries ≡ roll.entries ++ accepted_entries roll calls
  pub untouched : (roll : Roll) (calls : List RosterCall) → (after_calls roll calls).beyond ≡ drop (length (accepted_entries roll calls)) roll.beyond
