-- The ranges of figures, and a check that refuses.
use Rattle.std.specs.Prelude.{ℕ, Bool, cond, ◌&&◌, Err, Result, nat_le}
use Rattle.refusals.specs.declared.Cause.{Cause}
use Rattle.refusals.specs.declared.Layer.TheVariants.{Roster}
use Rattle.refusals.specs.declared.Refusal.{Refusal}
use Rattle.refusals.specs.Numbers.{refusal}

abbrev pub between : ℕ → ℕ → ℕ → Bool
between low n high = nat_le low n && nat_le n high

abbrev pub is_account : ℕ → Bool
is_account account = between 1 account 999999999

abbrev pub is_day : ℕ → Bool
is_day day = between 1 day 60000

abbrev pub is_hours : ℕ → Bool
is_hours hours = between 23 hours 25

abbrev pub is_supplier : ℕ → Bool
is_supplier supplier = between 1 supplier 32

-- account and from-day
abbrev pub are_dated : ℕ → ℕ → Bool
are_dated account from = is_account account && is_day from

-- account, from-day and supplier
abbrev pub are_terms : ℕ → ℕ → ℕ → Bool
are_terms account from supplier = is_account account && (is_day from && is_supplier supplier)

-- a check of roster or book: where it fails, the call is refused with the cause, else the checks after it decide
abbrev pub unless : {X : Type 0} → Bool → Cause → Result X Refusal → Result X Refusal
unless passes cause next = cond passes next (Err (refusal cause Roster 0))
