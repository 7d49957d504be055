-- What an archive means: its rows, in the order in which they came, and its count of free places.
use Rattle.std.specs.Prelude.{ℕ, ◌-◌, cond, List, [], ◌∷◌, ◌++◌, Ok, Err, Result, ◌==◌}
use Rattle.refusals.specs.declared.Refusal.{Refusal}
use Rattle.refusals.specs.declared.Cause.{Cause}
use Rattle.refusals.specs.declared.Cause.TheVariants.{ArchiveFull, UnlawfulRow}
use Rattle.refusals.specs.declared.Layer.TheVariants.{Archive}
use Rattle.refusals.specs.Numbers.{refusal}
use Rattle.rows.specs.declared.Row.{Row}
use Rattle.rows.specs.Lawful.{lawful}

pub record Contents : Type 0 where
  pub rows : List Row
  pub free : ℕ

abbrev pub contents : List Row → ℕ → Contents
contents rows free = record { rows = rows; free = free }

-- a refusal of the archive
abbrev pub refusing : Cause → ℕ → Refusal
refusing cause place = refusal cause Archive place

-- what append answers
abbrev pub appending : Contents → Row → Result (Unit {0}) Refusal
appending c row = cond (lawful row) (cond (c.free == 0) (Err (refusing ArchiveFull 0)) (Ok tt)) (Err (refusing UnlawfulRow 0))

-- what a call that answered r left: the new state if it was accepted, else the old one
abbrev pub kept : {X S : Type 0} → Result X Refusal → S → S → S
kept (Ok x) new old = new
kept (Err e) new old = old

-- the archive once append has answered
abbrev pub appended : Contents → Row → Contents
appended c row = kept (appending c row) (contents (c.rows ++ row ∷ []) (c.free - 1)) c
