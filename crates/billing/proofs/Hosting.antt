-- The host's answer, memory and output, from what take-in and the listing promise.
use Rattle.std.proofs.Common.{◌≡◌, ℕ, ◌<◌, List, [], ◌++◌, length, get_or, drop, Ok, Err, Result, sym, refl, ap, ◌∙◌}
use Rattle.refusals.specs.declared.Refusal.{Refusal}
use Rattle.archive.specs.Contents.{Contents, contents, kept}
use Rattle.archive.specs.Packed.{places, put}
use Rattle.archive.specs.Intake.{taking_in, entered}
use Rattle.archive.proofs.Again.{taken_to_front}
use Rattle.billing.specs.Host.{taking, rows_of, host_memory}

module _ (rows memory : List ℕ) where
  abbrev empty : Contents
  empty = contents [] (places (length memory))

  by_front : (a : Result ℕ Refusal) → ((i : ℕ) → get_or rows i 0 < 256) → taking rows (length memory) ≡ a → kept a (entered put memory 0 (rows_of rows)) memory ≡ kept a (rows ++ drop (length rows) memory) memory
  by_front (Ok n) small e = taken_to_front memory rows n small e
  by_front (Err f) small e = refl

  -- a is what take-in answered in an archive that held nothing
  module _ (c : Contents) (m : List ℕ) (a : Result ℕ Refusal) (none : c ≡ contents [] (places (length memory))) (same : m ≡ memory) (answer : a ≡ taking_in c rows) where
    taking_is : taking rows (length memory) ≡ a
    taking_is = sym (answer ∙ ap (λ x. taking_in x rows) none)

    pub memory_is : ((i : ℕ) → get_or rows i 0 < 256) → kept a (entered put m (length c.rows) (rows_of rows)) m ≡ host_memory rows memory
    memory_is small =
        ap (λ t. kept a (entered put t (length c.rows) (rows_of rows)) t) same
        ∙ ap (λ t. kept a (entered put memory (length t.rows) (rows_of rows)) memory) none
        ∙ by_front a small taking_is
        ∙ ap (λ x. kept x (rows ++ drop (length rows) memory) memory) (sym taking_is)
