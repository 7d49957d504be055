use Rattle.std.proofs.Common.{◌≡◌, true, ◌&&◌, ltb, length, sym, ap, ◌∙◌}
use Rattle.std.proofs.lemmas.Bool.{lt-ltb}
use Rattle.book.specs.Calls.{has_place}
use Rattle.book.proofs.Rolls.{place_at}
use Rattle.book.proofs.roster.Roster.has_place.Goals as goal

pub returns-then-self-lt-MOST-clause-answer : goal.returns-then-self-lt-MOST-clause-answer
returns-then-self-lt-MOST-clause-answer c =
    let n = c.self.inside.count in
    let memory = c.self.inside.memory.now in
    let under : ltb n 65536 ≡ true = lt-ltb n 65536 c.if-self-lt-MOST.true in
    sym (place_at n memory c.self.invariant.0 ∙ ap (λ t. t && ltb n (length memory)) under) ∙ ap has_place c.self.view_is
