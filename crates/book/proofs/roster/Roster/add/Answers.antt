use Rattle.std.proofs.Common.{ap, ◌∙◌, arith}
use Rattle.std.proofs.lemmas.List.{length-set}
use Rattle.book.specs.Entries.{added}
use Rattle.book.specs.Calls.{has_place}
use Rattle.book.proofs.Rolls.{place_parts, added_at}
use Rattle.book.proofs.roster.Roster.add.Goals as goal

pub bounds-self-inside-self-inside : goal.bounds-self-inside-self-inside
bounds-self-inside-self-inside c =
    (place_parts c.self.inside.count c.self.inside.memory.now c.self.invariant.0 (ap has_place c.self.view_is ∙ c.requires)).1

pub invariant_of-self : goal.invariant_of-self
invariant_of-self c =
    let n = c.self.inside.count in
    let memory = c.self.inside.memory.now in
    let place = place_parts n memory c.self.invariant.0 (ap has_place c.self.view_is ∙ c.requires) in
    (omega (arith, place.1, length-set memory n c.args.entry), omega (arith, place.0))

pub returns-clause-after : goal.returns-clause-after
returns-clause-after c =
    let n = c.self.inside.count in
    let memory = c.self.inside.memory.now in
    added_at n memory c.args.entry (place_parts n memory c.self.invariant.0 (ap has_place c.self.view_is ∙ c.requires)).1
    ∙ ap (λ roll. added roll c.args.entry) c.self.view_is
