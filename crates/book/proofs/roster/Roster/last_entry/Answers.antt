use Rattle.std.proofs.Common.{take, Some, None, sym, ap, ◌∙◌, rules, tests}
use Rattle.std.proofs.lemmas.Iterator.Search.{find_from_yields_List}
use Rattle.book.specs.Entries.{concerns, last_entry}
use Rattle.book.proofs.Latest.{last_found, last_first}
use Rattle.book.proofs.roster.Roster.last_entry.Goals as goal

pub returns-clause-answer : goal.returns-clause-answer
returns-clause-answer c =
    let entries = take c.self.inside.count c.self.inside.memory.now in
    let found = find_from_yields_List (concerns c.args.account c.args.by) (record { rest = record { ref_ptr = c.iter.result.rest.ref_ptr; now = _ } }) _ (Some c.in_ok-last.last) c.in_ok-last.ensures.ran (last_first c.iter.result entries cc) (λ x b q k. search (rules, tests)) in
    found ∙ sym (last_found c.args.account c.args.by entries) ∙ ap (λ roll. last_entry c.args.account c.args.by roll.entries) c.self.view_is

pub returns-in_err-last-clause-answer : goal.returns-in_err-last-clause-answer
returns-in_err-last-clause-answer c =
    let entries = take c.self.inside.count c.self.inside.memory.now in
    let found = find_from_yields_List (concerns c.args.account c.args.by) _ _ None c.in_err-last.ensures.ran (last_first c.iter.result entries cc) (λ x b q k. search (rules, tests)) in
    c.from_residual.ensures ∙ found ∙ sym (last_found c.args.account c.args.by entries) ∙ ap (λ roll. last_entry c.args.account c.args.by roll.entries) c.self.view_is
