use Rattle.std.proofs.Common.{◌≡◌, ◌==◌, sym, ◌∙◌, rules, arith, false-eqb}
use Rattle.std.specs.List.{position}
use Rattle.std.proofs.lemmas.Iterator.{YieldsList-from_slice}
use Rattle.std.proofs.lemmas.Iterator.Search.{position_from_yields_List}
use borrow.Author.Tests.{tests}
use Rattle.nookplover.proofs.Lines.{last_line, taken_line, rest_of_text}
use Rattle.nookplover.proofs.scan.LinesIterator.next.Goals as goal

pub returns-in_default-clause-steps : goal.returns-in_default-clause-steps
returns-in_default-clause-steps c =
    let text = c.args.self.now.0.now in
    let place : c.position.result ≡ position (λ b. b == 10) text = position_from_yields_List (λ b. b == 10) _ _ c.position.result c.position.ensures.ran (YieldsList-from_slice _ c.iter.ensures.rest) (λ x b q k. search (rules, tests)) in
    let last = last_line text (sym place ∙ c.in_default.is) in
    (omega (arith, false-eqb _ 0 c.if-is_empty.ensures), last.0, last.1)

pub returns-clause-steps : goal.returns-clause-steps
returns-clause-steps c =
    let text = c.args.self.now.0.now in
    let place : c.position.result ≡ position (λ b. b == 10) text = position_from_yields_List (λ b. b == 10) _ _ c.position.result c.position.ensures.ran (YieldsList-from_slice _ c.iter.ensures.rest) (λ x b q k. search (rules, tests)) in
    let ends = sym place ∙ c.in-Some.is in
    (omega (arith, false-eqb _ 0 c.if-is_empty.ensures), c.without_return.ensures ∙ taken_line text c.in-Some.end ends, rest_of_text text c.in-Some.end ends)
