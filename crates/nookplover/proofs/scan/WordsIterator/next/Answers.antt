use Rattle.std.proofs.Common.{◌≡◌, length, unwrap_or, sym, refl, ap, ◌∙◌, rules}
use Rattle.std.specs.List.{position}
use Rattle.std.proofs.lemmas.Iterator.{YieldsList-from_slice}
use Rattle.std.proofs.lemmas.Iterator.Search.{position_from_yields_List}
use borrow.Author.Tests.{tests}
use Rattle.nookplover.specs.Words.{blank, in_word}
use Rattle.nookplover.proofs.Lines.{no_word, taken_word}
use Rattle.nookplover.proofs.scan.WordsIterator.next.Goals as goal

pub returns-in_err-start-clause-steps : goal.returns-in_err-start-clause-steps
returns-in_err-start-clause-steps c =
    let line = c.args.self.now.0.now in
    let place : c.position.result ≡ position in_word line = position_from_yields_List in_word _ _ c.position.result c.position.ensures.ran (YieldsList-from_slice _ c.iter.ensures.rest) (λ x b q k. search (rules, tests)) in
    rw c.from_residual.ensures (no_word line (sym place ∙ c.in_err-start.was), refl)

pub returns-clause-steps : goal.returns-clause-steps
returns-clause-steps c =
    let line = c.args.self.now.0.now in
    let words = c.split_at.result.1.now in
    let place : c.position.result ≡ position in_word line = position_from_yields_List in_word _ _ c.position.result c.position.ensures.ran (YieldsList-from_slice _ c.iter.ensures.rest) (λ x b q k. search (rules, tests)) in
    let end : c.position-end.result ≡ position blank words = position_from_yields_List blank _ _ c.position-end.result c.position-end.ensures.ran (YieldsList-from_slice _ c.iter-2.ensures.rest) (λ x b q k. search (rules, tests)) in
    let taken = taken_word line words c.in_ok-start.start c.unwrap_or.result (sym place ∙ c.in_ok-start.was) c.split_at.ensures.back (c.unwrap_or.ensures ∙ ap (λ o. unwrap_or o (length words)) end) in
    rw (c.split_at-2.ensures.front, c.split_at-2.ensures.back) taken
