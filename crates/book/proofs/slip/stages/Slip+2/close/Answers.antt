use Rattle.std.proofs.Common.{ap, ◌∙◌, arith}
use Rattle.book.specs.Slips.{closing}
use Rattle.book.proofs.Marks.{unsettled_is}
use Rattle.book.proofs.slip.stages.Slip+2.close.Goals as goal

pub returns-clause-answer : goal.returns-clause-answer
returns-clause-answer c = unsettled_is c.self.inside.settled c.self.inside.hours c.self.invariant.within (omega (arith, c.self.invariant.timed)) ∙ ap closing c.self.view_is
