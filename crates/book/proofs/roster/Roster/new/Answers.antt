use Rattle.book.proofs.Rolls.{entries_stay}
use Rattle.book.proofs.roster.Roster.new.Goals as goal

pub returns-clause-stays : goal.returns-clause-stays
returns-clause-stays c = entries_stay
