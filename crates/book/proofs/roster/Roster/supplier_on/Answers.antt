use Rattle.book.proofs.Latest.{last_decides}
use Rattle.book.proofs.roster.Roster.supplier_on.Goals as goal

pub returns-clause-last : goal.returns-clause-last
returns-clause-last c = last_decides
