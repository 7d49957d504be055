use Rattle.book.proofs.Rises.{days_rise}
use Rattle.book.proofs.opening.Book.new.Goals as goal

pub returns-clause-rising : goal.returns-clause-rising
returns-clause-rising c = days_rise
