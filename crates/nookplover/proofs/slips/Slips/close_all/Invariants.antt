use Rattle.std.proofs.Common.{vec_len}
use Rattle.nookplover.proofs.slips.Slips.close_all.Given as goal

abbrev pub decreases-loop-place : goal.decreases-loop-place
decreases-loop-place l = vec_len l.places
