use Rattle.rules.specs.Bases.{bare}
use Rattle.rules.proofs.Figured.{weighs}
use Rattle.rules.proofs.peaks.PeakLine.weighed.Goals as goal

pub returns : goal.returns
returns c =
    weighs c.args.self.now c.in_ok-loss.loss.value (bare c.in_ok-loss.basis) c.average_load.result c.in_ok-loss.ensures c.in_ok-in_ratio.ensures c.average_load.ensures
