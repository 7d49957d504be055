use Rattle.rules.proofs.Figured.{not_based}
use Rattle.rules.proofs.peaks.PeakLine.checked.Goals as goal

pub returns-in_err-loss : goal.returns-in_err-loss
returns-in_err-loss c = not_based c.args.self.now c.from_residual.result c.in_err-loss.field-0.0 c.in_err-loss.ensures c.from_residual.ensures.1
