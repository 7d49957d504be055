use Rattle.std.proofs.Common.{arith}
use Rattle.book.proofs.Fronts.{front_more, front_ends, front_whole}
use Rattle.book.proofs.sheet.rising_front.Goals as goal

pub returns-then-not-is_above : goal.returns-then-not-is_above
returns-then-not-is_above g c =
    front_ends g.L.Accounted.account_of c.args.lines.now c.loop-i.before c.loop-i.i c.account-account.result _ c.index-lines-i.result
    c.loop-i-test.true c.index-lines-i.is c.account-account.ensures c.if-not-is_above.ensures c.loop-i.invariant

pub loop-i-preserved : goal.loop-i-preserved
loop-i-preserved g c =
    front_more g.L.Accounted.account_of c.args.lines.now c.loop-i.before c.loop-i.i c.account-account.result _ c.index-lines-i.result
    c.loop-i-test.true c.index-lines-i.is c.account-account.ensures c.if-not-is_above.ensures c.loop-i.invariant

pub returns : goal.returns
returns g c = front_whole g.L.Accounted.account_of c.args.lines.now c.loop-i.before c.loop-i.i _ (omega arith) c.loop-i.invariant
