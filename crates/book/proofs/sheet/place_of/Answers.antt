use Rattle.std.proofs.Common.{arith}
use Rattle.book.proofs.Searching.{halved_start, searched_found, searched_up, searched_down}
use Rattle.book.proofs.sheet.place_of.Goals as goal

pub loop-low-init : goal.loop-low-init
loop-low-init g c = halved_start g.L.Accounted.account_of c.args.lines.now c.args.account

pub returns-then-there-account : goal.returns-then-there-account
returns-then-there-account g c =
    searched_found g.L.Accounted.account_of c.args.lines.now c.args.account c.loop-low.low c.loop-low.high _ c.account-there.result c.index-lines-middle.result
    c.loop-low.invariant (omega arith) c.index-lines-middle.is c.account-there.ensures c.if-there-account.true

pub loop-low-preserved-then-there-account-2 : goal.loop-low-preserved-then-there-account-2
loop-low-preserved-then-there-account-2 g c =
    searched_up g.L.Accounted.account_of c.args.lines.now c.args.account c.loop-low.low c.loop-low.high _ c.account-there.result c.index-lines-middle.result
    c.loop-low.invariant (omega arith) c.index-lines-middle.is c.account-there.ensures c.requires (omega arith) c.if-there-account-2.true

pub loop-low-preserved : goal.loop-low-preserved
loop-low-preserved g c =
    searched_down g.L.Accounted.account_of c.args.lines.now c.args.account c.loop-low.low c.loop-low.high _ c.account-there.result c.index-lines-middle.result
    c.loop-low.invariant (omega arith) c.index-lines-middle.is c.account-there.ensures c.requires (omega arith) (omega arith)
