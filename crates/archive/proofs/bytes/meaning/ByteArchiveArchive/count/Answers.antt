use Rattle.std.proofs.Common.{sym, arith}
use Rattle.archive.proofs.Packing.{rows_in-lawful}
use Rattle.archive.proofs.bytes.meaning.ByteArchiveArchive.count.Goals as goal

pub returns : goal.returns
returns c =
    record { answer = sym c.args.self.now.whole; lawful = rows_in-lawful c.args.self.now.used c.args.self.now.memory.now; few = omega (arith, c.args.self.now.whole, c.args.self.now.few) }
