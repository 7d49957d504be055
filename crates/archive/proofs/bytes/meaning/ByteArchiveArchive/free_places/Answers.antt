use Rattle.std.proofs.Common.{arith}
use Rattle.archive.proofs.Packing.{whole-fits}
use Rattle.archive.proofs.bytes.meaning.ByteArchiveArchive.free_places.Goals as goal

pub overflow_sub-result : goal.overflow_sub-result
overflow_sub-result c =
    omega (arith, whole-fits c.args.self.now.used c.args.self.now.memory.now c.args.self.now.whole)
