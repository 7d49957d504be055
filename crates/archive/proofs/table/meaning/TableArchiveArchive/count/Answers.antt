use Rattle.std.proofs.Common.{◌≡◌, length, sym, arith}
use Rattle.std.proofs.lemmas.List.{length-take-le}
use Rattle.archive.proofs.Records.{all_from_test}
use Rattle.archive.proofs.table.meaning.TableArchiveArchive.count.Goals as goal

pub returns : goal.returns
returns c =
    let n : length c.args.self.now.records ≡ 512 = c.args.self.now.long in
    let l = length-take-le c.args.self.now.used c.args.self.now.records (omega (arith, c.args.self.now.few)) in
    record { answer = sym l; lawful = all_from_test _ c.args.self.now.lawful; few = omega (arith, l, c.args.self.now.few) }
