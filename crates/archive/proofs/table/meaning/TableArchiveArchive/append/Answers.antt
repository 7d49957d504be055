use Rattle.std.proofs.Common.{◌≡◌, ◌<◌, length, sym, refl, ap, ◌∙◌, arith}
use Rattle.std.proofs.lemmas.List.{take_more_set, length-set}
use Rattle.archive.specs.Held.{table_contents}
use Rattle.archive.specs.Packed.{all_lawful}
use Rattle.archive.proofs.Records.{test_push}
use Rattle.archive.proofs.Putting.{accepting, appended_is, admitted}
use Rattle.archive.proofs.table.meaning.TableArchiveArchive.append.Goals as goal

pub invariant_of-self : goal.invariant_of-self
invariant_of-self c =
    let n : length c.args.self.now.records ≡ 512 = c.args.self.now.long in
    let l = admitted c.args.row c.free_places.result c.in_ok-admit.ensures in
    let b : c.args.self.now.used < length c.args.self.now.records = omega arith in
    record { long = length-set _ _ _ ∙ n; few = omega arith; lawful = ap all_lawful (take_more_set c.args.self.now.records c.args.self.now.used c.args.row b) ∙ test_push _ c.args.row c.args.self.now.lawful l.0 }

pub returns : goal.returns
returns c =
    let n : length c.args.self.now.records ≡ 512 = c.args.self.now.long in
    let l = admitted c.args.row c.free_places.result c.in_ok-admit.ensures in
    let b : c.args.self.now.used < length c.args.self.now.records = omega arith in
    let before = table_contents c.args.self.now in
    record { answer = sym (accepting before c.args.row l.0 (omega arith)); after = appended_is before c.args.row _ _ l.0 (omega arith) (take_more_set c.args.self.now.records c.args.self.now.used c.args.row b) (omega arith); memory = refl; lent = refl }
