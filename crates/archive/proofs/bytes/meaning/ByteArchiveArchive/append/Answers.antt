use Rattle.std.proofs.Common.{◌+◌, ◌-◌, ◌*◌, length, ap, ◌∙◌, arith}
use Rattle.std.proofs.lemmas.List.{length_push}
use Rattle.archive.specs.Held.{byte_contents}
use Rattle.archive.specs.Packed.{rows_in}
use Rattle.archive.proofs.Putting.{room_for, length-put, copied_is, put-rows, admitted, appended_is}
use Rattle.archive.proofs.bytes.meaning.ByteArchiveArchive.append.Goals as goal

pub invariant_of-self : goal.invariant_of-self
invariant_of-self c =
    let a = c.args.self.now in
    let l = admitted c.args.row c.free_places.result c.in_ok-admit.ensures in
    let m = copied_is a.memory.now c.copy_from_slice.new.self a.used (a.used * 15 + 15 - a.used * 15) c.args.row (c.copy_from_slice.ensures.after ∙ c.to_bytes-bytes.ensures.bytes) (omega arith) in
    let e = put-rows a.memory.now a.used c.args.row a.whole c.to_bytes-bytes.ensures.back l.0 in
    record { whole = ap (λ t. length (rows_in (a.used + 1) t)) m ∙ ap length e ∙ length_push _ c.args.row ∙ ap (λ n. n + 1) a.whole; few = omega arith }

pub returns-clause-after : goal.returns-clause-after
returns-clause-after c =
    let a = c.args.self.now in
    let l = admitted c.args.row c.free_places.result c.in_ok-admit.ensures in
    let m = copied_is a.memory.now c.copy_from_slice.new.self a.used (a.used * 15 + 15 - a.used * 15) c.args.row (c.copy_from_slice.ensures.after ∙ c.to_bytes-bytes.ensures.bytes) (omega arith) in
    let e = put-rows a.memory.now a.used c.args.row a.whole c.to_bytes-bytes.ensures.back l.0 in
    let n = ap length m ∙ length-put a.memory.now a.used c.args.row (room_for a.memory.now a.used (omega arith)) in
    appended_is (byte_contents a) c.args.row _ _ l.0 (omega arith) (ap (rows_in (a.used + 1)) m ∙ e) (omega (arith, n))
