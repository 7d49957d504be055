use Rattle.std.proofs.lemmas.Grind.{common_steps}
use Rattle.std.proofs.Common.{◌≡◌, ◌+◌, ◌-◌, ◌*◌, take, drop, Ok, ap, ◌∙◌, arith}
use Rattle.rows.specs.Format.{reading}
use Rattle.archive.proofs.Packing.{whole-fits, rows_in_at, rows_in_read}
use Rattle.archive.proofs.bytes.meaning.ByteArchiveArchive.row.Goals as goal

pub slice_bounds-read-end : goal.slice_bounds-read-end
slice_bounds-read-end c =
    omega (arith, whole-fits c.args.self.now.used c.args.self.now.memory.now c.args.self.now.whole)

pub returns : goal.returns
returns c =
    let a = c.args.self.now in
    let m = a.memory.now in
    let p = c.args.position in
    let t = rows_in_read a.used m p a.whole c.if-position-self.false in
    let at = rows_in_at a.used m p t.0 a.whole c.if-position-self.false t.1 in
    let fifteen : p * 15 + 15 - p * 15 ≡ 15 = omega arith in
    let e : reading (take (p * 15 + 15 - p * 15) (drop (p * 15) m)) ≡ Ok t.0 = ap (λ n. reading (take n (drop (p * 15) m))) fifteen ∙ t.1 in
    grind (arith, common_steps)
