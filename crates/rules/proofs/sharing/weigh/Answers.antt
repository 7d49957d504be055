use Rattle.std.proofs.Common.{◌+◌, ◌<◌, Err, ap, ◌∙◌, arith}
use Rattle.rules.specs.Ranges.{most}
use Rattle.rules.proofs.Weighing.{weight_within, weighed_heavy}
use Rattle.rules.proofs.sharing.weigh.Goals as goal
use Rattle.rules.proofs.sharing.weigh.Goals.{then-w-first-via-then-w-first, then-w-first-via-else-w-first+then-v-first}

pub returns-then-w-first : goal.returns-then-w-first
returns-then-w-first g c =
    let f = g.L.Weighted.in_first in
    let s = g.L.Weighted.in_second in
    let ls = c.args.lines.now in
    let i = c.loop-line.line-index in
    let l = c.line-item.result in
    let w = c.weights-w.result.0 in
    let v = c.weights-w.result.1 in
    let first = weight_within f ls i w l c.loop-line-test.true c.line-item.is (ap (λ t. t.0) c.weights-w.ensures) in
    let second = weight_within s ls i v l c.loop-line-test.true c.line-item.is (ap (λ t. t.1) c.weights-w.ensures) in
    let heavy : most < c.loop-line.first + w + (c.loop-line.second + v) = elim c.then-w-first.branch [
      | then-w-first-via-then-w-first way ↦ omega (arith, way.if-w-first.true)
      | then-w-first-via-else-w-first+then-v-first way ↦ omega (arith, way.if-v-first.true)
    ] in
    ap Err c.new.ensures ∙ weighed_heavy f s ls (omega (arith, first, second, heavy))
