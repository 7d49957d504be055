use Rattle.std.proofs.Common.{◌≡◌, ◌-◌, length, take, drop, vec_items, sym, ap, ◌∙◌, arith, length-drop}
use Rattle.std.proofs.lemmas.List.{take_all}
use Rattle.nookplover.specs.Numerals.{bytes_in}
use Rattle.nookplover.proofs.Pairs.{prepended, one_byte}
use Rattle.nookplover.proofs.scan.bytes_in.Goals as goal

pub loop-rest-preserved : goal.loop-rest-preserved
loop-rest-preserved c =
    let rest = c.loop-rest.rest.now in
    let after : take (length rest - 2) (drop 2 rest) ≡ drop 2 rest = take_all (length rest - 2) (drop 2 rest) (omega (arith, length-drop 2 rest)) in
    record {
      read = c.loop-rest.invariant.read ∙ one_byte (vec_items c.loop-rest.bytes) rest c.in-Some.byte c.in-len2-up.len_at_least (sym c.in-Some.ensures)
          ∙ ap (λ bs. prepended bs (bytes_in (drop 2 rest))) (sym c.push_reserved.ensures.items)
          ∙ ap (λ bs. prepended (vec_items c.push_reserved.new.self) (bytes_in bs)) (sym after);
      room = rw after (omega (arith, c.loop-rest.invariant.room, length-drop 2 rest, c.push_reserved.ensures.len, c.push_reserved.ensures.capacity, c.in-len2-up.len_at_least));
    }
