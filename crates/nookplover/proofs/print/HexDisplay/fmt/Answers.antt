use Rattle.std.proofs.Common.{◌≡◌, ◌++◌, sym, ap, ◌∙◌, rules, append_assoc}
use Rattle.std.proofs.Output.{has_written_append}
use Rattle.std.specs.Slice.Iter.{chunks_rest}
use Rattle.std.proofs.lemmas.Grind.{flat_map-append}
use Rattle.nookplover.specs.Numerals.{hex_pair, hex_of}
use Rattle.nookplover.proofs.print.HexDisplay.fmt.Goals as goal

pub loop-chunk-preserved : goal.loop-chunk-preserved
loop-chunk-preserved g c =
    let steps = c.in-Some.ensures.steps in
    let size = c.loop-chunk.invariant.2 in
    let rest = chunks_rest c.next.new.self in
    let shown : c.as_str.result.now ≡ hex_of c.in-Some.chunk.now = c.as_str.ensures.value ∙ c.hex_digits-digits.ensures in (
      search rules,
      tt,
      steps.0 ∙ size,
      λ plain.
          let so_far = c.loop-chunk.invariant.3 plain in (
            so_far.0 ++ c.as_str.result.now,
            has_written_append _ _ _ _ _ _ so_far.1 (search rules),
            append_assoc so_far.0 c.as_str.result.now (hex_of rest)
                ∙ ap (λ t. so_far.0 ++ t) (ap (λ t. t ++ hex_of rest) shown ∙ sym (flat_map-append hex_pair c.in-Some.chunk.now rest) ∙ ap hex_of (sym steps.1.0))
                ∙ so_far.2,
          ),
    )
