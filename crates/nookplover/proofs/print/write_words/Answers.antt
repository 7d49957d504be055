use Rattle.std.proofs.Common.{◌≡◌, ℕ, ◌+◌, ◌<◌, [], ◌∷◌, ◌++◌, List, decimal, drop, length, get_or, sym, ap, ◌∙◌, rules, arith}
use Rattle.std.specs.List.{flat_map}
use Rattle.std.proofs.Output.{has_written_append}
use Rattle.std.proofs.lemmas.List.{append_assoc, at_drop_more}
use Rattle.nookplover.specs.Texts.{spaced}
use Rattle.nookplover.proofs.print.write_words.Goals as goal

pub loop-n-preserved : goal.loop-n-preserved
loop-n-preserved g c =
    let figures = c.args.figures.now in
    let i = c.loop-n.n-index in
    let shown = c.format.result.now in
    let rest = flat_map spaced (drop (i + 1) figures) in
    let next : 32 ∷ (shown ++ rest) ≡ flat_map spaced (drop i figures) =
    ap (λ t. 32 ∷ (t ++ rest)) c.format.ensures.text ∙ sym (at_drop_more (flat_map spaced) figures i 0 (omega arith)) in
    λ plain.
    let so_far = c.loop-n.invariant plain in (
      (so_far.0 ++ 32 ∷ []) ++ shown,
      has_written_append _ _ (so_far.0 ++ 32 ∷ []) c.write_str-in-loop-n.new.self shown c.write_str-in-loop-n-2.new.self
          (has_written_append _ _ so_far.0 c.loop-n.f (32 ∷ []) c.write_str-in-loop-n.new.self so_far.1 (search rules)) (search rules),
      append_assoc (so_far.0 ++ 32 ∷ []) shown rest ∙ append_assoc so_far.0 (32 ∷ []) (shown ++ rest) ∙ ap (λ t. so_far.0 ++ t) next ∙ so_far.2,
    )
