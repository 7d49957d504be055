use Rattle.std.proofs.Common.{rules, ◌≡◌, ◌+◌, ◌∷◌, ◌++◌, [], length, get_or, pos, sym, ap, ◌∙◌, arith, w64, SFits}
use Rattle.std.proofs.lemmas.Fmt.{length-decimal-le}
use Rattle.std.proofs.lemmas.List.{append-nil, length-append}
use Rattle.std.proofs.lemmas.Int.{to_z-of_z}
use Rattle.std.specs.Fmt.{signed_decimal}
use Rattle.archive.specs.Listing.{supplier_line}
use Rattle.archive.proofs.Dues.{bits_zero}
use Rattle.archive.proofs.Lines.{line_is, lines_more, length_line_le, length_signed_small}
use Rattle.archive.proofs.listing.text.text_of.Goals as goal
use Rattle.archive.proofs.listing.text.text_of.Goals.{then-sum-ne0, else-sum-ne0}

pub push_line-requires : goal.push_line-requires
push_line-requires c =
    let i = c.loop-i.i in
    let z = get_or c.args.sums.now.suppliers i (pos 0) in
    let f : SFits w64 z = search rules in
    simp to_z-of_z (omega (arith, c.loop-i.invariant.1, ap length c.format.ensures.text, length-decimal-le 2 (i + 1) (omega arith) (omega arith) (omega arith), length_signed_small z (c.requires.suppliers i c.loop-i-test.true)))

pub loop-i-preserved : goal.loop-i-preserved
loop-i-preserved c =
    let zs = c.args.sums.now.suppliers in
    let i = c.loop-i.i in
    let z = get_or zs i (pos 0) in
    let f : SFits w64 z = search rules in
    let old = c.loop-i.text.bytes in
    let end = 32 ∷ (signed_decimal z ++ 10 ∷ []) in
    let line : c.if-sum-ne0.text.bytes ≡ old ++ supplier_line (i + 1) z = elim c.if-sum-ne0.branch [
      | then-sum-ne0 w ↦ ap (λ t. t.bytes) w.text-is ∙ (simp to_z-of_z at w.push_line.ensures) ∙ ap (λ t. old ++ (t ++ end)) w.format.ensures.text ∙ ap (λ t. old ++ t) (sym (line_is (i + 1) z w.if-sum-ne0.true))
      | else-sum-ne0 w ↦ ap (λ t. t.bytes) w.text-is ∙ sym (append-nil old) ∙ ap (λ x. old ++ supplier_line (i + 1) x) (sym (bits_zero z f w.if-sum-ne0.false))
    ] in
    (line ∙ ap (λ t. t ++ supplier_line (i + 1) z) c.loop-i.invariant.0 ∙ sym (lines_more zs i (omega (arith, c.requires.many))), omega (arith, ap length line, length-append old (supplier_line (i + 1) z), length_line_le (i + 1) z (omega arith) (c.requires.suppliers i c.loop-i-test.true), c.loop-i.invariant.1))

pub push_line-requires-2 : goal.push_line-requires-2
push_line-requires-2 c =
    let f : SFits w64 c.args.sums.now.zone = search rules in
    simp to_z-of_z (omega (arith, c.loop-i.invariant.1, length_signed_small c.args.sums.now.zone c.requires.zone))
