use Rattle.std.proofs.Common.{◌+◌, ◌-◌, ◌*◌, get_or, drop, Some, sym, ap, ◌∙◌, arith, false-eqb}
use Rattle.std.specs.Str.{all_ascii_digits}
use Rattle.std.proofs.lemmas.List.{at_drop_all}
use Rattle.nookplover.specs.Numerals.{read_on}
use Rattle.nookplover.proofs.Decimals.{read_on_ge, read_left, none_from_large, some_from_digits}
use Rattle.nookplover.proofs.scan.number.Goals as goal

pub returns-in_err-checked_mul : goal.returns-in_err-checked_mul
returns-in_err-checked_mul c =
    let word = c.args.word.now in
    let i = c.loop-b.b-index in
    let n = c.loop-b.value in
    let no_fit = rw c.in_err-checked_mul.was at c.checked_mul.ensures in
    c.from_residual.ensures ∙ sym (none_from_large word (omega (arith, no_fit, c.loop-b.invariant.read, read_left word i c.loop-b-test.true n, read_on_ge (n * 10 + (get_or word i 0 - 48)) (drop (i + 1) word))))

pub returns-in_err-value : goal.returns-in_err-value
returns-in_err-value c =
    let word = c.args.word.now in
    let i = c.loop-b.b-index in
    let n = c.loop-b.value in
    let ten = rw c.in_ok-checked_mul.was at c.checked_mul.ensures in
    let no_fit = rw c.in_err-value.was at c.checked_add.ensures in
    c.from_residual-in_err-value.ensures ∙ sym (none_from_large word (omega (arith, ten, no_fit, c.from.ensures, c.loop-b.invariant.read, read_left word i c.loop-b-test.true n, read_on_ge (n * 10 + (get_or word i 0 - 48)) (drop (i + 1) word))))

pub returns : goal.returns
returns c =
    let word = c.args.word.now in
    let read = c.loop-b.invariant.read ∙ at_drop_all (read_on c.loop-b.value) word c.loop-b.b-index c.loop-b-test.false in
    let digits = c.loop-b.invariant.digits ∙ at_drop_all all_ascii_digits word c.loop-b.b-index c.loop-b-test.false in
    ap Some (sym read) ∙ sym (some_from_digits word (omega (arith, false-eqb _ 0 c.if-is_empty.ensures)) digits (omega (arith, read)))
