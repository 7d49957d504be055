-- What is left of the word gives the answer of the whole.
use Rattle.std.proofs.Common.{◌≡◌, ◌≤◌, drop}
use Rattle.std.specs.Str.{all_ascii_digits}
use Rattle.nookplover.specs.Numerals.{read_on}
use Rattle.nookplover.proofs.scan.number.Given as goal

abbrev pub invariant-loop-b : goal.invariant-loop-b
invariant-loop-b l = record {
  digits : all_ascii_digits l.word ≡ all_ascii_digits (drop l.b-index l.word);
  read : read_on 0 l.word ≡ read_on l.value (drop l.b-index l.word);
  small : l.value ≤ 4294967295;
}
