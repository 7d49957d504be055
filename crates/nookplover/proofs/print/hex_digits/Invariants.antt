use Rattle.std.proofs.Common.{◌≡◌, ◌*◌, take}
use Rattle.arrayvec.specs.ArrayString.{array_string_len}
use Rattle.nookplover.specs.Numerals.{hex_of}
use Rattle.nookplover.proofs.print.hex_digits.Given as goal

abbrev pub invariant-loop-b : goal.invariant-loop-b
invariant-loop-b l = record {
  digits : l.digits.bytes ≡ hex_of (take l.b-index l.bytes);
  two_each : array_string_len l.digits ≡ 2 * l.b-index;
}
