-- The bytes so far and those of the rest are the bytes of the word, and there is room for all.
use Rattle.std.proofs.Common.{◌≡◌, ◌+◌, ◌/◌, ◌≤◌, length, vec_items, vec_len, vec_capacity}
use Rattle.nookplover.specs.Numerals.{bytes_in}
use Rattle.nookplover.proofs.Pairs.{prepended}
use Rattle.nookplover.proofs.scan.bytes_in.Given as goal

abbrev pub invariant-loop-rest : goal.invariant-loop-rest
invariant-loop-rest l = record {
  read : bytes_in l.word ≡ prepended (vec_items l.bytes) (bytes_in l.rest);
  room : vec_len l.bytes + length l.rest / 2 ≤ vec_capacity l.bytes;
}

abbrev pub decreases-loop-rest : goal.decreases-loop-rest
decreases-loop-rest l = length l.rest
