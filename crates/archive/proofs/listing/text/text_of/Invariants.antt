use Rattle.std.proofs.Common.{◌≡◌, ◌*◌, ◌≤◌, length, take}
use Rattle.archive.specs.Listing.{supplier_lines}
use Rattle.archive.proofs.listing.text.text_of.Given as goal

abbrev pub invariant-loop-i : goal.invariant-loop-i
invariant-loop-i l = (l.text.bytes ≡ supplier_lines 1 (take l.i l.sums.suppliers)) × (length l.text.bytes ≤ l.i * 21)
