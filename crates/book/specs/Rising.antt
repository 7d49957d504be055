-- Numbers in strictly rising order.
use Rattle.std.specs.Prelude.{ℕ, ◌<◌, List, length, slice_index}

abbrev pub Rising : List ℕ → Type 0
Rising xs = (i j : ℕ) → i < j → j < length xs → slice_index xs i < slice_index xs j
