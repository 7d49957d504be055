-- Rows put into memory one after another stand there one after another.
use Rattle.std.proofs.Common.{◌≡◌, ℕ, suc, ◌+◌, ◌*◌, ◌≤◌, List, [], ◌∷◌, ◌++◌, length, take, drop, sym, ap, ◌∙◌, arith}
use Rattle.std.specs.List.{flat_map}
use Rattle.std.proofs.lemmas.List.{append_assoc, drop-drop, drop_at, length-append, length-take-le, take-append-drop, take_at}
use Rattle.rows.specs.declared.Row.{Row}
use Rattle.rows.specs.Format.{bytes_of}
use Rattle.rows.proofs.Written.{length-bytes_of}
use Rattle.archive.specs.Packed.{put}
use Rattle.archive.specs.Intake.{entered}
use Rattle.archive.proofs.Putting.{length-put}

module _ (m : List ℕ) (k : ℕ) (r : Row) (fits : k * 15 + 15 ≤ length m) where
  abbrev front : List ℕ
  front = take (k * 15) m ++ bytes_of r

  length_front : length front ≡ (k + 1) * 15
  length_front = omega (arith, length-append (take (k * 15) m) (bytes_of r), length-take-le (k * 15) m (omega arith), length-bytes_of r)

  put_is : put m k r ≡ front ++ drop (k * 15 + 15) m
  put_is = sym (append_assoc (take (k * 15) m) (bytes_of r) (drop (k * 15 + 15) m))

  take_put : take ((k + 1) * 15) (put m k r) ≡ take (k * 15) m ++ bytes_of r
  take_put = ap (take ((k + 1) * 15)) put_is ∙ take_at front (drop (k * 15 + 15) m) ((k + 1) * 15) length_front

  drop-put : (n : ℕ) → drop ((k + 1 + n) * 15) (put m k r) ≡ drop ((k + suc n) * 15) m
  drop-put n =
      let whole : (k + 1 + n) * 15 ≡ (k + 1) * 15 + n * 15 = omega arith in
      let past : k * 15 + 15 + n * 15 ≡ (k + suc n) * 15 = omega arith in
      ap (λ j. drop j (put m k r)) whole
      ∙ sym (drop-drop (n * 15) ((k + 1) * 15) (put m k r))
      ∙ ap (λ t. drop (n * 15) (drop ((k + 1) * 15) t)) put_is
      ∙ ap (drop (n * 15)) (drop_at front (drop (k * 15 + 15) m) ((k + 1) * 15) length_front)
      ∙ drop-drop (n * 15) (k * 15 + 15) m
      ∙ ap (λ j. drop j m) past

pub entered_is : (m : List ℕ) (k : ℕ) (rs : List Row) → (k + length rs) * 15 ≤ length m → entered put m k rs ≡ take (k * 15) m ++ (flat_map bytes_of rs ++ drop ((k + length rs) * 15) m)
entered_is m k [] fits =
    let same : k * 15 ≡ (k + 0) * 15 = omega arith in
    sym (take-append-drop (k * 15) m) ∙ ap (λ j. take (k * 15) m ++ drop j m) same
entered_is m k (r ∷ rs) fits =
    let room : k * 15 + 15 ≤ length m = omega arith in
    let rest : List ℕ = flat_map bytes_of rs ++ drop ((k + suc (length rs)) * 15) m in
    entered_is (put m k r) (k + 1) rs (omega (arith, length-put m k r room))
    ∙ ap (λ t. t ++ (flat_map bytes_of rs ++ drop ((k + 1 + length rs) * 15) (put m k r))) (take_put m k r room)
    ∙ ap (λ t. (take (k * 15) m ++ bytes_of r) ++ (flat_map bytes_of rs ++ t)) (drop-put m k r room (length rs))
    ∙ append_assoc (take (k * 15) m) (bytes_of r) rest
    ∙ ap (λ t. take (k * 15) m ++ t) (sym (append_assoc (bytes_of r) (flat_map bytes_of rs) (drop ((k + suc (length rs)) * 15) m)))
