-- What was written is read back.
use Rattle.std.proofs.Common.{◌≡◌, ℕ, ◌/◌, ◌%◌, ◌≤◌, false, ltb, List, [], ◌++◌, length, get_or, ℤ, Some, Ok, Err, refl, ap, ◌∙◌, arith, w64, SFits, to_z, of_z}
use mir.Facts.{Fits-of_z}
use Rattle.std.proofs.lemmas.List.{length-append}
use Rattle.std.proofs.lemmas.Int.{to_z-of_z}
use Rattle.std.proofs.lemmas.Bool.{le-ltb, cond-true, cond-false}
use Rattle.rows.specs.declared.Row.{Row}
use Rattle.rows.specs.declared.Fault.TheVariants.{Short, Field}
use Rattle.rows.specs.declared.Kind.{Kind}
use Rattle.rows.specs.declared.Kind.TheVariants.{Energy, Peak}
use Rattle.rows.specs.Lawful.{lawful}
use Rattle.rows.specs.Format.{bytes_of, eight, fields_of, kind_of, if_lawful, marked, reading, ReadsBack}
use Rattle.rows.proofs.Digits.{eight-back, two_back}
use Rattle.rows.proofs.Lawfully.{lawful_ranges, bookable-fits}

abbrev row_of : Kind → ℕ → ℕ → ℕ → ℕ → ℤ → Row
row_of k d h s u a = record { kind = k; day = d; hour = h; stage = s; supplier = u; amount = a }

same_rows : (k : Kind) (h s u d d' : ℕ) (a a' : ℤ) → d ≡ d' → a ≡ a' → row_of k d h s u a ≡ row_of k d' h s u a'
same_rows k h s u d d' a a' p q = cc

module _ (d h s u : ℕ) (a : ℤ) (rest : List ℕ) where
  abbrev after : Kind → List ℕ
  after k = bytes_of (row_of k d h s u a) ++ rest

  length_by_kind : (k : Kind) → length (bytes_of (row_of k d h s u a)) ≡ 15
  unfolding bytes_of
  length_by_kind Energy = refl
  length_by_kind Peak = refl

  kind_back : (k : Kind) → kind_of (get_or (after k) 0 0) (get_or (after k) 1 0) ≡ Some k
  unfolding bytes_of
  kind_back Energy = refl
  kind_back Peak = refl

  amount_back : SFits w64 a → to_z w64 (eight (of_z w64 a / 72057594037927936 % 256) (of_z w64 a / 281474976710656 % 256) (of_z w64 a / 1099511627776 % 256) (of_z w64 a / 4294967296 % 256) (of_z w64 a / 16777216 % 256) (of_z w64 a / 65536 % 256) (of_z w64 a / 256 % 256) (of_z w64 a % 256)) ≡ a
  amount_back f = ap (to_z w64) (eight-back (of_z w64 a) (omega (arith, Fits-of_z f))) ∙ to_z-of_z w64 a f

  fields_back : (k : Kind) → d ≤ 60000 → SFits w64 a → fields_of k (after k) ≡ row_of k d h s u a
  unfolding bytes_of
  fields_back Energy p f = same_rows Energy h s u _ d _ a (two_back d p) (amount_back f)
  fields_back Peak p f = same_rows Peak h s u _ d _ a (two_back d p) (amount_back f)

pub length-bytes_of : (r : Row) → length (bytes_of r) ≡ 15
length-bytes_of r = length_by_kind r.day r.hour r.stage r.supplier r.amount [] r.kind

pub not_short : (r : Row) (rest : List ℕ) → ltb (length (bytes_of r ++ rest)) 15 ≡ false
not_short r rest = le-ltb _ 15 (omega (arith, length-append (bytes_of r) rest, length-bytes_of r))

pub reads_back : ReadsBack
unfolding reading
reads_back r rest l =
    let bs : List ℕ = bytes_of r ++ rest in
    let p = lawful_ranges r l in
    cond-false (ltb (length bs) 15) (Err Short) (marked (kind_of (get_or bs 0 0) (get_or bs 1 0)) bs) (not_short r rest)
    ∙ ap (λ k. marked k bs) (kind_back r.day r.hour r.stage r.supplier r.amount rest r.kind)
    ∙ ap if_lawful (fields_back r.day r.hour r.stage r.supplier r.amount rest r.kind p.day.1 (bookable-fits r.amount p.amount))
    ∙ cond-true (lawful r) (Ok r) (Err Field) l
