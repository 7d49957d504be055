-- What the listing answers and writes.
use Rattle.std.proofs.Common.{◌≡◌, ℕ, ◌≤◌, true, false, cond, leb, List, length, ℤ, IfOk, Ok, Err, Result, sym, ap, ◌∙◌, subst}
use Rattle.std.proofs.lemmas.Bool.{cond_both}
use Rattle.refusals.specs.declared.Refusal.{Refusal}
use Rattle.refusals.specs.declared.Cause.TheVariants.{OutOfRange, TextTooLong}
use Rattle.rows.specs.declared.Row.{Row}
use Rattle.rows.specs.declared.Kind.{Kind}
use Rattle.archive.specs.Contents.{refusing, kept}
use Rattle.archive.specs.Sums.{sums_of, hour_sum}
use Rattle.archive.specs.Listing.{listable, listed_kind, text_of, hour_text, fitting, overwritten, listing, listed}

pub text_is : (day hour : ℕ) (rs : List Row) (k : Kind) (zs : List ℤ) (z : ℤ) → k ≡ listed_kind hour → zs ≡ sums_of k day hour rs → z ≡ hour_sum k day hour rs → text_of zs z ≡ hour_text day hour rs
unfolding hour_text
text_is day hour rs k zs z e p q =
    ap (λ t. text_of t z) p
    ∙ ap (text_of (sums_of k day hour rs)) q
    ∙ ap (λ j. text_of (sums_of j day hour rs) (hour_sum j day hour rs)) e

module _ (day hour : ℕ) (rs : List Row) (out : List ℕ) where
  pub not_listable : listable day hour ≡ false → Err (refusing OutOfRange 0) ≡ listing day hour rs (length out)
  unfolding listing
  not_listable h = sym (ap (λ b. cond b (fitting (hour_text day hour rs) (length out)) (Err (refusing OutOfRange 0))) h)

  pub text_written : (text : List ℕ) → listable day hour ≡ true → text ≡ hour_text day hour rs → fitting text (length out) ≡ listing day hour rs (length out)
  unfolding listing
  text_written text h e = ap (λ t. fitting t (length out)) e ∙ sym (ap (λ b. cond b (fitting (hour_text day hour rs) (length out)) (Err (refusing OutOfRange 0))) h)

  pub listed_by : (a : Result ℕ Refusal) (text : List ℕ) → a ≡ listing day hour rs (length out) → text ≡ hour_text day hour rs → kept a (overwritten text out) out ≡ listed day hour rs out
  listed_by a text e q = ap (λ t. kept a (overwritten t out) out) q ∙ ap (λ x. kept x (overwritten (hour_text day hour rs) out) out) e

pub short_text : (text : List ℕ) (size : ℕ) (a : Result ℕ Refusal) → a ≡ fitting text size → length text ≤ 720 → IfOk a (λ n. n ≤ 720)
short_text text size a e l =
    let P : Result ℕ Refusal → Type 0 = λ r. IfOk r (λ n. n ≤ 720) in
    subst P (sym e) (cond_both (leb (length text) size) (Ok (length text)) (Err (refusing TextTooLong 0)) P (λ _. l) (λ _. tt))
