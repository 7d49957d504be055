use Rattle.std.proofs.Common.{◌≡◌, ℕ, List, ◌∷◌, ◌++◌, get_or, refl, w64, SFits, rules}
use Rattle.std.proofs.lemmas.Int.{to_z-of_z}
use Rattle.rows.specs.Format.{bytes_of, mark_bytes}
use Rattle.rows.specs.declared.Kind.{Kind}
use Rattle.rows.specs.declared.Kind.TheVariants.{Energy, Peak}
use Rattle.rows.proofs.Written.{reads_back}
use Rattle.rows.proofs.Row.to_bytes.Goals as goal

mark_first : (k : Kind) (t : List ℕ) → get_or (mark_bytes k) 0 0 ∷ get_or (mark_bytes k) 1 0 ∷ t ≡ mark_bytes k ++ t
mark_first Energy t = refl
mark_first Peak t = refl

pub returns : goal.returns
unfolding bytes_of
returns c =
    let f : SFits w64 c.args.self.amount = search rules in
    record { bytes = simp (c.from-mark.ensures, c.to_be_bytes-d.ensures, c.to_be_bytes-a.ensures, to_z-of_z) (mark_first c.args.self.kind _); back = reads_back }
