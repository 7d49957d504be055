-- The suppliers' sums add up to that of the hour.
use Rattle.std.proofs.Common.{◌≡◌, ℕ, pos, sym, refl, ◌∙◌, ⊎_elim}
use Rattle.std.proofs.lemmas.Bool.{cases_Bool, cond-true, cond-false}
use Rattle.rows.specs.declared.Row.{Row}
use Rattle.rows.specs.declared.Kind.{Kind}
use Rattle.rows.specs.Lawful.{Lawful}
use Rattle.rows.proofs.Lawfully.{lawful_ranges}
use Rattle.archive.specs.Sums.{in_hour, portion, hour_portion, sum_of, hour_sum, up_to, ZoneLaw}
use Rattle.archive.proofs.Totals.{total_same, up_to_zero, up_to_one, up_to-total}
use Rattle.archive.proofs.Portions.{portion_in, portion_out, portion_other}

one_supplier : (k : Kind) (d h : ℕ) (r : Row) → Lawful r → up_to (λ s. portion k d h s r) 32 ≡ hour_portion k d h r
one_supplier k d h r law =
    let u = (lawful_ranges r law).supplier in
    ⊎_elim
    (λ y. up_to_one 32 (λ s. portion k d h s r) r.supplier u.0 u.1 (λ s a b ne. portion_other k d h s r (λ q. ne (sym q))) ∙ portion_in k d h r.supplier r y refl ∙ sym (cond-true (in_hour k d h r) r.amount (pos 0) y))
    (λ n. up_to_zero 32 (λ s. portion k d h s r) (λ s a b. portion_out k d h s r n) ∙ sym (cond-false (in_hour k d h r) r.amount (pos 0) n))
    (cases_Bool (in_hour k d h r))

pub zone_law : ZoneLaw
unfolding hour_sum sum_of
zone_law k d h rs all =
    up_to-total 32 (portion k d h) rs ∙ total_same Lawful (λ r. up_to (λ s. portion k d h s r) 32) (hour_portion k d h) (one_supplier k d h) rs all
