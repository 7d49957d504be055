use Rattle.std.proofs.Common.{◌≡◌, ◌≤◌, refl, [], ◌∷◌, ◌++◌, length, sym, ap, ◌∙◌, subst, arith}
use Rattle.std.proofs.lemmas.List.{append-nil, append_assoc}
use Rattle.rows.proofs.Lawfully.{lawful_ranges}
use Rattle.archive.proofs.Summing.{Summed, summed_none, summed_skip, summed_add, summed_is, summed_small, added-small, row_lawful}
use Rattle.archive.proofs.Zoning.{zone_law}
use Rattle.archive.proofs.sums.hour_sums.Goals as goal

pub loop-row-init : goal.loop-row-init
loop-row-init g c =
    (c.into_iter-row-iterator.ensures.into_iter_gives ∙ c.rows-row-items.ensures.rows, summed_none c.args.kind c.args.day c.args.hour)

pub add-requires : goal.add-requires
add-requires g c =
    let rows = (g.A.Archive.meaning c.args.archive.now).rows in
    let r = c.in-Some.row in
    let few : length rows ≤ 1000000 = omega (arith, c.rows-row-items.ensures.few) in
    let order = ap (λ t. c.loop-row.yielded ++ t) (sym c.in-Some.ensures.steps) ∙ c.loop-row.invariant.0 in
    let lawful = c.rows-row-items.ensures.lawful in
    let law = row_lawful c.args.kind c.args.day c.args.hour rows c.loop-row.yielded r c.next.new.self order lawful in
    let small = added-small c.args.kind c.args.day c.args.hour rows c.loop-row.yielded r c.next.new.self order lawful few c.loop-row.sums.suppliers c.loop-row.sums.zone (sym c.is_in_hour.ensures ∙ c.if-is_in_hour.true) c.loop-row.invariant.1 in
    record { supplier = (lawful_ranges r law).supplier; fits = small.0; all = small.1 }

pub loop-row-preserved-then-is_in_hour : goal.loop-row-preserved-then-is_in_hour
loop-row-preserved-then-is_in_hour g c =
    let rows = (g.A.Archive.meaning c.args.archive.now).rows in
    let r = c.in-Some.row in
    let order = ap (λ t. c.loop-row.yielded ++ t) (sym c.in-Some.ensures.steps) ∙ c.loop-row.invariant.0 in
    let law = row_lawful c.args.kind c.args.day c.args.hour rows c.loop-row.yielded r c.next.new.self order c.rows-row-items.ensures.lawful in
    (append_assoc c.loop-row.yielded (r ∷ []) c.next.new.self ∙ order, rw (c.add.ensures.suppliers, c.add.ensures.zone) (summed_add c.args.kind c.args.day c.args.hour c.loop-row.yielded r c.loop-row.sums.suppliers c.loop-row.sums.zone _ _ (sym c.is_in_hour.ensures ∙ c.if-is_in_hour.true) law refl refl c.loop-row.invariant.1))

pub loop-row-preserved : goal.loop-row-preserved
loop-row-preserved g c =
    let order = ap (λ t. c.loop-row.yielded ++ t) (sym c.in-Some.ensures.steps) ∙ c.loop-row.invariant.0 in
    (append_assoc c.loop-row.yielded (c.in-Some.row ∷ []) c.next.new.self ∙ order, summed_skip c.args.kind c.args.day c.args.hour c.loop-row.yielded c.in-Some.row _ _ (sym c.is_in_hour.ensures ∙ c.if-is_in_hour.false) c.loop-row.invariant.1)

pub returns : goal.returns
returns g c =
    let rows = (g.A.Archive.meaning c.args.archive.now).rows in
    let k = c.args.kind in
    let d = c.args.day in
    let h = c.args.hour in
    let all : c.loop-row.yielded ≡ rows = sym (append-nil c.loop-row.yielded) ∙ ap (λ t. c.loop-row.yielded ++ t) (sym c.in-None.ensures.steps.0) ∙ c.loop-row.invariant.0 in
    let p = subst (Summed k d h c.loop-row.sums.suppliers c.loop-row.sums.zone) all c.loop-row.invariant.1 in
    record { suppliers = summed_is k d h _ _ rows p; zone = p.zone; small = summed_small k d h _ _ rows c.rows-row-items.ensures.lawful (omega (arith, c.rows-row-items.ensures.few)) p; adds = zone_law }
