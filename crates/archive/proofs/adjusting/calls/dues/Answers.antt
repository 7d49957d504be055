use Rattle.std.proofs.Common.{rules, ◌≡◌, ◌+◌, ◌∷◌, w64, SFits, refl}
use Rattle.std.proofs.lemmas.Int.{to_z-of_z}
use Rattle.archive.proofs.Dues.{lacking_none, lacking_fails, lacking_more, lacking_all}
use Rattle.archive.proofs.adjusting.calls.dues.Goals as goal

pub loop-i-init : goal.loop-i-init
loop-i-init c =
    let haves : c.zip.result.b.rest.now ≡ c.args.sums.now = search rules in
    rw (c.into_iter-i-iterator.ensures.into_iter_gives, c.enumerate-i-items.ensures.source, c.enumerate-i-items.ensures.count, c.zip.ensures.first, c.iter.ensures.rest, haves) (lacking_none _ _ _ refl)

pub returns-in_err-all : goal.returns-in_err-all
returns-in_err-all c =
    let w = c.in-Some.wanted.now in
    let z = c.in-Some.sum.now in
    let f : SFits w64 z = search rules in
    let e = simp to_z-of_z at c.in_err-all.ensures in
    let wants : c.loop-i.i-iterator.iter.a.rest.now ≡ w ∷ c.next.new.self.iter.a.rest.now = search rules in
    let haves : c.loop-i.i-iterator.iter.b.rest.now ≡ z ∷ c.next.new.self.iter.b.rest.now = search rules in
    let p = rw (wants, haves) at c.loop-i.invariant in
    rw c.from_residual.ensures (lacking_fails _ _ _ _ w z _ _ p c.told-wanted e)

pub loop-i-preserved : goal.loop-i-preserved
loop-i-preserved c =
    let w = c.in-Some.wanted.now in
    let z = c.in-Some.sum.now in
    let f : SFits w64 z = search rules in
    let h : SFits w64 c.in_ok-all.field-0 = search rules in
    let e = simp to_z-of_z at c.in_ok-all.ensures in
    let wants : c.loop-i.i-iterator.iter.a.rest.now ≡ w ∷ c.next.new.self.iter.a.rest.now = search rules in
    let haves : c.loop-i.i-iterator.iter.b.rest.now ≡ z ∷ c.next.new.self.iter.b.rest.now = search rules in
    let p = rw (wants, haves) at c.loop-i.invariant in
    let at : c.in-Some.i ≡ c.loop-i.i-iterator.count = search rules in
    let next : c.next.new.self.count ≡ c.loop-i.i-iterator.count + 1 = search rules in
    rw (at, next) (lacking_more _ _ _ _ w z _ _ p c.told-wanted _ (simp to_z-of_z e.0) e.1)

pub returns : goal.returns
returns c = lacking_all _ _ _ _ _ _ c.loop-i.invariant c.told-wanted c.told-sums (search rules)
