use Rattle.std.proofs.Common.{◌≡◌, ℕ, ◌^◌, ◌<◌, ◌≤◌, sym, ap, ◌∙◌, subst, arith}
use lib.Bits.{bit_or}
use Rattle.book.specs.Slips.{marked}
use Rattle.book.proofs.Marks.{mark_is, marked_within, marks_one}
use Rattle.book.proofs.slip.Slip.mark.Goals as goal

pub invariant_of-self : goal.invariant_of-self
invariant_of-self g c =
    let s = c.self.inside in
    let kept = c.self.invariant in
    let hours : s.hours ≡ c.args.self.now.hours = ap (λ d. d.hours) c.self.view_is in
    let within : c.args.hour ≤ s.hours = omega (arith, hours, c.requires.within) in
    let short : c.args.hour ≤ 25 = omega (arith, within, kept.timed) in
    let P : ℕ → Type 0 = λ m. bit_or s.settled m < 2 ^ s.hours in
    record { own = kept.own; staged = kept.staged; dated = kept.dated; timed = kept.timed; within = subst P (sym (mark_is c.args.hour short)) (marked_within s.settled s.hours c.args.hour kept.within c.requires.begun within) }

pub returns : goal.returns
returns g c =
    let s = c.self.inside in
    let short : c.args.hour ≤ 25 = omega (arith, ap (λ d. d.hours) c.self.view_is, c.requires.within, c.self.invariant.timed) in
    record {
      after = ap (λ m. record { stage = g.row.STAGE; day = s.day; hours = s.hours; settled = bit_or s.settled m }) (mark_is c.args.hour short) ∙ ap (marked c.args.hour) c.self.view_is;
      one = marks_one;
    }
