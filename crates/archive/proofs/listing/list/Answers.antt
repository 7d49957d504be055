use Rattle.std.proofs.Common.{Err, sym, refl, ap, ◌∙◌}
use Rattle.archive.specs.Listing.{hour_text}
use Rattle.archive.proofs.Listed.{not_listable, text_written, listed_by, text_is, short_text}
use Rattle.archive.proofs.listing.list.Goals as goal

pub returns-then-not-is_listable : goal.returns-then-not-is_listable
returns-then-not-is_listable g c =
    let rs = (g.A.Archive.meaning c.args.archive.now).rows in
    let a = ap Err c.new.ensures ∙ not_listable c.args.day c.args.hour rs c.args.out.now (sym c.is_listable.ensures ∙ c.if-not-is_listable.true) in
    record { answer = a; short = tt; written = listed_by c.args.day c.args.hour rs c.args.out.now _ (hour_text c.args.day c.args.hour rs) a refl }

pub returns : goal.returns
returns g c =
    let rs = (g.A.Archive.meaning c.args.archive.now).rows in
    let text = c.as_str.ensures.value ∙ c.text_of-text.ensures ∙ text_is c.args.day c.args.hour rs c.listed_kind.result c.hour_sums-sums.result.suppliers c.hour_sums-sums.result.zone c.listed_kind.ensures c.hour_sums-sums.ensures.suppliers c.hour_sums-sums.ensures.zone in
    let a = c.write.ensures.answer ∙ text_written c.args.day c.args.hour rs c.args.out.now _ (sym c.is_listable.ensures ∙ c.if-not-is_listable.false) text in
    record { answer = a; short = short_text _ _ _ c.write.ensures.answer c.as_str.ensures.fits; written = c.write.ensures.written ∙ listed_by c.args.day c.args.hour rs c.args.out.now _ _ a text }
