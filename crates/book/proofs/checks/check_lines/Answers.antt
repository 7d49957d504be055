use Rattle.std.proofs.Common.{◌+◌, map, length, drop, Some, Err, ap, ◌∙◌, arith}
use Rattle.std.proofs.lemmas.Iterator.{YieldsList-from_slice, YieldsList-from_zip}
use Rattle.std.proofs.lemmas.Iterator.Consumers.{YieldsList-from_enumerate, YieldsList-turn, YieldsList-end}
use Rattle.std.specs.List.{zip}
use Rattle.std.proofs.lemmas.List.{length_push}
use Rattle.std.proofs.lemmas.List.FromFn.{length-enumerate_from}
use Rattle.std.proofs.lemmas.Slice.Zip.{length-zip}
use Rattle.refusals.specs.declared.Layer.TheVariants.{Sheet}
use Rattle.refusals.specs.Numbers.{refusal}
use Rattle.book.specs.Checks.{sheet_line, line_cause, checked_from}
use Rattle.book.proofs.Checking.{pairs_turn, check_stops, check_goes_on, check_ends}
use Rattle.book.proofs.checks.check_lines.Goals as goal

pub returns-in-Some-line_cause : goal.returns-in-Some-line_cause
returns-in-Some-line_cause g c =
    let lines = c.args.lines.now in
    let suppliers = c.args.suppliers.now in
    let gives = YieldsList-from_enumerate (YieldsList-from_zip (YieldsList-from_slice lines cc) (YieldsList-from_slice suppliers cc)) cc in
    let t = pairs_turn lines suppliers (length c.loop-i.yielded) c.in-Some.i c.in-Some.line.now c.in-Some.supplier.now c.requires (YieldsList-turn gives c.loop-i.yielded c.loop-i.i-iterator c.loop-i.yielded_by c.next.result c.next.new.self (c.in-Some.i, (c.in-Some.line, c.in-Some.supplier)) c.in-Some.is c.next.ensures.steps) in
    ap Err (c.at.ensures ∙ ap (λ r. refusal r.cause r.layer (c.in-Some.i + 1)) c.new.ensures ∙ ap (λ k. refusal c.in-Some-line_cause.cause Sheet (k + 1)) t.1)
    ∙ check_stops (λ x. sheet_line (g.L.Accounted.account_of x) (g.L.Checked.cause_in x)) lines suppliers (length c.loop-i.yielded) c.in-Some.line.now t.0 (omega arith) t.2 c.loop-i.before c.cause.result c.account-account.result c.is_above-above.result c.cause.ensures c.account-account.ensures c.is_above-above.ensures c.in-Some-line_cause.cause
    (c.in-Some-line_cause.ensures ∙ ap (line_cause c.cause.result c.is_above-above.result) t.3)
    ∙ c.loop-i.invariant

pub loop-i-preserved : goal.loop-i-preserved
loop-i-preserved g c =
    let lines = c.args.lines.now in
    let suppliers = c.args.suppliers.now in
    let gives = YieldsList-from_enumerate (YieldsList-from_zip (YieldsList-from_slice lines cc) (YieldsList-from_slice suppliers cc)) cc in
    let t = pairs_turn lines suppliers (length c.loop-i.yielded) c.in-Some.i c.in-Some.line.now c.in-Some.supplier.now c.requires (YieldsList-turn gives c.loop-i.yielded c.loop-i.i-iterator c.loop-i.yielded_by c.next.result c.next.new.self (c.in-Some.i, (c.in-Some.line, c.in-Some.supplier)) c.in-Some.is c.next.ensures.steps) in
    ap (λ n. checked_from (n + 1) (Some c.account-account.result) (map (λ x. sheet_line (g.L.Accounted.account_of x) (g.L.Checked.cause_in x)) (drop n lines)) (drop n suppliers)) (length_push c.loop-i.yielded (c.in-Some.i, (c.in-Some.line, c.in-Some.supplier)))
    ∙ check_goes_on (λ x. sheet_line (g.L.Accounted.account_of x) (g.L.Checked.cause_in x)) lines suppliers (length c.loop-i.yielded) c.in-Some.line.now t.0 (omega arith) t.2 c.loop-i.before c.cause.result c.account-account.result c.is_above-above.result c.cause.ensures c.account-account.ensures c.is_above-above.ensures
    (c.in_default.ensures ∙ ap (line_cause c.cause.result c.is_above-above.result) t.3)
    ∙ c.loop-i.invariant

pub returns : goal.returns
returns g c =
    let lines = c.args.lines.now in
    let suppliers = c.args.suppliers.now in
    let gives = YieldsList-from_enumerate (YieldsList-from_zip (YieldsList-from_slice lines cc) (YieldsList-from_slice suppliers cc)) cc in
    let e = YieldsList-end gives c.loop-i.yielded c.loop-i.i-iterator c.loop-i.yielded_by c.next.result c.next.new.self c.in-None.is c.next.ensures.steps in
    check_ends (λ x. sheet_line (g.L.Accounted.account_of x) (g.L.Checked.cause_in x)) lines suppliers (length c.loop-i.yielded) _ c.loop-i.before
    (omega (arith, e.1, length-enumerate_from 0 (zip lines suppliers), length-zip lines suppliers))
    ∙ c.loop-i.invariant
