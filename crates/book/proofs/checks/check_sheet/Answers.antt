use Rattle.std.proofs.Common.{◌∙◌, arith}
use Rattle.book.specs.Checks.{sheet_line}
use Rattle.book.proofs.Checking.{sheet_checked, sheet-told}
use Rattle.book.proofs.checks.check_sheet.Goals as goal

pub returns : goal.returns
returns g c =
    let lines = c.args.lines.now in
    let entries = c.args.roster.now.entries in
    let old = c.args.table.now in
    let table = c.suppliers.new.table in
    record {
      answer = c.check_lines.ensures ∙ sheet_checked (λ x. sheet_line (g.L.Accounted.account_of x) (g.L.Checked.cause_in x)) c.args.day entries lines old table c.requires (omega arith) c.suppliers.ensures.after;
      told = sheet-told (λ x. sheet_line (g.L.Accounted.account_of x) (g.L.Checked.cause_in x)) c.args.day entries lines old table c.requires (omega arith) c.suppliers.ensures.after c.check_lines.result c.check_lines.ensures;
    }
