use Rattle.std.proofs.Common.{◌≤◌, map, length, None, sym, subst, ap, ◌∙◌, arith}
use Rattle.std.proofs.lemmas.List.{length-map, length-take-le, take-map}
use Rattle.book.specs.Rising.{Rising}
use Rattle.book.specs.Sheets.{rising_front, suppliers_on}
use Rattle.book.proofs.Fronts.{front_le, front_part_rises}
use Rattle.book.proofs.Tables.{table_told}
use Rattle.book.proofs.roster.Roster.suppliers.Goals as goal

pub slice_bounds-enter_suppliers-end : goal.slice_bounds-enter_suppliers-end
slice_bounds-enter_suppliers-end g c =
    let f = g.L.Accounted.account_of in
    let lines = c.args.lines.now in
    let within : c.min-n.result ≤ length lines = omega (arith, c.min-n.ensures, c.rising_front.ensures, front_le None (map f lines), length-map lines f) in
    sym (length-take-le c.min-n.result lines within)

pub enter_suppliers-requires : goal.enter_suppliers-requires
enter_suppliers-requires g c =
    let f = g.L.Accounted.account_of in
    let lines = c.args.lines.now in
    let n = c.min-n.result in
    let part : n ≤ rising_front (map f lines) = omega (arith, c.min-n.ensures, c.rising_front.ensures) in
    let within : n ≤ length lines = omega (arith, part, front_le None (map f lines), length-map lines f) in
    record {
      long = omega (arith, c.min-n.ensures, length-take-le n c.args.table.now (omega (arith, c.min-n.ensures)), length-take-le n lines within);
      rises = subst Rising (take-map f n lines) (front_part_rises n (map f lines) part);
    }

pub returns-clause-after : goal.returns-clause-after
returns-clause-after g c =
    let f = g.L.Accounted.account_of in
    let n = c.min-n.result in
    table_told c.args.day n c.args.self.now.entries (map f c.args.lines.now) c.args.table.now c.enter_suppliers.new.table
    (omega (arith, c.min-n.ensures, c.rising_front.ensures))
    (c.enter_suppliers.ensures.after ∙ ap (suppliers_on c.args.day c.args.self.now.entries) (sym (take-map f n c.args.lines.now)))
