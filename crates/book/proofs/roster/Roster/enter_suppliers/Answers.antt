use Rattle.std.proofs.Common.{◌≡◌, ℕ, ◌<◌, ◌≢◌, map, length, get_or, replicate, set, take, unwrap_or, sym, ap, ◌∙◌, arith, rules}
use Rattle.std.proofs.lemmas.List.{length-map}
use Rattle.book.specs.Entries.{entry}
use Rattle.book.specs.Sheets.{suppliers_on}
use Rattle.book.proofs.Tables.{nobody_yet, or_nobody, passed_late, passed_absent, written_at}
use Rattle.book.proofs.roster.Roster.enter_suppliers.Goals as goal
use Rattle.book.proofs.roster.Roster.enter_suppliers.Goals.{then-entry-day+in-Some, else-entry-day, else-entry-day-via-else-entry-day, else-entry-day-via-then-entry-day+in-None-1}

pub loop-entry-init : goal.loop-entry-init
loop-entry-init g c =
    let accounts = map g.L.Accounted.account_of c.args.lines.now in
    let long : length c.args.table.now ≡ length accounts = omega (arith, c.requires.long, length-map c.args.lines.now g.L.Accounted.account_of) in
    c.fill.ensures.after (λ y same. same) ∙ ap (λ n. replicate n 0) long ∙ sym (nobody_yet c.args.day accounts)

pub loop-entry-preserved : goal.loop-entry-preserved
loop-entry-preserved g c =
    let es = take c.self.inside.count c.self.inside.memory.now in
    let accounts = map g.L.Accounted.account_of c.args.lines.now in
    let i = c.loop-entry.entry-index in
    let none = entry 0 0 0 in
    let so_far = suppliers_on c.args.day (take i es) accounts in
    elim c.if-entry-day.branch [
      | then-entry-day+in-Some w ↦
          let there : w.in-Some.place < length accounts = omega (arith, w.in-Some.ensures.0, length-map c.args.lines.now g.L.Accounted.account_of) in
          w.table-is
          ∙ ap (λ t. set t w.in-Some.place w.unwrap_or.result) c.loop-entry.invariant
          ∙ ap (set so_far w.in-Some.place) (w.unwrap_or.ensures ∙ ap (λ s. unwrap_or s 0) w.supplier.ensures ∙ or_nobody _)
          ∙ sym (written_at c.args.day es accounts i w.in-Some.place none c.loop-entry-test.true w.if-entry-day.true c.requires.rises there w.in-Some.ensures.1)
      | else-entry-day w ↦
          elim w.else-entry-day.branch [
            | else-entry-day-via-else-entry-day v ↦
                w.table-is ∙ c.loop-entry.invariant ∙ sym (passed_late c.args.day es accounts i none c.loop-entry-test.true v.if-entry-day.false)
            | else-entry-day-via-then-entry-day+in-None-1 v ↦
                let absent : (k : ℕ) → k < length c.args.lines.now → get_or accounts k 0 ≢ (get_or es i none).account = search rules in
                w.table-is ∙ c.loop-entry.invariant
                ∙ sym (passed_absent c.args.day es accounts i none c.loop-entry-test.true (λ k lt. absent k (omega (arith, length-map c.args.lines.now g.L.Accounted.account_of))))
          ]
    ]
