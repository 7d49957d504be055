use Rattle.std.proofs.Common.{rules, ◌∙◌}
use Rattle.archive.proofs.Taking.{taken_good, taken_more}
use Rattle.archive.proofs.intake.append_rows.Goals as goal

pub returns-in_default : goal.returns-in_default
returns-in_default g c =
    absurd (taken_good _ c.args.bytes.now _ _ c.loop-row.row-iterator.rest.now c.in-Some.row.now c.next.new.self.rest.now (search rules) (search rules) _ _ c.loop-row.invariant.2 c.in_default.field-0 c.in_default.ensures.reads)

pub loop-row-preserved : goal.loop-row-preserved
loop-row-preserved g c =
    (search rules, c.append.ensures.lent ∙ c.loop-row.invariant.1, taken_more _ c.args.bytes.now _ _ c.loop-row.row-iterator.rest.now c.in-Some.row.now c.next.new.self.rest.now (search rules) (search rules) _ _ c.loop-row.invariant.2 _ _ c.in-Ok.read.row c.append.result c.requires.room c.in-Ok.ensures.reads.0 c.append.ensures.answer c.append.ensures.after c.append.ensures.memory)
