use Rattle.rules.specs.Portions.{fits, computed, computed-small}
use Rattle.rules.proofs.arrangements.portion_of.Goals as goal

pub overflow_mul-result : goal.overflow_mul-result
overflow_mul-result c = fits c.args.u c.args.a c.args.b c.requires.small c.requires.part c.requires.limit

pub returns-else-b-eq0 : goal.returns-else-b-eq0
returns-else-b-eq0 c =
    record {
      value = computed c.args.u c.args.a c.args.b c.requires.small c.requires.part c.requires.limit;
      small = computed-small c.args.u c.args.a c.args.b c.requires.small c.requires.part c.requires.limit;
    }
