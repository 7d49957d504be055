use Rattle.std.proofs.Common.{◌≡◌, ℕ, ◌<◌, get_or, ◌∙◌, arith, rules}
use Rattle.archive.specs.Held.{byte_contents}
use Rattle.billing.specs.Host.{host_memory}
use Rattle.billing.proofs.Hosting.{memory_is}
use Rattle.billing.proofs.take_and_list.Goals as goal

pub returns-clause-memory : goal.returns-clause-memory
returns-clause-memory c =
    let rows = c.args.rows.now in
    let memory = c.args.memory.now in
    let new = c.new-archive in
    let small : (i : ℕ) → get_or rows i 0 < 256 = λ i. omega (arith, c.type_inv.rows i) in
    let held : c.take_in.new.archive.memory.now ≡ host_memory rows memory = c.take_in.ensures.memory ∙ memory_is rows memory (byte_contents new.result) new.result.memory.now c.take_in.result new.ensures.meaning new.ensures.memory c.take_in.ensures.answer small in
    search rules
