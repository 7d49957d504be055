use Rattle.std.proofs.lemmas.Option.{IfSome_then}
use Rattle.std.proofs.lemmas.Fmt.{contents_after_writes}
use Rattle.nookplover.proofs.printer.Printer.show.Goals as goal

pub returns-in-Ok : goal.returns-in-Ok
returns-in-Ok g c =
    IfSome_then (g.D.Display.output c.args.text) c.in-Ok.ensures.writes
    (λ bs. contents_after_writes _ (λ p. p.waiting.items) (λ _ _ _ t. t) c.args.self.now bs c.write.new.self)
