use Rattle.std.proofs.Common.{◌∙◌, ap}
use Rattle.ir_asm.specs.Names.{named}
use Rattle.ir_asm.proofs.Defined.{lookup_seen}
use Rattle.ir_asm.proofs.labels.Labels.get.Goals as goal

pub returns : goal.returns
returns c =
    c.copied.ensures ∙ c.get.ensures.value ∙ lookup_seen (λ k. k.items) c.args.name.now c.self.inside.places.entries
    ∙ ap (λ l. named l c.args.name.now) c.self.view_is
