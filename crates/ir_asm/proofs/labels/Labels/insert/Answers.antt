use Rattle.std.proofs.Common.{◌∙◌, ap, ◌++◌, ◌∷◌, []}
use Rattle.std.specs.Prelude.{map, bytes_eq}
use Rattle.indexmap.proofs.CallerLemmas.{insert_entry-new}
use Rattle.ir_asm.specs.Names.{named}
use Rattle.ir_asm.proofs.Defined.{lookup_seen, seen, seen_append}
use Rattle.ir_asm.proofs.labels.Labels.insert.Goals as goal

pub returns : goal.returns
returns c =
    let key = c.in_ok-key.key in
    let old = c.self.inside.places in
    let none = lookup_seen (λ k. k.items) key.items old.entries ∙ (λ j. named (c.self.view_is j) (c.in_ok-key.ensures.items j))
    ∙ c.requires in
    ap (λ l. map (seen (λ k. k.items)) l) (c.in_ok-insert.ensures.entries
    ∙ insert_entry-new (λ x y. bytes_eq x.items y.items) old key c.args.place none)
    ∙ seen_append (λ k. k.items) old.entries ((key, c.args.place) ∷ [])
    ∙ (λ j. c.self.view_is j ++ (c.in_ok-key.ensures.items j, c.args.place) ∷ [])
