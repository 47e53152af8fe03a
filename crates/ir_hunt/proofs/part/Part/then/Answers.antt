use Rattle.std.proofs.Common.{subst}
use Rattle.std.specs.Prelude.{option_map}
use Rattle.std.specs.String.{string_bytes}
use Rattle.ir_hunt.specs.Tried.{WereTried}
use Rattle.ir_hunt.proofs.Parts.{parts_are_a_part}
use Rattle.ir_hunt.proofs.part.Part.then.Goals as goal

pub returns-clause-tried : goal.returns-clause-tried
returns-clause-tried c hunt before after =
    let one = c.args.self in
    let other = c.args.next in
    parts_are_a_part hunt one.seeds.first one.seeds.last other.seeds.first other.seeds.last one.left_out other.left_out
    (option_map (λ s. string_bytes s) other.list) one.some c.requires.next other.some
    (subst (λ z. WereTried hunt one.seeds.first one.seeds.last one.left_out (option_map (λ s. string_bytes s) z)) c.requires.none before) after
