use Rattle.std.proofs.Common.{◌≡◌, ◌++◌, ℕ, Some, codes}
use Rattle.std.specs.String.{string_bytes}
use Rattle.ir_past.specs.Past.{event_at}
use Rattle.ir_past.specs.Naming.{maker_text}
use Rattle.ir_diff.specs.Lines.{NamesMaker}
use Rattle.ir_diff.proofs.ThreadTexts.{if_ok_weaker, by_text_names_read_maker, by_text_names_write_maker}
use Rattle.ir_diff.proofs.texts.maker_of.Goals as goal

pub returns-in-Read : goal.returns-in-Read
returns-in-Read c = if_ok_weaker c.by_maker.result (λ s. string_bytes s ≡ codes " by " ++ maker_text c.made_by.result)
    (λ s. (t : ℕ) → (i : ℕ) → event_at c.args.side.trace.now t i ≡ Some c.args.event → NamesMaker c.args.side.trace.now c.args.event (string_bytes s))
    (λ s said. by_text_names_read_maker c.args.side.trace.now c.args.event c.in-Read.object c.in-Read.version c.made_by.result (string_bytes s) c.in-Read.is
    c.made_by.ensures said)
    c.by_maker.ensures

pub returns-in-Write : goal.returns-in-Write
returns-in-Write c = if_ok_weaker c.by_maker-in-Write.result (λ s. string_bytes s ≡ codes " by " ++ maker_text c.made_by-in-Write.result)
    (λ s. (t : ℕ) → (i : ℕ) → event_at c.args.side.trace.now t i ≡ Some c.args.event → NamesMaker c.args.side.trace.now c.args.event (string_bytes s))
    (λ s said. by_text_names_write_maker c.args.side.trace.now c.args.event c.in-Write.object c.in-Write.version c.in-Write.readers c.made_by-in-Write.result
    (string_bytes s) c.in-Write.is c.made_by-in-Write.ensures said)
    c.by_maker-in-Write.ensures
