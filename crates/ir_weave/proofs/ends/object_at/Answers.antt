use Rattle.std.proofs.Common.{sym}
use Rattle.std.specs.Slots.{slots_items}
use Rattle.ir_lemmas.proofs.CallerLemmas.{get_or_of_found_word}
use Rattle.ir_weave.proofs.Opening.{read_object_is_table}
use Rattle.ir_weave.proofs.ends.object_at.Goals as goal

pub returns : goal.returns
returns c k v e l =
    read_object_is_table e.cells (slots_items c.args.closed.now.words) c.args.o c.word.result c.contents_at.result c.from_parts.result e.table l
    (e.sizes c.args.o l) (e.fits c.args.o l) (sym (get_or_of_found_word (slots_items c.args.closed.now.words) _ c.word.result c.word.ensures))
    c.contents_at.ensures c.from_parts.ensures
