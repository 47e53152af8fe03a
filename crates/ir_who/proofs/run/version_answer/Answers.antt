use Rattle.std.proofs.Common.{◌≡◌, ◌∙◌, List, Some, length, refl, ap, subst, arith}
use Rattle.std.specs.Prelude.{slice_get}
use Rattle.std.proofs.lemmas.Option.{slice_get_read}
use Rattle.ir_who.specs.declared.version.Version.{Version}
use Rattle.ir_past.specs.declared.place.Place.{Place}
use Rattle.ir_who.specs.Lines.{version_text}
use Rattle.ir_who.proofs.Listed.{maker_is_overwriter}
use Rattle.ir_who.proofs.run.version_answer.Goals as goal

pub returns-clause-ok : goal.returns-clause-ok
returns-clause-ok c = record {
  rows = c.in_ok-rows.rows.items;
  all = c.in_ok-rows.ensures;
  row = c.in-Some.row.now;
  there = subst (λ (rows : List Version). slice_get rows c.args.version ≡ Some c.in-Some.row.now) c.deref.ensures.value
      (slice_get_read c.deref.result.now (length c.deref.result.now) c.args.version c.in-Some.row.now refl c.in-Some.ensures.lookup.3.0
      c.in-Some.ensures.lookup.1);
  readers = c.in_ok-readers.readers.items;
  read = c.in_ok-readers.ensures;
  over = c.get-over.result;
  overwritten =
      maker_is_overwriter c.args.trace.now c.args.object c.args.version (length c.args.trace.now.threads) c.in_ok-makers_of.field-0
      c.get-over.result c.in_ok-makers_of.ensures.makes (omega arith) c.get-over.ensures;
  lines = c.in_ok-version_text.ensures ∙ ap (λ (ps : List Place). version_text c.args.version c.in-Some.row.now ps c.get-over.result) c.deref-2.ensures.value;
}
