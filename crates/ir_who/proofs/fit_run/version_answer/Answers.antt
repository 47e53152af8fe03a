use Rattle.std.proofs.Common.{◌≡◌, ◌∙◌, List, Some, length, refl, sym, ap, subst, arith}
use Rattle.std.specs.Prelude.{slice_get}
use Rattle.std.proofs.lemmas.Option.{slice_get_read}
use Rattle.ir_trace.specs.Recorded.{Recorded}
use Rattle.ir_past.specs.Past.{AreReaders, IsOverwriter}
use Rattle.ir_past.specs.declared.place.Place.{Place}
use Rattle.ir_who.specs.FitLines.{fit_version_text}
use Rattle.ir_who.specs.Versions.{AreVersions}
use Rattle.ir_who.specs.declared.version.Version.{Version}
use Rattle.ir_who.proofs.Listed.{maker_is_overwriter}
use Rattle.ir_who.proofs.Within.{equal_trace_is_coherent, version_maker_is_inside, reader_is_inside, overwriter_is_inside}
use Rattle.ir_who.proofs.fit_run.version_answer.Goals as goal
use Rattle.ir_who.proofs.fit_run.version_answer.Goals.{In-Some}

rows_of : (c : goal.In-Some) → AreVersions c.args.fitted.now.recorded c.args.object c.in_ok-rows.rows.items
rows_of c = subst (λ (r : Recorded). AreVersions r c.args.object c.in_ok-rows.rows.items) c.trace-trace.ensures.value c.in_ok-rows.ensures

row_of : (c : goal.In-Some) → slice_get c.in_ok-rows.rows.items c.args.version ≡ Some c.in-Some.row.now
row_of c = subst (λ (rows : List Version). slice_get rows c.args.version ≡ Some c.in-Some.row.now) c.deref.ensures.value
    (slice_get_read c.deref.result.now (length c.deref.result.now) c.args.version c.in-Some.row.now refl c.in-Some.ensures.lookup.3.0
    c.in-Some.ensures.lookup.1)

pub versions_of-requires : goal.versions_of-requires
versions_of-requires c = equal_trace_is_coherent c.args.fitted.now c.known.ensures.run c.trace-trace.result.now c.trace-trace.ensures.value

pub dated-dated-requires : goal.dated-dated-requires
dated-dated-requires c = λ p made. version_maker_is_inside c.args.fitted.now c.known.ensures.run c.args.object c.in_ok-rows.rows.items (rows_of c) c.args.version
    c.in-Some.row.now p (row_of c) made

pub version_text-requires-clause-read : goal.version_text-requires-clause-read
version_text-requires-clause-read c = reader_is_inside c.args.fitted.now c.known.ensures.run c.args.object c.args.version c.deref-2.result.now
    (subst (AreReaders c.args.fitted.now.recorded c.args.object c.args.version) (sym c.deref-2.ensures.value)
    (subst (λ (r : Recorded). AreReaders r c.args.object c.args.version c.in_ok-readers.readers.items) c.trace-trace.ensures.value
    c.in_ok-readers.ensures))

pub version_text-requires-clause-over : goal.version_text-requires-clause-over
version_text-requires-clause-over c = overwriter_is_inside c.args.fitted.now c.known.ensures.run c.args.object c.args.version c.get-over.result
    (subst (λ (r : Recorded). IsOverwriter r c.args.object c.args.version c.get-over.result) c.trace-trace.ensures.value
    (maker_is_overwriter c.trace-trace.result.now c.args.object c.args.version (length c.trace-trace.result.now.threads) c.in_ok-makers_of.field-0
    c.get-over.result c.in_ok-makers_of.ensures.makes (omega arith) c.get-over.ensures))

pub returns-clause-ok : goal.returns-clause-ok
returns-clause-ok c = record {
  rows = c.in_ok-rows.rows.items;
  all = subst (λ (r : Recorded). AreVersions r c.args.object c.in_ok-rows.rows.items) c.trace-trace.ensures.value c.in_ok-rows.ensures;
  row = c.in-Some.row.now;
  there = subst (λ (rows : List Version). slice_get rows c.args.version ≡ Some c.in-Some.row.now) c.deref.ensures.value
      (slice_get_read c.deref.result.now (length c.deref.result.now) c.args.version c.in-Some.row.now refl c.in-Some.ensures.lookup.3.0
      c.in-Some.ensures.lookup.1);
  dated = c.dated-dated.result;
  made = c.dated-dated.ensures;
  readers = c.in_ok-readers.readers.items;
  read = subst (λ (r : Recorded). AreReaders r c.args.object c.args.version c.in_ok-readers.readers.items) c.trace-trace.ensures.value
      c.in_ok-readers.ensures;
  over = c.get-over.result;
  overwritten = subst (λ (r : Recorded). IsOverwriter r c.args.object c.args.version c.get-over.result) c.trace-trace.ensures.value
      (maker_is_overwriter c.trace-trace.result.now c.args.object c.args.version (length c.trace-trace.result.now.threads) c.in_ok-makers_of.field-0
      c.get-over.result c.in_ok-makers_of.ensures.makes (omega arith) c.get-over.ensures);
  lines = c.in_ok-version_text.ensures
      ∙ ap (λ (ps : List Place). fit_version_text c.args.fitted.now c.args.version c.dated-dated.result ps c.get-over.result) c.deref-2.ensures.value;
}
