use Rattle.std.proofs.Common.{◌≡◌, ◌+◌, ◌≤◌, ◌∙◌, ◌++◌, ◌∷◌, [], ℕ, List, length, get_or, sym, ap, subst, arith}
use Rattle.std.specs.List.{Contains}
use Rattle.std.proofs.lemmas.Option.{slice_get-get_or}
use Rattle.ir_holds.specs.Spans.{IsFreeRow}
use Rattle.ir_holds.specs.Open.{HasAllOver, KeepsLate}
use Rattle.ir_holds.specs.declared.span.Span.{Span}
use Rattle.ir_holds.proofs.Rows.{AreRowsTo, no_boxes_no_rows, rows_with_next_box}
use Rattle.ir_holds.proofs.Opened.{no_first_numbers, no_boxes_all_later, all_later_dropped, all_later_next_box, first_numbers_push}
use Rattle.ir_holds.proofs.levels.rows_of.Goals as goal

pub loop-own-init : goal.loop-own-init
loop-own-init c = record {
  rows = subst (AreRowsTo c.args.spans.now 0) (sym c.in_ok-rows.ensures.items) (no_boxes_no_rows c.args.spans.now);
  held = no_first_numbers 0 c.new-held.result.items c.new-held.ensures.items;
  all = no_boxes_all_later c.args.spans.now c.new-held.result.items;
}

pub still_open-requires : goal.still_open-requires
still_open-requires c = λ k has.
    let less = c.loop-own.invariant.held k (subst (λ (xs : List ℕ). Contains xs k) c.deref.ensures.value has) in
    let test = c.loop-own-test.true in
    omega (arith, less, test)

pub free_row-row-requires-clause-held : goal.free_row-row-requires-clause-held
free_row-row-requires-clause-held c = λ k has.
    let old = c.in_ok-held.ensures.some k (subst (λ (xs : List ℕ). Contains xs k) c.deref-in-loop-own-2.ensures.value has) in
    let less = c.loop-own.invariant.held k (subst (λ (xs : List ℕ). Contains xs k) c.deref.ensures.value old) in
    let size = ap (λ (xs : List ℕ). length xs) c.deref-in-loop-own.ensures.value ∙ c.loop-own.invariant.rows.size in
    omega (arith, less, size)

pub free_row-row-requires-clause-all : goal.free_row-row-requires-clause-all
free_row-row-requires-clause-all c =
    let spans = c.args.spans.now in
    let n = c.loop-own.own-index in
    let none : Span = record { thread = 0; first = 0; last = 0 } in
    let own = get_or spans n none in
    let at = slice_get-get_or spans n none c.loop-own-test.true in
    let size = ap (λ (xs : List ℕ). length xs) c.deref-in-loop-own.ensures.value ∙ c.loop-own.invariant.rows.size in
    let keeps = subst (λ (xs : List ℕ). KeepsLate spans own xs c.in_ok-held.held.items) c.deref.ensures.value c.in_ok-held.ensures.all in
    subst (λ (xs : List ℕ). HasAllOver spans (length c.deref-in-loop-own.result.now) own xs) (sym c.deref-in-loop-own-2.ensures.value)
    (subst (λ m. HasAllOver spans m own c.in_ok-held.held.items) (sym size)
    (all_later_dropped spans n own c.loop-own.held.items c.in_ok-held.held.items c.requires at c.loop-own.invariant.all keeps n own (omega arith) at))

pub loop-own-preserved : goal.loop-own-preserved
loop-own-preserved c =
    let spans = c.args.spans.now in
    let n = c.loop-own.own-index in
    let none : Span = record { thread = 0; first = 0; last = 0 } in
    let own = get_or spans n none in
    let at = slice_get-get_or spans n none c.loop-own-test.true in
    let keeps = subst (λ (xs : List ℕ). KeepsLate spans own xs c.in_ok-held.held.items) c.deref.ensures.value c.in_ok-held.ensures.all in
    let long : length c.loop-own.rows.items ≡ n = c.loop-own.invariant.rows.size in
    let more : c.push.new.self.items ≡ c.in_ok-held.held.items ++ n ∷ [] =
    c.in_ok-push.ensures.items ∙ ap (λ m. c.in_ok-held.held.items ++ m ∷ []) (c.len.ensures ∙ (c.loop-own.rows.ok.0 ∙ long)) in
    record {
      rows = subst (λ (xs : List ℕ). AreRowsTo spans (n + 1) xs) (sym c.in_ok-push-2.ensures.items)
          (rows_with_next_box spans n c.loop-own.rows.items own c.free_row-row.result c.loop-own.invariant.rows at
          (subst (λ (xs : List ℕ). IsFreeRow spans xs (length xs) own c.free_row-row.result) c.deref-in-loop-own.ensures.value c.free_row-row.ensures.row)
          (subst (λ (xs : List ℕ). c.free_row-row.result ≤ length xs) c.deref-in-loop-own.ensures.value c.free_row-row.ensures.low));
      held = first_numbers_push n c.in_ok-held.held.items c.push.new.self.items
          (λ k has. c.loop-own.invariant.held k (subst (λ (xs : List ℕ). Contains xs k) c.deref.ensures.value (c.in_ok-held.ensures.some k has))) more;
      all = all_later_next_box spans n c.in_ok-held.held.items c.push.new.self.items
          (all_later_dropped spans n own c.loop-own.held.items c.in_ok-held.held.items c.requires at c.loop-own.invariant.all keeps) more;
    }
