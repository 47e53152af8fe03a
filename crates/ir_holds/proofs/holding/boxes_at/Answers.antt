use Rattle.std.proofs.Common.{◌≡◌, ◌∙◌, ◌+◌, ◌<◌, ◌++◌, ◌∷◌, [], ℕ, suc, List, length, inl, inr, get_or, take, map, sym, ap, subst, arith}
use Rattle.std.specs.List.{slice_get}
use Rattle.std.proofs.Math.Seq.{take-suc}
use Rattle.std.proofs.lemmas.List.{length_push, map-append, take_all}
use Rattle.std.proofs.lemmas.Option.{same_Some, slice_get-get_or}
use Rattle.ir_lemmas.proofs.CallerLemmas.{slice_get-push_cases}
use Rattle.ir_picture.specs.declared.placed_box.PlacedBox.{PlacedBox}
use Rattle.ir_holds.specs.Schedules.{IsNear}
use Rattle.ir_holds.specs.declared.span.Span.{Span}
use Rattle.ir_holds.proofs.Defaults.{no_box, no_span}
use Rattle.ir_holds.proofs.holding.boxes_at.Goals as goal

mapped_after_push : {X Y : Type 0} (f : X → Y) (xs : List X) (ys : List Y) (n : ℕ) (x : X) (none : Y) → map f xs ≡ take n ys → f x ≡ get_or ys n none
    → n < length ys → map f (xs ++ x ∷ []) ≡ take (n + 1) ys
mapped_after_push f xs ys n x none before here within =
    let next : suc n ≡ n + 1 = omega arith in
    map-append f xs (x ∷ []) ∙ ap (λ z. z ++ f x ∷ []) before ∙ ap (λ z. take n ys ++ z ∷ []) here ∙ sym (take-suc ys n none within) ∙ ap (λ k. take k ys) next

pub loop-number-preserved : goal.loop-number-preserved
loop-number-preserved c =
    let boxes : List PlacedBox = c.loop-number.boxes.items in
    let spans = c.args.spans.now in
    let n = c.loop-number.number in
    let size = c.loop-number.invariant.size in
    let below = c.loop-number-test.true in
    let long = c.requires.size in
    let rows = c.requires.rows in
    let span : Span = get_or spans n no_span in
    let goes = slice_get-get_or spans n no_span (omega (arith, below, long)) in
    let new = c.box_at.result in
    let few = c.requires.steps n span goes in
    rw c.in_ok-push.ensures.items (record {
      events = mapped_after_push (λ (x : PlacedBox). x.events) boxes c.args.events.now n new no_box.events c.loop-number.invariant.events c.box_at.ensures.events below;
      rows = mapped_after_push (λ (x : PlacedBox). x.row) boxes c.args.rows.now n new 0 c.loop-number.invariant.rows c.box_at.ensures.row (omega (arith, below, rows));
      size = length_push boxes new ∙ omega (arith, size);
      start = λ k b own at_b at_s. elim (slice_get-push_cases boxes new k b at_b) [
        | inl old ↦ c.loop-number.invariant.start k b own old at_s
        | inr last ↦
            let here : k ≡ n = last.0 ∙ size in
            let same : span ≡ own = same_Some span own (sym goes ∙ ap (slice_get spans) (sym here) ∙ at_s) in
            subst (λ (x : PlacedBox). IsNear own.first x.start) last.1
            (subst (λ (x : Span). IsNear x.first new.start) same (c.box_at.ensures.start few.0))
      ];
      end = λ k b own at_b at_s. elim (slice_get-push_cases boxes new k b at_b) [
        | inl old ↦ c.loop-number.invariant.end k b own old at_s
        | inr last ↦
            let here : k ≡ n = last.0 ∙ size in
            let same : span ≡ own = same_Some span own (sym goes ∙ ap (slice_get spans) (sym here) ∙ at_s) in
            subst (λ (x : PlacedBox). IsNear own.last x.end) last.1
            (subst (λ (x : Span). IsNear x.last new.end) same (c.box_at.ensures.end few.1))
      ];
    })

pub returns : goal.returns
returns c =
    let rows = c.requires.rows in
    let past = c.loop-number-test.false in
    record {
      events = c.loop-number.invariant.events ∙ take_all c.loop-number.number c.args.events.now past;
      rows = c.loop-number.invariant.rows ∙ take_all c.loop-number.number c.args.rows.now (omega (arith, rows, past));
      near = record {
        first = λ n own goes. (c.requires.steps n own goes).0;
        last = λ n own goes. (c.requires.steps n own goes).1;
        start = c.loop-number.invariant.start;
        end = c.loop-number.invariant.end;
      };
    }
