use Rattle.std.proofs.Common.{◌≡◌, ◌∙◌, ◌+◌, ◌<◌, ◌++◌, ◌∷◌, [], ℕ, List, length, get_or, inl, inr, take, map, sym, ap, subst, arith}
use Rattle.std.specs.List.{slice_get}
use Rattle.std.proofs.lemmas.List.{length_push, map-append, map_more, take_all}
use Rattle.std.proofs.lemmas.Option.{same_Some, slice_get-get_or}
use Rattle.ir_lemmas.proofs.CallerLemmas.{slice_get-push_cases}
use Rattle.ir_picture.specs.declared.placed_box.PlacedBox.{PlacedBox}
use Rattle.ir_picture.specs.Placing.{events_of_all}
use Rattle.ir_holds.specs.Held.{rows_in}
use Rattle.ir_holds.specs.Schedules.{IsPut}
use Rattle.ir_holds.specs.declared.span.Span.{Span}
use Rattle.ir_holds.proofs.Defaults.{no_box, no_span}
use Rattle.ir_holds.proofs.settling.all_put.Goals as goal

mapped_after_push : {X Y : Type 0} (f : X → Y) (xs ys : List X) (n : ℕ) (x none : X) → map f xs ≡ map f (take n ys) → f x ≡ f (get_or ys n none) → n < length ys
    → map f (xs ++ x ∷ []) ≡ map f (take (n + 1) ys)
mapped_after_push f xs ys n x none before here within =
    map-append f xs (x ∷ []) ∙ ap (λ z. z ++ f x ∷ []) before ∙ ap (λ z. map f (take n ys) ++ z ∷ []) here ∙ sym (map_more f ys n none within)

pub loop-number-preserved : goal.loop-number-preserved
loop-number-preserved c =
    let r = c.args.trace.now in
    let boxes = c.args.boxes.now in
    let spans = c.args.spans.now in
    let n = c.loop-number.number in
    let size = c.loop-number.invariant.size in
    let below = c.loop-number-test.true in
    let long = c.requires.size in
    let own : PlacedBox = get_or boxes n no_box in
    let there = slice_get-get_or boxes n no_box below in
    let span : Span = get_or spans n no_span in
    let goes = slice_get-get_or spans n no_span (omega (arith, below, long)) in
    let right = c.right_box-own.result in
    let near = c.near_box.ensures in
    let put : IsPut r boxes spans span own c.near_box.result = record {
      right = right;
      held = c.right_box-own.ensures.held span goes;
      same = c.right_box-own.ensures.events own there;
      events = near.events ∙ c.right_box-own.ensures.events own there;
      row = near.row ∙ c.right_box-own.ensures.row own there;
      came = near.came;
      start = near.start;
      end = near.end;
    } in
    rw c.in_ok-push.ensures.items (record {
      size = length_push c.loop-number.all.items c.near_box.result ∙ omega (arith, size);
      events = mapped_after_push (λ (x : PlacedBox). x.events) c.loop-number.all.items boxes n c.near_box.result no_box c.loop-number.invariant.events put.events below;
      rows = mapped_after_push (λ (x : PlacedBox). x.row) c.loop-number.all.items boxes n c.near_box.result no_box c.loop-number.invariant.rows put.row below;
      each = λ k b d s at_b at_d at_s. elim (slice_get-push_cases c.loop-number.all.items c.near_box.result k d at_d) [
        | inl old ↦ c.loop-number.invariant.each k b d s at_b old at_s
        | inr last ↦
            let here : k ≡ n = last.0 ∙ size in
            let is_b : own ≡ b = same_Some own b (sym there ∙ ap (slice_get boxes) (sym here) ∙ at_b) in
            let is_s : span ≡ s = same_Some span s (sym goes ∙ ap (slice_get spans) (sym here) ∙ at_s) in
            subst (IsPut r boxes spans s b) last.1
            (subst (λ (x : PlacedBox). IsPut r boxes spans s x c.near_box.result) is_b
            (subst (λ (x : Span). IsPut r boxes spans x own c.near_box.result) is_s put))
      ];
    })

pub returns : goal.returns
returns c =
    let all = take_all c.loop-number.number c.args.boxes.now c.loop-number-test.false in
    record {
      events = c.loop-number.invariant.events ∙ ap events_of_all all;
      rows = c.loop-number.invariant.rows ∙ ap rows_in all;
      each = c.loop-number.invariant.each;
    }
