use Rattle.std.proofs.Common.{rules, ◌∙◌, ◌++◌, List, ℕ, [], ◌∷◌, Option, sym, ap, arith}
use Rattle.std.proofs.lemmas.List.{append-nil}
use Rattle.arrayvec.specs.ArrayVec.{ArrayVec, array_vec_len}
use Rattle.ir_runs.specs.declared.access.Access.{Access}
use Rattle.ir_text.specs.Texts.{inside_for}
use Rattle.ir_text.specs.Held.{held_by}
use Rattle.ir_text.proofs.Insides.{inside_for_inside, inside_for_outside, inside_for_no_threads}
use Rattle.ir_text.proofs.objects.inside_for.Goals as goal
use Rattle.ir_text.proofs.objects.inside_for.Goals.{then-is_inside, else-is_inside}

pub loop-thread-init : goal.loop-thread-init
loop-thread-init c = record {
  inside = c.new-inside.ensures ∙ sym (inside_for_no_threads c.args.access (held_by c.args.threads.now c.args.object));
  len = search rules;
}

pub loop-thread-preserved : goal.loop-thread-preserved
loop-thread-preserved c =
    let inside : ℕ → Option Access = held_by c.args.threads.now c.args.object in
    let t : ℕ = c.loop-thread.thread in
    elim c.if-is_inside.branch [
      | then-is_inside w ↦ record {
        inside =
            ap (λ (v : ArrayVec ℕ). v.items) w.inside-is
            ∙ w.append.ensures.text
            ∙ ap (λ (xs : List ℕ). xs ++ t ∷ []) c.loop-thread.invariant.inside
            ∙ sym (inside_for_inside c.args.access inside t (sym c.held_by.ensures ∙ c.is_inside.ensures.inside w.if-is_inside.true));
        len =
            let is = ap (λ (v : ArrayVec ℕ). array_vec_len v) w.inside-is in
            let more = w.append.ensures.len in
            let few = c.loop-thread.invariant.len in
            omega (arith, is, more, few);
      }
      | else-is_inside w ↦ record {
        inside =
            ap (λ (v : ArrayVec ℕ). v.items) w.inside-is
            ∙ c.loop-thread.invariant.inside
            ∙ sym (inside_for_outside c.args.access inside t (λ e. c.is_inside.ensures.other w.if-is_inside.false (c.held_by.ensures ∙ e))
            ∙ append-nil (inside_for c.args.access inside t));
        len =
            let is = ap (λ (v : ArrayVec ℕ). array_vec_len v) w.inside-is in
            let few = c.loop-thread.invariant.len in
            omega (arith, is, few);
      }
    ]
