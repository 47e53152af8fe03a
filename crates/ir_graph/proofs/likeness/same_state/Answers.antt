use Rattle.std.proofs.Common.{◌≡◌, ℕ, ap, ◌∙◌, sym, subst, arith, length}
use Rattle.std.specs.List.{slice_index_or}
use Rattle.ir_object.specs.Empty.{empty}
use Rattle.ir_flat.specs.Flat.{thread_of}
use Rattle.ir_likeness.specs.Seen.{Same, view}
use Rattle.ir_state_store.specs.Nodes.{SourcedFlat, source_of}
use Rattle.ir_graph.proofs.Alike.{look_alike_by_parts}
use Rattle.ir_graph.proofs.likeness.same_state.Goals as goal

pub returns : goal.returns
returns c = λ _.
    look_alike_by_parts c.args.first.now c.args.second.now c.requires.like c.requires.sources c.requires.others
    (λ u l. subst (λ z. Same z (view (thread_of c.args.first.now.flat u), source_of c.args.first.now u) (view (thread_of c.args.second.now.flat u), source_of c.args.second.now u))
    (sym c.requires.code) (c.loop-t.invariant u
    (let a = c.loop-t-test.false in let b = c.loop-t.auto.t-end
    in let d : length c.threads-t-end.result.now
    ≡ length c.args.first.now.flat.threads = ap length c.threads-t-end.ensures.value
    ∙ ap (λ (z : SourcedFlat). length z.flat.threads) c.first.view_is
    in
    omega (arith, l, a, b, d))))
    (subst (λ xs. (o : ℕ) → (slice_index_or xs o empty).words ≡ (slice_index_or c.args.second.now.flat.objects o empty).words)
    (c.objects.ensures.value ∙ ap (λ (z : SourcedFlat). z.flat.objects) c.first.view_is)
    (subst (λ ys. (o : ℕ) → (slice_index_or c.objects.result.now o empty).words ≡ (slice_index_or ys o empty).words)
    (c.objects-2.ensures.value ∙ ap (λ (z : SourcedFlat). z.flat.objects) c.second.view_is) (c.same_words.ensures.same c.if-not-same_words.false)))
