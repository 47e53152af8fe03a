use Rattle.std.proofs.Common.{◌≡◌, ◌<◌, sym, ◌∙◌, ap, subst, length}
use Rattle.ir_thread.specs.State.{ask_of}
use Rattle.ir_flat.specs.Flat.{thread_of}
use Rattle.ir_fit.specs.Follower.{all_ahead, IsPlaced}
use Rattle.ir_fit.proofs.Moves.{MoveTaken, move_taken_by_result, left_object_exists}
use Rattle.ir_fit.proofs.follower.Follower.take.Goals as goal
use Rattle.ir_fit.proofs.follower.Follower.take.Goals.{After-wake}

left : (c : After-wake) → MoveTaken c.args.self.now.trace c.args.self.now.flat c.args.self.now.places.items c.take.new.self
    c.place.new.self.places.items
left c = move_taken_by_result c.take.result c.args.self.now.trace c.args.self.now.flat c.take.new.self c.place.new.self.flat
    c.args.self.now.places.items c.place.new.self.places.items c.args.next c.requires.follows c.requires.sized.placed c.place.ensures.places
    c.place.ensures.flat
    c.take.ensures.taken c.take.ensures.code c.take.ensures.threads c.take.ensures.objects c.take.ensures.refused

taken : (c : goal.In_default) → MoveTaken c.args.self.now.trace c.args.self.now.flat c.args.self.now.places.items c.take.new.self
    c.place.new.self.places.items
taken c = move_taken_by_result c.take.result c.args.self.now.trace c.args.self.now.flat c.take.new.self c.place.new.self.flat
    c.args.self.now.places.items c.place.new.self.places.items c.args.next c.requires.follows c.requires.sized.placed c.place.ensures.places
    c.place.ensures.flat
    c.take.ensures.taken c.take.ensures.code c.take.ensures.threads c.take.ensures.objects c.take.ensures.refused

pub returns-in-Leave : goal.returns-in-Leave
returns-in-Leave c = record {
  goes = (left c).goes;
  fewer = subst (λ z. all_ahead z c.take.new.self < all_ahead c.args.self.now.trace c.args.self.now.flat) (sym c.place.ensures.trace)
      (left c).less;
  trace = c.place.ensures.trace;
  sized = record {
    emitted = ap (λ z. length z.threads) c.place.ensures.trace ∙ c.requires.sized.emitted
        ∙ sym (c.take.ensures.threads ∙ ap (λ z. length z.threads) c.place.ensures.flat);
    known = c.wake.ensures ∙ ap (λ v. length v.items) c.place.ensures.ready ∙ c.requires.sized.known
        ∙ sym (c.take.ensures.threads ∙ ap (λ z. length z.threads) c.place.ensures.flat);
    placed = subst (λ z. IsPlaced z c.take.new.self c.place.new.self.places.items) (sym c.place.ensures.trace) (left c).placed;
  };
}

pub returns-in_default : goal.returns-in_default
returns-in_default c = record {
  goes = (taken c).goes;
  fewer = subst (λ z. all_ahead z c.take.new.self < all_ahead c.args.self.now.trace c.args.self.now.flat) (sym c.place.ensures.trace)
      (taken c).less;
  trace = c.place.ensures.trace;
  sized = record {
    emitted = ap (λ z. length z.threads) c.place.ensures.trace ∙ c.requires.sized.emitted
        ∙ sym (c.take.ensures.threads ∙ ap (λ z. length z.threads) c.place.ensures.flat);
    known = ap (λ v. length v.items) c.place.ensures.ready ∙ c.requires.sized.known
        ∙ sym (c.take.ensures.threads ∙ ap (λ z. length z.threads) c.place.ensures.flat);
    placed = subst (λ z. IsPlaced z c.take.new.self c.place.new.self.places.items) (sym c.place.ensures.trace) (taken c).placed;
  };
}

pub take-requires-clause-asked : goal.take-requires-clause-asked
take-requires-clause-asked c = subst (λ f. c.args.next.asked ≡ ask_of f.code (thread_of f c.args.next.thread)) (sym c.place.ensures.flat)
    c.requires.follows.asked

pub bounds-objects-object : goal.bounds-objects-object
bounds-objects-object c =
    let within = left_object_exists c.args.self.now.flat c.args.next.thread c.in-Leave.object c.in-Leave.field-1 c.place.ensures.within
    c.requires.follows.below (sym c.requires.follows.asked ∙ c.in-Leave.is) in
    let same = ap (λ xs. length xs) c.objects.ensures.value ∙ c.take.ensures.objects ∙ ap (λ z. length z.objects) c.place.ensures.flat in
    subst (λ n. c.in-Leave.object < n) (sym same) within
