use Rattle.std.proofs.Common.{◌≡◌, sym, ap, subst, ◌∙◌, length, map, arith}
use Rattle.ir_thread.specs.State.{IsAllowed}
use Rattle.ir_thread.specs.declared.profile.Profile.{Profile}
use Rattle.ir_flat.specs.Flat.{start_flat}
use Rattle.ir_flat.proofs.CallerLemmas.{length_of_start_threads}
use Rattle.ir_fit.specs.Ahead.{IsStoppedAhead}
use Rattle.ir_fit.proofs.Guests.{header_guest_is_allowed}
use Rattle.ir_fit.proofs.Moves.{followed_if_all_stopped, start_is_follower, start_is_placed, start_has_no_places, empty_growing_for}
use Rattle.ir_fit.proofs.follower.ending.followed.Goals as goal

pub start-requires-clause-allowed : goal.start-requires-clause-allowed
start-requires-clause-allowed g c = subst (λ (p : Profile). IsAllowed p c.args.image.now) (sym c.profile.ensures)
    (header_guest_is_allowed c.args.image.now c.args.trace c.budget.ensures.within c.requires)

pub follow-requires : goal.follow-requires
follow-requires g c =
    let start : c.in_ok-flat.flat ≡ start_flat c.args.image.now c.budget.result c.profile.result = c.in_ok-flat.ensures in
    let threads : length c.in_ok-flat.flat.threads ≡ length c.args.image.now.entries = ap (λ f. length f.threads) start
    ∙ length_of_start_threads c.args.image.now c.budget.result c.profile.result 0 (length c.args.image.now.entries) in
    let count : length c.threads-count.result.now ≡ length c.args.image.now.entries = ap (λ xs. length xs) c.threads-count.ensures.value
    ∙ c.requires.threads in
    let rooms : c.in_ok-places.places.items ≡ map empty_growing_for c.args.trace.threads = c.in_ok-places.ensures
    ∙ ap (map empty_growing_for) c.threads.ensures.value in
    record {
      emitted = c.requires.threads ∙ sym threads;
      known = omega (arith, c.resize.new.self.ok, c.in_ok-resize.ensures.len, count, threads);
      placed = start_is_placed c.args.image.now c.args.trace c.in_ok-flat.flat c.in_ok-places.places.items
          (start ∙ λ i. start_flat c.args.image.now (c.budget.ensures.value i) (c.profile.ensures i)) rooms (c.requires.threads ∙ sym threads);
    }

pub returns-clause-followed : goal.returns-clause-followed
returns-clause-followed g c =
    let start : c.in_ok-flat.flat ≡ start_flat c.args.image.now c.args.trace.budget c.args.trace.profile = c.in_ok-flat.ensures
    ∙ (λ i. start_flat c.args.image.now (c.budget.ensures.value i) (c.profile.ensures i)) in
    let rooms : c.in_ok-places.places.items ≡ map empty_growing_for c.args.trace.threads = c.in_ok-places.ensures
    ∙ ap (map empty_growing_for) c.threads.ensures.value in
    followed_if_all_stopped c.args.image.now c.args.trace c.in_ok-flat.flat c.follow.new.self.flat c.in_ok-places.places.items
    c.follow.new.self.places.items start (start_has_no_places c.args.trace c.in_ok-places.places.items rooms) c.follow.ensures.goes
    (λ t l. subst (λ z. IsStoppedAhead z c.follow.new.self.flat t) c.follow.ensures.trace (c.follow.ensures.stopped t l))

pub returns-clause-passed : goal.returns-clause-passed
returns-clause-passed g c =
    let start : c.in_ok-flat.flat ≡ start_flat c.args.image.now c.args.trace.budget c.args.trace.profile = c.in_ok-flat.ensures
    ∙ (λ i. start_flat c.args.image.now (c.budget.ensures.value i) (c.profile.ensures i)) in
    let rooms : c.in_ok-places.places.items ≡ map empty_growing_for c.args.trace.threads = c.in_ok-places.ensures
    ∙ ap (map empty_growing_for) c.threads.ensures.value in
    c.follow.ensures.passed c.args.image.now (start_is_follower c.args.image.now c.args.trace c.in_ok-flat.flat c.in_ok-places.places.items start
    (start_has_no_places c.args.trace c.in_ok-places.places.items rooms))
