use Rattle.std.proofs.Common.{◌≡◌, ◌<◌, ◌∙◌, [], sym, ap, subst, length}
use Rattle.ir_lemmas.proofs.CallerLemmas.{all_of_push}
use Rattle.ir_state_store.specs.declared.spot.Spot.{Spot}
use Rattle.ir_state_store.specs.Nodes.{HaveWords, cell_in, cells_at}
use Rattle.ir_state_store.proofs.Lists.{all_by_recursion_weaker, kept_element_is_equal, below_length_kept, map_equal_on_all, map_push_is_take}
use Rattle.ir_state_store.proofs.objects.spots_of.Goals as goal

pub loop-object-preserved : goal.loop-object-preserved
loop-object-preserved c =
    let before = c.loop-object.invariant in
    let i = c.loop-object.object-index in
    let old = c.loop-object.words in
    let new = c.spot_of.new.words in
    let keeps = c.spot_of.ensures.keeps in
    let spots = c.loop-object.spots.items in
    let spot : Spot = c.in_ok-spot.spot in
    let was : cells_at new spots ≡ cells_at old spots =
    map_equal_on_all (cell_in new) (cell_in old) (λ (s : Spot). s.words < length old) spots
    (λ s lt j. record { fields = (cell_in old s).fields; words = kept_element_is_equal old new [] keeps s.words lt j }) before.within in
    record {
      keeps = λ k s e. keeps k s (before.keeps k s e);
      within = subst (HaveWords new) (sym c.in_ok-push.ensures.items)
          (all_of_push (λ (s : Spot). s.words < length new) spots spot
          (all_by_recursion_weaker (λ (s : Spot). s.words < length old) (λ (s : Spot). s.words < length new) spots
          (λ s. below_length_kept old new [] keeps s.words) before.within) c.in_ok-spot.ensures.within);
      found = ap (cells_at new) c.in_ok-push.ensures.items
          ∙ map_push_is_take (cell_in new) spots spot c.args.objects.now i c.object-item.result c.loop-object-test.true (was ∙ before.found)
          (c.in_ok-spot.ensures.found ∙ c.object-item.is);
    }
