use Rattle.std.proofs.Common.{◌≡◌, ◌<◌, Some, [], ◌∷◌, inl, inr, length, length-append, refl, sym, ap, subst, arith, rules}
use Rattle.std.specs.Prelude.{slice_get}
use Rattle.ir_search.proofs.CallerLemmas.{slice_get_append_kept}
use Rattle.ir_state_store.specs.Nodes.{AreSameLooks, sourced_in}
use Rattle.ir_graph.specs.Nodes.{AreNodes}
use Rattle.ir_graph.specs.Reached.{AllReached}
use Rattle.ir_graph.proofs.Alike.{look_alike_is_same}
use Rattle.ir_graph.proofs.Both.{same_looks_look_alike}
use Rattle.ir_graph.proofs.Found.{nodes_push, pushed_node_looks_alike}
use Rattle.ir_graph.proofs.Reached.{all_reached_push}
use Rattle.ir_graph.proofs.nodes.node_of.Goals as goal

pub returns-in-Some-clause-gives : goal.returns-in-Some-clause-gives
returns-in-Some-clause-gives c = record {
  within = c.in-Some.ensures.within;
  added = inl refl;
  alike = λ f is.
      same_looks_look_alike (sourced_in c.args.flats.now.shared c.args.new) f (c.requires.state.like c.in-Some.v f is) c.requires.state.is.sourced.each
      (c.requires.nodes.each c.in-Some.v f is)
      (subst (λ z. AreSameLooks z (sourced_in c.args.flats.now.shared c.args.new) f) c.requires.state.code (c.in-Some.ensures.alike f is));
}

pub returns-clause-adds : goal.returns-clause-adds
returns-clause-adds c =
    let items = c.args.flats.now.items in
    let h = sourced_in c.args.flats.now.shared c.args.new in
    let size = ap length c.in_ok-push.ensures.ok in
    let one = length-append items (h ∷ []) in
    let less : length items < c.args.most = search rules in
    record {
      nodes = subst AreNodes (sym c.in_ok-push.ensures.ok) (nodes_push items h c.requires.nodes c.requires.state.is.sourced.each c.requires.state.like
          c.requires.state.rest (λ v f at like.
          let moment = c.requires.state.like v f at in
          c.find.ensures.none c.in_default.is v f at (record { threads = moment.threads; objects = moment.objects; twins = moment.twins })
          (subst (λ z. AreSameLooks z h f) (sym c.requires.state.code)
          (look_alike_is_same h f c.requires.state.is.sourced.flat (c.find.ensures.sourced v f at).flat moment.objects like))));
      stay = λ v f is. subst (λ z. slice_get z v ≡ Some f) (sym c.in_ok-push.ensures.ok) (slice_get_append_kept items (h ∷ []) v f is);
      grown = omega (arith, size, one);
      room = omega (arith, size, one, less);
    }

pub returns-clause-gives : goal.returns-clause-gives
returns-clause-gives c =
    let items = c.args.flats.now.items in
    let h = sourced_in c.args.flats.now.shared c.args.new in
    let size = ap length c.in_ok-push.ensures.ok in
    let one = length-append items (h ∷ []) in
    let at = c.len-node.ensures in
    record {
      within = omega (arith, size, one, at);
      added = inr (at, omega (arith, size, one));
      alike = λ f is.
          pushed_node_looks_alike items h f c.len-node.result at (subst (λ z. slice_get z c.len-node.result ≡ Some f) c.in_ok-push.ensures.ok is);
    }

pub returns-clause-reached : goal.returns-clause-reached
returns-clause-reached c = λ x all is.
    let h = sourced_in c.args.flats.now.shared c.args.new in
    subst (AllReached x) (sym c.in_ok-push.ensures.ok) (all_reached_push x c.args.flats.now.items h all is)
