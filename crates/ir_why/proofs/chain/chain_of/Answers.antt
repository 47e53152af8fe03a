use Rattle.std.proofs.Common.{◌+◌, ◌-◌, inl, inr, List, Option, sym, subst, arith}
use Rattle.std.specs.Prelude.{MatchOption}
use Rattle.ir_why.specs.Chain.{IsLink, WaitsForNone}
use Rattle.ir_why.specs.declared.link.Link.{Link}
use Rattle.ir_why.proofs.Linked.{ChainGoesOn, chain_goes_on_by_link, are_links_if_chain_ends, linked_event_exists}
use Rattle.ir_why.proofs.chain.chain_of.Goals as goal

pub returns-in_default : goal.returns-in_default
returns-in_default c =
    let r = c.args.trace.now in
    let last = c.loop.last in
    are_links_if_chain_ends r c.args.boxes.now c.args.most c.args.here c.loop.links.items (c.args.most - c.loop.counter) last c.loop.invariant.chain
    (inr (subst (λ (x : Option Link). MatchOption x (WaitsForNone r last.thread last.event) (IsLink r c.args.boxes.now last.thread last.event))
    c.in_default.is c.in_ok-link.ensures))

pub loop-preserved : goal.loop-preserved
loop-preserved c =
    let r = c.args.trace.now in
    let last = c.loop.last in
    let l = c.in-Some.link in
    let link : IsLink r c.args.boxes.now last.thread last.event l =
    subst (λ (x : Option Link). MatchOption x (WaitsForNone r last.thread last.event) (IsLink r c.args.boxes.now last.thread last.event))
    c.in-Some.is c.in_ok-link.ensures in
    let there = linked_event_exists r c.args.boxes.now last.thread last.event l link in
    record {
      thread = there.0;
      event = there.1;
      chain = subst (λ (xs : List Link). ChainGoesOn r c.args.boxes.now c.args.most c.args.here xs (c.args.most - (c.loop.counter + 1)) l.needed)
          (sym c.in_ok-push.ensures.items)
          (chain_goes_on_by_link r c.args.boxes.now c.args.most c.args.here c.loop.links.items (c.args.most - c.loop.counter) (c.args.most - (c.loop.counter + 1))
          last l c.loop.invariant.chain (omega (arith, c.loop-test.true)) link);
    }

pub returns : goal.returns
returns c = are_links_if_chain_ends c.args.trace.now c.args.boxes.now c.args.most c.args.here c.loop.links.items (c.args.most - c.loop.counter) c.loop.last
    c.loop.invariant.chain (inl (omega (arith, c.loop-test.false)))
