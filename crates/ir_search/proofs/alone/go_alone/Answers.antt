use Rattle.std.proofs.Common.{◌≡◌, ◌++◌, Bool, true, false, Some, None, [], ◌∷◌, ◌<◌, inl, inr, length, slice_set, refl, sym, ap, ◌∙◌, subst, arith}
use Rattle.ir_search.specs.declared.found.Pending.{Pending}
use Rattle.ir_search.specs.Following.{IsNodeOpen, GoesTo}
use Rattle.ir_search.specs.TurnSoFar.{IsTurnSoFar}
use Rattle.ir_search.proofs.Opens.{opened_place_is_open, goes_to_open_kept}
use Rattle.ir_search.proofs.Kept.{keeps_at_start, keeps_at_equal_level, keeps_transitive}
use Rattle.ir_search.proofs.TurnSoFar.{both_bools_satisfy, turn_so_far_at_start, so_far_last_put_first, so_far_without_first}
use Rattle.ir_search.proofs.alone.go_alone.Goals as goal

pub returns-in_err-open-clause-keeps : goal.returns-in_err-open-clause-keeps
returns-in_err-open-clause-keeps g c =
    let nodes = c.args.found.now.nodes.items in
    let same : c.open.new.found.nodes.items ≡ nodes =
    elim c.open.ensures.nodes [
      | inl e ↦ e
      | inr p ↦ absurd (let at = p.0 in let node = c.requires.node in let row = c.requires.row.row in omega (arith, at, node, row))
    ] in
    keeps_at_start c.args.start.level (g.S.Successors.shape c.args.graph.now) nodes c.open.new.found.nodes.items c.args.found.now.refusals.items
    c.open.new.found.refusals.items c.requires.all same c.open.ensures.refusals

pub pending-init : goal.pending-init
pending-init g c =
    let start = c.args.start in
    let shape = g.S.Successors.shape c.args.graph.now in
    let noted = shape.noted in
    let opened = c.args.opened.now.items in
    let nodes = c.args.found.now.nodes.items in
    let first : Pending = record { node = start.from; origin = start } in
    let less : start.from < length opened = (let a = c.requires.node in let b = c.requires.row.row in omega (arith, a, b)) in
    let is = c.in_ok-open.ensures.old less in
    let hand : c.open.new.found.pending.items ≡ first ∷ [] =
    c.in_ok-open.ensures.pending ∙ ap (λ z. z ++ first ∷ []) c.clear.ensures.items in
    let turn : IsTurnSoFar noted start.thread start.level (slice_set opened start.from true) nodes c.args.found.now.refusals.items (first ∷ []) =
    turn_so_far_at_start noted start opened nodes c.args.found.now.refusals.items c.index.result.now c.requires.row.followed c.requires.all.reached c.requires.begins
    c.requires.none less c.requires.row.row (sym c.index.ensures ∙ c.if-index.false) in
    record {
      turn = subst (λ z. IsTurnSoFar noted start.thread start.level c.open.new.opened.items c.open.new.found.nodes.items c.open.new.found.refusals.items z)
          (sym hand)
          (subst (λ z. IsTurnSoFar noted start.thread start.level c.open.new.opened.items c.open.new.found.nodes.items z (first ∷ []))
          (sym c.open.ensures.refusals)
          (subst (λ z. IsTurnSoFar noted start.thread start.level c.open.new.opened.items z c.args.found.now.refusals.items (first ∷ [])) (sym is.1)
          (subst (λ z. IsTurnSoFar noted start.thread start.level z nodes c.args.found.now.refusals.items (first ∷ [])) (sym is.0) turn)));
      opens = subst (λ z. IsNodeOpen z start.from) (sym is.0) (opened_place_is_open opened start.from less);
      stays = c.open.ensures.stays;
      nodes = ap length is.1 ∙ c.requires.all.nodes;
      keeps = keeps_at_start start.level shape nodes c.open.new.found.nodes.items c.args.found.now.refusals.items c.open.new.found.refusals.items
          c.requires.all is.1 c.open.ensures.refusals;
    }

pub follow-requires-clause-turn : goal.follow-requires-clause-turn
follow-requires-clause-turn g c =
    let start = c.args.start in
    let noted = (g.S.Successors.shape c.pending.graph).noted in
    let row = c.pending.opened.items in
    let nodes = c.pending.found.nodes.items in
    let table = c.pending.found.refusals.items in
    let rest = c.pop.new.self.items in
    let here = c.in-Some.here in
    let turn : IsTurnSoFar noted start.thread start.level row nodes table (here ∷ rest) =
    so_far_last_put_first noted start.thread start.level row nodes table rest here
    (subst (IsTurnSoFar noted start.thread start.level row nodes table) c.in-Some.ensures.items c.pending.invariant.turn) in
    subst (λ z. IsTurnSoFar noted z here.origin.level row nodes table (here ∷ rest)) (sym (turn.threads 0 here refl))
    (subst (λ z. IsTurnSoFar noted start.thread z row nodes table (here ∷ rest)) (sym (turn.levels 0 here refl)) turn)

pub returns-in_err-follow-clause-keeps : goal.returns-in_err-follow-clause-keeps
returns-in_err-follow-clause-keeps g c =
    let start = c.args.start in
    let noted = (g.S.Successors.shape c.pending.graph).noted in
    let row = c.pending.opened.items in
    let nodes = c.pending.found.nodes.items in
    let table = c.pending.found.refusals.items in
    let here = c.in-Some.here in
    let turn : IsTurnSoFar noted start.thread start.level row nodes table (here ∷ c.pop.new.self.items) =
    so_far_last_put_first noted start.thread start.level row nodes table c.pop.new.self.items here
    (subst (IsTurnSoFar noted start.thread start.level row nodes table) c.in-Some.ensures.items c.pending.invariant.turn) in
    keeps_transitive start.level (g.S.Successors.shape c.args.graph.now) (g.S.Successors.shape c.pending.graph) (g.S.Successors.shape c.follow.new.graph)
    c.args.found.now.nodes.items nodes c.follow.new.found.nodes.items table c.follow.new.found.refusals.items c.pending.invariant.keeps
    (keeps_at_equal_level here.origin.level start.level _ _ nodes c.follow.new.found.nodes.items c.follow.new.found.refusals.items (turn.levels 0 here refl)
    c.follow.ensures.keeps)

pub returns-in_err-follow-2-clause-keeps : goal.returns-in_err-follow-2-clause-keeps
returns-in_err-follow-2-clause-keeps g c =
    let start = c.args.start in
    let noted = (g.S.Successors.shape c.pending.graph).noted in
    let row = c.pending.opened.items in
    let nodes = c.pending.found.nodes.items in
    let table = c.pending.found.refusals.items in
    let here = c.in-Some.here in
    let turn : IsTurnSoFar noted start.thread start.level row nodes table (here ∷ c.pop.new.self.items) =
    so_far_last_put_first noted start.thread start.level row nodes table c.pop.new.self.items here
    (subst (IsTurnSoFar noted start.thread start.level row nodes table) c.in-Some.ensures.items c.pending.invariant.turn) in
    keeps_transitive start.level (g.S.Successors.shape c.args.graph.now) (g.S.Successors.shape c.pending.graph) (g.S.Successors.shape c.follow-in-Some.new.graph)
    c.args.found.now.nodes.items nodes c.follow-in-Some.new.found.nodes.items table c.follow-in-Some.new.found.refusals.items c.pending.invariant.keeps
    (keeps_at_equal_level here.origin.level start.level _ _ nodes c.follow-in-Some.new.found.nodes.items c.follow-in-Some.new.found.refusals.items
    (turn.levels 0 here refl)
    (keeps_transitive here.origin.level (g.S.Successors.shape c.pending.graph) (g.S.Successors.shape c.follow.new.graph)
    (g.S.Successors.shape c.follow-in-Some.new.graph) nodes c.follow.new.found.nodes.items c.follow-in-Some.new.found.nodes.items
    c.follow.new.found.refusals.items c.follow-in-Some.new.found.refusals.items c.follow.ensures.keeps c.follow-in-Some.ensures.keeps))

pub pending-preserved-in-Some-None : goal.pending-preserved-in-Some-None
pending-preserved-in-Some-None g c =
    let start = c.args.start in
    let noted = (g.S.Successors.shape c.pending.graph).noted in
    let row = c.pending.opened.items in
    let nodes = c.pending.found.nodes.items in
    let table = c.pending.found.refusals.items in
    let here = c.in-Some.here in
    let turn : IsTurnSoFar noted start.thread start.level row nodes table (here ∷ c.pop.new.self.items) =
    so_far_last_put_first noted start.thread start.level row nodes table c.pop.new.self.items here
    (subst (IsTurnSoFar noted start.thread start.level row nodes table) c.in-Some.ensures.items c.pending.invariant.turn) in
    let i = c.pending.invariant in
    let a = c.follow.new in
    let last = (g.S.Successors.shape a.graph).noted in
    let thread = turn.threads 0 here refl in
    let level = turn.levels 0 here refl in
    let none : last here.origin.thread true here.node ≡ Some None =
    sym c.known.ensures ∙ c.in-Some-None.is ∙ ap Some c.in-Some-None.field-0-is in
    let both : (refused : Bool) → GoesTo (last here.origin.thread refused) (IsNodeOpen a.opened.items) here.node =
    both_bools_satisfy (λ refused. GoesTo (last here.origin.thread refused) (IsNodeOpen a.opened.items) here.node) c.in_ok-follow.ensures.follows (inl none) in
    record {
      turn = subst (λ z. IsTurnSoFar last z start.level a.opened.items a.found.nodes.items a.found.refusals.items a.found.pending.items) thread
          (subst (λ z. IsTurnSoFar last here.origin.thread z a.opened.items a.found.nodes.items a.found.refusals.items a.found.pending.items) level
          (so_far_without_first last here.origin.thread here.origin.level a.opened.items a.found.nodes.items a.found.refusals.items a.found.pending.items here
          c.in_ok-follow.ensures.turn both));
      opens = c.follow.ensures.stays start.from i.opens;
      stays = λ v is. c.follow.ensures.stays v (i.stays v is);
      nodes = c.in_ok-follow.ensures.nodes;
      keeps = keeps_transitive start.level (g.S.Successors.shape c.args.graph.now) (g.S.Successors.shape c.pending.graph) (g.S.Successors.shape a.graph)
          c.args.found.now.nodes.items nodes a.found.nodes.items table a.found.refusals.items i.keeps
          (keeps_at_equal_level here.origin.level start.level _ _ nodes a.found.nodes.items a.found.refusals.items level c.follow.ensures.keeps);
    }

pub pending-preserved : goal.pending-preserved
pending-preserved g c =
    let start = c.args.start in
    let noted = (g.S.Successors.shape c.pending.graph).noted in
    let row = c.pending.opened.items in
    let nodes = c.pending.found.nodes.items in
    let table = c.pending.found.refusals.items in
    let here = c.in-Some.here in
    let turn : IsTurnSoFar noted start.thread start.level row nodes table (here ∷ c.pop.new.self.items) =
    so_far_last_put_first noted start.thread start.level row nodes table c.pop.new.self.items here
    (subst (IsTurnSoFar noted start.thread start.level row nodes table) c.in-Some.ensures.items c.pending.invariant.turn) in
    let i = c.pending.invariant in
    let a = c.follow.new in
    let b = c.follow-in-Some.new in
    let last = (g.S.Successors.shape b.graph).noted in
    let thread = turn.threads 0 here refl in
    let level = turn.levels 0 here refl in
    let entered : GoesTo (last here.origin.thread false) (IsNodeOpen b.opened.items) here.node =
    goes_to_open_kept ((g.S.Successors.shape a.graph).noted here.origin.thread false) (last here.origin.thread false) a.opened.items b.opened.items here.node
    (c.follow-in-Some.ensures.keeps.grows.kept here.origin.thread false) c.follow-in-Some.ensures.stays c.in_ok-follow.ensures.follows in
    let both : (refused : Bool) → GoesTo (last here.origin.thread refused) (IsNodeOpen b.opened.items) here.node =
    both_bools_satisfy (λ refused. GoesTo (last here.origin.thread refused) (IsNodeOpen b.opened.items) here.node) entered c.in_ok-follow-2.ensures.follows in
    record {
      turn = subst (λ z. IsTurnSoFar last z start.level b.opened.items b.found.nodes.items b.found.refusals.items b.found.pending.items) thread
          (subst (λ z. IsTurnSoFar last here.origin.thread z b.opened.items b.found.nodes.items b.found.refusals.items b.found.pending.items) level
          (so_far_without_first last here.origin.thread here.origin.level b.opened.items b.found.nodes.items b.found.refusals.items b.found.pending.items here
          c.in_ok-follow-2.ensures.turn both));
      opens = c.follow-in-Some.ensures.stays start.from (c.follow.ensures.stays start.from i.opens);
      stays = λ v is. c.follow-in-Some.ensures.stays v (c.follow.ensures.stays v (i.stays v is));
      nodes = c.in_ok-follow-2.ensures.nodes;
      keeps = keeps_transitive start.level (g.S.Successors.shape c.args.graph.now) (g.S.Successors.shape c.pending.graph) (g.S.Successors.shape b.graph)
          c.args.found.now.nodes.items nodes b.found.nodes.items table b.found.refusals.items i.keeps
          (keeps_at_equal_level here.origin.level start.level _ _ nodes b.found.nodes.items b.found.refusals.items level
          (keeps_transitive here.origin.level (g.S.Successors.shape c.pending.graph) (g.S.Successors.shape a.graph) (g.S.Successors.shape b.graph)
          nodes a.found.nodes.items b.found.nodes.items a.found.refusals.items b.found.refusals.items c.follow.ensures.keeps c.follow-in-Some.ensures.keeps));
    }
