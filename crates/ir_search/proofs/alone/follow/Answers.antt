use Rattle.std.proofs.Common.{◌≡◌, ◌⊎◌, Bool, false, true, Some, [], ◌∷◌, ◌<◌, ◌≤◌, length, length-set, length-append, get_or, inl, inr, refl, sym, ap, ◌∙◌, subst, arith}
use Rattle.ir_search.specs.declared.found.Pending.{Pending}
use Rattle.ir_search.specs.TurnSoFar.{IsTurnSoFar, IsAfter}
use Rattle.ir_search.specs.Kept.{SearchKeeps}
use Rattle.ir_search.proofs.Opens.{Opening, opening_leaves_fewer, open_if_element_true}
use Rattle.ir_search.proofs.Kept.{keeps_without_nodes, keeps_after_going_on}
use Rattle.ir_search.proofs.Reached.{slice_get_some_below}
use Rattle.ir_search.proofs.TurnSoFar.{so_far_if_notes_kept, opened_row_long_as_nodes, joined_same_or_pushed, node_at_most_size, going_after_going_on}
use Rattle.ir_search.proofs.alone.follow.Goals as goal
use Rattle.ir_search.proofs.alone.follow.Goals.{else-node-len-via-then-node-len+else-index, else-node-len-via-else-node-len}

pub next-requires-clause-node : goal.next-requires-clause-node
next-requires-clause-node g c =
    let a = slice_get_some_below c.args.opened.now.items c.args.here.node true (c.requires.turn.opens 0 c.args.here refl) in
    let b = c.requires.turn.wide in let d = c.requires.nodes in omega (arith, a, b, d)

pub returns-in_err-node-clause-keeps : goal.returns-in_err-node-clause-keeps
returns-in_err-node-clause-keeps g c =
    keeps_without_nodes c.args.here.origin.level (g.S.Successors.shape c.args.graph.now) (g.S.Successors.shape c.next.new.self) c.args.found.now.nodes.items
    c.args.found.now.refusals.items c.requires.turn.reached c.requires.nodes c.next.ensures.grows c.next.ensures.room c.next.ensures.sound

pub returns-in_default-clause-turn : goal.returns-in_default-clause-turn
returns-in_default-clause-turn g c =
    so_far_if_notes_kept (g.S.Successors.shape c.args.graph.now).noted (g.S.Successors.shape c.next.new.self).noted c.args.here.origin.thread c.args.here.origin.level
    c.args.opened.now.items c.args.found.now.nodes.items c.args.found.now.refusals.items (c.args.here ∷ c.args.found.now.pending.items)
    c.next.ensures.grows.kept c.requires.turn

pub returns-in_default-clause-keeps : goal.returns-in_default-clause-keeps
returns-in_default-clause-keeps g c =
    keeps_without_nodes c.args.here.origin.level (g.S.Successors.shape c.args.graph.now) (g.S.Successors.shape c.next.new.self) c.args.found.now.nodes.items
    c.args.found.now.refusals.items c.requires.turn.reached c.requires.nodes c.next.ensures.grows c.next.ensures.room c.next.ensures.sound

pub returns-then-index-clause-turn : goal.returns-then-index-clause-turn
returns-then-index-clause-turn g c =
    so_far_if_notes_kept (g.S.Successors.shape c.args.graph.now).noted (g.S.Successors.shape c.next.new.self).noted c.args.here.origin.thread c.args.here.origin.level
    c.args.opened.now.items c.args.found.now.nodes.items c.args.found.now.refusals.items (c.args.here ∷ c.args.found.now.pending.items)
    c.next.ensures.grows.kept c.requires.turn

pub returns-then-index-clause-follows : goal.returns-then-index-clause-follows
returns-then-index-clause-follows g c =
    let l : c.in-Some.node < length c.args.opened.now.items =
    (let a = c.if-node-len.true in let b = c.len.ensures in let d = c.args.opened.now.ok.0 in omega (arith, a, b, d)) in
    inr (
      c.in-Some.node,
      c.in_ok-node.ensures.found ∙ ap Some c.in-Some.is,
      open_if_element_true c.args.opened.now.items c.in-Some.node c.index.result.now l (sym c.index.ensures ∙ c.if-index.true),
    )

pub returns-then-index-clause-keeps : goal.returns-then-index-clause-keeps
returns-then-index-clause-keeps g c =
    keeps_without_nodes c.args.here.origin.level (g.S.Successors.shape c.args.graph.now) (g.S.Successors.shape c.next.new.self) c.args.found.now.nodes.items
    c.args.found.now.refusals.items c.requires.turn.reached c.requires.nodes c.next.ensures.grows c.next.ensures.room c.next.ensures.sound

pub returns-in_err-origin-clause-keeps : goal.returns-in_err-origin-clause-keeps
returns-in_err-origin-clause-keeps g c =
    subst (λ z. SearchKeeps c.args.here.origin.level (g.S.Successors.shape c.args.graph.now) (g.S.Successors.shape c.next.new.self)
    (g.S.Successors.is_sound c.next.new.self) c.args.found.now.nodes.items c.args.found.now.nodes.items z) (sym c.in_err-origin.ensures.err)
    (keeps_without_nodes c.args.here.origin.level (g.S.Successors.shape c.args.graph.now) (g.S.Successors.shape c.next.new.self) c.args.found.now.nodes.items
    c.args.found.now.refusals.items c.requires.turn.reached c.requires.nodes c.next.ensures.grows c.next.ensures.room c.next.ensures.sound)

pub returns-in_err-open-clause-keeps : goal.returns-in_err-open-clause-keeps
returns-in_err-open-clause-keeps g c =
    let next : Pending = record { node = c.in-Some.node; origin = c.in_ok-origin.origin } in
    keeps_after_going_on (g.S.Successors.shape c.args.graph.now) (g.S.Successors.shape c.next.new.self) c.args.opened.now.items
    c.args.found.now.nodes.items c.open.new.found.nodes.items c.args.found.now.refusals.items c.open.new.found.refusals.items c.args.here
    c.args.found.now.pending.items c.args.refused next c.requires.turn c.next.ensures.grows
    (subst (λ z. IsAfter c.args.found.now.refusals.items z c.args.here.origin c.args.refused next.origin) (sym c.open.ensures.refusals)
    c.in_ok-origin.ensures.after)
    (c.in_ok-node.ensures.found ∙ ap Some c.in-Some.is)
    (joined_same_or_pushed c.args.opened.now.items c.args.found.now.nodes.items c.open.new.found.nodes.items next c.requires.turn.wide c.open.ensures.nodes)
    c.requires.nodes (c.in_ok-node.ensures.within c.in-Some.node c.in-Some.is) c.next.ensures.room c.next.ensures.sound

pub returns-clause-keeps : goal.returns-clause-keeps
returns-clause-keeps g c =
    let next : Pending = record { node = c.in-Some.node; origin = c.in_ok-origin.origin } in
    keeps_after_going_on (g.S.Successors.shape c.args.graph.now) (g.S.Successors.shape c.next.new.self) c.args.opened.now.items
    c.args.found.now.nodes.items c.open.new.found.nodes.items c.args.found.now.refusals.items c.open.new.found.refusals.items c.args.here
    c.args.found.now.pending.items c.args.refused next c.requires.turn c.next.ensures.grows
    (subst (λ z. IsAfter c.args.found.now.refusals.items z c.args.here.origin c.args.refused next.origin) (sym c.open.ensures.refusals)
    c.in_ok-origin.ensures.after)
    (c.in_ok-node.ensures.found ∙ ap Some c.in-Some.is)
    (joined_same_or_pushed c.args.opened.now.items c.args.found.now.nodes.items c.open.new.found.nodes.items next c.requires.turn.wide c.open.ensures.nodes)
    c.requires.nodes (c.in_ok-node.ensures.within c.in-Some.node c.in-Some.is) c.next.ensures.room c.next.ensures.sound

pub returns-clause-turn : goal.returns-clause-turn
returns-clause-turn g c =
    let next : Pending = record { node = c.in-Some.node; origin = c.in_ok-origin.origin } in
    let here : c.in-Some.node ≤ length c.args.opened.now.items =
    (let a = node_at_most_size (g.S.Successors.shape c.args.graph.now).size (g.S.Successors.shape c.next.new.self).size c.in-Some.node c.in_ok-node.field-0
    c.in_ok-node.ensures.added (c.in_ok-node.ensures.within c.in-Some.node c.in-Some.is) in
    let b = c.requires.nodes in let d = c.requires.turn.wide in omega (arith, a, b, d)) in
    let shut_there : ((d : Bool) × (c.in-Some.node < length c.args.opened.now.items) × (get_or c.args.opened.now.items c.in-Some.node d ≡ false))
    ⊎ (length c.args.opened.now.items ≤ c.in-Some.node) =
    elim c.else-node-len.branch [
      | else-node-len-via-then-node-len+else-index w ↦ inl (
        w.index.result.now,
        let a = w.if-node-len.true in let b = c.len.ensures in let d = c.args.opened.now.ok.0 in omega (arith, a, b, d),
        sym w.index.ensures ∙ w.if-index.false,
      )
      | else-node-len-via-else-node-len w ↦ inr (let a = w.if-node-len.false in let b = c.len.ensures in let d = c.args.opened.now.ok.0 in omega (arith, a, b, d))
    ] in
    let both : Opening c.args.opened.now.items c.open.new.opened.items next.node
    × (length c.open.new.opened.items ≡ length c.open.new.found.nodes.items) =
    opened_row_long_as_nodes c.args.opened.now.items c.open.new.opened.items c.args.found.now.nodes.items c.open.new.found.nodes.items next c.requires.turn.wide
    here shut_there c.in_ok-open.ensures.old c.in_ok-open.ensures.new in
    subst (λ z. IsTurnSoFar (g.S.Successors.shape c.next.new.self).noted c.args.here.origin.thread c.args.here.origin.level c.open.new.opened.items
    c.open.new.found.nodes.items c.open.new.found.refusals.items (c.args.here ∷ z)) (sym c.in_ok-open.ensures.pending)
    (going_after_going_on (g.S.Successors.shape c.args.graph.now).noted (g.S.Successors.shape c.next.new.self).noted c.args.opened.now.items
    c.args.found.now.nodes.items c.open.new.found.nodes.items c.args.found.now.refusals.items c.open.new.found.refusals.items c.args.here
    c.args.found.now.pending.items c.args.refused next c.requires.turn c.next.ensures.grows.kept
    (subst (λ z. IsAfter c.args.found.now.refusals.items z c.args.here.origin c.args.refused next.origin) (sym c.open.ensures.refusals)
    c.in_ok-origin.ensures.after)
    (c.in_ok-node.ensures.found ∙ ap Some c.in-Some.is)
    (joined_same_or_pushed c.args.opened.now.items c.args.found.now.nodes.items c.open.new.found.nodes.items next c.requires.turn.wide c.open.ensures.nodes)
    c.open.new.opened.items both.0 both.1)

pub returns-clause-follows : goal.returns-clause-follows
returns-clause-follows g c =
    let next : Pending = record { node = c.in-Some.node; origin = c.in_ok-origin.origin } in
    let here : c.in-Some.node ≤ length c.args.opened.now.items =
    (let a = node_at_most_size (g.S.Successors.shape c.args.graph.now).size (g.S.Successors.shape c.next.new.self).size c.in-Some.node c.in_ok-node.field-0
    c.in_ok-node.ensures.added (c.in_ok-node.ensures.within c.in-Some.node c.in-Some.is) in
    let b = c.requires.nodes in let d = c.requires.turn.wide in omega (arith, a, b, d)) in
    let shut_there : ((d : Bool) × (c.in-Some.node < length c.args.opened.now.items) × (get_or c.args.opened.now.items c.in-Some.node d ≡ false))
    ⊎ (length c.args.opened.now.items ≤ c.in-Some.node) =
    elim c.else-node-len.branch [
      | else-node-len-via-then-node-len+else-index w ↦ inl (
        w.index.result.now,
        let a = w.if-node-len.true in let b = c.len.ensures in let d = c.args.opened.now.ok.0 in omega (arith, a, b, d),
        sym w.index.ensures ∙ w.if-index.false,
      )
      | else-node-len-via-else-node-len w ↦ inr (let a = w.if-node-len.false in let b = c.len.ensures in let d = c.args.opened.now.ok.0 in omega (arith, a, b, d))
    ] in
    let both : Opening c.args.opened.now.items c.open.new.opened.items next.node
    × (length c.open.new.opened.items ≡ length c.open.new.found.nodes.items) =
    opened_row_long_as_nodes c.args.opened.now.items c.open.new.opened.items c.args.found.now.nodes.items c.open.new.found.nodes.items next c.requires.turn.wide
    here shut_there c.in_ok-open.ensures.old c.in_ok-open.ensures.new in
    inr (c.in-Some.node, c.in_ok-node.ensures.found ∙ ap Some c.in-Some.is, both.0.opens)

pub returns-clause-less : goal.returns-clause-less
returns-clause-less g c =
    let next : Pending = record { node = c.in-Some.node; origin = c.in_ok-origin.origin } in
    let here : c.in-Some.node ≤ length c.args.opened.now.items =
    (let a = node_at_most_size (g.S.Successors.shape c.args.graph.now).size (g.S.Successors.shape c.next.new.self).size c.in-Some.node c.in_ok-node.field-0
    c.in_ok-node.ensures.added (c.in_ok-node.ensures.within c.in-Some.node c.in-Some.is) in
    let b = c.requires.nodes in let d = c.requires.turn.wide in omega (arith, a, b, d)) in
    let shut_there : ((d : Bool) × (c.in-Some.node < length c.args.opened.now.items) × (get_or c.args.opened.now.items c.in-Some.node d ≡ false))
    ⊎ (length c.args.opened.now.items ≤ c.in-Some.node) =
    elim c.else-node-len.branch [
      | else-node-len-via-then-node-len+else-index w ↦ inl (
        w.index.result.now,
        let a = w.if-node-len.true in let b = c.len.ensures in let d = c.args.opened.now.ok.0 in omega (arith, a, b, d),
        sym w.index.ensures ∙ w.if-index.false,
      )
      | else-node-len-via-else-node-len w ↦ inr (let a = w.if-node-len.false in let b = c.len.ensures in let d = c.args.opened.now.ok.0 in omega (arith, a, b, d))
    ] in
    let both : Opening c.args.opened.now.items c.open.new.opened.items next.node
    × (length c.open.new.opened.items ≡ length c.open.new.found.nodes.items) =
    opened_row_long_as_nodes c.args.opened.now.items c.open.new.opened.items c.args.found.now.nodes.items c.open.new.found.nodes.items next c.requires.turn.wide
    here shut_there c.in_ok-open.ensures.old c.in_ok-open.ensures.new in
    let room : length c.open.new.opened.items ≤ (g.S.Successors.shape c.next.new.self).most =
    (let size = c.requires.nodes in let wide = c.requires.turn.wide in let grown = c.next.ensures.grows.grown in let most = c.next.ensures.room in
    elim shut_there [
      | inl p ↦
          let rows = ap length (c.in_ok-open.ensures.old p.1).0 in
          let set = length-set c.args.opened.now.items next.node true in omega (arith, size, wide, grown, most, rows, set)
      | inr late ↦
          let at : next.node ≡ length c.args.opened.now.items = omega (arith, late, here) in
          let rows = ap length (c.in_ok-open.ensures.new at).0 in
          let add = length-append c.args.opened.now.items (true ∷ []) in
          let inside = c.in_ok-node.ensures.within c.in-Some.node c.in-Some.is in omega (arith, size, wide, most, rows, add, at, inside)
    ]) in
    let less = opening_leaves_fewer (g.S.Successors.shape c.next.new.self).most c.args.opened.now.items c.open.new.opened.items next.node both.0 room in
    let limit = c.next.ensures.grows.limit in
    let more = ap length c.in_ok-open.ensures.pending in
    let one = length-append c.args.found.now.pending.items (next ∷ []) in
    omega (arith, less, limit, more, one)
