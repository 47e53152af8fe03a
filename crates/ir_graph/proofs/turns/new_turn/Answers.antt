use Rattle.std.proofs.Common.{◌≡◌, Some, true, false, length, get_or, refl, sym, ap, ◌∙◌, subst, arith}
use Rattle.std.specs.Prelude.{slice_get}
use Rattle.std.proofs.lemmas.List.{get_or_read, with_items_is}
use Rattle.ir_lemmas.proofs.CallerLemmas.{element_below_length}
use Rattle.ir_object.specs.Cell.{Cell}
use Rattle.ir_object.specs.Empty.{empty}
use Rattle.ir_world.specs.Sources.{Source}
use Rattle.ir_thread.specs.State.{ThreadState, ask_of}
use Rattle.ir_state_store.specs.Nodes.{HaveWords, cells_at}
use Rattle.ir_state_store.specs.Table.{idle_beside}
use Rattle.ir_state_store.proofs.CallerLemmas.{kept_element_is_equal}
use Rattle.ir_graph.specs.declared.known.Turn.{Turn}
use Rattle.ir_graph.specs.Ahead.{IsTurnOf}
use Rattle.ir_graph.specs.Hand.{IsHandOf}
use Rattle.ir_graph.specs.Lone.{AreAmong, MustWait, TakesTurn}
use Rattle.ir_graph.specs.Plain.{MayGo}
use Rattle.ir_graph.proofs.Gathered.{cells_at_spots_length, hand_begins_with_number, hand_is_nonempty, spots_exist_for_numbers}
use Rattle.ir_graph.proofs.Hand.{hand_at_spots, known_at_spots}
use Rattle.ir_graph.proofs.KnownTurns.{found_turn_is_turn, grows_transitive, pairs_grown, waiting_turn_is_turn}
use Rattle.ir_graph.proofs.LoneSteps.{turn_keeps_cell_count, form_kept_by_turn}
use Rattle.ir_graph.proofs.turns.new_turn.Goals as goal

pub objects_at-requires : goal.objects_at-requires
objects_at-requires c =
    let items = c.args.flats.now.items in
    let words = c.args.flats.now.shared.words in
    let numbers = c.in_ok-numbers.numbers.items in
    let f = element_below_length items c.args.way.node c.requires.node in
    subst (HaveWords words) (sym c.as_slice-2.ensures.value)
    (known_at_spots words f.0.flat.objects numbers c.in-Some-2.spots.items
    (spots_exist_for_numbers items c.args.way.node words c.as_slice.result.now numbers _ c.in-Some-2.spots f.0 c.in-Some-2.is c.as_slice.ensures.value
    c.in_ok-spots.ensures f.1))

pub index-requires : goal.index-requires
index-requires c =
    let items = c.args.flats.now.items in
    let words = c.args.flats.now.shared.words in
    let numbers = c.in_ok-numbers.numbers.items in
    let spots = c.in-Some-2.spots.items in
    let f = element_below_length items c.args.way.node c.requires.node in
    let there = spots_exist_for_numbers items c.args.way.node words c.as_slice.result.now numbers _ c.in-Some-2.spots f.0 c.in-Some-2.is c.as_slice.ensures.value
    c.in_ok-spots.ensures f.1 in
    let cells = c.in_ok-objects.ensures ∙ ap (cells_at words) c.as_slice-2.ensures.value in
    let many = cells_at_spots_length words f.0.flat.objects numbers spots c.in_ok-objects.objects.items c.in_ok-numbers.ensures.once there cells in
    omega (arith, many, hand_is_nonempty c.in-Some.number numbers c.in_ok-numbers.ensures, c.in_ok-objects.objects.ok.0)

pub turn_among-requires-clause-among : goal.turn_among-requires-clause-among
turn_among-requires-clause-among c =
    let items = c.args.flats.now.items in
    let words = c.args.flats.now.shared.words in
    let numbers = c.in_ok-numbers.numbers.items in
    let spots = c.in-Some-2.spots.items in
    let own = c.in_ok-own.own in
    let f = element_below_length items c.args.way.node c.requires.node in
    let there = spots_exist_for_numbers items c.args.way.node words c.as_slice.result.now numbers _ c.in-Some-2.spots f.0 c.in-Some-2.is c.as_slice.ensures.value
    c.in_ok-spots.ensures f.1 in
    let cells = c.in_ok-objects.ensures ∙ ap (cells_at words) c.as_slice-2.ensures.value in
    subst (λ n. AreAmong c.args.code.now n own.0 c.deref_mut.result.now) (sym c.as_slice-3.ensures.value)
    (subst (AreAmong c.args.code.now numbers own.0) (sym c.deref_mut.ensures.value) (record {
      flat = f.0.flat;
      thread = c.args.way.thread;
      is = (c.thread_number-from.ensures.sourced f.0 f.1).flat;
      runs = c.requires.code f.0 f.1;
      has_thread = c.requires.thread f.0 f.1;
      here = ap (λ (z : ThreadState × Source). z.0) (sym (c.in_ok-own.ensures.found ∙ c.thread_number-from.ensures.thread f.0 f.1));
      hand = subst (IsHandOf f.0.flat.objects numbers) (sym cells) (hand_at_spots words f.0.flat.objects numbers spots c.in_ok-numbers.ensures.once there);
    }))

pub add_thread-requires : goal.add_thread-requires
add_thread-requires c =
    sym (form_kept_by_turn c.args.code.now c.as_slice-3.result.now c.args.way.refused c.in_ok-own.own c.turn_among.new.own c.deref_mut.result.now
    c.turn_among.new.objects (c.turn_among.ensures c.if-not-turn_among.false))
    ∙ c.in_ok-own.ensures.form

pub returns-in_err-afters-clause-grows : goal.returns-in_err-afters-clause-grows
returns-in_err-afters-clause-grows c =
    grows_transitive c.args.flats.now.shared c.add_thread.new.self.shared c.add_objects.new.flats.shared c.add_thread.ensures.grows c.add_objects.ensures.grows

pub returns-clause-grows : goal.returns-clause-grows
returns-clause-grows c =
    grows_transitive c.args.flats.now.shared c.add_thread.new.self.shared c.add_objects.new.flats.shared c.add_thread.ensures.grows c.add_objects.ensures.grows

pub returns-then-waits-clause-turn : goal.returns-then-waits-clause-turn
returns-then-waits-clause-turn c = λ f at.
    let words = c.args.flats.now.shared.words in
    let refused = c.args.way.refused in
    let number = c.in-Some.number in
    let numbers = c.in_ok-numbers.numbers.items in
    let spots = c.in-Some-2.spots.items in
    let objects = c.in_ok-objects.objects.items in
    let there = spots_exist_for_numbers c.args.flats.now.items c.args.way.node words c.as_slice.result.now numbers _ c.in-Some-2.spots f c.in-Some-2.is
    c.as_slice.ensures.value c.in_ok-spots.ensures at in
    let cells = c.in_ok-objects.ensures ∙ ap (cells_at words) c.as_slice-2.ensures.value in
    let some = hand_is_nonempty number numbers c.in_ok-numbers.ensures in
    let many = cells_at_spots_length words f.flat.objects numbers spots objects c.in_ok-numbers.ensures.once there cells in
    let first = get_or_read objects 0 c.index.result.now (omega (arith, some, many)) c.index.ensures empty in
    let asked = subst (λ (z : ThreadState × Source). c.ask-asked.result ≡ ask_of c.args.code.now z.0) c.own.view_is c.ask-asked.ensures.value in
    let must : MustWait refused number (get_or objects 0 empty).fields (ask_of c.args.code.now c.in_ok-own.own.0) =
    subst (MustWait refused number (get_or objects 0 empty).fields) asked
    (subst (λ (k : Cell). MustWait refused number k.fields c.ask-asked.result) first (c.waits.ensures c.if-waits.true)) in
    let turn : Turn = record {
      from = c.thread_number-from.result;
      tries = c.in-Some.tries;
      refused = refused;
      waits = true;
      to = c.thread_number-from.result;
      numbers = c.in_ok-numbers.numbers;
      spots = c.in-Some-2.spots;
      afters = c.waiting_turn-turn.result.afters;
    } in
    subst (λ (z : Turn). IsTurnOf c.args.code.now c.args.flats.now.shared f c.args.way.thread refused z) (sym c.waiting_turn-turn.ensures.turn)
    (record {
      is = waiting_turn_is_turn c.args.code.now c.args.flats.now.shared turn refl refl c.waiting_turn-turn.ensures.none c.in_ok-own.own
          objects c.thread_number-from.ensures.within c.in_ok-own.ensures.found some
          c.in_ok-numbers.ensures.once (known_at_spots words f.flat.objects numbers spots there) cells
          (λ no. subst (λ q. MayGo true q → ⊥) asked (c.in-Some.ensures no))
          (subst (λ o. MustWait refused o (get_or objects 0 empty).fields (ask_of c.args.code.now c.in_ok-own.own.0))
          (sym (hand_begins_with_number number numbers c.in_ok-numbers.ensures)) must);
      from = record { way = refl; here = c.thread_number-from.ensures.thread f at; there = there };
    })

pub returns-clause-turn : goal.returns-clause-turn
returns-clause-turn c = λ f at.
    let code = c.args.code.now in
    let refused = c.args.way.refused in
    let old = c.args.flats.now.shared in
    let new = c.add_objects.new.flats.shared in
    let number = c.in-Some.number in
    let numbers = c.in_ok-numbers.numbers.items in
    let spots = c.in-Some-2.spots.items in
    let objects = c.in_ok-objects.objects in
    let own = c.in_ok-own.own in
    let later = c.turn_among.new.objects in
    let here = subst (λ z. slice_get z c.args.way.node ≡ Some f) (c.add_objects.ensures.items ∙ c.add_thread.ensures.items) at in
    let there = spots_exist_for_numbers c.args.flats.now.items c.args.way.node old.words c.as_slice.result.now numbers _ c.in-Some-2.spots f c.in-Some-2.is
    c.as_slice.ensures.value c.in_ok-spots.ensures here in
    let cells = c.in_ok-objects.ensures ∙ ap (cells_at old.words) c.as_slice-2.ensures.value in
    let asked = subst (λ (z : ThreadState × Source). c.ask-asked.result ≡ ask_of code z.0) c.own.view_is c.ask-asked.ensures.value in
    let all = grows_transitive old c.add_thread.new.self.shared new c.add_thread.ensures.grows c.add_objects.ensures.grows in
    let takes : TakesTurn code numbers refused own objects.items c.turn_among.new.own later =
    subst (λ n. TakesTurn code n refused own objects.items c.turn_among.new.own later) c.as_slice-3.ensures.value
    (subst (λ z. TakesTurn code c.as_slice-3.result.now refused own z c.turn_among.new.own later) c.deref_mut.ensures.value
    (c.turn_among.ensures c.if-not-turn_among.false)) in
    let many : length later ≡ length objects.items = turn_keeps_cell_count code numbers refused own c.turn_among.new.own objects.items later takes in
    let afters = c.in_ok-afters.ensures.found ∙ c.as_slice-4.ensures.value ∙ with_items_is objects later (many ∙ sym objects.ok.0) in
    record {
      is = found_turn_is_turn code old c.add_thread.new.self.shared new c.add_thread.ensures.grows c.add_objects.ensures.grows
          (record {
            from = c.thread_number-from.result;
            tries = c.in-Some.tries;
            refused = refused;
            waits = false;
            to = c.in_ok-to.to;
            numbers = c.in_ok-numbers.numbers;
            spots = c.in-Some-2.spots;
            afters = c.in_ok-afters.afters;
          }) refl own c.turn_among.new.own objects.items later c.thread_number-from.ensures.within c.in_ok-own.ensures.found
          (hand_is_nonempty number numbers c.in_ok-numbers.ensures) c.in_ok-numbers.ensures.once (known_at_spots old.words f.flat.objects numbers spots there)
          cells c.in_ok-to.ensures.within c.in_ok-to.ensures.found c.in_ok-afters.ensures.within afters
          (λ no. subst (λ q. MayGo true q → ⊥) asked (c.in-Some.ensures no)) takes;
      from = record {
        way = refl;
        here = kept_element_is_equal old.threads new.threads idle_beside all.threads c.thread_number-from.result c.thread_number-from.ensures.within
            ∙ c.thread_number-from.ensures.thread f here;
        there = pairs_grown old new all f.flat.objects numbers spots there;
      };
    }
