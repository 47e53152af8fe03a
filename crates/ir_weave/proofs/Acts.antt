-- Each step of the table keeps its rule.
use Rattle.std.proofs.Common.{◌≡◌, ℕ, suc, ◌+◌, ◌*◌, ◌/◌, ◌%◌, ◌^◌, ◌<◌, ◌≤◌, ◌==◌, eq-eqb, ne_eqb, Bool, true, false, List, [], ◌∷◌}
use Rattle.std.proofs.Common.{length, get_or, set, Option, Some, refl, sym, ap, ◌∙◌, subst, arith, inl, inr, get_or-set_same}
use Rattle.std.proofs.lemmas.List.{set-get_or}
use Rattle.std.specs.Prelude.{slice_get, slice_index}
use mathlib.Core.Option.{some, none}
use lib.ListN.{get_elem?}
use Rattle.atomic_table.specs.Table.{State, step, keeps, Allows}
use Rattle.atomic_table.proofs.Lists.{set_again}
use Rattle.ir_image.specs.Guest.{object_count, most_object_words}
use Rattle.ir_thread.specs.State.{ask_of, after_ask, shared_ask}
use Rattle.ir_thread.specs.Permitted.{Permits}
use Rattle.ir_thread.proofs.CallerLemmas.{ask_of_permitted}
use Rattle.ir_runs.specs.Machine.{act_of, target, emitted, LeftAt}
use Rattle.ir_thread.specs.State as thread
use Rattle.ir_runs.specs.declared.access.Access.{Access}
use Rattle.ir_runs.specs.declared.access.Access.TheVariants.{Reading, Writing}
use Rattle.ir_thread.specs.declared.ask.Ask.{Ask}
use Rattle.ir_thread.specs.declared.ask.Ask.TheVariants.{Enter, Try, Leave, Get, Put}
use Rattle.ir_thread.specs.declared.ask.Reply.TheVariants.{Value}
use Rattle.ir_object.specs.Cell.{Cell}
use Rattle.ir_object.specs.Standing.{Admitted as Enters}
use Rattle.ir_object.specs.declared.fields.Fields.{Fields}
use Rattle.ir_object.specs.Word.{reader_unit, left_unit, version_unit, inside_limit, left_limit, reader_leaves, IsFields, word_of_object, fields_of, entered_word, left_by, bit_of}
use Rattle.ir_flat.specs.Flat.{Flat, IsFlat, idle, thread_of, cell_of, inside_of, tables}
use Rattle.ir_flat.specs.Next.{next}
use Rattle.ir_runs.specs.Run.{count, label, end, trail, Emits, part}
use Rattle.ir_flat.proofs.CallerLemmas.{cell_counts_within, inside_within_threads, entered_fields_fit, left_fields_fit, flat_inside_can_leave, next_keeps_thread_count}
use Rattle.ir_log.specs.Asked.{ask_of as event_ask, SuitsEvent}
use Rattle.ir_log.proofs.CallerLemmas.{entry_event_asks_cases}
use Rattle.ir_log.specs.declared.event.Event.{Event}
use Rattle.ir_log.specs.declared.event.Event.TheVariants.{Answer as Answered, Read, Write, Try as Refused}
use Rattle.ir_trace.specs.Recorded.{recorded_thread}
use Rattle.ir_fit.specs.Fit.{FittedTrace, HasRun}
use Rattle.ir_cut.specs.Positions.{machine_of, start_of, EachRun, thread_at}
use Rattle.ir_runs.proofs.CallerLemmas.{admitted_persists, at_place_is_unique}
use Rattle.ir_weave.specs.Ahead.{IsRefusedTry, TouchesNoObject, NextTouchesNone, event_of, HasStep, IsAhead, IsEntering, IsNextObject, AreAlone}
use Rattle.ir_weave.specs.Standing.{IsStateAt, positions}
use Rattle.ir_object.specs.Layout.{word_place, content_place}
use Rattle.ir_weave.specs.Table.{IsTable, object_in}
use Rattle.ir_weave.specs.Woven.{View, trace_in, Met, progress, met_in, stood, AdmittedAt, Woven, Answers, IsEventAt, looked, stepped_on, read_version}
use Rattle.ir_weave.specs.declared.plan.Plan.{Plan}
use Rattle.ir_weave.specs.declared.plan.Progress.{Progress}
use Rattle.ir_weave.specs.Stepping.{LogsNext}
use Rattle.ir_weave.proofs.Behind.{guest_state_at_cut, tables_at_cut_are_end, admitted_logs_next}
use Rattle.ir_weave.proofs.Lone.{try_result}
use Rattle.ir_weave.proofs.Entries.{open_entry_is_admitted, shut_is_not_admitted, cell_is_open_or_not, open_by_equal_fields}
use Rattle.ir_weave.proofs.Forth.{StepGoesOn, CaughtUp, IsFree, state_thread_in_guest, logs_next_goes_on, admitted_goes_on, logging_try_result, free_step_is_admitted, catches_up_alone}
use Rattle.ir_weave.proofs.Moves.{IsFurther, further_not_lower, woven_after_seat_moves}
use Rattle.ir_weave.proofs.Words.{laid_after_object_word, laid_after_content_word, laid_after_same_word}

-- ---- the seat's thread, where it is ahead

seat_thread_catches_up : (k : Plan) (x : State (Unit {0}) View) (h : Woven k x) (id : ℕ) (q : Progress) (y : thread.ThreadState)
    → get_elem? x.views id ≡ some (q ∷ []) → IsAhead (trace_in k) q.thread q.position y → CaughtUp (trace_in k) h.state q.thread y
seat_thread_catches_up k x h id q y at ahead =
    let own = (h.tracks id (q ∷ []) at).0 in
    catches_up_alone (trace_in k) h.state q.thread y h.run h.flat h.at own.there ahead.at
    (subst (λ i. AreAlone (trace_in k) q.thread i y.steps) (sym own.position) ahead.alone)
    (subst (λ i. i ≤ y.steps) (sym own.position) ahead.past)

caught_up_seat_in_range : (k : Plan) (x : State (Unit {0}) View) (h : Woven k x) (id : ℕ) (q : Progress) (y : thread.ThreadState)
    → get_elem? x.views id ≡ some (q ∷ []) → (cu : CaughtUp (trace_in k) h.state q.thread y) → q.thread < length cu.state.threads
caught_up_seat_in_range k x h id q y at cu = let a = (h.tracks id (q ∷ []) at).0.there in let b = cu.size in omega (arith, a, b)

caught_up_is_further : (k : Plan) (x : State (Unit {0}) View) (h : Woven k x) (id : ℕ) (q : Progress) (y : thread.ThreadState)
    → get_elem? x.views id ≡ some (q ∷ []) → IsAhead (trace_in k) q.thread q.position y → (cu : CaughtUp (trace_in k) h.state q.thread y)
    → IsFurther (trace_in k) h.state cu.state q.thread
caught_up_is_further k x h id q y at ahead cu = record {
  flat = cu.flat;
  at = cu.at;
  size = cu.size;
  own = (let a = (h.tracks id (q ∷ []) at).0.position in let b = ap (λ (z : thread.ThreadState). z.steps) cu.own in let c = ahead.past in
      omega (arith, a, b, c));
  others = cu.others;
}

-- what it asks
caught_up_asks_same : (f : FittedTrace) (s : Flat) (t : ℕ) (y : thread.ThreadState) (q : Ask) → (cu : CaughtUp f s t y) → ask_of f.guest.code y ≡ q
    → ask_of cu.state.code (thread_of cu.state t) ≡ q
caught_up_asks_same f s t y q cu is = (λ i. ask_of (cu.at.code i) (cu.own i)) ∙ is

caught_up_has_step : (f : FittedTrace) (s : Flat) (t : ℕ) (y : thread.ThreadState) → (cu : CaughtUp f s t y) → HasStep f t y.steps
    → HasStep f t (positions cu.state t)
caught_up_has_step f s t y cu has run of = subst (λ (z : thread.ThreadState). z.steps < count (machine_of f) (start_of f) run t) (sym cu.own) (has run of)

-- where it touches an object, that is its next such step
pub step_is_next_on_object : (f : FittedTrace) (t i : ℕ) (y : thread.ThreadState) (q : Ask) → IsAhead f t i y → ask_of f.guest.code y ≡ q
    → (TouchesNoObject q (event_of f t y) → ⊥) → IsNextObject f t i y.steps
step_is_next_on_object f t i y q ahead is touches = record {
  past = ahead.past;
  alone = ahead.alone;
  touches = λ run of h. touches (subst (λ p. TouchesNoObject p (event_of f t y)) is (subst (NextTouchesNone f t) (sym (ahead.at run of).1) h));
}

-- a try that is refused enters nothing
refused_does_not_enter : (o : ℕ) (a : Access) (e : Event) → event_ask e ≡ Enter o a → IsRefusedTry (Some e) → ⊥
refused_does_not_enter o a (Answered kind value) enters h = h
refused_does_not_enter o a (Read object version) enters h = h
refused_does_not_enter o a (Write object version readers) enters h = h
refused_does_not_enter o a (Refused object) enters h = cc enters

-- what enters an object touches it
pub entering_is_not_alone : (q : Ask) (o : ℕ) (a : Access) (e : Event) (x : Option Event) → x ≡ Some e → SuitsEvent q e → event_ask e ≡ Enter o a
    → TouchesNoObject q x → ⊥
entering_is_not_alone q o a e x is suits enters h = elim (entry_event_asks_cases q o a e suits enters) [
  | inl same ↦ subst (λ p. TouchesNoObject p x) same h
  | inr same ↦ refused_does_not_enter o a e enters (subst IsRefusedTry is (subst (λ p. TouchesNoObject p x) same.0 h))
]

-- ---- words

pub cell_fields_in_range : (s : Flat) (o : ℕ) → IsFlat s → o < length s.objects → IsFields (cell_of s o).fields
cell_fields_in_range s o flat l = let all = cell_counts_within s o flat l in let few = inside_within_threads s o flat l in
    record { version = omega (arith, all); left = omega (arith, all); inside = omega (arith, few) }

bit_is_at_most_one : (b : Bool) → bit_of b ≤ 1
bit_is_at_most_one true = omega arith
bit_is_at_most_one false = omega arith

word_of_below_2_to_64 : (f : Fields) → IsFields f → word_of_object f < 2 ^ 64
word_of_below_2_to_64 f fits = let a = fits.version in let b = fits.left in let c = fits.inside in let d = bit_is_at_most_one f.writer in
    omega (arith, a, b, c, d)

low_bit-double_plus : (b : Bool) (w m : ℕ) → w ≡ 2 * m + bit_of b → (w % 2 == 1) ≡ b
low_bit-double_plus true w m is = eq-eqb (w % 2) 1 (omega (arith, is))
low_bit-double_plus false w m is = ne_eqb (w % 2) 1 (λ e. omega (arith, is, e))

pub fields_of_word_of : (f : Fields) → IsFields f → fields_of (word_of_object f) ≡ f
fields_of_word_of f fits =
    let a = fits.version in
    let b = fits.left in
    let c = fits.inside in
    let d = bit_is_at_most_one f.writer in
    let version : word_of_object f / version_unit ≡ f.version = omega (arith, a, b, c, d) in
    let left : word_of_object f / left_unit % left_limit ≡ f.left = omega (arith, a, b, c, d) in
    let inside : word_of_object f / reader_unit % inside_limit ≡ f.inside = omega (arith, a, b, c, d) in
    let writer : (word_of_object f % 2 == 1) ≡ f.writer =
    low_bit-double_plus f.writer (word_of_object f) (f.version * 2 ^ 31 + f.left * inside_limit + f.inside) (omega arith) in
    λ i. record { version = version i; left = left i; inside = inside i; writer = writer i }

fields_of-packed : (n : ℕ) (f : Fields) → IsFields f → n ≡ word_of_object f → fields_of n ≡ f
fields_of-packed n f fits is = ap fields_of is ∙ fields_of_word_of f fits

-- ---- a load before an entry

-- what a look meets
abbrev pub met_now : Progress → Flat → Met
met_now q s = record { state = record { threads = s.threads; objects = s.objects }; looks = suc q.looks }

pub look_word_allowed : (slots id o : ℕ) (a : Access) (e : Event) (y : thread.ThreadState) (q : Progress) (c : List (ℕ × Unit {0}))
    → IsAhead (trace_in q.plan) q.thread q.position y → o < object_count (trace_in q.plan).guest → IsEntering (trace_in q.plan) y o a e
    → Allows (Woven q.plan) slots id (q ∷ [], c) (word_place o) (λ n. n) (looked (step slots (word_place o) 0 0 none) (q ∷ [], c))
look_word_allowed slots id o a e y q c ahead inside entering x h homes at small =
    let k : Plan = q.plan in
    let f : FittedTrace = trace_in q.plan in
    let t : ℕ = q.thread in
    let cu : CaughtUp f h.state t y = seat_thread_catches_up k x h id q y at ahead in
    let n : ℕ = get_or x.words (word_place o) 0 in
    let l : o < length h.state.objects = (let e' = h.at.objects in omega (arith, e', inside)) in
    let here : positions cu.state t ≡ y.steps = ap (λ (z : thread.ThreadState). z.steps) cu.own in
    let rises : (u : ℕ) → stood (met_in q) u ≤ stood (met_now q cu.state) u =
    λ u. (let a = (h.tracks id (q ∷ []) at).0.met u in let b = further_not_lower f h.state cu.state t (caught_up_is_further k x h id q y at ahead cu) u in
    omega (arith, a, b)) in
    let same : fields_of n ≡ (cell_of cu.state o).fields =
    fields_of-packed n (cell_of h.state o).fields (cell_fields_in_range h.state o h.flat l) (h.table.heads o l)
    ∙ ap (λ cs. (object_in cs o).fields) (sym cu.objects) in
    let ask : ask_of cu.state.code (thread_of cu.state t) ≡ entering.asked = caught_up_asks_same f h.state t y entering.asked cu entering.asking.asks in
    let has : HasStep f t (positions cu.state t) =
    caught_up_has_step f h.state t y cu (subst (λ z. HasStep f z y.steps) ahead.number entering.asking.has) in
    let own_event : slice_get (recorded_thread f.recorded t).events y.events ≡ Some e =
    subst (λ z. slice_get (recorded_thread f.recorded z).events y.events ≡ Some e) ahead.number entering.event in
    let event : slice_get (recorded_thread f.recorded t).events (thread_of cu.state t).events ≡ Some e =
    ap (λ (z : thread.ThreadState). slice_get (recorded_thread f.recorded t).events z.events) cu.own ∙ own_event in
    let nexts : IsNextObject f t q.position y.steps = step_is_next_on_object f t q.position y entering.asked ahead
    entering.asking.asks (entering_is_not_alone entering.asked o a e (event_of f t y) own_event entering.suits entering.enters) in
    let emitted_event : IsEventAt f t y.steps e =
    λ run of. ap (λ (z : thread.ThreadState). slice_get (recorded_thread f.recorded t).events z.events) (sym (ahead.at run of).1)
    ∙ own_event in
    let table : IsTable cu.state.objects (set x.words (word_place o) n) =
    subst (λ cs. IsTable cs (set x.words (word_place o) n)) (sym cu.objects)
    (laid_after_same_word h.state.objects x.words (word_place o) h.table) in
    elim (cell_is_open_or_not (record { fields = fields_of n; words = [] }) e) [
      | inl yes' ↦ (
        progress k t y.steps true (met_now q cu.state) ∷ [],
        keeps,
        tt,
        woven_after_seat_moves k x h id q at cu.state (caught_up_is_further k x h id q y at ahead cu) y.steps here true
            (λ on. open_entry_is_admitted f cu.state t o a e entering.asked h.run cu.flat cu.at (caught_up_seat_in_range k x h id q y at cu) ask has event
            entering.suits entering.enters
            (open_by_equal_fields (record { fields = fields_of n; words = [] }) (cell_of cu.state o) e same yes'))
            (met_now q cu.state) (λ u. omega arith) (set x.words (word_place o) n) x.homes table,
        (y.steps, e, nexts, emitted_event, record { cut = rises; looks = omega arith }, (λ b. refl), (λ no'. absurd (no' yes'))),
      )
      | inr no' ↦ (
        progress k t y.steps false (met_now q cu.state) ∷ [],
        keeps,
        tt,
        woven_after_seat_moves k x h id q at cu.state (caught_up_is_further k x h id q y at ahead cu) y.steps here false (λ on. absurd (cc on))
            (met_now q cu.state) (λ u. omega arith) (set x.words (word_place o) n) x.homes table,
        (
          y.steps,
          e,
          nexts,
          emitted_event,
          record { cut = rises; looks = omega arith },
          (λ yes'. absurd (no' yes')),
          (λ b. (
            refl,
            record {
              cut = positions cu.state;
              is_cut = λ run of. (cu.at.each run of).cut;
              consistent = λ run of. (cu.at.each run of).consistent;
              above = λ u. (let p = h.above u in let r = further_not_lower f h.state cu.state t (caught_up_is_further k x h id q y at ahead cu) u in
                  omega (arith, p, r));
              here = here;
              stopped = shut_is_not_admitted f cu.state t o a e entering.asked h.run cu.flat cu.at (caught_up_seat_in_range k x h id q y at cu) ask has event
                  entering.suits entering.enters
                  (λ yes'. no' (open_by_equal_fields (cell_of cu.state o) (record { fields = fields_of n; words = [] }) e (sym same) yes'));
            },
            record { above = rises; met = λ u. refl; looked = omega arith },
          )),
        ),
      )
    ]

-- ---- a step on an object

-- what thread t is answered when it reads a word
get_answers_cell_word : (s : Flat) (t v o i : ℕ) → t < length s.threads
    → thread_of (next s t v (Get o i)) t ≡ after_ask s.code (thread_of s t) (Get o i) (Value (slice_index (cell_of s o).words i))
get_answers_cell_word s t v o i l = get_or-set_same s.threads t
    (after_ask s.code (thread_of s t) (Get o i) (Value (slice_index (cell_of s o).words i))) idle l

cell_word_answers_get : (f : FittedTrace) (s : Flat) (t : ℕ) (y : thread.ThreadState) (q : Ask) (cu : CaughtUp f s t y) (v n : ℕ) → t < length cu.state.threads
    → StepGoesOn f cu.state t v q → ask_of f.guest.code y ≡ q
    → ((o i : ℕ) → q ≡ Get o i → (n < 2 ^ 32) × (n ≡ slice_index (cell_of cu.state o).words i)) → Answers f t y.steps n
cell_word_answers_get f s t y q cu v n l g is found run of o i asks =
    let own : thread_of cu.state t ≡ thread_at f run t y.steps = (cu.at.each run of).threads t
    ∙ ap (λ (z : thread.ThreadState). thread_at f run t z.steps) cu.own in
    let get : q ≡ Get o i = sym is ∙ ap (ask_of f.guest.code) (sym cu.own ∙ own) ∙ asks in
    let more : positions (next cu.state t v q) t ≡ suc y.steps = g.own
    ∙ (let e = ap (λ (z : thread.ThreadState). z.steps) cu.own in let r : positions cu.state t + 1 ≡ suc y.steps = omega (arith, e) in r) in (
      (found o i get).0,
      ap (thread_at f run t) (sym more) ∙ sym ((g.at.each run of).threads t) ∙ ap (λ z. thread_of (next cu.state t v z) t) get
          ∙ get_answers_cell_word cu.state t v o i l
          ∙ (λ j. after_ask (cu.at.code j) (own j) (Get o i) (Value (sym (found o i get).1 j))),
    )

-- the table after it
woven_after_object_step : (slots id word first second : ℕ) (q : Progress) (c : List (ℕ × Unit {0})) (x : State (Unit {0}) View) (h : Woven q.plan x)
    → get_elem? x.views id ≡ some (q ∷ []) → (y : thread.ThreadState) → IsAhead (trace_in q.plan) q.thread q.position y
    → (asked : Ask) → (TouchesNoObject asked (event_of (trace_in q.plan) q.thread y) → ⊥) → ask_of (trace_in q.plan).guest.code y ≡ asked
    → (cu : CaughtUp (trace_in q.plan) h.state q.thread y) → (v : ℕ) → StepGoesOn (trace_in q.plan) cu.state q.thread v asked
    → (n : ℕ) → ((o i : ℕ) → asked ≡ Get o i → (n < 2 ^ 32) × (n ≡ slice_index (cell_of cu.state o).words i)) → (ws : List ℕ)
    → IsTable (next cu.state q.thread v asked).objects ws
    → (w : View) × Woven q.plan (record { words = ws; homes = x.homes; views = set x.views id w })
    × stepped_on (step slots word first second none) (q ∷ [], c) n (w, c)
woven_after_object_step slots id word first second q c x h at y ahead asked touches is cu v g n found ws table =
    let k : Plan = q.plan in
    let f : FittedTrace = trace_in q.plan in
    let t : ℕ = q.thread in
    let before : positions cu.state t ≡ y.steps = ap (λ (z : thread.ThreadState). z.steps) cu.own in
    let own = g.own in
    let further : IsFurther f h.state (next cu.state t v asked) t = record {
      flat = g.flat;
      at = g.at;
      size = next_keeps_thread_count cu.state t v asked ∙ cu.size;
      own = (let a = (h.tracks id (q ∷ []) at).0.position in let b = ahead.past in omega (arith, own, before, a, b));
      others = λ u ne. g.others u ne ∙ cu.others u ne;
    } in (
      progress k t (suc y.steps) false (met_in q) ∷ [],
      woven_after_seat_moves k x h id q at (next cu.state t v asked) further (suc y.steps) (omega (arith, own, before)) false (λ on. absurd (cc on)) (met_in q)
          (λ u. (let a = (h.tracks id (q ∷ []) at).0.met u in let b = further_not_lower f h.state (next cu.state t v asked) t further u in
          omega (arith, a, b))) ws x.homes table,
      (
        y.steps,
        step_is_next_on_object f t q.position y asked ahead is touches,
        refl,
        cell_word_answers_get f h.state t y asked cu v n (caught_up_seat_in_range k x h id q y at cu) g
            is found,
      ),
    )

-- an entry that was granted
abbrev pub word_added_by_entry : Access → ℕ
word_added_by_entry Reading = 2
word_added_by_entry Writing = 1

word_plus_entry_is_word : (n : ℕ) (a : Access) (s : Flat) (o : ℕ) → IsFlat s → o < length s.objects → n ≡ word_of_object (cell_of s o).fields
    → Enters a (cell_of s o).fields → (n + word_added_by_entry a) % 2 ^ 64 ≡ word_of_object (entered_word a (cell_of s o).fields)
word_plus_entry_is_word n Reading s o flat l is may =
    let small = word_of_below_2_to_64 (entered_word Reading (cell_of s o).fields) (entered_fields_fit s o Reading flat l) in
    let e : word_of_object (entered_word Reading (cell_of s o).fields) ≡ word_of_object (cell_of s o).fields + 2 = omega arith in
    omega (arith, is, e, small)
word_plus_entry_is_word n Writing s o flat l is may =
    let small = word_of_below_2_to_64 (entered_word Writing (cell_of s o).fields) (entered_fields_fit s o Writing flat l) in
    let none : bit_of (cell_of s o).fields.writer ≡ 0 = ap bit_of may.0 in
    let e : word_of_object (entered_word Writing (cell_of s o).fields) ≡ word_of_object (cell_of s o).fields + 1 = omega (arith, none) in
    omega (arith, is, e, small)

-- a try that is logged as an entry has the result 1
entering_try_result : (e : Event) (o : ℕ) (a : Access) → SuitsEvent (Try o) e → event_ask e ≡ Enter o a → try_result e ≡ 1
entering_try_result (Answered kind value) o a suits enters = absurd (cc enters)
entering_try_result (Read object version) o a (inl is) enters = absurd (cc is)
entering_try_result (Read object version) o a (inr is) enters = absurd (cc is)
entering_try_result (Write object version readers) o a suits enters = refl
entering_try_result (Refused object) o a suits enters = absurd (cc enters)

-- what thread t is after it entered the object by what it asked
record EnteredBy (f : FittedTrace) (s : Flat) (t o : ℕ) (a : Access) (q : Ask) : Type 0 where
  result : ℕ
  goes : StepGoesOn f s t result q
  may : Enters a (cell_of s o).fields
  objects : (next s t result q).objects ≡ set s.objects o (record (cell_of s o) { fields = entered_word a (cell_of s o).fields })

admitted_entry_enters : (f : FittedTrace) (s : Flat) (t o : ℕ) (a : Access) (e : Event) (q : Ask) → HasRun f → IsFlat s → IsStateAt f (positions s) s
    → t < length s.threads → ask_of s.code (thread_of s t) ≡ q
    → slice_get (recorded_thread f.recorded t).events (thread_of s t).events ≡ Some e → SuitsEvent q e → event_ask e ≡ Enter o a
    → AdmittedAt f (positions s) t → EnteredBy f s t o a q
admitted_entry_enters f s t o a e q h flat at l is event suits enters ad = elim (entry_event_asks_cases q o a e suits enters) [
  | inl same ↦
      let goes = admitted_goes_on f s t (Enter o a) h flat at l (sym (is ∙ same)) ad in
      subst (EnteredBy f s t o a) (sym same) (record { result = goes.0; goes = goes.1; may = goes.1.may; objects = refl })
  | inr same ↦
      let some = admitted_logs_next f s at h.run h.whole t (state_thread_in_guest f s t at l) (ad h.run h.whole) in
      let one : some.0 ≡ 1 = logging_try_result f.recorded s t some.0 o e (is ∙ same.0) event some.1 ∙ entering_try_result e o a (subst (λ p. SuitsEvent p e) same.0 suits) enters in
      let goes : StepGoesOn f s t 1 (Try o) = logs_next_goes_on f s t 1 (Try o) flat at l (sym (is ∙ same.0)) (λ run of. (ad run of).0)
      (subst (LogsNext f.recorded s t) one some.1) in
      let writes : EnteredBy f s t o Writing (Try o) = record { result = 1; goes = goes; may = goes.may; objects = refl } in
      subst (λ (z : Access × Ask). EnteredBy f s t o z.0 z.1) (λ i. (sym same.1 i, sym same.0 i)) writes
]

pub granted_entry_allowed : (slots id o : ℕ) (a : Access) (e : Event) (y : thread.ThreadState) (q : Progress) (c : List (ℕ × Unit {0}))
    → IsAhead (trace_in q.plan) q.thread q.position y → o < object_count (trace_in q.plan).guest
    → IsEntering (trace_in q.plan) y o a e
    → q.granted ≡ true → q.position ≡ y.steps → Allows (Woven q.plan) slots id (q ∷ [], c) (word_place o) (λ n. (n + word_added_by_entry a) % 2 ^ 64)
    (stepped_on (step slots (word_place o) (word_added_by_entry a) 0 none) (q ∷ [], c))
granted_entry_allowed slots id o a e y q c ahead inside entering granted here x h homes at small =
    let f : FittedTrace = trace_in q.plan in
    let t : ℕ = q.thread in
    let asked : Ask = entering.asked in
    let is = entering.asking.asks in
    let cu : CaughtUp f h.state t y = seat_thread_catches_up q.plan x h id q y at ahead in
    let own = (h.tracks id (q ∷ []) at).0 in
    let n : ℕ = get_or x.words (word_place o) 0 in
    let l : o < length h.state.objects = (let e' = h.at.objects in omega (arith, e', inside)) in
    let m : o < length cu.state.objects = (let e' = ap (λ (cs : List Cell). length cs) cu.objects in omega (arith, e', l)) in
    let still : positions cu.state t ≡ positions h.state t = ap (λ (z : thread.ThreadState). z.steps) cu.own ∙ sym here ∙ sym own.position in
    let ad : AdmittedAt f (positions cu.state) t =
    λ run of. admitted_persists (machine_of f) (start_of f) run (positions h.state) (positions cu.state) t (own.granted granted run of)
    (cu.at.each run of).consistent (further_not_lower f h.state cu.state t (caught_up_is_further q.plan x h id q y at ahead cu)) still in
    let own_event : event_of f t y ≡ Some e =
    subst (λ z. slice_get (recorded_thread f.recorded z).events y.events ≡ Some e) ahead.number entering.event in
    let made_by : EnteredBy f cu.state t o a asked = admitted_entry_enters f cu.state t o a e asked h.run cu.flat cu.at (caught_up_seat_in_range q.plan x h id q y at cu)
    (caught_up_asks_same f h.state t y asked cu is)
    (ap (λ (z : thread.ThreadState). slice_get (recorded_thread f.recorded t).events z.events) cu.own ∙ own_event) entering.suits entering.enters
    ad in
    let found : n ≡ word_of_object (cell_of cu.state o).fields = h.table.heads o l ∙ ap (λ cs. word_of_object (object_in cs o).fields) (sym cu.objects) in
    let table : IsTable cu.state.objects x.words = subst (λ cs. IsTable cs x.words) (sym cu.objects) h.table in
    let ws : List ℕ = set x.words (word_place o) ((n + word_added_by_entry a) % 2 ^ 64) in
    let made = woven_after_object_step slots id (word_place o) (word_added_by_entry a) 0 q c x h at y ahead asked
    (entering_is_not_alone asked o a e (event_of f t y) own_event entering.suits entering.enters) is cu made_by.result made_by.goes n
    (λ p i get. absurd (elim (entry_event_asks_cases asked o a e entering.suits entering.enters) [
      | inl same ↦ (let z : Enter o a ≡ Get p i = sym same ∙ get in cc z)
      | inr same ↦ (let z : Try o ≡ Get p i = sym same.0 ∙ get in cc z)
    ])) ws
    (subst (λ cs. IsTable cs ws) (sym made_by.objects)
    (laid_after_object_word cu.state.objects x.words o ((n + word_added_by_entry a) % 2 ^ 64)
    (record (cell_of cu.state o) { fields = entered_word a (cell_of cu.state o).fields }) table m
    (word_plus_entry_is_word n a cu.state o cu.flat m found made_by.may) refl)) in
    (made.0, keeps, tt, made.1, made.2)

-- ---- leaves, and words of contents

-- what a step that is no entry may do
step_goes_on_if_free : (k : Plan) (x : State (Unit {0}) View) (h : Woven k x) (id : ℕ) (q : Progress) (y : thread.ThreadState)
    → get_elem? x.views id ≡ some (q ∷ []) → (cu : CaughtUp (trace_in k) h.state q.thread y) → (asked : Ask)
    → IsFree asked (event_of (trace_in k) q.thread (thread_of cu.state q.thread))
    → ask_of (trace_in k).guest.code y ≡ asked → HasStep (trace_in k) q.thread y.steps → (v : ℕ)
    × StepGoesOn (trace_in k) cu.state q.thread v asked
step_goes_on_if_free k x h id q y at cu asked free is has =
    let ask = caught_up_asks_same (trace_in k) h.state q.thread y asked cu is in
    admitted_goes_on (trace_in k) cu.state q.thread asked h.run cu.flat cu.at (caught_up_seat_in_range k x h id q y at cu) (sym ask)
    (free_step_is_admitted (trace_in k) cu.state q.thread cu.at (caught_up_has_step (trace_in k) h.state q.thread y cu has)
    (state_thread_in_guest (trace_in k) cu.state q.thread cu.at (caught_up_seat_in_range k x h id q y at cu))
    (subst (λ p. IsFree p (event_of (trace_in k) q.thread (thread_of cu.state q.thread))) (sym ask) free))

-- a thread that leaves is inside
leaving_is_inside : (s : Flat) (t o : ℕ) (a : Access) → ask_of s.code (thread_of s t) ≡ Leave o a → inside_of s o t ≡ Some a
leaving_is_inside s t o a is = (subst (Permits (thread_of s t)) is (ask_of_permitted s.code (thread_of s t))).2

pub read_leave_is_allowed : (slots id o : ℕ) (y : thread.ThreadState) (q : Progress) (c : List (ℕ × Unit {0}))
    → IsAhead (trace_in q.plan) q.thread q.position y → o < object_count (trace_in q.plan).guest
    → ask_of (trace_in q.plan).guest.code y ≡ Leave o Reading
    → HasStep (trace_in q.plan) q.thread y.steps
    → Allows (Woven q.plan) slots id (q ∷ [], c) (word_place o) (λ n. (n + reader_leaves) % 2 ^ 64)
    (stepped_on (step slots (word_place o) reader_leaves 0 none) (q ∷ [], c))
read_leave_is_allowed slots id o y q c ahead inside is has x h homes at small =
    let f : FittedTrace = trace_in q.plan in
    let t : ℕ = q.thread in
    let cu : CaughtUp f h.state t y = seat_thread_catches_up q.plan x h id q y at ahead in
    let n : ℕ = get_or x.words (word_place o) 0 in
    let l : o < length h.state.objects = (let e = h.at.objects in omega (arith, e, inside)) in
    let m : o < length cu.state.objects = (let e = ap (λ (cs : List Cell). length cs) cu.objects in omega (arith, e, l)) in
    let goes = step_goes_on_if_free q.plan x h id q y at cu (Leave o Reading) tt is has in
    let ask = caught_up_asks_same f h.state t y (Leave o Reading) cu is in
    let found : n ≡ word_of_object (cell_of cu.state o).fields = h.table.heads o l ∙ ap (λ cs. word_of_object (object_in cs o).fields) (sym cu.objects) in
    let table : IsTable cu.state.objects x.words = subst (λ cs. IsTable cs x.words) (sym cu.objects) h.table in
    let allowed : 0 < (cell_of cu.state o).fields.inside =
    flat_inside_can_leave cu.state t o Reading cu.flat (caught_up_seat_in_range q.plan x h id q y at cu) m (leaving_is_inside cu.state t o Reading ask) in
    let fits = word_of_below_2_to_64 (left_by Reading (cell_of cu.state o).fields) (left_fields_fit cu.state o Reading cu.flat m) in
    let less : word_of_object (left_by Reading (cell_of cu.state o).fields) ≡ word_of_object (cell_of cu.state o).fields + reader_leaves = omega
    (arith, allowed) in
    let sum : (n + reader_leaves) % 2 ^ 64 ≡ word_of_object (left_by Reading (cell_of cu.state o).fields) = omega (arith, found, less, fits) in
    let made = woven_after_object_step slots id (word_place o) reader_leaves 0 q c x h at y ahead (Leave o Reading) (λ b. b) is cu goes.0 goes.1 n
    (λ p i e. absurd (cc e)) (set x.words (word_place o) ((n + reader_leaves) % 2 ^ 64))
    (laid_after_object_word cu.state.objects x.words o ((n + reader_leaves) % 2 ^ 64)
    (record (cell_of cu.state o) { fields = left_by Reading (cell_of cu.state o).fields }) table m sum refl) in
    (made.0, keeps, tt, made.1, made.2)

-- what a writer's leave emits
write_leave_emits : (f : FittedTrace) (s : Flat) (t o : ℕ) → IsStateAt f (positions s) s → ask_of s.code (thread_of s t) ≡ Leave o Writing
    → AdmittedAt f (positions s) t
    → EachRun f (λ run. Emits (machine_of f) (start_of f) run t (positions s t) (LeftAt o Writing (cell_of s o).fields.version))
write_leave_emits f s t o at is ad run of =
    let some = (guest_state_at_cut f run of (positions s) (at.each run of).cut (at.each run of).consistent).steps t (ad run of) in
    let emitted_is : label (machine_of f) (end (machine_of f) (start_of f) (part run (positions s))) (t, some.0) ≡ LeftAt o Writing
    (cell_of s o).fields.version =
    ap (λ z. label (machine_of f) z (t, some.0)) (sym (tables_at_cut_are_end f (positions s) s run of (at.each run of)))
    ∙ ap (λ a. emitted (act_of (shared_ask a) some.0) ((tables s).objects (target (act_of (shared_ask a) some.0))))
    (ap (λ code. ask_of code (thread_of s t)) (sym at.code) ∙ is) in
    subst (Emits (machine_of f) (start_of f) run t (positions s t)) emitted_is some.3

pub version_load_allowed : (slots id o : ℕ) (y : thread.ThreadState) (q : Progress) (c : List (ℕ × Unit {0}))
    → IsAhead (trace_in q.plan) q.thread q.position y → o < object_count (trace_in q.plan).guest
    → ask_of (trace_in q.plan).guest.code y ≡ Leave o Writing
    → HasStep (trace_in q.plan) q.thread y.steps
    → Allows (Woven q.plan) slots id (q ∷ [], c) (word_place o) (λ n. n) (read_version (step slots (word_place o) 0 0 none) (q ∷ [], c))
version_load_allowed slots id o y q c ahead inside is has x h homes at small =
    let f : FittedTrace = trace_in q.plan in
    let t : ℕ = q.thread in
    let cu : CaughtUp f h.state t y = seat_thread_catches_up q.plan x h id q y at ahead in
    let n : ℕ = get_or x.words (word_place o) 0 in
    let l : o < length h.state.objects = (let e = h.at.objects in omega (arith, e, inside)) in
    let ask = caught_up_asks_same f h.state t y (Leave o Writing) cu is in
    let same : fields_of n ≡ (cell_of cu.state o).fields =
    fields_of-packed n (cell_of h.state o).fields (cell_fields_in_range h.state o h.flat l) (h.table.heads o l)
    ∙ ap (λ cs. (object_in cs o).fields) (sym cu.objects) in
    let emits = write_leave_emits f cu.state t o cu.at ask
    (free_step_is_admitted f cu.state t cu.at (caught_up_has_step f h.state t y cu has) (state_thread_in_guest f cu.state t cu.at (caught_up_seat_in_range q.plan x h id q y at cu))
    (subst (λ p. IsFree p (event_of f t (thread_of cu.state t))) (sym ask) tt)) in
    let kept : Woven q.plan (record { words = set x.words (word_place o) n; homes = x.homes; views = set x.views id (q ∷ []) }) =
    subst (λ (z : List ℕ × List View). Woven q.plan (record { words = z.0; homes = x.homes; views = z.1 }))
    (λ i. (sym (set-get_or x.words (word_place o) 0) i, sym (set_again x.views id (q ∷ []) at) i)) h in (
      q ∷ [],
      keeps,
      tt,
      kept,
      (
        y.steps,
        step_is_next_on_object f t q.position y (Leave o Writing) ahead is (λ b. b),
        refl,
        (let all = cell_counts_within h.state o h.flat l in let word = h.table.heads o l in omega (arith, all, word)),
        (λ run of p word asked.
            let o_is : o ≡ p = omega (arith, word) in
            let v_is : (cell_of cu.state o).fields.version ≡ n / version_unit = ap (λ (z : Fields). z.version) (sym same) in
            subst (λ (z : ℕ × ℕ × ℕ). Emits (machine_of f) (start_of f) run t z.0 (LeftAt z.1 Writing z.2))
            (λ i. (ap (λ (z : thread.ThreadState). z.steps) cu.own i, o_is i, v_is i)) (emits run of)),
      ),
    )

pub write_leave_is_allowed : (slots id o v : ℕ) (y : thread.ThreadState) (q : Progress) (c : List (ℕ × Unit {0}))
    → IsAhead (trace_in q.plan) q.thread q.position y → o < object_count (trace_in q.plan).guest
    → ask_of (trace_in q.plan).guest.code y ≡ Leave o Writing
    → HasStep (trace_in q.plan) q.thread y.steps
    → EachRun (trace_in q.plan) (λ run. Emits (machine_of (trace_in q.plan)) (start_of (trace_in q.plan)) run q.thread y.steps
    (LeftAt o Writing v))
    → Allows (Woven q.plan) slots id (q ∷ [], c) (word_place o) (λ _. (v + 1) * version_unit)
    (λ _. stepped_on (step slots (word_place o) ((v + 1) * version_unit) 0 none) (q ∷ [], c) ((v + 1) * version_unit))
write_leave_is_allowed slots id o v y q c ahead inside is has emits x h homes at small =
    let f : FittedTrace = trace_in q.plan in
    let t : ℕ = q.thread in
    let cu : CaughtUp f h.state t y = seat_thread_catches_up q.plan x h id q y at ahead in
    let w : ℕ = (v + 1) * version_unit in
    let l : o < length h.state.objects = (let e = h.at.objects in omega (arith, e, inside)) in
    let m : o < length cu.state.objects = (let e = ap (λ (cs : List Cell). length cs) cu.objects in omega (arith, e, l)) in
    let goes = step_goes_on_if_free q.plan x h id q y at cu (Leave o Writing) tt is has in
    let ask = caught_up_asks_same f h.state t y (Leave o Writing) cu is in
    let own = write_leave_emits f cu.state t o cu.at ask
    (free_step_is_admitted f cu.state t cu.at (caught_up_has_step f h.state t y cu has) (state_thread_in_guest f cu.state t cu.at (caught_up_seat_in_range q.plan x h id q y at cu))
    (subst (λ p. IsFree p (event_of f t (thread_of cu.state t))) (sym ask) tt)) h.run.run h.run.whole in
    let mine : Emits (machine_of f) (start_of f) h.run.run t y.steps (LeftAt o Writing (cell_of cu.state o).fields.version) =
    subst (λ z. Emits (machine_of f) (start_of f) h.run.run t z (LeftAt o Writing (cell_of cu.state o).fields.version))
    (ap (λ (z : thread.ThreadState). z.steps) cu.own) own in
    let emitted' = emits h.run.run h.run.whole in
    let labels : LeftAt o Writing v ≡ LeftAt o Writing (cell_of cu.state o).fields.version =
    ap (λ z. z.1) (at_place_is_unique (trail (machine_of f) (start_of f) h.run.run t) y.steps (emitted'.0, LeftAt o Writing v)
    (mine.0, LeftAt o Writing (cell_of cu.state o).fields.version) emitted'.1 mine.1) in
    let version : v ≡ (cell_of cu.state o).fields.version = cc labels in
    let table : IsTable cu.state.objects x.words = subst (λ cs. IsTable cs x.words) (sym cu.objects) h.table in
    let word : w ≡ word_of_object (left_by Writing (cell_of cu.state o).fields) = omega (arith, version) in
    let made = woven_after_object_step slots id (word_place o) w 0 q c x h at y ahead (Leave o Writing) (λ b. b) is cu goes.0 goes.1 w
    (λ p i e. absurd (cc e)) (set x.words (word_place o) w)
    (laid_after_object_word cu.state.objects x.words o w (record (cell_of cu.state o) { fields = left_by Writing (cell_of cu.state o).fields }) table
    m word refl) in
    (made.0, keeps, tt, made.1, made.2)

pub get_is_allowed : (slots id o i : ℕ) (y : thread.ThreadState) (q : Progress) (c : List (ℕ × Unit {0}))
    → IsAhead (trace_in q.plan) q.thread q.position y → o < object_count (trace_in q.plan).guest → i < most_object_words
    → ask_of (trace_in q.plan).guest.code y ≡ Get o i
    → HasStep (trace_in q.plan) q.thread y.steps
    → Allows (Woven q.plan) slots id (q ∷ [], c) (content_place o i) (λ n. n)
    (stepped_on (step slots (content_place o i) 0 0 none) (q ∷ [], c))
get_is_allowed slots id o i y q c ahead inside few is has x h homes at small =
    let f : FittedTrace = trace_in q.plan in
    let t : ℕ = q.thread in
    let cu : CaughtUp f h.state t y = seat_thread_catches_up q.plan x h id q y at ahead in
    let n : ℕ = get_or x.words (content_place o i) 0 in
    let l : o < length h.state.objects = (let e = h.at.objects in omega (arith, e, inside)) in
    let goes = step_goes_on_if_free q.plan x h id q y at cu (Get o i) tt is has in
    let found : n ≡ slice_index (cell_of cu.state o).words i = h.table.places o i l few
    ∙ ap (λ cs. slice_index (object_in cs o).words i) (sym cu.objects) in
    let table : IsTable cu.state.objects (set x.words (content_place o i) n) =
    subst (λ cs. IsTable cs (set x.words (content_place o i) n)) (sym cu.objects)
    (laid_after_same_word h.state.objects x.words (content_place o i) h.table) in
    let made = woven_after_object_step slots id (content_place o i) 0 0 q c x h at y ahead (Get o i) (λ b. b) is cu goes.0 goes.1 n
    (λ p j e. (
      subst (λ z. z < 2 ^ 32) (sym (h.table.places o i l few)) (h.table.small o i),
      found
          ∙ (λ z. slice_index (cell_of cu.state (get_object (e z))).words (get_index (e z))),
    )) (set x.words (content_place o i) n) table in
    (made.0, keeps, tt, made.1, made.2)
  where
    get_object : Ask → ℕ
    get_object (Get o i) = o
    get_object _ = 0

    get_index : Ask → ℕ
    get_index (Get o i) = i
    get_index _ = 0

pub put_is_allowed : (slots id o i v : ℕ) (y : thread.ThreadState) (q : Progress) (c : List (ℕ × Unit {0})) → v < 2 ^ 32
    → IsAhead (trace_in q.plan) q.thread q.position y → o < object_count (trace_in q.plan).guest → i < most_object_words
    → ask_of (trace_in q.plan).guest.code y ≡ Put o i v
    → HasStep (trace_in q.plan) q.thread y.steps
    → Allows (Woven q.plan) slots id (q ∷ [], c) (content_place o i) (λ _. v)
    (λ _. stepped_on (step slots (content_place o i) v 0 none) (q ∷ [], c) v)
put_is_allowed slots id o i v y q c value ahead inside few is has x h homes at small =
    let f : FittedTrace = trace_in q.plan in
    let t : ℕ = q.thread in
    let cu : CaughtUp f h.state t y = seat_thread_catches_up q.plan x h id q y at ahead in
    let l : o < length h.state.objects = (let e = h.at.objects in omega (arith, e, inside)) in
    let m : o < length cu.state.objects = (let e = ap (λ (cs : List Cell). length cs) cu.objects in omega (arith, e, l)) in
    let goes = step_goes_on_if_free q.plan x h id q y at cu (Put o i v) tt is has in
    let table : IsTable cu.state.objects x.words = subst (λ cs. IsTable cs x.words) (sym cu.objects) h.table in
    let made = woven_after_object_step slots id (content_place o i) v 0 q c x h at y ahead (Put o i v) (λ b. b) is cu goes.0 goes.1 v
    (λ p j e. absurd (cc e)) (set x.words (content_place o i) v)
    (laid_after_content_word cu.state.objects x.words o i v (record (cell_of cu.state o) { words = set (cell_of cu.state o).words i v }) table m few
    value (cu.flat.objects o m).words refl refl) in
    (made.0, keeps, tt, made.1, made.2)
