-- How the table is opened, its seats cut and joined, and the table closed.
use Rattle.std.proofs.Common.{◌≡◌, ◌≢◌, ℕ, zero, suc, ◌+◌, ◌*◌, ◌-◌, ◌/◌, ◌%◌, ◌^◌, ◌<◌, ◌≤◌, ◌==◌, Bool, false, if◌then◌else◌, List, []}
use Rattle.std.proofs.Common.{◌∷◌, ◌++◌, length, get_or, set, refl, sym, ap, ◌∙◌, subst, arith, inl, inr, ◌⊎◌, length-set, length-append}
use Rattle.std.proofs.Common.{get_or-set_same, get_or-set_other, get_or-append-add, cond, ltb, eq-eqb, ne_eqb, drop, take}
use Rattle.std.proofs.lemmas.List.{ext_get_or}
use Rattle.std.proofs.lemmas.Bool.{cases_eq, cases_lt, le-ltb, lt-ltb}
use Rattle.std.proofs.lemmas.List.{get_or_past}
use mathlib.Core.Option.{some, some-injective, some-ne-none}
use lib.ListN.{get_elem?, get_or-append}
use Rattle.atomic_table.specs.Seated.{TableId}
use Rattle.atomic_table.specs.Table.{Final, Seen, opening, Splits, Joins}
use Rattle.atomic_table.specs.declared.shared.Seat.{Seat}
use Rattle.atomic_table.proofs.Lists.{at_set}
use Rattle.ir_image.specs.Guest.{Guest, object_count, most_object_words}
use Rattle.ir_image.specs.Bounds.{IsGuest}
use Rattle.ir_thread.specs.State.{IsAllowed}
use Rattle.ir_thread.specs.State as thread
use Rattle.ir_thread.specs.declared.profile.Profile.{Profile}
use Rattle.ir_object.specs.Cell.{Cell}
use Rattle.ir_object.specs.Empty.{empty}
use Rattle.ir_object.specs.Word.{word_of_object, fields_of}
use Rattle.ir_flat.specs.Flat.{Flat, IsFlat, idle, start_flat}
use Rattle.ir_weave.proofs.Onward.{start_is_state_at_zero}
use Rattle.ir_weave.proofs.Numbers.{state_ahead_at_position}
use Rattle.ir_weave.specs.Ahead.{IsAhead}
use Rattle.std.specs.Prelude.{slice_get, Some}
use Rattle.std.proofs.lemmas.Option.{slice_get_within, get_or_from_slice_get}
use Rattle.ir_lemmas.proofs.CallerLemmas.{append_item_cases}
use Rattle.ir_runs.specs.Run.{Cut}
use Rattle.ir_fit.specs.Fit.{FittedTrace, HasRun}
use Rattle.ir_fit.specs.Within.{IsFitted}
use Rattle.ir_fit.proofs.CallerLemmas.{header_guest_is_allowed as header_allowed}
use Rattle.ir_weave.specs.Standing.{Standing, StandsAtCut, flat_in, IsStateAt, positions}
use Rattle.ir_object.specs.Layout.{line_words, apart, table_length, word_place, content_place}
use Rattle.ir_weave.specs.Table.{IsTable, IsLaid, laid, word_in, object_in}
use Rattle.ir_weave.specs.Woven.{View, M, trace_in, opened_in, opened_at, progress, first_met_cut, IsSeated, AreTracks, Woven, tracks_from, AreSeats, AreAt, IsClosedTable, IsEnd, AreRead}
use Rattle.ir_weave.proofs.Acts.{fields_of_word_of, cell_fields_in_range}
use Rattle.ir_weave.specs.declared.plan.Plan.{Plan}

-- ---- opening

opened_tracks : (k : Plan) (u m : ℕ) → u + m ≤ length k.opened.value.threads → AreTracks k (opened_in k) (λ _. 0) 0 (tracks_from k u m)
opened_tracks k u zero le = tt
opened_tracks k u (suc m) le = (
  record {
    plan = refl;
    there = omega (arith, le);
    mine = refl;
    position = refl;
    granted =
        λ on. absurd (cc on);
    met = λ z. omega arith;
  },
  opened_tracks k (suc u) m (omega (arith, le)),
)

pub opening_is_woven : (k : Plan) (ws : List ℕ) → HasRun (trace_in k) → IsFlat (opened_in k) → IsStateAt (trace_in k) (opened_at k) (opened_in k)
    → IsTable k.opened.value.objects ws → Woven k (opening ws [] (tracks_from k 0 (length k.opened.value.threads)))
opening_is_woven k ws run flat at table = record {
  run = run;
  state = opened_in k;
  flat = flat;
  at = at;
  above = λ t. omega arith;
  seat = λ _. 0;
  tracks = first;
  table = table;
}
  where
    first : (id : ℕ) (v : View) → get_elem? (tracks_from k 0 (length k.opened.value.threads) ∷ []) id ≡ some v
        → AreTracks k (opened_in k) (λ _. 0) id v
    first zero v e = subst (AreTracks k (opened_in k) (λ _. 0) 0) (some-injective (tracks_from k 0 (length k.opened.value.threads)) v e)
        (opened_tracks k 0 (length k.opened.value.threads) (omega arith))
    first (suc id) v e = absurd (some-ne-none v (sym e))

-- the guest's state, as the plan knows it
opened_stands_at_own : (k : Plan) (f : FittedTrace) (s : Standing) → k.fitted.value ≡ f → k.opened.value ≡ s → StandsAtCut f (positions (flat_in f s)) s
    → StandsAtCut (trace_in k) (opened_at k) k.opened.value
opened_stands_at_own k f s for is stands = subst (λ (z : FittedTrace × Standing). StandsAtCut z.0 (positions (flat_in z.0 z.1)) z.1)
    (λ i. (sym for i, sym is i)) stands

-- the plan of a guest and its state
pub plan_opening_is_woven : (k : Plan) (f : FittedTrace) (s : Standing) (ws : List ℕ) → k.fitted.value ≡ f → k.opened.value ≡ s → HasRun f
    → StandsAtCut f (positions (flat_in f s)) s → IsTable s.objects ws
    → Woven k (opening ws [] (tracks_from k 0 (length k.opened.value.threads)))
plan_opening_is_woven k f s ws for is run stands table =
    let both = opened_stands_at_own k f s for is stands in
    opening_is_woven k ws (subst HasRun (sym for) run) both.flat both.at (subst (λ (z : Standing). IsTable z.objects ws) (sym is) table)

-- the seat of a thread
opening_seat_progress : (id : TableId) (k : Plan) (t i u : ℕ) (xs : List (Seat (Unit {0}) View)) (x : Seat (Unit {0}) View) → AreSeats id k t xs
    → slice_get xs i ≡ Some x → u ≡ t + i → x.me ≡ (progress k u (opened_at k u) false (first_met_cut k) ∷ [], [])
opening_seat_progress id k t i u [] x h at e = absurd (cc at)
opening_seat_progress id k t zero u (y ∷ ys) x h at e =
    let same : y ≡ x = cc at in let here : t ≡ u = omega (arith, e) in
    ap (λ z. z.me) (sym same) ∙ h.0.1 ∙ (λ j. (progress k (here j) (opened_at k (here j)) false (first_met_cut k) ∷ [], []))
opening_seat_progress id k t (suc i) u (y ∷ ys) x h at e = opening_seat_progress id k (suc t) i u ys x h.1 at (omega (arith, e))

-- each thread can step at its seat
pub opening_seat_is_seated : (id : TableId) (k : Plan) (f : FittedTrace) (s : Standing) (xs : List (Seat (Unit {0}) View)) → k.fitted.value ≡ f
    → k.opened.value ≡ s → HasRun f → StandsAtCut f (positions (flat_in f s)) s → AreSeats id k 0 xs
    → (t : ℕ) (x : thread.ThreadState) (seat : Seat (Unit {0}) View) → slice_get s.threads t ≡ Some x → slice_get xs t ≡ Some seat
    → IsSeated k seat.me.0 x
opening_seat_is_seated id k f s xs for is run stands are t x seat at here =
    let both = opened_stands_at_own k f s for is stands in
    let there : slice_get k.opened.value.threads t ≡ Some x = ap (λ (z : Standing). slice_get z.threads t) is ∙ at in
    let ahead : IsAhead (trace_in k) t (opened_at k t) x =
    subst (IsAhead (trace_in k) t (opened_at k t)) (get_or_from_slice_get k.opened.value.threads t x idle there)
    (state_ahead_at_position (trace_in k) (opened_in k) t (subst HasRun (sym for) run) both.flat both.at (slice_get_within k.opened.value.threads t x there)) in
    subst (λ (v : View). IsSeated k v x) (sym (ap (λ (z : M). z.0) (opening_seat_progress id k 0 t t xs seat are here (omega arith)))) (refl, ahead)

-- ---- cutting off the first thread

reseat_later_tracks_stay : (k : Plan) (s : Flat) (seat : ℕ → ℕ) (t new id u m : ℕ) → t < u → AreTracks k s seat id (tracks_from k u m)
    → AreTracks k s (λ z. if z == t then new else seat z) id (tracks_from k u m)
reseat_later_tracks_stay k s seat t new id u zero lt h = tt
reseat_later_tracks_stay k s seat t new id u (suc m) lt h = (
  record {
    plan = h.0.plan;
    there = h.0.there;
    mine = ap (λ (b : Bool). if b then new else seat u) (ne_eqb u t (λ e. omega (arith, e, lt)))
        ∙ h.0.mine;
    position = h.0.position;
    granted = h.0.granted;
    met = h.0.met;
  },
  reseat_later_tracks_stay k s seat t new id (suc u) m (omega (arith, lt)) h.1,
)

reseat_other_tracks_stay : (k : Plan) (s : Flat) (seat : ℕ → ℕ) (t new j : ℕ) (v : View) → seat t ≢ j → AreTracks k s seat j v
    → AreTracks k s (λ z. if z == t then new else seat z) j v
reseat_other_tracks_stay k s seat t new j [] ne h = tt
reseat_other_tracks_stay k s seat t new j (q ∷ qs) ne h = (
  record {
    plan = h.0.plan;
    there = h.0.there;
    mine =
        ap (λ (b : Bool). if b then new else seat q.thread) (ne_eqb q.thread t (λ e. ne (ap seat (sym e) ∙ h.0.mine))) ∙ h.0.mine;
    position =
        h.0.position;
    granted = h.0.granted;
    met = h.0.met;
  },
  reseat_other_tracks_stay k s seat t new j qs ne h.1,
)

pub tracks_split_off_first : (k : Plan) (id t m : ℕ) (v : View) → v ≡ tracks_from k t (suc m) → Splits (Woven k) id v (drop 1 v) (take 1 v)
tracks_split_off_first k id t m v is x h at =
    let at₀ : get_elem? x.views id ≡ some (tracks_from k t (suc m)) = at ∙ ap some is in
    let f = h.tracks id (tracks_from k t (suc m)) at₀ in
    let new : ℕ = length x.views in
    let seat' : ℕ → ℕ = λ z. if z == t then new else h.seat z in
    let wide : length (set x.views id (tracks_from k (suc t) m)) ≡ new = length-set x.views id (tracks_from k (suc t) m) in
    let done : Woven k (record {
      words = x.words;
      homes = x.homes;
      views =
          set x.views id (tracks_from k (suc t) m) ++ (progress k t (opened_at k t) false (first_met_cut k) ∷ []) ∷ [];
    }) = record {
      run = h.run;
      state = h.state;
      flat = h.flat;
      at = h.at;
      above = h.above;
      seat = seat';
      tracks = λ j u e. elim (append_item_cases (set x.views id (tracks_from k (suc t) m)) (progress k t (opened_at k t) false (first_met_cut k) ∷ []) u j e) [
        | inl was ↦ elim (at_set x.views id j (tracks_from k (suc t) m) u was) [
          | inl r ↦ subst (λ (z : ℕ). AreTracks k h.state seat' z u) (sym r.0)
              (subst (AreTracks k h.state seat' id) r.1 (reseat_later_tracks_stay k h.state h.seat t new id (suc t) m (omega arith) f.1))
          | inr r ↦ reseat_other_tracks_stay k h.state h.seat t new j u (λ e'. r.0 (sym e' ∙ f.0.mine)) (h.tracks j u r.1)
        ]
        | inr q ↦ subst (AreTracks k h.state seat' j) q.1 (
          record {
            plan = refl;
            there = f.0.there;
            mine = ap (λ (b : Bool). if b then new else h.seat t) (eq-eqb t t refl)
                ∙ (sym wide ∙ sym q.0);
            position = f.0.position;
            granted = λ on. absurd (cc on);
            met = f.0.met;
          },
          tt,
        )
      ];
      table = h.table;
    } in
    subst (λ (z : View). Woven k (record {
      words = x.words;
      homes = x.homes;
      views = set x.views id (drop 1 z) ++ take 1 z
          ∷ [];
    })) (sym is) done

-- ---- two seats become one

seats_join_tracks_stay : (k : Plan) (s : Flat) (seat : ℕ → ℕ) (id other j : ℕ) (v : View) → j ≢ other → AreTracks k s seat j v
    → AreTracks k s (λ u. if seat u == other then id else seat u) j v
seats_join_tracks_stay k s seat id other j [] ne h = tt
seats_join_tracks_stay k s seat id other j (q ∷ qs) ne h = (
  record {
    plan = h.0.plan;
    there = h.0.there;
    mine =
        ap (λ (b : Bool). if b then id else seat q.thread) (ne_eqb (seat q.thread) other (λ e. ne (sym h.0.mine ∙ e))) ∙ h.0.mine;
    position =
        h.0.position;
    granted = h.0.granted;
    met = h.0.met;
  },
  seats_join_tracks_stay k s seat id other j qs ne h.1,
)

tracks_after_seats_join : (k : Plan) (s : Flat) (seat : ℕ → ℕ) (id other : ℕ) (v w : View)
    → AreTracks k s (λ u. if seat u == other then id else seat u) id v → AreTracks k s seat other w
    → AreTracks k s (λ u. if seat u == other then id else seat u) id (v ++ w)
tracks_after_seats_join k s seat id other [] [] f g = tt
tracks_after_seats_join k s seat id other [] (q ∷ qs) f g = (
  record {
    plan = g.0.plan;
    there = g.0.there;
    mine =
        ap (λ (b : Bool). if b then id else seat q.thread) (eq-eqb (seat q.thread) other g.0.mine);
    position = g.0.position;
    granted =
        g.0.granted;
    met = g.0.met;
  },
  tracks_after_seats_join k s seat id other [] qs tt g.1,
)
tracks_after_seats_join k s seat id other (q ∷ qs) w f g = (f.0, tracks_after_seats_join k s seat id other qs w f.1 g)

pub woven_seats_join : (k : Plan) (id other : ℕ) (v w : View) → Joins (Woven k) id v other w (v ++ w) []
woven_seats_join k id other v w x h at apart at' =
    let seat' : ℕ → ℕ = λ u. if h.seat u == other then id else h.seat u in
    let was : get_elem? x.views other ≡ some w =
    elim (at_set x.views id other (v ++ w) w at') [ inl q ↦ absurd (apart q.0) | inr q ↦ q.1 ] in
    let mine : AreTracks k h.state seat' id v = seats_join_tracks_stay k h.state h.seat id other id v (λ e. apart (sym e)) (h.tracks id v at) in record {
      run = h.run;
      state = h.state;
      flat = h.flat;
      at = h.at;
      above = h.above;
      seat = seat';
      tracks = λ j u e. elim (at_set (set x.views id (v ++ w)) other j [] u e) [
        | inl q ↦ subst (AreTracks k h.state seat' j) q.1 tt
        | inr q ↦ elim (at_set x.views id j (v ++ w) u q.1) [
          | inl r ↦ subst (λ (z : ℕ). AreTracks k h.state seat' z u) (sym r.0)
              (subst (AreTracks k h.state seat' id) r.1 (tracks_after_seats_join k h.state h.seat id other v w mine (h.tracks other w was)))
          | inr r ↦ seats_join_tracks_stay k h.state h.seat id other j u q.0 (h.tracks j u r.1)
        ]
      ];
      table = h.table;
    }

-- ---- dealing

pub seats_push : (id : TableId) (k : Plan) (t u : ℕ) (xs : List (Seat (Unit {0}) View)) (x : Seat (Unit {0}) View) → AreSeats id k t xs
    → u ≡ t + length xs → x.table_id ≡ id → x.me ≡ (progress k u (opened_at k u) false (first_met_cut k) ∷ [], []) → AreSeats id k t (xs ++ x ∷ [])
seats_push id k t u [] x h e i m = (
  (
    i,
    m ∙ (λ j.
        (progress k ((let q : u ≡ t = omega (arith, e) in q) j) (opened_at k ((let q : u ≡ t = omega (arith, e) in q) j)) false (first_met_cut k) ∷ [], [])),
  ),
  tt,
)
seats_push id k t u (y ∷ ys) x h e i m = (h.0, seats_push id k (suc t) u ys x h.1 (omega (arith, e)) i m)

pub dealt_view_has_later_tracks : (k : Plan) (l m n : ℕ) (me w : M) → me ≡ (tracks_from k l (suc m), []) → w ≡ (drop 1 me.0, me.1) → n ≡ suc l
    → w ≡ (tracks_from k n m, [])
dealt_view_has_later_tracks k l m n me w is emitted long = emitted ∙ (λ i. (drop 1 (is i).0, (is i).1)) ∙ (λ i. (tracks_from k (sym long i) m, []))

pub dealt_first_is_opening : (k : Plan) (l m : ℕ) (me w : M) → me ≡ (tracks_from k l (suc m), []) → w ≡ (take 1 me.0, [])
    → w ≡ (progress k l (opened_at k l) false (first_met_cut k) ∷ [], [])
dealt_first_is_opening k l m me w is emitted = emitted ∙ (λ i. (take 1 (is i).0, []))

pub view_has_later_tracks : (k : Plan) (l m n : ℕ) (me : M) → me ≡ (tracks_from k l m, []) → m ≡ suc n → me ≡ (tracks_from k l (suc n), [])
view_has_later_tracks k l m n me is e = is ∙ (λ i. (tracks_from k l (e i), []))

-- ---- closing

tracks_are_at_positions : (k : Plan) (s : Flat) (seat : ℕ → ℕ) (id : ℕ) (v : View) → AreTracks k s seat id v → AreAt (positions s) v
tracks_are_at_positions k s seat id [] h = tt
tracks_are_at_positions k s seat id (q ∷ qs) h = (h.0.position, tracks_are_at_positions k s seat id qs h.1)

pub final_table_is_end : (k : Plan) (id : ℕ) (v : View) (ws : List ℕ) (xs : List (Unit {0})) → Final (Seen (Woven k) id v) ws xs → IsEnd k v ws
final_table_is_end k id v ws xs f =
    let h : Woven k f.0 = f.1.0 in record {
      cells = h.state.objects;
      table = subst (IsTable h.state.objects) f.2 h.table;
      sizes = λ o l. (h.flat.objects o l).words;
      fits = λ o l. fields_of_word_of (object_in h.state.objects o).fields (cell_fields_in_range h.state o h.flat l);
      closed = record {
        state = h.state;
        flat = h.flat;
        at = h.at;
        above = h.above;
        view =
            tracks_are_at_positions k h.state h.seat id v (h.tracks id v f.1.1);
        objects = refl;
      };
    }

-- ---- laying the words

place_quotient_object : (o r : ℕ) → r < apart → (word_place o + r - line_words) / apart ≡ o
place_quotient_object o r l = omega (arith, l)

place_remainder_is_word : (o r : ℕ) → r < apart → (word_place o + r - line_words) % apart ≡ r
place_remainder_is_word o r l = omega (arith, l)

laid_word_is_in_object : (cells : List Cell) (o r : ℕ) → r < apart → laid cells (word_place o + r) ≡ word_in (object_in cells o) r
laid_word_is_in_object cells o r l =
    ap (λ (b : Bool). cond b 0 (word_in (object_in cells ((word_place o + r - line_words) / apart))
    ((word_place o + r - line_words) % apart)))
    (le-ltb (word_place o + r) line_words (omega arith))
    ∙ (λ i. word_in (object_in cells (place_quotient_object o r l i)) (place_remainder_is_word o r l i))

word_in_content_place : (c : Cell) (i : ℕ) → i < most_object_words → word_in c (line_words + i) ≡ get_or c.words i 0
word_in_content_place c i l =
    ap (λ (b : Bool). cond b (word_of_object c.fields) (cond (ltb (line_words + i) line_words) 0
    (cond (ltb (line_words + i) (line_words + most_object_words)) (get_or c.words (line_words + i - line_words) 0) 0)))
    (ne_eqb (line_words + i) 0 (λ e. omega (arith, e)))
    ∙ ap (λ (b : Bool). cond b 0 (cond (ltb (line_words + i) (line_words + most_object_words)) (get_or c.words (line_words + i - line_words) 0)
    0)) (le-ltb (line_words + i) line_words (omega arith))
    ∙ ap (λ (b : Bool). cond b (get_or c.words (line_words + i - line_words) 0) 0)
    (lt-ltb (line_words + i) (line_words + most_object_words) (omega (arith, l)))
    ∙ ap (λ n. get_or c.words n 0) (let e : line_words + i - line_words ≡ i = omega arith in e)

pub laid_words_are_table : (cells : List Cell) (ws : List ℕ) → IsLaid cells ws (table_length (length cells))
    → ((o : ℕ) → o < length cells → length (object_in cells o).words ≡ most_object_words) → IsTable cells ws
laid_words_are_table cells ws h sizes = record {
  size = h.count;
  heads = λ o l. ap (λ z. get_or ws z 0) (let e : word_place o ≡ word_place o + 0 = omega arith in e)
      ∙ h.each (word_place o + 0) (omega (arith, l)) ∙ laid_word_is_in_object cells o 0 (omega arith);
  places = placed;
  small = λ o i. elim (cases_lt o (length cells)) [
    | inl l ↦ elim (cases_lt i most_object_words) [
      | inl few ↦ subst (λ n. n < 2 ^ 32) (placed o i l few) (h.small o i (omega (arith, l, few)) few)
      | inr past ↦ subst (λ n. n < 2 ^ 32) (sym (get_or_past (object_in cells o).words i 0 (let e = sizes o l in omega (arith, e, past))))
          (omega arith)
    ]
    | inr past ↦ subst (λ (c : Cell). get_or c.words i 0 < 2 ^ 32) (sym (get_or_past cells o empty past)) (omega arith)
  ];
}
  where
    placed : (o i : ℕ) → o < length cells → i < most_object_words → get_or ws (content_place o i) 0 ≡ get_or (object_in cells o).words i 0
    placed o i l few = ap (λ z. get_or ws z 0) (let e : content_place o i ≡ word_place o + (line_words + i) = omega arith in e)
        ∙ h.each (word_place o + (line_words + i)) (omega (arith, l, few)) ∙ laid_word_is_in_object cells o (line_words + i) (omega (arith, few))
        ∙ word_in_content_place (object_in cells o) i few

-- one word more
pub laid_push : (cells : List Cell) (ws ws' : List ℕ) (k w : ℕ) → IsLaid cells ws k → w ≡ laid cells k
    → ((o i : ℕ) → i < most_object_words → k ≡ content_place o i → w < 2 ^ 32) → ws' ≡ ws ++ w ∷ [] → IsLaid cells ws' (k + 1)
laid_push cells ws ws' k w h is small same = subst (λ z. IsLaid cells z (k + 1)) (sym same) (record {
  count = length-append ws (w ∷ []) ∙ (let c = h.count in omega (arith, c));
  each = λ j l. elim (cases_lt j k) [
    | inl less ↦ get_or-append ws (w ∷ []) 0 j (let c = h.count in omega (arith, c, less)) ∙ h.each j less
    | inr past ↦ subst (λ z. get_or (ws ++ w ∷ []) z 0 ≡ laid cells z) (let e : k ≡ j = omega (arith, l, past) in e) (last ∙ is)
  ];
  small = λ o i l few. elim (cases_lt (content_place o i) k) [
    | inl less ↦ subst (λ z. z < 2 ^ 32) (sym (get_or-append ws (w ∷ []) 0 (content_place o i) (let c = h.count in omega (arith, c, less))))
        (h.small o i less few)
    | inr past ↦ subst (λ z. get_or (ws ++ w ∷ []) z 0 < 2 ^ 32) (let e : k ≡ content_place o i = omega (arith, l, past) in e)
        (subst (λ z. z < 2 ^ 32) (sym last) (small o i few (omega (arith, l, past))))
  ];
})
  where
    last : get_or (ws ++ w ∷ []) k 0 ≡ w
    last = ap (λ z. get_or (ws ++ w ∷ []) z 0) (let c = h.count in let e : k ≡ length ws + 0 = omega (arith, c) in e)
        ∙ get_or-append-add ws (w ∷ []) 0 0

pub empty_is_laid : (cells : List Cell) (ws : List ℕ) → ws ≡ [] → IsLaid cells ws 0
empty_is_laid cells ws is = subst (λ z. IsLaid cells z 0) (sym is)
    (record { count = refl; each = λ j l. absurd (omega (arith, l)); small = λ o i l few. absurd (omega (arith, l)) })

-- a guest has a thread
pub guest_threads_positive : (f : FittedTrace) (s : Standing) (ts : List thread.ThreadState) (g : Guest) → IsGuest g → g ≡ f.guest → ts ≡ s.threads
    → length s.threads ≡ length f.guest.entries → 0 < length ts
guest_threads_positive f s ts g guest is same size = let some = guest.some_thread in let a = ap (λ (z : Guest). length z.entries) is in let b =
    ap (λ (z : List thread.ThreadState). length z) same in omega (arith, some, a, b, size)

-- ---- the objects at the end

pub are_read_step : (ws : List ℕ) (from : ℕ) (xs : List ℕ) (n w : ℕ) → AreRead ws from xs n → n < most_object_words → w ≡ get_or ws (from + n) 0
    → AreRead ws from (set xs n w) (n + 1)
are_read_step ws from xs n w h inside is = record {
  size = length-set xs n w ∙ h.size;
  each = λ i l. elim (cases_eq i n) [
    | inl here ↦ subst (λ z. get_or (set xs n w) z 0 ≡ get_or ws (from + z) 0) (sym here)
        (get_or-set_same xs n w 0 (let s = h.size in omega (arith, inside, s)) ∙ is)
    | inr ne ↦ get_or-set_other xs n i w 0 ne ∙ h.each i (omega (arith, l, ne))
  ];
}

-- an object that is read from the words is the table's
pub read_object_is_table : (cells : List Cell) (ws : List ℕ) (o w : ℕ) (xs : List ℕ) (c : Cell) → IsTable cells ws → o < length cells
    → length (object_in cells o).words ≡ most_object_words → fields_of (word_of_object (object_in cells o).fields) ≡ (object_in cells o).fields
    → w ≡ get_or ws (word_place o) 0 → AreRead ws (2 * line_words + apart * o) xs most_object_words
    → c ≡ record { fields = fields_of w; words = xs } → c ≡ object_in cells o
read_object_is_table cells ws o w xs c t l sizes fits word read is =
    let long : length xs ≡ most_object_words = read.size in
    let fields : fields_of w ≡ (object_in cells o).fields = ap fields_of (word ∙ t.heads o l) ∙ fits in
    let words : xs ≡ (object_in cells o).words =
    ext_get_or 0 xs (object_in cells o).words (long ∙ sym sizes)
    (λ i inside. read.each i (omega (arith, inside, long)) ∙ t.places o i l (omega (arith, inside, long))) in
    is ∙ (λ i. record { fields = fields i; words = words i })

-- the objects up to o are the table's
pub record AreObjects (cells xs : List Cell) (n : ℕ) : Type 0 where
  pub size : length xs ≡ length cells
  pub each : (o : ℕ) → o < n → object_in xs o ≡ object_in cells o

pub are_objects_step : (cells xs : List Cell) (n : ℕ) (c : Cell) → AreObjects cells xs n → n < length xs → c ≡ object_in cells n
    → AreObjects cells (set xs n c) (n + 1)
are_objects_step cells xs n c h inside is = record {
  size = length-set xs n c ∙ h.size;
  each = λ o l. elim (cases_eq o n) [
    | inl here ↦ subst (λ z. object_in (set xs n c) z ≡ object_in cells z) (sym here) (get_or-set_same xs n c empty inside ∙ is)
    | inr ne ↦ get_or-set_other xs n o c empty ne ∙ h.each o (omega (arith, l, ne))
  ];
}

pub all_objects_are_cells : (cells xs : List Cell) (n : ℕ) → AreObjects cells xs n → length xs ≤ n → xs ≡ cells
all_objects_are_cells cells xs n h all = ext_get_or empty xs cells h.size (λ o l. h.each o (omega (arith, l, all)))

pub end_cells_count_objects : (k : Plan) (v : View) (ws : List ℕ) (e : IsEnd k v ws) → length e.cells ≡ object_count (trace_in k).guest
end_cells_count_objects k v ws e = ap (λ (cs : List Cell). length cs) e.closed.objects ∙ e.closed.at.objects

pub are_objects_at_zero : (k : Plan) (v : View) (ws : List ℕ) (e : IsEnd k v ws) (xs : List Cell) → length xs ≡ object_count (trace_in k).guest
    → AreObjects e.cells xs 0
are_objects_at_zero k v ws e xs room = record { size = room ∙ sym (end_cells_count_objects k v ws e); each = λ o l. absurd (omega (arith, l)) }

pub all_objects_closed : (k : Plan) (v : View) (ws : List ℕ) (e : IsEnd k v ws) (xs : List Cell) (n : ℕ) → AreObjects e.cells xs n → length xs ≤ n
    → IsClosedTable k v xs
all_objects_closed k v ws e xs n h all = subst (IsClosedTable k v) (sym (all_objects_are_cells e.cells xs n h all)) e.closed

-- a guest with a trace has no more threads and objects than the trace's profile allows
pub fitted_guest_is_allowed : (f : FittedTrace) (p : Profile) (g : Guest) → IsFitted f → p ≡ f.recorded.profile → g ≡ f.guest → IsAllowed p g
fitted_guest_is_allowed f p g fitted profile guest =
    subst (λ (z : Profile × Guest). IsAllowed z.0 z.1) (λ i. (sym profile i, sym guest i))
    (header_allowed f.guest f.recorded fitted.within fitted.run.whole.0)

-- the state before the first step
pub start_stands_at_zero : (f : FittedTrace) (first : Flat) (s : Standing) → first ≡ start_flat f.guest f.recorded.budget f.recorded.profile → IsFlat first
    → s.threads ≡ first.threads → s.objects ≡ first.objects → StandsAtCut f (λ t. 0) s
start_stands_at_zero f first s is flat threads objects =
    let same : flat_in f s ≡ start_flat f.guest f.recorded.budget f.recorded.profile =
    λ i. record {
      code = f.guest.code;
      threads = (threads ∙ ap (λ z. z.threads) is) i;
      objects =
          (objects ∙ ap (λ z. z.objects) is) i;
    } in
    record { flat = subst IsFlat (is ∙ sym same) flat; at = start_is_state_at_zero f (flat_in f s) same }

-- it is at its own positions, below all others
pub start_stands_at_own : (f : FittedTrace) (s : Standing) → StandsAtCut f (λ t. 0) s → StandsAtCut f (positions (flat_in f s)) s
start_stands_at_own f s h = subst (λ (p : Cut). StandsAtCut f p s) (λ i t. sym (h.at.steps t) i) h

pub start_below_any_cut : (f : FittedTrace) (s : Standing) → StandsAtCut f (λ t. 0) s → (p : Cut) (t : ℕ) → positions (flat_in f s) t ≤ p t
start_below_any_cut f s h p t = let e = h.at.steps t in omega (arith, e)
