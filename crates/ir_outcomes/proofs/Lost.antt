-- States that can't be brought to an end.
use Rattle.std.proofs.Common.{◌≡◌, ℕ, zero, suc, ◌<◌, ◌≤◌, Bool, true, false, true≢false, Option, Some, None, List, [], ◌∷◌, inl, inr, length, get_or, take, refl, sym, ap, ◌∙◌, subst, arith}
use Rattle.std.specs.Prelude.{slice_get}
use Rattle.std.proofs.lemmas.Bool.{cases_lt}
use Rattle.std.proofs.lemmas.Option.{same_Some, slice_get_within}
use Rattle.ir_lemmas.proofs.CallerLemmas.{element_below_length}
use Rattle.ir_search.specs.declared.origin.Origin.{Origin}
use Rattle.ir_search.specs.declared.origin.Refusal.{Refusal}
use Rattle.ir_search.specs.Following.{IsNodeOpen}
use Rattle.ir_search.specs.Origins.{AreOriginsRising}
use Rattle.ir_search.specs.Ways.{shut}
use Rattle.ir_record.specs.Recording.{turns_of_items}
use Rattle.ir_record.specs.Refusing.{Turn}
use Rattle.ir_runs.specs.Run.{Step}
use Rattle.ir_world.specs.Sources.{given}
use Rattle.ir_thread.specs.State.{most_budget, thread_machine}
use Rattle.ir_state_store.specs.Nodes.{SourcedFlat}
use Rattle.ir_graph.specs.Hangs.{CanEndFrom, IsHangOf, AreMarked, AllStand}
use Rattle.ir_graph.specs.Nodes.{LookAlike}
use Rattle.ir_graph.specs.Plain.{LooksAlike}
use Rattle.ir_graph.specs.Reached.{beginning}
use Rattle.ir_graph.specs.Setup.{Setup}
use Rattle.ir_graph.proofs.CallerLemmas.{answered_is_counting, hang_never_completes, can_end_if_run_can, plain_turns_as_sourced}
use Rattle.ir_outcomes.specs.Again.{IsAgainBy}
use Rattle.ir_outcomes.specs.Explored.{AreHangs}
use Rattle.ir_outcomes.specs.Hang.{IsFirstHang}
use Rattle.ir_outcomes.specs.Shown.{switches_by, IsShownAt, IsHangShown}
use Rattle.ir_outcomes.specs.declared.shown.Shown.{Shown}
use Rattle.ir_outcomes.proofs.Showing.{switches_again}

pub shown_at_level : (setup : Setup) (turns : List Turn) (table : List Refusal) (path : List Origin) (level : ℕ) (s u : SourcedFlat)
    → IsAgainBy setup turns table path u → length path ≤ suc level → LooksAlike u.flat s.flat → LookAlike u s → IsShownAt setup s level turns
shown_at_level setup turns table path level s u w few like looks =
    let a = w.again in record {
      steps = a.steps;
      counting = answered_is_counting setup a.steps a.answered;
      in_turns = plain_turns_as_sourced (thread_machine setup.guest.code) given (beginning setup) turns a.steps a.in_turns;
      taken = a.taken;
      stands = λ can. can_end_if_run_can setup a.steps s u a.answered a.ends a.like.code like.code looks can;
      few = let l = switches_again setup turns table path u w in omega (arith, l, few);
    }

hang_is_shown : (setup : Setup) (s : SourcedFlat) (level : ℕ) (turns : List Turn) → IsShownAt setup s level turns
    → (CanEndFrom s → ⊥) → IsHangShown setup level turns
hang_is_shown setup s level turns shown lost =
    let hangs : IsHangOf setup most_budget shown.steps = (shown.counting, λ can. lost (shown.stands can)) in record {
      steps = shown.steps;
      hangs = hangs;
      never = λ budget more c. hang_never_completes setup most_budget shown.steps hangs budget more c;
      in_turns = shown.in_turns;
      taken = shown.taken;
      few = shown.few;
    }

-- one more is counted
pub all_open_shut_zero : (marks : List Bool) → ((v : ℕ) → v < length marks → IsNodeOpen marks v) → shut marks ≡ 0
unfolding shut
all_open_shut_zero [] all = refl
all_open_shut_zero (true ∷ marks) all = all_open_shut_zero marks (λ v l. all (suc v) (omega (arith, l)))
all_open_shut_zero (false ∷ marks) all = absurd (true≢false (sym (same_Some false true (all 0 (omega arith)))))

pub some_closed_shut : (marks : List Bool) (v : ℕ) → slice_get marks v ≡ Some false → 0 < shut marks
unfolding shut
some_closed_shut [] v is = absurd (cc is)
some_closed_shut (true ∷ marks) zero is = absurd (true≢false (same_Some true false is))
some_closed_shut (true ∷ marks) (suc v) is = some_closed_shut marks v is
some_closed_shut (false ∷ marks) v is = omega arith

-- of the first nodes, with one more
pub shut_take_marked : (marks : List Bool) (v : ℕ) (d : Bool) → v < length marks → get_or marks v d ≡ true
    → shut (take (suc v) marks) ≡ shut (take v marks)
unfolding shut
shut_take_marked [] v d l is = absurd (omega (arith, l))
shut_take_marked (true ∷ marks) zero d l is = refl
shut_take_marked (false ∷ marks) zero d l is = absurd (true≢false (sym is))
shut_take_marked (true ∷ marks) (suc v) d l is = shut_take_marked marks v d (omega (arith, l)) is
shut_take_marked (false ∷ marks) (suc v) d l is = ap suc (shut_take_marked marks v d (omega (arith, l)) is)

pub shut_take_unmarked : (marks : List Bool) (v : ℕ) (d : Bool) → v < length marks → get_or marks v d ≡ false
    → shut (take (suc v) marks) ≡ suc (shut (take v marks))
unfolding shut
shut_take_unmarked [] v d l is = absurd (omega (arith, l))
shut_take_unmarked (true ∷ marks) zero d l is = absurd (true≢false is)
shut_take_unmarked (false ∷ marks) zero d l is = refl
shut_take_unmarked (true ∷ marks) (suc v) d l is = shut_take_unmarked marks v d (omega (arith, l)) is
shut_take_unmarked (false ∷ marks) (suc v) d l is = ap suc (shut_take_unmarked marks v d (omega (arith, l)) is)

pub shut_of_empty : 0 ≡ shut []
unfolding shut
shut_of_empty = refl

closed_is_not_open : (marks : List Bool) (v : ℕ) → slice_get marks v ≡ Some false → IsNodeOpen marks v → ⊥
closed_is_not_open marks v unmarked is = true≢false (same_Some true false (sym is ∙ unmarked))

-- without marks there is no first that isn't marked
pub no_marks_no_hang : (marks : List Bool) (hang : Option Shown) → length marks ≤ 0
    → ((x : Shown) → hang ≡ Some x → IsFirstHang marks x.node) → hang ≡ None
no_marks_no_hang marks None few first = refl
no_marks_no_hang marks (Some x) few first =
    let l = slice_get_within marks x.node false (first x refl).0 in absurd (omega (arith, l, few))

module _ (setup : Setup) (flats : List SourcedFlat) (origins : List Origin) (marks : List Bool) (marked : AreMarked flats marks)
    (stand : AllStand setup flats origins) where
  -- a run that hangs stands at a state that isn't marked
  lost_at : (budget : ℕ) (steps : List Step) → IsHangOf setup budget steps
      → (v : ℕ) × (n : Origin) × (v < length marks) × (slice_get origins v ≡ Some n) × (n.level ≤ switches_by setup budget steps)
      × (IsNodeOpen marks v → ⊥)
  lost_at budget steps h =
      let r = stand budget steps h.0 in (
        r.0,
        r.2,
        let l = slice_get_within flats r.0 r.1 r.3 in let a = marked.all in omega (arith, l, a),
        r.4,
        r.5,
        λ is. h.1 (r.6.1 (marked.marked r.0 r.1 r.3 is)),
      )

  no_hangs : ((v : ℕ) → v < length marks → IsNodeOpen marks v) → AreHangs setup flats (shut marks) None
  no_hangs all =
      let zero_is = all_open_shut_zero marks all in record {
        marks = marks;
        marked = marked;
        count = refl;
        exact = (
          λ h. let r = lost_at h.0 h.1 h.2 in absurd (r.5 (all r.0 r.2)),
          λ l. absurd (omega (arith, l, zero_is)),
        );
        some = λ l. absurd (omega (arith, l, zero_is));
        shown = λ x is. absurd (cc is);
        fewest = λ x is. absurd (cc is);
      }

  one_hang : AreOriginsRising origins → (x : Shown) → IsFirstHang marks x.node
      → ((n : Origin) → slice_get origins x.node ≡ Some n → x.level ≡ n.level) → length flats ≤ length origins
      → ((f : SourcedFlat) → slice_get flats x.node ≡ Some f → IsShownAt setup f x.level (turns_of_items x.turns.items))
      → AreHangs setup flats (shut marks) (Some x)
  one_hang rising x first level wide shown =
      let some = some_closed_shut marks x.node first.0 in
      let l : x.node < length flats =
      (let a = slice_get_within marks x.node false first.0 in let b = marked.all in omega (arith, a, b)) in
      let f = element_below_length flats x.node l in
      let n = element_below_length origins x.node (omega (arith, l, wide)) in
      let here : IsHangShown setup x.level (turns_of_items x.turns.items) =
      hang_is_shown setup f.0 x.level (turns_of_items x.turns.items) (shown f.0 f.1)
      (λ can. closed_is_not_open marks x.node first.0 (marked.other x.node f.0 f.1 can)) in record {
        marks = marks;
        marked = marked;
        count = refl;
        exact = (
          λ h. some,
          λ less. (most_budget, here.steps, here.hangs),
        );
        some = λ less. (x, refl);
        shown = λ y is.
            subst (λ z. IsHangShown setup z.level (turns_of_items z.turns.items)) (same_Some x y is) here;
        fewest = λ y is budget steps h.
            let r = lost_at budget steps h in
            let e = level n.0 n.1 in
            let one = ap (λ z. z.level) (same_Some x y is) in
            elim (cases_lt r.0 x.node) [
              | inl before ↦ absurd (r.5 (first.1 r.0 before))
              | inr late ↦ let rise = rising x.node r.0 n.0 r.1 n.1 r.3 late in let b = r.4 in omega (arith, rise, e, one, b)
            ];
      }

  pub are_hangs : AreOriginsRising origins → length flats ≤ length origins → (hang : Option Shown)
      → (hang ≡ None → (v : ℕ) → v < length marks → IsNodeOpen marks v)
      → ((x : Shown) → hang ≡ Some x → IsFirstHang marks x.node)
      → ((x : Shown) → hang ≡ Some x → (n : Origin) → slice_get origins x.node ≡ Some n → x.level ≡ n.level)
      → ((x : Shown) → hang ≡ Some x → (f : SourcedFlat) → slice_get flats x.node ≡ Some f
      → IsShownAt setup f x.level (turns_of_items x.turns.items))
      → AreHangs setup flats (shut marks) hang
  are_hangs rising wide None none first level shown = no_hangs (none refl)
  are_hangs rising wide (Some x) none first level shown = one_hang rising x (first x refl) (level x refl) wide (shown x refl)
