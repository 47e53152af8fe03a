-- Turns of threads that are known, while the tables grow.
use Rattle.std.proofs.Common.{◌≡◌, ◌⊎◌, ℕ, ◌<◌, Bool, true, false, Option, Some, None, List, [], ◌∷◌, ◌++◌, length, get_or, refl, sym, ap, ◌∙◌, subst, inl, inr}
use Rattle.std.specs.Prelude.{slice_get, not, IfSome, IfErr, Result, Ok, Err}
use mathlib.Core.Bool.{beq}
use Rattle.std.proofs.lemmas.Bool.{true≢false}
use Rattle.std.proofs.lemmas.Option.{same_Some, slice_get_within}
use Rattle.std.specs.List.{slice_index_or}
use Rattle.ir_object.specs.Cell.{Cell}
use Rattle.ir_world.specs.Sources.{Source}
use Rattle.ir_thread.specs.State.{ThreadState, ask_of}
use Rattle.ir_object.specs.Empty.{empty}
use Rattle.ir_state_store.specs.declared.spot.Spot.{Spot}
use Rattle.ir_state_store.specs.Table.{idle_beside, KeepsNumbers}
use Rattle.ir_state_store.specs.Nodes.{Shared, SourcedFlat, cell_in, cells_at, HaveWords, Grows}
use Rattle.ir_state_store.proofs.CallerLemmas.{all_by_recursion_weaker, slice_get_satisfies, all_of_push, kept_element_is_equal, below_length_kept}
use Rattle.ir_graph.specs.declared.known.Turn.{Turn}
use Rattle.ir_graph.specs.Ahead.{IsTurn, IsTurnOf, AreTurns}
use Rattle.ir_graph.specs.Hand.{AllPairs, EachOnce, IsAtSpot}
use Rattle.ir_graph.specs.Lone.{MustWait, TakesTurn}
use Rattle.ir_graph.specs.Plain.{MayGo}
use Rattle.ir_graph.proofs.Hand.{pairs_weaker}

pub grows_transitive : (old mid new : Shared) → Grows old mid → Grows mid new → Grows old new
grows_transitive old mid new a b = record {
  threads = λ n s e. b.threads n s (a.threads n s e);
  words = λ n s e. b.words n s (a.words n s e);
}

pub grows_reflexive : (shared : Shared) → Grows shared shared
grows_reflexive shared = record { threads = λ n s e. e; words = λ n s e. e }

module _ (old new : List (List ℕ)) (keeps : KeepsNumbers old new) where
  pub have_words_grown : (spots : List Spot) → HaveWords old spots → HaveWords new spots
  have_words_grown spots all = all_by_recursion_weaker (λ (s : Spot). s.words < length old) (λ (s : Spot). s.words < length new) spots
      (λ s. below_length_kept old new [] keeps s.words) all

  pub cell_grown : (spot : Spot) → spot.words < length old → cell_in new spot ≡ cell_in old spot
  cell_grown spot less i = record { fields = (cell_in old spot).fields; words = kept_element_is_equal old new [] keeps spot.words less i }

  pub cells_grown : (spots : List Spot) → HaveWords old spots → cells_at new spots ≡ cells_at old spots
  cells_grown [] all = λ i. []
  cells_grown (x ∷ spots) all = λ i. cell_grown x all.0 i ∷ cells_grown spots all.1 i

module _ (code : List ℕ) (old new : Shared) (grows : Grows old new) where
  pub turn_grown : (turn : Turn) → IsTurn code old turn → IsTurn code new turn
  turn_grown turn is =
      let numbers = turn.numbers.items in
      let from = kept_element_is_equal old.threads new.threads idle_beside grows.threads turn.from is.from in
      let to = kept_element_is_equal old.threads new.threads idle_beside grows.threads turn.to is.to in
      let spots = cells_grown old.words new.words grows.words turn.spots.items is.spots in
      let afters = cells_grown old.words new.words grows.words turn.afters.items is.afters in
      record {
        from = below_length_kept old.threads new.threads idle_beside grows.threads turn.from is.from;
        to = below_length_kept old.threads new.threads idle_beside grows.threads turn.to is.to;
        some = is.some;
        once = is.once;
        spots = have_words_grown old.words new.words grows.words turn.spots.items is.spots;
        afters = have_words_grown old.words new.words grows.words turn.afters.items is.afters;
        tries = λ no. subst (λ z. MayGo true (ask_of code z) → ⊥) (ap (λ (x : ThreadState × Source). x.0) (sym from)) (is.tries no);
        waits = λ waits.
            subst (λ (z : ThreadState × Source). MustWait turn.refused (get_or numbers 0 0) (get_or (cells_at new.words turn.spots.items) 0 empty).fields (ask_of code z.0)) (sym from)
            (subst (λ (z : List Cell). MustWait turn.refused (get_or numbers 0 0) (get_or z 0 empty).fields (ask_of code (slice_index_or old.threads turn.from idle_beside).0)) (sym spots)
            (is.waits waits));
        takes = λ leads.
            subst (λ z. TakesTurn code numbers turn.refused z (cells_at new.words turn.spots.items) (slice_index_or new.threads turn.to idle_beside)
            (cells_at new.words turn.afters.items)) (sym from)
            (subst (λ z. TakesTurn code numbers turn.refused (slice_index_or old.threads turn.from idle_beside) z (slice_index_or new.threads turn.to idle_beside)
            (cells_at new.words turn.afters.items)) (sym spots)
            (subst (λ z. TakesTurn code numbers turn.refused (slice_index_or old.threads turn.from idle_beside) (cells_at old.words turn.spots.items) z
            (cells_at new.words turn.afters.items)) (sym to)
            (subst (TakesTurn code numbers turn.refused (slice_index_or old.threads turn.from idle_beside) (cells_at old.words turn.spots.items)
            (slice_index_or old.threads turn.to idle_beside)) (sym afters) (is.takes leads))));
      }

  pub turns_grown : (turns : List Turn) → AreTurns code old turns → AreTurns code new turns
  turns_grown turns all = all_by_recursion_weaker (IsTurn code old) (IsTurn code new) turns turn_grown all

pub listed_turn_is_turn : (code : List ℕ) (shared : Shared) (turns : List Turn) (i : ℕ) (turn : Turn) → AreTurns code shared turns
    → slice_get turns i ≡ Some turn → IsTurn code shared turn
listed_turn_is_turn code shared turns i turn all at = slice_get_satisfies (IsTurn code shared) turns i turn all at

-- a turn that was found for a thread at a node
pub turn_of_found_node : (code : List ℕ) (shared : Shared) (items : List SourcedFlat) (node t : ℕ) (refused : Bool) (found : Option Turn) (turn : Turn)
    (s : SourcedFlat) → found ≡ Some turn
    → IfSome found (λ (x : Turn). (u : SourcedFlat) → slice_get items node ≡ Some u → IsTurnOf code shared u t refused x)
    → slice_get items node ≡ Some s → IsTurnOf code shared s t refused turn
turn_of_found_node code shared items node t refused found turn s is each at =
    subst (λ z. IfSome z (λ (x : Turn). (u : SourcedFlat) → slice_get items node ≡ Some u → IsTurnOf code shared u t refused x)) is each s at

-- a turn that is known for a thread at a node, by its number
abbrev pub IsKnown : List ℕ → Shared → List SourcedFlat → List Turn → ℕ → ℕ → Bool → ℕ → Type 0
IsKnown code shared items turns node t refused i = (x : Turn) × (slice_get turns i ≡ Some x)
    × ((u : SourcedFlat) → slice_get items node ≡ Some u → IsTurnOf code shared u t refused x)

pub known_turn_in_table : (code : List ℕ) (shared : Shared) (items : List SourcedFlat) (turns : List Turn) (node t : ℕ) (refused : Bool) (found : Option ℕ)
    (i : ℕ) → found ≡ Some i → IfSome found (IsKnown code shared items turns node t refused) → i < length turns
known_turn_in_table code shared items turns node t refused found i is each =
    let known : IsKnown code shared items turns node t refused i = subst (λ z. IfSome z (IsKnown code shared items turns node t refused)) is each in
    slice_get_within turns i known.0 known.1

pub known_turn_of_node : (code : List ℕ) (shared : Shared) (items : List SourcedFlat) (turns : List Turn) (node t : ℕ) (refused : Bool) (found : Option ℕ)
    (i : ℕ) (turn : Turn) (s : SourcedFlat) → found ≡ Some i → IfSome found (IsKnown code shared items turns node t refused)
    → slice_get turns i ≡ Some turn → slice_get items node ≡ Some s → IsTurnOf code shared s t refused turn
known_turn_of_node code shared items turns node t refused found i turn s is each at here =
    let known : IsKnown code shared items turns node t refused i = subst (λ z. IfSome z (IsKnown code shared items turns node t refused)) is each in
    subst (IsTurnOf code shared s t refused) (same_Some known.0 turn (sym known.1 ∙ at)) (known.2 s here)

pub bools_equal : (a b : Bool) → not (beq a b) ≡ false → a ≡ b
bools_equal true true e = refl
bools_equal true false e = absurd (true≢false e)
bools_equal false true e = absurd (true≢false e)
bools_equal false false e = refl

pub turns_same_or_pushed : (code : List ℕ) (shared : Shared) (turns new : List Turn) (turn : Turn) → AreTurns code shared turns
    → IsTurn code shared turn → (new ≡ turns) ⊎ (new ≡ turns ++ turn ∷ []) → AreTurns code shared new
turns_same_or_pushed code shared turns new turn all is either = elim either [
  | inl e ↦ subst (AreTurns code shared) (sym e) all
  | inr e ↦ subst (AreTurns code shared) (sym e) (all_of_push (IsTurn code shared) turns turn all is)
]

pub if_some_weaker : {A : Type 0} (P Q : A → Type 0) (result : Option A) → ((x : A) → P x → Q x) → IfSome result P → IfSome result Q
if_some_weaker P Q None each h = tt
if_some_weaker P Q (Some x) each h = each x h

pub if_some_both : {A : Type 0} (P Q : A → Type 0) (result : Option A) → IfSome result P → IfSome result Q → IfSome result (λ x. P x × Q x)
if_some_both P Q None h k = tt
if_some_both P Q (Some x) h k = (h, k)

pub if_err_weaker : {A E : Type 0} (P Q : E → Type 0) (result : Result A E) → ((e : E) → P e → Q e) → IfErr result P → IfErr result Q
if_err_weaker P Q (Ok x) each h = tt
if_err_weaker P Q (Err e) each h = each e h

-- a turn of a thread that has to wait
pub waiting_turn_is_turn : (code : List ℕ) (shared : Shared) (turn : Turn) → turn.waits ≡ true → turn.to ≡ turn.from → turn.afters.items ≡ []
    → (x : ThreadState × Source) (cells : List Cell) → turn.from < length shared.threads → x ≡ slice_index_or shared.threads turn.from idle_beside
    → 0 < length turn.numbers.items → EachOnce turn.numbers.items → HaveWords shared.words turn.spots.items → cells ≡ cells_at shared.words turn.spots.items
    → (turn.tries ≡ false → MayGo true (ask_of code x.0) → ⊥)
    → MustWait turn.refused (get_or turn.numbers.items 0 0) (get_or cells 0 empty).fields (ask_of code x.0) → IsTurn code shared turn
waiting_turn_is_turn code shared turn waits to after x cells from x_is some once spots cells_are tries must = record {
  from = from;
  to = subst (λ n. n < length shared.threads) (sym to) from;
  some = some;
  once = once;
  spots = spots;
  afters = subst (HaveWords shared.words) (sym after) tt;
  tries = λ no. subst (λ (z : ThreadState × Source). MayGo true (ask_of code z.0) → ⊥) x_is (tries no);
  waits = λ _. subst (λ (z : ThreadState × Source).
      MustWait turn.refused (get_or turn.numbers.items 0 0) (get_or (cells_at shared.words turn.spots.items) 0 empty).fields (ask_of code z.0)) x_is
      (subst (λ (z : List Cell). MustWait turn.refused (get_or turn.numbers.items 0 0) (get_or z 0 empty).fields (ask_of code x.0)) cells_are must);
  takes = λ leads. absurd (cc (sym waits ∙ leads));
}

-- a turn that is found, once its end has numbers
pub found_turn_is_turn : (code : List ℕ) (old mid new : Shared) → Grows old mid → Grows mid new → (turn : Turn) → turn.waits ≡ false
    → (x y : ThreadState × Source) (cells after : List Cell) → turn.from < length old.threads → x ≡ slice_index_or old.threads turn.from idle_beside
    → 0 < length turn.numbers.items → EachOnce turn.numbers.items → HaveWords old.words turn.spots.items → cells ≡ cells_at old.words turn.spots.items
    → turn.to < length mid.threads → slice_index_or mid.threads turn.to idle_beside ≡ y
    → HaveWords new.words turn.afters.items → cells_at new.words turn.afters.items ≡ after → (turn.tries ≡ false → MayGo true (ask_of code x.0) → ⊥)
    → TakesTurn code turn.numbers.items turn.refused x cells y after → IsTurn code new turn
found_turn_is_turn code old mid new first more turn leads x y cells after from x_is some once spots cells_are to y_is afters after_are tries takes =
    let all = grows_transitive old mid new first more in
    let numbers = turn.numbers.items in
    let from_is = kept_element_is_equal old.threads new.threads idle_beside all.threads turn.from from in
    let to_is = kept_element_is_equal mid.threads new.threads idle_beside more.threads turn.to to in
    let spots_are = cells_grown old.words new.words all.words turn.spots.items spots in
    record {
      from = below_length_kept old.threads new.threads idle_beside all.threads turn.from from;
      to = below_length_kept mid.threads new.threads idle_beside more.threads turn.to to;
      some = some;
      once = once;
      spots = have_words_grown old.words new.words all.words turn.spots.items spots;
      afters = afters;
      tries = λ no. subst (λ z. MayGo true (ask_of code z) → ⊥) (ap (λ (x : ThreadState × Source). x.0) (x_is ∙ sym from_is)) (tries no);
      waits = λ waits. absurd (cc (sym waits ∙ leads));
      takes = λ _.
          subst (λ z. TakesTurn code numbers turn.refused z (cells_at new.words turn.spots.items) (slice_index_or new.threads turn.to idle_beside)
          (cells_at new.words turn.afters.items)) (x_is ∙ sym from_is)
          (subst (λ z. TakesTurn code numbers turn.refused x z (slice_index_or new.threads turn.to idle_beside) (cells_at new.words turn.afters.items))
          (cells_are ∙ sym spots_are)
          (subst (λ z. TakesTurn code numbers turn.refused x cells z (cells_at new.words turn.afters.items)) (sym (to_is ∙ y_is))
          (subst (TakesTurn code numbers turn.refused x cells y) (sym after_are) takes)));
    }

-- objects keep their spots while the tables grow
pub pairs_grown : (old new : Shared) → Grows old new → (objects : List Cell) (numbers : List ℕ) (spots : List Spot)
    → AllPairs (IsAtSpot old.words objects) numbers spots → AllPairs (IsAtSpot new.words objects) numbers spots
pairs_grown old new grows objects numbers spots all =
    pairs_weaker (IsAtSpot old.words objects) (IsAtSpot new.words objects) numbers spots
    (λ o spot at. record {
      known = below_length_kept old.words new.words [] grows.words spot.words at.known;
      within = at.within;
      own = cell_grown old.words new.words grows.words spot at.known ∙ at.own;
    }) all
