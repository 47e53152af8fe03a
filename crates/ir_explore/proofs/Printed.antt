-- Outcomes that are printed as they are found.
use Rattle.std.proofs.Common.{◌≡◌, ◌++◌, ℕ, ◌<◌, ◌≤◌, true, List, [], ◌∷◌, Option, Some, length, get_or, refl, sym, subst, arith, inl, inr}
use Rattle.std.specs.Prelude.{Err, slice_get}
use Rattle.std.specs.Io.KnownBytes.{Appends}
use Rattle.std.proofs.KnownBytes.{Appends-nil}
use Rattle.std.proofs.lemmas.Option.{slice_get-get_or}
use Rattle.ir_search.specs.Following.{Stay}
use Rattle.ir_search.proofs.CallerLemmas.{slice_get_some_below}
use Rattle.ir_stream.specs.Answers.{AppendsPrefix}
use Rattle.ir_graph.specs.Setup.{Setup}
use Rattle.ir_outcomes.specs.declared.shown.Shown.{Shown}
use Rattle.ir_files.specs.Writers.{Writer, Took, Failed}
use Rattle.ir_files.specs.declared.exit_status.ExitStatus.{ExitStatus}
use Rattle.ir_image.specs.Guest.{Guest}
use Rattle.ir_outcomes.specs.Explored.{AreExplored, IsExplored}
use Rattle.ir_outcomes.specs.declared.explored.Explored.{Explored}
use Rattle.ir_outcomes.specs.declared.exploring.Exploring.{Exploring}
use Rattle.ir_outcomes.proofs.CallerLemmas.{explored_before_first}
use Rattle.ir_explore.specs.Faults.{IsExplorable, StopsPrinting, ToldNothing}
use Rattle.ir_explore.specs.Printed.{HasPrinted}
use Rattle.ir_explore.specs.Texts.{Objects, objects_of, AreTexts, TellsPart, AreKnown, known_of, IsEnding, IsAnswerAbout}
use Rattle.ir_explore.specs.declared.fault.ExploreFault.{ExploreFault}
use Rattle.ir_explore.specs.declared.fault.ExploreFault.TheVariants.{Image, TooLarge, NoMem, Write}
use Rattle.ir_explore.specs.Plan.{ExplorePlan, setup_of}
use Rattle.ir_explore.proofs.Joined.{no_outcome_no_texts, texts_kept_among_more}
use Rattle.ir_stream.proofs.CallerLemmas.{prefix_after_whole}

-- before the first outcome nothing is printed
pub empty_text_is_part : (setup : Setup) → TellsPart setup []
empty_text_is_part setup = record {
  flats = [];
  outcomes = [];
  levels = 0;
  explored = explored_before_first setup [];
  texts = no_outcome_no_texts (objects_of setup.guest) [] [];
}

-- the lines of the outcomes that a search has found
pub printed_are_part : (setup : Setup) (o : Objects) (e : Exploring) (text : List ℕ) → o ≡ objects_of setup.guest
    → AreExplored setup e.states.graph.flats.items e.list.levels e.list.outcomes.items
    → HasPrinted o e (length e.list.outcomes.items) text → TellsPart setup text
printed_are_part setup o e text same explored printed = record {
  flats = e.states.graph.flats.items;
  outcomes = e.list.outcomes.items;
  levels = e.list.levels;
  explored = explored;
  texts = subst (λ z. HasPrinted z e (length e.list.outcomes.items) text) same printed;
}

-- out of memory before anything is printed
pub no_memory_stops_first : (guest : Guest) (plan : ExplorePlan) (w : Writer) → w.before ≡ w.after → StopsPrinting NoMem guest plan w
no_memory_stops_first guest plan w same =
    inl ([], empty_text_is_part (setup_of guest plan), subst (λ z. Took (record w { after = z }) []) same (Appends-nil w.before))

-- the writer fails in a whole answer
pub failed_writer_stops : (guest : Guest) (plan : ExplorePlan) (answered : ExitStatus) (text : List ℕ) (w : Writer) → IsAnswerAbout guest plan answered text
    → Failed w text → StopsPrinting Write guest plan w
failed_writer_stops guest plan answered text w answer failed = inr (refl, answered, text, answer, failed)

-- a list whose elements stay is no longer than what it becomes
pub kept_length_le : {A : Type 0} (xs ys : List A) → Stay xs ys → length xs ≤ length ys
kept_length_le [] ys stay = omega arith
kept_length_le (x ∷ xs) ys stay =
    let at = slice_get-get_or (x ∷ xs) (length xs) x (omega arith) in
    let less = slice_get_some_below ys (length xs) (get_or (x ∷ xs) (length xs) x) (stay (length xs) (get_or (x ∷ xs) (length xs) x) at) in
    omega (arith, less)

-- what was printed, among the outcomes that were found since
pub printed_among_more : (o : Objects) (e e' : Exploring) (many : ℕ) (text : List ℕ) → many ≡ length e.list.outcomes.items
    → ((i : ℕ) (x : Shown) → slice_get e.list.outcomes.items i ≡ Some x → x.node < length e.states.graph.flats.items)
    → Stay e.states.graph.flats.items e'.states.graph.flats.items → Stay e.list.outcomes.items e'.list.outcomes.items
    → HasPrinted o e (length e.list.outcomes.items) text → HasPrinted o e' many text
printed_among_more o e e' many text is nodes stay stays printed =
    subst (λ n. HasPrinted o e' n text) (sym is)
    (texts_kept_among_more o e.states.graph.flats.items e'.states.graph.flats.items e.list.outcomes.items e'.list.outcomes.items
    (length e.list.outcomes.items) text printed (omega arith) nodes stay stays)

-- the writer fails in what comes after what it took
pub failed_after_taken_text : (w : Writer) (mid : Option (List ℕ)) (done text : List ℕ) → Appends w.before mid done → AppendsPrefix mid w.after text
    → w.failed ≡ true → Failed w (done ++ text)
failed_after_taken_text w mid done text took prefix broken =
    (prefix_after_whole {A = ℕ} {E = ℕ} (Err 0) w.before mid w.after done text took prefix, broken)

-- what is known of a guest once it is explored
pub explored_is_known : (guest : Guest) (plan : ExplorePlan) (e : Explored) → IsExplored (setup_of guest plan) plan.bounds plan.switches e
    → AreKnown guest plan (known_of e)
explored_is_known guest plan e is = record {
  explored = is.explored;
  all = is.all;
  nodes = is.nodes;
  reached = is.reached;
  found = is.found;
  hanging = is.hangs;
  unknown = is.unknown;
  timed = is.timed;
  untimed = is.untimed;
  covered = is.covered;
  left = is.left;
  few = is.few;
  stopped = is.stopped;
}

-- the lines of all outcomes and then how the search ended are the answer
pub lines_and_end_answer : (guest : Guest) (plan : ExplorePlan) (o : Objects) (s : Exploring) (e : Explored) (lines last : List ℕ)
    (answered : ExitStatus) → o ≡ objects_of guest → e.states.graph.flats.items ≡ s.states.graph.flats.items
    → e.outcomes.items ≡ s.list.outcomes.items → IsExplored (setup_of guest plan) plan.bounds plan.switches e
    → HasPrinted o s (length s.list.outcomes.items) lines → IsEnding (known_of e) answered last → IsAnswerAbout guest plan answered (lines ++ last)
lines_and_end_answer guest plan o s e lines last answered same flats outcomes is printed ending = inl (
  known_of e,
  explored_is_known guest plan e is,
  record {
    lines = lines;
    texts = subst (λ z. AreTexts (objects_of guest) z e.outcomes.items (length e.outcomes.items) lines) (sym flats)
        (subst (λ z. AreTexts (objects_of guest) s.states.graph.flats.items z (length z) lines) (sym outcomes)
        (subst (λ z. HasPrinted z s (length s.list.outcomes.items) lines) same printed));
    last_lines = last;
    ending = ending;
    whole = refl;
  },
)

-- why an answer about a guest isn't printed whole is why none is told of the bytes that encode it
pub stops_told_of_bytes : (e : ExploreFault) (bytes : List ℕ) (plan : ExplorePlan) (guest : Guest) (w : Writer) → IsExplorable bytes plan.profile guest
    → StopsPrinting e guest plan w → ToldNothing e bytes plan w
stops_told_of_bytes (Image why) bytes plan guest w is stops = elim stops [
  | inl early ↦ absurd early
  | inr p ↦ absurd (cc p.0)
]
stops_told_of_bytes TooLarge bytes plan guest w is stops = elim stops [
  | inl early ↦ absurd early
  | inr p ↦ absurd (cc p.0)
]
stops_told_of_bytes NoMem bytes plan guest w is stops = inr (guest, is, stops)
stops_told_of_bytes Write bytes plan guest w is stops = (guest, is, stops)
