-- A run has one trace, and its threads printed one output each.
use Rattle.std.proofs.Common.{◌≡◌, ◌<◌, ℕ, List, [], ◌∷◌, length, map, Option, Some, refl, sym, ap, ◌∙◌, subst, eq-eqb}
use Rattle.std.proofs.lemmas.List.{ext_get_or}
use Rattle.std.proofs.lemmas.Option.{get_or_from_slice_get}
use Rattle.ir_image.specs.Guest.{Guest}
use Rattle.ir_log.specs.Logging.{label_of}
use Rattle.ir_log.specs.declared.event.Event.{Event}
use Rattle.ir_log.specs.declared.event.Event.TheVariants as event
use Rattle.ir_runs.specs.Machine.{Label, Quiet, Answer, EnteredAt, FailedTry, LeftAt}
use Rattle.ir_runs.specs.declared.access.Access.TheVariants.{Reading, Writing}
use Rattle.ir_runs.specs.Run.{Step}
use Rattle.ir_thread.specs.State.{end_number, end_code, end_of}
use Rattle.ir_thread.specs.declared.end.End.{End}
use Rattle.ir_thread.specs.declared.end.End.TheVariants.{Exit, Breakpoint, IllegalWord, TargetMisaligned, OutsideCode, BadLoad, BadStore}
use Rattle.ir_thread.specs.declared.end.End.TheVariants.{UnknownCall, NoSuchObject, EntryOutOfOrder, NotHeld, OutputFull, BudgetSpent}
use Rattle.ir_thread.specs.declared.end.End.TheVariants.{LogFull}
use Rattle.ir_thread.specs.declared.profile.Profile.{Profile}
use Rattle.ir_trace.specs.Recorded.{RecordedThread, Recorded, recorded_thread}
use Rattle.ir_trace.specs.Absent.{absent}
use Rattle.ir_record.specs.Recording.{IsTraceOf, AreOutputs}
use Rattle.ir_order.specs.Recording.{IsOfRun}

-- ---- what is logged says which event it is

abbrev with_event : Label → List Event → List Event
with_event Quiet es = es
with_event (Answer kind value) es = event.Answer kind value ∷ es
with_event (EnteredAt object Reading version left) es = event.Read object version ∷ es
with_event (EnteredAt object Writing version left) es = event.Write object version left ∷ es
with_event (FailedTry object) es = event.Try object ∷ es
with_event (LeftAt object access version) es = es

abbrev events_of : List Label → List Event
events_of [] = []
events_of (l ∷ ls) = with_event l (events_of ls)

with_event-label_of : (e : Event) (es : List Event) → with_event (label_of e) es ≡ e ∷ es
with_event-label_of (event.Answer kind value) es = refl
with_event-label_of (event.Read object version) es = refl
with_event-label_of (event.Write object version readers) es = refl
with_event-label_of (event.Try object) es = refl

events_of-map_label_of : (es : List Event) → events_of (map label_of es) ≡ es
events_of-map_label_of [] = refl
events_of-map_label_of (e ∷ es) = ap (with_event (label_of e)) (events_of-map_label_of es) ∙ with_event-label_of e es

map_label_of_injective : (xs ys : List Event) → map label_of xs ≡ map label_of ys → xs ≡ ys
map_label_of_injective xs ys e = sym (events_of-map_label_of xs) ∙ ap events_of e ∙ events_of-map_label_of ys

-- ---- the number and the code of an end say which it is

abbrev end_by : ℕ × ℕ → Option End
end_by e = end_of e.0 e.1

end_by-number_and_code : (e : End) → end_by (end_number e, end_code e) ≡ Some e
end_by-number_and_code (Exit code) = rw (eq-eqb code code refl) refl
end_by-number_and_code Breakpoint = refl
end_by-number_and_code IllegalWord = refl
end_by-number_and_code TargetMisaligned = refl
end_by-number_and_code OutsideCode = refl
end_by-number_and_code BadLoad = refl
end_by-number_and_code BadStore = refl
end_by-number_and_code UnknownCall = refl
end_by-number_and_code NoSuchObject = refl
end_by-number_and_code EntryOutOfOrder = refl
end_by-number_and_code NotHeld = refl
end_by-number_and_code OutputFull = refl
end_by-number_and_code BudgetSpent = refl
end_by-number_and_code LogFull = refl

end_number_code_injective : (a b : End) → ◌≡◌ {A = Option (ℕ × ℕ)} (Some (end_number a, end_code a)) (Some (end_number b, end_code b)) → a ≡ b
end_number_code_injective a b e =
    let p : ◌≡◌ {A = ℕ × ℕ} (end_number a, end_code a) (end_number b, end_code b) = cc e in
    let q : ◌≡◌ {A = Option End} (Some a) (Some b) = sym (end_by-number_and_code a) ∙ ap end_by p ∙ end_by-number_and_code b in cc q

-- ---- recordings of one run

recorded_threads_equal_by_fields : (x y : RecordedThread) → x.steps ≡ y.steps → x.end ≡ y.end → x.events ≡ y.events → x ≡ y
recorded_threads_equal_by_fields x y a b c = λ i. record { steps = a i; end = b i; events = c i }

recorded_equal_by_fields : (x y : Recorded) → x.objects ≡ y.objects → x.budget ≡ y.budget → x.profile ≡ y.profile → x.threads ≡ y.threads → x ≡ y
recorded_equal_by_fields x y a b c d = λ i. record { objects = a i; budget = b i; profile = c i; threads = d i }

trace_of_run_is_unique : (guest : Guest) (budget : ℕ) (profile : Profile) (run : List Step) (a b : Recorded) → IsTraceOf guest budget profile run a
    → IsTraceOf guest budget profile run b → a ≡ b
trace_of_run_is_unique guest budget profile run a b x y = recorded_equal_by_fields a b (x.objects ∙ sym y.objects) (x.limit ∙ sym y.limit)
    (x.profile_is ∙ sym y.profile_is)
    (ext_get_or absent a.threads b.threads (x.threads ∙ sym y.threads)
    (λ t l. let below : t < length guest.entries = subst (λ n. t < n) x.threads l in
    recorded_threads_equal_by_fields (recorded_thread a t) (recorded_thread b t) (sym (x.whole.steps t below) ∙ y.whole.steps t below)
    (end_number_code_injective (recorded_thread a t).end (recorded_thread b t).end (sym (x.whole.ends t below) ∙ y.whole.ends t below))
    (map_label_of_injective (recorded_thread a t).events (recorded_thread b t).events (sym (x.whole.logs t below) ∙ y.whole.logs t below))))

run_outputs_unique : (guest : Guest) (budget : ℕ) (profile : Profile) (run : List Step) (x y : List (List ℕ)) → AreOutputs guest budget profile run x
    → AreOutputs guest budget profile run y → x ≡ y
run_outputs_unique guest budget profile run x y a b = ext_get_or [] x y (a.threads ∙ sym b.threads)
    (λ t l. let below : t < length guest.entries = subst (λ n. t < n) a.threads l in
    get_or_from_slice_get x t _ [] (a.each t below) ∙ sym (get_or_from_slice_get y t _ [] (b.each t below)))

pub run_recording_unique : (guest : Guest) (budget : ℕ) (profile : Profile) (run : List Step) (a b : Recorded) (x y : List (List ℕ))
    → IsOfRun guest budget profile run a x → IsOfRun guest budget profile run b y → (a ≡ b) × (x ≡ y)
run_recording_unique guest budget profile run a b x y p q =
    (trace_of_run_is_unique guest budget profile run a b p.trace_of q.trace_of, run_outputs_unique guest budget profile run x y p.printed q.printed)
