-- An event that is read is the event that was written, and what was written is read again.
use Rattle.std.proofs.Common.{◌≡◌, ℕ, ◌<◌, true, cond, ltb, eqb, List, [], ◌∷◌, ◌++◌, Result, Ok, Err, refl, ◌∙◌, subst}
use Rattle.std.specs.Prelude.{◌^◌}
use Rattle.ir_thread.specs.State.{is_result}
use Rattle.std.proofs.lemmas.Bool.{ltb-true, lt-ltb, eqb-true}
use Rattle.byteorder.specs.Endian.{little_bytes}
use Rattle.ir_bytes.specs.Reading.{number_at, field_at}
use Rattle.ir_bytes.proofs.CallerLemmas.{two_binds_are_ok, three_binds_are_ok, four_binds_are_ok, conditional_cases, ok_is_injective}
use Rattle.ir_bytes.proofs.CallerLemmas.{test_true_if_no_fault, no_fault_if_test_true, IsBytes, Takes, takes_append, number_at_takes_number}
use Rattle.ir_bytes.proofs.CallerLemmas.{number_at-little_bytes, field_at_takes_field, field_at-little_bytes, takes_single_byte}
use Rattle.ir_bytes.proofs.CallerLemmas.{number_at_takes_byte, number_at_of_byte, field_at_of_byte}
use Rattle.ir_runs.specs.declared.env_kind.EnvKind.{EnvKind}
use Rattle.ir_runs.specs.declared.env_kind.EnvKind.TheVariants.{Clock, Random, Input}
use Rattle.ir_thread.specs.declared.profile.Profile.{Profile}
use Rattle.ir_thread.specs.declared.profile.Profile.TheVariants.{One, Two}
use Rattle.ir_log.specs.declared.event.Event.{Event}
use Rattle.ir_log.specs.declared.event.Event.TheVariants.{Answer, Read, Write, Try}
use Rattle.ir_trace.specs.declared.trace_err.TraceErr.{TraceErr}
use Rattle.ir_trace.specs.declared.trace_err.TraceErr.TheVariants.{Short, Count, Tag, Range}
use Rattle.ir_trace.specs.Recorded.{answer_at, input_at, read_at, write_at, try_at, try_by, event_by, event_reading}
use Rattle.ir_trace.specs.Bounds.{IsWord, IsEvent}
use Rattle.ir_trace.specs.Fields.{input_field, object_field}
use Rattle.ir_trace.specs.Encoding.{kind_tag, event_encoding}
use Rattle.ir_thread.proofs.CallerLemmas.{environment_result_word}

-- what reading an event takes
abbrev pub TakesEvent : Profile → ℕ → List ℕ → Event × List ℕ → Type 0
TakesEvent profile objects bytes x = Takes bytes (event_encoding x.0) x.1 × IsEvent profile objects x.0

-- the object of an entry, and what follows its tag
object_field_takes_byte : (objects : ℕ) (bytes : List ℕ) (n : ℕ × List ℕ) → IsBytes bytes → field_at Short (object_field objects) bytes ≡ Ok n
    → Takes bytes (n.0 ∷ []) n.1 × (n.0 < objects)
object_field_takes_byte objects bytes n fits e =
    let t = field_at_takes_field Short (object_field objects) bytes n fits e in
    (takes_single_byte bytes n t.takes t.fits, ltb-true n.0 objects (test_true_if_no_fault (ltb n.0 objects) Count t.passes))

object_field_encoded : (objects n : ℕ) (rest : List ℕ) → n < objects → field_at Short (object_field objects) (n ∷ rest) ≡ Ok (n, rest)
object_field_encoded objects n rest lt = field_at_of_byte Short (object_field objects) n rest refl
    (no_fault_if_test_true (ltb n objects) Count (lt-ltb n objects lt))

-- ---- the tags

answer_at_takes_event : (profile : Profile) (objects : ℕ) (all rest : List ℕ) (kind : EnvKind) (x : Event × List ℕ) → Takes all (kind_tag kind ∷ []) rest
    → ((v : ℕ) → IsWord v → is_result kind v ≡ true) → answer_at kind rest ≡ Ok x → TakesEvent profile objects all x
unfolding answer_at event_encoding
answer_at_takes_event profile objects all rest kind x prefix is e =
    two_binds_are_ok (number_at Short 4 rest) (λ n. Ok (Answer kind n.0, n.1)) x e (λ n e0 e1.
    let t = number_at_takes_number Short 4 rest n prefix.rest_fits e0 in
    subst (TakesEvent profile objects all) (ok_is_injective TraceErr (Answer kind n.0, n.1) x e1)
    (takes_append all (kind_tag kind ∷ []) rest (little_bytes 4 n.0) n.1 prefix t.0, is n.0 t.1))

input_at_takes_event : (profile : Profile) (objects : ℕ) (all rest : List ℕ) (x : Event × List ℕ) → Takes all (3 ∷ []) rest → input_at rest ≡ Ok x
    → TakesEvent profile objects all x
unfolding input_at event_encoding
input_at_takes_event profile objects all rest x prefix e =
    two_binds_are_ok (field_at Short input_field rest) (λ n. Ok (Answer Input n.0, n.1)) x e (λ n e0 e1.
    let t = field_at_takes_field Short input_field rest n prefix.rest_fits e0 in
    subst (TakesEvent profile objects all) (ok_is_injective TraceErr (Answer Input n.0, n.1) x e1)
    (takes_append all (3 ∷ []) rest (little_bytes 4 n.0) n.1 prefix t.takes, test_true_if_no_fault (is_result Input n.0) Range t.passes))

read_at_takes_event : (profile : Profile) (objects : ℕ) (all rest : List ℕ) (x : Event × List ℕ) → Takes all (4 ∷ []) rest → read_at objects rest ≡ Ok x
    → TakesEvent profile objects all x
unfolding read_at event_encoding
read_at_takes_event profile objects all rest x prefix e =
    three_binds_are_ok (field_at Short (object_field objects) rest) (λ object. number_at Short 4 object.1)
    (λ object version. Ok (Read object.0 version.0, version.1)) x e (λ object version e0 e1 e2.
    let t0 = object_field_takes_byte objects rest object prefix.rest_fits e0 in
    let t1 = number_at_takes_number Short 4 object.1 version t0.0.rest_fits e1 in
    let own = takes_append rest (object.0 ∷ []) object.1 (little_bytes 4 version.0) version.1 t0.0 t1.0 in
    subst (TakesEvent profile objects all) (ok_is_injective TraceErr (Read object.0 version.0, version.1) x e2)
    (takes_append all (4 ∷ []) rest (object.0 ∷ little_bytes 4 version.0) version.1 prefix own, (t0.1, t1.1)))

write_at_takes_event : (profile : Profile) (objects : ℕ) (all rest : List ℕ) (x : Event × List ℕ) → Takes all (5 ∷ []) rest → write_at objects rest ≡ Ok x
    → TakesEvent profile objects all x
unfolding write_at event_encoding
write_at_takes_event profile objects all rest x prefix e =
    four_binds_are_ok (field_at Short (object_field objects) rest) (λ object. number_at Short 4 object.1)
    (λ object version. number_at Short 4 version.1) (λ object version readers. Ok (Write object.0 version.0 readers.0, readers.1)) x e
    (λ object version readers e0 e1 e2 e3.
    let t0 = object_field_takes_byte objects rest object prefix.rest_fits e0 in
    let t1 = number_at_takes_number Short 4 object.1 version t0.0.rest_fits e1 in
    let t2 = number_at_takes_number Short 4 version.1 readers t1.0.rest_fits e2 in
    let both = takes_append object.1 (little_bytes 4 version.0) version.1 (little_bytes 4 readers.0) readers.1 t1.0 t2.0 in
    let own = takes_append rest (object.0 ∷ []) object.1 (little_bytes 4 version.0 ++ little_bytes 4 readers.0) readers.1 t0.0 both in
    subst (TakesEvent profile objects all) (ok_is_injective TraceErr (Write object.0 version.0 readers.0, readers.1) x e3) (
      takes_append all (5 ∷ []) rest (object.0 ∷ (little_bytes 4 version.0 ++ little_bytes 4 readers.0)) readers.1 prefix own,
      (t0.1, t1.1, t2.1),
    ))

try_at_takes_event : (objects : ℕ) (all rest : List ℕ) (x : Event × List ℕ) → Takes all (6 ∷ []) rest → try_at objects rest ≡ Ok x
    → TakesEvent Two objects all x
unfolding try_at event_encoding
try_at_takes_event objects all rest x prefix e =
    two_binds_are_ok (field_at Short (object_field objects) rest) (λ object. Ok (Try object.0, object.1)) x e (λ object e0 e1.
    let t = object_field_takes_byte objects rest object prefix.rest_fits e0 in
    subst (TakesEvent Two objects all) (ok_is_injective TraceErr (Try object.0, object.1) x e1)
    (takes_append all (6 ∷ []) rest (object.0 ∷ []) object.1 prefix t.0, (refl, t.1)))

try_by_takes_event : (profile : Profile) (objects : ℕ) (all rest : List ℕ) (x : Event × List ℕ) → Takes all (6 ∷ []) rest
    → try_by profile objects rest ≡ Ok x → TakesEvent profile objects all x
unfolding try_by
try_by_takes_event One objects all rest x prefix e = absurd cc
try_by_takes_event Two objects all rest x prefix e = try_at_takes_event objects all rest x prefix e

-- the tag that was read
takes_equal_tag : (all rest : List ℕ) (tag n : ℕ) → Takes all (tag ∷ []) rest → eqb tag n ≡ true → Takes all (n ∷ []) rest
takes_equal_tag all rest tag n prefix h = subst (λ (k : ℕ). Takes all (k ∷ []) rest) (eqb-true tag n h) prefix

event_by_takes_event : (profile : Profile) (objects : ℕ) (all rest : List ℕ) (tag : ℕ) (x : Event × List ℕ) → Takes all (tag ∷ []) rest
    → event_by profile tag objects rest ≡ Ok x → TakesEvent profile objects all x
unfolding event_by
event_by_takes_event profile objects all rest tag x prefix e =
    let none : Result (Event × List ℕ) TraceErr = Err Tag in
    let from6 = cond (eqb tag 6) (try_by profile objects rest) none in
    let from5 = cond (eqb tag 5) (write_at objects rest) from6 in
    let from4 = cond (eqb tag 4) (read_at objects rest) from5 in
    let from3 = cond (eqb tag 3) (input_at rest) from4 in
    let from2 = cond (eqb tag 2) (answer_at Random rest) from3 in
    conditional_cases (eqb tag 1) (answer_at Clock rest) from2 (Ok x) e
    (λ t h. answer_at_takes_event profile objects all rest Clock x (takes_equal_tag all rest tag 1 prefix t) (λ v w. lt-ltb v (2 ^ 32) w) h) (λ _ e2.
    conditional_cases (eqb tag 2) (answer_at Random rest) from3 (Ok x) e2
    (λ t h. answer_at_takes_event profile objects all rest Random x (takes_equal_tag all rest tag 2 prefix t) (λ v w. lt-ltb v (2 ^ 32) w) h) (λ _ e3.
    conditional_cases (eqb tag 3) (input_at rest) from4 (Ok x) e3 (λ t h. input_at_takes_event profile objects all rest x (takes_equal_tag all rest tag 3 prefix t) h) (λ _ e4.
    conditional_cases (eqb tag 4) (read_at objects rest) from5 (Ok x) e4 (λ t h. read_at_takes_event profile objects all rest x (takes_equal_tag all rest tag 4 prefix t) h)
    (λ _ e5.
    conditional_cases (eqb tag 5) (write_at objects rest) from6 (Ok x) e5 (λ t h. write_at_takes_event profile objects all rest x (takes_equal_tag all rest tag 5 prefix t) h)
    (λ _ e6.
    conditional_cases (eqb tag 6) (try_by profile objects rest) none (Ok x) e6 (λ t h. try_by_takes_event profile objects all rest x (takes_equal_tag all rest tag 6 prefix t) h)
    (λ _ h. absurd cc))))))

pub event_at_takes_event : (profile : Profile) (objects : ℕ) (bytes : List ℕ) (x : Event × List ℕ) → IsBytes bytes → event_reading profile objects bytes ≡ Ok x
    → TakesEvent profile objects bytes x
unfolding event_reading
event_at_takes_event profile objects bytes x fits e =
    two_binds_are_ok (number_at Short 1 bytes) (λ n. event_by profile n.0 objects n.1) x e
    (λ n e0 e1. event_by_takes_event profile objects bytes n.1 n.0 x (number_at_takes_byte Short bytes n fits e0) e1)

-- ---- and again

answer_at_of_encoding : (kind : EnvKind) (v : ℕ) (rest : List ℕ) → IsWord v → answer_at kind (little_bytes 4 v ++ rest) ≡ Ok (Answer kind v, rest)
unfolding answer_at
answer_at_of_encoding kind v rest fits = rw (number_at-little_bytes Short 4 v rest fits) refl

input_at_of_encoding : (v : ℕ) (rest : List ℕ) → is_result Input v ≡ true → input_at (little_bytes 4 v ++ rest) ≡ Ok (Answer Input v, rest)
unfolding input_at
input_at_of_encoding v rest fits = rw (field_at-little_bytes Short input_field v rest (environment_result_word Input v fits) (no_fault_if_test_true (is_result Input v) Range fits))
    refl

read_at_of_encoding : (objects o v : ℕ) (rest : List ℕ) → o < objects → IsWord v
    → read_at objects (o ∷ (little_bytes 4 v ++ rest)) ≡ Ok (Read o v, rest)
unfolding read_at
read_at_of_encoding objects o v rest lt fits = rw (object_field_encoded objects o (little_bytes 4 v ++ rest) lt, number_at-little_bytes Short 4 v rest fits) refl

write_at_of_encoding : (objects o v r : ℕ) (rest : List ℕ) → o < objects → IsWord v → IsWord r
    → write_at objects (o ∷ (little_bytes 4 v ++ (little_bytes 4 r ++ rest))) ≡ Ok (Write o v r, rest)
unfolding write_at
write_at_of_encoding objects o v r rest lt fits many =
    rw (
      object_field_encoded objects o (little_bytes 4 v ++ (little_bytes 4 r ++ rest)) lt,
      number_at-little_bytes Short 4 v (little_bytes 4 r ++ rest)
          fits,
      number_at-little_bytes Short 4 r rest many,
    ) refl

try_by_of_encoding : (profile : Profile) (objects o : ℕ) (rest : List ℕ) → profile ≡ Two → o < objects
    → try_by profile objects (o ∷ rest) ≡ Ok (Try o, rest)
unfolding try_by try_at
try_by_of_encoding One objects o rest is lt = absurd cc
try_by_of_encoding Two objects o rest is lt = rw (object_field_encoded objects o rest lt) refl

-- the tag, and then its fields
event_at_of_tag : (profile : Profile) (objects tag : ℕ) (bytes : List ℕ) → event_reading profile objects (tag ∷ bytes) ≡ event_by profile tag objects bytes
unfolding event_reading
event_at_of_tag profile objects tag bytes = rw (number_at_of_byte Short tag bytes) refl

pub event_at_of_encoding : (profile : Profile) (objects : ℕ) (e : Event) (rest : List ℕ) → IsEvent profile objects e
    → event_reading profile objects (event_encoding e ++ rest) ≡ Ok (e, rest)
unfolding event_by event_encoding
event_at_of_encoding profile objects (Answer Clock v) rest fits = event_at_of_tag profile objects 1 _ ∙ answer_at_of_encoding Clock v rest (environment_result_word Clock v fits)
event_at_of_encoding profile objects (Answer Random v) rest fits = event_at_of_tag profile objects 2 _ ∙ answer_at_of_encoding Random v rest (environment_result_word Random v fits)
event_at_of_encoding profile objects (Answer Input v) rest fits = event_at_of_tag profile objects 3 _ ∙ input_at_of_encoding v rest fits
event_at_of_encoding profile objects (Read o v) rest fits = event_at_of_tag profile objects 4 _ ∙ read_at_of_encoding objects o v rest fits.0 fits.1
event_at_of_encoding profile objects (Write o v r) rest fits = event_at_of_tag profile objects 5 _ ∙ write_at_of_encoding objects o v r rest fits.0 fits.1 fits.2
event_at_of_encoding profile objects (Try o) rest fits = event_at_of_tag profile objects 6 _ ∙ try_by_of_encoding profile objects o rest fits.0 fits.1
