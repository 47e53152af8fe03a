-- Files that stand at their places, and recordings that stopped.
use Rattle.std.proofs.Common.{◌≡◌, ◌∙◌, ◌⊎◌, ℕ, Bool, true, List, Option, ap, inl, inr, subst, sym, arith}
use Rattle.std.specs.Prelude.{IfOk, OnOk, Result, Ok, Err, codes, length}
use Rattle.std.specs.Io.KnownBytes.{Appends}
use Rattle.ir_files.specs.Given.{KnownFile, IsStored, fresh, given_bytes, is_put}
use Rattle.ir_files.specs.Outputs.{OutputWriter}
use Rattle.ir_files.specs.Statuses.{status_number}
use Rattle.ir_files.specs.Writers.{Writer, named_fault}
use Rattle.ir_files.specs.declared.exit_status.ExitStatus.{ExitStatus}
use Rattle.ir_files.specs.declared.exit_status.ExitStatus.TheVariants as status
use Rattle.ir_files.proofs.CallerLemmas.{put_file_is_stored}
use Rattle.ir_past.proofs.CallerLemmas.{nothing_is_prefix}
use Rattle.ir_record_command.specs.Faults.{IsReported, RefusesRecord, StopsRecord, Unwritten, WriteFails, image_words, record_fault_words, unwritten_words}
use Rattle.ir_record_command.specs.Order.{item_why}
use Rattle.ir_record_command.specs.Plan.{Plan}
use Rattle.ir_record_command.specs.Recording.{IsRecordedOf, recording_lines}
use Rattle.ir_record_command.specs.declared.record_fault.RecordFault.{RecordFault}
use Rattle.ir_record_command.specs.declared.record_fault.RecordFault.TheVariants.{Clock, Image, TooLarge, Order, NoMem, Trace, Output, Lines}
use Rattle.ir_stream.specs.Answers.{AppendsPrefix}
use Rattle.ir_trace.specs.Encoding.{encoding}
use Rattle.ir_trace.specs.Recorded.{Recorded}
use Rattle.ir_commands.specs.Files.{TellsFault}

-- a file that was made for a place of a folder, and is put where it was made for, is stored there
pub stored_in_place : {D Made File : Type 0} (known : File → KnownFile) (knows : D → Bool) (was_put : D → List ℕ → List ℕ → Bool) (file : Made → File)
    (folder first last : D) (place one other : List ℕ) (old made : Option Made) (bytes : List ℕ) → first ≡ folder → one ≡ place
    → ◌≡◌ {A = D × List ℕ} (last, other) (first, one)
    → given_bytes (knows first) (λ m. known (file m)) old ≡ fresh (knows folder) → is_put (was_put last) (λ m. known (file m)) made other ≡ true
    → Appends (given_bytes (knows first) (λ m. known (file m)) old) (given_bytes (knows last) (λ m. known (file m)) made) bytes
    → IsStored known (knows folder) (was_put folder) place bytes
stored_in_place {D} {Made} {File} known knows was_put file folder first last place one other old made bytes of at home empty put grown =
    let same : last ≡ folder = ap (λ (h : D × List ℕ). h.0) home ∙ of in
    let there : other ≡ place = ap (λ (h : D × List ℕ). h.1) home ∙ at in
    let by : Made → KnownFile = λ m. known (file m) in
    put_file_is_stored known (knows folder) (was_put folder) file made place bytes (given_bytes (knows first) by old) empty
    (subst (λ z. is_put (was_put folder) by made z ≡ true) there (subst (λ (d : D). is_put (was_put d) by made other ≡ true) same put))
    (subst (λ (d : D). Appends (given_bytes (knows first) by old) (given_bytes (knows d) by made) bytes) same grown)

-- the status where a file is told of that an ELF file was to be made into
pub told_is_one : {result own : ExitStatus} → (result ≡ own) ⊎ (result ≡ status.Failed)
    → (own ≡ status.Done) ⊎ ((own ≡ status.Failed) ⊎ (own ≡ status.Refused))
    → (result ≡ status.Done) ⊎ ((result ≡ status.Refused) ⊎ ((result ≡ status.Failed) ⊎ (result ≡ status.BadArguments)))
told_is_one (inr f) one = inr (inr (inl f))
told_is_one (inl e) (inl d) = inl (e ∙ d)
told_is_one (inl e) (inr (inl f)) = inr (inr (inl (e ∙ f)))
told_is_one (inl e) (inr (inr r)) = inr (inl (e ∙ r))

-- the status where labels are put
pub labels_are_one : {result : ExitStatus} → (result ≡ status.Done) ⊎ ((result ≡ status.Failed) ⊎ (result ≡ status.BadArguments))
    → (result ≡ status.Done) ⊎ ((result ≡ status.Refused) ⊎ ((result ≡ status.Failed) ⊎ (result ≡ status.BadArguments)))
labels_are_one (inl d) = inl d
labels_are_one (inr other) = inr (inr other)

-- no labels are refused
pub labels_never_refused : {A : Type 0} {result : ExitStatus} → (result ≡ status.Done) ⊎ ((result ≡ status.Failed) ⊎ (result ≡ status.BadArguments))
    → result ≡ status.Refused → A
labels_never_refused (inl d) e = let bad : 3 ≡ 0 = sym (ap status_number e) ∙ ap status_number d in absurd (omega (arith, bad))
labels_never_refused (inr (inl f)) e = let bad : 3 ≡ 1 = sym (ap status_number e) ∙ ap status_number f in absurd (omega (arith, bad))
labels_never_refused (inr (inr b)) e = let bad : 3 ≡ 2 = sym (ap status_number e) ∙ ap status_number b in absurd (omega (arith, bad))

-- what holds of a value, with what holds where there is one
pub both_if_ok : {T E : Type 0} {P Q : T → Type 0} {X : Type 0} (r : Result T E) → (X → (x : T) → P x → Q x) → OnOk r X → IfOk r P → IfOk r Q
both_if_ok (Ok x) f o p = f o x p
both_if_ok (Err e) f o p = p

lines_prefix : (e : RecordFault) (bytes : List ℕ) (printed : List (List ℕ)) (lines : List ℕ) (trace : Writer) (outputs : OutputWriter) (out : Writer)
    {later last : Type 0} → (later → last) → (last → out.before ≡ out.after) → WriteFails e bytes printed lines trace outputs out later last
    → AppendsPrefix out.before out.after lines
lines_prefix Trace bytes printed lines trace outputs out to same f = subst (λ z. AppendsPrefix out.before z lines) (same (to f.1)) (nothing_is_prefix out.before lines)
lines_prefix Output bytes printed lines trace outputs out to same f = subst (λ z. AppendsPrefix out.before z lines) (same f.2) (nothing_is_prefix out.before lines)
lines_prefix Lines bytes printed lines trace outputs out to same f = f.2.0
lines_prefix Clock bytes printed lines trace outputs out to same f = absurd f
lines_prefix (Image e) bytes printed lines trace outputs out to same f = absurd f
lines_prefix TooLarge bytes printed lines trace outputs out to same f = absurd f
lines_prefix (Order threads) bytes printed lines trace outputs out to same f = absurd f
lines_prefix NoMem bytes printed lines trace outputs out to same f = absurd f

-- why a recording stopped: it was refused, and nothing was printed, or a prefix of its lines was
pub stops_because : (e : RecordFault) (image : List ℕ) (plan : Plan) (trace : Writer) (outputs : OutputWriter) (out : Writer) {all later last : Type 0}
    → (all → last) → (later → last) → (last → out.before ≡ out.after) → StopsRecord e image plan trace outputs out all later last
    → (RefusesRecord e image plan × last) ⊎ ((recorded : Recorded) × (printed : List (List ℕ)) × IsRecordedOf image plan recorded printed
    × AppendsPrefix out.before out.after (recording_lines recorded))
stops_because e image plan trace outputs out all_last later_last same (inl h) = inl (h.0, all_last h.1)
stops_because e image plan trace outputs out all_last later_last same (inr h) =
    inr (h.0, h.1, h.2, lines_prefix e (encoding h.0) h.1 (recording_lines h.0) trace outputs out later_last same h.3)

-- a fault of a recording that is reported is told
pub reported_is_told : (e : RecordFault) (image : List ℕ) (plan : Plan) (trace output : Unwritten) (faults : Writer)
    → IsReported e image plan trace output faults → TellsFault faults
reported_is_told (Image e) image plan trace output faults r = (image_words e, r)
reported_is_told TooLarge image plan trace output faults r = (record_fault_words TooLarge, r)
reported_is_told NoMem image plan trace output faults r = (record_fault_words NoMem, r)
reported_is_told Clock image plan trace output faults r = (record_fault_words Clock, r)
reported_is_told Lines image plan trace output faults r = (record_fault_words Lines, r)
reported_is_told (Order threads) image plan trace output faults r =
    (named_fault (codes "LIST: the item '") r.4.0 (codes "' ") (item_why (length r.0.entries) r.4.0), r.4.2)
reported_is_told Trace image plan trace output faults r = (unwritten_words trace, r)
reported_is_told Output image plan trace output faults r = (unwritten_words output, r)
