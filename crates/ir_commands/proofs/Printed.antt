-- What was printed where no run was recorded.
use Rattle.std.proofs.Common.{◌≡◌, ◌⊎◌, ◌++◌, List, ℕ, Option, [], ap, append-nil, arith, inl, inr, refl, subst, sym}
use Rattle.std.proofs.KnownBytes.{Appends-nil}
use Rattle.std.specs.Io.KnownBytes.{Appends}
use Rattle.ir_explore.specs.Faults.{explore_fault_status}
use Rattle.ir_explore.specs.declared.fault.ExploreFault.{ExploreFault}
use Rattle.ir_explore.specs.declared.fault.ExploreFault.TheVariants as explore
use Rattle.ir_files.specs.Statuses.{status_number}
use Rattle.ir_files.specs.Writers.{Writer, Took}
use Rattle.ir_files.specs.declared.exit_status.ExitStatus.{ExitStatus}
use Rattle.ir_files.specs.declared.exit_status.ExitStatus.TheVariants as status
use Rattle.ir_past.specs.Answers.{Stops}
use Rattle.ir_past.specs.declared.past_err.PastErr.{PastErr}
use Rattle.ir_past.specs.declared.past_err.PastErr.TheVariants as past
use Rattle.ir_record_command.specs.Faults.{RefusesRecord, fault_status}
use Rattle.ir_record_command.specs.Plan.{Plan}
use Rattle.ir_record_command.specs.Recording.{IsRecordedOf, recording_lines}
use Rattle.ir_record_command.specs.Stopping.{Devices, LeavesRecording, Tellings, devices, lines_between}
use Rattle.ir_record_command.specs.declared.record_fault.RecordFault.{RecordFault}
use Rattle.ir_record_command.specs.declared.record_fault.RecordFault.TheVariants.{Clock, Image, TooLarge, Order, NoMem, Trace, Output, Lines}
use Rattle.ir_stream.specs.Answers.{AppendsPrefix}
use Rattle.ir_stream.proofs.CallerLemmas.{appends_prefix_append}
use Rattle.ir_trace.specs.Recorded.{Recorded}
use Rattle.ir_commands.specs.Files.{TellsFault}
use Rattle.ir_commands.specs.Searching.{TellsNoSearch}
use Rattle.ir_commands.specs.Sought.{IsWithLines, PrintsPart}
use Rattle.ir_commands.specs.Writing.{IsStatusOfNoRecording}
use Rattle.ir_commands.proofs.Refused.{refused_since}
use Rattle.ir_commands.proofs.Stored.{stops_because}

-- ---- statuses

refused_is_not_bad : {A : Type 0} → status.Refused ≡ status.BadArguments → A
refused_is_not_bad e = let bad : 3 ≡ 2 = ap status_number e in absurd (omega (arith, bad))

pub failed_is_not_bad : {A : Type 0} → status.Failed ≡ status.BadArguments → A
failed_is_not_bad e = let bad : 1 ≡ 2 = ap status_number e in absurd (omega (arith, bad))

-- no fault of a recording is that of the arguments
pub fault_is_not_bad : {A : Type 0} (e : RecordFault) → fault_status e ≡ status.BadArguments → A
fault_is_not_bad (Image e) p = refused_is_not_bad p
fault_is_not_bad TooLarge p = refused_is_not_bad p
fault_is_not_bad (Order threads) p = refused_is_not_bad p
fault_is_not_bad NoMem p = failed_is_not_bad p
fault_is_not_bad Clock p = failed_is_not_bad p
fault_is_not_bad Trace p = failed_is_not_bad p
fault_is_not_bad Output p = failed_is_not_bad p
fault_is_not_bad Lines p = failed_is_not_bad p

pub explore_fault_is_not_bad : {A : Type 0} (e : ExploreFault) → explore_fault_status e ≡ status.BadArguments → A
explore_fault_is_not_bad (explore.Image e) p = refused_is_not_bad p
explore_fault_is_not_bad explore.TooLarge p = refused_is_not_bad p
explore_fault_is_not_bad explore.NoMem p = failed_is_not_bad p
explore_fault_is_not_bad explore.Write p = failed_is_not_bad p

-- ---- what is printed in part

all_is_prefix : (a b : Option (List ℕ)) (text : List ℕ) → Appends a b text → AppendsPrefix a b text
all_is_prefix a b text p = record { part = text; more = []; splits = sym (append-nil text); grown = p }

printed_by : (before between after : Option (List ℕ)) (e : RecordFault) (image : List ℕ) (plan : Plan) (text : List ℕ) {last : Type 0}
    → (last → between ≡ after) → Appends before between text
    → (RefusesRecord e image plan × last) ⊎ ((recorded : Recorded) × (printed : List (List ℕ)) × IsRecordedOf image plan recorded printed
    × AppendsPrefix between after (recording_lines recorded)) → (whole : List ℕ) × IsWithLines image plan text whole × AppendsPrefix before after whole
printed_by before between after e image plan text same first (inl r) =
    (text, inl refl, all_is_prefix before after text (subst (λ z. Appends before z text) (same r.1) first))
printed_by before between after e image plan text same first (inr s) =
    (text ++ recording_lines s.0, inr (s.0, s.1, s.2, refl), appends_prefix_append before between after text (recording_lines s.0) first s.3)

-- a recording that stopped behind a text left the beginning of that text and the lines of a recording
pub leaves_in_part : {W P O : Type 0} (d : Tellings W P O) (e : RecordFault) (image : List ℕ) (plan : Plan) (old new : Devices W P O) (said : O) (reports : Writer)
    (text : List ℕ) → Appends (d.took old.lines) (d.took said) text → LeavesRecording d e image plan (devices old.trace old.outputs said) new reports
    → (whole : List ℕ) × IsWithLines image plan text whole × AppendsPrefix (d.took old.lines) (d.took new.lines) whole
leaves_in_part {W} {P} {O} d e image plan old new said reports text first leaves =
    let same : new.lines ≡ said → d.took said ≡ d.took new.lines = λ h. sym (ap (λ (o : O). d.took o) h) in
    printed_by (d.took old.lines) (d.took said) (d.took new.lines) e image plan text same first
    (stops_because e image plan _ _ (lines_between d (devices old.trace old.outputs said) new) (λ h. h.2) (λ h. h.1) same leaves.1)

-- a writer that is as before was given nothing
pub same_is_nothing : {O : Type 0} (took : O → Option (List ℕ)) (before after : O) → after ≡ before → Appends (took before) (took after) []
same_is_nothing {O} took before after same = subst (λ (o : O). Appends (took before) (took o) []) (sym same) (Appends-nil (took before))

pub part_since : {one other : List ℕ → Type 0} (out : Writer) → ((text : List ℕ) → one text → other text) → PrintsPart one out → PrintsPart other out
part_since out to (inl h) = inl h
part_since out to (inr h) = inr (h.0, to h.0 h.1, h.2)

pub stops_in_part : (e : PastErr) (w : Writer) (text : List ℕ) → Stops e w text → AppendsPrefix w.before w.after text
stops_in_part past.NoMem w text s = s.0
stops_in_part past.Write w text s = s.0

-- ---- a search that wasn't made, or was in vain

pub none_since : {one other : Type 0} {a b : List ℕ → Type 0} {answered : ExitStatus} {out faults : Writer} → (one → other) → ((text : List ℕ) → a text → b text)
    → TellsNoSearch one a answered out faults → TellsNoSearch other b answered out faults
none_since {out = out} to texts h =
    record { because = refused_since to h.because; told = h.told; printed = part_since out texts h.printed; unprinted = h.unprinted }

pub nothing_searched : {refuses : Type 0} {is_answer : List ℕ → Type 0} {answered : ExitStatus} {out faults : Writer}
    → IsStatusOfNoRecording refuses answered → TellsFault faults → Took out [] → TellsNoSearch refuses is_answer answered out faults
nothing_searched because told nothing = record { because = because; told = told; printed = inl nothing; unprinted = λ bad. nothing }
