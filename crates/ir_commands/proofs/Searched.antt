-- What searches leave that record what they find.
use Rattle.std.proofs.Common.{◌≡◌, ◌∙◌, ◌⊎◌, List, ℕ, [], zero, suc, Some, ap, inl, inr, map, refl, subst, sym}
use Rattle.std.specs.Prelude.{Bool, Option, None, length, IfErr, IfOk, OnErr, OnOk, Result, Ok, Err, true, false}
use Rattle.std.specs.String.{string_bytes}
use Rattle.ir_explore.specs.Faults.{HasNoGuest, explore_fault_words}
use Rattle.ir_explore.specs.Hang.{HasNoHangAnswer, IsHangAnswer, IsHangRecorded, StopsHang, hang_plan}
use Rattle.ir_explore.specs.Plan.{ExplorePlan}
use Rattle.ir_explore.specs.Until.{HasNoAnswer, IsOutcomeFinding, StopsUntil, recording}
use Rattle.ir_explore.specs.declared.fault.ExploreFault.{ExploreFault}
use Rattle.ir_explore.specs.declared.fault.ExploreFault.TheVariants as fault
use Rattle.ir_arguments.specs.declared.explore.UntilArguments.{UntilArguments}
use Rattle.ir_arguments.specs.declared.hunt.HuntArguments.{HuntArguments}
use Rattle.ir_arguments.specs.declared.shrink.ShrinkArguments.{ShrinkArguments}
use Rattle.ir_files.specs.Writers.{Writer, Took, writer_of}
use Rattle.ir_files.specs.declared.exit_status.ExitStatus.{ExitStatus}
use Rattle.ir_files.specs.declared.exit_status.ExitStatus.TheVariants as status
use Rattle.ir_explore.specs.declared.hang_order.HangOrder.{HangOrder}
use Rattle.ir_hunt.specs.Finding.{by_list}
use Rattle.ir_hunt.specs.Lines.{found_line}
use Rattle.ir_hunt.specs.Stopping.{StopsHunt, TellsLeftOut}
use Rattle.ir_hunt.specs.declared.plan.HuntPlan.{HuntPlan}
use Rattle.ir_opened.specs.Answers.{IsUnfitRefusal}
use Rattle.ir_record_command.specs.Faults.{fault_status, record_fault_words}
use Rattle.ir_record_command.specs.Order.{order_of}
use Rattle.ir_record_command.specs.Plan.{Plan}
use Rattle.ir_record_command.specs.Stopping.{Tellings, Devices, lines_between}
use Rattle.ir_record_command.specs.declared.record_fault.RecordFault.TheVariants.{Image, TooLarge, NoMem, Lines}
use Rattle.ir_schedule.specs.Conditions.{as_condition}
use Rattle.ir_schedule.specs.declared.condition.Condition.{Condition}
use Rattle.ir_shrink.specs.Lines.{shrunk_lines}
use Rattle.ir_shrink.specs.Stopping.{IsRefusalTold, StopsShrink, other_words, text_at, unmet_words, wanted_text}
use Rattle.ir_shrink.specs.declared.plan.ShrinkPlan.{ShrinkPlan}
use Rattle.ir_shrink.specs.declared.refusal.Refusal.{Refusal}
use Rattle.ir_shrink.specs.declared.refusal.Refusal.TheVariants as refused
use Rattle.ir_trace.specs.Recorded.{Recorded, recorded_at}
use Rattle.ir_commands.specs.Files.{GoesOn, IsFileIn, IsImageIn, LacksGuest, TellsFault}
use Rattle.ir_commands.specs.Printing.{Paths}
use Rattle.ir_commands.specs.Conditions.{AreWritten}
use Rattle.ir_commands.specs.Exploring.{IsInput, IsPlanOf}
use Rattle.ir_commands.specs.Searching.{AsksHunt, AsksSearch, AsksShrink, EndsFound, HangHasNoOrder, HuntsFile, IsHuntAnswer, IsHuntAnswerTo, IsRunFound, IsSearchAnswer}
use Rattle.ir_commands.specs.Searching.{IsSearchAnswerTo, IsShrinkAnswer, IsShrinkAnswerTo, IsShrinkPlanOfHunt, RecordsHunted, StopsFound}
use Rattle.ir_commands.specs.Searching.{PrintsUnfit, RecordsShrunkRun, RefusesFound, RefusesGiven, RefusesSearch, RefusesShrinking, RefusesUntil, UntilMisses, plan_like}
use Rattle.ir_commands.specs.Searching.{SearchFinds, SearchMisses, SearchesFile, ShrinksFound, ShrinksNothing, TellsNoSearch, TellsNoSeed}
use Rattle.ir_commands.specs.Sought.{PrintsPart, RecordsRun}
use Rattle.ir_commands.specs.Writing.{KeptAsAsked, Keeping, Storing}
use Rattle.ir_commands.proofs.Kept.{ends_kept, run_kept}
use Rattle.ir_commands.proofs.Printed.{explore_fault_is_not_bad, failed_is_not_bad, fault_is_not_bad, leaves_in_part, none_since, nothing_searched, part_since, same_is_nothing}
use Rattle.ir_commands.proofs.Refused.{answer_lacks_guest, explore_fault_is, failed_is_not_refused, fault_is_no_recording, hang_lacks_guest, hunt_lacks_guest}
use Rattle.ir_commands.proofs.Refused.{refused_since, spelled_lacks_guest, stopped_lacks_guest}
use Rattle.ir_commands.proofs.Stored.{reported_is_told}

-- what holds wherever there is a value, by what holds of it
pub ok_gives : {T E : Type 0} {P : T → Type 0} {Q : Type 0} (r : Result T E) → ((x : T) → P x → Q) → IfOk r P → OnOk r Q
ok_gives (Ok x) f p = f x p
ok_gives (Err e) f p = p

-- there is a value, with the status that it has, or there is none, with the status that was answered
pub found_or_lost : {T Found : Type 0} (Lost : ExitStatus → Type 0) {done answered : ExitStatus} (r : Result T ExitStatus)
    → OnOk r Found → IfErr r Lost → OnOk r (answered ≡ done) → IfErr r (λ s. answered ≡ s) → ((answered ≡ done) × Found) ⊎ Lost answered
found_or_lost Lost (Ok x) found lost is stopped = inl (is, found)
found_or_lost Lost (Err e) found lost is stopped = inr (subst Lost (sym stopped) lost)

-- how many seeds were left out is told, or what is told is as before
pub left_out_is_told : (left_out : ℕ) (reports : Writer) {same : Type 0} → (same → reports.after ≡ reports.before) → TellsLeftOut left_out reports same
    → TellsLeftOut left_out reports (reports.before ≡ reports.after)
left_out_is_told zero reports to told = sym (to told)
left_out_is_told (suc n) reports to told = told

-- what a hunt tells that records nothing
pub hunt_tells_none : {W P O : Type 0} (d : Tellings W P O) (answered : ExitStatus) (image : List ℕ) (plan : HuntPlan) (old new : Devices W P O) (reports : Writer)
    {same : Type 0} → (same → reports.after ≡ reports.before) → StopsHunt d answered image plan old new reports same
    → TellsNoSeed image plan answered (lines_between d old new) reports
    ⊎ TellsNoSearch (LacksGuest image plan.record.profile) (IsHuntAnswer image plan) answered (lines_between d old new) reports
hunt_tells_none d answered image plan old new reports to (inl h) =
    inl (record { last = h.0; left_out = h.1; none = h.3; status = h.2; lines = h.6; told = left_out_is_told h.1 reports to h.7 })
hunt_tells_none d answered image plan old new reports to (inr (e, is, inl t)) =
    inr (nothing_searched (fault_is_no_recording e (hunt_lacks_guest e image plan.record t.0) is) (record_fault_words e, t.4)
    (same_is_nothing d.took old.lines new.lines t.3))
hunt_tells_none d answered image plan old new reports to (inr (e, is, inr (inl t))) = inr (record {
  because = fault_is_no_recording Lines failed_is_not_refused (is ∙ ap fault_status t.1);
  told = (record_fault_words e, t.6);
  printed = inr (t.0, inl t.2, t.3.0);
  unprinted = λ bad. fault_is_not_bad e (sym is ∙ bad);
})
hunt_tells_none d answered image plan old new reports to (inr (e, is, inr (inr t))) =
    let part = leaves_in_part d e image (by_list plan.record t.2) old new t.3 reports (found_line t.1 t.2) t.5 t.6 in
    inr (record {
      because = fault_is_no_recording e (λ r. spelled_lacks_guest _ t.4.lowest.found.spelled (stopped_lacks_guest e image t.2 (by_list plan.record t.2)
          t.4.guest _ _ _ _ _ _ t.4.is refl t.6.1 r)) is;
      told = reported_is_told e image _ _ _ reports t.6.0;
      printed = inr (part.0, inr (t.0, t.1, t.2, t.4, part.1), part.2);
      unprinted = λ bad. fault_is_not_bad e (sym is ∙ bad);
    })

-- what is printed where a guest isn't explored
pub nothing_without_guest : (e : ExploreFault) (image : List ℕ) (plan : ExplorePlan) (w : Writer) → HasNoGuest e image plan w → Took w []
nothing_without_guest (fault.Image e) image plan w h = h.1
nothing_without_guest fault.TooLarge image plan w h = h.1
nothing_without_guest fault.NoMem image plan w h = h
nothing_without_guest fault.Write image plan w h = absurd h

answer_in_part : (e : ExploreFault) (image : List ℕ) (plan : ExplorePlan) (conditions : List Condition) (w : Writer)
    → HasNoAnswer e image plan (map as_condition conditions) w → PrintsPart (IsSearchAnswer false image plan conditions) w
answer_in_part (fault.Image e) image plan conditions w h = inl (nothing_without_guest (fault.Image e) image plan w h)
answer_in_part fault.TooLarge image plan conditions w h = inl (nothing_without_guest fault.TooLarge image plan w h)
answer_in_part fault.NoMem image plan conditions w h = inl (nothing_without_guest fault.NoMem image plan w h)
answer_in_part fault.Write image plan conditions w h = inr (h.1, inl (h.0, h.2), h.3.0)

hang_in_part : (e : ExploreFault) (image : List ℕ) (plan : ExplorePlan) (conditions : List Condition) (w : Writer) → HasNoHangAnswer e image plan w
    → PrintsPart (IsSearchAnswer true image plan conditions) w
hang_in_part (fault.Image e) image plan conditions w h = inl (nothing_without_guest (fault.Image e) image plan w h)
hang_in_part fault.TooLarge image plan conditions w h = inl (nothing_without_guest fault.TooLarge image plan w h)
hang_in_part fault.NoMem image plan conditions w h = inl (nothing_without_guest fault.NoMem image plan w h)
hang_in_part fault.Write image plan conditions w h = inr (h.1, inl (h.0, h.2), h.3.0)

-- what a search for an outcome tells that records nothing
pub search_tells_none : {W P O : Type 0} (d : Tellings W P O) (answered : ExitStatus) (image : List ℕ) (plan : ExplorePlan) (conditions : List Condition)
    (old new : Devices W P O) (reports : Writer) {same : Type 0} → StopsUntil d answered image plan (map as_condition conditions) old new reports same
    → UntilMisses false image plan conditions answered (lines_between d old new) reports
search_tells_none d answered image plan conditions old new reports (inl h) = inl h.3
search_tells_none d answered image plan conditions old new reports (inr (inl h)) = inr (record {
  because = explore_fault_is h.0 (λ r. inl (answer_lacks_guest h.0 image plan (map as_condition conditions) _ h.4 r)) h.1;
  told = (explore_fault_words h.0, h.5);
  printed = answer_in_part h.0 image plan conditions _ h.4;
  unprinted = λ bad. explore_fault_is_not_bad h.0 (sym h.1 ∙ bad);
})
search_tells_none d answered image plan conditions old new reports (inr (inr h)) =
    let part = leaves_in_part d h.0 image (recording plan (Some h.3)) old new h.4 reports h.2 h.6 h.7 in
    inr (record {
      because = fault_is_no_recording h.0 (λ r. inl (spelled_lacks_guest _ h.5.says.hit.spelled
          (stopped_lacks_guest h.0 image h.3 (recording plan (Some h.3)) h.5.guest _ _ _ _ _ _ h.5.is refl h.7.1 r))) h.1;
      told = reported_is_told h.0 image _ _ _ reports h.7.0;
      printed = inr (part.0, inr (h.3, h.2, h.5, part.1), part.2);
      unprinted = λ bad. fault_is_not_bad h.0 (sym h.1 ∙ bad);
    })

hang_or_guest : (image : List ℕ) (plan : ExplorePlan) (order : HangOrder) (text : List ℕ) (told : IsHangAnswer image plan (Ok order) text)
    → LacksGuest image plan.profile ⊎ (order_of (length told.guest.entries) (string_bytes order.list) ≡ None) → LacksGuest image plan.profile ⊎ HangHasNoOrder image plan
hang_or_guest image plan order text told (inl lacks) = inl lacks
hang_or_guest image plan order text told (inr none) =
    inr (record { order = order; text = text; told = told; guest = told.guest; is = told.is; none = none })

-- the same of a search for a hang
pub hang_tells_none : {W P O : Type 0} (d : Tellings W P O) (answered : ExitStatus) (image : List ℕ) (plan : ExplorePlan) (conditions : List Condition)
    (old new : Devices W P O) (reports : Writer) {same : Type 0} → StopsHang d answered image plan old new reports same
    → UntilMisses true image plan conditions answered (lines_between d old new) reports
hang_tells_none d answered image plan conditions old new reports (inl h) = inl h.3
hang_tells_none d answered image plan conditions old new reports (inr (inl h)) = inr (record {
  because = explore_fault_is h.0 (λ r. inl (hang_lacks_guest h.0 image plan _ h.4 r)) h.1;
  told = (explore_fault_words h.0, h.5);
  printed = hang_in_part h.0 image plan conditions _ h.4;
  unprinted = λ bad. explore_fault_is_not_bad h.0 (sym h.1 ∙ bad);
})
hang_tells_none d answered image plan conditions old new reports (inr (inr h)) =
    let part = leaves_in_part d h.0 image (hang_plan plan h.2) old new h.4 reports h.3 h.6 h.7 in
    inr (record {
      because = fault_is_no_recording h.0 (λ r. hang_or_guest image plan h.2 h.3 h.5
          (stopped_lacks_guest h.0 image (string_bytes h.2.list) (hang_plan plan h.2) h.5.guest _ _ _ _ _ _ h.5.is refl h.7.1 r)) h.1;
      told = reported_is_told h.0 image _ _ _ reports h.7.0;
      printed = inr (part.0, inr (h.2, h.3, h.5, part.1), part.2);
      unprinted = λ bad. fault_is_not_bad h.0 (sym h.1 ∙ bad);
    })

-- the run that is looked for is found: it hangs, which is known by a plan that is the same
pub hang_is_found : {hang : Bool} {image : List ℕ} {one plan : ExplorePlan} {recorded : Recorded} (conditions : List Condition) (order : HangOrder) (text : List ℕ)
    (printed : List (List ℕ)) → hang ≡ true → one ≡ plan → IsHangRecorded image one order text recorded printed
    → IsRunFound hang image plan conditions recorded printed text
hang_is_found {hang} {image} {one} {plan} {recorded} conditions order text printed asked same found =
    subst (λ b. IsRunFound b image plan conditions recorded printed text) (sym asked)
    (order, subst (λ p. IsHangRecorded image p order text recorded printed) same found)

-- or it has an outcome
pub outcome_is_found : {hang : Bool} {image : List ℕ} {plan : ExplorePlan} {recorded : Recorded} (conditions : List Condition) (list text : List ℕ)
    (printed : List (List ℕ)) → hang ≡ false → IsOutcomeFinding image plan (map as_condition conditions) list text recorded printed
    → IsRunFound hang image plan conditions recorded printed text
outcome_is_found {hang} {image} {plan} {recorded} conditions list text printed asked found =
    subst (λ b. IsRunFound b image plan conditions recorded printed text) (sym asked) (list, found)

-- there is no such run, by a plan that is the same
pub until_missed : {hang is : Bool} {image : List ℕ} {one plan : ExplorePlan} (conditions : List Condition) (answered : ExitStatus) (out reports : Writer)
    → hang ≡ is → one ≡ plan → UntilMisses is image one conditions answered out reports → UntilMisses hang image plan conditions answered out reports
until_missed {hang} {is} {image} {one} {plan} conditions answered out reports asked same h =
    subst (λ b. UntilMisses b image plan conditions answered out reports) (sym asked)
    (subst (λ p. UntilMisses is image p conditions answered out reports) same h)

-- what a hunt comes to, by what it found and what was made of that
pub hunt_comes_to : {O E : Type 0} (written : O → Option (List ℕ)) (broken : O → Bool) (reported : E → Option (List ℕ)) (fails : E → Bool) (at : Paths) (stored : Storing)
    (arguments : HuntArguments) (image : List ℕ) (plan : HuntPlan) (out said out' : O) (faults told faults' : E) (answered : ExitStatus) (one : Keeping)
    (r : Result Recorded ExitStatus) → AsksHunt at arguments image plan
    → ((bytes : List ℕ) (printed : List (List ℕ)) → one bytes printed
    → KeptAsAsked stored (string_bytes arguments.trace) arguments.options.output bytes printed)
    → IfOk r (λ recorded. RecordsHunted image plan recorded one (writer_of (written out) (written said) (broken said)) (writer_of (reported faults) (reported told) (fails told)))
    → IfErr r (λ e. TellsNoSeed image plan e (writer_of (written out) (written said) (broken said)) (writer_of (reported faults) (reported told) (fails told))
    ⊎ TellsNoSearch (LacksGuest image plan.record.profile) (IsHuntAnswer image plan) e (writer_of (written out) (written said) (broken said))
    (writer_of (reported faults) (reported told) (fails told)))
    → IfErr r (λ e. answered ≡ e) → OnErr r (out' ≡ said) → OnErr r (faults' ≡ told)
    → (arguments.shrinks ≡ false → OnOk r ((answered ≡ status.Done) × (out' ≡ said) × GoesOn (reported told) (reported faults')))
    → (arguments.shrinks ≡ true → IfOk r (λ given. EndsFound image plan given one answered (writer_of (written said) (written out') (broken out'))
    (writer_of (reported told) (reported faults') (fails faults'))))
    → HuntsFile at stored arguments answered (writer_of (written out) (written out') (broken out')) (writer_of (reported faults) (reported faults') (fails faults'))
hunt_comes_to written broken reported fails at stored arguments image plan out said out' faults told faults' answered one (Ok x) asked here found none stopped quiet kept done shrunk =
    let hunted = run_kept here found in
    inl (
      λ no. record {
        image = image;
        plan = plan;
        asked = asked;
        ended = inl (
          (done no).0,
          (
            x,
            writer_of (reported faults) (reported told) (fails told),
            refl,
            subst (λ o. RecordsHunted image plan x (KeptAsAsked stored (string_bytes arguments.trace) arguments.options.output) (writer_of (written out) (written o) (broken o))
                (writer_of (reported faults) (reported told) (fails told))) (sym (done no).1) hunted,
            (done no).2,
          ),
        );
      },
      λ yes. record {
        image = image;
        plan = plan;
        asked = asked;
        ended = inl (record {
          given = x;
          said = writer_of (written out) (written said) (broken said);
          reported = writer_of (reported faults) (reported told) (fails told);
          begins = (refl, refl);
          hunted = hunted;
          ended = ends_kept here (shrunk yes);
        });
      },
    )
hunt_comes_to written broken reported fails at stored arguments image plan out said out' faults told faults' answered one (Err e) asked here found (inl none) stopped quiet kept done shrunk =
    let seedless = subst (λ a. TellsNoSeed image plan a (writer_of (written out) (written out') (broken out')) (writer_of (reported faults) (reported faults') (fails faults')))
    (sym stopped)
    (subst (λ f. TellsNoSeed image plan e (writer_of (written out) (written out') (broken out')) (writer_of (reported faults) (reported f) (fails f))) (sym kept)
    (subst (λ o. TellsNoSeed image plan e (writer_of (written out) (written o) (broken o)) (writer_of (reported faults) (reported told) (fails told))) (sym quiet) none)) in
    inl (λ no. record { image = image; plan = plan; asked = asked; ended = inr seedless }, λ yes. record { image = image; plan = plan; asked = asked; ended = inr seedless })
hunt_comes_to written broken reported fails at stored arguments image plan out said out' faults told faults' answered one (Err e) asked here found (inr none) stopped quiet kept done shrunk =
    let refuses = RefusesSearch (at (string_bytes arguments.image)) arguments.options.profile arguments.until.items in
    let why : LacksGuest image plan.record.profile → refuses = λ lacks. inl (inr (
      image,
      asked.is_image,
      subst (λ (p : Plan). LacksGuest image p.profile) asked.is_plan.how lacks,
    )) in
    let is_answer = IsHuntAnswerTo at arguments in
    inr (subst (λ a. TellsNoSearch refuses is_answer a (writer_of (written out) (written out') (broken out')) (writer_of (reported faults) (reported faults') (fails faults')))
    (sym stopped)
    (subst (λ f. TellsNoSearch refuses is_answer e (writer_of (written out) (written out') (broken out')) (writer_of (reported faults) (reported f) (fails f))) (sym kept)
    (subst (λ o. TellsNoSearch refuses is_answer e (writer_of (written out) (written o) (broken o)) (writer_of (reported faults) (reported told) (fails told))) (sym quiet)
    (none_since why (λ text h. (image, plan, asked, h)) none))))

refusal_is_told : (e : Refusal) (plan : ShrinkPlan) (reports : Writer) → IsRefusalTold e plan reports → TellsFault reports
refusal_is_told (refused.Fault e) plan reports t = (record_fault_words e, t)
refusal_is_told refused.Other plan reports t = (other_words, t)
refusal_is_told (refused.Unmet place) plan reports t = (unmet_words (text_at (map string_bytes plan.texts.now) place), t)
refusal_is_told refused.Stale plan reports t = (unmet_words (wanted_text plan.stale), t)

-- why a run wasn't shrunk
pub shrink_stops : {W P O : Type 0} (d : Tellings W P O) (answered : ExitStatus) (image : List ℕ) (plan : ShrinkPlan) (given : Recorded) (old new : Devices W P O)
    (reports : Writer) → StopsShrink d answered image plan given old new reports
    → RefusesGiven image given plan answered (lines_between d old new) reports
    ⊎ TellsNoSearch (LacksGuest image plan.record.profile) (IsShrinkAnswer image given plan) answered (lines_between d old new) reports
shrink_stops d answered image plan given old new reports (inl h) = inl (record {
  refusal = h.0;
  refuses = h.2.0;
  status = h.1;
  told = refusal_is_told h.0 plan reports h.2.4;
  unprinted = same_is_nothing d.took old.lines new.lines h.2.3;
})
shrink_stops d answered image plan given old new reports (inr (before, after, list, is_minimal, is, inl f)) = inr (record {
  because = fault_is_no_recording Lines failed_is_not_refused f.0;
  told = (record_fault_words Lines, f.4);
  printed = inr (shrunk_lines before after list is_minimal, (before, after, list, is_minimal, is, inl refl), f.1.0);
  unprinted = λ bad. fault_is_not_bad Lines (sym f.0 ∙ bad);
})
shrink_stops d answered image plan given old new reports (inr (before, after, list, is_minimal, is, inr s)) =
    let part = leaves_in_part d s.0 image (by_list plan.record list) old new s.1 reports (shrunk_lines before after list is_minimal) s.3 s.4 in
    inr (record {
      because = fault_is_no_recording s.0 (λ r. spelled_lacks_guest _ is.spelled (stopped_lacks_guest s.0 image list (by_list plan.record list)
          is.guest _ _ _ _ _ _ is.is refl s.4.1 r)) s.2;
      told = reported_is_told s.0 image _ _ _ reports s.4.0;
      printed = inr (part.0, (before, after, list, is_minimal, is, part.1), part.2);
      unprinted = λ bad. fault_is_not_bad s.0 (sym s.2 ∙ bad);
    })

-- what is looked for, by what was read
pub search_asked : {at : Paths} {arguments : UntilArguments} {image bytes place input read : List ℕ} {plan : ExplorePlan} {conditions texts : List Condition}
    → place ≡ string_bytes arguments.explore.image → image ≡ bytes → IsImageIn (at place) bytes → IsInput at arguments.explore.input input → read ≡ input
    → IsPlanOf arguments.explore read plan → conditions ≡ texts → AreWritten arguments.until.items texts → AsksSearch at arguments image plan conditions
search_asked {at} {arguments} {image} {bytes} {place} {input} {read} {plan} here same is_image is_input got is_plan given are = record {
  input = input;
  is_image = subst (λ p. IsImageIn (at p) image) here (subst (λ z. IsImageIn (at place) z) (sym same) is_image);
  is_input = is_input;
  is_plan = subst (λ z. IsPlanOf arguments.explore z plan) got is_plan;
  are_conditions = subst (λ z. AreWritten arguments.until.items z) (sym given) are;
}

-- a guest that an image lacks, or a hang without an order, is refused to a search
until_refuses : {at : Paths} {arguments : UntilArguments} {image : List ℕ} {plan : ExplorePlan} {conditions : List Condition}
    → AsksSearch at arguments image plan conditions → LacksGuest image plan.profile ⊎ HangHasNoOrder image plan → RefusesUntil at arguments
until_refuses {at} {arguments} {image} asked (inl lacks) = inl (inl (inr (image, asked.is_image, subst (λ p. LacksGuest image p) asked.is_plan.profile lacks)))
until_refuses {at} {arguments} {image} {plan} {conditions} asked (inr none) = inr (image, plan, conditions, asked, none)

-- there is no run that is looked for, or nothing was searched
pub search_misses : {at : Paths} {arguments : UntilArguments} {image : List ℕ} {plan : ExplorePlan} {conditions : List Condition} {told faults : Writer}
    (answered : ExitStatus) (out : Writer) → AsksSearch at arguments image plan conditions → told ≡ faults
    → UntilMisses arguments.hang image plan conditions answered out told
    → SearchMisses at arguments answered out ⊎ TellsNoSearch (RefusesUntil at arguments) (IsSearchAnswerTo at arguments) answered out faults
search_misses {at} {arguments} {image} {plan} {conditions} answered out asked same (inl h) =
    inl (record { image = image; plan = plan; conditions = conditions; asked = asked; vain = h })
search_misses {at} {arguments} {image} {plan} {conditions} answered out asked same (inr h) =
    inr (subst (λ w. TellsNoSearch (RefusesUntil at arguments) (IsSearchAnswerTo at arguments) answered out w) same
    (none_since (until_refuses asked) (λ text x. (image, plan, conditions, asked, x)) h))

-- what a search comes to, by what it found
pub search_comes_to : {T : Type 0} (at : Paths) (stored : Storing) (arguments : UntilArguments) (answered : ExitStatus) (out told faults : Writer)
    (r : Result T ExitStatus) → OnOk r (SearchFinds at stored arguments out) → IfErr r (λ e. SearchMisses at arguments e out
    ⊎ TellsNoSearch (RefusesUntil at arguments) (IsSearchAnswerTo at arguments) e out told)
    → OnOk r (answered ≡ status.Done) → IfErr r (λ e. answered ≡ e) → OnErr r (told ≡ faults) → SearchesFile at stored arguments answered out faults
search_comes_to at stored arguments answered out told faults (Ok x) found none done stopped kept = inl (done, found)
search_comes_to at stored arguments answered out told faults (Err e) found (inl none) done stopped kept =
    inr (inl (subst (λ a. SearchMisses at arguments a out) (sym stopped) none))
search_comes_to at stored arguments answered out told faults (Err e) found (inr none) done stopped kept =
    inr (inr (subst (λ a. TellsNoSearch (RefusesUntil at arguments) (IsSearchAnswerTo at arguments) a out faults) (sym stopped)
    (subst (λ w. TellsNoSearch (RefusesUntil at arguments) (IsSearchAnswerTo at arguments) e out w) kept none)))

-- which run is shrunk, by what was read
pub shrink_asked : {at : Paths} {arguments : ShrinkArguments} {image bytes input read : List ℕ} {given : Recorded} {plan : ShrinkPlan} {texts : List Condition}
    (file : List ℕ) → image ≡ bytes → IsImageIn (at (string_bytes arguments.image)) bytes → IsFileIn (at (string_bytes arguments.trace)) file → recorded_at file ≡ Ok given
    → IsInput at arguments.input input → read ≡ input → plan.record ≡ plan_like given arguments.random read → plan.conditions.now ≡ texts
    → AreWritten arguments.until.items texts → plan.stale ≡ arguments.stale → plan.seconds ≡ arguments.seconds → AsksShrink at arguments image given plan
shrink_asked {at} {arguments} {image} {bytes} {input} {read} {given} {plan} file same is_image is_file is_given is_input got how conditions are stale seconds = record {
  file = file;
  input = input;
  is_image = subst (λ z. IsImageIn (at (string_bytes arguments.image)) z) (sym same) is_image;
  is_file = is_file;
  is_given = is_given;
  is_input = is_input;
  is_plan = record {
    how = how ∙ ap (plan_like given arguments.random) got;
    conditions = subst (λ z. AreWritten arguments.until.items z) (sym conditions) are;
    stale = stale;
    seconds = seconds;
  };
}

-- a run that is recorded is so wherever what it leaves is kept
pub run_kept_at : {recorded : Recorded} {is_found : List (List ℕ) → List ℕ → Type 0} {one other : Keeping} {out last : Writer}
    → ((bytes : List ℕ) (printed : List (List ℕ)) → one bytes printed → other bytes printed) → out ≡ last
    → RecordsRun recorded is_found one out → RecordsRun recorded is_found other last
run_kept_at {recorded} {is_found} {one} {other} to same h = subst (λ w. RecordsRun recorded is_found other w) same (run_kept to h)

-- a run isn't shrunk
pub shrink_refuses : {at : Paths} {arguments : ShrinkArguments} {image : List ℕ} {given : Recorded} {plan : ShrinkPlan} {said out told faults : Writer}
    (answered : ExitStatus) → AsksShrink at arguments image given plan → said ≡ out → told ≡ faults
    → RefusesGiven image given plan answered said told ⊎ TellsNoSearch (LacksGuest image plan.record.profile) (IsShrinkAnswer image given plan) answered said told
    → ShrinksNothing at arguments answered out faults
shrink_refuses {at} {arguments} {image} {given} {plan} {said} {out} {told} {faults} answered asked printed same (inl h) = inl (record {
  image = image;
  given = given;
  plan = plan;
  asked = asked;
  why = subst (λ w. RefusesGiven image given plan answered out w) same (subst (λ w. RefusesGiven image given plan answered w told) printed h);
})
shrink_refuses {at} {arguments} {image} {given} {plan} {said} {out} {told} {faults} answered asked printed same (inr h) =
    let refuses : LacksGuest image plan.record.profile → RefusesShrinking at arguments = λ lacks. inr (
      asked.file,
      given,
      asked.is_file,
      asked.is_given,
      inl (inr (image, asked.is_image, subst (λ (p : Plan). LacksGuest image p.profile) asked.is_plan.how lacks)),
    ) in
    let none = none_since {b = IsShrinkAnswerTo at arguments} refuses (λ text x. inl (image, given, plan, asked, x)) h in
    inr (inr (subst (λ w. TellsNoSearch (RefusesShrinking at arguments) (IsShrinkAnswerTo at arguments) answered out w) same
    (subst (λ w. TellsNoSearch (RefusesShrinking at arguments) (IsShrinkAnswerTo at arguments) answered w told) printed none)))

-- a run that was found is shrunk as the hunt looked for it
pub found_shrinks : {image : List ℕ} {hunt view : HuntPlan} {given recorded : Recorded} {plan : ShrinkPlan} {is_minimal : Bool} {is_kept : Keeping} {out : Writer}
    → view ≡ hunt → IsShrinkPlanOfHunt view given plan → RecordsShrunkRun image given plan is_minimal recorded is_kept out
    → ShrinksFound image hunt given is_minimal is_kept out
found_shrinks {image} {hunt} {view} {given} {recorded} {plan} same is_plan h =
    record { plan = plan; recorded = recorded; is_plan = subst (λ z. IsShrinkPlanOfHunt z given plan) same is_plan; shrunk = h }

-- or it isn't
pub found_refuses : {image : List ℕ} {hunt view : HuntPlan} {given : Recorded} {plan : ShrinkPlan} {answered : ExitStatus} {out told faults : Writer}
    → view ≡ hunt → IsShrinkPlanOfHunt view given plan → told ≡ faults
    → RefusesGiven image given plan answered out told
    ⊎ TellsNoSearch (LacksGuest image plan.record.profile) (IsShrinkAnswer image given plan) answered out told
    → RefusesFound image hunt given answered out faults ⊎ StopsFound image hunt given answered out
found_refuses {image} {hunt} {view} {given} {plan} {answered} {out} same is_plan at (inl h) = inl (record {
  plan = plan;
  is_plan = subst (λ z. IsShrinkPlanOfHunt z given plan) same is_plan;
  why = subst (λ w. RefusesGiven image given plan answered out w) at h;
})
found_refuses {image} {hunt} {view} {given} {plan} {answered} {out} same is_plan at (inr h) = inr (
  refused_since (λ lacks. subst (λ (p : Plan). LacksGuest image p.profile) is_plan.how lacks) h.because,
  part_since out (λ text x. (plan, subst (λ z. IsShrinkPlanOfHunt z given plan) same is_plan, x)) h.printed,
)

-- there is no run to shrink
pub unfit_shrinks_nothing : {at : Paths} {arguments : ShrinkArguments} {image trace : List ℕ} {answered : ExitStatus} {out told faults : Writer}
    → IsImageIn (at (string_bytes arguments.image)) image → IsFileIn (at (string_bytes arguments.trace)) trace → told ≡ faults
    → PrintsUnfit image trace answered out
    ⊎ ((answered ≡ status.Failed) × TellsFault told × PrintsPart (λ text. (s : ExitStatus) × IsUnfitRefusal image trace s text) out)
    → ShrinksNothing at arguments answered out faults
unfit_shrinks_nothing {image = image} {trace = trace} is_image is_trace same (inl h) =
    inr (inl (record { image = image; trace = trace; is_image = is_image; is_trace = is_trace; unfit = h }))
unfit_shrinks_nothing {image = image} {trace = trace} {out = out} is_image is_trace same (inr h) = inr (inr (record {
  because = inr (inl h.0);
  told = subst (λ w. TellsFault w) same h.1;
  printed = part_since out (λ text x. inr (image, trace, is_image, is_trace, x.0, x.1)) h.2;
  unprinted = λ bad. failed_is_not_bad (sym h.0 ∙ bad);
}))
