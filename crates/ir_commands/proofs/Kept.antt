-- What recordings leave in files, where it is asked for.
use Rattle.std.proofs.Common.{◌≡◌, ◌<◌, ◌∙◌, ◌+◌, ℕ, Bool, true, false, List, [], Option, None, Some, IfSome, String, length, get_or, map, ap, inl, inr, arith, refl, subst, sym}
use Rattle.std.proofs.lemmas.Bool.{false≢true}
use Rattle.std.specs.Borrow.{Bor}
use Rattle.std.specs.List.{range_with_len, slice_get}
use Rattle.std.specs.Option.{option_map, option_map_or}
use Rattle.std.specs.String.{string_bytes}
use Rattle.std.proofs.lemmas.List.FromFn.{get_or-map-range_with_len, length-map-range_with_len}
use Rattle.std.proofs.lemmas.Option.{slice_get-get_or, slice_get_within}
use Rattle.ir_files.specs.Given.{KnownFile, IsStored}
use Rattle.ir_files.specs.Outputs.{Gains, StandEach, by_thread, output_path, outputs_given}
use Rattle.ir_files.specs.Writers.{Writer}
use Rattle.ir_files.specs.declared.exit_status.ExitStatus.{ExitStatus}
use Rattle.ir_files.proofs.CallerLemmas.{taken_outputs_stand}
use Rattle.ir_hunt.specs.declared.plan.HuntPlan.{HuntPlan}
use Rattle.ir_trace.specs.Recorded.{Recorded}
use Rattle.ir_commands.specs.Searching.{EndsFound}
use Rattle.ir_commands.specs.Sought.{RecordsRun}
use Rattle.ir_commands.specs.Writing.{AreOutputPaths, KeptAsAsked, KeptAt, Keeping, StandBehind, Storing, texts_of_paths}

-- ---- the files of outputs

outputs_stand : {Put File : Type 0} (known : File → KnownFile) (knows : Bool) (was_put : List ℕ → List ℕ → Bool) (thread : Put → ℕ) (of : Put → File)
    (paths : Option (List (List ℕ))) (each : List Put) (printed : List (List ℕ))
    → Gains (outputs_given knows (λ p. (thread p, known (of p))) paths []) (outputs_given knows (λ p. (thread p, known (of p))) paths each) (by_thread printed)
    → IfSome paths (λ all. knows ≡ true → StandEach (IsStored known knows was_put) all printed)
outputs_stand known knows was_put thread of None each printed gains = tt
outputs_stand known true was_put thread of (Some all) each printed gains = λ yes. taken_outputs_stand thread of known was_put all each printed gains
outputs_stand known false was_put thread of (Some all) each printed gains = λ yes. absurd (false≢true yes)

-- outputs that files of a folder took stand at their paths, if none was taken before
pub outputs_in_place : {D Put File : Type 0} (known : File → KnownFile) (knows : D → Bool) (was_put : D → List ℕ → List ℕ → Bool) (thread : Put → ℕ) (of : Put → File)
    (folder first last : D) (paths own other : Option (List (List ℕ))) (old new : List Put) (printed : List (List ℕ)) → first ≡ folder → own ≡ paths
    → ◌≡◌ {A = D × Option (List (List ℕ))} (last, other) (first, own) → old ≡ []
    → Gains (outputs_given (knows first) (λ p. (thread p, known (of p))) own old) (outputs_given (knows last) (λ p. (thread p, known (of p))) other new)
    (by_thread printed)
    → IfSome paths (λ all. knows folder ≡ true → StandEach (IsStored known (knows folder) (was_put folder)) all printed)
outputs_in_place {D} {Put} known knows was_put thread of folder first last paths own other old new printed here at home none gains =
    let same : last ≡ folder = ap (λ (h : D × Option (List (List ℕ))). h.0) home ∙ here in
    let there : other ≡ paths = ap (λ (h : D × Option (List (List ℕ))). h.1) home ∙ at in
    let begun : outputs_given (knows first) (λ p. (thread p, known (of p))) own old ≡ outputs_given (knows folder) (λ p. (thread p, known (of p))) paths [] =
    λ i. outputs_given (knows (here i)) (λ p. (thread p, known (of p))) (at i) (none i) in
    let ended : outputs_given (knows last) (λ p. (thread p, known (of p))) other new ≡ outputs_given (knows folder) (λ p. (thread p, known (of p))) paths new =
    λ i. outputs_given (knows (same i)) (λ p. (thread p, known (of p))) (there i) new in
    outputs_stand known (knows folder) (was_put folder) thread of paths new printed
    (subst (λ o. Gains (outputs_given (knows folder) (λ p. (thread p, known (of p))) paths []) o (by_thread printed)) ended
    (subst (λ o. Gains o (outputs_given (knows last) (λ p. (thread p, known (of p))) other new) (by_thread printed)) begun gains))

path_of_thread : (prefix : List ℕ) (threads t : ℕ) (path : List ℕ) → slice_get (map (output_path prefix) (range_with_len 0 threads)) t ≡ Some path
    → path ≡ output_path prefix t
path_of_thread prefix threads t path got =
    let all : List (List ℕ) = map (output_path prefix) (range_with_len 0 threads) in
    let long : length all ≡ threads = length-map-range_with_len (output_path prefix) 0 threads in
    let short : t < length all = slice_get_within all t path got in
    let place : 0 + t ≡ t = omega arith in
    let same : Some (get_or all t path) ≡ Some path = sym (slice_get-get_or all t path short) ∙ got in
    sym (ap (λ (o : Option (List ℕ)). option_map_or (λ z. z) o path) same)
    ∙ get_or-map-range_with_len (output_path prefix) 0 threads t t path (omega (arith, short, long)) place

stand_behind : (stored : List ℕ → List ℕ → Type 0) (prefix : List ℕ) (threads : ℕ) (printed : List (List ℕ))
    → StandEach stored (map (output_path prefix) (range_with_len 0 threads)) printed → StandBehind stored prefix printed
stand_behind stored prefix threads printed each t bytes got =
    let there = each t bytes got in
    subst (λ p. stored p bytes) (path_of_thread prefix threads t there.0 there.1) there.2

outputs_as_asked : {Z : Type 0} (stored : Storing) (prefix : Option (String Z)) (paths : Option (List (List ℕ))) (printed : List (List ℕ)) → AreOutputPaths prefix paths
    → IfSome paths (λ each. stored.knows ≡ true → StandEach stored.output each printed)
    → IfSome prefix (λ begin. stored.knows ≡ true → StandBehind stored.output (string_bytes begin) printed)
outputs_as_asked stored None paths printed are stand = tt
outputs_as_asked stored (Some begin) paths printed are stand = λ yes.
    stand_behind stored.output (string_bytes begin) are.0 printed
    (subst (λ z. IfSome z (λ each. stored.knows ≡ true → StandEach stored.output each printed)) are.1 stand yes)

-- what is kept at the paths of what is asked for is kept as it is asked for
pub kept_as_asked : {Z : Type 0} (stored : Storing) {place other : List ℕ} (prefix : Option (String Z)) (paths : Option (List (List ℕ))) → place ≡ other
    → AreOutputPaths prefix paths → (bytes : List ℕ) (printed : List (List ℕ)) → KeptAt stored place paths bytes printed
    → KeptAsAsked stored other prefix bytes printed
kept_as_asked stored {place} {other} prefix paths here are bytes printed kept =
    (subst (λ p. stored.whole p bytes) here kept.0, outputs_as_asked stored prefix paths printed are kept.1)

-- paths that are lent have the same texts
pub texts_of_lent : {Z V : Type 0} (items : V → List (String Z)) (lent : Option (Bor (List (String Z)))) (own : Option V)
    → option_map (λ p. p.now) lent ≡ option_map items own → texts_of_paths lent ≡ option_map (λ v. map string_bytes (items v)) own
texts_of_lent {Z} items None None e = refl
texts_of_lent {Z} items None (Some v) e = ap (option_map (map string_bytes)) e
texts_of_lent {Z} items (Some p) None e = ap (option_map (map string_bytes)) e
texts_of_lent {Z} items (Some p) (Some v) e = ap (option_map (map string_bytes)) e

-- the paths of outputs as they are asked for, by what is lent of them
pub output_paths_as_asked : {Z V : Type 0} (items : V → List (String Z)) (lent_prefix : Option (Bor (String Z))) (lent : Option (Bor (List (String Z)))) (own : Option V)
    {prefix : Option (String Z)} → option_map (λ p. p.now) lent_prefix ≡ prefix → option_map (λ p. p.now) lent ≡ option_map items own
    → AreOutputPaths (option_map (λ p. p.now) lent_prefix) (option_map (λ v. map string_bytes (items v)) own) → AreOutputPaths prefix (texts_of_paths lent)
output_paths_as_asked {Z} items lent_prefix lent own {prefix} same texts are =
    subst (λ (z : Option (String Z)). AreOutputPaths z (texts_of_paths lent)) same
    (subst (λ (z : Option (List (List ℕ))). AreOutputPaths (option_map (λ p. p.now) lent_prefix) z) (sym (texts_of_lent items lent own texts)) are)

-- ---- what is kept so is kept otherwise too

pub run_kept : {recorded : Recorded} {is_found : List (List ℕ) → List ℕ → Type 0} {one other : Keeping} {out : Writer}
    → ((bytes : List ℕ) (printed : List (List ℕ)) → one bytes printed → other bytes printed)
    → RecordsRun recorded is_found one out → RecordsRun recorded is_found other out
run_kept to h = record { printed = h.printed; text = h.text; found = h.found; kept = to _ h.printed h.kept; lines = h.lines }

pub ends_kept : {image : List ℕ} {plan : HuntPlan} {given : Recorded} {one other : Keeping} {answered : ExitStatus} {out faults : Writer}
    → ((bytes : List ℕ) (printed : List (List ℕ)) → one bytes printed → other bytes printed)
    → EndsFound image plan given one answered out faults → EndsFound image plan given other answered out faults
ends_kept to (inl h) = inl (h.0, h.1, record { plan = h.2.plan; recorded = h.2.recorded; is_plan = h.2.is_plan; shrunk = run_kept to h.2.shrunk }, h.3)
ends_kept to (inr h) = inr h
