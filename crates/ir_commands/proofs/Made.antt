-- What is told where no image was made.
use Rattle.std.proofs.Common.{◌≡◌, ◌≢◌, ◌∙◌, ◌⊎◌, ℕ, Bool, true, false, true≢false, List, Option, ap, inl, inr, subst, sym, arith}
use Rattle.ir_files.specs.Statuses.{status_number}
use Rattle.ir_files.specs.Writers.{Writer, writer_of}
use Rattle.ir_files.specs.declared.exit_status.ExitStatus.{ExitStatus}
use Rattle.ir_files.specs.declared.exit_status.ExitStatus.TheVariants as status
use Rattle.ir_make.specs.Assembling.{StopsAssembling}
use Rattle.ir_make.specs.Converting.{StopsElf}
use Rattle.ir_commands.specs.Files.{IsTold}

-- ---- statuses

pub refused_is_not_done : {answered : ExitStatus} → answered ≡ status.Refused → answered ≢ status.Done
refused_is_not_done e d = let bad : 3 ≡ 0 = sym (ap status_number e) ∙ ap status_number d in absurd (omega (arith, bad))

pub refused_is_not_failed : {answered : ExitStatus} → answered ≡ status.Refused → answered ≢ status.Failed
refused_is_not_failed e f = let bad : 3 ≡ 1 = sym (ap status_number e) ∙ ap status_number f in absurd (omega (arith, bad))

pub done_is_not_refused : {answered : ExitStatus} → answered ≡ status.Done → answered ≢ status.Refused
done_is_not_refused d e = refused_is_not_done e d

pub failed_is_other_than_refused : {answered : ExitStatus} → answered ≡ status.Failed → answered ≢ status.Refused
failed_is_other_than_refused f e = refused_is_not_failed e f

pub stopped_is_not_done : {answered : ExitStatus} → (answered ≡ status.Failed) ⊎ (answered ≡ status.BadArguments) → answered ≢ status.Done
stopped_is_not_done (inl f) d = let bad : 1 ≡ 0 = sym (ap status_number f) ∙ ap status_number d in absurd (omega (arith, bad))
stopped_is_not_done (inr b) d = let bad : 2 ≡ 0 = sym (ap status_number b) ∙ ap status_number d in absurd (omega (arith, bad))

pub err_is_not_done : {own : ExitStatus} → (own ≡ status.Failed) ⊎ (own ≡ status.Refused) → own ≢ status.Done
err_is_not_done (inl f) d = let bad : 1 ≡ 0 = sym (ap status_number f) ∙ ap status_number d in absurd (omega (arith, bad))
err_is_not_done (inr r) d = refused_is_not_done r d

-- a call that ended well, failed or refused ends with no bad arguments
bad_is_none_of : {A : Type 0} {answered : ExitStatus} → (answered ≡ status.Done) ⊎ ((answered ≡ status.Failed) ⊎ (answered ≡ status.Refused))
    → answered ≡ status.BadArguments → A
bad_is_none_of (inl d) b = let bad : 2 ≡ 0 = sym (ap status_number b) ∙ ap status_number d in absurd (omega (arith, bad))
bad_is_none_of (inr (inl f)) b = let bad : 2 ≡ 1 = sym (ap status_number b) ∙ ap status_number f in absurd (omega (arith, bad))
bad_is_none_of (inr (inr r)) b = let bad : 2 ≡ 3 = sym (ap status_number b) ∙ ap status_number r in absurd (omega (arith, bad))

-- ---- standard error

-- if a call left standard error as it was, or standard error failed, a line that is reported after the call is reported since before it
pub told_since : {T : Type 0} (written : T → Option (List ℕ)) (broken : T → Bool) (first ran last : T) → (ran ≡ first) ⊎ (broken ran ≡ true)
    → IsTold (writer_of (written ran) (written last) (broken last)) → (broken ran ≡ true → broken last ≡ true)
    → IsTold (writer_of (written first) (written last) (broken last))
told_since written broken first ran last (inl same) told stays = subst (λ f. IsTold (writer_of (written f) (written last) (broken last))) same told
told_since written broken first ran last (inr failed) told stays = inr (stays failed)

-- standard error is as it was, or failed, where an image wasn't made
pub elf_stops : (name : Option (List ℕ)) (file : List ℕ) (image faults : Writer) {image_same same : Type 0}
    → StopsElf name file image image_same faults same → same ⊎ (faults.failed ≡ true)
elf_stops name file image faults (inl h) = inl h.1
elf_stops name file image faults (inr (inl h)) = inl h.3
elf_stops name file image faults (inr (inr h)) = inr h.2.1

pub assembling_stops : (name : Option (List ℕ)) (source : List ℕ) (image faults : Writer) {image_same same : Type 0}
    → StopsAssembling name source image image_same faults same → same ⊎ (faults.failed ≡ true)
assembling_stops name source image faults (inl h) = inl h.1
assembling_stops name source image faults (inr (inl h)) = inl h.3
assembling_stops name source image faults (inr (inr h)) = inr h.2.1

-- a file was to be made, and is told of: what is told since the beginning
pub told_of_made : {T : Type 0} (written : T → Option (List ℕ)) (broken : T → Bool) (first begun ran last : T) {answered own : ExitStatus} {lost : Bool}
    → begun ≡ first → (own ≢ status.Refused → (ran ≡ begun) ⊎ (broken ran ≡ true)) → (own ≡ status.Refused → lost ≡ false)
    → (answered ≡ status.Failed → own ≢ status.Failed → lost ≡ true)
    → (answered ≡ status.Failed → IsTold (writer_of (written ran) (written last) (broken last))) → (broken ran ≡ true → broken last ≡ true)
    → (own ≡ status.Done) ⊎ ((own ≡ status.Failed) ⊎ (own ≡ status.Refused)) → answered ≡ status.Failed
    → IsTold (writer_of (written first) (written last) (broken last))
told_of_made written broken first begun ran last begins left sound lost told stays (inl done) f =
    subst (λ b. IsTold (writer_of (written b) (written last) (broken last))) begins
    (told_since written broken begun ran last (left (done_is_not_refused done)) (told f) stays)
told_of_made written broken first begun ran last begins left sound lost told stays (inr (inl failed)) f =
    subst (λ b. IsTold (writer_of (written b) (written last) (broken last))) begins
    (told_since written broken begun ran last (left (failed_is_other_than_refused failed)) (told f) stays)
told_of_made written broken first begun ran last begins left sound lost told stays (inr (inr refused)) f =
    absurd (true≢false (sym (lost f (refused_is_not_failed refused)) ∙ sound refused))

-- what the call left standard error as, unless it refused
pub left_alone : {T : Type 0} (broken : T → Bool) {begun ran : T} {own : ExitStatus} → (own ≡ status.Done) ⊎ ((own ≡ status.Failed) ⊎ (own ≡ status.Refused))
    → (own ≡ status.Done → ran ≡ begun) → (own ≡ status.Failed → (ran ≡ begun) ⊎ (broken ran ≡ true)) → own ≢ status.Refused → (ran ≡ begun) ⊎ (broken ran ≡ true)
left_alone broken (inl d) done failed not = inl (done d)
left_alone broken (inr (inl f)) done failed not = failed f
left_alone broken (inr (inr r)) done failed not = absurd (not r)

-- the status is that of the call, or a failure
pub stop_is_failure : {answered own : ExitStatus} → (answered ≡ own) ⊎ (answered ≡ status.Failed)
    → (own ≡ status.Done) ⊎ ((own ≡ status.Failed) ⊎ (own ≡ status.Refused)) → (answered ≡ status.Failed) ⊎ (answered ≡ status.BadArguments) → answered ≡ status.Failed
stop_is_failure which one (inl f) = f
stop_is_failure (inr f) one (inr b) = f
stop_is_failure (inl same) one (inr b) = bad_is_none_of one (sym same ∙ b)
