-- What is left where a hunt has no recording.
use Rattle.std.proofs.Common.{◌≡◌, ◌<◌, ℕ, zero, suc, true, false, List, [], inl, inr, subst, arith}
use Rattle.std.specs.Prelude.{Option, Some, None, Result, Ok, Err, OnOk, OnErr, IfSome, MatchOption}
use Rattle.std.specs.Result.{is_err}
use Rattle.ir_files.specs.Writers.{Writer, Reports, fault_text}
use Rattle.ir_image.specs.Guest.{Guest, guest_at}
use Rattle.ir_record_command.specs.Plan.{Plan}
use Rattle.ir_schedule.specs.declared.way.Way.{Way}
use Rattle.ir_hunt.specs.declared.plan.HuntPlan.{HuntPlan}
use Rattle.ir_hunt.specs.Finding.{IsFound, IsOrderOfSeed}
use Rattle.ir_hunt.specs.Hunt.{Hunt, hunt_of}
use Rattle.ir_hunt.specs.Hunted.{IsFoundIn, IsNoneIn}
use Rattle.ir_hunt.specs.Tried.{AreAllTried, Fails, IsLowestSeed, IsTriedLast}
use Rattle.ir_hunt.specs.Lines.{found_line, left_out_words, none_lines}
use Rattle.ir_hunt.specs.Stopping.{IsHuntLine, TellsLeftOut}

pub error_fact_if_is_err : {A E : Type 0} (r : Result A E) (P : Type 0) → OnErr r P → is_err r ≡ true → P
error_fact_if_is_err (Ok x) P h e = absurd cc
error_fact_if_is_err (Err x) P h e = h

pub ok_fact_unless_is_err : {A E : Type 0} (r : Result A E) (P : Type 0) → OnOk r P → is_err r ≡ false → P
ok_fact_unless_is_err (Ok x) P h e = h
ok_fact_unless_is_err (Err x) P h e = absurd cc

-- the line of what was found, or of nothing
pub line_is_hunt_line : {F : Type 0} (seed_of : F → ℕ) (list_of : F → List ℕ) (image : List ℕ) (plan : HuntPlan) (found : Option F) (last left_out : ℕ) (line : List ℕ)
    → MatchOption found (IsNoneIn image plan last left_out) (λ f. IsFoundIn image plan left_out (seed_of f) (list_of f))
    → MatchOption found (line ≡ none_lines plan.seeds.first last plan.seeds.last) (λ f. line ≡ found_line (seed_of f) (list_of f))
    → IsHuntLine image plan line
line_is_hunt_line seed_of list_of image plan None last left_out line h e = inr (last, left_out, h, e)
line_is_hunt_line seed_of list_of image plan (Some f) last left_out line h e = inl (left_out, seed_of f, list_of f, h, e)

-- what a search of an image's guest came to is what its hunt comes to
pub search_is_hunt : {F : Type 0} (seed_of : F → ℕ) (list_of : F → List ℕ) (image : List ℕ) (plan : HuntPlan) (guest : Guest) (choices : List ℕ) (found : Option F)
    (last left_out : ℕ) → guest_at image ≡ Ok guest
    → MatchOption found (IsTriedLast plan.seeds plan.seconds last × AreAllTried (hunt_of guest plan choices) plan.seeds.first last left_out)
    (λ f. IsLowestSeed (hunt_of guest plan choices) plan.seeds.first plan.seeds.last (seed_of f) left_out (list_of f))
    → MatchOption found (IsNoneIn image plan last left_out) (λ f. IsFoundIn image plan left_out (seed_of f) (list_of f))
search_is_hunt seed_of list_of image plan guest choices None last left_out is h =
    record { guest = guest; is = is; choices = choices; ends = h.0; tried = h.1 }
search_is_hunt seed_of list_of image plan guest choices (Some f) last left_out is h = record { guest = guest; is = is; choices = choices; lowest = h }

-- the list of a seed without conditions spells the order of its run
pub list_is_order_of_seed : {S : Type 0} (words_of : S → List ℕ) (image : List ℕ) (guest : Guest) (plan : Plan) (way : Way) (seed : ℕ) (choices : List ℕ) (hunt : Hunt) (o : Option S)
    → guest_at image ≡ Ok guest → hunt ≡ record { guest = guest; plan = plan; way = way; choices = choices; conditions = []; wanted = None }
    → MatchOption o (Fails hunt seed) (λ s. IsFound hunt seed (words_of s)) → IfSome o (λ s. IsOrderOfSeed image plan way seed (words_of s))
list_is_order_of_seed words_of image guest plan way seed choices hunt None is same h = tt
list_is_order_of_seed words_of image guest plan way seed choices hunt (Some s) is same h = record {
  guest = guest;
  is = is;
  choices = choices;
  found = subst (λ z. IsFound z seed (words_of s)) same h;
}

-- the seeds that were left out are reported, if some were
pub left_out_are_told : (words : List ℕ) (left_out : ℕ) (w : Writer) (same : Type 0) → (0 < left_out) × (words ≡ left_out_words left_out) → Reports w (fault_text words)
    → TellsLeftOut left_out w same
left_out_are_told words zero w same is told = absurd (let some = is.0 in omega (arith, some))
left_out_are_told words (suc n) w same is told = subst (λ z. Reports w (fault_text z)) is.1 told

-- else nothing is
pub none_left_out_is_told : (left_out : ℕ) (w : Writer) (same : Type 0) → left_out ≡ 0 → same → TellsLeftOut left_out w same
none_left_out_is_told zero w same is h = h
none_left_out_is_told (suc n) w same is h = absurd (omega (arith, is))
