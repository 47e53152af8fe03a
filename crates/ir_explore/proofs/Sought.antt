-- Searches by growing numbers of switches.
use Rattle.std.proofs.Common.{◌≡◌, ℕ, suc, Option, None, List, refl, ap, ◌∙◌, subst}
use Rattle.ir_schedule.specs.Conditions.{Condition}
use Rattle.ir_search.specs.declared.search.Ended.TheVariants.{Covered}
use Rattle.ir_files.specs.Writers.{Writer}
use Rattle.ir_files.specs.declared.exit_status.ExitStatus.{ExitStatus}
use Rattle.ir_graph.specs.Standing.{NeedsSwitches}
use Rattle.ir_image.specs.Guest.{Guest}
use Rattle.ir_explore.specs.Conditions.{IsFirst}
use Rattle.ir_explore.specs.Texts.{Known, AreKnown, IsKnownText}
use Rattle.ir_explore.specs.Faults.{HasNoGuest}
use Rattle.ir_explore.specs.Hang.{HasNoHangAnswer}
use Rattle.ir_explore.specs.Until.{IsSought, IsVain, HasNoAnswer, vain_status_of}
use Rattle.ir_explore.specs.declared.fault.ExploreFault.{ExploreFault}
use Rattle.ir_explore.specs.declared.fault.ExploreFault.TheVariants.{Image, TooLarge, NoMem, Write}
use Rattle.ir_explore.specs.Plan.{ExplorePlan, setup_of}
use Rattle.ir_explore.proofs.Fulfilled.{never_within_levels, never_fulfils}

-- what was found out up to a number of switches that is the plan's, or is all
known_at_switches : (guest : Guest) (plan : ExplorePlan) (n : ℕ) (k : Known) → AreKnown guest (record plan { switches = n }) k
    → (k.ended ≡ Covered → n ≡ plan.switches) → AreKnown guest plan k
known_at_switches guest plan n k a last = record {
  explored = a.explored;
  all = a.all;
  nodes = a.nodes;
  reached = a.reached;
  found = a.found;
  hanging = a.hanging;
  unknown = a.unknown;
  timed = a.timed;
  untimed = a.untimed;
  covered = λ e. a.covered e ∙ ap suc (last e);
  left = λ e. let l = a.left e in (l.0, l.1, l.2, subst (NeedsSwitches (setup_of guest plan) l.1) (last e) l.3);
  few = a.few;
  stopped = a.stopped;
}

-- after the last search
pub sought_if_first_found : (guest : Guest) (plan : ExplorePlan) (cs : List Condition) (n : ℕ) (k : Known) (found : Option ℕ)
    → AreKnown guest (record plan { switches = n }) k → IsFirst guest cs k.flats k.outcomes found
    → (found ≡ None → k.ended ≡ Covered → n ≡ plan.switches) → IsSought guest plan cs k found
sought_if_first_found guest plan cs n k found a first last = record {
  explored = a.explored;
  reached = a.reached;
  first = first;
  whole = λ none. known_at_switches guest plan n k a (last none);
}

-- none was found
pub vain_text_if_none_found : (guest : Guest) (plan : ExplorePlan) (cs : List Condition) (k : Known) (alone : ExitStatus) (text : List ℕ)
    → IsSought guest plan cs k None → IsKnownText guest k alone text → IsVain guest plan cs (vain_status_of k.ended) text
vain_text_if_none_found guest plan cs k alone text s printed = let a = s.whole refl in record {
  known = k;
  are = a;
  printed = (alone, printed);
  none = s.first;
  never = λ e. never_fulfils (setup_of guest plan) cs k.flats k.outcomes (a.all e) s.first;
  within = never_within_levels (setup_of guest plan) cs k.flats k.outcomes k.levels a.explored s.first;
  status = refl;
}

-- ---- no guest

-- if no guest is explored, there is no answer with conditions
pub no_guest_is_no_answer : (e : ExploreFault) (image : List ℕ) (plan : ExplorePlan) (cs : List Condition) (w : Writer) → HasNoGuest e image plan w
    → HasNoAnswer e image plan cs w
no_guest_is_no_answer (Image e) image plan cs w none = none
no_guest_is_no_answer TooLarge image plan cs w none = none
no_guest_is_no_answer NoMem image plan cs w none = none
no_guest_is_no_answer Write image plan cs w none = absurd none

-- nor one about a hang
pub no_guest_no_hang : (e : ExploreFault) (image : List ℕ) (plan : ExplorePlan) (w : Writer) → HasNoGuest e image plan w → HasNoHangAnswer e image plan w
no_guest_no_hang (Image e) image plan w none = none
no_guest_no_hang TooLarge image plan w none = none
no_guest_no_hang NoMem image plan w none = none
no_guest_no_hang Write image plan w none = absurd none
