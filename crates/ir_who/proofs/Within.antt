-- What made, read and wrote over the versions of a run is among its steps.
use Rattle.std.proofs.Common.{◌≡◌, ℕ, Some, List, sym, subst}
use Rattle.std.specs.Prelude.{Option, slice_get}
use Rattle.ir_log.specs.declared.event.Event.TheVariants.{Read, Write}
use Rattle.ir_trace.specs.Recorded.{Recorded}
use Rattle.ir_fit.specs.Fit.{FittedTrace, HasRun}
use Rattle.ir_past.specs.Answers.{AreCoherent}
use Rattle.ir_past.specs.Past.{AreReaders, IsMadeBy, IsOverwriter}
use Rattle.ir_past.specs.declared.place.Place.{Place}
use Rattle.ir_opened.specs.Positions.{IsInside}
use Rattle.ir_opened.proofs.CallerLemmas.{recorded_is_inside, run_trace_is_coherent}
use Rattle.ir_who.specs.Versions.{AreVersions}
use Rattle.ir_who.specs.declared.version.Version.{Version}

-- the trace of a run is coherent, whatever it is called
pub equal_trace_is_coherent : (f : FittedTrace) → HasRun f → (r : Recorded) → r ≡ f.recorded → AreCoherent r
equal_trace_is_coherent f h r same = subst AreCoherent (sym same) (run_trace_is_coherent f h)

-- what made a version
pub version_maker_is_inside : (f : FittedTrace) → HasRun f → (o : ℕ) (rows : List Version) → AreVersions f.recorded o rows → (k : ℕ) (x : Version) (p : Place)
    → slice_get rows k ≡ Some x → x.made_by ≡ Some p → IsInside f p.thread p.event
version_maker_is_inside f h o rows all k x p there made =
    let is : IsMadeBy f.recorded o k (Some p) = subst (IsMadeBy f.recorded o k) made (all.each k x there).made in
    recorded_is_inside f h p.thread p.event (Write o is.0 is.1) is.3

-- who read it
pub reader_is_inside : (f : FittedTrace) → HasRun f → (o v : ℕ) (places : List Place) → AreReaders f.recorded o v places → (k : ℕ) (p : Place)
    → slice_get places k ≡ Some p → IsInside f p.thread p.event
reader_is_inside f h o v places are k p there = recorded_is_inside f h p.thread p.event (Read o v) (are.sound k p there)

-- what wrote over it
pub overwriter_is_inside : (f : FittedTrace) → HasRun f → (o v : ℕ) (over : Option Place) → IsOverwriter f.recorded o v over → (p : Place) → over ≡ Some p
    → IsInside f p.thread p.event
overwriter_is_inside f h o v over is p same =
    let write : IsOverwriter f.recorded o v (Some p) = subst (IsOverwriter f.recorded o v) same is in
    recorded_is_inside f h p.thread p.event (Write o v write.0) write.1
