-- The trace of a run is coherent.
use Rattle.std.proofs.Common.{◌≡◌, ℕ, suc, List, length, map, sym, ap, ◌∙◌, subst, arith, inl, inr}
use Rattle.std.proofs.Math.Path.{fun_ext}
use Rattle.std.proofs.lemmas.Bool.{cases_lt}
use Rattle.std.proofs.lemmas.List.{get_or_past}
use Rattle.ir_runs.specs.Machine.{Label, EnteredAt}
use Rattle.ir_runs.specs.declared.access.Access.{Access}
use Rattle.ir_runs.specs.declared.access.Access.TheVariants.{Writing}
use Rattle.ir_runs.specs.Run.{log, events, At}
use Rattle.ir_runs.specs.Verdicts.{reads, sum_below}
use Rattle.ir_runs.proofs.CallerLemmas.{own_trace_is_coherent}
use Rattle.ir_flat.proofs.CallerLemmas.{guest_start_is_idle}
use Rattle.ir_log.specs.Logging.{label_of}
use Rattle.ir_trace.specs.Recorded.{RecordedThread, trace_of}
use Rattle.ir_trace.specs.Absent.{absent}
use Rattle.ir_fit.specs.Fit.{FittedTrace, HasRun}
use Rattle.ir_fit.proofs.CallerLemmas.{guest_start_is_start}
use Rattle.ir_cut.specs.Positions.{machine_of, start_of}
use Rattle.ir_cut.proofs.CallerLemmas.{missing_has_no_trail}
use Rattle.ir_weave.proofs.CallerLemmas.{guest_machine_is_lawful, guest_start_invariant}
use Rattle.ir_past.specs.Answers.{AreCoherent}

pub run_trace_is_coherent : (f : FittedTrace) → HasRun f → AreCoherent f.recorded
run_trace_is_coherent f h =
    let n : ℕ = length f.recorded.threads in
    let size : n ≡ length f.guest.entries = h.whole.0.threads in
    let c = own_trace_is_coherent (length f.guest.entries) (machine_of f) (guest_machine_is_lawful f) (start_of f) (guest_start_invariant f)
    (guest_start_is_start f.guest f.recorded.budget f.recorded.profile) (guest_start_is_idle f.guest f.recorded.budget f.recorded.profile) h.run h.whole.1.runs in
    let same : (λ (t : ℕ). log (machine_of f) (start_of f) h.run t) ≡ (trace_of f.recorded).logs = fun_ext (λ t. elim (cases_lt t (length f.guest.entries)) [
      | inl l ↦ h.whole.1.logs t l
      | inr past ↦ ap events (missing_has_no_trail f h.run h.whole t past)
          ∙ ap (λ (x : RecordedThread). map label_of x.events) (sym (get_or_past f.recorded.threads t absent (omega (arith, past, size))))
    ]) in
    record {
      made = subst (λ (ls : ℕ → List Label). (t i o v l : ℕ) (a : Access) → At (ls t) i (EnteredAt o a (suc v) l) → (u j k : ℕ) × At (ls u) j (EnteredAt o Writing v k)) same c.made;
      writer = subst (λ (ls : ℕ → List Label). (t i u j o v l k : ℕ) → At (ls t) i (EnteredAt o Writing v l) → At (ls u) j (EnteredAt o Writing v k) → (t ≡ u) × (i ≡ j)) same
          c.writer;
      readers = subst (λ (z : (ℕ → List Label) × ℕ). (t i o v l : ℕ) → At (z.0 t) i (EnteredAt o Writing v l) → l ≡ sum_below z.1 (λ u. reads o v (z.0 u)))
          (λ i. (same i, sym size i)) c.readers;
    }
