-- Private steps of a thread as a run.
use Rattle.std.proofs.Common.{◌≡◌, ℕ, zero, suc, ◌<◌, Bool, true, false, eqb, List, ◌∷◌, length, set, replicate, refl, sym, ap, ◌∙◌, subst, arith, get_or-set_same, length-set}
use Rattle.std.proofs.lemmas.List.{set-get_or, set-set}
use Rattle.ir_thread.specs.State.{ask_of, after_ask, after_reply, shared_ask}
use Rattle.ir_thread.specs.Permitted.{Permits, step_of, run_of}
use Rattle.ir_runs.specs.Machine.{Label, Quiet, target, emitted, act_of}
use Rattle.ir_thread.specs.Private.{PrivateSteps}
use Rattle.ir_thread.specs.State as thread
use Rattle.ir_thread.specs.declared.ask.Ask.TheVariants.{Private}
use Rattle.ir_thread.specs.declared.ask.Reply.TheVariants.{Go}
use Rattle.ir_thread.proofs.CallerLemmas.{ask_of_permitted}
use Rattle.ir_flat.specs.Alone.{WentAlone}
use Rattle.ir_flat.specs.Flat.{Flat, idle, thread_of, tables, machine, IsFlat}
use Rattle.ir_flat.specs.Next.{with_thread, MayStep}
use Rattle.ir_runs.specs.Run.{after, label, IsRun, end, join_if, trail, events, log}
use Rattle.ir_flat.proofs.Keeps.{may_step_iff_can, next_is_flat}
use Rattle.ir_flat.proofs.Next.{tables_of_next_after}

run_of_successor : (code : List ℕ) (k : ℕ) (x : thread.ThreadState) → run_of code k (step_of code x) ≡ run_of code (suc k) x
unfolding run_of
run_of_successor code zero x = refl
run_of_successor code (suc k) x = ap (step_of code) (run_of_successor code k x)

private_step_is_ask : (code : List ℕ) (x : thread.ThreadState) → ask_of code x ≡ Private → step_of code x ≡ after_ask code x Private Go
unfolding step_of after_reply
private_step_is_ask code x is = ap (λ q. after_ask code x q Go) is

private_steps_cons : (code : List ℕ) (n : ℕ) (x y : thread.ThreadState) → PrivateSteps code (suc n) x y → PrivateSteps code n (step_of code x) y
private_steps_cons code n x y p = record {
  steps = p.steps ∙ sym (run_of_successor code n x);
  each = λ k l. ap (ask_of code) (run_of_successor code k x) ∙ p.each (suc k) (omega (arith, l));
}

events_skip_quiet : (b : Bool) (x : thread.ThreadState) (k : Label) (xs : List (thread.ThreadState × Label)) → k ≡ Quiet
    → events (join_if b (x, k) xs) ≡ events xs
events_skip_quiet true x k xs e = ap (λ z. events ((x, z) ∷ xs)) e
events_skip_quiet false x k xs e = refl

-- a private step emits nothing
private_step_is_quiet : (f : Flat) (t : ℕ) → ask_of f.code (thread_of f t) ≡ Private → label (machine f) (tables f) (t, 0) ≡ Quiet
private_step_is_quiet f t is = ap (λ q. emitted (act_of (shared_ask q) 0) ((tables f).objects (target (act_of (shared_ask q) 0)))) is

-- no step
alone_by_zero_steps : (f : Flat) (t : ℕ) (y : thread.ThreadState) → PrivateSteps f.code 0 (thread_of f t) y → WentAlone f (with_thread f t y) t 0
unfolding run_of
alone_by_zero_steps f t y p =
    let same : set f.threads t y ≡ f.threads = ap (set f.threads t) p.steps ∙ set-get_or f.threads t idle in
    record {
      runs = tt;
      ends = ap (λ xs. tables (record f { threads = xs })) same;
      each = λ k below. absurd (omega (arith, below));
      quiet = λ u. refl;
      code = refl;
      threads = ap length same;
      objects = refl;
    }

-- what is said of the steps after the first is said of all
alone_by_next_step : (f : Flat) (t : ℕ) (y : thread.ThreadState) (n : ℕ) → IsFlat f → t < length f.threads → PrivateSteps f.code (suc n) (thread_of f t) y
    → ((g : Flat) (u : ℕ) (z : thread.ThreadState) → IsFlat g → u < length g.threads → PrivateSteps g.code n (thread_of g u) z
    → WentAlone g (with_thread g u z) u n) → WentAlone f (with_thread f t y) t (suc n)
unfolding run_of
alone_by_next_step f t y n flat l p rest =
    let is : ask_of f.code (thread_of f t) ≡ Private = p.each 0 (omega arith) in
    let x : thread.ThreadState = after_ask f.code (thread_of f t) Private Go in
    let g : Flat = with_thread f t x in
    let g_flat : IsFlat g = next_is_flat f t 0 Private (sym is) flat l tt in
    let first : tables g ≡ after (machine f) (tables f) (t, 0) =
    tables_of_next_after f t 0 Private is flat l (subst (Permits (thread_of f t)) is (ask_of_permitted f.code (thread_of f t))) tt in
    let now : thread_of g t ≡ step_of f.code (thread_of f t) = get_or-set_same f.threads t x idle l
    ∙ sym (private_step_is_ask f.code (thread_of f t) is) in
    let w : WentAlone g (with_thread g t y) t n =
    rest g t y g_flat (omega (arith, l, length-set f.threads t x))
    (subst (λ z. PrivateSteps f.code n z y) (sym now) (private_steps_cons f.code n (thread_of f t) y p)) in
    let again : set (set f.threads t x) t y ≡ set f.threads t y = set-set f.threads t x y in
    let again_flat : with_thread g t y ≡ with_thread f t y = ap (λ xs. record f { threads = xs }) again in
    record {
      runs = (
        (may_step_iff_can f t 0 flat l).0 (subst (MayStep f 0) (sym is) tt),
        subst (λ s. IsRun (machine f) s (replicate n (t, 0))) first
            w.runs,
      );
      ends = sym (ap tables again_flat) ∙ w.ends ∙ ap (λ s. end (machine f) s (replicate n (t, 0))) first;
      each = λ k below. at_step k below is first w;
      quiet = λ u. events_skip_quiet (eqb u t) ((tables f).now u) (label (machine f) (tables f) (t, 0))
          (trail (machine f) (after (machine f) (tables f) (t, 0)) (replicate n (t, 0)) u) (private_step_is_quiet f t is)
          ∙ ap (λ s. log (machine f) s (replicate n (t, 0)) u) (sym first) ∙ w.quiet u;
      code = refl;
      threads = length-set f.threads t y;
      objects = refl;
    }
  where
    at_step : (k : ℕ) → k < suc n → ask_of f.code (thread_of f t) ≡ Private
        → tables (with_thread f t (after_ask f.code (thread_of f t) Private Go)) ≡ after (machine f) (tables f) (t, 0)
        → WentAlone (with_thread f t (after_ask f.code (thread_of f t) Private Go))
        (with_thread (with_thread f t (after_ask f.code (thread_of f t) Private Go)) t y) t n
        → ask_of f.code ((end (machine f) (tables f) (replicate k (t, 0))).now t) ≡ Private
    at_step zero below is first w = is
    at_step (suc k) below is first w = ap (λ s. ask_of f.code ((end (machine f) s (replicate k (t, 0))).now t)) (sym first)
        ∙ w.each k (omega (arith, below))

pub alone_by_private_steps : (n : ℕ) (f : Flat) (t : ℕ) (y : thread.ThreadState) → IsFlat f → t < length f.threads → PrivateSteps f.code n (thread_of f t) y
    → WentAlone f (with_thread f t y) t n
alone_by_private_steps zero f t y flat l p = alone_by_zero_steps f t y p
alone_by_private_steps (suc n) f t y flat l p = alone_by_next_step f t y n flat l p (alone_by_private_steps n)

-- the threads and objects keep what they always keep
pub flat_after_private : (n : ℕ) (f : Flat) (t : ℕ) (y : thread.ThreadState) → IsFlat f → t < length f.threads → PrivateSteps f.code n (thread_of f t) y
    → IsFlat (with_thread f t y)
unfolding run_of
flat_after_private zero f t y flat l p = subst (λ xs. IsFlat (record f { threads = xs }))
    (sym (ap (set f.threads t) p.steps ∙ set-get_or f.threads t idle)) flat
flat_after_private (suc n) f t y flat l p =
    let is : ask_of f.code (thread_of f t) ≡ Private = p.each 0 (omega arith) in
    let x : thread.ThreadState = after_ask f.code (thread_of f t) Private Go in
    let g_flat : IsFlat (with_thread f t x) = next_is_flat f t 0 Private (sym is) flat l tt in
    let now : thread_of (with_thread f t x) t ≡ step_of f.code (thread_of f t) = get_or-set_same f.threads t x idle l
    ∙ sym (private_step_is_ask f.code (thread_of f t) is) in
    subst (λ xs. IsFlat (record f { threads = xs })) (set-set f.threads t x y)
    (flat_after_private n (with_thread f t x) t y g_flat (omega (arith, l, length-set f.threads t x))
    (subst (λ z. PrivateSteps f.code n z y) (sym now) (private_steps_cons f.code n (thread_of f t) y p)))

-- the same, of the value that the code's parts are
pub flat_after_equal_run : (p f new : Flat) (t n : ℕ) → p ≡ f → t < length f.threads → IsFlat p
    → ((k : ℕ) → k < n → ask_of p.code (run_of p.code k (thread_of p t)) ≡ Private)
    → new ≡ with_thread p t (run_of p.code n (thread_of p t)) → IsFlat new
flat_after_equal_run p f new t n same l flat each e =
    subst IsFlat (sym e) (flat_after_private n p t (run_of p.code n (thread_of p t)) flat (subst (λ z. t < length z.threads) (sym same) l)
    (record { steps = refl; each = each }))

pub alone_after_equal_run : (p f new : Flat) (t n : ℕ) → p ≡ f → t < length f.threads → IsFlat p
    → ((k : ℕ) → k < n → ask_of p.code (run_of p.code k (thread_of p t)) ≡ Private)
    → new ≡ with_thread p t (run_of p.code n (thread_of p t)) → WentAlone f new t n
alone_after_equal_run p f new t n same l flat each e =
    subst (λ g. WentAlone f g t n) (sym e) (subst (λ z. WentAlone z (with_thread p t (run_of p.code n (thread_of p t))) t n) same
    (alone_by_private_steps n p t (run_of p.code n (thread_of p t)) flat (subst (λ z. t < length z.threads) (sym same) l)
    (record { steps = refl; each = each })))
