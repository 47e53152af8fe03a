-- Steps that one thread takes by itself.
use Rattle.std.specs.Prelude.{◌≡◌, ◌<◌, ℕ, [], length, replicate}
use Rattle.ir_thread.specs.State.{ask_of}
use Rattle.ir_thread.specs.declared.ask.Ask.TheVariants as ask
use Rattle.ir_flat.specs.Flat.{Flat, tables, machine}
use Rattle.ir_runs.specs.Run.{IsRun, end, log}

-- g is f after `count` steps of thread t, each of them private
pub record WentAlone (f g : Flat) (t count : ℕ) : Type 0 where
  pub runs : IsRun (machine f) (tables f) (replicate count (t, 0))
  pub ends : tables g ≡ end (machine f) (tables f) (replicate count (t, 0))
  pub each : (k : ℕ) → k < count → ask_of f.code ((end (machine f) (tables f) (replicate k (t, 0))).now t) ≡ ask.Private
  -- nothing is logged
  pub quiet : (u : ℕ) → log (machine f) (tables f) (replicate count (t, 0)) u ≡ []
  pub code : g.code ≡ f.code
  pub threads : length g.threads ≡ length f.threads
  pub objects : length g.objects ≡ length f.objects
