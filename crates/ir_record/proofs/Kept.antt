-- What is kept of what the threads ask.
use Rattle.std.proofs.Common.{◌≡◌, ◌≢◌, ℕ, zero, suc, ◌+◌, ◌<◌, Bool, List, [], ◌∷◌, length, set, get_or, sym, ap, ◌∙◌, subst, arith, inl, inr, length-set, get_or-set_same, get_or-set_other}
use Rattle.std.proofs.lemmas.Bool.{cases_eq}
use Rattle.ir_thread.specs.State.{ask_of}
use Rattle.ir_thread.specs.declared.ask.Ask.{Ask}
use Rattle.ir_thread.specs.declared.ask.Ask.TheVariants.{Done}
use Rattle.ir_flat.specs.Alone.{WentAlone}
use Rattle.ir_flat.specs.Flat.{Flat, IsFlat, thread_of, tables, machine}
use Rattle.ir_runs.specs.Machine.{Machine}
use Rattle.ir_runs.specs.Run.{State, Step, end}
use Rattle.ir_runs.specs.Orders.{InTurn}
use Rattle.ir_record.specs.Ahead.{AreAsks}
use Rattle.ir_record.specs.Progress.{Progress, TookIf}
use Rattle.ir_record.proofs.Leading.{other_step_same_thread, repeats_keep_others}

-- a place that is read, whatever the default is
pub get_or_done_element : (xs : List Ask) (t : ℕ) (v : Ask) → t < length xs → v ≡ get_or xs t v → get_or xs t Done ≡ v
get_or_done_element [] t v l is = absurd (omega (arith, l))
get_or_done_element (x ∷ xs) zero v l is = sym is
get_or_done_element (x ∷ xs) (suc t) v l is = get_or_done_element xs t v (omega (arith, l)) is

-- the asks of the first threads, and one more
pub kept_asks_step : (asks : List Ask) (f : Flat) (t : ℕ) (v : Ask) → t < length asks → v ≡ ask_of f.code (thread_of f t)
    → ((u : ℕ) → u < t → get_or asks u Done ≡ ask_of f.code (thread_of f u)) → (u : ℕ) → u < t + 1
    → get_or (set asks t v) u Done ≡ ask_of f.code (thread_of f u)
kept_asks_step asks f t v below is before u l = elim (cases_eq u t) [
  | inl e ↦ subst (λ z. get_or (set asks t v) z Done ≡ ask_of f.code (thread_of f z)) (sym e) (get_or-set_same asks t v Done below ∙ is)
  | inr ne ↦ get_or-set_other asks t u v Done ne ∙ before u (omega (arith, l, ne))
]

-- a turn of thread t moves no other thread
turn_keeps_others : {T : Type 0} (m : Machine T) (s : State T) (t u : ℕ) (run : List Step) → u ≢ t → InTurn m s (t ∷ []) run
    → (end m s run).now u ≡ s.now u
turn_keeps_others m s t u run ne (inl none) = ap (λ z. (end m s z).now u) none.1
turn_keeps_others m s t u run ne (inr some) = ap (λ z. (end m s z).now u) (some.2 ∙ ap (λ z. (t, some.0) ∷ z) some.5)
    ∙ other_step_same_thread m s t some.0 u ne

-- thread t takes its turn and private steps after it, and what it asks then is kept
pub asks_after_turn : (asks : List Ask) (a b : Progress) (g : Flat) (t k : ℕ) (v : Ask) (moved : Bool) → t < length a.flat.threads
    → AreAsks asks a.flat → IsFlat g → TookIf moved (t ∷ []) a b → WentAlone b.flat g t k → v ≡ ask_of g.code (thread_of g t)
    → AreAsks (set asks t v) g
asks_after_turn asks a b g t k v moved below kept flat took w is = record {
  flat = flat;
  places = length-set asks t v ∙ kept.places ∙ sym (w.threads ∙ took.took.threads);
  asked = λ u l. elim (cases_eq u t) [
    | inl e ↦ subst (λ z. get_or (set asks t v) z Done ≡ ask_of g.code (thread_of g z)) (sym e)
        (get_or-set_same asks t v Done (omega (arith, below, kept.places)) ∙ is)
    | inr ne ↦ get_or-set_other asks t u v Done ne ∙ kept.asked u (omega (arith, l, w.threads, took.took.threads)) ∙ sym (same u ne)
  ];
}
  where
    same : (u : ℕ) → u ≢ t → ask_of g.code (thread_of g u) ≡ ask_of a.flat.code (thread_of a.flat u)
    same u ne = ap (λ s. ask_of g.code (s.now u)) w.ends ∙ ap (ask_of g.code) (repeats_keep_others (machine b.flat) t k u ne (tables b.flat))
        ∙ ap (λ s. ask_of g.code (s.now u)) took.took.ends
        ∙ ap (ask_of g.code) (turn_keeps_others (machine a.flat) (tables a.flat) t u took.took.run ne took.took.turns)
        ∙ ap (λ code. ask_of code (thread_of a.flat u)) (w.code ∙ took.took.code)
