-- Answers that are given in turn.
use Rattle.std.proofs.Common.{Bool, true, false, ◌≡◌, ◌≤◌, ◌+◌, ℕ, List, [], ◌∷◌, ◌++◌, refl, sym, ap, ◌∙◌, subst, arith}
use Rattle.std.specs.Prelude.{◌≢◌}
use Rattle.ir_world.specs.Sources.{Source, given, Gave, untimed, from_sources, is_counted}
use Rattle.ir_world.specs.declared.time.Time.{Time}
use Rattle.ir_world.specs.declared.time.Time.TheVariants.{Since}
use Rattle.ir_record.specs.Worlds.{AnsweredCall}
use Rattle.ir_runs.specs.declared.env_kind.EnvKind.{EnvKind}
use Rattle.ir_runs.specs.declared.env_kind.EnvKind.TheVariants.{Clock, Random, Input}

-- one answer more
pub gave_after_answer : (s t u : Source) (answers : List AnsweredCall) (kind : EnvKind) (value : ℕ) → Gave s answers t
    → ◌≡◌ {A = ℕ × Source} (value, u) (given kind t) → Gave s (answers ++ (kind, value) ∷ []) u
gave_after_answer s t u [] kind value same e =
    let h : ◌≡◌ {A = ℕ × Source} (value, u) (given kind s) = e ∙ ap (given kind) same in
    (ap (λ (p : ℕ × Source). p.0) h, ap (λ (p : ℕ × Source). p.1) h)
gave_after_answer s t u (a ∷ answers) kind value gave e = (gave.0, gave_after_answer (given a.0 s).1 t u answers kind value gave.1 e)

-- an answer takes no more than one tick
answer_ticks_at_most_one : (kind : EnvKind) (s : Source) → (given kind s).1.ticks ≤ s.ticks + 1
answer_ticks_at_most_one Clock s = omega arith
answer_ticks_at_most_one Random s = omega arith
answer_ticks_at_most_one Input s = omega arith

-- one answer more to a call for the time is none of the others
untimed_skips_clock : (answers : List AnsweredCall) (value : ℕ) → untimed (answers ++ (Clock, value) ∷ []) ≡ untimed answers
untimed_skips_clock [] value = refl
untimed_skips_clock ((Clock, other) ∷ answers) value = untimed_skips_clock answers value
untimed_skips_clock ((Random, other) ∷ answers) value = ap (λ (z : List AnsweredCall). (Random, other) ∷ z) (untimed_skips_clock answers value)
untimed_skips_clock ((Input, other) ∷ answers) value = ap (λ (z : List AnsweredCall). (Input, other) ∷ z) (untimed_skips_clock answers value)

-- one answer more to another call
untimed_keeps_other : (answers : List AnsweredCall) (kind : EnvKind) (value : ℕ) → kind ≢ Clock
    → untimed (answers ++ (kind, value) ∷ []) ≡ untimed answers ++ (kind, value) ∷ []
untimed_keeps_other [] Clock value other = absurd (other refl)
untimed_keeps_other [] Random value other = refl
untimed_keeps_other [] Input value other = refl
untimed_keeps_other ((Clock, first) ∷ answers) kind value other = untimed_keeps_other answers kind value other
untimed_keeps_other ((Random, first) ∷ answers) kind value other =
    ap (λ (z : List AnsweredCall). (Random, first) ∷ z) (untimed_keeps_other answers kind value other)
untimed_keeps_other ((Input, first) ∷ answers) kind value other =
    ap (λ (z : List AnsweredCall). (Input, first) ∷ z) (untimed_keeps_other answers kind value other)

-- the sources after a clock was read
pub gave_skips_clock : (s t : Source) (time : Time) (start : _) (answers new : List AnsweredCall) (kind : EnvKind) (value : ℕ) → time ≡ Since start
    → kind ≡ Clock → Gave s (from_sources (is_counted time) answers) t → new ≡ answers ++ (kind, value) ∷ []
    → Gave s (from_sources (is_counted time) new) t
gave_skips_clock s t time start answers new kind value timed clock gave e =
    let by_clock : is_counted time ≡ false = ap is_counted timed in
    let same : untimed new ≡ untimed answers = ap untimed (e ∙ ap (λ (k : EnvKind). answers ++ (k, value) ∷ []) clock)
    ∙ untimed_skips_clock answers value in
    subst (λ (c : Bool). Gave s (from_sources c new) t) (sym by_clock)
    (subst (λ (z : List AnsweredCall). Gave s z t) (sym same) (subst (λ (c : Bool). Gave s (from_sources c answers) t) by_clock gave))

-- the sources after one answer of theirs more
pub gave_sources_after : (s t u : Source) (counted : Bool) (answers new : List AnsweredCall) (kind : EnvKind) (value : ℕ)
    → (counted ≡ false → kind ≢ Clock) → Gave s (from_sources counted answers) t → new ≡ answers ++ (kind, value) ∷ []
    → ◌≡◌ {A = ℕ × Source} (value, u) (given kind t)
    → Gave s (from_sources counted new) u
gave_sources_after s t u true answers new kind value other gave e h =
    subst (λ (z : List AnsweredCall). Gave s z u) (sym e) (gave_after_answer s t u answers kind value gave h)
gave_sources_after s t u false answers new kind value other gave e h =
    let more : untimed new ≡ untimed answers ++ (kind, value) ∷ [] = ap untimed e ∙ untimed_keeps_other answers kind value (other refl) in
    subst (λ (z : List AnsweredCall). Gave s z u) (sym more) (gave_after_answer s t u (untimed answers) kind value gave h)

pub ticks_bounded : (t u : Source) (old new : ℕ) (kind : EnvKind) (value : ℕ) → t.ticks ≤ old → new ≡ old + 1
    → ◌≡◌ {A = ℕ × Source} (value, u) (given kind t) → u.ticks ≤ new
ticks_bounded t u old new kind value few e h = let ticks : u.ticks ≡ (given kind t).1.ticks = ap (λ (p : ℕ × Source). p.1.ticks) h in
    omega (arith, ticks, few, e, answer_ticks_at_most_one kind t)
