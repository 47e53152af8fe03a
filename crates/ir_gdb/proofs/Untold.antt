-- No bad end is hidden at the end of the recording.
use Rattle.std.proofs.Common.{◌≡◌, ◌<◌, ◌∙◌, ℕ, Bool, true, false, List, Option, Some, None, refl, sym, ap, if◌then◌else◌}
use Rattle.std.specs.Prelude.{◌&&◌, not, option_map}
use Rattle.ir_runs.specs.Run.{Step}
use Rattle.ir_fit.specs.Fit.{FittedTrace}
use Rattle.ir_cut.specs.Positions.{threads_of}
use Rattle.ir_packet.specs.declared.reply.Signal.{Signal}
use Rattle.ir_packet.specs.declared.request.Motion.{Motion}
use Rattle.ir_gdb.specs.declared.stopped.Moving.{Moving}
use Rattle.ir_gdb.specs.declared.stopped.Told.{Told}
use Rattle.ir_gdb.specs.Stub.{Stub}
use Rattle.ir_gdb.specs.Together.{Halt}
use Rattle.ir_gdb.specs.Endings.{signal_of, end_of_thread, told_ended, own_end, is_end_of_thread, or_told, first_bad_end, last_end, is_thread_over, told_or}
use Rattle.ir_gdb.specs.Moves.{told_of, told_at, MovesBy, Moves}
use Rattle.ir_gdb.proofs.Endings.{IsNotOver, own_end_is_not_over, last_end_is_not_over, no_bad_end}

no_signal_if_not_told : (t : ℕ) (how : Option Signal) → option_map (told_ended t) how ≡ None → how ≡ None
no_signal_if_not_told t None none = refl
no_signal_if_not_told t (Some how) none = absurd cc

-- where gdb is told that there is no more history, no bad end is told
told_over_parts : (own last : Option Told) (h : Told) → IsNotOver own → IsNotOver last → is_thread_over (told_or (or_told own last) h).reason ≡ true
    → (is_thread_over h.reason ≡ true) × (last ≡ None)
told_over_parts None None h one other over = (over, refl)
told_over_parts None (Some told) h one other over = absurd cc
told_over_parts (Some told) last h one other over = absurd cc

last_end_is_first_bad : (f : FittedTrace) (from to : List ℕ) (out : Bool) → out ≡ true → is_end_of_thread f to ≡ true → is_end_of_thread f from ≡ false
    → last_end f from to out ≡ first_bad_end f (threads_of f)
last_end_is_first_bad f from to out over there start = ap (λ (b : Bool). if b && (is_end_of_thread f to && not (is_end_of_thread f from)) then first_bad_end f (threads_of f) else None) over
    ∙ ap (λ (b : Bool). if b && not (is_end_of_thread f from) then first_bad_end f (threads_of f) else None) there
    ∙ ap (λ (b : Bool). if not b then first_bad_end f (threads_of f) else None) start

told_over_ends_well : (s : Stub) (among : Bool) (h : Halt) → among ≡ true → is_end_of_thread s.desk.fitted s.desk.at ≡ false → is_end_of_thread s.desk.fitted h.cut ≡ true
    → is_thread_over (told_at s among h).reason ≡ true → (t : ℕ) → t < threads_of s.desk.fitted → signal_of (end_of_thread s.desk.fitted t) ≡ None
told_over_ends_well s among h all start there over t below =
    let f = s.desk.fitted in
    let out = among && is_thread_over h.reason in
    let none = told_over_parts (own_end f s.desk.at h.cut h.thread) (last_end f s.desk.at h.cut out) (told_of h)
    (own_end_is_not_over f s.desk.at h.cut h.thread) (last_end_is_not_over f s.desk.at h.cut out) over in
    let is_out : out ≡ true = ap (λ (b : Bool). b && is_thread_over h.reason) all ∙ none.0 in
    let first : first_bad_end f (threads_of f) ≡ None = sym (last_end_is_first_bad f s.desk.at h.cut out is_out there start) ∙ none.1 in
    no_signal_if_not_told t (signal_of (end_of_thread f t)) (no_bad_end f t (threads_of f) below first)

pub no_move_hides_bad_end : (run : List Step) (s : Stub) (who : Moving) (m : Motion) (next : Stub) → who.among ≡ true → Moves run s who m next
    → is_end_of_thread s.desk.fitted s.desk.at ≡ false → is_end_of_thread s.desk.fitted next.desk.at ≡ true → is_thread_over next.told.reason ≡ true
    → (t : ℕ) → t < threads_of s.desk.fitted → signal_of (end_of_thread s.desk.fitted t) ≡ None
no_move_hides_bad_end run s who m next among moves start there over t below = by s.interrupted moves
  where
    by : (b : Bool) → MovesBy b run s who m next → signal_of (end_of_thread s.desk.fitted t) ≡ None
    by true is =
        let stays : is_end_of_thread s.desk.fitted next.desk.at ≡ is_end_of_thread s.desk.fitted s.desk.at = ap (λ (x : Stub). is_end_of_thread s.desk.fitted x.desk.at) is in
        let same : true ≡ false = sym there ∙ stays ∙ start in
        absurd cc
    by false (h, leads, is) =
        let at : is_end_of_thread s.desk.fitted h.cut ≡ true = sym (ap (λ (x : Stub). is_end_of_thread s.desk.fitted x.desk.at) is) ∙ there in
        let said : is_thread_over (told_at s who.among h).reason ≡ true = sym (ap (λ (x : Stub). is_thread_over x.told.reason) is) ∙ over in
        told_over_ends_well s who.among h among start at said t below
