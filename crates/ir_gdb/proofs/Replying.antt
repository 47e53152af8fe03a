-- Replies to requests, from what puts them.
use Rattle.std.proofs.Common.{◌≡◌, ◌⊎◌, ◌∙◌, ◌++◌, ℕ, true, false, not, List, length, Option, Some, None, Result, Ok, Err, OnErr, inl, refl, sym, ap, subst}
use Rattle.std.proofs.lemmas.List.{append_cancel_left}
use Rattle.ir_runs.specs.Run.{Step}
use Rattle.ir_fit.specs.Fit.{HasRun}
use Rattle.ir_cut.specs.Positions.{EachRun}
use Rattle.ir_packet.specs.Replies.{reply_text, piece_text}
use Rattle.ir_packet.specs.declared.reply.Reply.{Reply}
use Rattle.ir_packet.specs.declared.request.Motion.{Motion}
use Rattle.ir_packet.specs.declared.request.Mover.{Mover}
use Rattle.ir_packet.specs.declared.request.Request.{Request}
use Rattle.ir_packet.specs.declared.request.Request.TheVariants as request
use Rattle.ir_gdb.specs.Stub.{Stub, stub_spoken}
use Rattle.ir_gdb.specs.Texts.{supported_text, description_text, thread_list_text}
use Rattle.ir_gdb.specs.Reads.{registers_reply, register_reply, memory_reply}
use Rattle.ir_gdb.specs.Moves.{told_text, moving_of}
use Rattle.ir_gdb.specs.Restarts.{RepliesToRestart}
use Rattle.ir_gdb.specs.Replies.{RepliesIfMemory, SaysPlain, RepliesToMove, Lacks, plain_reply, after_plain, has_reply, reply_may_lack}

-- ---- replies that are always the same

says_plain_reply : (m : Option Reply) (r : Reply) (after next : Stub) → m ≡ Some r → next ≡ after → SaysPlain m after (reply_text r) next
says_plain_reply None r after next e same = absurd cc
says_plain_reply (Some q) r after next e same = let is : q ≡ r = cc in (ap reply_text (sym is), same)

pub plain_reply_carries_out : (run : List Step) (s : Stub) (asked : Request) (r : Reply) (next : Stub) → plain_reply s asked ≡ Some r
    → next ≡ after_plain s asked → RepliesIfMemory run s asked (reply_text r) next
plain_reply_carries_out run s request.Supported r next e same = absurd cc
plain_reply_carries_out run s request.NoAcknowledgements r next e same = says_plain_reply (plain_reply s request.NoAcknowledgements) r (after_plain s request.NoAcknowledgements) next e same
plain_reply_carries_out run s request.Reason r next e same = absurd cc
plain_reply_carries_out run s (request.General who) r next e same = says_plain_reply (plain_reply s (request.General who)) r (after_plain s (request.General who)) next e same
plain_reply_carries_out run s (request.Choose who) r next e same = says_plain_reply (plain_reply s (request.Choose who)) r (after_plain s (request.Choose who)) next e same
plain_reply_carries_out run s (request.Alive id) r next e same = says_plain_reply (plain_reply s (request.Alive id)) r (after_plain s (request.Alive id)) next e same
plain_reply_carries_out run s (request.Description from most) r next e same = absurd cc
plain_reply_carries_out run s (request.Threads from most) r next e same = absurd cc
plain_reply_carries_out run s request.Attached r next e same = says_plain_reply (plain_reply s request.Attached) r (after_plain s request.Attached) next e same
plain_reply_carries_out run s request.Offsets r next e same = says_plain_reply (plain_reply s request.Offsets) r (after_plain s request.Offsets) next e same
plain_reply_carries_out run s request.Symbols r next e same = says_plain_reply (plain_reply s request.Symbols) r (after_plain s request.Symbols) next e same
plain_reply_carries_out run s request.Motions r next e same = says_plain_reply (plain_reply s request.Motions) r (after_plain s request.Motions) next e same
plain_reply_carries_out run s request.Registers r next e same = absurd cc
plain_reply_carries_out run s (request.Register i) r next e same = absurd cc
plain_reply_carries_out run s (request.Memory a size) r next e same = absurd cc
plain_reply_carries_out run s request.Change r next e same = says_plain_reply (plain_reply s request.Change) r (after_plain s request.Change) next e same
plain_reply_carries_out run s (request.SetBreak a hardware) r next e same = says_plain_reply (plain_reply s (request.SetBreak a hardware)) r (after_plain s (request.SetBreak a hardware)) next e same
plain_reply_carries_out run s (request.SetBreakIf a hardware) r next e same =
    says_plain_reply (plain_reply s (request.SetBreakIf a hardware)) r (after_plain s (request.SetBreakIf a hardware)) next e same
plain_reply_carries_out run s (request.ClearBreak a hardware) r next e same =
    says_plain_reply (plain_reply s (request.ClearBreak a hardware)) r (after_plain s (request.ClearBreak a hardware)) next e same
plain_reply_carries_out run s (request.SetWatch a size) r next e same = says_plain_reply (plain_reply s (request.SetWatch a size)) r (after_plain s (request.SetWatch a size)) next e same
plain_reply_carries_out run s (request.ClearWatch a size) r next e same = says_plain_reply (plain_reply s (request.ClearWatch a size)) r (after_plain s (request.ClearWatch a size)) next e same
plain_reply_carries_out run s (request.Move motion who) r next e same = absurd cc
plain_reply_carries_out run s request.Console r next e same = says_plain_reply (plain_reply s request.Console) r (after_plain s request.Console) next e same
plain_reply_carries_out run s request.Extended r next e same = says_plain_reply (plain_reply s request.Extended) r (after_plain s request.Extended) next e same
plain_reply_carries_out run s request.Restart r next e same = absurd cc
plain_reply_carries_out run s (request.RestartAt i) r next e same = absurd cc
plain_reply_carries_out run s request.EndProcess r next e same = says_plain_reply (plain_reply s request.EndProcess) r (after_plain s request.EndProcess) next e same
plain_reply_carries_out run s request.Detach r next e same = says_plain_reply (plain_reply s request.Detach) r (after_plain s request.Detach) next e same
plain_reply_carries_out run s request.Kill r next e same = says_plain_reply (plain_reply s request.Kill) r (after_plain s request.Kill) next e same
plain_reply_carries_out run s request.Malformed r next e same = says_plain_reply (plain_reply s request.Malformed) r (after_plain s request.Malformed) next e same
plain_reply_carries_out run s request.Unknown r next e same = says_plain_reply (plain_reply s request.Unknown) r (after_plain s request.Unknown) next e same

-- a request that has no such reply changes nothing before it is carried out
pub after_plain_keeps_stub : (s : Stub) (asked : Request) → plain_reply s asked ≡ None → after_plain s asked ≡ s
after_plain_keeps_stub s request.Supported e = refl
after_plain_keeps_stub s request.NoAcknowledgements e = absurd cc
after_plain_keeps_stub s request.Reason e = refl
after_plain_keeps_stub s (request.General who) e = absurd cc
after_plain_keeps_stub s (request.Choose who) e = absurd cc
after_plain_keeps_stub s (request.Alive id) e = absurd cc
after_plain_keeps_stub s (request.Description from most) e = refl
after_plain_keeps_stub s (request.Threads from most) e = refl
after_plain_keeps_stub s request.Attached e = absurd cc
after_plain_keeps_stub s request.Offsets e = absurd cc
after_plain_keeps_stub s request.Symbols e = absurd cc
after_plain_keeps_stub s request.Motions e = absurd cc
after_plain_keeps_stub s request.Registers e = refl
after_plain_keeps_stub s (request.Register i) e = refl
after_plain_keeps_stub s (request.Memory a size) e = refl
after_plain_keeps_stub s request.Change e = absurd cc
after_plain_keeps_stub s (request.SetBreak a hardware) e = absurd cc
after_plain_keeps_stub s (request.SetBreakIf a hardware) e = refl
after_plain_keeps_stub s (request.ClearBreak a hardware) e = absurd cc
after_plain_keeps_stub s (request.SetWatch a size) e = absurd cc
after_plain_keeps_stub s (request.ClearWatch a size) e = absurd cc
after_plain_keeps_stub s (request.Move motion who) e = refl
after_plain_keeps_stub s request.Console e = refl
after_plain_keeps_stub s request.Extended e = absurd cc
after_plain_keeps_stub s request.Restart e = refl
after_plain_keeps_stub s (request.RestartAt i) e = refl
after_plain_keeps_stub s request.EndProcess e = absurd cc
after_plain_keeps_stub s request.Detach e = absurd cc
after_plain_keeps_stub s request.Kill e = refl
after_plain_keeps_stub s request.Malformed e = absurd cc
after_plain_keeps_stub s request.Unknown e = absurd cc

-- ---- requests that read the run or move it

pub unreplied_are_listed : (s : Stub) (asked : Request) → has_reply asked ≡ true → plain_reply s asked ≡ None → (asked ≡ request.Supported → ⊥)
    → ((from most : ℕ) → asked ≡ request.Description from most → ⊥)
    → ((from most : ℕ) → asked ≡ request.Threads from most → ⊥) → (asked ≡ request.Reason → ⊥) → (asked ≡ request.Registers → ⊥)
    → ((i : ℕ) → asked ≡ request.Register i → ⊥)
    → ((a size : ℕ) → asked ≡ request.Memory a size → ⊥)
    → ((motion : Motion) (who : Mover) → asked ≡ request.Move motion who → ⊥) → (asked ≡ request.Restart → ⊥)
    → ((i : ℕ) → asked ≡ request.RestartAt i → ⊥) → ⊥
unreplied_are_listed s request.Supported one e supported description threads reason registers register memory move restart restart_at = supported refl
unreplied_are_listed s request.NoAcknowledgements one e supported description threads reason registers register memory move restart restart_at = absurd cc
unreplied_are_listed s request.Reason one e supported description threads reason registers register memory move restart restart_at = reason refl
unreplied_are_listed s (request.General who) one e supported description threads reason registers register memory move restart restart_at = absurd cc
unreplied_are_listed s (request.Choose who) one e supported description threads reason registers register memory move restart restart_at = absurd cc
unreplied_are_listed s (request.Alive id) one e supported description threads reason registers register memory move restart restart_at = absurd cc
unreplied_are_listed s (request.Description from most) one e supported description threads reason registers register memory move restart restart_at = description from most refl
unreplied_are_listed s (request.Threads from most) one e supported description threads reason registers register memory move restart restart_at = threads from most refl
unreplied_are_listed s request.Attached one e supported description threads reason registers register memory move restart restart_at = absurd cc
unreplied_are_listed s request.Offsets one e supported description threads reason registers register memory move restart restart_at = absurd cc
unreplied_are_listed s request.Symbols one e supported description threads reason registers register memory move restart restart_at = absurd cc
unreplied_are_listed s request.Motions one e supported description threads reason registers register memory move restart restart_at = absurd cc
unreplied_are_listed s request.Registers one e supported description threads reason registers register memory move restart restart_at = registers refl
unreplied_are_listed s (request.Register i) one e supported description threads reason registers register memory move restart restart_at = register i refl
unreplied_are_listed s (request.Memory a size) one e supported description threads reason registers register memory move restart restart_at = memory a size refl
unreplied_are_listed s request.Change one e supported description threads reason registers register memory move restart restart_at = absurd cc
unreplied_are_listed s (request.SetBreak a hardware) one e supported description threads reason registers register memory move restart restart_at = absurd cc
unreplied_are_listed s (request.SetBreakIf a hardware) one e supported description threads reason registers register memory move restart restart_at = absurd cc
unreplied_are_listed s (request.ClearBreak a hardware) one e supported description threads reason registers register memory move restart restart_at = absurd cc
unreplied_are_listed s (request.SetWatch a size) one e supported description threads reason registers register memory move restart restart_at = absurd cc
unreplied_are_listed s (request.ClearWatch a size) one e supported description threads reason registers register memory move restart restart_at = absurd cc
unreplied_are_listed s (request.Move motion who) one e supported description threads reason registers register memory move restart restart_at = move motion who refl
unreplied_are_listed s request.Console one e supported description threads reason registers register memory move restart restart_at = absurd cc
unreplied_are_listed s request.Extended one e supported description threads reason registers register memory move restart restart_at = absurd cc
unreplied_are_listed s request.Restart one e supported description threads reason registers register memory move restart restart_at = restart refl
unreplied_are_listed s (request.RestartAt i) one e supported description threads reason registers register memory move restart restart_at = restart_at i refl
unreplied_are_listed s request.EndProcess one e supported description threads reason registers register memory move restart restart_at = absurd cc
unreplied_are_listed s request.Detach one e supported description threads reason registers register memory move restart restart_at = absurd cc
unreplied_are_listed s request.Kill one e supported description threads reason registers register memory move restart restart_at = absurd cc
unreplied_are_listed s request.Malformed one e supported description threads reason registers register memory move restart restart_at = absurd cc
unreplied_are_listed s request.Unknown one e supported description threads reason registers register memory move restart restart_at = absurd cc

-- these bytes were put at the end, whichever run there is
abbrev pub ReplyPut : Stub → Request → Stub → List ℕ → List ℕ → Type 0
ReplyPut s asked next old new = (text : List ℕ) × EachRun s.desk.fitted (λ run. RepliesIfMemory run s asked text next) × (new ≡ old ++ text)

reply_put_by_all_runs : (s : Stub) (asked : Request) (next : Stub) (old new text : List ℕ) → ((run : List Step) → RepliesIfMemory run s asked text next)
    → new ≡ old ++ text → ReplyPut s asked next old new
reply_put_by_all_runs s asked next old new text go put = (text, (λ run of. go run), put)

-- by a text that each run gives
reply_put_by_each_run : (s : Stub) (asked : Request) (next : Stub) (old new : List ℕ) (T : List Step → List ℕ) → HasRun s.desk.fitted
    → ((run : List Step) (text : List ℕ) → text ≡ T run → RepliesIfMemory run s asked text next)
    → EachRun s.desk.fitted (λ run. new ≡ old ++ T run) → ReplyPut s asked next old new
reply_put_by_each_run s asked next old new T has go each =
    let first : new ≡ old ++ T has.run = each has.run has.whole in
    (T has.run, (λ run of. go run (T has.run) (append_cancel_left old (T has.run) (T run) (sym first ∙ each run of))), first)

pub reply_put_plain : (s : Stub) (asked : Request) (r : Reply) (next : Stub) (old new : List ℕ) → plain_reply s asked ≡ Some r
    → next ≡ after_plain s asked → new ≡ old ++ reply_text r → ReplyPut s asked next old new
reply_put_plain s asked r next old new e same put = reply_put_by_all_runs s asked next old new (reply_text r) (λ run. plain_reply_carries_out run s asked r next e same) put

module _ (s : Stub) (asked : Request) (next : Stub) (old new : List ℕ) where
  over : (r : Request) → asked ≡ r → ReplyPut s r next old new → ReplyPut s asked next old new
  over r is p = subst (λ (x : Request). ReplyPut s x next old new) (sym is) p

  pub supported_put : (text : List ℕ) → asked ≡ request.Supported → next ≡ s → text ≡ supported_text → new ≡ old ++ text → ReplyPut s asked next old new
  supported_put text is same e put = over request.Supported is (reply_put_by_all_runs s request.Supported next old new text (λ run. (e, same)) put)

  pub description_put : (text : List ℕ) (from most : ℕ) → asked ≡ request.Description from most → next ≡ s → text ≡ description_text
      → new ≡ old ++ piece_text text from most → ReplyPut s asked next old new
  description_put text from most is same e put = over (request.Description from most) is
      (reply_put_by_all_runs s (request.Description from most) next old new (piece_text text from most)
      (λ run. (ap (λ (x : List ℕ). piece_text x from most) e, same)) put)

  pub threads_put : (from most : ℕ) → asked ≡ request.Threads from most → next ≡ s → new ≡ old ++ piece_text (thread_list_text s) from most
      → ReplyPut s asked next old new
  threads_put from most is same put = over (request.Threads from most) is
      (reply_put_by_all_runs s (request.Threads from most) next old new (piece_text (thread_list_text s) from most) (λ run. (refl, same)) put)

  module _ (has : HasRun s.desk.fitted) (said : next ≡ s) where
    pub reason_put : asked ≡ request.Reason → EachRun s.desk.fitted (λ run. new ≡ old ++ told_text run s) → ReplyPut s asked next old new
    reason_put is each = over request.Reason is
        (reply_put_by_each_run s request.Reason next old new (λ run. told_text run s) has (λ run text e. (e, said)) each)

    pub registers_put : asked ≡ request.Registers → EachRun s.desk.fitted (λ run. new ≡ old ++ registers_reply run s) → ReplyPut s asked next old new
    registers_put is each = over request.Registers is
        (reply_put_by_each_run s request.Registers next old new (λ run. registers_reply run s) has (λ run text e. (e, said)) each)

    pub register_put : (n : ℕ) → asked ≡ request.Register n → EachRun s.desk.fitted (λ run. new ≡ old ++ register_reply run s n)
        → ReplyPut s asked next old new
    register_put n is each = over (request.Register n) is
        (reply_put_by_each_run s (request.Register n) next old new (λ run. register_reply run s n) has (λ run text e. (e, said)) each)

    pub memory_put : (address size : ℕ) → asked ≡ request.Memory address size
        → EachRun s.desk.fitted (λ run. new ≡ old ++ memory_reply run s address size) → ReplyPut s asked next old new
    memory_put address size is each = over (request.Memory address size) is
        (reply_put_by_each_run s (request.Memory address size) next old new (λ run. memory_reply run s address size) has (λ run text e. (e, said)) each)

  pub move_put : (motion : Motion) (mover : Mover) → asked ≡ request.Move motion mover
      → ((text : List ℕ) × EachRun s.desk.fitted (λ run. RepliesToMove (moving_of s mover) run s motion text next) × (new ≡ old ++ text))
      → ReplyPut s asked next old new
  move_put motion mover is p = over (request.Move motion mover) is (p.0, p.1, p.2)

  pub restart_put : asked ≡ request.Restart
      → ((text : List ℕ) × EachRun s.desk.fitted (λ run. RepliesToRestart run s None text next) × (new ≡ old ++ text)) → ReplyPut s asked next old new
  restart_put is p = over request.Restart is (p.0, p.1, p.2)

  pub restart_at_put : (n : ℕ) → asked ≡ request.RestartAt n
      → ((text : List ℕ) × EachRun s.desk.fitted (λ run. RepliesToRestart run s (Some n) text next) × (new ≡ old ++ text)) → ReplyPut s asked next old new
  restart_at_put n is p = over (request.RestartAt n) is (p.0, p.1, p.2)

-- out of memory
pub lacks_if_nothing_put : (s : Stub) (asked r : Request) (next : Stub) (old new : List ℕ) → asked ≡ r → reply_may_lack s r ≡ true → (next ≡ s) ⊎ (next ≡ stub_spoken s)
    → new ≡ old → Lacks s asked next × (new ≡ old)
lacks_if_nothing_put s asked r next old new is may same kept = ((ap (reply_may_lack s) is ∙ may, same), kept)

-- what reads the run at the cut lacks memory only if that isn't in hand
pub lacks_if_reading_fails : {X E : Type 0} (result : Result X E) (s : Stub) (asked r : Request) (next : Stub) (old new : List ℕ) → asked ≡ r
    → reply_may_lack s r ≡ not s.desk.fresh → next ≡ s → OnErr result (s.desk.fresh ≡ false) → OnErr result (new ≡ old)
    → OnErr result (Lacks s asked next × (new ≡ old))
lacks_if_reading_fails (Ok x) s asked r next old new is may same stale kept = tt
lacks_if_reading_fails (Err e) s asked r next old new is may same stale kept =
    lacks_if_nothing_put s asked r next old new is (may ∙ ap not stale) (inl same) kept

-- ---- what was put after a request that changes nothing

pub reply_put_of_equal_stub : (s mid : Stub) (asked : Request) (next : Stub) (old new : List ℕ) → mid ≡ s → ReplyPut mid asked next old new → ReplyPut s asked next old new
reply_put_of_equal_stub s mid asked next old new same p = subst (λ (x : Stub). ReplyPut x asked next old new) same p

pub lacks_of_equal_stub : (s mid : Stub) (asked : Request) (next : Stub) (old new : List ℕ) → mid ≡ s → Lacks mid asked next × (new ≡ old)
    → Lacks s asked next × (new ≡ old)
lacks_of_equal_stub s mid asked next old new same p = subst (λ (x : Stub). Lacks x asked next × (new ≡ old)) same p

-- ---- how long the texts are

pub length-supported_text : length supported_text ≡ 161
length-supported_text = refl

pub length-description_text : length description_text ≡ 1939
length-description_text = refl
