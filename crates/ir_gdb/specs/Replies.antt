-- The replies to requests.
use Rattle.std.specs.Prelude.{◌≡◌, ◌⊎◌, ℕ, Bool, true, false, not, List, [], Option, Some, None}
use Rattle.ir_runs.specs.Run.{Step}
use Rattle.ir_cut.specs.Positions.{EachRun}
use Rattle.ir_packet.specs.Replies.{reply_text, piece_text}
use Rattle.ir_packet.specs.declared.reply.Reply.{Reply}
use Rattle.ir_packet.specs.declared.reply.Reply.TheVariants as reply
use Rattle.ir_packet.specs.declared.request.Motion.{Motion}
use Rattle.ir_packet.specs.declared.request.Request.{Request}
use Rattle.ir_packet.specs.declared.request.Request.TheVariants as request
use Rattle.ir_gdb.specs.declared.point.Breakpoint.{Breakpoint}
use Rattle.ir_gdb.specs.declared.point.Watched.{Watched}
use Rattle.ir_gdb.specs.declared.stopped.Moving.{Moving}
use Rattle.ir_gdb.specs.Guards.{guarded}
use Rattle.ir_gdb.specs.Stub.{Stub, stub_spoken}
use Rattle.ir_gdb.specs.Fixed.{fixed_reply}
use Rattle.ir_gdb.specs.Reads.{thread_of_id, reply_to, with_current, general_reply, after_general, chosen_reply, after_chosen, registers_reply, register_reply, memory_reply}
use Rattle.ir_gdb.specs.Setting.{break_setting, watch_setting, setting_reply, with_break, with_watch, clear_break_reply, clear_watch_reply, without_break, without_watch}
use Rattle.ir_gdb.specs.Texts.{supported_text, description_text, thread_list_text}
use Rattle.ir_gdb.specs.Moves.{told_text, moving_of, Moves}
use Rattle.ir_gdb.specs.Restarts.{with_extension, end_reply, RepliesToRestart}

-- this is replied, and the stub is then so
abbrev pub StubAfter : List ℕ → Stub → List ℕ → Stub → Type 0
StubAfter reply after text next = (text ≡ reply) × (next ≡ after)

-- a reply that is always the same
abbrev pub Says : Reply → Stub → List ℕ → Stub → Type 0
Says r after text next = StubAfter (reply_text r) after text next

abbrev pub breakpoint : ℕ → Bool → Breakpoint
breakpoint address hardware = record { address = address; hardware = hardware }

abbrev pub watched : ℕ → ℕ → Watched
watched address size = record { address = address; size = size }

-- a move, by the thread that makes it, if there is one: the stop that ends it
abbrev pub RepliesToMove : Option Moving → List Step → Stub → Motion → List ℕ → Stub → Type 0
RepliesToMove None run s m text next = Says reply.NotPermitted s text next
RepliesToMove (Some who) run s m text next = (after : Stub) × Moves run s who m after × StubAfter (told_text run after) after text next

-- the reply to a request that neither reads the run nor moves it, if it is such a one
abbrev pub plain_reply : Stub → Request → Option Reply
plain_reply s (request.General who) = Some (general_reply s who)
plain_reply s (request.Choose who) = Some (chosen_reply s who)
plain_reply s (request.Alive id) = Some (reply_to (thread_of_id s.desk.fitted id))
plain_reply s (request.SetBreak address hardware) = Some (setting_reply (break_setting s (breakpoint address hardware)))
plain_reply s (request.ClearBreak address hardware) = Some (clear_break_reply s (breakpoint address hardware))
plain_reply s (request.SetWatch address size) = Some (setting_reply (watch_setting s (watched address size)))
plain_reply s (request.ClearWatch address size) = Some (clear_watch_reply s (watched address size))
plain_reply s request.Extended = Some reply.Done
plain_reply s request.EndProcess = Some (end_reply s)
plain_reply s asked = fixed_reply asked

-- the stub behind it
abbrev pub after_plain : Stub → Request → Stub
after_plain s (request.General who) = after_general s who
after_plain s (request.Choose who) = after_chosen s who
after_plain s (request.Alive id) = with_current s (thread_of_id s.desk.fitted id)
after_plain s (request.SetBreak address hardware) = with_break s (guarded (breakpoint address hardware) [])
after_plain s (request.ClearBreak address hardware) = without_break s (breakpoint address hardware)
after_plain s (request.SetWatch address size) = with_watch s (watched address size)
after_plain s (request.ClearWatch address size) = without_watch s (watched address size)
after_plain s request.Extended = with_extension s
after_plain s asked = s

abbrev pub SaysPlain : Option Reply → Stub → List ℕ → Stub → Type 0
SaysPlain None after text next = ⊥
SaysPlain (Some r) after text next = Says r after text next

-- the reply to a request where there is memory
abbrev pub RepliesIfMemory : List Step → Stub → Request → List ℕ → Stub → Type 0
RepliesIfMemory run s request.Supported text next = StubAfter supported_text s text next
RepliesIfMemory run s (request.Description from most) text next = StubAfter (piece_text description_text from most) s text next
RepliesIfMemory run s (request.Threads from most) text next = StubAfter (piece_text (thread_list_text s) from most) s text next
RepliesIfMemory run s request.Reason text next = StubAfter (told_text run s) s text next
RepliesIfMemory run s request.Registers text next = StubAfter (registers_reply run s) s text next
RepliesIfMemory run s (request.Register n) text next = StubAfter (register_reply run s n) s text next
RepliesIfMemory run s (request.Memory address size) text next = StubAfter (memory_reply run s address size) s text next
RepliesIfMemory run s (request.Move m who) text next = RepliesToMove (moving_of s who) run s m text next
RepliesIfMemory run s request.Restart text next = RepliesToRestart run s None text next
RepliesIfMemory run s (request.RestartAt n) text next = RepliesToRestart run s (Some n) text next
RepliesIfMemory run s asked text next = SaysPlain (plain_reply s asked) (after_plain s asked) text next

-- whether a request alone says its reply: a session's line has many packets, `k` has none, and conditions are in the payload
abbrev pub has_reply : Request → Bool
has_reply request.Console = false
has_reply request.Kill = false
has_reply (request.SetBreakIf address hardware) = false
has_reply asked = true

-- whether the reply may want memory. What reads the run at the cut wants none while the small machine is fresh: before its first answer, and
-- after a move of it
abbrev pub reply_may_lack : Stub → Request → Bool
reply_may_lack s (request.Threads from most) = true
reply_may_lack s request.Reason = not s.desk.fresh
reply_may_lack s request.Registers = not s.desk.fresh
reply_may_lack s (request.Register n) = not s.desk.fresh
reply_may_lack s (request.Memory address size) = not s.desk.fresh
reply_may_lack s (request.Move m who) = true
reply_may_lack s request.Restart = true
reply_may_lack s (request.RestartAt n) = true
reply_may_lack s asked = false

-- out of memory: nothing has moved and nothing is set, at most registers and the like are to be read anew as after any command
abbrev pub Lacks : Stub → Request → Stub → Type 0
Lacks s asked next = (reply_may_lack s asked ≡ true) × ((next ≡ s) ⊎ (next ≡ stub_spoken s))

-- the reply to a request, whichever run with the trace there is
abbrev pub RepliesTo : Stub → Request → List ℕ → Stub → Type 0
RepliesTo s asked text next = EachRun s.desk.fitted (λ run. RepliesIfMemory run s asked text next)
    ⊎ (Lacks s asked next × (text ≡ reply_text reply.NoMemory))
