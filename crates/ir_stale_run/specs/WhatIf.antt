-- What a thread would have done, had it read other words.
use Rattle.std.specs.Prelude.{ℕ, zero, suc, ◌==◌, ◌&&◌, ◌||◌, Bool, true, false, not, List, [], ◌∷◌, slice_index, if◌then◌else◌, Option, Some, None}
use Rattle.ir_image.specs.Guest.{most_object_words}
use Rattle.ir_runs.specs.declared.env_kind.EnvKind.{EnvKind}
use Rattle.ir_runs.specs.declared.env_kind.EnvKind.TheVariants.{Clock, Random, Input}
use Rattle.ir_thread.specs.State.{ThreadState, end_number, end_code, ask_of, after_reply}
use Rattle.ir_thread.specs.Permitted.{step_of}
use Rattle.ir_thread.specs.declared.ask.Ask.{Ask}
use Rattle.ir_thread.specs.declared.ask.Ask.TheVariants as ask
use Rattle.ir_thread.specs.declared.ask.Reply.{Reply}
use Rattle.ir_thread.specs.declared.ask.Reply.TheVariants.{Go, Value}
use Rattle.ir_fit.specs.Placed.{same_access}
use Rattle.ir_event_walk.specs.declared.exchange.Exchange.{Exchange}
use Rattle.ir_stale_run.specs.declared.hold.Hold.{Hold}
use Rattle.ir_stale_run.specs.declared.hold.Hold.TheVariants.{Reading, Between, Writing}
use Rattle.ir_stale_run.specs.declared.reason.Reason.{Reason}
use Rattle.ir_stale_run.specs.declared.reason.Reason.TheVariants as reason
use Rattle.ir_stale_run.specs.declared.rest.Rest.{Rest}
use Rattle.ir_stale_run.specs.declared.found.Found.{Found}
use Rattle.ir_stale_run.specs.declared.found.Found.TheVariants.{Unknown, Known}

-- ---- where the thread is with the object

-- whether a call leaves object o
abbrev pub leaves : ℕ → Ask → Bool
leaves o (ask.Leave object access) = object == o
leaves o _ = false

-- whether a reply is 1
abbrev pub is_reply_one : Reply → Bool
is_reply_one Go = false
is_reply_one (Value value) = value == 1

-- whether a call enters object o, by an entry or a try that gets in
abbrev pub enters : ℕ → Ask → Reply → Bool
enters o (ask.Enter object access) reply = object == o
enters o (ask.Try object) reply = (object == o) && is_reply_one reply
enters o _ reply = false

-- where the thread is with object o after a call
abbrev pub hold_after : ℕ → Exchange → Hold → Hold
hold_after o c Reading = if leaves o c.asked then Between else Reading
hold_after o c Between = if enters o c.asked c.reply then Writing else Between
hold_after o c Writing = Writing

-- ---- what it is answered

-- a GET of object o in the read's hold is answered by the fresh words, and all else as it was
abbrev pub answer_by : Hold → ℕ → List ℕ → Ask → Reply → Reply
answer_by Reading o fresh (ask.Get object index) reply = if object == o then Value (slice_index fresh index) else reply
answer_by h o fresh asked reply = reply

-- so to a call
abbrev pub answer : Hold → ℕ → List ℕ → Exchange → Reply
answer h o fresh c = answer_by h o fresh c.asked c.reply

-- ---- where it differs

-- whether two calls of the environment are the same
abbrev pub same_kind : EnvKind → EnvKind → Bool
same_kind Clock Clock = true
same_kind Random Random = true
same_kind Input Input = true
same_kind _ _ = false

-- whether two calls are the same, up to the value that a PUT writes
abbrev pub same_call : Ask → Ask → Bool
same_call ask.Private ask.Private = true
same_call (ask.Env kind) (ask.Env was) = same_kind kind was
same_call (ask.Enter object access) (ask.Enter was before) = (object == was) && same_access access before
same_call (ask.Try object) (ask.Try was) = object == was
same_call (ask.Leave object access) (ask.Leave was before) = (object == was) && same_access access before
same_call (ask.Get object index) (ask.Get was place) = (object == was) && (index == place)
same_call (ask.Put object index value) (ask.Put was place old) = (object == was) && (index == place)
same_call ask.Print ask.Print = true
same_call (ask.End end) (ask.End was) = (end_number end == end_number was) && (end_code end == end_code was)
same_call ask.Done ask.Done = true
same_call _ _ = false

-- whether the thread is in the write's hold
abbrev pub is_writing_hold : Hold → Bool
is_writing_hold Writing = true
is_writing_hold _ = false

-- whether both are a PUT into object o, of another value
abbrev pub is_other_value : ℕ → Ask → Ask → Bool
is_other_value o (ask.Put object index value) (ask.Put was place old) = (object == o) && not (value == old)
is_other_value o _ _ = false

-- how the thread differs where it comes to another call than it did: by its way; and by a value if it puts another into object o in
-- the write's hold
abbrev pub difference : Hold → ℕ → Ask → Ask → Option Reason
difference h o asked was =
    if same_call asked was
    then (if is_writing_hold h && is_other_value o asked was then Some reason.Value else None)
    else Some reason.Way

-- a reason, or else the next
abbrev pub call_or_later : Option Reason → Option Reason → Option Reason
call_or_later (Some r) later = Some r
call_or_later None later = later

-- whether a step is private
abbrev pub is_private : Ask → Bool
is_private ask.Private = true
is_private _ = false

-- the thread x, which is so with object o, is answered as in these calls but for the fresh words of o: how it first differs from them, if
-- it does; by its way, too, if it hasn't come to the last of them after `fuel` steps
unfoldable pub what_if : List ℕ → ℕ → List ℕ → Hold → ℕ → ThreadState → List Exchange → Option Reason
what_if code o fresh h fuel x [] = None
what_if code o fresh h zero x (c ∷ cs) = Some reason.Way
what_if code o fresh h (suc fuel) x (c ∷ cs) =
    if is_private (ask_of code x)
    then what_if code o fresh h fuel (step_of code x) (c ∷ cs)
    else call_or_later (difference h o (ask_of code x) c.asked)
    (what_if code o fresh (hold_after o c h) fuel (after_reply code x (answer h o fresh c)) cs)

-- ---- what it got, and whether it put

-- whether a call gets this word of object o
abbrev pub is_get : ℕ → ℕ → Ask → Bool
is_get o i (ask.Get object index) = (object == o) && (index == i)
is_get o i _ = false

-- whether the thread is in the read's hold
abbrev pub is_reading : Hold → Bool
is_reading Reading = true
is_reading _ = false

-- whether the calls get this word of object o in the read's hold
unfoldable pub gets : ℕ → ℕ → Hold → List Exchange → Bool
gets o i h [] = false
gets o i h (c ∷ cs) = (is_reading h && is_get o i c.asked) || gets o i (hold_after o c h) cs

-- whether a call puts a word into object o
abbrev pub is_put_call : ℕ → Ask → Bool
is_put_call o (ask.Put object index value) = object == o
is_put_call o _ = false

-- whether the calls put a word into object o in the write's hold
unfoldable pub puts : ℕ → Hold → List Exchange → Bool
puts o h [] = false
puts o h (c ∷ cs) = (is_writing_hold h && is_put_call o c.asked) || puts o (hold_after o c h) cs

-- whether the calls get a word of object o in the read's hold that was this and is another
abbrev pub is_changed : ℕ → List ℕ → List ℕ → List Exchange → ℕ → Bool
is_changed o was now calls i = gets o i Reading calls && not (slice_index was i == slice_index now i)

-- a number that is found, or this one if it is one
abbrev pub found_or : Option ℕ → Bool → ℕ → Option ℕ
found_or (Some i) b n = Some i
found_or None true n = Some n
found_or None false n = None

-- the least number below n that is one
unfoldable pub least_below : (ℕ → Bool) → ℕ → Option ℕ
least_below is zero = None
least_below is (suc n) = found_or (least_below is n) (is n) n

-- the least word that was got in the read's hold and is another at the write
abbrev pub changed_word : ℕ → List ℕ → List ℕ → List Exchange → Option ℕ
changed_word o was now calls = least_below (is_changed o was now calls) most_object_words

-- ---- whether the write rests on the read

-- with a word that is another and a reason
abbrev pub rest_by : List ℕ → List ℕ → Option ℕ → Option Reason → Option Rest
rest_by was now None r = None
rest_by was now (Some i) None = None
rest_by was now (Some i) (Some r) = Some (record { word = i; was = slice_index was i; is = slice_index now i; reason = r })

-- how many steps more than the run a thread may take to come to the same call
abbrev pub more_steps : ℕ
more_steps = 65536

-- how the write of a thread into object o rests on its read, if it does: x is the thread behind its read entry, these are its calls from
-- there to its leave after the write entry, and the words are those of the object behind both entries; a hold with no PUT is no write
abbrev pub rest_of : List ℕ → ℕ → List ℕ → List ℕ → ℕ → ThreadState → List Exchange → Option Rest
rest_of code o was now fuel x calls =
    if puts o Reading calls
    then rest_by was now (changed_word o was now calls) (what_if code o now Reading fuel x calls)
    else None

-- what is found by a word that is another, with no copy of the thread
abbrev pub unknown_by : Option ℕ → Found
unknown_by None = Known None
unknown_by (Some i) = Unknown

-- what is found of the write: with a copy of the thread how it rests on its read, and with none that it rests on nothing, where the
-- calls and the words show it
abbrev pub found_of : List ℕ → ℕ → List ℕ → List ℕ → ℕ → Option ThreadState → List Exchange → Found
found_of code o was now fuel (Some x) calls = Known (rest_of code o was now fuel x calls)
found_of code o was now fuel None calls =
    if puts o Reading calls
    then unknown_by (changed_word o was now calls)
    else Known None

-- how a write rests on its read, as far as it is known
abbrev pub known : Found → Option Rest
known Unknown = None
known (Known rest) = rest
