-- The lists of threads and objects after a step.
use Rattle.std.specs.Prelude.{◌≡◌, ℕ, zero, suc, true, slice_index, slice_set, ⊤}
use Rattle.ir_thread.specs.State.{after_ask, is_result}
use Rattle.ir_thread.specs.State as thread
use Rattle.ir_thread.specs.declared.ask.Ask.{Ask}
use Rattle.ir_thread.specs.declared.ask.Ask.TheVariants.{Env, Enter, Try, Leave, Get, Put, Done}
use Rattle.ir_thread.specs.declared.ask.Reply.{Reply}
use Rattle.ir_thread.specs.declared.ask.Reply.TheVariants.{Go, Value}
use Rattle.ir_runs.specs.declared.access.Access.TheVariants.{Writing}
use Rattle.ir_object.specs.declared.fields.Fields.{Fields}
use Rattle.ir_object.specs.Cell.{Cell}
use Rattle.ir_object.specs.Standing.{Admitted}
use Rattle.ir_object.specs.Word.{entered_word, left_by}
use Rattle.ir_flat.specs.Flat.{Flat, thread_of, cell_of}

-- another thread t
abbrev pub with_thread : Flat → ℕ → thread.ThreadState → Flat
with_thread f t x = record f { threads = slice_set f.threads t x }

-- another object o
abbrev pub with_object : Flat → ℕ → Cell → Flat
with_object f o c = record f { objects = slice_set f.objects o c }

-- thread t has taken the step that it asked
abbrev pub answered : Flat → ℕ → Ask → Reply → Flat
answered f t q r = with_thread f t (after_ask f.code (thread_of f t) q r)

-- after a try of thread t with this result: with 1 it is inside for writing
abbrev pub next_try : Flat → ℕ → ℕ → ℕ → Flat
next_try f t o zero = answered f t (Try o) (Value 0)
next_try f t o (suc zero) =
    with_object (answered f t (Try o) (Value 1)) o (record (cell_of f o) { fields = entered_word Writing (cell_of f o).fields })
next_try f t o (suc (suc r)) = answered f t (Try o) (Value (suc (suc r)))

-- after the step of thread t that asks so, with this result
abbrev pub next : Flat → ℕ → ℕ → Ask → Flat
next f t r (Env kind) = answered f t (Env kind) (Value r)
next f t r (Enter o a) = with_object (answered f t (Enter o a) Go) o (record (cell_of f o) { fields = entered_word a (cell_of f o).fields })
next f t r (Try o) = next_try f t o r
next f t r (Leave o a) = with_object (answered f t (Leave o a) Go) o (record (cell_of f o) { fields = left_by a (cell_of f o).fields })
next f t r (Get o i) = answered f t (Get o i) (Value (slice_index (cell_of f o).words i))
next f t r (Put o i w) = with_object (answered f t (Put o i w) Go) o (record (cell_of f o) { words = slice_set (cell_of f o).words i w })
next f t r q = answered f t q Go

-- whether a try may have this result: 1 if no thread is inside, 0 always
abbrev pub MayTry : Fields → ℕ → Type 0
MayTry c zero = ⊤
MayTry c (suc zero) = Admitted Writing c
MayTry c (suc (suc r)) = ⊥

-- whether there is the step that is asked, with this result
abbrev pub MayStep : Flat → ℕ → Ask → Type 0
MayStep f r (Env kind) = is_result kind r ≡ true
MayStep f r (Enter o a) = Admitted a (cell_of f o).fields
MayStep f r (Try o) = MayTry (cell_of f o).fields r
MayStep f r Done = ⊥
MayStep f r q = ⊤
