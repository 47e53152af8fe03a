-- A thread as bytes.
use Rattle.std.specs.Prelude.{◌==◌, ◌&&◌, ℕ, suc, Bool, List, [], ◌∷◌, ◌++◌, length, map, flat_map, if◌then◌else◌, Option, Some, None, is_some, is_none}
use Rattle.std.specs.Int.{w16, w32, to_le_bytes}
use Rattle.ir_liveness.specs.Table.{kept_registers}
use Rattle.ir_runs.specs.declared.access.Access.{Access}
use Rattle.ir_runs.specs.declared.access.Access.TheVariants.{Reading, Writing}
use Rattle.ir_thread.specs.State.{end_number, end_code, ThreadState, highest}
use Rattle.ir_thread.specs.declared.end.End.{End}
use Rattle.ir_thread_bytes.specs.Basis.{Basis}

-- the four bytes of a word, the lowest first
abbrev pub word : ℕ → List ℕ
word value = to_le_bytes w32 value

-- how an object is held: 0 not at all, 1 for reading, 2 for writing
abbrev pub held_byte : Option Access → ℕ
held_byte None = 0
held_byte (Some Reading) = 1
held_byte (Some Writing) = 2

-- the number of an end and its code; zeros where there is no end
abbrev pub end_bytes : Option End → List ℕ
end_bytes None = 0 ∷ word 0
end_bytes (Some e) = end_number e ∷ word (end_code e)

-- the two bytes of a place, the lowest first, and its new byte, if it isn't the old one
abbrev pub change : ℕ → ℕ → ℕ → List ℕ
change place old new = if new == old then [] else to_le_bytes w16 place ++ new ∷ []

-- the same of each byte from a place on
abbrev pub page_changes : ℕ → List ℕ → List ℕ → List ℕ
page_changes place [] memory = []
page_changes place (old ∷ start) [] = []
page_changes place (old ∷ start) (new ∷ memory) = change place old new ++ page_changes (suc place) start memory

-- whether a thread has ended and holds nothing
abbrev pub is_over : ThreadState → Bool
is_over s = is_some s.ended && is_none (highest s.held)

-- pc, x0 to x31, of which those that aren't live are 0, what is held of each object, and a mark that says where the thread's source is
abbrev pub fixed_bytes : Basis → ThreadState → List ℕ → List ℕ
fixed_bytes basis s mark = word s.core.pc ++ flat_map word (kept_registers basis.live s.core) ++ map held_byte s.held ++ mark

-- these, the output after its length, and what private memory has that it hadn't at the start
abbrev pub going_bytes : Basis → ThreadState → List ℕ → List ℕ
going_bytes basis s mark = fixed_bytes basis s mark ++ word (length s.output) ++ s.output ++ page_changes 0 basis.memory s.core.memory

-- The bytes of a thread. Its end comes first. Of a thread that is over there is its output beside that, of any other all that it may still
-- see of itself.
abbrev pub frozen : Basis → ThreadState → List ℕ → List ℕ
frozen basis s mark = end_bytes s.ended ++ (if is_over s then 1 ∷ s.output else 0 ∷ going_bytes basis s mark)
