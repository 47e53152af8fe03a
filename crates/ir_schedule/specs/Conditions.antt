-- What a hunt looks for in what a run came to.
use Rattle.std.specs.Prelude.{ℕ, ◌==◌, eqb, ◌&&◌, ◌||◌, nat_lt, Bool, true, false, List, [], ◌∷◌, map, not, if◌then◌else◌, Option, Some, None}
use Rattle.std.specs.List.{slice_index_or, starts_with, list_all, list_any}
use Rattle.ir_flat.specs.Flat.{Flat}
use Rattle.ir_image.specs.Guest.{Guest, object_count, object_words}
use Rattle.std.specs.Prelude.{length}
use Rattle.ir_thread.specs.State.{end_number}
use Rattle.ir_thread.specs.declared.end.End as end
use Rattle.ir_thread.specs.declared.end.End.TheVariants as ends
use Rattle.ir_schedule.specs.declared.condition.Condition as declared
use Rattle.ir_schedule.specs.declared.condition.Literal as declared_literal
use Rattle.ir_schedule.specs.declared.condition.Fact as fact
use Rattle.ir_schedule.specs.declared.condition.Fact.TheVariants as facts

-- a fact of what a run came to; a text as its bytes
pub data Fact : Type 0 where
  End : (thread number : ℕ) → Fact
  Code : (thread code : ℕ) → Fact
  Word : (object index value : ℕ) → Fact
  Printed : (thread : ℕ) → (text : List ℕ) → Fact
  Fault : Fact
  Bad : Fact
  Budget : Fact

-- a fact, or that it isn't so
pub record Literal : Type 0 where
  pub is_denied : Bool
  pub fact : Fact

-- literals, of which one has to hold
pub record Condition : Type 0 where
  pub alternatives : List Literal

-- the same of the code's
abbrev pub as_fact : fact.Fact → Fact
as_fact (facts.End thread number) = End thread number
as_fact (facts.Code thread code) = Code thread code
as_fact (facts.Word object index value) = Word object index value
as_fact (facts.Printed thread text) = Printed thread text.now
as_fact facts.Fault = Fault
as_fact facts.Bad = Bad
as_fact facts.Budget = Budget

abbrev pub as_literal : declared_literal.Literal → Literal
as_literal l = record { is_denied = l.is_denied; fact = as_fact l.fact }

abbrev pub as_condition : declared.Condition → Condition
as_condition c = record { alternatives = map as_literal c.alternatives.items }

-- what a run came to
pub record EndState : Type 0 where
  -- how each thread ended, if it has
  pub ends : List (Option end.End)
  -- what each thread printed
  pub outputs : List (List ℕ)
  -- the words of each object
  pub words : List (List ℕ)

-- what threads and objects came to
abbrev pub end_state : Flat → EndState
end_state f = record {
  ends = map (λ x. x.ended) f.threads;
  outputs = map (λ x. x.output) f.threads;
  words =
      map (λ c. c.words) f.objects;
}

-- whether a thread has ended so
abbrev pub ends_by : ℕ → Option end.End → Bool
ends_by number None = false
ends_by number (Some e) = end_number e == number

-- whether a thread exits with this code; one that ends by a fault has none
abbrev pub exits_with : ℕ → Option end.End → Bool
exits_with code (Some (ends.Exit c)) = c == code
exits_with code ended = false

-- whether a thread has ended, and not by an exit
abbrev pub is_fault : Option end.End → Bool
is_fault None = false
is_fault (Some e) = not (end_number e == 1)

-- whether a thread has ended, and not by an exit with code 0
abbrev pub is_bad : Option end.End → Bool
is_bad None = false
is_bad (Some e) = not (exits_with 0 (Some e))

-- whether a thread has spent its budget
abbrev pub is_spent : Option end.End → Bool
is_spent ended = ends_by (end_number ends.BudgetSpent) ended

-- whether some element passes the test
abbrev pub some_is : {A : Type 0} → (A → Bool) → List A → Bool
some_is test [] = false
some_is test (x ∷ xs) = test x || some_is test xs

-- whether the text occurs in the bytes
abbrev pub occurs_in : List ℕ → List ℕ → Bool
occurs_in text [] = starts_with eqb [] text
occurs_in text (x ∷ bytes) = starts_with eqb (x ∷ bytes) text || occurs_in text bytes

-- whether a fact is so of what a run came to; nothing is so of a thread, an object or a word that there isn't but that a word is 0, and that an
-- empty text was printed
abbrev pub is_so : Fact → EndState → Bool
is_so (End thread number) o = ends_by number (slice_index_or o.ends thread None)
is_so (Code thread code) o = exits_with code (slice_index_or o.ends thread None)
is_so (Word object index value) o = slice_index_or (slice_index_or o.words object []) index 0 == value
is_so (Printed thread text) o = occurs_in text (slice_index_or o.outputs thread [])
is_so Fault o = some_is is_fault o.ends
is_so Bad o = some_is is_bad o.ends
is_so Budget o = some_is is_spent o.ends

-- whether the literal holds of it: the fact is so, or with `!` it isn't
abbrev pub holds : Literal → EndState → Bool
holds l o = if l.is_denied then not (is_so l.fact o) else is_so l.fact o

-- whether the condition holds of it: some literal does
abbrev pub fulfils : Condition → EndState → Bool
fulfils c o = list_any (λ l. holds l o) c.alternatives

-- whether the guest has the thread, the object and the word that the fact is about
abbrev pub is_about : Fact → Guest → Bool
is_about (End thread number) g = nat_lt thread (length g.entries)
is_about (Code thread code) g = nat_lt thread (length g.entries)
is_about (Word object index value) g = nat_lt object (object_count g) && nat_lt index (object_words g)
is_about (Printed thread text) g = nat_lt thread (length g.entries)
is_about Fault g = true
is_about Bad g = true
is_about Budget g = true

-- whether it has what each literal is about
abbrev pub is_about_each : Condition → Guest → Bool
is_about_each c g = list_all (λ l. is_about l.fact g) c.alternatives
