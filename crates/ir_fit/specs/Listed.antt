-- What lists of steps hold, by object, access and version.
use Rattle.std.specs.Prelude.{◌≡◌, ℕ, eqb, List, [], ◌++◌, map}
use Rattle.std.specs.List.{Contains, slice_index_or}
use Rattle.std.specs.List.Sorted.{IsPermutation, IsNonDecreasingBy}
use Rattle.ir_runs.specs.Machine.{Label, EnteredAt, LeftAt}
use Rattle.ir_runs.specs.declared.access.Access.{Access}
use Rattle.ir_flat.specs.Flat.{start_flat, tables, machine}
use Rattle.ir_runs.specs.Run.{join_if, Emits}
use Rattle.ir_fit.specs.Fit.{FittedTrace, HasRun}
use Rattle.ir_fit.specs.Placed.{Listing, Visit, picked, listed_events}
use Rattle.ir_fit.specs.declared.place.Place.{Place}
use Rattle.ir_fit.specs.declared.leave.Leave.{Leave}

-- step k of thread t emits this in the run that is kept
abbrev pub EmitsIn : (f : FittedTrace) → HasRun f → ℕ → ℕ → Label → Type 0
EmitsIn f h t k emitted = Emits (machine (start_flat f.guest f.recorded.budget f.recorded.profile)) (tables (start_flat f.guest f.recorded.budget f.recorded.profile)) h.run t k emitted

-- each of these is a step by which object o was left after such access at version v
abbrev pub OnlyLeaves : FittedTrace → ℕ → Access → ℕ → List Place → Type 0
OnlyLeaves f o a v ps = (h : HasRun f) (p : Place) → Contains ps p → (p.version ≡ v) × EmitsIn f h p.thread p.position (LeftAt o a v)

-- each such step is one of these
abbrev pub AllLeaves : FittedTrace → ℕ → Access → ℕ → List Place → Type 0
AllLeaves f o a v ps = (h : HasRun f) (t k : ℕ) → EmitsIn f h t k (LeftAt o a v)
    → Contains ps (record { position = k; version = v; thread = t })

-- each of these is a step by which object o was entered for such access at version v
abbrev pub OnlyEntries : FittedTrace → ℕ → Access → ℕ → List Place → Type 0
OnlyEntries f o a v ps = (h : HasRun f) (p : Place) → Contains ps p → (p.version ≡ v)
    × ((l : ℕ) × EmitsIn f h p.thread p.position (EnteredAt o a v l))

-- each such step is one of these
abbrev pub AllEntries : FittedTrace → ℕ → Access → ℕ → List Place → Type 0
AllEntries f o a v ps = (h : HasRun f) (t k l : ℕ) → EmitsIn f h t k (EnteredAt o a v l)
    → Contains ps (record { position = k; version = v; thread = t })

-- each object has the same steps
abbrev pub AreSame : List (List Place) → List (List Place) → Type 0
AreSame old new = (o : ℕ) → slice_index_or new o [] ≡ slice_index_or old o []

-- object o has this step after those that it had, and the others have the same
abbrev pub IsOneMore : List (List Place) → List (List Place) → ℕ → Place → Type 0
IsOneMore old new o p = (q : ℕ) → slice_index_or new q [] ≡ slice_index_or old q [] ++ join_if (eqb o q) p []

-- the list for each object has the same steps, in the order of their versions
abbrev pub AreSorted : List (List Place) → List (List Place) → Type 0
AreSorted old new = (o : ℕ) → IsPermutation (slice_index_or old o []) (slice_index_or new o [])
    × IsNonDecreasingBy (λ (p : Place). p.version) (slice_index_or new o [])

-- so of both accesses
abbrev pub IsInOrder : Listing → Listing → Type 0
IsInOrder old new = AreSorted old.reading new.reading × AreSorted old.writing new.writing

-- no step of any object
abbrev pub none_listed : Listing
none_listed = record { reading = []; writing = [] }

-- these visits are listed after those that were
abbrev pub AddsAll : Listing → Listing → List Visit → Type 0
AddsAll old new vs = (o : ℕ) (a : Access) → listed_events new o a ≡ listed_events old o a ++ picked o a vs

-- the leaves of thread t
abbrev pub left_by_event : ℕ → List Leave → List Visit
left_by_event t ls = map (λ l. (l.object, l.access, record { position = l.position; version = l.version; thread = t })) ls
