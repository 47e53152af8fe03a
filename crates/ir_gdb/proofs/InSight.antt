-- What a thread in hand has is what it has at the cut.
use Rattle.std.proofs.Common.{◌≡◌, ◌<◌, ◌-◌, ◌/◌, ◌%◌, ◌∙◌, ℕ, Bool, true, false, List, length, slice_index, slice_get, Option, Some, None, option_map, refl, ap, subst, arith}
use Rattle.std.specs.Prelude.{nat_lt, if◌then◌else◌}
use Rattle.std.proofs.lemmas.Bool.Decides.{nat_tests}
use Rattle.std.proofs.lemmas.Option.{slice_get-get_or}
use Rattle.std.proofs.Math.Path.{fun_ext}
use Rattle.ir_image.specs.Guest.{Guest, object_count, object_words}
use Rattle.ir_mach.specs.Core.{Core}
use Rattle.ir_mach.specs.Execution.{byte_at}
use Rattle.ir_object.specs.Cell.{Cell}
use Rattle.ir_object.specs.Empty.{empty}
use Rattle.ir_runs.specs.Machine.{Object}
use Rattle.ir_runs.specs.Run.{Step, Cut, object_at}
use Rattle.ir_fit.specs.Fit.{FittedTrace, IsRunOf}
use Rattle.ir_cut.specs.Positions.{EachRun, machine_of, start_of, cut_of, thread_at}
use Rattle.ir_weave.specs.Standing.{Standing, StandsAtCut}
use Rattle.ir_agent.specs.Evaluation.{Seen, scene_of}
use Rattle.ir_hits.specs.Hits.{objects_start, object_size}
use Rattle.ir_debug.specs.Machine.{Desk, spoken}
use Rattle.ir_gdb.specs.Guards.{Guarded}
use Rattle.ir_gdb.specs.Serving.{Serving}
use Rattle.ir_gdb.specs.Stub.{Stub}
use Rattle.ir_gdb.specs.Reads.{register_words, word_byte, object_byte, byte_at_cut, byte_seen}
use Rattle.ir_gdb.specs.Sight.{Sight, sight_of, object_byte_seen, byte_in_sight, seen_in}
use Rattle.ir_gdb.specs.Conditions.{seen_at, first_met_place, first_met_at}

module _ (f : FittedTrace) (p : Cut) (state : Standing) (run : List Step) (stands : StandsAtCut f p state) (whole : IsRunOf f.guest f.recorded run) where
  object_in_hand : (core : Core) (offset : ℕ) → object_byte_seen (sight_of f.guest core state.objects) offset ≡ object_byte run f p offset
  object_in_hand core offset = by (nat_lt o (object_count f.guest)) refl
    where
      o : ℕ
      o = offset / object_size

      byte_of_words : (ℕ → ℕ) → ℕ
      byte_of_words words = word_byte (object_words f.guest) words (offset % object_size)

      there : Option ℕ
      there = option_map (λ (cell : Cell). byte_of_words (slice_index cell.words)) (slice_get state.objects o)

      at_cut : Option ℕ
      at_cut = Some (byte_of_words (object_at (machine_of f) (start_of f) run p o).words)

      by : (b : Bool) → nat_lt o (object_count f.guest) ≡ b → (if b then there else None) ≡ (if b then at_cut else None)
      by false test = refl
      by true test =
          let below : o < object_count f.guest = grind (arith, nat_tests, test) in
          let count = stands.at.objects in
          let inside : o < length state.objects = omega (arith, below, count) in
          ap (option_map (λ (cell : Cell). byte_of_words (slice_index cell.words))) (slice_get-get_or state.objects o empty inside)
          ∙ ap (λ (b : Object). Some (byte_of_words b.words)) ((stands.at.each run whole).objects o)

  byte_in_hand : (t : ℕ) (core : Core) (address : ℕ) → core ≡ (thread_at f run t (p t)).core
      → byte_in_sight (sight_of f.guest core state.objects) address ≡ byte_at_cut run f p t address
  byte_in_hand t core address same = by (nat_lt address objects_start)
    where
      by : (b : Bool) → (if b then byte_at f.guest.code core.memory address else object_byte_seen (sight_of f.guest core state.objects) (address - objects_start))
          ≡ (if b then byte_at f.guest.code (thread_at f run t (p t)).core.memory address else object_byte run f p (address - objects_start))
      by true = ap (λ (c : Core). byte_at f.guest.code c.memory address) same
      by false = object_in_hand core (address - objects_start)

  seen_in_hand : (t : ℕ) (core : Core) → core ≡ (thread_at f run t (p t)).core → seen_in (sight_of f.guest core state.objects) ≡ seen_at run f p t
  seen_in_hand t core same =
      ap (λ (c : Core). scene_of (slice_get (register_words c)) (byte_in_sight (sight_of f.guest core state.objects))) same
      ∙ ap (scene_of (slice_get (register_words (thread_at f run t (p t)).core))) (fun_ext (λ a. byte_in_hand t core a same))

pub sight_sees_what_is_at_cut : (f : FittedTrace) (p : Cut) (state : Standing) (t : ℕ) (core : Core) → StandsAtCut f p state
    → EachRun f (λ run. core ≡ (thread_at f run t (p t)).core) → EachRun f (λ run. seen_in (sight_of f.guest core state.objects) ≡ seen_at run f p t)
sight_sees_what_is_at_cut f p state t core stands same run whole = seen_in_hand f p state run stands whole t core (same run whole)

-- the sight of a thread in hand, by its parts
pub sight_by_parts : (s : Serving) (cut : List ℕ) (t : ℕ) (guest : Guest) (core : Core) (objects : List Cell) (sight : Sight)
    → StandsAtCut s.stub.desk.fitted (cut_of cut) s.state → sight ≡ sight_of guest core objects → guest ≡ s.stub.desk.fitted.guest → objects ≡ s.state.objects
    → EachRun s.stub.desk.fitted (λ run. core ≡ (thread_at s.stub.desk.fitted run t (cut_of cut t)).core)
    → EachRun s.stub.desk.fitted (λ run. seen_in sight ≡ seen_at run s.stub.desk.fitted (cut_of cut) t)
sight_by_parts s cut t guest core objects sight stands is one all same run whole =
    ap seen_in (is ∙ ap (λ (g : Guest). sight_of g core objects) one ∙ ap (λ (xs : List Cell). sight_of s.stub.desk.fitted.guest core xs) all)
    ∙ sight_sees_what_is_at_cut s.stub.desk.fitted (cut_of cut) s.state t core stands same run whole

-- a byte of it is the general thread's
pub byte_in_sight_is_seen : (s : Stub) (sight : Sight) (address : ℕ) (byte : Option ℕ)
    → EachRun s.desk.fitted (λ run. seen_in sight ≡ seen_at run s.desk.fitted (cut_of s.desk.at) s.general) → byte ≡ byte_in_sight sight address
    → EachRun s.desk.fitted (λ run. byte ≡ byte_seen run s address)
byte_in_sight_is_seen s sight address byte seen is run whole = is ∙ ap (λ (x : Seen). x.byte address) (seen run whole)

-- the first breakpoint of which a condition is met
pub met_place_in_sight : (s : Stub) (cut : List ℕ) (t pc : ℕ) (sight : Sight) (breaks : List Guarded) (place : Option ℕ) → breaks ≡ s.breaks
    → EachRun s.desk.fitted (λ run. seen_in sight ≡ seen_at run s.desk.fitted (cut_of cut) t)
    → EachRun s.desk.fitted (λ run. pc ≡ (thread_at s.desk.fitted run t (cut_of cut t)).core.pc) → place ≡ first_met_place (seen_in sight) pc breaks
    → EachRun s.desk.fitted (λ run. place ≡ first_met_at run s cut t)
met_place_in_sight s cut t pc sight breaks place are seen at is run whole =
    is ∙ ap (λ (bs : List Guarded). first_met_place (seen_in sight) pc bs) are
    ∙ ap (λ (x : Seen). first_met_place x pc s.breaks) (seen run whole)
    ∙ ap (λ (n : ℕ). first_met_place (seen_at run s.desk.fitted (cut_of cut) t) n s.breaks) (at run whole)

-- after a visit
pub met_place_of_visit : (v s : Serving) (d : Desk) (cut : List ℕ) (t : ℕ) (place : Option ℕ) → v ≡ s → d ≡ spoken v.stub.desk
    → EachRun d.fitted (λ run. place ≡ first_met_at run (record v.stub { desk = d }) cut t)
    → EachRun s.stub.desk.fitted (λ run. place ≡ first_met_at run s.stub cut t)
met_place_of_visit v s d cut t place same is found =
    subst (λ (x : Serving). EachRun x.stub.desk.fitted (λ run. place ≡ first_met_at run x.stub cut t)) same
    (subst (λ (x : Desk). EachRun x.fitted (λ run. place ≡ first_met_at run (record v.stub { desk = x }) cut t)) is found)
