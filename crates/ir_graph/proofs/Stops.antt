-- Why a search stops.
use Rattle.std.proofs.Common.{◌≡◌, ℕ, List, sym, subst, length}
use Rattle.ir_search.specs.declared.stop.Stop.{Stop}
use Rattle.ir_search.specs.declared.stop.Stop.TheVariants.{Nodes, Private, Log, World, Memory, Time, Outcomes}
use Rattle.ir_thread.specs.State.{ask_of}
use Rattle.ir_flat.specs.Flat.{thread_of}
use Rattle.ir_state_store.specs.Nodes.{SourcedFlat, source_of}
use Rattle.ir_graph.specs.Setup.{Setup, setup_start}
use Rattle.ir_graph.specs.Plain.{GoesPlain, Rests}
use Rattle.ir_graph.specs.Reached.{IsReached}
use Rattle.ir_graph.specs.declared.bounds.Bounds.{Bounds}
use Rattle.ir_graph.specs.Stops.{IsNotFollowed, StopsFollowing, IsStop, MayStop}
use Rattle.ir_graph.proofs.Plain.{TakesStep, goes_plain_reflexive, goes_plain_transitive}
use Rattle.ir_graph.proofs.Reached.{plain_start_is_reached, reached_after_step}

pub stops_at_refused_ask : (s u : SourcedFlat) (t limit : ℕ) (stop : Stop)
    → IsNotFollowed t (ask_of u.flat.code (thread_of u.flat t)) (source_of u t) stop → StopsFollowing s u t limit stop
stops_at_refused_ask s u t limit Nodes h = absurd h
stops_at_refused_ask s u t limit (Private v) h = absurd h
stops_at_refused_ask s u t limit (Log v) h = h
stops_at_refused_ask s u t limit (World v) h = h
stops_at_refused_ask s u t limit Memory h = absurd h
stops_at_refused_ask s u t limit Time h = absurd h
stops_at_refused_ask s u t limit Outcomes h = absurd h

-- a stop of a thread is one of a search
pub may_stop_by_thread_stop : (x : Setup) (flats : List SourcedFlat) (bounds : Bounds) (stop : Stop) → IsStop x bounds.private stop
    → MayStop x flats bounds stop
may_stop_by_thread_stop x flats bounds Nodes h = absurd h.stops
may_stop_by_thread_stop x flats bounds (Private u) h = h
may_stop_by_thread_stop x flats bounds (Log u) h = h
may_stop_by_thread_stop x flats bounds (World u) h = h
may_stop_by_thread_stop x flats bounds Memory h = absurd h.stops
may_stop_by_thread_stop x flats bounds Time h = absurd h.stops
may_stop_by_thread_stop x flats bounds Outcomes h = absurd h.stops

pub may_stop_by_memory : (x : Setup) (flats : List SourcedFlat) (bounds : Bounds) (stop : Stop) → stop ≡ Memory → MayStop x flats bounds stop
may_stop_by_memory x flats bounds stop is = subst (MayStop x flats bounds) (sym is) tt

pub may_stop_by_nodes : (x : Setup) (flats : List SourcedFlat) (bounds : Bounds) (stop : Stop) → stop ≡ Nodes → length flats ≡ bounds.nodes
    → MayStop x flats bounds stop
may_stop_by_nodes x flats bounds stop is full = subst (MayStop x flats bounds) (sym is) full

-- a thread that goes on from the start, after others
pub stop_after_plain_steps : (x : Setup) (limit t : ℕ) (stop : Stop) (s u w : SourcedFlat) → s ≡ setup_start x → GoesPlain s u → GoesPlain u w
    → StopsFollowing u w t limit stop → IsStop x limit stop
stop_after_plain_steps x limit t stop s u w is goes more stops =
    let first : GoesPlain (setup_start x) u = subst (λ z. GoesPlain z u) is goes in record {
      from = u;
      at = w;
      thread = t;
      before = plain_start_is_reached x u first;
      reached = plain_start_is_reached x w (goes_plain_transitive (setup_start x) u w first more);
      stops = stops;
    }

-- a thread that goes on after its entry
pub stop_after_entry : (x : Setup) (limit : ℕ) (stop : Stop) (s u w : SourcedFlat) (t r : ℕ) → IsReached x s
    → Rests (ask_of s.flat.code (thread_of s.flat t)) → TakesStep s u t r → GoesPlain u w → StopsFollowing u w t limit stop → IsStop x limit stop
stop_after_entry x limit stop s u w t r reached rests step goes stops = record {
  from = u;
  at = w;
  thread = t;
  before = reached_after_step x s u u t r reached rests step (goes_plain_reflexive u);
  reached = reached_after_step x s u w t r reached rests step goes;
  stops = stops;
}
