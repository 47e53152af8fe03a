-- The requests that the code's values are.
use Rattle.std.specs.Prelude.{Option, Result, option_map}
use Rattle.std.specs.String.{string_bytes}
use Rattle.clap.specs.declared.parser.matches.ArgMatches.{ArgMatches}
use Rattle.ir_arguments.specs.Requests.{Exploration, Options, Parts, Request, Session, Assemble, Convert, Record, HuntFor, Shrink, Debug, Gdb}
use Rattle.ir_arguments.specs.Requests.{ShowCode, ShowTrace, ShowEvents, ShowStale, ShowVersions, ShowReasons, ShowDifference, ShowPicture, Explore}
use Rattle.ir_arguments.specs.Requests.{SearchFor, ShowClasses, Compare, GuestComparison, RecordOutside, Help, Nothing, NoMemory}
use Rattle.ir_arguments.specs.declared.recording.RecordingOptions.{RecordingOptions}
use Rattle.ir_arguments.specs.declared.argument_err.ArgumentErr.{ArgumentErr}
use Rattle.ir_arguments.specs.declared.asked.Asked.{Asked}
use Rattle.ir_arguments.specs.declared.asked.Asked.TheVariants as asked
use Rattle.ir_arguments.specs.declared.asked.Make.{Make}
use Rattle.ir_arguments.specs.declared.asked.Make.TheVariants as make
use Rattle.ir_arguments.specs.declared.asked.Print.{Print}
use Rattle.ir_arguments.specs.declared.asked.Print.TheVariants as print
use Rattle.ir_arguments.specs.declared.asked.Explored.{Explored}
use Rattle.ir_arguments.specs.declared.asked.Explored.TheVariants as explored
use Rattle.ir_arguments.specs.declared.explore.ExploreArguments.{ExploreArguments}
use Rattle.ir_arguments.specs.declared.within.Counted.{Counted}
use Rattle.ir_arguments.specs.declared.within.Taken as within
use Rattle.ir_arguments.specs.declared.within.WithinArguments.{WithinArguments}
use Rattle.ir_arguments.specs.Exploring.{Taken}
use Rattle.ir_arguments.specs.Values.{Rows, YieldsOrNothing, rows_of_matches}

abbrev pub options_view : RecordingOptions → Options
options_view o = record {
  budget = o.budget;
  random = o.random;
  profile = o.profile;
  input = option_map string_bytes o.input;
  output = option_map string_bytes o.output;
}

abbrev pub make_request : Make → Request
make_request (make.Source a) = Assemble (record {
  source = string_bytes a.source;
  image = string_bytes a.image;
  map = option_map string_bytes a.map;
  explain = a.explain;
})
make_request (make.Elf a) = Convert (record { elf = string_bytes a.elf; image = string_bytes a.image; explain = a.explain })

abbrev pub print_request : Print → Request
print_request (print.Code a) = ShowCode (record { image = string_bytes a.image; map = option_map string_bytes a.map })
print_request (print.Trace a) = ShowTrace (string_bytes a.trace)
print_request (print.Events a) = ShowEvents (record {
  image = string_bytes a.image;
  trace = string_bytes a.trace;
  map = option_map string_bytes a.map;
})
print_request (print.Stale a) = ShowStale (record { trace = string_bytes a.trace; image = option_map string_bytes a.image })
print_request (print.Who a) = ShowVersions (record {
  trace = string_bytes a.trace;
  object = a.object;
  version = a.version;
  word = a.word;
  image = option_map string_bytes a.image;
})
print_request (print.Why a) = ShowReasons (record {
  trace = string_bytes a.trace;
  thread = a.thread;
  event = a.event;
  lines = a.lines;
  image = option_map string_bytes a.image;
  at = option_map (λ v. v.items) a.at;
})
print_request (print.Diff a) = ShowDifference (record { first = string_bytes a.first; second = string_bytes a.second })
print_request (print.View a) = ShowPicture (record {
  trace = string_bytes a.trace;
  json = a.json;
  chrome = a.chrome;
  part = a.part;
  image = option_map string_bytes a.image;
})

abbrev pub exploration_view : ExploreArguments → Exploration
exploration_view a = record {
  image = string_bytes a.image;
  states = a.reach.states;
  private = a.reach.private;
  switches = a.reach.switches;
  seconds = a.reach.seconds;
  outcomes = a.reach.outcomes;
  profile = a.profile;
  random = a.random;
  input = option_map string_bytes a.input;
}

abbrev pub parts_view : Counted → Parts
parts_view c = record { outputs = c.outputs; ends = c.ends; objects = option_map (λ v. v.items) c.objects }

abbrev pub taken_view : within.Taken → Taken
taken_view t = record { outputs = t.outputs; ends = t.ends; all = t.all; objects = t.objects.items }

abbrev pub comparison_view : WithinArguments → GuestComparison
comparison_view a = record { explore = exploration_view a.explore; other = string_bytes a.other; counted = parts_view a.counted }

abbrev pub explored_request : Explored → Request
explored_request (explored.Outcomes a) = Explore (exploration_view a)
explored_request (explored.Classes a) = ShowClasses (record { explore = exploration_view a.explore; counted = parts_view a.counted })
explored_request (explored.Within a) = Compare (comparison_view a)

abbrev pub request_view : Asked → Request
request_view asked.Session = Session
request_view (asked.Make m) = make_request m
request_view (asked.Record a) = Record (record {
  image = string_bytes a.image;
  trace = string_bytes a.trace;
  order = option_map string_bytes a.order;
  order_file = option_map string_bytes a.order_file;
  chaos = a.chaos;
  options = options_view a.options;
  status = a.status;
})
request_view (asked.Hunt a) = HuntFor (record {
  image = string_bytes a.image;
  trace = string_bytes a.trace;
  seeds = a.seeds;
  way = a.way;
  until = a.until.items;
  stale = a.stale;
  jobs = a.jobs;
  seconds = a.seconds;
  shrinks = a.shrinks;
  options = options_view a.options;
})
request_view (asked.Shrink a) = Shrink (record {
  image = string_bytes a.image;
  trace = string_bytes a.trace;
  out = string_bytes a.out;
  until = a.until.items;
  stale = a.stale;
  seconds = a.seconds;
  random = a.random;
  input = option_map string_bytes a.input;
  output = option_map string_bytes a.output;
})
request_view (asked.Until a) = SearchFor (record {
  explore = exploration_view a.explore;
  trace = string_bytes a.trace;
  until = a.until.items;
  hang = a.hang;
  output = option_map string_bytes a.output;
})
request_view (asked.Outside a) = RecordOutside (record {
  comparison = comparison_view a.within;
  trace = string_bytes a.trace;
  output = option_map string_bytes a.output;
})
request_view (asked.Explore e) = explored_request e
request_view (asked.Debug a) = Debug (record { image = string_bytes a.image; trace = string_bytes a.trace })
request_view (asked.Gdb a) = Gdb (record { image = string_bytes a.image; trace = string_bytes a.trace })
request_view (asked.Print p) = print_request p
request_view (asked.Help text) = Help
request_view (asked.Nothing why) = Nothing
request_view asked.NoMem = NoMemory

-- matches ask for what their rows do, unless memory runs out
abbrev pub AsksFor : (Rows → Option Request) → ArgMatches → Result Asked ArgumentErr → Type 0
AsksFor request matches result = YieldsOrNothing request_view result (request (rows_of_matches matches))
