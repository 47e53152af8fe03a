-- What the arguments of each subcommand ask for, by the rows of clap's matches. Where a text is wrong, nothing is asked.
use Rattle.std.specs.Prelude.{ℕ, Bool, List, [], ◌∷◌, codes, Option, Some, None, option_map}
use Rattle.clap.specs.Words.{Text}
use Rattle.ir_record_command.specs.Numerals.{number_within}
use Rattle.ir_schedule.specs.declared.way.Way.{Way}
use Rattle.ir_arguments.specs.declared.record.Chaos.{Chaos}
use Rattle.ir_arguments.specs.declared.view.Part.{Part}
use Rattle.ir_arguments.specs.Values.{Rows, first_given, has_flag, text_for, texts_for}
use Rattle.ir_arguments.specs.Reading.{◌>>=◌, if_given, large_number, large_numbers, last_large, profile_named, seeds_named, small_number, way_named}
use Rattle.ir_arguments.specs.Conditions.{conditions_given, stale_wanted}
use Rattle.ir_arguments.specs.Requests.{Options, Request, Assemble, Convert, Record, HuntFor, Shrink, Debug, Gdb, ShowCode, ShowTrace, ShowEvents}
use Rattle.ir_arguments.specs.Requests.{ShowStale, ShowVersions, ShowReasons, ShowDifference, ShowPicture, Versions, Reasons, Picture}
use Rattle.ir_arguments.specs.Requests.{Recording, SeedHunt, Shrinking}

-- `ir asm SOURCE IMAGE`
abbrev pub assembly_asked : Rows → Option Request
assembly_asked rows = Some (Assemble (record {
  source = text_for rows (codes "SOURCE");
  image = text_for rows (codes "IMAGE");
  map = first_given rows (codes "map");
  explain = has_flag rows (codes "explain");
}))

-- `ir elf ELF IMAGE`
abbrev pub conversion_asked : Rows → Option Request
conversion_asked rows = Some (Convert (record {
  elf = text_for rows (codes "ELF");
  image = text_for rows (codes "IMAGE");
  explain = has_flag rows (codes "explain");
}))

-- `ir list IMAGE`
abbrev pub code_asked : Rows → Option Request
code_asked rows = Some (ShowCode (record { image = text_for rows (codes "IMAGE"); map = first_given rows (codes "map") }))

-- `ir debug IMAGE TRACE`
abbrev pub debug_asked : Rows → Option Request
debug_asked rows = Some (Debug (record { image = text_for rows (codes "IMAGE"); trace = text_for rows (codes "TRACE") }))

-- `ir gdb IMAGE TRACE`
abbrev pub gdb_asked : Rows → Option Request
gdb_asked rows = Some (Gdb (record { image = text_for rows (codes "IMAGE"); trace = text_for rows (codes "TRACE") }))

-- `ir trace TRACE`
abbrev pub trace_asked : Rows → Option Request
trace_asked rows = Some (ShowTrace (text_for rows (codes "TRACE")))

-- `ir events IMAGE TRACE`
abbrev pub events_asked : Rows → Option Request
events_asked rows = Some (ShowEvents (record {
  image = text_for rows (codes "IMAGE");
  trace = text_for rows (codes "TRACE");
  map = first_given rows (codes "map");
}))

-- `ir stale TRACE`
abbrev pub stale_asked : Rows → Option Request
stale_asked rows = Some (ShowStale (record { trace = text_for rows (codes "TRACE"); image = first_given rows (codes "image") }))

-- `ir diff FIRST SECOND`
abbrev pub difference_asked : Rows → Option Request
difference_asked rows = Some (ShowDifference (record { first = text_for rows (codes "FIRST"); second = text_for rows (codes "SECOND") }))

-- `ir who TRACE O V`
unfoldable pub versions_in : Rows → Option Versions
versions_in rows = do
  object ← small_number (text_for rows (codes "O"))
  version ← if_given small_number (first_given rows (codes "V"))
  word ← if_given small_number (first_given rows (codes "word"))
  Some (record {
    trace = text_for rows (codes "TRACE");
    object = object;
    version = version;
    word = word;
    image = first_given rows (codes "image");
  })

abbrev pub versions_asked : Rows → Option Request
versions_asked rows = option_map (λ what. ShowVersions what) (versions_in rows)

-- `ir why TRACE T E`
unfoldable pub reasons_in : Rows → Option Reasons
reasons_in rows = do
  thread ← small_number (text_for rows (codes "T"))
  event ← small_number (text_for rows (codes "E"))
  lines ← small_number (text_for rows (codes "lines"))
  at ← if_given large_numbers (first_given rows (codes "at"))
  Some (record {
    trace = text_for rows (codes "TRACE");
    thread = thread;
    event = event;
    lines = lines;
    image = first_given rows (codes "image");
    at = at;
  })

abbrev pub reasons_asked : Rows → Option Request
reasons_asked rows = option_map (λ what. ShowReasons what) (reasons_in rows)

-- the part around event E of thread T that two texts give; all is shown where there aren't two
abbrev pub part_of_texts : ℕ → List Text → Option (Option Part)
part_of_texts span (thread ∷ event ∷ []) = small_number thread >>= λ t. small_number event >>= λ e.
    Some (Some (record { thread = t; event = e; span = span }))
part_of_texts span texts = Some None

abbrev pub part_asked : Rows → Option (Option Part)
part_asked rows = large_number (text_for rows (codes "span")) >>= λ span. part_of_texts span (texts_for rows (codes "around"))

-- `ir view TRACE`
unfoldable pub picture_in : Rows → Option Picture
picture_in rows = do
  part ← part_asked rows
  Some (record {
    trace = text_for rows (codes "TRACE");
    json = has_flag rows (codes "json");
    chrome = has_flag rows (codes "chrome");
    part = part;
    image = first_given rows (codes "image");
  })

abbrev pub picture_asked : Rows → Option Request
picture_asked rows = option_map (λ what. ShowPicture what) (picture_in rows)

-- the number from which random words start
abbrev pub random_in : Rows → Option ℕ
random_in rows = large_number (text_for rows (codes "random"))

-- how a guest is recorded, by whatever order
unfoldable pub options_in : Rows → Option Options
options_in rows = do
  budget ← number_within 0 1000000000000 (text_for rows (codes "budget"))
  random ← random_in rows
  profile ← profile_named (text_for rows (codes "profile"))
  Some (record {
    budget = budget;
    random = random;
    profile = profile;
    input = first_given rows (codes "input");
    output = first_given rows (codes "output");
  })

-- the seed that a text is, and how it chooses
abbrev pub chaos_by : Way → Text → Option Chaos
chaos_by way text = option_map (λ seed. record { seed = seed; way = way }) (large_number text)

-- the seed that gives the order, and how; the way is read though no seed is given
abbrev pub chaos_in : Rows → Option (Option Chaos)
chaos_in rows = way_named (text_for rows (codes "by")) >>= λ way. if_given (chaos_by way) (first_given rows (codes "chaos"))

-- `ir record IMAGE TRACE`
unfoldable pub recording_in : Rows → Option Recording
recording_in rows = do
  options ← options_in rows
  chaos ← chaos_in rows
  Some (record {
    image = text_for rows (codes "IMAGE");
    trace = text_for rows (codes "TRACE");
    order = first_given rows (codes "order");
    order_file = first_given rows (codes "order-file");
    chaos = chaos;
    options = options;
    status = has_flag rows (codes "status");
  })

abbrev pub recording_asked : Rows → Option Request
recording_asked rows = option_map (λ what. Record what) (recording_in rows)

-- the seconds that a search may take, if they are given
abbrev pub seconds_in : Rows → Option (Option ℕ)
seconds_in rows = if_given (number_within 1 1000000) (first_given rows (codes "seconds"))

-- the most threads that hunt at once; any number, if none is given
abbrev pub jobs_given : Option Text → Option ℕ
jobs_given None = Some last_large
jobs_given (Some text) = number_within 1 64 text

-- the threads and the seconds
abbrev pub bounds_in : Rows → Option (ℕ × Option ℕ)
bounds_in rows = jobs_given (first_given rows (codes "jobs")) >>= λ jobs. seconds_in rows >>= λ seconds. Some (jobs, seconds)

-- the conditions, and what is asked of stale writes
abbrev pub wanted_in : Rows → Option (List Text × Option Bool)
wanted_in rows = conditions_given (texts_for rows (codes "until")) >>= λ until. stale_wanted (texts_for rows (codes "until")) >>= λ stale. Some (until, stale)

-- `ir hunt IMAGE TRACE`
unfoldable pub hunt_in : Rows → Option SeedHunt
hunt_in rows = do
  options ← options_in rows
  seeds ← seeds_named (text_for rows (codes "seeds"))
  way ← way_named (text_for rows (codes "by"))
  wanted ← wanted_in rows
  bounds ← bounds_in rows
  Some (record {
    image = text_for rows (codes "IMAGE");
    trace = text_for rows (codes "TRACE");
    seeds = seeds;
    way = way;
    until = wanted.0;
    stale = wanted.1;
    jobs = bounds.0;
    seconds = bounds.1;
    shrinks = has_flag rows (codes "shrink");
    options = options;
  })

abbrev pub hunt_asked : Rows → Option Request
hunt_asked rows = option_map (λ what. HuntFor what) (hunt_in rows)

-- `ir shrink IMAGE TRACE OUT`
unfoldable pub shrinking_in : Rows → Option Shrinking
shrinking_in rows = do
  wanted ← wanted_in rows
  seconds ← seconds_in rows
  random ← random_in rows
  Some (record {
    image = text_for rows (codes "IMAGE");
    trace = text_for rows (codes "TRACE");
    out = text_for rows (codes "OUT");
    until = wanted.0;
    stale = wanted.1;
    seconds = seconds;
    random = random;
    input = first_given rows (codes "input");
    output = first_given rows (codes "output");
  })

abbrev pub shrinking_asked : Rows → Option Request
shrinking_asked rows = option_map (λ what. Shrink what) (shrinking_in rows)
