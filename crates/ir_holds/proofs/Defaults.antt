-- What stands in a proof where a list has no element.
use Rattle.ir_runs.specs.declared.env_kind.EnvKind.TheVariants.{Clock}
use Rattle.ir_log.specs.declared.event.Event.{Event}
use Rattle.ir_log.specs.declared.event.Event.TheVariants.{Answer}
use Rattle.ir_picture.specs.declared.placed_box.PlacedBox.{PlacedBox}
use Rattle.ir_holds.specs.declared.span.Span.{Span}

abbrev pub no_box : PlacedBox
no_box = record {
  events = record { thread = 0; event = 0; count = 0 };
  start = record { x = 0; u = 0 };
  end = record { x = 0; u = 0 };
  came = 0;
  row = 0;
}

abbrev pub no_span : Span
no_span = record { thread = 0; first = 0; last = 0 }

abbrev pub no_event : Event
no_event = Answer Clock 0
