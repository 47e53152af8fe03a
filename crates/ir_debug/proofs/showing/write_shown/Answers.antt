use Rattle.std.proofs.Common.{◌≤◌, ◌∙◌, length, ap, subst, refl, arith}
use Rattle.ir_stream.specs.Writing.{WritesText}
use Rattle.std.proofs.lemmas.List.{length-take}
use Rattle.ir_image.specs.Guest.{object_words}
use Rattle.ir_debug.specs.Debugging.{Debugging}
use Rattle.ir_debug.proofs.CarriedOut.{last_of_equal_show, last_show_thread_exists, events_here_at_most, shown_object_exists, state_text_is_shown}
use Rattle.ir_debug.proofs.Passed.{permitted_passes_tests, guest_address_bound}
use Rattle.ir_debug.proofs.showing.write_shown.Goals as goal

pub thread_here-requires-clause-number : goal.thread_here-requires-clause-number
thread_here-requires-clause-number g c = last_show_thread_exists _ _ _ _ c.in-Registers.is refl c.requires

pub thread_here-requires-in-Memory-clause-number : goal.thread_here-requires-in-Memory-clause-number
thread_here-requires-in-Memory-clause-number g c = last_show_thread_exists _ _ _ _ c.in-Memory.is refl c.requires

pub write_memory-requires-clause-low : goal.write_memory-requires-clause-low
write_memory-requires-clause-low g c =
    let last = last_of_equal_show c.args.debugger.now c.args.show _ c.in-Memory.is c.requires in
    guest_address_bound c.args.debugger.now.desk.fitted.guest c.in-Memory.size c.in-Memory.address
    (subst (λ g. length g.code ≤ 16384) (c.image.ensures.value ∙ ap (λ f. f.guest) c.fitted.ensures.value) c.code-code.ensures.within.short_code)
    (permitted_passes_tests c.args.debugger.now.desk _ last.0).address

pub bounds-objects-number : goal.bounds-objects-number
bounds-objects-number g c = shown_object_exists c.args.debugger.now c.args.show c.objects.result.now c.in-Object.object c.in-Object.is c.requires
    c.objects.ensures

pub thread_here-requires-in-Output-clause-number : goal.thread_here-requires-in-Output-clause-number
thread_here-requires-in-Output-clause-number g c = last_show_thread_exists _ _ _ _ c.in-Output.is refl c.requires

pub events_of-events-requires : goal.events_of-events-requires
events_of-events-requires g c = last_show_thread_exists _ _ _ _ c.in-Log.is refl c.requires

pub thread_here-requires-in-Log-clause-number : goal.thread_here-requires-in-Log-clause-number
thread_here-requires-in-Log-clause-number g c = last_show_thread_exists _ _ _ _ c.in-Log.is refl c.requires

pub slice_bounds-write_log-end : goal.slice_bounds-write_log-end
slice_bounds-write_log-end g c =
    let d : Debugging = c.args.debugger.now in
    let below = last_show_thread_exists d c.args.show _ c.in-Log.thread c.in-Log.is refl c.requires in
    let fits = events_here_at_most d c.in-Log.thread c.events_of-events.ensures.desk (last_of_equal_show d c.args.show _ c.in-Log.is c.requires).2 below in
    let is = c.events-so_far.ensures.value ∙ ap (λ s. s.events) c.thread_here-in-Log.ensures in
    let long = ap length c.events_of-events.ensures.value in
    let some = length-take c.events-so_far.result c.events_of-events.result.now in
    omega (arith, fits, is, long, some)

pub returns-in-Object : goal.returns-in-Object
returns-in-Object g c = subst
    (λ text. WritesText g.W.Sink.written g.W.Sink.broken c.args.writer.now c.write_object.new.writer text c.write_object.result)
    (state_text_is_shown _ _ _ _ _ _ _ c.in-Object.is c.requires c.objects.ensures c.threads.ensures
    (c.object_words.ensures.value ∙ ap object_words (c.image-in-Object.ensures.value ∙ ap (λ f. f.guest) c.fitted-in-Object.ensures.value))
    c.index-objects-number.is) c.write_object.ensures
