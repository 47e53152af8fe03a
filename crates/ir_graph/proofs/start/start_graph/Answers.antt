use Rattle.std.proofs.Common.{◌≡◌, ℕ, ◌<◌, None, [], ◌∷◌, ◌++◌, length, sym, ap, ◌∙◌, subst, arith}
use Rattle.ir_flat.proofs.CallerLemmas.{length_of_start_threads}
use Rattle.ir_thread.specs.State.{most_budget}
use Rattle.ir_graph.specs.Graph.{IsGraph}
use Rattle.ir_graph.specs.Notes.{noted_by, noted_in}
use Rattle.ir_graph.specs.Plain.{GoesPlain}
use Rattle.ir_graph.specs.Setup.{setup_start}
use Rattle.ir_graph.proofs.Grown.{free_to_try_unnoted, past_threads_no_lead, start_is_graph}
use Rattle.ir_image.specs.Guest.{Guest}
use Rattle.ir_state_store.specs.Nodes.{SourcedFlat, sourced_in}
use Rattle.ir_state_store.specs.Table.{HaveForm, HaveTicks, HaveNoTicks}
use Rattle.ir_graph.specs.Times.{KnowsTimes}
use Rattle.ir_graph.proofs.Timed.{start_knows_times}
use Rattle.ir_graph.proofs.Forms.{like_moment_form, start_threads_have_form, start_has_all_sources}
use Rattle.ir_graph.proofs.Plain.{plain_flat_is_like}
use Rattle.ir_graph.proofs.start.start_graph.Goals as goal

pub rest_all-requires : goal.rest_all-requires
rest_all-requires c = subst (λ z. length z.sources ≡ length z.flat.threads) (sym c.in_ok-state.ensures) (start_has_all_sources c.args.setup.now)

pub by_numbers-requires-clause-form : goal.by_numbers-requires-clause-form
by_numbers-requires-clause-form c =
    let x = c.args.setup.now in
    let h = c.rest_all.new.state in
    let goes = subst (λ z. GoesPlain z h) c.in_ok-state.ensures c.in_ok-rest_all.ensures.goes in
    subst (λ z. HaveForm z h.flat.threads) (sym (c.new-flats.ensures.form ∙ c.form.ensures.value ∙ ap (λ (z : Guest). z.form) c.image-image.ensures))
    (like_moment_form x.guest.form (setup_start x).flat h.flat (plain_flat_is_like (setup_start x) h goes)
    (start_threads_have_form x.guest most_budget x.profile 0 (length x.guest.entries)))

pub by_numbers-requires-clause-sourced : goal.by_numbers-requires-clause-sourced
by_numbers-requires-clause-sourced c =
    let x = c.args.setup.now in
    let goes = subst (λ z. GoesPlain z c.rest_all.new.state) c.in_ok-state.ensures c.in_ok-rest_all.ensures.goes in record {
      flat = c.in_ok-rest_all.ensures.flat;
      each = goes.sources ∙ start_has_all_sources x ∙ sym goes.threads;
    }

pub returns-clause-threads : goal.returns-clause-threads
returns-clause-threads c =
    let x = c.args.setup.now in
    c.in_ok-rows.ensures.threads ∙ ap length c.threads-threads.ensures.value ∙ ap (λ (z : SourcedFlat). length z.flat.threads) c.state.view_is
    ∙ c.in_ok-rest_all.ensures.goes.threads
    ∙ ap (λ z. length z.flat.threads) c.in_ok-state.ensures ∙ length_of_start_threads x.guest most_budget x.profile 0 (length x.guest.entries)

pub returns-clause-sound : goal.returns-clause-sound
returns-clause-sound c =
    let x = c.args.setup.now in
    let h = c.rest_all.new.state in
    let rows = c.in_ok-rows.rows.items in
    let refused_rows = c.in_ok-refused_rows.refused_rows.items in
    let value = ap length c.threads-threads.ensures.value ∙ ap (λ (z : SourcedFlat). length z.flat.threads) c.state.view_is in
    let goes = subst (λ z. GoesPlain z h) c.in_ok-state.ensures c.in_ok-rest_all.ensures.goes in
    let same = c.in_ok-rows.ensures.threads in
    let many : length rows ≡ length h.flat.threads = same ∙ value in
    let free = subst (λ n. (t v : ℕ) → t < n → noted_in rows t v ≡ None) (sym same) c.in_ok-rows.ensures.free in
    let tries = free_to_try_unnoted x.profile (length rows) rows refused_rows (λ one. c.in_ok-refused_rows.ensures.one (c.profile.ensures ∙ one))
    (λ two. subst (λ n. (t v : ℕ) → t < n → noted_in refused_rows t v ≡ None) (sym same) (c.in_ok-refused_rows.ensures.two (c.profile.ensures ∙ two))) in
    let states : c.push.new.self.items ≡ h ∷ [] =
    c.in_ok-push.ensures.ok ∙ ap (λ z. z ++ sourced_in c.by_numbers.new.self.shared c.in_ok-first.first ∷ []) (c.by_numbers.ensures.items ∙ c.new-flats.ensures.items)
    ∙ ap (λ z. z ∷ []) c.in_ok-first.ensures.state in
    subst (λ z. IsGraph x z (noted_by rows refused_rows) (length rows)) (sym states)
    (start_is_graph x h (noted_by rows refused_rows) (length rows) goes c.in_ok-rest_all.ensures.rest
    (goes.sources ∙ start_has_all_sources x ∙ sym goes.threads) (sym many)
    (many ∙ goes.threads ∙ length_of_start_threads x.guest most_budget x.profile 0 (length x.guest.entries)) free tries
    (past_threads_no_lead rows refused_rows (let a = c.in_ok-refused_rows.ensures.threads in omega (arith, a, same))))

pub returns-clause-times : goal.returns-clause-times
returns-clause-times c =
    let x = c.args.setup.now in
    let h = c.rest_all.new.state in
    let rows = c.in_ok-rows.rows.items in
    let refused_rows = c.in_ok-refused_rows.refused_rows.items in
    let value = ap length c.threads-threads.ensures.value ∙ ap (λ (z : SourcedFlat). length z.flat.threads) c.state.view_is in
    let goes = subst (λ z. GoesPlain z h) c.in_ok-state.ensures c.in_ok-rest_all.ensures.goes in
    let same = c.in_ok-rows.ensures.threads in
    let many : length rows ≡ length h.flat.threads = same ∙ value in
    let free = subst (λ n. (t v : ℕ) → t < n → noted_in rows t v ≡ None) (sym same) c.in_ok-rows.ensures.free in
    let tries = free_to_try_unnoted x.profile (length rows) rows refused_rows (λ one. c.in_ok-refused_rows.ensures.one (c.profile.ensures ∙ one))
    (λ two. subst (λ n. (t v : ℕ) → t < n → noted_in refused_rows t v ≡ None) (sym same) (c.in_ok-refused_rows.ensures.two (c.profile.ensures ∙ two))) in
    let states : c.push.new.self.items ≡ h ∷ [] =
    c.in_ok-push.ensures.ok ∙ ap (λ z. z ++ sourced_in c.by_numbers.new.self.shared c.in_ok-first.first ∷ []) (c.by_numbers.ensures.items ∙ c.new-flats.ensures.items)
    ∙ ap (λ z. z ∷ []) c.in_ok-first.ensures.state in
    let first : sourced_in c.by_numbers.new.self.shared c.in_ok-first.first ≡ h = c.in_ok-first.ensures.state in
    subst (λ z. KnowsTimes x z (noted_by rows refused_rows) c.is_timed-timed.result) (sym states)
    (start_knows_times x h (noted_by rows refused_rows) (length rows) c.is_timed-timed.result goes free tries
    (past_threads_no_lead rows refused_rows (let a = c.in_ok-refused_rows.ensures.threads in omega (arith, a, same)))
    (λ e. subst (λ (z : SourcedFlat). HaveTicks z.sources) first (c.is_timed-timed.ensures.timed e))
    (λ e. subst (λ (z : SourcedFlat). HaveNoTicks z.sources) first (c.is_timed-timed.ensures.untimed e)))
