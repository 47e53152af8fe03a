-- What an event is that suits what is asked.
use Rattle.std.proofs.Common.{◌≡◌, ◌≢◌, ℕ, inl, inr, ◌⊎◌, sym, ap, ◌∙◌}
use Rattle.ir_runs.specs.declared.access.Access.{Access}
use Rattle.ir_runs.specs.declared.access.Access.TheVariants.{Writing}
use Rattle.ir_runs.specs.declared.env_kind.EnvKind.{EnvKind}
use Rattle.ir_thread.specs.declared.ask.Ask.{Ask}
use Rattle.ir_thread.specs.declared.ask.Ask.TheVariants as ask
use Rattle.ir_log.specs.Asked.{ask_of, SuitsEvent}
use Rattle.ir_log.specs.declared.event.Event.{Event}
use Rattle.ir_log.specs.declared.event.Event.TheVariants.{Answer, Read, Write, Try}

-- what isn't asked by a try is what the event is logged of
pub ask_of_event_unless_try : (q : Ask) (e : Event) → ((o : ℕ) → q ≢ ask.Try o) → SuitsEvent q e → ask_of e ≡ q
ask_of_event_unless_try q e other (inl is) = is
ask_of_event_unless_try q (Answer kind value) other (inr is) = absurd (cc is)
ask_of_event_unless_try q (Read object version) other (inr is) = absurd (cc is)
ask_of_event_unless_try q (Write object version readers) other (inr is) = absurd (other object (cc is))
ask_of_event_unless_try q (Try object) other (inr is) = absurd (cc is)

pub ask_of_call_event : (kind : EnvKind) (e : Event) → SuitsEvent (ask.Env kind) e → ask_of e ≡ ask.Env kind
ask_of_call_event kind e h = ask_of_event_unless_try (ask.Env kind) e (λ o is. cc is) h

pub ask_of_entry_event : (object : ℕ) (access : Access) (e : Event) → SuitsEvent (ask.Enter object access) e → ask_of e ≡ ask.Enter object access
ask_of_entry_event object access e h = ask_of_event_unless_try (ask.Enter object access) e (λ o is. cc is) h

-- who logs an entry asks for it, or tries to enter for writing
pub entry_event_asks_cases : (q : Ask) (object : ℕ) (access : Access) (e : Event) → SuitsEvent q e → ask_of e ≡ ask.Enter object access
    → (q ≡ ask.Enter object access) ⊎ ((q ≡ ask.Try object) × (access ≡ Writing))
entry_event_asks_cases q object access e (inl is) enters = inl (sym is ∙ enters)
entry_event_asks_cases q object access (Answer kind value) (inr is) enters = absurd (cc enters)
entry_event_asks_cases q object access (Read o version) (inr is) enters = absurd (cc is)
entry_event_asks_cases q object access (Write o version readers) (inr is) enters =
    let same : ◌≡◌ {A = ℕ} o object = cc enters in
    let writes : ◌≡◌ {A = Access} Writing access = cc enters in
    let tries : ask.Try o ≡ q = cc is in
    inr (sym tries ∙ ap ask.Try same, sym writes)
entry_event_asks_cases q object access (Try o) (inr is) enters = absurd (cc enters)

-- what suits a try: an entry for writing, or a refused try
pub event_suiting_try_cases : (object : ℕ) (e : Event) → SuitsEvent (ask.Try object) e → (ask_of e ≡ ask.Enter object Writing) ⊎ (e ≡ Try object)
event_suiting_try_cases object (Answer kind value) (inl is) = absurd (cc is)
event_suiting_try_cases object (Answer kind value) (inr is) = absurd (cc is)
event_suiting_try_cases object (Read o version) (inl is) = absurd (cc is)
event_suiting_try_cases object (Read o version) (inr is) = absurd (cc is)
event_suiting_try_cases object (Write o version readers) (inl is) = absurd (cc is)
event_suiting_try_cases object (Write o version readers) (inr is) = inl (let same : ◌≡◌ {A = ℕ} o object = cc is in λ i. ask.Enter (same i) Writing)
event_suiting_try_cases object (Try o) (inl is) = inr (let same : ◌≡◌ {A = ℕ} o object = cc is in λ i. Try (same i))
event_suiting_try_cases object (Try o) (inr is) = absurd (cc is)
