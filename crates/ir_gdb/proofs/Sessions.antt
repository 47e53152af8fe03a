-- From a connection to what was opened.
use Rattle.std.proofs.Common.{◌≡◌, ◌∙◌, ℕ, Bool, true, false, List, [], Option, Some, None, Result, Ok, Err, OnOk, OnErr, IfSome, refl, sym, ap, subst, arith, append-nil}
use Rattle.std.specs.Io.KnownBytes.{Appends}
use Rattle.std.proofs.KnownBytes.{Appends-nil, Consumes-nil}
use Rattle.ir_stream.specs.Answers.{AppendsPrefix, ReadsUpTo}
use Rattle.ir_stream.specs.Endings.{IfEnded}
use Rattle.ir_stream.specs.declared.serving.Served.{Served}
use Rattle.ir_stream.specs.declared.serving.Served.TheVariants as served
use Rattle.ir_stream.specs.declared.serving.Fault.{Fault}
use Rattle.ir_stream.specs.declared.serving.Fault.TheVariants as fault
use Rattle.ir_debug.specs.Machine.{Desk, Opening, Opens, opening_text}
use Rattle.ir_debug.specs.Machine as opening
use Rattle.ir_debug.specs.Session.{most_input, ended_by, IfServed, IfRefused}
use Rattle.ir_debug.specs.declared.ended.Ended.{Ended}
use Rattle.ir_debug.specs.declared.ended.Ended.TheVariants as ended
use Rattle.ir_debug.specs.declared.ended.SessionErr.{SessionErr}
use Rattle.ir_debug.specs.declared.ended.SessionErr.TheVariants as err
use Rattle.ir_debug.proofs.CallerLemmas.{if_some_of_implied, if_served_implied_end}
pub use Rattle.ir_debug.proofs.CallerLemmas.{reads_up_to_of_implied, opens_ready_desk, read_end_is_read_fault, write_end_is_fault}
use Rattle.ir_gdb.specs.Stub.{Stub, stub_of}
use Rattle.ir_gdb.specs.Connection.{Link, link_of, LeadsToLink}
use Rattle.ir_gdb.specs.Session.{first_link, ServesItems, EndsUnopened, Connects, Connected, Announced, IfNotRefused}

-- ---- a connection

pub link_is_first_link : (l : Link) (s : Stub) (d : Desk) → l ≡ link_of s → s ≡ stub_of d → l ≡ first_link d
link_is_first_link l s d is of = is ∙ ap link_of of

serves_if_leads_to : (d : Desk) (l : Link) (r : Result Served Fault) (w w' : Option (List ℕ)) (input : List ℕ) → l ≡ first_link d
    → LeadsToLink l most_input r w w' input → ServesItems d (ended_by r) w w' input
serves_if_leads_to d l r w w' input is leads = record {
  served = r;
  ending = refl;
  leads = subst (λ (x : Link). LeadsToLink x most_input r w w' input) is leads;
}

pub serves_by_read_input : (d : Desk) (l : Link) (result : Result Ended SessionErr) (r : Result Served Fault) (a b w w' : Option (List ℕ))
    → result ≡ ended_by r → l ≡ first_link d → IfEnded r (ReadsUpTo most_input a b (LeadsToLink l most_input r w w'))
    → IfServed result (ReadsUpTo most_input a b (ServesItems d result w w'))
serves_by_read_input d l result r a b w w' ended is p =
    subst (λ (x : Result Ended SessionErr). IfServed x (ReadsUpTo most_input a b (ServesItems d x w w'))) (sym ended)
    (if_served_implied_end r _ _ (reads_up_to_of_implied most_input a b _ _ (λ input leads. serves_if_leads_to d l r w w' input is leads)) p)

pub serves_by_known_input : (d : Desk) (l : Link) (result : Result Ended SessionErr) (r : Result Served Fault) (a w w' : Option (List ℕ))
    → result ≡ ended_by r → l ≡ first_link d → IfEnded r (IfSome a (LeadsToLink l most_input r w w'))
    → IfServed result (IfSome a (ServesItems d result w w'))
serves_by_known_input d l result r a w w' ended is p =
    subst (λ (x : Result Ended SessionErr). IfServed x (IfSome a (ServesItems d x w w'))) (sym ended)
    (if_served_implied_end r _ _ (if_some_of_implied a _ _ (λ input leads. serves_if_leads_to d l r w w' input is leads)) p)

pub if_served_from_if_ended : (result : Result Ended SessionErr) (r : Result Served Fault) (P : Type 0) → result ≡ ended_by r → IfEnded r P
    → IfServed result P
if_served_from_if_ended result r P ended p = subst (λ (x : Result Ended SessionErr). IfServed x P) (sym ended) (if_served_implied_end r P P (λ q. q) p)

ended_by_is_not_refused : (r : Result Served Fault) → IfRefused (ended_by r) ⊥
ended_by_is_not_refused (Ok served.Quit) = tt
ended_by_is_not_refused (Ok served.InputEnd) = tt
ended_by_is_not_refused (Err fault.Read) = tt
ended_by_is_not_refused (Err fault.Write) = tt
ended_by_is_not_refused (Err fault.TooLong) = tt

pub served_is_not_refused : (result : Result Ended SessionErr) (r : Result Served Fault) → result ≡ ended_by r → IfRefused result ⊥
served_is_not_refused result r ended = subst (λ (x : Result Ended SessionErr). IfRefused x ⊥) (sym ended) (ended_by_is_not_refused r)

pub end_is_not_no_memory : (r : Result Served Fault) → ended_by r ≡ Err err.NoMem → ⊥
end_is_not_no_memory (Ok served.Quit) e = absurd cc
end_is_not_no_memory (Ok served.InputEnd) e = absurd cc
end_is_not_no_memory (Err fault.Read) e = absurd cc
end_is_not_no_memory (Err fault.Write) e = absurd cc
end_is_not_no_memory (Err fault.TooLong) e = absurd cc

-- ---- what was opened

if_served_of_implied : (result : Result Ended SessionErr) (P Q : Type 0) → (P → Q) → IfServed result P → IfServed result Q
if_served_of_implied (Ok e) P Q go p = go p
if_served_of_implied (Err err.NoMem) P Q go p = tt
if_served_of_implied (Err err.Read) P Q go p = tt
if_served_of_implied (Err err.Write) P Q go p = tt
if_served_of_implied (Err err.TooLong) P Q go p = go p

pub connected_by_read : (image trace : List ℕ) (d : Desk) (result : Result Ended SessionErr) (a b w w' : Option (List ℕ))
    → Opens image trace (opening.Ready d) → IfServed result (ReadsUpTo most_input a b (ServesItems d result w w'))
    → IfServed result (ReadsUpTo most_input a b (Connected image trace result w w'))
connected_by_read image trace d result a b w w' opens p = if_served_of_implied result _ _ (reads_up_to_of_implied most_input a b _ _
    (λ input serves_if_leads_to. record { opening = opening.Ready d; opens = opens; connects = serves_if_leads_to })) p

pub connected_by_known : (image trace : List ℕ) (d : Desk) (result : Result Ended SessionErr) (a w w' : Option (List ℕ))
    → Opens image trace (opening.Ready d) → IfServed result (IfSome a (ServesItems d result w w'))
    → IfServed result (IfSome a (Connected image trace result w w'))
connected_by_known image trace d result a w w' opens p = if_served_of_implied result _ _ (if_some_of_implied a _ _
    (λ input serves_if_leads_to. record { opening = opening.Ready d; opens = opens; connects = serves_if_leads_to })) p

pub never_refused_vacuous : (result : Result Ended SessionErr) (P : Type 0) → IfRefused result ⊥ → IfRefused result P
never_refused_vacuous (Ok ended.Quit) P p = tt
never_refused_vacuous (Ok ended.InputEnd) P p = tt
never_refused_vacuous (Ok ended.ImageRefused) P p = absurd p
never_refused_vacuous (Ok ended.TraceRefused) P p = absurd p
never_refused_vacuous (Ok ended.NotFit) P p = absurd p
never_refused_vacuous (Err e) P p = tt

-- ---- nothing was opened

connects_if_refused : (o : Opening) (e : Ended) (w : Option (List ℕ)) (input : List ℕ) → EndsUnopened o e → Connects o (Ok e) w w input
connects_if_refused (opening.ImageRefused x) e w input is = (e, is, refl, Appends-nil w)
connects_if_refused (opening.TraceRefused x) e w input is = (e, is, refl, Appends-nil w)
connects_if_refused (opening.Unfit v) e w input is = (e, is, refl, Appends-nil w)
connects_if_refused (opening.Ready d) e w input is = absurd is

connected_if_refused : (image trace : List ℕ) (o : Opening) (e : Ended) (w : Option (List ℕ)) (input : List ℕ) → Opens image trace o → EndsUnopened o e
    → Connected image trace (Ok e) w w input
connected_if_refused image trace o e w input opens is = record { opening = o; opens = opens; connects = connects_if_refused o e w input is }

pub refused_by_read : (image trace : List ℕ) (o : Opening) (e : Ended) (a w : Option (List ℕ)) → Opens image trace o → EndsUnopened o e
    → ReadsUpTo most_input a a (Connected image trace (Ok e) w w)
refused_by_read image trace o e a w opens is = record {
  consumed = [];
  taken = Consumes-nil a;
  within = omega arith;
  holds = connected_if_refused image trace o e w [] opens is;
}

pub refused_by_known : (image trace : List ℕ) (o : Opening) (e : Ended) (a w : Option (List ℕ)) → Opens image trace o → EndsUnopened o e
    → IfSome a (Connected image trace (Ok e) w w)
refused_by_known image trace o e None w opens is = tt
refused_by_known image trace o e (Some xs) w opens is = connected_if_refused image trace o e w xs opens is

pub announced_if_refused : (image trace : List ℕ) (o : Opening) (e : Ended) (P : List ℕ → Type 0) → Opens image trace o → EndsUnopened o e
    → P (opening_text o) → IfRefused (Ok e) (Announced image trace (Ok e) P)
announced_if_refused image trace o ended.Quit P opens is p = tt
announced_if_refused image trace o ended.InputEnd P opens is p = tt
announced_if_refused image trace o ended.ImageRefused P opens is p = record { opening = o; opens = opens; ended = ended.ImageRefused; refuses = is; ending = refl; text = p }
announced_if_refused image trace o ended.TraceRefused P opens is p = record { opening = o; opens = opens; ended = ended.TraceRefused; refuses = is; ending = refl; text = p }
announced_if_refused image trace o ended.NotFit P opens is p = record { opening = o; opens = opens; ended = ended.NotFit; refuses = is; ending = refl; text = p }

pub refused_is_vacuous : (o : Opening) (e : Ended) (P : Type 0) → EndsUnopened o e → IfNotRefused (Ok e) P
refused_is_vacuous (opening.ImageRefused x) e P is = subst (λ (y : Ended). IfNotRefused (Ok y) P) (sym is) tt
refused_is_vacuous (opening.TraceRefused x) e P is = subst (λ (y : Ended). IfNotRefused (Ok y) P) (sym is) tt
refused_is_vacuous (opening.Unfit v) e P is = subst (λ (y : Ended). IfNotRefused (Ok y) P) (sym is) tt
refused_is_vacuous (opening.Ready d) e P is = absurd is

pub if_not_refused_if_holds : (result : Result Ended SessionErr) (P : Type 0) → P → IfNotRefused result P
if_not_refused_if_holds (Ok ended.Quit) P p = p
if_not_refused_if_holds (Ok ended.InputEnd) P p = p
if_not_refused_if_holds (Ok ended.ImageRefused) P p = tt
if_not_refused_if_holds (Ok ended.TraceRefused) P p = tt
if_not_refused_if_holds (Ok ended.NotFit) P p = tt
if_not_refused_if_holds (Err e) P p = p

-- what a writer took of a text
pub appended_prefix_or_whole : {X E : Type 0} (r : Result X E) (w w' : Option (List ℕ)) (broken : Bool) (text : List ℕ) → OnOk r (Appends w w' text)
    → OnErr r (AppendsPrefix w w' text) → OnErr r (broken ≡ true) → AppendsPrefix w w' text × (broken ≡ false → Appends w w' text)
appended_prefix_or_whole (Ok x) w w' broken text ok prefix err = (
  record { part = text; more = []; splits = sym (append-nil text); grown = ok },
  λ e. ok,
)
appended_prefix_or_whole (Err x) w w' broken text ok prefix err = (prefix, λ e. absurd (both broken err e))
  where
    both : (b : Bool) → b ≡ true → b ≡ false → ⊥
    both b is isnt = cc
