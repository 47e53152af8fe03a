-- The table advances with one seat.
use Rattle.std.proofs.Common.{◌≡◌, ◌≢◌, ℕ, ◌≤◌, Bool, true, List, [], ◌∷◌, length, set, refl, sym, ap, ◌∙◌, subst, arith, inl, inr}
use Rattle.std.proofs.lemmas.Bool.{cases_eq}
use mathlib.Core.Option.{some}
use lib.ListN.{get_elem?}
use Rattle.atomic_table.specs.Table.{State}
use Rattle.atomic_table.proofs.Lists.{at_set}
use Rattle.ir_flat.specs.Flat.{Flat, IsFlat}
use Rattle.ir_cut.specs.Positions.{machine_of, start_of}
use Rattle.ir_runs.proofs.CallerLemmas.{admitted_persists}
use Rattle.ir_fit.specs.Fit.{FittedTrace}
use Rattle.ir_weave.specs.Standing.{IsStateAt, positions}
use Rattle.ir_weave.specs.Table.{IsTable}
use Rattle.ir_weave.specs.Woven.{View, trace_in, Met, progress, stood, AdmittedAt, IsTrack, AreTracks, Woven}
use Rattle.ir_weave.specs.declared.plan.Plan.{Plan}
use Rattle.ir_weave.specs.declared.plan.Progress.{Progress}

-- thread t alone is further
pub record IsFurther (f : FittedTrace) (old new : Flat) (t : ℕ) : Type 0 where
  pub flat : IsFlat new
  pub at : IsStateAt f (positions new) new
  pub size : length new.threads ≡ length old.threads
  pub own : positions old t ≤ positions new t
  pub others : (u : ℕ) → u ≢ t → positions new u ≡ positions old u

pub further_not_lower : (f : FittedTrace) (old new : Flat) (t : ℕ) → IsFurther f old new t → (u : ℕ) → positions old u ≤ positions new u
further_not_lower f old new t g u = elim (cases_eq u t) [
  | inl same ↦ subst (λ z. positions old z ≤ positions new z) (sym same) g.own
  | inr ne ↦ let e = g.others u ne in omega (arith, e)
]

-- what is admitted stays so while another thread advances
pub admitted_after_other : (f : FittedTrace) (old new : Flat) (t u : ℕ) → IsFurther f old new t → u ≢ t → AdmittedAt f (positions old) u
    → AdmittedAt f (positions new) u
admitted_after_other f old new t u g ne ad run of = admitted_persists (machine_of f) (start_of f) run (positions old) (positions new) u (ad run of)
    (g.at.each run of).consistent (further_not_lower f old new t g) (g.others u ne)

-- the tracks of other seats
pub other_seat_tracks_same : (k : Plan) (old new : Flat) (t : ℕ) (seat : ℕ → ℕ) (j : ℕ) (v : View) → IsFurther (trace_in k) old new t → seat t ≢ j
    → AreTracks k old seat j v → AreTracks k new seat j v
other_seat_tracks_same k old new t seat j [] g ne h = tt
other_seat_tracks_same k old new t seat j (q ∷ qs) g ne h =
    let apart : q.thread ≢ t = λ is. ne (sym (ap seat is) ∙ h.0.mine) in (
      record {
        plan = h.0.plan;
        there = let a = h.0.there in let b = g.size in omega (arith, a, b);
        mine = h.0.mine;
        position = g.others q.thread apart ∙ h.0.position;
        granted = λ on. admitted_after_other (trace_in k) old new t q.thread g apart (h.0.granted on);
        met = λ u. (let a = h.0.met u in let b = further_not_lower (trace_in k) old new t g u in omega (arith, a, b));
      },
      other_seat_tracks_same k old new t seat j qs g ne h.1,
    )

pub woven_after_seat_moves : (k : Plan) (x : State (Unit {0}) View) (h : Woven k x) (id : ℕ) (q : Progress) → get_elem? x.views id ≡ some (q ∷ [])
    → (new : Flat) → IsFurther (trace_in k) h.state new q.thread → (i : ℕ) → positions new q.thread ≡ i
    → (granted : Bool) → (granted ≡ true → AdmittedAt (trace_in k) (positions new) q.thread)
    → (m : Met) → ((u : ℕ) → stood m u ≤ positions new u) → (ws : List ℕ) (hs : List _)
    → IsTable new.objects ws → Woven k (record { words = ws; homes = hs; views = set x.views id (progress k q.thread i granted m ∷ []) })
woven_after_seat_moves k x h id q at new g i here granted ad m met ws hs table =
    let own : IsTrack k h.state h.seat id q = (h.tracks id (q ∷ []) at).0 in record {
      run = h.run;
      state = new;
      flat = g.flat;
      at = g.at;
      above = λ t. (let a = h.above t in let b = further_not_lower (trace_in k) h.state new q.thread g t in omega (arith, a, b));
      seat = h.seat;
      tracks = λ j v e. elim (at_set x.views id j (progress k q.thread i granted m ∷ []) v e) [
        | inl r ↦ subst (AreTracks k new h.seat j) r.1 (
          record {
            plan = refl;
            there = let a = own.there in let b = g.size in omega (arith, a, b);
            mine = own.mine ∙ sym r.0;
            position = here;
            granted = ad;
            met = met;
          },
          tt,
        )
        | inr r ↦ other_seat_tracks_same k h.state new q.thread h.seat j v g (λ e'. r.0 (sym e' ∙ own.mine)) (h.tracks j v r.1)
      ];
      table = table;
    }
