-- Events that were accepted, said again to a history that opened alike.
use Rattle.std.proofs.Common.{◌≡◌, ◌+◌, ◌==◌, ℕ, Bool, true, false, List, [], ◌∷◌, Option, None, Some, Ok, Err, refl, ap, sym, subst, ◌∙◌, if◌then◌else◌}
use Rattle.rev_events.specs.declared.event.Event.{Event}
use Rattle.rev_events.specs.declared.refusal.Refusal.{Refusal}
use Rattle.rev_causal.specs.OrderCheck.{OrderAnswer}
use Rattle.rev_graph.specs.Alike.{LendAlike}
use Rattle.rev_manifest.specs.Builds.{ManifestValue}
use Rattle.rev_events.specs.Same.{event_eq}
use Rattle.rev_history.specs.Order.{IsSameOpening, order_of}
use Rattle.rev_history.specs.Timeline.{Timeline, accept_refusal, accepted_as, event_at, last_of, opened}
use Rattle.rev_order_text.specs.Ordered.{Said, and_then, ordered_of, said_again, said_event, unless_refused}

-- a history has the same opening as another
pub record OpensAlike (t u : Timeline) : Type 0 where
  pub manifest : u.manifest ≡ t.manifest
  pub jobs : u.jobs ≡ t.jobs
  pub opening : u.opening ≡ t.opening

abbrev pub IfSaid : (Timeline → Type 0) → Said → Type 0
IfSaid P (Ok u) = P u
IfSaid P (Err p) = Unit {0}

event_alike : (t u : Timeline) (n : ℕ) (o : Option Event) → OpensAlike t u → IfSaid (OpensAlike t) (said_event u n o)
event_alike t u n None a = tt
event_alike t u n (Some e) a = by (last_of u.accepted == 4294967295) (accept_refusal u e)
  where
    by : (b : Bool) (r : Option Refusal) → IfSaid (OpensAlike t) (if b then Err (n, None) else unless_refused n r (accepted_as (last_of u.accepted + 1) e u))
    by true r = tt
    by false None = record { manifest = a.manifest; jobs = a.jobs; opening = a.opening }
    by false (Some r) = tt

-- what was said again opened alike
again_alike : (t u : Timeline) (ns : List ℕ) → OpensAlike t u → IfSaid (OpensAlike t) (said_again t u ns)
again_alike t u [] a = a
again_alike t u (n ∷ ns) a = by (said_event u n (event_at t n)) (event_alike t u n (event_at t n) a) (λ v b. again_alike t v ns b)
  where
    by : (s : Said) → IfSaid (OpensAlike t) s → ((v : Timeline) → OpensAlike t v → IfSaid (OpensAlike t) (said_again t v ns)) → IfSaid (OpensAlike t) (and_then s (λ v. said_again t v ns))
    by (Ok v) b more = more v b
    by (Err p) b more = tt

-- the same history at first, as far as the order check asks
pub same_opening : (t u v : Timeline) (ns : List ℕ) → u ≡ opened t.manifest t.jobs t.opening → said_again t u ns ≡ Ok v → IsSameOpening t v
same_opening t u v ns e said =
    let first : OpensAlike t u = subst (λ (x : Timeline). OpensAlike t x) (sym e) (record { manifest = refl; jobs = refl; opening = refl }) in
    let a : OpensAlike t v = subst (IfSaid (OpensAlike t)) said (again_alike t u ns first) in
    record {
      graph = subst (λ (m : ManifestValue). LendAlike t.manifest m) (sym a.manifest) (record { edges = refl; depths = refl; defaults = refl });
      jobs = a.jobs;
      opening = a.opening;
    }

-- the order check of what was said again, where nothing was refused
pub answered : (t v : Timeline) (said : Said) (answer : OrderAnswer) → said ≡ Ok v → answer ≡ order_of event_eq true t v → ordered_of t said ≡ Ok answer
answered t v said answer e same = ap (ordered_of t) e ∙ sym (ap (λ (a : OrderAnswer). Ok a) same)
