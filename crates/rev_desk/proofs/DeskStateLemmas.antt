-- DeskStatees, answered.
use Rattle.std.proofs.Common.{◌≡◌, ℕ, ◌+◌, ◌<◌, List, [], ◌∷◌, ◌++◌, not, Option, Some, None, Result, Ok, refl, sym, ap, subst, ◌∙◌, arith}
use Rattle.std.specs.Prelude.{nat_eq}
use Rattle.std.specs.List.{AllByRecursion}
use Rattle.rev_causal.proofs.Chosen.{All-append, All-filter, All-map, last_of-push}
use Rattle.rev_manifest.specs.Manifest.{ManifestValue}
use Rattle.rev_commands.specs.declared.point.Point.{Point}
use Rattle.rev_events.specs.declared.event.Event.{Event}
use Rattle.rev_events.specs.declared.refusal.Refusal.{Refusal}
use Rattle.rev_history.specs.Timeline.{Timeline, accepted_as, last_of}
use Rattle.rev_desk.specs.declared.desk_state.DeskState.{DeskState}
use Rattle.rev_desk.specs.declared.reply.Reply.{Reply}
use Rattle.rev_desk.specs.declared.reply.Reply.TheVariants as reply
use Rattle.rev_desk.specs.DeskState.{Does, IsReady, desk_state_value}
use Rattle.rev_desk.specs.Breaks.{AreBelow, AreSound}
use Rattle.rev_desk.specs.Machine.{DeskStateValue}
use Rattle.rev_desk.specs.BreakKeys.{numbers_of, without_break}
use Rattle.rev_desk.proofs.Rising.{firsts-dropped, firsts-push}

pub below_next : (n : ℕ) (bs : List (ℕ × Point)) → AreBelow n bs → AreBelow (n + 1) bs
below_next n bs h = All-map (λ k. k < n) (λ k. k < n + 1) (numbers_of bs) (λ k lt. omega arith) h

pub IsReady-next : (b : DeskState) (n : ℕ) → IsReady b n → IsReady b (n + 1)
IsReady-next b n h = record { breaks = h.breaks; last = omega (arith, h.last); below = below_next n b.breaks.standing.items h.below }

pub IsReady-accepted : (old new : DeskState) (n : ℕ) (e : Event) → new.history.timeline ≡ accepted_as n e old.history.timeline → new.breaks ≡ old.breaks → IsReady old n → IsReady new (n + 1)
IsReady-accepted old new n e is same h = record {
  breaks = subst (λ (t : Timeline). AreSound t.manifest new.breaks) (sym is) (subst (AreSound old.history.timeline.manifest) (sym same) h.breaks);
  last = subst (λ (t : Timeline). last_of t.accepted < n + 1) (sym is) (subst (λ k. k < n + 1) (sym (last_of-push old.history.timeline.accepted n e h.last)) (omega arith));
  below = subst (λ b. AreBelow (n + 1) b.standing.items) (sym same) (below_next n old.breaks.standing.items h.below);
}

pub IsReady-added : (old new : DeskState) (n : ℕ) (p : Point) → new.history.timeline ≡ old.history.timeline → new.breaks.standing.items ≡ old.breaks.standing.items ++ (n, p) ∷ []
    → AreSound old.history.timeline.manifest new.breaks → IsReady old n → IsReady new (n + 1)
IsReady-added old new n p same standing sound h = record {
  breaks = subst (λ (t : Timeline). AreSound t.manifest new.breaks) (sym same) sound;
  last = subst (λ (t : Timeline). last_of t.accepted < n + 1) (sym same) (omega (arith, h.last));
  below =
      subst (AreBelow (n + 1)) (sym standing) (subst (AllByRecursion (λ k. k < n + 1)) (sym (firsts-push old.breaks.standing.items (n, p)))
      (All-append (λ k. k < n + 1) (numbers_of old.breaks.standing.items) (n ∷ []) (below_next n old.breaks.standing.items h.below) (omega arith, tt)));
}

pub IsReady-dropped : (old new : DeskState) (n m : ℕ) → new.history.timeline ≡ old.history.timeline → new.breaks.standing.items ≡ without_break m old.breaks.standing.items
    → AreSound old.history.timeline.manifest new.breaks → IsReady old n → IsReady new (n + 1)
IsReady-dropped old new n m same standing sound h = record {
  breaks = subst (λ (t : Timeline). AreSound t.manifest new.breaks) (sym same) sound;
  last = subst (λ (t : Timeline). last_of t.accepted < n + 1) (sym same) (omega (arith, h.last));
  below =
      subst (AreBelow (n + 1)) (sym standing) (subst (AllByRecursion (λ k. k < n + 1)) (sym (firsts-dropped m old.breaks.standing.items))
      (All-filter (λ k. k < n + 1) (λ k. not (nat_eq k m)) (numbers_of old.breaks.standing.items) (below_next n old.breaks.standing.items h.below)));
}

-- it was refused
pub Does-refused : (old new : DeskState) (n : ℕ) (refusal : Option Refusal) (answer : Reply) (moved : DeskStateValue) (r : Refusal) → new ≡ old → refusal ≡ Some r → IsReady old n
    → Does old new n refusal answer moved (Ok (reply.Refused r))
Does-refused old new n refusal answer moved r same is h =
    subst (λ (b : DeskState). Does old b n refusal answer moved (Ok (reply.Refused r))) (sym same)
    (subst (λ o. Does old old n o answer moved (Ok (reply.Refused r))) (sym is)
    (record { reply = refl; ok = refl; err = tt; ready = IsReady-next old n h; still = tt }))

-- it was done
pub Does-done : (old new : DeskState) (n : ℕ) (refusal : Option Refusal) (answer : Reply) (moved : DeskStateValue) (a : Reply) → refusal ≡ None → a ≡ answer → desk_state_value new ≡ moved → IsReady new (n + 1)
    → Does old new n refusal answer moved (Ok a)
Does-done old new n refusal answer moved a is same change h =
    subst (λ o. Does old new n o answer moved (Ok a)) (sym is) (record { reply = same; ok = change; err = tt; ready = h; still = tt })
