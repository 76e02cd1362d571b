use Rattle.std.proofs.Common.{◌≡◌, ℕ, List, Some, IsSome, is_some, Result, Ok, Err, true, true≢false, sym, ap, subst, ◌∙◌}
use Rattle.std.specs.Prelude.{OnOk}
use Rattle.rev_accesses.specs.Following.{IsFollowed}
use Rattle.rev_accesses.specs.Places.{print_of}
use Rattle.rev_accesses.specs.Value.{Prints}
use Rattle.rev_causal.specs.AccessLists.{numbers_by}
use Rattle.rev_causal.specs.Chosen.{chosen}
use Rattle.rev_causal.specs.History as causal
use Rattle.rev_causal.specs.Store.{Footprint}
use Rattle.rev_causal.proofs.Chosen.{chosen-rises}
use Rattle.rev_history.specs.Steps.{place_prints, step_beside}
use Rattle.rev_history.proofs.BesideKept.{all_among}
use Rattle.rev_history.proofs.Listed.{numbers_chosen}
use Rattle.rev_history.proofs.NamedLemmas.{print_placed, steps_accepted}
use Rattle.rev_history.proofs.closing.follow_member.Goals as goal

on_ok : {A E P Q : Type 0} (r : Result A E) → (P → Q) → OnOk r P → OnOk r Q
on_ok (Ok a) f h = f h
on_ok (Err e) f h = h

pub returns-in-Some : goal.returns-in-Some
returns-in-Some c =
    let all : Prints = place_prints c.args.accepted.now.entries c.args.steps.now in
    let kept : List ℕ = c.args.kept.now in
    let rising : causal.IsRising (chosen all kept) = chosen-rises all kept c.requires.rising in
    let numbers : numbers_by (λ f. true) (chosen all kept) ≡ kept = numbers_chosen all kept (steps_accepted c.args.accepted.now.entries c.args.steps.now kept c.requires.beside) in
    let print : (f : Footprint ℕ) → causal.event_at c.args.member all ≡ Some f → print_of c.in-Some.step.now.places ≡ f = λ f at.
    let one : Some (print_of c.in-Some.step.now.places) ≡ Some f = sym (print_placed c.args.member c.args.accepted.now.entries c.args.steps.now c.in-Some.step.now c.in-Some.ensures) ∙ at in cc in
    on_ok c.follow.result
    (λ h (f : Footprint ℕ) (at : causal.event_at c.args.member all ≡ Some f). subst (λ (g : Footprint ℕ). IsFollowed (chosen all kept) c.args.member g c.args.pending.now c.follow.new.pending) (print f at) (h (chosen all kept) rising numbers c.requires.shown))
    c.follow.ensures

pub returns-in-None : goal.returns-in-None
returns-in-None c = λ f at.
    absurd (true≢false (sym (all_among (λ k. IsSome (step_beside k c.args.accepted.now.entries c.args.steps.now)) c.args.kept.now c.args.member c.requires.beside c.requires.among) ∙ ap is_some (sym c.in-None.ensures)))
