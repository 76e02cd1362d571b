use Rattle.std.proofs.Common.{◌≡◌, ◌++◌, ◌∷◌, [], ℕ, List, rules, refl, sym, ap, ◌∙◌, subst, nat_eq, eq-eqb}
use Rattle.rev_accesses.specs.Following.{IsFollowed}
use Rattle.rev_accesses.specs.Value.{Prints}
use Rattle.rev_accesses.proofs.Closing.{IsClosing, first_closing, next_closing, closing_smaller, all_closed}
use Rattle.rev_causal.specs.Chosen.{chosen, is_among}
use Rattle.rev_causal.proofs.Chosen.{AllAccepted, accepted_among}
use Rattle.rev_history.specs.Steps.{place_prints}
use Rattle.rev_history.proofs.BesideKept.{or_left}
use Rattle.rev_history.proofs.NamedLemmas.{steps_accepted}
use Rattle.rev_history.proofs.closing.cone.Goals as goal

pub loop-member-init : goal.loop-member-init
loop-member-init c =
    let all : Prints = place_prints c.args.accepted.now.entries c.args.steps.now in
    let kept : List ℕ = c.args.kept.now in
    let accepted : AllAccepted all kept = steps_accepted c.args.accepted.now.entries c.args.steps.now kept c.requires.beside in
    let print = accepted_among all kept c.args.number accepted c.requires.among in
    let members : c.push.new.self.items ≡ c.args.number ∷ [] = c.in_ok-push.ensures.items ∙ ap (λ (xs : List ℕ). xs ++ c.args.number ∷ []) c.new-members.ensures.items in
    subst (λ (ms : List ℕ). IsClosing all kept c.args.number ms c.follow_member.new.pending) (sym members)
    (first_closing all kept c.requires.rising accepted c.args.number print.0 c.follow_member.new.pending print.1
    (subst (λ (old : List ℕ). IsFollowed (chosen all kept) c.args.number print.0 old c.follow_member.new.pending) c.new-pending.ensures (c.in_ok-follow_member.ensures print.0 print.1)))

pub loop-member-preserved : goal.loop-member-preserved
loop-member-preserved c =
    let all : Prints = place_prints c.args.accepted.now.entries c.args.steps.now in
    let kept : List ℕ = c.args.kept.now in
    let accepted : AllAccepted all kept = steps_accepted c.args.accepted.now.entries c.args.steps.now kept c.requires.beside in
    let here : IsClosing all kept c.args.number c.loop-member.members.items (c.in-Some.member ∷ c.next.new.self) = subst (IsClosing all kept c.args.number c.loop-member.members.items) c.in-Some.ensures.first c.loop-member.invariant in
    subst (λ (ms : List ℕ). IsClosing all kept c.args.number ms c.follow_member-in-Some.new.pending) (sym c.in_ok-push-2.ensures.items)
    (next_closing all kept c.requires.rising accepted c.args.number c.in-Some.member c.loop-member.members.items c.next.new.self c.follow_member-in-Some.new.pending c.in-Some.ensures.least here c.in_ok-follow_member-2.ensures)

pub loop-member-smaller : goal.loop-member-smaller
loop-member-smaller c =
    let all : Prints = place_prints c.args.accepted.now.entries c.args.steps.now in
    let kept : List ℕ = c.args.kept.now in
    let accepted : AllAccepted all kept = steps_accepted c.args.accepted.now.entries c.args.steps.now kept c.requires.beside in
    let here : IsClosing all kept c.args.number c.loop-member.members.items (c.in-Some.member ∷ c.next.new.self) = subst (IsClosing all kept c.args.number c.loop-member.members.items) c.in-Some.ensures.first c.loop-member.invariant in
    closing_smaller all kept c.requires.rising accepted c.args.number c.in-Some.member c.loop-member.members.items c.next.new.self c.follow_member-in-Some.new.pending c.in-Some.ensures.least here c.push-in-Some.new.self.items c.in_ok-push-2.ensures.items

pub returns : goal.returns
returns c =
    let all : Prints = place_prints c.args.accepted.now.entries c.args.steps.now in
    let kept : List ℕ = c.args.kept.now in
    let accepted : AllAccepted all kept = steps_accepted c.args.accepted.now.entries c.args.steps.now kept c.requires.beside in
    let none : c.loop-member.pending ≡ [] = search rules in
    all_closed all kept c.requires.rising accepted c.args.number c.loop-member.members.items (subst (IsClosing all kept c.args.number c.loop-member.members.items) none c.loop-member.invariant)

pub follow_member-requires-in-Some-clause-among : goal.follow_member-requires-in-Some-clause-among
follow_member-requires-in-Some-clause-among c =
    let all : Prints = place_prints c.args.accepted.now.entries c.args.steps.now in
    let here : IsClosing all c.args.kept.now c.args.number c.loop-member.members.items (c.in-Some.member ∷ c.next.new.self) = subst (IsClosing all c.args.kept.now c.args.number c.loop-member.members.items) c.in-Some.ensures.first c.loop-member.invariant in
    (here.joining c.in-Some.member (or_left (nat_eq c.in-Some.member c.in-Some.member) (is_among c.next.new.self c.in-Some.member) (eq-eqb c.in-Some.member c.in-Some.member refl))).0
