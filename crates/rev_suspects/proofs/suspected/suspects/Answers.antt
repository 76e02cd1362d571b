use Rattle.std.proofs.Common.{◌≡◌, ℕ, ◌<◌, true, List, length, sym, ap, subst, ◌∙◌}
use Rattle.std.specs.Global.{Vec}
use Rattle.std.specs.List.{flat_map}
use Rattle.std.proofs.lemmas.Bool.{eqb-true}
use Rattle.rev_history.specs.Timeline.{is_among}
use Rattle.rev_suspects.specs.declared.failed.Failure.{Failure}
use Rattle.rev_suspects.specs.declared.suspected.Suspect.{Suspect}
use Rattle.rev_suspects.specs.Suspects.{failure_in, first_suspects, suspects_of}
use Rattle.rev_suspects.proofs.SuspectLemmas.{first-kept, none-failed, ok-more}
use Rattle.rev_suspects.proofs.suspected.suspects.Goals as goal

pub returns-then-is_empty : goal.returns-then-is_empty
returns-then-is_empty c =
    none-failed c.args.history.now.timeline c.args.files.now c.args.most c.in_ok-failures.failures.items c.new-none.result.items c.in_ok-failures.ensures.failures
    (sym c.in_ok-failures.failures.ok.0 ∙ eqb-true c.in_ok-failures.failures.len 0 (sym c.is_empty.ensures ∙ c.if-is_empty.true)) c.new-none.ensures.items

pub found_suspects-requires-clause-kept : goal.found_suspects-requires-clause-kept
found_suspects-requires-clause-kept c =
    subst (λ (fs : List Failure). (place : ℕ) → place < length fs → is_among c.args.history.now.timeline.kept (failure_in fs place).began ≡ true) (sym c.deref.ensures.value)
    (first-kept c.args.history.now.timeline c.args.most c.in_ok-failures.failures.items c.in_ok-failures.ensures.failures)

pub returns : goal.returns
returns c =
    let t = c.args.history.now.timeline in
    ok-more (λ (all : Vec Suspect). all.items ≡ flat_map (suspects_of c.args.history.now.timeline c.args.files.now) c.deref.result.now)
    (λ (all : Vec Suspect). all.items ≡ first_suspects c.args.history.now.timeline c.args.files.now c.args.most)
    (λ all found. found ∙ ap (flat_map (suspects_of t c.args.files.now)) (c.deref.ensures.value ∙ c.in_ok-failures.ensures.failures))
    c.found_suspects.result c.found_suspects.ensures
