use Rattle.std.proofs.Common.{◌≡◌, ◌≢◌, ◌<◌, ◌+◌, ℕ, Bool, true, false, List, Some, bytes_eq, length, take, Contains, ◌⊎◌, refl, sym, ap, subst, ◌∙◌, arith, true≢false, if◌then◌else◌}
use Rattle.std.specs.Global.{Vec}
use Rattle.std.specs.Prelude.{◌↔◌, not, slice_get}
use Rattle.std.specs.List.{list_any}
use Rattle.std.proofs.lemmas.Bool.{not-true, not-false}
use Rattle.std.proofs.lemmas.Option.{slice_get_read}
use Rattle.indexmap.specs.IndexSet.{contains}
use Rattle.rev_races.specs.declared.making.KeptMakers.{KeptMakers}
use Rattle.rev_races.specs.Keys.{SomeBelow}
use Rattle.rev_races.specs.Searches.{AreKeptMakers}
use Rattle.rev_races.proofs.KeyLemmas.{either-more, some-more, some-skip}
use Rattle.rev_hints.specs.declared.named.NameHint.{NameHint}
use Rattle.rev_hints.specs.Names.{IsHintHere}
use Rattle.rev_hints.proofs.NameLemmas.{first-place, hint-here, hints-among, none-here, seen-next}
use Rattle.rev_hints.proofs.named.add_among.Goals as goal
use Rattle.rev_hints.proofs.named.add_among.Goals.{then-first+in_ok-add_at, else-first}

pub loop-place-preserved : goal.loop-place-preserved
loop-place-preserved c =
    let builds = c.args.graph.now.manifest.builds in
    let files = c.args.files.now in
    let names = c.args.names.now.entries in
    let whole = c.args.whole.now in
    let user = c.args.user in
    let paths = c.args.paths.now in
    let place = c.loop-place.place in
    let path = c.index-paths-place.result in
    let stands : slice_get c.args.paths.now c.loop-place.place ≡ Some c.index-paths-place.result = slice_get_read c.args.paths.now (length c.args.paths.now) place path refl c.loop-place-test.true c.index-paths-place.is in
    let seen = λ (other : List ℕ).
    c.in_ok-first.ensures.seen other
    ∙ ap (λ b. if bytes_eq path other then true else b) (c.loop-place.invariant.seen other)
    ∙ seen-next paths place path stands other in
    elim c.if-first.branch [
      | then-first+in_ok-add_at w ↦ record {
        hints = λ h.
            subst (λ (hs : Vec NameHint). Contains hs.items h ↔ (Contains c.args.hints.now.items h ⊎ SomeBelow (λ p. IsHintHere builds files names whole user paths p h) (place + 1))) (sym w.hints-is)
            (some-more (λ p. IsHintHere builds files names whole user paths p h) place (c.loop-place.invariant.hints h)
            (either-more (w.in_ok-add_at.ensures.hints h) (hint-here builds files whole user place names paths path stands h
            (first-place paths place path (sym (c.loop-place.invariant.seen path) ∙ not-true (contains bytes_eq c.loop-place.seen path) (sym c.in_ok-first.ensures.new ∙ w.if-first.true))))));
        seen = seen;
        kept = subst (λ (k : KeptMakers). AreKeptMakers builds k.phony k.makers.items) (sym w.kept-is) w.in_ok-add_at.ensures.kept;
      }
      | else-first w ↦ record {
        hints = λ h.
            subst (λ (hs : Vec NameHint). Contains hs.items h ↔ (Contains c.args.hints.now.items h ⊎ SomeBelow (λ p. IsHintHere builds files names whole user paths p h) (place + 1))) (sym w.hints-is)
            (some-skip (λ p. IsHintHere builds files names whole user paths p h) place (c.loop-place.invariant.hints h)
            (none-here builds files whole user place names paths path stands h (sym (c.loop-place.invariant.seen path) ∙ not-false (contains bytes_eq c.loop-place.seen path) (sym c.in_ok-first.ensures.new ∙ w.if-first.false))));
        seen = seen;
        kept = subst (λ (k : KeptMakers). AreKeptMakers builds k.phony k.makers.items) (sym w.kept-is) c.loop-place.invariant.kept;
      }
    ]

pub returns-clause-hints : goal.returns-clause-hints
returns-clause-hints c = λ h.
    let builds = c.args.graph.now.manifest.builds in
    let all : c.loop-place.place ≡ length c.args.paths.now = omega (arith, c.loop-place-test.false, c.loop-place.auto.place-end) in
    either-more
    (subst (λ n. Contains c.loop-place.hints.items h ↔ (Contains c.args.hints.now.items h ⊎ SomeBelow (λ p. IsHintHere builds c.args.files.now c.args.names.now.entries c.args.whole.now c.args.user c.args.paths.now p h) n)) all (c.loop-place.invariant.hints h))
    (hints-among builds c.args.files.now c.args.names.now.entries c.args.whole.now c.args.user c.args.paths.now h)
