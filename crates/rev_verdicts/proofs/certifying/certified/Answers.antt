use Rattle.std.proofs.Common.{◌≡◌, ◌<◌, ℕ, List, Option, None, length, refl, sym, ap, subst, ◌∙◌}
use Rattle.std.specs.List.{AllByRecursion}
use Rattle.std.specs.Option.{option_copied}
use Rattle.rev_manifest.specs.Manifest.{ManifestValue}
use Rattle.rev_observation.specs.Observations.{ObservationValue}
use Rattle.rev_verdicts.specs.Asked.{IsJudgedAt, IsJudgedBy, places_of}
use Rattle.rev_verdicts.proofs.certifying.certified.Goals as goal

pub certified_at-requires : goal.certified_at-requires
certified_at-requires c =
    subst (λ (count : ℕ). AllByRecursion (λ edge. edge < count) c.in-Some.seen.edges.now)
    (c.edges.ensures.edges ∙ ap (λ (m : ManifestValue). length m.builds) c.graph.ensures) c.in-Some.ensures.some.within

pub returns-in_ok-answer-in-Some : goal.returns-in_ok-answer-in-Some
returns-in_ok-answer-in-Some c =
    let t = c.args.history.now.timeline in
    let basis = c.args.basis.now in
    let sight = option_copied basis.sight in
    let seen = c.in-Some.seen in
    let many : c.edges.result ≡ length c.args.history.now.timeline.manifest.builds =
    c.edges.ensures.edges ∙ ap (λ (m : ManifestValue). length m.builds) c.graph.ensures in
    subst (λ (o : Option ObservationValue). IsJudgedBy t basis c.args.found.now c.args.wish c.in_ok-answer-in-Some.answer o)
    (sym (ap (λ (count : ℕ). places_of count sight) (sym many) ∙ c.in-Some.ensures.some.places))
    (subst (λ (edges : List ℕ). IsJudgedAt t basis c.args.found.now c.args.wish seen.places.now edges c.in_ok-answer-in-Some.answer) c.in-Some.ensures.some.edges c.in_ok-answer-in-Some.ensures)

pub returns-in_ok-written-in-None : goal.returns-in_ok-written-in-None
returns-in_ok-written-in-None c =
    let t = c.args.history.now.timeline in
    let basis = c.args.basis.now in
    let sight = option_copied basis.sight in
    let many : c.edges.result ≡ length c.args.history.now.timeline.manifest.builds =
    c.edges.ensures.edges ∙ ap (λ (m : ManifestValue). length m.builds) c.graph.ensures in
    subst (λ (o : Option ObservationValue). IsJudgedBy t basis c.args.found.now c.args.wish (record { certificate = None; written = c.in_ok-written-in-None.written }) o)
    (sym (ap (λ (count : ℕ). places_of count sight) (sym many) ∙ c.in-None.ensures.none)) (refl, c.in_ok-written-in-None.ensures)
