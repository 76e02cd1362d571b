use Rattle.std.proofs.Common.{◌≡◌, List, ℕ, Option, true, length, Contains, sym, ap, subst, ◌∙◌}
use Rattle.std.specs.Prelude.{◌↔◌}
use Rattle.std.specs.Global.{Vec}
use Rattle.rev_observed.specs.declared.kind.Kind.TheVariants.{Reads}
use Rattle.rev_conflicts.specs.Places.{does}
use Rattle.rev_undeclared.proofs.AnswerLemmas.{ok-more}
use Rattle.rev_unlisted.specs.Found.{AreCountedOf, IsReadAt, IsReadOf, names_of}
use Rattle.rev_unlisted.proofs.ReadLemmas.{read-of}
use Rattle.rev_unlisted.proofs.reading.paths_of.Goals as goal

pub unlisted_paths-requires-clause-marks : goal.unlisted_paths-requires-clause-marks
unlisted_paths-requires-clause-marks c = ap length c.deref.ensures.value ∙ c.mark_counted.ensures.marks.each

pub returns-clause-found : goal.returns-clause-found
returns-clause-found c =
    let are : AreCountedOf c.args.graph.now.manifest.builds (names_of c.args.lists.now) c.args.paths.now c.args.user c.deref.result.now =
    subst (λ (l : List (Option ℕ)). AreCountedOf c.args.graph.now.manifest.builds (names_of c.args.lists.now) c.args.paths.now c.args.user l) (sym c.deref.ensures.value) c.mark_counted.ensures.exact in
    let same : (path : ℕ) → IsReadAt c.args.graph.now.manifest.builds c.args.paths.now c.args.hidden.now c.args.builds.now c.args.stronger.now c.deref.result.now c.args.user c.args.used.now path
    ↔ IsReadOf c.args.graph.now.manifest.builds c.args.paths.now c.args.hidden.now c.args.builds.now c.args.stronger.now (names_of c.args.lists.now) c.args.user c.args.used.now path = λ path.
    read-of c.args.graph.now.manifest.builds c.args.paths.now c.args.hidden.now c.args.builds.now c.args.stronger.now (names_of c.args.lists.now) c.deref.result.now c.args.user c.args.used.now path are in
    ok-more (λ (v : Vec ℕ). (path : ℕ) → Contains v.items path
    ↔ ((does Reads c.args.used.now path ≡ true) × IsReadAt c.args.graph.now.manifest.builds c.args.paths.now c.args.hidden.now c.args.builds.now c.args.stronger.now c.deref.result.now c.args.user c.args.used.now path))
    (λ (v : Vec ℕ). (path : ℕ) → Contains v.items path
    ↔ ((does Reads c.args.used.now path ≡ true) × IsReadOf c.args.graph.now.manifest.builds c.args.paths.now c.args.hidden.now c.args.builds.now c.args.stronger.now (names_of c.args.lists.now) c.args.user c.args.used.now path))
    (λ v h path. (λ x. let f = (h path).0 x in (f.0, (same path).0 f.1), λ both. (h path).1 (both.0, (same path).1 both.1)))
    c.unlisted_paths.result c.unlisted_paths.ensures
