use Rattle.std.proofs.Common.{◌≡◌, ℕ, List, true, subst}
use Rattle.std.specs.Prelude.{◌↔◌}
use Rattle.rev_conflicts.specs.declared.conflict.Conflict.{Conflict}
use Rattle.rev_conflicts.specs.Tables.{scene}
use Rattle.rev_certified.specs.Certain.{AreNone}
use Rattle.rev_certified.proofs.CertainLemmas.{verdict}
use Rattle.rev_certified.proofs.certificate.with_verdict.Goals as goal

pub returns-clause-certain : goal.returns-clause-certain
returns-clause-certain c =
    let r = c.are_none-is_certain.result in
    let one : (r ≡ true) ↔ AreNone c.deref.result.now c.deref-2.result.now c.args.conflicts.items =
    subst (λ (cs : List Conflict). (r ≡ true) ↔ AreNone c.deref.result.now c.deref-2.result.now cs) c.deref-3.ensures.value c.are_none-is_certain.ensures in
    let two : (r ≡ true) ↔ AreNone c.deref.result.now c.args.unsure.items c.args.conflicts.items =
    subst (λ (us : List ℕ). (r ≡ true) ↔ AreNone c.deref.result.now us c.args.conflicts.items) c.deref-2.ensures.value one in
    let three : (r ≡ true) ↔ AreNone c.args.missing.items c.args.unsure.items c.args.conflicts.items =
    subst (λ (ms : List ℕ). (r ≡ true) ↔ AreNone ms c.args.unsure.items c.args.conflicts.items) c.deref.ensures.value two in
    verdict
    (scene c.args.graph.now.manifest.builds c.args.files.now c.args.observation.now.paths c.args.observation.now.commands c.args.edges.now c.args.hidden.now)
    c.args.marks.needed.now c.args.marks.began.now c.args.marks.ended.now c.args.whole.items c.args.missing.items c.args.unsure.items c.args.conflicts.items r
    c.requires.whole c.requires.missing c.requires.unsure c.requires.conflicts three
