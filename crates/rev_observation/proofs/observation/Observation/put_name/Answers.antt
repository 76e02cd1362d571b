use Rattle.std.proofs.Common.{◌≡◌, true, false, is_some, Result, Ok, refl, ap, ◌∙◌, sym, subst}
use Rattle.rev_observed.specs.declared.faults.FaultKind.{FaultKind}
use Rattle.rev_observation.specs.Entries.{NamesValue, has_name, name_put}
use Rattle.rev_observation.specs.Faults.{Answers}
use Rattle.rev_observation.specs.Observations.{ObservationValue, also_put}
use Rattle.rev_observation.proofs.AnswerLemmas.{answers_then}
use Rattle.rev_observation.proofs.CommandLemmas.{has_name-absent, has_name-there}
use Rattle.rev_observation.proofs.EntryLemmas.{also_put-double, also_put-fresh}
use Rattle.rev_observation.proofs.observation.Observation.put_name.Goals as goal

pub returns-then-is_some : goal.returns-then-is_some
returns-then-is_some c =
    let path = c.args.path.now in
    let has : has_name c.paths.result.now path ≡ true = has_name-there path c.paths.result.now (ap is_some (sym c.find.ensures.place) ∙ sym c.is_some.ensures ∙ c.if-is_some.true) in
    also_put-double c.args.self.now path c.args.entry (ap (λ (o : ObservationValue). has_name o.entries.paths path) (sym c.self.view_is) ∙ ap (λ names. has_name names path) (sym c.paths.ensures.same) ∙ has)

pub returns : goal.returns
returns c =
    let before : ObservationValue = record { by = c.self.inside.by; entries = c.self.inside.entries; names = c.self.inside.names; same = c.self.inside.same.items; opening = c.self.inside.opening; hidden = c.self.inside.hidden.items; has_ninja = c.self.inside.has_ninja; ninja = c.self.inside.ninja.items; commands = c.self.inside.commands.items; is_ended = c.self.inside.is_ended; is_complete = c.self.inside.is_complete } in
    let path = c.args.path.now in
    let with_names : NamesValue → ObservationValue = λ n. record before { names = n } in
    let absent : has_name c.paths.result.now path ≡ false = has_name-absent path c.paths.result.now (ap is_some (sym c.find.ensures.place) ∙ sym c.is_some.ensures ∙ c.if-is_some.false) in
    let fresh : has_name before.entries.paths path ≡ false = ap (λ names. has_name names path) (sym c.paths.ensures.same) ∙ absent in
    let P : ObservationValue → Type 0 = λ o. Answers c.put.result (λ _. with_names c.put.new.self) (also_put o path c.args.entry) in
    let Q : Result ObservationValue FaultKind → Type 0 = λ r. Answers c.put.result (λ _. with_names c.put.new.self) r in
    subst P c.self.view_is (subst Q (sym (also_put-fresh before path c.args.entry fresh)) (answers_then c.put.result (λ _. c.put.new.self) (λ _. with_names c.put.new.self) (name_put before.names path c.args.entry) (λ n. Ok (with_names n)) (λ _. refl) c.put.ensures))
