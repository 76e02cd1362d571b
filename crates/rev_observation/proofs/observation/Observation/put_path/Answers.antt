use Rattle.std.proofs.Common.{length, Ok, refl, subst}
use Rattle.rev_observation.specs.Entries.{EntriesValue, entry_put}
use Rattle.rev_observation.specs.Faults.{Answers}
use Rattle.rev_observation.specs.Observations.{ObservationValue, path_put}
use Rattle.rev_observation.proofs.AnswerLemmas.{answers_then}
use Rattle.rev_observation.proofs.CommandLemmas.{lines-more, within-more}
use Rattle.rev_observation.proofs.observation.Observation.put_path.Goals as goal

pub invariant_of-self : goal.invariant_of-self
invariant_of-self c =
    let m = length c.self.inside.entries.paths in
    let n = length c.put.new.self.paths in
    (c.self.invariant.0, within-more m n c.put.ensures.more c.self.inside.commands.items c.self.invariant.1, lines-more m n c.put.ensures.more c.self.inside.ninja.items c.self.invariant.2)

pub returns : goal.returns
returns c =
    let before : ObservationValue = record { by = c.self.inside.by; entries = c.self.inside.entries; names = c.self.inside.names; same = c.self.inside.same.items; opening = c.self.inside.opening; hidden = c.self.inside.hidden.items; has_ninja = c.self.inside.has_ninja; ninja = c.self.inside.ninja.items; commands = c.self.inside.commands.items; is_ended = c.self.inside.is_ended; is_complete = c.self.inside.is_complete } in
    let with_entries : EntriesValue → ObservationValue = λ e. record before { entries = e } in
    let P : ObservationValue → Type 0 = λ o. Answers c.put.result (λ _. with_entries c.put.new.self) (path_put o c.args.path.now c.args.folder) in
    subst P c.self.view_is (answers_then c.put.result (λ _. c.put.new.self) (λ _. with_entries c.put.new.self) (entry_put before.entries c.args.path.now c.args.folder) (λ e. Ok (with_entries e)) (λ _. refl) c.put.ensures.said)
