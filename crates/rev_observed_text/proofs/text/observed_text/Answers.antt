use Rattle.std.proofs.Common.{◌≡◌, ◌++◌, ◌∷◌, [], List, ℕ, map, sym, ap, ◌∙◌, subst}
use Rattle.std.specs.Prelude.{codes}
use Rattle.std.specs.List.{AllByRecursion, flat_map}
use Rattle.rev_fields.specs.Fields.{field_text, spaced}
use Rattle.rev_paths.specs.Canonical.{IsCanonical}
use Rattle.rev_observed.specs.CommandValues.{CommandValue}
use Rattle.rev_observed.specs.Says.{LinesSay, first_line, statements_of}
use Rattle.rev_observed.specs.Texts.{command_texts, ended, line_text, observed_text, path_texts}
use Rattle.rev_observed_text.specs.Writable.{IsWritable}
use Rattle.rev_observed_text.proofs.TextLemmas.{head-put, is-observation, text-put, text-read}
use Rattle.rev_observed_text.proofs.text.observed_text.Goals as goal

pub returns-clause-read : goal.returns-clause-read
returns-clause-read c =
    let o = c.args.observation.now in
    let paths = flat_map ended (map line_text (map path_texts o.paths)) in
    let commands = flat_map ended (map line_text (flat_map command_texts o.commands)) in
    let with_by = c.in_ok-push.ensures.items ∙ ap (λ l. l ++ 10 ∷ []) (c.in_ok-next_field.ensures ∙ ap (λ l. l ++ spaced (field_text c.by.result.now)) c.in_ok-text.ensures.items ∙ ap (λ b. (first_line ++ 10 ∷ codes "by") ++ spaced (field_text b)) c.by.ensures) in
    let with_paths = c.in_ok-push_paths.ensures.text ∙ ap (λ (ps : List (List ℕ)). c.push.new.self.items ++ flat_map ended (map line_text (map path_texts ps))) c.paths.ensures.same ∙ ap (λ l. l ++ paths) with_by in
    let whole = c.in_ok-push_commands.ensures.text ∙ ap (λ (cs : List CommandValue). c.push_paths.new.text.items ++ flat_map ended (map line_text (flat_map command_texts cs))) c.commands.ensures.same ∙ ap (λ l. l ++ commands) with_paths in
    let same : c.push_commands.new.text.items ≡ observed_text o = whole ∙ head-put o.by paths commands ∙ text-put o in
    let P : List ℕ → Type 0 = λ t. LinesSay (statements_of t) o in
    let canonical = subst (AllByRecursion IsCanonical) c.paths.ensures.same c.in_ok-push_paths.ensures.canonical in
    let writable = subst (AllByRecursion IsWritable) c.commands.ensures.same c.in_ok-push_commands.ensures.writable in
    subst P (sym same) (text-read o (is-observation o canonical c.paths.ensures.distinct writable c.commands.ensures.within c.commands.ensures.distinct))
