use Rattle.std.proofs.Common.{◌≡◌, ℕ, List, Ok, subst}
use Rattle.std.proofs.lemmas.Result.{err_from_is_err_and}
use Rattle.rev_scopes.specs.Scopes.{variable_in}
use Rattle.rev_scopes.specs.Expansion.{in_block}
use Rattle.rev_manifest.specs.Answers.{IsFault}
use Rattle.rev_manifest.specs.Names.{names_of}
use Rattle.rev_manifest.proofs.names.names_in_scope.Goals as goal

pub returns-in_err-names : goal.returns-in_err-names
returns-in_err-names c =
    let look_up = variable_in c.args.scopes.now c.args.scope in
    let p = err_from_is_err_and c.from_residual.result c.from_residual.ensures.1 in
    rw (p.1, p.2) (subst (λ (block : List (List ℕ × List ℕ)). IsFault c.in_err-names.field-0.0 (names_of c.args.place (in_block block look_up) c.args.texts.now)) c.new.ensures c.in_err-names.ensures)

pub returns : goal.returns
returns c =
    let look_up = variable_in c.args.scopes.now c.args.scope in
    subst (λ (block : List (List ℕ × List ℕ)). names_of c.args.place (in_block block look_up) c.args.texts.now ≡ Ok c.in_ok-names.names.items) c.new.ensures c.in_ok-names.ensures
