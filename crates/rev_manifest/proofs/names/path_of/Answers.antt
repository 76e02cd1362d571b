use Rattle.std.proofs.Common.{◌≡◌, ℕ, List, Ok, MatchResult, sym, subst}
use Rattle.rev_scopes.specs.Scopes.{variable_in}
use Rattle.rev_scopes.specs.Expansion.{in_block}
use Rattle.rev_manifest.specs.Answers.{IsFault}
use Rattle.rev_manifest.specs.Names.{name_of}
use Rattle.rev_manifest.proofs.names.path_of.Goals as goal

pub returns-in-Some : goal.returns-in-Some
returns-in-Some c =
    subst (λ (path : List ℕ). MatchResult c.name_of.result (λ name. name_of c.args.place path ≡ Ok name) (λ fault. IsFault fault (name_of c.args.place path)))
    (sym (c.in-Some.ensures (in_block c.args.block.now (variable_in c.args.scopes.now c.args.scope)))) c.name_of.ensures
