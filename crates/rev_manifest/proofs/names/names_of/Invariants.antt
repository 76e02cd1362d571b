use Rattle.std.proofs.Common.{◌≡◌, drop}
use Rattle.rev_scopes.specs.Scopes.{variable_in}
use Rattle.rev_scopes.specs.Expansion.{in_block}
use Rattle.rev_manifest.specs.Names.{names_of}
use Rattle.rev_manifest.proofs.AnswerLemmas.{onto_list}
use Rattle.rev_manifest.proofs.names.names_of.Given as goal

abbrev pub invariant-loop-text : goal.invariant-loop-text
invariant-loop-text l =
    onto_list l.names.items (names_of l.place (in_block l.block (variable_in l.scopes l.scope)) (drop l.text-index l.texts))
    ≡ names_of l.place (in_block l.block (variable_in l.scopes l.scope)) l.texts
