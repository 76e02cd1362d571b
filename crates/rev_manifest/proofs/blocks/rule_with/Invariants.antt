use Rattle.std.proofs.Common.{◌≡◌, drop, map}
use Rattle.rev_syntax.specs.Seen.{seen_binding}
use Rattle.rev_manifest.specs.Blocks.{are_rule_variables, with_texts, texts_of}
use Rattle.rev_manifest.proofs.blocks.rule_with.Given as goal

abbrev pub invariant-loop-binding : goal.invariant-loop-binding
invariant-loop-binding l =
    record {
      names : are_rule_variables (map seen_binding (drop l.binding-index l.bindings)) ≡ are_rule_variables (map seen_binding l.bindings);
      texts : with_texts l.texts (map seen_binding (drop l.binding-index l.bindings)) ≡ texts_of (map seen_binding l.bindings);
    }
