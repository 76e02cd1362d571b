-- What the types of rules hold.
use Rattle.std.specs.Prelude.{ℕ, List, map}
use Rattle.rev_scopes.specs.declared.rule.RuleText.{RuleText}
use Rattle.rev_scopes.specs.RuleNames.{name_of}
use Rattle.rev_syntax.specs.Texts.{PieceValue}

-- a rule's variable, by its name, with its text
abbrev pub seen_text : RuleText → List ℕ × List PieceValue
seen_text bound = (name_of bound.variable, bound.text)

abbrev pub seen_texts : List RuleText → List (List ℕ × List PieceValue)
seen_texts texts = map seen_text texts
