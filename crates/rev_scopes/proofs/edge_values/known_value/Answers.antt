use Rattle.std.proofs.Common.{◌≡◌, ◌≤◌, List, ℕ, [], ◌∷◌, Option, length, rules, sym, ◌∙◌, subst}
use Rattle.rev_syntax.specs.Texts.{Variable}
use Rattle.rev_scopes.specs.declared.fault.ValueFault.TheVariants.{NeedsItself, TooLarge}
use Rattle.rev_scopes.specs.declared.growth.TheConstants.{MAX_VALUE_BYTES}
use Rattle.rev_scopes.specs.RuleNames.{name_of}
use Rattle.rev_scopes.specs.Edges.{seen_edge, HasValue}
use Rattle.rev_scopes.specs.Slots.{seen_slots, IsAdded}
use Rattle.rev_scopes.proofs.SlotLemmas.{known_added, known_name, limited-some, limited-none}
use Rattle.rev_scopes.proofs.edge_values.known_value.Goals as goal

pub returns-in-Some : goal.returns-in-Some
returns-in-Some c =
    let edge = seen_edge c.args.edge.now in
    let slots = seen_slots c.args.slots.now in
    let name = name_of c.args.variable in
    let step =
    subst (λ (old : Option (List ℕ)). IsAdded edge slots (Variable name ∷ []) old c.in_ok-_is_known._is_known c.push_piece.new.value) c.new-value.ensures
    (subst (λ (n : List ℕ). IsAdded edge slots (Variable n ∷ []) c.new-value.result c.in_ok-_is_known._is_known c.push_piece.new.value) c.name.ensures c.in_ok-_is_known.ensures) in
    let added = known_added edge slots name c.push_piece.new.value c.in_ok-_is_known._is_known (c.requires.known c.args.variable c.requires.needed) step in
    let same = limited-some added.0 c.in-Some.bytes.items (sym added.2 ∙ sym c.in-Some.ensures.value) in
    let within : length c.in-Some.bytes.items ≤ MAX_VALUE_BYTES = search rules in
    record { is = subst (λ (value : List ℕ). HasValue edge name value) same.0 added.1; within = within }

pub returns-in-None : goal.returns-in-None
returns-in-None c =
    let edge = seen_edge c.args.edge.now in
    let slots = seen_slots c.args.slots.now in
    let name = name_of c.args.variable in
    let step =
    subst (λ (old : Option (List ℕ)). IsAdded edge slots (Variable name ∷ []) old c.in_ok-_is_known._is_known c.push_piece.new.value) c.new-value.ensures
    (subst (λ (n : List ℕ). IsAdded edge slots (Variable n ∷ []) c.new-value.result c.in_ok-_is_known._is_known c.push_piece.new.value) c.name.ensures c.in_ok-_is_known.ensures) in
    let added = known_added edge slots name c.push_piece.new.value c.in_ok-_is_known._is_known (c.requires.known c.args.variable c.requires.needed) step in
    record {
      finite = λ same. (let no : TooLarge ≡ NeedsItself = same in cc);
      large = λ _. (c.args.variable, added.0, c.requires.needed, added.1, limited-none added.0 (sym added.2 ∙ sym c.in-None.ensures.value));
      all = λ _ variable needed. known_name (seen_edge c.args.edge.now) (seen_slots c.args.slots.now) (name_of variable) c.requires.slots (c.requires.known variable needed);
    }
