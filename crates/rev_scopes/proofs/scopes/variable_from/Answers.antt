use Rattle.std.proofs.Common.{◌<◌, length, ap, sym, ◌∙◌, arith}
use Rattle.rev_scopes.specs.Bindings.{value_of}
use Rattle.rev_scopes.proofs.ScopeLemmas.{at_number, found-own, found-above, found-nowhere}
use Rattle.rev_scopes.proofs.scopes.variable_from.Goals as goal

pub returns-in-Some : goal.returns-in-Some
returns-in-Some c =
    let scopes = c.args.scopes.now in
    let name = c.args.name.now in
    let i = c.loop-value.number in
    let within = c.loop-value.invariant.0 in
    let at = at_number scopes i c.index-scopes-number.result within c.index-scopes-number.is in
    let own = ap (λ scope. value_of name scope.variables) (sym at) ∙ sym c.in-Some.ensures in
    sym (found-own (λ scope. value_of name scope.variables) scopes c.requires.nested i within c.in-Some.value.now own) ∙ c.loop-value.invariant.1

pub loop-value-smaller : goal.loop-value-smaller
loop-value-smaller c =
    let scopes = c.args.scopes.now in
    let i = c.loop-value.number in
    let within = c.loop-value.invariant.0 in
    let at = at_number scopes i c.index-scopes-number.result within c.index-scopes-number.is in
    c.requires.nested i c.in-Some-parent.parent within (ap (λ scope. scope.parent) (sym at) ∙ sym c.in-Some-parent.ensures)

pub loop-value-preserved : goal.loop-value-preserved
loop-value-preserved c =
    let scopes = c.args.scopes.now in
    let name = c.args.name.now in
    let i = c.loop-value.number in
    let p = c.in-Some-parent.parent in
    let within : i < length scopes = c.loop-value.invariant.0 in
    let at = at_number scopes i c.index-scopes-number.result within c.index-scopes-number.is in
    let none = ap (λ scope. value_of name scope.variables) (sym at) ∙ sym c.in_default.ensures in
    let parent = ap (λ scope. scope.parent) (sym at) ∙ sym c.in-Some-parent.ensures in
    let below : p < i = c.requires.nested i p within parent in
    (omega arith, sym (found-above (λ scope. value_of name scope.variables) scopes c.requires.nested i p within none parent) ∙ c.loop-value.invariant.1)

pub returns-in-None : goal.returns-in-None
returns-in-None c =
    let scopes = c.args.scopes.now in
    let name = c.args.name.now in
    let i = c.loop-value.number in
    let within = c.loop-value.invariant.0 in
    let at = at_number scopes i c.index-scopes-number.result within c.index-scopes-number.is in
    let none = ap (λ scope. value_of name scope.variables) (sym at) ∙ sym c.in_default.ensures in
    let parent = ap (λ scope. scope.parent) (sym at) ∙ sym c.in-None.ensures in
    sym (found-nowhere (λ scope. value_of name scope.variables) scopes c.requires.nested i within none parent) ∙ c.loop-value.invariant.1
