use Rattle.std.proofs.Common.{◌≡◌, ℕ, ◌+◌, ◌<◌, List, ◌++◌, length, bytes_eq, sym, ap, subst, ◌∙◌, arith}
use Rattle.std.specs.List.{IsDistinct}
use Rattle.rev_paths.specs.Mentions.{first_mentions}
use Rattle.rev_scopes.specs.Scopes.{variable_in}
use Rattle.rev_scopes.specs.Expansion.{in_block}
use Rattle.rev_manifest.specs.Names.{without}
use Rattle.rev_manifest.proofs.KeptLemmas.{names-length, outputs-once, outputs-some}
use Rattle.rev_manifest.proofs.statements.paths_of.Goals as goal

abbrev look_up : (c : goal.In_ok-outs-2) → List ℕ → List ℕ
look_up c = in_block c.args.block.now (variable_in c.args.scopes.now c.args.scope)

-- the outputs of the edge are those of the line, each once
outputs-are : (c : goal.In_ok-outs-2) → c.in_ok-outs-2.outs.items ++ c.in_ok-implicit_outs-3.implicit_outs.items
    ≡ first_mentions c.in_ok-outs.outs.items ++ without c.in_ok-outs.outs.items (first_mentions c.in_ok-implicit_outs.implicit_outs.items)
outputs-are c =
    let others = c.in_ok-implicit_outs-3.ensures ∙ (λ i. without (c.deref-7.ensures.value i) (c.in_ok-implicit_outs-2.ensures i)) in
    (λ i. c.in_ok-outs-2.ensures i ++ others i)

pub invariant_of-result-clause-has_output : goal.invariant_of-result-clause-has_output
invariant_of-result-clause-has_output c =
    let outs = c.in_ok-outs.outs.items in
    let implicit_outs = c.in_ok-implicit_outs.implicit_outs.items in
    let first : length outs ≡ length c.deref.result.now = names-length c.args.place (look_up c) c.deref.result.now outs c.in_ok-outs.ensures in
    let second : length implicit_outs ≡ length c.deref-2.result.now =
    names-length c.args.place (look_up c) c.deref-2.result.now implicit_outs c.in_ok-implicit_outs.ensures in
    let given : 0 < length c.args.build.now.outs.items + length c.args.build.now.implicit_outs.items = c.args.build.now.has_output in
    let some : 0 < length outs + length implicit_outs =
    omega (arith, first, second, ap length c.deref.ensures.value, ap length c.deref-2.ensures.value, given) in
    subst (λ (paths : List (List ℕ)). 0 < length paths) (sym (outputs-are c)) (outputs-some outs implicit_outs some)

pub invariant_of-result-clause-once : goal.invariant_of-result-clause-once
invariant_of-result-clause-once c =
    subst (λ (paths : List (List ℕ)). IsDistinct bytes_eq paths) (sym (outputs-are c)) (outputs-once c.in_ok-outs.outs.items c.in_ok-implicit_outs.implicit_outs.items)
