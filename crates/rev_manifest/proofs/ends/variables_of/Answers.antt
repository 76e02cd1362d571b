use Rattle.std.proofs.Common.{◌≡◌, Ok, Err, ap, subst}
use Rattle.rev_scopes.specs.Edges.{EdgeEnvValue}
use Rattle.rev_manifest.specs.declared.fault.FaultKind.TheVariants.{VariableCycle, TooLarge}
use Rattle.rev_manifest.specs.Answers.{refused, unless}
use Rattle.rev_manifest.specs.Ends.{at_end, fault_at_end, values_at_end}
use Rattle.rev_manifest.specs.Held.{seen_edge, seen_values}
use Rattle.rev_manifest.proofs.EndLemmas.{fault_needs, fault_large, fault_none, values_are}
use Rattle.rev_manifest.proofs.ends.variables_of.Goals as goal

pub returns-in-Ok : goal.returns-in-Ok
returns-in-Ok c =
    let edge = c.args.edge.now in
    let given : EdgeEnvValue =
    record { ins = c.deref.result.now; outs = c.deref-2.result.now; block = edge.block; rule = c.args.rule.now; scopes = c.args.scopes.now; scope = edge.scope } in
    let same : given ≡ at_end c.args.scopes.now (seen_edge edge) c.args.rule.now =
    (λ i. record { ins = c.deref.ensures.value i; outs = c.deref-2.ensures.value i; block = edge.block; rule = c.args.rule.now; scopes = c.args.scopes.now; scope = edge.scope }) in
    subst (λ (e : EdgeEnvValue). unless edge.place (fault_at_end e) (values_at_end e) ≡ Ok (seen_values c.in-Ok.values)) same
    (λ i. unless edge.place (fault_none given c.in-Ok.values c.in-Ok.ensures.values c.in-Ok.ensures.within c.in-Ok.ensures.response i)
    (values_are given c.in-Ok.values c.in-Ok.ensures.values c.in-Ok.ensures.within c.in-Ok.ensures.response i))

pub returns-in-Err-NeedsItself : goal.returns-in-Err-NeedsItself
returns-in-Err-NeedsItself c =
    let edge = c.args.edge.now in
    let given : EdgeEnvValue =
    record { ins = c.deref.result.now; outs = c.deref-2.result.now; block = edge.block; rule = c.args.rule.now; scopes = c.args.scopes.now; scope = edge.scope } in
    let same : given ≡ at_end c.args.scopes.now (seen_edge edge) c.args.rule.now =
    (λ i. record { ins = c.deref.ensures.value i; outs = c.deref-2.ensures.value i; block = edge.block; rule = c.args.rule.now; scopes = c.args.scopes.now; scope = edge.scope }) in
    rw c.fault.ensures (subst (λ (e : EdgeEnvValue). unless edge.place (fault_at_end e) (values_at_end e) ≡ refused edge.place VariableCycle) same
    (ap (λ o. unless edge.place o (values_at_end given)) (fault_needs given (c.in-Err-NeedsItself.ensures.needs_itself (ap Err c.in-Err-NeedsItself.field-0-is)))))

pub returns-in-Err-TooLarge : goal.returns-in-Err-TooLarge
returns-in-Err-TooLarge c =
    let edge = c.args.edge.now in
    let given : EdgeEnvValue =
    record { ins = c.deref.result.now; outs = c.deref-2.result.now; block = edge.block; rule = c.args.rule.now; scopes = c.args.scopes.now; scope = edge.scope } in
    let same : given ≡ at_end c.args.scopes.now (seen_edge edge) c.args.rule.now =
    (λ i. record { ins = c.deref.ensures.value i; outs = c.deref-2.ensures.value i; block = edge.block; rule = c.args.rule.now; scopes = c.args.scopes.now; scope = edge.scope }) in
    rw c.fault-in-Err-TooLarge.ensures (subst (λ (e : EdgeEnvValue). unless edge.place (fault_at_end e) (values_at_end e) ≡ refused edge.place TooLarge) same
    (ap (λ o. unless edge.place o (values_at_end given)) (fault_large given (c.in-Err-TooLarge.ensures.all (ap Err c.in-Err-TooLarge.field-0-is))
    (c.in-Err-TooLarge.ensures.too_large (ap Err c.in-Err-TooLarge.field-0-is)))))
