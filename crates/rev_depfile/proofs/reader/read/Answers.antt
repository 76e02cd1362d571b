use Rattle.std.proofs.Common.{◌≡◌, ◌⊎◌, [], Some, sym, ap, ◌∙◌, bytes_eq}
use Rattle.std.specs.List.{flat_map}
use Rattle.indexmap.specs.IndexSet.{insert_all}
use Rattle.rev_depfile.specs.declared.fault.DepfileFault.TheVariants.{Memory}
use Rattle.rev_depfile.specs.Lines.{is_line_end, lines, parts}
use Rattle.rev_depfile.specs.Value.{first_fault, first_fault_in, line_paths}
use Rattle.rev_depfile.proofs.FaultLemmas.{first_fault-same}
use Rattle.rev_depfile.proofs.LineLemmas.{fault-passed, fault-same}
use Rattle.rev_paths.proofs.MentionLemmas.{mentions-all}
use Rattle.rev_depfile.proofs.reader.read.Goals as goal

pub returns-in_err-found-clause-fault : goal.returns-in_err-found-clause-fault
returns-in_err-found-clause-fault c =
    let outputs = c.args.outputs.now in
    let bytes = c.args.bytes.now in
    let set = c.in_ok-outputs.outputs.keys in
    let same = ap (λ signs. first_fault_in set (parts is_line_end signs)) (c.deref.ensures.value ∙ c.in_ok-signs.ensures.signs) ∙ first_fault-same set outputs c.in_ok-outputs.ensures.names (lines bytes) in
    fault-passed c.from_residual-in_err-found.result c.in_err-found.field-0.0 (λ fault. (fault ≡ Memory) ⊎ (first_fault outputs bytes ≡ Some fault)) c.from_residual-in_err-found.ensures.1
    (fault-same c.in_err-found.field-0.0 (first_fault_in set (parts is_line_end c.deref.result.now)) (first_fault outputs bytes) same c.in_err-found.ensures.fault)

pub returns-clause-value : goal.returns-clause-value
returns-clause-value c =
    let bytes = c.args.bytes.now in
    c.in_ok-names_in_order.ensures.names ∙ c.in_ok-found.ensures.paths
    ∙ ap (λ signs. insert_all bytes_eq [] (flat_map line_paths (parts is_line_end signs))) (c.deref.ensures.value ∙ c.in_ok-signs.ensures.signs)
    ∙ mentions-all (flat_map line_paths (lines bytes))

pub returns-clause-sound : goal.returns-clause-sound
returns-clause-sound c =
    let outputs = c.args.outputs.now in
    let bytes = c.args.bytes.now in
    let set = c.in_ok-outputs.outputs.keys in
    sym (first_fault-same set outputs c.in_ok-outputs.ensures.names (lines bytes))
    ∙ sym (ap (λ signs. first_fault_in set (parts is_line_end signs)) (c.deref.ensures.value ∙ c.in_ok-signs.ensures.signs)) ∙ c.in_ok-found.ensures.sound
