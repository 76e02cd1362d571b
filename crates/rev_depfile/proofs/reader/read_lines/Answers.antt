use Rattle.std.proofs.Common.{◌≡◌, ◌⊎◌, ◌∷◌, [], Some, drop, sym, ap, ◌∙◌, bytes_eq}
use Rattle.std.specs.List.{flat_map}
use Rattle.indexmap.specs.IndexSet.{insert_all}
use Rattle.rev_depfile.specs.declared.fault.DepfileFault.TheVariants.{Memory}
use Rattle.rev_depfile.specs.Lines.{is_line_end, parts}
use Rattle.rev_depfile.specs.Value.{first_fault_in, line_paths}
use Rattle.rev_depfile.proofs.LineLemmas.{fault-passed, fault-here, faults-last, faults-more, paths-last, paths-more}
use Rattle.rev_depfile.proofs.WordLemmas.{empty_of_length}
use Rattle.rev_depfile.proofs.reader.read_lines.Goals as goal

pub returns-in_err-read_line-clause-fault : goal.returns-in_err-read_line-clause-fault
returns-in_err-read_line-clause-fault c =
    let outputs = c.args.outputs.now.keys in
    let all = first_fault_in outputs (parts is_line_end c.args.signs.now) in
    fault-passed c.from_residual.result c.in_err-read_line.field-0.0 (λ fault. (fault ≡ Memory) ⊎ (all ≡ Some fault)) c.from_residual.ensures.1
    (fault-here outputs c.loop-found.rest.now c.split_at.result.0.now c.line_len.result c.in_err-read_line.field-0.0 all c.line_len.ensures.place c.split_at.ensures.front c.loop-found.invariant.1 c.in_err-read_line.ensures.fault)

pub returns-in-None-clause-paths : goal.returns-in-None-clause-paths
returns-in-None-clause-paths c =
    let rest = c.loop-found.rest.now in
    let none : drop c.line_len.result rest ≡ [] = sym c.split_at.ensures.back ∙ empty_of_length c.split_at.result.1.now c.in-None.ensures.cases in
    c.in_ok-read_line.ensures.paths ∙ paths-last c.loop-found.found.keys rest c.split_at.result.0.now c.line_len.result c.line_len.ensures.place c.split_at.ensures.front none ∙ c.loop-found.invariant.0

pub returns-in-None-clause-sound : goal.returns-in-None-clause-sound
returns-in-None-clause-sound c =
    let rest = c.loop-found.rest.now in
    let none : drop c.line_len.result rest ≡ [] = sym c.split_at.ensures.back ∙ empty_of_length c.split_at.result.1.now c.in-None.ensures.cases in
    sym c.loop-found.invariant.1 ∙ faults-last c.args.outputs.now.keys rest c.split_at.result.0.now c.line_len.result c.line_len.ensures.place c.split_at.ensures.front none c.in_ok-read_line.ensures.sound

pub loop-found-preserved : goal.loop-found-preserved
loop-found-preserved c =
    let rest = c.loop-found.rest.now in
    let line = c.split_at.result.0.now in
    let after = c.in-Some.after.now in
    let n = c.line_len.result in
    let x = c.in-Some.field-0-0.now in
    let some : drop n rest ≡ x ∷ after = sym c.split_at.ensures.back ∙ c.in-Some.ensures.cases.0 in (
      ap (λ ks. insert_all bytes_eq ks (flat_map line_paths (parts is_line_end after))) c.in_ok-read_line.ensures.paths
          ∙ paths-more c.loop-found.found.keys rest line after n x c.line_len.ensures.place c.split_at.ensures.front some ∙ c.loop-found.invariant.0,
      faults-more c.args.outputs.now.keys rest line after n x c.line_len.ensures.place c.split_at.ensures.front some c.in_ok-read_line.ensures.sound ∙ c.loop-found.invariant.1,
    )
