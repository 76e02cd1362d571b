use Rattle.std.proofs.Common.{◌-◌, ◌<◌, ◌≤◌, length, Option, Ok, Result, sym, ap, ◌∙◌, subst, arith}
use Rattle.std.proofs.lemmas.Result.{err_from_is_err_and}
use Rattle.rev_syntax.specs.Statements.{statements_of}
use Rattle.rev_manifest.specs.declared.inclusion.Inclusion.{Inclusion}
use Rattle.rev_manifest.specs.declared.fault.ManifestFault.{ManifestFault}
use Rattle.rev_manifest.specs.Answers.{IsFault, and_then}
use Rattle.rev_manifest.specs.Declarations.{DeclarationsValue}
use Rattle.rev_manifest.specs.Reading.{reading, with_statements, with_inclusion}
use Rattle.rev_manifest.specs.Held.{seen_declarations}
use Rattle.rev_manifest.proofs.ReadingLemmas.{too_deep, too_many, of_file, at_end, after_first, inclusion_fault, step_of}
use Rattle.rev_manifest.proofs.reading.+read_file.Goals as goal

pub returns-then-left-eq0-clause-meant : goal.returns-then-left-eq0-clause-meant
returns-then-left-eq0-clause-meant t c =
    let files = c.args.files.now in
    let above = seen_declarations c.args.above.now in
    rw c.fault.ensures
    (ap (λ (named : Option Inclusion). with_inclusion (reading files c.args.left) (step_of above named)) c.in-Some.is
    ∙ too_deep files c.args.left above c.in-Some.inclusion c.if-left-eq0.true)

pub returns-then-content-above-clause-meant : goal.returns-then-content-above-clause-meant
returns-then-content-above-clause-meant t c =
    let files = c.args.files.now in
    let above = seen_declarations c.args.above.now in
    rw c.fault-then-content-above.ensures
    (ap (λ (named : Option Inclusion). with_inclusion (reading files c.args.left) (step_of above named)) c.in-Some.is
    ∙ too_many files c.args.left above c.in-Some.inclusion c.if-left-eq0.false c.content-content.result.now c.content-content.ensures c.if-content-above.true)

pub returns-in_err-next-clause-meant : goal.returns-in_err-next-clause-meant
returns-in_err-next-clause-meant t c =
    let files = c.args.files.now in
    let above = seen_declarations c.args.above.now in
    let p = err_from_is_err_and c.from_residual-in_err-next.result c.from_residual-in_err-next.ensures.1 in
    let whole = ap (λ (named : Option Inclusion). with_inclusion (reading files c.args.left) (step_of above named)) c.in-Some.is
    ∙ of_file files c.args.left above c.in-Some.inclusion c.if-left-eq0.false c.content-content.result.now c.content-content.ensures c.if-content-above.false in
    rw (p.1, p.2) (subst (λ (r : Result DeclarationsValue ManifestFault). IsFault c.in_err-next.field-0.0 r) (c.loop-lines.invariant.declared ∙ sym whole)
    (c.in_err-next.ensures.fault (reading files (c.args.left - 1))))

pub returns-in_err-read_file-clause-meant : goal.returns-in_err-read_file-clause-meant
returns-in_err-read_file-clause-meant t c =
    let files = c.args.files.now in
    let above = seen_declarations c.args.above.now in
    let inclusion = c.in-Some.inclusion in
    let read = reading files (c.args.left - 1) in
    let p = err_from_is_err_and c.from_residual-in_err-read_file.result c.from_residual-in_err-read_file.ensures.1 in
    let whole = ap (λ (named : Option Inclusion). with_inclusion (reading files c.args.left) (step_of above named)) c.in-Some.is
    ∙ of_file files c.args.left above inclusion c.if-left-eq0.false c.content-content.result.now c.content-content.ensures c.if-content-above.false in
    let added = rw c.in-Some-2.is at c.in_ok-next.ensures.added in
    let step = step_of (seen_declarations c.add_next.new.above) c.in-Some-2.next in
    rw (p.1, p.2) (subst (λ (r : Result DeclarationsValue ManifestFault). IsFault c.in_err-read_file.field-0.0 r)
    (sym (after_first files read inclusion.file inclusion.scope (seen_declarations c.loop-lines.above) (statements_of c.loop-lines.rest.now) (statements_of c.in-Some-2.after.now) added.0 step added.1 added.2)
    ∙ c.loop-lines.invariant.declared ∙ sym whole)
    (inclusion_fault files read inclusion.file inclusion.scope (seen_declarations c.add_next.new.above) step (statements_of c.in-Some-2.after.now) c.in_err-read_file.field-0.0 c.in_err-read_file.ensures.meant))

pub loop-lines-preserved : goal.loop-lines-preserved
loop-lines-preserved t c =
    let files = c.args.files.now in
    let inclusion = c.in-Some.inclusion in
    let read = reading files (c.args.left - 1) in
    let added = rw c.in-Some-2.is at c.in_ok-next.ensures.added in
    let step = step_of (seen_declarations c.add_next.new.above) c.in-Some-2.next in
    let wider : length c.loop-lines.above.scopes ≤ length c.add_next.new.above.scopes = c.in_ok-next.ensures.grows in
    let wider_still : length c.add_next.new.above.scopes ≤ length c.read_file.new.above.scopes = c.in_ok-read_file.ensures.grows in
    let before : length c.args.above.now.scopes ≤ length c.loop-lines.above.scopes = c.loop-lines.invariant.grows in
    let inside : inclusion.scope < length c.loop-lines.above.scopes = c.loop-lines.invariant.within in
    record {
      declared =
          sym (ap (λ (r : Result DeclarationsValue ManifestFault). and_then r (λ more. with_statements files read inclusion.file inclusion.scope more (statements_of c.in-Some-2.after.now))) c.in_ok-read_file.ensures.meant)
          ∙ sym (after_first files read inclusion.file inclusion.scope (seen_declarations c.loop-lines.above) (statements_of c.loop-lines.rest.now) (statements_of c.in-Some-2.after.now) added.0 step added.1 added.2)
          ∙ c.loop-lines.invariant.declared;
      grows = omega arith;
      within = omega arith;
      place = c.loop-lines.invariant.place;
    }

pub returns-clause-meant : goal.returns-clause-meant
returns-clause-meant t c =
    let files = c.args.files.now in
    let above = seen_declarations c.args.above.now in
    let inclusion = c.in-Some.inclusion in
    let read = reading files (c.args.left - 1) in
    let whole = ap (λ (named : Option Inclusion). with_inclusion (reading files c.args.left) (step_of above named)) c.in-Some.is
    ∙ of_file files c.args.left above inclusion c.if-left-eq0.false c.content-content.result.now c.content-content.ensures c.if-content-above.false in
    let added = rw c.in_default-2.is at c.in_ok-next.ensures.added in
    whole ∙ sym c.loop-lines.invariant.declared
    ∙ at_end files read inclusion.file inclusion.scope (seen_declarations c.loop-lines.above) (statements_of c.loop-lines.rest.now) added.0 ∙ ap Ok (sym added.1)
