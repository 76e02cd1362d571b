use Rattle.std.proofs.Common.{◌≡◌, true, false, Some, Ok, Err, ap, ◌∙◌, refl, sym}
use Rattle.rev_cells.specs.declared.cell.Cell.TheVariants as cell
use Rattle.rev_cells.specs.declared.fault.OpeningFault.TheVariants as refusal
use Rattle.rev_fields.specs.declared.faults.LineFault.TheVariants as line
use Rattle.rev_trace.specs.declared.record.Record.TheVariants.{Stamp, Built, Deps}
use Rattle.rev_trace.specs.Heads.{record_fault, seen}
use Rattle.rev_trace.proofs.HeadLemmas.{double_from_fault, double_is, no_record, record_from_place}
use Rattle.rev_trace.proofs.head.add.Goals as goal

pub returns-in-Ok-clause-sound : goal.returns-in-Ok-clause-sound
returns-in-Ok-clause-sound c =
    double_is (seen c.args.head.now) c.args.said (Stamp c.in-Stamp.path c.in-Stamp.stamp) (cell.Stamp c.in-Stamp.path) false c.in-Stamp.is refl
    (no_record c.args.head.now.opening (cell.Stamp c.in-Stamp.path) (λ there. let no : Ok c.in-Ok.field-0 ≡ Err refusal.DoubleRecord = c.in-Ok.ensures.double.1 there in cc))

pub returns-in-Err-add_stamp-clause-fault : goal.returns-in-Err-add_stamp-clause-fault
returns-in-Err-add_stamp-clause-fault c = λ kind h.
    let is = c.line_fault-in-Err-add_stamp.ensures in
    let same : record_fault c.in-Err-add_stamp.fault ≡ line.Kind kind = cc in
    let double = double_from_fault c.in-Err-add_stamp.fault kind same (λ e. c.in-Err-add_stamp.ensures.no_jobs (ap Err e)) in
    let there = c.in-Err-add_stamp.ensures.double.0 (ap Err double.0) in
    double_is (seen c.args.head.now) c.args.said (Stamp c.in-Stamp.path c.in-Stamp.stamp) (cell.Stamp c.in-Stamp.path) true c.in-Stamp.is refl (record_from_place c.args.head.now.opening (cell.Stamp c.in-Stamp.path) there) ∙ ap Some (sym double.1)

pub returns-in-Ok-add_built_record-clause-sound : goal.returns-in-Ok-add_built_record-clause-sound
returns-in-Ok-add_built_record-clause-sound c =
    double_is (seen c.args.head.now) c.args.said (Built c.in-Built.path c.in-Built.stamp c.in-Built.command) (cell.Built c.in-Built.path) false c.in-Built.is refl
    (no_record c.args.head.now.opening (cell.Built c.in-Built.path) (λ there. let no : Ok c.in-Ok-add_built_record.field-0 ≡ Err refusal.DoubleRecord = c.in-Ok-add_built_record.ensures.double.1 there in cc))

pub returns-in-Err-add_built_record-clause-fault : goal.returns-in-Err-add_built_record-clause-fault
returns-in-Err-add_built_record-clause-fault c = λ kind h.
    let is = c.line_fault-in-Err-add_built_record.ensures in
    let same : record_fault c.in-Err-add_built_record.fault ≡ line.Kind kind = cc in
    let double = double_from_fault c.in-Err-add_built_record.fault kind same (λ e. c.in-Err-add_built_record.ensures.no_jobs (ap Err e)) in
    let there = c.in-Err-add_built_record.ensures.double.0 (ap Err double.0) in
    double_is (seen c.args.head.now) c.args.said (Built c.in-Built.path c.in-Built.stamp c.in-Built.command) (cell.Built c.in-Built.path) true c.in-Built.is refl (record_from_place c.args.head.now.opening (cell.Built c.in-Built.path) there) ∙ ap Some (sym double.1)

pub returns-in-Ok-add_deps_record-clause-sound : goal.returns-in-Ok-add_deps_record-clause-sound
returns-in-Ok-add_deps_record-clause-sound c =
    double_is (seen c.args.head.now) c.args.said (Deps c.in-Deps.path c.in-Deps.stamp c.in-Deps.paths) (cell.Deps c.in-Deps.path) false c.in-Deps.is refl
    (no_record c.args.head.now.opening (cell.Deps c.in-Deps.path) (λ there. let no : Ok c.in-Ok-add_deps_record.field-0 ≡ Err refusal.DoubleRecord = c.in-Ok-add_deps_record.ensures.double.1 there in cc))

pub returns-in-Err-add_deps_record-clause-fault : goal.returns-in-Err-add_deps_record-clause-fault
returns-in-Err-add_deps_record-clause-fault c = λ kind h.
    let is = c.line_fault-in-Err-add_deps_record.ensures in
    let same : record_fault c.in-Err-add_deps_record.fault ≡ line.Kind kind = cc in
    let double = double_from_fault c.in-Err-add_deps_record.fault kind same (λ e. c.in-Err-add_deps_record.ensures.no_jobs (ap Err e)) in
    let there = c.in-Err-add_deps_record.ensures.double.0 (ap Err double.0) in
    double_is (seen c.args.head.now) c.args.said (Deps c.in-Deps.path c.in-Deps.stamp c.in-Deps.paths) (cell.Deps c.in-Deps.path) true c.in-Deps.is refl (record_from_place c.args.head.now.opening (cell.Deps c.in-Deps.path) there) ∙ ap Some (sym double.1)
