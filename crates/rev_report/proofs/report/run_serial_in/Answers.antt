use Rattle.std.proofs.Common.{◌≡◌, Err, Some, Option, ap, sym, subst}
use Rattle.rev_manifest.specs.declared.fault.ManifestFault.{ManifestFault}
use Rattle.rev_manifest.specs.Manifest.{first_fault, manifest_of}
use Rattle.rev_manifest.specs.Seen.{seen_files}
use Rattle.rev_script.specs.Output.{Writes}
use Rattle.std.specs.Cow.{cow_slice_items}
use Rattle.rev_report.specs.Report.{manifest_report, unless_fault}
use Rattle.rev_script.specs.Lines.{manifest_fault_line}
use Rattle.rev_report.proofs.report.run_serial_in.Goals as goal

pub returns-in-Err-Manifest-clause-text : goal.returns-in-Err-Manifest-clause-text
returns-in-Err-Manifest-clause-text g c =
    let first : first_fault (seen_files c.args.files.now) ≡ Some c.in-Err-Manifest.fault = c.in-Err-Manifest.ensures.fault c.in-Err-Manifest.fault (ap Err c.in-Err-Manifest.field-0-is) in
    let P : Option ManifestFault → Type 0 = λ fault.
    Writes c.report_manifest_fault.result (g.W.Write.contents c.args.writer.now) (g.W.Write.contents c.report_manifest_fault.new.writer)
    (unless_fault fault (manifest_fault_line (seen_files c.args.files.now)) (manifest_report (manifest_of (seen_files c.args.files.now)) (cow_slice_items c.args.trace.now) c.args.script.now)).text in
    subst P (sym first) c.report_manifest_fault.ensures.text
