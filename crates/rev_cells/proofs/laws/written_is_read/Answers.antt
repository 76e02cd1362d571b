use Rattle.std.proofs.Common.{refl, ap}
use Rattle.rev_cells.specs.declared.cell.Cell.TheVariants as cell
use Rattle.rev_cells.specs.declared.value.Value.TheVariants as value
use Rattle.rev_cells.specs.State.{stamp_in, mark_in, job_in, slot_in, depth_in, built_in, deps_in, halted_in}
use Rattle.rev_cells.proofs.EntryLemmas.{value_at-set}
use Rattle.rev_cells.proofs.laws.written_is_read.Goals as goal

pub returns : goal.returns
returns c = record {
  stamps = λ s path stamp. ap stamp_in (value_at-set s (cell.Stamp path) (value.Stamp stamp) refl);
  marks = λ s edge mark. ap mark_in (value_at-set s (cell.Mark edge) (value.Mark mark) refl);
  jobs = λ s job holder. ap job_in (value_at-set s (cell.Job job) (value.Job holder) refl);
  slots = λ s pool place holder. ap slot_in (value_at-set s (cell.Slot pool place) (value.Slot holder) refl);
  depths = λ s pool depth. ap depth_in (value_at-set s (cell.Depth pool) (value.Depth depth) refl);
  built = λ s path log. ap built_in (value_at-set s (cell.Built path) (value.Built log) refl);
  deps = λ s path log. ap deps_in (value_at-set s (cell.Deps path) (value.Deps log) refl);
  halted = λ s halted. ap halted_in (value_at-set s cell.Halted (value.Halted halted) refl);
}
