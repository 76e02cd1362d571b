-- What an opening holds besides records.
use Rattle.std.proofs.Common.{◌≡◌, ℕ, ◌<◌, ◌≤◌, true, false, cond, refl, sym, ap, subst, ◌∙◌}
use Rattle.std.specs.FinMap.{get, get-empty, empty}
use Rattle.rev_cells.specs.declared.cell.Cell.{Cell}
use Rattle.rev_cells.specs.declared.cell.Cell.TheVariants as cell
use Rattle.rev_cells.specs.declared.value.Value.{Value}
use Rattle.rev_cells.specs.Keys.{cell_cmp}
use Rattle.rev_cells.specs.State.{State, set, default_or, mark_in, job_in, slot_in, depth_in}
use Rattle.rev_cells.specs.Table.{Records, Table, no_records, opened, written}
use Rattle.rev_cells.specs.Values.{unless_default}
use Rattle.rev_cells.specs.Opened.{is_of_record, HasRecordsAlone, IsOpened, IsOpening}
use Rattle.rev_cells.proofs.EntryLemmas.{get-set, other_cell}

-- nothing was given yet
pub none_given : HasRecordsAlone empty
none_given c other = get-empty cell_cmp c

-- a record more
pub one_more : (s : State) (c : Cell) (v : Value) → is_of_record c ≡ true → HasRecordsAlone s → HasRecordsAlone (set s c v)
one_more s c v record_is alone q other =
    let apart : q ≡ c → ⊥ = λ e. let both : true ≡ false = sym record_is ∙ sym (ap is_of_record e) ∙ other in cc in
    get-set s c v q ∙ ap (λ b. cond b (unless_default v) (get s q)) (other_cell q c apart) ∙ alone q other

-- where there are records alone, nothing is marked or held
pub opened_of : (s : State) → HasRecordsAlone s → IsOpened s
opened_of s alone = record {
  marks = λ edge. ap (λ v. mark_in (default_or (cell.Mark edge) v)) (alone (cell.Mark edge) refl);
  jobs = λ job. ap (λ v. job_in (default_or (cell.Job job) v)) (alone (cell.Job job) refl);
  slots = λ pool place. ap (λ v. slot_in (default_or (cell.Slot pool place) v)) (alone (cell.Slot pool place) refl);
  depths = λ pool. ap (λ v. depth_in (default_or (cell.Depth pool) v)) (alone (cell.Depth pool) refl);
}

-- what is shown of cells
abbrev shown : Table → Records
shown t = record { jobs = t.jobs; state = t.state; places = t.places }

-- the cells with so many jobs and no record
pub no_record : (jobs : ℕ) (t : Table) → t ≡ opened (no_records jobs) → 0 < jobs → jobs ≤ 1024 → IsOpening (shown t)
no_record jobs t is some few =
    let P : Table → Type 0 = λ u. IsOpening (shown u) in
    subst P (sym is) (record { some_jobs = some; few_jobs = few; records = none_given })

-- a record was written to cells that show an opening
pub record_written : (before between after : Table) (c : Cell) (v : Value) → is_of_record c ≡ true → between.state ≡ before.state → between.jobs ≡ before.jobs
    → after ≡ written between c v → IsOpening (shown before) → IsOpening (shown after)
record_written before between after c v record_is state jobs is o =
    let P : Table → Type 0 = λ u. IsOpening (shown u) in
    subst P (sym is) (record {
      some_jobs = subst (λ n. 0 < n) (sym jobs) o.some_jobs;
      few_jobs = subst (λ n. n ≤ 1024) (sym jobs) o.few_jobs;
      records = one_more between.state c v record_is (subst HasRecordsAlone (sym state) o.records);
    })
