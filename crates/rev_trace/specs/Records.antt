-- The opening lines of a trace: what each says, and what they make together.
use Rattle.std.specs.Prelude.{ℕ, Bool, true, false, ◌&&◌, if◌then◌else◌, nat_lt, nat_le, bytes_eq, codes, fold, List, [], ◌∷◌, ◌++◌, Option, Some, None, Result, Ok, Err}
use Rattle.std.specs.List.{list_any}
use Rattle.rev_cells.specs.declared.cell.Cell.{Cell}
use Rattle.rev_cells.specs.declared.cell.Cell.TheVariants as cell
use Rattle.rev_cells.specs.declared.value.Value.TheVariants as value
use Rattle.rev_cells.specs.declared.opening.TheConstants.Opening.{MAX_JOBS}
use Rattle.rev_cells.specs.Keys.{cell_key}
use Rattle.rev_cells.specs.Table.{Records, no_records, with_record}
use Rattle.rev_fields.specs.declared.faults.FaultKind.{FaultKind}
use Rattle.rev_fields.specs.declared.faults.FaultKind.TheVariants.{Syntax, Number, DoubleRecord}
use Rattle.rev_fields.specs.Faults.{◌>>=◌}
use Rattle.rev_fields.specs.Fields.{texts_of}
use Rattle.rev_fields.specs.Lines.{path_of, paths_of, read_as}
use Rattle.rev_trace.specs.declared.record.Record.{Record}
use Rattle.rev_trace.specs.declared.record.Record.TheVariants.{Jobs, Stamp, Built, Deps, Target}
use Rattle.rev_trace.specs.Commands.{short, long}

-- `jobs N`
abbrev pub jobs_of : List (List ℕ) → Result Record FaultKind
jobs_of [] = Err Syntax
jobs_of (jobs ∷ []) = short jobs >>= λ n. Ok (Jobs n)
jobs_of (jobs ∷ more ∷ rest) = Err Syntax

-- `stamp PATH N`
abbrev pub stamp_of : List (List ℕ) → Result Record FaultKind
stamp_of [] = Err Syntax
stamp_of (path ∷ []) = Err Syntax
stamp_of (path ∷ stamp ∷ []) = path_of path >>= λ p. long stamp >>= λ n. Ok (Stamp p n)
stamp_of (path ∷ stamp ∷ more ∷ rest) = Err Syntax

-- `built PATH N COMMAND`
abbrev pub built_of : List (List ℕ) → Result Record FaultKind
built_of [] = Err Syntax
built_of (path ∷ []) = Err Syntax
built_of (path ∷ stamp ∷ []) = Err Syntax
built_of (path ∷ stamp ∷ command ∷ []) = path_of path >>= λ p. long stamp >>= λ n. Ok (Built p n command)
built_of (path ∷ stamp ∷ command ∷ more ∷ rest) = Err Syntax

-- `deps PATH N PATH...`
abbrev pub deps_of : List (List ℕ) → Result Record FaultKind
deps_of [] = Err Syntax
deps_of (path ∷ []) = Err Syntax
deps_of (path ∷ stamp ∷ paths) = path_of path >>= λ p. paths_of paths >>= λ ps. long stamp >>= λ n. Ok (Deps p n ps)

-- `target PATH`
abbrev pub target_of : List (List ℕ) → Result Record FaultKind
target_of [] = Err Syntax
target_of (path ∷ []) = path_of path >>= λ p. Ok (Target p)
target_of (path ∷ more ∷ rest) = Err Syntax

-- what an opening line says, where its fields have these texts
abbrev pub record_of : List (List ℕ) → Result Record FaultKind
record_of [] = Err Syntax
record_of (word ∷ texts) =
    if bytes_eq word (codes "jobs") then jobs_of texts else (if bytes_eq word (codes "stamp") then stamp_of texts
    else (if bytes_eq word (codes "built") then built_of texts else (if bytes_eq word (codes "deps") then deps_of texts
    else (if bytes_eq word (codes "target") then target_of texts else Err Syntax))))

abbrev pub record_line : List ℕ → Result Record FaultKind
record_line line = read_as record_of (texts_of line)

-- whether the texts are those of a line that gives the number of jobs
abbrev pub gives_jobs : List (List ℕ) → Bool
gives_jobs [] = false
gives_jobs (word ∷ texts) = bytes_eq word (codes "jobs")

-- what opening lines make: the jobs and records, the targets, and whether the jobs were given
pub record HeadValue : Type 0 where
  pub opening : Records
  pub targets : List (List ℕ)
  pub has_jobs : Bool

-- there is one job, where no line says otherwise
abbrev pub empty_head : HeadValue
empty_head = record { opening = no_records 1; targets = []; has_jobs = false }

-- one more opening line
abbrev pub head_with : HeadValue → Record → HeadValue
head_with h (Jobs n) = record h { opening = record h.opening { jobs = n }; has_jobs = true }
head_with h (Stamp path n) = record h { opening = with_record h.opening (cell.Stamp path) (value.Stamp n) }
head_with h (Built path n command) =
    record h {
      opening = with_record h.opening (cell.Built path)
          (value.Built (Some (record { command = command; stamp = n })));
    }
head_with h (Deps path n paths) =
    record h {
      opening = with_record h.opening (cell.Deps path) (value.Deps (Some (record { stamp = n; paths = paths })));
    }
head_with h (Target path) = record h { targets = h.targets ++ path ∷ [] }

abbrev pub head_of : List Record → HeadValue
head_of records = fold head_with empty_head records

-- whether an opening has a record of this cell
abbrev pub has_record : Records → Cell → Bool
has_record opening c = list_any (λ d. bytes_eq (cell_key c) (cell_key d)) opening.places

abbrev pub double : Bool → Option FaultKind
double b = if b then Some DoubleRecord else None

-- what is wrong with what an opening line says, after those that made the head
abbrev pub record_wrong : HeadValue → Record → Option FaultKind
record_wrong h (Jobs n) = if nat_lt 0 n && nat_le n MAX_JOBS then None else Some Number
record_wrong h (Stamp path n) = double (has_record h.opening (cell.Stamp path))
record_wrong h (Built path n command) = double (has_record h.opening (cell.Built path))
record_wrong h (Deps path n paths) = double (has_record h.opening (cell.Deps path))
record_wrong h (Target path) = None

abbrev pub said_wrong : HeadValue → Result Record FaultKind → Option FaultKind
said_wrong h (Err kind) = Some kind
said_wrong h (Ok r) = record_wrong h r

-- what is wrong with an opening line whose fields have these texts: the jobs are given once
abbrev pub texts_wrong : HeadValue → Option (List (List ℕ)) → Option FaultKind
texts_wrong h None = Some Syntax
texts_wrong h (Some texts) = if h.has_jobs && gives_jobs texts then Some Syntax else said_wrong h (record_of texts)

abbrev pub opening_wrong : HeadValue → List ℕ → Option FaultKind
opening_wrong h line = texts_wrong h (texts_of line)
