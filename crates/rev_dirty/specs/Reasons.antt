-- Why an edge is dirty.
use Rattle.std.specs.Prelude.{ℕ, ◌==◌, max, nat_lt, Bool, false, not, ◌&&◌, List, [], ◌∷◌, ◌++◌, map, filter, length, Option, Some, None, is_none, slice_get, bytes_eq, if◌then◌else◌}
use Rattle.std.specs.List.{filter_map, flat_map, range_with_len, position}
use Rattle.rev_manifest.specs.Manifest.{BuildValue}
use Rattle.rev_graph.specs.Graph.{build_at, outputs_of, producer_of, has_path}
use Rattle.rev_cells.specs.State.{State, stamp_of, mark_of, built_of}
use Rattle.rev_cells.specs.declared.mark.Mark.{Mark}
use Rattle.rev_cells.specs.declared.mark.Mark.TheVariants as mark
use Rattle.rev_cells.specs.declared.value.BuiltRecord.{BuiltRecord}
use Rattle.rev_cells.specs.declared.value.DepsRecord.{DepsRecord}
use Rattle.rev_dirty.specs.declared.reason.Reason.{Reason}
use Rattle.rev_dirty.specs.declared.reason.Reason.TheVariants as reason
use Rattle.rev_dirty.specs.Inputs.{InputValue, inputs, counts, is_listed, deps_record}
use Rattle.rev_dirty.specs.Visible.{greatest, visible_stamp}

-- the numbers of the kinds of reasons
abbrev pub kind_of : Reason → ℕ
kind_of (reason.Missing o) = 1
kind_of reason.NoDeps = 2
kind_of reason.DepsOld = 3
kind_of (reason.Rebuilt i) = 4
kind_of (reason.MissingDep i) = 5
kind_of (reason.Older o i) = 6
kind_of (reason.NoRecord o) = 7
kind_of (reason.Command o) = 8

-- a test of what an option holds, which fails where it holds nothing
abbrev pub holds : {A : Type 0} → (A → Bool) → Option A → Bool
holds test None = false
holds test (Some x) = test x

-- a test of what stands at a position, which fails past the last
abbrev pub holds_at : {A : Type 0} → (A → Bool) → List A → ℕ → Bool
holds_at test xs position = holds test (slice_get xs position)

abbrev pub positions_in : {A : Type 0} → List A → List ℕ
positions_in xs = range_with_len 0 (length xs)

abbrev pub is_missing : State → List ℕ → Bool
is_missing state output = stamp_of state output == 0

-- a missing first output is a reason of an edge that is not phony, whatever its inputs are
abbrev pub lacks_first : State → BuildValue → Bool
lacks_first state build = not build.phony && holds_at (is_missing state) (outputs_of build) 0

-- the stamp of the first of outputs
abbrev pub first_stamp : State → List (List ℕ) → ℕ
first_stamp state [] = 0
first_stamp state (output ∷ outputs) = stamp_of state output

-- an edge that keeps deps has no record of them
abbrev pub lacks_deps : State → BuildValue → Bool
lacks_deps state build = build.keeps_deps && is_none (deps_record state build)

-- the first output was changed after its deps were listed
abbrev pub has_old_deps : State → BuildValue → Bool
has_old_deps state build =
    holds (λ (deps : DepsRecord). nat_lt deps.stamp (first_stamp state (outputs_of build))) (deps_record state build)

-- the positions of the outputs that an edge changed, by its mark
abbrev pub changed_positions : Mark → List ℕ
changed_positions (mark.Done positions) = positions
changed_positions _ = []

abbrev pub changed_outputs : Mark → List (List ℕ) → List (List ℕ)
changed_outputs m outputs = filter_map (slice_get outputs) (changed_positions m)

-- the edge that produces a path is done and changed it
abbrev pub was_changed : List BuildValue → State → List ℕ → Bool
was_changed builds state path =
    holds (λ producer. has_path (changed_outputs (mark_of state producer) (outputs_of (build_at builds producer))) path)
    (producer_of builds path)

abbrev pub is_rebuilt : List BuildValue → State → InputValue → Bool
is_rebuilt builds state input = counts input.kind && was_changed builds state input.path

-- an input that the deps record lists, that nothing produces and that is not there
abbrev pub is_missing_dep : List BuildValue → State → InputValue → Bool
is_missing_dep builds state input =
    is_listed input.kind && is_none (producer_of builds input.path) && (visible_stamp builds state input.path == 0)

-- the inputs that count
abbrev pub counted : List InputValue → List InputValue
counted all = filter (λ (input : InputValue). counts input.kind) all

-- the greatest visible stamp of the inputs that count
abbrev pub newest_stamp : List BuildValue → State → List InputValue → ℕ
newest_stamp builds state all =
    greatest (map (λ (input : InputValue). visible_stamp builds state input.path) (counted all))

-- an input that counts has that visible stamp
abbrev pub shows : List BuildValue → State → ℕ → InputValue → Bool
shows builds state stamp input = counts input.kind && (visible_stamp builds state input.path == stamp)

-- the position of the first input that counts and has the greatest visible stamp
abbrev pub newest : List BuildValue → State → List InputValue → Option ℕ
newest builds state all = position (shows builds state (newest_stamp builds state all)) all

abbrev pub recorded_stamp : Option BuiltRecord → ℕ
recorded_stamp None = 0
recorded_stamp (Some built) = built.stamp

-- The stamp that an output counts with: under restat that of its record where it is the greater one (Ninja manual,
-- restat).
abbrev pub effective_stamp : State → BuildValue → List ℕ → ℕ
effective_stamp state build output =
    if build.restat then max (stamp_of state output) (recorded_stamp (built_of state output)) else stamp_of state output

-- an output is older than some input
abbrev pub is_outdated : List BuildValue → State → BuildValue → List ℕ → Bool
is_outdated builds state build output =
    nat_lt (effective_stamp state build output) (newest_stamp builds state (inputs state build))

abbrev pub lacks_record : State → BuildValue → List ℕ → Bool
lacks_record state build output = not build.generator && is_none (built_of state output)

-- an output was made by another command
abbrev pub has_other_command : State → BuildValue → List ℕ → Bool
has_other_command state build output =
    not build.generator && holds (λ (built : BuiltRecord). not (bytes_eq built.command build.command))
    (built_of state output)

-- whether something is a reason to run an edge's command
abbrev pub is_command_reason : List BuildValue → State → BuildValue → Reason → Bool
is_command_reason builds state build (reason.Missing o) = holds_at (is_missing state) (outputs_of build) o
is_command_reason builds state build reason.NoDeps = lacks_deps state build
is_command_reason builds state build reason.DepsOld = has_old_deps state build
is_command_reason builds state build (reason.Rebuilt i) = holds_at (is_rebuilt builds state) (inputs state build) i
is_command_reason builds state build (reason.MissingDep i) =
    holds_at (is_missing_dep builds state) (inputs state build) i
is_command_reason builds state build (reason.Older o i) =
    holds_at (is_outdated builds state build) (outputs_of build) o
    && holds (λ first. first == i) (newest builds state (inputs state build))
is_command_reason builds state build (reason.NoRecord o) = holds_at (lacks_record state build) (outputs_of build) o
is_command_reason builds state build (reason.Command o) = holds_at (has_other_command state build) (outputs_of build) o

-- A phony edge is dirty only where it has no input of any kind: for each output that is missing.
abbrev pub is_phony_reason : State → BuildValue → Reason → Bool
is_phony_reason state build (reason.Missing o) =
    (length (inputs state build) == 0) && holds_at (is_missing state) (outputs_of build) o
is_phony_reason state build _ = false

abbrev pub is_reason : List BuildValue → State → BuildValue → Reason → Bool
is_reason builds state build r =
    if build.phony then is_phony_reason state build r else is_command_reason builds state build r

-- all that may be a reason, by kind, then output, then input
abbrev pub candidates : List ℕ → List ℕ → List Reason
candidates outs ins =
    map reason.Missing outs ++ (reason.NoDeps ∷ []) ++ (reason.DepsOld ∷ []) ++ map reason.Rebuilt ins
    ++ map reason.MissingDep ins ++ flat_map (λ o. map (reason.Older o) ins) outs
    ++ map reason.NoRecord outs
    ++ map reason.Command outs

-- the reasons of an edge in a state, in that order
unfoldable pub reasons_of : List BuildValue → State → ℕ → List Reason
reasons_of builds state edge =
    filter (is_reason builds state (build_at builds edge))
    (candidates (positions_in (outputs_of (build_at builds edge)))
    (positions_in (inputs state (build_at builds edge))))
