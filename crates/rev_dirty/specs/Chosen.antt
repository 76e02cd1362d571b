-- Positions at which tests hold.
use Rattle.std.specs.Prelude.{ℕ, ◌==◌, nat_lt, Bool, true, false, not, ◌&&◌, List, [], ◌∷◌, ◌++◌, map, filter, Option, Some, None}
use Rattle.std.specs.List.{position}
use Rattle.rev_dirty.specs.declared.input.Input.{Input}
use Rattle.rev_dirty.specs.declared.output.Output.{Output}
use Rattle.rev_dirty.specs.declared.reason.Reason.{Reason}
use Rattle.rev_dirty.specs.declared.reason.Reason.TheVariants as reason
use Rattle.rev_dirty.specs.Inputs.{counts, is_listed}
use Rattle.rev_dirty.specs.Reasons.{holds_at, positions_in}
use Rattle.rev_dirty.specs.Visible.{greatest}
use Rattle.rev_dirty.specs.Walk.{shown}

-- the positions of a list at which a test holds, in order
abbrev pub positions : {A : Type 0} → (A → Bool) → List A → List ℕ
positions test xs = filter (holds_at test xs) (positions_in xs)

-- an input that the deps record lists, that nothing produces and that is not there
abbrev pub lacks : Input → Bool
lacks input = is_listed input.kind && not input.produced && (input.stamp == 0)

-- an input that counts shows a stamp
abbrev pub has_shown : List (ℕ × ℕ) → ℕ → Input → Bool
has_shown entries stamp input = counts input.kind && (shown entries input == stamp)

-- the stamp of the first of outputs
abbrev pub stamp_of_first : List Output → ℕ
stamp_of_first [] = 0
stamp_of_first (output ∷ outputs) = output.stamp

-- the outputs that are older than a stamp, each with the position of the input that has it
abbrev pub older_by : Option ℕ → ℕ → List Output → List Reason
older_by None stamp outputs = []
older_by (Some newest) stamp outputs =
    map (λ output. reason.Older output newest) (positions (λ (output : Output). nat_lt output.effective stamp) outputs)

-- a reason where it holds
abbrev pub where_holds : Bool → Reason → List Reason
where_holds true r = r ∷ []
where_holds false r = []

-- all reasons of an edge that is not phony, by what is asked of its outputs and inputs
abbrev pub all_reasons : List (ℕ × ℕ) → List Output → List Input → List Bool → Bool → Bool → List Reason
all_reasons entries outputs inputs changes lacks_deps has_old_deps =
    map reason.Missing (positions (λ (output : Output). output.stamp == 0) outputs)
    ++ where_holds lacks_deps reason.NoDeps
    ++ where_holds has_old_deps reason.DepsOld
    ++ map reason.Rebuilt (positions (λ changed. changed) changes)
    ++ map reason.MissingDep (positions lacks inputs)
    ++ older_by (position (has_shown entries (greatest (map (shown entries) inputs))) inputs)
    (greatest (map (shown entries) inputs)) outputs
    ++ map reason.NoRecord (positions (λ (output : Output). output.unrecorded) outputs)
    ++ map reason.Command (positions (λ (output : Output). output.command_changed) outputs)
