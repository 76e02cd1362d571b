-- An edge that is not phony and lacks its first output: that is the first of its reasons.
use Rattle.std.proofs.Common.{◌≡◌, ℕ, ◌==◌, Bool, true, false, cond, List, [], ◌∷◌, ◌++◌, filter, map, slice_get, length, Option, Some, None, refl, sym, ap, ◌∙◌, if◌then◌else◌}
use Rattle.std.specs.List.{flat_map, range_with_len}
use Rattle.rev_manifest.specs.Manifest.{BuildValue}
use Rattle.rev_graph.specs.Graph.{build_at, outputs_of}
use Rattle.rev_cells.specs.State.{State, stamp_of}
use Rattle.rev_dirty.specs.Inputs.{inputs}
use Rattle.rev_dirty.specs.declared.reason.Reason.{Reason}
use Rattle.rev_dirty.specs.declared.reason.Reason.TheVariants as reason
use Rattle.rev_dirty.specs.Reasons.{holds, holds_at, positions_in, is_missing, is_reason, is_command_reason, is_phony_reason, candidates, reasons_of}

head-kept : (p : Reason → Bool) (outs : List (List ℕ)) (ins : List ℕ) (output : List ℕ) → Some output ≡ slice_get outs 0 → p (reason.Missing 0) ≡ true
    → slice_get (filter p (candidates (positions_in outs) ins)) 0 ≡ Some (reason.Missing 0)
head-kept p [] ins output at kept = cc
head-kept p (first ∷ outs) ins output at kept =
    let rest = map reason.Missing (range_with_len 1 (length outs)) ++ (reason.NoDeps ∷ []) ++ (reason.DepsOld ∷ []) ++ map reason.Rebuilt ins
    ++ map reason.MissingDep ins ++ flat_map (λ o. map (reason.Older o) ins) (positions_in (first ∷ outs)) ++ map reason.NoRecord (positions_in (first ∷ outs))
    ++ map reason.Command (positions_in (first ∷ outs)) in
    ap (λ b. slice_get (cond b (reason.Missing 0 ∷ filter p rest) (filter p rest)) 0) kept

pub first-missing : (builds : List BuildValue) (state : State) (edge : ℕ) (output : List ℕ) → (build_at builds edge).phony ≡ false → Some output ≡ slice_get (outputs_of (build_at builds edge)) 0
    → (stamp_of state output == 0) ≡ true → slice_get (reasons_of builds state edge) 0 ≡ Some (reason.Missing 0)
unfolding reasons_of
first-missing builds state edge output command at missing =
    let build = build_at builds edge in
    head-kept (is_reason builds state build) (outputs_of build) (positions_in (inputs state build)) output at
    (ap (λ b. if b then is_phony_reason state build (reason.Missing 0) else is_command_reason builds state build (reason.Missing 0)) command
    ∙ ap (holds (is_missing state)) (sym at) ∙ missing)
