use Rattle.std.proofs.Common.{◌≡◌, Bool, true, false, ◌&&◌, ◌||◌, List, [], ◌∷◌, slice_get, Some, sym, ap}
use Rattle.std.specs.List.{list_any}
use Rattle.rev_dirty.specs.Reasons.{reasons_of}
use Rattle.rev_dirty.specs.declared.reason.Reason.{Reason}
use Rattle.rev_dirty.specs.declared.reason.Reason.TheVariants.{Missing}
use Rattle.rev_plan.specs.Plan.{is_own_reason}
use Rattle.rev_plan.proofs.marks.is_dirty_where.Goals as goal

-- an edge whose first reason is a missing output has a reason of its own
by-first : (marked : Bool) (reasons : List Reason) → marked ≡ true → slice_get reasons 0 ≡ Some (Missing 0) → true ≡ (marked && list_any is_own_reason reasons)
by-first false reasons marked first = cc
by-first true [] marked first = cc
by-first true (r ∷ rs) marked first =
    let same : r ≡ Missing 0 = cc in
    ap (λ (x : Reason). is_own_reason x || list_any is_own_reason rs) (sym same)

pub returns-then-lacks_first_output-clause-dirty : goal.returns-then-lacks_first_output-clause-dirty
returns-then-lacks_first_output-clause-dirty c =
    by-first c.args.is_marked (reasons_of c.args.scan.now.graph.manifest.builds c.args.scan.now.state c.args.edge) c.if-not-is_marked.false
    (c.lacks_first_output.ensures.first c.if-lacks_first_output.true)
