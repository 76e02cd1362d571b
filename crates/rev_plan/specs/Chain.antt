-- The chain from an edge to the reasons behind it.
use Rattle.std.specs.Prelude.{◌≡◌, ◌≢◌, ℕ, ◌<◌, zero, suc, Bool, true, false, not, ◌&&◌, List, [], ◌∷◌, ◌++◌, map, length, Option, Some, None, slice_get, option_and_then, if◌then◌else◌}
use Rattle.std.specs.List.{position, Contains}
use Rattle.rev_manifest.specs.Manifest.{BuildValue}
use Rattle.rev_graph.specs.Graph.{build_at, producer_of}
use Rattle.rev_ranks.specs.Leads.{is_one_of}
use Rattle.rev_cells.specs.State.{State, mark_of}
use Rattle.rev_cells.specs.declared.mark.Mark.{Mark}
use Rattle.rev_cells.specs.declared.mark.Mark.TheVariants as mark
use Rattle.rev_dirty.specs.declared.reason.Reason.{Reason}
use Rattle.rev_dirty.specs.Inputs.{InputValue, inputs, counts}
use Rattle.rev_dirty.specs.Reasons.{holds, reasons_of}

-- the steps of a chain, each an edge and the position of an input; the edge at which it ends, and what is told of it
-- there
pub record ChainValue : Type 0 where
  pub steps : List (ℕ × ℕ)
  pub last : ℕ
  pub reasons : List Reason

-- a chain with one step more before it
abbrev pub step_before : ℕ × ℕ → ChainValue → ChainValue
step_before step chain = record { steps = step ∷ chain.steps; last = chain.last; reasons = chain.reasons }

abbrev pub ends_at : ℕ → List Reason → ChainValue
ends_at edge reasons = record { steps = []; last = edge; reasons = reasons }

-- A chain that has come to an edge can go on by its input at a position: the input is not order-only, and the edge that
-- produces it is wanted and not yet in the chain.
pub record CanGoBy (builds : List BuildValue) (state : State) (chain : List ℕ) (edge at next : ℕ) : Type 0 where
  pub input : InputValue
  pub stands_there : slice_get (inputs state (build_at builds edge)) at ≡ Some input
  pub not_order_only : counts input.kind ≡ true
  pub produced : producer_of builds input.path ≡ Some next
  pub is_wanted : mark_of state next ≡ mark.Wanted
  pub not_yet : Contains chain next → ⊥

-- It goes on by the first of these inputs.
pub record GoesBy (builds : List BuildValue) (state : State) (chain : List ℕ) (edge at next : ℕ) : Type 0 where
  pub can : CanGoBy builds state chain edge at next
  pub first : (earlier other : ℕ) → earlier < at → CanGoBy builds state chain edge earlier other → ⊥

-- How a chain goes on at an edge, where those before it are in the chain already. At an edge that is not wanted it ends
-- with no reasons. At one with reasons it ends with them. Else it steps by the first input, not order-only, whose
-- producer is wanted and not yet in the chain; without one it ends with no reasons.
pub data IsChain (builds : List BuildValue) (state : State) : List ℕ → ℕ → ChainValue → Type 0 where
  unwanted : {before : List ℕ} {edge : ℕ} → mark_of state edge ≢ mark.Wanted
      → IsChain builds state before edge (ends_at edge [])
  explained : {before : List ℕ} {edge : ℕ} → mark_of state edge ≡ mark.Wanted → reasons_of builds state edge ≢ []
      → IsChain builds state before edge (ends_at edge (reasons_of builds state edge))
  stuck : {before : List ℕ} {edge : ℕ} → mark_of state edge ≡ mark.Wanted → reasons_of builds state edge ≡ []
      → ((at next : ℕ) → CanGoBy builds state (before ++ edge ∷ []) edge at next → ⊥)
      → IsChain builds state before edge (ends_at edge [])
  stepping : {before : List ℕ} {edge : ℕ} (at next : ℕ) (chain : ChainValue) → mark_of state edge ≡ mark.Wanted
      → reasons_of builds state edge ≡ []
      → GoesBy builds state (before ++ edge ∷ []) edge at next → IsChain builds state (before ++ edge ∷ []) next chain
      → IsChain builds state before edge (step_before (edge, at) chain)

-- THE CHAIN AS A FUNCTION
abbrev pub is_wanted_mark : Mark → Bool
is_wanted_mark mark.Wanted = true
is_wanted_mark _ = false

abbrev pub has_wanted_mark : State → ℕ → Bool
has_wanted_mark state edge = is_wanted_mark (mark_of state edge)

-- the edge that produces an input, unless the input is order-only
abbrev pub counted_producer : List BuildValue → InputValue → Option ℕ
counted_producer builds input = if counts input.kind then producer_of builds input.path else None

-- the same for each input of an edge
abbrev pub counted_producers : List BuildValue → State → ℕ → List (Option ℕ)
counted_producers builds state edge = map (counted_producer builds) (inputs state (build_at builds edge))

-- an edge is wanted, and is not one of those that a chain has already
abbrev pub can_follow : State → (ℕ → Bool) → ℕ → Bool
can_follow state has edge = has_wanted_mark state edge && not (has edge)

-- the position of the first input of an edge, not order-only, whose producer is wanted and not yet in the chain
abbrev pub next_input : List BuildValue → State → (ℕ → Bool) → ℕ → Option ℕ
next_input builds state has edge = position (holds (can_follow state has)) (counted_producers builds state edge)

-- the edge that produces the input at a position
abbrev pub producer_at : List BuildValue → State → ℕ → ℕ → Option ℕ
producer_at builds state edge at =
    option_and_then (λ (producer : Option ℕ). producer) (slice_get (counted_producers builds state edge) at)

-- where a chain goes from an edge: by an input to the edge that produces it
abbrev pub step_from : List BuildValue → State → (ℕ → Bool) → ℕ → Option (ℕ × ℕ)
step_from builds state has edge =
    option_and_then (λ at. option_and_then (λ next. Some (at, next)) (producer_at builds state edge at))
    (next_input builds state has edge)

-- the same at an edge that is wanted and has no reasons; at any other a chain ends
abbrev pub unless_explained : Option (ℕ × ℕ) → List Reason → Option (ℕ × ℕ)
unless_explained step [] = step
unless_explained step (reason ∷ reasons) = None

abbrev pub turn_from : List BuildValue → State → (ℕ → Bool) → ℕ → Option (ℕ × ℕ)
turn_from builds state has edge =
    if has_wanted_mark state edge
    then unless_explained (step_from builds state has edge) (reasons_of builds state edge) else None

-- the reasons that are told of an edge: those of one that is wanted
abbrev pub told_reasons : List BuildValue → State → ℕ → List Reason
told_reasons builds state edge = if has_wanted_mark state edge then reasons_of builds state edge else []

abbrev pub chain_on : (ℕ → ChainValue) → ℕ → Option (ℕ × ℕ) → ChainValue
chain_on rest edge None = ends_at edge []
chain_on rest edge (Some step) = step_before (edge, step.0) (rest step.1)

abbrev pub chain_by : Option (ℕ × ℕ) → (ℕ → ChainValue) → ℕ → List Reason → ChainValue
chain_by step rest edge [] = chain_on rest edge step
chain_by step rest edge (reason ∷ reasons) = ends_at edge (reason ∷ reasons)

-- the chain with so many edges at most
abbrev pub chain_within : List BuildValue → State → ℕ → List ℕ → ℕ → ChainValue
chain_within builds state zero before edge = ends_at edge []
chain_within builds state (suc most) before edge =
    if has_wanted_mark state edge
    then chain_by (step_from builds state (is_one_of (before ++ edge ∷ [])) edge)
    (chain_within builds state most (before ++ edge ∷ [])) edge (reasons_of builds state edge) else ends_at edge []

-- The chain of an edge. No edge stands in it twice, so it has no more of them than there are.
unfoldable pub chain_of : List BuildValue → State → ℕ → ChainValue
chain_of builds state edge = chain_within builds state (length builds) [] edge
