-- Why an edge is dirty: the way from it to an edge with reasons, and the reasons of that one.
use Rattle.std.specs.Prelude.{ℕ, List, [], ◌∷◌, ◌++◌, codes}
use Rattle.std.specs.List.{flat_map, slice_index_or}
use Rattle.rev_cells.specs.State.{State}
use Rattle.rev_manifest.specs.Manifest.{BuildValue}
use Rattle.rev_graph.specs.Graph.{build_at, outputs_of}
use Rattle.rev_dirty.specs.declared.reason.Reason.{Reason}
use Rattle.rev_dirty.specs.declared.reason.Reason.TheVariants as reason
use Rattle.rev_dirty.specs.Inputs.{inputs, paths_of}
use Rattle.rev_fields.specs.Fields.{field_text}
use Rattle.rev_plan.specs.Chain.{ChainValue, chain_of}
use Rattle.rev_listing.specs.Listing.{line}
use Rattle.rev_listing.specs.Marks.{output_field}

-- the output of an edge at a position
abbrev pub output_at : List BuildValue → ℕ → ℕ → List ℕ
output_at builds edge position = field_text (slice_index_or (outputs_of (build_at builds edge)) position [])

-- the path of an edge's input at a position, of all its inputs, those of the deps record among them
abbrev pub input_at : List BuildValue → State → ℕ → ℕ → List ℕ
input_at builds state edge position =
    field_text (slice_index_or (paths_of (inputs state (build_at builds edge))) position [])

abbrev pub reason_word : Reason → List ℕ
reason_word (reason.Missing o) = codes "missing"
reason_word reason.NoDeps = codes "no-deps"
reason_word reason.DepsOld = codes "deps-old"
reason_word (reason.Rebuilt i) = codes "rebuilt"
reason_word (reason.MissingDep i) = codes "missing-dep"
reason_word (reason.Older o i) = codes "older"
reason_word (reason.NoRecord o) = codes "no-record"
reason_word (reason.Command o) = codes "command"

-- the output and the input that a reason is about
abbrev pub reason_paths : List BuildValue → State → ℕ → Reason → List (List ℕ)
reason_paths builds state edge (reason.Missing o) = output_at builds edge o ∷ []
reason_paths builds state edge reason.NoDeps = []
reason_paths builds state edge reason.DepsOld = []
reason_paths builds state edge (reason.Rebuilt i) = input_at builds state edge i ∷ []
reason_paths builds state edge (reason.MissingDep i) = input_at builds state edge i ∷ []
reason_paths builds state edge (reason.Older o i) = output_at builds edge o ∷ input_at builds state edge i ∷ []
reason_paths builds state edge (reason.NoRecord o) = output_at builds edge o ∷ []
reason_paths builds state edge (reason.Command o) = output_at builds edge o ∷ []

abbrev pub reason_fields : List BuildValue → State → ℕ → Reason → List (List ℕ)
reason_fields builds state edge r = reason_word r ∷ reason_paths builds state edge r

-- `why OUT via IN` for a step by an input
abbrev pub step_text : List BuildValue → State → ℕ × ℕ → List ℕ
step_text builds state step =
    line (codes "why" ∷ output_field builds step.0 ∷ codes "via" ∷ input_at builds state step.0 step.1 ∷ [])

-- `why OUT REASON`
abbrev pub reason_text : List BuildValue → State → ℕ → Reason → List ℕ
reason_text builds state edge r = line (codes "why" ∷ output_field builds edge ∷ reason_fields builds state edge r)

-- `why OUT REASON` for each reason of the last edge, or `why OUT nothing`
abbrev pub reasons_text : List BuildValue → State → ℕ → List Reason → List ℕ
reasons_text builds state edge [] = line (codes "why" ∷ output_field builds edge ∷ codes "nothing" ∷ [])
reasons_text builds state edge (r ∷ rs) = flat_map (reason_text builds state edge) (r ∷ rs)

abbrev pub chain_text : List BuildValue → State → ChainValue → List ℕ
chain_text builds state chain =
    flat_map (step_text builds state) chain.steps ++ reasons_text builds state chain.last chain.reasons

abbrev pub why_text : List BuildValue → State → ℕ → List ℕ
why_text builds state edge = chain_text builds state (chain_of builds state edge)
