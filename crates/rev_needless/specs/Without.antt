-- A build without some of its orders. Node n waits directly for each node of the n-th list of a graph: each place of the
-- list is a declared order. A set of orders has a mark for each place, in lists of the same form.
use Rattle.std.specs.Prelude.{ℕ, Bool, false, List, [], map, length, Option, Some, None, slice_index_or, if◌then◌else◌}
use Rattle.std.specs.Global.{Vec}
use Rattle.std.specs.List.{filter_map, range_with_len}
use Rattle.rev_ranks.specs.Graph.{successors_of}

-- the lists of marks
abbrev pub marks_in : List (Vec Bool) → List (List Bool)
marks_in gone = map (λ (v : Vec Bool). v.items) gone

-- the marks of a node's orders
abbrev pub marks_of : List (List Bool) → ℕ → List Bool
marks_of gone n = slice_index_or gone n []

-- whether the order at place k of node n has a mark
abbrev pub is_gone : List (List Bool) → ℕ → ℕ → Bool
is_gone gone n k = slice_index_or (marks_of gone n) k false

-- the node at a place, unless the place has a mark
abbrev pub left_at : List ℕ → List Bool → ℕ → Option ℕ
left_at nexts marks k = if slice_index_or marks k false then None else Some (slice_index_or nexts k 0)

-- the nodes at the places that have no mark
abbrev pub left_of : List ℕ → List Bool → List ℕ
left_of nexts marks = filter_map (left_at nexts marks) (range_with_len 0 (length nexts))

-- the build without the orders that have a mark
abbrev pub without : List (List ℕ) → List (List Bool) → List (List ℕ)
without graph gone = map (λ n. left_of (successors_of graph n) (marks_of gone n)) (range_with_len 0 (length graph))
