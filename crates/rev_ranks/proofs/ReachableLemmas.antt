-- The search for all nodes that roots reach.
use Rattle.std.proofs.Common.{ℕ, ◌<◌, Bool, false, List, [], ◌∷◌, ◌++◌, length, replicate, inl, inr, sym, subst, ◌∙◌, arith}
use Rattle.std.specs.List.{All}
use Rattle.std.proofs.lemmas.List.{length-replicate, length_push, get_or_append_left}
use Rattle.std.proofs.lemmas.List.Elements.{All-nil, Contains-push, Contains-push_cases, All-contains}
use Rattle.rev_ranks.specs.Graph.{Reaches, Reaches.step, Reaches.further, Steps, successors_of}
use Rattle.rev_ranks.specs.Leads.{IsReachable, IsReachable.root, IsReachable.behind}
use Rattle.rev_ranks.specs.Sets.{IsMarked, IsMarking, IsReachableSet, IsSearch}
use Rattle.rev_ranks.proofs.Ways.{reaches_more}
use Rattle.rev_ranks.proofs.Marks.{marked_none, marked_within}

-- what is reachable, and one step more
pub reachable_more : {graph : List (List ℕ)} {roots : List ℕ} {k : ℕ} (s : ℕ) → IsReachable graph roots k → Steps graph k s → IsReachable graph roots s
reachable_more {k = k} s (root h) t = behind h (step t)
reachable_more s (behind h way) t = behind h (reaches_more way t)

module _ (graph : List (List ℕ)) (roots : List ℕ) where
  -- marks that have the first steps, and each step of a mark, have all that is reached
  pub closed_has_all : (marks : List Bool) → ((k s : ℕ) → IsMarked marks k → Steps graph k s → IsMarked marks s) → {m k : ℕ} → ((s : ℕ) → Steps graph m s → IsMarked marks s) → Reaches graph m k → IsMarked marks k
  closed_has_all marks closed {m} {k} first (step h) = first k h
  closed_has_all marks closed {m} {k} first (further {s = s} h r) = closed_has_all marks closed (λ t. closed s t (first s h)) r

  pub search_starts : (marks : List Bool) (open_nodes : List ℕ) → IsMarking roots (replicate (length graph) false) [] marks open_nodes → IsSearch graph roots marks open_nodes
  search_starts marks open_nodes was = record {
    length_is = was.length_is ∙ length-replicate (length graph) false;
    sound = λ k h. elim (was.adds_only k h) [ inl a ↦ absurd (marked_none (length graph) k a) | inr c ↦ root c ];
    starts = λ s c. was.marks_each s c;
    open_are_marked = was.open_are_marked (All-nil (IsMarked (replicate (length graph) false)));
    closed = λ k h. elim (was.opens k h) [ inl a ↦ absurd (marked_none (length graph) k a) | inr c ↦ inl c ];
  }

  pub search_goes : (before : List Bool) (rest : List ℕ) (x : ℕ) (after : List Bool) (open_after : List ℕ) → IsSearch graph roots before (rest ++ x ∷ []) → IsMarking (successors_of graph x) before rest after open_after → IsSearch graph roots after open_after
  search_goes before rest x after open_after search was =
      let x_marked : IsMarked before x = All-contains (IsMarked before) (rest ++ x ∷ []) x search.open_are_marked (Contains-push rest x) in
      let rest_marked : All (IsMarked before) rest = λ k d h. subst (IsMarked before) (get_or_append_left rest (x ∷ []) d k h) (search.open_are_marked k d (omega (arith, length_push rest x))) in
      record {
        length_is = was.length_is ∙ search.length_is;
        sound = λ k h. elim (was.adds_only k h) [ inl a ↦ search.sound k a | inr c ↦ reachable_more k (search.sound x x_marked) c ];
        starts = λ s c. was.keeps s (search.starts s c);
        open_are_marked = was.open_are_marked rest_marked;
        closed = λ k h. elim (was.opens k h) [
          | inl a ↦ elim (search.closed k a) [
            | inl c ↦ elim (Contains-push_cases rest x k c) [
              | inl d ↦ inl (was.keeps_open k d)
              | inr e ↦ inr (λ s st. was.marks_each s (subst (λ (y : ℕ). Steps graph y s) (sym e) st))
            ]
            | inr f ↦ inr (λ s st. was.keeps s (f s st))
          ]
          | inr c ↦ inl c
        ];
      }

  -- an open node is a node
  pub search_next : (marks : List Bool) (rest : List ℕ) (x : ℕ) → IsSearch graph roots marks (rest ++ x ∷ []) → x < length graph
  search_next marks rest x search =
      omega (arith, search.length_is, marked_within marks x (All-contains (IsMarked marks) (rest ++ x ∷ []) x search.open_are_marked (Contains-push rest x)))

  pub search_ends : (marks : List Bool) → IsSearch graph roots marks [] → IsReachableSet graph roots marks
  search_ends marks search = record { length_is = search.length_is; sound = search.sound; complete = complete }
    where
      closed : (k s : ℕ) → IsMarked marks k → Steps graph k s → IsMarked marks s
      closed k s h t = elim (search.closed k h) [ inl c ↦ absurd (omega (arith, c.1)) | inr f ↦ f s t ]

      complete : (k : ℕ) → IsReachable graph roots k → IsMarked marks k
      complete k (root h) = search.starts k h
      complete k (behind {start = m} h way) = closed_has_all marks closed (λ s t. closed m s (search.starts m h) t) way
