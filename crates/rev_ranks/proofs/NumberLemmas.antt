-- Numbers of strongly connected components, by the order in which a walk leaves the nodes of the reversed graph.
use Rattle.std.proofs.Common.{◌≡◌, ℕ, ◌+◌, ◌<◌, ◌≤◌, Bool, false, List, [], ◌∷◌, ◌++◌, length, get_or, set, take, replicate, ◌⊎◌, inl, inr, refl, sym, ap, subst, ◌∙◌, arith}
use Rattle.std.specs.List.{All, Contains}
use Rattle.std.proofs.lemmas.Bool.{cases_eq}
use Rattle.std.proofs.lemmas.List.{get_or-set_same, get_or-set_other, get_or_default, length-set, length_push, length-replicate, take-append-drop, take_more}
use Rattle.std.proofs.lemmas.List.Elements.{All-nil, All-contains, Contains-get_or, Contains-push, Contains-push_cases, Contains-append_left}
use Rattle.rev_ranks.specs.Graph.{successors_of, Reaches, Reaches.step, Reaches.further, Steps}
use Rattle.rev_ranks.specs.Certificate.{IsCertificate}
use Rattle.rev_ranks.specs.Sets.{IsMarked, IsMarking, IsReversed}
use Rattle.rev_ranks.specs.Walks.{at, Goes, IsLeaving, IsNumbering, AreNumbered, LeadBack}
use Rattle.rev_ranks.proofs.Ways.{reaches_more, steps_from_node}
use Rattle.rev_ranks.proofs.Marks.{marked_none}
use Rattle.rev_ranks.proofs.WalkLemmas.{leaving-less, leaving-once}

-- WAYS
way-then : {graph : List (List ℕ)} {a b c : ℕ} → Reaches graph a b → Reaches graph b c → Reaches graph a c
way-then (step h) r = further h r
way-then (further h q) r = further h (way-then q r)

goes-then : {graph : List (List ℕ)} {a b c : ℕ} → Goes graph a b → Goes graph b c → Goes graph a c
goes-then {graph} {a} {b} {c} (inl same) g = subst (λ n. Goes graph n c) (sym same) g
goes-then {graph} {a} {b} {c} (inr r) (inl same) = inr (subst (Reaches graph a) same r)
goes-then (inr r) (inr q) = inr (way-then r q)

-- after a step there is a way
goes-after : {graph : List (List ℕ)} {a b c : ℕ} → Steps graph a b → Goes graph b c → Reaches graph a c
goes-after {graph} {a} h (inl same) = subst (Reaches graph a) same (step h)
goes-after h (inr r) = further h r

-- a way in a graph is one back in the other
module _ (graph back : List (List ℕ)) (steps : (n s : ℕ) → Steps graph n s → Steps back s n) where
  way-back : {a b : ℕ} → Reaches graph a b → Reaches back b a
  way-back {a} {b} (step h) = step (steps a b h)
  way-back {a} {b} (further {s = s} h r) = reaches_more (way-back r) (steps a s h)

  goes-back : {a b : ℕ} → Goes graph a b → Goes back b a
  goes-back (inl same) = inl (sym same)
  goes-back (inr r) = inr (way-back r)

-- a way out of nodes of which each step out leads on to w goes by w
exit : (graph : List (List ℕ)) (nodes : List ℕ) (w : ℕ) → ((n s : ℕ) → Contains nodes n → Steps graph n s → Contains nodes s ⊎ Reaches graph s w) → {a u : ℕ} → Contains nodes a → Reaches graph a u → Contains nodes u ⊎ Reaches graph a w
exit graph nodes w closed {a} {u} c (step h) = elim (closed a u c h) [ inl d ↦ inl d | inr r ↦ inr (further h r) ]
exit graph nodes w closed {a} {u} c (further {s = s} h way) = elim (closed a s c h) [
  | inl d ↦ elim (exit graph nodes w closed d way) [ inl e ↦ inl e | inr r ↦ inr (further h r) ]
  | inr r ↦ inr (further h r)
]

-- of a front of a list is in the list
in-front : (xs : List ℕ) (k n : ℕ) → Contains (take k xs) n → Contains xs n
in-front xs k n c = subst (λ (ys : List ℕ). Contains ys n) (take-append-drop k xs) (Contains-append_left (take k xs) _ n c)

-- A node that was left before the root of a walk against the steps, and to which a node steps that is on a cycle with
-- the root, leads to the root.
leads-to-root : (graph back : List (List ℕ)) → IsReversed graph back → (rest : List ℕ) (root : ℕ) → IsLeaving back (rest ++ root ∷ []) → (n s : ℕ) → Steps graph n s → Goes graph root n → Goes graph n root → Contains rest s → Goes graph s root
leads-to-root graph back rev rest root leaving n s st there around (i, within, is) =
    elim (closed s n has (rev.back n s st)) [
      | inl inside ↦ elim (goes-back graph back rev.back there) [
        | inl same ↦ absurd (never (subst (Contains nodes) same inside))
        | inr way ↦ elim (exit back nodes w closed inside way) [
          | inl in' ↦ absurd (never in')
          | inr r ↦ goes-then (forth-goes (subst (Reaches back n) w-is r)) around
        ]
      ]
      | inr r ↦ goes-then (forth-goes (subst (Reaches back n) w-is r)) around
    ]
  where
    nodes : List ℕ
    nodes = take (i + 1) rest

    w : ℕ
    w = at rest i

    w-is : w ≡ s
    w-is = get_or_default rest i 0 s within ∙ is

    shorter : IsLeaving back rest
    shorter = leaving-less back rest root leaving

    closed : (m t : ℕ) → Contains nodes m → Steps back m t → Contains nodes t ⊎ Reaches back t w
    closed m t c h = shorter.closed i m t within c h

    has : Contains nodes s
    has = subst (Contains nodes) w-is (last-of rest i within)
      where
        last-of : (xs : List ℕ) (k : ℕ) → k < length xs → Contains (take (k + 1) xs) (at xs k)
        last-of xs k below = subst (λ (ys : List ℕ). Contains ys (at xs k)) (sym (take_more xs k 0 below)) (Contains-push (take k xs) (at xs k))

    never : Contains nodes root → ⊥
    never c = leaving-once back rest root leaving (in-front rest (i + 1) root c)

    forth-goes : Reaches back n s → Goes graph s n
    forth-goes r = inr (way-back back graph (λ m t h. rev.forth t m h) r)

-- NUMBERS OF ONE ROOT
module _ (graph : List (List ℕ)) (root number : ℕ) (before : List Bool) (numbers : List ℕ) where
  pub numbering-starts : (after : List Bool) (open_nodes : List ℕ) → IsMarking (root ∷ []) before [] after open_nodes → ((s : ℕ) → Contains open_nodes s → Contains {X = ℕ} [] s ⊎ (IsMarked before s → ⊥)) → IsNumbering graph root number before numbers after numbers open_nodes
  numbering-starts after open_nodes was opened = record {
    each_mark = was.length_is;
    each_number = refl;
    root_marked = was.marks_each root (Contains-push [] root);
    keeps = was.keeps;
    keeps_number = λ n h. refl;
    around = λ n h. elim (was.adds_only n h) [
      | inl old ↦ inl old
      | inr c ↦ elim (Contains-push_cases [] root n c) [ inl d ↦ absurd (omega (arith, d.1)) | inr same ↦ inr (inl same, inl (sym same)) ]
    ];
    open_marked = λ n c. All-contains (IsMarked after) open_nodes n (was.open_are_marked (All-nil (IsMarked before))) c;
    open_new = λ n c h. elim (opened n c) [ inl d ↦ omega (arith, d.1) | inr new ↦ new h ];
    numbered = λ n h. elim (was.opens n h) [ inl old ↦ inl old | inr c ↦ inr (inl c) ];
  }

  pub numbering-goes : (after : List Bool) (given rest : List ℕ) (x : ℕ) (later : List Bool) (open_nodes : List ℕ) → x < length given → IsNumbering graph root number before numbers after given (rest ++ x ∷ [])
      → ((n s : ℕ) → Steps graph n s → Goes graph root n → Goes graph n root → IsMarked before s ⊎ Goes graph s root)
      → IsMarking (successors_of graph x) after rest later open_nodes → ((s : ℕ) → Contains open_nodes s → Contains rest s ⊎ (IsMarked after s → ⊥))
      → IsNumbering graph root number before numbers later (set given x number) open_nodes
  numbering-goes after given rest x later open_nodes within was back marking opened = record {
    each_mark = marking.length_is ∙ was.each_mark;
    each_number = length-set given x number ∙ was.each_number;
    root_marked = marking.keeps root was.root_marked;
    keeps = λ n h. marking.keeps n (was.keeps n h);
    keeps_number = λ n h. get_or-set_other given x n number 0 (λ same. new (subst (IsMarked before) same h)) ∙ was.keeps_number n h;
    around = λ n h. elim (marking.adds_only n h) [ inl old ↦ was.around n old | inr c ↦ stepped n c ];
    open_marked = λ n c. All-contains (IsMarked later) open_nodes n (marking.open_are_marked rest-marked) c;
    open_new = λ n c h. elim (opened n c) [
      | inl old ↦ was.open_new n (Contains-append_left rest (x ∷ []) n old) h
      | inr fresh ↦ fresh (was.keeps n h)
    ];
    numbered = λ n h. elim (marking.opens n h) [
      | inl old ↦ elim (was.numbered n old) [
        | inl h ↦ inl h
        | inr more ↦ inr (elim more [
          | inl c ↦ elim (Contains-push_cases rest x n c) [
            | inl d ↦ inl (marking.keeps_open n d)
            | inr same ↦ inr (ap (at (set given x number)) (sym same) ∙ here, λ s st. marking.marks_each s (subst (λ m. Steps graph m s) (sym same) st))
          ]
          | inr done ↦ inr (still n done.0, λ s st. marking.keeps s (done.1 s st))
        ])
      ]
      | inr c ↦ inr (inl c)
    ];
  }
    where
      new : IsMarked before x → ⊥
      new h = was.open_new x (Contains-push rest x) h

      here : at (set given x number) x ≡ number
      here = get_or-set_same given x number 0 within

      still : (n : ℕ) → at given n ≡ number → at (set given x number) n ≡ number
      still n e = elim (cases_eq n x) [ inl same ↦ ap (at (set given x number)) same ∙ here | inr other ↦ get_or-set_other given x n number 0 other ∙ e ]

      rest-marked : All (IsMarked after) rest
      rest-marked = λ k d h. was.open_marked (get_or rest k d) (Contains-append_left rest (x ∷ []) (get_or rest k d) (Contains-get_or rest k d h))

      stepped : (n : ℕ) → Contains (successors_of graph x) n → IsMarked before n ⊎ (Goes graph root n × Goes graph n root)
      stepped n c = elim (was.around x (was.open_marked x (Contains-push rest x))) [
        | inl old ↦ absurd (new old)
        | inr both ↦ elim (back x n c both.0 both.1) [ inl old ↦ inl old | inr g ↦ inr (goes-then both.0 (inr (step c)), g) ]
      ]

-- NUMBERS OF ALL
module _ (graph : List (List ℕ)) where
  pub numbered-none : (left : List ℕ) (marks : List Bool) (numbers : List ℕ) → marks ≡ replicate (length graph) false → numbers ≡ replicate (length graph) 0 → ((n : ℕ) → n < length graph → Contains left n) → length left ≤ length graph → AreNumbered graph left marks numbers 0
  numbered-none left marks numbers ms ns all few = rw (ms, ns) (record {
    each_mark = length-replicate (length graph) false;
    each_number = length-replicate (length graph) 0;
    all = λ n h. inr (all n h);
    below = λ n h. absurd (marked_none (length graph) n h);
    closed = λ n s h. absurd (marked_none (length graph) n h);
    never_rises = λ n s h. absurd (marked_none (length graph) n h);
    leads_back = λ n s h. absurd (marked_none (length graph) n h);
    few = omega (arith, few);
  })

  module _ (rest : List ℕ) (root : ℕ) (marks : List Bool) (numbers : List ℕ) (number : ℕ) (was : AreNumbered graph (rest ++ root ∷ []) marks numbers number) where
    pub numbered-skip : IsMarked marks root → AreNumbered graph rest marks numbers number
    numbered-skip seen = record {
      each_mark = was.each_mark;
      each_number = was.each_number;
      all = λ n h. elim (was.all n h) [
        | inl m ↦ inl m
        | inr c ↦ elim (Contains-push_cases rest root n c) [ inl d ↦ inr d | inr same ↦ inl (subst (IsMarked marks) same seen) ]
      ];
      below = was.below;
      closed = was.closed;
      never_rises = was.never_rises;
      leads_back = was.leads_back;
      few = omega (arith, was.few, length_push rest root);
    }

    pub numbered-more : (later : List Bool) (given : List ℕ) → IsNumbering graph root number marks numbers later given [] → AreNumbered graph rest later given (number + 1)
    numbered-more later given is = record {
      each_mark = is.each_mark ∙ was.each_mark;
      each_number = is.each_number ∙ was.each_number;
      all = λ n h. elim (was.all n h) [
        | inl m ↦ inl (is.keeps n m)
        | inr c ↦ elim (Contains-push_cases rest root n c) [ inl d ↦ inr d | inr same ↦ inl (subst (IsMarked later) same is.root_marked) ]
      ];
      below = below;
      closed = closed;
      never_rises = λ n s h st. elim (news n h) [
        | inl old ↦ omega (arith, was.never_rises n s old st, is.keeps_number n old, is.keeps_number s (was.closed n s old st))
        | inr new ↦ omega (arith, new.0, below s (closed n s h st))
      ];
      leads_back = λ n s h st same. elim (news n h) [
        | inl old ↦ was.leads_back n s old st (sym (is.keeps_number s (was.closed n s old st)) ∙ same ∙ is.keeps_number n old)
        | inr new ↦ elim (is.around s (closed n s h st)) [
          | inl old ↦ absurd (omega (arith, was.below s old, is.keeps_number s old, same, new.0))
          | inr s-around ↦ elim (is.around n h) [
            | inl old ↦ was.leads_back n s old st (sym (is.keeps_number s (was.closed n s old st)) ∙ same ∙ is.keeps_number n old)
            | inr n-around ↦ elim (goes-then s-around.1 n-around.0) [ inl e ↦ subst (Reaches graph s) e (subst (λ m. Reaches graph m s) (sym e) (step st)) | inr way ↦ way ]
          ]
        ]
      ];
      few = omega (arith, was.few, length_push rest root);
    }
      where
        news : (n : ℕ) → IsMarked later n → IsMarked marks n ⊎ ((at given n ≡ number) × ((s : ℕ) → Steps graph n s → IsMarked later s))
        news n h = elim (is.numbered n h) [
          | inl old ↦ inl old
          | inr more ↦ elim more [ inl c ↦ absurd (omega (arith, c.1)) | inr done ↦ inr done ]
        ]

        below : (n : ℕ) → IsMarked later n → at given n < number + 1
        below n h = elim (news n h) [ inl old ↦ omega (arith, was.below n old, is.keeps_number n old) | inr new ↦ omega (arith, new.0) ]

        closed : (n s : ℕ) → IsMarked later n → Steps graph n s → IsMarked later s
        closed n s h st = elim (news n h) [ inl old ↦ is.keeps s (was.closed n s old st) | inr new ↦ new.1 s st ]

    -- what a cycle with the root steps to has a mark, or leads to the root
    pub leads-on : (back : List (List ℕ)) → IsReversed graph back → IsLeaving back (rest ++ root ∷ []) → ((n s : ℕ) → Steps graph n s → s < length graph) → (n s : ℕ) → Steps graph n s → Goes graph root n → Goes graph n root → IsMarked marks s ⊎ Goes graph s root
    leads-on back rev leaving inside n s st there around = elim (was.all s (inside n s st)) [
      | inl m ↦ inl m
      | inr c ↦ inr (elim (Contains-push_cases rest root s c) [ inl d ↦ leads-to-root graph back rev rest root leaving n s st there around d | inr same ↦ inl (sym same) ])
    ]

  -- where all have numbers these are a certificate
  module _ (marks : List Bool) (numbers : List ℕ) (number : ℕ) (are : AreNumbered graph [] marks numbers number) where
    all-marked : (n : ℕ) → n < length graph → IsMarked marks n
    all-marked n h = elim (are.all n h) [ inl m ↦ m | inr c ↦ absurd (omega (arith, c.1)) ]

    pub certified : IsCertificate graph numbers
    certified = record {
      length_is = are.each_number;
      bounded = λ k d h.
          let within : k < length graph = omega (arith, h, are.each_number) in
          omega (arith, are.below k (all-marked k within), are.few, get_or_default numbers k d 0 h);
      never_rises = λ n s st. are.never_rises n s (all-marked n (steps_from_node graph n s st)) st;
    }

    pub lead-back : LeadBack graph numbers
    lead-back n s st same = are.leads_back n s (all-marked n (steps_from_node graph n s st)) st same
