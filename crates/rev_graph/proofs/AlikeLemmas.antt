-- Tests of graphs that lend the same.
use Rattle.std.proofs.Common.{◌≡◌, ◌==◌, ◌↔◌, ℕ, Bool, true, false, ◌&&◌, List, [], ◌∷◌, map, Option, None, Some, refl, sym, ap, ap₂, ◌∙◌, bytes_eq, eq-eqb, eqb-true, true≢false, arith}
use Rattle.std.proofs.Math.Bool.{beq}
use Rattle.std.specs.Bool.{Decides}
use Rattle.std.specs.Cmp.{booleans_Decides}
use Rattle.std.specs.Cmp.Lexicographic.{pointwise}
use Rattle.std.proofs.lemmas.Slice.Eq.{bytes_eq-Decides, slice_eq-Decides}
use Rattle.rev_manifest.specs.Builds.{BuildValue, ManifestValue}
use Rattle.rev_graph.specs.Alike.{lent_edge, depths_of, LendAlike, same_paths, same_outputs, same_inputs, same_rule, same_pool, same_edge, same_lent}
use Rattle.rev_graph.specs.declared.fault.GraphFault.{GraphFault}
use Rattle.rev_graph.specs.declared.fault.GraphFault.TheVariants.{Memory, TooManyEdges, MultipleProducers, Cycle}
use Rattle.rev_graph.specs.Fault.{Explains}
use Rattle.rev_graph.specs.Graph.{numbered_pool, GraphValue, IsGraph}
use Rattle.rev_graph.proofs.StepLemmas.{ranked-acyclic}

both : (a b : Bool) → (a && b) ≡ true → (a ≡ true) × (b ≡ true)
both true b h = (refl, h)
both false b h = absurd (true≢false (sym h))

both3 : (a b c : Bool) → (a && b && c) ≡ true → (a ≡ true) × (b ≡ true) × (c ≡ true)
both3 a b c h = let t = both (a && b) c h in let u = both a b t.0 in (u.0, u.1, t.1)

both4 : (a b c d : Bool) → (a && b && c && d) ≡ true → (a ≡ true) × (b ≡ true) × (c ≡ true) × (d ≡ true)
both4 a b c d h = let t = both (a && b && c) d h in let u = both3 a b c t.0 in (u.0, u.1, u.2, t.1)

both5 : (a b c d e : Bool) → (a && b && c && d && e) ≡ true → (a ≡ true) × (b ≡ true) × (c ≡ true) × (d ≡ true) × (e ≡ true)
both5 a b c d e h = let t = both (a && b && c && d) e h in let u = both4 a b c d t.0 in (u.0, u.1, u.2, u.3, t.1)

-- both of two hold
so : {a b : Bool} → a ≡ true → b ≡ true → (a && b) ≡ true
so g h = ap₂ (λ x y. x && y) g h

paths : (xs ys : List (List ℕ)) → Decides (same_paths xs ys) (xs ≡ ys)
paths xs ys = slice_eq-Decides bytes_eq-Decides xs ys (same_paths xs ys) refl

pools_same : (o r : Option (ℕ × ℕ)) → Decides (same_pool o r) (o ≡ r)
pools_same None None = (λ h. refl, λ e. refl)
pools_same None (Some q) = (λ h. absurd (true≢false (sym h)), λ e. cc)
pools_same (Some p) None = (λ h. absurd (true≢false (sym h)), λ e. cc)
pools_same (Some p) (Some q) = (
  λ h. let t = both (p.0 == q.0) (p.1 == q.1) h in ap₂ (λ a b. Some (a, b)) (eqb-true p.0 q.0 t.0) (eqb-true p.1 q.1 t.1),
  λ e. let same : p ≡ q = cc in so (eq-eqb p.0 q.0 (ap (λ x. x.0) same)) (eq-eqb p.1 q.1 (ap (λ x. x.1) same)),
)

module _ {A B : Type 0} (f g : A → B) (E : A → A → Bool) (d : (x y : A) → Decides (E x y) (g y ≡ f x)) where
  each_same : (xs ys : List A) → Decides (pointwise E xs ys) (map g ys ≡ map f xs)
  each_same [] [] = (λ h. refl, λ e. refl)
  each_same [] (y ∷ ys) = (λ h. absurd (true≢false (sym h)), λ e. cc)
  each_same (x ∷ xs) [] = (λ h. absurd (true≢false (sym h)), λ e. cc)
  each_same (x ∷ xs) (y ∷ ys) = (
    λ h. let t = both (E x y) (pointwise E xs ys) h in ap₂ (λ z zs. z ∷ zs) ((d x y).0 t.0) ((each_same xs ys).0 t.1),
    λ e.
        let one : g y ≡ f x = cc in
        let rest : map g ys ≡ map f xs = cc in
        so ((d x y).1 one) ((each_same xs ys).1 rest),
  )

module _ (p q : List (List ℕ × ℕ)) where
  edge_told : (a b : BuildValue) → same_edge p q a b ≡ true → lent_edge q b ≡ lent_edge p a
  edge_told a b h =
      let t = both4 (same_outputs a b) (same_inputs a b) (same_rule a b) (same_pool (numbered_pool p a.pool) (numbered_pool q b.pool)) h in
      let o = both (same_paths a.explicit_outs b.explicit_outs) (same_paths a.implicit_outs b.implicit_outs) t.0 in
      let n = both4 (same_paths a.explicit b.explicit) (same_paths a.implicit b.implicit) (same_paths a.order_only b.order_only) (same_paths a.validations b.validations) t.1 in
      let r = both5 (beq a.phony b.phony) (bytes_eq a.command b.command) (beq a.keeps_deps b.keeps_deps) (beq a.restat b.restat) (beq a.generator b.generator) t.2 in
      λ i. (
        record {
          phony = sym ((booleans_Decides a.phony b.phony).0 r.0) i;
          explicit_outs = sym ((paths a.explicit_outs b.explicit_outs).0 o.0) i;
          implicit_outs = sym ((paths a.implicit_outs b.implicit_outs).0 o.1) i;
          explicit = sym ((paths a.explicit b.explicit).0 n.0) i;
          implicit = sym ((paths a.implicit b.implicit).0 n.1) i;
          order_only = sym ((paths a.order_only b.order_only).0 n.2) i;
          validations = sym ((paths a.validations b.validations).0 n.3) i;
          command = sym ((bytes_eq-Decides a.command b.command).0 r.1) i;
          depfile = [];
          rspfile = [];
          keeps_deps = sym ((booleans_Decides a.keeps_deps b.keeps_deps).0 r.2) i;
          restat = sym ((booleans_Decides a.restat b.restat).0 r.3) i;
          generator = sym ((booleans_Decides a.generator b.generator).0 r.4) i;
          pool = None;
          file = 0;
          line = 0;
        },
        sym ((pools_same (numbered_pool p a.pool) (numbered_pool q b.pool)).0 t.3) i,
      )

  edge_tells : (a b : BuildValue) → lent_edge q b ≡ lent_edge p a → same_edge p q a b ≡ true
  edge_tells a b e =
      let outs : same_outputs a b ≡ true = so ((paths a.explicit_outs b.explicit_outs).1 (sym (ap (λ x. x.0.explicit_outs) e))) ((paths a.implicit_outs b.implicit_outs).1 (sym (ap (λ x. x.0.implicit_outs) e))) in
      let ins : same_inputs a b ≡ true =
      so (so (so ((paths a.explicit b.explicit).1 (sym (ap (λ x. x.0.explicit) e))) ((paths a.implicit b.implicit).1 (sym (ap (λ x. x.0.implicit) e))))
      ((paths a.order_only b.order_only).1 (sym (ap (λ x. x.0.order_only) e))))
      ((paths a.validations b.validations).1 (sym (ap (λ x. x.0.validations) e))) in
      let rule : same_rule a b ≡ true =
      so (so (so (so ((booleans_Decides a.phony b.phony).1 (sym (ap (λ x. x.0.phony) e))) ((bytes_eq-Decides a.command b.command).1 (sym (ap (λ x. x.0.command) e))))
      ((booleans_Decides a.keeps_deps b.keeps_deps).1 (sym (ap (λ x. x.0.keeps_deps) e))))
      ((booleans_Decides a.restat b.restat).1 (sym (ap (λ x. x.0.restat) e))))
      ((booleans_Decides a.generator b.generator).1 (sym (ap (λ x. x.0.generator) e))) in
      so (so (so outs ins) rule) ((pools_same (numbered_pool p a.pool) (numbered_pool q b.pool)).1 (sym (ap (λ x. x.1) e)))

-- the test tells whether the graphs of two manifests lend the same
pub lent_told : (m n : ManifestValue) → (same_lent m n ≡ true) ↔ LendAlike m n
lent_told m n = (
  λ h.
      let t = both3 (bytes_eq (depths_of m.pools) (depths_of n.pools)) (same_paths m.defaults n.defaults) (pointwise (same_edge m.pools n.pools) m.builds n.builds) h in
      record {
        edges = (each_same (lent_edge m.pools) (lent_edge n.pools) (same_edge m.pools n.pools) edge m.builds n.builds).0 t.2;
        depths = sym ((bytes_eq-Decides (depths_of m.pools) (depths_of n.pools)).0 t.0);
        defaults = sym ((paths m.defaults n.defaults).0 t.1);
      },
  λ a.
      so (so ((bytes_eq-Decides (depths_of m.pools) (depths_of n.pools)).1 (sym a.depths)) ((paths m.defaults n.defaults).1 (sym a.defaults)))
      ((each_same (lent_edge m.pools) (lent_edge n.pools) (same_edge m.pools n.pools) edge m.builds n.builds).1 a.edges),
)
  where
    edge : (a b : BuildValue) → Decides (same_edge m.pools n.pools a b) (lent_edge n.pools b ≡ lent_edge m.pools a)
    edge a b = (edge_told m.pools n.pools a b, edge_tells m.pools n.pools a b)

-- Of edges that make a graph no fault is told but want of memory.
pub only_memory : (g : GraphValue) → IsGraph g → (f : GraphFault) → Explains f g.manifest.builds → f ≡ Memory
only_memory g is Memory e = refl
only_memory g is TooManyEdges e = let few = is.few in let never : ⊥ = omega arith in absurd never
only_memory g is (MultipleProducers path) e = let never : None ≡ Some path = sym is.single ∙ e.1 in cc
only_memory g is (Cycle path) e = absurd (ranked-acyclic g.manifest.builds g.ranks is.ranked e.2.edge e.2.least.on_cycle)
