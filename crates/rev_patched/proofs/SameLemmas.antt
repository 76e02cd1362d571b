-- Tests of manifests that are the same but for orders.
use Rattle.std.proofs.Common.{◌≡◌, ◌≤◌, ◌==◌, ◌↔◌, ℕ, suc, length, take, drop, Bool, true, false, ◌&&◌, ◌||◌, List, [], ◌∷◌, ◌++◌, Option, None, Some, ◌⊎◌, inl, inr, refl, sym, ap, ap₂, ◌∙◌, bytes_eq, eq-eqb, eqb-true, true≢false, arith}
use Rattle.std.proofs.Math.Bool.{beq}
use Rattle.std.specs.Bool.{Decides}
use Rattle.std.specs.Cmp.{booleans_Decides}
use Rattle.std.proofs.lemmas.Slice.Eq.{bytes_eq-Decides, slice_eq-Decides}
use Rattle.rev_manifest.specs.Builds.{BuildValue, ManifestValue}
use Rattle.rev_manifest.specs.Names.{without}
use Rattle.rev_graph.specs.Alike.{same_outputs, same_paths, same_rule}
use Rattle.rev_patched.specs.declared.orders.Order.{Order}
use Rattle.rev_patched.specs.Orders.{DefaultsStay, IsOrdered, ordered_from, ordered_paths, paths_for, with_inputs}
use Rattle.rev_patched.specs.Same.{same_defaults, same_edge, same_from, same_inputs, same_manifest, same_number, same_place, same_pool, same_pools}

pub both : (a b : Bool) → (a && b) ≡ true → (a ≡ true) × (b ≡ true)
both true b h = (refl, h)
both false b h = absurd (true≢false (sym h))

pub both3 : (a b c : Bool) → (a && b && c) ≡ true → (a ≡ true) × (b ≡ true) × (c ≡ true)
both3 a b c h = let t = both (a && b) c h in let u = both a b t.0 in (u.0, u.1, t.1)

pub both4 : (a b c d : Bool) → (a && b && c && d) ≡ true → (a ≡ true) × (b ≡ true) × (c ≡ true) × (d ≡ true)
both4 a b c d h = let t = both (a && b && c) d h in let u = both3 a b c t.0 in (u.0, u.1, u.2, t.1)

pub both5 : (a b c d e : Bool) → (a && b && c && d && e) ≡ true → (a ≡ true) × (b ≡ true) × (c ≡ true) × (d ≡ true) × (e ≡ true)
both5 a b c d e h = let t = both (a && b && c && d) e h in let u = both4 a b c d t.0 in (u.0, u.1, u.2, u.3, t.1)

-- both of two hold
pub so : {a b : Bool} → a ≡ true → b ≡ true → (a && b) ≡ true
so g h = ap₂ (λ x y. x && y) g h

pub paths_same : (xs ys : List (List ℕ)) → Decides (same_paths xs ys) (xs ≡ ys)
paths_same xs ys = slice_eq-Decides bytes_eq-Decides xs ys (same_paths xs ys) refl

pub numbers_same : (o r : Option ℕ) → Decides (same_number o r) (o ≡ r)
numbers_same None None = (λ h. refl, λ e. refl)
numbers_same None (Some q) = (λ h. absurd (true≢false (sym h)), λ e. cc)
numbers_same (Some p) None = (λ h. absurd (true≢false (sym h)), λ e. cc)
numbers_same (Some p) (Some q) = (
  λ h. ap Some (eqb-true p q h),
  λ e. let same : p ≡ q = cc in eq-eqb p q same,
)

pool_same : (p q : List ℕ × ℕ) → Decides (same_pool p q) (p ≡ q)
pool_same p q = (
  λ h. let t = both (bytes_eq p.0 q.0) (p.1 == q.1) h in λ i. ((bytes_eq-Decides p.0 q.0).0 t.0 i, eqb-true p.1 q.1 t.1 i),
  λ e. so ((bytes_eq-Decides p.0 q.0).1 (ap (λ x. x.0) e)) (eq-eqb p.1 q.1 (ap (λ x. x.1) e)),
)

pub pools_same : (ps qs : List (List ℕ × ℕ)) → Decides (same_pools ps qs) (ps ≡ qs)
pools_same ps qs = slice_eq-Decides pool_same ps qs (same_pools ps qs) refl

module _ (paths : List (List ℕ)) where
  edge_told : (a b : BuildValue) → same_edge a paths b ≡ true → b ≡ with_inputs a paths
  edge_told a b h =
      let t = both4 (same_outputs a b) (same_inputs a paths b) (same_rule a b) (same_place a b) h in
      let o = both (same_paths a.explicit_outs b.explicit_outs) (same_paths a.implicit_outs b.implicit_outs) t.0 in
      let n = both4 (same_paths a.explicit b.explicit) (same_paths a.implicit b.implicit) (same_paths (a.order_only ++ paths) b.order_only) (same_paths a.validations b.validations) t.1 in
      let r = both5 (beq a.phony b.phony) (bytes_eq a.command b.command) (beq a.keeps_deps b.keeps_deps) (beq a.restat b.restat) (beq a.generator b.generator) t.2 in
      let p = both5 (bytes_eq a.depfile b.depfile) (bytes_eq a.rspfile b.rspfile) (same_number a.pool b.pool) (a.file == b.file) (a.line == b.line) t.3 in
      λ i. record {
        phony = sym ((booleans_Decides a.phony b.phony).0 r.0) i;
        explicit_outs = sym ((paths_same a.explicit_outs b.explicit_outs).0 o.0) i;
        implicit_outs = sym ((paths_same a.implicit_outs b.implicit_outs).0 o.1) i;
        explicit = sym ((paths_same a.explicit b.explicit).0 n.0) i;
        implicit = sym ((paths_same a.implicit b.implicit).0 n.1) i;
        order_only = sym ((paths_same (a.order_only ++ paths) b.order_only).0 n.2) i;
        validations = sym ((paths_same a.validations b.validations).0 n.3) i;
        command = sym ((bytes_eq-Decides a.command b.command).0 r.1) i;
        depfile = sym ((bytes_eq-Decides a.depfile b.depfile).0 p.0) i;
        rspfile = sym ((bytes_eq-Decides a.rspfile b.rspfile).0 p.1) i;
        keeps_deps = sym ((booleans_Decides a.keeps_deps b.keeps_deps).0 r.2) i;
        restat = sym ((booleans_Decides a.restat b.restat).0 r.3) i;
        generator = sym ((booleans_Decides a.generator b.generator).0 r.4) i;
        pool = sym ((numbers_same a.pool b.pool).0 p.2) i;
        file = sym (eqb-true a.file b.file p.3) i;
        line = sym (eqb-true a.line b.line p.4) i;
      }

  edge_tells : (a b : BuildValue) → b ≡ with_inputs a paths → same_edge a paths b ≡ true
  edge_tells a b e =
      let outs : same_outputs a b ≡ true = so ((paths_same a.explicit_outs b.explicit_outs).1 (sym (ap (λ x. x.explicit_outs) e))) ((paths_same a.implicit_outs b.implicit_outs).1 (sym (ap (λ x. x.implicit_outs) e))) in
      let ins : same_inputs a paths b ≡ true =
      so (so (so ((paths_same a.explicit b.explicit).1 (sym (ap (λ x. x.explicit) e))) ((paths_same a.implicit b.implicit).1 (sym (ap (λ x. x.implicit) e))))
      ((paths_same (a.order_only ++ paths) b.order_only).1 (sym (ap (λ x. x.order_only) e))))
      ((paths_same a.validations b.validations).1 (sym (ap (λ x. x.validations) e))) in
      let rule : same_rule a b ≡ true =
      so (so (so (so ((booleans_Decides a.phony b.phony).1 (sym (ap (λ x. x.phony) e))) ((bytes_eq-Decides a.command b.command).1 (sym (ap (λ x. x.command) e))))
      ((booleans_Decides a.keeps_deps b.keeps_deps).1 (sym (ap (λ x. x.keeps_deps) e))))
      ((booleans_Decides a.restat b.restat).1 (sym (ap (λ x. x.restat) e))))
      ((booleans_Decides a.generator b.generator).1 (sym (ap (λ x. x.generator) e))) in
      let place : same_place a b ≡ true =
      so (so (so (so ((bytes_eq-Decides a.depfile b.depfile).1 (sym (ap (λ x. x.depfile) e))) ((bytes_eq-Decides a.rspfile b.rspfile).1 (sym (ap (λ x. x.rspfile) e))))
      ((numbers_same a.pool b.pool).1 (sym (ap (λ x. x.pool) e))))
      (eq-eqb a.file b.file (sym (ap (λ x. x.file) e))))
      (eq-eqb a.line b.line (sym (ap (λ x. x.line) e))) in
      so (so (so outs ins) rule) place

from_told : (n : ℕ) (orders : List Order) (olds news : List BuildValue) → Decides (same_from n orders olds news) (news ≡ ordered_from n orders olds)
from_told n orders [] [] = (λ h. refl, λ e. refl)
from_told n orders [] (b ∷ bs) = (λ h. absurd (true≢false (sym h)), λ e. cc)
from_told n orders (a ∷ olds) [] = (λ h. absurd (true≢false (sym h)), λ e. cc)
from_told n orders (a ∷ olds) (b ∷ bs) = (
  λ h. let t = both (same_edge a (paths_for orders n) b) (same_from (suc n) orders olds bs) h in
      ap₂ (λ z zs. z ∷ zs) (edge_told (paths_for orders n) a b t.0) ((from_told (suc n) orders olds bs).0 t.1),
  λ e.
      let one : b ≡ with_inputs a (paths_for orders n) = cc in
      let others : bs ≡ ordered_from (suc n) orders olds = cc in
      so (edge_tells (paths_for orders n) a b one) ((from_told (suc n) orders olds bs).1 others),
)

pub and-false : (a b : Bool) → false ≡ b → false ≡ (a && b)
and-false true b h = h
and-false false b h = refl

-- edges of another number are not the same
pub same-long : (n : ℕ) (orders : List Order) (olds news : List BuildValue) → (length olds ≡ length news → ⊥) → false ≡ same_from n orders olds news
same-long n orders [] [] other = absurd (other refl)
same-long n orders [] (b ∷ bs) other = refl
same-long n orders (a ∷ olds) [] other = refl
same-long n orders (a ∷ olds) (b ∷ bs) other =
    and-false (same_edge a (paths_for orders n) b) (same_from (suc n) orders olds bs) (same-long (suc n) orders olds bs (λ e. other (ap suc e)))

and_assoc : (a b c : Bool) → (a && (b && c)) ≡ ((a && b) && c)
and_assoc true b c = refl
and_assoc false b c = refl

-- paths behind others, by the front and the rest of what they are compared with
joined : (xs ys zs : List (List ℕ)) → length xs ≤ length zs
    → same_paths (xs ++ ys) zs ≡ (same_paths xs (take (length xs) zs) && same_paths ys (drop (length xs) zs))
joined [] ys zs fits = refl
joined (x ∷ xs) ys [] fits = absurd (omega arith)
joined (x ∷ xs) ys (z ∷ zs) fits =
    ap (λ b. bytes_eq x z && b) (joined xs ys zs (omega arith))
    ∙ and_assoc (bytes_eq x z) (same_paths xs (take (length xs) zs)) (same_paths ys (drop (length xs) zs))

pub joined-then : (xs ys zs front back : List (List ℕ)) → front ≡ take (length xs) zs → back ≡ drop (length xs) zs → length xs ≤ length zs
    → same_paths xs front ≡ true → same_paths ys back ≡ same_paths (xs ++ ys) zs
joined-then xs ys zs front back f b fits same =
    ap (same_paths ys) b ∙ sym (joined xs ys zs fits ∙ ap (λ t. t && same_paths ys (drop (length xs) zs)) (ap (same_paths xs) (sym f) ∙ same))

pub joined-else : (xs ys zs front : List (List ℕ)) → front ≡ take (length xs) zs → length xs ≤ length zs
    → same_paths xs front ≡ false → false ≡ same_paths (xs ++ ys) zs
joined-else xs ys zs front f fits same =
    sym (joined xs ys zs fits ∙ ap (λ t. t && same_paths ys (drop (length xs) zs)) (ap (same_paths xs) (sym f) ∙ same))

pub either : (a b : Bool) → (a || b) ≡ true → (a ≡ true) ⊎ (b ≡ true)
either true b h = inl refl
either false b h = inr h

or_left : (a b : Bool) → a ≡ true → (a || b) ≡ true
or_left a b h = ap (λ x. x || b) h

or_right : (a b : Bool) → b ≡ true → (a || b) ≡ true
or_right true b h = refl
or_right false b h = h

defaults_told : (orders : List Order) (old new : List (List ℕ)) → Decides (same_defaults orders old new) (DefaultsStay orders old new)
defaults_told orders old new = (
  λ h. elim (either (same_paths new old) (same_paths new (without (ordered_paths orders) old)) h) [
    | inl e ↦ inl ((paths_same new old).0 e)
    | inr e ↦ inr ((paths_same new (without (ordered_paths orders) old)).0 e)
  ],
  λ s. elim s [
    | inl e ↦ or_left (same_paths new old) (same_paths new (without (ordered_paths orders) old)) ((paths_same new old).1 e)
    | inr e ↦ or_right (same_paths new old) (same_paths new (without (ordered_paths orders) old)) ((paths_same new (without (ordered_paths orders) old)).1 e)
  ],
)

-- the test tells whether a manifest is another one with orders and nothing else
pub manifest_told : (orders : List Order) (m n : ManifestValue) → (same_manifest orders m n ≡ true) ↔ IsOrdered m n orders
manifest_told orders m n = (
  λ h.
      let t = both3 (same_pools m.pools n.pools) (same_from 0 orders m.builds n.builds) (same_defaults orders m.defaults n.defaults) h in
      record {
        builds = (from_told 0 orders m.builds n.builds).0 t.1;
        pools = sym ((pools_same m.pools n.pools).0 t.0);
        defaults = (defaults_told orders m.defaults n.defaults).0 t.2;
      },
  λ a.
      so (so ((pools_same m.pools n.pools).1 (sym a.pools)) ((from_told 0 orders m.builds n.builds).1 a.builds))
      ((defaults_told orders m.defaults n.defaults).1 a.defaults),
)
