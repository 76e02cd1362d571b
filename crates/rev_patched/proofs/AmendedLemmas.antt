-- Tests of manifests that are the same but for additions.
use Rattle.std.proofs.Common.{◌≡◌, ◌==◌, ℕ, suc, length, Bool, true, false, ◌&&◌, ◌||◌, List, [], ◌∷◌, ◌++◌, ◌⊎◌, inl, inr, refl, sym, ap, ap₂, bytes_eq, eqb-true, true≢false}
use Rattle.std.proofs.Math.Bool.{beq}
use Rattle.std.specs.Cmp.{booleans_Decides}
use Rattle.std.proofs.lemmas.Slice.Eq.{bytes_eq-Decides}
use Rattle.rev_manifest.specs.Builds.{BuildValue, ManifestValue}
use Rattle.rev_manifest.specs.Names.{without}
use Rattle.rev_graph.specs.Alike.{same_paths, same_rule}
use Rattle.rev_patched.specs.declared.orders.Order.{Order}
use Rattle.rev_patched.specs.Orders.{ordered_paths, paths_for}
use Rattle.rev_patched.specs.Same.{same_number, same_place, same_pools}
use Rattle.rev_patched.specs.Amended.{IsAmended, Stay, amended_from, amends_edge, amends_from, amends_inputs, amends_manifest, amends_outputs, stays, with_paths}
use Rattle.rev_patched.proofs.SameLemmas.{and-false, both, both3, both4, both5, either, numbers_same, paths_same, pools_same}

module _ (outs ins ords : List (List ℕ)) where
  edge_amended : (a b : BuildValue) → amends_edge a outs ins ords b ≡ true → b ≡ with_paths a outs ins ords
  edge_amended a b h =
      let t = both4 (amends_outputs a outs b) (amends_inputs a ins ords b) (same_rule a b) (same_place a b) h in
      let o = both (same_paths a.explicit_outs b.explicit_outs) (same_paths (a.implicit_outs ++ outs) b.implicit_outs) t.0 in
      let n = both4 (same_paths a.explicit b.explicit) (same_paths (a.implicit ++ ins) b.implicit) (same_paths (a.order_only ++ ords) b.order_only) (same_paths a.validations b.validations) t.1 in
      let r = both5 (beq a.phony b.phony) (bytes_eq a.command b.command) (beq a.keeps_deps b.keeps_deps) (beq a.restat b.restat) (beq a.generator b.generator) t.2 in
      let p = both5 (bytes_eq a.depfile b.depfile) (bytes_eq a.rspfile b.rspfile) (same_number a.pool b.pool) (a.file == b.file) (a.line == b.line) t.3 in
      λ i. record {
        phony = sym ((booleans_Decides a.phony b.phony).0 r.0) i;
        explicit_outs = sym ((paths_same a.explicit_outs b.explicit_outs).0 o.0) i;
        implicit_outs = sym ((paths_same (a.implicit_outs ++ outs) b.implicit_outs).0 o.1) i;
        explicit = sym ((paths_same a.explicit b.explicit).0 n.0) i;
        implicit = sym ((paths_same (a.implicit ++ ins) b.implicit).0 n.1) i;
        order_only = sym ((paths_same (a.order_only ++ ords) b.order_only).0 n.2) i;
        validations = sym ((paths_same a.validations b.validations).0 n.3) i;
        command = sym ((bytes_eq-Decides a.command b.command).0 r.1) i;
        depfile = sym ((bytes_eq-Decides a.depfile b.depfile).0 p.0) i;
        rspfile = sym ((bytes_eq-Decides a.rspfile b.rspfile).0 p.1) i;
        keeps_deps = sym ((booleans_Decides a.keeps_deps b.keeps_deps).0 r.2) i;
        restat = sym ((booleans_Decides a.restat b.restat).0 r.3) i;
        generator = sym ((booleans_Decides a.generator b.generator).0 r.4) i;
        pool = sym ((numbers_same a.pool b.pool).0 p.2) i;
        file = sym (eqb-true a.file b.file p.3) i;
        line = sym (eqb-true a.line b.line p.4) i;
      }

from_amended : (n : ℕ) (outs ins ords : List Order) (olds news : List BuildValue) → amends_from n outs ins ords olds news ≡ true → news ≡ amended_from n outs ins ords olds
from_amended n outs ins ords [] [] h = refl
from_amended n outs ins ords [] (b ∷ bs) h = absurd (true≢false (sym h))
from_amended n outs ins ords (a ∷ olds) [] h = absurd (true≢false (sym h))
from_amended n outs ins ords (a ∷ olds) (b ∷ bs) h =
    let t = both (amends_edge a (paths_for outs n) (paths_for ins n) (paths_for ords n) b) (amends_from (suc n) outs ins ords olds bs) h in
    ap₂ (λ z zs. z ∷ zs) (edge_amended (paths_for outs n) (paths_for ins n) (paths_for ords n) a b t.0) (from_amended (suc n) outs ins ords olds bs t.1)

-- edges of another number are not the same
pub amends-long : (n : ℕ) (outs ins ords : List Order) (olds news : List BuildValue) → (length olds ≡ length news → ⊥) → false ≡ amends_from n outs ins ords olds news
amends-long n outs ins ords [] [] other = absurd (other refl)
amends-long n outs ins ords [] (b ∷ bs) other = refl
amends-long n outs ins ords (a ∷ olds) [] other = refl
amends-long n outs ins ords (a ∷ olds) (b ∷ bs) other =
    and-false (amends_edge a (paths_for outs n) (paths_for ins n) (paths_for ords n) b) (amends_from (suc n) outs ins ords olds bs) (amends-long (suc n) outs ins ords olds bs (λ e. other (ap suc e)))

stays_told : (outs ins ords old new : List (List ℕ)) → stays outs ins ords old new ≡ true → Stay outs ins ords old new
stays_told outs ins ords old new h =
    elim (either (same_paths new old) (same_paths (without outs new) (without ords (without ins old))) h) [
      | inl e ↦ inl ((paths_same new old).0 e)
      | inr e ↦ inr ((paths_same (without outs new) (without ords (without ins old))).0 e)
    ]

-- where the test says so, a manifest is another one with additions and nothing else
pub manifest_amended : (outs ins ords : List Order) (m n : ManifestValue) → amends_manifest outs ins ords m n ≡ true → IsAmended m n outs ins ords
manifest_amended outs ins ords m n h =
    let t = both3 (same_pools m.pools n.pools) (amends_from 0 outs ins ords m.builds n.builds) (stays (ordered_paths outs) (ordered_paths ins) (ordered_paths ords) m.defaults n.defaults) h in
    record {
      builds = from_amended 0 outs ins ords m.builds n.builds t.1;
      pools = sym ((pools_same m.pools n.pools).0 t.0);
      defaults = stays_told (ordered_paths outs) (ordered_paths ins) (ordered_paths ords) m.defaults n.defaults t.2;
    }
