-- What edges changed.
use Rattle.std.proofs.Common.{◌≡◌, ℕ, ◌+◌, ◌<◌, Bool, true, false, ◌||◌, cond, List, [], ◌∷◌, ◌++◌, length, get_or, Option, Some, None, take, refl, sym, ap, ◌∙◌, bytes_eq, nat_eq, subst}
use Rattle.std.specs.List.{filter_map, cons_option, list_any}
use Rattle.std.proofs.lemmas.List.{take_more}
use Rattle.std.proofs.lemmas.List.Elements.{filter_map-append}
use Rattle.std.proofs.lemmas.List.Folds.{list_any-append}
use Rattle.std.proofs.lemmas.Bool.{eqb-true}
use Rattle.std.specs.Prelude.{IfSome}
use Rattle.std.specs.HashSet.{HashSet}
use Rattle.rev_manifest.specs.Manifest.{BuildValue}
use Rattle.rev_cells.specs.State.{State}
use Rattle.rev_dirty.specs.Changes.{AreOutputs}
use Rattle.indexmap.specs.IndexSet.{insert_key}
use Rattle.rev_graph.specs.Graph.{has_path}
use Rattle.rev_graph.proofs.EntryLemmas.{has_path-push, same_bytes}

or-known : (known same : Bool) → (same ≡ true → known ≡ true) → known ≡ (known || same)
or-known true same h = refl
or-known false false h = refl
or-known false true h = h refl

-- the paths after one more was put into a set
inserted-by : (keys : List (List ℕ)) (output path : List ℕ) (there : Bool) → list_any (bytes_eq output) keys ≡ there → has_path (cond there keys (keys ++ output ∷ [])) path ≡ (has_path keys path || bytes_eq path output)
inserted-by keys output path true is = or-known (has_path keys path) (bytes_eq path output) (λ same. ap (has_path keys) (same_bytes path output same) ∙ is)
inserted-by keys output path false is = has_path-push keys output path

pub inserted : (keys : List (List ℕ)) (output path : List ℕ) → has_path (insert_key bytes_eq keys output) path ≡ (has_path keys path || bytes_eq path output)
inserted keys output path = inserted-by keys output path (list_any (bytes_eq output) keys) refl

or_false : (b : Bool) → (b || false) ≡ b
or_false true = refl
or_false false = refl

-- the outputs at one more position
more-by : (h : ℕ → Option (List ℕ)) (positions : List ℕ) (i d : ℕ) (path : List ℕ) (o : Option (List ℕ)) → i < length positions → h (get_or positions i d) ≡ o
    → (has_path (filter_map h (take i positions)) path || has_path (cons_option o []) path) ≡ has_path (filter_map h (take (i + 1) positions)) path
more-by h positions i d path o within is =
    sym
    (ap (λ ps. has_path (filter_map h ps) path) (take_more positions i d within)
    ∙ ap (λ ps. has_path ps path) (filter_map-append h (take i positions) (get_or positions i d ∷ []))
    ∙ list_any-append (bytes_eq path) (filter_map h (take i positions)) (filter_map h (get_or positions i d ∷ []))
    ∙ (λ k. has_path (filter_map h (take i positions)) path || has_path (cons_option (is k) []) path))

pub found-more : (h : ℕ → Option (List ℕ)) (positions : List ℕ) (i d : ℕ) (keys later : List (List ℕ)) (output path : List ℕ) → i < length positions → h (get_or positions i d) ≡ Some output
    → later ≡ insert_key bytes_eq keys output → has_path keys path ≡ has_path (filter_map h (take i positions)) path → has_path later path ≡ has_path (filter_map h (take (i + 1) positions)) path
found-more h positions i d keys later output path within is put before =
    ap (λ ks. has_path ks path) put ∙ inserted keys output path
    ∙ (λ k. before k || sym (or_false (bytes_eq path output)) k)
    ∙ more-by h positions i d path (Some output) within is

pub none-more : (h : ℕ → Option (List ℕ)) (positions : List ℕ) (i d : ℕ) (keys : List (List ℕ)) (path : List ℕ) → i < length positions → h (get_or positions i d) ≡ None
    → has_path keys path ≡ has_path (filter_map h (take i positions)) path → has_path keys path ≡ has_path (filter_map h (take (i + 1) positions)) path
none-more h positions i d keys path within is before =
    before ∙ sym (or_false (has_path (filter_map h (take i positions)) path)) ∙ more-by h positions i d path None within is

-- one more edge that was met
pub changes-more : {S : Type 0} (builds : List BuildValue) (state : State) (edge other : ℕ) (set : HashSet (List ℕ) S) (b : Bool) (before after : Option (HashSet (List ℕ) S)) → nat_eq edge other ≡ b
    → after ≡ cond b (Some set) before → AreOutputs builds state edge set.keys → IfSome before (λ s. AreOutputs builds state other s.keys) → IfSome after (λ s. AreOutputs builds state other s.keys)
changes-more {S = S} builds state edge other set true before after is more new old =
    subst (λ (o : Option (HashSet (List ℕ) S)). IfSome o (λ s. AreOutputs builds state other s.keys)) (sym more) (subst (λ (e : ℕ). AreOutputs builds state e set.keys) (eqb-true edge other is) new)
changes-more {S = S} builds state edge other set false before after is more new old =
    subst (λ (o : Option (HashSet (List ℕ) S)). IfSome o (λ s. AreOutputs builds state other s.keys)) (sym more) old
