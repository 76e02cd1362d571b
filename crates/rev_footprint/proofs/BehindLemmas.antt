-- The phony edges behind edges, one after the other.
use Rattle.std.proofs.Common.{◌≡◌, ℕ, zero, suc, ◌||◌, ◌+◌, ◌<◌, ◌≤◌, Bool, true, false, List, [], ◌∷◌, ◌++◌, map, length, get_or, take, Option, IfSome, Some, None, inl, inr, refl, sym, ap, subst, ◌∙◌, arith, append_assoc, nat_eq, if◌then◌else◌}
use Rattle.std.specs.List.{list_any, cons_option}
use Rattle.std.proofs.lemmas.Bool.{eqb-true}
use Rattle.std.proofs.lemmas.List.{append-nil, take_more, take_all, take-append-le}
use Rattle.std.proofs.lemmas.List.Elements.{filter_map-append}
use Rattle.indexmap.specs.IndexSet.{insert_key}
use Rattle.rev_manifest.specs.Manifest.{BuildValue}
use Rattle.rev_graph.specs.Graph.{build_at, producer_of}
use Rattle.rev_graph.proofs.GraphLemmas.{producer_of-within}
use Rattle.rev_causal.specs.Order.{Has}
use Rattle.rev_dirty.specs.Facts.{phony_only}
use Rattle.rev_dirty.specs.Visible.{line_inputs}
use Rattle.rev_dirty.proofs.ListLemmas.{in-front, in-back, in-filter_map}
use Rattle.rev_dirty.proofs.SeesLemmas.{append-cases}
use Rattle.rev_dirty.proofs.WalkLemmas.{filter_map-map}
use Rattle.rev_footprint.specs.Behind.{phony_among, phony_producers, next_edges, IsBehind, IsBehind.itself, IsBehind.further, AreBehind, ArePhony, Grows}

-- LISTS THAT GROW
pub grows-not : (old : List ℕ) → Grows old old []
grows-not old = record { rest = []; is = sym (append-nil old); only = λ e h. h; added = λ e h. absurd h }

pub grows-then : (a b c xs ys : List ℕ) → Grows a b xs → Grows b c ys → Grows a c (xs ++ ys)
grows-then a b c xs ys f g = record {
  rest = f.rest ++ g.rest;
  is = g.is ∙ ap (λ ks. ks ++ g.rest) f.is ∙ append_assoc a f.rest g.rest;
  only = λ e h. elim (append-cases f.rest g.rest e h) [ inl l ↦ in-front xs ys e (f.only e l) | inr r ↦ in-back xs ys e (g.only e r) ];
  added = λ e h. elim (append-cases xs ys e h) [
    | inl l ↦ subst (λ (ks : List ℕ). Has ks e) (sym g.is) (in-front b g.rest e (f.added e l))
    | inr r ↦ g.added e r
  ];
}

pub grows-as : (a b xs ys : List ℕ) → xs ≡ ys → Grows a b xs → Grows a b ys
grows-as a b xs ys e f = subst (Grows a b) e f

any-has-by : (k x : ℕ) (xs : List ℕ) (b : Bool) → nat_eq k x ≡ b → (list_any (nat_eq k) xs ≡ true → Has xs k) → (b || list_any (nat_eq k) xs) ≡ true → Has (x ∷ xs) k
any-has-by k x xs true is rest h = inl (sym (eqb-true k x is))
any-has-by k x xs false is rest h = inr (rest h)

any-has : (k : ℕ) (xs : List ℕ) → list_any (nat_eq k) xs ≡ true → Has xs k
any-has k [] h = absurd (let no : false ≡ true = h in cc)
any-has k (x ∷ xs) h = any-has-by k x xs (nat_eq k x) refl (any-has k xs) h

grows-by : (old new : List ℕ) (k : ℕ) (b : Bool) → list_any (nat_eq k) old ≡ b → new ≡ (if b then old else old ++ k ∷ []) → Grows old new (k ∷ [])
grows-by old new k true is e = record {
  rest = [];
  is = e ∙ sym (append-nil old);
  only = λ f h. absurd h;
  added = λ f h. elim h [ inl same ↦ subst (λ (ks : List ℕ). Has ks f) (sym e) (subst (Has old) same (any-has k old is)) | inr none ↦ absurd none ];
}
grows-by old new k false is e = record {
  rest = k ∷ [];
  is = e;
  only = λ f h. h;
  added = λ f h. subst (λ (ks : List ℕ). Has ks f) (sym e) (in-back old (k ∷ []) f h);
}

-- one edge that was inserted
pub grows-one : (old new : List ℕ) (k : ℕ) → new ≡ insert_key nat_eq old k → Grows old new (k ∷ [])
grows-one old new k e = grows-by old new k (list_any (nat_eq k) old) refl e

-- PHONY EDGES
pub phony-next : (builds : List BuildValue) (xs ys : List (List ℕ)) → phony_producers builds xs ++ phony_producers builds ys ≡ phony_producers builds (xs ++ ys)
phony-next builds xs ys = sym (filter_map-append (λ path. phony_only builds (producer_of builds path)) xs ys)

phony-if : (builds : List BuildValue) (edge other : ℕ) (b : Bool) → (build_at builds edge).phony ≡ b → (if b then Some edge else None) ≡ Some other → (edge ≡ other) × ((build_at builds edge).phony ≡ true)
phony-if builds edge other true is h =
    let same : edge ≡ other = cc in
    (same, is)
phony-if builds edge other false is h = absurd (let no : None ≡ Some other = h in cc)

-- PRODUCERS OF PATHS
pub grows-among : (builds : List BuildValue) (old new : List ℕ) (producers : List (Option ℕ)) (paths : List (List ℕ)) → producers ≡ map (producer_of builds) paths → Grows old new (phony_among builds producers) → Grows old new (phony_producers builds paths)
grows-among builds old new producers paths same grown =
    grows-as old new (phony_among builds producers) (phony_producers builds paths) (ap (phony_among builds) same ∙ filter_map-map (producer_of builds) (phony_only builds) paths) grown

pub grows-among-both : (builds : List BuildValue) (old middle new : List ℕ) (ps qs : List (Option ℕ)) (xs ys : List (List ℕ)) → ps ≡ map (producer_of builds) xs → qs ≡ map (producer_of builds) ys
    → Grows old middle (phony_among builds ps) → Grows middle new (phony_among builds qs) → Grows old new (phony_producers builds (xs ++ ys))
grows-among-both builds old middle new ps qs xs ys e f g h =
    grows-as old new (phony_producers builds xs ++ phony_producers builds ys) (phony_producers builds (xs ++ ys)) (phony-next builds xs ys)
    (grows-then old middle new (phony_producers builds xs) (phony_producers builds ys) (grows-among builds old middle ps xs e g) (grows-among builds middle new qs ys f h))

if-within : (n : ℕ) (o : Option ℕ) → ((edge : ℕ) → o ≡ Some edge → edge < n) → IfSome o (λ edge. edge < n)
if-within n None h = tt
if-within n (Some edge) h = h edge refl

within-at : (builds : List BuildValue) (paths : List (List ℕ)) (i : ℕ) (d : Option ℕ) → i < length (map (producer_of builds) paths) → IfSome (get_or (map (producer_of builds) paths) i d) (λ edge. edge < length builds)
within-at builds [] i d lt = absurd (omega arith)
within-at builds (path ∷ paths) zero d lt = if-within (length builds) (producer_of builds path) (λ edge. producer_of-within path builds edge)
within-at builds (path ∷ paths) (suc i) d lt = within-at builds paths i d (omega arith)

-- a producer of paths is an edge
pub producer-within : (builds : List BuildValue) (producers : List (Option ℕ)) (paths : List (List ℕ)) (i : ℕ) → producers ≡ map (producer_of builds) paths → i < length producers → IfSome (get_or producers i None) (λ edge. edge < length builds)
producer-within builds producers paths i same lt =
    subst (λ (os : List (Option ℕ)). IfSome (get_or os i None) (λ edge. edge < length builds)) (sym same) (within-at builds paths i None (subst (λ (os : List (Option ℕ)). i < length os) same lt))

-- what a path's producer is where it is phony
pub record IsPhonyProducer (builds : List BuildValue) (path : List ℕ) (edge : ℕ) : Type 0 where
  pub produces : producer_of builds path ≡ Some edge
  pub phony : (build_at builds edge).phony ≡ true

pub phony-of : (builds : List BuildValue) (path : List ℕ) (edge : ℕ) → phony_only builds (producer_of builds path) ≡ Some edge → IsPhonyProducer builds path edge
phony-of builds path edge h = by (producer_of builds path) refl h
  where
    by : (o : Option ℕ) → producer_of builds path ≡ o → phony_only builds o ≡ Some edge → IsPhonyProducer builds path edge
    by None e h = absurd (let no : None ≡ Some edge = h in cc)
    by (Some other) e h =
        let p = phony-if builds other edge (build_at builds other).phony refl h in
        record { produces = e ∙ ap Some p.0; phony = subst (λ n. (build_at builds n).phony ≡ true) p.0 p.1 }

pub phony-only : (builds : List BuildValue) (path : List ℕ) (edge : ℕ) → IsPhonyProducer builds path edge → phony_only builds (producer_of builds path) ≡ Some edge
phony-only builds path edge p = ap (phony_only builds) p.produces ∙ ap (λ b. if b then Some edge else None) p.phony

-- an edge among the phony producers of paths, and the path that it produces
pub record FromPath (builds : List BuildValue) (paths : List (List ℕ)) (edge : ℕ) : Type 0 where
  pub path : List ℕ
  pub there : Has paths path
  pub produces : IsPhonyProducer builds path edge

found-by : (builds : List BuildValue) (p : List ℕ) (paths : List (List ℕ)) (edge : ℕ) (o : Option ℕ) → phony_only builds (producer_of builds p) ≡ o
    → Has (cons_option o (phony_producers builds paths)) edge → (Has (phony_producers builds paths) edge → FromPath builds paths edge) → FromPath builds (p ∷ paths) edge
found-by builds p paths edge None e h rest =
    let r = rest h in
    record { path = r.path; there = inr r.there; produces = r.produces }
found-by builds p paths edge (Some other) e (inl same) rest = record { path = p; there = inl refl; produces = phony-of builds p edge (e ∙ ap Some same) }
found-by builds p paths edge (Some other) e (inr h) rest =
    let r = rest h in
    record { path = r.path; there = inr r.there; produces = r.produces }

pub from-path : (builds : List BuildValue) (paths : List (List ℕ)) (edge : ℕ) → Has (phony_producers builds paths) edge → FromPath builds paths edge
from-path builds [] edge h = absurd h
from-path builds (p ∷ paths) edge h = found-by builds p paths edge (phony_only builds (producer_of builds p)) refl h (from-path builds paths edge)

pub to-phony : (builds : List BuildValue) (paths : List (List ℕ)) (path : List ℕ) (edge : ℕ) → Has paths path → IsPhonyProducer builds path edge → Has (phony_producers builds paths) edge
to-phony builds paths path edge at p = in-filter_map (λ q. phony_only builds (producer_of builds q)) paths path edge at (phony-only builds path edge p)

pub are-phony : (builds : List BuildValue) (paths : List (List ℕ)) → ArePhony builds (phony_producers builds paths)
are-phony builds paths edge h =
    let r = from-path builds paths edge h in
    record { is_edge = producer_of-within r.path builds edge r.produces.produces; phony = r.produces.phony }

pub phony-grows : (builds : List BuildValue) (old new : List ℕ) (paths : List (List ℕ)) → ArePhony builds old → Grows old new (phony_producers builds paths) → ArePhony builds new
phony-grows builds old new paths phony g edge h =
    elim (append-cases old g.rest edge (subst (λ (ks : List ℕ). Has ks edge) g.is h)) [ inl l ↦ phony edge l | inr r ↦ are-phony builds paths edge (g.only edge r) ]

-- THE WALK
-- what holds where the edges before a place were looked at
pub record IsAt (builds : List BuildValue) (edges : List ℕ) (all : List ℕ) (next : ℕ) : Type 0 where
  pub behind : (edge : ℕ) → Has all edge → IsBehind builds edges edge
  pub kept : (edge : ℕ) → Has edges edge → Has all edge
  pub closed : (edge other : ℕ) → Has (take next all) edge → Has (next_edges builds edge) other → Has all other
  pub phony : ArePhony builds all

pub at-first : (builds : List BuildValue) (edges : List ℕ) → ArePhony builds edges → IsAt builds edges edges 0
at-first builds edges phony = record { behind = λ edge h. itself h; kept = λ edge h. h; closed = λ edge other h. absurd h; phony = phony }

pub at-last : (builds : List BuildValue) (edges all : List ℕ) (next : ℕ) → IsAt builds edges all next → length all ≤ next → AreBehind builds edges all
at-last builds edges all next w past = record {
  behind = w.behind;
  kept = w.kept;
  closed = λ edge other h. w.closed edge other (subst (λ (ks : List ℕ). Has ks edge) (sym (take_all next all past)) h);
  phony = w.phony;
}

in-take : (n : ℕ) (xs : List ℕ) (x : ℕ) → Has (take n xs) x → Has xs x
in-take zero xs x h = absurd h
in-take (suc n) [] x h = h
in-take (suc n) (y ∷ ys) x (inl e) = inl e
in-take (suc n) (y ∷ ys) x (inr h) = inr (in-take n ys x h)

pub has-at : (xs : List ℕ) (i x : ℕ) → i < length xs → x ≡ get_or xs i 0 → Has xs x
has-at xs i x within is =
    let one : take (i + 1) xs ≡ take i xs ++ get_or xs i 0 ∷ [] = take_more xs i 0 within in
    in-take (i + 1) xs x (subst (λ (ks : List ℕ). Has ks x) (sym one) (in-back (take i xs) (get_or xs i 0 ∷ []) x (inl (sym is))))

pub at-next : (builds : List BuildValue) (edges all later : List ℕ) (next edge : ℕ) → next < length all → edge ≡ get_or all next 0 → IsAt builds edges all next → Grows all later (next_edges builds edge)
    → IsAt builds edges later (next + 1)
at-next builds edges all later next edge within is w g = record {
  behind = λ other h. elim (append-cases all g.rest other (subst (λ (ks : List ℕ). Has ks other) g.is h)) [
    | inl l ↦ w.behind other l
    | inr r ↦ further (w.behind edge (has-at all next edge within is)) (g.only other r)
  ];
  kept = λ other h. grown other (w.kept other h);
  closed = λ from other h n. elim (append-cases (take next all) (edge ∷ []) from (subst (λ (ks : List ℕ). Has ks from) looked h)) [
    | inl l ↦ grown other (w.closed from other l n)
    | inr r ↦ elim r [ inl same ↦ g.added other (subst (λ e. Has (next_edges builds e) other) (sym same) n) | inr none ↦ absurd none ]
  ];
  phony = λ other h. elim (append-cases all g.rest other (subst (λ (ks : List ℕ). Has ks other) g.is h)) [
    | inl l ↦ w.phony other l
    | inr r ↦ are-phony builds (line_inputs (build_at builds edge)) other (g.only other r)
  ];
}
  where
    grown : (other : ℕ) → Has all other → Has later other
    grown other h = subst (λ (ks : List ℕ). Has ks other) (sym g.is) (in-front all g.rest other h)

    looked : take (next + 1) later ≡ take next all ++ edge ∷ []
    looked =
        let fits : next + 1 ≤ length all = omega arith in
        ap (take (next + 1)) g.is ∙ take-append-le (next + 1) all g.rest fits ∙ take_more all next 0 within ∙ ap (λ e. take next all ++ e ∷ []) (sym is)

-- EDGES IN ANOTHER ORDER
behind-moved : (builds : List BuildValue) (edges others : List ℕ) → ((edge : ℕ) → Has edges edge → Has others edge) → {edge : ℕ} → IsBehind builds edges edge → IsBehind builds others edge
behind-moved builds edges others move (itself {edge} h) = itself (move edge h)
behind-moved builds edges others move (further way h) = further (behind-moved builds edges others move way) h

-- what is behind the edges that a set grew by
pub behind-grown : (builds : List BuildValue) (old edges more all : List ℕ) → old ≡ [] → Grows old edges more → AreBehind builds edges all → AreBehind builds more all
behind-grown builds old edges more all none g b =
    let is : edges ≡ g.rest = g.is ∙ ap (λ ks. ks ++ g.rest) none in
    record {
      behind = λ edge h. behind-moved builds edges more (λ e k. g.only e (subst (λ (ks : List ℕ). Has ks e) is k)) (b.behind edge h);
      kept = λ edge h. b.kept edge (g.added edge h);
      closed = b.closed;
      phony = b.phony;
    }

pub phony-grown : (builds : List BuildValue) (old edges : List ℕ) (paths : List (List ℕ)) → old ≡ [] → Grows old edges (phony_producers builds paths) → ArePhony builds edges
phony-grown builds old edges paths none g edge h =
    let is : edges ≡ g.rest = g.is ∙ ap (λ ks. ks ++ g.rest) none in
    are-phony builds paths edge (g.only edge (subst (λ (ks : List ℕ). Has ks edge) is h))
