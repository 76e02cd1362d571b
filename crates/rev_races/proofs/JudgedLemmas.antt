-- What is not judged is one of two, and edges that pass a test, one after the other.
use Rattle.std.proofs.Common.{◌≡◌, ℕ, ◌+◌, map, arith, Bool, true, false, not, ◌&&◌, List, [], ◌∷◌, ◌++◌, cond, Option, Some, None, inl, inr, refl, sym, ap, ◌∙◌, true≢false, if◌then◌else◌}
use Rattle.std.specs.Prelude.{is_none, filter}
use Rattle.std.specs.List.{range_with_len}
use Rattle.std.proofs.lemmas.List.FromFn.{filter_of_map_range_with_len_more, map-range_with_len_more}
use Rattle.rev_graph.specs.Graph.{build_at, no_build}
use Rattle.rev_races.specs.Judged.{NotJudgedIsEither}
use Rattle.std.specs.Option.{option_or}
use Rattle.rev_races.specs.Races.{last_list, lists, recorded}
use Rattle.rev_races.proofs.Waiting.{decide}

and-both : (a b : Bool) → a ≡ true → b ≡ true → (a && b) ≡ true
and-both true true h k = refl
and-both true false h k = k
and-both false b h k = h

first-of : (a b : Bool) → (a && b) ≡ true → a ≡ true
first-of true b h = refl
first-of false b h = h

second-of : (a b : Bool) → (a && b) ≡ true → b ≡ true
second-of true b h = h
second-of false b h = absurd (true≢false (sym h))

none-is : (o : Option (List (List ℕ))) → is_none o ≡ true → o ≡ None
none-is None h = refl
none-is (Some x) h = absurd (true≢false (sym h))

not-true : (b : Bool) → not b ≡ true → b ≡ false
not-true true h = sym h
not-true false h = refl

pub not-judged-is-either : NotJudgedIsEither
not-judged-is-either graph opening events edge is within = (
  λ n. elim (decide (build_at graph.manifest.builds edge).keeps_deps) [
    | inl keeps ↦ inl (and-both (build_at graph.manifest.builds edge).keeps_deps (is_none (lists graph.manifest opening events edge)) keeps (ap is_none n.unlisted))
    | inr none ↦ inr (and-both (not (build_at graph.manifest.builds edge).phony) (not (build_at graph.manifest.builds edge).keeps_deps) (ap not n.command) (ap not none))
  ],
  λ e. elim e [
    | inl u ↦
        let keeps = first-of (build_at graph.manifest.builds edge).keeps_deps (is_none (lists graph.manifest opening events edge)) u in
        record {
          command = elim (decide (build_at graph.manifest.builds edge).phony) [
            | inl phony ↦ absurd (true≢false (sym keeps ∙ ((is.kept.builds edge no_build within).phony phony).no_deps))
            | inr plain ↦ plain
          ];
          unlisted = none-is (lists graph.manifest opening events edge) (second-of (build_at graph.manifest.builds edge).keeps_deps (is_none (lists graph.manifest opening events edge)) u);
        }
    | inr k ↦
        let none : (build_at graph.manifest.builds edge).keeps_deps ≡ false =
        not-true (build_at graph.manifest.builds edge).keeps_deps (second-of (not (build_at graph.manifest.builds edge).phony) (not (build_at graph.manifest.builds edge).keeps_deps) k) in
        record {
          command = not-true (build_at graph.manifest.builds edge).phony (first-of (not (build_at graph.manifest.builds edge).phony) (not (build_at graph.manifest.builds edge).keeps_deps) k);
          unlisted =
              ap (λ b. if b then option_or (last_list graph.manifest edge events) (recorded opening (build_at graph.manifest.builds edge)) else None)
              none;
        }
  ],
)

-- EDGES THAT PASS
map-same : (xs : List ℕ) → map (λ x. x) xs ≡ xs
map-same [] = refl
map-same (x ∷ xs) = ap (λ ys. x ∷ ys) (map-same xs)

one-more : (p : ℕ → Bool) (n : ℕ) → filter p (range_with_len 0 (n + 1)) ≡ filter p (range_with_len 0 n) ++ cond (p n) (n ∷ []) []
one-more p n =
    ap (filter p) (sym (map-same (range_with_len 0 (n + 1))))
    ∙ filter_of_map_range_with_len_more p (λ x. x) 0 n n (omega arith)
    ∙ ap (λ xs. filter p xs ++ cond (p n) (n ∷ []) []) (map-same (range_with_len 0 n))

pub edge-passes : (p : ℕ → Bool) (n : ℕ) (xs all : List ℕ) → xs ≡ filter p (range_with_len 0 n) → all ≡ xs ++ n ∷ [] → p n ≡ true → all ≡ filter p (range_with_len 0 (n + 1))
edge-passes p n xs all before pushed passes =
    pushed ∙ ap (λ ys. ys ++ n ∷ []) before ∙ ap (λ b. filter p (range_with_len 0 n) ++ cond b (n ∷ []) []) (sym passes) ∙ sym (one-more p n)

pub edge-fails : (p : ℕ → Bool) (n : ℕ) (xs : List ℕ) → xs ≡ filter p (range_with_len 0 n) → p n ≡ false → xs ≡ filter p (range_with_len 0 (n + 1))
edge-fails p n xs before fails =
    before ∙ append-none (filter p (range_with_len 0 n)) ∙ ap (λ b. filter p (range_with_len 0 n) ++ cond b (n ∷ []) []) (sym fails) ∙ sym (one-more p n)
  where
    append-none : (ys : List ℕ) → ys ≡ ys ++ []
    append-none [] = refl
    append-none (y ∷ ys) = ap (λ zs. y ∷ zs) (append-none ys)

pub edges-all : (p : ℕ → Bool) (n count : ℕ) (xs : List ℕ) → n ≡ count → xs ≡ filter p (range_with_len 0 n) → xs ≡ filter p (range_with_len 0 count)
edges-all p n count xs all is = is ∙ ap (λ m. filter p (range_with_len 0 m)) all

-- VALUES OF EDGES
-- one value more
pub mapped-more : {X : Type 0} (f : ℕ → X) (n : ℕ) (xs all : List X) (x : X) → xs ≡ map f (range_with_len 0 n) → all ≡ xs ++ x ∷ [] → x ≡ f n → all ≡ map f (range_with_len 0 (n + 1))
mapped-more f n xs all x before pushed is =
    pushed ∙ ap (λ ys. ys ++ x ∷ []) before ∙ ap (λ y. map f (range_with_len 0 n) ++ y ∷ []) is
    ∙ sym (map-range_with_len_more f 0 n n (omega arith))
