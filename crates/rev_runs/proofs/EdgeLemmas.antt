-- The numbers of an edge's events, one more number up.
use Rattle.std.proofs.Common.{◌≡◌, ℕ, ◌+◌, Bool, List, [], ◌∷◌, ◌++◌, ap, sym, ◌∙◌}
use Rattle.std.specs.Prelude.{cond, filter, map}
use Rattle.std.specs.List.{range_with_len}
use Rattle.std.proofs.lemmas.List.FromFn.{filter_of_map_range_with_len_more}
use Rattle.std.proofs.lemmas.List.{map-id}

pub filter-range-more : (p : ℕ → Bool) (a n j : ℕ) → a + n ≡ j
    → filter p (range_with_len a (n + 1)) ≡ filter p (range_with_len a n) ++ cond (p j) (j ∷ []) []
filter-range-more p a n j at =
    ap (filter p) (sym (map-id (range_with_len a (n + 1))))
    ∙ filter_of_map_range_with_len_more p (λ x. x) a n j at
    ∙ ap (λ xs. filter p xs ++ cond (p j) (j ∷ []) []) (map-id (range_with_len a n))
