-- What commands do with a path, one by one.
use Rattle.std.proofs.Common.{◌≡◌, ℕ, ◌+◌, ◌<◌, ◌≤◌, List, [], ◌∷◌, ◌++◌, length, get_or, drop, Option, Some, None, refl, sym, ap, ◌∙◌}
use Rattle.std.specs.List.{cons_option, filter_map, zip}
use Rattle.std.specs.Option.{option_map, option_to_list}
use Rattle.std.proofs.lemmas.List.{append_assoc, drop_all, drop_more}
use Rattle.rev_observed.specs.CommandValues.{CommandValue}
use Rattle.rev_looked.specs.declared.uses.Deed.{Deed}
use Rattle.rev_looked.specs.declared.uses.Use.{Use}
use Rattle.rev_looked.specs.Uses.{deed_of, use_of, uses_by}

in-front : {X : Type 0} (o : Option X) (xs : List X) → cons_option o xs ≡ option_to_list o ++ xs
in-front None xs = refl
in-front (Some x) xs = refl

-- one more command
pub uses-next : (deed : Deed) (edges : List ℕ) (commands : List CommandValue) (path i : ℕ) (d : CommandValue)
    → i < length edges → i < length commands
    → uses_by deed (drop i edges) (drop i commands) path
    ≡ option_to_list (option_map (use_of (get_or edges i 0)) (deed_of deed (get_or commands i d) path))
    ++ uses_by deed (drop (i + 1) edges) (drop (i + 1) commands) path
uses-next deed edges commands path i d one other =
    (λ j. uses_by deed (drop_more edges i 0 one j) (drop_more commands i d other j) path)
    ∙ in-front (option_map (use_of (get_or edges i 0)) (deed_of deed (get_or commands i d) path))
    (uses_by deed (drop (i + 1) edges) (drop (i + 1) commands) path)

-- so far, and one more
pub uses-more : (deed : Deed) (edges : List ℕ) (commands : List CommandValue) (path i : ℕ) (d : CommandValue)
    (old new : List Use) → i < length edges → i < length commands
    → old ++ uses_by deed (drop i edges) (drop i commands) path ≡ uses_by deed edges commands path
    → new ≡ old ++ option_to_list (option_map (use_of (get_or edges i 0)) (deed_of deed (get_or commands i d) path))
    → new ++ uses_by deed (drop (i + 1) edges) (drop (i + 1) commands) path ≡ uses_by deed edges commands path
uses-more deed edges commands path i d old new one other so now =
    let rest : List Use = uses_by deed (drop (i + 1) edges) (drop (i + 1) commands) path in
    let here : List Use =
    option_to_list (option_map (use_of (get_or edges i 0)) (deed_of deed (get_or commands i d) path)) in
    ap (λ xs. xs ++ rest) now ∙ append_assoc old here rest
    ∙ ap (λ xs. old ++ xs) (sym (uses-next deed edges commands path i d one other)) ∙ so

zip-none : {X Y : Type 0} (xs : List X) → zip {K = X} {X = Y} xs [] ≡ []
zip-none [] = refl
zip-none (x ∷ xs) = refl

-- past the last command, or the last edge
pub uses-none : (deed : Deed) (edges : List ℕ) (commands : List CommandValue) (path i : ℕ) → length commands ≤ i
    → uses_by deed (drop i edges) (drop i commands) path ≡ []
uses-none deed edges commands path i past =
    ap (λ cs. uses_by deed (drop i edges) cs path) (drop_all i commands past)
    ∙ ap (filter_map _) (zip-none (drop i edges))

pub uses-no-edge : (deed : Deed) (edges : List ℕ) (commands : List CommandValue) (path i : ℕ) → length edges ≤ i
    → uses_by deed (drop i edges) (drop i commands) path ≡ []
uses-no-edge deed edges commands path i past =
    ap (λ es. uses_by deed es (drop i commands) path) (drop_all i edges past)
