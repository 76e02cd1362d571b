-- Lists of recordings, one list more.
use Rattle.std.proofs.Common.{◌≡◌, ℕ, ◌+◌, List, [], ◌∷◌, ◌++◌, replicate, ap, ◌∙◌}
use Rattle.std.specs.Global.{Vec}
use Rattle.std.proofs.lemmas.List.{map-append, replicate_more}
use Rattle.rev_several.specs.Holders.{lists_of}

pub empties-more : (lists : List (Vec ℕ)) (list : Vec ℕ) (count : ℕ) → list.items ≡ [] → lists_of lists ≡ replicate count [] → lists_of (lists ++ list ∷ []) ≡ replicate (count + 1) []
empties-more lists list count none are =
    map-append (λ (l : Vec ℕ). l.items) lists (list ∷ [])
    ∙ ap (λ (ls : List (List ℕ)). ls ++ list.items ∷ []) are
    ∙ ap (λ (l : List ℕ). replicate count [] ++ l ∷ []) none
    ∙ replicate_more count []
