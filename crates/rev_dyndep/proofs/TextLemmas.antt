-- The values of texts, piece by piece.
use Rattle.std.proofs.Common.{◌≡◌, ℕ, List, [], ◌∷◌, map, refl, ap}
use Rattle.rev_syntax.specs.Texts.{Byte}
use Rattle.rev_scopes.specs.Expansion.{expanded}
use Rattle.rev_dyndep.specs.Told.{no_value}

-- bytes that stand for themselves
pub expanded_bytes : (bytes : List ℕ) → expanded no_value (map Byte bytes) ≡ bytes
expanded_bytes [] = refl
expanded_bytes (b ∷ bytes) = ap (λ t. b ∷ t) (expanded_bytes bytes)
