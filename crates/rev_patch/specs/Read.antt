-- A line as its parts are read one after another.
use Rattle.std.specs.Prelude.{ℕ, suc, ◌+◌, ◌==◌, true, false, not, ◌&&◌, ◌||◌, if◌then◌else◌, List, [], ◌∷◌, Some, None}
use Rattle.std.specs.List.{list_any}
use Rattle.rev_patch.specs.declared.statement.Token.{Token}
use Rattle.rev_patch.specs.declared.statement.Token.TheVariants.{Escaped, Dollar, Order, Validations}
use Rattle.rev_patch.specs.declared.statement.Seen.{Seen}
use Rattle.rev_patch.specs.declared.statement.Signs.{Signs}
use Rattle.rev_patch.specs.Statement.{goes_on, has_validations, is_open, is_order, is_solid, is_validations, plain_token, size, solid_in, spot_or, tokens}

abbrev pub first_token : ℕ → List ℕ → Token
first_token b [] = if b == 36 then Dollar else plain_token b
first_token b (c ∷ bs) =
    if b == 36 then Escaped c
    else (if b == 124 && c == 124 then Order else (if b == 124 && c == 64 then Validations else plain_token b))

-- a part that ends behind so many bytes
abbrev pub signs_with : Signs → ℕ → Token → Signs
signs_with s end t =
    record {
      has_order = s.has_order || is_order t;
      has_validations = s.has_validations || is_validations t;
      last = if s.has_validations || not (is_solid t) then s.last else Some end;
      goes_on = is_open t;
    }

abbrev pub signs_after : Signs → ℕ → List Token → Signs
signs_after s at [] = s
signs_after s at (t ∷ ts) = signs_after (signs_with s (at + size t) t) (at + size t) ts

-- A statement as its lines are read one after another.
abbrev pub seen_with : Seen → ℕ → List ℕ → Seen
seen_with s k l =
    record {
      has_order = s.has_order || list_any is_order (tokens l);
      has_validations = s.has_validations || has_validations l;
      last = if s.has_validations then s.last else spot_or k (solid_in l) s.last;
      goes_on = goes_on (tokens l);
    }

abbrev pub seen_after : Seen → ℕ → List (List ℕ) → Seen
seen_after s k [] = s
seen_after s k (l ∷ ls) = seen_after (seen_with s k l) (suc k) ls

-- nothing was read yet
abbrev pub unseen : Seen
unseen = record { has_order = false; has_validations = false; last = None; goes_on = true }

-- nothing was read yet of a line
abbrev pub no_signs : Signs
no_signs = record { has_order = false; has_validations = false; last = None; goes_on = false }
