-- A build statement as it stands in the lines of a manifest: what its signs are, and where order-only inputs are put.
use Rattle.std.specs.Prelude.{ℕ, suc, ◌+◌, ◌==◌, Bool, true, false, not, ◌&&◌, ◌||◌, if◌then◌else◌, List, [], ◌∷◌, Option, Some, None}
use Rattle.std.specs.List.{list_any}
use Rattle.std.specs.Option.{option_map, option_or}
use Rattle.rev_patch.specs.declared.statement.Place.{Place}
use Rattle.rev_patch.specs.declared.statement.Spot.{Spot}
use Rattle.rev_patch.specs.declared.statement.Token.{Token}
use Rattle.rev_patch.specs.declared.statement.Token.TheVariants.{Escaped, Dollar, Order, Validations, Blank, Plain}

-- a byte that is part of no sign: a space, or a CR before the line's end, parts paths; any other byte is one of a path
abbrev pub plain_token : ℕ → Token
plain_token b = if b == 32 || b == 13 then Blank else Plain

-- The parts of a line. A `$` takes the meaning of the byte behind it away, and at the end of the line that of the
-- line's end; else `||` stands before order-only inputs, and `|@` before validations.
abbrev pub tokens : List ℕ → List Token
tokens [] = []
tokens (b ∷ []) = if b == 36 then Dollar ∷ [] else plain_token b ∷ []
tokens (b ∷ c ∷ bs) =
    if b == 36 then Escaped c ∷ tokens bs
    else (if b == 124 && c == 124 then Order ∷ tokens bs
    else (if b == 124 && c == 64 then Validations ∷ tokens bs else plain_token b ∷ tokens (c ∷ bs)))

-- how many bytes a part has
abbrev pub size : Token → ℕ
size (Escaped b) = 2
size Dollar = 1
size Order = 2
size Validations = 2
size Blank = 1
size Plain = 1

abbrev pub is_order : Token → Bool
is_order Order = true
is_order token = false

abbrev pub is_validations : Token → Bool
is_validations Validations = true
is_validations token = false

-- whether a statement goes on behind a line that ends with this part: a `$`, also before a CR
abbrev pub is_open : Token → Bool
is_open Dollar = true
is_open (Escaped b) = b == 13
is_open token = false

-- whether a part says something: it is no space, no line's end, and does not begin the validations
abbrev pub is_solid : Token → Bool
is_solid (Escaped b) = not (b == 13)
is_solid Order = true
is_solid Plain = true
is_solid Dollar = false
is_solid Validations = false
is_solid Blank = false

abbrev pub goes_on : List Token → Bool
goes_on [] = false
goes_on (t ∷ []) = is_open t
goes_on (t ∷ u ∷ ts) = goes_on (u ∷ ts)

-- the parts before the first sign of validations
abbrev pub until_validations : List Token → List Token
until_validations [] = []
until_validations (t ∷ ts) = if is_validations t then [] else t ∷ until_validations ts

-- how many bytes there are up to the end of the last part that says something
abbrev pub solid_end : List Token → Option ℕ
solid_end [] = None
solid_end (t ∷ ts) =
    option_or (option_map (λ n. size t + n) (solid_end ts)) (if is_solid t then Some (size t) else None)

-- the lines of the statement that the first of some lines begins: those that go on, and the first that does not
abbrev pub statement : List (List ℕ) → List (List ℕ)
statement [] = []
statement (l ∷ ls) = if goes_on (tokens l) then l ∷ statement ls else l ∷ []

-- whether the sign of order-only inputs stands in some lines
abbrev pub has_order : List (List ℕ) → Bool
has_order ls = list_any (λ l. list_any is_order (tokens l)) ls

abbrev pub has_validations : List ℕ → Bool
has_validations l = list_any is_validations (tokens l)

abbrev pub spot_or : ℕ → Option ℕ → Option Spot → Option Spot
spot_or k None other = other
spot_or k (Some at) other = Some (record { line = k; at = at })

-- the end of the last part that says something in a line, up to its first sign of validations
abbrev pub solid_in : List ℕ → Option ℕ
solid_in l = solid_end (until_validations (tokens l))

-- the same in lines that are numbered from some number on, up to their first sign of validations
abbrev pub solid_spot : ℕ → List (List ℕ) → Option Spot
solid_spot k [] = None
solid_spot k (l ∷ ls) =
    option_or (if has_validations l then None else solid_spot (suc k) ls) (spot_or k (solid_in l) None)

-- Where order-only inputs are put: behind all that says something before the validations. There a path stands beside
-- none of the others, since it begins with a space and a space, a sign or the line's end follows.
abbrev pub put_at : Bool → Option Spot → Option Place
put_at order None = None
put_at order (Some s) = Some (record { line = s.line; at = s.at; has_sign = order })

abbrev pub place_in : ℕ → List (List ℕ) → Option Place
place_in k ls = put_at (has_order ls) (solid_spot k ls)
