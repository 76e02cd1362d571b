-- Lines, cell by cell.
use Rattle.std.proofs.Common.{◌≡◌, ℕ, ◌<◌, ◌≤◌, ◌+◌, Bool, true, false, cond, ◌&&◌, filter, List, [], ◌∷◌, ◌++◌, length, get_or, take, map, refl, sym, ap, ◌∙◌, append_assoc, append-nil, Result, Ok, Err, IfOk, OnOk}
use Rattle.std.proofs.lemmas.List.{take_more, take_all}
use Rattle.std.specs.Prelude.{codes}
use Rattle.std.specs.Global.{Vec}
use Rattle.std.specs.List.{flat_map}
use Rattle.rev_cells.specs.declared.cell.Cell.{Cell}
use Rattle.rev_cells.specs.declared.value.Value.{Value}
use Rattle.rev_cells.specs.State.{State, value_at}
use Rattle.rev_fields.specs.Fields.{field_text, spaced}
use Rattle.std.specs.FinMap as finite
use Rattle.rev_listing.specs.declared.nondefault_cells.Kinds.{Kinds}
use Rattle.rev_listing.specs.Listing.{cells_told, is_of, is_there, is_told, line, listed, told}

-- fields of paths, each with a space before it
pub fields_of_paths : (paths : List (List ℕ)) → flat_map (λ path. spaced (field_text path)) paths ≡ flat_map spaced (map field_text paths)
fields_of_paths [] = refl
fields_of_paths (path ∷ paths) = ap (λ l. spaced (field_text path) ++ l) (fields_of_paths paths)

abbrev Entry : Type 0
Entry = Cell × Unit {0}

-- the cells of entries
abbrev pub cells_of : List (Cell × Unit {0}) → List Cell
cells_of entries = map (λ e. e.0) entries

told-append : (text : Cell → Value → List ℕ) (s : State) (cs ds : List Cell) → told text s (cs ++ ds) ≡ told text s cs ++ told text s ds
told-append text s [] ds = refl
told-append text s (c ∷ cs) ds = ap (λ l. text c (value_at s c) ++ l) (told-append text s cs ds) ∙ sym (append_assoc (text c (value_at s c)) (told text s cs) (told text s ds))

cells-append : (es : List Entry) (e : Entry) → cells_of (es ++ e ∷ []) ≡ cells_of es ++ e.0 ∷ []
cells-append [] e = refl
cells-append (d ∷ es) e = ap (λ l. d.0 ∷ l) (cells-append es e)

-- one more cell
pub told-more : (text : Cell → Value → List ℕ) (s : State) (es : List (Cell × Unit {0})) (i : ℕ) (e : Cell × Unit {0}) (out next : List ℕ) → i < length es → e ≡ get_or es i e → out ≡ told text s (cells_of (take i es)) → next ≡ out ++ text e.0 (value_at s e.0) → next ≡ told text s (cells_of (take (i + 1) es))
told-more text s es i e out next lt at before step =
    let one : told text s (cells_of (take i es)) ++ text e.0 (value_at s e.0) ≡ told text s (cells_of (take i es) ++ e.0 ∷ []) =
    ap (λ l. told text s (cells_of (take i es)) ++ l) (sym (append-nil (text e.0 (value_at s e.0)))) ∙ sym (told-append text s (cells_of (take i es)) (e.0 ∷ [])) in
    step ∙ ap (λ l. l ++ text e.0 (value_at s e.0)) before ∙ one ∙ ap (told text s) (sym (cells-append (take i es) e))
    ∙ ap (λ l. told text s (cells_of l)) (sym (take_more es i e lt ∙ ap (λ x. take i es ++ x ∷ []) (sym at)))

-- the cells of which nothing is told are left out
told-of : (text : Cell → Value → List ℕ) (s : State) (k : Kinds) → ((c : Cell) (v : Value) → is_of k c ≡ false → text c v ≡ []) → (cs : List Cell) → told text s (filter (is_told k s) cs) ≡ told text s (filter (is_there s) cs)
told-of text s k silent [] = refl
told-of text s k silent (c ∷ cs) = by (told-of text s k silent cs) (is_of k c) refl (is_there s c)
  where
    by : told text s (filter (is_told k s) cs) ≡ told text s (filter (is_there s) cs) → (of : Bool) → is_of k c ≡ of → (there : Bool)
        → told text s (cond (of && there) (c ∷ filter (is_told k s) cs) (filter (is_told k s) cs)) ≡ told text s (cond there (c ∷ filter (is_there s) cs) (filter (is_there s) cs))
    by rest true e true = ap (λ l. text c (value_at s c) ++ l) rest
    by rest true e false = rest
    by rest false e true = rest ∙ ap (λ l. l ++ told text s (filter (is_there s) cs)) (sym (silent c (value_at s c) e))
    by rest false e false = rest

-- all cells that are told
pub told-all : (text : Cell → Value → List ℕ) (s : State) (k : Kinds) → ((c : Cell) (v : Value) → is_of k c ≡ false → text c v ≡ []) → (es given : List (Cell × Unit {0})) (i : ℕ) (out : List ℕ) → length es ≤ i → es ≡ given → cells_of given ≡ cells_told k s → out ≡ told text s (cells_of (take i es)) → out ≡ listed text s
told-all text s k silent es given i out le same there before =
    before ∙ ap (λ l. told text s (cells_of l)) (take_all i es le ∙ same) ∙ ap (told text s) there ∙ told-of text s k silent (finite.keys s)

-- a line by its first field and the others
pub line-from : (word : List ℕ) (fields : List (List ℕ)) (out before mid : List ℕ) → mid ≡ before ++ word → out ≡ mid ++ flat_map spaced fields → out ++ codes "\n" ≡ before ++ line (word ∷ fields)
line-from word fields out before mid first further =
    ap (λ l. l ++ codes "\n") (further ∙ ap (λ l. l ++ flat_map spaced fields) first ∙ append_assoc before word (flat_map spaced fields)) ∙ append_assoc before (word ++ flat_map spaced fields) (codes "\n")

-- entries that are these have their cells
pub cells_from : {E : Type 0} (r : Result (Vec (Cell × Unit {0})) E) (es : List (Cell × Unit {0})) (all : List Cell) → IfOk r (λ there. there.items ≡ es) → cells_of es ≡ all → IfOk r (λ there. cells_of there.items ≡ all)
cells_from (Ok there) es all same whole = ap cells_of same ∙ whole
cells_from (Err e) es all same whole = tt

-- the bytes of an output or an input
pub fact-at : {E : Type 0} (r : Result (Unit {0}) E) (new text bytes wanted : List ℕ) → bytes ≡ wanted → OnOk r (new ≡ text ++ spaced (field_text bytes)) → OnOk r (new ≡ text ++ spaced (field_text wanted))
fact-at (Ok x) new text bytes wanted e h = h ∙ ap (λ b. text ++ spaced (field_text b)) e
fact-at (Err x) new text bytes wanted e h = tt
