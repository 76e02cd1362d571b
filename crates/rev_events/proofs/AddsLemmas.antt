-- Writes that are added one behind the other.
use Rattle.std.proofs.Common.{◌≡◌, ℕ, ◌+◌, ◌<◌, ◌≤◌, zero, suc, Bool, true, not, ◌||◌, ◌==◌, List, [], ◌∷◌, ◌++◌, length, get_or, take, drop, map, Some, refl, sym, ap, ◌∙◌, arith, append_assoc, add-one, if◌then◌else◌}
use Rattle.std.specs.List.{range_with_len}
use Rattle.std.proofs.lemmas.List.{append-nil, map-append, length-map, take_more, length-take-le}
use Rattle.std.proofs.lemmas.List.Elements.{All-push, All-same}
use Rattle.rev_cells.specs.declared.cell.Cell.{Cell}
use Rattle.rev_cells.specs.declared.cell.Cell.TheVariants as cell
use Rattle.rev_cells.specs.declared.mark.Mark.{Mark}
use Rattle.rev_cells.specs.declared.value.Value.{Value}
use Rattle.rev_cells.specs.declared.value.Value.TheVariants as value
use Rattle.rev_cells.specs.Values.{Fits}
use Rattle.rev_events.specs.Edge.{Adds, Effect, built_with, changes, first_of, rest_of, stored, write, write_built, write_stamps}
use Rattle.rev_events.specs.Machine.{write_marks}

-- no write, one more, and others behind
pub adds-none : (ws : List (Cell × Value)) → Adds ws ws []
adds-none ws = record { values = sym (append-nil (stored ws)); fit = λ h. h }

pub adds-one : (old new : List (Cell × Value)) (c : Cell) (v : Value) → Fits c v → new ≡ old ++ (c, v) ∷ [] → Adds old new (write c v ∷ [])
adds-one old new c v fits is = record {
  values = ap stored is ∙ map-append (λ (w : Cell × Value). write w.0 w.1) old ((c, v) ∷ []);
  fit = λ h. All-same (λ (w : Cell × Value). Fits w.0 w.1) new (old ++ (c, v) ∷ []) is (All-push (λ (w : Cell × Value). Fits w.0 w.1) old (c, v) h fits);
}

pub adds-more : (a b c : List (Cell × Value)) (x y : Effect) → Adds a b x → Adds b c y → Adds a c (x ++ y)
adds-more a b c x y one two = record {
  values = two.values ∙ ap (λ ws. ws ++ y) one.values ∙ append_assoc (stored a) x y;
  fit = λ h. two.fit (one.fit h);
}

pub adds-same : (a b : List (Cell × Value)) (x y : Effect) → x ≡ y → Adds a b x → Adds a b y
adds-same a b x y e h = record { values = h.values ∙ ap (λ ws. stored a ++ ws) e; fit = h.fit }

-- WRITES OF ONE OUTPUT MORE
drop-rest : {A : Type 0} (n : ℕ) (xs : List A) → drop (suc n) xs ≡ drop n (rest_of xs)
drop-rest zero [] = refl
drop-rest (suc n) [] = refl
drop-rest n (x ∷ xs) = refl

stamps-append : (xs ys : List (List ℕ)) (stamps : List ℕ) → write_stamps (xs ++ ys) stamps ≡ write_stamps xs stamps ++ write_stamps ys (drop (length xs) stamps)
stamps-append [] ys stamps = refl
stamps-append (x ∷ xs) ys stamps =
    ap (λ ws. write (cell.Stamp x) (value.Stamp (first_of 0 stamps)) ∷ ws)
    (stamps-append xs ys (rest_of stamps) ∙ ap (λ ss. write_stamps xs (rest_of stamps) ++ write_stamps ys ss) (sym (drop-rest (length xs) stamps)))

-- the outputs so far with one more
more : (xs : List (List ℕ)) (i : ℕ) (x : List ℕ) → i < length xs → x ≡ get_or xs i x → take (i + 1) xs ≡ take i xs ++ x ∷ []
more xs i x within is = take_more xs i x within ∙ ap (λ (y : List ℕ). take i xs ++ y ∷ []) (sym is)

so-far : {A : Type 0} (xs : List A) (i : ℕ) → i < length xs → length (take i xs) ≡ i
so-far xs i within =
    let h : i ≤ length xs = omega arith in
    length-take-le i xs h

pub stamps-more : (xs : List (List ℕ)) (stamps : List ℕ) (i : ℕ) (x : List ℕ) → i < length xs → x ≡ get_or xs i x
    → write_stamps (take i xs) stamps ++ write (cell.Stamp x) (value.Stamp (first_of 0 (drop i stamps))) ∷ [] ≡ write_stamps (take (i + 1) xs) stamps
stamps-more xs stamps i x within is =
    sym (ap (λ ys. write_stamps ys stamps) (more xs i x within is) ∙ stamps-append (take i xs) (x ∷ []) stamps
    ∙ ap (λ (n : ℕ). write_stamps (take i xs) stamps ++ write (cell.Stamp x) (value.Stamp (first_of 0 (drop n stamps))) ∷ []) (so-far xs i within))

pub stamp-added : (a b c : List (Cell × Value)) (xs : List (List ℕ)) (stamps : List ℕ) (i : ℕ) (x y : List ℕ) (s : ℕ) → i < length xs → x ≡ get_or xs i x → y ≡ x → s ≡ first_of 0 (drop i stamps)
    → Adds a b (write_stamps (take i xs) stamps) → Adds b c (write (cell.Stamp y) (value.Stamp s) ∷ []) → Adds a c (write_stamps (take (i + 1) xs) stamps)
stamp-added a b c xs stamps i x y s within is copied given one two =
    adds-same a c (write_stamps (take i xs) stamps ++ write (cell.Stamp y) (value.Stamp s) ∷ []) (write_stamps (take (i + 1) xs) stamps)
    ((λ k. write_stamps (take i xs) stamps ++ write (cell.Stamp (copied k)) (value.Stamp (given k)) ∷ []) ∙ stamps-more xs stamps i x within is)
    (adds-more a b c (write_stamps (take i xs) stamps) (write (cell.Stamp y) (value.Stamp s) ∷ []) one two)

-- built records
built-append : (command : List ℕ) (seen : ℕ) (xs ys : List (List ℕ)) (flags : List Bool) (stamps : List ℕ)
    → write_built command seen (xs ++ ys) flags stamps ≡ write_built command seen xs flags stamps ++ write_built command seen ys (drop (length xs) flags) (drop (length xs) stamps)
built-append command seen [] ys flags stamps = refl
built-append command seen (x ∷ xs) ys flags stamps =
    ap (λ ws. write (cell.Built x) (value.Built (Some (record { command = command; stamp = if first_of true flags then first_of 0 stamps else seen }))) ∷ ws)
    (built-append command seen xs ys (rest_of flags) (rest_of stamps)
    ∙ (λ k. write_built command seen xs (rest_of flags) (rest_of stamps) ++ write_built command seen ys (sym (drop-rest (length xs) flags) k) (sym (drop-rest (length xs) stamps) k)))

built-more : (command : List ℕ) (seen : ℕ) (xs : List (List ℕ)) (flags : List Bool) (stamps : List ℕ) (i : ℕ) (x : List ℕ) → i < length xs → x ≡ get_or xs i x
    → write_built command seen (take i xs) flags stamps ++ write (cell.Built x) (built_with command seen (first_of true (drop i flags)) (first_of 0 (drop i stamps))) ∷ [] ≡ write_built command seen (take (i + 1) xs) flags stamps
built-more command seen xs flags stamps i x within is =
    sym (ap (λ ys. write_built command seen ys flags stamps) (more xs i x within is) ∙ built-append command seen (take i xs) (x ∷ []) flags stamps
    ∙ ap (λ (n : ℕ). write_built command seen (take i xs) flags stamps ++ write (cell.Built x) (built_with command seen (first_of true (drop n flags)) (first_of 0 (drop n stamps))) ∷ []) (so-far xs i within))

pub built-added : (a b c : List (Cell × Value)) (command : List ℕ) (seen : ℕ) (xs : List (List ℕ)) (flags : List Bool) (stamps : List ℕ) (i : ℕ) (x y : List ℕ) (v : Value) → i < length xs → x ≡ get_or xs i x → y ≡ x
    → v ≡ built_with command seen (first_of true (drop i flags)) (first_of 0 (drop i stamps))
    → Adds a b (write_built command seen (take i xs) flags stamps) → Adds b c (write (cell.Built y) v ∷ []) → Adds a c (write_built command seen (take (i + 1) xs) flags stamps)
built-added a b c command seen xs flags stamps i x y v within is copied given one two =
    adds-same a c (write_built command seen (take i xs) flags stamps ++ write (cell.Built y) v ∷ []) (write_built command seen (take (i + 1) xs) flags stamps)
    ((λ k. write_built command seen (take i xs) flags stamps ++ write (cell.Built (copied k)) (given k) ∷ []) ∙ built-more command seen xs flags stamps i x within is)
    (adds-more a b c (write_built command seen (take i xs) flags stamps) (write (cell.Built y) v ∷ []) one two)

-- whether one more output changed
changes-append : (restat : Bool) (xs ys stamps : List ℕ) → changes restat (xs ++ ys) stamps ≡ changes restat xs stamps ++ changes restat ys (drop (length xs) stamps)
changes-append restat [] ys stamps = refl
changes-append restat (x ∷ xs) ys stamps =
    ap (λ (fs : List Bool). (not restat || not (x == first_of 0 stamps)) ∷ fs)
    (changes-append restat xs ys (rest_of stamps) ∙ ap (λ ss. changes restat xs (rest_of stamps) ++ changes restat ys ss) (sym (drop-rest (length xs) stamps)))

pub changes-more : (f : List ℕ → ℕ) (restat : Bool) (xs : List (List ℕ)) (stamps : List ℕ) (i : ℕ) (x : List ℕ) → i < length xs → x ≡ get_or xs i x
    → changes restat (map f (take i xs)) stamps ++ (not restat || not (f x == first_of 0 (drop i stamps))) ∷ [] ≡ changes restat (map f (take (i + 1) xs)) stamps
changes-more f restat xs stamps i x within is =
    sym (ap (λ ys. changes restat (map f ys) stamps) (more xs i x within is)
    ∙ ap (λ ys. changes restat ys stamps) (map-append f (take i xs) (x ∷ []))
    ∙ changes-append restat (map f (take i xs)) (f x ∷ []) stamps
    ∙ ap (λ (n : ℕ). changes restat (map f (take i xs)) stamps ++ (not restat || not (f x == first_of 0 (drop n stamps))) ∷ []) (length-map (take i xs) f ∙ so-far xs i within))

-- one more mark
marks-append : (edges more_edges : List ℕ) (marks more_marks : List Mark) → length edges ≡ length marks → write_marks (edges ++ more_edges) (marks ++ more_marks) ≡ write_marks edges marks ++ write_marks more_edges more_marks
marks-append [] fs [] ns h = refl
marks-append [] fs (m ∷ ms) ns h = absurd (omega arith)
marks-append (e ∷ es) fs [] ns h = absurd (omega arith)
marks-append (e ∷ es) fs (m ∷ ms) ns h = ap (λ ws. write (cell.Mark e) (value.Mark m) ∷ ws) (marks-append es fs ms ns (omega arith))

range-more : (a n : ℕ) → range_with_len a (suc n) ≡ range_with_len a n ++ (a + n) ∷ []
range-more a zero =
    let same : a ≡ a + 0 = omega arith in
    ap (λ k. k ∷ []) same
range-more a (suc n) =
    let same : a + 1 + n ≡ a + suc n = omega arith in
    ap (λ ks. a ∷ ks) (range-more (a + 1) n ∙ ap (λ k. range_with_len (a + 1) n ++ k ∷ []) same)

range-length : (a n : ℕ) → length (range_with_len a n) ≡ n
range-length a zero = refl
range-length a (suc n) = ap (λ (k : ℕ). suc k) (range-length (a + 1) n)

pub range-next : (n : ℕ) → range_with_len 0 (n + 1) ≡ range_with_len 0 n ++ n ∷ []
range-next n =
    let here : 0 + n ≡ n = omega arith in
    ap (λ k. range_with_len 0 k) (add-one n) ∙ range-more 0 n ∙ ap (λ k. range_with_len 0 n ++ k ∷ []) here

pub mark-added : (a b c : List (Cell × Value)) (ms : List Mark) (i : ℕ) (m n : Mark) → i < length ms → m ≡ get_or ms i m → n ≡ m
    → Adds a b (write_marks (range_with_len 0 i) (take i ms)) → Adds b c (write (cell.Mark i) (value.Mark n) ∷ []) → Adds a c (write_marks (range_with_len 0 (i + 1)) (take (i + 1) ms))
mark-added a b c ms i m n within is copied one two =
    let next : take (i + 1) ms ≡ take i ms ++ m ∷ [] = take_more ms i m within ∙ ap (λ (y : Mark). take i ms ++ y ∷ []) (sym is) in
    let many : length (range_with_len 0 i) ≡ length (take i ms) = range-length 0 i ∙ sym (so-far ms i within) in
    adds-same a c (write_marks (range_with_len 0 i) (take i ms) ++ write (cell.Mark i) (value.Mark n) ∷ []) (write_marks (range_with_len 0 (i + 1)) (take (i + 1) ms))
    ((λ k. write_marks (range_with_len 0 i) (take i ms) ++ write (cell.Mark i) (value.Mark (copied k)) ∷ [])
    ∙ sym (marks-append (range_with_len 0 i) (i ∷ []) (take i ms) (m ∷ []) many)
    ∙ (λ k. write_marks (sym (range-next i) k) (sym next k)))
    (adds-more a b c (write_marks (range_with_len 0 i) (take i ms)) (write (cell.Mark i) (value.Mark n) ∷ []) one two)

pub map-same-items : (ns : List ℕ) → map (λ n. n) ns ≡ ns
map-same-items [] = refl
map-same-items (n ∷ ns) = ap (λ ks. n ∷ ks) (map-same-items ns)

pub range-length-of : (n : ℕ) → length (range_with_len 0 n) ≡ n
range-length-of n = range-length 0 n
