-- Kinds of what is told.
use Rattle.std.proofs.Common.{◌≡◌, ℕ, ◌+◌, ◌<◌, nat_lt, Bool, false, not, ◌&&◌, List, [], ◌∷◌, ◌++◌, length, get_or, map, take, slice_get, Option, Some, None, refl, sym, ap, subst, ◌∙◌}
use Rattle.std.specs.Prelude.{All}
use Rattle.std.specs.List.{cons_option, filter_map}
use Rattle.std.specs.Option.{option_map}
use Rattle.std.proofs.lemmas.List.{get_or_default, length-map, take_more}
use Rattle.std.proofs.lemmas.List.Elements.{All-get_or, filter_map-append}
use Rattle.std.proofs.lemmas.Option.{slice_get-get_or}
use Rattle.rev_manifest.specs.Manifest.{BuildValue}
use Rattle.rev_waits.specs.Waits.{waits}
use Rattle.rev_observed.specs.Joins.{edge_of}
use Rattle.rev_observed.specs.Observations.{outputs_of}
use Rattle.rev_observed.specs.CommandValues.{CommandValue}
use Rattle.rev_conflicts.specs.declared.conflict.Change.{Change}
use Rattle.rev_conflicts.specs.declared.conflict.Conflict.{Conflict}
use Rattle.rev_conflicts.specs.declared.conflict.ConflictKind.{ConflictKind}
use Rattle.rev_conflicts.specs.declared.conflict.Look.{Look}
use Rattle.rev_conflicts.specs.declared.place.Place.{Place}
use Rattle.rev_conflicts.specs.declared.told.Told.{Told}
use Rattle.rev_conflicts.specs.Places.{look_at, Touches, Touches.file as touches_file, Touches.entry as touches_entry}
use Rattle.rev_conflicts.specs.Conflicts.{Scene, change_at, changes_file, kind_by, runs_first}
use Rattle.rev_conflicts.specs.Tables.{IsNamed, kind_among, kind_told, of_kind, with_kind}

-- the name of a number
pub name-at : (paths : List (List ℕ)) (n : ℕ) (name : List ℕ) → n < length paths → slice_get paths n ≡ Some name → get_or paths n [] ≡ name
name-at paths n name within is =
    let both : Some (get_or paths n []) ≡ Some name = sym (slice_get-get_or paths n [] within) ∙ is in
    cc

-- an edge of a command is one
pub edge-within : (edges : List ℕ) (n edge count : ℕ) → All (λ e. e < count) edges → n < length edges → get_or edges n 0 ≡ edge → edge < count
edge-within edges n edge count all within is = subst (λ e. e < count) is (All-get_or (λ e. e < count) edges n 0 within all)

-- a touched place has a number
pub touched-named : (paths : List (List ℕ)) (hidden : List Bool) (command : CommandValue) (place : Place) → Touches paths hidden command place → IsNamed (length paths) place
touched-named paths hidden command place (touches_file does within shown) = within
touched-named paths hidden command place (touches_entry does within shown is) = tt

-- a mark that was read
pub mark-is : (marks : List Bool) (n : ℕ) (b : Bool) → n < length marks → b ≡ get_or marks n b → b ≡ get_or marks n false
mark-is marks n b within is = is ∙ get_or_default marks n b false within

-- the kind of two commands that were read
pub kind-found : (s : Scene) (t : Told) (made used : CommandValue) (back both once : Bool) (change : Change) (look : Option Look) (r : Option ConflictKind) → t.made_by < length s.commands → t.used_by < length s.commands
    → made ≡ get_or s.commands t.made_by made → used ≡ get_or s.commands t.used_by used → r ≡ kind_by back both once change look → back ≡ waits s.builds t.maker t.user
    → both ≡ (changes_file used t.place && not (runs_first s.builds s.files t.user)) → once ≡ nat_lt t.maker t.user → change ≡ change_at s.builds s.paths t.maker made t.place → look ≡ look_at used t.place → r ≡ kind_told s t
kind-found s t made used back both once change look r within also is too found e1 e2 e3 e4 e5 =
    found ∙ (λ i. kind_by (e1 i) (e2 i) (e3 i) (e4 i) (e5 i))
    ∙ sym (ap (λ o. kind_among s t o (slice_get s.commands t.used_by)) (slice_get-get_or s.commands t.made_by made within ∙ ap Some (sym is))
    ∙ ap (kind_among s t (Some made)) (slice_get-get_or s.commands t.used_by used also ∙ ap Some (sym too)))

-- WHAT HAS A KIND, ONE AFTER THE OTHER
kept-one : (f : Told → Option Conflict) (told : List Told) (i : ℕ) (t : Told) (o : Option Conflict) → i < length told → t ≡ get_or told i t → f t ≡ o → filter_map f (take (i + 1) told) ≡ filter_map f (take i told) ++ cons_option o []
kept-one f told i t o within is gives =
    ap (filter_map f) (take_more told i t within) ∙ filter_map-append f (take i told) (get_or told i t ∷ []) ∙ ap (λ x. filter_map f (take i told) ++ cons_option (f x) []) (sym is)
    ∙ ap (λ p. filter_map f (take i told) ++ cons_option p []) gives

pub kinds-more : (s : Scene) (told : List Told) (i : ℕ) (t : Told) (k : ConflictKind) (old all : List Conflict) → i < length told → t ≡ get_or told i t → kind_told s t ≡ Some k → all ≡ old ++ of_kind t k ∷ [] → old ≡ filter_map (with_kind s) (take i told)
    → all ≡ filter_map (with_kind s) (take (i + 1) told)
kinds-more s told i t k old all within is kind pushed before =
    pushed ∙ ap (λ xs. xs ++ of_kind t k ∷ []) before ∙ sym (kept-one (with_kind s) told i t (Some (of_kind t k)) within is (ap (option_map (of_kind t)) kind))

append-none : (xs : List Conflict) → xs ≡ xs ++ []
append-none [] = refl
append-none (x ∷ xs) = ap (λ (ys : List Conflict). x ∷ ys) (append-none xs)

pub kinds-skip : (s : Scene) (told : List Told) (i : ℕ) (t : Told) (old : List Conflict) → i < length told → t ≡ get_or told i t → kind_told s t ≡ None → old ≡ filter_map (with_kind s) (take i told)
    → old ≡ filter_map (with_kind s) (take (i + 1) told)
kinds-skip s told i t old within is kind before =
    before ∙ append-none (filter_map (with_kind s) (take i told)) ∙ sym (kept-one (with_kind s) told i t None within is (ap (option_map (of_kind t)) kind))

-- each command has its edge
pub joined-length : (builds : List BuildValue) (edges : List ℕ) (commands all : List CommandValue) → all ≡ commands → map Some edges ≡ map (edge_of builds) (outputs_of commands) → length edges ≡ length all
joined-length builds edges commands all same joined =
    sym (length-map edges Some) ∙ ap length joined ∙ length-map (outputs_of commands) (edge_of builds) ∙ length-map commands (λ (c : CommandValue). c.output) ∙ ap length (sym same)
