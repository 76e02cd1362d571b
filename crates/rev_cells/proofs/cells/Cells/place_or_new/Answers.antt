use Rattle.std.proofs.Common.{◌≡◌, ℕ, ◌∷◌, [], List, Result, Ok, Err, length, slice_get, refl, ap, arith, ◌∙◌}
use Rattle.std.specs.Prelude.{IfOk}
use Rattle.std.specs.Map.{keys_of}
use Rattle.rev_cells.specs.declared.cell.Cell.{Cell}
use Rattle.rev_cells.specs.declared.value.Value.{Value}
use Rattle.rev_cells.specs.Table.{Table}
use Rattle.rev_cells.proofs.PlacesLemmas.{grown_not, last_there}
use Rattle.rev_cells.proofs.cells.Cells.place_or_new.Goals as goal

if_ok : {A E : Type 0} {P Q : A → Type 0} (r : Result A E) → ((a : A) → P a → Q a) → IfOk r P → IfOk r Q
if_ok (Ok a) f h = f a h
if_ok (Err e) f h = h

length_keys : (es : List (Cell × Value)) → length es ≡ length (keys_of es)
length_keys [] = refl
length_keys (e ∷ es) = let rest : length es ≡ length (keys_of es) = length_keys es in omega arith

pub returns-in-Some-clause-place : goal.returns-in-Some-clause-place
returns-in-Some-clause-place c =
    if_ok c.as_place.result (λ (p : ℕ) (is : p ≡ c.in-Some.place). ap (slice_get c.args.self.now.places) is ∙ c.in-Some.ensures.some) c.as_place.ensures

pub returns-in-Some-clause-grown : goal.returns-in-Some-clause-grown
returns-in-Some-clause-grown c = grown_not c.args.self.now.places c.args.self.now.places refl

pub add_place-requires : goal.add_place-requires
add_place-requires c = c.in_default.ensures.none

pub returns-clause-place : goal.returns-clause-place
returns-clause-place c =
    ap (slice_get c.add_place.new.self.places)
    (c.in_ok-place.ensures ∙ c.len.ensures.len ∙ length_keys c.self.inside.entries.entries ∙ ap (λ (t : Table). length t.places) c.self.view_is)
    ∙ ap (λ (cs : List Cell). slice_get cs (length c.args.self.now.places)) c.in_ok-add_place.ensures.added
    ∙ last_there c.args.self.now.places c.args.cell.now

pub returns-clause-grown : goal.returns-clause-grown
returns-clause-grown c = record { more = c.args.cell.now ∷ []; is = c.in_ok-add_place.ensures.added }

pub returns-in_err-place-clause-grown : goal.returns-in_err-place-clause-grown
returns-in_err-place-clause-grown c = grown_not c.args.self.now.places c.args.self.now.places refl

pub returns-in_err-add_place-clause-grown : goal.returns-in_err-add_place-clause-grown
returns-in_err-add_place-clause-grown c = grown_not c.args.self.now.places c.add_place.new.self.places (ap (λ (t : Table). t.places) c.in_err-add_place.ensures.err)
