-- Where a path leads depends on its looks alone.
use Rattle.std.proofs.Common.{◌≡◌, ℕ, zero, suc, Bool, true, false, List, [], ◌∷◌, ◌++◌, refl, ap, ◌∙◌, if◌then◌else◌}
use Rattle.rev_world.specs.Commands.{Disk, Look.Entry, Look.Way, Place, Value, Value.Nothing, Value.File, Value.Folder, Value.Link, pass, see}
use Rattle.rev_world.specs.Ways.{Part, Part.Up, Part.Name, ShowAlike, Target, Walked, WaysAreTold, after_look, folder_of, has_name_next, look_at, on_from, shown_at, walk}

-- what a look on the way shows, where it shows the same
shown-alike : (one other : Disk) (place : Place) (parts : List Part) → see one (look_at place parts) ≡ see other (look_at place parts) → shown_at one place parts ≡ shown_at other place parts
shown-alike one other place parts h = by (has_name_next parts) h
  where
    by : (b : Bool) → see one (if b then Way place else Entry place) ≡ see other (if b then Way place else Entry place) → (if b then pass (one place) else one place) ≡ (if b then pass (other place) else other place)
    by true e = cc
    by false e = cc

on-alike : (target : List ℕ → Target) (one other : Disk) (first second : Place → List Part → Walked) → ((place : Place) (parts : List Part) → ShowAlike one other (first place parts).looks → first place parts ≡ second place parts)
    → (folder place : Place) (parts : List Part) (value : Value) → ShowAlike one other (on_from target first folder place parts value).looks → on_from target first folder place parts value ≡ on_from target second folder place parts value
on-alike target one other first second same folder place parts Folder h = same place parts h
on-alike target one other first second same folder place parts (Link text) h = same (if (target text).from_root then [] else folder) ((target text).parts ++ parts) h
on-alike target one other first second same folder place [] Nothing h = refl
on-alike target one other first second same folder place (part ∷ parts) Nothing h = refl
on-alike target one other first second same folder place [] (File content) h = refl
on-alike target one other first second same folder place (part ∷ parts) (File content) h = refl

pub ways-are-told : WaysAreTold
ways-are-told target zero one other folder parts h = refl
ways-are-told target (suc n) one other folder [] h = refl
ways-are-told target (suc n) one other folder (Up ∷ parts) h = ways-are-told target n one other (folder_of folder) parts h
ways-are-told target (suc n) one other folder (Name name ∷ parts) h =
    ap (after_look (look_at (name ∷ folder) parts))
    (on-alike target one other (walk target n one) (walk target n other) (λ place rest. ways-are-told target n one other place rest) folder (name ∷ folder) parts (shown_at one (name ∷ folder) parts) h.1
    ∙ ap (on_from target (walk target n other) folder (name ∷ folder) parts) (shown-alike one other (name ∷ folder) parts h.0))
