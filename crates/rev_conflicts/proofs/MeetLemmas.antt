-- What is found at places, one command after the other.
use Rattle.std.proofs.Common.{◌≡◌, ℕ, zero, suc, ◌<◌, ◌≤◌, Bool, true, false, ◌||◌, List, [], ◌∷◌, length, get_or, ◌⊎◌, inl, inr, refl, sym, ap, subst, ◌∙◌, arith, Contains}
use Rattle.std.specs.Prelude.{◌↔◌, All}
use Rattle.std.specs.Global.{Vec}
use Rattle.std.proofs.lemmas.Bool.{or_cases}
use Rattle.std.proofs.lemmas.List.{get_or_default, get_or-map as at-map, length-map}
use Rattle.std.proofs.lemmas.List.Elements.{Contains-get_or}
use Rattle.rev_manifest.specs.Manifest.{BuildValue}
use Rattle.rev_ranks.specs.Graph.{graph_of, successors_of}
use Rattle.rev_observed.specs.CommandValues.{CommandValue}
use Rattle.rev_observed.specs.declared.kind.Kind.TheVariants.{Reads, Stats, Misses, Writes, Deletes, Temps}
use Rattle.rev_conflicts.specs.declared.place.Place.{Place}
use Rattle.rev_conflicts.specs.declared.place.Place.TheVariants.{File, Entries}
use Rattle.rev_conflicts.specs.Places.{does}
use Rattle.rev_conflicts.specs.Tables.{AreQuiet, IsApart, IsKeyAt, IsKeyBy, IsKeyOf, SomeBelow, meet_key, place_in, uses_at}

-- ONE COMMAND AT A PLACE
abbrev pub ByOne : List BuildValue → List Bool → List ℕ → ℕ → ℕ → Place → ℕ → List ℕ → Type 0
ByOne builds early edges user used_by place c k =
    IsApart builds early user (get_or edges c 0) × (k ≡ meet_key (get_or edges c 0) user place c used_by)

pub keys-by : (builds : List BuildValue) (early : List Bool) (edges : List ℕ) (user used_by : ℕ) (place : Place) (commands k : List ℕ)
    → SomeBelow (λ i. ByOne builds early edges user used_by place (get_or commands i 0) k) (length commands) ↔ IsKeyBy builds early edges user used_by place commands k
keys-by builds early edges user used_by place commands k = (
  λ s. let b = s.below in let h = s.holds in record { made_by = get_or commands s.number 0; among = Contains-get_or commands s.number 0 b; apart = h.0; is = h.1 },
  λ key.
      let c = key.among in
      let at : get_or commands c.0 0 ≡ key.made_by = get_or_default commands c.0 0 key.made_by c.1 ∙ c.2 in
      record { number = c.0; below = c.1; holds = subst (λ m. ByOne builds early edges user used_by place m k) (sym at) (key.apart, key.is) },
)

-- nobody is at a number past the table
pub past-end : {X : Type 0} (xs : List X) (n : ℕ) (d : X) → length xs ≤ n → get_or xs n d ≡ d
past-end [] n d h = refl
past-end (x ∷ xs) zero d h = absurd (omega (arith, h))
past-end (x ∷ xs) (suc n) d h = past-end xs n d (omega (arith, h))

pub none-past : (builds : List BuildValue) (early : List Bool) (edges : List ℕ) (user used_by : ℕ) (place : Place) (lists : List (Vec ℕ)) (n : ℕ) (k : List ℕ) → length lists ≤ n
    → IsKeyBy builds early edges user used_by place (successors_of (graph_of lists) n) k → ⊥
none-past builds early edges user used_by place lists n k past key =
    let c = subst (λ (l : List ℕ). Contains l key.made_by) (past-end (graph_of lists) n [] (omega (arith, past, length-map lists (λ (v : Vec ℕ). v.items)))) key.among in
    let w = c.1 in
    omega (arith, w)

-- the commands of a table at a number
pub at-number : (lists : List (Vec ℕ)) (n : ℕ) (v : Vec ℕ) → n < length lists → v ≡ get_or lists n v → successors_of (graph_of lists) n ≡ v.items
at-number lists n v within is = at-map (λ (y : Vec ℕ). y.items) lists n v [] within ∙ sym (ap (λ (y : Vec ℕ). y.items) is)

pub all-at : (P : ℕ → Type 0) (lists : List (Vec ℕ)) (n : ℕ) (v : Vec ℕ) (items : List ℕ) → n < length lists → v ≡ get_or lists n v → items ≡ v.items → All (λ (w : Vec ℕ). All P w.items) lists → All P items
all-at P lists n v items within is same all = subst (λ xs. All P xs) (sym same) (subst (λ (w : Vec ℕ). All P w.items) (sym is) (all n v within))

-- KINDS OF USE
pub uses-file : (command : CommandValue) (n : ℕ) (Q : Type 0) → (does Reads command n ≡ true → Q) → (does Misses command n ≡ true → Q) → (does Stats command n ≡ true → Q)
    → (does Writes command n ≡ true → Q) → (does Deletes command n ≡ true → Q) → (does Temps command n ≡ true → Q) → uses_at command (File n) ≡ true → Q
uses-file command n Q r m s w d t h = elim (or_cases (does Reads command n || does Misses command n || does Stats command n) (does Writes command n || does Deletes command n || does Temps command n) h) [
  | inl looks ↦ elim (or_cases (does Reads command n || does Misses command n) (does Stats command n) looks) [
    | inl two ↦ elim (or_cases (does Reads command n) (does Misses command n) two) [ inl a ↦ r a | inr b ↦ m b ]
    | inr c ↦ s c
  ]
  | inr changes ↦ elim (or_cases (does Writes command n || does Deletes command n) (does Temps command n) changes) [
    | inl two ↦ elim (or_cases (does Writes command n) (does Deletes command n) two) [ inl a ↦ w a | inr b ↦ d b ]
    | inr c ↦ t c
  ]
]

-- ALL PLACES OF A COMMAND
-- a quiet place has nobody to tell
pub quiet-none : (builds : List BuildValue) (early : List Bool) (edges : List ℕ) (user used_by : ℕ) (place : Place) (commands k : List ℕ) → AreQuiet builds edges user commands
    → IsKeyBy builds early edges user used_by place commands k → ⊥
quiet-none builds early edges user used_by place commands k quiet key = elim (quiet key.made_by key.among) [
  | inl same ↦ key.apart.others same
  | inr way ↦ key.apart.unordered way
]

abbrev pub InFiles : List BuildValue → List Bool → List ℕ → ℕ → ℕ → List (List ℕ) → List ℕ → List ℕ → Type 0
InFiles builds early edges user used_by lists numbers k =
    SomeBelow (λ i. IsKeyBy builds early edges user used_by (place_in false (get_or numbers i 0)) (successors_of lists (get_or numbers i 0)) k) (length numbers)

abbrev pub InFolders : List BuildValue → List Bool → List ℕ → ℕ → ℕ → List (List ℕ) → List ℕ → List ℕ → Type 0
InFolders builds early edges user used_by lists numbers k =
    SomeBelow (λ i. IsKeyBy builds early edges user used_by (place_in true (get_or numbers i 0)) (successors_of lists (get_or numbers i 0)) k) (length numbers)

module _ (builds : List BuildValue) (early : List Bool) (edges : List ℕ) (used_by : ℕ) (command : CommandValue) (files folders : List (List ℕ)) (in_files in_folders : List ℕ)
    (rest_files : (n : ℕ) → uses_at command (File n) ≡ true → Contains in_files n ⊎ AreQuiet builds edges (get_or edges used_by 0) (successors_of files n))
    (rest_folders : (n : ℕ) → uses_at command (Entries n) ≡ true → Contains in_folders n ⊎ AreQuiet builds edges (get_or edges used_by 0) (successors_of folders n)) where
  abbrev user : ℕ
  user = get_or edges used_by 0

  -- where there is no such place, nothing is told
  pub nothing-found : length in_files ≡ 0 → length in_folders ≡ 0 → (place : Place) (k : List ℕ) → uses_at command place ≡ true → IsKeyAt builds early edges files folders used_by place k → ⊥
  nothing-found no_files no_folders (File n) k uses key = elim (rest_files n uses) [
    | inl c ↦ let w = c.1 in omega (arith, w, no_files)
    | inr quiet ↦ quiet-none builds early edges (get_or edges used_by 0) used_by (File n) (successors_of files n) k quiet key
  ]
  nothing-found no_files no_folders (Entries n) k uses key = elim (rest_folders n uses) [
    | inl c ↦ let w = c.1 in omega (arith, w, no_folders)
    | inr quiet ↦ quiet-none builds early edges (get_or edges used_by 0) used_by (Entries n) (successors_of folders n) k quiet key
  ]

  file-of : (k : List ℕ) → InFiles builds early edges (get_or edges used_by 0) used_by files in_files k → IsKeyOf builds early edges files folders used_by k
  file-of k s = record { place = File (get_or in_files s.number 0); key = s.holds }

  folder-of : (k : List ℕ) → InFolders builds early edges (get_or edges used_by 0) used_by folders in_folders k → IsKeyOf builds early edges files folders used_by k
  folder-of k s = record { place = Entries (get_or in_folders s.number 0); key = s.holds }

  pub sound-found : {A B C : Type 0} (k : List ℕ) → (B → A ⊎ InFiles builds early edges (get_or edges used_by 0) used_by files in_files k)
      → (C → B ⊎ InFolders builds early edges (get_or edges used_by 0) used_by folders in_folders k) → C → A ⊎ IsKeyOf builds early edges files folders used_by k
  sound-found k one two c = elim (two c) [
    | inl b ↦ elim (one b) [ inl a ↦ inl a | inr s ↦ inr (file-of k s) ]
    | inr s ↦ inr (folder-of k s)
  ]

  pub whole-found : {B C : Type 0} (place : Place) (k : List ℕ) → (InFiles builds early edges (get_or edges used_by 0) used_by files in_files k → B) → (B → C)
      → (InFolders builds early edges (get_or edges used_by 0) used_by folders in_folders k → C) → uses_at command place ≡ true → IsKeyAt builds early edges files folders used_by place k → C
  whole-found (File n) k one two three uses key = elim (rest_files n uses) [
    | inl c ↦
        let at : get_or in_files c.0 0 ≡ n = get_or_default in_files c.0 0 n c.1 ∙ c.2 in
        two (one (record {
          number = c.0;
          below = c.1;
          holds = subst (λ m. IsKeyBy builds early edges (get_or edges used_by 0) used_by (File m) (successors_of files m) k) (sym at) key;
        }))
    | inr quiet ↦ absurd (quiet-none builds early edges (get_or edges used_by 0) used_by (File n) (successors_of files n) k quiet key)
  ]
  whole-found (Entries n) k one two three uses key = elim (rest_folders n uses) [
    | inl c ↦
        let at : get_or in_folders c.0 0 ≡ n = get_or_default in_folders c.0 0 n c.1 ∙ c.2 in
        three (record {
          number = c.0;
          below = c.1;
          holds = subst (λ m. IsKeyBy builds early edges (get_or edges used_by 0) used_by (Entries m) (successors_of folders m) k) (sym at) key;
        })
    | inr quiet ↦ absurd (quiet-none builds early edges (get_or edges used_by 0) used_by (Entries n) (successors_of folders n) k quiet key)
  ]

-- along lists that grow
pub through : {A B Q : Type 0} → (A → B) → A ⊎ Q → B ⊎ Q
through f (inl a) = inl (f a)
through f (inr q) = inr q

pub key-same : (builds : List BuildValue) (early : List Bool) (edges : List ℕ) (user used_by : ℕ) (p q : Place) (cs ds k : List ℕ) → p ≡ q → cs ≡ ds
    → IsKeyBy builds early edges user used_by p cs k ↔ IsKeyBy builds early edges user used_by q ds k
key-same builds early edges user used_by p q cs ds k e f = (
  λ h. subst (λ x. IsKeyBy builds early edges user used_by x ds k) e (subst (λ (l : List ℕ). IsKeyBy builds early edges user used_by p l k) f h),
  λ h. subst (λ x. IsKeyBy builds early edges user used_by x cs k) (sym e) (subst (λ (l : List ℕ). IsKeyBy builds early edges user used_by q l k) (sym f) h),
)
