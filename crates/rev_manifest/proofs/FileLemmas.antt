-- Files by their names.
use Rattle.std.proofs.Common.{◌≡◌, ℕ, ◌+◌, ◌-◌, ◌<◌, ◌≤◌, suc, Bool, true, false, ◌&&◌, ◌||◌, cond, List, [], ◌∷◌, ◌++◌, length, take, get_or, Option, Some, None, is_none, is_some, nat_lt, bytes_eq, refl, sym, ap, ◌∙◌, arith, if◌then◌else◌}
use Rattle.std.specs.Global.{Vec}
use Rattle.std.proofs.lemmas.Bool.{ltb-true, lt-ltb}
use Rattle.std.proofs.lemmas.List.{length-map, map-append, take_more, length-take-le}
use Rattle.std.proofs.lemmas.Slice.Eq.{bytes_eq-Decides}
use Rattle.rev_paths.specs.Canonical.{canonical}
use Rattle.rev_manifest.specs.declared.fault.FaultKind.TheVariants.{LongPath}
use Rattle.rev_manifest.specs.Names.{path_fault}
use Rattle.rev_manifest.specs.Files.{FileValue, bytes_of, bytes_left, is_named, file_from}
use Rattle.rev_manifest.specs.Places.{first_place}
use Rattle.rev_manifest.specs.Seen.{seen_files}

or-true : (a b : Bool) → b ≡ true → (a || b) ≡ true
or-true true b h = refl
or-true false b h = h

-- too many bytes, however many files
pub large_bytes : (files : List FileValue) → 268435456 < bytes_of files → bytes_left files ≡ None
large_bytes files h =
    ap (λ b. if b then None else Some (268435456 - bytes_of files))
    (or-true (nat_lt 16384 (length files)) _ (lt-ltb 268435456 (bytes_of files) h))

shift : (place n : ℕ) → suc place + n ≡ place + suc n
shift place n = omega arith

zero_more : (place : ℕ) → place ≡ place + 0
zero_more place = omega arith

-- one more file
pub file_from-push : (place : ℕ) (path : List ℕ) (files : List FileValue) (file : FileValue)
    → file_from place path (files ++ file ∷ []) ≡ first_place (file_from place path files) (is_named path file) (place + length files)
file_from-push place path [] file = ap (λ n. if is_named path file then Some n else None) (zero_more place)
file_from-push place path (x ∷ files) file = by (is_named path x) (file_from-push (suc place) path files file)
  where
    by : (b : Bool) → file_from (suc place) path (files ++ file ∷ []) ≡ first_place (file_from (suc place) path files) (is_named path file) (suc place + length files)
        → (if b then Some place else file_from (suc place) path (files ++ file ∷ []))
        ≡ first_place (if b then Some place else file_from (suc place) path files) (is_named path file) (place + suc (length files))
    by true later = refl
    by false later = later ∙ ap (first_place (file_from (suc place) path files) (is_named path file)) (shift place (length files))

-- the same, as a loop goes on
pub places_more : (path : List ℕ) (files : List (Vec ℕ × Vec ℕ)) (i : ℕ) (x : Vec ℕ × Vec ℕ) → i < length files → get_or files i x ≡ x
    → first_place (file_from 0 path (seen_files (take i files))) (is_named path (x.0.items, x.1.items)) i ≡ file_from 0 path (seen_files (take (i + 1) files))
places_more path files i x within is =
    let seen : Vec ℕ × Vec ℕ → FileValue = λ f. (f.0.items, f.1.items) in
    let more : seen_files (take (i + 1) files) ≡ seen_files (take i files) ++ (x.0.items, x.1.items) ∷ [] =
    ap seen_files (take_more files i x within ∙ ap (λ y. take i files ++ y ∷ []) is) ∙ map-append seen (take i files) (x ∷ []) in
    let before : i ≤ length files = omega arith in
    let count : i ≡ 0 + length (seen_files (take i files)) = omega (arith, length-map (take i files) seen, length-take-le i files before) in
    ap (first_place (file_from 0 path (seen_files (take i files))) (is_named path (x.0.items, x.1.items))) count
    ∙ sym (file_from-push 0 path (seen_files (take i files)) (x.0.items, x.1.items)) ∙ ap (file_from 0 path) (sym more)

-- one more name in a map that has it not
pub added_place : (old new : Option ℕ) (place : ℕ) (name path : List ℕ) (named : Bool) → new ≡ cond (bytes_eq name path) (Some place) old → (name ≡ path → old ≡ None)
    → named ≡ bytes_eq path name → new ≡ first_place old named place
added_place old new place name path named is absent same = by (bytes_eq name path) refl (bytes_eq path name) refl
  where
    stays : (o : Option ℕ) → o ≡ first_place o false place
    stays None = refl
    stays (Some p) = refl

    by : (a : Bool) → bytes_eq name path ≡ a → (b : Bool) → bytes_eq path name ≡ b → new ≡ first_place old named place
    by true e true f =
        let equal : name ≡ path = (bytes_eq-Decides name path).0 e in
        is ∙ ap (λ t. cond t (Some place) old) e ∙ sym ((λ i. first_place (absent equal i) ((same ∙ f) i) place))
    by false e false f = is ∙ ap (λ t. cond t (Some place) old) e ∙ stays old ∙ ap (λ t. first_place old t place) (sym (same ∙ f))
    by true e false f =
        let equal : name ≡ path = (bytes_eq-Decides name path).0 e in
        let other : bytes_eq path name ≡ true = (bytes_eq-Decides path name).1 (sym equal) in cc
    by false e true f =
        let equal : path ≡ name = (bytes_eq-Decides path name).0 f in
        let other : bytes_eq name path ≡ true = (bytes_eq-Decides name path).1 (sym equal) in cc

-- a file's name that has no fault
pub named_by : (path raw name content : List ℕ) → path_fault raw ≡ None → name ≡ canonical raw → is_named path (raw, content) ≡ bytes_eq path name
named_by path raw name content fault is = ap (λ f. is_none f && bytes_eq path (canonical raw)) fault ∙ ap (bytes_eq path) (sym is)

-- a path that is neither empty nor too long
pub no_fault : (raw : List ℕ) → (raw ≡ [] → ⊥) → (4096 < length raw → ⊥) → path_fault raw ≡ None
no_fault [] some few = absurd (some refl)
no_fault (b ∷ bs) some few = by (nat_lt 4096 (length (b ∷ bs))) refl
  where
    by : (t : Bool) → nat_lt 4096 (length (b ∷ bs)) ≡ t → path_fault (b ∷ bs) ≡ None
    by true e = absurd (few (ltb-true 4096 (length (b ∷ bs)) e))
    by false e = ap (λ t. if t then Some LongPath else None) e

pub none_of : {A : Type 0} (o : Option A) → is_some o ≡ false → o ≡ None
none_of None h = refl
none_of (Some x) h = cc
