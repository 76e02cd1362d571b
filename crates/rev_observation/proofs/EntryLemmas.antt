-- Entries and names with one more.
use Rattle.std.proofs.Common.{◌≡◌, ℕ, zero, ◌+◌, ◌<◌, nat_lt, Bool, true, false, List, [], ◌∷◌, ◌++◌, length, Option, Some, None, Ok, Err, if◌then◌else◌, ap, ◌∙◌, subst, sym, arith}
use Rattle.std.proofs.lemmas.Bool.{ltb-true}
use Rattle.rev_observed.specs.declared.faults.FaultKind.TheVariants.{Double}
use Rattle.rev_observed.specs.Faults.{◌>>=◌}
use Rattle.rev_observation.specs.Entries.{AreBelow, EntriesValue, IsBelow, NamesValue, entry_put, has_name, is_below, name_put}
use Rattle.rev_observation.specs.Observations.{ObservationValue, also_put}

-- a folder whose number is below a count
pub below : (count : ℕ) (folder : Option ℕ) → is_below count folder ≡ true → IsBelow count folder
below count None h = tt
below count (Some folder) h = ltb-true folder count h

-- one more folder, below the number of its entry
pub below-more : (number : ℕ) (fs : List (Option ℕ)) (f : Option ℕ) → AreBelow number fs → IsBelow (number + length fs) f → AreBelow number (fs ++ f ∷ [])
below-more number [] f h b =
    let none : number + 0 ≡ number = omega arith in
    let P : ℕ → Type 0 = λ n. IsBelow n f in
    (subst P none b, tt)
below-more number (g ∷ gs) f h b =
    let more : number + length (g ∷ gs) ≡ number + 1 + length gs = omega arith in
    let P : ℕ → Type 0 = λ n. IsBelow n f in
    (h.0, below-more (number + 1) gs f h.1 (subst P more b))

pub folders-more : (count : ℕ) (fs : List (Option ℕ)) (f : Option ℕ) → length fs ≡ count → is_below count f ≡ true → AreBelow 0 fs → AreBelow 0 (fs ++ f ∷ [])
folders-more count fs f many b h =
    let same : count ≡ 0 + length fs = omega (arith, many) in
    let P : ℕ → Type 0 = λ n. IsBelow n f in
    below-more 0 fs f h (subst P same (below count f b))

-- a path that has its number already
pub entry_put-double : (e : EntriesValue) (path : List ℕ) (folder : Option ℕ) → has_name e.paths path ≡ true → entry_put e path folder ≡ Err Double
entry_put-double e path folder h =
    ap (λ b. if b then Err Double else Ok (record { paths = e.paths ++ path ∷ []; folders = e.folders ++ folder ∷ [] })) h

pub name_put-double : (n : NamesValue) (name : List ℕ) (entry : ℕ) → has_name n.names name ≡ true → name_put n name entry ≡ Err Double
name_put-double n name entry h =
    ap (λ b. if b then Err Double else Ok (record { names = n.names ++ name ∷ []; entries = n.entries ++ entry ∷ [] })) h

-- a name that an entry has already, and one that none has
pub also_put-double : (o : ObservationValue) (name : List ℕ) (entry : ℕ) → has_name o.entries.paths name ≡ true → also_put o name entry ≡ Err Double
also_put-double o name entry h =
    ap (λ b. if b then Err Double else (name_put o.names name entry >>= λ names. Ok (record o { names = names }))) h

pub also_put-fresh : (o : ObservationValue) (name : List ℕ) (entry : ℕ) → has_name o.entries.paths name ≡ false → also_put o name entry ≡ (name_put o.names name entry >>= λ names. Ok (record o { names = names }))
also_put-fresh o name entry h =
    ap (λ b. if b then Err Double else (name_put o.names name entry >>= λ names. Ok (record o { names = names }))) h
