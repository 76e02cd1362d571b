-- Lists of slices and of vectors, as lists of texts.
use Rattle.std.specs.Prelude.{ℕ, List, map}
use Rattle.std.specs.Borrow.{Bor}
use Rattle.std.specs.Cow.{cow_slice_items}
use Rattle.std.specs.Global.{Vec, Global}
use Rattle.std.specs.declared.borrow.CowSlice.{CowSlice}

-- the texts that slices point to
abbrev pub slices_of : List (Bor (List ℕ)) → List (List ℕ)
slices_of slices = map (λ s. s.now) slices

-- the texts that vectors hold
abbrev pub vectors_of : List (Vec ℕ) → List (List ℕ)
vectors_of vectors = map (λ v. v.items) vectors

-- the texts that are lent or held
abbrev pub lent_of : List (CowSlice ℕ Global) → List (List ℕ)
lent_of texts = map (λ t. cow_slice_items t) texts
