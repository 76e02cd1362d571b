-- What vectors of vectors hold.
use Rattle.std.specs.Prelude.{ℕ, List, Option, map}
use Rattle.std.specs.Global.{Vec}

abbrev pub lists_of : List (Vec (Option ℕ)) → List (List (Option ℕ))
lists_of vectors = map (λ (vector : Vec (Option ℕ)). vector.items) vectors
