-- What the files of a manifest have.
use Rattle.std.specs.Prelude.{ℕ, List, map}
use Rattle.std.specs.Global.{Vec}

-- the name and the bytes of a file
abbrev pub text_of : Vec ℕ × Vec ℕ → List ℕ × List ℕ
text_of file = (file.0.items, file.1.items)

-- the name and the bytes of each file
abbrev pub texts : List (Vec ℕ × Vec ℕ) → List (List ℕ × List ℕ)
texts files = map text_of files
