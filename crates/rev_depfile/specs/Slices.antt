-- Slices that stand in a list.
use Rattle.std.specs.Prelude.{List, map}
use Rattle.std.specs.Borrow.{Bor}

-- what each slice points to
abbrev pub texts : {A : Type 0} → List (Bor (List A)) → List (List A)
texts xs = map (λ x. x.now) xs
