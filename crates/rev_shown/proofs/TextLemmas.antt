-- A text to which bytes were added, where they were.
use Rattle.std.proofs.Common.{◌≡◌, ℕ, List, ◌++◌, Result, Ok, Err}
use Rattle.std.specs.Prelude.{if◌then◌else◌, is_ok}
use Rattle.std.specs.Result.{OnOk}

pub extended : {T E : Type 0} (r : Result T E) (after before more : List ℕ)
    → after ≡ (if is_ok r then before ++ more else before) → OnOk r (after ≡ before ++ more)
extended (Ok value) after before more is = is
extended (Err fault) after before more is = tt
