-- Whether a text says `certain`, by its first bytes.
use Rattle.std.proofs.Common.{◌≡◌, ℕ, Bool, true, false, List, ◌++◌, Option, Some, None, refl}
use Rattle.std.specs.Prelude.{is_some}
use Rattle.rev_races_text.specs.declared.failed.Replayed.{Replayed}
use Rattle.rev_certainty.specs.Sayings.{first_words, object_head, object_says_certain, says_certain}
use Rattle.rev_certainty.specs.declared.certainty.Certainty.{Certainty}

pub words-say : (certainty : Option Certainty) (why : List ℕ) (replayed : Replayed) (more : List ℕ) → says_certain (first_words certainty why replayed ++ more) ≡ is_some certainty
words-say (Some certainty) why replayed more = refl
words-say None why replayed more = refl

pub object-says : (certain : Bool) (members end more : List ℕ) → object_says_certain (((object_head certain ++ members) ++ end) ++ more) ≡ certain
object-says true members end more = refl
object-says false members end more = refl
