-- What reading has taken from a reader.
use Rattle.std.specs.Prelude.{◌≡◌, ◌≢◌, ℕ, ◌<◌, ◌⊎◌, ⊤, Bool, true, false, List, [], ◌∷◌, ◌++◌, length, take, Option, Result, Ok, Err}
use Rattle.std.specs.declared.alloc.Global.{Global}
use Rattle.std.specs.declared.io.Error.{Error}
use Rattle.std.specs.declared.io.ErrorKind.{ErrorKind}
use Rattle.std.specs.declared.io.ErrorKind.TheVariants as kind
use Rattle.std.specs.declared.vec.Vec.{Vec}
use Rattle.std.specs.Io.KnownBytes.{Consumes}
use Rattle.std.specs.IoError.{error_kind}
use Rattle.rev_input.specs.declared.reading.TakeFault.{TakeFault}
use Rattle.rev_input.specs.declared.reading.TakeFault.TheVariants.{Memory, Read}
use Rattle.rev_input.specs.declared.reading.TheConstants.{READ_LIMIT}

-- what was read before has grown by bytes that the reader has lost
abbrev pub ReadOn : Option (List ℕ) → Option (List ℕ) → List ℕ → List ℕ → Type 0
ReadOn old new before after = (bytes : List ℕ) × (after ≡ before ++ bytes) × Consumes old new bytes

-- WHAT READS GIVE
-- a read gave bytes, none where the end has come; a signal cut it short; or it failed
pub data Outcome : Type 0 where
  Gave : List ℕ → Outcome
  CutShort : Outcome
  Failed : Outcome

abbrev pub is_cut_short : ErrorKind → Bool
is_cut_short kind.Interrupted = true
is_cut_short _ = false

abbrev pub outcome_of_error : Bool → Outcome
outcome_of_error true = CutShort
outcome_of_error false = Failed

-- what came of a read that answered so, where the room then held these bytes
abbrev pub outcome_of : Result ℕ Error → List ℕ → Outcome
outcome_of (Ok n) room = Gave (take n room)
outcome_of (Err e) room = outcome_of_error (is_cut_short (error_kind e))

abbrev pub bytes_in : Outcome → List ℕ
bytes_in (Gave bytes) = bytes
bytes_in CutShort = []
bytes_in Failed = []

abbrev pub is_end : Outcome → Bool
is_end (Gave []) = true
is_end (Gave (b ∷ bytes)) = false
is_end CutShort = false
is_end Failed = false

-- what one read adds to the bytes, and whether it finds the end
abbrev pub ReadsOne : Outcome → List ℕ → List ℕ → Result Bool TakeFault → Type 0
ReadsOne o before after (Ok ended) = (o ≢ Failed) × (after ≡ before ++ bytes_in o) × (ended ≡ is_end o)
ReadsOne o before after (Err Memory) = ⊤
ReadsOne o before after (Err Read) = o ≡ Failed

-- reads one after the other, from one state of a source to another
abbrev pub AreReads : {S : Type 0} → (S → Outcome → S → Type 0) → S → List Outcome → S → Type 0
AreReads gives old [] new = new ≡ old
AreReads gives old (o ∷ os) new = (next : _) × gives old o next × AreReads gives next os new

abbrev pub bytes_of : List Outcome → List ℕ
bytes_of [] = []
bytes_of (o ∷ os) = bytes_in o ++ bytes_of os

-- no read failed
abbrev pub NoneFails : List Outcome → Type 0
NoneFails [] = ⊤
NoneFails (o ∷ os) = (o ≢ Failed) × NoneFails os

-- some reads, of which none failed, and then one with this outcome
abbrev pub EndsIn : List Outcome → Outcome → Type 0
EndsIn os o = (before : List Outcome) × NoneFails before × (os ≡ before ++ o ∷ [])

-- What is answered for the outcomes of reads: the bytes that they gave, where none failed and the last one found the
-- end or there are more than are wanted. `Read`, where the last one failed, or none failed and there were as many as
-- there may be.
abbrev pub IsAnswer : ℕ → List Outcome → Result (Vec ℕ Global) TakeFault → Type 0
IsAnswer most os (Ok bytes) =
    (bytes.items ≡ bytes_of os) × NoneFails os × (EndsIn os (Gave []) ⊎ (most < length bytes.items))
IsAnswer most os (Err Memory) = ⊤
IsAnswer most os (Err Read) = EndsIn os Failed ⊎ (NoneFails os × (length os ≡ READ_LIMIT))

-- the answer is that of reads which the source gave one after the other
pub record Takes
    {S : Type 0} (gives : S → Outcome → S → Type 0) (most : ℕ) (old new : S) (answer : Result (Vec ℕ Global) TakeFault)
    : Type 0 where
  pub outcomes : List Outcome
  pub reads : AreReads gives old outcomes new
  pub answered : IsAnswer most outcomes answer
