-- What one command met and left in one recording, and two such runs.
use Rattle.std.specs.Prelude.{◌≡◌, ◌≢◌, ◌↔◌, ◌==◌, ℕ, Bool, true, false, List, Option, Some, None, Contains}
use Rattle.rev_contents.specs.declared.looks.Answer.{Answer}
use Rattle.rev_contents.specs.declared.looks.Answer.TheVariants.{Missing, There, Content}
use Rattle.rev_contents.specs.declared.looks.Look.{Look}
use Rattle.rev_contents.specs.declared.looks.Left.{Left}

-- What a command can ask of a place: whether something is there, and for its content.
pub data Ask : Type 0 where
  IsThere : Ask
  Read : Ask

pub record Question : Type 0 where
  pub place : ℕ
  pub ask : Ask

pub data Reply : Type 0 where
  No : Reply
  Yes : Reply
  Holds : ℕ → Reply

-- a question with its reply
pub record Step : Type 0 where
  pub question : Question
  pub reply : Reply

-- What an answer of a place says of a question. Who read a content knows that something is there, and where nothing is,
-- there is nothing to read. Who only asked whether something is there does not know the content.
abbrev pub reply_to : Answer → Ask → Option Reply
reply_to Missing ask = Some No
reply_to There IsThere = Some Yes
reply_to There Read = None
reply_to (Content content) IsThere = Some Yes
reply_to (Content content) Read = Some (Holds content)

-- A run: the places at which the command looked, with their answers, and what it left: places with contents, in rising
-- order. A look is left out by which the command only asked whether its own output is there: in a clean build that is
-- missing, in the next one it is there.
pub record Run : Type 0 where
  pub looks : List Look
  pub left : List Left

-- the run has this reply to this question
pub record Knows (run : Run) (step : Step) : Type 0 where
  pub answer : Answer
  pub looked : Contains run.looks (record { place = step.question.place; answer = answer })
  pub says : reply_to answer step.question.ask ≡ Some step.reply

-- TWO ANSWERS OF ONE PLACE
-- They are alike where no question has another reply by one than by the other: that something is there agrees with each
-- content.
abbrev pub alike : Answer → Answer → Bool
alike Missing Missing = true
alike Missing There = false
alike Missing (Content y) = false
alike There Missing = false
alike There There = true
alike There (Content y) = true
alike (Content x) Missing = false
alike (Content x) There = true
alike (Content x) (Content y) = x == y

-- both runs looked at the place, and it answered them otherwise
pub record DiffersAt (one other : List Look) (place : ℕ) : Type 0 where
  pub here : Answer
  pub there : Answer
  pub one_has : Contains one (record { place = place; answer = here })
  pub other_has : Contains other (record { place = place; answer = there })
  pub unlike : alike here there ≡ false

-- each place at which both looked answered both alike
abbrev pub NoneDiffers : List Look → List Look → Type 0
NoneDiffers one other = (place : ℕ) → DiffersAt one other place → ⊥

-- TWO RUNS
abbrev pub Agree : Run → Run → Type 0
Agree one other = NoneDiffers one.looks other.looks

-- some question has another reply in one than in the other
pub record Differ (one other : Run) : Type 0 where
  pub question : Question
  pub here : Reply
  pub there : Reply
  pub one_knows : Knows one (record { question = question; reply = here })
  pub other_knows : Knows other (record { question = question; reply = there })
  pub unlike : here ≢ there

-- the same replies to the same questions, and the same was left
pub record Same (one other : Run) : Type 0 where
  pub knows : (step : Step) → Knows one step ↔ Knows other step
  pub left : one.left ≡ other.left

-- The command left the same if it saw the same.
abbrev pub IsDeterministicOn : Run → Run → Type 0
IsDeterministicOn one other = Agree one other → one.left ≡ other.left

-- A first cause: it saw the same, wherever both looked, and left other contents.
abbrev pub IsFirstCause : Run → Run → Type 0
IsFirstCause one other = Agree one other × (one.left ≢ other.left)

-- It left other contents, and some place answered otherwise: it may only follow from that.
abbrev pub IsPropagated : Run → Run → Type 0
IsPropagated one other = (Agree one other → ⊥) × (one.left ≢ other.left)

-- Some place answered otherwise, and it left the same: what comes behind it need not have run.
abbrev pub IsAbsorbed : Run → Run → Type 0
IsAbsorbed one other = (Agree one other → ⊥) × (one.left ≡ other.left)

-- Each place of the earlier run at which this one looked too answered as it did then: a content cache has what it left.
abbrev pub IsServedBy : Run → Run → Type 0
IsServedBy earlier now = Agree earlier now
