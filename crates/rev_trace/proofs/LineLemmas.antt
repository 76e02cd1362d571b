-- What is wrong with one line, and what the lines of commands have.
use Rattle.std.proofs.Common.{◌≡◌, ℕ, ◌<◌, ◌^◌, List, [], ◌∷◌, length, refl, sym, ap, ◌∙◌, subst, inl, inr, arith, Option, Some, None, Result, Ok, Err}
use Rattle.rev_commands.specs.declared.command.Command.{Command}
use Rattle.rev_commands.specs.declared.command.Command.TheVariants as command
use Rattle.rev_events.specs.declared.event.Event.TheVariants as event
use Rattle.rev_fields.specs.declared.faults.FaultKind.{FaultKind}
use Rattle.rev_fields.specs.declared.faults.FaultKind.TheVariants.{Syntax}
use Rattle.rev_fields.specs.Fields.{texts_of}
use Rattle.rev_fields.specs.Grammar.{AreNumbers, AreParts, IsLine, LastPart, OnePart}
use Rattle.rev_fields.specs.Lines.{read_as}
use Rattle.rev_fields.proofs.GrammarLemmas.{fields-are-read}
use Rattle.rev_trace.specs.Commands.{command_line, command_of}
use Rattle.rev_trace.specs.Grammar.{Exact, Shape, LineSays}
use Rattle.rev_trace.specs.LineFaults.{EmptyLineSaysNone, IsWrongLine, HasNoNumber, HasNoShape, LineFaultsAreTold, SaidHaveStamps}
use Rattle.rev_trace.proofs.GrammarLemmas.{line_read, lines-say-commands}
use Rattle.rev_trace.proofs.JudgeLemmas.{empty-line, same-texts}
use Rattle.rev_trace.proofs.ShapeLemmas.{command-err, command-shape, command-shaped, not-shaped}

-- a fault is what is wrong with the line

never : {A : Type 0} (kind : FaultKind) (a : A) → ◌≡◌ {A = Result A FaultKind} (Err kind) (Ok a) → ⊥
never kind a h = cc

kind-is : (kind : FaultKind) → ◌≡◌ {A = Result Command FaultKind} (Err Syntax) (Err kind) → kind ≡ Syntax
kind-is kind h = cc

no-texts : (line : List ℕ) (texts : List (List ℕ)) → texts_of line ≡ None → IsLine line texts → ⊥
no-texts line texts none h = let never : None ≡ Some texts = sym none ∙ (fields-are-read line texts).1 h in cc

no-shape : (targets : List (List ℕ)) (line : List ℕ) (texts : List (List ℕ)) → texts_of line ≡ Some texts → command_of targets texts ≡ Err Syntax → (c : Command) → LineSays Shape targets line c → ⊥
no-shape targets line texts e h c says =
    let same : says.0 ≡ texts = same-texts line says.0 texts says.1 ((fields-are-read line texts).0 e) in
    not-shaped (command_of targets says.0) (ap (command_of targets) same ∙ h) (command-shaped targets says.0 c says.2)

wrong-by : (targets : List (List ℕ)) (line : List ℕ) (o : Option (List (List ℕ))) (kind : FaultKind) → texts_of line ≡ o → read_as (command_of targets) o ≡ Err kind → IsWrongLine targets line kind
wrong-by targets line None kind e h = subst (IsWrongLine targets line) (sym (kind-is kind h)) (HasNoShape (λ c says. no-texts line says.0 e says.1))
wrong-by targets line (Some texts) kind e h = elim (command-err targets texts kind h) [
  | inl s ↦ subst (IsWrongLine targets line) (sym s) (HasNoShape (no-shape targets line texts e (h ∙ ap Err s)))
  | inr n ↦
      let is : command_line targets line ≡ Err kind = ap (read_as (command_of targets)) e ∙ h in
      subst (IsWrongLine targets line) (sym n.0)
      (HasNoNumber n.1.0 (texts, (fields-are-read line texts).0 e, n.1.1) (λ other says. never kind other (sym is ∙ line_read targets line other says)))
]

-- and what is wrong with the line is its fault

not-said : {targets : List (List ℕ)} {line : List ℕ} {kind : FaultKind} → IsWrongLine targets line kind → (c : Command) → LineSays Exact targets line c → ⊥
not-said {targets} (HasNoShape none) c says = none c (says.0, says.1, command-shape targets says.0 c says.2)
not-said (HasNoNumber d shape none) c says = none c says

one-wrong : {targets : List (List ℕ)} {line : List ℕ} {a b : FaultKind} → IsWrongLine targets line a → IsWrongLine targets line b → a ≡ b
one-wrong (HasNoShape none) (HasNoShape other) = refl
one-wrong (HasNoShape none) (HasNoNumber c shape other) = absurd (none c shape)
one-wrong (HasNoNumber c shape other) (HasNoShape none) = absurd (none c shape)
one-wrong (HasNoNumber c shape other) (HasNoNumber d form none) = refl

told-by : (targets : List (List ℕ)) (line : List ℕ) (kind : FaultKind) (r : Result Command FaultKind) → command_line targets line ≡ r → IsWrongLine targets line kind → command_line targets line ≡ Err kind
told-by targets line kind (Ok c) e h = absurd (not-said h c ((lines-say-commands targets line c).0 e))
told-by targets line kind (Err k) e h = e ∙ ap Err (one-wrong (wrong-by targets line (texts_of line) k refl e) h)

pub line-faults-are-told : LineFaultsAreTold
line-faults-are-told targets line kind = (λ h. wrong-by targets line (texts_of line) kind refl h, λ h. told-by targets line kind (command_line targets line) refl h)

pub empty-line-says-none : EmptyLineSaysNone
empty-line-says-none targets c says = empty-line says.0 says.1

-- stamps

some-parts : {mark : ℕ} {bytes : List ℕ} {parts : List (List ℕ)} → AreParts mark bytes parts → 0 < length parts
some-parts (LastPart h) = omega arith
some-parts (OnePart h more) = omega arith

some-numbers : (text ns : List ℕ) → AreNumbers (2 ^ 64) text ns → 0 < length ns
some-numbers text [] h = absurd (omega (arith, some-parts h.0))
some-numbers text (n ∷ ns) h = omega arith

pub said-have-stamps : SaidHaveStamps
said-have-stamps targets line (command.Event (event.Plan paths)) says = tt
said-have-stamps targets line (command.Event (event.Start out job slot)) says = tt
said-have-stamps targets line (command.Event (event.Finish out stamps l)) says = let h = says.2 in some-numbers h.1 stamps h.5
said-have-stamps targets line (command.Event (event.Fail out stamps)) says = let h = says.2 in some-numbers h.1 stamps h.4
said-have-stamps targets line (command.Event (event.Abort out stamps)) says = let h = says.2 in some-numbers h.1 stamps h.4
said-have-stamps targets line (command.Event (event.Clean out)) says = tt
said-have-stamps targets line (command.Event (event.Pass out)) says = tt
said-have-stamps targets line (command.Event (event.Touch path stamp)) says = tt
said-have-stamps targets line (command.Event event.Interrupt) says = tt
said-have-stamps targets line (command.Event (event.Resize pool depth)) says = tt
said-have-stamps targets line (command.Undo w) says = tt
said-have-stamps targets line (command.Redo w) says = tt
said-have-stamps targets line (command.Cone w) says = tt
said-have-stamps targets line command.Back says = tt
said-have-stamps targets line (command.Break p) says = tt
said-have-stamps targets line (command.Unbreak n) says = tt
said-have-stamps targets line command.Continue says = tt
