-- Traces of version 1 are the same ones in version 2.
use Rattle.std.proofs.Common.{◌≡◌, ℕ, ◌<◌, ◌≤◌, ◌==◌, true, List, [], ◌∷◌, ◌++◌, length, get_or, drop, refl, sym, ap, ◌∙◌, arith, None, append-nil, length-append}
use Rattle.std.proofs.lemmas.Bool.{eqb-true, le-leb}
use Rattle.std.proofs.lemmas.List.Splits.{join_with_byte-slice_split, length-slice_split}
use Rattle.std.specs.List.{join_with_byte}
use Rattle.rev_commands.specs.declared.command.Command.{Command}
use Rattle.rev_fields.specs.Lines.{lines_of}
use Rattle.rev_fields.proofs.GrammarLemmas.{parts-are-cut, parts-cut}
use Rattle.rev_trace.specs.declared.record.Record.{Record}
use Rattle.rev_trace.specs.declared.version.Version.{Version}
use Rattle.rev_trace.specs.declared.version.Version.TheVariants.{One, Two}
use Rattle.rev_trace.specs.Migrated.{MigratedStay, MigratedTracesAreRead, line_one, migrated}
use Rattle.rev_trace.specs.Says.{AreCommands, ArePartsOfLanes, EmptyInLane, NoCommand, NoPart, OneCommand, OnePart, Part, SaysLines, SaysTrace}
use Rattle.rev_trace.specs.Traces.{trace_fault, trace_of}
use Rattle.rev_trace.specs.Versions.{first_line, may_name}
use Rattle.rev_trace.proofs.SaysLemmas.{traces-are-said}

-- the bytes of a text

some-lines : (text : List ℕ) → 0 < length (lines_of text)
some-lines text = omega (arith, length-slice_split (λ b. b == 10) text)

-- lines are the first, and what stands behind it
behind-first : (lines : List (List ℕ)) → 0 < length lines → (rest : List ℕ) × (join_with_byte 10 lines ≡ get_or lines 0 [] ++ rest)
behind-first [] some = absurd (omega (arith, some))
behind-first (first ∷ []) some = ([], sym (append-nil first))
behind-first (first ∷ next ∷ lines) some = (10 ∷ join_with_byte 10 (next ∷ lines), refl)

-- another first line
first-two : (version : Version) (lines : List (List ℕ)) → lines_of (join_with_byte 10 (first_line version ∷ lines)) ≡ first_line version ∷ lines
    → lines_of (first_line Two ++ drop 13 (join_with_byte 10 (first_line version ∷ lines))) ≡ first_line Two ∷ lines
first-two One [] e = refl
first-two Two [] e = refl
first-two One (next ∷ lines) e = ap (λ l. first_line Two ∷ drop 1 l) e
first-two Two (next ∷ lines) e = ap (λ l. first_line Two ∷ drop 1 l) e

first-length : (version : Version) → length (first_line version) ≡ 13
first-length One = refl
first-length Two = refl

migrated-lines : (text : List ℕ) (version : Version) (lines : List (List ℕ)) → lines_of text ≡ first_line version ∷ lines → lines_of (migrated text) ≡ first_line Two ∷ lines
migrated-lines text version lines e =
    let is : join_with_byte 10 (first_line version ∷ lines) ≡ text = ap (join_with_byte 10) (sym e) ∙ join_with_byte-slice_split 10 text in
    ap (λ l. lines_of (first_line Two ++ drop (length (get_or l 0 [])) text)) e
    ∙ ap (λ n. lines_of (first_line Two ++ drop n text)) (first-length version)
    ∙ ap (λ t. lines_of (first_line Two ++ drop 13 t)) (sym is)
    ∙ first-two version lines (ap lines_of is ∙ e)

-- what version 1 lets stand, version 2 does too

name-two : (version : Version) (count n : ℕ) → may_name version count n ≡ true → may_name Two count n ≡ true
name-two One count n h = le-leb n count (omega (arith, eqb-true n count h))
name-two Two count n h = h

commands-two : {version : Version} {targets lines : List (List ℕ)} {commands : List Command} → AreCommands version targets lines commands → AreCommands Two targets lines commands
commands-two NoCommand = NoCommand
commands-two (EmptyInLane rest) = EmptyInLane (commands-two rest)
commands-two (OneCommand says held rest) = OneCommand says refl (commands-two rest)

parts-two : {version : Version} {targets : List (List ℕ)} {n : ℕ} {lines : List (List ℕ)} {parts : List Part} → ArePartsOfLanes version targets n lines parts → ArePartsOfLanes Two targets n lines parts
parts-two NoPart = NoPart
parts-two (OnePart {version} {targets} {n} {line} {lines} {rest} {part} may lt h cs more) = OnePart (name-two version n part.lane may) lt h (commands-two cs) (parts-two more)

lines-two : {version : Version} {lines : List (List ℕ)} {records : List Record} {parts : List Part} → SaysLines version lines records parts → SaysLines Two lines records parts
lines-two s = record {
  opening = s.opening;
  behind = s.behind;
  whole = s.whole;
  are_records = s.are_records;
  once = s.once;
  are_parts = parts-two s.are_parts;
}

pub migrated-traces-are-read : MigratedTracesAreRead
migrated-traces-are-read text sound =
    let s = (traces-are-said text (trace_of text)).0 (sound, refl) in
    let two : SaysTrace (migrated text) (trace_of text) = record {
      version = Two;
      lines = s.lines;
      are_lines = (parts-are-cut 10 (migrated text) (first_line Two ∷ s.lines)).0 (migrated-lines text s.version s.lines (parts-cut s.are_lines));
      records = s.records;
      parts = s.parts;
      says = lines-two s.says;
      opening_is = s.opening_is;
      targets_is = s.targets_is;
      lanes_is = s.lanes_is;
    } in
    (traces-are-said (migrated text) (trace_of text)).1 two

pub migrated-stay : MigratedStay
migrated-stay text e =
    let rest = behind-first (lines_of text) (some-lines text) in
    let is : text ≡ first_line Two ++ rest.0 = sym (join_with_byte-slice_split 10 text) ∙ rest.1 ∙ ap (λ f. f ++ rest.0) e in
    ap (λ f. first_line Two ++ drop (length f) text) e ∙ ap (λ t. first_line Two ++ drop 13 t) is ∙ sym is

-- the first line of a trace has as many bytes in both versions
pub first-long : (text : List ℕ) → trace_fault text ≡ None → length (line_one text) ≡ 13
first-long text sound =
    let s = (traces-are-said text (trace_of text)).0 (sound, refl) in
    ap (λ l. length (get_or l 0 [])) (parts-cut s.are_lines) ∙ first-length s.version

pub text-long : (text : List ℕ) → trace_fault text ≡ None → 13 ≤ length text
text-long text sound =
    let rest = behind-first (lines_of text) (some-lines text) in
    let is : text ≡ line_one text ++ rest.0 = sym (join_with_byte-slice_split 10 text) ∙ rest.1 in
    omega (arith, ap length is, length-append (line_one text) rest.0, first-long text sound)
