-- One line behind records and parts of lanes: it continues them, or it is wrong in one way.
use Rattle.std.proofs.Common.{◌≡◌, ℕ, ◌<◌, ◌^◌, ◌==◌, Bool, true, false, ◌&&◌, ◌||◌, nat_lt, nat_le, cond, List, [], ◌∷◌, ◌++◌, drop, take, map, refl, sym, ap, ◌∙◌, subst, arith, inl, inr, Option, Some, None, Result, Ok, Err}
use Rattle.std.proofs.lemmas.Bool.{cases_Bool, false≢true, ltb-true, leb-true, le-leb, lt-ltb}
use Rattle.std.proofs.lemmas.List.{take-append-drop}
use Rattle.std.proofs.lemmas.List.Folds.{list_any-append}
use Rattle.std.proofs.lemmas.List.Splits.{join_with_byte-slice_split}
use Rattle.std.specs.Cmp.Lexicographic.{same_text}
use Rattle.std.specs.Fmt.{decimal}
use Rattle.std.specs.List.{join_with_byte, list_any, slice_split}
use Rattle.std.specs.Prelude.{codes, fold}
use Rattle.std.specs.Result.{result_err}
use Rattle.std.specs.Str.{bytes_eq}
use Rattle.rev_cells.specs.declared.cell.Cell.{Cell}
use Rattle.rev_cells.specs.declared.cell.Cell.TheVariants as cell
use Rattle.rev_cells.specs.Keys.{cell_key}
use Rattle.rev_commands.specs.declared.command.Command.{Command}
use Rattle.rev_commands.specs.declared.command.Command.TheVariants as command
use Rattle.rev_events.specs.declared.event.Event.TheVariants as event
use Rattle.rev_fields.specs.declared.faults.FaultKind.{FaultKind}
use Rattle.rev_fields.specs.declared.faults.FaultKind.TheVariants.{Syntax, Number, Lane, DoubleRecord, Header}
use Rattle.rev_fields.specs.Faults.{◌>>=◌}
use Rattle.rev_fields.specs.Fields.{all_texts, before_texts, field_text, texts_of}
use Rattle.rev_fields.specs.Grammar.{IsLine}
use Rattle.rev_fields.specs.Lines.{is_blank, read_as}
use Rattle.rev_fields.proofs.GrammarLemmas.{before_texts-some, fields-are-read, parts-cut}
use Rattle.rev_trace.specs.declared.record.Record.{Record}
use Rattle.rev_trace.specs.declared.record.Record.TheVariants.{Jobs, Stamp, Built, Deps, Target}
use Rattle.rev_trace.specs.declared.version.Version.{Version}
use Rattle.rev_trace.specs.declared.version.Version.TheVariants.{One, Two}
use Rattle.rev_trace.specs.Commands.{command_of, short}
use Rattle.rev_trace.specs.Grammar.{Look, Exact, Shape, LineSays, SaysCommand, SaysRecord, SaysShort}
use Rattle.rev_trace.specs.Lanes.{lane_in_turn, lane_line, lane_named, opens_lane}
use Rattle.rev_trace.specs.Records as record_lines
use Rattle.rev_trace.specs.Records.{HeadValue, double, empty_head, has_record, head_of, head_with, opening_wrong, record_of, record_wrong, said_wrong, texts_wrong}
use Rattle.rev_trace.specs.Says.{Part, opened_behind, IsLaneLine, IsWrong, NoForm, NoNumber, NoTurn, Stands, StandsCommand, StandsEmpty, StandsLane, StandsRecord, Twice, doubles, gives_jobs, is_double, is_second}
use Rattle.rev_trace.specs.Versions.{held_line, held_of, may_begin, may_hold, may_name}
use Rattle.rev_trace.proofs.GrammarLemmas.{ok_is, read_said, said_read}
use Rattle.rev_trace.proofs.NumberLemmas.{short-is, short-of}
use Rattle.rev_trace.proofs.ShapeLemmas.{InRange, command-err, command-shape, command-shaped, not-shaped, record-err, record-is, record-read, record-shape, record-shaped, short-err}

-- lines by their texts

pub same-texts : (line : List ℕ) (a b : List (List ℕ)) → IsLine line a → IsLine line b → a ≡ b
same-texts line a b h g =
    let one : Some a ≡ Some b = sym ((fields-are-read line a).1 h) ∙ (fields-are-read line b).1 g in cc

no-texts : (line : List ℕ) (texts : List (List ℕ)) → texts_of line ≡ None → IsLine line texts → ⊥
no-texts line texts none h = let never : None ≡ Some texts = sym none ∙ (fields-are-read line texts).1 h in cc

pub empty-line : (texts : List (List ℕ)) → IsLine [] texts → ⊥
empty-line texts h = no-texts [] texts refl h

line-joined : (line : List ℕ) (texts : List (List ℕ)) → IsLine line texts → join_with_byte 32 (map field_text texts) ≡ line
line-joined line texts h = ap (join_with_byte 32) (sym (parts-cut h)) ∙ join_with_byte-slice_split 32 line

-- the lines that name lanes

pub lane-opens : (line text : List ℕ) → IsLine line (codes "lane" ∷ text ∷ []) → opens_lane line ≡ true
lane-opens line text h = sym (ap opens_lane (line-joined line (codes "lane" ∷ text ∷ []) h))

lane-bytes : (line : List ℕ) → opens_lane line ≡ true → codes "lane " ++ drop 5 line ≡ line
lane-bytes line h = ap (λ t. t ++ drop 5 line) (same_text (codes "lane ") (take 5 line) (sym h)) ∙ take-append-drop 5 line

lane-texts : (rest : List ℕ) → texts_of (codes "lane " ++ rest) ≡ before_texts (Some (codes "lane")) (all_texts (slice_split (λ b. b == 32) rest))
lane-texts rest = refl

pub lane-first : (line : List ℕ) (texts : List (List ℕ)) → opens_lane line ≡ true → texts_of line ≡ Some texts → (rest : List (List ℕ)) × (texts ≡ codes "lane" ∷ rest)
lane-first line texts opens h =
    let parts = before_texts-some (Some (codes "lane")) (all_texts (slice_split (λ b. b == 32) (drop 5 line))) texts
    (sym (lane-texts (drop 5 line)) ∙ ap texts_of (lane-bytes line opens) ∙ h) in
    let same : Some (codes "lane") ≡ Some parts.0 = parts.2 in
    let first : codes "lane" ≡ parts.0 = cc in
    (parts.1, parts.4 ∙ ap (λ t. t ∷ parts.1) (sym first))

-- no command and no record begins with that word
lane-no-command : (look : Look) (targets texts rest : List (List ℕ)) (c : Command) → texts ≡ codes "lane" ∷ rest → SaysCommand look targets texts c → ⊥
lane-no-command Exact targets texts rest c e h = not-shaped (command_of targets texts) (ap (command_of targets) e) (command-shaped targets texts c (command-shape targets texts c h))
lane-no-command Shape targets texts rest c e h = not-shaped (command_of targets texts) (ap (command_of targets) e) (command-shaped targets texts c h)

lane-no-record : (look : Look) (texts rest : List (List ℕ)) (r : Record) → texts ≡ codes "lane" ∷ rest → SaysRecord look texts r → ⊥
lane-no-record Exact texts rest r e h = not-shaped (record_of texts) (ap record_of e) (record-shaped texts r (record-shape texts r h))
lane-no-record Shape texts rest r e h = not-shaped (record_of texts) (ap record_of e) (record-shaped texts r h)

-- what stands behind records and parts of lanes, by its form

abbrev pub is_empty : List Part → Bool
is_empty [] = true
is_empty (part ∷ parts) = false

abbrev LaneForm : Look → List ℕ → Type 0
LaneForm look line = (text : List ℕ) × (n : ℕ) × IsLine line (codes "lane" ∷ text ∷ []) × SaysShort look text n

abbrev RecordForm : Look → Version → List Record → List Part → List ℕ → Type 0
RecordForm look version records parts line =
    (is_empty parts ≡ true) × (texts : List (List ℕ)) × (r : Record) × IsLine line texts × SaysRecord look texts r × (is_second records r ≡ false)

abbrev CommandForm : Look → Version → List Record → List Part → List ℕ → Type 0
CommandForm look version records parts line =
    (is_empty parts ≡ false) × (c : Command) × LineSays look (head_of records).targets line c × (may_hold version c ≡ true)

data Standing (look : Look) (version : Version) (records : List Record) (parts : List Part) (line : List ℕ) : Type 0 where
  Empty : line ≡ [] → Standing look version records parts line
  ALane : LaneForm look line → Standing look version records parts line
  ARecord : RecordForm look version records parts line → Standing look version records parts line
  ACommand : CommandForm look version records parts line → Standing look version records parts line

standing : {look : Look} {version : Version} {records : List Record} {parts : List Part} {line : List ℕ} → Stands look version records parts line → Standing look version records parts line
standing StandsEmpty = Empty refl
standing (StandsLane text n h s) = ALane (text, n, h, s)
standing (StandsRecord texts r h s once) = ARecord (refl, texts, r, h, s, once)
standing (StandsCommand c h held) = ACommand (refl, c, h, held)

-- a line that opens a lane is no other form
lane-alone : (look : Look) (version : Version) (records : List Record) (parts : List Part) (line : List ℕ) (texts rest : List (List ℕ)) → is_blank line ≡ false → texts_of line ≡ Some texts → texts ≡ codes "lane" ∷ rest
    → Standing look version records parts line → LaneForm look line
lane-alone look version records parts line texts rest filled t e (Empty h) = absurd (false≢true (sym filled ∙ ap is_blank h))
lane-alone look version records parts line texts rest filled t e (ALane h) = h
lane-alone look version records parts line texts rest filled t e (ARecord h) =
    absurd (lane-no-record look h.1 rest h.2 (same-texts line h.1 texts h.3 ((fields-are-read line texts).0 t) ∙ e) h.4)
lane-alone look version records parts line texts rest filled t e (ACommand h) =
    absurd (lane-no-command look (head_of records).targets h.2.0 rest h.1 (same-texts line h.2.0 texts h.2.1 ((fields-are-read line texts).0 t) ∙ e) h.2.2)

-- a line without fields is no form
fields-needed : (look : Look) (version : Version) (records : List Record) (parts : List Part) (line : List ℕ) → is_blank line ≡ false → texts_of line ≡ None → Standing look version records parts line → ⊥
fields-needed look version records parts line filled none (Empty h) = false≢true (sym filled ∙ ap is_blank h)
fields-needed look version records parts line filled none (ALane h) = no-texts line (codes "lane" ∷ h.0 ∷ []) none h.2
fields-needed look version records parts line filled none (ARecord h) = no-texts line h.1 none h.3
fields-needed look version records parts line filled none (ACommand h) = no-texts line h.2.0 none h.2.1

-- what continues records and parts of lanes

pub data Continues (version : Version) (records : List Record) (parts : List Part) (line : List ℕ) : Type 0 where
  MoreEmpty : line ≡ [] → Continues version records parts line
  MoreLane : (n : ℕ) → IsLaneLine line n → may_name version (opened_behind 0 parts) n ≡ true → n < 63 → Continues version records parts line
  MoreRecord : (texts : List (List ℕ)) (r : Record) → is_empty parts ≡ true → IsLine line texts → SaysRecord Exact texts r → is_second records r ≡ false → is_double records r ≡ false
      → Continues version records parts line
  MoreCommand : (c : Command) → is_empty parts ≡ false → LineSays Exact (head_of records).targets line c → may_hold version c ≡ true → Continues version records parts line

abbrev pub Judged : Version → List Record → List Part → List ℕ → Option FaultKind → Type 0
Judged version records parts line None = Continues version records parts line
Judged version records parts line (Some kind) = IsWrong version records parts line kind

abbrev pub judge_filled : Version → List Record → List Part → List ℕ → Option FaultKind
judge_filled version records parts line =
    cond (opens_lane line) (result_err (lane_line version (opened_behind 0 parts) line))
    (cond (is_empty parts) (opening_wrong (head_of records) line) (result_err (held_line version (head_of records).targets line)))

abbrev pub judge : Version → List Record → List Part → List ℕ → Option FaultKind
judge version records parts line = cond (is_blank line) None (judge_filled version records parts line)

-- a line that opens a lane

to-short : (look : Look) (line text other : List ℕ) → IsLine line (codes "lane" ∷ text ∷ []) → IsLine line (codes "lane" ∷ other ∷ []) → text ≡ other
to-short look line text other h g =
    let same = same-texts line (codes "lane" ∷ text ∷ []) (codes "lane" ∷ other ∷ []) h g in cc

turn-judged : (version : Version) (records : List Record) (parts : List Part) (line : List ℕ) (m : ℕ) → IsLaneLine line m → m < 2 ^ 32
    → (b : Bool) → may_name version (opened_behind 0 parts) m ≡ b → (w : Bool) → nat_lt m 63 ≡ w
    → Judged version records parts line (result_err (cond (b && w) (Ok m) (Err Lane)))
turn-judged version records parts line m h short true e true f = MoreLane m h e (ltb-true m 63 f)
turn-judged version records parts line m h short true e false f = NoTurn m h short (λ named lt. false≢true (sym f ∙ lt-ltb m 63 lt))
turn-judged version records parts line m h short false e w f = NoTurn m h short (λ named lt. false≢true (sym e ∙ named))

number-judged : (version : Version) (records : List Record) (parts : List Part) (line text : List ℕ) → is_blank line ≡ false → texts_of line ≡ Some (codes "lane" ∷ text ∷ []) → (r : Result ℕ FaultKind) → short text ≡ r
    → Judged version records parts line (result_err (r >>= λ n. lane_in_turn version (opened_behind 0 parts) n))
number-judged version records parts line text filled t (Ok m) e =
    let exact = short-is text m e in
    let here : IsLine line (codes "lane" ∷ text ∷ []) = (fields-are-read line (codes "lane" ∷ text ∷ [])).0 t in
    turn-judged version records parts line m (subst (λ (x : List ℕ). IsLine line (codes "lane" ∷ x ∷ [])) exact.0 here) exact.1 (may_name version (opened_behind 0 parts) m) refl (nat_lt m 63) refl
number-judged version records parts line text filled t (Err kind) e =
    let here : IsLine line (codes "lane" ∷ text ∷ []) = (fields-are-read line (codes "lane" ∷ text ∷ [])).0 t in
    subst (λ (k : FaultKind). IsWrong version records parts line k) (sym (short-err text kind e))
    (NoNumber (StandsLane text 0 here tt) (λ stands.
    let form = lane-alone Exact version records parts line (codes "lane" ∷ text ∷ []) (text ∷ []) filled t refl (standing stands) in
    let read : short text ≡ Ok form.1 = ap short (to-short Exact line text form.0 here form.2) ∙ short-of form.0 form.1 form.3 in
    let never : ◌≡◌ {A = Result ℕ FaultKind} (Err kind) (Ok form.1) = sym e ∙ read in cc))

no-lane-form : (version : Version) (records : List Record) (parts : List Part) (line : List ℕ) (rest : List (List ℕ)) → is_blank line ≡ false → texts_of line ≡ Some (codes "lane" ∷ rest)
    → ((text : List ℕ) → codes "lane" ∷ rest ≡ codes "lane" ∷ text ∷ [] → ⊥) → IsWrong version records parts line Syntax
no-lane-form version records parts line rest filled t other =
    NoForm (λ stands.
    let form = lane-alone Shape version records parts line (codes "lane" ∷ rest) rest filled t refl (standing stands) in
    other form.0 (same-texts line (codes "lane" ∷ rest) (codes "lane" ∷ form.0 ∷ []) ((fields-are-read line (codes "lane" ∷ rest)).0 t) form.2))

rest-judged : (version : Version) (records : List Record) (parts : List Part) (line : List ℕ) (rest : List (List ℕ)) → is_blank line ≡ false → texts_of line ≡ Some (codes "lane" ∷ rest)
    → Judged version records parts line (result_err (lane_named (codes "lane" ∷ rest) >>= λ n. lane_in_turn version (opened_behind 0 parts) n))
rest-judged version records parts line [] filled t = no-lane-form version records parts line [] filled t (λ text e. let never = e in cc)
rest-judged version records parts line (text ∷ []) filled t = number-judged version records parts line text filled t (short text) refl
rest-judged version records parts line (text ∷ more ∷ rest) filled t = no-lane-form version records parts line (text ∷ more ∷ rest) filled t (λ other e. let never = e in cc)

lane-judged : (version : Version) (records : List Record) (parts : List Part) (line : List ℕ) → is_blank line ≡ false → opens_lane line ≡ true → (o : Option (List (List ℕ))) → texts_of line ≡ o
    → Judged version records parts line (result_err (read_as lane_named o >>= λ n. lane_in_turn version (opened_behind 0 parts) n))
lane-judged version records parts line filled opens None t = NoForm (λ stands. fields-needed Shape version records parts line filled t (standing stands))
lane-judged version records parts line filled opens (Some texts) t =
    let first = lane-first line texts opens t in
    subst (λ (x : List (List ℕ)). Judged version records parts line (result_err (lane_named x >>= λ n. lane_in_turn version (opened_behind 0 parts) n))) (sym first.1)
    (rest-judged version records parts line first.0 filled (t ∙ ap Some first.1))

-- a command

command-alone : (look : Look) (version : Version) (records : List Record) (parts : List Part) (line : List ℕ) (texts : List (List ℕ)) → is_blank line ≡ false → opens_lane line ≡ false → is_empty parts ≡ false
    → texts_of line ≡ Some texts → Standing look version records parts line
    → (c : Command) × SaysCommand look (head_of records).targets texts c × (may_hold version c ≡ true)
command-alone look version records parts line texts filled closed some t (Empty h) = absurd (false≢true (sym filled ∙ ap is_blank h))
command-alone look version records parts line texts filled closed some t (ALane h) = absurd (false≢true (sym closed ∙ lane-opens line h.0 h.2))
command-alone look version records parts line texts filled closed some t (ARecord h) = absurd (false≢true (sym some ∙ h.0))
command-alone look version records parts line texts filled closed some t (ACommand h) =
    let same = same-texts line h.2.0 texts h.2.1 ((fields-are-read line texts).0 t) in
    (h.1, subst (λ (x : List (List ℕ)). SaysCommand look (head_of records).targets x h.1) same h.2.2, h.3)

-- the word of a line tells whether the lane may hold its command
pub begins-holds : (version : Version) (look : Look) (targets texts : List (List ℕ)) (c : Command) → SaysCommand look targets texts c → may_begin version texts ≡ may_hold version c
begins-holds Two look targets texts c h = refl
begins-holds One look targets texts (command.Event (event.Plan paths)) h = ap (may_begin One) h.1
begins-holds One look targets texts (command.Event (event.Start out job None)) h = ap (may_begin One) h.2
begins-holds One look targets texts (command.Event (event.Start out job (Some slot))) h = ap (may_begin One) h.3
begins-holds One look targets texts (command.Event (event.Finish out stamps l)) h = ap (may_begin One) h.3
begins-holds One look targets texts (command.Event (event.Fail out stamps)) h = ap (may_begin One) h.2
begins-holds One look targets texts (command.Event (event.Abort out stamps)) h = ap (may_begin One) h.2
begins-holds One look targets texts (command.Event (event.Clean out)) h = ap (may_begin One) h.1
begins-holds One look targets texts (command.Event (event.Pass out)) h = ap (may_begin One) h.1
begins-holds One look targets texts (command.Event (event.Touch path stamp)) h = ap (may_begin One) h.2
begins-holds One look targets texts (command.Event event.Interrupt) h = ap (may_begin One) h
begins-holds One look targets texts (command.Event (event.Resize pool depth)) h = ap (may_begin One) h.2
begins-holds One look targets texts (command.Undo w) h = ap (may_begin One) h.1
begins-holds One look targets texts (command.Redo w) h = ap (may_begin One) h.1
begins-holds One look targets texts (command.Cone w) h = ap (may_begin One) h.1
begins-holds One look targets texts command.Back h = ap (may_begin One) h
begins-holds One look targets texts (command.Break p) h = ap (may_begin One) h.1
begins-holds One look targets texts (command.Unbreak n) h = ap (may_begin One) h.1
begins-holds One look targets texts command.Continue h = ap (may_begin One) h

command-texts : (version : Version) (records : List Record) (part : Part) (parts : List Part) (line : List ℕ) (texts : List (List ℕ)) → is_blank line ≡ false → opens_lane line ≡ false → texts_of line ≡ Some texts → may_begin version texts ≡ true
    → (r : Result Command FaultKind) → command_of (head_of records).targets texts ≡ r → Judged version records (part ∷ parts) line (result_err r)
command-texts version records part parts line texts filled closed t begins (Ok c) e =
    let says = read_said (head_of records).targets texts c e in
    MoreCommand c refl (texts, (fields-are-read line texts).0 t, says) (sym (begins-holds version Exact (head_of records).targets texts c says) ∙ begins)
command-texts version records part parts line texts filled closed t begins (Err kind) e =
    elim (command-err (head_of records).targets texts kind e) [
      | inl syntax ↦
          subst (λ (k : FaultKind). IsWrong version records (part ∷ parts) line k) (sym syntax)
          (NoForm (λ stands.
          let form = command-alone Shape version records (part ∷ parts) line texts filled closed refl t (standing stands) in
          not-shaped (command_of (head_of records).targets texts) (e ∙ ap Err syntax) (command-shaped (head_of records).targets texts form.0 form.1)))
      | inr number ↦
          subst (λ (k : FaultKind). IsWrong version records (part ∷ parts) line k) (sym number.0)
          (NoNumber (StandsCommand number.1.0 (texts, (fields-are-read line texts).0 t, number.1.1) (sym (begins-holds version Shape (head_of records).targets texts number.1.0 number.1.1) ∙ begins)) (λ stands.
          let form = command-alone Exact version records (part ∷ parts) line texts filled closed refl t (standing stands) in
          let never : ◌≡◌ {A = Result Command FaultKind} (Err kind) (Ok form.0) = sym e ∙ said_read (head_of records).targets texts form.0 form.1 in cc))
    ]

held-judged : (version : Version) (records : List Record) (part : Part) (parts : List Part) (line : List ℕ) (texts : List (List ℕ)) → is_blank line ≡ false → opens_lane line ≡ false → texts_of line ≡ Some texts
    → (b : Bool) → may_begin version texts ≡ b → Judged version records (part ∷ parts) line (result_err (cond b (command_of (head_of records).targets texts) (Err Syntax)))
held-judged version records part parts line texts filled closed t true begins =
    command-texts version records part parts line texts filled closed t begins (command_of (head_of records).targets texts) refl
held-judged version records part parts line texts filled closed t false begins =
    NoForm (λ stands.
    let form = command-alone Shape version records (part ∷ parts) line texts filled closed refl t (standing stands) in
    false≢true (sym begins ∙ begins-holds version Shape (head_of records).targets texts form.0 form.1 ∙ form.2))

command-judged : (version : Version) (records : List Record) (part : Part) (parts : List Part) (line : List ℕ) → is_blank line ≡ false → opens_lane line ≡ false → (o : Option (List (List ℕ))) → texts_of line ≡ o
    → Judged version records (part ∷ parts) line (result_err (read_as (held_of version (head_of records).targets) o))
command-judged version records part parts line filled closed None t = NoForm (λ stands. fields-needed Shape version records (part ∷ parts) line filled t (standing stands))
command-judged version records part parts line filled closed (Some texts) t = held-judged version records part parts line texts filled closed t (may_begin version texts) refl

-- what records make, by what they are

jobs-from : (records : List Record) (h : HeadValue) → (fold head_with h records).has_jobs ≡ (h.has_jobs || list_any gives_jobs records)
jobs-from [] h = false-last h.has_jobs
  where
    false-last : (b : Bool) → b ≡ (b || false)
    false-last true = refl
    false-last false = refl
jobs-from (Jobs n ∷ records) h = jobs-from records (head_with h (Jobs n)) ∙ or-true h.has_jobs (list_any gives_jobs records)
  where
    or-true : (b c : Bool) → true ≡ (b || true)
    or-true true c = refl
    or-true false c = refl
jobs-from (Stamp p n ∷ records) h = jobs-from records (head_with h (Stamp p n))
jobs-from (Built p n c ∷ records) h = jobs-from records (head_with h (Built p n c))
jobs-from (Deps p n ps ∷ records) h = jobs-from records (head_with h (Deps p n ps))
jobs-from (Target p ∷ records) h = jobs-from records (head_with h (Target p))

-- whether a record is of this cell
abbrev is_of : Cell → Record → Bool
is_of c (Jobs n) = false
is_of c (Stamp p n) = bytes_eq (cell_key c) (cell_key (cell.Stamp p))
is_of c (Built p n command) = bytes_eq (cell_key c) (cell_key (cell.Built p))
is_of c (Deps p n ps) = bytes_eq (cell_key c) (cell_key (cell.Deps p))
is_of c (Target p) = false

or-assoc : (a b c : Bool) → ((a || (b || false)) || c) ≡ (a || (b || c))
or-assoc true b c = refl
or-assoc false true c = refl
or-assoc false false c = refl

places-more : (c : Cell) (places : List Cell) (d : Cell) (more : Bool)
    → (list_any (λ x. bytes_eq (cell_key c) (cell_key x)) (places ++ d ∷ []) || more) ≡ (list_any (λ x. bytes_eq (cell_key c) (cell_key x)) places || (bytes_eq (cell_key c) (cell_key d) || more))
places-more c places d more =
    ap (λ b. b || more) (list_any-append (λ x. bytes_eq (cell_key c) (cell_key x)) places (d ∷ []))
    ∙ or-assoc (list_any (λ x. bytes_eq (cell_key c) (cell_key x)) places) (bytes_eq (cell_key c) (cell_key d)) more

places-from : (c : Cell) (records : List Record) (h : HeadValue) → has_record (fold head_with h records).opening c ≡ (has_record h.opening c || list_any (is_of c) records)
places-from c [] h = false-last (has_record h.opening c)
  where
    false-last : (b : Bool) → b ≡ (b || false)
    false-last true = refl
    false-last false = refl
places-from c (Jobs n ∷ records) h = places-from c records (head_with h (Jobs n))
places-from c (Stamp p n ∷ records) h = places-from c records (head_with h (Stamp p n)) ∙ places-more c h.opening.places (cell.Stamp p) (list_any (is_of c) records)
places-from c (Built p n d ∷ records) h = places-from c records (head_with h (Built p n d)) ∙ places-more c h.opening.places (cell.Built p) (list_any (is_of c) records)
places-from c (Deps p n ps ∷ records) h = places-from c records (head_with h (Deps p n ps)) ∙ places-more c h.opening.places (cell.Deps p) (list_any (is_of c) records)
places-from c (Target p ∷ records) h = places-from c records (head_with h (Target p))

same-any : {X : Type 0} (p q : X → Bool) → ((x : X) → p x ≡ q x) → (xs : List X) → list_any p xs ≡ list_any q xs
same-any p q same [] = refl
same-any p q same (x ∷ xs) = ap (λ b. b || list_any p xs) (same x) ∙ ap (λ b. q x || b) (same-any p q same xs)

stamp-of-cell : (path : List ℕ) (n : ℕ) (r : Record) → is_of (cell.Stamp path) r ≡ doubles (Stamp path n) r
stamp-of-cell path n (Jobs m) = refl
stamp-of-cell path n (Stamp p m) = refl
stamp-of-cell path n (Built p m c) = refl
stamp-of-cell path n (Deps p m ps) = refl
stamp-of-cell path n (Target p) = refl

built-of-cell : (path : List ℕ) (n : ℕ) (command : List ℕ) (r : Record) → is_of (cell.Built path) r ≡ doubles (Built path n command) r
built-of-cell path n command (Jobs m) = refl
built-of-cell path n command (Stamp p m) = refl
built-of-cell path n command (Built p m c) = refl
built-of-cell path n command (Deps p m ps) = refl
built-of-cell path n command (Target p) = refl

deps-of-cell : (path : List ℕ) (n : ℕ) (paths : List (List ℕ)) (r : Record) → is_of (cell.Deps path) r ≡ doubles (Deps path n paths) r
deps-of-cell path n paths (Jobs m) = refl
deps-of-cell path n paths (Stamp p m) = refl
deps-of-cell path n paths (Built p m c) = refl
deps-of-cell path n paths (Deps p m ps) = refl
deps-of-cell path n paths (Target p) = refl

none-passes : {X : Type 0} (p : X → Bool) → ((x : X) → p x ≡ false) → (xs : List X) → list_any p xs ≡ false
none-passes p none [] = refl
none-passes p none (x ∷ xs) = ap (λ b. b || list_any p xs) (none x) ∙ none-passes p none xs

-- a record

says-jobs : (look : Look) (texts : List (List ℕ)) (r : Record) → SaysRecord look texts r → record_lines.gives_jobs texts ≡ gives_jobs r
says-jobs look texts (Jobs n) h = ap record_lines.gives_jobs h.1
says-jobs look texts (Stamp path n) h = ap record_lines.gives_jobs h.2
says-jobs look texts (Built path n command) h = ap record_lines.gives_jobs h.2
says-jobs look texts (Deps path n paths) h = ap record_lines.gives_jobs h.3
says-jobs look texts (Target path) h = ap record_lines.gives_jobs h.1

and-swap : (a b : Bool) → (a && b) ≡ (b && a)
and-swap true true = refl
and-swap true false = refl
and-swap false true = refl
and-swap false false = refl

second-is : (look : Look) (records : List Record) (texts : List (List ℕ)) (r : Record) → SaysRecord look texts r → ((head_of records).has_jobs && record_lines.gives_jobs texts) ≡ is_second records r
second-is look records texts r h =
    ap (λ b. b && record_lines.gives_jobs texts) (jobs-from records empty_head) ∙ ap (λ b. list_any gives_jobs records && b) (says-jobs look texts r h)
    ∙ and-swap (list_any gives_jobs records) (gives_jobs r)

record-alone : (look : Look) (version : Version) (records : List Record) (line : List ℕ) (texts : List (List ℕ)) → is_blank line ≡ false → opens_lane line ≡ false
    → texts_of line ≡ Some texts → Standing look version records [] line → (r : Record) × SaysRecord look texts r × (is_second records r ≡ false)
record-alone look version records line texts filled closed t (Empty h) = absurd (false≢true (sym filled ∙ ap is_blank h))
record-alone look version records line texts filled closed t (ALane h) = absurd (false≢true (sym closed ∙ lane-opens line h.0 h.2))
record-alone look version records line texts filled closed t (ARecord h) =
    let same = same-texts line h.1 texts h.3 ((fields-are-read line texts).0 t) in
    (h.2, subst (λ (x : List (List ℕ)). SaysRecord look x h.2) same h.4, h.5)
record-alone look version records line texts filled closed t (ACommand h) = absurd (false≢true (sym h.0))

double-judged : (version : Version) (records : List Record) (line : List ℕ) (texts : List (List ℕ)) (r : Record) → IsLine line texts → SaysRecord Exact texts r → is_second records r ≡ false → (b : Bool) → is_double records r ≡ b → Judged version records [] line (double b)
double-judged version records line texts r h says once true e = Twice texts r h says e
double-judged version records line texts r h says once false e = MoreRecord texts r refl h says once e

jobs-judged : (version : Version) (records : List Record) (line : List ℕ) (texts : List (List ℕ)) (n : ℕ) → is_blank line ≡ false → opens_lane line ≡ false → texts_of line ≡ Some texts → record_of texts ≡ Ok (Jobs n) → is_second records (Jobs n) ≡ false
    → (b : Bool) → nat_lt 0 n ≡ b → (w : Bool) → nat_le n 1024 ≡ w → Judged version records [] line (cond (b && w) None (Some Number))
jobs-judged version records line texts n filled closed t e once true f true g =
    MoreRecord texts (Jobs n) refl ((fields-are-read line texts).0 t) ((record-is texts (Jobs n) e).1 (ltb-true 0 n f, leb-true n 1024 g)) once (none-passes (doubles (Jobs n)) (λ x. refl) records)
jobs-judged version records line texts n filled closed t e once true f false g = no-number
  where
    no-number : IsWrong version records [] line Number
    no-number = NoNumber (StandsRecord texts (Jobs n) ((fields-are-read line texts).0 t) (record-is texts (Jobs n) e).0 once) (λ stands.
        let form = record-alone Exact version records line texts filled closed t (standing stands) in
        let read = record-read texts form.0 form.1 in
        let same : Jobs n ≡ form.0 = ok_is (Jobs n) form.0 (sym e ∙ read.0) in
        let range : InRange (Jobs n) = subst (λ (x : Record). InRange x) (sym same) read.1 in
        false≢true (sym g ∙ le-leb n 1024 range.1))
jobs-judged version records line texts n filled closed t e once false f w g = no-number
  where
    no-number : IsWrong version records [] line Number
    no-number = NoNumber (StandsRecord texts (Jobs n) ((fields-are-read line texts).0 t) (record-is texts (Jobs n) e).0 once) (λ stands.
        let form = record-alone Exact version records line texts filled closed t (standing stands) in
        let read = record-read texts form.0 form.1 in
        let same : Jobs n ≡ form.0 = ok_is (Jobs n) form.0 (sym e ∙ read.0) in
        let range : InRange (Jobs n) = subst (λ (x : Record). InRange x) (sym same) read.1 in
        false≢true (sym f ∙ lt-ltb 0 n range.0))

said-judged : (version : Version) (records : List Record) (line : List ℕ) (texts : List (List ℕ)) (r : Record) → is_blank line ≡ false → opens_lane line ≡ false → texts_of line ≡ Some texts → record_of texts ≡ Ok r → is_second records r ≡ false
    → Judged version records [] line (record_wrong (head_of records) r)
said-judged version records line texts (Jobs n) filled closed t e once = jobs-judged version records line texts n filled closed t e once (nat_lt 0 n) refl (nat_le n 1024) refl
said-judged version records line texts (Stamp p n) filled closed t e once =
    subst (λ (b : Bool). Judged version records [] line (double b)) (sym (places-from (cell.Stamp p) records empty_head ∙ same-any (is_of (cell.Stamp p)) (doubles (Stamp p n)) (stamp-of-cell p n) records))
    (double-judged version records line texts (Stamp p n) ((fields-are-read line texts).0 t) ((record-is texts (Stamp p n) e).1 tt) once (is_double records (Stamp p n)) refl)
said-judged version records line texts (Built p n c) filled closed t e once =
    subst (λ (b : Bool). Judged version records [] line (double b)) (sym (places-from (cell.Built p) records empty_head ∙ same-any (is_of (cell.Built p)) (doubles (Built p n c)) (built-of-cell p n c) records))
    (double-judged version records line texts (Built p n c) ((fields-are-read line texts).0 t) ((record-is texts (Built p n c) e).1 tt) once (is_double records (Built p n c)) refl)
said-judged version records line texts (Deps p n ps) filled closed t e once =
    subst (λ (b : Bool). Judged version records [] line (double b)) (sym (places-from (cell.Deps p) records empty_head ∙ same-any (is_of (cell.Deps p)) (doubles (Deps p n ps)) (deps-of-cell p n ps) records))
    (double-judged version records line texts (Deps p n ps) ((fields-are-read line texts).0 t) ((record-is texts (Deps p n ps) e).1 tt) once (is_double records (Deps p n ps)) refl)
said-judged version records line texts (Target p) filled closed t e once =
    MoreRecord texts (Target p) refl ((fields-are-read line texts).0 t) ((record-is texts (Target p) e).1 tt) once (none-passes (doubles (Target p)) (λ x. refl) records)

record-texts : (version : Version) (records : List Record) (line : List ℕ) (texts : List (List ℕ)) → is_blank line ≡ false → opens_lane line ≡ false → texts_of line ≡ Some texts
    → ((head_of records).has_jobs && record_lines.gives_jobs texts) ≡ false → (o : Result Record FaultKind) → record_of texts ≡ o → Judged version records [] line (said_wrong (head_of records) o)
record-texts version records line texts filled closed t once (Ok r) e =
    said-judged version records line texts r filled closed t e (sym (second-is Shape records texts r (record-is texts r e).0) ∙ once)
record-texts version records line texts filled closed t once (Err kind) e =
    elim (record-err texts kind e) [
      | inl syntax ↦
          subst (λ (k : FaultKind). IsWrong version records [] line k) (sym syntax)
          (NoForm (λ stands.
          let form = record-alone Shape version records line texts filled closed t (standing stands) in
          not-shaped (record_of texts) (e ∙ ap Err syntax) (record-shaped texts form.0 form.1)))
      | inr number ↦
          subst (λ (k : FaultKind). IsWrong version records [] line k) (sym number.0)
          (NoNumber (StandsRecord texts number.1.0 ((fields-are-read line texts).0 t) number.1.1 (sym (second-is Shape records texts number.1.0 number.1.1) ∙ once)) (λ stands.
          let form = record-alone Exact version records line texts filled closed t (standing stands) in
          let never : ◌≡◌ {A = Result Record FaultKind} (Err kind) (Ok form.0) = sym e ∙ (record-read texts form.0 form.1).0 in cc))
    ]

once-judged : (version : Version) (records : List Record) (line : List ℕ) (texts : List (List ℕ)) → is_blank line ≡ false → opens_lane line ≡ false → texts_of line ≡ Some texts
    → (b : Bool) → ((head_of records).has_jobs && record_lines.gives_jobs texts) ≡ b → Judged version records [] line (cond b (Some Syntax) (said_wrong (head_of records) (record_of texts)))
once-judged version records line texts filled closed t true b =
    NoForm (λ stands.
    let form = record-alone Shape version records line texts filled closed t (standing stands) in
    false≢true (sym form.2 ∙ sym (second-is Shape records texts form.0 form.1) ∙ b))
once-judged version records line texts filled closed t false b = record-texts version records line texts filled closed t b (record_of texts) refl

record-judged : (version : Version) (records : List Record) (line : List ℕ) → is_blank line ≡ false → opens_lane line ≡ false → (o : Option (List (List ℕ))) → texts_of line ≡ o
    → Judged version records [] line (texts_wrong (head_of records) o)
record-judged version records line filled closed None t = NoForm (λ stands. fields-needed Shape version records [] line filled t (standing stands))
record-judged version records line filled closed (Some texts) t = once-judged version records line texts filled closed t ((head_of records).has_jobs && record_lines.gives_jobs texts) refl

-- each line

filled-judged : (version : Version) (records : List Record) (parts : List Part) (line : List ℕ) → is_blank line ≡ false → (b : Bool) → opens_lane line ≡ b
    → Judged version records parts line (cond b (result_err (lane_line version (opened_behind 0 parts) line)) (cond (is_empty parts) (opening_wrong (head_of records) line) (result_err (held_line version (head_of records).targets line))))
filled-judged version records parts line filled true opens = lane-judged version records parts line filled opens (texts_of line) refl
filled-judged version records [] line filled false closed = record-judged version records line filled closed (texts_of line) refl
filled-judged version records (part ∷ parts) line filled false closed = command-judged version records part parts line filled closed (texts_of line) refl

pub judged : (version : Version) (records : List Record) (parts : List Part) (line : List ℕ) → Judged version records parts line (judge version records parts line)
judged version records parts [] = MoreEmpty refl
judged version records parts (b ∷ bs) = filled-judged version records parts (b ∷ bs) refl (opens_lane (b ∷ bs)) refl

-- a line continues them or is wrong in one way, and never both

shape-stands : (version : Version) (records : List Record) (parts : List Part) (line : List ℕ) → Stands Exact version records parts line → Stands Shape version records parts line
shape-stands version records parts line StandsEmpty = StandsEmpty
shape-stands version records parts line (StandsLane text n h s) = StandsLane text n h tt
shape-stands version records parts line (StandsRecord texts r h s once) = StandsRecord texts r h (record-shape texts r s) once
shape-stands version records parts line (StandsCommand c h held) = StandsCommand c (h.0, h.1, command-shape (head_of records).targets h.0 c h.2) held

stands-empty : (look : Look) (version : Version) (records : List Record) (parts : List Part) (line : List ℕ) → line ≡ [] → Stands look version records parts line
stands-empty look version records parts line e = subst (λ (l : List ℕ). Stands look version records parts l) (sym e) StandsEmpty

stands-record : (version : Version) (records : List Record) (parts : List Part) (line : List ℕ) (texts : List (List ℕ)) (r : Record) → is_empty parts ≡ true → IsLine line texts → SaysRecord Exact texts r → is_second records r ≡ false → Stands Exact version records parts line
stands-record version records [] line texts r none h s once = StandsRecord texts r h s once
stands-record version records (part ∷ parts) line texts r none h s once = absurd (false≢true none)

stands-command : (version : Version) (records : List Record) (parts : List Part) (line : List ℕ) (c : Command) → is_empty parts ≡ false → LineSays Exact (head_of records).targets line c → may_hold version c ≡ true → Stands Exact version records parts line
stands-command version records [] line c some h held = absurd (false≢true (sym some))
stands-command version records (part ∷ parts) line c some h held = StandsCommand c h held

continues-stands : (version : Version) (records : List Record) (parts : List Part) (line : List ℕ) → Continues version records parts line → Stands Exact version records parts line
continues-stands version records parts line (MoreEmpty e) = stands-empty Exact version records parts line e
continues-stands version records parts line (MoreLane n h named lt) = StandsLane (decimal n) n h (refl, omega arith)
continues-stands version records parts line (MoreRecord texts r none h s once single) = stands-record version records parts line texts r none h s once
continues-stands version records parts line (MoreCommand c some h held) = stands-command version records parts line c some h held

-- what a kind of fault means
abbrev Meant : Version → List Record → List Part → List ℕ → FaultKind → Type 0
Meant version records parts line Syntax = Stands Shape version records parts line → ⊥
Meant version records parts line Number = Stands Shape version records parts line × (Stands Exact version records parts line → ⊥)
Meant version records parts line Lane = (n : ℕ) × IsLaneLine line n × (n < 2 ^ 32) × (may_name version (opened_behind 0 parts) n ≡ true → n < 63 → ⊥)
Meant version records parts line DoubleRecord = (is_empty parts ≡ true) × (texts : List (List ℕ)) × (r : Record) × IsLine line texts × SaysRecord Exact texts r × (is_double records r ≡ true)
Meant version records parts line Header = ⊥

meant : {version : Version} {records : List Record} {parts : List Part} {line : List ℕ} {kind : FaultKind} → IsWrong version records parts line kind → Meant version records parts line kind
meant (NoForm h) = h
meant (NoNumber h g) = (h, g)
meant (NoTurn n h short g) = (n, h, short, g)
meant (Twice texts r h s e) = (refl, texts, r, h, s, e)

-- a record that is one more time there does not give the jobs
jobs-single : (records : List Record) (r : Record) → is_double records r ≡ true → is_second records r ≡ false
jobs-single records (Jobs n) e = absurd (false≢true (sym (none-passes (doubles (Jobs n)) (λ x. refl) records) ∙ e))
jobs-single records (Stamp p n) e = refl
jobs-single records (Built p n c) e = refl
jobs-single records (Deps p n ps) e = refl
jobs-single records (Target p) e = refl

lane-stands : (version : Version) (records : List Record) (parts : List Part) (line : List ℕ) → Meant version records parts line Lane → Stands Exact version records parts line
lane-stands version records parts line m = StandsLane (decimal m.0) m.0 m.1 (refl, m.2)

double-stands : (version : Version) (records : List Record) (parts : List Part) (line : List ℕ) → Meant version records parts line DoubleRecord → Stands Exact version records parts line
double-stands version records parts line m = stands-record version records parts line m.1 m.2 m.0 m.3 m.4 (jobs-single records m.2 m.5)

-- the number of the lane that a line opens
lane-number : (line : List ℕ) (m n : ℕ) → m < 2 ^ 32 → n < 2 ^ 32 → IsLaneLine line m → IsLaneLine line n → m ≡ n
lane-number line m n short-m short-n h g =
    let same : decimal m ≡ decimal n = to-short Exact line (decimal m) (decimal n) h g in
    let one : ◌≡◌ {A = Result ℕ FaultKind} (Ok m) (Ok n) = sym (short-of (decimal m) m (refl, short-m)) ∙ ap short same ∙ short-of (decimal n) n (refl, short-n) in cc

lane-is-no-record : (look : Look) (line : List ℕ) (n : ℕ) (texts : List (List ℕ)) (r : Record) → IsLaneLine line n → IsLine line texts → SaysRecord look texts r → ⊥
lane-is-no-record look line n texts r h g s = lane-no-record look texts (decimal n ∷ []) r (same-texts line texts (codes "lane" ∷ decimal n ∷ []) g h) s

lane-is-no-command : (look : Look) (targets : List (List ℕ)) (line : List ℕ) (n : ℕ) (c : Command) → IsLaneLine line n → LineSays look targets line c → ⊥
lane-is-no-command look targets line n c h g = lane-no-command look targets g.0 (decimal n ∷ []) c (same-texts line g.0 (codes "lane" ∷ decimal n ∷ []) g.1 h) g.2

lane-not-empty : (line : List ℕ) (n : ℕ) → IsLaneLine line n → line ≡ [] → ⊥
lane-not-empty line n h e = empty-line (codes "lane" ∷ decimal n ∷ []) (subst (λ (l : List ℕ). IsLine l (codes "lane" ∷ decimal n ∷ [])) e h)

continues-turn : (version : Version) (records : List Record) (parts : List Part) (line : List ℕ) → Continues version records parts line → Meant version records parts line Lane → ⊥
continues-turn version records parts line (MoreEmpty e) m = lane-not-empty line m.0 m.1 e
continues-turn version records parts line (MoreLane n h named lt) m =
    let same : n ≡ m.0 = lane-number line n m.0 (omega arith) m.2 h m.1 in
    m.3 (subst (λ (k : ℕ). may_name version (opened_behind 0 parts) k ≡ true) same named) (subst (λ (k : ℕ). k < 63) same lt)
continues-turn version records parts line (MoreRecord texts r none h s once single) m = lane-is-no-record Exact line m.0 texts r m.1 h s
continues-turn version records parts line (MoreCommand c some h held) m = lane-is-no-command Exact (head_of records).targets line m.0 c m.1 h

same-record : (line : List ℕ) (a b : List (List ℕ)) (r s : Record) → IsLine line a → IsLine line b → SaysRecord Exact a r → SaysRecord Exact b s → r ≡ s
same-record line a b r s h g x y = ok_is r s (sym (record-read a r x).0 ∙ ap record_of (same-texts line a b h g) ∙ (record-read b s y).0)

continues-twice : (version : Version) (records : List Record) (parts : List Part) (line : List ℕ) → Continues version records parts line → Meant version records parts line DoubleRecord → ⊥
continues-twice version records parts line (MoreEmpty e) m = empty-line m.1 (subst (λ (l : List ℕ). IsLine l m.1) e m.3)
continues-twice version records parts line (MoreLane n h named lt) m = lane-is-no-record Exact line n m.1 m.2 h m.3 m.4
continues-twice version records parts line (MoreRecord texts r none h s once single) m =
    false≢true (sym single ∙ ap (is_double records) (same-record line texts m.1 r m.2 h m.3 s m.4) ∙ m.5)
continues-twice version records parts line (MoreCommand c some h held) m = false≢true (sym some ∙ m.0)

pub continues-right : (version : Version) (records : List Record) (parts : List Part) (line : List ℕ) (kind : FaultKind) → Continues version records parts line → Meant version records parts line kind → ⊥
continues-right version records parts line Syntax c m = m (shape-stands version records parts line (continues-stands version records parts line c))
continues-right version records parts line Number c m = m.1 (continues-stands version records parts line c)
continues-right version records parts line Lane c m = continues-turn version records parts line c m
continues-right version records parts line DoubleRecord c m = continues-twice version records parts line c m
continues-right version records parts line Header c m = m

pub one-kind : (version : Version) (records : List Record) (parts : List Part) (line : List ℕ) (k l : FaultKind) → Meant version records parts line k → Meant version records parts line l → k ≡ l
one-kind version records parts line Syntax Syntax m n = refl
one-kind version records parts line Syntax Number m n = absurd (m n.0)
one-kind version records parts line Syntax Lane m n = absurd (m (shape-stands version records parts line (lane-stands version records parts line n)))
one-kind version records parts line Syntax DoubleRecord m n = absurd (m (shape-stands version records parts line (double-stands version records parts line n)))
one-kind version records parts line Syntax Header m n = absurd n
one-kind version records parts line Number Syntax m n = absurd (n m.0)
one-kind version records parts line Number Number m n = refl
one-kind version records parts line Number Lane m n = absurd (m.1 (lane-stands version records parts line n))
one-kind version records parts line Number DoubleRecord m n = absurd (m.1 (double-stands version records parts line n))
one-kind version records parts line Number Header m n = absurd n
one-kind version records parts line Lane Syntax m n = absurd (n (shape-stands version records parts line (lane-stands version records parts line m)))
one-kind version records parts line Lane Number m n = absurd (n.1 (lane-stands version records parts line m))
one-kind version records parts line Lane Lane m n = refl
one-kind version records parts line Lane DoubleRecord m n = absurd (lane-is-no-record Exact line m.0 n.1 n.2 m.1 n.3 n.4)
one-kind version records parts line Lane Header m n = absurd n
one-kind version records parts line DoubleRecord Syntax m n = absurd (n (shape-stands version records parts line (double-stands version records parts line m)))
one-kind version records parts line DoubleRecord Number m n = absurd (n.1 (double-stands version records parts line m))
one-kind version records parts line DoubleRecord Lane m n = absurd (lane-is-no-record Exact line n.0 m.1 m.2 n.1 m.3 m.4)
one-kind version records parts line DoubleRecord DoubleRecord m n = refl
one-kind version records parts line DoubleRecord Header m n = absurd n
one-kind version records parts line Header l m n = absurd m

continues-by : (version : Version) (records : List Record) (parts : List Part) (line : List ℕ) (o : Option FaultKind) → Judged version records parts line o → Continues version records parts line → o ≡ None
continues-by version records parts line None j c = refl
continues-by version records parts line (Some kind) j c = absurd (continues-right version records parts line kind c (meant j))

pub continues-judge : (version : Version) (records : List Record) (parts : List Part) (line : List ℕ) → Continues version records parts line → judge version records parts line ≡ None
continues-judge version records parts line c = continues-by version records parts line (judge version records parts line) (judged version records parts line) c

wrong-by : (version : Version) (records : List Record) (parts : List Part) (line : List ℕ) (kind : FaultKind) (o : Option FaultKind) → Judged version records parts line o → IsWrong version records parts line kind → o ≡ Some kind
wrong-by version records parts line kind None j w = absurd (continues-right version records parts line kind j (meant w))
wrong-by version records parts line kind (Some k) j w = ap Some (one-kind version records parts line k kind (meant j) (meant w))

pub wrong-judge : (version : Version) (records : List Record) (parts : List Part) (line : List ℕ) (kind : FaultKind) → IsWrong version records parts line kind → judge version records parts line ≡ Some kind
wrong-judge version records parts line kind w = wrong-by version records parts line kind (judge version records parts line) (judged version records parts line) w

-- what opens no lane
pub record-closed : (line : List ℕ) (texts : List (List ℕ)) (r : Record) → IsLine line texts → SaysRecord Exact texts r → opens_lane line ≡ false
record-closed line texts r h s =
    elim (cases_Bool (opens_lane line)) [
      | inl opens ↦ let first = lane-first line texts opens ((fields-are-read line texts).1 h) in absurd (lane-no-record Exact texts first.0 r first.1 s)
      | inr closed ↦ closed
    ]

pub command-closed : (targets : List (List ℕ)) (line : List ℕ) (c : Command) → LineSays Exact targets line c → opens_lane line ≡ false
command-closed targets line c h =
    elim (cases_Bool (opens_lane line)) [
      | inl opens ↦ let first = lane-first line h.0 opens ((fields-are-read line h.0).1 h.1) in absurd (lane-no-command Exact targets h.0 first.0 c first.1 h.2)
      | inr closed ↦ closed
    ]
