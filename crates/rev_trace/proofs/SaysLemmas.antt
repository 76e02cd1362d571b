-- Texts are read as what the grammar says, and have the fault that it says.
use Rattle.std.proofs.Common.{◌≡◌, ℕ, zero, suc, ◌<◌, ◌≤◌, ◌+◌, ◌==◌, Bool, true, false, not, ◌||◌, cond, List, [], ◌∷◌, ◌++◌, length, get_or, take, drop, map, refl, sym, ap, ◌∙◌, subst, arith, inl, inr, ◌⊎◌, Option, Some, None, Ok, Err, append_assoc, append-nil, length-append, drop-cons}
use Rattle.std.proofs.lemmas.Bool.{cases_Bool, cases_lt, false≢true}
use Rattle.std.proofs.lemmas.List.{get_or_append_left, length-take-le, take-append-drop, take-append-le, take_all, take_more}
use Rattle.std.proofs.lemmas.List.Folds.{list_any-append}
use Rattle.std.proofs.lemmas.List.Splits.{length-slice_split}
use Rattle.std.proofs.lemmas.Grind.{fold-append}
use Rattle.std.proofs.lemmas.List.Sums.{position_or_len_is}
use Rattle.std.proofs.lemmas.Slice.Eq.{bytes_eq-Decides}
use Rattle.std.proofs.Math.Seq.{get_or-append_seam, take-append_seam}
use Rattle.std.specs.List.{AllByRecursion, cons_option, filter, flat_map, range_with_len}
use Rattle.std.specs.Fmt.{decimal}
use Rattle.std.specs.Prelude.{codes}
use Rattle.std.specs.Result.{result_err, result_ok}
use Rattle.rev_commands.specs.declared.command.Command.{Command}
use Rattle.rev_fields.specs.declared.faults.FaultKind.{FaultKind}
use Rattle.rev_fields.specs.declared.faults.FaultKind.TheVariants.{Header, Syntax}
use Rattle.rev_fields.specs.declared.faults.TextFault.{TextFault}
use Rattle.rev_fields.specs.Faults.{fault_in, first_fault}
use Rattle.rev_fields.specs.Grammar.{IsLine}
use Rattle.rev_fields.specs.Lines.{is_blank, lines_of, read_as}
use Rattle.rev_fields.proofs.FaultLemmas.{first_fault-none, first_fault-some}
use Rattle.rev_fields.proofs.GrammarLemmas.{fields-are-read, parts-are-cut, parts-cut}
use Rattle.rev_trace.specs.declared.record.Record.{Record}
use Rattle.rev_trace.specs.declared.version.Version.{Version}
use Rattle.rev_trace.specs.declared.version.Version.TheVariants.{One, Two}
use Rattle.rev_trace.specs.Commands.{command_of}
use Rattle.rev_trace.specs.Grammar.{Exact, LineSays, SaysRecord}
use Rattle.rev_trace.specs.Lanes.{lane_behind, lane_line, lane_named, lane_number, lines_of_lane, opened, opened_in, opens_lane}
use Rattle.rev_trace.specs.Records.{HeadValue, head_of, opening_wrong, record_line, record_of}
use Rattle.rev_trace.specs.Says.{AreCommands, AreOnce, ArePartsOfLanes, AreRecords, EmptyInLane, EmptyInOpening, FaultsAreFirst, IsFirstFault, IsLaneLine, IsWrongBehind, NoCommand, NoHeader, NoPart, NoRecord, OneCommand, OneOrTheOther, OnePart, OneRecord, Part, SaysLines, SaysTrace, TracesAreSaid, WrongLine, commands_of_lane, is_double, is_second, lanes_of_parts, opened_behind}
use Rattle.rev_trace.specs.Traces.{TraceValue, commands_in, has_lane, head_in, lane_count, lanes_in, opening_lines, records_in, said_by_lines, targets_in, trace_fault, trace_of, trace_wrong, value_of, wrong_in}
use Rattle.rev_trace.specs.Versions.{first_line, held_line, held_of, is_first, may_hold, may_name, version_of}
use Rattle.rev_trace.proofs.GrammarLemmas.{said_read}
use Rattle.rev_trace.proofs.JudgeLemmas.{Continues, Judged, MoreCommand, MoreEmpty, MoreLane, MoreRecord, begins-holds, command-closed, continues-judge, is_empty, judge, judged, lane-opens, record-closed, wrong-judge}
use Rattle.rev_trace.proofs.LaneLemmas.{commands_in-append, lane_behind-named, line_of_lane-named, lines_of_lane-closed, opened_by-named, opened_in-closed}
use Rattle.rev_trace.proofs.NumberLemmas.{short-of}
use Rattle.rev_trace.proofs.ShapeLemmas.{record-read}
use Rattle.rev_trace.proofs.TraceLemmas.{same-map}

-- lists

split-end : {X : Type 0} (xs : List X) (x : X) (before : List X) (y : X) (after : List X) → xs ++ x ∷ [] ≡ before ++ y ∷ after
    → ((before ≡ xs) × (y ≡ x)) ⊎ ((rest : List X) × (xs ≡ before ++ y ∷ rest))
split-end [] x [] y after e = inl (refl, let same = e in cc)
split-end [] x (b ∷ []) y after e = absurd (let no = e in cc)
split-end [] x (b ∷ c ∷ cs) y after e = absurd (let no = e in cc)
split-end (z ∷ zs) x [] y after e = inr (zs, let same = e in let first : z ≡ y = cc in ap (λ w. w ∷ zs) first)
split-end (z ∷ zs) x (b ∷ bs) y after e =
    let same = e in
    let first : z ≡ b = cc in
    let rest : zs ++ x ∷ [] ≡ bs ++ y ∷ after = cc in
    elim (split-end zs x bs y after rest) [
      | inl last ↦ inl (ap (λ l. b ∷ l) last.0 ∙ ap (λ w. w ∷ zs) (sym first), last.1)
      | inr more ↦ inr (more.0, ap (λ w. w ∷ zs) first ∙ ap (λ l. b ∷ l) more.1)
    ]

none-split : {X : Type 0} (before : List X) (y : X) (after : List X) → [] ≡ before ++ y ∷ after → ⊥
none-split [] y after e = cc
none-split (b ∷ bs) y after e = cc

-- lines that open no lane, and what begins with one that does

abbrev IsClosed : List ℕ → Type 0
IsClosed line = opens_lane line ≡ false

abbrev AreClosed : List (List ℕ) → Type 0
AreClosed lines = AllByRecursion IsClosed lines

abbrev BeginsLane : List (List ℕ) → Type 0
BeginsLane lines = (lines ≡ []) ⊎ ((line : List ℕ) × (rest : List (List ℕ)) × (lines ≡ line ∷ rest) × (opens_lane line ≡ true))

closed-at : (lines : List (List ℕ)) → AreClosed lines → (k : ℕ) → k < length lines → opens_lane (get_or lines k []) ≡ false
closed-at [] all k lt = absurd (omega arith)
closed-at (line ∷ lines) all zero lt = all.0
closed-at (line ∷ lines) all (suc k) lt = closed-at lines all.1 k (omega arith)

closed-none : (lines : List (List ℕ)) → AreClosed lines → has_lane lines ≡ false
closed-none [] all = refl
closed-none (line ∷ lines) all = ap (λ b. b || has_lane lines) all.0 ∙ closed-none lines all.1

records-closed : {lines : List (List ℕ)} {records : List Record} → AreRecords lines records → AreClosed lines
records-closed NoRecord = tt
records-closed (EmptyInOpening rest) = (refl, records-closed rest)
records-closed (OneRecord {line} texts {r} h s rest) = (record-closed line texts r h s, records-closed rest)

commands-closed : {version : Version} {targets lines : List (List ℕ)} {commands : List Command} → AreCommands version targets lines commands → AreClosed lines
commands-closed NoCommand = tt
commands-closed (EmptyInLane rest) = (refl, commands-closed rest)
commands-closed (OneCommand {version} {targets} {line} {c} s held rest) = (command-closed targets line c s, commands-closed rest)

parts-begin : {version : Version} {targets : List (List ℕ)} {n : ℕ} {lines : List (List ℕ)} {parts : List Part} → ArePartsOfLanes version targets n lines parts → BeginsLane lines
parts-begin NoPart = inl refl
parts-begin (OnePart {version} {targets} {n} {line} {lines} {rest} {part} may lt h cs more) = inr (line, lines ++ rest, refl, lane-opens line (decimal part.lane) h)

parts-open : {version : Version} {targets : List (List ℕ)} {n : ℕ} {lines : List (List ℕ)} {parts : List Part} → ArePartsOfLanes version targets n lines parts → has_lane lines ≡ not (is_empty parts)
parts-open NoPart = refl
parts-open (OnePart {version} {targets} {n} {line} {lines} {rest} {part} may lt h cs more) = ap (λ b. b || has_lane (lines ++ rest)) (lane-opens line (decimal part.lane) h)

parts-none : {version : Version} {targets : List (List ℕ)} {n : ℕ} {lines : List (List ℕ)} {parts : List Part} → ArePartsOfLanes version targets n lines parts → is_empty parts ≡ true → lines ≡ []
parts-none NoPart e = refl
parts-none (OnePart may lt h cs more) e = absurd (false≢true e)

-- the value of lines

record-said : (line : List ℕ) (texts : List (List ℕ)) (r : Record) → IsLine line texts → SaysRecord Exact texts r → record_line line ≡ Ok r
record-said line texts r h s = ap (read_as record_of) ((fields-are-read line texts).1 h) ∙ (record-read texts r s).0

records-said : {lines : List (List ℕ)} {records : List Record} → AreRecords lines records → records_in lines ≡ records
records-said NoRecord = refl
records-said (EmptyInOpening rest) = records-said rest
records-said (OneRecord {line} texts {r} {lines} h s rest) =
    ap (λ o. cons_option (result_ok o) (records_in lines)) (record-said line texts r h s) ∙ ap (λ l. r ∷ l) (records-said rest)

held-read : (version : Version) (targets : List (List ℕ)) (line : List ℕ) (c : Command) → LineSays Exact targets line c → may_hold version c ≡ true → held_line version targets line ≡ Ok c
held-read version targets line c h held =
    ap (read_as (held_of version targets)) ((fields-are-read line h.0).1 h.1)
    ∙ ap (λ b. cond b (command_of targets h.0) (Err Syntax)) (begins-holds version Exact targets h.0 c h.2 ∙ held) ∙ said_read targets h.0 c h.2

commands-said : {version : Version} {targets lines : List (List ℕ)} {commands : List Command} → AreCommands version targets lines commands → commands_in version targets lines ≡ commands
commands-said NoCommand = refl
commands-said (EmptyInLane rest) = commands-said rest
commands-said (OneCommand {version} {targets} {line} {c} {lines} s held rest) =
    ap (λ o. cons_option (result_ok o) (commands_in version targets lines)) (held-read version targets line c s held) ∙ ap (λ l. c ∷ l) (commands-said rest)

opening-is : (opening behind : List (List ℕ)) → AreClosed opening → BeginsLane behind → opening_lines (opening ++ behind) ≡ opening
opening-is opening behind closed (inl none) =
    let whole : opening ++ behind ≡ opening = ap (λ l. opening ++ l) none ∙ append-nil opening in
    let place = position_or_len_is opens_lane opening (length opening) [] (omega arith) (closed-at opening closed) (λ lt. absurd (omega arith)) in
    ap opening_lines whole ∙ ap (λ n. take n opening) place ∙ take_all (length opening) opening (omega arith)
opening-is opening behind closed (inr begins) =
    let whole = opening ++ begins.0 ∷ begins.1 in
    let long : length whole ≡ length opening + length (begins.0 ∷ begins.1) = length-append opening (begins.0 ∷ begins.1) in
    let place = position_or_len_is opens_lane whole (length opening) [] (omega (arith, long))
    (λ k lt. ap opens_lane (get_or_append_left opening (begins.0 ∷ begins.1) [] k lt) ∙ closed-at opening closed k lt)
    (λ lt. ap opens_lane (get_or-append_seam opening begins.0 begins.1 []) ∙ begins.3) in
    ap (λ l. opening_lines (opening ++ l)) begins.2 ∙ ap (λ n. take n whole) place ∙ take-append_seam opening (begins.0 ∷ begins.1)

-- the lane that a line names
part-number : (line : List ℕ) (n : ℕ) → IsLaneLine line n → n < 63 → lane_number line ≡ Ok n
part-number line n h lt = ap (read_as lane_named) ((fields-are-read line (codes "lane" ∷ decimal n ∷ [])).1 h) ∙ short-of (decimal n) n (refl, omega arith)

parts-counted : {version : Version} {targets : List (List ℕ)} {n : ℕ} {lines : List (List ℕ)} {parts : List Part} → ArePartsOfLanes version targets n lines parts → opened_in n lines ≡ opened_behind n parts
parts-counted NoPart = refl
parts-counted (OnePart {version} {targets} {n} {line} {lines} {rest} {part} {parts} may lt h cs more) =
    ap (λ c. opened_in c (lines ++ rest)) (opened_by-named n part.lane line (lane-opens line (decimal part.lane) h) (part-number line part.lane h lt))
    ∙ opened_in-closed (opened n part.lane) lines rest (commands-closed cs) ∙ parts-counted more

parts-said : {version : Version} {targets : List (List ℕ)} {n : ℕ} {lines : List (List ℕ)} {parts : List Part} (k : ℕ) (lane : Option ℕ) → ArePartsOfLanes version targets n lines parts
    → commands_in version targets (lines_of_lane k lane lines) ≡ commands_of_lane k parts
parts-said k lane NoPart = refl
parts-said k lane (OnePart {version} {targets} {n} {line} {lines} {rest} {part} {parts} may lt h cs more) =
    let opens = lane-opens line (decimal part.lane) h in
    ap (λ l. commands_in version targets (l ++ lines_of_lane k (lane_behind lane line) (lines ++ rest))) (line_of_lane-named k lane line opens)
    ∙ ap (λ l. commands_in version targets (lines_of_lane k l (lines ++ rest))) (lane_behind-named lane part.lane line opens (part-number line part.lane h lt))
    ∙ ap (commands_in version targets) (lines_of_lane-closed k (Some part.lane) lines rest (commands-closed cs))
    ∙ commands_in-append version targets (cond (part.lane == k) lines []) (lines_of_lane k (Some part.lane) rest)
    ∙ ap (λ l. commands_in version targets (cond (part.lane == k) lines []) ++ l) (parts-said k (Some part.lane) more)
    ∙ by (part.lane == k)
  where
    by : (b : Bool) → commands_in version targets (cond b lines []) ++ commands_of_lane k parts
        ≡ flat_map (λ part. part.commands) (cond b (part ∷ filter (λ part. part.lane == k) parts) (filter (λ part. part.lane == k) parts))
    by true = ap (λ l. l ++ commands_of_lane k parts) (commands-said cs)
    by false = refl

opening-of : {version : Version} {lines : List (List ℕ)} {records : List Record} {parts : List Part} (s : SaysLines version lines records parts) → opening_lines lines ≡ s.opening
opening-of s = ap opening_lines s.whole ∙ opening-is s.opening s.behind (records-closed s.are_records) (parts-begin s.are_parts)

head-of : {version : Version} {lines : List (List ℕ)} {records : List Record} {parts : List Part} → SaysLines version lines records parts → head_in (opening_lines lines) ≡ head_of records
head-of s = ap head_in (opening-of s) ∙ ap head_of (records-said s.are_records)

lanes-counted : {version : Version} {lines : List (List ℕ)} {records : List Record} {parts : List Part} → SaysLines version lines records parts → lane_count lines ≡ opened_behind 0 parts
lanes-counted s = ap (opened_in 0) s.whole ∙ opened_in-closed 0 s.opening s.behind (records-closed s.are_records) ∙ parts-counted s.are_parts

lane-of : {version : Version} {lines : List (List ℕ)} {records : List Record} {parts : List Part} (n : ℕ) → SaysLines version lines records parts
    → commands_in version (head_of records).targets (lines_of_lane n None lines) ≡ commands_of_lane n parts
lane-of {version} {lines} {records} {parts} n s =
    ap (λ l. commands_in version (head_of records).targets (lines_of_lane n None l)) s.whole
    ∙ ap (commands_in version (head_of records).targets) (lines_of_lane-closed n None s.opening s.behind (records-closed s.are_records)) ∙ parts-said n None s.are_parts

lanes-of : {version : Version} {lines : List (List ℕ)} {records : List Record} {parts : List Part} → SaysLines version lines records parts → lanes_in version (head_of records).targets lines ≡ lanes_of_parts parts
lanes-of {version} {lines} {records} {parts} s =
    same-map (λ n. commands_in version (head_of records).targets (lines_of_lane n None lines)) (λ n. commands_of_lane n parts) (λ n. lane-of n s) (range_with_len 0 (opened_in 0 lines))
    ∙ ap (λ c. map (λ n. commands_of_lane n parts) (range_with_len 0 c)) (lanes-counted s)

lane-open : {version : Version} {lines : List (List ℕ)} {records : List Record} {parts : List Part} → SaysLines version lines records parts → has_lane lines ≡ not (is_empty parts)
lane-open s =
    ap has_lane s.whole ∙ list_any-append opens_lane s.opening s.behind ∙ ap (λ b. b || has_lane s.behind) (closed-none s.opening (records-closed s.are_records)) ∙ parts-open s.are_parts

all-opening : {version : Version} {lines : List (List ℕ)} {records : List Record} {parts : List Part} (s : SaysLines version lines records parts) → is_empty parts ≡ true → lines ≡ s.opening
all-opening s none = s.whole ∙ ap (λ l. s.opening ++ l) (parts-none s.are_parts none) ∙ append-nil s.opening

head-all : {version : Version} {lines : List (List ℕ)} {records : List Record} {parts : List Part} (s : SaysLines version lines records parts) → is_empty parts ≡ true → head_in lines ≡ head_of records
head-all s none = ap head_in (all-opening s none) ∙ ap head_of (records-said s.are_records)

value-is : {version : Version} {lines : List (List ℕ)} {records : List Record} {parts : List Part} → SaysLines version lines records parts
    → value_of version lines ≡ record { opening = (head_of records).opening; targets = (head_of records).targets; lanes = lanes_of_parts parts }
value-is {version} {lines} {records} {parts} s =
    ap (λ (h : HeadValue). record { opening = h.opening; targets = h.targets; lanes = lanes_in version h.targets lines }) (head-of s)
    ∙ ap (λ l. record { opening = (head_of records).opening; targets = (head_of records).targets; lanes = l }) (lanes-of s)

-- what is wrong with a line behind lines that say records and lanes

abbrev Agrees : List (List ℕ) → List (List ℕ) → List Record → Type 0
Agrees targets lines records = has_lane lines ≡ true → targets ≡ (head_of records).targets

abbrev wrong_with : Version → List ℕ → ℕ → Bool → Option FaultKind → Option FaultKind → Option FaultKind
wrong_with version line count has command opening = cond (is_blank line) None (cond (opens_lane line) (result_err (lane_line version count line)) (cond has command opening))

judge-is : {version : Version} {lines : List (List ℕ)} {records : List Record} {parts : List Part} (targets : List (List ℕ)) (line : List ℕ) → SaysLines version lines records parts → Agrees targets lines records → wrong_in version targets lines line ≡ judge version records parts line
judge-is {version} {lines} {records} {parts = []} targets line s agrees =
    ap (λ n. wrong_with version line n (has_lane lines) (result_err (held_line version targets line)) (opening_wrong (head_in lines) line)) (lanes-counted s)
    ∙ ap (λ b. wrong_with version line 0 b (result_err (held_line version targets line)) (opening_wrong (head_in lines) line)) (lane-open s)
    ∙ ap (λ h. wrong_with version line 0 false (result_err (held_line version targets line)) (opening_wrong h line)) (head-all s refl)
judge-is {version} {lines} {records} {parts = part ∷ parts} targets line s agrees =
    ap (λ n. wrong_with version line n (has_lane lines) (result_err (held_line version targets line)) (opening_wrong (head_in lines) line)) (lanes-counted s)
    ∙ ap (λ b. wrong_with version line (opened_behind 0 (part ∷ parts)) b (result_err (held_line version targets line)) (opening_wrong (head_in lines) line)) (lane-open s)
    ∙ ap (λ t. wrong_with version line (opened_behind 0 (part ∷ parts)) true (result_err (held_line version t line)) (opening_wrong (head_in lines) line)) (agrees (lane-open s))

-- the targets are those of the opening, whatever follows
agree-more : {version : Version} {lines : List (List ℕ)} {records : List Record} {parts : List Part} (more : List (List ℕ)) → SaysLines version lines records parts → has_lane lines ≡ true → targets_in (lines ++ more) ≡ (head_of records).targets
agree-more {version} {lines} {records} more s has =
    elim (parts-begin s.are_parts) [
      | inl none ↦
          let all : lines ≡ s.opening = s.whole ∙ ap (λ l. s.opening ++ l) none ∙ append-nil s.opening in
          absurd (false≢true (sym (closed-none s.opening (records-closed s.are_records)) ∙ ap has_lane (sym all) ∙ has))
      | inr begins ↦
          let whole : lines ++ more ≡ s.opening ++ (s.behind ++ more) = ap (λ l. l ++ more) s.whole ∙ append_assoc s.opening s.behind more in
          let behind : BeginsLane (s.behind ++ more) = inr (begins.0, begins.1 ++ more, ap (λ l. l ++ more) begins.2, begins.3) in
          ap (λ (h : HeadValue). h.targets)
          (ap (λ l. head_in (opening_lines l)) whole ∙ ap head_in (opening-is s.opening (s.behind ++ more) (records-closed s.are_records) behind) ∙ ap head_of (records-said s.are_records))
    ]

-- one more line

-- more commands of the last part
abbrev with_commands : List Command → Part → Part
with_commands more part = record { lane = part.lane; commands = part.commands ++ more }

abbrev add_last : List Command → List Part → List Part
add_last more [] = []
add_last more (part ∷ []) = with_commands more part ∷ []
add_last more (part ∷ next ∷ parts) = part ∷ add_last more (next ∷ parts)

-- one more part
abbrev new_part : ℕ → Part
new_part n = record { lane = n; commands = [] }

opened-last : (n : ℕ) (more : List Command) (parts : List Part) → opened_behind n (add_last more parts) ≡ opened_behind n parts
opened-last n more [] = refl
opened-last n more (part ∷ []) = refl
opened-last n more (part ∷ next ∷ parts) = opened-last (opened n part.lane) more (next ∷ parts)

opened-new : (n m : ℕ) (parts : List Part) → opened_behind n (parts ++ new_part m ∷ []) ≡ opened (opened_behind n parts) m
opened-new n m parts = fold-append (λ (count : ℕ) (part : Part). opened count part.lane) n parts (new_part m ∷ [])

some-last : (more : List Command) (parts : List Part) → is_empty parts ≡ false → is_empty (add_last more parts) ≡ false
some-last more [] some = absurd (false≢true (sym some))
some-last more (part ∷ []) some = refl
some-last more (part ∷ next ∷ parts) some = refl

some-new : (parts : List Part) (part : Part) → is_empty (parts ++ part ∷ []) ≡ false
some-new [] part = refl
some-new (first ∷ parts) part = refl

records-append : {lines more : List (List ℕ)} {records others : List Record} → AreRecords lines records → AreRecords more others → AreRecords (lines ++ more) (records ++ others)
records-append NoRecord b = b
records-append (EmptyInOpening rest) b = EmptyInOpening (records-append rest b)
records-append (OneRecord texts h s rest) b = OneRecord texts h s (records-append rest b)

commands-append : {version : Version} {targets lines more : List (List ℕ)} {commands others : List Command} → AreCommands version targets lines commands → AreCommands version targets more others → AreCommands version targets (lines ++ more) (commands ++ others)
commands-append NoCommand b = b
commands-append (EmptyInLane rest) b = EmptyInLane (commands-append rest b)
commands-append (OneCommand s held rest) b = OneCommand s held (commands-append rest b)

parts-line : {version : Version} {targets : List (List ℕ)} {n : ℕ} {lines : List (List ℕ)} {parts : List Part} {more : List (List ℕ)} {others : List Command}
    → ArePartsOfLanes version targets n lines parts → is_empty parts ≡ false → AreCommands version targets more others → ArePartsOfLanes version targets n (lines ++ more) (add_last others parts)
parts-line NoPart some b = absurd (false≢true (sym some))
parts-line {more = more} {others = others} (OnePart {version} {targets} {n} {line} {lines} {rest} {part} {parts} may lt h cs tail) some b = by parts rest tail (λ s. parts-line tail s b)
  where
    by : (parts : List Part) (rest : List (List ℕ)) → ArePartsOfLanes version targets (opened n part.lane) rest parts
        → (is_empty parts ≡ false → ArePartsOfLanes version targets (opened n part.lane) (rest ++ more) (add_last others parts))
        → ArePartsOfLanes version targets n ((line ∷ (lines ++ rest)) ++ more) (add_last others (part ∷ parts))
    by [] rest tail later =
        let none : rest ≡ [] = parts-none tail refl in
        let e : (lines ++ more) ++ [] ≡ (lines ++ rest) ++ more =
        append-nil (lines ++ more) ∙ ap (λ l. l ++ more) (sym (ap (λ l. lines ++ l) none ∙ append-nil lines)) in
        subst (λ (l : List (List ℕ)). ArePartsOfLanes version targets n (line ∷ l) (with_commands others part ∷ [])) e (OnePart {part = with_commands others part} may lt h (commands-append cs b) NoPart)
    by (next ∷ parts) rest tail later =
        subst (λ (l : List (List ℕ)). ArePartsOfLanes version targets n (line ∷ l) (part ∷ add_last others (next ∷ parts))) (sym (append_assoc lines rest more))
        (OnePart may lt h cs (later refl))

parts-lane : {version : Version} {targets : List (List ℕ)} {n : ℕ} {lines : List (List ℕ)} {parts : List Part} (line : List ℕ) (m : ℕ)
    → ArePartsOfLanes version targets n lines parts → may_name version (opened_behind n parts) m ≡ true → m < 63 → IsLaneLine line m
    → ArePartsOfLanes version targets n (lines ++ line ∷ []) (parts ++ new_part m ∷ [])
parts-lane line m NoPart named less h = OnePart {part = new_part m} named less h NoCommand NoPart
parts-lane line m (OnePart {version} {targets} {n} {line = first} {lines} {rest} {part} {parts} may lt g cs tail) named less h =
    subst (λ (l : List (List ℕ)). ArePartsOfLanes version targets n (first ∷ l) (part ∷ (parts ++ new_part m ∷ []))) (sym (append_assoc lines rest (line ∷ [])))
    (OnePart may lt g cs (parts-lane line m tail named less h))

once-end : (records : List Record) (r : Record) → AreOnce records → is_second records r ≡ false → is_double records r ≡ false → AreOnce (records ++ r ∷ [])
once-end records r once second double before after x e =
    elim (split-end records r before x after e) [
      | inl last ↦
          let is : (is_second before x ≡ false) × (is_double before x ≡ false) = (ap (λ l. is_second l x) last.0 ∙ ap (is_second records) last.1 ∙ second, ap (λ l. is_double l x) last.0 ∙ ap (is_double records) last.1 ∙ double) in
          is
      | inr more ↦ once before more.0 x more.1
    ]

grow-empty : {version : Version} {lines : List (List ℕ)} {records : List Record} {parts : List Part} → SaysLines version lines records parts → SaysLines version (lines ++ [] ∷ []) records (add_last [] parts)
grow-empty {version} {lines} {records} {parts = []} s = record {
  opening = s.opening ++ [] ∷ [];
  behind = [];
  whole = ap (λ l. l ++ [] ∷ []) (all-opening s refl) ∙ sym (append-nil (s.opening ++ [] ∷ []));
  are_records = subst (λ (r : List Record). AreRecords (s.opening ++ [] ∷ []) r) (append-nil records) (records-append s.are_records (EmptyInOpening NoRecord));
  once = s.once;
  are_parts = NoPart;
}
grow-empty {version} {lines} {records} {parts = part ∷ parts} s = record {
  opening = s.opening;
  behind = s.behind ++ [] ∷ [];
  whole = ap (λ l. l ++ [] ∷ []) s.whole ∙ append_assoc s.opening s.behind ([] ∷ []);
  are_records = s.are_records;
  once = s.once;
  are_parts = parts-line s.are_parts refl (EmptyInLane NoCommand);
}

grow-record : {version : Version} {lines : List (List ℕ)} {records : List Record} (line : List ℕ) (texts : List (List ℕ)) (r : Record) → SaysLines version lines records [] → IsLine line texts → SaysRecord Exact texts r
    → is_second records r ≡ false → is_double records r ≡ false → SaysLines version (lines ++ line ∷ []) (records ++ r ∷ []) []
grow-record {version} {lines} {records} line texts r s h says second double = record {
  opening = s.opening ++ line ∷ [];
  behind = [];
  whole = ap (λ l. l ++ line ∷ []) (all-opening s refl) ∙ sym (append-nil (s.opening ++ line ∷ []));
  are_records = records-append s.are_records (OneRecord texts h says NoRecord);
  once = once-end records r s.once second double;
  are_parts = NoPart;
}

grow-lane : {version : Version} {lines : List (List ℕ)} {records : List Record} {parts : List Part} (line : List ℕ) (n : ℕ) → SaysLines version lines records parts → may_name version (opened_behind 0 parts) n ≡ true → n < 63 → IsLaneLine line n
    → SaysLines version (lines ++ line ∷ []) records (parts ++ new_part n ∷ [])
grow-lane {version} {lines} {records} {parts} line n s named lt h = record {
  opening = s.opening;
  behind = s.behind ++ line ∷ [];
  whole = ap (λ l. l ++ line ∷ []) s.whole ∙ append_assoc s.opening s.behind (line ∷ []);
  are_records = s.are_records;
  once = s.once;
  are_parts = parts-lane line n s.are_parts named lt h;
}

grow-command : {version : Version} {lines : List (List ℕ)} {records : List Record} {parts : List Part} (line : List ℕ) (c : Command) → SaysLines version lines records parts → is_empty parts ≡ false
    → LineSays Exact (head_of records).targets line c → may_hold version c ≡ true → SaysLines version (lines ++ line ∷ []) records (add_last (c ∷ []) parts)
grow-command {version} {lines} {records} {parts} line c s some says held = record {
  opening = s.opening;
  behind = s.behind ++ line ∷ [];
  whole = ap (λ l. l ++ line ∷ []) s.whole ∙ append_assoc s.opening s.behind (line ∷ []);
  are_records = s.are_records;
  once = s.once;
  are_parts = parts-line s.are_parts some (OneCommand says held NoCommand);
}

abbrev Said : Version → List (List ℕ) → Type 0
Said version lines = (records : List Record) × (parts : List Part) × SaysLines version lines records parts

grow-record-any : {version : Version} {lines : List (List ℕ)} {records : List Record} (parts : List Part) (line : List ℕ) (texts : List (List ℕ)) (r : Record) → is_empty parts ≡ true → SaysLines version lines records parts → IsLine line texts → SaysRecord Exact texts r
    → is_second records r ≡ false → is_double records r ≡ false → Said version (lines ++ line ∷ [])
grow-record-any {version} {lines} {records} [] line texts r none s h says second double = (records ++ r ∷ [], [], grow-record line texts r s h says second double)
grow-record-any (part ∷ parts) line texts r none s h says second double = absurd (false≢true none)

grow : (version : Version) (lines : List (List ℕ)) (records : List Record) (parts : List Part) (line : List ℕ) → SaysLines version lines records parts → Continues version records parts line → Said version (lines ++ line ∷ [])
grow version lines records parts line s (MoreEmpty e) = subst (λ (l : List ℕ). Said version (lines ++ l ∷ [])) (sym e) (records, add_last [] parts, grow-empty s)
grow version lines records parts line s (MoreLane n h named lt) = (records, parts ++ new_part n ∷ [], grow-lane line n s named lt h)
grow version lines records parts line s (MoreRecord texts r none h says second double) = grow-record-any parts line texts r none s h says second double
grow version lines records parts line s (MoreCommand c some says held) = (records, add_last (c ∷ []) parts, grow-command line c s some says held)

nothing-said : (version : Version) → SaysLines version [] [] []
nothing-said version = record { opening = []; behind = []; whole = refl; are_records = NoRecord; once = λ before after r e. absurd (none-split before r after e); are_parts = NoPart }

-- lines without a fault say something

-- the targets of all lines are those that lines at the front say, where these open a lane
agrees-at : (version : Version) (lines : List (List ℕ)) (n : ℕ) (records : List Record) (parts : List Part) → SaysLines version (take n lines) records parts → Agrees (targets_in lines) (take n lines) records
agrees-at version lines n records parts s has = ap targets_in (sym (take-append-drop n lines)) ∙ agree-more (drop n lines) s has

prefix-said : (version : Version) (lines : List (List ℕ)) (n : ℕ) → n ≤ length lines → ((k : ℕ) → k < n → wrong_in version (targets_in lines) (take k lines) (get_or lines k []) ≡ None) → Said version (take n lines)
prefix-said version lines zero le sound = ([], [], nothing-said version)
prefix-said version lines (suc n) le sound =
    let said = prefix-said version lines n (omega arith) (λ k lt. sound k (omega arith)) in
    let line = get_or lines n [] in
    let e : suc n ≡ n + 1 = omega arith in
    let right = sym (judge-is (targets_in lines) line said.2 (agrees-at version lines n said.0 said.1 said.2)) ∙ sound n (omega arith) in
    let continues : Continues version said.0 said.1 line = subst (λ (o : Option FaultKind). Judged version said.0 said.1 line o) right (judged version said.0 said.1 line) in
    subst (λ (l : List (List ℕ)). Said version l) (sym (ap (λ m. take m lines) e ∙ take_more lines n [] (omega arith))) (grow version (take n lines) said.0 said.1 line said.2 continues)

-- what lines say has no fault

abbrev Sound : Version → List (List ℕ) → List (List ℕ) → List (List ℕ) → Type 0
Sound version targets before [] = Unit {0}
Sound version targets before (line ∷ lines) = (wrong_in version targets before line ≡ None) × Sound version targets (before ++ line ∷ []) lines

sound-append : (version : Version) (targets before lines more : List (List ℕ)) → Sound version targets before lines → Sound version targets (before ++ lines) more → Sound version targets before (lines ++ more)
sound-append version targets before [] more a b = subst (λ (l : List (List ℕ)). Sound version targets l more) (append-nil before) b
sound-append version targets before (line ∷ lines) more a b =
    (a.0, sound-append version targets (before ++ line ∷ []) lines more a.1 (subst (λ (l : List (List ℕ)). Sound version targets l more) (sym (append_assoc before (line ∷ []) lines)) b))

sound-at : (version : Version) (targets before lines : List (List ℕ)) → Sound version targets before lines → (k : ℕ) → k < length lines → wrong_in version targets (before ++ take k lines) (get_or lines k []) ≡ None
sound-at version targets before [] a k lt = absurd (omega arith)
sound-at version targets before (line ∷ lines) a zero lt = ap (λ l. wrong_in version targets l line) (append-nil before) ∙ a.0
sound-at version targets before (line ∷ lines) a (suc k) lt =
    ap (λ l. wrong_in version targets l (get_or lines k [])) (sym (append_assoc before (line ∷ []) (take k lines))) ∙ sound-at version targets (before ++ line ∷ []) lines a.1 k (omega arith)

right-line : {version : Version} {before : List (List ℕ)} {records : List Record} {parts : List Part} (targets : List (List ℕ)) (line : List ℕ) → SaysLines version before records parts → Agrees targets before records → Continues version records parts line
    → wrong_in version targets before line ≡ None
right-line {version} {before} {records} {parts} targets line s agrees c = judge-is targets line s agrees ∙ continues-judge version records parts line c

-- no lane is open, so any targets agree
no-lane-agrees : {version : Version} {before : List (List ℕ)} {records : List Record} (targets : List (List ℕ)) → SaysLines version before records [] → Agrees targets before records
no-lane-agrees targets s has = absurd (false≢true (sym (lane-open s) ∙ has))

record SoundRecords (version : Version) (targets before lines : List (List ℕ)) (records : List Record) : Type 0 where
  says : SaysLines version (before ++ lines) records []
  sound : Sound version targets before lines

sound-records : {version : Version} {lines : List (List ℕ)} {others : List Record} (targets before : List (List ℕ)) (records : List Record)
    → SaysLines version before records [] → AreRecords lines others → AreOnce (records ++ others) → SoundRecords version targets before lines (records ++ others)
sound-records {version} targets before records s NoRecord once =
    record {
      says = subst (λ (l : List (List ℕ)). SaysLines version l (records ++ []) []) (sym (append-nil before)) (subst (λ (r : List Record). SaysLines version before r []) (sym (append-nil records)) s);
      sound = tt;
    }
sound-records {version} targets before records s (EmptyInOpening {lines} {records = others} rest) once = by (sound-records targets (before ++ [] ∷ []) records (grow-empty s) rest once)
  where
    by : SoundRecords version targets (before ++ [] ∷ []) lines (records ++ others) → SoundRecords version targets before ([] ∷ lines) (records ++ others)
    by r = record {
      says = subst (λ (l : List (List ℕ)). SaysLines version l (records ++ others) []) (append_assoc before ([] ∷ []) lines) r.says;
      sound = (right-line targets [] s (no-lane-agrees targets s) (MoreEmpty refl), r.sound);
    }
sound-records {version} targets before records s (OneRecord {line} texts {r} {lines} {records = others} h says rest) once =
    let here = once records others r refl in
    let grown = grow-record line texts r s h says here.0 here.1 in
    let e : (records ++ r ∷ []) ++ others ≡ records ++ r ∷ others = append_assoc records (r ∷ []) others in
    let later = sound-records targets (before ++ line ∷ []) (records ++ r ∷ []) grown rest (subst (λ (l : List Record). AreOnce l) (sym e) once) in
    record {
      says = subst (λ (l : List (List ℕ)). SaysLines version l (records ++ r ∷ others) []) (append_assoc before (line ∷ []) lines)
          (subst (λ (l : List Record). SaysLines version ((before ++ line ∷ []) ++ lines) l []) e later.says);
      sound = (right-line targets line s (no-lane-agrees targets s) (MoreRecord texts r refl h says here.0 here.1), later.sound);
    }

-- lines of the last part
record SoundCommands (version : Version) (targets before lines : List (List ℕ)) (records : List Record) (count : ℕ) : Type 0 where
  parts : List Part
  says : SaysLines version (before ++ lines) records parts
  many : opened_behind 0 parts ≡ count
  sound : Sound version targets before lines

sound-commands : {version : Version} {targets lines : List (List ℕ)} {commands : List Command} (before : List (List ℕ)) (records : List Record) (parts : List Part)
    → SaysLines version before records parts → is_empty parts ≡ false → targets ≡ (head_of records).targets → AreCommands version targets lines commands → SoundCommands version targets before lines records (opened_behind 0 parts)
sound-commands {version} {targets} before records parts s some e NoCommand =
    record { parts = parts; says = subst (λ (l : List (List ℕ)). SaysLines version l records parts) (sym (append-nil before)) s; many = refl; sound = tt }
sound-commands {version} {targets} before records parts s some e (EmptyInLane {lines = lines} rest) =
    let later = sound-commands (before ++ [] ∷ []) records (add_last [] parts) (grow-empty s) (some-last [] parts some) e rest in
    record {
      parts = later.parts;
      says = subst (λ (l : List (List ℕ)). SaysLines version l records later.parts) (append_assoc before ([] ∷ []) lines) later.says;
      many = later.many ∙ opened-last 0 [] parts;
      sound = (right-line targets [] s (λ has. e) (MoreEmpty refl), later.sound);
    }
sound-commands {version} {targets} before records parts s some e (OneCommand {line = line} {c = c} {lines = lines} says held rest) =
    let command : LineSays Exact (head_of records).targets line c = subst (λ (t : List (List ℕ)). LineSays Exact t line c) e says in
    let later = sound-commands (before ++ line ∷ []) records (add_last (c ∷ []) parts) (grow-command line c s some command held) (some-last (c ∷ []) parts some) e rest in
    record {
      parts = later.parts;
      says = subst (λ (l : List (List ℕ)). SaysLines version l records later.parts) (append_assoc before (line ∷ []) lines) later.says;
      many = later.many ∙ opened-last 0 (c ∷ []) parts;
      sound = (right-line targets line s (λ has. e) (MoreCommand c some command held), later.sound);
    }

sound-parts : {version : Version} {targets : List (List ℕ)} {n : ℕ} {lines : List (List ℕ)} {more : List Part} (before : List (List ℕ)) (records : List Record) (parts : List Part)
    → SaysLines version before records parts → n ≡ opened_behind 0 parts → targets ≡ (head_of records).targets → ArePartsOfLanes version targets n lines more → Sound version targets before lines
sound-parts before records parts s count e NoPart = tt
sound-parts before records parts s count e (OnePart {version} {targets} {n} {line} {lines} {rest} {part} may lt h cs tail) =
    let named : may_name version (opened_behind 0 parts) part.lane ≡ true = ap (λ m. may_name version m part.lane) (sym count) ∙ may in
    let grown = grow-lane line part.lane s named lt h in
    let more : opened_behind 0 (parts ++ new_part part.lane ∷ []) ≡ opened n part.lane = opened-new 0 part.lane parts ∙ ap (λ m. opened m part.lane) (sym count) in
    let commands = sound-commands (before ++ line ∷ []) records (parts ++ new_part part.lane ∷ []) grown (some-new parts (new_part part.lane)) e cs in (
      right-line targets line s (λ has. e) (MoreLane part.lane h named lt),
      sound-append version targets (before ++ line ∷ []) lines rest commands.sound
          (sound-parts ((before ++ line ∷ []) ++ lines) records commands.parts commands.says (sym (commands.many ∙ more)) e tail),
    )

-- where the targets agree
sound-said : {version : Version} {lines : List (List ℕ)} {records : List Record} {parts : List Part} (targets : List (List ℕ)) → SaysLines version lines records parts → Agrees targets lines records → Sound version targets [] lines
sound-said {version} {lines} {records} {parts} targets s agrees =
    let opening = sound-records targets [] [] (nothing-said version) s.are_records s.once in
    subst (λ (l : List (List ℕ)). Sound version targets [] l) (sym s.whole)
    (sound-append version targets [] s.opening s.behind opening.sound (behind parts s.behind s.are_parts opening.says (λ some. agrees (lane-open s ∙ ap not some))))
  where
    behind : (parts : List Part) (rest : List (List ℕ)) → ArePartsOfLanes version (head_of records).targets 0 rest parts → SaysLines version s.opening records []
        → (is_empty parts ≡ false → targets ≡ (head_of records).targets) → Sound version targets s.opening rest
    behind [] rest are says same = subst (λ (l : List (List ℕ)). Sound version targets s.opening l) (sym (parts-none are refl)) tt
    behind (part ∷ parts) rest are says same =
        subst (λ (t : List (List ℕ)). Sound version t s.opening rest) (sym (same refl)) (sound-parts s.opening records [] says refl refl are)

-- the first fault of all lines

abbrev fault_at : List (List ℕ) → ℕ → Option FaultKind
fault_at lines place = trace_wrong (targets_in (drop 1 lines)) (take place lines) (get_or lines place [])

abbrev fault_of_lines : List (List ℕ) → Option TextFault
fault_of_lines lines = first_fault (fault_at lines) (length lines)

record Found (wrong : ℕ → Option FaultKind) (n : ℕ) : Type 0 where
  place : ℕ
  within : place < n
  earlier : (k : ℕ) → k < place → wrong k ≡ None
  kind : FaultKind
  is : wrong place ≡ Some kind

one-more : (wrong : ℕ → Option FaultKind) (n : ℕ) → ((k : ℕ) → k < n → wrong k ≡ None) → (o : Option FaultKind) → wrong n ≡ o → ((k : ℕ) → k < suc n → wrong k ≡ None) ⊎ Found wrong (suc n)
one-more wrong n sound None e = inl (λ k lt. elim (cases_lt k n) [
  | inl less ↦ sound k less
  | inr le ↦ let same : k ≡ n = omega arith in ap wrong same ∙ e
])
one-more wrong n sound (Some kind) e = inr (record { place = n; within = omega arith; earlier = sound; kind = kind; is = e })

look-for : (wrong : ℕ → Option FaultKind) (n : ℕ) → ((k : ℕ) → k < n → wrong k ≡ None) ⊎ Found wrong n
look-for wrong zero = inl (λ k lt. absurd (omega arith))
look-for wrong (suc n) =
    elim (look-for wrong n) [
      | inl sound ↦ one-more wrong n sound (wrong n) refl
      | inr f ↦ inr (record { place = f.place; within = omega (arith, f.within); earlier = f.earlier; kind = f.kind; is = f.is })
    ]

none-found : (wrong : ℕ → Option FaultKind) (n : ℕ) → first_fault wrong n ≡ None → (k : ℕ) → k < n → wrong k ≡ None
none-found wrong n h =
    elim (look-for wrong n) [
      | inl sound ↦ sound
      | inr f ↦ let never : None ≡ Some (fault_in f.place f.kind) = sym h ∙ first_fault-some wrong n f.place f.kind f.within f.earlier f.is in absurd (cc)
    ]

some-found : (wrong : ℕ → Option FaultKind) (n : ℕ) (fault : TextFault) → first_fault wrong n ≡ Some fault → (f : Found wrong n) × (fault ≡ fault_in f.place f.kind)
some-found wrong n fault h =
    elim (look-for wrong n) [
      | inl sound ↦ let never : None ≡ Some fault = sym (first_fault-none wrong n sound) ∙ h in absurd (cc)
      | inr f ↦ (f, let same : Some fault ≡ Some (fault_in f.place f.kind) = sym h ∙ first_fault-some wrong n f.place f.kind f.within f.earlier f.is in cc)
    ]

-- the first line

first-version : (version : Version) → version_of (first_line version) ≡ version
first-version One = refl
first-version Two = refl

is-first : (version : Version) → is_first (first_line version) ≡ true
is-first One = refl
is-first Two = refl

header-right : (line : List ℕ) → fault_at (line ∷ []) 0 ≡ None → line ≡ first_line (version_of line)
header-right line h =
    elim (cases_Bool (is_first line)) [
      | inl same ↦ (bytes_eq-Decides line (first_line (version_of line))).0 same
      | inr other ↦ let never : Some Header ≡ None = sym (ap (λ b. cond b None (Some Header)) other) ∙ h in absurd (cc)
    ]

header-wrong : (line : List ℕ) (kind : FaultKind) → fault_at (line ∷ []) 0 ≡ Some kind → ((version : Version) → line ≡ first_line version → ⊥) × (kind ≡ Header)
header-wrong line kind h =
    elim (cases_Bool (is_first line)) [
      | inl same ↦ let never : None ≡ Some kind = sym (ap (λ b. cond b None (Some Header)) same) ∙ h in absurd (cc)
      | inr other ↦ (
        λ version e. false≢true (sym other ∙ ap is_first e ∙ is-first version),
        let same : Some Header ≡ Some kind = sym (ap (λ b. cond b None (Some Header)) other) ∙ h in cc,
      )
    ]

no-header : (line : List ℕ) → ((version : Version) → line ≡ first_line version → ⊥) → fault_at (line ∷ []) 0 ≡ Some Header
no-header line other =
    elim (cases_Bool (is_first line)) [
      | inl same ↦ absurd (other (version_of line) ((bytes_eq-Decides line (first_line (version_of line))).0 same))
      | inr is ↦ ap (λ b. cond b None (Some Header)) is
    ]

-- the law of values

some-line : (text : List ℕ) → 0 < length (lines_of text)
some-line text = omega (arith, length-slice_split (λ b. b == 10) text)

trace-said : (text : List ℕ) (lines : List (List ℕ)) → lines_of text ≡ lines → 0 < length lines → fault_of_lines lines ≡ None → SaysTrace text (said_by_lines lines)
trace-said text [] e some none = absurd (omega arith)
trace-said text (first ∷ rest) e some none =
    let version = version_of first in
    let right = none-found (fault_at (first ∷ rest)) (length (first ∷ rest)) none in
    let header = header-right first (right 0 (omega arith)) in
    let said = prefix-said version rest (length rest) (omega arith) (λ k lt. right (suc k) (omega arith)) in
    let says : SaysLines version rest said.0 said.1 = subst (λ (l : List (List ℕ)). SaysLines version l said.0 said.1) (take_all (length rest) rest (omega arith)) said.2 in
    let v : TraceValue = record { opening = (head_of said.0).opening; targets = (head_of said.0).targets; lanes = lanes_of_parts said.1 } in
    let trace : SaysTrace text v = record {
      version = version;
      lines = rest;
      are_lines = (parts-are-cut 10 text (first_line version ∷ rest)).0 (e ∙ ap (λ f. f ∷ rest) header);
      records = said.0;
      parts = said.1;
      says = says;
      opening_is = refl;
      targets_is = refl;
      lanes_is = refl;
    } in
    subst (λ (t : TraceValue). SaysTrace text t) (sym (value-is says)) trace

said-fault : {version : Version} {lines : List (List ℕ)} {records : List Record} {parts : List Part} → SaysLines version lines records parts → fault_of_lines (first_line version ∷ lines) ≡ None
said-fault {version} {lines} {records} {parts} s = first_fault-none (fault_at (first_line version ∷ lines)) (length (first_line version ∷ lines)) all
  where
    all : (k : ℕ) → k < length (first_line version ∷ lines) → fault_at (first_line version ∷ lines) k ≡ None
    all zero lt = ap (λ b. cond b None (Some Header)) (is-first version)
    all (suc k) lt =
        ap (λ v. wrong_in v (targets_in lines) (take k lines) (get_or lines k [])) (first-version version)
        ∙ sound-at version (targets_in lines) [] lines (sound-said (targets_in lines) s (λ has. ap (λ (h : HeadValue). h.targets) (head-of s))) k (omega arith)

pub traces-are-said : TracesAreSaid
traces-are-said text trace = (
  λ h. subst (λ (t : TraceValue). SaysTrace text t) h.1 (trace-said text (lines_of text) refl (some-line text) h.0),
  λ s.
      let cut : lines_of text ≡ first_line s.version ∷ s.lines = parts-cut s.are_lines in (
        ap fault_of_lines cut ∙ said-fault s.says,
        ap said_by_lines cut ∙ ap (λ v. value_of v s.lines) (first-version s.version) ∙ value-is s.says
            ∙ ap (λ o. record { opening = o; targets = (head_of s.records).targets; lanes = lanes_of_parts s.parts }) (sym s.opening_is)
            ∙ ap (λ t. record { opening = trace.opening; targets = t; lanes = lanes_of_parts s.parts }) (sym s.targets_is)
            ∙ ap (λ l. record { opening = trace.opening; targets = trace.targets; lanes = l }) (sym s.lanes_is),
      ),
)

-- the law of faults

line-between : (lines : List (List ℕ)) (k : ℕ) → k < length lines → lines ≡ take k lines ++ get_or lines k [] ∷ drop (suc k) lines
line-between lines k lt = sym (take-append-drop k lines) ∙ ap (λ l. take k lines ++ l) (drop-cons lines k [] lt)

first-of : (text : List ℕ) (lines : List (List ℕ)) → lines_of text ≡ lines → (f : Found (fault_at lines) (length lines)) → IsFirstFault text (fault_in f.place f.kind)
first-of text [] e f = absurd (omega (arith, f.within))
first-of text (first ∷ rest) e f = by f.place f.kind f.within f.earlier f.is
  where
    by : (place : ℕ) (kind : FaultKind) → place < length (first ∷ rest) → ((k : ℕ) → k < place → fault_at (first ∷ rest) k ≡ None) → fault_at (first ∷ rest) place ≡ Some kind → IsFirstFault text (fault_in place kind)
    by zero kind lt earlier is =
        let header = header-wrong first kind is in
        record {
          before = [];
          line = first;
          after = rest;
          are_lines = (parts-are-cut 10 text (first ∷ rest)).0 e;
          number = refl;
          wrong = subst (λ (k : FaultKind). IsWrongBehind [] first k) (sym header.1) (NoHeader header.0);
        }
    by (suc k) kind lt earlier is =
        let header = header-right first (earlier 0 (omega arith)) in
        let line = get_or rest k [] in
        let within : k < length rest = omega arith in
        let version = version_of first in
        let said = prefix-said version rest k (omega arith) (λ j less. earlier (suc j) (omega arith)) in
        let wrong = sym (judge-is (targets_in rest) line said.2 (agrees-at version rest k said.0 said.1 said.2)) ∙ is in
        let many : length (take k rest) ≡ k = length-take-le k rest (omega arith) in
        record {
          before = first_line version ∷ take k rest;
          line = line;
          after = drop (suc k) rest;
          are_lines = (parts-are-cut 10 text ((first_line version ∷ take k rest) ++ line ∷ drop (suc k) rest)).0 (e ∙ ap (λ h. h ∷ rest) header ∙ ap (λ l. first_line version ∷ l) (line-between rest k within));
          number = omega (arith, many);
          wrong = WrongLine version said.0 said.1 said.2 (subst (λ (o : Option FaultKind). Judged version said.0 said.1 line o) wrong (judged version said.0 said.1 line));
        }

fault-is : (fault : TextFault) (place : ℕ) (kind : FaultKind) → fault.kind ≡ kind → fault.line ≡ place + 1 → fault_in place kind ≡ fault
fault-is fault place kind e n =
    ap (λ (k : FaultKind). record { kind = k; line = place + 1 }) (sym e) ∙ ap (λ (l : ℕ). record { kind = fault.kind; line = l }) (sym n)

fault-behind : {before : List (List ℕ)} {line : List ℕ} {kind : FaultKind} (after : List (List ℕ)) → IsWrongBehind before line kind → fault_of_lines (before ++ line ∷ after) ≡ Some (fault_in (length before) kind)
fault-behind {line = line} after (NoHeader other) = first_fault-some (fault_at (line ∷ after)) (length (line ∷ after)) 0 Header (omega arith) (λ k lt. absurd (omega arith)) (no-header line other)
fault-behind after (WrongLine {lines} version records parts {line} {kind} s w) =
    first_fault-some (fault_at (first_line version ∷ whole)) (length (first_line version ∷ whole)) (suc (length lines)) kind (omega (arith, long)) sound wrong
  where
    whole : List (List ℕ)
    whole = lines ++ line ∷ after

    long : length (lines ++ line ∷ after) ≡ length lines + length (line ∷ after)
    long = length-append lines (line ∷ after)

    agrees : Agrees (targets_in (lines ++ line ∷ after)) lines records
    agrees has = agree-more (line ∷ after) s has

    sound : (k : ℕ) → k < suc (length lines) → fault_at (first_line version ∷ (lines ++ line ∷ after)) k ≡ None
    sound zero lt = ap (λ b. cond b None (Some Header)) (is-first version)
    sound (suc k) lt =
        ap (λ v. wrong_in v (targets_in (lines ++ line ∷ after)) (take k (lines ++ line ∷ after)) (get_or (lines ++ line ∷ after) k [])) (first-version version)
        ∙ ap (λ l. wrong_in version (targets_in (lines ++ line ∷ after)) l (get_or (lines ++ line ∷ after) k [])) (take-append-le k lines (line ∷ after) (omega arith))
        ∙ ap (λ l. wrong_in version (targets_in (lines ++ line ∷ after)) (take k lines) l) (get_or_append_left lines (line ∷ after) [] k (omega arith))
        ∙ sound-at version (targets_in (lines ++ line ∷ after)) [] lines (sound-said (targets_in (lines ++ line ∷ after)) s agrees) k (omega arith)

    wrong : fault_at (first_line version ∷ (lines ++ line ∷ after)) (suc (length lines)) ≡ Some kind
    wrong =
        ap (λ v. wrong_in v (targets_in (lines ++ line ∷ after)) (take (length lines) (lines ++ line ∷ after)) (get_or (lines ++ line ∷ after) (length lines) [])) (first-version version)
        ∙ ap (λ l. wrong_in version (targets_in (lines ++ line ∷ after)) l (get_or (lines ++ line ∷ after) (length lines) [])) (take-append_seam lines (line ∷ after))
        ∙ ap (λ l. wrong_in version (targets_in (lines ++ line ∷ after)) lines l) (get_or-append_seam lines line after [])
        ∙ judge-is (targets_in (lines ++ line ∷ after)) line s agrees ∙ wrong-judge version records parts line kind w

pub faults-are-first : FaultsAreFirst
faults-are-first text fault = (
  λ h.
      let found = some-found (fault_at (lines_of text)) (length (lines_of text)) fault h in
      subst (λ (f : TextFault). IsFirstFault text f) (sym found.1) (first-of text (lines_of text) refl found.0),
  λ f. ap fault_of_lines (parts-cut f.are_lines) ∙ fault-behind f.after f.wrong ∙ ap Some (fault-is fault (length f.before) fault.kind refl f.number),
)

-- one or the other

by-fault : (text : List ℕ) (o : Option TextFault) → trace_fault text ≡ o
    → ((trace : TraceValue) × SaysTrace text trace × ((other : TraceValue) → SaysTrace text other → other ≡ trace) × ((fault : TextFault) → IsFirstFault text fault → ⊥))
    ⊎ ((fault : TextFault) × IsFirstFault text fault × ((other : TextFault) → IsFirstFault text other → other ≡ fault) × ((trace : TraceValue) → SaysTrace text trace → ⊥))
by-fault text None e =
    inl (
      trace_of text,
      (traces-are-said text (trace_of text)).0 (e, refl),
      λ other s. sym ((traces-are-said text other).1 s).1,
      λ fault f. let never : None ≡ Some fault = sym e ∙ (faults-are-first text fault).1 f in cc,
    )
by-fault text (Some fault) e =
    inr (
      fault,
      (faults-are-first text fault).0 e,
      λ other f. let same : Some other ≡ Some fault = sym ((faults-are-first text other).1 f) ∙ e in cc,
      λ trace s. let never : None ≡ Some fault = sym ((traces-are-said text trace).1 s).0 ∙ e in cc,
    )

pub one-or-the-other : OneOrTheOther
one-or-the-other text = by-fault text (trace_fault text) refl
