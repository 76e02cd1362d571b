-- What `run` takes, one turn further.
use Rattle.std.proofs.Common.{◌≡◌, ℕ, zero, suc, ◌+◌, ◌<◌, ◌≤◌, Bool, true, false, not, cond, List, [], ◌∷◌, ◌++◌, map, take, drop, length, min, get_or, refl, sym, ap, ◌∙◌, subst, arith, ◌-◌, length-drop, Option, Some, None, length-take}
use Rattle.std.proofs.lemmas.List.{drop_more, take_min, take-map, drop-map, length-map}
use Rattle.std.specs.List.{enumerate_from, flat_map, position_or_len, range_with_len, slice_get}
use Rattle.rev_commands.specs.declared.command.Command.{Command}
use Rattle.rev_desk.specs.Machine.{DeskValue, opened_desk}
use Rattle.rev_cells.specs.Table.{Records}
use Rattle.rev_manifest.specs.Manifest.{ManifestValue}
use Rattle.rev_script.specs.declared.script.Word.{Word}
use Rattle.rev_report.specs.Report.{script_text, session_text}
use Rattle.std.specs.Global.{Vec}
use Rattle.rev_trace.specs.Traces.{lanes_of}
use Rattle.rev_script.specs.declared.turns.Turn.{Turn}
use Rattle.rev_report.specs.Answers.{after_answer, answer_to, names_break, said_line}
use Rattle.rev_report.specs.Runs.{after_turns, answers, answers_text, offered, taken, until_break}
use Rattle.rev_script.specs.SeenTurns.{seen_turns}
use Rattle.rev_script.specs.Turns.{AreOf, longest, round, round_from, turn_of, turns}

-- the turns from a place on
pub seen_next : (turns : List Turn) (i : ℕ) (t : Turn) → i < length turns → t ≡ get_or turns i t → seen_turns (drop i turns) ≡ (t.lane, t.command.now) ∷ seen_turns (drop (i + 1) turns)
seen_next turns i t h at = ap seen_turns (drop_more turns i t h ∙ (λ j. sym at j ∷ drop (i + 1) turns))

stops : (d : DeskValue) (t : ℕ × Command) (ts : List (ℕ × Command)) → names_break (answer_to d t.1) ≡ true → until_break d (t ∷ ts) ≡ t ∷ []
stops d t ts e = ap (λ b. take (cond (not b) (1 + position_or_len names_break (answers (after_answer d t.0 t.1) ts)) 0 + 1) (t ∷ ts)) e

one_more : (n : ℕ) → 1 + n + 1 ≡ suc (n + 1)
one_more n = omega arith

goes : (d : DeskValue) (t : ℕ × Command) (ts : List (ℕ × Command)) → names_break (answer_to d t.1) ≡ false → until_break d (t ∷ ts) ≡ t ∷ until_break (after_answer d t.0 t.1) ts
goes d t ts e =
    ap (λ b. take (cond (not b) (1 + position_or_len names_break (answers (after_answer d t.0 t.1) ts)) 0 + 1) (t ∷ ts)) e
    ∙ ap (λ n. take n (t ∷ ts)) (one_more (position_or_len names_break (answers (after_answer d t.0 t.1) ts)))

-- a turn whose answer names a break is the last that is taken
pub text_off : (d : DeskValue) (lane : ℕ) (c x : Command) (all ts : List (ℕ × Command)) → all ≡ (lane, x) ∷ ts → c ≡ x → names_break (answer_to d c) ≡ true
    → answers_text d (until_break d all) ≡ said_line d lane c ++ []
text_off d lane c x all ts is same ends =
    ap (λ l. answers_text d (until_break d l)) is ∙ ap (answers_text d) (stops d (lane, x) ts (ap (λ y. names_break (answer_to d y)) (sym same) ∙ ends)) ∙ ap (λ y. said_line d lane y ++ []) (sym same)

pub after_off : (d d' : DeskValue) (lane : ℕ) (c x : Command) (all ts : List (ℕ × Command)) → all ≡ (lane, x) ∷ ts → c ≡ x → names_break (answer_to d c) ≡ true → d' ≡ after_answer d lane c
    → d' ≡ after_turns d (until_break d all)
after_off d d' lane c x all ts is same ends new =
    new ∙ ap (after_answer d lane) same ∙ sym (ap (λ l. after_turns d (until_break d l)) is ∙ ap (after_turns d) (stops d (lane, x) ts (ap (λ y. names_break (answer_to d y)) (sym same) ∙ ends)))

pub count_off : (d : DeskValue) (lane : ℕ) (c x : Command) (all ts : List (ℕ × Command)) → all ≡ (lane, x) ∷ ts → c ≡ x → names_break (answer_to d c) ≡ true → length (until_break d all) ≡ 1
count_off d lane c x all ts is same ends =
    ap (λ l. length (until_break d l)) is ∙ ap length (stops d (lane, x) ts (ap (λ y. names_break (answer_to d y)) (sym same) ∙ ends))

-- after another one others may be taken
pub text_on : (d d' : DeskValue) (lane : ℕ) (c x : Command) (all ts : List (ℕ × Command)) → all ≡ (lane, x) ∷ ts → c ≡ x → names_break (answer_to d c) ≡ false → d' ≡ after_answer d lane c
    → answers_text d (until_break d all) ≡ said_line d lane c ++ answers_text d' (until_break d' ts)
text_on d d' lane c x all ts is same stays new =
    ap (λ l. answers_text d (until_break d l)) is ∙ ap (answers_text d) (goes d (lane, x) ts (ap (λ y. names_break (answer_to d y)) (sym same) ∙ stays))
    ∙ ap (λ y. said_line d lane y ++ answers_text (after_answer d lane y) (until_break (after_answer d lane y) ts)) (sym same)
    ∙ ap (λ e. said_line d lane c ++ answers_text e (until_break e ts)) (sym new)

pub after_on : (d d' : DeskValue) (lane : ℕ) (c x : Command) (all ts : List (ℕ × Command)) → all ≡ (lane, x) ∷ ts → c ≡ x → names_break (answer_to d c) ≡ false → d' ≡ after_answer d lane c
    → after_turns d (until_break d all) ≡ after_turns d' (until_break d' ts)
after_on d d' lane c x all ts is same stays new =
    ap (λ l. after_turns d (until_break d l)) is ∙ ap (after_turns d) (goes d (lane, x) ts (ap (λ y. names_break (answer_to d y)) (sym same) ∙ stays))
    ∙ ap (λ y. after_turns (after_answer d lane y) (until_break (after_answer d lane y) ts)) (sym same)
    ∙ ap (λ e. after_turns e (until_break e ts)) (sym new)

pub count_on : (d d' : DeskValue) (lane : ℕ) (c x : Command) (all ts : List (ℕ × Command)) → all ≡ (lane, x) ∷ ts → c ≡ x → names_break (answer_to d c) ≡ false → d' ≡ after_answer d lane c
    → length (until_break d all) ≡ suc (length (until_break d' ts))
count_on d d' lane c x all ts is same stays new =
    ap (λ l. length (until_break d l)) is ∙ ap length (goes d (lane, x) ts (ap (λ y. names_break (answer_to d y)) (sym same) ∙ stays))
    ∙ ap (λ y. suc (length (until_break (after_answer d lane y) ts))) (sym same)
    ∙ ap (λ e. suc (length (until_break e ts))) (sym new)

-- the first turn is taken in any case
first_of : (n : ℕ) → n + 1 ≡ suc n
first_of n = omega arith

pub text_any : (d : DeskValue) (lane : ℕ) (c x : Command) (all ts : List (ℕ × Command)) → all ≡ (lane, x) ∷ ts → c ≡ x
    → answers_text d (until_break d all) ≡ said_line d lane c ++ answers_text (after_answer d lane c) (take (position_or_len names_break (answers d ((lane, c) ∷ ts))) ts)
text_any d lane c x all ts is same =
    ap (λ l. answers_text d (until_break d l)) (is ∙ ap (λ y. (lane, y) ∷ ts) (sym same))
    ∙ ap (λ n. answers_text d (take n ((lane, c) ∷ ts))) (first_of (position_or_len names_break (answers d ((lane, c) ∷ ts))))

-- no more is taken than there is
pub taken_within : (most : Option ℕ) (d : DeskValue) (ts : List (ℕ × Command)) → length (taken most d ts) ≤ length ts
taken_within None d ts = omega (arith, length-take (position_or_len names_break (answers d ts) + 1) ts)
taken_within (Some n) d ts =
    omega (arith, length-take (position_or_len names_break (answers d (take n ts)) + 1) (take n ts), length-take n ts)

-- the lanes of turns that are left
pub of_rest : {A : Type 0} (count k : ℕ) (ts : List (ℕ × A)) → AreOf count ts → AreOf count (drop k ts)
of_rest count zero ts h = h
of_rest count (suc k) [] h = tt
of_rest count (suc k) (t ∷ ts) h = of_rest count k ts h.1

pub of_front : {A : Type 0} (count k : ℕ) (ts : List (ℕ × A)) → AreOf count ts → AreOf count (take k ts)
of_front count zero ts h = tt
of_front count (suc k) [] h = tt
of_front count (suc k) (t ∷ ts) h = (h.0, of_front count k ts h.1)

pub of_offered : (count : ℕ) (most : Option ℕ) (ts : List (ℕ × Command)) → AreOf count ts → AreOf count (offered most ts)
of_offered count None ts h = h
of_offered count (Some n) ts h = of_front count n ts h

pub of_next : {A : Type 0} (count : ℕ) (t : ℕ × A) (all ts : List (ℕ × A)) → all ≡ t ∷ ts → AreOf count all → AreOf count (t ∷ ts)
of_next count t all ts is h = subst (AreOf count) is h

min_other : (a b : ℕ) → min a b ≡ min b a
min_other a b = omega arith

-- a front of the turns
pub front_of : {A : Type 0} (turns : List A) (left n k : ℕ) → length turns ≡ left → n ≡ min left k → take n turns ≡ take k turns
front_of turns left n k is e = ap (λ m. take m turns) (e ∙ ap (λ l. min l k) (sym is) ∙ min_other (length turns) k) ∙ take_min k turns

-- the turns after so many, and the part of them that `run` may take, as they are seen
seen_part : (turns : List Turn) (before n : ℕ) → seen_turns (take n (drop before turns)) ≡ take n (drop before (seen_turns turns))
seen_part turns before n =
    sym (take-map (λ (turn : Turn). (turn.lane, turn.command.now)) n (drop before turns)) ∙ ap (take n) (sym (drop-map (λ (turn : Turn). (turn.lane, turn.command.now)) before turns))

added : (before n : ℕ) → before + n - before ≡ n
added before n = omega arith

pub part_is : (turns : List Turn) (before n : ℕ) (most : Option ℕ) → take n (drop before (seen_turns turns)) ≡ offered most (drop before (seen_turns turns))
    → seen_turns (take (before + n - before) (drop before turns)) ≡ offered most (drop before (seen_turns turns))
part_is turns before n most e = seen_part turns before (before + n - before) ∙ ap (λ k. take k (drop before (seen_turns turns))) (added before n) ∙ e

pub left_len : (turns : List Turn) (before : ℕ) → length (drop before (seen_turns turns)) ≡ length turns - before
left_len turns before = length-drop before (seen_turns turns) ∙ ap (λ n. n - before) (length-map turns (λ (turn : Turn). (turn.lane, turn.command.now)))

pub seen_len : (turns : List Turn) → length (seen_turns turns) ≡ length turns
seen_len turns = length-map turns (λ (turn : Turn). (turn.lane, turn.command.now))

-- Turns are of lanes that there are.

of_both : {A : Type 0} (count : ℕ) (xs ys : List (ℕ × A)) → AreOf count xs → AreOf count ys → AreOf count (xs ++ ys)
of_both count [] ys f h = h
of_both count (x ∷ xs) ys f h = (f.0, of_both count xs ys f.1 h)

of_turn : {A : Type 0} (count lane : ℕ) (o : Option A) → lane < count → AreOf count (turn_of lane o)
of_turn count lane None h = tt
of_turn count lane (Some c) h = (h, tt)

of_round : {A : Type 0} (count first place : ℕ) (lanes : List (List A)) → first + length lanes ≤ count → AreOf count (round_from first place lanes)
of_round count first place [] h = tt
of_round count first place (l ∷ lanes) h =
    of_both count (turn_of first (slice_get l place)) (round_from (first + 1) place lanes) (of_turn count first (slice_get l place) (omega arith)) (of_round count (first + 1) place lanes (omega arith))

of_rounds : {A : Type 0} (count : ℕ) (lanes : List (List A)) (places : List ℕ) → length lanes ≤ count → AreOf count (flat_map (λ place. round place lanes) places)
of_rounds count lanes [] h = tt
of_rounds count lanes (p ∷ places) h =
    of_both count (round p lanes) (flat_map (λ place. round place lanes) places) (of_round count 0 p lanes (omega arith)) (of_rounds count lanes places h)

pub of_lanes : {A : Type 0} (count : ℕ) (lanes : List (List A)) → length lanes ≤ count → AreOf count (turns lanes)
of_lanes count lanes h = of_rounds count lanes (range_with_len 0 (longest lanes)) h

-- the turns of a trace, over a desk that has one lane more
pub of_desk : (count : ℕ) (lanes : List (Vec Command)) (ts : List Turn) → seen_turns ts ≡ turns (lanes_of lanes) → count ≡ length lanes + 1 → AreOf count (seen_turns ts)
of_desk count lanes ts is all =
    let within : length (lanes_of lanes) ≤ count = omega (arith, length-map lanes (λ (v : Vec Command). v.items)) in
    subst (AreOf count) (sym is) (of_lanes count (lanes_of lanes) within)

-- what the words write over a desk that has just been opened
pub session_of : (manifest : ManifestValue) (opening : Records) (lanes : List (Vec Command)) (words : List Word) (d : DeskValue) → d ≡ opened_desk manifest opening.jobs opening.state (length lanes + 1)
    → script_text (length lanes) d (turns (lanes_of lanes)) words ≡ session_text manifest opening (lanes_of lanes) words
session_of manifest opening lanes words d is =
    let count : length lanes ≡ length (lanes_of lanes) = sym (length-map lanes (λ (v : Vec Command). v.items)) in
    (λ i. script_text (length lanes) (is i) (turns (lanes_of lanes)) words)
    ∙ (λ i. script_text (count i) (opened_desk manifest opening.jobs opening.state (count i + 1)) (turns (lanes_of lanes)) words)
