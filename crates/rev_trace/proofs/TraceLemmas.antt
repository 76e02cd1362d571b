-- The opening lines of a trace, and the lanes behind these.
use Rattle.std.proofs.Common.{◌≡◌, ℕ, zero, suc, ◌<◌, ◌≤◌, ◌+◌, ◌-◌, Bool, true, false, cond, List, [], ◌∷◌, ◌++◌, length, get_or, take, drop, refl, sym, ap, ◌∙◌, arith, inl, inr, subst, map, Option, Some, None, Ok, Err}
use Rattle.std.proofs.lemmas.Bool.{false≢true, cases_eq, cases_lt}
use Rattle.std.proofs.lemmas.List.{get_or-take, get_or-drop, length-take-le, length-drop, take-append-drop, take_all}
use Rattle.std.proofs.lemmas.List.Sums.{position_or_len_is}
use Rattle.std.specs.Result.{result_err}
use Rattle.std.specs.List.{position_or_len, range_with_len}
use borrow.Author.Count.{below_more}
use Rattle.rev_fields.specs.declared.faults.FaultKind.{FaultKind}
use Rattle.rev_fields.specs.declared.faults.FaultKind.TheVariants.{Syntax, Header}
use Rattle.rev_fields.specs.declared.faults.TextFault.{TextFault}
use Rattle.rev_fields.specs.Faults.{IsFirstWrong, fault_in, first_fault}
use Rattle.rev_fields.specs.Lines.{is_blank}
use Rattle.rev_fields.proofs.FaultLemmas.{first_fault-none, first_fault-some}
use Rattle.rev_fields.proofs.ListLemmas.{list_any_true, list_any_false}
use Rattle.rev_fields.proofs.SaidLemmas.{said-blank, said_step, unsaid_step}
use Rattle.rev_trace.specs.Heads.{IsAdded}
use Rattle.rev_trace.specs.Records.{HeadValue, head_of, head_with, empty_head, opening_wrong, record_line}
use Rattle.rev_trace.specs.declared.version.Version.{Version}
use Rattle.rev_trace.specs.Lanes.{lane_behind, lane_line, lane_number, line_of_lane, lines_of_lane, opened_by, opened_in, opens_lane}
use Rattle.rev_trace.specs.Traces.{IsOpened, commands_in, has_lane, head_in, lane_count, lane_wrong, lanes_from, opening_lines, records_in, targets_in, trace_wrong, value_of, wrong_after, wrong_at, wrong_in_lane}
use Rattle.rev_trace.specs.Versions.{held_line, is_first, version_of}
use Rattle.rev_trace.proofs.LaneLemmas.{filled_from_lane, lane_behind-closed, lane_behind-named, line_of_lane-closed, line_of_lane-named, named-first, opened_by-named, opened_closed, opened_more}
use Rattle.std.proofs.lemmas.Grind.{fold-append}
use Rattle.rev_trace.specs.declared.record.Record.{Record}

-- so many lines are read, and none of these opens the lane
pub record ReadsHead (version : Version) (lines : List (List ℕ)) (head : HeadValue) (count : ℕ) : Type 0 where
  pub no_lane : (k : ℕ) → k < count → opens_lane (get_or lines k []) ≡ false
  pub sound : (k : ℕ) → k < count → wrong_at version lines k ≡ None
  pub head_is : head ≡ head_in (take count lines)

opens_lane-blank : (line : List ℕ) → is_blank line ≡ true → opens_lane line ≡ false
opens_lane-blank [] blank = refl
opens_lane-blank (b ∷ bs) blank = absurd (false≢true blank)

no_lane_before : (lines : List (List ℕ)) (i : ℕ) → i ≤ length lines → ((k : ℕ) → k < i → opens_lane (get_or lines k []) ≡ false) → has_lane (take i lines) ≡ false
no_lane_before lines i h none =
    let n : length (take i lines) ≡ i = length-take-le i lines h in
    list_any_false opens_lane (take i lines) [] (λ k lt. let below : k < i = omega arith in ap opens_lane (get_or-take i lines k [] below) ∙ none k below)

lane_before : (lines : List (List ℕ)) (i k : ℕ) → i < k → k ≤ length lines → opens_lane (get_or lines i []) ≡ true → has_lane (take k lines) ≡ true
lane_before lines i k lt h opens =
    let n : length (take k lines) ≡ k = length-take-le k lines h in
    list_any_true opens_lane (take k lines) i [] (omega arith) (ap opens_lane (get_or-take k lines i [] lt) ∙ opens)

-- what is wrong with a line, by its kind
wrong_at-blank : (version : Version) (lines : List (List ℕ)) (i : ℕ) → is_blank (get_or lines i []) ≡ true → wrong_at version lines i ≡ None
wrong_at-blank version lines i blank = ap (λ b. cond b None (wrong_after version (targets_in lines) (take i lines) (get_or lines i []))) blank

wrong_at-filled : (version : Version) (lines : List (List ℕ)) (i : ℕ) → is_blank (get_or lines i []) ≡ false → wrong_at version lines i ≡ wrong_after version (targets_in lines) (take i lines) (get_or lines i [])
wrong_at-filled version lines i filled = ap (λ b. cond b None (wrong_after version (targets_in lines) (take i lines) (get_or lines i []))) filled

-- where a lane is open
wrong_at-command : (version : Version) (lines : List (List ℕ)) (i : ℕ) → has_lane (take i lines) ≡ true → wrong_at version lines i ≡ wrong_in_lane version (targets_in lines) (lane_count (take i lines)) (get_or lines i [])
wrong_at-command version lines i lane =
    let line = get_or lines i [] in
    ap (λ b. cond (is_blank line) None (cond (opens_lane line) (result_err (lane_line version (lane_count (take i lines)) line)) (cond b (result_err (held_line version (targets_in lines) line)) (opening_wrong (head_in (take i lines)) line)))) lane

-- the line that opens the first lane
wrong_at-lane : (version : Version) (lines : List (List ℕ)) (i : ℕ) → lane_count (take i lines) ≡ 0 → opens_lane (get_or lines i []) ≡ true → wrong_at version lines i ≡ result_err (lane_line version 0 (get_or lines i []))
wrong_at-lane version lines i none opens =
    let line = get_or lines i [] in
    wrong_at-filled version lines i (filled_from_lane line opens)
    ∙ ap (λ b. cond b (result_err (lane_line version (lane_count (take i lines)) line)) (cond (has_lane (take i lines)) (result_err (held_line version (targets_in lines) line)) (opening_wrong (head_in (take i lines)) line))) opens
    ∙ ap (λ n. result_err (lane_line version n line)) none

wrong_at-opening : (version : Version) (lines : List (List ℕ)) (i : ℕ) → has_lane (take i lines) ≡ false → is_blank (get_or lines i []) ≡ false → opens_lane (get_or lines i []) ≡ false → wrong_at version lines i ≡ opening_wrong (head_in (take i lines)) (get_or lines i [])
wrong_at-opening version lines i none filled opens =
    let line = get_or lines i [] in
    wrong_at-filled version lines i filled
    ∙ ap (λ b. cond b (result_err (lane_line version (lane_count (take i lines)) line)) (cond (has_lane (take i lines)) (result_err (held_line version (targets_in lines) line)) (opening_wrong (head_in (take i lines)) line))) opens
    ∙ ap (λ b. cond b (result_err (held_line version (targets_in lines) line)) (opening_wrong (head_in (take i lines)) line)) none

-- one more line before the lane
pub reads_blank : (version : Version) (lines : List (List ℕ)) (head : HeadValue) (i : ℕ) → i < length lines → is_blank (get_or lines i []) ≡ true → ReadsHead version lines head i → ReadsHead version lines head (i + 1)
reads_blank version lines head i lt blank inv =
    record {
      no_lane = below_more (λ k. opens_lane (get_or lines k []) ≡ false) i inv.no_lane (opens_lane-blank (get_or lines i []) blank);
      sound = below_more (λ k. wrong_at version lines k ≡ None) i inv.sound (wrong_at-blank version lines i blank);
      head_is = inv.head_is ∙ ap head_of (unsaid_step record_line lines (records_in (take i lines)) i Syntax lt (said-blank record_line (get_or lines i []) refl blank) refl);
    }

head_of-push : (records : List Record) (r : Record) → head_with (head_of records) r ≡ head_of (records ++ r ∷ [])
head_of-push records r = sym (fold-append head_with empty_head records (r ∷ []))

pub reads_line : (version : Version) (lines : List (List ℕ)) (head next : HeadValue) (i : ℕ) → i < length lines → is_blank (get_or lines i []) ≡ false → opens_lane (get_or lines i []) ≡ false → IsAdded head (get_or lines i []) next → ReadsHead version lines head i → ReadsHead version lines next (i + 1)
reads_line version lines head next i lt filled opens added inv =
    let within : i ≤ length lines = omega arith in
    record {
      no_lane = below_more (λ k. opens_lane (get_or lines k []) ≡ false) i inv.no_lane opens;
      sound = below_more (λ k. wrong_at version lines k ≡ None) i inv.sound
          (wrong_at-opening version lines i (no_lane_before lines i within inv.no_lane) filled opens ∙ ap (λ h. opening_wrong h (get_or lines i [])) (sym inv.head_is) ∙ added.sound);
      head_is = added.new_is ∙ ap (λ h. head_with h added.added) inv.head_is ∙ head_of-push (records_in (take i lines)) added.added
          ∙ ap head_of (said_step record_line lines (records_in (take i lines)) i added.added lt added.said_is refl);
    }

pub opening_at_fault : (version : Version) (lines : List (List ℕ)) (head : HeadValue) (i : ℕ) (kind : FaultKind) (f : TextFault) → i < length lines → is_blank (get_or lines i []) ≡ false → opens_lane (get_or lines i []) ≡ false → opening_wrong head (get_or lines i []) ≡ Some kind → f ≡ fault_in (i + 1) kind → ReadsHead version lines head i → IsFirstWrong (wrong_at version lines) (length lines) 1 f
opening_at_fault version lines head i kind f lt filled opens wrong is inv =
    let within : i ≤ length lines = omega arith in
    let same : i + 1 ≡ 1 + i = omega arith in
    record {
      place = i;
      within = lt;
      earlier = inv.sound;
      kind = kind;
      wrong = wrong_at-opening version lines i (no_lane_before lines i within inv.no_lane) filled opens ∙ ap (λ h. opening_wrong h (get_or lines i [])) (sym inv.head_is) ∙ wrong;
      is = is ∙ ap (λ p. fault_in p kind) same;
    }

pub opened_at_lane : (version : Version) (lines : List (List ℕ)) (head : HeadValue) (i n : ℕ) → i < length lines → opens_lane (get_or lines i []) ≡ true → lane_line version 0 (get_or lines i []) ≡ Ok n → ReadsHead version lines head i → IsOpened version lines head i
opened_at_lane version lines head i n lt opens said inv =
    record {
      within = omega arith;
      no_lane = inv.no_lane;
      ends = λ _. opens;
      opens = λ _. wrong_at-lane version lines i (opened_closed 0 lines i (omega arith) inv.no_lane) opens ∙ ap result_err said;
      sound = inv.sound;
      head_is = inv.head_is;
    }

pub lane_at_fault : (version : Version) (lines : List (List ℕ)) (head : HeadValue) (i : ℕ) (kind : FaultKind) (f : TextFault) → i < length lines → opens_lane (get_or lines i []) ≡ true → lane_line version 0 (get_or lines i []) ≡ Err kind → f ≡ fault_in (i + 1) kind → ReadsHead version lines head i → IsFirstWrong (wrong_at version lines) (length lines) 1 f
lane_at_fault version lines head i kind f lt opens said is inv =
    let same : i + 1 ≡ 1 + i = omega arith in
    record {
      place = i;
      within = lt;
      earlier = inv.sound;
      kind = kind;
      wrong = wrong_at-lane version lines i (opened_closed 0 lines i (omega arith) inv.no_lane) opens ∙ ap result_err said;
      is = is ∙ ap (λ p. fault_in p kind) same;
    }

pub opened_at_end : (version : Version) (lines : List (List ℕ)) (head : HeadValue) (i n : ℕ) → n ≡ i → length lines ≡ n → ReadsHead version lines head i → IsOpened version lines head n
opened_at_end version lines head i n e whole inv =
    let P : ℕ → Type 0 = λ m. ReadsHead version lines head m in
    let at_n : ReadsHead version lines head n = subst P (sym e) inv in
    record { within = omega arith; no_lane = at_n.no_lane; ends = λ lt. absurd (omega arith); opens = λ lt. absurd (omega arith); sound = at_n.sound; head_is = at_n.head_is }

-- the first line that opens the lane
first_lane : (version : Version) (lines : List (List ℕ)) (head : HeadValue) (end : ℕ) → IsOpened version lines head end → position_or_len opens_lane lines ≡ end
first_lane version lines head end h = position_or_len_is opens_lane lines end [] h.within h.no_lane h.ends

pub value_head : (version : Version) (lines : List (List ℕ)) (head : HeadValue) (end : ℕ) → IsOpened version lines head end → head ≡ head_in (opening_lines lines)
value_head version lines head end h = h.head_is ∙ ap (λ n. head_in (take n lines)) (sym (first_lane version lines head end h))

pub value_no_lane : (version : Version) (lines : List (List ℕ)) (head : HeadValue) (end : ℕ) → IsOpened version lines head end → length lines ≤ end → (value_of version lines).lanes ≡ []
value_no_lane version lines head end h all =
    let none : lane_count lines ≡ 0 = ap (opened_in 0) (sym (take_all (length lines) lines (omega arith))) ∙ opened_closed 0 lines (length lines) (omega arith) (λ k lt. h.no_lane k (omega arith)) in
    ap (λ n. map (λ n. commands_in version (targets_in lines) (lines_of_lane n None lines)) (range_with_len 0 n)) none

-- the line that opens the first lane names lane 0
first_named : (version : Version) (lines : List (List ℕ)) (head : HeadValue) (end : ℕ) → IsOpened version lines head end → end < length lines → lane_number (get_or lines end []) ≡ Ok 0
first_named version lines head end h lt =
    named-first version (get_or lines end []) (sym (wrong_at-lane version lines end (opened_closed 0 lines end h.within h.no_lane) (h.ends lt)) ∙ h.opens lt)

-- how many lanes are open behind the line that opens the first
count_first : (version : Version) (lines : List (List ℕ)) (head : HeadValue) (end : ℕ) → IsOpened version lines head end → end < length lines → lane_count (take (end + 1) lines) ≡ 1
count_first version lines head end h lt =
    opened_more 0 lines end lt ∙ ap (λ c. opened_by c (get_or lines end [])) (opened_closed 0 lines end h.within h.no_lane)
    ∙ opened_by-named 0 0 (get_or lines end []) (h.ends lt) (first_named version lines head end h lt)

-- the lines behind it
lanes_behind : (n end : ℕ) (lines : List (List ℕ)) → end < length lines → ((k : ℕ) → k < end → opens_lane (get_or lines k []) ≡ false) → opens_lane (get_or lines end []) ≡ true → lane_number (get_or lines end []) ≡ Ok 0
    → lines_of_lane n None lines ≡ lines_of_lane n (Some 0) (drop (end + 1) lines)
lanes_behind n end [] lt none opens named = absurd (omega arith)
lanes_behind n zero (line ∷ lines) lt none opens named =
    ap (λ l. l ++ lines_of_lane n (lane_behind None line) lines) (line_of_lane-named n None line opens) ∙ ap (λ l. lines_of_lane n l lines) (lane_behind-named None 0 line opens named)
lanes_behind n (suc end) (line ∷ lines) lt none opens named =
    let e : suc (end + 1) ≡ suc end + 1 = omega arith in
    ap (λ l. line_of_lane n None line ++ lines_of_lane n l lines) (lane_behind-closed None line (none 0 (omega arith)))
    ∙ ap (λ l. l ++ lines_of_lane n None lines) (line_of_lane-closed n None line (none 0 (omega arith)))
    ∙ lanes_behind n end lines (omega arith) (λ k less. none (suc k) (omega arith)) opens named ∙ ap (λ m. lines_of_lane n (Some 0) (drop m (line ∷ lines))) e

count_behind : (end count : ℕ) (lines : List (List ℕ)) → opened_in 0 (take end lines) ≡ count → opened_in 0 lines ≡ opened_in count (drop end lines)
count_behind end count lines e =
    ap (opened_in 0) (sym (take-append-drop end lines)) ∙ fold-append opened_by 0 (take end lines) (drop end lines) ∙ ap (λ c. opened_in c (drop end lines)) e

pub same-map : {X Y : Type 0} (f g : X → Y) → ((x : X) → f x ≡ g x) → (xs : List X) → map f xs ≡ map g xs
same-map f g same [] = refl
same-map f g same (x ∷ xs) = ap (λ y. y ∷ map f xs) (same x) ∙ ap (λ ys. g x ∷ ys) (same-map f g same xs)

pub value_lanes : (version : Version) (lines after : List (List ℕ)) (head : HeadValue) (end : ℕ) → IsOpened version lines head end → end < length lines → after ≡ drop (end + 1) lines → (value_of version lines).lanes ≡ lanes_from version (targets_in lines) 1 (Some 0) after
value_lanes version lines after head end h lt is =
    same-map (λ n. commands_in version (targets_in lines) (lines_of_lane n None lines)) (λ n. commands_in version (targets_in lines) (lines_of_lane n (Some 0) (drop (end + 1) lines)))
    (λ n. ap (commands_in version (targets_in lines)) (lanes_behind n end lines lt h.no_lane (h.ends lt) (first_named version lines head end h lt))) (range_with_len 0 (opened_in 0 lines))
    ∙ ap (λ c. map (λ n. commands_in version (targets_in lines) (lines_of_lane n (Some 0) (drop (end + 1) lines))) (range_with_len 0 c)) (count_behind (end + 1) 1 lines (count_first version lines head end h lt))
    ∙ ap (λ l. lanes_from version (targets_in lines) 1 (Some 0) l) (sym is)

pub sound_no_lane : (version : Version) (lines : List (List ℕ)) (head : HeadValue) (end : ℕ) → IsOpened version lines head end → length lines ≤ end → (k : ℕ) → k < length lines → wrong_at version lines k ≡ None
sound_no_lane version lines head end h all k lt = h.sound k (omega arith)

-- how many lanes are open at a line behind the one that opens the first
count_after : (version : Version) (lines after : List (List ℕ)) (head : HeadValue) (end j : ℕ) → IsOpened version lines head end → end + 1 + j < length lines → after ≡ drop (end + 1) lines → lane_count (take (end + 1 + j) lines) ≡ opened_in 1 (take j after)
count_after version lines after head end zero h lt is =
    let same : end + 1 + 0 ≡ end + 1 = omega arith in
    ap (λ n. lane_count (take n lines)) same ∙ count_first version lines head end h (omega arith)
count_after version lines after head end (suc j) h lt is =
    let e1 : end + 1 + suc j ≡ end + 1 + j + 1 = omega arith in
    let e2 : j + 1 ≡ suc j = omega arith in
    let long : length after ≡ length lines - (end + 1) = ap length is ∙ length-drop (end + 1) lines in
    ap (λ n. lane_count (take n lines)) e1 ∙ opened_more 0 lines (end + 1 + j) (omega arith)
    ∙ ap (λ c. opened_by c (get_or lines (end + 1 + j) [])) (count_after version lines after head end j h (omega arith) is)
    ∙ ap (opened_by (opened_in 1 (take j after))) (sym (ap (λ l. get_or l j []) is ∙ get_or-drop (end + 1) lines j []))
    ∙ sym (opened_more 1 after j (omega (arith, long))) ∙ ap (λ n. opened_in 1 (take n after)) e2

-- a line behind the one that opens the first lane
command_after : (version : Version) (lines after : List (List ℕ)) (head : HeadValue) (end j : ℕ) → IsOpened version lines head end → end + 1 + j < length lines → after ≡ drop (end + 1) lines → wrong_at version lines (end + 1 + j) ≡ lane_wrong version (targets_in lines) after j
command_after version lines after head end j h lt is =
    wrong_at-command version lines (end + 1 + j) (lane_before lines end (end + 1 + j) (omega arith) (omega arith) (h.ends (omega arith)))
    ∙ ap (λ n. wrong_in_lane version (targets_in lines) n (get_or lines (end + 1 + j) [])) (count_after version lines after head end j h lt is)
    ∙ ap (wrong_in_lane version (targets_in lines) (opened_in 1 (take j after))) (sym (ap (λ l. get_or l j []) is ∙ get_or-drop (end + 1) lines j []))

opened_line : (version : Version) (lines : List (List ℕ)) (head : HeadValue) (end : ℕ) → IsOpened version lines head end → end < length lines → wrong_at version lines end ≡ None
opened_line version lines head end h lt = h.opens lt

before_place : (version : Version) (lines after : List (List ℕ)) (head : HeadValue) (end n : ℕ) → IsOpened version lines head end → end < length lines → after ≡ drop (end + 1) lines → end + 1 + n ≤ length lines → ((j : ℕ) → j < n → lane_wrong version (targets_in lines) after j ≡ None) → (k : ℕ) → k < end + 1 + n → wrong_at version lines k ≡ None
before_place version lines after head end n h lt is within sound k below =
    elim (cases_lt k end) [
      | inl early ↦ h.sound k early
      | inr late ↦
          elim (cases_eq k end) [
            | inl e ↦ ap (wrong_at version lines) e ∙ opened_line version lines head end h lt
            | inr ne ↦ in_lane version lines after head end (k - (end + 1)) k h (omega arith) (omega arith) is (sound (k - (end + 1)) (omega arith))
          ]
    ]
  where
    in_lane : (version : Version) (lines after : List (List ℕ)) (head : HeadValue) (end j k : ℕ) → IsOpened version lines head end → k ≡ end + 1 + j → k < length lines → after ≡ drop (end + 1) lines → lane_wrong version (targets_in lines) after j ≡ None → wrong_at version lines k ≡ None
    in_lane version lines after head end j k h e lt is none = ap (wrong_at version lines) e ∙ command_after version lines after head end j h (omega arith) is ∙ none

pub sound_lane : (version : Version) (lines after : List (List ℕ)) (head : HeadValue) (end : ℕ) → IsOpened version lines head end → end < length lines → after ≡ drop (end + 1) lines → ((j : ℕ) → j < length after → lane_wrong version (targets_in lines) after j ≡ None) → (k : ℕ) → k < length lines → wrong_at version lines k ≡ None
sound_lane version lines after head end h lt is sound k below =
    let n : length after ≡ length (drop (end + 1) lines) = ap length is in
    let m : length (drop (end + 1) lines) ≡ length lines - (end + 1) = length-drop (end + 1) lines in
    before_place version lines after head end (length after) h lt is (omega arith) sound k (omega arith)

pub fault_lane : (version : Version) (lines after : List (List ℕ)) (head : HeadValue) (end : ℕ) (f : TextFault) → IsOpened version lines head end → end < length lines → after ≡ drop (end + 1) lines → IsFirstWrong (lane_wrong version (targets_in lines) after) (length after) (end + 2) f → IsFirstWrong (wrong_at version lines) (length lines) 1 f
fault_lane version lines after head end f h lt is first =
    let n : length after ≡ length (drop (end + 1) lines) = ap length is in
    let m : length (drop (end + 1) lines) ≡ length lines - (end + 1) = length-drop (end + 1) lines in
    let below : end + 1 + first.place < length lines = omega (arith, first.within) in
    let same : end + 2 + first.place ≡ 1 + (end + 1 + first.place) = omega arith in
    record {
      place = end + 1 + first.place;
      within = below;
      earlier = before_place version lines after head end first.place h lt is (omega arith) first.earlier;
      kind = first.kind;
      wrong = command_after version lines after head end first.place h below is ∙ first.wrong;
      is = first.is ∙ ap (λ p. fault_in p first.kind) same;
    }

-- the whole trace, whose first line is as it has to be
abbrev pub whole_wrong : List (List ℕ) → ℕ → Option FaultKind
whole_wrong lines place = trace_wrong (targets_in (drop 1 lines)) (take place lines) (get_or lines place [])

whole_sound : (first : List ℕ) (rest : List (List ℕ)) (n : ℕ) → is_first first ≡ true → ((k : ℕ) → k < n → wrong_at (version_of first) rest k ≡ None) → (k : ℕ) → k < suc n → whole_wrong (first ∷ rest) k ≡ None
whole_sound first rest n head sound zero lt = ap (λ b. cond b None (Some Header)) head
whole_sound first rest n head sound (suc k) lt = sound k (omega arith)

-- the version that a first line names
pub version-read : (line : List ℕ) (version : Version) → Some version ≡ cond (is_first line) (Some (version_of line)) None → (is_first line ≡ true) × (version ≡ version_of line)
version-read line version h = by (is_first line) h
  where
    by : (b : Bool) → Some version ≡ cond b (Some (version_of line)) None → (b ≡ true) × (version ≡ version_of line)
    by true h = (refl, let same : Some version ≡ Some (version_of line) = h in cc)
    by false h = absurd (let no : Some version ≡ None = h in cc)

pub trace_sound : (first : List ℕ) (rest : List (List ℕ)) → is_first first ≡ true → ((k : ℕ) → k < length rest → wrong_at (version_of first) rest k ≡ None) → first_fault (whole_wrong (first ∷ rest)) (length (first ∷ rest)) ≡ None
trace_sound first rest head sound = first_fault-none (whole_wrong (first ∷ rest)) (length (first ∷ rest)) (λ k lt. whole_sound first rest (length rest) head sound k (omega arith))

pub trace_first : (first : List ℕ) (rest : List (List ℕ)) (f : TextFault) → is_first first ≡ true → IsFirstWrong (wrong_at (version_of first) rest) (length rest) 1 f → first_fault (whole_wrong (first ∷ rest)) (length (first ∷ rest)) ≡ Some f
trace_first first rest f head h =
    let same : 1 + h.place ≡ suc h.place = omega arith in
    first_fault-some (whole_wrong (first ∷ rest)) (length (first ∷ rest)) (suc h.place) h.kind (omega (arith, h.within)) (whole_sound first rest h.place head h.earlier) h.wrong
    ∙ ap Some (sym (h.is ∙ ap (λ p. fault_in p h.kind) same))

pub trace_header : (first : List ℕ) (rest : List (List ℕ)) → is_first first ≡ false → first_fault (whole_wrong (first ∷ rest)) (length (first ∷ rest)) ≡ Some (fault_in 0 Header)
trace_header first rest head =
    first_fault-some (whole_wrong (first ∷ rest)) (length (first ∷ rest)) 0 Header (omega arith) (λ k lt. absurd (omega arith)) (ap (λ b. cond b None (Some Header)) head)

pub IsFirstWrong-length : (version : Version) (lines : List (List ℕ)) (n : ℕ) (f : TextFault) → length lines ≡ n → IsFirstWrong (wrong_at version lines) (length lines) 1 f → IsFirstWrong (wrong_at version lines) n 1 f
IsFirstWrong-length version lines n f e h =
    let P : ℕ → Type 0 = λ m. IsFirstWrong (wrong_at version lines) m 1 f in
    subst P e h
