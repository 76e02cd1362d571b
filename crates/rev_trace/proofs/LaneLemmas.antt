-- Lines of lanes, one more line of them.
use Rattle.std.proofs.Common.{◌≡◌, ℕ, zero, suc, ◌<◌, ◌≤◌, ◌+◌, ◌&&◌, Bool, true, false, not, cond, List, [], ◌∷◌, ◌++◌, length, get_or, take, fold, refl, sym, ap, ◌∙◌, subst, arith, ◌==◌, inl, inr, append_assoc, length-append, Option, Some, None, Result, Ok, Err}
use Rattle.std.proofs.lemmas.Bool.{cases_Bool, cases_eq, eqb-true, eq-eqb, false≢true, leb-true, ltb-true}
use Rattle.std.proofs.lemmas.List.{append-nil, ext_get_or, take_more}
use Rattle.std.proofs.lemmas.List.Elements.{filter_map-append}
use Rattle.std.proofs.lemmas.List.FromFn.{get_or-map-range_with_len, length-map-range_with_len}
use Rattle.std.proofs.lemmas.Grind.{fold-append}
use borrow.Author.Count.{below_more}
use Rattle.std.specs.List.{AllByRecursion}
use Rattle.std.specs.Prelude.{nat_lt}
use Rattle.std.specs.Result.{result_err, result_ok}
use Rattle.rev_commands.specs.declared.command.Command.{Command}
use Rattle.rev_fields.specs.declared.faults.FaultKind.{FaultKind}
use Rattle.rev_fields.specs.declared.faults.FaultKind.TheVariants.{Lane}
use Rattle.rev_fields.specs.Lines.{is_blank}
use Rattle.rev_trace.specs.declared.version.Version.{Version}
use Rattle.rev_trace.specs.declared.version.Version.TheVariants.{One, Two}
use Rattle.rev_trace.specs.Lanes.{is_lane, lane_behind, lane_in_turn, lane_line, lane_number, line_of_lane, lines_of_lane, opened, opened_by, opened_in, opened_of, opens_lane}
use Rattle.rev_trace.specs.Lists.{IsHeld, LanesValue, one_lane, with_lane}
use Rattle.rev_trace.specs.Traces.{commands_in, lane_wrong, lanes_from, wrong_in_lane}
use Rattle.rev_trace.specs.Versions.{held_line, may_name}
use Rattle.rev_trace.proofs.GrammarLemmas.{bind_ok}

-- the lane in which a line stands that follows these
abbrev pub lane_at : Option ℕ → List (List ℕ) → Option ℕ
lane_at lane lines = fold lane_behind lane lines

-- one more line

pub opened_more : (count : ℕ) (lines : List (List ℕ)) (i : ℕ) → i < length lines → opened_in count (take (i + 1) lines) ≡ opened_by (opened_in count (take i lines)) (get_or lines i [])
opened_more count lines i lt = ap (opened_in count) (take_more lines i [] lt) ∙ fold-append opened_by count (take i lines) (get_or lines i [] ∷ [])

lane_more : (lane : Option ℕ) (lines : List (List ℕ)) (i : ℕ) → i < length lines → lane_at lane (take (i + 1) lines) ≡ lane_behind (lane_at lane (take i lines)) (get_or lines i [])
lane_more lane lines i lt = ap (lane_at lane) (take_more lines i [] lt) ∙ fold-append lane_behind lane (take i lines) (get_or lines i [] ∷ [])

pub lines_of_lane-append : (n : ℕ) (lane : Option ℕ) (xs ys : List (List ℕ)) → lines_of_lane n lane (xs ++ ys) ≡ lines_of_lane n lane xs ++ lines_of_lane n (lane_at lane xs) ys
lines_of_lane-append n lane [] ys = refl
lines_of_lane-append n lane (x ∷ xs) ys =
    ap (λ l. line_of_lane n lane x ++ l) (lines_of_lane-append n (lane_behind lane x) xs ys)
    ∙ sym (append_assoc (line_of_lane n lane x) (lines_of_lane n (lane_behind lane x) xs) (lines_of_lane n (lane_at (lane_behind lane x) xs) ys))

pub commands_in-append : (version : Version) (targets xs ys : List (List ℕ)) → commands_in version targets (xs ++ ys) ≡ commands_in version targets xs ++ commands_in version targets ys
commands_in-append version targets xs ys = filter_map-append (λ line. result_ok (held_line version targets line)) xs ys

-- lines that name no lane

pub opened_by-closed : (count : ℕ) (line : List ℕ) → opens_lane line ≡ false → opened_by count line ≡ count
opened_by-closed count line closed = ap (λ b. cond b (opened_of count (lane_number line)) count) closed

pub lane_behind-closed : (lane : Option ℕ) (line : List ℕ) → opens_lane line ≡ false → lane_behind lane line ≡ lane
lane_behind-closed lane line closed = ap (λ b. cond b (result_ok (lane_number line)) lane) closed

pub line_of_lane-closed : (n : ℕ) (lane : Option ℕ) (line : List ℕ) → opens_lane line ≡ false → line_of_lane n lane line ≡ cond (is_lane n lane) (line ∷ []) []
line_of_lane-closed n lane line closed = ap (λ b. cond (is_lane n lane && not b) (line ∷ []) []) closed ∙ by (is_lane n lane)
  where
    by : (b : Bool) → cond (b && true) (line ∷ []) [] ≡ cond b (line ∷ []) []
    by true = refl
    by false = refl

pub opened_closed : (count : ℕ) (lines : List (List ℕ)) (i : ℕ) → i ≤ length lines → ((k : ℕ) → k < i → opens_lane (get_or lines k []) ≡ false) → opened_in count (take i lines) ≡ count
opened_closed count lines zero h none = refl
opened_closed count lines (suc i) h none =
    let e : suc i ≡ i + 1 = omega arith in
    ap (λ n. opened_in count (take n lines)) e ∙ opened_more count lines i (omega arith)
    ∙ opened_by-closed (opened_in count (take i lines)) (get_or lines i []) (none i (omega arith))
    ∙ opened_closed count lines i (omega arith) (λ k lt. none k (omega arith))

abbrev AreClosed : List (List ℕ) → Type 0
AreClosed lines = AllByRecursion (λ line. opens_lane line ≡ false) lines

pub opened_in-closed : (count : ℕ) (lines rest : List (List ℕ)) → AreClosed lines → opened_in count (lines ++ rest) ≡ opened_in count rest
opened_in-closed count [] rest all = refl
opened_in-closed count (line ∷ lines) rest all =
    ap (λ c. opened_in c (lines ++ rest)) (opened_by-closed count line all.0) ∙ opened_in-closed count lines rest all.1

pub lines_of_lane-closed : (n : ℕ) (lane : Option ℕ) (lines rest : List (List ℕ)) → AreClosed lines → lines_of_lane n lane (lines ++ rest) ≡ cond (is_lane n lane) lines [] ++ lines_of_lane n lane rest
lines_of_lane-closed n lane [] rest all = ap (λ l. l ++ lines_of_lane n lane rest) (sym (by (is_lane n lane)))
  where
    by : (b : Bool) → ◌≡◌ {A = List (List ℕ)} (cond b [] []) []
    by true = refl
    by false = refl
lines_of_lane-closed n lane (line ∷ lines) rest all =
    ap (λ l. line_of_lane n lane line ++ lines_of_lane n l (lines ++ rest)) (lane_behind-closed lane line all.0)
    ∙ ap (λ l. l ++ lines_of_lane n lane (lines ++ rest)) (line_of_lane-closed n lane line all.0)
    ∙ ap (λ l. cond (is_lane n lane) (line ∷ []) [] ++ l) (lines_of_lane-closed n lane lines rest all.1)
    ∙ by (is_lane n lane)
  where
    by : (b : Bool) → cond b (line ∷ []) [] ++ (cond b lines [] ++ lines_of_lane n lane rest) ≡ cond b (line ∷ lines) [] ++ lines_of_lane n lane rest
    by true = refl
    by false = refl

-- a line that names a lane

pub opened_by-named : (count n : ℕ) (line : List ℕ) → opens_lane line ≡ true → lane_number line ≡ Ok n → opened_by count line ≡ opened count n
opened_by-named count n line opens named = ap (λ b. cond b (opened_of count (lane_number line)) count) opens ∙ ap (opened_of count) named

pub lane_behind-named : (lane : Option ℕ) (n : ℕ) (line : List ℕ) → opens_lane line ≡ true → lane_number line ≡ Ok n → lane_behind lane line ≡ Some n
lane_behind-named lane n line opens named = ap (λ b. cond b (result_ok (lane_number line)) lane) opens ∙ ap result_ok named

pub line_of_lane-named : (n : ℕ) (lane : Option ℕ) (line : List ℕ) → opens_lane line ≡ true → line_of_lane n lane line ≡ []
line_of_lane-named n lane line opens = ap (λ b. cond (is_lane n lane && not b) (line ∷ []) []) opens ∙ by (is_lane n lane)
  where
    by : (b : Bool) → cond (b && false) (line ∷ []) [] ≡ []
    by true = refl
    by false = refl

-- a lane that may be named

pub in-turn : (version : Version) (count m n : ℕ) → lane_in_turn version count m ≡ Ok n → (may_name version count m ≡ true) × (m < 63) × (m ≡ n)
in-turn version count m n h =
    let parts = by (may_name version count m) (nat_lt m 63) h in (parts.0, ltb-true m 63 parts.1, parts.2)
  where
    by : (b w : Bool) → ◌≡◌ {A = Result ℕ FaultKind} (cond (b && w) (Ok m) (Err Lane)) (Ok n) → (b ≡ true) × (w ≡ true) × (m ≡ n)
    by true true h = (refl, refl, let same : ◌≡◌ {A = Result ℕ FaultKind} (Ok m) (Ok n) = h in cc)
    by true false h = absurd (let no : ◌≡◌ {A = Result ℕ FaultKind} (Err Lane) (Ok n) = h in cc)
    by false w h = absurd (let no : ◌≡◌ {A = Result ℕ FaultKind} (Err Lane) (Ok n) = h in cc)

pub turn-named : (version : Version) (count n : ℕ) (line : List ℕ) → lane_line version count line ≡ Ok n → (lane_number line ≡ Ok n) × (may_name version count n ≡ true) × (n < 63)
turn-named version count n line h =
    let m = bind_ok (lane_number line) (λ n. lane_in_turn version count n) n h in
    let turn = in-turn version count m.0 n m.2 in
    (m.1 ∙ ap Ok turn.2, ap (may_name version count) (sym turn.2) ∙ turn.0, omega (arith, turn.1, turn.2))

-- the first lane that is named is lane 0
may-zero : (version : Version) (n : ℕ) → may_name version 0 n ≡ true → n ≡ 0
may-zero One n h = eqb-true n 0 h
may-zero Two n h = let few = leb-true n 0 h in omega (arith, few)

answered : (r : Result ℕ FaultKind) → result_err r ≡ None → (n : ℕ) × (r ≡ Ok n)
answered (Ok n) h = (n, refl)
answered (Err kind) h = absurd (let no : Some kind ≡ None = h in cc)

pub named-first : (version : Version) (line : List ℕ) → result_err (lane_line version 0 line) ≡ None → lane_number line ≡ Ok 0
named-first version line h =
    let n = answered (lane_line version 0 line) h in
    let turn = turn-named version 0 n.0 line n.1 in
    turn.0 ∙ ap Ok (may-zero version n.0 turn.1)

-- a lane that may be named is opened, or is open
pub opened-past : (version : Version) (count n : ℕ) → may_name version count n ≡ true → n < opened count n
opened-past version count n h =
    elim (cases_eq n count) [
      | inl same ↦ let is : opened count n ≡ suc count = ap (λ b. cond b (suc count) count) (eq-eqb n count same) in omega (arith, is)
      | inr other ↦ by version h other
    ]
  where
    by : (version : Version) → may_name version count n ≡ true → (n ≡ count → ⊥) → n < opened count n
    by One h other = absurd (other (eqb-true n count h))
    by Two h other =
        let few = leb-true n count h in
        elim (cases_Bool (n == count)) [
          | inl same ↦ absurd (other (eqb-true n count same))
          | inr not ↦ let is : opened count n ≡ count = ap (λ b. cond b (suc count) count) not in omega (arith, is, few, other)
        ]

-- what a line adds

pub filled_from_lane : (line : List ℕ) → opens_lane line ≡ true → is_blank line ≡ false
filled_from_lane [] h = absurd (false≢true h)
filled_from_lane (b ∷ bs) h = refl

push-nothing : {X : Type 0} (xs : List (List X)) (k : ℕ) → get_or (xs ++ [] ∷ []) k [] ≡ get_or xs k []
push-nothing [] zero = refl
push-nothing [] (suc k) = refl
push-nothing (x ∷ xs) zero = refl
push-nothing (x ∷ xs) (suc k) = push-nothing xs k

grown-at : {X : Type 0} (b : Bool) (xs : List (List X)) (k : ℕ) → get_or (cond b (xs ++ [] ∷ []) xs) k [] ≡ get_or xs k []
grown-at true xs k = push-nothing xs k
grown-at false xs k = refl

grown : {X : Type 0} (b : Bool) (xs : List (List X)) → length (cond b (xs ++ [] ∷ []) xs) ≡ cond b (suc (length xs)) (length xs)
grown true xs = omega (arith, length-append xs ([] ∷ []))
grown false xs = refl

opened-few : (count n : ℕ) → n < 63 → count ≤ 63 → opened count n ≤ 63
opened-few count n lt few =
    elim (cases_Bool (n == count)) [
      | inl same ↦ let is : opened count n ≡ suc count = ap (λ b. cond b (suc count) count) same in omega (arith, is, eqb-true n count same)
      | inr not ↦ let is : opened count n ≡ count = ap (λ b. cond b (suc count) count) not in omega (arith, is)
    ]

pub held_lane : (version : Version) (targets : List (List ℕ)) (old : LanesValue) (line : List ℕ) (n : ℕ) → opens_lane line ≡ true → lane_line version (length old.lists) line ≡ Ok n → IsHeld version targets old line (with_lane old n)
held_lane version targets old line n opens said =
    let count = length old.lists in
    let turn = turn-named version count n line said in
    let many : length (with_lane old n).lists ≡ opened count n = grown (n == count) old.lists in
    record {
      sound = ap (λ b. cond b None (cond (opens_lane line) (result_err (lane_line version count line)) (result_err (held_line version targets line)))) (filled_from_lane line opens)
          ∙ ap (λ b. cond b (result_err (lane_line version count line)) (result_err (held_line version targets line))) opens ∙ ap result_err said;
      named_is = lane_behind-named (Some old.named) n line opens turn.0;
      named_in = omega (arith, many, opened-past version count n turn.1);
      many = many ∙ sym (opened_by-named count n line opens turn.0);
      few = λ h. omega (arith, many, opened-few count n turn.2 h);
      lists_are = λ k.
          grown-at (n == count) old.lists k ∙ sym (append-nil (get_or old.lists k []))
          ∙ ap (λ l. get_or old.lists k [] ++ commands_in version targets (l ++ [])) (sym (line_of_lane-named k (Some old.named) line opens));
    }

-- lanes of which so many lines are read
pub record ReadsLanes (version : Version) (targets lines : List (List ℕ)) (lanes : LanesValue) (count : ℕ) : Type 0 where
  pub named_is : lane_at (Some 0) (take count lines) ≡ Some lanes.named
  pub named_in : lanes.named < length lanes.lists
  pub many : length lanes.lists ≡ opened_in 1 (take count lines)
  pub few : length lanes.lists ≤ 63
  pub lists_are : (n : ℕ) → get_or lanes.lists n [] ≡ commands_in version targets (lines_of_lane n (Some 0) (take count lines))
  pub sound : (k : ℕ) → k < count → lane_wrong version targets lines k ≡ None

one-nothing : {X : Type 0} (n : ℕ) → get_or {A = List X} ([] ∷ []) n [] ≡ []
one-nothing zero = refl
one-nothing (suc n) = refl

pub reads_one : (version : Version) (targets lines : List (List ℕ)) (lanes : LanesValue) → lanes ≡ one_lane → ReadsLanes version targets lines lanes 0
reads_one version targets lines lanes e =
    let P : LanesValue → Type 0 = λ l. ReadsLanes version targets lines l 0 in
    subst P (sym e) (record {
      named_is = refl;
      named_in = omega arith;
      many = refl;
      few = omega arith;
      lists_are = one-nothing;
      sound = λ k lt. absurd (omega arith);
    })

pub reads_more : (version : Version) (targets lines : List (List ℕ)) (old new : LanesValue) (i : ℕ) → i < length lines → IsHeld version targets old (get_or lines i []) new → ReadsLanes version targets lines old i → ReadsLanes version targets lines new (i + 1)
reads_more version targets lines old new i lt held inv =
    let line = get_or lines i [] in
    record {
      named_is = lane_more (Some 0) lines i lt ∙ ap (λ l. lane_behind l line) inv.named_is ∙ held.named_is;
      named_in = held.named_in;
      many = held.many ∙ ap (λ c. opened_by c line) inv.many ∙ sym (opened_more 1 lines i lt);
      few = held.few inv.few;
      lists_are = λ n.
          held.lists_are n
          ∙ ap (λ l. l ++ commands_in version targets (lines_of_lane n (Some old.named) (line ∷ []))) (inv.lists_are n)
          ∙ ap (λ at. commands_in version targets (lines_of_lane n (Some 0) (take i lines)) ++ commands_in version targets (lines_of_lane n at (line ∷ []))) (sym inv.named_is)
          ∙ sym (commands_in-append version targets (lines_of_lane n (Some 0) (take i lines)) (lines_of_lane n (lane_at (Some 0) (take i lines)) (line ∷ [])))
          ∙ ap (commands_in version targets) (sym (lines_of_lane-append n (Some 0) (take i lines) (line ∷ [])))
          ∙ ap (λ l. commands_in version targets (lines_of_lane n (Some 0) l)) (sym (take_more lines i [] lt));
      sound = below_more (λ k. lane_wrong version targets lines k ≡ None) i inv.sound (ap (λ c. wrong_in_lane version targets c line) (sym inv.many) ∙ held.sound);
    }

pub reads_all : (version : Version) (targets lines : List (List ℕ)) (lanes : LanesValue) (count : ℕ) → take count lines ≡ lines → ReadsLanes version targets lines lanes count → lanes.lists ≡ lanes_from version targets 1 (Some 0) lines
reads_all version targets lines lanes count all inv =
    let f : ℕ → List Command = λ n. commands_in version targets (lines_of_lane n (Some 0) lines) in
    let many : length lanes.lists ≡ opened_in 1 lines = inv.many ∙ ap (opened_in 1) all in
    ext_get_or [] lanes.lists (lanes_from version targets 1 (Some 0) lines)
    (many ∙ sym (length-map-range_with_len f 0 (opened_in 1 lines)))
    (λ i lt.
    inv.lists_are i ∙ ap (λ l. commands_in version targets (lines_of_lane i (Some 0) l)) all
    ∙ sym (get_or-map-range_with_len f 0 (opened_in 1 lines) i i [] (omega (arith, many)) (omega arith)))
