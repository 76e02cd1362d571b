-- Lines that say an observation, read again.
use Rattle.std.proofs.Common.{◌≡◌, ℕ, zero, suc, ◌+◌, ◌-◌, ◌<◌, ◌≤◌, ◌^◌, ◌==◌, nat_lt, nat_le, Bool, true, false, not, cond, ◌&&◌, List, [], ◌∷◌, ◌++◌, length, map, set, slice_get, take, drop, refl, sym, ap, ◌∙◌, subst, arith, inl, inr, append_assoc, append-nil, add-one, length-append, Option, Some, None, is_none, Result, Ok, Err, if◌then◌else◌}
use Rattle.std.specs.Prelude.{codes, position}
use Rattle.std.specs.Fmt.{decimal}
use Rattle.std.specs.Option.{ForSome}
use Rattle.std.proofs.lemmas.List.{map-append}
use Rattle.std.proofs.lemmas.Bool.{and_from, and_parts, cases_Bool, eqb-true, false≢true, le-leb, lt-ltb, le-ltb}
use Rattle.std.proofs.lemmas.Fmt.{digits_decimal}
use Rattle.std.proofs.lemmas.Str.Parse.{IsNumeralModel, numerals_by_value, tells_all_ascii_digits}
use Rattle.std.specs.Char.{is_ascii_digit}
use Rattle.std.specs.Str.{all_ascii_digits}
use Rattle.std.specs.Str.Parse.{digits_value}
use Rattle.std.specs.List.{AllByRecursion, flat_map, list_all, list_any, position_or_len}
use Rattle.rev_paths.specs.Canonical.{IsCanonical, canonical}
use Rattle.rev_fields.specs.declared.faults.FaultKind.TheVariants as field
use Rattle.rev_fields.specs.Faults.{each_of, ◌>>=◌ as ◌>>>=◌}
use Rattle.rev_fields.specs.Lines.{path_of}
use Rattle.rev_fields.specs.Numbers.{number_below}
use Rattle.rev_fields.proofs.LawLemmas.{lines-are-read, numbers-are-read}
use Rattle.rev_fields.proofs.NumberLemmas.{list_all-digits}
use Rattle.rev_observed.specs.declared.command.Uses.{Uses}
use Rattle.rev_observed.specs.declared.faults.FaultKind.{FaultKind}
use Rattle.rev_observed.specs.declared.faults.FaultKind.TheVariants.{Syntax, Range, Double}
use Rattle.rev_observed.specs.declared.flags.Flags.{Flags}
use Rattle.rev_observed.specs.declared.kind.Kind.{Kind}
use Rattle.rev_observed.specs.declared.kind.Kind.TheVariants.{Reads, Stats, Misses, Lists, Writes, Edits, Deletes, Temps, Folders}
use Rattle.rev_observed.specs.declared.path_set.PathRange.{PathRange}
use Rattle.rev_observed.specs.declared.word.Word.TheVariants as word
use Rattle.rev_observed.proofs.CommandLemmas.{outputs_of-push}
use Rattle.rev_observed.proofs.SetLemmas.{each_weaker}
use Rattle.rev_observed.specs.CommandValues.{AreUses, CommandValue, may_take, new_command, with_outside, with_uses}
use Rattle.rev_observed.specs.Faults.{◌>>=◌, of_fields}
use Rattle.rev_observed.specs.Laws.{SaidLinesAreRead}
use Rattle.rev_observed.specs.Kinds.{rank_of}
use Rattle.rev_observed.specs.Lines.{added_by, by_said, count_said, is_empty, line_added, or_syntax, outside_behind, set_of, set_said, texts_added, uses_behind}
use Rattle.rev_observed.specs.Observations.{ObservationValue, command_put, commands_put, has_name, last_of, nothing_by, outputs_of, path_put, with_commands, with_last}
use Rattle.rev_observed.specs.PathSets.{AreRising, are_rising, are_rising_from}
use Rattle.rev_observed.specs.Ranges.{number_of, range_between, range_of, range_parted, ranges_of}
use Rattle.rev_observed.specs.Says.{LinesSay, NoLine, OneLine, Says}
use Rattle.rev_observed.specs.Texts.{AreFresh, IsCommand, IsObservation, IsRange, IsUses, command_texts, edge_texts, flag_texts, line_text, lines_text, outside_texts, path_texts, range_text, uses_texts}
use Rattle.rev_observed.specs.Within.{RangesAreWithin, are_within}
use Rattle.rev_observed.specs.Words.{flags_said, kind_text, word_of}

path-read : (p : List ℕ) → IsCanonical p → path_of p ≡ Ok p
path-read [] h = let some = h.some in absurd (omega (arith, some))
path-read (b ∷ bs) h =
    let p : List ℕ = b ∷ bs in
    ap (λ t. cond t (Err field.Syntax) (Ok (canonical p))) (le-ltb 4096 (length p) h.few) ∙ ap Ok h.own

-- a line is read as the texts of its fields
pub line_said : (o : ObservationValue) (texts : List (List ℕ)) (r : Result ObservationValue FaultKind) → 0 < length texts → texts_added o texts ≡ r → line_added o (line_text texts) ≡ r
line_said o texts r some e = ap (λ t. or_syntax t >>= λ ts. texts_added o ts) (lines-are-read texts some) ∙ e

word-read : (kind : Kind) → word_of (kind_text kind) ≡ Some (word.Kind kind)
word-read Reads = refl
word-read Stats = refl
word-read Misses = refl
word-read Lists = refl
word-read Writes = refl
word-read Edits = refl
word-read Deletes = refl
word-read Temps = refl
word-read Folders = refl

-- a path's line
pub path-said : (o : ObservationValue) (path : List ℕ) → o.commands ≡ [] → IsCanonical path → has_name o.paths path ≡ false → texts_added o (path_texts path) ≡ Ok (record o { paths = o.paths ++ path ∷ [] })
path-said o path none canonical fresh =
    ap (λ cs. if is_empty cs then (of_fields (path_of path) >>= λ path. path_put o path) else Err Syntax) none
    ∙ ap (λ r. of_fields r >>= λ path. path_put o path) (path-read path canonical)
    ∙ ap (λ b. if b then Err Double else Ok (record o { paths = o.paths ++ path ∷ [] })) fresh

-- the words of flags are read as these flags
abbrev flags : Bool → Bool → Bool → Bool → Bool → Bool → Flags
flags a b c d e f = record { cut = a; server = b; namespace = c; uring = d; unresolved = e; twin = f }

flags_read-0 : (d e f : Bool) → flags_said (flag_texts (flags true true true d e f)) ≡ Some (flags true true true d e f)
flags_read-0 true true true = refl
flags_read-0 true true false = refl
flags_read-0 true false true = refl
flags_read-0 true false false = refl
flags_read-0 false true true = refl
flags_read-0 false true false = refl
flags_read-0 false false true = refl
flags_read-0 false false false = refl

flags_read-1 : (d e f : Bool) → flags_said (flag_texts (flags true true false d e f)) ≡ Some (flags true true false d e f)
flags_read-1 true true true = refl
flags_read-1 true true false = refl
flags_read-1 true false true = refl
flags_read-1 true false false = refl
flags_read-1 false true true = refl
flags_read-1 false true false = refl
flags_read-1 false false true = refl
flags_read-1 false false false = refl

flags_read-2 : (d e f : Bool) → flags_said (flag_texts (flags true false true d e f)) ≡ Some (flags true false true d e f)
flags_read-2 true true true = refl
flags_read-2 true true false = refl
flags_read-2 true false true = refl
flags_read-2 true false false = refl
flags_read-2 false true true = refl
flags_read-2 false true false = refl
flags_read-2 false false true = refl
flags_read-2 false false false = refl

flags_read-3 : (d e f : Bool) → flags_said (flag_texts (flags true false false d e f)) ≡ Some (flags true false false d e f)
flags_read-3 true true true = refl
flags_read-3 true true false = refl
flags_read-3 true false true = refl
flags_read-3 true false false = refl
flags_read-3 false true true = refl
flags_read-3 false true false = refl
flags_read-3 false false true = refl
flags_read-3 false false false = refl

flags_read-4 : (d e f : Bool) → flags_said (flag_texts (flags false true true d e f)) ≡ Some (flags false true true d e f)
flags_read-4 true true true = refl
flags_read-4 true true false = refl
flags_read-4 true false true = refl
flags_read-4 true false false = refl
flags_read-4 false true true = refl
flags_read-4 false true false = refl
flags_read-4 false false true = refl
flags_read-4 false false false = refl

flags_read-5 : (d e f : Bool) → flags_said (flag_texts (flags false true false d e f)) ≡ Some (flags false true false d e f)
flags_read-5 true true true = refl
flags_read-5 true true false = refl
flags_read-5 true false true = refl
flags_read-5 true false false = refl
flags_read-5 false true true = refl
flags_read-5 false true false = refl
flags_read-5 false false true = refl
flags_read-5 false false false = refl

flags_read-6 : (d e f : Bool) → flags_said (flag_texts (flags false false true d e f)) ≡ Some (flags false false true d e f)
flags_read-6 true true true = refl
flags_read-6 true true false = refl
flags_read-6 true false true = refl
flags_read-6 true false false = refl
flags_read-6 false true true = refl
flags_read-6 false true false = refl
flags_read-6 false false true = refl
flags_read-6 false false false = refl

flags_read-7 : (d e f : Bool) → flags_said (flag_texts (flags false false false d e f)) ≡ Some (flags false false false d e f)
flags_read-7 true true true = refl
flags_read-7 true true false = refl
flags_read-7 true false true = refl
flags_read-7 true false false = refl
flags_read-7 false true true = refl
flags_read-7 false true false = refl
flags_read-7 false false true = refl
flags_read-7 false false false = refl

pub flags-read : (f : Flags) → flags_said (flag_texts f) ≡ Some f
flags-read f = by f.cut f.server f.namespace
  where
    by : (a b c : Bool) → flags_said (flag_texts (flags a b c f.uring f.unresolved f.twin)) ≡ Some (flags a b c f.uring f.unresolved f.twin)
    by true true true = flags_read-0 f.uring f.unresolved f.twin
    by true true false = flags_read-1 f.uring f.unresolved f.twin
    by true false true = flags_read-2 f.uring f.unresolved f.twin
    by true false false = flags_read-3 f.uring f.unresolved f.twin
    by false true true = flags_read-4 f.uring f.unresolved f.twin
    by false true false = flags_read-5 f.uring f.unresolved f.twin
    by false false true = flags_read-6 f.uring f.unresolved f.twin
    by false false false = flags_read-7 f.uring f.unresolved f.twin

-- an edge's line
pub edge-said : (o : ObservationValue) (output : List ℕ) (flags : Flags) → IsCanonical output → has_name (outputs_of o.commands) output ≡ false → texts_added o (codes "edge" ∷ output ∷ flag_texts flags) ≡ Ok (with_commands o (o.commands ++ new_command output flags ∷ []))
edge-said o output flags canonical fresh =
    let made : List CommandValue → Result ObservationValue FaultKind = λ cs. Ok (with_commands o cs) in
    ap (λ r. of_fields r >>= λ out. or_syntax (flags_said (flag_texts flags)) >>= λ fs. commands_put o.commands out fs >>= made) (path-read output canonical)
    ∙ ap (λ s. or_syntax s >>= λ fs. commands_put o.commands output fs >>= made) (flags-read flags)
    ∙ ap (λ b. (if b then Err Double else Ok (o.commands ++ new_command output flags ∷ [])) >>= made) fresh

-- decimal digits
own : IsNumeralModel (λ ds. all_ascii_digits ds ≡ true) (digits_value 10)
own = numerals_by_value (λ ds. all_ascii_digits ds ≡ true) tells_all_ascii_digits

digits-of : (n : ℕ) → n < 2 ^ 64 → list_all is_ascii_digit (decimal n) ≡ true
digits-of n h = sym (list_all-digits (decimal n)) ∙ digits_decimal own n h

abbrev is_dash : ℕ → Bool
is_dash b = b == 45

digit-no_dash : (b : ℕ) → is_ascii_digit b ≡ true → is_dash b ≡ false
digit-no_dash b h =
    elim (cases_Bool (b == 45)) [
      | inl same ↦ let e : b ≡ 45 = eqb-true b 45 same in let never : false ≡ true = sym (ap is_ascii_digit e) ∙ h in absurd (false≢true never)
      | inr other ↦ other
    ]

-- where the first dash stands
no_dash : (ds : List ℕ) → list_all is_ascii_digit ds ≡ true → position_or_len is_dash ds ≡ length ds
no_dash [] h = refl
no_dash (d ∷ ds) h =
    let parts = and_parts (is_ascii_digit d) (list_all is_ascii_digit ds) h in
    let rest : position_or_len is_dash ds ≡ length ds = no_dash ds parts.1 in
    ap (λ b. cond (not b) (1 + position_or_len is_dash ds) 0) (digit-no_dash d parts.0) ∙ omega (arith, rest)

dash_behind : (ds rest : List ℕ) → list_all is_ascii_digit ds ≡ true → position_or_len is_dash (ds ++ 45 ∷ rest) ≡ length ds
dash_behind [] rest h = refl
dash_behind (d ∷ ds) rest h =
    let parts = and_parts (is_ascii_digit d) (list_all is_ascii_digit ds) h in
    let behind : position_or_len is_dash (ds ++ 45 ∷ rest) ≡ length ds = dash_behind ds rest parts.1 in
    ap (λ b. cond (not b) (1 + position_or_len is_dash (ds ++ 45 ∷ rest)) 0) (digit-no_dash d parts.0) ∙ omega (arith, behind)

take_before : (xs ys : List ℕ) → take (length xs) (xs ++ ys) ≡ xs
take_before [] [] = refl
take_before [] (y ∷ ys) = refl
take_before (x ∷ xs) ys = ap (λ l. x ∷ l) (take_before xs ys)

drop_behind : (xs ys : List ℕ) (y : ℕ) → drop (suc (length xs)) (xs ++ y ∷ ys) ≡ ys
drop_behind [] ys y = refl
drop_behind (x ∷ xs) ys y = drop_behind xs ys y

number-read : (n : ℕ) → n < 2 ^ 32 → number_of (decimal n) ≡ Ok n
number-read n h = numbers-are-read (2 ^ 32) n (omega arith) h

alone-read : (n : ℕ) → n < 2 ^ 32 → range_of (decimal n) ≡ Ok (record { first = n; last = n })
alone-read n h =
    let ds : List ℕ = decimal n in
    let at : position_or_len is_dash ds ≡ length ds = no_dash ds (digits-of n (omega arith)) in
    let none : position is_dash ds ≡ None = ap (λ k. cond (nat_lt k (length ds)) (Some k) None) at ∙ ap (λ b. cond b (Some (length ds)) None) (le-ltb (length ds) (length ds) (omega arith)) in
    ap (range_parted ds) none ∙ ap (λ r. r >>>= λ n. Ok (record { first = n; last = n })) (number-read n h)

between-read : (m n : ℕ) → m < 2 ^ 32 → n < 2 ^ 32 → range_of (decimal m ++ 45 ∷ decimal n) ≡ Ok (record { first = m; last = n })
between-read m n low high =
    let front : List ℕ = decimal m in
    let text : List ℕ = decimal m ++ 45 ∷ decimal n in
    let k : ℕ = length front in
    let at : position_or_len is_dash text ≡ k = dash_behind front (decimal n) (digits-of m (omega arith)) in
    let inside : k < length text = omega (arith, length-append front (45 ∷ decimal n)) in
    let some : position is_dash text ≡ Some k = ap (λ k. cond (nat_lt k (length text)) (Some k) None) at ∙ ap (λ b. cond b (Some k) None) (lt-ltb k (length text) inside) in
    ap (range_parted text) some
    ∙ ap (λ t. range_between t (drop (k + 1) text)) (take_before front (45 ∷ decimal n))
    ∙ ap (λ t. range_between front t) (ap (λ j. drop j text) (add-one k) ∙ drop_behind front (decimal n) 45)
    ∙ ap (λ r. r >>>= λ m. number_of (decimal n) >>>= λ n. Ok (record { first = m; last = n })) (number-read m low)
    ∙ ap (λ r. r >>>= λ n. Ok (record { first = m; last = n })) (number-read n high)

range-read : (r : PathRange) → IsRange r → range_of (range_text r) ≡ Ok r
range-read r h =
    by (r.first == r.last) refl
  where
    by : (b : Bool) → (r.first == r.last) ≡ b → range_of (range_text r) ≡ Ok r
    by true e =
        let same : r.first ≡ r.last = eqb-true r.first r.last e in
        ap (λ b. range_of (if b then decimal r.first else decimal r.first ++ 45 ∷ decimal r.last)) e ∙ alone-read r.first (omega (arith, h.order, h.short)) ∙ ap (λ n. Ok (record { first = r.first; last = n })) same
    by false e =
        ap (λ b. range_of (if b then decimal r.first else decimal r.first ++ 45 ∷ decimal r.last)) e ∙ between-read r.first r.last (omega (arith, h.order, h.short)) h.short

ranges-read : (rs : List PathRange) → AllByRecursion IsRange rs → ranges_of (map range_text rs) ≡ Ok rs
ranges-read [] h = refl
ranges-read (r ∷ rs) h =
    ap (λ s. s >>>= λ b. each_of range_of (map range_text rs) >>>= λ bs. Ok (b ∷ bs)) (range-read r h.0)
    ∙ ap (λ s. s >>>= λ bs. Ok (r ∷ bs)) (ranges-read rs h.1)

-- ranges that rise pass the test
rising-test : (least : ℕ) (rs : List PathRange) → AreRising rs → AllByRecursion (λ (s : PathRange). least ≤ s.first) rs → are_rising_from least rs ≡ true
rising-test least [] h from = refl
rising-test least (r ∷ rs) h from =
    let above : PathRange → Type 0 = λ s. r.last < s.first in
    let next : PathRange → Type 0 = λ s. r.last + 1 ≤ s.first in
    and_from (nat_le least r.first && nat_le r.first r.last) (are_rising_from (r.last + 1) rs)
    (and_from (nat_le least r.first) (nat_le r.first r.last) (le-leb least r.first from.0) (le-leb r.first r.last h.0))
    (rising-test (r.last + 1) rs h.2 (each_weaker above next (λ s p. omega (arith, p)) rs h.1))

from_zero : (rs : List PathRange) → AllByRecursion (λ (s : PathRange). 0 ≤ s.first) rs
from_zero [] = tt
from_zero (r ∷ rs) = (omega arith, from_zero rs)

within-test : (count : ℕ) (rs : List PathRange) → RangesAreWithin count rs → are_within count rs ≡ true
within-test count [] h = refl
within-test count (r ∷ rs) h =
    and_from (nat_lt r.last count) (are_within count rs) (lt-ltb r.last count h.0) (within-test count rs h.1)

set-read : (count : ℕ) (rs : List PathRange) → 0 < length rs → AreRising rs → RangesAreWithin count rs → set_of count rs ≡ Ok rs
set-read count [] some h w = absurd (omega arith)
set-read count (r ∷ rs) some h w =
    ap (λ b. if b && are_within count (r ∷ rs) then Ok (r ∷ rs) else Err Range) (rising-test 0 (r ∷ rs) h (from_zero (r ∷ rs)))
    ∙ ap (λ b. if b then Ok (r ∷ rs) else Err Range) (within-test count (r ∷ rs) w)

-- the last of commands
last-push : (cs : List CommandValue) (c : CommandValue) → last_of (cs ++ c ∷ []) ≡ Some c
last-push cs c =
    let many : length (cs ++ c ∷ []) - 1 ≡ length cs = omega (arith, length-append cs (c ∷ [])) in
    ap (slice_get (cs ++ c ∷ [])) many ∙ at_end cs
  where
    at_end : (cs : List CommandValue) → slice_get (cs ++ c ∷ []) (length cs) ≡ Some c
    at_end [] = refl
    at_end (x ∷ xs) = at_end xs

with_last-push : (cs : List CommandValue) (c d : CommandValue) → with_last (cs ++ c ∷ []) d ≡ cs ++ d ∷ []
with_last-push cs c d =
    let many : length (cs ++ c ∷ []) - 1 ≡ length cs = omega (arith, length-append cs (c ∷ [])) in
    ap (λ k. set (cs ++ c ∷ []) k d) many ∙ at_end cs
  where
    at_end : (cs : List CommandValue) → set (cs ++ c ∷ []) (length cs) d ≡ cs ++ d ∷ []
    at_end [] = refl
    at_end (x ∷ xs) = ap (λ l. x ∷ l) (at_end xs)

-- what a line of the last command adds
pub uses-said : (o : ObservationValue) (before : List CommandValue) (c : CommandValue) (u : Uses) → o.commands ≡ before ++ c ∷ [] → may_take u.kind c ≡ true → 0 < length u.paths → AreRising u.paths → AllByRecursion IsRange u.paths → RangesAreWithin (length o.paths) u.paths → texts_added o (uses_texts u) ≡ Ok (with_commands o (before ++ with_uses c u.kind u.paths ∷ []))
uses-said o before c u is turn some rising ranges inside =
    let texts : List (List ℕ) = map range_text u.paths in
    let last : last_of o.commands ≡ Some c = ap last_of is ∙ last-push before c in
    let made : List PathRange → Result ObservationValue FaultKind = λ ranges. Ok (with_commands o (with_last o.commands (with_uses c u.kind ranges))) in
    ap (λ w. added_by o w texts) (word-read u.kind) ∙ ap (uses_behind o u.kind texts) last
    ∙ ap (λ b. if b then (set_said (length o.paths) texts >>= made) else Err Syntax) turn
    ∙ ap (λ r. of_fields r >>= (λ ranges. set_of (length o.paths) ranges) >>= made) (ranges-read u.paths ranges)
    ∙ ap (λ r. r >>= made) (set-read (length o.paths) u.paths some rising inside)
    ∙ ap (λ cs. Ok (with_commands o cs)) (ap (λ cs. with_last cs (with_uses c u.kind u.paths)) is ∙ with_last-push before c (with_uses c u.kind u.paths))

pub outside-said : (o : ObservationValue) (before : List CommandValue) (c : CommandValue) (n : ℕ) → o.commands ≡ before ++ c ∷ [] → c.outside ≡ None → n < 2 ^ 64 → texts_added o (codes "outside" ∷ decimal n ∷ []) ≡ Ok (with_commands o (before ++ with_outside c n ∷ []))
outside-said o before c n is none small =
    let texts : List (List ℕ) = decimal n ∷ [] in
    let made : ℕ → Result ObservationValue FaultKind = λ n. Ok (with_commands o (with_last o.commands (with_outside c n))) in
    let last : last_of o.commands ≡ Some c = ap last_of is ∙ last-push before c in
    ap (outside_behind o texts) last ∙ ap (λ s. if is_none s then (count_said texts >>= made) else Err Syntax) none
    ∙ ap (λ r. of_fields r >>= made) (numbers-are-read (2 ^ 64) n (omega arith) small)
    ∙ ap (λ cs. Ok (with_commands o cs)) (ap (λ cs. with_last cs (with_outside c n)) is ∙ with_last-push before c (with_outside c n))

-- lines that say something, and then others
says-append : {o p q : ObservationValue} {xs ys : List (List ℕ)} → Says o xs p → Says p ys q → Says o (xs ++ ys) q
says-append NoLine t = t
says-append (OneLine e s) t = OneLine e (says-append s t)

says-paths : (o : ObservationValue) (paths : List (List ℕ)) → o.commands ≡ [] → AllByRecursion IsCanonical paths → AreFresh o.paths paths → Says o (map line_text (map path_texts paths)) (record o { paths = o.paths ++ paths })
says-paths o [] none canonical fresh =
    let P : ObservationValue → Type 0 = λ p. Says o [] p in
    subst P (ap (λ ps. record o { paths = ps }) (sym (append-nil o.paths))) NoLine
says-paths o (p ∷ ps) none canonical fresh =
    let next : ObservationValue = record o { paths = o.paths ++ p ∷ [] } in
    let P : List (List ℕ) → Type 0 = λ l. Says o (map line_text (map path_texts (p ∷ ps))) (record o { paths = l }) in
    subst P (append_assoc o.paths (p ∷ []) ps)
    (OneLine (line_said o (path_texts p) (Ok next) (omega arith) (path-said o p none canonical.0 fresh.0)) (says-paths next ps none canonical.1 fresh.1))

-- kinds that stand above those before them
lesser_front : (us : List Uses) (u : Uses) (vs : List Uses) → AreUses (us ++ u ∷ vs) → list_all (λ (v : Uses). nat_lt (rank_of v.kind) (rank_of u.kind)) us ≡ true
lesser_front [] u vs h = refl
lesser_front (v ∷ us) u vs h =
    and_from (nat_lt (rank_of v.kind) (rank_of u.kind)) (list_all (λ (v : Uses). nat_lt (rank_of v.kind) (rank_of u.kind)) us)
    (lt-ltb (rank_of v.kind) (rank_of u.kind) (middle us h.1)) (lesser_front us u vs h.2)
  where
    middle : (us : List Uses) → AllByRecursion (λ (w : Uses). rank_of v.kind < rank_of w.kind) (us ++ u ∷ vs) → rank_of v.kind < rank_of u.kind
    middle [] h = h.0
    middle (w ∷ us) h = middle us h.1

some_path : (us : List Uses) (u : Uses) (vs : List Uses) → AreUses (us ++ u ∷ vs) → 0 < length u.paths
some_path [] u vs h = h.0
some_path (v ∷ us) u vs h = some_path us u vs h.2

says-uses : (o : ObservationValue) (before : List CommandValue) (c : CommandValue) (us : List Uses) → o.commands ≡ before ++ c ∷ [] → c.outside ≡ None → AreUses (c.uses ++ us) → AllByRecursion (IsUses (length o.paths)) us → Says o (map line_text (map uses_texts us)) (with_commands o (before ++ (record c { uses = c.uses ++ us }) ∷ []))
says-uses o before c [] is none uses all =
    let P : List CommandValue → Type 0 = λ cs. Says o [] (with_commands o cs) in
    subst P (is ∙ ap (λ us. before ++ (record c { uses = us }) ∷ []) (sym (append-nil c.uses))) NoLine
says-uses o before c (u ∷ us) is none uses all =
    let d : CommandValue = with_uses c u.kind u.paths in
    let next : ObservationValue = with_commands o (before ++ d ∷ []) in
    let turn : may_take u.kind c ≡ true = ap (λ s. is_none s && list_all (λ (v : Uses). nat_lt (rank_of v.kind) (rank_of u.kind)) c.uses) none ∙ lesser_front c.uses u us uses in
    let P : List Uses → Type 0 = λ l. Says o (map line_text (map uses_texts (u ∷ us))) (with_commands o (before ++ (record c { uses = l }) ∷ [])) in
    let Q : List Uses → Type 0 = λ l. AreUses l in
    subst P (append_assoc c.uses (u ∷ []) us)
    (OneLine (line_said o (uses_texts u) (Ok next) (omega arith) (uses-said o before c u is turn (some_path c.uses u us uses) all.0.rising all.0.ranges all.0.inside))
    (says-uses next before d us refl none (subst Q (sym (append_assoc c.uses (u ∷ []) us)) uses) all.1))

says-outside : (o : ObservationValue) (before : List CommandValue) (c : CommandValue) (outside : Option ℕ) → o.commands ≡ before ++ c ∷ [] → c.outside ≡ None → ForSome outside (λ n. n < 2 ^ 64) → Says o (map line_text (outside_texts outside)) (with_commands o (before ++ (record c { outside = outside }) ∷ []))
says-outside o before c None is none small =
    let P : List CommandValue → Type 0 = λ cs. Says o [] (with_commands o cs) in
    subst P (is ∙ ap (λ s. before ++ (record c { outside = s }) ∷ []) none) NoLine
says-outside o before c (Some n) is none small =
    OneLine (line_said o (codes "outside" ∷ decimal n ∷ []) (Ok (with_commands o (before ++ with_outside c n ∷ []))) (omega arith) (outside-said o before c n is none (small n refl))) NoLine

says-command : (o : ObservationValue) (c : CommandValue) → IsCommand (length o.paths) c → has_name (outputs_of o.commands) c.output ≡ false → Says o (map line_text (command_texts c)) (with_commands o (o.commands ++ c ∷ []))
says-command o c h fresh =
    let begun : CommandValue = new_command c.output c.flags in
    let after_edge : ObservationValue = with_commands o (o.commands ++ begun ∷ []) in
    let done : CommandValue = record begun { uses = c.uses } in
    let after_uses : ObservationValue = with_commands o (o.commands ++ done ∷ []) in
    let first = line_said o (edge_texts c) (Ok after_edge) (omega arith) (edge-said o c.output c.flags h.canonical fresh) in
    let uses = says-uses after_edge o.commands begun c.uses refl refl h.uses h.inside in
    let outside = says-outside after_uses o.commands done c.outside refl refl h.outside in
    let P : List (List ℕ) → Type 0 = λ ls. Says after_edge ls (with_commands o (o.commands ++ c ∷ [])) in
    OneLine first (subst P (sym (map-append line_text (map uses_texts c.uses) (outside_texts c.outside))) (says-append uses outside))

-- commands whose edges have none yet, one after the other
says-commands : (o : ObservationValue) (cs : List CommandValue) → AllByRecursion (IsCommand (length o.paths)) cs → AreFresh (outputs_of o.commands) (outputs_of cs) → Says o (map line_text (flat_map command_texts cs)) (with_commands o (o.commands ++ cs))
says-commands o [] all fresh =
    let P : List CommandValue → Type 0 = λ cs. Says o [] (with_commands o cs) in
    subst P (sym (append-nil o.commands)) NoLine
says-commands o (c ∷ cs) all fresh =
    let next : ObservationValue = with_commands o (o.commands ++ c ∷ []) in
    let F : List (List ℕ) → Type 0 = λ names. AreFresh names (outputs_of cs) in
    let P : List CommandValue → Type 0 = λ l. Says o (map line_text (command_texts c ++ flat_map command_texts cs)) (with_commands o l) in
    let Q : List (List ℕ) → Type 0 = λ ls. Says o ls (with_commands next (next.commands ++ cs)) in
    let rest = says-commands next cs all.1 (subst F (sym (outputs_of-push o.commands c)) fresh.1) in
    subst P (append_assoc o.commands (c ∷ []) cs) (subst Q (sym (map-append line_text (command_texts c) (flat_map command_texts cs))) (says-append (says-command o c all.0 fresh.0) rest))

-- the lines of an observation say it
pub lines-say : (o : ObservationValue) → IsObservation o → LinesSay (lines_text o) o
lines-say o h =
    let start : ObservationValue = nothing_by o.by in
    let behind : ObservationValue = record start { paths = o.paths } in
    let texts : List (List ℕ) = codes "by" ∷ o.by ∷ [] in
    let P : List (List ℕ) → Type 0 = λ ls. Says start ls o in
    record {
      second = line_text texts;
      rest = map line_text (map path_texts o.paths ++ flat_map command_texts o.commands);
      by = o.by;
      whole = refl;
      observer = ap (λ t. or_syntax t >>= λ ts. by_said ts) (lines-are-read texts (omega arith));
      says = subst P (sym (map-append line_text (map path_texts o.paths) (flat_map command_texts o.commands)))
          (says-append (says-paths start o.paths refl h.canonical h.fresh_paths) (says-commands behind o.commands h.commands h.fresh_outputs));
    }

pub said-lines-are-read : SaidLinesAreRead
said-lines-are-read o h = lines-say o h
