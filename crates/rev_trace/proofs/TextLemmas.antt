-- Lines of commands, read again.
use Rattle.std.proofs.Common.{◌≡◌, ℕ, zero, suc, ◌<◌, ◌^◌, ◌==◌, true, false, cond, List, [], ◌∷◌, ◌++◌, length, map, refl, sym, ap, ◌∙◌, arith, inl, inr, append_assoc, length-append, Some, None, Result, Ok, Err}
use Rattle.std.proofs.lemmas.Bool.{and_parts, cases_Bool, eqb-true, false≢true, le-ltb}
use Rattle.std.proofs.lemmas.Fmt.{decimal_nonempty, digits_decimal}
use Rattle.std.proofs.lemmas.List.Concat.{flat_map-append}
use Rattle.std.proofs.lemmas.List.Splits.{slice_split_at, slice_split_none}
use Rattle.std.proofs.lemmas.Str.Parse.{IsNumeralModel, numerals_by_value, tells_all_ascii_digits}
use Rattle.std.specs.Char.{is_ascii_digit}
use Rattle.std.specs.Str.{all_ascii_digits}
use Rattle.std.specs.Str.Parse.{digits_value}
use Rattle.std.specs.Prelude.{codes}
use Rattle.std.specs.Fmt.{decimal}
use Rattle.std.specs.List.{All, flat_map, list_all}
use Rattle.rev_paths.specs.Canonical.{IsCanonical, canonical}
use Rattle.rev_events.specs.declared.event.Event.{Event}
use Rattle.rev_events.specs.declared.event.Event.TheVariants as event
use Rattle.rev_events.specs.declared.event.Listing.{Listing}
use Rattle.rev_events.specs.declared.event.Listing.TheVariants as listing
use Rattle.rev_fields.specs.declared.faults.FaultKind.{FaultKind}
use Rattle.rev_fields.specs.declared.faults.FaultKind.TheVariants.{Syntax}
use Rattle.rev_fields.specs.Faults.{◌>>=◌}
use Rattle.rev_fields.specs.Fields.{field_text, line_of, spaced, written_byte}
use Rattle.rev_fields.specs.Lines.{path_of, paths_of, read_as}
use Rattle.rev_fields.specs.Numbers.{numbers_below, numbers_text}
use Rattle.rev_fields.proofs.LawLemmas.{lines-are-read, numbers-are-read, number-lists-are-read, number-field, numbers-field}
use Rattle.rev_commands.specs.declared.command.Command.{Command}
use Rattle.rev_commands.specs.declared.command.Command.TheVariants as command
use Rattle.rev_commands.specs.declared.point.Point.{Point}
use Rattle.rev_commands.specs.declared.point.Point.TheVariants as point
use Rattle.rev_commands.specs.declared.which.Which.{Which}
use Rattle.rev_commands.specs.declared.which.Which.TheVariants as which
use Rattle.rev_fields.proofs.NumberLemmas.{list_all-digits}
use Rattle.rev_trace.specs.Commands.{command_line, command_of, ended_of, listing_of, long, plan_of, point_of, short, which_in, which_of}
use Rattle.rev_trace.specs.Laws.{CommandsAreRead}
use Rattle.rev_trace.specs.Texts.{HasStamps, IsCommand, IsListing, IsLong, IsPoint, IsShort, IsWhich, command_fields, command_text, event_text, listing_fields, path_fields, point_fields, which_text}

-- fields of paths, each with a space before it
pub fields_of_paths : (paths : List (List ℕ)) → flat_map (λ path. spaced (field_text path)) paths ≡ flat_map spaced (path_fields paths)
fields_of_paths [] = refl
fields_of_paths (path ∷ paths) = ap (λ l. spaced (field_text path) ++ l) (fields_of_paths paths)

path-read : (p : List ℕ) → IsCanonical p → path_of p ≡ Ok p
path-read [] h = let some = h.some in absurd (omega (arith, some))
path-read (b ∷ bs) h =
    let p : List ℕ = b ∷ bs in
    ap (λ t. cond t (Err Syntax) (Ok (canonical p))) (le-ltb 4096 (length p) h.few) ∙ ap Ok h.own

paths-read : (ps : List (List ℕ)) → All IsCanonical ps → paths_of ps ≡ Ok ps
paths-read [] all = refl
paths-read (p ∷ ps) all =
    ap (λ r. r >>= λ b. paths_of ps >>= λ bs. Ok (b ∷ bs)) (path-read p (all 0 [] (omega arith)))
    ∙ ap (λ r. r >>= λ bs. Ok (p ∷ bs)) (paths-read ps (λ k d lt. all (suc k) d (omega arith)))

short-read : (n : ℕ) → IsShort n → short (decimal n) ≡ Ok n
short-read n h = numbers-are-read (2 ^ 32) n (omega arith) h

long-read : (n : ℕ) → IsLong n → long (decimal n) ≡ Ok n
long-read n h = numbers-are-read (2 ^ 64) n (omega arith) h

stamps-read : (ns : List ℕ) → 0 < length ns → All IsLong ns → numbers_below (2 ^ 64) (numbers_text ns) ≡ Ok ns
stamps-read ns some all = number-lists-are-read (2 ^ 64) ns (omega arith) some all

short-field : (n : ℕ) → IsShort n → decimal n ≡ field_text (decimal n)
short-field n h = sym (number-field n (omega arith))

long-field : (n : ℕ) → IsLong n → decimal n ≡ field_text (decimal n)
long-field n h = sym (number-field n h)

-- a line of the fields of texts that say a command
read-from : (texts : List (List ℕ)) (c : Command) → 0 < length texts → command_fields c ≡ map field_text texts → command_of [] texts ≡ Ok c → command_line [] (command_text c) ≡ Ok c
read-from texts c some fields said =
    ap (λ fs. command_line [] (line_of fs)) fields ∙ ap (read_as (command_of [])) (lines-are-read texts some) ∙ said

plan-read : (targets : List (List ℕ)) → All IsCanonical targets → plan_of [] targets ≡ Ok (command.Event (event.Plan targets))
plan-read [] all = refl
plan-read (p ∷ ps) all = ap (λ r. r >>= λ names. Ok (command.Event (event.Plan names))) (paths-read (p ∷ ps) all)

read-plan : (targets : List (List ℕ)) → All IsCanonical targets → command_line [] (command_text (command.Event (event.Plan targets))) ≡ Ok (command.Event (event.Plan targets))
read-plan targets all = read-from (codes "plan" ∷ targets) (command.Event (event.Plan targets)) (omega arith) refl (plan-read targets all)

read-start : (out : List ℕ) (job : ℕ) → IsCanonical out → IsShort job → command_line [] (command_text (command.Event (event.Start out job None))) ≡ Ok (command.Event (event.Start out job None))
read-start out job o j =
    read-from (codes "start" ∷ out ∷ decimal job ∷ []) (command.Event (event.Start out job None)) (omega arith)
    (ap (λ f. codes "start" ∷ field_text out ∷ f ∷ []) (short-field job j))
    (ap (λ r. r >>= λ o. short (decimal job) >>= λ j. Ok (command.Event (event.Start o j None))) (path-read out o)
    ∙ ap (λ r. r >>= λ j. Ok (command.Event (event.Start out j None))) (short-read job j))

read-start-slot : (out : List ℕ) (job slot : ℕ) → IsCanonical out → IsShort job → IsShort slot → command_line [] (command_text (command.Event (event.Start out job (Some slot)))) ≡ Ok (command.Event (event.Start out job (Some slot)))
read-start-slot out job slot o j s =
    read-from (codes "start" ∷ out ∷ decimal job ∷ decimal slot ∷ []) (command.Event (event.Start out job (Some slot))) (omega arith)
    (ap (λ f. codes "start" ∷ field_text out ∷ f ∷ decimal slot ∷ []) (short-field job j) ∙ ap (λ f. codes "start" ∷ field_text out ∷ field_text (decimal job) ∷ f ∷ []) (short-field slot s))
    (ap (λ r. r >>= λ o. short (decimal job) >>= λ j. short (decimal slot) >>= λ s. Ok (command.Event (event.Start o j (Some s)))) (path-read out o)
    ∙ ap (λ r. r >>= λ j. short (decimal slot) >>= λ s. Ok (command.Event (event.Start out j (Some s)))) (short-read job j)
    ∙ ap (λ r. r >>= λ s. Ok (command.Event (event.Start out job (Some s)))) (short-read slot s))

-- the texts of a listing
abbrev listing_texts : Listing → List (List ℕ)
listing_texts listing.Nothing = []
listing_texts (listing.Depfile text) = codes "depfile" ∷ text ∷ []
listing_texts (listing.Paths paths) = codes "list" ∷ paths

listing-fields : (l : Listing) → listing_fields l ≡ map field_text (listing_texts l)
listing-fields listing.Nothing = refl
listing-fields (listing.Depfile text) = refl
listing-fields (listing.Paths paths) = refl

listing-read : (l : Listing) → IsListing l → listing_of (listing_texts l) ≡ Ok l
listing-read listing.Nothing h = refl
listing-read (listing.Depfile text) h = refl
listing-read (listing.Paths paths) h = ap (λ r. r >>= λ names. Ok (listing.Paths names)) (paths-read paths h)

read-finish : (out stamps : List ℕ) (l : Listing) → IsCanonical out → 0 < length stamps → All IsLong stamps → IsListing l → command_line [] (command_text (command.Event (event.Finish out stamps l))) ≡ Ok (command.Event (event.Finish out stamps l))
read-finish out stamps l o some all h =
    read-from (codes "finish" ∷ out ∷ numbers_text stamps ∷ listing_texts l) (command.Event (event.Finish out stamps l)) (omega arith)
    (ap (λ f. codes "finish" ∷ field_text out ∷ f ∷ listing_fields l) (sym (numbers-field stamps some all)) ∙ ap (λ fs. codes "finish" ∷ field_text out ∷ field_text (numbers_text stamps) ∷ fs) (listing-fields l))
    (ap (λ r. r >>= λ o. listing_of (listing_texts l) >>= λ l. numbers_below (2 ^ 64) (numbers_text stamps) >>= λ ns. Ok (command.Event (event.Finish o ns l))) (path-read out o)
    ∙ ap (λ r. r >>= λ l. numbers_below (2 ^ 64) (numbers_text stamps) >>= λ ns. Ok (command.Event (event.Finish out ns l))) (listing-read l h)
    ∙ ap (λ r. r >>= λ ns. Ok (command.Event (event.Finish out ns l))) (stamps-read stamps some all))

abbrev ending_with : List ℕ → Result (List ℕ) FaultKind → Result (List ℕ × List ℕ) FaultKind
ending_with out stamps = stamps >>= λ ns. Ok (out, ns)

abbrev named_with : List ℕ → Result (List ℕ) FaultKind → Result (List ℕ × List ℕ) FaultKind
named_with text out = out >>= λ o. ending_with o (numbers_below (2 ^ 64) text)

abbrev made_with : (List ℕ → List ℕ → Event) → Result (List ℕ × List ℕ) FaultKind → Result Command FaultKind
made_with make r = r >>= λ e. Ok (command.Event (make e.0 e.1))

ended-read : (make : List ℕ → List ℕ → Event) (out stamps : List ℕ) → IsCanonical out → 0 < length stamps → All IsLong stamps → ended_of make (out ∷ numbers_text stamps ∷ []) ≡ Ok (command.Event (make out stamps))
ended-read make out stamps o some all =
    ap (λ r. made_with make (named_with (numbers_text stamps) r)) (path-read out o) ∙ ap (λ r. made_with make (ending_with out r)) (stamps-read stamps some all)

read-fail : (out stamps : List ℕ) → IsCanonical out → 0 < length stamps → All IsLong stamps → command_line [] (command_text (command.Event (event.Fail out stamps))) ≡ Ok (command.Event (event.Fail out stamps))
read-fail out stamps o some all =
    read-from (codes "fail" ∷ out ∷ numbers_text stamps ∷ []) (command.Event (event.Fail out stamps)) (omega arith)
    (ap (λ f. codes "fail" ∷ field_text out ∷ f ∷ []) (sym (numbers-field stamps some all))) (ended-read event.Fail out stamps o some all)

read-abort : (out stamps : List ℕ) → IsCanonical out → 0 < length stamps → All IsLong stamps → command_line [] (command_text (command.Event (event.Abort out stamps))) ≡ Ok (command.Event (event.Abort out stamps))
read-abort out stamps o some all =
    read-from (codes "abort" ∷ out ∷ numbers_text stamps ∷ []) (command.Event (event.Abort out stamps)) (omega arith)
    (ap (λ f. codes "abort" ∷ field_text out ∷ f ∷ []) (sym (numbers-field stamps some all))) (ended-read event.Abort out stamps o some all)

read-clean : (out : List ℕ) → IsCanonical out → command_line [] (command_text (command.Event (event.Clean out))) ≡ Ok (command.Event (event.Clean out))
read-clean out o =
    read-from (codes "clean" ∷ out ∷ []) (command.Event (event.Clean out)) (omega arith) refl (ap (λ r. r >>= λ o. Ok (command.Event (event.Clean o))) (path-read out o))

read-pass : (out : List ℕ) → IsCanonical out → command_line [] (command_text (command.Event (event.Pass out))) ≡ Ok (command.Event (event.Pass out))
read-pass out o =
    read-from (codes "pass" ∷ out ∷ []) (command.Event (event.Pass out)) (omega arith) refl (ap (λ r. r >>= λ o. Ok (command.Event (event.Pass o))) (path-read out o))

read-touch : (path : List ℕ) (stamp : ℕ) → IsCanonical path → IsLong stamp → command_line [] (command_text (command.Event (event.Touch path stamp))) ≡ Ok (command.Event (event.Touch path stamp))
read-touch path stamp p n =
    read-from (codes "touch" ∷ path ∷ decimal stamp ∷ []) (command.Event (event.Touch path stamp)) (omega arith)
    (ap (λ f. codes "touch" ∷ field_text path ∷ f ∷ []) (long-field stamp n))
    (ap (λ r. r >>= λ p. long (decimal stamp) >>= λ n. Ok (command.Event (event.Touch p n))) (path-read path p) ∙ ap (λ r. r >>= λ n. Ok (command.Event (event.Touch path n))) (long-read stamp n))

read-resize : (pool depth : ℕ) → IsShort pool → IsShort depth → command_line [] (command_text (command.Event (event.Resize pool depth))) ≡ Ok (command.Event (event.Resize pool depth))
read-resize pool depth p d =
    read-from (codes "resize" ∷ decimal pool ∷ decimal depth ∷ []) (command.Event (event.Resize pool depth)) (omega arith)
    (ap (λ f. codes "resize" ∷ f ∷ decimal depth ∷ []) (short-field pool p) ∙ ap (λ f. codes "resize" ∷ field_text (decimal pool) ∷ f ∷ []) (short-field depth d))
    (ap (λ r. r >>= λ p. short (decimal depth) >>= λ d. Ok (command.Event (event.Resize p d))) (short-read pool p) ∙ ap (λ r. r >>= λ d. Ok (command.Event (event.Resize pool d))) (short-read depth d))

All-none : {X : Type 0} (P : X → Type 0) → All P []
All-none P k d lt = absurd (omega arith)

All-next : {X : Type 0} (P : X → Type 0) (x : X) (xs : List X) → P x → All P xs → All P (x ∷ xs)
All-next P x xs h rest zero d lt = h
All-next P x xs h rest (suc k) d lt = rest k d (omega arith)

-- decimal digits, among which no colon is
abbrev own : IsNumeralModel (λ ds. all_ascii_digits ds ≡ true) (digits_value 10)
own = numerals_by_value (λ ds. all_ascii_digits ds ≡ true) tells_all_ascii_digits

digits-of : (n : ℕ) → IsShort n → list_all is_ascii_digit (decimal n) ≡ true
digits-of n h = sym (list_all-digits (decimal n)) ∙ digits_decimal own n (omega arith)

abbrev NoColon : ℕ → Type 0
NoColon b = (b == 58) ≡ false

no-colon : (b : ℕ) → is_ascii_digit b ≡ true → NoColon b
no-colon b h =
    elim (cases_Bool (b == 58)) [
      | inl same ↦ let e : b ≡ 58 = eqb-true b 58 same in let never : false ≡ true = sym (ap is_ascii_digit e) ∙ h in absurd (false≢true never)
      | inr other ↦ other
    ]

digits-no-colon : (ds : List ℕ) → list_all is_ascii_digit ds ≡ true → All NoColon ds
digits-no-colon [] h = All-none NoColon
digits-no-colon (d ∷ ds) h =
    let parts = and_parts (is_ascii_digit d) (list_all is_ascii_digit ds) h in
    All-next NoColon d ds (no-colon d parts.0) (digits-no-colon ds parts.1)

decimal-no-colon : (n : ℕ) → IsShort n → All NoColon (decimal n)
decimal-no-colon n h = digits-no-colon (decimal n) (digits-of n h)

-- the name of an event is read as that name
pub which-read : (w : Which) → IsWhich w → which_of (which_text w) ≡ Ok w
which-read (which.Number n) h =
    ap which_in (slice_split_none (λ b. b == 58) (decimal n) (decimal-no-colon n h)) ∙ ap (λ r. r >>= λ n. Ok (which.Number n)) (short-read n h)
which-read (which.Label lane place) h =
    ap which_in (slice_split_at (λ b. b == 58) (decimal lane) 58 (decimal place) (decimal-no-colon lane h.0) refl)
    ∙ ap (λ parts. which_in (decimal lane ∷ parts)) (slice_split_none (λ b. b == 58) (decimal place) (decimal-no-colon place h.1))
    ∙ ap (λ r. r >>= λ l. short (decimal place) >>= λ p. Ok (which.Label l p)) (short-read lane h.0)
    ∙ ap (λ r. r >>= λ p. Ok (which.Label lane p)) (short-read place h.1)

-- and its bytes stand for themselves
field-bytes : (bs : List ℕ) → 0 < length bs → field_text bs ≡ flat_map written_byte bs
field-bytes [] some = absurd (omega arith)
field-bytes (b ∷ bs) some = refl

decimal-bytes : (n : ℕ) → IsShort n → flat_map written_byte (decimal n) ≡ decimal n
decimal-bytes n h = sym (field-bytes (decimal n) (decimal_nonempty n (omega arith))) ∙ number-field n (omega arith)

which-field : (w : Which) → IsWhich w → which_text w ≡ field_text (which_text w)
which-field (which.Number n) h = short-field n h
which-field (which.Label lane place) h =
    let some : 0 < length (decimal lane ++ 58 ∷ decimal place) = omega (arith, length-append (decimal lane) (58 ∷ decimal place)) in
    sym (field-bytes (decimal lane ++ 58 ∷ decimal place) some
    ∙ flat_map-append written_byte (decimal lane) (58 ∷ decimal place)
    ∙ ap (λ bs. bs ++ 58 ∷ flat_map written_byte (decimal place)) (decimal-bytes lane h.0)
    ∙ ap (λ bs. decimal lane ++ 58 ∷ bs) (decimal-bytes place h.1))

read-undo : (w : Which) → IsWhich w → command_line [] (command_text (command.Undo w)) ≡ Ok (command.Undo w)
read-undo w h =
    read-from (codes "undo" ∷ which_text w ∷ []) (command.Undo w) (omega arith) (ap (λ f. codes "undo" ∷ f ∷ []) (which-field w h)) (ap (λ r. r >>= λ w. Ok (command.Undo w)) (which-read w h))

read-redo : (w : Which) → IsWhich w → command_line [] (command_text (command.Redo w)) ≡ Ok (command.Redo w)
read-redo w h =
    read-from (codes "redo" ∷ which_text w ∷ []) (command.Redo w) (omega arith) (ap (λ f. codes "redo" ∷ f ∷ []) (which-field w h)) (ap (λ r. r >>= λ w. Ok (command.Redo w)) (which-read w h))

read-cone : (w : Which) → IsWhich w → command_line [] (command_text (command.Cone w)) ≡ Ok (command.Cone w)
read-cone w h =
    read-from (codes "cone" ∷ which_text w ∷ []) (command.Cone w) (omega arith) (ap (λ f. codes "cone" ∷ f ∷ []) (which-field w h)) (ap (λ r. r >>= λ w. Ok (command.Cone w)) (which-read w h))

read-unbreak : (n : ℕ) → IsShort n → command_line [] (command_text (command.Unbreak n)) ≡ Ok (command.Unbreak n)
read-unbreak n h =
    read-from (codes "unbreak" ∷ decimal n ∷ []) (command.Unbreak n) (omega arith) (ap (λ f. codes "unbreak" ∷ f ∷ []) (short-field n h)) (ap (λ r. r >>= λ n. Ok (command.Unbreak n)) (short-read n h))

abbrev broken : Result Point FaultKind → Result Command FaultKind
broken r = r >>= λ p. Ok (command.Break p)

-- a break at one edge or path
read-pointed : (make : List ℕ → Point) (word name : List ℕ) → point_fields (make name) ≡ word ∷ field_text name ∷ [] → field_text word ≡ word → point_of (word ∷ name ∷ []) ≡ (path_of name >>= λ n. Ok (make n)) → IsCanonical name → command_line [] (command_text (command.Break (make name))) ≡ Ok (command.Break (make name))
read-pointed make word name fields own_field said h =
    read-from (codes "break" ∷ word ∷ name ∷ []) (command.Break (make name)) (omega arith)
    (ap (λ fs. codes "break" ∷ fs) (fields ∙ ap (λ f. f ∷ field_text name ∷ []) (sym own_field)))
    (ap broken said ∙ ap (λ r. broken (r >>= λ n. Ok (make n))) (path-read name h))

points-read : (p : Point) → IsPoint p → command_line [] (command_text (command.Break p)) ≡ Ok (command.Break p)
points-read (point.Start out) h = read-pointed point.Start (codes "start") out refl refl refl h
points-read (point.Finish out) h = read-pointed point.Finish (codes "finish") out refl refl refl h
points-read (point.Fail out) h = read-pointed point.Fail (codes "fail") out refl refl refl h
points-read (point.Abort out) h = read-pointed point.Abort (codes "abort") out refl refl refl h
points-read (point.Clean out) h = read-pointed point.Clean (codes "clean") out refl refl refl h
points-read (point.Pass out) h = read-pointed point.Pass (codes "pass") out refl refl refl h
points-read (point.Touch path) h = read-pointed point.Touch (codes "touch") path refl refl refl h
points-read point.Plan h = read-from (codes "break" ∷ codes "plan" ∷ []) (command.Break point.Plan) (omega arith) refl refl
points-read point.Interrupt h = read-from (codes "break" ∷ codes "interrupt" ∷ []) (command.Break point.Interrupt) (omega arith) refl refl

events-read : (e : Event) → IsCommand (command.Event e) → HasStamps (command.Event e) → command_line [] (command_text (command.Event e)) ≡ Ok (command.Event e)
events-read (event.Plan targets) h some = read-plan targets h
events-read (event.Start out job None) h some = read-start out job h.0 h.1
events-read (event.Start out job (Some slot)) h some = read-start-slot out job slot h.0 h.1 h.2
events-read (event.Finish out stamps l) h some = read-finish out stamps l h.0 some h.1 h.2
events-read (event.Fail out stamps) h some = read-fail out stamps h.0 some h.1
events-read (event.Abort out stamps) h some = read-abort out stamps h.0 some h.1
events-read (event.Clean out) h some = read-clean out h
events-read (event.Pass out) h some = read-pass out h
events-read (event.Touch path stamp) h some = read-touch path stamp h.0 h.1
events-read (event.Resize pool depth) h some = read-resize pool depth h.0 h.1
events-read event.Interrupt h some = read-from (codes "interrupt" ∷ []) (command.Event event.Interrupt) (omega arith) refl refl

pub commands-are-read : CommandsAreRead
commands-are-read (command.Event e) h some = events-read e h some
commands-are-read (command.Undo w) h some = read-undo w h
commands-are-read (command.Redo w) h some = read-redo w h
commands-are-read (command.Cone w) h some = read-cone w h
commands-are-read command.Back h some = read-from (codes "back" ∷ []) command.Back (omega arith) refl refl
commands-are-read (command.Break p) h some = points-read p h
commands-are-read (command.Unbreak n) h some = read-unbreak n h
commands-are-read command.Continue h some = read-from (codes "continue" ∷ []) command.Continue (omega arith) refl refl

-- `plan PATH...` as it is written
pub plan-text : (line mid out : List ℕ) (targets : List (List ℕ)) → mid ≡ line ++ codes "plan" → out ≡ mid ++ flat_map (λ path. spaced (field_text path)) targets → out ≡ line ++ event_text (event.Plan targets)
plan-text line mid out targets first further =
    further ∙ ap (λ l. l ++ flat_map (λ path. spaced (field_text path)) targets) first
    ∙ append_assoc line (codes "plan") (flat_map (λ path. spaced (field_text path)) targets) ∙ ap (λ l. line ++ (codes "plan" ++ l)) (fields_of_paths targets)

-- ` list PATH...` as it is written
pub listing-text : (line mid out : List ℕ) (paths given : List (List ℕ)) (l : Listing) → mid ≡ line ++ codes " list" → out ≡ mid ++ flat_map (λ path. spaced (field_text path)) given → given ≡ paths → l ≡ listing.Paths paths → out ≡ line ++ flat_map spaced (listing_fields l)
listing-text line mid out paths given l first further same is =
    further ∙ ap (λ m. m ++ flat_map (λ path. spaced (field_text path)) given) first
    ∙ append_assoc line (codes " list") (flat_map (λ path. spaced (field_text path)) given) ∙ ap (λ m. line ++ (codes " list" ++ m)) (fields_of_paths given)
    ∙ ap (λ ps. line ++ flat_map spaced (listing_fields (listing.Paths ps))) same ∙ ap (λ x. line ++ flat_map spaced (listing_fields x)) (sym is)
