-- What the answer to a line says of its shape: 100 where it has none, 101 where it has one and a number is wrong.
use Rattle.std.proofs.Common.{◌≡◌, ℕ, ◌<◌, ◌≤◌, ◌^◌, ◌==◌, ◌&&◌, Bool, true, false, nat_lt, ◌||◌, cond, List, [], ◌∷◌, refl, sym, ap, ◌∙◌, subst, inl, inr, ◌⊎◌, Option, Some, None, Result, Ok, Err}
use Rattle.std.proofs.lemmas.Bool.{cases_Bool}
use Rattle.std.proofs.lemmas.Slice.Eq.{bytes_eq-Decides}
use Rattle.std.specs.List.{slice_split}
use Rattle.std.specs.Prelude.{codes, length}
use Rattle.std.specs.Str.{bytes_eq}
use Rattle.std.specs.Str.Parse.{digits_value}
use Rattle.rev_commands.specs.declared.command.Command.{Command}
use Rattle.rev_commands.specs.declared.command.Command.TheVariants as command
use Rattle.rev_commands.specs.declared.point.Point.{Point}
use Rattle.rev_commands.specs.declared.point.Point.TheVariants as point
use Rattle.rev_commands.specs.declared.which.Which.{Which}
use Rattle.rev_commands.specs.declared.which.Which.TheVariants as which
use Rattle.rev_events.specs.declared.event.Event.{Event}
use Rattle.rev_events.specs.declared.event.Event.TheVariants as event
use Rattle.rev_events.specs.declared.event.Listing.{Listing}
use Rattle.rev_events.specs.declared.event.Listing.TheVariants as listing
use Rattle.rev_fields.specs.declared.faults.FaultKind.{FaultKind}
use Rattle.rev_fields.specs.declared.faults.FaultKind.TheVariants.{Syntax, Number, Lane, DoubleRecord, Header}
use Rattle.rev_fields.specs.Faults.{◌>>=◌, each_of}
use Rattle.rev_paths.specs.Canonical.{canonical}
use Rattle.rev_fields.specs.Lines.{is_blank, path_of, paths_of}
use Rattle.rev_fields.specs.Numbers.{is_decimal, number_below, numbers_below}
use Rattle.rev_trace.specs.declared.record.Record.{Record}
use Rattle.rev_trace.specs.declared.record.Record.TheVariants.{Jobs, Stamp, Built, Deps, Target}
use Rattle.rev_trace.specs.declared.verb.Verb.{Verb}
use Rattle.rev_trace.specs.declared.verb.Verb.TheVariants as verb
use Rattle.rev_trace.specs.Commands.{alone_of, break_number_of, command_of, depfile_of, ended_of, ending_of, finish_of, list_of, listing_of, long, name_of, nothing_of, plan_of, point_by, point_by_any, point_of, resize_of, short, start_of, taken_by, taken_by_any, touch_of, verb_of, which_in, which_of, word_of}
use Rattle.rev_trace.specs.Grammar.{Exact, Shape, SaysCommand, SaysEvent, SaysRecord}
use Rattle.rev_trace.specs.Records.{built_of, deps_of, jobs_of, record_of, stamp_of, target_of}
use Rattle.rev_trace.proofs.GrammarLemmas.{bind_ok, listing_is, listing_read, ok_is, point_read, targets_read, texts_are, word_is}
use Rattle.rev_trace.proofs.NumberLemmas.{long-is, long-of, short-is, short-of}

-- an answer that is no fault of syntax

abbrev OtherKind : FaultKind → Type 0
OtherKind Syntax = ⊥
OtherKind Number = Unit {0}
OtherKind Lane = Unit {0}
OtherKind DoubleRecord = Unit {0}
OtherKind Header = Unit {0}

abbrev pub Shaped : {A : Type 0} → Result A FaultKind → Type 0
Shaped (Ok a) = Unit {0}
Shaped (Err kind) = OtherKind kind

shaped-bind : {A B : Type 0} (r : Result A FaultKind) (f : A → Result B FaultKind) → Shaped r → ((a : A) → Shaped (f a)) → Shaped (r >>= f)
shaped-bind (Ok a) f h g = g a
shaped-bind (Err kind) f h g = h

shaped-at : {A : Type 0} (r s : Result A FaultKind) → r ≡ s → Shaped s → Shaped r
shaped-at {A} r s e h = let P : Result A FaultKind → Type 0 = λ x. Shaped x in subst P (sym e) h

shaped-ok : {A : Type 0} (r : Result A FaultKind) (a : A) → r ≡ Ok a → Shaped r
shaped-ok r a e = shaped-at r (Ok a) e tt

shaped-cond : (b : Bool) (n : ℕ) → Shaped {A = ℕ} (cond b (Ok n) (Err Number))
shaped-cond true n = tt
shaped-cond false n = tt

below-shaped : (limit : ℕ) (text : List ℕ) → Shaped (number_below limit text)
below-shaped limit text = shaped-cond (is_decimal text && nat_lt (digits_value 10 text) limit) (digits_value 10 text)

short-shaped : (text : List ℕ) → Shaped (short text)
short-shaped text = below-shaped (2 ^ 32) text

long-shaped : (text : List ℕ) → Shaped (long text)
long-shaped text = below-shaped (2 ^ 64) text

each-shaped : (limit : ℕ) (parts : List (List ℕ)) → Shaped (each_of (number_below limit) parts)
each-shaped limit [] = tt
each-shaped limit (part ∷ parts) =
    shaped-bind (number_below limit part) (λ b. each_of (number_below limit) parts >>= λ bs. Ok (b ∷ bs)) (below-shaped limit part)
    (λ b. shaped-bind (each_of (number_below limit) parts) (λ bs. Ok (b ∷ bs)) (each-shaped limit parts) (λ bs. tt))

stamps-shaped : (text : List ℕ) → Shaped (numbers_below (2 ^ 64) text)
stamps-shaped text = each-shaped (2 ^ 64) (slice_split (λ b. b == 44) text)

parts-shaped : (parts : List (List ℕ)) → Shaped (which_in parts)
parts-shaped [] = tt
parts-shaped (number ∷ []) = shaped-bind (short number) (λ n. Ok (which.Number n)) (short-shaped number) (λ n. tt)
parts-shaped (lane ∷ place ∷ []) =
    shaped-bind (short lane) (λ l. short place >>= λ p. Ok (which.Label l p)) (short-shaped lane)
    (λ l. shaped-bind (short place) (λ p. Ok (which.Label l p)) (short-shaped place) (λ p. tt))
parts-shaped (lane ∷ place ∷ more ∷ rest) = tt

which-shaped : (text : List ℕ) → Shaped (which_of text)
which-shaped text = parts-shaped (slice_split (λ b. b == 58) text)

-- a line of a shape is no fault of syntax

named-shaped : (make : Which → Command) (text : List ℕ) → Shaped (which_of text >>= λ w. Ok (make w))
named-shaped make text = shaped-bind (which_of text) (λ w. Ok (make w)) (which-shaped text) (λ w. tt)

ended-shaped : (make : List ℕ → List ℕ → Event) (text numbers out : List ℕ) → path_of text ≡ Ok out → Shaped (ended_of make (text ∷ numbers ∷ []))
ended-shaped make text numbers out o =
    let after : List ℕ → Result (List ℕ × List ℕ) FaultKind = λ o. numbers_below (2 ^ 64) numbers >>= λ ns. Ok (o, ns) in
    shaped-bind (ending_of (text ∷ numbers ∷ [])) (λ e. Ok (command.Event (make e.0 e.1)))
    (shaped-bind (path_of text) after (shaped-ok (path_of text) out o) (λ o. shaped-bind (numbers_below (2 ^ 64) numbers) (λ ns. Ok (o, ns)) (stamps-shaped numbers) (λ ns. tt)))
    (λ e. tt)

event-shaped : (targets texts : List (List ℕ)) (e : Event) → SaysEvent Shape targets texts e → Shaped (command_of targets texts)
event-shaped targets texts (event.Plan paths) h =
    shaped-ok (command_of targets texts) (command.Event (event.Plan paths)) (ap (command_of targets) h.1 ∙ targets_read targets h.0 paths h.2)
event-shaped targets texts (event.Start out job None) h =
    let after : List ℕ → Result Command FaultKind = λ o. short h.1 >>= λ j. Ok (command.Event (event.Start o j None)) in
    shaped-at (command_of targets texts) (path_of h.0 >>= after) (ap (command_of targets) h.2)
    (shaped-bind (path_of h.0) after (shaped-ok (path_of h.0) out h.3) (λ o. shaped-bind (short h.1) (λ j. Ok (command.Event (event.Start o j None))) (short-shaped h.1) (λ j. tt)))
event-shaped targets texts (event.Start out job (Some slot)) h =
    let last : List ℕ → ℕ → Result Command FaultKind = λ o j. short h.2 >>= λ s. Ok (command.Event (event.Start o j (Some s))) in
    let after : List ℕ → Result Command FaultKind = λ o. short h.1 >>= last o in
    shaped-at (command_of targets texts) (path_of h.0 >>= after) (ap (command_of targets) h.3)
    (shaped-bind (path_of h.0) after (shaped-ok (path_of h.0) out h.4)
    (λ o. shaped-bind (short h.1) (last o) (short-shaped h.1) (λ j. shaped-bind (short h.2) (λ s. Ok (command.Event (event.Start o j (Some s)))) (short-shaped h.2) (λ s. tt))))
event-shaped targets texts (event.Finish out stamps l) h =
    let last : List ℕ → Listing → Result Command FaultKind = λ o l. numbers_below (2 ^ 64) h.1 >>= λ ns. Ok (command.Event (event.Finish o ns l)) in
    let after : List ℕ → Result Command FaultKind = λ o. listing_of h.2 >>= last o in
    shaped-at (command_of targets texts) (path_of h.0 >>= after) (ap (command_of targets) h.3)
    (shaped-bind (path_of h.0) after (shaped-ok (path_of h.0) out h.4)
    (λ o. shaped-bind (listing_of h.2) (last o) (shaped-ok (listing_of h.2) l (listing_read h.2 l h.6))
    (λ l. shaped-bind (numbers_below (2 ^ 64) h.1) (λ ns. Ok (command.Event (event.Finish o ns l))) (stamps-shaped h.1) (λ ns. tt))))
event-shaped targets texts (event.Fail out stamps) h =
    shaped-at (command_of targets texts) (ended_of event.Fail (h.0 ∷ h.1 ∷ [])) (ap (command_of targets) h.2) (ended-shaped event.Fail h.0 h.1 out h.3)
event-shaped targets texts (event.Abort out stamps) h =
    shaped-at (command_of targets texts) (ended_of event.Abort (h.0 ∷ h.1 ∷ [])) (ap (command_of targets) h.2) (ended-shaped event.Abort h.0 h.1 out h.3)
event-shaped targets texts (event.Clean out) h =
    shaped-ok (command_of targets texts) (command.Event (event.Clean out)) (ap (command_of targets) h.1 ∙ ap (λ r. r >>= λ o. Ok (command.Event (event.Clean o))) h.2)
event-shaped targets texts (event.Pass out) h =
    shaped-ok (command_of targets texts) (command.Event (event.Pass out)) (ap (command_of targets) h.1 ∙ ap (λ r. r >>= λ o. Ok (command.Event (event.Pass o))) h.2)
event-shaped targets texts (event.Touch path stamp) h =
    let after : List ℕ → Result Command FaultKind = λ p. long h.1 >>= λ n. Ok (command.Event (event.Touch p n)) in
    shaped-at (command_of targets texts) (path_of h.0 >>= after) (ap (command_of targets) h.2)
    (shaped-bind (path_of h.0) after (shaped-ok (path_of h.0) path h.3) (λ p. shaped-bind (long h.1) (λ n. Ok (command.Event (event.Touch p n))) (long-shaped h.1) (λ n. tt)))
event-shaped targets texts event.Interrupt h = shaped-ok (command_of targets texts) (command.Event event.Interrupt) (ap (command_of targets) h)
event-shaped targets texts (event.Resize pool depth) h =
    let after : ℕ → Result Command FaultKind = λ p. short h.1 >>= λ d. Ok (command.Event (event.Resize p d)) in
    shaped-at (command_of targets texts) (short h.0 >>= after) (ap (command_of targets) h.2)
    (shaped-bind (short h.0) after (short-shaped h.0) (λ p. shaped-bind (short h.1) (λ d. Ok (command.Event (event.Resize p d))) (short-shaped h.1) (λ d. tt)))

pub command-shaped : (targets texts : List (List ℕ)) (c : Command) → SaysCommand Shape targets texts c → Shaped (command_of targets texts)
command-shaped targets texts (command.Event e) h = event-shaped targets texts e h
command-shaped targets texts (command.Undo w) h =
    shaped-at (command_of targets texts) (which_of h.0 >>= λ w. Ok (command.Undo w)) (ap (command_of targets) h.1) (named-shaped command.Undo h.0)
command-shaped targets texts (command.Redo w) h =
    shaped-at (command_of targets texts) (which_of h.0 >>= λ w. Ok (command.Redo w)) (ap (command_of targets) h.1) (named-shaped command.Redo h.0)
command-shaped targets texts (command.Cone w) h =
    shaped-at (command_of targets texts) (which_of h.0 >>= λ w. Ok (command.Cone w)) (ap (command_of targets) h.1) (named-shaped command.Cone h.0)
command-shaped targets texts command.Back h = shaped-ok (command_of targets texts) command.Back (ap (command_of targets) h)
command-shaped targets texts (command.Break p) h =
    shaped-ok (command_of targets texts) (command.Break p) (ap (command_of targets) h.1 ∙ ap (λ r. r >>= λ p. Ok (command.Break p)) (point_read h.0 p h.2))
command-shaped targets texts (command.Unbreak n) h =
    shaped-at (command_of targets texts) (short h.0 >>= λ n. Ok (command.Unbreak n)) (ap (command_of targets) h.1)
    (shaped-bind (short h.0) (λ n. Ok (command.Unbreak n)) (short-shaped h.0) (λ n. tt))
command-shaped targets texts command.Continue h = shaped-ok (command_of targets texts) command.Continue (ap (command_of targets) h)

pub record-shaped : (texts : List (List ℕ)) (r : Record) → SaysRecord Shape texts r → Shaped (record_of texts)
record-shaped texts (Jobs n) h =
    shaped-at (record_of texts) (short h.0 >>= λ n. Ok (Jobs n)) (ap record_of h.1) (shaped-bind (short h.0) (λ n. Ok (Jobs n)) (short-shaped h.0) (λ n. tt))
record-shaped texts (Stamp path n) h =
    let after : List ℕ → Result Record FaultKind = λ p. long h.1 >>= λ n. Ok (Stamp p n) in
    shaped-at (record_of texts) (path_of h.0 >>= after) (ap record_of h.2)
    (shaped-bind (path_of h.0) after (shaped-ok (path_of h.0) path h.3) (λ p. shaped-bind (long h.1) (λ n. Ok (Stamp p n)) (long-shaped h.1) (λ n. tt)))
record-shaped texts (Built path n command) h =
    let after : List ℕ → Result Record FaultKind = λ p. long h.1 >>= λ n. Ok (Built p n command) in
    shaped-at (record_of texts) (path_of h.0 >>= after) (ap record_of h.2)
    (shaped-bind (path_of h.0) after (shaped-ok (path_of h.0) path h.3) (λ p. shaped-bind (long h.1) (λ n. Ok (Built p n command)) (long-shaped h.1) (λ n. tt)))
record-shaped texts (Deps path n paths) h =
    let last : List ℕ → List (List ℕ) → Result Record FaultKind = λ p ps. long h.1 >>= λ n. Ok (Deps p n ps) in
    let after : List ℕ → Result Record FaultKind = λ p. paths_of h.2 >>= last p in
    shaped-at (record_of texts) (path_of h.0 >>= after) (ap record_of h.3)
    (shaped-bind (path_of h.0) after (shaped-ok (path_of h.0) path h.4)
    (λ p. shaped-bind (paths_of h.2) (last p) (shaped-ok (paths_of h.2) paths h.5) (λ ps. shaped-bind (long h.1) (λ n. Ok (Deps p n ps)) (long-shaped h.1) (λ n. tt))))
record-shaped texts (Target path) h =
    shaped-ok (record_of texts) (Target path) (ap record_of h.1 ∙ ap (λ r. r >>= λ p. Ok (Target p)) h.2)

pub not-shaped : {A : Type 0} (r : Result A FaultKind) → r ≡ Err Syntax → Shaped r → ⊥
not-shaped {A} r e h = let P : Result A FaultKind → Type 0 = λ x. Shaped x in subst P e h

-- a fault that is not one of syntax is one of a number, in a line of a shape

abbrev pub HasShape : FaultKind → Type 0 → Type 0
HasShape kind S = (kind ≡ Syntax) ⊎ ((kind ≡ Number) × S)

bind-err : {A B : Type 0} (r : Result A FaultKind) (f : A → Result B FaultKind) (kind : FaultKind) → (r >>= f) ≡ Err kind → (r ≡ Err kind) ⊎ ((a : A) × (r ≡ Ok a) × (f a ≡ Err kind))
bind-err (Ok a) f kind h = inr (a, refl, h)
bind-err {A} {B} (Err k) f kind h = inl (let same : ◌≡◌ {A = Result B FaultKind} (Err k) (Err kind) = h in let e : k ≡ kind = cc in ap Err e)

same-kind : {A : Type 0} (k kind : FaultKind) → ◌≡◌ {A = Result A FaultKind} (Err k) (Err kind) → kind ≡ k
same-kind k kind h = cc

never-err : {A B : Type 0} (a : A) (kind : FaultKind) → ◌≡◌ {A = Result A FaultKind} (Ok a) (Err kind) → B
never-err {A} {B} a kind h = absurd (let no : ◌≡◌ {A = Result A FaultKind} (Ok a) (Err kind) = h in cc)

cond-err : (b : Bool) (n : ℕ) (kind : FaultKind) → ◌≡◌ {A = Result ℕ FaultKind} (cond b (Ok n) (Err Number)) (Err kind) → kind ≡ Number
cond-err true n kind h = never-err n kind h
cond-err false n kind h = same-kind Number kind h

pub short-err : (text : List ℕ) (kind : FaultKind) → short text ≡ Err kind → kind ≡ Number
short-err text kind h = cond-err (is_decimal text && nat_lt (digits_value 10 text) (2 ^ 32)) (digits_value 10 text) kind h

long-err : (text : List ℕ) (kind : FaultKind) → long text ≡ Err kind → kind ≡ Number
long-err text kind h = cond-err (is_decimal text && nat_lt (digits_value 10 text) (2 ^ 64)) (digits_value 10 text) kind h

each-err : (limit : ℕ) (parts : List (List ℕ)) (kind : FaultKind) → each_of (number_below limit) parts ≡ Err kind → kind ≡ Number
each-err limit [] kind h = never-err {A = List ℕ} [] kind h
each-err limit (part ∷ parts) kind h =
    elim (bind-err (number_below limit part) (λ b. each_of (number_below limit) parts >>= λ bs. Ok (b ∷ bs)) kind h) [
      | inl e ↦ cond-err (is_decimal part && nat_lt (digits_value 10 part) limit) (digits_value 10 part) kind e
      | inr f ↦ elim (bind-err (each_of (number_below limit) parts) (λ bs. Ok (f.0 ∷ bs)) kind f.2) [
        | inl e ↦ each-err limit parts kind e
        | inr g ↦ never-err {A = List ℕ} (f.0 ∷ g.0) kind g.2
      ]
    ]

stamps-err : (text : List ℕ) (kind : FaultKind) → numbers_below (2 ^ 64) text ≡ Err kind → kind ≡ Number
stamps-err text kind h = each-err (2 ^ 64) (slice_split (λ b. b == 44) text) kind h

parts-err : (parts : List (List ℕ)) (kind : FaultKind) → which_in parts ≡ Err kind → kind ≡ Number
parts-err [] kind h = same-kind Number kind h
parts-err (number ∷ []) kind h =
    elim (bind-err (short number) (λ n. Ok (which.Number n)) kind h) [
      | inl e ↦ short-err number kind e
      | inr f ↦ never-err (which.Number f.0) kind f.2
    ]
parts-err (lane ∷ place ∷ []) kind h =
    elim (bind-err (short lane) (λ l. short place >>= λ p. Ok (which.Label l p)) kind h) [
      | inl e ↦ short-err lane kind e
      | inr f ↦ elim (bind-err (short place) (λ p. Ok (which.Label f.0 p)) kind f.2) [
        | inl e ↦ short-err place kind e
        | inr g ↦ never-err (which.Label f.0 g.0) kind g.2
      ]
    ]
parts-err (lane ∷ place ∷ more ∷ rest) kind h = same-kind Number kind h

which-err : (text : List ℕ) (kind : FaultKind) → which_of text ≡ Err kind → kind ≡ Number
which-err text kind h = parts-err (slice_split (λ b. b == 58) text) kind h

path-err : (text : List ℕ) (kind : FaultKind) → path_of text ≡ Err kind → kind ≡ Syntax
path-err text kind h =
    elim (cases_Bool (is_blank text || nat_lt 4096 (length text))) [
      | inl bad ↦ same-kind {A = List ℕ} Syntax kind (sym (ap (λ b. cond b (Err Syntax) (Ok (canonical text))) bad) ∙ h)
      | inr good ↦ never-err (canonical text) kind (sym (ap (λ b. cond b (Err Syntax) (Ok (canonical text))) good) ∙ h)
    ]

paths-err : (texts : List (List ℕ)) (kind : FaultKind) → paths_of texts ≡ Err kind → kind ≡ Syntax
paths-err [] kind h = never-err {A = List (List ℕ)} [] kind h
paths-err (text ∷ texts) kind h =
    elim (bind-err (path_of text) (λ b. paths_of texts >>= λ bs. Ok (b ∷ bs)) kind h) [
      | inl e ↦ path-err text kind e
      | inr f ↦ elim (bind-err (paths_of texts) (λ bs. Ok (f.0 ∷ bs)) kind f.2) [
        | inl e ↦ paths-err texts kind e
        | inr g ↦ never-err {A = List (List ℕ)} (f.0 ∷ g.0) kind g.2
      ]
    ]

alone-err : (rest : List (List ℕ)) (kind : FaultKind) → alone_of rest ≡ Err kind → kind ≡ Syntax
alone-err [] kind h = same-kind {A = List ℕ} Syntax kind h
alone-err (text ∷ []) kind h = path-err text kind h
alone-err (text ∷ more ∷ rest) kind h = same-kind {A = List ℕ} Syntax kind h

nothing-err : (rest : List (List ℕ)) (kind : FaultKind) → nothing_of rest ≡ Err kind → kind ≡ Syntax
nothing-err [] kind h = never-err {A = Unit {0}} tt kind h
nothing-err (more ∷ rest) kind h = same-kind {A = Unit {0}} Syntax kind h

list-err : (rest : List (List ℕ)) (kind : FaultKind) → list_of rest ≡ Err kind → kind ≡ Syntax
list-err rest kind h =
    elim (bind-err (paths_of rest) (λ names. Ok (listing.Paths names)) kind h) [
      | inl e ↦ paths-err rest kind e
      | inr f ↦ never-err (listing.Paths f.0) kind f.2
    ]

depfile-err : (rest : List (List ℕ)) (kind : FaultKind) → depfile_of rest ≡ Err kind → kind ≡ Syntax
depfile-err [] kind h = same-kind {A = Listing} Syntax kind h
depfile-err (text ∷ []) kind h = never-err (listing.Depfile text) kind h
depfile-err (text ∷ more ∷ rest) kind h = same-kind {A = Listing} Syntax kind h

listing-err : (rest : List (List ℕ)) (kind : FaultKind) → listing_of rest ≡ Err kind → kind ≡ Syntax
listing-err [] kind h = never-err listing.Nothing kind h
listing-err (word ∷ rest) kind h =
    elim (cases_Bool (bytes_eq word (codes "depfile"))) [
      | inl depfile ↦ depfile-err rest kind (sym (ap (λ b. cond b (depfile_of rest) (cond (bytes_eq word (codes "list")) (list_of rest) (Err Syntax))) depfile) ∙ h)
      | inr other ↦
          let h1 = sym (ap (λ b. cond b (depfile_of rest) (cond (bytes_eq word (codes "list")) (list_of rest) (Err Syntax))) other) ∙ h in
          elim (cases_Bool (bytes_eq word (codes "list"))) [
            | inl list ↦ list-err rest kind (sym (ap (λ b. cond b (list_of rest) (Err Syntax)) list) ∙ h1)
            | inr none ↦ same-kind {A = Listing} Syntax kind (sym (ap (λ b. cond b (list_of rest) (Err Syntax)) none) ∙ h1)
          ]
    ]

-- points have no numbers
point-bare-err : (made : Point) (rest : List (List ℕ)) (kind : FaultKind) → (nothing_of rest >>= λ none. Ok made) ≡ Err kind → kind ≡ Syntax
point-bare-err made rest kind h =
    elim (bind-err (nothing_of rest) (λ none. Ok made) kind h) [
      | inl e ↦ nothing-err rest kind e
      | inr f ↦ never-err made kind f.2
    ]

point-at-err : (make : List ℕ → Point) (rest : List (List ℕ)) (kind : FaultKind) → (alone_of rest >>= λ name. Ok (make name)) ≡ Err kind → kind ≡ Syntax
point-at-err make rest kind h =
    elim (bind-err (alone_of rest) (λ name. Ok (make name)) kind h) [
      | inl e ↦ alone-err rest kind e
      | inr f ↦ never-err (make f.0) kind f.2
    ]

point-verb-err : (v : Verb) (rest : List (List ℕ)) (kind : FaultKind) → point_by v rest ≡ Err kind → kind ≡ Syntax
point-verb-err verb.Plan rest kind h = point-bare-err point.Plan rest kind h
point-verb-err verb.Start rest kind h = point-at-err point.Start rest kind h
point-verb-err verb.Finish rest kind h = point-at-err point.Finish rest kind h
point-verb-err verb.Fail rest kind h = point-at-err point.Fail rest kind h
point-verb-err verb.Abort rest kind h = point-at-err point.Abort rest kind h
point-verb-err verb.Clean rest kind h = point-at-err point.Clean rest kind h
point-verb-err verb.Pass rest kind h = point-at-err point.Pass rest kind h
point-verb-err verb.Touch rest kind h = point-at-err point.Touch rest kind h
point-verb-err verb.Interrupt rest kind h = point-bare-err point.Interrupt rest kind h
point-verb-err verb.Resize rest kind h = same-kind {A = Point} Syntax kind h
point-verb-err verb.Undo rest kind h = same-kind {A = Point} Syntax kind h
point-verb-err verb.Redo rest kind h = same-kind {A = Point} Syntax kind h
point-verb-err verb.Cone rest kind h = same-kind {A = Point} Syntax kind h
point-verb-err verb.Back rest kind h = same-kind {A = Point} Syntax kind h
point-verb-err verb.Break rest kind h = same-kind {A = Point} Syntax kind h
point-verb-err verb.Unbreak rest kind h = same-kind {A = Point} Syntax kind h
point-verb-err verb.Continue rest kind h = same-kind {A = Point} Syntax kind h

point-any-err : (o : Option Verb) (rest : List (List ℕ)) (kind : FaultKind) → point_by_any o rest ≡ Err kind → kind ≡ Syntax
point-any-err None rest kind h = same-kind {A = Point} Syntax kind h
point-any-err (Some v) rest kind h = point-verb-err v rest kind h

point-err : (rest : List (List ℕ)) (kind : FaultKind) → point_of rest ≡ Err kind → kind ≡ Syntax
point-err [] kind h = same-kind {A = Point} Syntax kind h
point-err (word ∷ rest) kind h = point-any-err (verb_of word) rest kind h

-- one command by its word

abbrev pub SomeCommand : List (List ℕ) → List (List ℕ) → Type 0
SomeCommand targets texts = (c : Command) × SaysCommand Shape targets texts c

bare-err : (targets texts : List (List ℕ)) (made : Command) (rest : List (List ℕ)) (kind : FaultKind) → (nothing_of rest >>= λ none. Ok made) ≡ Err kind → HasShape kind (SomeCommand targets texts)
bare-err targets texts made rest kind h =
    elim (bind-err (nothing_of rest) (λ none. Ok made) kind h) [
      | inl e ↦ inl (nothing-err rest kind e)
      | inr f ↦ never-err made kind f.2
    ]

settled-err : (targets texts : List (List ℕ)) (make : List ℕ → Event) (rest : List (List ℕ)) (kind : FaultKind) → (alone_of rest >>= λ o. Ok (command.Event (make o))) ≡ Err kind → HasShape kind (SomeCommand targets texts)
settled-err targets texts make rest kind h =
    elim (bind-err (alone_of rest) (λ o. Ok (command.Event (make o))) kind h) [
      | inl e ↦ inl (alone-err rest kind e)
      | inr f ↦ never-err (command.Event (make f.0)) kind f.2
    ]

name-err : (rest : List (List ℕ)) (kind : FaultKind) → name_of rest ≡ Err kind → (kind ≡ Syntax) ⊎ ((kind ≡ Number) × (text : List ℕ) × (rest ≡ text ∷ []))
name-err [] kind h = inl (same-kind {A = Which} Syntax kind h)
name-err (text ∷ []) kind h = inr (which-err text kind h, text, refl)
name-err (text ∷ more ∷ rest) kind h = inl (same-kind {A = Which} Syntax kind h)

named-err : (targets : List (List ℕ)) (word : List ℕ) (make : Which → Command) (rest : List (List ℕ)) (kind : FaultKind) (given : List ℕ)
    → ((text : List ℕ) → SaysCommand Shape targets (given ∷ text ∷ []) (make (which.Number 0))) → word ≡ given → (name_of rest >>= λ w. Ok (make w)) ≡ Err kind → HasShape kind (SomeCommand targets (word ∷ rest))
named-err targets word make rest kind given says e h =
    elim (bind-err (name_of rest) (λ w. Ok (make w)) kind h) [
      | inl g ↦ elim (name-err rest kind g) [
        | inl syntax ↦ inl syntax
        | inr number ↦
            let Q : List (List ℕ) → Type 0 = λ t. SaysCommand Shape targets t (make (which.Number 0)) in
            inr (number.0, (make (which.Number 0), subst Q (sym (texts_are word given rest (number.1 ∷ []) e number.2)) (says number.1)))
      ]
      | inr f ↦ never-err (make f.0) kind f.2
    ]

plan-err : (targets texts : List (List ℕ)) (rest : List (List ℕ)) (kind : FaultKind) → plan_of targets rest ≡ Err kind → HasShape kind (SomeCommand targets texts)
plan-err targets texts [] kind h = never-err (command.Event (event.Plan targets)) kind h
plan-err targets texts (name ∷ names) kind h =
    elim (bind-err (paths_of (name ∷ names)) (λ l. Ok (command.Event (event.Plan l))) kind h) [
      | inl e ↦ inl (paths-err (name ∷ names) kind e)
      | inr f ↦ never-err (command.Event (event.Plan f.0)) kind f.2
    ]

start-err : (targets : List (List ℕ)) (word : List ℕ) (rest : List (List ℕ)) (kind : FaultKind) → word ≡ codes "start" → start_of rest ≡ Err kind → HasShape kind (SomeCommand targets (word ∷ rest))
start-err targets word [] kind e h = inl (same-kind {A = Command} Syntax kind h)
start-err targets word (out ∷ []) kind e h = inl (same-kind {A = Command} Syntax kind h)
start-err targets word (out ∷ job ∷ []) kind e h =
    elim (bind-err (path_of out) (λ o. short job >>= λ j. Ok (command.Event (event.Start o j None))) kind h) [
      | inl g ↦ inl (path-err out kind g)
      | inr o ↦ elim (bind-err (short job) (λ j. Ok (command.Event (event.Start o.0 j None))) kind o.2) [
        | inl g ↦ inr (short-err job kind g, (command.Event (event.Start o.0 0 None), (out, job, ap (λ w. w ∷ out ∷ job ∷ []) e, o.1, tt)))
        | inr j ↦ never-err (command.Event (event.Start o.0 j.0 None)) kind j.2
      ]
    ]
start-err targets word (out ∷ job ∷ slot ∷ []) kind e h =
    elim (bind-err (path_of out) (λ o. short job >>= λ j. short slot >>= λ s. Ok (command.Event (event.Start o j (Some s)))) kind h) [
      | inl g ↦ inl (path-err out kind g)
      | inr o ↦
          let says : SaysCommand Shape targets (word ∷ out ∷ job ∷ slot ∷ []) (command.Event (event.Start o.0 0 (Some 0))) = (out, job, slot, ap (λ w. w ∷ out ∷ job ∷ slot ∷ []) e, o.1, tt, tt) in
          elim (bind-err (short job) (λ j. short slot >>= λ s. Ok (command.Event (event.Start o.0 j (Some s)))) kind o.2) [
            | inl g ↦ inr (short-err job kind g, (command.Event (event.Start o.0 0 (Some 0)), says))
            | inr j ↦ elim (bind-err (short slot) (λ s. Ok (command.Event (event.Start o.0 j.0 (Some s)))) kind j.2) [
              | inl g ↦ inr (short-err slot kind g, (command.Event (event.Start o.0 0 (Some 0)), says))
              | inr s ↦ never-err (command.Event (event.Start o.0 j.0 (Some s.0))) kind s.2
            ]
          ]
    ]
start-err targets word (out ∷ job ∷ slot ∷ more ∷ rest) kind e h = inl (same-kind {A = Command} Syntax kind h)

finish-err : (targets : List (List ℕ)) (word : List ℕ) (rest : List (List ℕ)) (kind : FaultKind) → word ≡ codes "finish" → finish_of rest ≡ Err kind → HasShape kind (SomeCommand targets (word ∷ rest))
finish-err targets word [] kind e h = inl (same-kind {A = Command} Syntax kind h)
finish-err targets word (out ∷ []) kind e h = inl (same-kind {A = Command} Syntax kind h)
finish-err targets word (out ∷ stamps ∷ rest) kind e h =
    elim (bind-err (path_of out) (λ o. listing_of rest >>= λ l. numbers_below (2 ^ 64) stamps >>= λ ns. Ok (command.Event (event.Finish o ns l))) kind h) [
      | inl g ↦ inl (path-err out kind g)
      | inr o ↦ elim (bind-err (listing_of rest) (λ l. numbers_below (2 ^ 64) stamps >>= λ ns. Ok (command.Event (event.Finish o.0 ns l))) kind o.2) [
        | inl g ↦ inl (listing-err rest kind g)
        | inr l ↦ elim (bind-err (numbers_below (2 ^ 64) stamps) (λ ns. Ok (command.Event (event.Finish o.0 ns l.0))) kind l.2) [
          | inl g ↦ inr (stamps-err stamps kind g, (command.Event (event.Finish o.0 [] l.0), (out, stamps, rest, ap (λ w. w ∷ out ∷ stamps ∷ rest) e, o.1, tt, listing_is rest l.0 l.1)))
          | inr n ↦ never-err (command.Event (event.Finish o.0 n.0 l.0)) kind n.2
        ]
      ]
    ]

ended-err : (targets : List (List ℕ)) (word : List ℕ) (make : List ℕ → List ℕ → Event) (rest : List (List ℕ)) (kind : FaultKind) (given : List ℕ)
    → ((text numbers out : List ℕ) → path_of text ≡ Ok out → SaysEvent Shape targets (given ∷ text ∷ numbers ∷ []) (make out [])) → word ≡ given → ended_of make rest ≡ Err kind → HasShape kind (SomeCommand targets (word ∷ rest))
ended-err targets word make [] kind given says e h = inl (same-kind {A = Command} Syntax kind h)
ended-err targets word make (text ∷ []) kind given says e h = inl (same-kind {A = Command} Syntax kind h)
ended-err targets word make (text ∷ numbers ∷ []) kind given says e h =
    let f : List ℕ × List ℕ → Result Command FaultKind = λ x. Ok (command.Event (make x.0 x.1)) in
    elim (bind-err (ending_of (text ∷ numbers ∷ [])) f kind h) [
      | inl g ↦ elim (bind-err (path_of text) (λ o. numbers_below (2 ^ 64) numbers >>= λ ns. Ok (o, ns)) kind g) [
        | inl p ↦ inl (path-err text kind p)
        | inr o ↦ elim (bind-err (numbers_below (2 ^ 64) numbers) (λ ns. Ok (o.0, ns)) kind o.2) [
          | inl n ↦
              let Q : List (List ℕ) → Type 0 = λ t. SaysEvent Shape targets t (make o.0 []) in
              inr (stamps-err numbers kind n, (command.Event (make o.0 []), subst Q (sym (ap (λ w. w ∷ text ∷ numbers ∷ []) e)) (says text numbers o.0 o.1)))
          | inr n ↦ never-err (o.0, n.0) kind n.2
        ]
      ]
      | inr x ↦ never-err (command.Event (make x.0.0 x.0.1)) kind x.2
    ]
ended-err targets word make (text ∷ numbers ∷ more ∷ rest) kind given says e h = inl (same-kind {A = Command} Syntax kind h)

touch-err : (targets : List (List ℕ)) (word : List ℕ) (rest : List (List ℕ)) (kind : FaultKind) → word ≡ codes "touch" → touch_of rest ≡ Err kind → HasShape kind (SomeCommand targets (word ∷ rest))
touch-err targets word [] kind e h = inl (same-kind {A = Command} Syntax kind h)
touch-err targets word (path ∷ []) kind e h = inl (same-kind {A = Command} Syntax kind h)
touch-err targets word (path ∷ stamp ∷ []) kind e h =
    elim (bind-err (path_of path) (λ p. long stamp >>= λ n. Ok (command.Event (event.Touch p n))) kind h) [
      | inl g ↦ inl (path-err path kind g)
      | inr p ↦ elim (bind-err (long stamp) (λ n. Ok (command.Event (event.Touch p.0 n))) kind p.2) [
        | inl g ↦ inr (long-err stamp kind g, (command.Event (event.Touch p.0 0), (path, stamp, ap (λ w. w ∷ path ∷ stamp ∷ []) e, p.1, tt)))
        | inr n ↦ never-err (command.Event (event.Touch p.0 n.0)) kind n.2
      ]
    ]
touch-err targets word (path ∷ stamp ∷ more ∷ rest) kind e h = inl (same-kind {A = Command} Syntax kind h)

resize-err : (targets : List (List ℕ)) (word : List ℕ) (rest : List (List ℕ)) (kind : FaultKind) → word ≡ codes "resize" → resize_of rest ≡ Err kind → HasShape kind (SomeCommand targets (word ∷ rest))
resize-err targets word [] kind e h = inl (same-kind {A = Command} Syntax kind h)
resize-err targets word (pool ∷ []) kind e h = inl (same-kind {A = Command} Syntax kind h)
resize-err targets word (pool ∷ depth ∷ []) kind e h =
    let says : SaysCommand Shape targets (word ∷ pool ∷ depth ∷ []) (command.Event (event.Resize 0 0)) = (pool, depth, ap (λ w. w ∷ pool ∷ depth ∷ []) e, tt, tt) in
    elim (bind-err (short pool) (λ p. short depth >>= λ d. Ok (command.Event (event.Resize p d))) kind h) [
      | inl g ↦ inr (short-err pool kind g, (command.Event (event.Resize 0 0), says))
      | inr p ↦ elim (bind-err (short depth) (λ d. Ok (command.Event (event.Resize p.0 d))) kind p.2) [
        | inl g ↦ inr (short-err depth kind g, (command.Event (event.Resize 0 0), says))
        | inr d ↦ never-err (command.Event (event.Resize p.0 d.0)) kind d.2
      ]
    ]
resize-err targets word (pool ∷ depth ∷ more ∷ rest) kind e h = inl (same-kind {A = Command} Syntax kind h)

break-err : (targets texts : List (List ℕ)) (rest : List (List ℕ)) (kind : FaultKind) → (point_of rest >>= λ p. Ok (command.Break p)) ≡ Err kind → HasShape kind (SomeCommand targets texts)
break-err targets texts rest kind h =
    elim (bind-err (point_of rest) (λ p. Ok (command.Break p)) kind h) [
      | inl e ↦ inl (point-err rest kind e)
      | inr f ↦ never-err (command.Break f.0) kind f.2
    ]

unbreak-err : (targets : List (List ℕ)) (word : List ℕ) (rest : List (List ℕ)) (kind : FaultKind) → word ≡ codes "unbreak" → (break_number_of rest >>= λ n. Ok (command.Unbreak n)) ≡ Err kind → HasShape kind (SomeCommand targets (word ∷ rest))
unbreak-err targets word [] kind e h = inl (same-kind {A = Command} Syntax kind h)
unbreak-err targets word (number ∷ []) kind e h =
    elim (bind-err (short number) (λ n. Ok (command.Unbreak n)) kind h) [
      | inl g ↦ inr (short-err number kind g, (command.Unbreak 0, (number, ap (λ w. w ∷ number ∷ []) e, tt)))
      | inr f ↦ never-err (command.Unbreak f.0) kind f.2
    ]
unbreak-err targets word (number ∷ more ∷ rest) kind e h = inl (same-kind {A = Command} Syntax kind h)

verb-err : (targets : List (List ℕ)) (word : List ℕ) (rest : List (List ℕ)) (v : Verb) (kind : FaultKind) → word ≡ word_of v → taken_by targets v rest ≡ Err kind → HasShape kind (SomeCommand targets (word ∷ rest))
verb-err targets word rest verb.Plan kind e h = plan-err targets (word ∷ rest) rest kind h
verb-err targets word rest verb.Start kind e h = start-err targets word rest kind e h
verb-err targets word rest verb.Finish kind e h = finish-err targets word rest kind e h
verb-err targets word rest verb.Fail kind e h = ended-err targets word event.Fail rest kind (codes "fail") (λ text numbers out p. (text, numbers, refl, p, tt)) e h
verb-err targets word rest verb.Abort kind e h = ended-err targets word event.Abort rest kind (codes "abort") (λ text numbers out p. (text, numbers, refl, p, tt)) e h
verb-err targets word rest verb.Clean kind e h = settled-err targets (word ∷ rest) event.Clean rest kind h
verb-err targets word rest verb.Pass kind e h = settled-err targets (word ∷ rest) event.Pass rest kind h
verb-err targets word rest verb.Touch kind e h = touch-err targets word rest kind e h
verb-err targets word rest verb.Interrupt kind e h = bare-err targets (word ∷ rest) (command.Event event.Interrupt) rest kind h
verb-err targets word rest verb.Resize kind e h = resize-err targets word rest kind e h
verb-err targets word rest verb.Undo kind e h = named-err targets word command.Undo rest kind (codes "undo") (λ text. (text, refl, tt)) e h
verb-err targets word rest verb.Redo kind e h = named-err targets word command.Redo rest kind (codes "redo") (λ text. (text, refl, tt)) e h
verb-err targets word rest verb.Cone kind e h = named-err targets word command.Cone rest kind (codes "cone") (λ text. (text, refl, tt)) e h
verb-err targets word rest verb.Back kind e h = bare-err targets (word ∷ rest) command.Back rest kind h
verb-err targets word rest verb.Break kind e h = break-err targets (word ∷ rest) rest kind h
verb-err targets word rest verb.Unbreak kind e h = unbreak-err targets word rest kind e h
verb-err targets word rest verb.Continue kind e h = bare-err targets (word ∷ rest) command.Continue rest kind h

any-err : (targets : List (List ℕ)) (word : List ℕ) (rest : List (List ℕ)) (o : Option Verb) (kind : FaultKind) → verb_of word ≡ o → taken_by_any targets o rest ≡ Err kind → HasShape kind (SomeCommand targets (word ∷ rest))
any-err targets word rest None kind e h = inl (same-kind {A = Command} Syntax kind h)
any-err targets word rest (Some v) kind e h = verb-err targets word rest v kind (word_is word v e) h

pub command-err : (targets texts : List (List ℕ)) (kind : FaultKind) → command_of targets texts ≡ Err kind → HasShape kind (SomeCommand targets texts)
command-err targets [] kind h = inl (same-kind {A = Command} Syntax kind h)
command-err targets (word ∷ rest) kind h = any-err targets word rest (verb_of word) kind refl h

-- one record by its word

abbrev pub SomeRecord : List (List ℕ) → Type 0
SomeRecord texts = (r : Record) × SaysRecord Shape texts r

jobs-err : (word : List ℕ) (rest : List (List ℕ)) (kind : FaultKind) → word ≡ codes "jobs" → jobs_of rest ≡ Err kind → HasShape kind (SomeRecord (word ∷ rest))
jobs-err word [] kind e h = inl (same-kind {A = Record} Syntax kind h)
jobs-err word (number ∷ []) kind e h =
    elim (bind-err (short number) (λ n. Ok (Jobs n)) kind h) [
      | inl g ↦ inr (short-err number kind g, (Jobs 0, (number, ap (λ w. w ∷ number ∷ []) e, tt)))
      | inr f ↦ never-err (Jobs f.0) kind f.2
    ]
jobs-err word (number ∷ more ∷ rest) kind e h = inl (same-kind {A = Record} Syntax kind h)

stamp-err : (word : List ℕ) (rest : List (List ℕ)) (kind : FaultKind) → word ≡ codes "stamp" → stamp_of rest ≡ Err kind → HasShape kind (SomeRecord (word ∷ rest))
stamp-err word [] kind e h = inl (same-kind {A = Record} Syntax kind h)
stamp-err word (path ∷ []) kind e h = inl (same-kind {A = Record} Syntax kind h)
stamp-err word (path ∷ stamp ∷ []) kind e h =
    elim (bind-err (path_of path) (λ p. long stamp >>= λ n. Ok (Stamp p n)) kind h) [
      | inl g ↦ inl (path-err path kind g)
      | inr p ↦ elim (bind-err (long stamp) (λ n. Ok (Stamp p.0 n)) kind p.2) [
        | inl g ↦ inr (long-err stamp kind g, (Stamp p.0 0, (path, stamp, ap (λ w. w ∷ path ∷ stamp ∷ []) e, p.1, tt)))
        | inr n ↦ never-err (Stamp p.0 n.0) kind n.2
      ]
    ]
stamp-err word (path ∷ stamp ∷ more ∷ rest) kind e h = inl (same-kind {A = Record} Syntax kind h)

built-err : (word : List ℕ) (rest : List (List ℕ)) (kind : FaultKind) → word ≡ codes "built" → built_of rest ≡ Err kind → HasShape kind (SomeRecord (word ∷ rest))
built-err word [] kind e h = inl (same-kind {A = Record} Syntax kind h)
built-err word (path ∷ []) kind e h = inl (same-kind {A = Record} Syntax kind h)
built-err word (path ∷ stamp ∷ []) kind e h = inl (same-kind {A = Record} Syntax kind h)
built-err word (path ∷ stamp ∷ command ∷ []) kind e h =
    elim (bind-err (path_of path) (λ p. long stamp >>= λ n. Ok (Built p n command)) kind h) [
      | inl g ↦ inl (path-err path kind g)
      | inr p ↦ elim (bind-err (long stamp) (λ n. Ok (Built p.0 n command)) kind p.2) [
        | inl g ↦ inr (long-err stamp kind g, (Built p.0 0 command, (path, stamp, ap (λ w. w ∷ path ∷ stamp ∷ command ∷ []) e, p.1, tt)))
        | inr n ↦ never-err (Built p.0 n.0 command) kind n.2
      ]
    ]
built-err word (path ∷ stamp ∷ command ∷ more ∷ rest) kind e h = inl (same-kind {A = Record} Syntax kind h)

deps-err : (word : List ℕ) (rest : List (List ℕ)) (kind : FaultKind) → word ≡ codes "deps" → deps_of rest ≡ Err kind → HasShape kind (SomeRecord (word ∷ rest))
deps-err word [] kind e h = inl (same-kind {A = Record} Syntax kind h)
deps-err word (path ∷ []) kind e h = inl (same-kind {A = Record} Syntax kind h)
deps-err word (path ∷ stamp ∷ names) kind e h =
    elim (bind-err (path_of path) (λ p. paths_of names >>= λ ps. long stamp >>= λ n. Ok (Deps p n ps)) kind h) [
      | inl g ↦ inl (path-err path kind g)
      | inr p ↦ elim (bind-err (paths_of names) (λ ps. long stamp >>= λ n. Ok (Deps p.0 n ps)) kind p.2) [
        | inl g ↦ inl (paths-err names kind g)
        | inr ps ↦ elim (bind-err (long stamp) (λ n. Ok (Deps p.0 n ps.0)) kind ps.2) [
          | inl g ↦ inr (long-err stamp kind g, (Deps p.0 0 ps.0, (path, stamp, names, ap (λ w. w ∷ path ∷ stamp ∷ names) e, p.1, ps.1, tt)))
          | inr n ↦ never-err (Deps p.0 n.0 ps.0) kind n.2
        ]
      ]
    ]

target-err : (texts rest : List (List ℕ)) (kind : FaultKind) → target_of rest ≡ Err kind → HasShape kind (SomeRecord texts)
target-err texts [] kind h = inl (same-kind {A = Record} Syntax kind h)
target-err texts (path ∷ []) kind h =
    elim (bind-err (path_of path) (λ p. Ok (Target p)) kind h) [
      | inl g ↦ inl (path-err path kind g)
      | inr p ↦ never-err (Target p.0) kind p.2
    ]
target-err texts (path ∷ more ∷ rest) kind h = inl (same-kind {A = Record} Syntax kind h)

pub chosen : {A : Type 0} (b : Bool) (x y z : A) → cond b x y ≡ z → ((b ≡ true) × (x ≡ z)) ⊎ ((b ≡ false) × (y ≡ z))
chosen true x y z h = inl (refl, h)
chosen false x y z h = inr (refl, h)

pub is-word : (word given : List ℕ) → bytes_eq word given ≡ true → word ≡ given
is-word word given h = (bytes_eq-Decides word given).0 h

pub record-err : (texts : List (List ℕ)) (kind : FaultKind) → record_of texts ≡ Err kind → HasShape kind (SomeRecord texts)
record-err [] kind h = inl (same-kind {A = Record} Syntax kind h)
record-err (word ∷ rest) kind h =
    elim (chosen (bytes_eq word (codes "jobs")) (jobs_of rest) _ (Err kind) h) [
      | inl a ↦ jobs-err word rest kind (is-word word (codes "jobs") a.0) a.1
      | inr b ↦ elim (chosen (bytes_eq word (codes "stamp")) (stamp_of rest) _ (Err kind) b.1) [
        | inl a ↦ stamp-err word rest kind (is-word word (codes "stamp") a.0) a.1
        | inr c ↦ elim (chosen (bytes_eq word (codes "built")) (built_of rest) _ (Err kind) c.1) [
          | inl a ↦ built-err word rest kind (is-word word (codes "built") a.0) a.1
          | inr d ↦ elim (chosen (bytes_eq word (codes "deps")) (deps_of rest) _ (Err kind) d.1) [
            | inl a ↦ deps-err word rest kind (is-word word (codes "deps") a.0) a.1
            | inr e ↦ elim (chosen (bytes_eq word (codes "target")) (target_of rest) (Err Syntax) (Err kind) e.1) [
              | inl a ↦ target-err (word ∷ rest) rest kind a.1
              | inr f ↦ inl (same-kind {A = Record} Syntax kind f.1)
            ]
          ]
        ]
      ]
    ]

-- a record is read exactly where its row says it, but for the range of the number of jobs

abbrev pub InRange : Record → Type 0
InRange (Jobs n) = (0 < n) × (n ≤ 1024)
InRange (Stamp path n) = Unit {0}
InRange (Built path n command) = Unit {0}
InRange (Deps path n paths) = Unit {0}
InRange (Target path) = Unit {0}

pub record-read : (texts : List (List ℕ)) (r : Record) → SaysRecord Exact texts r → (record_of texts ≡ Ok r) × InRange r
record-read texts (Jobs n) h = (ap record_of h.1 ∙ ap (λ r. r >>= λ n. Ok (Jobs n)) (short-of h.0 n h.2.0), (h.2.1, h.2.2))
record-read texts (Stamp path n) h =
    (ap record_of h.2 ∙ ap (λ r. r >>= λ p. long h.1 >>= λ n. Ok (Stamp p n)) h.3 ∙ ap (λ r. r >>= λ n. Ok (Stamp path n)) (long-of h.1 n h.4), tt)
record-read texts (Built path n command) h =
    (ap record_of h.2 ∙ ap (λ r. r >>= λ p. long h.1 >>= λ n. Ok (Built p n command)) h.3 ∙ ap (λ r. r >>= λ n. Ok (Built path n command)) (long-of h.1 n h.4), tt)
record-read texts (Deps path n paths) h = (
  ap record_of h.3 ∙ ap (λ r. r >>= λ p. paths_of h.2 >>= λ ps. long h.1 >>= λ n. Ok (Deps p n ps)) h.4
      ∙ ap (λ r. r >>= λ ps. long h.1 >>= λ n. Ok (Deps path n ps)) h.5 ∙ ap (λ r. r >>= λ n. Ok (Deps path n paths)) (long-of h.1 n h.6),
  tt,
)
record-read texts (Target path) h = (ap record_of h.1 ∙ ap (λ r. r >>= λ p. Ok (Target p)) h.2, tt)

pub record-shape : (texts : List (List ℕ)) (r : Record) → SaysRecord Exact texts r → SaysRecord Shape texts r
record-shape texts (Jobs n) h = (h.0, h.1, tt)
record-shape texts (Stamp path n) h = (h.0, h.1, h.2, h.3, tt)
record-shape texts (Built path n command) h = (h.0, h.1, h.2, h.3, tt)
record-shape texts (Deps path n paths) h = (h.0, h.1, h.2, h.3, h.4, h.5, tt)
record-shape texts (Target path) h = h

abbrev pub IsRead : List (List ℕ) → Record → Type 0
IsRead texts r = SaysRecord Shape texts r × (InRange r → SaysRecord Exact texts r)

read-as : (texts : List (List ℕ)) (made r : Record) → IsRead texts made → ◌≡◌ {A = Result Record FaultKind} (Ok made) (Ok r) → IsRead texts r
read-as texts made r says h = let P : Record → Type 0 = λ x. IsRead texts x in subst P (ok_is made r h) says

exactly : (texts : List (List ℕ)) (r : Record) → SaysRecord Exact texts r → IsRead texts r
exactly texts r h = (record-shape texts r h, λ range. h)

never-read : {B : Type 0} (r : Record) → ◌≡◌ {A = Result Record FaultKind} (Err Syntax) (Ok r) → B
never-read {B} r h = absurd (let no : ◌≡◌ {A = Result Record FaultKind} (Err Syntax) (Ok r) = h in cc)

jobs-is : (word : List ℕ) (rest : List (List ℕ)) (r : Record) → word ≡ codes "jobs" → jobs_of rest ≡ Ok r → IsRead (word ∷ rest) r
jobs-is word [] r e h = never-read r h
jobs-is word (number ∷ []) r e h =
    let n = bind_ok (short number) (λ n. Ok (Jobs n)) r h in
    read-as (word ∷ number ∷ []) (Jobs n.0) r ((number, ap (λ w. w ∷ number ∷ []) e, tt), λ range. (number, ap (λ w. w ∷ number ∷ []) e, (short-is number n.0 n.1, range.0, range.1))) n.2
jobs-is word (number ∷ more ∷ rest) r e h = never-read r h

stamp-is : (word : List ℕ) (rest : List (List ℕ)) (r : Record) → word ≡ codes "stamp" → stamp_of rest ≡ Ok r → IsRead (word ∷ rest) r
stamp-is word [] r e h = never-read r h
stamp-is word (path ∷ []) r e h = never-read r h
stamp-is word (path ∷ stamp ∷ []) r e h =
    let p = bind_ok (path_of path) (λ p. long stamp >>= λ n. Ok (Stamp p n)) r h in
    let n = bind_ok (long stamp) (λ n. Ok (Stamp p.0 n)) r p.2 in
    read-as (word ∷ path ∷ stamp ∷ []) (Stamp p.0 n.0) r (exactly (word ∷ path ∷ stamp ∷ []) (Stamp p.0 n.0) (path, stamp, ap (λ w. w ∷ path ∷ stamp ∷ []) e, p.1, long-is stamp n.0 n.1)) n.2
stamp-is word (path ∷ stamp ∷ more ∷ rest) r e h = never-read r h

built-is : (word : List ℕ) (rest : List (List ℕ)) (r : Record) → word ≡ codes "built" → built_of rest ≡ Ok r → IsRead (word ∷ rest) r
built-is word [] r e h = never-read r h
built-is word (path ∷ []) r e h = never-read r h
built-is word (path ∷ stamp ∷ []) r e h = never-read r h
built-is word (path ∷ stamp ∷ command ∷ []) r e h =
    let p = bind_ok (path_of path) (λ p. long stamp >>= λ n. Ok (Built p n command)) r h in
    let n = bind_ok (long stamp) (λ n. Ok (Built p.0 n command)) r p.2 in
    read-as (word ∷ path ∷ stamp ∷ command ∷ []) (Built p.0 n.0 command) r (exactly (word ∷ path ∷ stamp ∷ command ∷ []) (Built p.0 n.0 command) (path, stamp, ap (λ w. w ∷ path ∷ stamp ∷ command ∷ []) e, p.1, long-is stamp n.0 n.1)) n.2
built-is word (path ∷ stamp ∷ command ∷ more ∷ rest) r e h = never-read r h

deps-is : (word : List ℕ) (rest : List (List ℕ)) (r : Record) → word ≡ codes "deps" → deps_of rest ≡ Ok r → IsRead (word ∷ rest) r
deps-is word [] r e h = never-read r h
deps-is word (path ∷ []) r e h = never-read r h
deps-is word (path ∷ stamp ∷ names) r e h =
    let p = bind_ok (path_of path) (λ p. paths_of names >>= λ ps. long stamp >>= λ n. Ok (Deps p n ps)) r h in
    let ps = bind_ok (paths_of names) (λ ps. long stamp >>= λ n. Ok (Deps p.0 n ps)) r p.2 in
    let n = bind_ok (long stamp) (λ n. Ok (Deps p.0 n ps.0)) r ps.2 in
    read-as (word ∷ path ∷ stamp ∷ names) (Deps p.0 n.0 ps.0) r (exactly (word ∷ path ∷ stamp ∷ names) (Deps p.0 n.0 ps.0) (path, stamp, names, ap (λ w. w ∷ path ∷ stamp ∷ names) e, p.1, ps.1, long-is stamp n.0 n.1)) n.2

target-is : (word : List ℕ) (rest : List (List ℕ)) (r : Record) → word ≡ codes "target" → target_of rest ≡ Ok r → IsRead (word ∷ rest) r
target-is word [] r e h = never-read r h
target-is word (path ∷ []) r e h =
    let p = bind_ok (path_of path) (λ p. Ok (Target p)) r h in
    read-as (word ∷ path ∷ []) (Target p.0) r (exactly (word ∷ path ∷ []) (Target p.0) (path, ap (λ w. w ∷ path ∷ []) e, p.1)) p.2
target-is word (path ∷ more ∷ rest) r e h = never-read r h

pub record-is : (texts : List (List ℕ)) (r : Record) → record_of texts ≡ Ok r → IsRead texts r
record-is [] r h = never-read r h
record-is (word ∷ rest) r h =
    elim (chosen (bytes_eq word (codes "jobs")) (jobs_of rest) _ (Ok r) h) [
      | inl a ↦ jobs-is word rest r (is-word word (codes "jobs") a.0) a.1
      | inr b ↦ elim (chosen (bytes_eq word (codes "stamp")) (stamp_of rest) _ (Ok r) b.1) [
        | inl a ↦ stamp-is word rest r (is-word word (codes "stamp") a.0) a.1
        | inr c ↦ elim (chosen (bytes_eq word (codes "built")) (built_of rest) _ (Ok r) c.1) [
          | inl a ↦ built-is word rest r (is-word word (codes "built") a.0) a.1
          | inr d ↦ elim (chosen (bytes_eq word (codes "deps")) (deps_of rest) _ (Ok r) d.1) [
            | inl a ↦ deps-is word rest r (is-word word (codes "deps") a.0) a.1
            | inr e ↦ elim (chosen (bytes_eq word (codes "target")) (target_of rest) (Err Syntax) (Ok r) e.1) [
              | inl a ↦ target-is word rest r (is-word word (codes "target") a.0) a.1
              | inr f ↦ never-read r f.1
            ]
          ]
        ]
      ]
    ]

-- what a line says exactly, it says by its shape

event-shape : (targets texts : List (List ℕ)) (e : Event) → SaysEvent Exact targets texts e → SaysEvent Shape targets texts e
event-shape targets texts (event.Plan paths) h = h
event-shape targets texts (event.Start out job None) h = (h.0, h.1, h.2, h.3, tt)
event-shape targets texts (event.Start out job (Some slot)) h = (h.0, h.1, h.2, h.3, h.4, tt, tt)
event-shape targets texts (event.Finish out stamps l) h = (h.0, h.1, h.2, h.3, h.4, tt, h.6)
event-shape targets texts (event.Fail out stamps) h = (h.0, h.1, h.2, h.3, tt)
event-shape targets texts (event.Abort out stamps) h = (h.0, h.1, h.2, h.3, tt)
event-shape targets texts (event.Clean out) h = h
event-shape targets texts (event.Pass out) h = h
event-shape targets texts (event.Touch path stamp) h = (h.0, h.1, h.2, h.3, tt)
event-shape targets texts event.Interrupt h = h
event-shape targets texts (event.Resize pool depth) h = (h.0, h.1, h.2, tt, tt)

pub command-shape : (targets texts : List (List ℕ)) (c : Command) → SaysCommand Exact targets texts c → SaysCommand Shape targets texts c
command-shape targets texts (command.Event e) h = event-shape targets texts e h
command-shape targets texts (command.Undo w) h = (h.0, h.1, tt)
command-shape targets texts (command.Redo w) h = (h.0, h.1, tt)
command-shape targets texts (command.Cone w) h = (h.0, h.1, tt)
command-shape targets texts command.Back h = h
command-shape targets texts (command.Break p) h = h
command-shape targets texts (command.Unbreak n) h = (h.0, h.1, tt)
command-shape targets texts command.Continue h = h
