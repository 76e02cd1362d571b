-- The commands of lines are those that the table says.
use Rattle.std.proofs.Common.{◌≡◌, ℕ, ◌^◌, Bool, true, cond, List, [], ◌∷◌, refl, sym, ap, ◌∙◌, subst, arith, inl, inr, Option, Some, None, Result, Ok, Err}
use Rattle.std.proofs.lemmas.Bool.{cases_Bool}
use Rattle.std.proofs.lemmas.Slice.Eq.{bytes_eq-Decides}
use Rattle.std.specs.Prelude.{codes, find}
use Rattle.std.specs.Str.{bytes_eq}
use Rattle.rev_commands.specs.declared.command.Command.{Command}
use Rattle.rev_commands.specs.declared.command.Command.TheVariants as command
use Rattle.rev_commands.specs.declared.point.Point.{Point}
use Rattle.rev_commands.specs.declared.point.Point.TheVariants as point
use Rattle.rev_commands.specs.declared.which.Which.{Which}
use Rattle.rev_events.specs.declared.event.Event.{Event}
use Rattle.rev_events.specs.declared.event.Event.TheVariants as event
use Rattle.rev_events.specs.declared.event.Listing.{Listing}
use Rattle.rev_events.specs.declared.event.Listing.TheVariants as listing
use Rattle.rev_fields.specs.declared.faults.FaultKind.{FaultKind}
use Rattle.rev_fields.specs.declared.faults.FaultKind.TheVariants.{Syntax}
use Rattle.rev_fields.specs.Faults.{◌>>=◌}
use Rattle.rev_fields.specs.Fields.{texts_of}
use Rattle.rev_fields.specs.Lines.{path_of, paths_of, read_as}
use Rattle.rev_fields.specs.Numbers.{numbers_below}
use Rattle.rev_trace.specs.declared.verb.Verb.{Verb}
use Rattle.rev_trace.specs.declared.verb.Verb.TheVariants as verb
use Rattle.rev_trace.specs.Commands.{alone_of, break_number_of, command_line, command_of, depfile_of, ended_of, ending_of, finish_of, list_of, listing_of, long, name_of, nothing_of, plan_of, point_by, point_by_any, point_of, resize_of, short, start_of, taken_by, taken_by_any, touch_of, verb_of, verbs, which_of, word_of}
use Rattle.rev_trace.specs.Laws.{LinesSayCommands}
use Rattle.rev_fields.proofs.GrammarLemmas.{fields-are-read}
use Rattle.rev_trace.proofs.NumberLemmas.{long-is, long-of, short-is, short-of, stamps-is, stamps-of, which-is, which-of}
use Rattle.rev_trace.specs.Grammar.{Exact, LineSays, SaysCommand, SaysEvent, SaysListing, SaysPoint, SaysTargets}

-- from the table to what is read

pub targets_read : (targets names paths : List (List ℕ)) → SaysTargets targets names paths → command_of targets (codes "plan" ∷ names) ≡ Ok (command.Event (event.Plan paths))
targets_read targets names paths (inl none) =
    ap (λ l. command_of targets (codes "plan" ∷ l)) none.0 ∙ ap (λ l. Ok (command.Event (event.Plan l))) (sym none.1)
targets_read targets [] paths (inr some) = absurd (omega (arith, some.0))
targets_read targets (name ∷ names) paths (inr some) = ap (λ r. r >>= λ l. Ok (command.Event (event.Plan l))) some.1

pub listing_read : (rest : List (List ℕ)) (l : Listing) → SaysListing rest l → listing_of rest ≡ Ok l
listing_read rest listing.Nothing h = ap listing_of h
listing_read rest (listing.Depfile text) h = ap listing_of h
listing_read rest (listing.Paths paths) h = ap listing_of h.1 ∙ ap (λ r. r >>= λ names. Ok (listing.Paths names)) h.2

abbrev ending_with : List ℕ → Result (List ℕ) FaultKind → Result (List ℕ × List ℕ) FaultKind
ending_with out stamps = stamps >>= λ ns. Ok (out, ns)

abbrev named_with : List ℕ → Result (List ℕ) FaultKind → Result (List ℕ × List ℕ) FaultKind
named_with numbers out = out >>= λ o. ending_with o (numbers_below (2 ^ 64) numbers)

abbrev made_with : (List ℕ → List ℕ → Event) → Result (List ℕ × List ℕ) FaultKind → Result Command FaultKind
made_with make r = r >>= λ e. Ok (command.Event (make e.0 e.1))

ended_read : (make : List ℕ → List ℕ → Event) (text numbers out stamps : List ℕ) → path_of text ≡ Ok out → numbers_below (2 ^ 64) numbers ≡ Ok stamps → ended_of make (text ∷ numbers ∷ []) ≡ Ok (command.Event (make out stamps))
ended_read make text numbers out stamps o n =
    ap (λ r. made_with make (named_with numbers r)) o ∙ ap (λ r. made_with make (ending_with out r)) n

pub event_read : (targets texts : List (List ℕ)) (e : Event) → SaysEvent Exact targets texts e → command_of targets texts ≡ Ok (command.Event e)
event_read targets texts (event.Plan paths) h = ap (command_of targets) h.1 ∙ targets_read targets h.0 paths h.2
event_read targets texts (event.Start out job None) h =
    ap (command_of targets) h.2 ∙ ap (λ r. r >>= λ o. short h.1 >>= λ j. Ok (command.Event (event.Start o j None))) h.3
    ∙ ap (λ r. r >>= λ j. Ok (command.Event (event.Start out j None))) (short-of h.1 job h.4)
event_read targets texts (event.Start out job (Some slot)) h =
    ap (command_of targets) h.3 ∙ ap (λ r. r >>= λ o. short h.1 >>= λ j. short h.2 >>= λ s. Ok (command.Event (event.Start o j (Some s)))) h.4
    ∙ ap (λ r. r >>= λ j. short h.2 >>= λ s. Ok (command.Event (event.Start out j (Some s)))) (short-of h.1 job h.5)
    ∙ ap (λ r. r >>= λ s. Ok (command.Event (event.Start out job (Some s)))) (short-of h.2 slot h.6)
event_read targets texts (event.Finish out stamps l) h =
    ap (command_of targets) h.3
    ∙ ap (λ r. r >>= λ o. listing_of h.2 >>= λ l. numbers_below (2 ^ 64) h.1 >>= λ ns. Ok (command.Event (event.Finish o ns l))) h.4
    ∙ ap (λ r. r >>= λ l. numbers_below (2 ^ 64) h.1 >>= λ ns. Ok (command.Event (event.Finish out ns l))) (listing_read h.2 l h.6)
    ∙ ap (λ r. r >>= λ ns. Ok (command.Event (event.Finish out ns l))) (stamps-of h.1 stamps h.5)
event_read targets texts (event.Fail out stamps) h = ap (command_of targets) h.2 ∙ ended_read event.Fail h.0 h.1 out stamps h.3 (stamps-of h.1 stamps h.4)
event_read targets texts (event.Abort out stamps) h = ap (command_of targets) h.2 ∙ ended_read event.Abort h.0 h.1 out stamps h.3 (stamps-of h.1 stamps h.4)
event_read targets texts (event.Clean out) h = ap (command_of targets) h.1 ∙ ap (λ r. r >>= λ o. Ok (command.Event (event.Clean o))) h.2
event_read targets texts (event.Pass out) h = ap (command_of targets) h.1 ∙ ap (λ r. r >>= λ o. Ok (command.Event (event.Pass o))) h.2
event_read targets texts (event.Touch path stamp) h =
    ap (command_of targets) h.2 ∙ ap (λ r. r >>= λ p. long h.1 >>= λ n. Ok (command.Event (event.Touch p n))) h.3
    ∙ ap (λ r. r >>= λ n. Ok (command.Event (event.Touch path n))) (long-of h.1 stamp h.4)
event_read targets texts event.Interrupt h = ap (command_of targets) h
event_read targets texts (event.Resize pool depth) h =
    ap (command_of targets) h.2 ∙ ap (λ r. r >>= λ p. short h.1 >>= λ d. Ok (command.Event (event.Resize p d))) (short-of h.0 pool h.3)
    ∙ ap (λ r. r >>= λ d. Ok (command.Event (event.Resize pool d))) (short-of h.1 depth h.4)

pub point_read : (texts : List (List ℕ)) (p : Point) → SaysPoint texts p → point_of texts ≡ Ok p
point_read texts (point.Start out) h = ap point_of h.1 ∙ ap (λ r. r >>= λ o. Ok (point.Start o)) h.2
point_read texts (point.Finish out) h = ap point_of h.1 ∙ ap (λ r. r >>= λ o. Ok (point.Finish o)) h.2
point_read texts (point.Fail out) h = ap point_of h.1 ∙ ap (λ r. r >>= λ o. Ok (point.Fail o)) h.2
point_read texts (point.Abort out) h = ap point_of h.1 ∙ ap (λ r. r >>= λ o. Ok (point.Abort o)) h.2
point_read texts (point.Clean out) h = ap point_of h.1 ∙ ap (λ r. r >>= λ o. Ok (point.Clean o)) h.2
point_read texts (point.Pass out) h = ap point_of h.1 ∙ ap (λ r. r >>= λ o. Ok (point.Pass o)) h.2
point_read texts (point.Touch path) h = ap point_of h.1 ∙ ap (λ r. r >>= λ o. Ok (point.Touch o)) h.2
point_read texts point.Plan h = ap point_of h
point_read texts point.Interrupt h = ap point_of h

pub said_read : (targets texts : List (List ℕ)) (c : Command) → SaysCommand Exact targets texts c → command_of targets texts ≡ Ok c
said_read targets texts (command.Event e) h = event_read targets texts e h
said_read targets texts (command.Undo w) h = ap (command_of targets) h.1 ∙ ap (λ r. r >>= λ w. Ok (command.Undo w)) (which-of h.0 w h.2)
said_read targets texts (command.Redo w) h = ap (command_of targets) h.1 ∙ ap (λ r. r >>= λ w. Ok (command.Redo w)) (which-of h.0 w h.2)
said_read targets texts (command.Cone w) h = ap (command_of targets) h.1 ∙ ap (λ r. r >>= λ w. Ok (command.Cone w)) (which-of h.0 w h.2)
said_read targets texts command.Back h = ap (command_of targets) h
said_read targets texts (command.Break p) h = ap (command_of targets) h.1 ∙ ap (λ r. r >>= λ p. Ok (command.Break p)) (point_read h.0 p h.2)
said_read targets texts (command.Unbreak n) h = ap (command_of targets) h.1 ∙ ap (λ r. r >>= λ n. Ok (command.Unbreak n)) (short-of h.0 n h.2)
said_read targets texts command.Continue h = ap (command_of targets) h

-- from what is read to the table

pub bind_ok : {A B : Type 0} (r : Result A FaultKind) (f : A → Result B FaultKind) (b : B) → (r >>= f) ≡ Ok b → (a : A) × (r ≡ Ok a) × (f a ≡ Ok b)
bind_ok (Ok a) f b h = (a, refl, h)
bind_ok {A} {B} (Err kind) f b h = absurd (let no : ◌≡◌ {A = Result B FaultKind} (Err kind) (Ok b) = h in cc)

pub ok_is : {A : Type 0} (a b : A) → ◌≡◌ {A = Result A FaultKind} (Ok a) (Ok b) → a ≡ b
ok_is a b h = cc

pub syntax_never : {A B : Type 0} (a : A) → ◌≡◌ {A = Result A FaultKind} (Err Syntax) (Ok a) → B
syntax_never {A} {B} a h = absurd (let no : ◌≡◌ {A = Result A FaultKind} (Err Syntax) (Ok a) = h in cc)

pub find_passes : {X : Type 0} (p : X → Bool) (xs : List X) (x : X) → find p xs ≡ Some x → p x ≡ true
find_passes {X} p [] x h = absurd (let no : ◌≡◌ {A = Option X} None (Some x) = h in cc)
find_passes {X} p (y ∷ ys) x h =
    elim (cases_Bool (p y)) [
      | inl passes ↦
          let here : ◌≡◌ {A = Option X} (Some y) (Some x) = sym (ap (λ b. cond b (Some y) (find p ys)) passes) ∙ h in
          let same : y ≡ x = cc in
          ap p (sym same) ∙ passes
      | inr fails ↦ find_passes p ys x (sym (ap (λ b. cond b (Some y) (find p ys)) fails) ∙ h)
    ]

pub word_is : (word : List ℕ) (v : Verb) → verb_of word ≡ Some v → word ≡ word_of v
word_is word v h = (bytes_eq-Decides word (word_of v)).0 (find_passes (λ v. bytes_eq word (word_of v)) verbs v h)

pub alone_is : (rest : List (List ℕ)) (path : List ℕ) → alone_of rest ≡ Ok path → (text : List ℕ) × (rest ≡ text ∷ []) × (path_of text ≡ Ok path)
alone_is [] path h = syntax_never path h
alone_is (text ∷ []) path h = (text, refl, h)
alone_is (text ∷ more ∷ rest) path h = syntax_never path h

pub name_is : (rest : List (List ℕ)) (w : Which) → name_of rest ≡ Ok w → (text : List ℕ) × (rest ≡ text ∷ []) × (which_of text ≡ Ok w)
name_is [] w h = syntax_never w h
name_is (text ∷ []) w h = (text, refl, h)
name_is (text ∷ more ∷ rest) w h = syntax_never w h

pub number_is : (rest : List (List ℕ)) (n : ℕ) → break_number_of rest ≡ Ok n → (text : List ℕ) × (rest ≡ text ∷ []) × (short text ≡ Ok n)
number_is [] n h = syntax_never n h
number_is (text ∷ []) n h = (text, refl, h)
number_is (text ∷ more ∷ rest) n h = syntax_never n h

pub nothing_is : (rest : List (List ℕ)) (u : Unit {0}) → nothing_of rest ≡ Ok u → rest ≡ []
nothing_is [] u h = refl
nothing_is (more ∷ rest) u h = syntax_never u h

pub ending_is : (rest : List (List ℕ)) (e : List ℕ × List ℕ) → ending_of rest ≡ Ok e → (text : List ℕ) × (numbers : List ℕ) × (rest ≡ text ∷ numbers ∷ []) × (path_of text ≡ Ok e.0) × (numbers_below (2 ^ 64) numbers ≡ Ok e.1)
ending_is [] e h = syntax_never e h
ending_is (text ∷ []) e h = syntax_never e h
ending_is (text ∷ numbers ∷ []) e h =
    let o = bind_ok (path_of text) (λ o. numbers_below (2 ^ 64) numbers >>= λ ns. Ok (o, ns)) e h in
    let n = bind_ok (numbers_below (2 ^ 64) numbers) (λ ns. Ok (o.0, ns)) e o.2 in
    let same : (o.0, n.0) ≡ e = ok_is (o.0, n.0) e n.2 in
    (text, numbers, refl, o.1 ∙ ap (λ x. Ok x.0) same, n.1 ∙ ap (λ x. Ok x.1) same)
ending_is (text ∷ numbers ∷ more ∷ rest) e h = syntax_never e h

pub listing_is : (rest : List (List ℕ)) (l : Listing) → listing_of rest ≡ Ok l → SaysListing rest l
listing_is [] l h =
    let P : Listing → Type 0 = λ x. SaysListing [] x in
    subst P (ok_is listing.Nothing l h) refl
listing_is (word ∷ rest) l h =
    elim (cases_Bool (bytes_eq word (codes "depfile"))) [
      | inl depfile ↦ depfile_is word rest l ((bytes_eq-Decides word (codes "depfile")).0 depfile) (sym (ap (λ b. cond b (depfile_of rest) (cond (bytes_eq word (codes "list")) (list_of rest) (Err Syntax))) depfile) ∙ h)
      | inr other ↦
          let h1 = sym (ap (λ b. cond b (depfile_of rest) (cond (bytes_eq word (codes "list")) (list_of rest) (Err Syntax))) other) ∙ h in
          elim (cases_Bool (bytes_eq word (codes "list"))) [
            | inl list ↦ list_is word rest l ((bytes_eq-Decides word (codes "list")).0 list) (sym (ap (λ b. cond b (list_of rest) (Err Syntax)) list) ∙ h1)
            | inr none ↦ syntax_never l (sym (ap (λ b. cond b (list_of rest) (Err Syntax)) none) ∙ h1)
          ]
    ]
  where
    depfile_is : (word : List ℕ) (rest : List (List ℕ)) (l : Listing) → word ≡ codes "depfile" → depfile_of rest ≡ Ok l → SaysListing (word ∷ rest) l
    depfile_is word [] l e h = syntax_never l h
    depfile_is word (text ∷ []) l e h =
        let P : Listing → Type 0 = λ x. SaysListing (word ∷ text ∷ []) x in
        subst P (ok_is (listing.Depfile text) l h) (ap (λ w. w ∷ text ∷ []) e)
    depfile_is word (text ∷ more ∷ rest) l e h = syntax_never l h

    list_is : (word : List ℕ) (rest : List (List ℕ)) (l : Listing) → word ≡ codes "list" → list_of rest ≡ Ok l → SaysListing (word ∷ rest) l
    list_is word rest l e h =
        let names = bind_ok (paths_of rest) (λ names. Ok (listing.Paths names)) l h in
        let P : Listing → Type 0 = λ x. SaysListing (word ∷ rest) x in
        subst P (ok_is (listing.Paths names.0) l names.2) (rest, ap (λ w. w ∷ rest) e, names.1)

-- a word and what follows it, where the one and the other are these
pub texts_are : (word given : List ℕ) (rest followed : List (List ℕ)) → word ≡ given → rest ≡ followed → word ∷ rest ≡ given ∷ followed
texts_are word given rest followed e f = ap (λ w. w ∷ rest) e ∙ ap (λ r. given ∷ r) f

point_bare : (word : List ℕ) (rest : List (List ℕ)) (made p : Point) (given : List ℕ) → SaysPoint (given ∷ []) made → word ≡ given → (nothing_of rest >>= λ none. Ok made) ≡ Ok p → SaysPoint (word ∷ rest) p
point_bare word rest made p given says e h =
    let n = bind_ok (nothing_of rest) (λ none. Ok made) p h in
    let P : Point → Type 0 = λ x. SaysPoint (word ∷ rest) x in
    let Q : List (List ℕ) → Type 0 = λ t. SaysPoint t made in
    subst P (ok_is made p n.2) (subst Q (sym (texts_are word given rest [] e (nothing_is rest n.0 n.1))) says)

point_at : (word : List ℕ) (rest : List (List ℕ)) (make : List ℕ → Point) (p : Point) (given : List ℕ) → ((text path : List ℕ) → path_of text ≡ Ok path → SaysPoint (given ∷ text ∷ []) (make path)) → word ≡ given → (alone_of rest >>= λ name. Ok (make name)) ≡ Ok p → SaysPoint (word ∷ rest) p
point_at word rest make p given says e h =
    let n = bind_ok (alone_of rest) (λ name. Ok (make name)) p h in
    let a = alone_is rest n.0 n.1 in
    let P : Point → Type 0 = λ x. SaysPoint (word ∷ rest) x in
    let Q : List (List ℕ) → Type 0 = λ t. SaysPoint t (make n.0) in
    subst P (ok_is (make n.0) p n.2) (subst Q (sym (texts_are word given rest (a.0 ∷ []) e a.1)) (says a.0 n.0 a.2))

point_said : (word : List ℕ) (rest : List (List ℕ)) (v : Verb) (p : Point) → word ≡ word_of v → point_by v rest ≡ Ok p → SaysPoint (word ∷ rest) p
point_said word rest verb.Plan p e h = point_bare word rest point.Plan p (codes "plan") refl e h
point_said word rest verb.Start p e h = point_at word rest point.Start p (codes "start") (λ text path r. (text, refl, r)) e h
point_said word rest verb.Finish p e h = point_at word rest point.Finish p (codes "finish") (λ text path r. (text, refl, r)) e h
point_said word rest verb.Fail p e h = point_at word rest point.Fail p (codes "fail") (λ text path r. (text, refl, r)) e h
point_said word rest verb.Abort p e h = point_at word rest point.Abort p (codes "abort") (λ text path r. (text, refl, r)) e h
point_said word rest verb.Clean p e h = point_at word rest point.Clean p (codes "clean") (λ text path r. (text, refl, r)) e h
point_said word rest verb.Pass p e h = point_at word rest point.Pass p (codes "pass") (λ text path r. (text, refl, r)) e h
point_said word rest verb.Touch p e h = point_at word rest point.Touch p (codes "touch") (λ text path r. (text, refl, r)) e h
point_said word rest verb.Interrupt p e h = point_bare word rest point.Interrupt p (codes "interrupt") refl e h
point_said word rest verb.Resize p e h = syntax_never p h
point_said word rest verb.Undo p e h = syntax_never p h
point_said word rest verb.Redo p e h = syntax_never p h
point_said word rest verb.Cone p e h = syntax_never p h
point_said word rest verb.Back p e h = syntax_never p h
point_said word rest verb.Break p e h = syntax_never p h
point_said word rest verb.Unbreak p e h = syntax_never p h
point_said word rest verb.Continue p e h = syntax_never p h

point_any : (word : List ℕ) (rest : List (List ℕ)) (o : Option Verb) (p : Point) → verb_of word ≡ o → point_by_any o rest ≡ Ok p → SaysPoint (word ∷ rest) p
point_any word rest None p e h = syntax_never p h
point_any word rest (Some v) p e h = point_said word rest v p (word_is word v e) h

pub point_is : (texts : List (List ℕ)) (p : Point) → point_of texts ≡ Ok p → SaysPoint texts p
point_is [] p h = syntax_never p h
point_is (word ∷ rest) p h = point_any word rest (verb_of word) p refl h

-- one command by its word

bare_said : (targets : List (List ℕ)) (word : List ℕ) (rest : List (List ℕ)) (made c : Command) (given : List ℕ) → SaysCommand Exact targets (given ∷ []) made → word ≡ given → (nothing_of rest >>= λ none. Ok made) ≡ Ok c → SaysCommand Exact targets (word ∷ rest) c
bare_said targets word rest made c given says e h =
    let n = bind_ok (nothing_of rest) (λ none. Ok made) c h in
    let P : Command → Type 0 = λ x. SaysCommand Exact targets (word ∷ rest) x in
    let Q : List (List ℕ) → Type 0 = λ t. SaysCommand Exact targets t made in
    subst P (ok_is made c n.2) (subst Q (sym (texts_are word given rest [] e (nothing_is rest n.0 n.1))) says)

named_said : (targets : List (List ℕ)) (word : List ℕ) (rest : List (List ℕ)) (make : Which → Command) (c : Command) (given : List ℕ) → ((text : List ℕ) (w : Which) → which_of text ≡ Ok w → SaysCommand Exact targets (given ∷ text ∷ []) (make w)) → word ≡ given → (name_of rest >>= λ w. Ok (make w)) ≡ Ok c → SaysCommand Exact targets (word ∷ rest) c
named_said targets word rest make c given says e h =
    let n = bind_ok (name_of rest) (λ w. Ok (make w)) c h in
    let a = name_is rest n.0 n.1 in
    let P : Command → Type 0 = λ x. SaysCommand Exact targets (word ∷ rest) x in
    let Q : List (List ℕ) → Type 0 = λ t. SaysCommand Exact targets t (make n.0) in
    subst P (ok_is (make n.0) c n.2) (subst Q (sym (texts_are word given rest (a.0 ∷ []) e a.1)) (says a.0 n.0 a.2))

settled_said : (targets : List (List ℕ)) (word : List ℕ) (rest : List (List ℕ)) (make : List ℕ → Event) (c : Command) (given : List ℕ) → ((text path : List ℕ) → path_of text ≡ Ok path → SaysEvent Exact targets (given ∷ text ∷ []) (make path)) → word ≡ given → (alone_of rest >>= λ o. Ok (command.Event (make o))) ≡ Ok c → SaysCommand Exact targets (word ∷ rest) c
settled_said targets word rest make c given says e h =
    let n = bind_ok (alone_of rest) (λ o. Ok (command.Event (make o))) c h in
    let a = alone_is rest n.0 n.1 in
    let P : Command → Type 0 = λ x. SaysCommand Exact targets (word ∷ rest) x in
    let Q : List (List ℕ) → Type 0 = λ t. SaysEvent Exact targets t (make n.0) in
    subst P (ok_is (command.Event (make n.0)) c n.2) (subst Q (sym (texts_are word given rest (a.0 ∷ []) e a.1)) (says a.0 n.0 a.2))

ended_said : (targets : List (List ℕ)) (word : List ℕ) (rest : List (List ℕ)) (make : List ℕ → List ℕ → Event) (c : Command) (given : List ℕ) → ((text numbers out stamps : List ℕ) → path_of text ≡ Ok out → numbers_below (2 ^ 64) numbers ≡ Ok stamps → SaysEvent Exact targets (given ∷ text ∷ numbers ∷ []) (make out stamps)) → word ≡ given → ended_of make rest ≡ Ok c → SaysCommand Exact targets (word ∷ rest) c
ended_said targets word rest make c given says e h =
    let f : List ℕ × List ℕ → Result Command FaultKind = λ x. Ok (command.Event (make x.0 x.1)) in
    let n = bind_ok (ending_of rest) f c h in
    let a = ending_is rest n.0 n.1 in
    let P : Command → Type 0 = λ x. SaysCommand Exact targets (word ∷ rest) x in
    let Q : List (List ℕ) → Type 0 = λ t. SaysEvent Exact targets t (make n.0.0 n.0.1) in
    subst P (ok_is (command.Event (make n.0.0 n.0.1)) c n.2) (subst Q (sym (texts_are word given rest (a.0 ∷ a.1 ∷ []) e a.2)) (says a.0 a.1 n.0.0 n.0.1 a.3 a.4))

plan_said : (targets : List (List ℕ)) (word : List ℕ) (rest : List (List ℕ)) (c : Command) → word ≡ codes "plan" → plan_of targets rest ≡ Ok c → SaysCommand Exact targets (word ∷ rest) c
plan_said targets word [] c e h =
    let P : Command → Type 0 = λ x. SaysCommand Exact targets (word ∷ []) x in
    subst P (ok_is (command.Event (event.Plan targets)) c h) ([], ap (λ w. w ∷ []) e, inl (refl, refl))
plan_said targets word (name ∷ names) c e h =
    let n = bind_ok (paths_of (name ∷ names)) (λ l. Ok (command.Event (event.Plan l))) c h in
    let P : Command → Type 0 = λ x. SaysCommand Exact targets (word ∷ name ∷ names) x in
    subst P (ok_is (command.Event (event.Plan n.0)) c n.2) (name ∷ names, ap (λ w. w ∷ name ∷ names) e, inr (omega arith, n.1))

start_said : (targets : List (List ℕ)) (word : List ℕ) (rest : List (List ℕ)) (c : Command) → word ≡ codes "start" → start_of rest ≡ Ok c → SaysCommand Exact targets (word ∷ rest) c
start_said targets word [] c e h = syntax_never c h
start_said targets word (out ∷ []) c e h = syntax_never c h
start_said targets word (out ∷ job ∷ []) c e h =
    let o = bind_ok (path_of out) (λ o. short job >>= λ j. Ok (command.Event (event.Start o j None))) c h in
    let j = bind_ok (short job) (λ j. Ok (command.Event (event.Start o.0 j None))) c o.2 in
    let P : Command → Type 0 = λ x. SaysCommand Exact targets (word ∷ out ∷ job ∷ []) x in
    subst P (ok_is (command.Event (event.Start o.0 j.0 None)) c j.2) (out, job, ap (λ w. w ∷ out ∷ job ∷ []) e, o.1, short-is job j.0 j.1)
start_said targets word (out ∷ job ∷ slot ∷ []) c e h =
    let o = bind_ok (path_of out) (λ o. short job >>= λ j. short slot >>= λ s. Ok (command.Event (event.Start o j (Some s)))) c h in
    let j = bind_ok (short job) (λ j. short slot >>= λ s. Ok (command.Event (event.Start o.0 j (Some s)))) c o.2 in
    let s = bind_ok (short slot) (λ s. Ok (command.Event (event.Start o.0 j.0 (Some s)))) c j.2 in
    let P : Command → Type 0 = λ x. SaysCommand Exact targets (word ∷ out ∷ job ∷ slot ∷ []) x in
    subst P (ok_is (command.Event (event.Start o.0 j.0 (Some s.0))) c s.2) (out, job, slot, ap (λ w. w ∷ out ∷ job ∷ slot ∷ []) e, o.1, short-is job j.0 j.1, short-is slot s.0 s.1)
start_said targets word (out ∷ job ∷ slot ∷ more ∷ rest) c e h = syntax_never c h

finish_said : (targets : List (List ℕ)) (word : List ℕ) (rest : List (List ℕ)) (c : Command) → word ≡ codes "finish" → finish_of rest ≡ Ok c → SaysCommand Exact targets (word ∷ rest) c
finish_said targets word [] c e h = syntax_never c h
finish_said targets word (out ∷ []) c e h = syntax_never c h
finish_said targets word (out ∷ stamps ∷ rest) c e h =
    let o = bind_ok (path_of out) (λ o. listing_of rest >>= λ l. numbers_below (2 ^ 64) stamps >>= λ ns. Ok (command.Event (event.Finish o ns l))) c h in
    let l = bind_ok (listing_of rest) (λ l. numbers_below (2 ^ 64) stamps >>= λ ns. Ok (command.Event (event.Finish o.0 ns l))) c o.2 in
    let n = bind_ok (numbers_below (2 ^ 64) stamps) (λ ns. Ok (command.Event (event.Finish o.0 ns l.0))) c l.2 in
    let P : Command → Type 0 = λ x. SaysCommand Exact targets (word ∷ out ∷ stamps ∷ rest) x in
    subst P (ok_is (command.Event (event.Finish o.0 n.0 l.0)) c n.2) (out, stamps, rest, ap (λ w. w ∷ out ∷ stamps ∷ rest) e, o.1, stamps-is stamps n.0 n.1, listing_is rest l.0 l.1)

touch_said : (targets : List (List ℕ)) (word : List ℕ) (rest : List (List ℕ)) (c : Command) → word ≡ codes "touch" → touch_of rest ≡ Ok c → SaysCommand Exact targets (word ∷ rest) c
touch_said targets word [] c e h = syntax_never c h
touch_said targets word (path ∷ []) c e h = syntax_never c h
touch_said targets word (path ∷ stamp ∷ []) c e h =
    let p = bind_ok (path_of path) (λ p. long stamp >>= λ n. Ok (command.Event (event.Touch p n))) c h in
    let n = bind_ok (long stamp) (λ n. Ok (command.Event (event.Touch p.0 n))) c p.2 in
    let P : Command → Type 0 = λ x. SaysCommand Exact targets (word ∷ path ∷ stamp ∷ []) x in
    subst P (ok_is (command.Event (event.Touch p.0 n.0)) c n.2) (path, stamp, ap (λ w. w ∷ path ∷ stamp ∷ []) e, p.1, long-is stamp n.0 n.1)
touch_said targets word (path ∷ stamp ∷ more ∷ rest) c e h = syntax_never c h

resize_said : (targets : List (List ℕ)) (word : List ℕ) (rest : List (List ℕ)) (c : Command) → word ≡ codes "resize" → resize_of rest ≡ Ok c → SaysCommand Exact targets (word ∷ rest) c
resize_said targets word [] c e h = syntax_never c h
resize_said targets word (pool ∷ []) c e h = syntax_never c h
resize_said targets word (pool ∷ depth ∷ []) c e h =
    let p = bind_ok (short pool) (λ p. short depth >>= λ d. Ok (command.Event (event.Resize p d))) c h in
    let d = bind_ok (short depth) (λ d. Ok (command.Event (event.Resize p.0 d))) c p.2 in
    let P : Command → Type 0 = λ x. SaysCommand Exact targets (word ∷ pool ∷ depth ∷ []) x in
    subst P (ok_is (command.Event (event.Resize p.0 d.0)) c d.2) (pool, depth, ap (λ w. w ∷ pool ∷ depth ∷ []) e, short-is pool p.0 p.1, short-is depth d.0 d.1)
resize_said targets word (pool ∷ depth ∷ more ∷ rest) c e h = syntax_never c h

command_said : (targets : List (List ℕ)) (word : List ℕ) (rest : List (List ℕ)) (v : Verb) (c : Command) → word ≡ word_of v → taken_by targets v rest ≡ Ok c → SaysCommand Exact targets (word ∷ rest) c
command_said targets word rest verb.Plan c e h = plan_said targets word rest c e h
command_said targets word rest verb.Start c e h = start_said targets word rest c e h
command_said targets word rest verb.Finish c e h = finish_said targets word rest c e h
command_said targets word rest verb.Fail c e h = ended_said targets word rest event.Fail c (codes "fail") (λ text numbers out stamps p n. (text, numbers, refl, p, stamps-is numbers stamps n)) e h
command_said targets word rest verb.Abort c e h = ended_said targets word rest event.Abort c (codes "abort") (λ text numbers out stamps p n. (text, numbers, refl, p, stamps-is numbers stamps n)) e h
command_said targets word rest verb.Clean c e h = settled_said targets word rest event.Clean c (codes "clean") (λ text path r. (text, refl, r)) e h
command_said targets word rest verb.Pass c e h = settled_said targets word rest event.Pass c (codes "pass") (λ text path r. (text, refl, r)) e h
command_said targets word rest verb.Touch c e h = touch_said targets word rest c e h
command_said targets word rest verb.Interrupt c e h = bare_said targets word rest (command.Event event.Interrupt) c (codes "interrupt") refl e h
command_said targets word rest verb.Resize c e h = resize_said targets word rest c e h
command_said targets word rest verb.Undo c e h = named_said targets word rest command.Undo c (codes "undo") (λ text w r. (text, refl, which-is text w r)) e h
command_said targets word rest verb.Redo c e h = named_said targets word rest command.Redo c (codes "redo") (λ text w r. (text, refl, which-is text w r)) e h
command_said targets word rest verb.Cone c e h = named_said targets word rest command.Cone c (codes "cone") (λ text w r. (text, refl, which-is text w r)) e h
command_said targets word rest verb.Back c e h = bare_said targets word rest command.Back c (codes "back") refl e h
command_said targets word rest verb.Break c e h =
    let n = bind_ok (point_of rest) (λ p. Ok (command.Break p)) c h in
    let P : Command → Type 0 = λ x. SaysCommand Exact targets (word ∷ rest) x in
    subst P (ok_is (command.Break n.0) c n.2) (rest, ap (λ w. w ∷ rest) e, point_is rest n.0 n.1)
command_said targets word rest verb.Unbreak c e h =
    let n = bind_ok (break_number_of rest) (λ n. Ok (command.Unbreak n)) c h in
    let a = number_is rest n.0 n.1 in
    let P : Command → Type 0 = λ x. SaysCommand Exact targets (word ∷ rest) x in
    subst P (ok_is (command.Unbreak n.0) c n.2) (a.0, texts_are word (codes "unbreak") rest (a.0 ∷ []) e a.1, short-is a.0 n.0 a.2)
command_said targets word rest verb.Continue c e h = bare_said targets word rest command.Continue c (codes "continue") refl e h

command_any : (targets : List (List ℕ)) (word : List ℕ) (rest : List (List ℕ)) (o : Option Verb) (c : Command) → verb_of word ≡ o → taken_by_any targets o rest ≡ Ok c → SaysCommand Exact targets (word ∷ rest) c
command_any targets word rest None c e h = syntax_never c h
command_any targets word rest (Some v) c e h = command_said targets word rest v c (word_is word v e) h

pub read_said : (targets texts : List (List ℕ)) (c : Command) → command_of targets texts ≡ Ok c → SaysCommand Exact targets texts c
read_said targets [] c h = syntax_never c h
read_said targets (word ∷ rest) c h = command_any targets word rest (verb_of word) c refl h

pub line_read : (targets : List (List ℕ)) (line : List ℕ) (c : Command) → LineSays Exact targets line c → command_line targets line ≡ Ok c
line_read targets line c h = ap (read_as (command_of targets)) ((fields-are-read line h.0).1 h.1) ∙ said_read targets h.0 c h.2

line_any : (targets : List (List ℕ)) (line : List ℕ) (o : Option (List (List ℕ))) (c : Command) → texts_of line ≡ o → read_as (command_of targets) o ≡ Ok c → LineSays Exact targets line c
line_any targets line None c e h = syntax_never c h
line_any targets line (Some texts) c e h = (texts, (fields-are-read line texts).0 e, read_said targets texts c h)

pub lines-say-commands : LinesSayCommands
lines-say-commands targets line c = (λ h. line_any targets line (texts_of line) c refl h, λ h. line_read targets line c h)
