-- What the functions answer of lines is what the grammar says of them.
use Rattle.std.proofs.Common.{◌≡◌, ℕ, ◌<◌, ◌⊎◌, inl, inr, Bool, true, false, not, ◌&&◌, ◌||◌, List, [], ◌∷◌, ◌++◌, Option, Some, None, length, map, bytes_eq, refl, sym, ap, ◌∙◌, subst, if◌then◌else◌}
use Rattle.std.specs.Prelude.{nat_lt}
use Rattle.std.proofs.lemmas.Bool.{ltb-false, ltb-true, le-ltb, lt-ltb}
use Rattle.std.specs.List.{list_any, flat_map, AllByRecursion}
use Rattle.std.specs.Option.{option_or}
use Rattle.rev_paths.specs.Mentions.{first_mentions}
use Rattle.rev_depfile.specs.declared.fault.DepfileFault.{DepfileFault}
use Rattle.rev_depfile.specs.declared.fault.DepfileFault.TheVariants.{NoColon, OtherTarget, LongPath}
use Rattle.rev_depfile.specs.declared.sign.Sign.{Sign}
use Rattle.rev_depfile.specs.Lines.{words, before_colon, from_colon, lines}
use Rattle.rev_depfile.specs.Value.{is_output, long_fault, line_at, rule_fault, fault_by, paths_by, path_of, line_paths, first_fault_in, first_fault, prerequisites}
use Rattle.rev_depfile.specs.Grammar.{WordValue, RuleValue, LineValue, IsDepfile, word_said, rule_said, line_said, lines_said}
use Rattle.rev_depfile.specs.Reading.{IsShort, path_named, IsOutput, NamesOutput, LineGives, Skipped, Alone, Listed, LinesGive, NoLines, Then, Gives, beginning, LineRefuses, Unseparated, ForOthers, TooLong, Refuses}
use Rattle.rev_depfile.proofs.GrammarLemmas.{both, not-true}
use Rattle.rev_depfile.proofs.CutLemmas.{depfile-found, depfile-given}

-- the answers of the functions, from what the words of a line are
abbrev is_long_value : WordValue → Bool
is_long_value word = nat_lt 4096 (length word.text)

abbrev long_value : List WordValue → Option DepfileFault
long_value [] = None
long_value (word ∷ ws) = if is_long_value word then Some (LongPath word.at) else long_value ws

abbrev is_output_value : List (List ℕ) → WordValue → Bool
is_output_value outputs word = not (is_long_value word) && list_any (bytes_eq (path_named word)) outputs

abbrev rule_value : List (List ℕ) → List WordValue → ℕ → List WordValue → Option DepfileFault
rule_value outputs targets at [] = None
rule_value outputs targets at (w ∷ ws) = if list_any (is_output_value outputs) targets then long_value (w ∷ ws) else Some (OtherTarget (beginning targets at))

abbrev colon_value : List WordValue → Option DepfileFault
colon_value [] = None
colon_value (word ∷ ws) = Some (NoColon word.at)

abbrev fault_value_by : List (List ℕ) → List WordValue → Option RuleValue → Option DepfileFault
fault_value_by outputs targets None = colon_value targets
fault_value_by outputs targets (Some rule) = rule_value outputs targets rule.at rule.prerequisites

abbrev fault_value : List (List ℕ) → LineValue → Option DepfileFault
fault_value outputs line = fault_value_by outputs line.targets line.rule

abbrev paths_value_by : Option RuleValue → List (List ℕ)
paths_value_by None = []
paths_value_by (Some rule) = map path_named rule.prerequisites

abbrev paths_value : LineValue → List (List ℕ)
paths_value line = paths_value_by line.rule

abbrev first_value : List (List ℕ) → List LineValue → Option DepfileFault
first_value outputs [] = None
first_value outputs (line ∷ ls) = option_or (fault_value outputs line) (first_value outputs ls)

long-said : (ws : List (List Sign)) → long_fault ws ≡ long_value (map word_said ws)
long-said [] = refl
long-said (w ∷ ws) = ap (λ o. if is_long_value (word_said w) then Some (LongPath (word_said w).at) else o) (long-said ws)

outputs-said : (outputs : List (List ℕ)) (ws : List (List Sign)) → list_any (is_output outputs) ws ≡ list_any (is_output_value outputs) (map word_said ws)
outputs-said outputs [] = refl
outputs-said outputs (w ∷ ws) = ap (λ t. is_output outputs w || t) (outputs-said outputs ws)

at-said : (targets : List (List Sign)) (colon : Sign) → line_at targets colon ≡ beginning (map word_said targets) colon.at
at-said [] colon = refl
at-said (w ∷ ws) colon = refl

rule-said : (outputs : List (List ℕ)) (targets : List (List Sign)) (colon : Sign) (ws : List (List Sign))
    → rule_fault outputs targets colon ws ≡ rule_value outputs (map word_said targets) colon.at (map word_said ws)
rule-said outputs targets colon [] = refl
rule-said outputs targets colon (w ∷ ws) =
    (λ j. if outputs-said outputs targets j then long-said (w ∷ ws) j else Some (OtherTarget (at-said targets colon j)))

colon-said : (outputs : List (List ℕ)) (targets : List (List Sign)) (from : List Sign) → fault_by outputs targets from ≡ fault_value_by outputs (map word_said targets) (rule_said from)
colon-said outputs [] [] = refl
colon-said outputs (w ∷ ws) [] = refl
colon-said outputs targets (colon ∷ rest) = rule-said outputs targets colon (words rest)

first-said : (outputs : List (List ℕ)) (ls : List (List Sign)) → first_fault_in outputs ls ≡ first_value outputs (map line_said ls)
first-said outputs [] = refl
first-said outputs (l ∷ ls) = (λ j. option_or (colon-said outputs (words (before_colon l)) (from_colon l) j) (first-said outputs ls j))

words-said : (ws : List (List Sign)) → map path_of ws ≡ map path_named (map word_said ws)
words-said [] = refl
words-said (w ∷ ws) = ap (λ ps. path_of w ∷ ps) (words-said ws)

paths-by-said : (from : List Sign) → paths_by from ≡ paths_value_by (rule_said from)
paths-by-said [] = refl
paths-by-said (colon ∷ rest) = words-said (words rest)

paths-said : (ls : List (List Sign)) → flat_map line_paths ls ≡ flat_map paths_value (map line_said ls)
paths-said [] = refl
paths-said (l ∷ ls) = (λ j. paths-by-said (from_colon l) j ++ paths-said ls j)

-- tests and facts
short-of : (word : WordValue) → is_long_value word ≡ false → IsShort word
short-of word h = ltb-false 4096 (length word.text) h

of-short : (word : WordValue) → IsShort word → is_long_value word ≡ false
of-short word h = le-ltb 4096 (length word.text) h

long-of : (word : WordValue) → is_long_value word ≡ true → 4096 < length word.text
long-of word h = ltb-true 4096 (length word.text) h

of-long : (word : WordValue) → 4096 < length word.text → is_long_value word ≡ true
of-long word h = lt-ltb 4096 (length word.text) h

names-of : (outputs : List (List ℕ)) (targets : List WordValue) → list_any (is_output_value outputs) targets ≡ true → NamesOutput outputs targets
names-of outputs [] h = cc
names-of outputs (w ∷ ws) h = by (is_output_value outputs w) refl h (names-of outputs ws)
  where
    by : (t : Bool) → is_output_value outputs w ≡ t → (t || list_any (is_output_value outputs) ws) ≡ true → (list_any (is_output_value outputs) ws ≡ true → NamesOutput outputs ws)
        → IsOutput outputs w ⊎ NamesOutput outputs ws
    by true e h later =
        let parts = both (not (is_long_value w)) (list_any (bytes_eq (path_named w)) outputs) e in
        inl (short-of w (not-true (is_long_value w) parts.0), parts.1)
    by false e h later = inr (later h)

of-names : (outputs : List (List ℕ)) (targets : List WordValue) → NamesOutput outputs targets → list_any (is_output_value outputs) targets ≡ true
of-names outputs [] h = absurd h
of-names outputs (w ∷ ws) (inl is) = (λ j. (not (of-short w is.0 j) && is.1 j) || list_any (is_output_value outputs) ws)
of-names outputs (w ∷ ws) (inr h) = ap (λ t. is_output_value outputs w || t) (of-names outputs ws h) ∙ or-true (is_output_value outputs w)
  where
    or-true : (b : Bool) → (b || true) ≡ true
    or-true true = refl
    or-true false = refl

all-short : (ws : List WordValue) → long_value ws ≡ None → AllByRecursion IsShort ws
all-short [] h = tt
all-short (w ∷ ws) h = by (is_long_value w) refl h (all-short ws)
  where
    by : (t : Bool) → is_long_value w ≡ t → (if t then Some (LongPath w.at) else long_value ws) ≡ None → (long_value ws ≡ None → AllByRecursion IsShort ws) → AllByRecursion IsShort (w ∷ ws)
    by true e h later = cc
    by false e h later = (short-of w e, later h)

of-all-short : (ws : List WordValue) → AllByRecursion IsShort ws → long_value ws ≡ None
of-all-short [] h = refl
of-all-short (w ∷ ws) h = ap (λ t. if t then Some (LongPath w.at) else long_value ws) (of-short w h.0) ∙ of-all-short ws h.1

-- a line that has no fault gives its paths
line-gives : (outputs : List (List ℕ)) (line : LineValue) → fault_value outputs line ≡ None → LineGives outputs line (paths_value line)
line-gives outputs line h = by line.targets line.rule h
  where
    rule : (targets : List WordValue) (at : ℕ) (ws : List WordValue) → rule_value outputs targets at ws ≡ None
        → LineGives outputs (record { targets = targets; rule = Some (record { at = at; prerequisites = ws }) }) (map path_named ws)
    rule targets at [] h = Alone
    rule targets at (w ∷ ws) h = test (list_any (is_output_value outputs) targets) refl h
      where
        test : (t : Bool) → list_any (is_output_value outputs) targets ≡ t → (if t then long_value (w ∷ ws) else Some (OtherTarget (beginning targets at))) ≡ None
            → LineGives outputs (record { targets = targets; rule = Some (record { at = at; prerequisites = w ∷ ws }) }) (map path_named (w ∷ ws))
        test true e h = Listed (names-of outputs targets e) (all-short (w ∷ ws) h)
        test false e h = cc

    by : (targets : List WordValue) (rule' : Option RuleValue) → fault_value_by outputs targets rule' ≡ None → LineGives outputs (record { targets = targets; rule = rule' }) (paths_value_by rule')
    by [] None h = Skipped
    by (w ∷ ws) None h = cc
    by targets (Some r) h = rule targets r.at r.prerequisites h

-- the first word of a list that is too long
first-long : (ws : List WordValue) (fault : DepfileFault) → long_value ws ≡ Some fault
    → (before : List WordValue) × (word : WordValue) × (after : List WordValue) × (before ++ word ∷ after ≡ ws) × AllByRecursion IsShort before × (4096 < length word.text) × (LongPath word.at ≡ fault)
first-long [] fault h = cc
first-long (w ∷ ws) fault h = by (is_long_value w) refl h (first-long ws fault)
  where
    Found : List WordValue → Type 0
    Found ws =
        (before : List WordValue) × (word : WordValue) × (after : List WordValue) × (before ++ word ∷ after ≡ ws) × AllByRecursion IsShort before × (4096 < length word.text) × (LongPath word.at ≡ fault)

    by : (t : Bool) → is_long_value w ≡ t → (if t then Some (LongPath w.at) else long_value ws) ≡ Some fault → (long_value ws ≡ Some fault → Found ws) → Found (w ∷ ws)
    by true e h later = ([], w, ws, refl, tt, long-of w e, cc)
    by false e h later =
        let found = later h in
        (w ∷ found.0, found.1, found.2, ap (λ ys. w ∷ ys) found.3, (short-of w e, found.4), found.5, found.6)

long-first : (before : List WordValue) (word : WordValue) (after : List WordValue) → AllByRecursion IsShort before → 4096 < length word.text
    → long_value (before ++ word ∷ after) ≡ Some (LongPath word.at)
long-first [] word after short long = ap (λ t. if t then Some (LongPath word.at) else long_value after) (of-long word long)
long-first (w ∷ before) word after short long =
    ap (λ t. if t then Some (LongPath w.at) else long_value (before ++ word ∷ after)) (of-short w short.0) ∙ long-first before word after short.1 long

-- a line that has a fault is refused for it
line-refuses : (outputs : List (List ℕ)) (line : LineValue) (fault : DepfileFault) → fault_value outputs line ≡ Some fault → LineRefuses outputs line fault
line-refuses outputs line fault h = by line.targets line.rule h
  where
    Refused : List WordValue → Option RuleValue → Type 0
    Refused targets rule = LineRefuses outputs (record { targets = targets; rule = rule }) fault

    none-named : (targets : List WordValue) → list_any (is_output_value outputs) targets ≡ false → NamesOutput outputs targets → ⊥
    none-named targets e named = let some : list_any (is_output_value outputs) targets ≡ true = of-names outputs targets named in cc

    rule : (targets : List WordValue) (at : ℕ) (ws : List WordValue) → rule_value outputs targets at ws ≡ Some fault → Refused targets (Some (record { at = at; prerequisites = ws }))
    rule targets at [] h = cc
    rule targets at (w ∷ ws) h = test (list_any (is_output_value outputs) targets) refl h
      where
        test : (t : Bool) → list_any (is_output_value outputs) targets ≡ t → (if t then long_value (w ∷ ws) else Some (OtherTarget (beginning targets at))) ≡ Some fault
            → Refused targets (Some (record { at = at; prerequisites = w ∷ ws }))
        test true e h =
            let found = first-long (w ∷ ws) fault h in
            subst (λ (f : DepfileFault). LineRefuses outputs (record { targets = targets; rule = Some (record { at = at; prerequisites = w ∷ ws }) }) f) found.6
            (subst (λ (ps : List WordValue). LineRefuses outputs (record { targets = targets; rule = Some (record { at = at; prerequisites = ps }) }) (LongPath (found.1).at)) found.3
            (TooLong found.0 found.1 found.2 (names-of outputs targets e) found.4 found.5))
        test false e h =
            let same : OtherTarget (beginning targets at) ≡ fault = cc in
            subst (λ (f : DepfileFault). LineRefuses outputs (record { targets = targets; rule = Some (record { at = at; prerequisites = w ∷ ws }) }) f) same
            (ForOthers targets at (none-named targets e))

    by : (targets : List WordValue) (rule' : Option RuleValue) → fault_value_by outputs targets rule' ≡ Some fault → Refused targets rule'
    by [] None h = cc
    by (w ∷ ws) None h =
        let same : NoColon w.at ≡ fault = cc in
        subst (λ (f : DepfileFault). LineRefuses outputs (record { targets = w ∷ ws; rule = None }) f) same (Unseparated w)
    by targets (Some r) h = rule targets r.at r.prerequisites h

-- and the other way round
gives-line : (outputs : List (List ℕ)) {line : LineValue} {paths : List (List ℕ)} → LineGives outputs line paths → (fault_value outputs line ≡ None) × (paths_value line ≡ paths)
gives-line outputs Skipped = (refl, refl)
gives-line outputs Alone = (refl, refl)
gives-line outputs (Listed {targets} {words} {at} named short) = (by words short, refl)
  where
    by : (ws : List WordValue) → AllByRecursion IsShort ws → rule_value outputs targets at ws ≡ None
    by [] short = refl
    by (w ∷ ws) short =
        ap (λ t. if t then long_value (w ∷ ws) else Some (OtherTarget (beginning targets at))) (of-names outputs targets named) ∙ of-all-short (w ∷ ws) short

unnamed : (outputs : List (List ℕ)) (targets : List WordValue) → (NamesOutput outputs targets → ⊥) → list_any (is_output_value outputs) targets ≡ false
unnamed outputs targets none = by (list_any (is_output_value outputs) targets) refl
  where
    by : (t : Bool) → list_any (is_output_value outputs) targets ≡ t → t ≡ false
    by true e = absurd (none (names-of outputs targets e))
    by false e = refl

refuses-line : (outputs : List (List ℕ)) {line : LineValue} {fault : DepfileFault} → LineRefuses outputs line fault → fault_value outputs line ≡ Some fault
refuses-line outputs (Unseparated word) = refl
refuses-line outputs (ForOthers targets at {words} {word} none) =
    ap (λ t. if t then long_value (word ∷ words) else Some (OtherTarget (beginning targets at))) (unnamed outputs targets none)
refuses-line outputs (TooLong {targets} {at} before word after named short long) = by before (long-first before word after short long)
  where
    by : (before : List WordValue) → long_value (before ++ word ∷ after) ≡ Some (LongPath word.at) → rule_value outputs targets at (before ++ word ∷ after) ≡ Some (LongPath word.at)
    by [] e = ap (λ t. if t then long_value (word ∷ after) else Some (OtherTarget (beginning targets at))) (of-names outputs targets named) ∙ e
    by (w ∷ ws) e = ap (λ t. if t then long_value (w ∷ ws ++ word ∷ after) else Some (OtherTarget (beginning targets at))) (of-names outputs targets named) ∙ e

-- all lines
later-none : (first rest : Option DepfileFault) → option_or first rest ≡ None → (first ≡ None) × (rest ≡ None)
later-none None rest h = (refl, h)
later-none (Some fault) rest h = cc

lines-give : (outputs : List (List ℕ)) (lines : List LineValue) → first_value outputs lines ≡ None → LinesGive outputs lines (flat_map paths_value lines)
lines-give outputs [] h = NoLines
lines-give outputs (line ∷ lines) h =
    let parts = later-none (fault_value outputs line) (first_value outputs lines) h in
    Then (line-gives outputs line parts.0) (lines-give outputs lines parts.1)

give-lines : (outputs : List (List ℕ)) {lines : List LineValue} {paths : List (List ℕ)} → LinesGive outputs lines paths → (first_value outputs lines ≡ None) × (flat_map paths_value lines ≡ paths)
give-lines outputs NoLines = (refl, refl)
give-lines outputs (Then {line} {lines} {paths} {others} g r) =
    let first = gives-line outputs g in
    let rest = give-lines outputs r in
    ((λ j. option_or (first.0 j) (rest.0 j)), (λ j. first.1 j ++ rest.1 j))

-- the first line that gives nothing
record Stopped (outputs : List (List ℕ)) (lines : List LineValue) (fault : DepfileFault) : Type 0 where
  before : List LineValue
  line : LineValue
  after : List LineValue
  mentions : List (List ℕ)
  whole : before ++ line ∷ after ≡ lines
  give : LinesGive outputs before mentions
  refuses : LineRefuses outputs line fault

stopped : (outputs : List (List ℕ)) (lines : List LineValue) (fault : DepfileFault) → first_value outputs lines ≡ Some fault → Stopped outputs lines fault
stopped outputs [] fault h = cc
stopped outputs (line ∷ lines) fault h = by (fault_value outputs line) refl h (stopped outputs lines fault)
  where
    by : (o : Option DepfileFault) → fault_value outputs line ≡ o → option_or o (first_value outputs lines) ≡ Some fault → (first_value outputs lines ≡ Some fault → Stopped outputs lines fault)
        → Stopped outputs (line ∷ lines) fault
    by None e h later =
        let rest = later h in record {
          before = line ∷ rest.before;
          line = rest.line;
          after = rest.after;
          mentions = paths_value line ++ rest.mentions;
          whole = ap (λ ls. line ∷ ls) rest.whole;
          give = Then (line-gives outputs line e) rest.give;
          refuses = rest.refuses;
        }
    by (Some first) e h later = record { before = []; line = line; after = lines; mentions = []; whole = refl; give = NoLines; refuses = line-refuses outputs line fault (e ∙ h) }

first-stopped : (outputs : List (List ℕ)) (before : List LineValue) (line : LineValue) (after : List LineValue) (fault : DepfileFault)
    → first_value outputs before ≡ None → fault_value outputs line ≡ Some fault → first_value outputs (before ++ line ∷ after) ≡ Some fault
first-stopped outputs [] line after fault h e = ap (λ o. option_or o (first_value outputs after)) e
first-stopped outputs (l ∷ before) line after fault h e =
    let parts = later-none (fault_value outputs l) (first_value outputs before) h in
    ap (λ o. option_or o (first_value outputs (before ++ line ∷ after))) parts.0 ∙ first-stopped outputs before line after fault parts.1 e

-- the answers for a text
fault-is : (outputs : List (List ℕ)) (text : List ℕ) → first_fault outputs text ≡ first_value outputs (lines_said text)
fault-is outputs text = first-said outputs (lines text)

paths-are : (text : List ℕ) → prerequisites text ≡ first_mentions (flat_map paths_value (lines_said text))
paths-are text = ap first_mentions (paths-said (lines text))

gives-found : (outputs : List (List ℕ)) (text : List ℕ) (paths : List (List ℕ)) → first_fault outputs text ≡ None → prerequisites text ≡ paths → Gives outputs text paths
gives-found outputs text paths none same = record {
  lines = lines_said text;
  mentions = flat_map paths_value (lines_said text);
  is = depfile-found text;
  give = lines-give outputs (lines_said text) (sym (fault-is outputs text) ∙ none);
  once = sym (paths-are text) ∙ same;
}

gives-given : (outputs : List (List ℕ)) (text : List ℕ) (paths : List (List ℕ)) → Gives outputs text paths → (first_fault outputs text ≡ None) × (prerequisites text ≡ paths)
gives-given outputs text paths g =
    let same = depfile-given text g.lines g.is in
    let read = give-lines outputs g.give in (
      fault-is outputs text ∙ ap (first_value outputs) same ∙ read.0,
      paths-are text ∙ ap (λ ls. first_mentions (flat_map paths_value ls)) same ∙ ap first_mentions read.1 ∙ g.once,
    )

pub paths-read : (outputs : List (List ℕ)) (text : List ℕ) (paths : List (List ℕ))
    → ((first_fault outputs text ≡ None) × (prerequisites text ≡ paths) → Gives outputs text paths)
    × (Gives outputs text paths → (first_fault outputs text ≡ None) × (prerequisites text ≡ paths))
paths-read outputs text paths = (λ h. gives-found outputs text paths h.0 h.1, gives-given outputs text paths)

refuses-found : (outputs : List (List ℕ)) (text : List ℕ) (fault : DepfileFault) → first_fault outputs text ≡ Some fault → Refuses outputs text fault
refuses-found outputs text fault h =
    let stop = stopped outputs (lines_said text) fault (sym (fault-is outputs text) ∙ h) in record {
      before = stop.before;
      line = stop.line;
      after = stop.after;
      mentions = stop.mentions;
      is = subst (IsDepfile text) (sym stop.whole) (depfile-found text);
      give = stop.give;
      refuses = stop.refuses;
    }

refuses-given : (outputs : List (List ℕ)) (text : List ℕ) (fault : DepfileFault) → Refuses outputs text fault → first_fault outputs text ≡ Some fault
refuses-given outputs text fault r =
    fault-is outputs text ∙ ap (first_value outputs) (depfile-given text (r.before ++ r.line ∷ r.after) r.is)
    ∙ first-stopped outputs r.before r.line r.after fault (give-lines outputs r.give).0 (refuses-line outputs r.refuses)

pub faults-read : (outputs : List (List ℕ)) (text : List ℕ) (fault : DepfileFault)
    → (first_fault outputs text ≡ Some fault → Refuses outputs text fault) × (Refuses outputs text fault → first_fault outputs text ≡ Some fault)
faults-read outputs text fault = (refuses-found outputs text fault, refuses-given outputs text fault)

pub unread-refused : (outputs : List (List ℕ)) (text : List ℕ)
    → (((paths : List (List ℕ)) → Gives outputs text paths → ⊥) → (fault : DepfileFault) × Refuses outputs text fault)
    × ((fault : DepfileFault) × Refuses outputs text fault → (paths : List (List ℕ)) → Gives outputs text paths → ⊥)
unread-refused outputs text = (λ none. by (first_fault outputs text) refl none, λ r paths g. never r.0 (refuses-given outputs text r.0 r.1) (gives-given outputs text paths g).0)
  where
    by : (o : Option DepfileFault) → first_fault outputs text ≡ o → ((paths : List (List ℕ)) → Gives outputs text paths → ⊥) → (fault : DepfileFault) × Refuses outputs text fault
    by None e none = absurd (none (prerequisites text) (gives-found outputs text (prerequisites text) e refl))
    by (Some fault) e none = (fault, refuses-found outputs text fault e)

    never : (fault : DepfileFault) → first_fault outputs text ≡ Some fault → first_fault outputs text ≡ None → ⊥
    never fault e f = let no : Some fault ≡ None = sym e ∙ f in cc
