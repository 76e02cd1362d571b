-- Blocks as they are kept: a value that is too large makes each path with it too long.
use Rattle.std.proofs.Common.{◌≡◌, ℕ, ◌<◌, Bool, true, false, ◌||◌, ◌⊎◌, inl, inr, List, [], ◌∷◌, ◌++◌, length, Option, Some, None, is_some, option_map, Result, Ok, Err, bytes_eq, codes, replicate, refl, sym, ap, ◌∙◌, subst, arith, lit<, length-append, if◌then◌else◌}
use Rattle.std.proofs.lemmas.Bool.{ltb-true, lt-ltb}
use Rattle.std.proofs.lemmas.List.Folds.{list_any-append}
use Rattle.rev_paths.specs.Canonical.{canonical}
use Rattle.rev_syntax.specs.Texts.{PieceValue, Byte, Variable}
use Rattle.rev_syntax.specs.Statements.{BindingValue, BuildLineValue}
use Rattle.rev_scopes.specs.Bindings.{value_of}
use Rattle.rev_scopes.specs.Scopes.{RuleValue, variable_in}
use Rattle.rev_scopes.specs.Expansion.{expanded, in_block, value_or, is_too_large}
use Rattle.rev_manifest.specs.declared.fault.ManifestFault.{ManifestFault}
use Rattle.rev_manifest.specs.declared.fault.FaultKind.{FaultKind}
use Rattle.rev_manifest.specs.declared.fault.FaultKind.TheVariants.{LongPath, Unsupported, TooLarge}
use Rattle.rev_manifest.specs.declared.fault.ReadFault.{ReadFault}
use Rattle.rev_manifest.specs.declared.fault.ReadFault.TheVariants.{Memory, Manifest}
use Rattle.rev_manifest.specs.declared.fault.Place.{Place}
use Rattle.rev_manifest.specs.Answers.{and_then, unless, unless_then, refused, fault_at, IsFault}
use Rattle.rev_manifest.specs.Names.{path_fault, name_of, names_of}
use Rattle.rev_manifest.specs.Blocks.{binds, kept, kept_values, values_by, values_of, has_large}
use Rattle.rev_manifest.specs.Declarations.{PathsValue, DeclaredEdgeValue, DeclarationsValue}
use Rattle.rev_manifest.specs.Statements.{paths_of, rule_of, edge_of, block_fault, edge_added}
use Rattle.rev_manifest.proofs.BlockLemmas.{same_names}

-- two values that are equal, or both too long for a path
abbrev pub Alike : List ℕ → List ℕ → Type 0
Alike x y = (x ≡ y) ⊎ ((4096 < length x) × (4096 < length y))

alike_append : (x y v w : List ℕ) → Alike x y → Alike v w → Alike (x ++ v) (y ++ w)
alike_append x y v w (inl e) (inl f) = inl (λ i. e i ++ f i)
alike_append x y v w (inr h) other = inr (omega (arith, length-append x v, h.0), omega (arith, length-append y w, h.1))
alike_append x y v w (inl e) (inr h) = inr (omega (arith, length-append x v, h.0), omega (arith, length-append y w, h.1))

alike_expanded : (f g : List ℕ → List ℕ) → ((name : List ℕ) → Alike (f name) (g name)) → (text : List PieceValue) → Alike (expanded f text) (expanded g text)
alike_expanded f g same [] = inl refl
alike_expanded f g same (Byte b ∷ text) = alike_append (b ∷ []) (b ∷ []) (expanded f text) (expanded g text) (inl refl) (alike_expanded f g same text)
alike_expanded f g same (Variable name ∷ text) = alike_append (f name) (g name) (expanded f text) (expanded g text) (same name) (alike_expanded f g same text)

long_fault : (x : List ℕ) → 4096 < length x → path_fault x ≡ Some LongPath
long_fault [] h = absurd (omega arith)
long_fault (b ∷ bs) h = ap (λ t. if t then Some LongPath else None) (lt-ltb 4096 (length (b ∷ bs)) h)

alike_fault : (x y : List ℕ) → Alike x y → path_fault x ≡ path_fault y
alike_fault x y (inl e) = ap path_fault e
alike_fault x y (inr h) = long_fault x h.0 ∙ sym (long_fault y h.1)

-- two answers of which both are values or both the same fault
abbrev pub Agree : {A B : Type 0} → Result A ManifestFault → Result B ManifestFault → Type 0
Agree (Ok a) (Ok b) = Unit {0}
Agree (Ok a) (Err g) = ⊥
Agree (Err f) (Ok b) = ⊥
Agree (Err f) (Err g) = f ≡ g

agree_then : {A B C D : Type 0} (r : Result A ManifestFault) (s : Result B ManifestFault) (k : A → Result C ManifestFault) (l : B → Result D ManifestFault) → Agree r s
    → ((a : A) (b : B) → Agree (k a) (l b)) → Agree (and_then r k) (and_then s l)
agree_then (Ok a) (Ok b) k l h rest = rest a b
agree_then (Ok a) (Err g) k l h rest = absurd h
agree_then (Err f) (Ok b) k l h rest = absurd h
agree_then (Err f) (Err g) k l h rest = h

agree_unless : {A B : Type 0} (place : Place) (o p : Option FaultKind) (a : A) (b : B) → o ≡ p → Agree (unless place o a) (unless place p b)
agree_unless place None None a b e = tt
agree_unless place (Some k) (Some l) a b e = let same : k ≡ l = cc in ap (fault_at place) same
agree_unless place None (Some l) a b e = cc
agree_unless place (Some k) None a b e = cc

agree_names : (place : Place) (f g : List ℕ → List ℕ) → ((name : List ℕ) → Alike (f name) (g name)) → (texts : List (List PieceValue)) → Agree (names_of place f texts) (names_of place g texts)
agree_names place f g same [] = tt
agree_names place f g same (text ∷ texts) =
    let x = expanded f text in
    let y = expanded g text in
    agree_then (name_of place x) (name_of place y) _ _ (agree_unless place (path_fault x) (path_fault y) (canonical x) (canonical y) (alike_fault x y (alike_expanded f g same text)))
    (λ a b. agree_then (names_of place f texts) (names_of place g texts) _ _ (agree_names place f g same texts) (λ c d. tt))

pub agree_paths : (place : Place) (f g : List ℕ → List ℕ) → ((name : List ℕ) → Alike (f name) (g name)) → (build : BuildLineValue) → Agree (paths_of place f build) (paths_of place g build)
agree_paths place f g same build =
    agree_then (names_of place f build.outs) (names_of place g build.outs) _ _ (agree_names place f g same build.outs) (λ _ _.
    agree_then (names_of place f build.implicit_outs) (names_of place g build.implicit_outs) _ _ (agree_names place f g same build.implicit_outs) (λ _ _.
    agree_then (names_of place f build.ins) (names_of place g build.ins) _ _ (agree_names place f g same build.ins) (λ _ _.
    agree_then (names_of place f build.implicit) (names_of place g build.implicit) _ _ (agree_names place f g same build.implicit) (λ _ _.
    agree_then (names_of place f build.order_only) (names_of place g build.order_only) _ _ (agree_names place f g same build.order_only) (λ _ _.
    agree_then (names_of place f build.validations) (names_of place g build.validations) _ _ (agree_names place f g same build.validations) (λ _ _. tt))))))

alike_kept : (value : List ℕ) → Alike (kept value) value
alike_kept value = by (is_too_large value) refl
  where
    by : (b : Bool) → is_too_large value ≡ b → Alike (if b then replicate 4097 120 else value) value
    by true e = let long : 1048576 < length value = ltb-true 1048576 (length value) e in inr (lit< tt, omega arith)
    by false e = inl refl

-- the first that there is
abbrev pub first_of : Option (List ℕ) → Option (List ℕ) → Option (List ℕ)
first_of None second = second
first_of (Some first) second = Some first

value_of-push : (name other value : List ℕ) (values : List (List ℕ × List ℕ))
    → value_of name (values ++ (other, value) ∷ []) ≡ first_of (value_of name values) (if bytes_eq name other then Some value else None)
value_of-push name other value [] = refl
value_of-push name other value (v ∷ vs) = by (bytes_eq name v.0) (value_of-push name other value vs)
  where
    by : (b : Bool) → value_of name (vs ++ (other, value) ∷ []) ≡ first_of (value_of name vs) (if bytes_eq name other then Some value else None)
        → (if b then Some v.1 else value_of name (vs ++ (other, value) ∷ [])) ≡ first_of (if b then Some v.1 else value_of name vs) (if bytes_eq name other then Some value else None)
    by true later = refl
    by false later = later

-- what is found in a block with other values is found with those
first_map : (h : List ℕ → List ℕ) (o : Option (List ℕ)) (b : Bool) (value : List ℕ) → first_of (option_map h o) (if b then Some (h value) else None) ≡ option_map h (first_of o (if b then Some value else None))
first_map h None true value = refl
first_map h None false value = refl
first_map h (Some v) b value = refl

values_map : (f : List PieceValue → List ℕ) (h : List ℕ → List ℕ) (bindings : List BindingValue) (name : List ℕ)
    → value_of name (values_by (λ text. h (f text)) bindings) ≡ option_map h (value_of name (values_by f bindings))
values_map f h [] name = refl
values_map f h (b ∷ bs) name =
    by (is_some (value_of b.name (values_by (λ text. h (f text)) bs))) (is_some (value_of b.name (values_by f bs))) (same_names (λ text. h (f text)) f bs b.name) (values_map f h bs name)
  where
    hs : List (List ℕ × List ℕ)
    hs = values_by (λ text. h (f text)) bs

    fs : List (List ℕ × List ℕ)
    fs = values_by f bs

    by : (s t : Bool) → s ≡ t → value_of name hs ≡ option_map h (value_of name fs)
        → value_of name (if s then hs else hs ++ (b.name, h (f b.value)) ∷ []) ≡ option_map h (value_of name (if t then fs else fs ++ (b.name, f b.value) ∷ []))
    by true true e same = same
    by false false e same =
        value_of-push name b.name (h (f b.value)) hs ∙ ap (λ o. first_of o (if bytes_eq name b.name then Some (h (f b.value)) else None)) same
        ∙ first_map h (value_of name fs) (bytes_eq name b.name) (f b.value) ∙ sym (ap (option_map h) (value_of-push name b.name (f b.value) fs))
    by true false e same = cc
    by false true e same = cc

alike_or : (other : List ℕ) (o : Option (List ℕ)) → Alike (value_or other (option_map kept o)) (value_or other o)
alike_or other None = inl refl
alike_or other (Some value) = alike_kept value

-- each name has alike values
pub alike_block : (look_up : List ℕ → List ℕ) (bindings : List BindingValue) (name : List ℕ)
    → Alike (in_block (kept_values look_up bindings) look_up name) (in_block (values_of look_up bindings) look_up name)
alike_block look_up bindings name =
    subst (λ o. Alike (value_or (look_up name) o) (value_or (look_up name) (value_of name (values_of look_up bindings)))) (sym (values_map (expanded look_up) kept bindings name))
    (alike_or (look_up name) (value_of name (values_of look_up bindings)))

or-false-left : (a b : Bool) → (a || b) ≡ false → a ≡ false
or-false-left true b h = cc
or-false-left false b h = refl

or-false-right : (a b : Bool) → (a || b) ≡ false → b ≡ false
or-false-right true b h = cc
or-false-right false b h = h

-- where no value is too large, the block is kept as it is
pub kept_same : (look_up : List ℕ → List ℕ) (bindings : List BindingValue) → has_large (values_of look_up bindings) ≡ false → kept_values look_up bindings ≡ values_of look_up bindings
kept_same look_up [] h = refl
kept_same look_up (b ∷ bs) h =
    by (is_some (value_of b.name ks)) (is_some (value_of b.name fs)) (same_names (λ text. kept (expanded look_up text)) (expanded look_up) bs b.name) (kept_same look_up bs) h
  where
    ks : List (List ℕ × List ℕ)
    ks = kept_values look_up bs

    fs : List (List ℕ × List ℕ)
    fs = values_of look_up bs

    v : List ℕ
    v = expanded look_up b.value

    by : (s t : Bool) → s ≡ t → (has_large fs ≡ false → ks ≡ fs) → has_large (if t then fs else fs ++ (b.name, v) ∷ []) ≡ false
        → (if s then ks else ks ++ (b.name, kept v) ∷ []) ≡ (if t then fs else fs ++ (b.name, v) ∷ [])
    by true true e same h = same h
    by false false e same h =
        let split : (has_large fs || (is_too_large v || false)) ≡ false = sym (list_any-append (λ (x : List ℕ × List ℕ). is_too_large x.1) fs ((b.name, v) ∷ [])) ∙ h in
        let small : is_too_large v ≡ false = or-false-left (is_too_large v) false (or-false-right (has_large fs) (is_too_large v || false) split) in
        let rest : ks ≡ fs = same (or-false-left (has_large fs) (is_too_large v || false) split) in
        let whole : kept v ≡ v = ap (λ t. if t then replicate 4097 120 else v) small in
        (λ i. rest i ++ (b.name, whole i) ∷ [])
    by true false e same h = cc
    by false true e same h = cc

-- what an edge is, by its block as it is kept
module _ (place : Place) (above : DeclarationsValue) (scope : ℕ) (build : BuildLineValue) (bindings : List BindingValue) (rule : Option RuleValue) (values : List (List ℕ × List ℕ)) where
  abbrev pub look : List ℕ → List ℕ
  look = variable_in above.scopes scope

  agree_block : values ≡ kept_values look bindings → Agree (paths_of place (in_block values look) build) (paths_of place (in_block (values_of look bindings) look) build)
  agree_block e =
      subst (λ (block : List (List ℕ × List ℕ)). Agree (paths_of place (in_block block look) build) (paths_of place (in_block (values_of look bindings) look) build)) (sym e)
      (agree_paths place _ _ (alike_block look bindings) build)

  -- the edge after its names and rule are found to be right
  after_rule : false ≡ binds (codes "dyndep") bindings → rule_of place above scope build.rule ≡ Ok rule
      → edge_added place scope build bindings above ≡ and_then (edge_of place above scope build (values_of look bindings) rule) (λ edge. Ok (record above { edges = above.edges ++ edge ∷ [] }))
  after_rule no_dyndep is =
      (λ i. unless_then place (if sym no_dyndep i then Some Unsupported else None)
      (and_then (is i) (λ r. and_then (edge_of place above scope build (values_of look bindings) r) (λ edge. Ok (record above { edges = above.edges ++ edge ∷ [] })))))

  fault_of_block : (r : Result PathsValue ManifestFault) (s : Result PathsValue ManifestFault) (fault : ManifestFault) → Agree r s → r ≡ Err fault → s ≡ Err fault
  fault_of_block (Ok a) s fault h e = cc
  fault_of_block (Err f) (Ok b) fault h e = absurd h
  fault_of_block (Err f) (Err g) fault h e = let same : f ≡ fault = cc in ap Err (sym h ∙ same)

  pub edge_fault : (fault : ReadFault) → false ≡ binds (codes "dyndep") bindings → rule_of place above scope build.rule ≡ Ok rule → values ≡ kept_values look bindings
      → IsFault fault (paths_of place (in_block values look) build) → IsFault fault (edge_added place scope build bindings above)
  edge_fault Memory no_dyndep is kept h = tt
  edge_fault (Manifest fault) no_dyndep is kept h =
      let same : paths_of place (in_block (values_of look bindings) look) build ≡ Err fault =
      fault_of_block (paths_of place (in_block values look) build) (paths_of place (in_block (values_of look bindings) look) build) fault (agree_block kept) h in
      after_rule no_dyndep is
      ∙ ap (λ (r : Result PathsValue ManifestFault). and_then (and_then r (λ paths. unless_then place (block_fault (values_of look bindings)) (Ok (record { rule = rule; block = values_of look bindings; scope = scope; paths = paths; place = place }))))
      (λ (edge : DeclaredEdgeValue). Ok (record above { edges = above.edges ++ edge ∷ [] }))) same

  large_after : (r s : Result PathsValue ManifestFault) (paths : PathsValue) → Agree r s → r ≡ Ok paths → block_fault (values_of look bindings) ≡ Some TooLarge
      → and_then (and_then s (λ paths. unless_then place (block_fault (values_of look bindings)) (Ok (record { rule = rule; block = values_of look bindings; scope = scope; paths = paths; place = place }))))
      (λ (edge : DeclaredEdgeValue). Ok (record above { edges = above.edges ++ edge ∷ [] })) ≡ refused place TooLarge
  large_after (Err f) s paths h e large = cc
  large_after (Ok a) (Err g) paths h e large = absurd h
  large_after (Ok a) (Ok b) paths h e large =
      ap (λ o. and_then (unless_then place o (Ok (record { rule = rule; block = values_of look bindings; scope = scope; paths = b; place = place }))) (λ (edge : DeclaredEdgeValue). Ok (record above { edges = above.edges ++ edge ∷ [] }))) large

  pub edge_large : (paths : PathsValue) → false ≡ binds (codes "dyndep") bindings → rule_of place above scope build.rule ≡ Ok rule → values ≡ kept_values look bindings
      → paths_of place (in_block values look) build ≡ Ok paths → has_large (values_of look bindings) ≡ true → edge_added place scope build bindings above ≡ refused place TooLarge
  edge_large paths no_dyndep is kept h large =
      after_rule no_dyndep is
      ∙ large_after (paths_of place (in_block values look) build) (paths_of place (in_block (values_of look bindings) look) build) paths (agree_block kept) h
      (ap (λ b. if b then Some TooLarge else None) large)

  pub edge_ok : (paths : PathsValue) → false ≡ binds (codes "dyndep") bindings → rule_of place above scope build.rule ≡ Ok rule → values ≡ kept_values look bindings
      → paths_of place (in_block values look) build ≡ Ok paths → has_large (values_of look bindings) ≡ false
      → edge_added place scope build bindings above ≡ Ok (record above { edges = above.edges ++ record { rule = rule; block = values; scope = scope; paths = paths; place = place } ∷ [] })
  edge_ok paths no_dyndep is kept h small =
      let whole : values_of look bindings ≡ values = sym (kept ∙ kept_same look bindings small) in
      after_rule no_dyndep is
      ∙ ap (λ o. and_then (and_then (paths_of place (in_block (values_of look bindings) look) build) (λ paths. unless_then place o (Ok (record { rule = rule; block = values_of look bindings; scope = scope; paths = paths; place = place }))))
      (λ (edge : DeclaredEdgeValue). Ok (record above { edges = above.edges ++ edge ∷ [] }))) (ap (λ b. if b then Some TooLarge else None) small)
      ∙ ap (λ (block : List (List ℕ × List ℕ)). and_then (and_then (paths_of place (in_block block look) build) (λ paths. Ok (record { rule = rule; block = block; scope = scope; paths = paths; place = place })))
      (λ (edge : DeclaredEdgeValue). Ok (record above { edges = above.edges ++ edge ∷ [] }))) whole
      ∙ ap (λ (r : Result PathsValue ManifestFault). and_then (and_then r (λ paths. Ok (record { rule = rule; block = values; scope = scope; paths = paths; place = place })))
      (λ (edge : DeclaredEdgeValue). Ok (record above { edges = above.edges ++ edge ∷ [] }))) h
