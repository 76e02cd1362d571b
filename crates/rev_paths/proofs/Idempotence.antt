-- The canonical form of a canonical form is itself, and no longer than the path.
use Rattle.std.proofs.Common.{◌≡◌, ℕ, ◌+◌, ◌-◌, ◌<◌, ◌≤◌, ◌==◌, Bool, true, false, not, ◌&&◌, cond, List, [], ◌∷◌, ◌++◌, length, filter, refl, sym, ap, ◌∙◌, arith, if◌then◌else◌, suc, length-append}
use Rattle.rev_paths.specs.Canonical.{parts, prefixed, is_named, is_up, before, resolved, below_root, joined, or_dot, is_rooted, components, canonical, IsCanonical}
use Rattle.rev_paths.proofs.PathLemmas.{no_ups, settled, and_left, and_right, and_both, not_true, resolved-settled, finish-settled}

-- no byte is a slash
abbrev no_slash : List ℕ → Bool
no_slash [] = true
no_slash (b ∷ bs) = not (b == 47) && no_slash bs

abbrev no_slashes : List (List ℕ) → Bool
no_slashes [] = true
no_slashes (c ∷ cs) = no_slash c && no_slashes cs

-- each is named and has no slash
abbrev plain : List (List ℕ) → Bool
plain [] = true
plain (c ∷ cs) = (is_named c && no_slash c) && plain cs

no_slashes-prefixed : (b : ℕ) (cs : List (List ℕ)) → (b == 47) ≡ false → no_slashes cs ≡ true → no_slashes (prefixed b cs) ≡ true
no_slashes-prefixed b [] e h = ap (λ t. (not t && true) && true) e
no_slashes-prefixed b (c ∷ cs) e h = ap (λ t. (not t && no_slash c) && no_slashes cs) e ∙ h

no_slashes-parts : (p : List ℕ) → no_slashes (parts p) ≡ true
no_slashes-parts [] = refl
no_slashes-parts (b ∷ bs) =
    elim (b == 47) as (λ t. (b == 47) ≡ t → no_slashes (if t then [] ∷ parts bs else prefixed b (parts bs)) ≡ true) [
      | true ↦ λ e. no_slashes-parts bs
      | false ↦ λ e. no_slashes-prefixed b (parts bs) e (no_slashes-parts bs)
    ] refl

plain-filter : (cs : List (List ℕ)) → no_slashes cs ≡ true → plain (filter is_named cs) ≡ true
plain-filter [] h = refl
plain-filter (c ∷ cs) h =
    let rest : plain (filter is_named cs) ≡ true = plain-filter cs (and_right (no_slash c) (no_slashes cs) h) in
    elim (is_named c) as (λ t. is_named c ≡ t → plain (cond t (c ∷ filter is_named cs) (filter is_named cs)) ≡ true) [
      | true ↦ λ e. and_both (is_named c && no_slash c) (plain (filter is_named cs)) (and_both (is_named c) (no_slash c) e (and_left (no_slash c) (no_slashes cs) h)) rest
      | false ↦ λ e. rest
    ] refl

plain-before : (c : List ℕ) (cs : List (List ℕ)) → (is_named c && no_slash c) ≡ true → plain cs ≡ true → plain (before c cs) ≡ true
plain-before c [] e h = and_both (is_named c && no_slash c) true e refl
plain-before c (d ∷ ds) e h =
    elim (is_up d && not (is_up c)) as (λ t. plain (if t then ds else c ∷ d ∷ ds) ≡ true) [
      | true ↦ and_right (is_named d && no_slash d) (plain ds) h
      | false ↦ and_both (is_named c && no_slash c) (plain (d ∷ ds)) e h
    ]

plain-resolved : (cs : List (List ℕ)) → plain cs ≡ true → plain (resolved cs) ≡ true
plain-resolved [] h = refl
plain-resolved (c ∷ cs) h =
    plain-before c (resolved cs) (and_left (is_named c && no_slash c) (plain cs) h) (plain-resolved cs (and_right (is_named c && no_slash c) (plain cs) h))

plain-below_root : (cs : List (List ℕ)) → plain cs ≡ true → plain (below_root cs) ≡ true
plain-below_root [] h = refl
plain-below_root (c ∷ cs) h =
    elim (is_up c) as (λ t. plain (if t then below_root cs else c ∷ cs) ≡ true) [
      | true ↦ plain-below_root cs (and_right (is_named c && no_slash c) (plain cs) h)
      | false ↦ h
    ]

plain-components : (p : List ℕ) → plain (components p) ≡ true
plain-components p = plain-resolved (filter is_named (parts p)) (plain-filter (parts p) (no_slashes-parts p))

-- what is resolved has each `..` before all names
settled-kept : (c d : List ℕ) (ds : List (List ℕ)) (b e : Bool) → is_up c ≡ b → is_up d ≡ e → (e && not b) ≡ false
    → cond e (settled false ds) (no_ups ds) ≡ true
    → cond b (cond e (settled false ds) (no_ups ds)) (not e && no_ups ds) ≡ true
settled-kept c d ds true true u v n h = h
settled-kept c d ds true false u v n h = h
settled-kept c d ds false true u v n h = cc
settled-kept c d ds false false u v n h = h

settled-before : (c : List ℕ) (cs : List (List ℕ)) → settled false cs ≡ true → settled false (before c cs) ≡ true
settled-before c [] h = elim (is_up c) as (λ t. cond t true true ≡ true) [ true ↦ refl | false ↦ refl ]
settled-before c (d ∷ ds) h =
    elim (is_up d && not (is_up c)) as (λ t. (is_up d && not (is_up c)) ≡ t → settled false (if t then ds else c ∷ d ∷ ds) ≡ true) [
      | true ↦ λ e. sym (ap (λ t. cond t (settled false ds) (no_ups ds)) (and_left (is_up d) (not (is_up c)) e)) ∙ h
      | false ↦ λ e. settled-kept c d ds (is_up c) (is_up d) refl refl e h
    ] refl

settled-resolved : (cs : List (List ℕ)) → settled false (resolved cs) ≡ true
settled-resolved [] = refl
settled-resolved (c ∷ cs) = settled-before c (resolved cs) (settled-resolved cs)

settled-below_root : (cs : List (List ℕ)) → settled false cs ≡ true → settled true (below_root cs) ≡ true
settled-below_root [] h = refl
settled-below_root (c ∷ cs) h =
    elim (is_up c) as (λ t. is_up c ≡ t → cond t (settled false cs) (no_ups cs) ≡ true → settled true (if t then below_root cs else c ∷ cs) ≡ true) [
      | true ↦ λ e h. settled-below_root cs h
      | false ↦ λ e h. ap (λ t. cond t false (no_ups cs)) e ∙ h
    ] refl h

-- the parts of components with slashes between them are those components
parts-alone : (c : List ℕ) → no_slash c ≡ true → parts c ≡ c ∷ []
parts-alone [] h = refl
parts-alone (b ∷ bs) h =
    ap (λ t. if t then [] ∷ parts bs else prefixed b (parts bs)) (not_true (b == 47) (and_left (not (b == 47)) (no_slash bs) h))
    ∙ ap (prefixed b) (parts-alone bs (and_right (not (b == 47)) (no_slash bs) h))

parts-append : (c p : List ℕ) → no_slash c ≡ true → parts (c ++ 47 ∷ p) ≡ c ∷ parts p
parts-append [] p h = refl
parts-append (b ∷ bs) p h =
    ap (λ t. if t then [] ∷ parts (bs ++ 47 ∷ p) else prefixed b (parts (bs ++ 47 ∷ p))) (not_true (b == 47) (and_left (not (b == 47)) (no_slash bs) h))
    ∙ ap (prefixed b) (parts-append bs p (and_right (not (b == 47)) (no_slash bs) h))

filter-kept : (c : List ℕ) (cs ds : List (List ℕ)) → is_named c ≡ true → filter is_named cs ≡ ds → filter is_named (c ∷ cs) ≡ c ∷ ds
filter-kept c cs ds e h = ap (λ t. cond t (c ∷ filter is_named cs) (filter is_named cs)) e ∙ ap (λ xs. c ∷ xs) h

parts-joined : (cs : List (List ℕ)) → plain cs ≡ true → filter is_named (parts (joined cs)) ≡ cs
parts-joined [] h = refl
parts-joined (c ∷ []) h =
    let one : (is_named c && no_slash c) ≡ true = and_left (is_named c && no_slash c) true h in
    ap (filter is_named) (parts-alone c (and_right (is_named c) (no_slash c) one)) ∙ filter-kept c [] [] (and_left (is_named c) (no_slash c) one) refl
parts-joined (c ∷ d ∷ ds) h =
    let one : (is_named c && no_slash c) ≡ true = and_left (is_named c && no_slash c) (plain (d ∷ ds)) h in
    ap (filter is_named) (parts-append c (joined (d ∷ ds)) (and_right (is_named c) (no_slash c) one))
    ∙ filter-kept c (parts (joined (d ∷ ds))) (d ∷ ds) (and_left (is_named c) (no_slash c) one)
    (parts-joined (d ∷ ds) (and_right (is_named c && no_slash c) (plain (d ∷ ds)) h))

-- components that are named begin with no slash
joined-front : (c : List ℕ) (cs : List (List ℕ)) → (is_named c && no_slash c) ≡ true
    → (is_rooted (joined (c ∷ cs)) ≡ false) × (or_dot (joined (c ∷ cs)) ≡ joined (c ∷ cs))
joined-front [] cs h = cc
joined-front (b ∷ bs) [] h = (not_true (b == 47) (and_left (not (b == 47)) (no_slash bs) (and_right (is_named (b ∷ bs)) (no_slash (b ∷ bs)) h)), refl)
joined-front (b ∷ bs) (d ∷ ds) h = (not_true (b == 47) (and_left (not (b == 47)) (no_slash bs) (and_right (is_named (b ∷ bs)) (no_slash (b ∷ bs)) h)), refl)

canonical-under_root : (cs : List (List ℕ)) → plain cs ≡ true → settled true cs ≡ true → canonical (47 ∷ joined cs) ≡ 47 ∷ joined cs
canonical-under_root cs h s =
    ap (λ xs. 47 ∷ joined (below_root (resolved xs))) (parts-joined cs h)
    ∙ ap (λ xs. 47 ∷ joined (below_root xs)) (resolved-settled true cs s) ∙ ap (λ xs. 47 ∷ joined xs) (finish-settled true cs s)

canonical-from_here : (cs : List (List ℕ)) → plain cs ≡ true → settled false cs ≡ true → canonical (or_dot (joined cs)) ≡ or_dot (joined cs)
canonical-from_here [] h s = refl
canonical-from_here (c ∷ cs) h s =
    let front : (is_rooted (joined (c ∷ cs)) ≡ false) × (or_dot (joined (c ∷ cs)) ≡ joined (c ∷ cs)) =
    joined-front c cs (and_left (is_named c && no_slash c) (plain cs) h) in
    ap canonical front.1
    ∙ ap (λ t. if t then 47 ∷ joined (below_root (components (joined (c ∷ cs)))) else or_dot (joined (components (joined (c ∷ cs))))) front.0
    ∙ ap (λ xs. or_dot (joined (resolved xs))) (parts-joined (c ∷ cs) h)
    ∙ ap (λ xs. or_dot (joined xs)) (resolved-settled false (c ∷ cs) s)

-- the canonical form of a canonical form is itself
pub canonical-again : (p : List ℕ) → canonical (canonical p) ≡ canonical p
canonical-again p =
    let left : List ℕ = 47 ∷ joined (below_root (components p)) in
    let right : List ℕ = or_dot (joined (components p)) in
    elim (is_rooted p) as (λ t. canonical (if t then left else right) ≡ (if t then left else right)) [
      | true ↦ canonical-under_root (below_root (components p)) (plain-below_root (components p) (plain-components p))
          (settled-below_root (components p) (settled-resolved (filter is_named (parts p))))
      | false ↦ canonical-from_here (components p) (plain-components p) (settled-resolved (filter is_named (parts p)))
    ]

-- how many bytes the parts have, each with one slash
abbrev size : List (List ℕ) → ℕ
size [] = 0
size (c ∷ cs) = length c + 1 + size cs

size-prefixed : (b : ℕ) (c : List ℕ) (cs : List (List ℕ)) → size (prefixed b (c ∷ cs)) ≡ 1 + size (c ∷ cs)
size-prefixed b c cs = omega arith

size-prefixed_parts : (b : ℕ) (cs : List (List ℕ)) → 0 < size cs → size (prefixed b cs) ≡ 1 + size cs
size-prefixed_parts b [] h = absurd (omega arith)
size-prefixed_parts b (c ∷ cs) h = omega arith

size-parts : (p : List ℕ) → size (parts p) ≡ length p + 1
size-parts [] = refl
size-parts (b ∷ bs) =
    let rest : size (parts bs) ≡ length bs + 1 = size-parts bs in
    let some : 0 < size (parts bs) = omega arith in
    let longer : size (prefixed b (parts bs)) ≡ 1 + size (parts bs) = size-prefixed_parts b (parts bs) some in
    elim (b == 47) as (λ t. size (if t then [] ∷ parts bs else prefixed b (parts bs)) ≡ suc (length bs) + 1) [
      | true ↦ omega arith
      | false ↦ omega arith
    ]

size-filter : (cs : List (List ℕ)) → size (filter is_named cs) ≤ size cs
size-filter [] = omega arith
size-filter (c ∷ cs) =
    let rest : size (filter is_named cs) ≤ size cs = size-filter cs in
    elim (is_named c) as (λ t. size (cond t (c ∷ filter is_named cs) (filter is_named cs)) ≤ size (c ∷ cs)) [
      | true ↦ omega arith
      | false ↦ omega arith
    ]

size-before : (c : List ℕ) (cs : List (List ℕ)) → size (before c cs) ≤ length c + 1 + size cs
size-before c [] = omega arith
size-before c (d ∷ ds) =
    elim (is_up d && not (is_up c)) as (λ t. size (if t then ds else c ∷ d ∷ ds) ≤ length c + 1 + size (d ∷ ds)) [
      | true ↦ omega arith
      | false ↦ omega arith
    ]

size-resolved : (cs : List (List ℕ)) → size (resolved cs) ≤ size cs
size-resolved [] = omega arith
size-resolved (c ∷ cs) =
    let rest : size (resolved cs) ≤ size cs = size-resolved cs in
    let one : size (before c (resolved cs)) ≤ length c + 1 + size (resolved cs) = size-before c (resolved cs) in
    omega arith

size-below_root : (cs : List (List ℕ)) → size (below_root cs) ≤ size cs
size-below_root [] = omega arith
size-below_root (c ∷ cs) =
    let rest : size (below_root cs) ≤ size cs = size-below_root cs in
    elim (is_up c) as (λ t. size (if t then below_root cs else c ∷ cs) ≤ size (c ∷ cs)) [
      | true ↦ omega arith
      | false ↦ omega arith
    ]

length-joined : (cs : List (List ℕ)) → length (joined cs) ≤ size cs - 1
length-joined [] = omega arith
length-joined (c ∷ []) = omega arith
length-joined (c ∷ d ∷ ds) =
    let rest : length (joined (d ∷ ds)) ≤ size (d ∷ ds) - 1 = length-joined (d ∷ ds) in
    let both : length (c ++ 47 ∷ joined (d ∷ ds)) ≡ length c + suc (length (joined (d ∷ ds))) = length-append c (47 ∷ joined (d ∷ ds)) in
    omega arith

length-or_dot : (xs : List ℕ) (n : ℕ) → length xs ≤ n → 0 < n → (0 < length (or_dot xs)) × (length (or_dot xs) ≤ n)
length-or_dot [] n h some = (omega arith, omega arith)
length-or_dot (x ∷ xs) n h some = (omega arith, h)

length-rooted : (p : List ℕ) → is_rooted p ≡ true → length (joined (below_root (components p))) + 1 ≤ length p
length-rooted [] e = cc
length-rooted (b ∷ bs) e =
    let cut : parts (b ∷ bs) ≡ [] ∷ parts bs = ap (λ t. if t then [] ∷ parts bs else prefixed b (parts bs)) e in
    let same : filter is_named (parts (b ∷ bs)) ≡ filter is_named (parts bs) = ap (filter is_named) cut in
    let filtered : size (filter is_named (parts (b ∷ bs))) ≤ length bs + 1 =
    (let kept : size (filter is_named (parts bs)) ≤ size (parts bs) = size-filter (parts bs) in
    let whole : size (parts bs) ≡ length bs + 1 = size-parts bs in
    let equal : size (filter is_named (parts (b ∷ bs))) ≡ size (filter is_named (parts bs)) = ap size same in omega arith) in
    let few : size (components (b ∷ bs)) ≤ size (filter is_named (parts (b ∷ bs))) = size-resolved (filter is_named (parts (b ∷ bs))) in
    let fewer : size (below_root (components (b ∷ bs))) ≤ size (components (b ∷ bs)) = size-below_root (components (b ∷ bs)) in
    let short : length (joined (below_root (components (b ∷ bs)))) ≤ size (below_root (components (b ∷ bs))) - 1 = length-joined (below_root (components (b ∷ bs))) in
    omega arith

length-here : (p : List ℕ) → length (joined (components p)) ≤ length p
length-here p =
    let whole : size (parts p) ≡ length p + 1 = size-parts p in
    let kept : size (filter is_named (parts p)) ≤ size (parts p) = size-filter (parts p) in
    let few : size (components p) ≤ size (filter is_named (parts p)) = size-resolved (filter is_named (parts p)) in
    let short : length (joined (components p)) ≤ size (components p) - 1 = length-joined (components p) in
    omega arith

-- a canonical form has some bytes, and no more than the path
pub length-canonical : (p : List ℕ) → 0 < length p → (0 < length (canonical p)) × (length (canonical p) ≤ length p)
length-canonical p some =
    let left : List ℕ = 47 ∷ joined (below_root (components p)) in
    let right : List ℕ = or_dot (joined (components p)) in
    elim (is_rooted p) as (λ t. is_rooted p ≡ t → (0 < length (if t then left else right)) × (length (if t then left else right) ≤ length p)) [
      | true ↦ λ e. let short : length (joined (below_root (components p))) + 1 ≤ length p = length-rooted p e in (omega arith, omega arith)
      | false ↦ λ e. length-or_dot (joined (components p)) (length p) (length-here p) some
    ] refl

-- the canonical form of a path of 1 to 4,096 bytes
pub IsCanonical-canonical : (p bytes : List ℕ) → bytes ≡ canonical p → 0 < length p → length p ≤ 4096 → IsCanonical bytes
IsCanonical-canonical p bytes e some few =
    let same : length bytes ≡ length (canonical p) = ap length e in
    let lengths : (0 < length (canonical p)) × (length (canonical p) ≤ length p) = length-canonical p some in
    record {
      own = ap canonical e ∙ canonical-again p ∙ sym e;
      some = omega arith;
      few = omega arith;
    }
