-- A path whose parts are names that do not begin with a dot is its own canonical form.
use Rattle.std.proofs.Common.{◌≡◌, ℕ, ◌==◌, Bool, true, false, not, ◌&&◌, ◌||◌, cond, List, [], ◌∷◌, filter, bytes_eq, refl, sym, ap, ◌∙◌, eqb-true, if◌then◌else◌}
use Rattle.rev_paths.specs.Canonical.{parts, prefixed, is_named, is_up, before, resolved, joined, or_dot, components, canonical, below_root}
use Rattle.rev_paths.specs.Kept.{plain_from, is_plain}

-- whether a part has a first byte, and that is no dot
abbrev begins : List ℕ → Bool
begins [] = false
begins (b ∷ bs) = not (b == 46)

abbrev all_begin : List (List ℕ) → Bool
all_begin [] = true
all_begin (c ∷ cs) = begins c && all_begin cs

abbrev after_first : List (List ℕ) → List (List ℕ)
after_first [] = []
after_first (c ∷ cs) = cs

and_left : (a b : Bool) → (a && b) ≡ true → a ≡ true
and_left true b h = refl
and_left false b h = cc

and_right : (a b : Bool) → (a && b) ≡ true → b ≡ true
and_right true b h = h
and_right false b h = cc

after-prefixed : (b : ℕ) (cs : List (List ℕ)) → after_first (prefixed b cs) ≡ after_first cs
after-prefixed b [] = refl
after-prefixed b (c ∷ cs) = refl

begin-prefixed : (b : ℕ) (cs : List (List ℕ)) → not (b == 46) ≡ true → all_begin (after_first cs) ≡ true → all_begin (prefixed b cs) ≡ true
begin-prefixed b [] h k = ap (λ t. t && true) h
begin-prefixed b (c ∷ cs) h k = ap (λ t. t && all_begin cs) h ∙ k

apart : (a b : Bool) → not (a || b) ≡ true → (not a ≡ true) × (b ≡ false)
apart true b h = cc
apart false true h = cc
apart false false h = (refl, refl)

inside-by : (b : ℕ) (bs : List ℕ) (t : Bool) → (b == 47) ≡ t → plain_from (b == 47) bs ≡ true
    → (plain_from false bs ≡ true → all_begin (after_first (parts bs)) ≡ true) → (plain_from true bs ≡ true → all_begin (parts bs) ≡ true)
    → all_begin (after_first (if b == 47 then [] ∷ parts bs else prefixed b (parts bs))) ≡ true
inside-by b bs true e h inside front =
    ap (λ u. all_begin (after_first (if u then [] ∷ parts bs else prefixed b (parts bs)))) e ∙ front (sym (ap (λ u. plain_from u bs) e) ∙ h)
inside-by b bs false e h inside front =
    ap (λ u. all_begin (after_first (if u then [] ∷ parts bs else prefixed b (parts bs)))) e ∙ ap all_begin (after-prefixed b (parts bs))
    ∙ inside (sym (ap (λ u. plain_from u bs) e) ∙ h)

front-by : (b : ℕ) (bs : List ℕ) → plain_from true (b ∷ bs) ≡ true → (plain_from false bs ≡ true → all_begin (after_first (parts bs)) ≡ true)
    → all_begin (parts (b ∷ bs)) ≡ true
front-by b bs h inside =
    let first = apart (b == 46) (b == 47) (and_left (not (b == 46 || b == 47)) (plain_from (b == 47) bs) h) in
    let later : plain_from false bs ≡ true = sym (ap (λ u. plain_from u bs) first.1) ∙ and_right (not (b == 46 || b == 47)) (plain_from (b == 47) bs) h in
    ap (λ u. all_begin (if u then [] ∷ parts bs else prefixed b (parts bs))) first.1 ∙ begin-prefixed b (parts bs) first.0 (inside later)

-- inside a part the parts after it begin well; at the front of a part all do
both : (p : List ℕ) → (plain_from false p ≡ true → all_begin (after_first (parts p)) ≡ true) × (plain_from true p ≡ true → all_begin (parts p) ≡ true)
both [] = (λ h. refl, λ h. cc)
both (b ∷ bs) =
    let rest = both bs in (λ h. inside-by b bs (b == 47) refl h rest.0 rest.1, λ h. front-by b bs h rest.0)

parts-front : (p : List ℕ) → plain_from true p ≡ true → all_begin (parts p) ≡ true
parts-front p h = (both p).1 h

not_true : (b : Bool) → not b ≡ true → b ≡ false
not_true true h = cc
not_true false h = refl

begin-named : (c : List ℕ) → begins c ≡ true → is_named c ≡ true
begin-named [] h = cc
begin-named (b ∷ bs) h = ap (λ t. not (t && bytes_eq bs [])) (not_true (b == 46) h)

begin-no_up : (c : List ℕ) → begins c ≡ true → is_up c ≡ false
begin-no_up [] h = cc
begin-no_up (b ∷ bs) h = ap (λ t. t && bytes_eq bs (46 ∷ [])) (not_true (b == 46) h)

named-all : (cs : List (List ℕ)) → all_begin cs ≡ true → filter is_named cs ≡ cs
named-all [] h = refl
named-all (c ∷ cs) h =
    ap (λ t. cond t (c ∷ filter is_named cs) (filter is_named cs)) (begin-named c (and_left (begins c) (all_begin cs) h))
    ∙ ap (λ xs. c ∷ xs) (named-all cs (and_right (begins c) (all_begin cs) h))

before-plain : (c : List ℕ) (cs : List (List ℕ)) → all_begin cs ≡ true → before c cs ≡ c ∷ cs
before-plain c [] h = refl
before-plain c (d ∷ ds) h =
    ap (λ t. if t && not (is_up c) then ds else c ∷ d ∷ ds) (begin-no_up d (and_left (begins d) (all_begin ds) h))

resolved-plain : (cs : List (List ℕ)) → all_begin cs ≡ true → resolved cs ≡ cs
resolved-plain [] h = refl
resolved-plain (c ∷ cs) h =
    let rest : all_begin cs ≡ true = and_right (begins c) (all_begin cs) h in ap (before c) (resolved-plain cs rest) ∙ before-plain c cs rest

joined-prefixed : (b : ℕ) (cs : List (List ℕ)) → joined (prefixed b cs) ≡ b ∷ joined cs
joined-prefixed b [] = refl
joined-prefixed b (c ∷ []) = refl
joined-prefixed b (c ∷ d ∷ ds) = refl

joined-slash : (p : List ℕ) → joined ([] ∷ parts p) ≡ 47 ∷ joined (parts p)
joined-slash [] = refl
joined-slash (b ∷ bs) = by (b == 47) (parts bs)
  where
    by : (t : Bool) (cs : List (List ℕ)) → joined ([] ∷ (if t then [] ∷ cs else prefixed b cs)) ≡ 47 ∷ joined (if t then [] ∷ cs else prefixed b cs)
    by true cs = refl
    by false [] = refl
    by false (c ∷ cs) = refl

joined-parts : (p : List ℕ) → joined (parts p) ≡ p
joined-parts [] = refl
joined-parts (b ∷ bs) = by (b == 47) refl (joined-parts bs)
  where
    slash : (b == 47) ≡ true → 47 ≡ b
    slash e = sym (eqb-true b 47 e)

    by : (t : Bool) → (b == 47) ≡ t → joined (parts bs) ≡ bs → joined (if b == 47 then [] ∷ parts bs else prefixed b (parts bs)) ≡ b ∷ bs
    by true e rest = ap (λ u. joined (if u then [] ∷ parts bs else prefixed b (parts bs))) e ∙ joined-slash bs ∙ (λ i. slash e i ∷ rest i)
    by false e rest =
        ap (λ u. joined (if u then [] ∷ parts bs else prefixed b (parts bs))) e ∙ joined-prefixed b (parts bs) ∙ ap (λ xs. b ∷ xs) rest

components-plain : (p : List ℕ) → is_plain p ≡ true → joined (components p) ≡ p
components-plain p h =
    let all : all_begin (parts p) ≡ true = parts-front p h in
    ap (λ cs. joined (resolved cs)) (named-all (parts p) all) ∙ ap joined (resolved-plain (parts p) all) ∙ joined-parts p

pub canonical-plain : (p : List ℕ) → is_plain p ≡ true → canonical p ≡ p
canonical-plain [] h = cc
canonical-plain (b ∷ bs) h =
    let first = apart (b == 46) (b == 47) (and_left (not (b == 46 || b == 47)) (plain_from (b == 47) bs) h) in
    ap (λ u. if u then 47 ∷ joined (below_root (components (b ∷ bs))) else or_dot (joined (components (b ∷ bs)))) first.1 ∙ ap or_dot (components-plain (b ∷ bs) h)
