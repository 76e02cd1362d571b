-- What is known of last components, and what a text names.
use Rattle.std.proofs.Common.{◌≡◌, ◌≢◌, ℕ, zero, suc, ◌+◌, ◌<◌, ◌≤◌, ◌==◌, Bool, true, false, cond, not, ◌&&◌, ◌||◌, List, [], ◌∷◌, ◌++◌, length, get_or, drop, map, Contains, Option, Some, None, bytes_eq, inl, inr, refl, sym, ap, subst, ◌∙◌, arith, add-one, drop-cons, true≢false, if◌then◌else◌}
use Rattle.std.specs.Prelude.{filter, find, is_some}
use Rattle.std.specs.Borrow.{Bor}
use Rattle.std.specs.Option.{option_copied}
use Rattle.std.specs.List.{flat_map, list_all, list_any}
use Rattle.std.proofs.lemmas.Bool.{cases_eq, eq-eqb, eqb-true, ne_eqb}
use Rattle.std.proofs.lemmas.List.Elements.{Contains-append_left, Contains-append_right}
use Rattle.std.proofs.lemmas.Slice.Eq.{bytes_eq-Decides}
use Rattle.rev_manifest.specs.Manifest.{BuildValue}
use Rattle.rev_graph.specs.Graph.{build_at, no_build, outputs_of, inputs_of, producer_of}
use Rattle.rev_named.specs.Words.{path_in}
use Rattle.rev_named.specs.Named.{AreLastComponents, component, ends_of, is_alone, is_known, is_made_by, is_named_by, is_one, is_word_of, known_in, last_or, last_part, met, named_output, note, noted, paths_of, paths_on}

-- LISTS OF PATHS
pub noted-append : (builds : List BuildValue) (last : List ℕ) (known : Option (Option ℕ)) (xs ys : List (List ℕ)) → noted builds last known (xs ++ ys) ≡ noted builds last (noted builds last known xs) ys
noted-append builds last known [] ys = refl
noted-append builds last known (x ∷ xs) ys = noted-append builds last (note builds last known x) xs ys

any-passes : {X : Type 0} (p : X → Bool) (xs : List X) (x : X) → Contains xs x → p x ≡ true → list_any p xs ≡ true
any-passes p [] x (k, within, at) h = absurd (omega (arith, within))
any-passes p (y ∷ ys) x (zero, within, at) h = ap (λ b. b || list_any p ys) (ap p at ∙ h)
any-passes p (y ∷ ys) x (suc k, within, at) h = either (p y) (any-passes p ys x (k, omega (arith, within), at) h)
  where
    either : (a : Bool) {b : Bool} → b ≡ true → (a || b) ≡ true
    either true e = refl
    either false e = e

-- WHAT IS KNOWN OF THE PATHS WITH A LAST COMPONENT
module _ (builds : List BuildValue) (e : ℕ) (last : List ℕ) where
  abbrev passes : List ℕ → Bool
  passes path = not (bytes_eq (component path) last) || is_made_by e (producer_of builds path)

  abbrev has : List ℕ → Bool
  has path = bytes_eq (component path) last

  several : (ps : List (List ℕ)) → is_known e (noted builds last (Some None) ps) ≡ false
  several [] = refl
  several (p ∷ ps) = by (bytes_eq (component p) last) (producer_of builds p) (several ps)
    where
      by : (b : Bool) (o : Option ℕ) → is_known e (noted builds last (Some None) ps) ≡ false → is_known e (noted builds last (if b then Some (met (Some None) o) else Some None) ps) ≡ false
      by true None h = h
      by true (Some m) h = h
      by false o h = h

  another : (x : ℕ) → x ≢ e → (ps : List (List ℕ)) → is_known e (noted builds last (Some (Some x)) ps) ≡ false
  another x other [] = ne_eqb x e other
  another x other (p ∷ ps) = by (bytes_eq (component p) last) (producer_of builds p) (another x other ps)
    where
      agree : (b : Bool) (m : ℕ) → (x == m) ≡ b → is_known e (noted builds last (Some (Some x)) ps) ≡ false → is_known e (noted builds last (Some (if b then Some m else None)) ps) ≡ false
      agree true m is h = subst (λ n. is_known e (noted builds last (Some (Some n)) ps) ≡ false) (eqb-true x m is) h
      agree false m is h = several ps

      by : (b : Bool) (o : Option ℕ) → is_known e (noted builds last (Some (Some x)) ps) ≡ false → is_known e (noted builds last (if b then Some (met (Some (Some x)) o) else Some (Some x)) ps) ≡ false
      by true None h = several ps
      by true (Some m) h = agree (x == m) m refl h
      by false o h = h

  eq-turned : (a b : ℕ) → (a == b) ≡ (b == a)
  eq-turned a b = elim (cases_eq a b) [
    | inl same ↦ eq-eqb a b same ∙ sym (eq-eqb b a (sym same))
    | inr other ↦ ne_eqb a b other ∙ sym (ne_eqb b a (λ h. other (sym h)))
  ]

  this-one : (ps : List (List ℕ)) → is_known e (noted builds last (Some (Some e)) ps) ≡ list_all passes ps
  this-one [] = eq-eqb e e refl
  this-one (p ∷ ps) = by (bytes_eq (component p) last) (producer_of builds p) (this-one ps)
    where
      agree : (b : Bool) (m : ℕ) → (e == m) ≡ b → is_known e (noted builds last (Some (Some e)) ps) ≡ list_all passes ps
          → is_known e (noted builds last (Some (if b then Some m else None)) ps) ≡ (b && list_all passes ps)
      agree true m is h = subst (λ n. is_known e (noted builds last (Some (Some n)) ps) ≡ list_all passes ps) (eqb-true e m is) h
      agree false m is h = several ps

      by : (b : Bool) (o : Option ℕ) → is_known e (noted builds last (Some (Some e)) ps) ≡ list_all passes ps
          → is_known e (noted builds last (if b then Some (met (Some (Some e)) o) else Some (Some e)) ps) ≡ ((not b || is_made_by e o) && list_all passes ps)
      by true None h = several ps
      by true (Some m) h = agree (e == m) m refl h ∙ ap (λ c. c && list_all passes ps) (eq-turned e m)
      by false o h = h

  from-none : (ps : List (List ℕ)) → is_known e (noted builds last None ps) ≡ (list_any has ps && list_all passes ps)
  from-none [] = refl
  from-none (p ∷ ps) = by (bytes_eq (component p) last) (producer_of builds p) (from-none ps)
    where
      one : (b : Bool) (m : ℕ) → (m == e) ≡ b → is_known e (noted builds last (Some (Some m)) ps) ≡ (b && list_all passes ps)
      one true m is = subst (λ n. is_known e (noted builds last (Some (Some n)) ps) ≡ list_all passes ps) (sym (eqb-true m e is)) (this-one ps)
      one false m is = another m (λ same. true≢false (sym (eq-eqb m e same) ∙ is)) ps

      by : (b : Bool) (o : Option ℕ) → is_known e (noted builds last None ps) ≡ (list_any has ps && list_all passes ps)
          → is_known e (noted builds last (if b then Some (met None o) else None) ps) ≡ ((b || list_any has ps) && ((not b || is_made_by e o) && list_all passes ps))
      by true None h = several ps
      by true (Some m) h = one (m == e) m refl
      by false o h = h

on-lines : (builds : List BuildValue) (edge : ℕ) (path : List ℕ) → Contains (outputs_of (build_at builds edge)) path → Contains (paths_of builds) path
on-lines [] edge path (k, within, at) = absurd (omega (arith, within))
on-lines (b ∷ bs) zero path h =
    Contains-append_left (paths_on b) (paths_of bs) path
    (Contains-append_left (outputs_of b ++ inputs_of b) b.validations path (Contains-append_left (outputs_of b) (inputs_of b) path h))
on-lines (b ∷ bs) (suc edge) path h = Contains-append_right (paths_on b) (paths_of bs) path (on-lines bs edge path h)

-- what a table says of the last component of an edge's output
pub alone-is : (builds : List BuildValue) (table : List (List ℕ × Option ℕ)) (edge : ℕ) (out : List ℕ) → AreLastComponents builds table → Contains (outputs_of (build_at builds edge)) out
    → is_known edge (known_in table (component out)) ≡ is_alone builds edge (component out)
alone-is builds table edge out are has =
    ap (is_known edge) (are.each (component out))
    ∙ from-none builds edge (component out) (paths_of builds)
    ∙ ap (λ b. b && is_alone builds edge (component out))
    (any-passes (λ path. bytes_eq (component path) (component out)) (paths_of builds) out (on-lines builds edge out has) ((bytes_eq-Decides (component out) (component out)).1 refl))

-- WHAT IS LEFT OF A LIST
pub left-from : {X : Type 0} (xs : List X) (i : ℕ) (d : X) → i < length xs → drop i xs ≡ get_or xs i d ∷ drop (i + 1) xs
left-from xs i d within = drop-cons xs i d within ∙ ap (λ j. get_or xs i d ∷ drop j xs) (sym (add-one i))

pub none-left : {X : Type 0} (xs : List X) (i : ℕ) → length xs ≤ i → drop i xs ≡ []
none-left [] zero past = refl
none-left [] (suc i) past = refl
none-left (x ∷ xs) zero past = absurd (omega (arith, past))
none-left (x ∷ xs) (suc i) past = none-left xs i (omega (arith, past))

pub find-append : {X : Type 0} (p : X → Bool) (xs ys : List X) → is_some (find p xs) ≡ false → find p ys ≡ find p (xs ++ ys)
find-append p [] ys none = refl
find-append p (x ∷ xs) ys none = by (p x) none (find-append p xs ys)
  where
    by : (b : Bool) → is_some (if b then Some x else find p xs) ≡ false → (is_some (find p xs) ≡ false → find p ys ≡ find p (xs ++ ys)) → find p ys ≡ (if b then Some x else find p (xs ++ ys))
    by true found rest = absurd (true≢false found)
    by false none rest = rest none

pub find-first : {X : Type 0} (p : X → Bool) (xs ys : List X) → is_some (find p xs) ≡ true → find p xs ≡ find p (xs ++ ys)
find-first p [] ys h = absurd (true≢false (sym h))
find-first p (y ∷ xs) ys h = by (p y) h (find-first p xs ys)
  where
    by : (b : Bool) → is_some (if b then Some y else find p xs) ≡ true → (is_some (find p xs) ≡ true → find p xs ≡ find p (xs ++ ys)) → (if b then Some y else find p xs) ≡ (if b then Some y else find p (xs ++ ys))
    by true h rest = refl
    by false h rest = rest h

pub some-copied : (o : Option (Bor (List ℕ))) → is_some (option_copied o) ≡ is_some o
some-copied None = refl
some-copied (Some x) = refl

pub found-here : {X : Type 0} (p : X → Bool) (xs : List X) (i : ℕ) (x : X) (whole : Option X) → i < length xs → x ≡ get_or xs i x → p x ≡ true → find p (drop i xs) ≡ whole → Some x ≡ whole
found-here p xs i x whole within is passes before =
    sym (ap (λ b. if b then Some x else find p (drop (i + 1) xs)) passes)
    ∙ ap (λ y. find p (y ∷ drop (i + 1) xs)) is
    ∙ sym (ap (find p) (left-from xs i x within))
    ∙ before

pub found-later : {X : Type 0} (p : X → Bool) (xs : List X) (i : ℕ) (x : X) (whole : Option X) → i < length xs → x ≡ get_or xs i x → p x ≡ false → find p (drop i xs) ≡ whole → find p (drop (i + 1) xs) ≡ whole
found-later p xs i x whole within is fails before =
    sym (ap (λ b. if b then Some x else find p (drop (i + 1) xs)) fails)
    ∙ ap (λ y. find p (y ∷ drop (i + 1) xs)) is
    ∙ sym (ap (find p) (left-from xs i x within))
    ∙ before

pub found-nowhere : {X : Type 0} (p : X → Bool) (xs : List X) (i : ℕ) (whole : Option X) → length xs ≤ i → find p (drop i xs) ≡ whole → None ≡ whole
found-nowhere p xs i whole past before = sym (ap (find p) (none-left xs i past)) ∙ before

pub item-in : {X : Type 0} (xs : List X) (i : ℕ) (x : X) → i < length xs → x ≡ get_or xs i x → Contains xs x
item-in xs i x within is = (i, within, sym is)

-- ENDS OF A PATH
pub end-here : (f : List ℕ → Bool) (rest : List ℕ) (b : ℕ) (after : List ℕ) (whole : Bool) → rest ≡ b ∷ after → ((b == 47) && f after) ≡ true → list_any f (ends_of rest) ≡ whole → true ≡ whole
end-here f rest b after whole is ends before = by (b == 47) refl ends
  where
    by : (t : Bool) → (b == 47) ≡ t → (t && f after) ≡ true → true ≡ whole
    by true slash h =
        sym (ap (λ c. c || list_any f (ends_of after)) h)
        ∙ ap (λ c. list_any f (if c then after ∷ ends_of after else ends_of after)) (sym slash)
        ∙ ap (λ r. list_any f (ends_of r)) (sym is)
        ∙ before
    by false other h = absurd (true≢false (sym h))

pub end-later : (f : List ℕ → Bool) (rest : List ℕ) (b : ℕ) (after : List ℕ) (whole : Bool) → rest ≡ b ∷ after → ((b == 47) && f after) ≡ false → list_any f (ends_of rest) ≡ whole → list_any f (ends_of after) ≡ whole
end-later f rest b after whole is none before = by (b == 47) refl none
  where
    by : (t : Bool) → (b == 47) ≡ t → (t && f after) ≡ false → list_any f (ends_of after) ≡ whole
    by true slash h =
        sym (ap (λ c. c || list_any f (ends_of after)) h)
        ∙ ap (λ c. list_any f (if c then after ∷ ends_of after else ends_of after)) (sym slash)
        ∙ ap (λ r. list_any f (ends_of r)) (sym is)
        ∙ before
    by false other h =
        ap (λ c. list_any f (if c then after ∷ ends_of after else ends_of after)) (sym other)
        ∙ ap (λ r. list_any f (ends_of r)) (sym is)
        ∙ before

pub no-end : (f : List ℕ → Bool) (rest : List ℕ) (whole : Bool) → length rest ≡ 0 → list_any f (ends_of rest) ≡ whole → false ≡ whole
no-end f [] whole none before = before
no-end f (b ∷ bs) whole none before = absurd (omega (arith, none))

-- the last part, one byte further
pub part-more : (rest path last next : List ℕ) (b : ℕ) (after : List ℕ) → rest ≡ b ∷ after → next ≡ (if (b == 47) && not (length after == 0) then after else last)
    → last_or last (filter (λ end. not (length end == 0)) (ends_of rest)) ≡ last_part path → last_or next (filter (λ end. not (length end == 0)) (ends_of after)) ≡ last_part path
part-more rest path last next b after is taken before =
    ap (λ l. last_or l (filter (λ end. not (length end == 0)) (ends_of after))) taken
    ∙ by (b == 47) (not (length after == 0)) refl refl
    ∙ ap (λ r. last_or last (filter (λ end. not (length end == 0)) (ends_of r))) (sym is)
    ∙ before
  where
    by : (s t : Bool) → (b == 47) ≡ s → not (length after == 0) ≡ t
        → last_or (if s && t then after else last) (filter (λ end. not (length end == 0)) (ends_of after))
        ≡ last_or last (filter (λ end. not (length end == 0)) (if b == 47 then after ∷ ends_of after else ends_of after))
    by true true slash some =
        sym (ap (λ c. last_or last (filter (λ end. not (length end == 0)) (if c then after ∷ ends_of after else ends_of after))) slash
        ∙ ap (λ c. last_or last (cond c (after ∷ filter (λ end. not (length end == 0)) (ends_of after)) (filter (λ end. not (length end == 0)) (ends_of after)))) some)
    by true false slash none =
        sym (ap (λ c. last_or last (filter (λ end. not (length end == 0)) (if c then after ∷ ends_of after else ends_of after))) slash
        ∙ ap (λ c. last_or last (cond c (after ∷ filter (λ end. not (length end == 0)) (ends_of after)) (filter (λ end. not (length end == 0)) (ends_of after)))) none)
    by false t other some = sym (ap (λ c. last_or last (filter (λ end. not (length end == 0)) (if c then after ∷ ends_of after else ends_of after))) other)

pub part-last : (rest path last : List ℕ) → length rest ≡ 0 → last_or last (filter (λ end. not (length end == 0)) (ends_of rest)) ≡ last_part path → last ≡ last_part path
part-last [] path last none before = before
part-last (b ∷ bs) path last none before = absurd (omega (arith, none))

-- WHAT A TABLE KNOWS, ONE PATH AFTER THE OTHER
pub note-is : (builds : List BuildValue) (table : List (List ℕ × Option ℕ)) (L path last : List ℕ) (maker : Option ℕ) (new : Option (Option ℕ)) → L ≡ component path
    → maker ≡ met (known_in table L) (producer_of builds path) → new ≡ (if bytes_eq L last then Some maker else known_in table last) → new ≡ note builds last (known_in table last) path
note-is builds table L path last maker new L_is maker_is new_is =
    new_is ∙ by (bytes_eq L last) refl
    ∙ ap (λ l. if bytes_eq l last then Some (met (known_in table last) (producer_of builds path)) else known_in table last) L_is
  where
    by : (b : Bool) → bytes_eq L last ≡ b → (if b then Some maker else known_in table last) ≡ (if b then Some (met (known_in table last) (producer_of builds path)) else known_in table last)
    by true e = ap Some (maker_is ∙ ap (λ l. met (known_in table l) (producer_of builds path)) ((bytes_eq-Decides L last).0 e))
    by false e = refl

pub noted-more : (builds : List BuildValue) (last : List ℕ) (paths : List (List ℕ)) (i : ℕ) (p : List ℕ) (k new whole : Option (Option ℕ)) → i < length paths → p ≡ get_or paths i p
    → new ≡ note builds last k p → noted builds last k (drop i paths) ≡ whole → noted builds last new (drop (i + 1) paths) ≡ whole
noted-more builds last paths i p k new whole within is step before =
    ap (λ n. noted builds last n (drop (i + 1) paths)) step
    ∙ ap (λ q. noted builds last k (q ∷ drop (i + 1) paths)) is
    ∙ sym (ap (noted builds last k) (left-from paths i p within))
    ∙ before

pub noted-last : (builds : List BuildValue) (last : List ℕ) (paths : List (List ℕ)) (i : ℕ) (k whole : Option (Option ℕ)) → length paths ≤ i → noted builds last k (drop i paths) ≡ whole → k ≡ whole
noted-last builds last paths i k whole past before = sym (ap (noted builds last k) (none-left paths i past)) ∙ before

pub line-noted : (builds : List BuildValue) (last : List ℕ) (b : BuildValue) (k0 k1 k2 k3 k4 k5 k6 : Option (Option ℕ)) (o1 o2 i1 i2 i3 v : List (List ℕ))
    → o1 ≡ b.explicit_outs → o2 ≡ b.implicit_outs → i1 ≡ b.explicit → i2 ≡ b.implicit → i3 ≡ b.order_only → v ≡ b.validations
    → k1 ≡ noted builds last k0 o1 → k2 ≡ noted builds last k1 o2 → k3 ≡ noted builds last k2 i1 → k4 ≡ noted builds last k3 i2 → k5 ≡ noted builds last k4 i3 → k6 ≡ noted builds last k5 v
    → k6 ≡ noted builds last k0 (paths_on b)
line-noted builds last b k0 k1 k2 k3 k4 k5 k6 o1 o2 i1 i2 i3 v p1 p2 p3 p4 p5 p6 h1 h2 h3 h4 h5 h6 =
    let N : Option (Option ℕ) → List (List ℕ) → Option (Option ℕ) = noted builds last in
    let e1 : N k0 b.explicit_outs ≡ k1 = sym (h1 ∙ ap (N k0) p1) in
    let e2 : N k1 b.implicit_outs ≡ k2 = sym (h2 ∙ ap (N k1) p2) in
    let e3 : N k2 b.explicit ≡ k3 = sym (h3 ∙ ap (N k2) p3) in
    let e4 : N k3 b.implicit ≡ k4 = sym (h4 ∙ ap (N k3) p4) in
    let e5 : N k4 b.order_only ≡ k5 = sym (h5 ∙ ap (N k4) p5) in
    let e6 : N k5 b.validations ≡ k6 = sym (h6 ∙ ap (N k5) p6) in
    let outs : N k0 (outputs_of b) ≡ k2 = noted-append builds last k0 b.explicit_outs b.implicit_outs ∙ ap (λ k. N k b.implicit_outs) e1 ∙ e2 in
    let firsts : N k2 (b.explicit ++ b.implicit) ≡ k4 = noted-append builds last k2 b.explicit b.implicit ∙ ap (λ k. N k b.implicit) e3 ∙ e4 in
    let ins : N k2 (inputs_of b) ≡ k5 = noted-append builds last k2 (b.explicit ++ b.implicit) b.order_only ∙ ap (λ k. N k b.order_only) firsts ∙ e5 in
    let both : N k0 (outputs_of b ++ inputs_of b) ≡ k5 = noted-append builds last k0 (outputs_of b) (inputs_of b) ∙ ap (λ k. N k (inputs_of b)) outs ∙ ins in
    sym (noted-append builds last k0 (outputs_of b ++ inputs_of b) b.validations ∙ ap (λ k. N k b.validations) both ∙ e6)

pub edges-more : (builds : List BuildValue) (last : List ℕ) (e : ℕ) (k new whole : Option (Option ℕ)) → e < length builds → new ≡ noted builds last k (paths_on (build_at builds e))
    → noted builds last k (flat_map paths_on (drop e builds)) ≡ whole → noted builds last new (flat_map paths_on (drop (e + 1) builds)) ≡ whole
edges-more builds last e k new whole within step before =
    ap (λ n. noted builds last n (flat_map paths_on (drop (e + 1) builds))) step
    ∙ sym (noted-append builds last k (paths_on (build_at builds e)) (flat_map paths_on (drop (e + 1) builds)))
    ∙ sym (ap (λ bs. noted builds last k (flat_map paths_on bs)) (left-from builds e no_build within))
    ∙ before

pub edges-last : (builds : List BuildValue) (last : List ℕ) (e : ℕ) (k whole : Option (Option ℕ)) → length builds ≤ e → noted builds last k (flat_map paths_on (drop e builds)) ≡ whole → k ≡ whole
edges-last builds last e k whole past before = sym (ap (λ bs. noted builds last k (flat_map paths_on bs)) (none-left builds e past)) ∙ before

-- WHAT IS NAMED
pub past-last : (builds : List BuildValue) (e : ℕ) → length builds ≤ e → build_at builds e ≡ no_build
past-last [] e past = refl
past-last (b ∷ bs) zero past = absurd (omega (arith, past))
past-last (b ∷ bs) (suc e) past = past-last bs e (omega (arith, past))

abbrev pub end-test : (List ℕ → Bool) → List ℕ → Bool
end-test has end = is_one has (path_in end)

pub named-word : (builds : List BuildValue) (has : List ℕ → Bool) (edge : ℕ) (out : List ℕ) → has out ≡ true → true ≡ is_named_by builds has edge out
named-word builds has edge out h = sym (ap (λ b. b || (list_any (end-test has) (ends_of out) && is_alone builds edge (component out))) h)

pub named-not : (builds : List BuildValue) (has : List ℕ → Bool) (edge : ℕ) (out : List ℕ) → has out ≡ false → list_any (end-test has) (ends_of out) ≡ false → false ≡ is_named_by builds has edge out
named-not builds has edge out h none =
    sym (ap (λ b. b || (list_any (end-test has) (ends_of out) && is_alone builds edge (component out))) h ∙ ap (λ b. b && is_alone builds edge (component out)) none)

pub named-end : (builds : List BuildValue) (has : List ℕ → Bool) (edge : ℕ) (out : List ℕ) (alone : Bool) → has out ≡ false → list_any (end-test has) (ends_of out) ≡ true
    → alone ≡ is_alone builds edge (component out) → alone ≡ is_named_by builds has edge out
named-end builds has edge out alone h some is =
    is ∙ sym (ap (λ b. b || (list_any (end-test has) (ends_of out) && is_alone builds edge (component out))) h ∙ ap (λ b. b && is_alone builds edge (component out)) some)

pub outputs-are : (builds : List BuildValue) (text : List ℕ) (has : List ℕ → Bool) (named : List (Option (List ℕ))) (edges : List ℕ) → ((w : List ℕ) → has w ≡ is_word_of text w)
    → named ≡ map (λ edge. find (is_named_by builds has edge) (outputs_of (build_at builds edge))) edges → named ≡ map (named_output builds text) edges
outputs-are builds text has named edges same h =
    h ∙ ap (λ (f : List ℕ → Bool). map (λ edge. find (is_named_by builds f edge) (outputs_of (build_at builds edge))) edges) (λ i w. same w i)
