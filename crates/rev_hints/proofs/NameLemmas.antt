-- Hints by other names, as they are found: by makers, by places of a list, by users.
use Rattle.std.proofs.Common.{◌≡◌, ◌≢◌, ℕ, zero, suc, ◌+◌, ◌<◌, Bool, true, false, ◌||◌, List, [], ◌∷◌, ◌++◌, length, get_or, take, Option, Some, None, Contains, ◌⊎◌, inl, inr, refl, sym, ap, subst, ◌∙◌, arith, true≢false, if◌then◌else◌, bytes_eq}
use Rattle.std.specs.Prelude.{◌↔◌, is_some, not, slice_get}
use Rattle.std.specs.List.{list_any}
use Rattle.std.proofs.lemmas.List.{get_or_default}
use Rattle.std.proofs.lemmas.List.Elements.{Contains-get_or}
use Rattle.std.proofs.lemmas.List.Folds.{list_any-append}
use Rattle.std.proofs.lemmas.Option.{slice_get_within}
use Rattle.rev_manifest.specs.Manifest.{BuildValue, ManifestValue}
use Rattle.rev_history.specs.Timeline.{Timeline, kept_events}
use Rattle.rev_waits.specs.Waits.{Makes}
use Rattle.rev_races.specs.Keys.{SomeBelow}
use Rattle.rev_hints.specs.declared.named.NameHint.{NameHint}
use Rattle.rev_hints.specs.Hints.{listed}
use Rattle.rev_hints.specs.Names.{IsDue, IsHintAmong, IsHintAt, IsHintBy, IsHintHere, IsHintIn, IsHintOf, IsHintOfUser, IsNameHint, output_of}
use Rattle.rev_hints.proofs.HintLemmas.{any-at, at-any, bytes-same, or-false, or-true, same-bytes, take-more}

-- before the first user there is none
abbrev pub no-hints : List NameHint
no-hints = []

pub none-among : (h : NameHint) → Contains no-hints h → ⊥
none-among h c = let within = c.1 in omega (arith, within)

-- WHICH PATHS WERE SEEN
-- one path more
pub seen-next : (paths : List (List ℕ)) (place : ℕ) (path : List ℕ) → slice_get paths place ≡ Some path → (other : List ℕ)
    → (if bytes_eq path other then true else list_any (bytes_eq other) (take place paths)) ≡ list_any (bytes_eq other) (take (place + 1) paths)
seen-next paths place path stands other =
    by (bytes_eq path other) refl
    ∙ sym (ap (list_any (bytes_eq other)) (take-more paths place path stands) ∙ list_any-append (bytes_eq other) (take place paths) (path ∷ []))
  where
    before : Bool
    before = list_any (bytes_eq other) (take place paths)

    apart : bytes_eq path other ≡ false → (b : Bool) → bytes_eq other path ≡ b → bytes_eq other path ≡ false
    apart e true f = absurd (true≢false (sym (same-bytes path other (sym (bytes-same other path f))) ∙ e))
    apart e false f = f

    by : (b : Bool) → bytes_eq path other ≡ b → (if bytes_eq path other then true else before) ≡ (before || (bytes_eq other path || false))
    by true e =
        ap (λ b. if b then true else before) e
        ∙ sym (ap (λ b. before || (b || false)) (same-bytes other path (sym (bytes-same path other e))) ∙ or-true before)
    by false e =
        ap (λ b. if b then true else before) e
        ∙ sym (ap (λ b. before || (b || false)) (apart e (bytes_eq other path) refl) ∙ or-false before)

-- a path that was not seen stands at no earlier place
pub first-place : (paths : List (List ℕ)) (place : ℕ) (path : List ℕ) → list_any (bytes_eq path) (take place paths) ≡ false → (before : ℕ) → before < place → slice_get paths before ≢ Some path
first-place paths place path none before less stands = true≢false (sym (any-at paths place before path less stands) ∙ none)

module _ (builds : List BuildValue) (files : List (List ℕ)) (whole : List Bool) (user place : ℕ) where
  -- BY A MAKER
  pub hint-of : (maker : ℕ) (h : NameHint) → IsDue builds files whole user maker → (h ≡ record { user = user; place = place; maker = maker }) ↔ IsHintOf builds files whole user place maker h
  hint-of maker h due = (λ e. record { is = e; due = due }, λ o. o.is)

  -- by all makers of an output
  pub hints-by-makers : (makers : List ℕ) (output : List ℕ) (h : NameHint) → ((maker : ℕ) → Contains makers maker ↔ Makes builds maker output)
      → SomeBelow (λ i. IsHintOf builds files whole user place (get_or makers i 0) h) (length makers) ↔ IsHintBy builds files whole user place output h
  hints-by-makers makers output h are = (
    λ s.
        let below = s.below in
        let is = s.holds.is in
        let maker : h.maker ≡ get_or makers s.number 0 = ap (λ (x : NameHint). x.maker) is in
        record {
          user_is = ap (λ (x : NameHint). x.user) is;
          place_is = ap (λ (x : NameHint). x.place) is;
          made = subst (λ m. Makes builds m output) (sym maker) ((are (get_or makers s.number 0)).0 (Contains-get_or makers s.number 0 below));
          due = subst (λ m. IsDue builds files whole user m) (sym maker) s.holds.due;
        },
    λ a.
        let c = (are h.maker).1 a.made in
        let at : get_or makers c.0 0 ≡ h.maker = get_or_default makers c.0 0 h.maker c.1 ∙ c.2 in
        record {
          number = c.0;
          below = c.1;
          holds = record {
            is = λ i. record { user = a.user_is i; place = a.place_is i; maker = sym at i };
            due = subst (λ m. IsDue builds files whole user m) (sym at) a.due;
          };
        },
  )

  module _ (names : List (List ℕ × List ℕ)) where
    -- BY A PATH
    -- a path that is no other name gives none
    pub none-by-path : (path : List ℕ) (h : NameHint) → None ≡ output_of names path → IsHintAt builds files names whole user place path h → ⊥
    none-by-path path h none a =
        let no : None ≡ Some a.output = none ∙ a.named in
        true≢false cc

    pub by-path : (path output : List ℕ) (h : NameHint) → Some output ≡ output_of names path → IsHintBy builds files whole user place output h ↔ IsHintAt builds files names whole user place path h
    by-path path output h named = (
      λ by. record { output = output; named = sym named; by = by },
      λ a.
          let two : Some a.output ≡ Some output = sym a.named ∙ sym named in
          let same : a.output ≡ output = cc in
          subst (λ o. IsHintBy builds files whole user place o h) same a.by,
    )

    -- AT A PLACE
    module _ (paths : List (List ℕ)) (path : List ℕ) (stands : slice_get paths place ≡ Some path) where
      path-is : (h : NameHint) → (here : IsHintHere builds files names whole user paths place h) → here.hint.path ≡ path
      path-is h here =
          let two : Some here.hint.path ≡ Some path = sym here.hint.stands ∙ ap (slice_get paths) here.place_is ∙ stands in
          cc

      pub hint-here : (h : NameHint) → ((before : ℕ) → before < place → slice_get paths before ≢ Some path) → IsHintAt builds files names whole user place path h ↔ IsHintHere builds files names whole user paths place h
      hint-here h first = (
        λ a.
            let placed = a.by.place_is in
            record {
              user_is = a.by.user_is;
              place_is = a.by.place_is;
              hint = record {
                path = path;
                output = a.output;
                stands = ap (slice_get paths) a.by.place_is ∙ stands;
                first = λ before less. first before (omega (arith, less, placed));
                named = a.named;
                made = a.by.made;
                due = subst (λ u. IsDue builds files whole u h.maker) (sym a.by.user_is) a.by.due;
              };
            },
        λ here. record {
          output = here.hint.output;
          named = ap (output_of names) (sym (path-is h here)) ∙ here.hint.named;
          by = record {
            user_is = here.user_is;
            place_is = here.place_is;
            made = here.hint.made;
            due = subst (λ u. IsDue builds files whole u h.maker) here.user_is here.hint.due;
          };
        },
      )

      -- a path that stands at an earlier place gives none here
      pub none-here : (h : NameHint) → list_any (bytes_eq path) (take place paths) ≡ true → IsHintHere builds files names whole user paths place h → ⊥
      none-here h seen here =
          let s = at-any paths place path seen in
          let less = s.less in
          let placed = here.place_is in
          here.hint.first s.before (omega (arith, less, placed)) (s.stands ∙ ap Some (sym (path-is h here)))

module _ (builds : List BuildValue) (files : List (List ℕ)) (names : List (List ℕ × List ℕ)) (whole : List Bool) where
  -- OF A USER
  pub hints-among : (user : ℕ) (paths : List (List ℕ)) (h : NameHint)
      → SomeBelow (λ place. IsHintHere builds files names whole user paths place h) (length paths) ↔ IsHintAmong builds files names whole user paths h
  hints-among user paths h = (
    λ s. record { user_is = s.holds.user_is; hint = s.holds.hint },
    λ a. record {
      number = h.place;
      below = slice_get_within paths h.place a.hint.path a.hint.stands;
      holds = record { user_is = a.user_is; place_is = refl; hint = a.hint };
    },
  )

  -- a user gives none whose list has no other name
  pub none-of-user : (user : ℕ) (paths : List (List ℕ)) (h : NameHint) → list_any (λ path. is_some (output_of names path)) paths ≡ false → IsHintAmong builds files names whole user paths h → ⊥
  none-of-user user paths h none a = true≢false (sym (some paths h.place a.hint.path a.hint.stands (ap is_some a.hint.named)) ∙ none)
    where
      some : (ps : List (List ℕ)) (place : ℕ) (path : List ℕ) → slice_get ps place ≡ Some path → is_some (output_of names path) ≡ true → list_any (λ p. is_some (output_of names p)) ps ≡ true
      some [] place path stands e =
          let no : None ≡ Some path = stands in
          absurd (true≢false cc)
      some (p ∷ ps) zero path stands e =
          let two : Some p ≡ Some path = stands in
          let same : p ≡ path = cc in
          ap (λ b. b || list_any (λ q. is_some (output_of names q)) ps) (ap (λ q. is_some (output_of names q)) same ∙ e)
      some (p ∷ ps) (suc place) path stands e = ap (λ b. is_some (output_of names p) || b) (some ps place path stands e) ∙ or-true (is_some (output_of names p))

-- those of a user by another name of its list and of the manifest
pub same-among : (m n : ManifestValue) (files : List (List ℕ)) (names : List (List ℕ × List ℕ)) (whole : List Bool) (user : ℕ) (paths all : List (List ℕ)) (h : NameHint) → m ≡ n → paths ≡ all
    → IsHintAmong m.builds files names whole user paths h ↔ IsHintAmong n.builds files names whole user all h
same-among m n files names whole user paths all h manifest same = (
  λ a. subst (λ (x : ManifestValue). IsHintAmong x.builds files names whole user all h) manifest (subst (λ (ps : List (List ℕ)). IsHintAmong m.builds files names whole user ps h) same a),
  λ a. subst (λ (ps : List (List ℕ)). IsHintAmong m.builds files names whole user ps h) (sym same) (subst (λ (x : ManifestValue). IsHintAmong x.builds files names whole user all h) (sym manifest) a),
)

-- OF A HISTORY
pub all-hints : (t : Timeline) (files : List (List ℕ)) (names : List (List ℕ × List ℕ)) (whole : List Bool) (h : NameHint)
    → SomeBelow (λ user. IsHintOfUser t files names whole user h) (length t.manifest.builds) ↔ IsNameHint t files names whole h
all-hints t files names whole h = (
  λ s.
      let below = s.below in
      let same = s.holds.user_is in (
        omega (arith, below, same),
        subst (λ u. IsHintIn t.manifest.builds files names whole (listed t.manifest t.opening (kept_events t) u) h) (sym same) s.holds.hint,
      ),
  λ is. record { number = h.user; below = is.0; holds = record { user_is = refl; hint = is.1 } },
)
