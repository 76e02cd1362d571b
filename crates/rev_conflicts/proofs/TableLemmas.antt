-- Tables of who touches which place, one command after the other.
use Rattle.std.proofs.Common.{◌≡◌, ℕ, zero, suc, ◌+◌, ◌<◌, Bool, true, false, List, [], ◌∷◌, ◌++◌, length, get_or, set, Option, Some, None, ◌⊎◌, inl, inr, refl, sym, ap, subst, ◌∙◌, arith, true≢false, Contains}
use Rattle.std.specs.Prelude.{◌↔◌, All}
use Rattle.std.specs.Global.{Vec}
use Rattle.std.proofs.lemmas.Bool.{cases_eq, both_ways}
use Rattle.std.proofs.lemmas.List.{get_or_default, get_or-set_same, get_or-set_other, length-set, length-map, get_or-map as at-map}
use Rattle.std.proofs.lemmas.List.Elements.{Contains-get_or}
use Rattle.rev_ranks.specs.Graph.{Steps, graph_of}
use Rattle.rev_observed.specs.CommandValues.{CommandValue}
use Rattle.rev_conflicts.specs.declared.place.Place.{Place}
use Rattle.rev_conflicts.specs.declared.place.Place.TheVariants.{File, Entries}
use Rattle.rev_conflicts.specs.Places.{changes, folder_number, Touches, Touches.file as touches_file, Touches.entry as touches_entry}
use Rattle.rev_conflicts.specs.Tables.{SomeBelow, HasAt, OneTouches, OneTouches.file as one_file, OneTouches.entry as one_entry, EachTouches, Puts, PutsAt, TouchesBy, AreTouched}
use Rattle.rev_conflicts.proofs.NumberLemmas.{pushed}

-- ONE COMMAND AT ONE PLACE
pub puts : (old new : List (List ℕ)) (place command : ℕ) (list : List ℕ) → place < length old → list ≡ get_or old place [] ++ command ∷ [] → new ≡ set old place list → Puts old new place command
puts old new place command list within grown is = record {
  each = ap length is ∙ length-set old place list;
  exact = λ p c. elim (cases_eq p place) [
    | inl same ↦
        let here : get_or new p [] ≡ get_or old p [] ++ command ∷ [] =
        ap (λ l. get_or l p []) is ∙ ap (λ n. get_or (set old place list) n []) same ∙ get_or-set_same old place list [] within ∙ grown ∙ ap (λ n. get_or old n [] ++ command ∷ []) (sym same) in
        let push = pushed (get_or old p []) (get_or new p []) command c here in (
          λ h. elim (push.0 h) [ inl o ↦ inl o | inr e ↦ inr (same, e) ],
          λ h. push.1 (elim h [ inl o ↦ inl o | inr both ↦ inr both.1 ]),
        )
    | inr other ↦
        let there : get_or new p [] ≡ get_or old p [] = ap (λ l. get_or l p []) is ∙ get_or-set_other old place p list [] other in (
          λ h. inl (subst (λ l. Contains l c) there h),
          λ h. elim h [ inl o ↦ subst (λ l. Contains l c) (sym there) o | inr both ↦ absurd (other both.0) ],
        )
  ];
}

-- ONE PATH
-- a path that is hidden, or has no number, has nobody touch anything
pub puts-none : (paths : List (List ℕ)) (hidden : List Bool) (path command : ℕ) (files folders : List (List ℕ)) → ((p : Place) → OneTouches paths hidden path p → ⊥)
    → PutsAt files folders files folders command (OneTouches paths hidden path)
puts-none paths hidden path command files folders none = record {
  each_file = refl;
  each_folder = refl;
  exact = λ p c. (λ h. inl h, λ h. elim h [ inl o ↦ o | inr both ↦ absurd (none p both.1) ]);
}

pub past-touches : (paths : List (List ℕ)) (hidden : List Bool) (path : ℕ) → (path < length paths → ⊥) → (p : Place) → OneTouches paths hidden path p → ⊥
past-touches paths hidden path past p (one_file within shown) = past within
past-touches paths hidden path past p (one_entry within shown is) = past within

pub hidden-touches : (paths : List (List ℕ)) (hidden : List Bool) (path : ℕ) → get_or hidden path false ≡ true → (p : Place) → OneTouches paths hidden path p → ⊥
hidden-touches paths hidden path is p (one_file within shown) = both_ways (get_or hidden path false) shown is
hidden-touches paths hidden path is p (one_entry within shown there) = both_ways (get_or hidden path false) shown is

abbrev pub IsPutBy : List (List ℕ) → List (List ℕ) → ℕ → Option ℕ → Type 0
IsPutBy old new command None = new ≡ old
IsPutBy old new command (Some folder) = Puts old new folder command

pub puts-path : (paths : List (List ℕ)) (hidden : List Bool) (path command : ℕ) (files folders new_files new_folders : List (List ℕ)) (folder : Option ℕ) → path < length paths → get_or hidden path false ≡ false
    → folder_number paths path ≡ folder → Puts files new_files path command → IsPutBy folders new_folders command folder
    → PutsAt files folders new_files new_folders command (OneTouches paths hidden path)
puts-path paths hidden path command files folders new_files new_folders None within shown is file same = record {
  each_file = file.each;
  each_folder = ap length same;
  exact = exact;
}
  where
    of-folder : (folder : ℕ) → OneTouches paths hidden path (Entries folder) → ⊥
    of-folder folder (one_entry w s there) = let no : None ≡ Some folder = sym is ∙ there in true≢false cc

    of-file : (p : ℕ) → OneTouches paths hidden path (File p) → p ≡ path
    of-file p (one_file w s) = refl

    exact : (p : Place) (c : ℕ) → HasAt new_files new_folders p c ↔ (HasAt files folders p c ⊎ ((c ≡ command) × OneTouches paths hidden path p))
    exact (File p) c = (
      λ h. elim ((file.exact p c).0 h) [
        | inl o ↦ inl o
        | inr both ↦ inr (both.1, subst (λ n. OneTouches paths hidden path (File n)) (sym both.0) (one_file within shown))
      ],
      λ h. (file.exact p c).1 (elim h [ inl o ↦ inl o | inr both ↦ inr (of-file p both.1, both.0) ]),
    )
    exact (Entries p) c = (
      λ h. inl (subst (λ l. Steps l p c) same h),
      λ h. elim h [ inl o ↦ subst (λ l. Steps l p c) (sym same) o | inr both ↦ absurd (of-folder p both.1) ],
    )
puts-path paths hidden path command files folders new_files new_folders (Some folder) within shown is file put = record {
  each_file = file.each;
  each_folder = put.each;
  exact = exact;
}
  where
    of-folder : (p : ℕ) → OneTouches paths hidden path (Entries p) → p ≡ folder
    of-folder p (one_entry w s there) = let both : Some folder ≡ Some p = sym is ∙ there in let same : folder ≡ p = cc in sym same

    of-file : (p : ℕ) → OneTouches paths hidden path (File p) → p ≡ path
    of-file p (one_file w s) = refl

    exact : (p : Place) (c : ℕ) → HasAt new_files new_folders p c ↔ (HasAt files folders p c ⊎ ((c ≡ command) × OneTouches paths hidden path p))
    exact (File p) c = (
      λ h. elim ((file.exact p c).0 h) [
        | inl o ↦ inl o
        | inr both ↦ inr (both.1, subst (λ n. OneTouches paths hidden path (File n)) (sym both.0) (one_file within shown))
      ],
      λ h. (file.exact p c).1 (elim h [ inl o ↦ inl o | inr both ↦ inr (of-file p both.1, both.0) ]),
    )
    exact (Entries p) c = (
      λ h. elim ((put.exact p c).0 h) [
        | inl o ↦ inl o
        | inr both ↦ inr (both.1, subst (λ n. OneTouches paths hidden path (Entries n)) (sym both.0) (one_entry within shown is))
      ],
      λ h. (put.exact p c).1 (elim h [ inl o ↦ inl o | inr both ↦ inr (of-folder p both.1, both.0) ]),
    )

-- ALL PATHS THAT A COMMAND CHANGES
abbrev pub FirstTouch : List (List ℕ) → List Bool → List ℕ → ℕ → Place → Type 0
FirstTouch paths hidden changed n p = SomeBelow (λ i. OneTouches paths hidden (get_or changed i 0) p) n

pub first-none : (paths : List (List ℕ)) (hidden : List Bool) (changed : List ℕ) (command : ℕ) (files folders : List (List ℕ)) → PutsAt files folders files folders command (FirstTouch paths hidden changed 0)
first-none paths hidden changed command files folders = record {
  each_file = refl;
  each_folder = refl;
  exact = λ p c. (λ h. inl h, λ h. elim h [ inl o ↦ o | inr both ↦ let s = both.1 in let b = s.below in absurd (omega (arith, b)) ]);
}

pub first-more : (paths : List (List ℕ)) (hidden : List Bool) (changed : List ℕ) (command n : ℕ) (files folders files2 folders2 files3 folders3 : List (List ℕ))
    → PutsAt files folders files2 folders2 command (FirstTouch paths hidden changed n) → PutsAt files2 folders2 files3 folders3 command (OneTouches paths hidden (get_or changed n 0))
    → PutsAt files folders files3 folders3 command (FirstTouch paths hidden changed (n + 1))
first-more paths hidden changed command n files folders files2 folders2 files3 folders3 before step = record {
  each_file = step.each_file ∙ before.each_file;
  each_folder = step.each_folder ∙ before.each_folder;
  exact = λ p c. (
    λ h. elim ((step.exact p c).0 h) [
      | inl two ↦ elim ((before.exact p c).0 two) [
        | inl one ↦ inl one
        | inr both ↦ inr (both.0, let s = both.1 in let b = s.below in record { number = s.number; below = omega (arith, b); holds = s.holds })
      ]
      | inr both ↦ inr (both.0, record { number = n; below = omega arith; holds = both.1 })
    ],
    λ h. elim h [
      | inl one ↦ (step.exact p c).1 (inl ((before.exact p c).1 (inl one)))
      | inr both ↦ elim (cases_eq both.1.number n) [
        | inl same ↦ (step.exact p c).1 (inr (both.0, subst (λ i. OneTouches paths hidden (get_or changed i 0) p) same both.1.holds))
        | inr other ↦ (step.exact p c).1 (inl ((before.exact p c).1 (inr (both.0, let s = both.1 in let b = s.below in record { number = s.number; below = omega (arith, b, other); holds = s.holds }))))
      ]
    ],
  );
}

-- ALL COMMANDS
touch-of : (paths : List (List ℕ)) (hidden : List Bool) (command : CommandValue) (path : ℕ) (p : Place) → changes command path ≡ true → OneTouches paths hidden path p → Touches paths hidden command p
touch-of paths hidden command path p does (one_file within shown) = touches_file does within shown
touch-of paths hidden command path p does (one_entry within shown is) = touches_entry does within shown is

pub each-touch : (paths : List (List ℕ)) (hidden : List Bool) (command : CommandValue) (changed : List ℕ) → ((path : ℕ) → Contains changed path ↔ (changes command path ≡ true)) → (p : Place)
    → EachTouches paths hidden changed p ↔ Touches paths hidden command p
each-touch paths hidden command changed are p = (
  λ s. let b = s.below in touch-of paths hidden command (get_or changed s.number 0) p ((are (get_or changed s.number 0)).0 (Contains-get_or changed s.number 0 b)) s.holds,
  back p,
)
  where
    at : (path : ℕ) → Contains changed path → (p : Place) → OneTouches paths hidden path p → EachTouches paths hidden changed p
    at path (k, within, is) p one = record {
      number = k;
      below = within;
      holds = subst (λ n. OneTouches paths hidden n p) (sym (get_or_default changed k 0 path within ∙ is)) one;
    }

    back : (p : Place) → Touches paths hidden command p → EachTouches paths hidden changed p
    back (File p) (touches_file does within shown) = at p ((are p).1 does) (File p) (one_file within shown)
    back (Entries p) (touches_entry {path = path} does within shown is) = at path ((are path).1 does) (Entries p) (one_entry within shown is)

-- the tables of the first commands
pub record AreTouchedBy (paths : List (List ℕ)) (hidden : List Bool) (commands : List CommandValue) (n : ℕ) (files folders : List (List ℕ)) : Type 0 where
  pub each_file : length files ≡ length paths
  pub each_folder : length folders ≡ length paths
  pub exact : (p : Place) (c : ℕ) → HasAt files folders p c ↔ ((c < n) × TouchesBy paths hidden commands p c)

pub touched-none : (paths : List (List ℕ)) (hidden : List Bool) (commands : List CommandValue) (files folders : List (List ℕ)) → length files ≡ length paths → length folders ≡ length paths
    → ((p c : ℕ) → Steps files p c → ⊥) → ((p c : ℕ) → Steps folders p c → ⊥) → AreTouchedBy paths hidden commands 0 files folders
touched-none paths hidden commands files folders each_file each_folder none_file none_folder = record {
  each_file = each_file;
  each_folder = each_folder;
  exact = λ p c. (λ h. absurd (by p c h), λ both. let b = both.0 in absurd (omega (arith, b)));
}
  where
    by : (p : Place) (c : ℕ) → HasAt files folders p c → ⊥
    by (File p) c h = none_file p c h
    by (Entries p) c h = none_folder p c h

pub touched-more : (paths : List (List ℕ)) (hidden : List Bool) (commands : List CommandValue) (n : ℕ) (command : CommandValue) (files folders files2 folders2 : List (List ℕ)) (P : Place → Type 0) → n < length commands
    → command ≡ get_or commands n command → ((p : Place) → P p ↔ Touches paths hidden command p) → AreTouchedBy paths hidden commands n files folders → PutsAt files folders files2 folders2 n P
    → AreTouchedBy paths hidden commands (n + 1) files2 folders2
touched-more paths hidden commands n command files folders files2 folders2 P within is same before step = record {
  each_file = step.each_file ∙ before.each_file;
  each_folder = step.each_folder ∙ before.each_folder;
  exact = λ p c. (
    λ h. elim ((step.exact p c).0 h) [
      | inl old ↦ let b = (before.exact p c).0 old in let less = b.0 in (omega (arith, less), b.1)
      | inr both ↦ let e = both.0 in (omega (arith, e), subst (TouchesBy paths hidden commands p) (sym both.0) (record { command = command; within = within; is = sym is; touches = (same p).0 both.1 }))
    ],
    λ b. elim (cases_eq c n) [
      | inl at ↦ (step.exact p c).1 (inr (at, (same p).1 (here p (subst (TouchesBy paths hidden commands p) at b.1))))
      | inr other ↦ (step.exact p c).1 (inl ((before.exact p c).1 (let less = b.0 in omega (arith, less, other), b.1)))
    ],
  );
}
  where
    here : (p : Place) → TouchesBy paths hidden commands p n → Touches paths hidden command p
    here p t = subst (λ x. Touches paths hidden x p) (sym t.is ∙ get_or_default commands n t.command command within ∙ sym is) t.touches

pub touched-all : (paths : List (List ℕ)) (hidden : List Bool) (commands : List CommandValue) (n : ℕ) (files folders : List (List ℕ)) → n ≡ length commands
    → AreTouchedBy paths hidden commands n files folders → AreTouched paths hidden commands files folders
touched-all paths hidden commands n files folders all are = record {
  each_file = are.each_file;
  each_folder = are.each_folder;
  exact = λ p c. (λ h. ((are.exact p c).0 h).1, λ t. (are.exact p c).1 (let w = t.within in omega (arith, w, all), t));
}

-- EMPTY LISTS
pub empties-more : (lists : List (Vec ℕ)) (v : Vec ℕ) → v.items ≡ [] → ((p c : ℕ) → Steps (graph_of lists) p c → ⊥) → (p c : ℕ) → Steps (graph_of (lists ++ v ∷ [])) p c → ⊥
empties-more [] v e none zero c h = let k = subst (λ (l : List ℕ). Contains l c) e h in let w = k.1 in omega (arith, w)
empties-more [] v e none (suc p) c h = let w = h.1 in omega (arith, w)
empties-more (x ∷ xs) v e none zero c h = none 0 c h
empties-more (x ∷ xs) v e none (suc p) c h = empties-more xs v e (λ q d k. none (suc q) d k) p c h

-- a table that was written has as many lists
pub same-length : (xs ys : List (Vec ℕ)) (n : ℕ) → length (graph_of ys) ≡ length (graph_of xs) → length xs ≡ n → length ys ≡ n
same-length xs ys n same is = omega (arith, same, is, length-map xs (λ (v : Vec ℕ). v.items), length-map ys (λ (v : Vec ℕ). v.items))

pub lists-length : (xs : List (Vec ℕ)) (n : ℕ) → length xs ≡ n → length (graph_of xs) ≡ n
lists-length xs n is = length-map xs (λ (v : Vec ℕ). v.items) ∙ is

-- commands of the tables are those of the observation
pub lists-within : (lists : List (Vec ℕ)) (count : ℕ) → ((p c : ℕ) → Steps (graph_of lists) p c → c < count) → All (λ (v : Vec ℕ). All (λ c. c < count) v.items) lists
lists-within lists count all p v within k d inside =
    let here : get_or (graph_of lists) p [] ≡ (get_or lists p v).items = at-map (λ (y : Vec ℕ). y.items) lists p v [] within in
    all p (get_or (get_or lists p v).items k d) (subst (λ (l : List ℕ). Contains l (get_or (get_or lists p v).items k d)) (sym here) (Contains-get_or (get_or lists p v).items k d inside))

pub files-within : (paths : List (List ℕ)) (hidden : List Bool) (commands : List CommandValue) (files folders : List (List ℕ)) → AreTouched paths hidden commands files folders → (p c : ℕ) → Steps files p c → c < length commands
files-within paths hidden commands files folders are p c h = ((are.exact (File p) c).0 h).within

pub folders-within : (paths : List (List ℕ)) (hidden : List Bool) (commands : List CommandValue) (files folders : List (List ℕ)) → AreTouched paths hidden commands files folders → (p c : ℕ) → Steps folders p c → c < length commands
folders-within paths hidden commands files folders are p c h = ((are.exact (Entries p) c).0 h).within
