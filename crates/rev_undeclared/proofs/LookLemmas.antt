-- What is told of files, one after the other.
use Rattle.std.proofs.Common.{◌≡◌, ◌≢◌, ℕ, ◌+◌, ◌<◌, ◌≤◌, Bool, true, false, nat_le, ◌||◌, if◌then◌else◌, List, ◌∷◌, [], length, get_or, take, Option, Some, None, ◌⊎◌, inl, inr, refl, true≢false, sym, ap, subst, ◌∙◌, arith, Contains}
use Rattle.std.specs.Prelude.{◌↔◌, is_some}
use Rattle.std.proofs.Math.Seq.{take-length}
use Rattle.std.proofs.lemmas.Bool.{and_parts, cases_eq, cases_lt, leb-true, or_cases}
use Rattle.std.proofs.lemmas.List.{get_or_default}
use Rattle.std.proofs.lemmas.List.Elements.{Contains-get_or}
use Rattle.std.proofs.lemmas.List.Folds.{list_any_more}
use Rattle.rev_manifest.specs.Manifest.{BuildValue}
use Rattle.rev_graph.specs.Graph.{producer_of}
use Rattle.rev_ranks.specs.Graph.{Steps, successors_of}
use Rattle.rev_observed.specs.CommandValues.{CommandValue, paths_of}
use Rattle.rev_observed.specs.declared.kind.Kind.TheVariants.{Reads, Misses, Stats}
use Rattle.rev_observed.specs.declared.path_set.PathRange.{PathRange}
use Rattle.rev_conflicts.specs.declared.conflict.Look.{Look}
use Rattle.rev_conflicts.specs.declared.conflict.Look.TheVariants as look
use Rattle.rev_conflicts.specs.Places.{does, look_at}
use Rattle.rev_conflicts.specs.Ranges.{has_path, is_in}
use Rattle.rev_conflicts.specs.Tables.{AreNexts, SomeBelow}
use Rattle.rev_conflicts.proofs.MeetLemmas.{past-end}
use Rattle.rev_undeclared.specs.declared.kind.Undeclared.{Undeclared}
use Rattle.rev_undeclared.specs.declared.kind.UndeclaredKind.{UndeclaredKind}
use Rattle.rev_undeclared.specs.declared.kind.UndeclaredKind.TheVariants.{Anothers, LookedAt}
use Rattle.rev_undeclared.specs.Undeclared.{IsOutputOf, path_at}
use Rattle.rev_conflicts.specs.declared.place.Place.TheVariants.{File}
use Rattle.rev_undeclared.specs.Answer.{undeclared_key}
use Rattle.rev_undeclared.specs.Tables.{Adds, IsAnothersAt, IsAnothersWhere, IsKeyBy, IsLookAt, IsLookWhere}

-- ONE COMMAND THAT LEAVES A FILE
abbrev pub told_of : List ℕ → ℕ → ℕ → UndeclaredKind → ℕ → Undeclared
told_of edges user path kind c = record { kind = kind; maker = get_or edges c 0; user = user; path = path; made_by = c }

abbrev pub ByOne : List ℕ → ℕ → ℕ → UndeclaredKind → ℕ → List ℕ → Type 0
ByOne edges user path kind c k = (get_or edges c 0 ≢ user) × (k ≡ undeclared_key (told_of edges user path kind c))

pub keys-by : (edges : List ℕ) (user path : ℕ) (kind : UndeclaredKind) (commands k : List ℕ)
    → SomeBelow (λ i. ByOne edges user path kind (get_or commands i 0) k) (length commands) ↔ IsKeyBy edges user path kind commands k
keys-by edges user path kind commands k = (
  λ s. let b = s.below in let h = s.holds in record { made_by = get_or commands s.number 0; among = Contains-get_or commands s.number 0 b; others = h.0; is = h.1 },
  λ key.
      let c = key.among in
      let at : get_or commands c.0 0 ≡ key.made_by = get_or_default commands c.0 0 key.made_by c.1 ∙ c.2 in
      record { number = c.0; below = c.1; holds = subst (λ m. ByOne edges user path kind m k) (sym at) (key.others, key.is) },
)

pub key-same : (edges : List ℕ) (user path : ℕ) (kind : UndeclaredKind) (cs ds k : List ℕ) → cs ≡ ds → IsKeyBy edges user path kind cs k → IsKeyBy edges user path kind ds k
key-same edges user path kind cs ds k same key = subst (λ (l : List ℕ). IsKeyBy edges user path kind l k) same key

pub anothers-same : (builds : List BuildValue) (paths : List (List ℕ)) (edges : List ℕ) (told : List (List ℕ)) (path : ℕ) (cs ds k : List ℕ) → cs ≡ ds
    → IsAnothersAt builds paths edges told path cs k ↔ IsAnothersAt builds paths edges told path ds k
anothers-same builds paths edges told path cs ds k same = (
  λ h. subst (λ (l : List ℕ). IsAnothersAt builds paths edges told path l k) same h,
  λ h. subst (λ (l : List ℕ). IsAnothersAt builds paths edges told path l k) (sym same) h,
)

-- FILES THAT ARE OUTPUTS
pub anothers-all : (builds : List BuildValue) (paths : List (List ℕ)) (edges : List ℕ) (told lists : List (List ℕ)) (n count : ℕ) (k : List ℕ) → n ≡ count
    → SomeBelow (λ path. IsAnothersAt builds paths edges told path (successors_of lists path) k) n ↔ IsAnothersWhere builds paths edges told lists count k
anothers-all builds paths edges told lists n count k all = (
  λ s. let b = s.below in record { path = s.number; below = omega (arith, b, all); anothers = s.holds },
  λ h. let b = h.below in record { number = h.path; below = omega (arith, b, all); holds = h.anothers },
)

-- MORE THAT IS ADDED
pub adds-none : (found : List (List ℕ)) (may must : List ℕ → Type 0) → ((k : List ℕ) → must k → ⊥) → Adds found found may must
adds-none found may must none = record { stays = λ k h. h; sound = λ k h. inl h; whole = λ k h. absurd (none k h) }

pub adds-more : (one two three : List (List ℕ)) (may first second all : List ℕ → Type 0) → Adds one two may first → Adds two three may second → ((k : List ℕ) → all k → first k ⊎ second k) → Adds one three may all
adds-more one two three may first second all before step split = record {
  stays = λ k h. step.stays k (before.stays k h);
  sound = λ k h. elim (step.sound k h) [ inl old ↦ before.sound k old | inr new ↦ inr new ];
  whole = λ k h. elim (split k h) [ inl f ↦ step.stays k (before.whole k f) | inr s ↦ step.whole k s ];
}

pub adds-by : (one two : List (List ℕ)) (may must other : List ℕ → Type 0) → ((k : List ℕ) → other k → must k) → Adds one two may must → Adds one two may other
adds-by one two may must other same adds = record { stays = adds.stays; sound = adds.sound; whole = λ k h. adds.whole k (same k h) }

-- FILES AT WHICH A COMMAND LOOKS
module _ (builds : List BuildValue) (paths : List (List ℕ)) (edges : List ℕ) (told lists : List (List ℕ)) (user used_by : ℕ) (used : CommandValue) where
  abbrev pub Where : (ℕ → Type 0) → List ℕ → Type 0
  Where P k = IsLookWhere builds paths edges told lists user used_by used P k

  abbrev pub At : ℕ → List ℕ → Type 0
  At path k = IsLookAt builds paths edges told user used_by used path (successors_of lists path) k

  pub where-by : (P Q : ℕ → Type 0) → ((path : ℕ) → P path → Q path) → (k : List ℕ) → IsLookWhere builds paths edges told lists user used_by used P k → IsLookWhere builds paths edges told lists user used_by used Q k
  where-by P Q same k h = record { path = h.path; passes = same h.path h.passes; look = h.look }

  -- somebody leaves a file at which something is told
  pub somebody : (path : ℕ) (k : List ℕ) → IsLookAt builds paths edges told user used_by used path (successors_of lists path) k → (c : ℕ) × Steps lists path c
  somebody path k h = (h.key.made_by, h.key.among)

  -- the files of a range below a number
  abbrev pub InRange : PathRange → ℕ → ℕ → Type 0
  InRange range n path = (range.first ≤ path) × (path ≤ range.last) × (path < n)

  pub range-start : (found : List (List ℕ)) (range : PathRange) (nexts : List ℕ) (may : List ℕ → Type 0) → AreNexts lists nexts → range.first ≤ length lists
      → Adds found found may (IsLookWhere builds paths edges told lists user used_by used (λ path. (range.first ≤ path) × (path ≤ range.last) × (path < get_or nexts range.first 0)))
  range-start found range nexts may are within = adds-none found may (IsLookWhere builds paths edges told lists user used_by used (λ path. (range.first ≤ path) × (path ≤ range.last) × (path < get_or nexts range.first 0)))
      (λ k h. let s = somebody h.path k h.look in are.between range.first h.path s.0 h.passes.0 h.passes.2 s.1)

  -- one more file, and none up to the next one
  pub range-more : (one two three : List (List ℕ)) (range : PathRange) (nexts : List ℕ) (n : ℕ) → AreNexts lists nexts → n < length paths → length lists ≡ length paths
      → Adds one two (IsLookWhere builds paths edges told lists user used_by used (λ path. path < length paths)) (IsLookWhere builds paths edges told lists user used_by used (λ path. (range.first ≤ path) × (path ≤ range.last) × (path < n)))
      → ((k : List ℕ) → Contains three k ↔ (Contains two k ⊎ IsLookAt builds paths edges told user used_by used n (successors_of lists n) k))
      → Adds one three (IsLookWhere builds paths edges told lists user used_by used (λ path. path < length paths)) (IsLookWhere builds paths edges told lists user used_by used (λ path. (range.first ≤ path) × (path ≤ range.last) × (path < get_or nexts (n + 1) 0)))
  range-more one two three range nexts n are within each before step = record {
    stays = λ k h. (step k).1 (inl (before.stays k h));
    sound = λ k h. elim ((step k).0 h) [
      | inl old ↦ before.sound k old
      | inr new ↦ inr (record { path = n; passes = within; look = new })
    ];
    whole = λ k h. elim (cases_eq h.path n) [
      | inl same ↦ (step k).1 (inr (subst (λ p. IsLookAt builds paths edges told user used_by used p (successors_of lists p) k) same h.look))
      | inr other ↦ elim (cases_lt h.path n) [
        | inl less ↦ (step k).1 (inl (before.whole k (record { path = h.path; passes = (h.passes.0, h.passes.1, less); look = h.look })))
        | inr more ↦ let s = somebody h.path k h.look in absurd (are.between (n + 1) h.path s.0 (omega (arith, more, other)) h.passes.2 s.1)
      ]
    ];
  }

-- RANGES
pub ranges-split : (ranges : List PathRange) (i path : ℕ) (range : PathRange) → i < length ranges → range ≡ get_or ranges i range → has_path (take (i + 1) ranges) path ≡ true
    → (has_path (take i ranges) path ≡ true) ⊎ (is_in path range ≡ true)
ranges-split ranges i path range within is h = elim (or_cases (has_path (take i ranges) path) (is_in path (get_or ranges i range)) (sym (list_any_more (is_in path) ranges i range within) ∙ h)) [
  | inl old ↦ inl old
  | inr new ↦ inr (ap (is_in path) is ∙ new)
]

-- nobody leaves a file past the table
pub none-past : (lists : List (List ℕ)) (path c : ℕ) → length lists ≤ path → Steps lists path c → ⊥
none-past lists path c past h =
    let k = subst (λ (l : List ℕ). Contains l c) (past-end lists path [] past) h in
    let w = k.1 in
    omega (arith, w)

is-in-parts : (range : PathRange) (path : ℕ) → is_in path range ≡ true → (range.first ≤ path) × (path ≤ range.last)
is-in-parts range path h =
    let both = and_parts (nat_le range.first path) (nat_le path range.last) h in
    (leb-true range.first path both.0, leb-true path range.last both.1)

module _ (builds : List BuildValue) (paths : List (List ℕ)) (edges : List ℕ) (told lists : List (List ℕ)) (user used_by : ℕ) (used : CommandValue) where
  -- a range that begins past the table
  pub range-past : (found : List (List ℕ)) (range : PathRange) (may : List ℕ → Type 0) → length lists ≤ range.first
      → Adds found found may (IsLookWhere builds paths edges told lists user used_by used (λ path. is_in path range ≡ true))
  range-past found range may past = adds-none found may (IsLookWhere builds paths edges told lists user used_by used (λ path. is_in path range ≡ true))
      (λ k h. let first = (is-in-parts range h.path h.passes).0 in none-past lists h.path h.look.key.made_by (omega (arith, past, first)) h.look.key.among)

  pub range-all : (one two : List (List ℕ)) (range : PathRange) (n : ℕ) (may : List ℕ → Type 0) → (length lists ≤ n) ⊎ (range.last < n)
      → Adds one two may (IsLookWhere builds paths edges told lists user used_by used (λ path. (range.first ≤ path) × (path ≤ range.last) × (path < n)))
      → Adds one two may (IsLookWhere builds paths edges told lists user used_by used (λ path. is_in path range ≡ true))
  range-all one two range n may all adds = adds-by one two may (IsLookWhere builds paths edges told lists user used_by used (λ path. (range.first ≤ path) × (path ≤ range.last) × (path < n)))
      (IsLookWhere builds paths edges told lists user used_by used (λ path. is_in path range ≡ true)) (λ k h.
      let both = is-in-parts range h.path h.passes in
      record { path = h.path; passes = (both.0, both.1, below h.path h.look.key.made_by h.look.key.among both.1); look = h.look }) adds
    where
      below : (path c : ℕ) → Steps lists path c → path ≤ range.last → path < n
      below path c h to = elim all [
        | inl past ↦ elim (cases_lt path n) [ inl less ↦ less | inr more ↦ absurd (none-past lists path c (omega (arith, past, more)) h) ]
        | inr last ↦ omega (arith, to, last)
      ]

  pub ranges-start : (found : List (List ℕ)) (ranges : List PathRange) (may : List ℕ → Type 0) → Adds found found may (IsLookWhere builds paths edges told lists user used_by used (λ path. has_path (take 0 ranges) path ≡ true))
  ranges-start found ranges may = adds-none found may (IsLookWhere builds paths edges told lists user used_by used (λ path. has_path (take 0 ranges) path ≡ true)) (λ k h. true≢false (sym h.passes))

  pub ranges-more : (one two three : List (List ℕ)) (ranges : List PathRange) (i : ℕ) (range : PathRange) (may : List ℕ → Type 0) → i < length ranges → range ≡ get_or ranges i range
      → Adds one two may (IsLookWhere builds paths edges told lists user used_by used (λ path. has_path (take i ranges) path ≡ true))
      → Adds two three may (IsLookWhere builds paths edges told lists user used_by used (λ path. is_in path range ≡ true))
      → Adds one three may (IsLookWhere builds paths edges told lists user used_by used (λ path. has_path (take (i + 1) ranges) path ≡ true))
  ranges-more one two three ranges i range may within is before step = adds-more one two three may (IsLookWhere builds paths edges told lists user used_by used (λ path. has_path (take i ranges) path ≡ true))
      (IsLookWhere builds paths edges told lists user used_by used (λ path. is_in path range ≡ true)) (IsLookWhere builds paths edges told lists user used_by used (λ path. has_path (take (i + 1) ranges) path ≡ true)) before step
      (λ k h. elim (ranges-split ranges i h.path range within is h.passes) [
        | inl old ↦ inl (record { path = h.path; passes = old; look = h.look })
        | inr new ↦ inr (record { path = h.path; passes = new; look = h.look })
      ])

  pub ranges-all : (one two : List (List ℕ)) (ranges : List PathRange) (n : ℕ) (may : List ℕ → Type 0) → n ≡ length ranges
      → Adds one two may (IsLookWhere builds paths edges told lists user used_by used (λ path. has_path (take n ranges) path ≡ true))
      → Adds one two may (IsLookWhere builds paths edges told lists user used_by used (λ path. has_path ranges path ≡ true))
  ranges-all one two ranges n may all adds = adds-by one two may (IsLookWhere builds paths edges told lists user used_by used (λ path. has_path (take n ranges) path ≡ true))
      (IsLookWhere builds paths edges told lists user used_by used (λ path. has_path ranges path ≡ true)) (λ k h.
      record { path = h.path; passes = ap (λ (rs : List PathRange). has_path rs h.path) (ap (λ m. take m ranges) all ∙ take-length ranges) ∙ h.passes; look = h.look }) adds

  -- a look is a read, a miss, or a question for a stamp
  pub looks-all : (zero one two three : List (List ℕ)) (reads misses stats : List PathRange) (may : List ℕ → Type 0) → reads ≡ paths_of Reads used.uses → misses ≡ paths_of Misses used.uses → stats ≡ paths_of Stats used.uses
      → Adds zero one may (IsLookWhere builds paths edges told lists user used_by used (λ path. has_path reads path ≡ true))
      → Adds one two may (IsLookWhere builds paths edges told lists user used_by used (λ path. has_path misses path ≡ true))
      → Adds two three may (IsLookWhere builds paths edges told lists user used_by used (λ path. has_path stats path ≡ true))
      → Adds zero three may (IsLookWhere builds paths edges told lists user used_by used (λ path. path < length paths))
  looks-all zero one two three reads misses stats may r m s first second third = record {
    stays = λ k h. third.stays k (second.stays k (first.stays k h));
    sound = λ k h. elim (third.sound k h) [
      | inl b ↦ elim (second.sound k b) [ inl a ↦ first.sound k a | inr new ↦ inr new ]
      | inr new ↦ inr new
    ];
    whole = λ k h. by k h (does Reads used h.path) (does Misses used h.path) (does Stats used h.path) refl refl refl h.look.looks;
  }
    where
      by : (k : List ℕ) (h : IsLookWhere builds paths edges told lists user used_by used (λ path. path < length paths) k) (a b c : Bool) → does Reads used h.path ≡ a → does Misses used h.path ≡ b → does Stats used h.path ≡ c
          → (if a then Some look.Read else if b then Some look.Miss else if c then Some look.Stat else None) ≡ Some h.look.look → Contains three k
      by k h true b c ra mb sc is = third.stays k (second.stays k (first.whole k (record { path = h.path; passes = ap (λ (rs : List PathRange). has_path rs h.path) r ∙ ra; look = h.look })))
      by k h false true c ra mb sc is = third.stays k (second.whole k (record { path = h.path; passes = ap (λ (rs : List PathRange). has_path rs h.path) m ∙ mb; look = h.look }))
      by k h false false true ra mb sc is = third.whole k (record { path = h.path; passes = ap (λ (rs : List PathRange). has_path rs h.path) s ∙ sc; look = h.look })
      by k h false false false ra mb sc is = let no : None ≡ Some h.look.look = is in absurd (true≢false cc)

pub look-same : (builds : List BuildValue) (paths : List (List ℕ)) (edges : List ℕ) (told : List (List ℕ)) (user used_by : ℕ) (used : CommandValue) (path : ℕ) (cs ds k : List ℕ) → cs ≡ ds
    → IsLookAt builds paths edges told user used_by used path cs k ↔ IsLookAt builds paths edges told user used_by used path ds k
look-same builds paths edges told user used_by used path cs ds k same = (
  λ h. subst (λ (l : List ℕ). IsLookAt builds paths edges told user used_by used path l k) same h,
  λ h. subst (λ (l : List ℕ). IsLookAt builds paths edges told user used_by used path l k) (sym same) h,
)

-- ONE FILE THAT IS AN OUTPUT
same-owner : (builds : List BuildValue) (path : List ℕ) (x y : ℕ) → IsOutputOf builds path x → IsOutputOf builds path y → x ≡ y
same-owner builds path x y a b = let both : Some x ≡ Some y = sym a.produced ∙ b.produced in cc

pub anothers-one : (builds : List BuildValue) (paths : List (List ℕ)) (edges : List ℕ) (told : List (List ℕ)) (path owner : ℕ) (commands k : List ℕ) → IsOutputOf builds (path_at paths path) owner
    → (Contains told (owner ∷ path ∷ []) → ⊥) → IsKeyBy edges owner path Anothers commands k ↔ IsAnothersAt builds paths edges told path commands k
anothers-one builds paths edges told path owner commands k output alone = (
  λ key. record { owner = owner; output = output; alone = alone; key = key },
  λ a. subst (λ o. IsKeyBy edges o path Anothers commands k) (same-owner builds (path_at paths path) a.owner owner a.output output) a.key,
)

pub anothers-told : (builds : List BuildValue) (paths : List (List ℕ)) (edges : List ℕ) (told : List (List ℕ)) (path owner : ℕ) (commands k : List ℕ) → IsOutputOf builds (path_at paths path) owner
    → Contains told (owner ∷ path ∷ []) → IsAnothersAt builds paths edges told path commands k → ⊥
anothers-told builds paths edges told path owner commands k output there a =
    a.alone (subst (λ o. Contains told (o ∷ path ∷ [])) (same-owner builds (path_at paths path) owner a.owner output a.output) there)

pub either-none : {A P : Type 0} → (P → ⊥) → A ↔ (A ⊎ P)
either-none none = (λ a. inl a, λ h. elim h [ inl a ↦ a | inr p ↦ absurd (none p) ])

-- ONE FILE AT WHICH A COMMAND LOOKS
pub look-one : (builds : List BuildValue) (paths : List (List ℕ)) (edges : List ℕ) (told : List (List ℕ)) (user used_by : ℕ) (used : CommandValue) (path : ℕ) (look : Look) (commands k : List ℕ)
    → producer_of builds (path_at paths path) ≡ None → (Contains told (user ∷ path ∷ []) → ⊥) → look_at used (File path) ≡ Some look
    → IsKeyBy edges user path (LookedAt look used_by) commands k ↔ IsLookAt builds paths edges told user used_by used path commands k
look-one builds paths edges told user used_by used path look commands k undeclared alone looks = (
  λ key. record { look = look; undeclared = undeclared; alone = alone; looks = looks; key = key },
  λ l.
      let both : Some l.look ≡ Some look = sym l.looks ∙ looks in
      let same : l.look ≡ look = cc in
      subst (λ x. IsKeyBy edges user path (LookedAt x used_by) commands k) same l.key,
)

pub look-declared : (builds : List BuildValue) (paths : List (List ℕ)) (edges : List ℕ) (told : List (List ℕ)) (user used_by : ℕ) (used : CommandValue) (path owner : ℕ) (commands k : List ℕ)
    → producer_of builds (path_at paths path) ≡ Some owner → IsLookAt builds paths edges told user used_by used path commands k → ⊥
look-declared builds paths edges told user used_by used path owner commands k made l = let no : None ≡ Some owner = sym l.undeclared ∙ made in true≢false cc

pub look-away : (builds : List BuildValue) (paths : List (List ℕ)) (edges : List ℕ) (told : List (List ℕ)) (user used_by : ℕ) (used : CommandValue) (path : ℕ) (commands k : List ℕ)
    → look_at used (File path) ≡ None → IsLookAt builds paths edges told user used_by used path commands k → ⊥
look-away builds paths edges told user used_by used path commands k none l = let no : None ≡ Some l.look = sym none ∙ l.looks in true≢false cc

pub none-from : {A : Type 0} (o : Option A) → is_some o ≡ false → o ≡ None
none-from None h = refl
none-from (Some x) h = absurd (true≢false h)
