-- What is found is what is to be told.
use Rattle.std.proofs.Common.{◌≡◌, ℕ, zero, suc, ◌+◌, ◌<◌, ◌^◌, ◌==◌, vec_len, Bool, true, false, List, [], ◌∷◌, ◌++◌, length, get_or, map, take, ◌⊎◌, inl, inr, refl, sym, ap, subst, ◌∙◌, arith, Contains, true≢false}
use Rattle.std.specs.Prelude.{All, ◌↔◌, Result, Ok, Err, IfOk}
use Rattle.std.specs.Global.{Vec}
use Rattle.std.specs.List.{list_all}
use Rattle.std.specs.List.Sorted.{IsStrictlySortedBy}
use Rattle.std.specs.Ordering.{nat_cmp}
use Rattle.std.specs.Cmp.Lexicographic.{slice_cmp}
use Rattle.std.proofs.Math.ListN.{get_or-map}
use Rattle.std.proofs.lemmas.Bool.{and_from, and_parts, cases_eq, eqb-true, false_from_ne_true}
use Rattle.std.proofs.lemmas.List.{get_or-map as get_or-mapped, get_or_default, length-map, take_more}
use Rattle.std.proofs.lemmas.List.Elements.{All-get_or, Contains-get_or}
use Rattle.rev_manifest.specs.Manifest.{BuildValue}
use Rattle.rev_ranks.specs.Graph.{Steps, graph_of, successors_of}
use Rattle.rev_observed.specs.CommandValues.{CommandValue}
use Rattle.rev_conflicts.specs.declared.conflict.Conflict.{Conflict}
use Rattle.rev_conflicts.specs.Conflicts.{Scene}
use Rattle.rev_conflicts.specs.Tables.{SomeBelow}
use Rattle.rev_undeclared.specs.declared.kind.Undeclared.{Undeclared}
use Rattle.rev_undeclared.specs.Stronger.{is_told}
use Rattle.rev_unlisted.specs.declared.input.Cover.{Cover}
use Rattle.rev_unlisted.specs.declared.input.Cover.TheVariants.{Covered, HeldBack, Neither}
use Rattle.rev_unlisted.specs.declared.input.Unlisted.{Unlisted}
use Rattle.rev_unlisted.specs.Follows.{follow_lists}
use Rattle.rev_unlisted.specs.Unlisted.{IsCover, IsCover.covers as is_covered, IsCover.holds_back as is_held, IsCover.neither as is_neither, IsMet, IsMet.by_makers as met_makers, IsMet.as_source as met_source, MakerIn}
use Rattle.rev_unlisted.specs.Answer.{AreUnlisted, IsToldOf, unlisted_key}
use Rattle.rev_unlisted.specs.Found.{AreFound, AreLedTo, AreNeither, AreReached, AreReads, IsCoverIn, IsCoverIn.covers as in_covered, IsCoverIn.holds_back as in_held, IsCoverIn.neither as in_neither, IsFound, IsKeyAmong, IsKeyBelow, IsKeyIn, IsMetIn, IsMetIn.by_makers as in_makers, IsMetIn.as_source as in_source, IsOfUnlisted, IsReadByNumber, IsReadOf, cover_by, met_by}
use Rattle.rev_conflicts.proofs.MeetLemmas.{past-end}
use Rattle.rev_conflicts.proofs.NumberLemmas.{pushed}
use Rattle.rev_unlisted.proofs.FoundLemmas.{one-told}

-- NUMBERS IN A LIST
contains-key : (told : List Unlisted) (r : Unlisted) → Contains told r → Contains (map unlisted_key told) (unlisted_key r)
contains-key told r (k, within, at) = (k, omega (arith, within, length-map told unlisted_key), get_or-map unlisted_key told k r ∙ ap unlisted_key at)

contains-told : (told : List Unlisted) (r : Unlisted) → Contains (map unlisted_key told) (unlisted_key r) → Contains told r
contains-told told r (k, within, at) =
    (k, omega (arith, within, length-map told unlisted_key), one-told (get_or told k r) r (sym (get_or-map unlisted_key told k r) ∙ at))

-- WHAT IS MET
all-marked : (ms : List ℕ) (marks : List Bool) → list_all (λ e. get_or marks e false) ms ≡ true → (m : ℕ) → Contains ms m → get_or marks m false ≡ true
all-marked [] marks h m (k, within, at) = absurd (omega (arith, within))
all-marked (x ∷ xs) marks h m (zero, within, at) = ap (λ e. get_or marks e false) (sym at) ∙ (and_parts (get_or marks x false) (list_all (λ e. get_or marks e false) xs) h).0
all-marked (x ∷ xs) marks h m (suc k, within, at) = all-marked xs marks (and_parts (get_or marks x false) (list_all (λ e. get_or marks e false) xs) h).1 m (k, omega (arith, within), at)

marked-all : (ms : List ℕ) (marks : List Bool) → ((m : ℕ) → Contains ms m → get_or marks m false ≡ true) → list_all (λ e. get_or marks e false) ms ≡ true
marked-all [] marks all = refl
marked-all (x ∷ xs) marks all =
    and_from (get_or marks x false) (list_all (λ e. get_or marks e false) xs) (all x (0, omega arith, refl)) (marked-all xs marks (λ m (k, within, at). all m (suc k, omega (arith, within), at)))

met-iff : (count : ℕ) (graph : List (List ℕ)) (makers : List ℕ) (user path : ℕ) (marks : List Bool) → AreReached graph user marks → (met_by makers (count + path) marks ≡ true) ↔ IsMetIn count graph makers user path
met-iff count graph [] user path marks are = (
  λ h. in_source (λ m c. let w = c.1 in omega (arith, w)) ((are.exact (count + path)).0 h),
  back,
)
  where
    back : IsMetIn count graph [] user path → get_or marks (count + path) false ≡ true
    back (in_makers (k, within, at) all) = absurd (omega (arith, within))
    back (in_source none way) = (are.exact (count + path)).1 way
met-iff count graph (x ∷ xs) user path marks are = (
  λ h. in_makers {maker = x} (0, omega arith, refl) (λ o c. (are.exact o).0 (all-marked (x ∷ xs) marks h o c)),
  back,
)
  where
    back : IsMetIn count graph (x ∷ xs) user path → list_all (λ e. get_or marks e false) (x ∷ xs) ≡ true
    back (in_makers c all) = marked-all (x ∷ xs) marks (λ o d. (are.exact o).1 (all o d))
    back (in_source none way) = absurd (none x (0, omega arith, refl))

-- what is met is marked by what any of the first nodes leads to
met-led : (count : ℕ) (graph : List (List ℕ)) (makers : List ℕ) (user path : ℕ) (marks : List Bool) → AreLedTo graph count marks → user < count → IsMetIn count graph makers user path → met_by makers (count + path) marks ≡ true
met-led count graph [] user path marks are below (in_makers (k, within, at) all) = absurd (omega (arith, within))
met-led count graph [] user path marks are below (in_source none way) = are.complete user (count + path) below way
met-led count graph (x ∷ xs) user path marks are below (in_makers c all) = marked-all (x ∷ xs) marks (λ o d. are.complete user o below (all o d))
met-led count graph (x ∷ xs) user path marks are below (in_source none way) = absurd (none x (0, omega arith, refl))

abbrev neither_test : Cover → Bool
neither_test Covered = false
neither_test HeldBack = false
neither_test Neither = true

-- a cover is neither exactly where both tests fail
cover-sure : (a b : Bool) → cover_by a b ≡ Neither → a ≡ false
cover-sure true b h = absurd (true≢false (sym (ap neither_test h)))
cover-sure false b h = refl

cover-met : (a b : Bool) → cover_by a b ≡ Neither → b ≡ false
cover-met true b h = absurd (true≢false (sym (ap neither_test h)))
cover-met false true h = absurd (true≢false (sym (ap neither_test h)))
cover-met false false h = refl

neither-in : (count : ℕ) (steps sure : List (List ℕ)) (makers : List ℕ) (user path : ℕ) (met_marks sure_marks : List Bool) → AreLedTo steps count met_marks → AreLedTo sure count sure_marks → user < count
    → cover_by (met_by makers (count + path) sure_marks) (met_by makers (count + path) met_marks) ≡ Neither → IsCoverIn count steps sure makers user path Neither
neither-in count steps sure makers user path met_marks sure_marks met sure_led below is =
    in_neither (λ m. true≢false (sym (met-led count steps makers user path met_marks met below m) ∙ cover-met (met_by makers (count + path) sure_marks) (met_by makers (count + path) met_marks) is))
    (λ s. true≢false (sym (met-led count sure makers user path sure_marks sure_led below s) ∙ cover-sure (met_by makers (count + path) sure_marks) (met_by makers (count + path) met_marks) is))

not-true : (b : Bool) {P : Type 0} → b ≡ false → ((b ≡ true) ↔ P) → P → ⊥
not-true b is both p = true≢false (sym (both.1 p) ∙ is)

pub cover-in : (count : ℕ) (steps sure : List (List ℕ)) (makers : List ℕ) (user path : ℕ) (met_marks sure_marks : List Bool) → AreReached steps user met_marks → AreReached sure user sure_marks
    → IsCoverIn count steps sure makers user path (cover_by (met_by makers (count + path) sure_marks) (met_by makers (count + path) met_marks))
cover-in count steps sure makers user path met_marks sure_marks met sure_met = by (met_by makers (count + path) sure_marks) (met_by makers (count + path) met_marks) refl refl
  where
    s : (met_by makers (count + path) sure_marks ≡ true) ↔ IsMetIn count sure makers user path
    s = met-iff count sure makers user path sure_marks sure_met

    m : (met_by makers (count + path) met_marks ≡ true) ↔ IsMetIn count steps makers user path
    m = met-iff count steps makers user path met_marks met

    by : (a b : Bool) → met_by makers (count + path) sure_marks ≡ a → met_by makers (count + path) met_marks ≡ b → IsCoverIn count steps sure makers user path (cover_by a b)
    by true b sa mb = in_covered (s.0 sa)
    by false true sa mb = in_held (m.0 mb) (not-true (met_by makers (count + path) sure_marks) sa s)
    by false false sa mb = in_neither (not-true (met_by makers (count + path) met_marks) mb m) (not-true (met_by makers (count + path) sure_marks) sa s)

-- a file has one cover, where what is met by sure ways is met
one-cover : (count : ℕ) (steps sure : List (List ℕ)) (makers : List ℕ) (user path : ℕ) (c d : Cover) → IsCoverIn count steps sure makers user path c → IsCoverIn count steps sure makers user path d → c ≡ d
one-cover count steps sure makers user path Covered Covered a b = refl
one-cover count steps sure makers user path Covered HeldBack (in_covered a) (in_held m s) = absurd (s a)
one-cover count steps sure makers user path Covered Neither (in_covered a) (in_neither m s) = absurd (s a)
one-cover count steps sure makers user path HeldBack Covered (in_held m s) (in_covered a) = absurd (s a)
one-cover count steps sure makers user path HeldBack HeldBack a b = refl
one-cover count steps sure makers user path HeldBack Neither (in_held m s) (in_neither n t) = absurd (n m)
one-cover count steps sure makers user path Neither Covered (in_neither n t) (in_covered a) = absurd (t a)
one-cover count steps sure makers user path Neither HeldBack (in_neither n t) (in_held m s) = absurd (n m)
one-cover count steps sure makers user path Neither Neither a b = refl

-- FILES OF ONE COMMAND
abbrev pub KeyOne : ℕ → List (List ℕ) → List Bool → List Bool → ℕ → ℕ → ℕ → List ℕ → Type 0
KeyOne count makers sure met user used_by path k =
    k ≡ unlisted_key (record { cover = cover_by (met_by (successors_of makers path) (count + path) sure) (met_by (successors_of makers path) (count + path) met); user = user; path = path; used_by = used_by })

pub keys-among : (count : ℕ) (makers : List (List ℕ)) (sure met : List Bool) (user used_by : ℕ) (files k : List ℕ)
    → SomeBelow (λ i. KeyOne count makers sure met user used_by (get_or files i 0) k) (length files) ↔ IsKeyAmong count makers sure met user used_by files k
keys-among count makers sure met user used_by files k = (
  λ s. let b = s.below in record { path = get_or files s.number 0; among = Contains-get_or files s.number 0 b; is = s.holds },
  λ a.
      let c = a.among in
      let at : get_or files c.0 0 ≡ a.path = get_or_default files c.0 0 a.path c.1 ∙ c.2 in
      record { number = c.0; below = c.1; holds = subst (λ p. KeyOne count makers sure met user used_by p k) (sym at) a.is },
)

-- what marks tell is what ways tell
pub keys-in : (count : ℕ) (steps sure makers : List (List ℕ)) (user used_by : ℕ) (files k : List ℕ) (met_marks sure_marks : List Bool) → AreReached steps user met_marks → AreReached sure user sure_marks
    → IsKeyAmong count makers sure_marks met_marks user used_by files k ↔ IsKeyIn count steps sure makers user used_by files k
keys-in count steps sure makers user used_by files k met_marks sure_marks met sure_met = (
  λ a. record {
    path = a.path;
    among = a.among;
    cover = cover_by (met_by (successors_of makers a.path) (count + a.path) sure_marks) (met_by (successors_of makers a.path) (count + a.path) met_marks);
    cover_is = cover-in count steps sure (successors_of makers a.path) user a.path met_marks sure_marks met sure_met;
    is = a.is;
  },
  λ key.
      let same = one-cover count steps sure (successors_of makers key.path) user key.path key.cover (cover_by (met_by (successors_of makers key.path) (count + key.path) sure_marks) (met_by (successors_of makers key.path) (count + key.path) met_marks))
      key.cover_is (cover-in count steps sure (successors_of makers key.path) user key.path met_marks sure_marks met sure_met) in
      record {
        path = key.path;
        among = key.among;
        is = key.is ∙ ap (λ c. unlisted_key (record { cover = c; user = user; path = key.path; used_by = used_by })) same;
      },
)

-- the same without a search from the user, where no search says otherwise
pub led-keys : (count : ℕ) (steps sure makers : List (List ℕ)) (user used_by : ℕ) (files k : List ℕ) (met_marks sure_marks : List Bool) → AreLedTo steps count met_marks → AreLedTo sure count sure_marks → user < count
    → AreNeither count makers sure_marks met_marks files → IsKeyAmong count makers sure_marks met_marks user used_by files k ↔ IsKeyIn count steps sure makers user used_by files k
led-keys count steps sure makers user used_by files k met_marks sure_marks met sure_led below all = (
  λ a. record {
    path = a.path;
    among = a.among;
    cover = Neither;
    cover_is = neither-in count steps sure (successors_of makers a.path) user a.path met_marks sure_marks met sure_led below (all a.path a.among);
    is = a.is ∙ ap (λ c. unlisted_key (record { cover = c; user = user; path = a.path; used_by = used_by })) (all a.path a.among);
  },
  λ key.
      let there = all key.path key.among in
      let same = one-cover count steps sure (successors_of makers key.path) user key.path key.cover Neither key.cover_is (neither-in count steps sure (successors_of makers key.path) user key.path met_marks sure_marks met sure_led below there) in
      record {
        path = key.path;
        among = key.among;
        is = key.is ∙ ap (λ c. unlisted_key (record { cover = c; user = user; path = key.path; used_by = used_by })) (same ∙ sym there);
      },
)

pub no-files : (count : ℕ) (steps sure makers : List (List ℕ)) (user used_by : ℕ) (files k : List ℕ) → length files ≡ 0 → IsKeyIn count steps sure makers user used_by files k → ⊥
no-files count steps sure makers user used_by files k none key = let c = key.among in let w = c.1 in omega (arith, w, none)

-- the same marks, by other names of the same lists
pub led-is : (g h : List (Vec ℕ)) (m n : ℕ) (a b : List Bool) → g ≡ h → m ≡ n → a ≡ b → AreLedTo (graph_of g) m a → AreLedTo (graph_of h) n b
led-is g h m n a b gh mn ab led =
    subst (λ (x : List (Vec ℕ)). AreLedTo (graph_of x) n b) gh (subst (λ k. AreLedTo (graph_of g) k b) mn (subst (λ (x : List Bool). AreLedTo (graph_of g) m x) ab led))

pub keys-below : {A : Type 0} (count : ℕ) (s s' t t' m m' : List (List ℕ)) (edges : List ℕ) (f f' : List (List ℕ)) (n n' : ℕ) (k : List ℕ) → s ≡ s' → t ≡ t' → m ≡ m' → f ≡ f' → n ≡ n' → (A ↔ IsKeyBelow count s t m edges f n k)
    → A ↔ IsKeyBelow count s' t' m' edges f' n' k
keys-below {A} count s s' t t' m m' edges f f' n n' k es et em ef en h =
    subst (λ (x : List (List ℕ)). A ↔ IsKeyBelow count x t' m' edges f' n' k) es (subst (λ (x : List (List ℕ)). A ↔ IsKeyBelow count s x m' edges f' n' k) et
    (subst (λ (x : List (List ℕ)). A ↔ IsKeyBelow count s t x edges f' n' k) em (subst (λ (x : List (List ℕ)). A ↔ IsKeyBelow count s t m edges x n' k) ef (subst (λ (x : ℕ). A ↔ IsKeyBelow count s t m edges f x k) en h))))

-- what commands read are paths
pub reads-inside : (builds : List BuildValue) (paths : List (List ℕ)) (hidden : List Bool) (sides : List BuildValue) (told : List (List ℕ)) (lists : List (List (List ℕ))) (commands : List CommandValue) (edges : List ℕ) (vectors : List (Vec ℕ))
    → AreReads builds paths hidden sides told lists commands edges (graph_of vectors) → All (λ (v : Vec ℕ). All (λ p. p < length paths) v.items) vectors
reads-inside builds paths hidden sides told lists commands edges vectors reads k d within j e inside =
    let each = reads.each in
    let many = length-map vectors (λ (v : Vec ℕ). v.items) in
    let below : k < length commands = omega (arith, within, each, many) in
    let at : get_or (graph_of vectors) k [] ≡ (get_or vectors k d).items = get_or-mapped (λ (v : Vec ℕ). v.items) vectors k d [] within in
    let there : Contains (get_or (graph_of vectors) k []) (get_or (get_or vectors k d).items j e) = subst (λ (l : List ℕ). Contains l (get_or (get_or vectors k d).items j e)) (sym at) (Contains-get_or (get_or vectors k d).items j e inside) in
    let by = (reads.exact k (get_or (get_or vectors k d).items j e) below).0 there in
    by.read.is_open.named

-- COMMAND BY COMMAND
module _ (count : ℕ) (steps sure makers : List (List ℕ)) (edges : List ℕ) (files : List (List ℕ)) where
  pub below-none : (k : List ℕ) → Contains [] k ↔ IsKeyBelow count steps sure makers edges files 0 k
  below-none k = (λ c. let w = c.1 in absurd (omega (arith, w)), λ b. let l = b.below in absurd (omega (arith, l)))

  pub below-more : {A B : Type 0} (n edge : ℕ) (here k : List ℕ) → here ≡ get_or files n [] → edge ≡ get_or edges n 0
      → (A ↔ IsKeyBelow count steps sure makers edges files n k) → (B ↔ (A ⊎ IsKeyIn count steps sure makers edge n here k))
      → B ↔ IsKeyBelow count steps sure makers edges files (n + 1) k
  below-more n edge here k is of before step = (
    λ b. elim (step.0 b) [
      | inl a ↦ let x = before.0 a in let l = x.below in record { number = x.number; below = omega (arith, l); key = x.key }
      | inr key ↦ record {
        number = n;
        below = omega arith;
        key = subst (λ e. IsKeyIn count steps sure makers e n (get_or files n []) k) of (subst (λ (l : List ℕ). IsKeyIn count steps sure makers edge n l k) is key);
      }
    ],
    λ x. step.1 (elim (cases_eq x.number n) [
      | inl same ↦
          inr (subst (λ (l : List ℕ). IsKeyIn count steps sure makers edge n l k) (sym is)
          (subst (λ e. IsKeyIn count steps sure makers e n (get_or files n []) k) (sym of)
          (subst (λ j. IsKeyIn count steps sure makers (get_or edges j 0) j (get_or files j []) k) same x.key)))
      | inr other ↦ inl (before.1 (let l = x.below in record { number = x.number; below = omega (arith, l, other); key = x.key }))
    ]),
  )

-- no command reads such a file
abbrev no_lists : List (List ℕ)
no_lists = []

pub all-empty : (files : List (Vec ℕ)) → list_all (λ (v : Vec ℕ). vec_len v == 0) files ≡ true → (n : ℕ) → length (get_or (graph_of files) n []) ≡ 0
all-empty [] h n = let none : get_or no_lists n [] ≡ [] = past-end no_lists n [] (omega arith) in ap (λ (l : List ℕ). length l) none
all-empty (v ∷ vs) h zero = sym v.ok.0 ∙ eqb-true (vec_len v) 0 (and_parts (vec_len v == 0) (list_all (λ (w : Vec ℕ). vec_len w == 0) vs) h).0
all-empty (v ∷ vs) h (suc n) = all-empty vs (and_parts (vec_len v == 0) (list_all (λ (w : Vec ℕ). vec_len w == 0) vs) h).1 n

by-number : (s : Scene) (sides : List BuildValue) (lists : List (List (List ℕ))) (told : List (List ℕ)) (u : Unlisted) → IsFound s sides lists told u
    → IsReadByNumber s.builds s.paths s.hidden sides told lists s.commands s.edges u.used_by u.path
by-number s sides lists told u f =
    let un = f.is in
    let r = un.unlisted in
    let read : IsReadOf s.builds s.paths s.hidden sides told lists u.user un.used u.path = record { finds = r.finds; is_open = r.is_open; foreign = r.foreign; uncounted = r.unlisted; alone = f.alone } in
    record { command = un.used; is = un.ran.is; reads = r.reads; read = subst (λ e. IsReadOf s.builds s.paths s.hidden sides told lists e un.used u.path) (sym un.ran.of) read }

-- WHAT IS FOUND
module _ (s : Scene) (sides : List BuildValue) (lists : List (List (List ℕ))) (told makers files : List (List ℕ)) (edges_are : All (λ e. e < length s.builds) s.edges)
    (each : length s.edges ≡ length s.commands) (makers_are : (p a : ℕ) → p < length s.paths → Steps makers p a ↔ MakerIn s p a)
    (reads : AreReads s.builds s.paths s.hidden sides told lists s.commands s.edges files) where
  abbrev graph : Bool → List (List ℕ)
  graph sure = follow_lists s.builds lists s.paths sure

  met-in : (sure : Bool) (user path : ℕ) → path < length s.paths → IsMetIn (length s.builds) (follow_lists s.builds lists s.paths sure) (successors_of makers path) user path ↔ IsMet s lists sure user path
  met-in sure user path inside = (forth, back)
    where
      forth : IsMetIn (length s.builds) (follow_lists s.builds lists s.paths sure) (successors_of makers path) user path → IsMet s lists sure user path
      forth (in_makers {maker = m} c all) = met_makers {maker = m} ((makers_are path m inside).0 c) (λ o k. all o ((makers_are path o inside).1 k))
      forth (in_source none way) = met_source (λ m k. none m ((makers_are path m inside).1 k)) way

      back : IsMet s lists sure user path → IsMetIn (length s.builds) (follow_lists s.builds lists s.paths sure) (successors_of makers path) user path
      back (met_makers {maker = m} k all) = in_makers {maker = m} ((makers_are path m inside).1 k) (λ o c. all o ((makers_are path o inside).0 c))
      back (met_source none way) = in_source (λ m c. none m ((makers_are path m inside).0 c)) way

  cover-of : (user path : ℕ) (cover : Cover) → path < length s.paths → IsCoverIn (length s.builds) (follow_lists s.builds lists s.paths false) (follow_lists s.builds lists s.paths true) (successors_of makers path) user path cover → IsCover s lists user path cover
  cover-of user path Covered inside (in_covered a) = is_covered ((met-in true user path inside).0 a)
  cover-of user path HeldBack inside (in_held m n) = is_held ((met-in false user path inside).0 m) (λ k. n ((met-in true user path inside).1 k))
  cover-of user path Neither inside (in_neither m n) = is_neither (λ k. m ((met-in false user path inside).1 k)) (λ k. n ((met-in true user path inside).1 k))

  of-cover : (user path : ℕ) (cover : Cover) → path < length s.paths → IsCover s lists user path cover → IsCoverIn (length s.builds) (follow_lists s.builds lists s.paths false) (follow_lists s.builds lists s.paths true) (successors_of makers path) user path cover
  of-cover user path Covered inside (is_covered a) = in_covered ((met-in true user path inside).1 a)
  of-cover user path HeldBack inside (is_held m n) = in_held ((met-in false user path inside).1 m) (λ k. n ((met-in true user path inside).0 k))
  of-cover user path Neither inside (is_neither m n) = in_neither (λ k. m ((met-in false user path inside).0 k)) (λ k. n ((met-in true user path inside).0 k))

  user-within : (n : ℕ) → n < length s.commands → get_or s.edges n 0 < length s.builds
  user-within n within = All-get_or (λ e. e < length s.builds) s.edges n 0 (omega (arith, within, each)) edges_are

  pub key-found : (k : List ℕ) → IsKeyBelow (length s.builds) (follow_lists s.builds lists s.paths false) (follow_lists s.builds lists s.paths true) makers s.edges files (length files) k
      → (u : Unlisted) × IsFound s sides lists told u × (k ≡ unlisted_key u) × (u.user < length s.builds)
  key-found k b =
      let key = b.key in
      let below = b.below in
      let count = reads.each in
      let within : b.number < length s.commands = omega (arith, below, count) in
      let by = (reads.exact b.number key.path within).0 key.among in
      let read = by.read in
      let inside = read.is_open.named in (
        record { cover = key.cover; user = get_or s.edges b.number 0; path = key.path; used_by = b.number },
        record {
          is = record {
            used = by.command;
            ran = record { within = within; is = by.is; of = refl };
            unlisted = record { reads = by.reads; finds = read.finds; is_open = read.is_open; foreign = read.foreign; unlisted = read.uncounted };
          };
          cover_is = cover-of (get_or s.edges b.number 0) key.path key.cover inside key.cover_is;
          alone = read.alone;
        },
        key.is,
        user-within b.number within,
      )

  pub found-key : (u : Unlisted) → IsFound s sides lists told u
      → IsKeyBelow (length s.builds) (follow_lists s.builds lists s.paths false) (follow_lists s.builds lists s.paths true) makers s.edges files (length files) (unlisted_key u)
  found-key u f =
      let un = f.is in
      let r = un.unlisted in
      let of : get_or s.edges u.used_by 0 ≡ u.user = un.ran.of in
      let inside = r.is_open.named in
      let within = un.ran.within in
      let count = reads.each in
      record {
        number = u.used_by;
        below = omega (arith, within, count);
        key =
            subst (λ e. IsKeyIn (length s.builds) (follow_lists s.builds lists s.paths false) (follow_lists s.builds lists s.paths true) makers e u.used_by (get_or files u.used_by []) (unlisted_key u)) (sym of) (record {
              path = u.path;
              among = (reads.exact u.used_by u.path un.ran.within).1 (by-number s sides lists told u f);
              cover = u.cover;
              cover_is = of-cover u.user u.path u.cover inside f.cover_is;
              is = refl;
            });
      }

  pub keys-fit : (keys : List (List ℕ)) → length s.builds < 2 ^ 32
      → ((k : List ℕ) → Contains keys k ↔ IsKeyBelow (length s.builds) (follow_lists s.builds lists s.paths false) (follow_lists s.builds lists s.paths true) makers s.edges files (length files) k) → All IsOfUnlisted keys
  keys-fit keys small are k d within =
      let f = key-found (get_or keys k d) ((are (get_or keys k d)).0 (Contains-get_or keys k d within)) in
      let w = f.3 in
      record { told = f.0; is = f.2; user = omega (arith, w, small) }

  pub are-found : (keys : List (List ℕ)) (us : List Unlisted)
      → ((k : List ℕ) → Contains keys k ↔ IsKeyBelow (length s.builds) (follow_lists s.builds lists s.paths false) (follow_lists s.builds lists s.paths true) makers s.edges files (length files) k)
      → map unlisted_key us ≡ keys → IsStrictlySortedBy (slice_cmp nat_cmp) (map unlisted_key us) → AreFound s sides lists told us
  are-found keys us are same rising = record {
    exact = λ u. (
      λ h.
          let f = key-found (unlisted_key u) ((are (unlisted_key u)).0 (subst (λ ks. Contains ks (unlisted_key u)) same (contains-key us u h))) in
          subst (IsFound s sides lists told) (sym (one-told u f.0 f.2)) f.1,
      λ f. contains-told us u (subst (λ ks. Contains ks (unlisted_key u)) (sym same) ((are (unlisted_key u)).1 (found-key u f))),
    );
    rising = rising;
  }

-- where no command reads such a file nothing is found
no-keys : IsStrictlySortedBy (slice_cmp nat_cmp) (map unlisted_key [])
unfolding IsStrictlySortedBy
no-keys = tt

pub none-found : (s : Scene) (sides : List BuildValue) (lists : List (List (List ℕ))) (told files : List (List ℕ)) → AreReads s.builds s.paths s.hidden sides told lists s.commands s.edges files
    → ((n : ℕ) → length (get_or files n []) ≡ 0) → (us : List Unlisted) → us ≡ [] → AreFound s sides lists told us
none-found s sides lists told files reads none us is = subst (λ (l : List Unlisted). AreFound s sides lists told l) (sym is) (record {
  exact = λ u. (
    λ c. let w = c.1 in absurd (omega (arith, w)),
    λ f.
        let c = (reads.exact u.used_by u.path f.is.ran.within).1 (by-number s sides lists told u f) in
        let w = c.1 in
        let n = none u.used_by in
        absurd (omega (arith, w, n)),
  );
  rising = no-keys;
})

-- what is told already, as numbers and as a test
pub are-unlisted : (s : Scene) (sides : List BuildValue) (lists : List (List (List ℕ))) (conflicts : List Conflict) (undeclared : List Undeclared) (told : List (List ℕ)) (us : List Unlisted)
    → ((user path : ℕ) → Contains told (user ∷ path ∷ []) ↔ ((is_told conflicts user path ≡ true) ⊎ IsToldOf undeclared user path)) → AreFound s sides lists told us → AreUnlisted s sides lists conflicts undeclared us
are-unlisted s sides lists conflicts undeclared told us same are = record {
  exact = λ u. (
    λ h.
        let f = (are.exact u).0 h in
        record {
          is = f.is;
          cover_is = f.cover_is;
          alone = false_from_ne_true (is_told conflicts u.user u.path) (λ e. f.alone ((same u.user u.path).1 (inl e)));
          declared = λ d. f.alone ((same u.user u.path).1 (inr d));
        },
    λ t. (are.exact u).1 (record {
      is = t.is;
      cover_is = t.cover_is;
      alone = λ c. elim ((same u.user u.path).0 c) [ inl e ↦ true≢false (sym e ∙ t.alone) | inr d ↦ t.declared d ];
    }),
  );
  rising = are.rising;
}

pub ok-both : {A E : Type 0} (P Q R : A → Type 0) → ((x : A) → P x → Q x → R x) → (r : Result A E) → IfOk r P → IfOk r Q → IfOk r R
ok-both P Q R f (Ok x) h k = f x h k
ok-both P Q R f (Err e) h k = h

pub ok-more : {A E : Type 0} (P Q : A → Type 0) → ((x : A) → P x → Q x) → (r : Result A E) → IfOk r P → IfOk r Q
ok-more P Q f (Ok x) h = f x h
ok-more P Q f (Err e) h = h

-- WHAT IS UNDECLARED, ONE AFTER THE OTHER
pub told-none : {A : Type 0} (Q : Type 0) (user path : ℕ) → (A ↔ Q) → A ↔ (Q ⊎ IsToldOf [] user path)
told-none Q user path both = (λ a. inl (both.0 a), λ h. elim h [ inl q ↦ both.1 q | inr t ↦ let c = t.among in let w = c.1 in absurd (omega (arith, w)) ])

pub told-more : {A B : Type 0} (Q : Type 0) (undeclared : List Undeclared) (i user path : ℕ) (t : Undeclared) → i < length undeclared → t ≡ get_or undeclared i t
    → (A ↔ (Q ⊎ IsToldOf (take i undeclared) user path)) → (B ↔ (A ⊎ (user ∷ path ∷ [] ≡ t.user ∷ t.path ∷ []))) → B ↔ (Q ⊎ IsToldOf (take (i + 1) undeclared) user path)
told-more {A} {B} Q undeclared i user path t within is before step = (forth, back)
  where
    more : take (i + 1) undeclared ≡ take i undeclared ++ t ∷ []
    more = take_more undeclared i t within ∙ ap (λ (x : Undeclared). take i undeclared ++ x ∷ []) (sym is)

    forth : B → Q ⊎ IsToldOf (take (i + 1) undeclared) user path
    forth b = elim (step.0 b) [
      | inl a ↦ elim (before.0 a) [
        | inl q ↦ inl q
        | inr x ↦ inr (record { told = x.told; among = (pushed (take i undeclared) (take (i + 1) undeclared) t x.told more).1 (inl x.among); user_is = x.user_is; path_is = x.path_is })
      ]
      | inr e ↦ inr (record {
        told = t;
        among = (pushed (take i undeclared) (take (i + 1) undeclared) t t more).1 (inr refl);
        user_is = sym (ap (λ (k : List ℕ). get_or k 0 0) e);
        path_is = sym (ap (λ (k : List ℕ). get_or k 1 0) e);
      })
    ]

    back : Q ⊎ IsToldOf (take (i + 1) undeclared) user path → B
    back (inl q) = step.1 (inl (before.1 (inl q)))
    back (inr x) = elim ((pushed (take i undeclared) (take (i + 1) undeclared) t x.told more).0 x.among) [
      | inl old ↦ step.1 (inl (before.1 (inr (record { told = x.told; among = old; user_is = x.user_is; path_is = x.path_is }))))
      | inr same ↦
          let u : user ≡ t.user = sym x.user_is ∙ ap (λ (y : Undeclared). y.user) same in
          let p : path ≡ t.path = sym x.path_is ∙ ap (λ (y : Undeclared). y.path) same in
          step.1 (inr (λ j. u j ∷ p j ∷ []))
    ]
