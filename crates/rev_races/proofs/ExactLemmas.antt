-- What is found is exactly what is told.
use Rattle.std.proofs.Common.{◌≡◌, ℕ, ◌<◌, ◌≤◌, ◌^◌, true, List, [], length, get_or, slice_get, map, Some, None, ◌⊎◌, inl, inr, refl, sym, ap, subst, ◌∙◌, arith, true≢false, Contains, if◌then◌else◌}
use Rattle.std.specs.Prelude.{◌↔◌}
use Rattle.std.specs.List.{All}
use Rattle.std.specs.List.Sorted.{IsStrictlySortedBy}
use Rattle.std.specs.Ordering.{nat_cmp}
use Rattle.std.specs.Cmp.Lexicographic.{slice_cmp}
use Rattle.std.specs.Option.{option_or}
use Rattle.std.proofs.Math.ListN.{get_or-map}
use Rattle.std.proofs.lemmas.Bool.{cases_lt}
use Rattle.std.proofs.lemmas.List.{length-map}
use Rattle.std.proofs.lemmas.List.Elements.{Contains-get_or}
use Rattle.std.proofs.lemmas.Option.{slice_get_within, slice_get-get_or}
use Rattle.rev_manifest.specs.Manifest.{BuildValue, ManifestValue}
use Rattle.rev_graph.specs.Graph.{build_at}
use Rattle.rev_cells.specs.State.{State}
use Rattle.rev_history.specs.Timeline.{Numbered, Timeline, kept_events}
use Rattle.rev_waits.specs.Waits.{Makes}
use Rattle.rev_races.specs.declared.told.Told.{Told}
use Rattle.rev_races.specs.Answer.{IsFirstPlace, IsToTell, IsToTell.itself, IsToTell.another}
use Rattle.rev_races.specs.Keys.{AreTold, IsKeyBelow, IsOfEdges, IsToldAt, IsToldAt.raced, IsToldAt.owned, told_key}
use Rattle.rev_races.specs.Kinds.{IsBetween}
use Rattle.rev_races.specs.Races.{last_list, lists, recorded}
use Rattle.rev_races.proofs.RaceLemmas.{maker-command, keeps-by}
use Rattle.rev_races.proofs.Waiting.{past-last}

-- what lists something is an edge
pub lists-within : (manifest : ManifestValue) (opening : State) (events : Numbered) (b : ℕ) (all : List (List ℕ)) → lists manifest opening events b ≡ Some all → b < length manifest.builds
lists-within manifest opening events b all is = elim (cases_lt b (length manifest.builds)) [
  | inl less ↦ less
  | inr past ↦ absurd (true≢false (sym keeps ∙ ap (λ (x : BuildValue). x.keeps_deps) (past-last manifest.builds b (omega (arith, past)))))
]
  where
    keeps : (build_at manifest.builds b).keeps_deps ≡ true
    keeps = keeps-by (build_at manifest.builds b).keeps_deps
        (option_or (last_list manifest b events) (recorded opening (build_at manifest.builds b))) all is

none-in : {X : Type 0} (x : X) → Contains [] x → ⊥
none-in x (k, within, at) = omega (arith, within)

abbrev pub no-keys : List (List ℕ)
no-keys = []

-- numbers of edges fit
pub keys-fit : (t : Timeline) (files : List (List ℕ)) (n : ℕ) (keys : List (List ℕ)) → n ≤ length t.manifest.builds → length t.manifest.builds < 2 ^ 32
    → ((k : List ℕ) → Contains keys k ↔ (Contains no-keys k ⊎ IsKeyBelow t files n k)) → All IsOfEdges keys
keys-fit t files n keys few small are k d within = by ((are (get_or keys k d)).0 (Contains-get_or keys k d within))
  where
    of : (key : List ℕ) → IsKeyBelow t files n key → IsOfEdges key
    of key s =
        let a = s.holds.among.holds in
        let m = (maker-command a.made).0 in
        let u = s.below in
        subst IsOfEdges (sym a.key.is) (record { three = refl; maker = omega (arith, m, small); user = omega (arith, u, few, small) })

    by : Contains no-keys (get_or keys k d) ⊎ IsKeyBelow t files n (get_or keys k d) → IsOfEdges (get_or keys k d)
    by (inl none) = absurd (none-in (get_or keys k d) none)
    by (inr s) = of (get_or keys k d) s

-- LISTS OF WHAT IS TOLD AND OF ITS NUMBERS
one-told : (r s : Told) → told_key r ≡ told_key s → r ≡ s
one-told r s e =
    let a : r.maker ≡ s.maker = cc in
    let b : r.user ≡ s.user = cc in
    let c : r.place ≡ s.place = cc in
    λ i. record { maker = a i; user = b i; place = c i }

contains-key : (told : List Told) (r : Told) → Contains told r → Contains (map told_key told) (told_key r)
contains-key told r (k, within, at) = (k, omega (arith, within, length-map told told_key), get_or-map told_key told k r ∙ ap told_key at)

contains-told : (told : List Told) (r : Told) → Contains (map told_key told) (told_key r) → Contains told r
contains-told told r (k, within, at) =
    (k, omega (arith, within, length-map told told_key), one-told (get_or told k r) r (sym (get_or-map told_key told k r) ∙ at))

module _ (t : Timeline) (files : List (List ℕ)) where
  -- numbers that were found are those of what is told
  told-by : (user maker place : ℕ) (paths : List (List ℕ)) → lists t.manifest t.opening (kept_events t) user ≡ Some paths → place < length paths
      → Makes t.manifest.builds maker (get_or paths place []) → IsFirstPlace paths place → IsToTell t.manifest.builds files user maker → IsToldAt t files user maker place
  told-by user maker place paths lists_are below made first (itself same) = owned same (record {
    path = get_or paths place [];
    own = record {
      all = paths;
      lists_are = lists_are;
      is_listed = Contains-get_or paths place [] below;
      made = subst (λ m. Makes t.manifest.builds m (get_or paths place [])) same made;
    };
    stands = slice_get-get_or paths place [] below;
    first = first;
  })
  told-by user maker place paths lists_are below made first (another apart) = raced (record {
    path = get_or paths place [];
    race = record {
      all = paths;
      lists_are = lists_are;
      is_listed = Contains-get_or paths place [] below;
      made = made;
      others = apart.others;
      unordered = apart.unordered;
      comes_later = apart.comes_later;
    };
    stands = slice_get-get_or paths place [] below;
    first = first;
  })

  found-told : (n : ℕ) (r : Told) → IsKeyBelow t files n (told_key r) → IsToldAt t files r.user r.maker r.place
  found-told n r s =
      let o = s.holds in
      let p = o.among in
      let a = p.holds in
      let key = a.key.is in
      let m : r.maker ≡ a.maker = cc in
      let u : r.user ≡ s.number = cc in
      let q : r.place ≡ p.number = cc in
      subst (λ x. IsToldAt t files x r.maker r.place) (sym u)
      (subst (λ x. IsToldAt t files s.number x r.place) (sym m)
      (subst (λ x. IsToldAt t files s.number a.maker x) (sym q)
      (told-by s.number a.maker p.number o.paths o.lists_are p.below a.made a.key.first a.key.told)))

  -- and those of all that is told are found
  key-of : (r : Told) (path : List ℕ) (all : List (List ℕ)) → lists t.manifest t.opening (kept_events t) r.user ≡ Some all → slice_get all r.place ≡ Some path → Makes t.manifest.builds r.maker path
      → IsFirstPlace all r.place → IsToTell t.manifest.builds files r.user r.maker → IsKeyBelow t files (length t.manifest.builds) (told_key r)
  key-of r path all lists_are stands made first told =
      let within : r.place < length all = slice_get_within all r.place path stands in
      let both : Some (get_or all r.place []) ≡ Some path = sym (slice_get-get_or all r.place [] within) ∙ stands in
      let there : get_or all r.place [] ≡ path = cc in
      record {
        number = r.user;
        below = lists-within t.manifest t.opening (kept_events t) r.user all lists_are;
        holds = record {
          paths = all;
          lists_are = lists_are;
          among = record {
            number = r.place;
            below = within;
            holds = record {
              maker = r.maker;
              made = subst (λ p. Makes t.manifest.builds r.maker p) (sym there) made;
              key = record { is = refl; told = told; first = first };
            };
          };
        };
      }

  told-found : (r : Told) → IsToldAt t files r.user r.maker r.place → IsKeyBelow t files (length t.manifest.builds) (told_key r)
  told-found r (raced at) =
      key-of r at.path at.race.all at.race.lists_are at.stands at.race.made at.first
      (another (record { others = at.race.others; unordered = at.race.unordered; comes_later = at.race.comes_later }))
  told-found r (owned same at) =
      key-of r at.path at.own.all at.own.lists_are at.stands (subst (λ m. Makes t.manifest.builds m at.path) (sym same) at.own.made) at.first (itself same)

  pub are-told : (n : ℕ) (keys : List (List ℕ)) (told : List Told) → n ≡ length t.manifest.builds → ((k : List ℕ) → Contains keys k ↔ (Contains no-keys k ⊎ IsKeyBelow t files n k))
      → map told_key told ≡ keys → IsStrictlySortedBy (slice_cmp nat_cmp) (map told_key told) → AreTold t files told
  are-told n keys told all are same rising = record {
    exact = λ r. (forth r, back r);
    rising = rising;
  }
    where
      by : (r : Told) → Contains no-keys (told_key r) ⊎ IsKeyBelow t files n (told_key r) → IsToldAt t files r.user r.maker r.place
      by r (inl none) = absurd (none-in (told_key r) none)
      by r (inr s) = found-told n r s

      forth : (r : Told) → Contains told r → IsToldAt t files r.user r.maker r.place
      forth r h = by r ((are (told_key r)).0 (subst (λ ks. Contains ks (told_key r)) same (contains-key told r h)))

      back : (r : Told) → IsToldAt t files r.user r.maker r.place → Contains told r
      back r at =
          contains-told told r (subst (λ ks. Contains ks (told_key r)) (sym same)
          ((are (told_key r)).1 (inr (subst (λ m. IsKeyBelow t files m (told_key r)) (sym all) (told-found r at)))))

  -- all that is told is of edges
  between : (r : Told) → IsToldAt t files r.user r.maker r.place → IsBetween t.manifest.builds r
  between r (raced at) = record { maker = (maker-command at.race.made).0; user = lists-within t.manifest t.opening (kept_events t) r.user at.race.all at.race.lists_are }
  between r (owned same at) =
      let user = lists-within t.manifest t.opening (kept_events t) r.user at.own.all at.own.lists_are in
      record { maker = subst (λ m. m < length t.manifest.builds) (sym same) user; user = user }

  pub all-between : (told : List Told) → AreTold t files told → All (IsBetween t.manifest.builds) told
  all-between told are = λ k d within. between (get_or told k d) ((are.exact (get_or told k d)).0 (Contains-get_or told k d within))
