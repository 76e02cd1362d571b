-- What is found is what is to be told.
use Rattle.std.proofs.Common.{◌≡◌, ◌≢◌, ℕ, ◌<◌, ◌^◌, Bool, true, false, List, [], ◌∷◌, length, get_or, map, Some, None, ◌⊎◌, inl, inr, refl, sym, ap, subst, ◌∙◌, arith, Contains, true≢false}
use Rattle.std.specs.Prelude.{All, ◌↔◌, Result, Ok, Err, IfOk}
use Rattle.std.specs.Global.{Vec}
use Rattle.std.specs.List.Sorted.{IsStrictlySortedBy}
use Rattle.std.specs.Ordering.{nat_cmp}
use Rattle.std.specs.Cmp.Lexicographic.{slice_cmp}
use Rattle.std.proofs.lemmas.Bool.{cases_lt, false_from_ne_true}
use Rattle.std.proofs.Math.ListN.{get_or-map}
use Rattle.std.proofs.lemmas.List.{length-map}
use Rattle.std.proofs.lemmas.List.Elements.{All-get_or, Contains-get_or}
use Rattle.rev_manifest.specs.Manifest.{BuildValue}
use Rattle.rev_graph.specs.Graph.{producer_of}
use Rattle.rev_observed.specs.CommandValues.{CommandValue}
use Rattle.rev_ranks.specs.Graph.{Steps, graph_of}
use Rattle.rev_conflicts.proofs.TableLemmas.{lists-within}
use Rattle.rev_conflicts.specs.declared.conflict.Conflict.{Conflict}
use Rattle.rev_conflicts.specs.declared.conflict.Look.{Look}
use Rattle.rev_conflicts.specs.declared.place.Place.TheVariants.{File}
use Rattle.rev_conflicts.specs.Places.{look_at}
use Rattle.rev_conflicts.specs.Conflicts.{Ran, Scene}
use Rattle.rev_conflicts.specs.Tables.{AreEarly, SomeBelow}
use Rattle.rev_undeclared.specs.declared.kind.Undeclared.{Undeclared}
use Rattle.rev_undeclared.specs.declared.kind.UndeclaredKind.{UndeclaredKind}
use Rattle.rev_undeclared.specs.declared.kind.UndeclaredKind.TheVariants.{Anothers, LookedAt}
use Rattle.rev_undeclared.specs.Stronger.{is_told}
use Rattle.rev_undeclared.specs.Undeclared.{IsOutputOf, IsUndeclared, IsUndeclared.anothers as is_anothers, IsUndeclared.looked_at as is_looked_at, IsOpen, Leaves, path_at}
use Rattle.rev_undeclared.specs.Answer.{AreUndeclared, undeclared_key}
use Rattle.rev_undeclared.specs.Tables.{AreFound, AreLeft, IsAnothersWhere, IsFound, IsKeyBy, IsLookWhere, IsOfUndeclared, LeavesBy}
use Rattle.rev_undeclared.proofs.FoundLemmas.{one-told}
use Rattle.rev_undeclared.proofs.LookLemmas.{told_of}

-- NUMBERS IN A LIST
contains-key : (told : List Undeclared) (r : Undeclared) → Contains told r → Contains (map undeclared_key told) (undeclared_key r)
contains-key told r (k, within, at) = (k, omega (arith, within, length-map told undeclared_key), get_or-map undeclared_key told k r ∙ ap undeclared_key at)

contains-told : (told : List Undeclared) (r : Undeclared) → Contains (map undeclared_key told) (undeclared_key r) → Contains told r
contains-told told r (k, within, at) =
    (k, omega (arith, within, length-map told undeclared_key), one-told (get_or told k r) r (sym (get_or-map undeclared_key told k r) ∙ at))

-- the numbers of edges are small
edge-small : (edges : List ℕ) (n count : ℕ) → All (λ e. e < count) edges → count < 2 ^ 32 → n < length edges → get_or edges n 0 < 2 ^ 32
edge-small edges n count all small within = let e = All-get_or (λ e. e < count) edges n 0 within all in omega (arith, e, small)

-- a key of something that is found
pub record IsFoundKey (s : Scene) (sides : List BuildValue) (told : List (List ℕ)) (k : List ℕ) : Type 0 where
  pub found : Undeclared
  pub is : IsFound s sides told found
  pub key : k ≡ undeclared_key found

module _ (s : Scene) (sides : List BuildValue) (early : List Bool) (told lists : List (List ℕ)) (are_early : AreEarly s.builds s.files early) (are_left : AreLeft s.paths s.hidden sides early s.commands s.edges lists) where
  -- WHO LEAVES A FILE
  leaves-of : (path c : ℕ) → Steps lists path c → Leaves s sides (get_or s.edges c 0) path c
  leaves-of path c h =
      let t : LeavesBy s.paths s.hidden sides early s.commands s.edges path c = (are_left.exact path c).0 h in
      record {
        made = t.command;
        ran = record { within = t.within; is = t.is; of = refl };
        comes_later = sym (are_early.exact (get_or s.edges c 0)) ∙ t.later;
        left = t.left;
        is_open = t.is_open;
      }

  of-leaves : (maker path c : ℕ) → Leaves s sides maker path c → Steps lists path c
  of-leaves maker path c l =
      let of = l.ran.of in
      (are_left.exact path c).1 (record {
        command = l.made;
        within = l.ran.within;
        is = l.ran.is;
        later = ap (λ e. get_or early e false) of ∙ are_early.exact maker ∙ l.comes_later;
        left = l.left;
        is_open = subst (λ e. IsOpen s.paths s.hidden sides e path) (sym of) l.is_open;
      })

  -- WHAT IS FOUND
  pub anothers-found : (k : List ℕ) → IsAnothersWhere s.builds s.paths s.edges told lists (length s.paths) k → IsFoundKey s sides told k
  anothers-found k h =
      let a = h.anothers in
      let key = a.key in
      record {
        found = told_of s.edges a.owner h.path Anothers key.made_by;
        is = record { is = is_anothers (leaves-of h.path key.made_by key.among) a.output key.others; alone = a.alone };
        key = key.is;
      }

  pub look-found : (user used_by : ℕ) (used : CommandValue) (k : List ℕ) → Ran s used_by user used → IsLookWhere s.builds s.paths s.edges told lists user used_by used (λ path. path < length s.paths) k → IsFoundKey s sides told k
  look-found user used_by used k ran h =
      let l = h.look in
      let key = l.key in
      record {
        found = told_of s.edges user h.path (LookedAt l.look used_by) key.made_by;
        is = record { is = is_looked_at (leaves-of h.path key.made_by key.among) l.undeclared key.others ran l.looks; alone = l.alone };
        key = key.is;
      }

  key-of-leaves : (u : Undeclared) → Leaves s sides u.maker u.path u.made_by → u.maker ≢ u.user → (kind : UndeclaredKind) → kind ≡ u.kind → IsKeyBy s.edges u.user u.path kind (get_or lists u.path []) (undeclared_key u)
  key-of-leaves u l others kind same =
      let of = l.ran.of in
      record {
        made_by = u.made_by;
        among = of-leaves u.maker u.path u.made_by l;
        others = λ e. others (sym of ∙ e);
        is = λ i. undeclared_key (record { kind = sym same i; maker = sym of i; user = u.user; path = u.path; made_by = u.made_by });
      }

  pub found-key : (Q : Type 0) (u : Undeclared) → IsFound s sides told u → (IsAnothersWhere s.builds s.paths s.edges told lists (length s.paths) (undeclared_key u) → Q)
      → ((used_by : ℕ) (used : CommandValue) → Ran s used_by u.user used → IsLookWhere s.builds s.paths s.edges told lists u.user used_by used (λ path. path < length s.paths) (undeclared_key u) → Q) → Q
  found-key Q u found one two = by u.kind refl found.is
    where
      by : (kind : UndeclaredKind) → kind ≡ u.kind → IsUndeclared s sides u.maker u.user u.path u.made_by kind → Q
      by Anothers same (is_anothers leaves output others) =
          one (record {
            path = u.path;
            below = leaves.is_open.named;
            anothers = record { owner = u.user; output = output; alone = found.alone; key = key-of-leaves u leaves others Anothers same };
          })
      by (LookedAt look used_by) same (is_looked_at {used = used} leaves undeclared others ran looks) =
          two used_by used ran (record {
            path = u.path;
            passes = leaves.is_open.named;
            look = record { look = look; undeclared = undeclared; alone = found.alone; looks = looks; key = key-of-leaves u leaves others (LookedAt look used_by) same };
          })

  -- THE ANSWER
  pub are-found : (keys : List (List ℕ)) (us : List Undeclared) → ((k : List ℕ) → Contains keys k → IsFoundKey s sides told k) → ((u : Undeclared) → IsFound s sides told u → Contains keys (undeclared_key u))
      → map undeclared_key us ≡ keys → IsStrictlySortedBy (slice_cmp nat_cmp) (map undeclared_key us) → AreFound s sides told us
  are-found keys us sound whole same rising = record {
    exact = λ u. (
      λ h.
          let f = sound (undeclared_key u) (subst (λ ks. Contains ks (undeclared_key u)) same (contains-key us u h)) in
          subst (IsFound s sides told) (sym (one-told u f.found f.key)) f.is,
      λ f. contains-told us u (subst (λ ks. Contains ks (undeclared_key u)) (sym same) (whole u f)),
    );
    rising = rising;
  }

  pub keys-fit : (count : ℕ) (keys : List (List ℕ)) → All (λ e. e < count) s.edges → length s.edges ≡ length s.commands → count < 2 ^ 32 → ((path owner : ℕ) → producer_of s.builds (path_at s.paths path) ≡ Some owner → owner < 2 ^ 32)
      → ((k : List ℕ) → Contains keys k → IsFoundKey s sides told k) → All IsOfUndeclared keys
  keys-fit count keys all each small owners sound k d within =
      let f = sound (get_or keys k d) (Contains-get_or keys k d within) in
      record { told = f.found; is = f.key; maker = maker-fits f.found.kind f.is.is; user = user-fits f.found.kind f.is.is }
    where
      ran-fits : (number edge : ℕ) (command : CommandValue) → Ran s number edge command → edge < 2 ^ 32
      ran-fits number edge command ran = let w = ran.within in subst (λ e. e < 2 ^ 32) ran.of (edge-small s.edges number count all small (omega (arith, w, each)))

      maker-fits : {m u p a : ℕ} (kind : UndeclaredKind) → IsUndeclared s sides m u p a kind → m < 2 ^ 32
      maker-fits {m} {u} {p} {a} kind (is_anothers leaves output others) = ran-fits a m leaves.made leaves.ran
      maker-fits {m} {u} {p} {a} kind (is_looked_at leaves undeclared others ran looks) = ran-fits a m leaves.made leaves.ran

      user-fits : {m u p a : ℕ} (kind : UndeclaredKind) → IsUndeclared s sides m u p a kind → u < 2 ^ 32
      user-fits {m} {u} {p} {a} kind (is_anothers leaves output others) = owners p u output.produced
      user-fits {m} {u} {p} {a} kind (is_looked_at {used_by = b} {used = used} leaves undeclared others ran looks) = ran-fits b u used ran

-- what is told already, as numbers and as a test
pub are-undeclared : (s : Scene) (sides : List BuildValue) (conflicts : List Conflict) (told : List (List ℕ)) (us : List Undeclared) → ((user path : ℕ) → Contains told (user ∷ path ∷ []) ↔ (is_told conflicts user path ≡ true))
    → AreFound s sides told us → AreUndeclared s sides conflicts us
are-undeclared s sides conflicts told us same are = record {
  exact = λ u. (
    λ h.
        let f = (are.exact u).0 h in
        record { is = f.is; alone = false_from_ne_true (is_told conflicts u.user u.path) (λ e. f.alone ((same u.user u.path).1 e)) },
    λ t. (are.exact u).1 (record { is = t.is; alone = λ c. true≢false (sym ((same u.user u.path).0 c) ∙ t.alone) }),
  );
  rising = are.rising;
}

pub ok-both : {A E : Type 0} (P Q R : A → Type 0) → ((x : A) → P x → Q x → R x) → (r : Result A E) → IfOk r P → IfOk r Q → IfOk r R
ok-both P Q R f (Ok x) h k = f x h k
ok-both P Q R f (Err e) h k = h

-- the table, as it is lent
module _ (paths : List (List ℕ)) (hidden : List Bool) (sides : List BuildValue) (early : List Bool) (commands : List CommandValue) (edges : List ℕ) (lists left : List (Vec ℕ)) (same : left ≡ lists)
    (are : AreLeft paths hidden sides early commands edges (graph_of lists)) where
  pub left-of : AreLeft paths hidden sides early commands edges (graph_of left)
  left-of = subst (λ (ls : List (Vec ℕ)). AreLeft paths hidden sides early commands edges (graph_of ls)) (sym same) are

  pub left-each : length left ≡ length paths
  left-each = sym (length-map left (λ (v : Vec ℕ). v.items)) ∙ left-of.each

  pub left-within : length edges ≡ length commands → All (λ (v : Vec ℕ). All (λ c. c < length edges) v.items) left
  left-within each = lists-within left (length edges) (λ p c h. let w = ((left-of.exact p c).0 h).within in omega (arith, w, each))

pub ok-more : {A E : Type 0} (P Q : A → Type 0) → ((x : A) → P x → Q x) → (r : Result A E) → IfOk r P → IfOk r Q
ok-more P Q f (Ok x) h = f x h
ok-more P Q f (Err e) h = h
