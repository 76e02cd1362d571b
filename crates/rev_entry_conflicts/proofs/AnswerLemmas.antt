-- The entries that are touched are enough, and what is told, user by user.
use Rattle.std.proofs.Common.{◌≡◌, ℕ, ◌+◌, ◌<◌, ◌≤◌, Bool, true, false, cond, not, ◌&&◌, List, [], ◌∷◌, ◌++◌, length, get_or, map, take, slice_get, Option, Some, None, inl, inr, refl, sym, ap, subst, ◌∙◌, arith, true≢false, if◌then◌else◌}
use Rattle.std.specs.Prelude.{All}
use Rattle.std.specs.Global.{Vec}
use Rattle.std.specs.List.{filter, range_with_len}
use Rattle.std.proofs.lemmas.Bool.{and_from, and_parts, cases_Bool, or_left, or_right}
use Rattle.std.proofs.lemmas.List.{get_or-map, length-map, map_more}
use Rattle.std.proofs.lemmas.List.Elements.{All-filter}
use Rattle.std.proofs.lemmas.List.FromFn.{get_or-range_with_len, length-range_with_len}
use Rattle.std.proofs.lemmas.List.Sums.{count_by-le-length, length-filter}
use Rattle.std.proofs.lemmas.Option.{slice_get-get_or}
use Rattle.rev_ranks.specs.Graph.{graph_of}
use Rattle.rev_ranks.proofs.Ways.{nodes_are}
use Rattle.rev_entry_conflicts.specs.declared.conflict.Kind.{Kind}
use Rattle.rev_entry_conflicts.specs.declared.deed.Command.{Command}
use Rattle.rev_entry_conflicts.specs.declared.word.Act.TheVariants as act
use Rattle.rev_entry_conflicts.specs.Conflicts.{are_apart, is_kind, kind_apart, kind_at, kind_back, kind_unordered, kind_where_ensured, kind_where_left, of_found_pair, of_numbers, of_pair}
use Rattle.rev_entry_conflicts.specs.Deeds.{Scene, does, entry_at, is_at, is_deed, is_of, waits}
use Rattle.rev_entry_conflicts.specs.Orders.{AreEnough}
use Rattle.rev_entry_conflicts.specs.Touches.{is_touch, touch_at, touched_in, touches}
use Rattle.rev_entry_conflicts.proofs.ListLemmas.{any-passes, passing}

-- WHO TOUCHES AN ENTRY
leaves-touches : (c : Command) (n : ℕ) → does act.Leaves c n ≡ true → touches c n ≡ true
unfolding does
leaves-touches c n h =
    let f = passing (is_deed act.Leaves n) c.deeds.items h in
    let both = and_parts (is_of act.Leaves f.item.word) (is_at n f.item) f.passes in
    any-passes (touch_at n) c.deeds.items f.item f.there (and_from (is_touch f.item) (is_at n f.item) (or_left (is_of act.Leaves f.item.word) (is_of act.Ensures f.item.word) both.0) both.1)

ensures-touches : (c : Command) (n : ℕ) → does act.Ensures c n ≡ true → touches c n ≡ true
unfolding does
ensures-touches c n h =
    let f = passing (is_deed act.Ensures n) c.deeds.items h in
    let both = and_parts (is_of act.Ensures f.item.word) (is_at n f.item) f.passes in
    any-passes (touch_at n) c.deeds.items f.item f.there (and_from (is_touch f.item) (is_at n f.item) (or_right (is_of act.Leaves f.item.word) (is_of act.Ensures f.item.word) both.0) both.1)

-- a choice that is made was chosen
chosen : {A : Type 0} (b : Bool) (o : Option A) (x : A) → (if b then o else None) ≡ Some x → b ≡ true
chosen true o x h = refl
chosen false o x h = cc

-- Who conflicts with a user at an entry touches the entry.
module _ (s : Scene) (made used : Command) (n : ℕ) (k : Kind) where
  by-back : kind_back s made used n ≡ Some k → touches made n ≡ true
  by-back h = leaves-touches made n (and_parts (does act.Leaves made n) (does act.Stays made n && does act.Asks used n) (chosen (does act.Leaves made n && (does act.Stays made n && does act.Asks used n)) _ k h)).0

  by-unordered : kind_unordered s made used n ≡ Some k → touches made n ≡ true
  by-unordered h = elim (cases_Bool (does act.Leaves made n)) [
    | inl leaves ↦ leaves-touches made n leaves
    | inr not_leaves ↦
        ensures-touches made n (chosen (does act.Ensures made n) (kind_where_ensured s used n) k
        (sym (ap (λ b. if b then kind_where_left s made used n else if does act.Ensures made n then kind_where_ensured s used n else None) not_leaves) ∙ h))
  ]

  by-apart : kind_apart s made used n ≡ Some k → touches made n ≡ true
  by-apart h = elim (cases_Bool (waits s made.edge used.edge)) [
    | inl back ↦ by-back (sym (ap (λ b. if b then kind_back s made used n else kind_unordered s made used n) back) ∙ h)
    | inr forth ↦ by-unordered (sym (ap (λ b. if b then kind_back s made used n else kind_unordered s made used n) forth) ∙ h)
  ]

  pub kind-touches : kind_at s made used n ≡ Some k → touches made n ≡ true
  kind-touches h =
      let both = chosen (are_apart s made used && not (entry_at s n).hidden) (kind_apart s made used n) k h in
      by-apart (sym (ap (λ b. if b then kind_apart s made used n else None) both) ∙ h)

found-kind : (k : Kind) (o : Option Kind) → is_kind k o ≡ true → (found : Kind) × (o ≡ Some found)
found-kind k None h = absurd (true≢false (sym h))
found-kind k (Some found) h = (found, refl)

pub kind-is-touch : (s : Scene) (made used : Command) (k : Kind) (n : ℕ) → is_kind k (kind_at s made used n) ≡ true → touches made n ≡ true
kind-is-touch s made used k n h = let f = found-kind k (kind_at s made used n) h in kind-touches s made used n f.0 f.1

-- a filter of a filtered list, where the one test gives the other
filter-within : (p q : ℕ → Bool) (xs : List ℕ) → ((x : ℕ) → p x ≡ true → q x ≡ true) → filter p (filter q xs) ≡ filter p xs
filter-within p q [] gives = refl
filter-within p q (x ∷ xs) gives = elim (cases_Bool (q x)) [
  | inl has ↦
      ap (λ b. filter p (cond b (x ∷ filter q xs) (filter q xs))) has
      ∙ ap (λ ys. cond (p x) (x ∷ ys) ys) (filter-within p q xs gives)
  | inr no_q ↦
      ap (λ b. filter p (cond b (x ∷ filter q xs) (filter q xs))) no_q ∙ filter-within p q xs gives
      ∙ sym (ap (λ b. cond b (x ∷ filter p xs) (filter p xs)) (not-passes no_q))
]
  where
    not-passes : q x ≡ false → p x ≡ false
    not-passes no_q = elim (cases_Bool (p x)) [
      | inl passes ↦ absurd (true≢false (sym (gives x passes) ∙ no_q))
      | inr no_p ↦ no_p
    ]

pub are-enough : (s : Scene) (made used : Command) (numbers : List ℕ) → numbers ≡ touched_in (length s.entries) made → AreEnough s made used numbers
are-enough s made used numbers are k =
    ap (filter (λ n. is_kind k (kind_at s made used n))) are
    ∙ filter-within (λ n. is_kind k (kind_at s made used n)) (touches made) (range_with_len 0 (length s.entries)) (kind-is-touch s made used k)

-- the numbers of a list are entries, and few
all-range : (count : ℕ) → All (λ n. n < count) (range_with_len 0 count)
all-range count i d within =
    let below : i < count = subst (λ m. i < m) (length-range_with_len 0 count) within in
    let at : get_or (range_with_len 0 count) i d ≡ 0 + i = get_or-range_with_len 0 count i d below in
    subst (λ m. m < count) (sym at) (omega (arith, below))

pub all-entries : (count : ℕ) (made : Command) (numbers : List ℕ) → numbers ≡ touched_in count made → All (λ n. n < count) numbers
all-entries count made numbers are = subst (λ (ns : List ℕ). All (λ n. n < count) ns) (sym are) (All-filter (touches made) (λ n. n < count) (range_with_len 0 count) (all-range count))

pub few-entries : (count : ℕ) (made : Command) (numbers : List ℕ) → numbers ≡ touched_in count made → length numbers ≤ count
few-entries count made numbers are =
    let e : length numbers ≡ length (touched_in count made) = ap length are in
    let l = length-filter (touches made) (range_with_len 0 count) in
    let m = count_by-le-length (touches made) (range_with_len 0 count) in
    let r = length-range_with_len 0 count in
    omega (arith, e, l, m, r)

-- EACH COMMAND'S LIST
graph-push : (xs : List (Vec ℕ)) (x : Vec ℕ) → graph_of (xs ++ x ∷ []) ≡ graph_of xs ++ x.items ∷ []
graph-push [] x = refl
graph-push (y ∷ ys) x = ap (λ (ls : List (List ℕ)). y.items ∷ ls) (graph-push ys x)

pub lists-more : (f : Command → List ℕ) (vectors : List (Vec ℕ)) (v : Vec ℕ) (all : List (Vec ℕ)) (commands : List Command) (i : ℕ) (c : Command) → i < length commands → c ≡ get_or commands i c → all ≡ vectors ++ v ∷ []
    → graph_of vectors ≡ map f (take i commands) → v.items ≡ f c → graph_of all ≡ map f (take (i + 1) commands)
lists-more f vectors v all commands i c within is pushed before new =
    ap graph_of pushed ∙ graph-push vectors v ∙ ap (λ ls. ls ++ v.items ∷ []) before ∙ ap (λ l. map f (take i commands) ++ l ∷ []) (new ∙ ap f is) ∙ sym (map_more f commands i c within)

pub list-of : (f : Command → List ℕ) (lists : List (Vec ℕ)) (commands : List Command) (i : ℕ) (c : Command) (v : Vec ℕ) → graph_of lists ≡ map f commands → i < length commands → i < length lists → c ≡ get_or commands i c → v ≡ get_or lists i v
    → v.items ≡ f c
list-of f lists commands i c v are within also is has =
    ap (λ (w : Vec ℕ). w.items) has ∙ sym (get_or-map (λ (w : Vec ℕ). w.items) lists i v [] also) ∙ ap (λ ls. get_or ls i []) are ∙ get_or-map f commands i c [] within ∙ ap f (sym is)

pub numbers-are : (f : Command → List ℕ) (lists : List (Vec ℕ)) (commands : List Command) (i : ℕ) (c : Command) (v : Vec ℕ) (given : List ℕ) → graph_of lists ≡ map f commands → i < length commands → c ≡ get_or commands i c → v ≡ get_or lists i v
    → given ≡ v.items → given ≡ f c
numbers-are f lists commands i c v given are within is has same =
    let e : length lists ≡ length commands = sym (nodes_are lists) ∙ ap length are ∙ length-map commands f in
    same ∙ list-of f lists commands i c v are within (omega (arith, e, within)) is has

-- what is told of two numbers
pub pair-is : (s : Scene) (made_by used_by : ℕ) (made used : Command) → made_by < length s.commands → used_by < length s.commands → made ≡ get_or s.commands made_by made → used ≡ get_or s.commands used_by used
    → of_numbers s used_by made_by ≡ of_pair s made used made_by used_by
pair-is s made_by used_by made used within also is too =
    ap (λ o. of_found_pair s made_by used_by o (slice_get s.commands used_by)) (slice_get-get_or s.commands made_by made within ∙ ap Some (sym is))
    ∙ ap (of_found_pair s made_by used_by (Some made)) (slice_get-get_or s.commands used_by used also ∙ ap Some (sym too))
