-- The cells that effects write, each of them once.
use Rattle.std.proofs.Common.{◌≡◌, ℕ, ◌+◌, ◌≤◌, suc, zero, Bool, true, false, List, [], ◌∷◌, ◌++◌, map, length, Option, Some, None, ◌⊎◌, inl, inr, refl, sym, ap, ◌∙◌, arith, if◌then◌else◌}
use Rattle.std.specs.List.{range_with_len}
use Rattle.rev_manifest.specs.Manifest.{BuildValue, ManifestValue}
use Rattle.rev_graph.specs.Graph.{build_at, outputs_of, producer_of, pool_of}
use Rattle.rev_cells.specs.declared.cell.Cell.{Cell}
use Rattle.rev_cells.specs.declared.cell.Cell.TheVariants as cell
use Rattle.rev_cells.specs.declared.mark.Mark.{Mark}
use Rattle.rev_cells.specs.declared.mark.Mark.TheVariants as mark
use Rattle.rev_cells.specs.declared.value.Value.TheVariants as value
use Rattle.rev_cells.specs.State.{State, mark_of, stamp_of}
use Rattle.rev_causal.specs.Order.{Has, Distinct}
use Rattle.rev_causal.specs.Store.{keys_of}
use Rattle.rev_dirty.specs.Seen.{stamp_cells, built_cells, first_deps_cell, deps_cells}
use Rattle.rev_dirty.specs.Inputs.{producers_in}
use Rattle.rev_plan.specs.Plan.{edge_numbers, marks_of, mark_for, targets_or}
use Rattle.rev_events.specs.declared.event.Listing.{Listing}
use Rattle.rev_events.specs.declared.event.Event.{Event}
use Rattle.rev_events.specs.declared.event.Event.TheVariants.{Plan, Start, Finish, Fail, Abort, Clean, Pass, Touch, Interrupt, Resize}
use Rattle.rev_events.specs.Edge.{Effect, write, slot_cells, held_cells, write_slot, free_held, seen_by, rest_of, write_stamps, changes, write_built, write_first_deps, write_deps}
use Rattle.rev_events.specs.Kinds.{start_effect, clean_effect, pass_effect, finish_effect, end_effect}
use Rattle.rev_events.specs.Laws.{OutputsOnce, WritesOnce}
use Rattle.rev_events.specs.Machine.{of_edge, effect, write_marks}
use Rattle.rev_events.specs.Written.{start_writes, mark_writes, finish_writes, end_writes, written}

-- KEYS
pub keys-append : (xs ys : Effect) → keys_of (xs ++ ys) ≡ keys_of xs ++ keys_of ys
keys-append [] ys = refl
keys-append (x ∷ xs) ys = ap (λ (ks : List Cell). x.0 ∷ ks) (keys-append xs ys)

pub keys-slot : (pool : Option (ℕ × ℕ)) (slot holder : Option ℕ) → keys_of (write_slot pool slot holder) ≡ slot_cells pool slot
keys-slot None None holder = refl
keys-slot None (Some slot) holder = refl
keys-slot (Some pool) None holder = refl
keys-slot (Some pool) (Some slot) holder = refl

pub keys-held : (pool : Option (ℕ × ℕ)) (m : Mark) → keys_of (free_held pool m) ≡ held_cells pool m
keys-held pool (mark.Running job slot seen) = ap (λ (ks : List Cell). cell.Job job ∷ ks) (keys-slot pool slot None)
keys-held pool (mark.Done changed) = refl
keys-held pool mark.Idle = refl
keys-held pool mark.Wanted = refl
keys-held pool mark.Through = refl
keys-held pool mark.Clean = refl
keys-held pool mark.Failed = refl
keys-held pool mark.Stopped = refl

pub keys-stamps : (paths : List (List ℕ)) (stamps : List ℕ) → keys_of (write_stamps paths stamps) ≡ stamp_cells paths
keys-stamps [] stamps = refl
keys-stamps (path ∷ paths) stamps = ap (λ (ks : List Cell). cell.Stamp path ∷ ks) (keys-stamps paths (rest_of stamps))

pub keys-built : (command : List ℕ) (seen : ℕ) (paths : List (List ℕ)) (flags : List Bool) (stamps : List ℕ) → keys_of (write_built command seen paths flags stamps) ≡ built_cells paths
keys-built command seen [] flags stamps = refl
keys-built command seen (path ∷ paths) flags stamps = ap (λ (ks : List Cell). cell.Built path ∷ ks) (keys-built command seen paths (rest_of flags) (rest_of stamps))

pub keys-first-deps : (paths : List (List ℕ)) (stamps : List ℕ) (listing : Listing) → keys_of (write_first_deps paths stamps listing) ≡ first_deps_cell paths
keys-first-deps [] stamps listing = refl
keys-first-deps (path ∷ paths) stamps listing = refl

pub keys-deps : (build : BuildValue) (stamps : List ℕ) (listing : Listing) → keys_of (write_deps build stamps listing) ≡ deps_cells build
keys-deps build stamps listing = by build.keeps_deps
  where
    by : (b : Bool) → keys_of (if b then write_first_deps (outputs_of build) stamps listing else []) ≡ (if b then first_deps_cell (outputs_of build) else [])
    by true = keys-first-deps (outputs_of build) stamps listing
    by false = refl

-- THE KINDS OF CELLS AS NUMBERS
abbrev kind : Cell → ℕ
kind (cell.Stamp path) = 0
kind (cell.Mark edge) = 1
kind (cell.Job job) = 2
kind (cell.Slot pool place) = 3
kind (cell.Built path) = 4
kind (cell.Deps path) = 5
kind cell.Halted = 6
kind (cell.Depth pool) = 7

-- all these cells are of kinds in between
abbrev Within : ℕ → ℕ → List Cell → Type 0
Within low high cs = (c : Cell) → Has cs c → (low ≤ kind c) × (kind c ≤ high)

none-within : (low high : ℕ) → Within low high []
none-within low high c h = absurd h

one-within : (low high : ℕ) (c : Cell) → low ≤ kind c → kind c ≤ high → Within low high (c ∷ [])
one-within low high c l u x (inl e) = (rw (← e) l, rw (← e) u)
one-within low high c l u x (inr h) = absurd h

append-within : (low high : ℕ) (xs ys : List Cell) → Within low high xs → Within low high ys → Within low high (xs ++ ys)
append-within low high [] ys a b c h = b c h
append-within low high (x ∷ xs) ys a b c (inl e) = a c (inl e)
append-within low high (x ∷ xs) ys a b c (inr h) = append-within low high xs ys (λ d k. a d (inr k)) b c h

append-cases : {X : Type 0} (xs ys : List X) (x : X) → Has (xs ++ ys) x → Has xs x ⊎ Has ys x
append-cases [] ys x h = inr h
append-cases (z ∷ xs) ys x (inl e) = inl (inl e)
append-cases (z ∷ xs) ys x (inr h) = elim (append-cases xs ys x h) [ inl a ↦ inl (inr a) | inr b ↦ inr b ]

-- lists of kinds that are apart
apart-append : (middle : ℕ) (low high : ℕ) (xs ys : List Cell) → Within low middle xs → Within (suc middle) high ys → Distinct xs → Distinct ys → Distinct (xs ++ ys)
apart-append middle low high [] ys a b d e = e
apart-append middle low high (x ∷ xs) ys a b d e = (
  λ h. elim (append-cases xs ys x h) [
    | inl k ↦ d.0 k
    | inr k ↦ omega (arith, (a x (inl refl)).1, (b x k).0)
  ],
  apart-append middle low high xs ys (λ c k. a c (inr k)) b d.1 e,
)

path_in : Cell → List ℕ
path_in (cell.Stamp path) = path
path_in (cell.Built path) = path
path_in _ = []

map-has : {X : Type 0} (f : X → Cell) (g : Cell → X) → ((x : X) → g (f x) ≡ x) → (xs : List X) (x : X) → Has (map f xs) (f x) → Has xs x
map-has f g back [] x h = h
map-has f g back (z ∷ xs) x (inl e) = inl (sym (back z) ∙ ap g e ∙ back x)
map-has f g back (z ∷ xs) x (inr h) = inr (map-has f g back xs x h)

map-once : {X : Type 0} (f : X → Cell) (g : Cell → X) → ((x : X) → g (f x) ≡ x) → (xs : List X) → Distinct xs → Distinct (map f xs)
map-once f g back [] d = tt
map-once f g back (x ∷ xs) d = (λ h. d.0 (map-has f g back xs x h), map-once f g back xs d.1)

map-within : {X : Type 0} (f : X → Cell) (k : ℕ) → ((x : X) → kind (f x) ≡ k) → (xs : List X) → Within k k (map f xs)
map-within f k is [] c h = absurd h
map-within f k is (x ∷ xs) c (inl e) = (omega (arith, is x, ap kind e), omega (arith, is x, ap kind e))
map-within f k is (x ∷ xs) c (inr h) = map-within f k is xs c h

stamps-once : (paths : List (List ℕ)) → Distinct paths → Distinct (stamp_cells paths)
unfolding path_in
stamps-once paths d = map-once cell.Stamp path_in (λ x. refl) paths d

built-once : (paths : List (List ℕ)) → Distinct paths → Distinct (built_cells paths)
unfolding path_in
built-once paths d = map-once cell.Built path_in (λ x. refl) paths d

edge_in : Cell → ℕ
edge_in (cell.Mark edge) = edge
edge_in _ = 0

marks-once : (edges : List ℕ) → Distinct edges → Distinct (map cell.Mark edges)
unfolding edge_in
marks-once edges d = map-once cell.Mark edge_in (λ x. refl) edges d

range-above : (n a k : ℕ) → Has (range_with_len a n) k → a ≤ k
range-above zero a k h = absurd h
range-above (suc n) a k (inl e) = omega (arith, e)
range-above (suc n) a k (inr h) = omega (arith, range-above n (a + 1) k h)

range-once : (n a : ℕ) → Distinct (range_with_len a n)
range-once zero a = tt
range-once (suc n) a = (λ h. omega (arith, range-above n (a + 1) a h), range-once n (a + 1))

-- the cells that a plan writes
pub plan-once : (n : ℕ) → Distinct (map cell.Mark (range_with_len 0 n) ++ cell.Halted ∷ [])
plan-once n =
    apart-append 1 1 6 (map cell.Mark (range_with_len 0 n)) (cell.Halted ∷ []) (map-within cell.Mark 1 (λ x. refl) (range_with_len 0 n))
    (one-within 2 6 cell.Halted (omega arith) (omega arith)) (marks-once (range_with_len 0 n) (range-once n 0)) (λ h. h, tt)

wider : (low high low' high' : ℕ) (cs : List Cell) → low' ≤ low → high ≤ high' → Within low high cs → Within low' high' cs
wider low high low' high' cs l u w c h = (omega (arith, l, (w c h).0), omega (arith, u, (w c h).1))

-- A MARK, THEN JOB AND SLOT, THEN BUILT AND DEPS; the stamps stand between, so they are taken apart from the rest
one-once : (c : Cell) → Distinct (c ∷ [])
one-once c = (λ h. h, tt)

slots-once : (pool : Option (ℕ × ℕ)) (slot : Option ℕ) → Distinct (slot_cells pool slot) × Within 3 3 (slot_cells pool slot)
slots-once None None = (tt, none-within 3 3)
slots-once None (Some q) = (tt, none-within 3 3)
slots-once (Some p) None = (tt, none-within 3 3)
slots-once (Some p) (Some q) = (one-once (cell.Slot p.0 q), one-within 3 3 (cell.Slot p.0 q) (omega arith) (omega arith))

job-slot-once : (job : ℕ) (pool : Option (ℕ × ℕ)) (slot : Option ℕ) → Distinct (cell.Job job ∷ slot_cells pool slot) × Within 2 3 (cell.Job job ∷ slot_cells pool slot)
job-slot-once job pool slot =
    let s = slots-once pool slot in (
      apart-append 2 2 3 (cell.Job job ∷ []) (slot_cells pool slot) (one-within 2 2 (cell.Job job) (omega arith) (omega arith)) s.1 (one-once (cell.Job job)) s.0,
      append-within 2 3 (cell.Job job ∷ []) (slot_cells pool slot) (one-within 2 3 (cell.Job job) (omega arith) (omega arith)) (wider 3 3 2 3 (slot_cells pool slot) (omega arith) (omega arith) s.1),
    )

held-once : (pool : Option (ℕ × ℕ)) (m : Mark) → Distinct (held_cells pool m) × Within 2 3 (held_cells pool m)
held-once pool (mark.Running job slot seen) = job-slot-once job pool slot
held-once pool (mark.Done changed) = (tt, none-within 2 3)
held-once pool mark.Idle = (tt, none-within 2 3)
held-once pool mark.Wanted = (tt, none-within 2 3)
held-once pool mark.Through = (tt, none-within 2 3)
held-once pool mark.Clean = (tt, none-within 2 3)
held-once pool mark.Failed = (tt, none-within 2 3)
held-once pool mark.Stopped = (tt, none-within 2 3)

first-deps-once : (paths : List (List ℕ)) → Distinct (first_deps_cell paths) × Within 5 5 (first_deps_cell paths)
first-deps-once [] = (tt, none-within 5 5)
first-deps-once (path ∷ paths) = (one-once (cell.Deps path), one-within 5 5 (cell.Deps path) (omega arith) (omega arith))

deps-once : (build : BuildValue) → Distinct (deps_cells build) × Within 5 5 (deps_cells build)
deps-once build = by build.keeps_deps (outputs_of build)
  where
    by : (b : Bool) (paths : List (List ℕ)) → Distinct (if b then first_deps_cell paths else []) × Within 5 5 (if b then first_deps_cell paths else [])
    by true paths = first-deps-once paths
    by false paths = (tt, none-within 5 5)

-- lists that share nothing
split-once : (xs ys : List Cell) → Distinct xs → Distinct ys → ((c : Cell) → Has xs c → Has ys c → ⊥) → Distinct (xs ++ ys)
split-once [] ys d e none = e
split-once (x ∷ xs) ys d e none = (
  λ h. elim (append-cases xs ys x h) [ inl k ↦ d.0 k | inr k ↦ none x (inl refl) k ],
  split-once xs ys d.1 e (λ c h k. none c (inr h) k),
)

end-once : (edge : ℕ) (pool : Option (ℕ × ℕ)) (m : Mark) → Distinct (cell.Mark edge ∷ held_cells pool m) × Within 1 3 (cell.Mark edge ∷ held_cells pool m)
end-once edge pool m =
    let h = held-once pool m in (
      apart-append 1 1 3 (cell.Mark edge ∷ []) (held_cells pool m) (one-within 1 1 (cell.Mark edge) (omega arith) (omega arith)) h.1 (one-once (cell.Mark edge)) h.0,
      append-within 1 3 (cell.Mark edge ∷ []) (held_cells pool m) (one-within 1 3 (cell.Mark edge) (omega arith) (omega arith)) (wider 2 3 1 3 (held_cells pool m) (omega arith) (omega arith) h.1),
    )

files-once : (build : BuildValue) → Distinct (outputs_of build) → Distinct (built_cells (outputs_of build) ++ deps_cells build) × Within 4 5 (built_cells (outputs_of build) ++ deps_cells build)
files-once build d =
    let b = built_cells (outputs_of build) in
    let k = deps-once build in
    let w : Within 4 4 (built_cells (outputs_of build)) = map-within cell.Built 4 (λ x. refl) (outputs_of build) in (
      apart-append 4 4 5 (built_cells (outputs_of build)) (deps_cells build) w k.1 (built-once (outputs_of build) d) k.0,
      append-within 4 5 (built_cells (outputs_of build)) (deps_cells build) (wider 4 4 4 5 (built_cells (outputs_of build)) (omega arith) (omega arith) w) (wider 5 5 4 5 (deps_cells build) (omega arith) (omega arith) k.1),
    )

stamps-within : (paths : List (List ℕ)) → Within 0 0 (stamp_cells paths)
stamps-within paths = map-within cell.Stamp 0 (λ x. refl) paths

module _ (manifest : ManifestValue) where
  at-once : (o : Option ℕ) (w : ℕ → List Cell) → ((edge : ℕ) → Distinct (w edge)) → Distinct (of_edge [] w o)
  at-once None w each = tt
  at-once (Some edge) w each = each edge

  pub written-once : (s : State) (e : Event) → OutputsOnce manifest → Distinct (written manifest s e)
  unfolding written start_writes mark_writes finish_writes end_writes
  written-once s (Plan targets) outs = plan-once (length manifest.builds)
  written-once s (Start out job slot) outs = at-once (producer_of manifest.builds out) _ (λ edge.
      let j = job-slot-once job (pool_of manifest edge) slot in
      apart-append 1 1 3 (cell.Mark edge ∷ []) (cell.Job job ∷ slot_cells (pool_of manifest edge) slot) (one-within 1 1 (cell.Mark edge) (omega arith) (omega arith)) j.1 (one-once (cell.Mark edge)) j.0)
  written-once s (Finish out stamps listing) outs = at-once (producer_of manifest.builds out) _ (λ edge.
      let build = build_at manifest.builds edge in
      let f = files-once build (outs edge) in
      let h = end-once edge (pool_of manifest edge) (mark_of s edge) in
      split-once (cell.Mark edge ∷ held_cells (pool_of manifest edge) (mark_of s edge)) (stamp_cells (outputs_of build) ++ (built_cells (outputs_of build) ++ deps_cells build)) h.0
      (apart-append 0 0 5 (stamp_cells (outputs_of build)) (built_cells (outputs_of build) ++ deps_cells build) (stamps-within (outputs_of build))
      (wider 4 5 1 5 (built_cells (outputs_of build) ++ deps_cells build) (omega arith) (omega arith) f.1) (stamps-once (outputs_of build) (outs edge)) f.0)
      (λ c a b. elim (append-cases (stamp_cells (outputs_of build)) (built_cells (outputs_of build) ++ deps_cells build) c b) [
        | inl k ↦ omega (arith, (h.1 c a).0, (stamps-within (outputs_of build) c k).1)
        | inr k ↦ omega (arith, (h.1 c a).1, (f.1 c k).0)
      ]))
  written-once s (Fail out stamps) outs = at-once (producer_of manifest.builds out) _ (λ edge. ended s outs edge)
    where
      ended : (s : State) → OutputsOnce manifest → (edge : ℕ) → Distinct (cell.Mark edge ∷ held_cells (pool_of manifest edge) (mark_of s edge) ++ stamp_cells (outputs_of (build_at manifest.builds edge)))
      ended s outs edge =
          let build = build_at manifest.builds edge in
          let h = end-once edge (pool_of manifest edge) (mark_of s edge) in
          split-once (cell.Mark edge ∷ held_cells (pool_of manifest edge) (mark_of s edge)) (stamp_cells (outputs_of build)) h.0 (stamps-once (outputs_of build) (outs edge))
          (λ c a k. omega (arith, (h.1 c a).0, (stamps-within (outputs_of build) c k).1))
  written-once s (Abort out stamps) outs = at-once (producer_of manifest.builds out) _ (λ edge.
      let build = build_at manifest.builds edge in
      let h = end-once edge (pool_of manifest edge) (mark_of s edge) in
      split-once (cell.Mark edge ∷ held_cells (pool_of manifest edge) (mark_of s edge)) (stamp_cells (outputs_of build)) h.0 (stamps-once (outputs_of build) (outs edge))
      (λ c a k. omega (arith, (h.1 c a).0, (stamps-within (outputs_of build) c k).1)))
  written-once s (Clean out) outs = at-once (producer_of manifest.builds out) _ (λ edge. one-once (cell.Mark edge))
  written-once s (Pass out) outs = at-once (producer_of manifest.builds out) _ (λ edge. one-once (cell.Mark edge))
  written-once s (Touch path stamp) outs = one-once (cell.Stamp path)
  written-once s Interrupt outs = one-once cell.Halted
  written-once s (Resize pool depth) outs = one-once (cell.Depth pool)

  -- the keys of an effect are the written cells
  keys-marks : (edges : List ℕ) (f : ℕ → Mark) → keys_of (write_marks edges (map f edges)) ≡ map cell.Mark edges
  keys-marks [] f = refl
  keys-marks (edge ∷ edges) f = ap (λ (ks : List Cell). cell.Mark edge ∷ ks) (keys-marks edges f)

  keys-plan : (s : State) (targets : List (List ℕ)) → keys_of (effect manifest s (Plan targets)) ≡ written manifest s (Plan targets)
  unfolding effect written marks_of
  keys-plan s targets =
      let roots = producers_in manifest.builds (targets_or manifest.defaults targets) in
      let edges = edge_numbers manifest.builds in
      keys-append (write_marks edges (map (mark_for manifest.builds s roots) edges)) (write cell.Halted (value.Halted false) ∷ [])
      ∙ ap (λ (ks : List Cell). ks ++ cell.Halted ∷ []) (keys-marks edges (mark_for manifest.builds s roots))

  at-keys : (o : Option ℕ) (e : ℕ → Effect) (w : ℕ → List Cell) → ((edge : ℕ) → keys_of (e edge) ≡ w edge) → keys_of (of_edge [] e o) ≡ of_edge [] w o
  at-keys None e w each = refl
  at-keys (Some edge) e w each = each edge

  start-keys : (edge job : ℕ) (slot : Option ℕ) (s : State) → keys_of (start_effect manifest edge job slot s) ≡ start_writes manifest edge job slot s
  unfolding start_effect start_writes
  start-keys edge job slot s = ap (λ (ks : List Cell). cell.Mark edge ∷ cell.Job job ∷ ks) (keys-slot (pool_of manifest edge) slot (Some edge))

  clean-keys : (edge : ℕ) (s : State) → keys_of (clean_effect manifest edge s) ≡ mark_writes manifest edge s
  unfolding clean_effect mark_writes
  clean-keys edge s = refl

  pass-keys : (edge : ℕ) (s : State) → keys_of (pass_effect manifest edge s) ≡ mark_writes manifest edge s
  unfolding pass_effect mark_writes
  pass-keys edge s = refl

  finish-keys : (edge : ℕ) (stamps : List ℕ) (listing : Listing) (s : State) → keys_of (finish_effect manifest edge stamps listing s) ≡ finish_writes manifest edge s
  unfolding finish_effect finish_writes
  finish-keys edge stamps listing s =
      let build = build_at manifest.builds edge in
      let m = mark_of s edge in
      let pool = pool_of manifest edge in
      let outs = outputs_of build in
      let flags = changes build.restat (map (stamp_of s) outs) stamps in
      let records = write_built build.command (seen_by m) outs flags stamps in
      let deps = write_deps build stamps listing in
      let back : keys_of (records ++ deps) ≡ built_cells outs ++ deps_cells build =
      keys-append records deps ∙ (λ i. keys-built build.command (seen_by m) outs flags stamps i ++ keys-deps build stamps listing i) in
      let middle : keys_of (write_stamps outs stamps ++ (records ++ deps)) ≡ stamp_cells outs ++ (built_cells outs ++ deps_cells build) =
      keys-append (write_stamps outs stamps) (records ++ deps) ∙ (λ i. keys-stamps outs stamps i ++ back i) in
      ap (λ (ks : List Cell). cell.Mark edge ∷ ks) (keys-append (free_held pool m) (write_stamps outs stamps ++ (records ++ deps)) ∙ (λ i. keys-held pool m i ++ middle i))

  end-keys : (edge : ℕ) (stamps : List ℕ) (ended : Mark) (s : State) → keys_of (end_effect manifest edge stamps ended s) ≡ end_writes manifest edge s
  unfolding end_effect end_writes
  end-keys edge stamps ended s =
      let m = mark_of s edge in
      let pool = pool_of manifest edge in
      let outs = outputs_of (build_at manifest.builds edge) in
      ap (λ (ks : List Cell). cell.Mark edge ∷ ks) (keys-append (free_held pool m) (write_stamps outs stamps) ∙ (λ i. keys-held pool m i ++ keys-stamps outs stamps i))

  pub written-same : (s : State) (e : Event) → keys_of (effect manifest s e) ≡ written manifest s e
  unfolding effect written
  written-same s (Plan targets) = keys-plan s targets
  written-same s (Start out job slot) = at-keys (producer_of manifest.builds out) _ _ (λ edge. start-keys edge job slot s)
  written-same s (Finish out stamps listing) = at-keys (producer_of manifest.builds out) _ _ (λ edge. finish-keys edge stamps listing s)
  written-same s (Fail out stamps) = at-keys (producer_of manifest.builds out) _ _ (λ edge. end-keys edge stamps mark.Failed s)
  written-same s (Abort out stamps) = at-keys (producer_of manifest.builds out) _ _ (λ edge. end-keys edge stamps mark.Stopped s)
  written-same s (Clean out) = at-keys (producer_of manifest.builds out) _ _ (λ edge. clean-keys edge s)
  written-same s (Pass out) = at-keys (producer_of manifest.builds out) _ _ (λ edge. pass-keys edge s)
  written-same s (Touch path stamp) = refl
  written-same s Interrupt = refl
  written-same s (Resize pool depth) = refl

pub writes-once : WritesOnce
writes-once = record { same = written-same; once = written-once }
