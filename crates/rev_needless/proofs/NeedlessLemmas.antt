-- From tests of all that stays to the definition.
use Rattle.std.proofs.Common.{◌≡◌, ◌↔◌, ℕ, ◌<◌, Bool, true, false, List, length, Contains, refl, sym, ap, subst, ◌∙◌, arith}
use Rattle.std.specs.Prelude.{◌&&◌}
use Rattle.std.specs.Global.{Vec}
use Rattle.std.specs.List.{list_all, range_with_len}
use Rattle.std.proofs.lemmas.Bool.{and_from, and_parts, cases_Bool}
use Rattle.rev_ranks.specs.Graph.{Reaches, Steps, graph_of, successors_of}
use Rattle.rev_ranks.specs.Sets.{IsMarked, is_marked}
use Rattle.rev_ranks.proofs.Marks.{marked_within}
use Rattle.rev_ranks.proofs.Ways.{reaches_from_node}
use Rattle.rev_needless.specs.declared.known.Known.{Known}
use Rattle.rev_needless.specs.Needless.{IsNeedless, Stays}
use Rattle.rev_needless.specs.Staying.{all_stay, are_awaited, each_command, implies, roots_stay, row_stays, rows_stay, still_waits, waits}
use Rattle.rev_needless.specs.Without.{without}
use Rattle.rev_needless.proofs.ListLemmas.{all-at, all-from, contains-range}
use Rattle.rev_needless.proofs.StayLemmas.{implies-gives, way-waits, waits-way}

-- a test that implies another
gives-implies : (one other : Bool) → (one ≡ true → other ≡ true) → implies one other ≡ true
gives-implies true other h = h refl
gives-implies false other h = refl

pub waits-still : (before after : List (List ℕ)) (a b : ℕ) → still_waits before after a b ≡ true → Reaches before a b → Reaches after a b
waits-still before after a b h way = waits-way after a b (implies-gives (waits before a b) (waits after a b) h (way-waits before a b way))

still-waits : (before after : List (List ℕ)) (a b : ℕ) → (Reaches before a b → Reaches after a b) → still_waits before after a b ≡ true
still-waits before after a b h = gives-implies (waits before a b) (waits after a b) (λ w. way-waits after a b (h (waits-way before a b w)))

-- EACH COMMAND
command-passes : (commands : List Bool) (test : ℕ → Bool) → each_command commands test ≡ true → (n : ℕ) → IsMarked commands n → test n ≡ true
command-passes commands test all n marked =
    implies-gives (is_marked commands n) (test n)
    (all-at (λ k. implies (is_marked commands k) (test k)) (range_with_len 0 (length commands)) n all (contains-range 0 (length commands) n (omega arith) (omega (arith, marked_within commands n marked)))) marked

commands-pass : (commands : List Bool) (test : ℕ → Bool) → ((n : ℕ) → IsMarked commands n → test n ≡ true) → each_command commands test ≡ true
commands-pass commands test each =
    all-from (λ k. implies (is_marked commands k) (test k)) (range_with_len 0 (length commands)) (λ n there. gives-implies (is_marked commands n) (test n) (each n))

-- ALL
module _ (known : Known) (gone : List (List Bool)) where
  abbrev before : List (List ℕ)
  before = graph_of known.steps.items

  abbrev after : List (List ℕ)
  after = without (graph_of known.steps.items) gone

  abbrev rows : List (List ℕ)
  rows = graph_of known.conflicts.items

  abbrev commands : List Bool
  commands = known.commands.items

  row-of-all : rows_stay before after rows ≡ true → (user maker : ℕ) → Steps rows user maker → Stays known gone user maker
  row-of-all all user maker step way =
      let within : user < length before = reaches_from_node way in
      let row = all-at (λ u. row_stays before after u (successors_of rows u)) (range_with_len 0 (length before)) user all (contains-range 0 (length before) user (omega arith) (omega (arith, within))) in
      waits-still before after user maker (all-at (still_waits before after user) (successors_of rows user) maker row step) way

  all-of-rows : ((user maker : ℕ) → Steps rows user maker → Stays known gone user maker) → rows_stay before after rows ≡ true
  all-of-rows each = all-from (λ u. row_stays before after u (successors_of rows u)) (range_with_len 0 (length before)) (λ user there.
      all-from (still_waits before after user) (successors_of rows user) (λ maker step. still-waits before after user maker (each user maker step)))

  root-of-all : (roots : List ℕ) → roots_stay before after commands roots ≡ true → (root : ℕ) → Contains roots root → (command : ℕ) → IsMarked commands command → Stays known gone root command
  root-of-all roots all root there command marked =
      waits-still before after root command (command-passes commands (still_waits before after root) (all-at (λ r. each_command commands (still_waits before after r)) roots root all there) command marked)

  all-of-roots : (roots : List ℕ) → ((root : ℕ) → Contains roots root → (command : ℕ) → IsMarked commands command → Stays known gone root command) → roots_stay before after commands roots ≡ true
  all-of-roots roots each = all-from (λ r. each_command commands (still_waits before after r)) roots (λ root there.
      commands-pass commands (still_waits before after root) (λ command marked. still-waits before after root command (each root there command marked)))

  awaited-of-all : (nodes : List ℕ) → are_awaited before after commands nodes ≡ true → (node : ℕ) → Contains nodes node → (command : ℕ) → IsMarked commands command → Stays known gone command node
  awaited-of-all nodes all node there command marked =
      waits-still before after command node
      (command-passes commands (λ c. still_waits before after c node) (all-at (λ n. each_command commands (λ c. still_waits before after c n)) nodes node all there) command marked)

  all-of-awaited : (nodes : List ℕ) → ((node : ℕ) → Contains nodes node → (command : ℕ) → IsMarked commands command → Stays known gone command node) → are_awaited before after commands nodes ≡ true
  all-of-awaited nodes each = all-from (λ n. each_command commands (λ c. still_waits before after c n)) nodes (λ node there.
      commands-pass commands (λ c. still_waits before after c node) (λ command marked. still-waits before after command node (each node there command marked)))

  needless-of-all : all_stay before after rows known.targets.items known.unseen.items commands ≡ true → IsNeedless known gone
  unfolding all_stay
  needless-of-all all =
      let a = and_parts (rows_stay before after rows) (roots_stay before after commands known.targets.items && (roots_stay before after commands known.unseen.items && are_awaited before after commands known.unseen.items)) all in
      let b = and_parts (roots_stay before after commands known.targets.items) (roots_stay before after commands known.unseen.items && are_awaited before after commands known.unseen.items) a.1 in
      let d = and_parts (roots_stay before after commands known.unseen.items) (are_awaited before after commands known.unseen.items) b.1 in
      record {
        ordered = row-of-all a.0;
        reached = root-of-all known.targets.items b.0;
        below = root-of-all known.unseen.items d.0;
        above = awaited-of-all known.unseen.items d.1;
      }

  all-of-needless : IsNeedless known gone → all_stay before after rows known.targets.items known.unseen.items commands ≡ true
  unfolding all_stay
  all-of-needless needless =
      and_from (rows_stay before after rows) (roots_stay before after commands known.targets.items && (roots_stay before after commands known.unseen.items && are_awaited before after commands known.unseen.items))
      (all-of-rows needless.ordered)
      (and_from (roots_stay before after commands known.targets.items) (roots_stay before after commands known.unseen.items && are_awaited before after commands known.unseen.items)
      (all-of-roots known.targets.items needless.reached)
      (and_from (roots_stay before after commands known.unseen.items) (are_awaited before after commands known.unseen.items) (all-of-roots known.unseen.items needless.below)
      (all-of-awaited known.unseen.items needless.above)))

  pub needless-is : (answer : Bool) (left : List (List ℕ)) → left ≡ after → answer ≡ all_stay before left rows known.targets.items known.unseen.items commands → (answer ≡ true) ↔ IsNeedless known gone
  needless-is answer left is answered =
      let whole : answer ≡ all_stay before after rows known.targets.items known.unseen.items commands =
      answered ∙ ap (λ (g : List (List ℕ)). all_stay before g rows known.targets.items known.unseen.items commands) is in
      (λ h. needless-of-all (sym whole ∙ h), λ needless. whole ∙ all-of-needless needless)
