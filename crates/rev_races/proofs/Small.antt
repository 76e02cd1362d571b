-- Small builds, computed: what waits, what is listed, and a race.
use Rattle.std.proofs.Common.{◌≡◌, ℕ, true, false, List, [], ◌∷◌, Option, Some, None, refl, sym, ap, ◌∙◌, arith, true≢false}
use Rattle.std.specs.FinMap.{empty}
use Rattle.std.specs.Option.{option_map}
use Rattle.std.specs.Prelude.{unwrap_or}
use Rattle.std.proofs.lemmas.List.Elements.{Contains-get_or}
use Rattle.rev_manifest.specs.Manifest.{BuildValue, ManifestValue}
use Rattle.rev_graph.specs.Graph.{no_build}
use Rattle.rev_ranks.specs.Leads.{leads_to}
use Rattle.rev_cells.specs.State.{State}
use Rattle.rev_events.specs.declared.event.Event.TheVariants.{Start, Finish, Fail}
use Rattle.rev_events.specs.declared.event.Listing.TheVariants.{Paths}
use Rattle.rev_history.specs.Timeline.{Numbered}
use Rattle.rev_waits.specs.Waits.{waits, Makes, Makes.itself, Makes.behind}
use Rattle.rev_races.specs.AtOnce.{MayOverlap, ShareOneSlot}
use Rattle.rev_races.specs.Races.{IsRace, lists, recorded}
use Rattle.rev_races.proofs.RaceLemmas.{waits-is-decided}

abbrev file : List ℕ
file = 97 ∷ []

abbrev object : List ℕ
object = 98 ∷ []

abbrev group : List ℕ
group = 99 ∷ []

-- makes the file
abbrev maker : BuildValue
maker = record no_build { explicit_outs = (97 ∷ []) ∷ [] }

-- reads it, and says so in its list alone
abbrev user : BuildValue
user = record no_build { explicit_outs = (98 ∷ []) ∷ []; keeps_deps = true }

-- the same with the file after `||`, and after `|@`
abbrev ordered : BuildValue
ordered = record no_build { explicit_outs = (98 ∷ []) ∷ []; keeps_deps = true; order_only = (97 ∷ []) ∷ [] }

abbrev validating : BuildValue
validating = record no_build { explicit_outs = (98 ∷ []) ∷ []; keeps_deps = true; validations = (97 ∷ []) ∷ [] }

-- a phony group that has the file, and one who waits for it
abbrev grouping : BuildValue
grouping = record no_build { phony = true; explicit_outs = (99 ∷ []) ∷ []; explicit = (97 ∷ []) ∷ [] }

abbrev waiting : BuildValue
waiting = record no_build { explicit_outs = (98 ∷ []) ∷ []; keeps_deps = true; order_only = (99 ∷ []) ∷ [] }

no-order : waits (maker ∷ user ∷ []) 1 0 ≡ false
unfolding leads_to
no-order = refl

an-order : waits (maker ∷ ordered ∷ []) 1 0 ≡ true
unfolding leads_to
an-order = refl

no-order-by-validation : waits (maker ∷ validating ∷ []) 1 0 ≡ false
unfolding leads_to
no-order-by-validation = refl

order-through-phony : waits (maker ∷ grouping ∷ waiting ∷ []) 2 0 ≡ true
unfolding leads_to
order-through-phony = refl

made-behind-phony : Makes (maker ∷ grouping ∷ waiting ∷ []) 0 (99 ∷ [])
made-behind-phony = behind {phony = 1} {input = 97 ∷ []} refl refl (Contains-get_or ((97 ∷ []) ∷ []) 0 (97 ∷ []) (omega arith)) (itself refl refl)

abbrev build : ManifestValue
build = record { builds = maker ∷ user ∷ []; pools = []; defaults = [] }

abbrev listing : Numbered
listing = (1, Start (98 ∷ []) 0 None) ∷ (2, Finish (98 ∷ []) (1 ∷ []) (Paths ((97 ∷ []) ∷ []))) ∷ []

-- it lists what its finish lists; one whose command failed lists what it listed before
listed-by-finish : lists build empty listing 1 ≡ Some ((97 ∷ []) ∷ [])
listed-by-finish = refl

listed-before-a-failure : (opening : State) → lists build opening ((1, Start (98 ∷ []) 0 None) ∷ (2, Fail (98 ∷ []) (1 ∷ [])) ∷ []) 1 ≡ recorded opening user
listed-before-a-failure opening = refl

none-is-no-pool : (own : ℕ × ℕ) → None ≡ Some own → ⊥
none-is-no-pool own h = cc

a-race : IsRace build [] empty listing 1 0 (97 ∷ [])
a-race = record {
  all = (97 ∷ []) ∷ [];
  lists_are = refl;
  is_listed = Contains-get_or ((97 ∷ []) ∷ []) 0 (97 ∷ []) (omega arith);
  made = itself refl refl;
  others = λ e. omega (arith, e);
  unordered = λ way. true≢false (sym ((waits-is-decided build.builds 1 0).1 way) ∙ no-order);
  comes_later = λ m. let f = m.is_file in omega (arith, f.1);
}

-- in the race above nothing keeps the two from running at once; where one pool of depth 1 holds both, that does, and one
-- of depth 2 does not
no-order-back : waits (maker ∷ user ∷ []) 0 1 ≡ false
unfolding leads_to
no-order-back = refl

may-overlap : MayOverlap build 1 0
may-overlap = record {
  others = λ e. omega (arith, e);
  forth = λ way. true≢false (sym ((waits-is-decided build.builds 1 0).1 way) ∙ no-order);
  back = λ way. true≢false (sym ((waits-is-decided build.builds 0 1).1 way) ∙ no-order-back);
  room = λ (pool, mine, his). none-is-no-pool (pool, 1) mine;
}

pooled : ℕ → ManifestValue
pooled depth = record {
  builds = record maker { pool = Some 0 } ∷ record user { pool = Some 0 } ∷ [];
  pools = (112 ∷ [], depth) ∷ [];
  defaults = [];
}

one-slot : ShareOneSlot (pooled 1) 1 0
unfolding pooled
one-slot = (0, refl, refl)

two-slots : ShareOneSlot (pooled 2) 1 0 → ⊥
unfolding pooled
two-slots (pool, mine, his) =
    let same : Some 2 ≡ Some 1 = ap (λ (o : Option (ℕ × ℕ)). option_map (λ (p : ℕ × ℕ). p.1) o) mine in
    let no : 2 ≡ 1 = ap (λ (o : Option ℕ). unwrap_or o 0) same in
    omega (arith, no)
