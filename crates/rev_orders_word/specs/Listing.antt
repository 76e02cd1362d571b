-- Orders of the commands of build statements.
use Rattle.std.specs.Prelude.{◌≡◌, ℕ, ◌-◌, nat_eq, if◌then◌else◌, Bool, List, filter, length}
use Rattle.std.specs.List.{All}
use Rattle.rev_manifest.specs.Manifest.{BuildValue}
use Rattle.rev_graph.specs.Graph.{successor_lists}
use Rattle.rev_ranks.specs.Sets.{is_marked}
use Rattle.rev_orders.specs.declared.counting.Counts.{Counts}
use Rattle.rev_orders.specs.declared.order.Order.{Order}
use Rattle.rev_orders.specs.Orders.{at, IsOrder}
use Rattle.rev_orders.specs.Pairs.{places_of, AreCounts}
use Rattle.rev_orders_word.specs.declared.listing.Listed.{Listed}
use Rattle.rev_orders_word.specs.declared.rows.Row.{Row}

-- In each order each statement stands behind all that it waits for. Of the pairs of commands exactly those are counted
-- that do not wait for each other, and behind each further order exactly those that did not stand both ways.
pub record AreListed (builds : List BuildValue) (listed : Listed) : Type 0 where
  pub first : IsOrder (successor_lists builds) listed.first.nodes.items listed.first.places.items
  pub others : All (λ (o : Order). IsOrder (successor_lists builds) o.nodes.items o.places.items) listed.chosen.others.items
  pub counts : AreCounts (successor_lists builds) listed.commands.items listed.first.nodes.items listed.first.places.items
      (places_of listed.chosen.others.items) (length builds) listed.chosen.counts.unordered listed.chosen.counts.left.items

-- A ROW: WHAT IS PRINTED OF AN ORDER
-- the pairs that are left before a further order: all unordered ones, or those that the order before it leaves
abbrev pub left_before : Counts → ℕ → ℕ
left_before counts place = if nat_eq place 0 then counts.unordered else at counts.left.items (place - 1)

-- The commands of an order as they stand there, how many of the pairs that were left before it stand both ways now, and
-- how many are left.
pub record IsRow (commands : List Bool) (nodes : List ℕ) (before left : ℕ) (row : Row) : Type 0 where
  pub commands_are : row.commands.items ≡ filter (is_marked commands) nodes
  pub reversed_are : row.reversed ≡ before - left
  pub left_are : row.left ≡ left
