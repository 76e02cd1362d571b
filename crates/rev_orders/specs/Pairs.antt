-- Pairs of commands that do not wait for each other, and the ways in which orders have them. An order is here the place
-- of each node.
use Rattle.std.specs.Prelude.{◌≡◌, ℕ, zero, suc, ◌+◌, ◌<◌, ◌≤◌, nat_eq, nat_lt, Bool, not, ◌&&◌, cond, List, ◌∷◌, take, map, length}
use Rattle.std.specs.List.{list_any, list_all}
use Rattle.rev_ranks.specs.Leads.{leads_to}
use Rattle.rev_ranks.specs.Sets.{is_marked}
use Rattle.rev_orders.specs.declared.order.Order.{Order}
use Rattle.rev_orders.specs.Orders.{at}

-- the one node waits for the other: a way of one step or more leads there
abbrev pub waits : List (List ℕ) → ℕ → ℕ → Bool
waits graph n m = leads_to graph (nat_eq m) n

-- two commands of which neither waits for the other
abbrev pub is_unordered : List (List ℕ) → List Bool → ℕ → ℕ → Bool
is_unordered graph commands n m = is_marked commands n && (is_marked commands m && (not (waits graph n m) && not (waits graph m n)))

-- one of the orders has the one node before the other
abbrev pub stood : List (List ℕ) → ℕ → ℕ → Bool
stood orders n m = list_any (λ places. nat_lt (at places n) (at places m)) orders

-- an unordered pair that did not stand both ways in these orders
abbrev pub is_left : List (List ℕ) → List Bool → List (List ℕ) → ℕ → ℕ → Bool
is_left graph commands orders n m = is_unordered graph commands n m && not (stood orders n m && stood orders m n)

-- how many numbers below a bound pass
abbrev pub count : (ℕ → Bool) → ℕ → ℕ
count test zero = 0
count test (suc n) = cond (test n) (count test n + 1) (count test n)

-- how many pairs of numbers below a bound pass, each pair once
abbrev pub count_pairs : (ℕ → ℕ → Bool) → ℕ → ℕ
count_pairs test zero = 0
count_pairs test (suc k) = count_pairs test k + count (λ j. test j k) k

-- how many pairs of nodes pass, each once, of those that stand first in an order
abbrev pub count_nodes : (ℕ → ℕ → Bool) → List ℕ → ℕ → ℕ
count_nodes test nodes bound = count_pairs (λ j k. test (at nodes j) (at nodes k)) bound

-- the places of each of the orders
abbrev pub places_of : List Order → List (List ℕ)
places_of orders = map (λ (o : Order). o.places.items) orders

-- Of the pairs of nodes that stand first in the first order so many are unordered, and so many are left once each
-- further order has run, too.
pub record AreCounts (graph : List (List ℕ)) (commands : List Bool) (nodes places : List ℕ) (orders : List (List ℕ)) (bound unordered : ℕ) (left : List ℕ) : Type 0 where
  pub each : length left ≡ length orders
  pub all : unordered ≡ count_nodes (is_unordered graph commands) nodes bound
  pub exact : (i : ℕ) → i < length orders
      → at left i ≡ count_nodes (is_left graph commands (places ∷ take (i + 1) orders)) nodes bound

-- A ROW: THE PAIRS OF ONE PLACE WITH EACH EARLIER ONE
-- the marks of the first numbers are those of a test
pub record IsRow (test : ℕ → Bool) (numbers : ℕ) (row : List Bool) : Type 0 where
  pub each : length row ≡ numbers
  pub exact : (j : ℕ) → j < numbers → is_marked row j ≡ test j

-- Of the first numbers those alone keep their marks that pass, and there are so many.
pub record IsNarrowed (before : List Bool) (test : ℕ → Bool) (numbers : ℕ) (row : List Bool) (left : ℕ) : Type 0 where
  pub each : length row ≡ length before
  pub done : (j : ℕ) → j < numbers → is_marked row j ≡ (is_marked before j && test j)
  pub rest : (j : ℕ) → numbers ≤ j → is_marked row j ≡ is_marked before j
  pub left_is : left ≡ count (λ j. is_marked before j && test j) numbers

-- the order has the node at one place of the nodes before the node at another
abbrev pub is_before : List ℕ → ℕ → List ℕ → ℕ → Bool
is_before nodes place places j = nat_lt (at places (at nodes j)) (at places (at nodes place))

-- each of the orders has
abbrev pub are_before : List ℕ → ℕ → List (List ℕ) → ℕ → Bool
are_before nodes place orders j = list_all (λ places. is_before nodes place places j) orders

-- The row of a place was narrowed by the first orders, and what each of them left of it was added to the numbers.
pub record IsAdded (nodes : List ℕ) (place : ℕ) (orders : List (List ℕ)) (row_before : List Bool) (left_before : List ℕ) (done : ℕ) (row : List Bool) (left : List ℕ) : Type 0 where
  pub each_mark : length row ≡ length row_before
  pub each : length left ≡ length left_before
  pub row_is : (j : ℕ) → j < place → is_marked row j ≡ (is_marked row_before j && are_before nodes place (take done orders) j)
  pub added : (i : ℕ) → i < done
      → at left i ≡ at left_before i + count (λ j. is_marked row_before j && are_before nodes place (take (i + 1) orders) j) place
  pub kept : (i : ℕ) → done ≤ i → at left i ≡ at left_before i
