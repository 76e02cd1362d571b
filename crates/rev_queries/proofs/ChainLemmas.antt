-- The last to end of some runs.
use Rattle.std.proofs.Common.{◌≡◌, ℕ, ◌+◌, ◌<◌, ◌≤◌, Bool, true, false, List, [], ◌∷◌, ◌++◌, Option, Some, None, IfSome, length, drop, get_or, refl, sym, ap, subst, ◌∙◌, arith}
use Rattle.std.specs.Prelude.{◌&&◌, nat_lt, if◌then◌else◌}
use Rattle.std.specs.List.{AllByRecursion}
use Rattle.std.proofs.lemmas.Bool.{ltb-true}
use Rattle.std.proofs.lemmas.List.{append-nil, drop_all, drop_more}
use Rattle.rev_manifest.specs.Builds.{BuildValue}
use Rattle.rev_queries.specs.declared.times.Timed.{Timed}
use Rattle.rev_queries.specs.Critical.{AreWithin, IsChain, IsChain.begun as begun, IsChain.linked as linked, IsLink, is_later, is_recent, later_of, latest_from, latest_of}
use Rattle.rev_queries.proofs.ListLemmas.{all-push}

-- one more run
pub latest-next : (test : Timed → Bool) (best after total : Option Timed) (runs : List Timed) (i : ℕ) (d : Timed)
    → i < length runs → after ≡ (if test (get_or runs i d) then later_of best (get_or runs i d) else best)
    → latest_from test best (drop i runs) ≡ total → latest_from test after (drop (i + 1) runs) ≡ total
latest-next test best after total runs i d within now so =
    ap (λ o. latest_from test o (drop (i + 1) runs)) now
    ∙ sym (ap (latest_from test best) (drop_more runs i d within)) ∙ so

-- the same where it is told beside whether the run passes
pub latest-by : (test : Timed → Bool) (best after total : Option Timed) (runs : List Timed) (i : ℕ) (d : Timed) (b : Bool)
    → i < length runs → b ≡ test (get_or runs i d)
    → after ≡ (if b then later_of best (get_or runs i d) else best)
    → latest_from test best (drop i runs) ≡ total → latest_from test after (drop (i + 1) runs) ≡ total
latest-by test best after total runs i d b within passes now so =
    latest-next test best after total runs i d within
    (now ∙ ap (λ c. if c then later_of best (get_or runs i d) else best) passes) so

-- past the last
pub latest-all : (test : Timed → Bool) (best total : Option Timed) (runs : List Timed) (i : ℕ) → length runs ≤ i
    → latest_from test best (drop i runs) ≡ total → best ≡ total
latest-all test best total runs i past so = sym (ap (latest_from test best) (drop_all i runs past)) ∙ so

-- it is one of them
abbrev IsBelow : ℕ → Option Timed → Type 0
IsBelow edges o = IfSome o (λ r. r.edge < edges)

later-below : (edges : ℕ) (best : Option Timed) (r : Timed) → IsBelow edges best → r.edge < edges
    → IsBelow edges (later_of best r)
later-below edges None r before here = here
later-below edges (Some best) r before here = by (is_later r best)
  where
    by : (b : Bool) → IsBelow edges (if b then Some r else Some best)
    by true = here
    by false = before

step-below : (edges : ℕ) (b : Bool) (best : Option Timed) (r : Timed) → IsBelow edges best → r.edge < edges
    → IsBelow edges (if b then later_of best r else best)
step-below edges true best r before here = later-below edges best r before here
step-below edges false best r before here = before

from-below : (edges : ℕ) (test : Timed → Bool) (best : Option Timed) (runs : List Timed) → IsBelow edges best
    → AreWithin edges runs → IsBelow edges (latest_from test best runs)
from-below edges test best [] before all = before
from-below edges test best (r ∷ rs) before all =
    from-below edges test (if test r then later_of best r else best) rs (step-below edges (test r) best r before all.0)
    all.1

pub latest-below : (edges : ℕ) (test : Timed → Bool) (found : Option Timed) (runs : List Timed)
    → found ≡ latest_from test None runs → AreWithin edges runs → IfSome found (λ r. r.edge < edges)
latest-below edges test found runs is all =
    subst (IsBelow edges) (sym is) (from-below edges test None runs tt all)

-- runs of the last build are of edges
within-where : (builds : List BuildValue) (plan : ℕ) (r : Timed) → is_recent builds plan r ≡ true → r.edge < length builds
within-where builds plan r passes = lt_from (and_right (nat_lt plan r.began) (nat_lt r.edge (length builds)) passes)
  where
    and_right : (a b : Bool) → (a && b) ≡ true → b ≡ true
    and_right true b e = e
    and_right false b e = let no : false ≡ true = e in cc

    lt_from : nat_lt r.edge (length builds) ≡ true → r.edge < length builds
    lt_from e = ltb-true r.edge (length builds) e

pub recent-within : (builds : List BuildValue) (plan : ℕ) (before after : List Timed) (r : Timed) (passes : Bool)
    → passes ≡ is_recent builds plan r → after ≡ before ++ (if passes then r ∷ [] else [])
    → AreWithin (length builds) before → AreWithin (length builds) after
recent-within builds plan before after r passes is now all =
    subst (AreWithin (length builds)) (sym now) (by passes (sym is))
  where
    by : (b : Bool) → is_recent builds plan r ≡ b → AreWithin (length builds) (before ++ (if b then r ∷ [] else []))
    by true e = all-push (λ (q : Timed). q.edge < length builds) before r all (within-where builds plan r e)
    by false e = subst (AreWithin (length builds)) (sym (append-nil before)) all

-- THE CHAIN
pub chain-begun : (builds : List BuildValue) (runs : List Timed) (links : List Timed) (next : Option Timed)
    → links ≡ [] → next ≡ latest_of runs → IsChain builds runs links next
chain-begun builds runs links next none is =
    let P : List Timed → Type 0 = λ chain. IsChain builds runs chain next in
    subst P (sym none) (begun is)

pub chain-linked : (builds : List BuildValue) (runs chain after : List Timed) (before next : Option Timed) (r : Timed)
    → IsChain builds runs chain before → before ≡ Some r → IsLink builds runs r.edge next → after ≡ chain ++ r ∷ []
    → IsChain builds runs after next
chain-linked builds runs chain after before next r so is link now =
    let here : IsChain builds runs chain (Some r) = subst (IsChain builds runs chain) is so in
    let P : List Timed → Type 0 = λ links. IsChain builds runs links next in
    subst P (sym now) (linked here link)
