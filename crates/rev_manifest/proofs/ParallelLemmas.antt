-- Edges that are ended one after another, and in two parts.
use Rattle.std.proofs.Common.{◌≡◌, ℕ, ◌+◌, ◌-◌, ◌≤◌, List, [], ◌∷◌, ◌++◌, Option, Some, None, Result, Ok, Err, refl, sym, ap, ◌∙◌, arith, append_assoc}
use Rattle.std.proofs.lemmas.List.{append-nil}
use Rattle.rev_scopes.specs.Scopes.{ScopeValue, RuleValue}
use Rattle.rev_manifest.specs.declared.fault.ManifestFault.{ManifestFault}
use Rattle.rev_manifest.specs.declared.fault.ReadFault.{ReadFault}
use Rattle.rev_manifest.specs.declared.fault.ReadFault.TheVariants.{Memory, Manifest}
use Rattle.rev_manifest.specs.Answers.{and_then, onto_list, IsFault}
use Rattle.rev_manifest.specs.Pools.{PoolValue}
use Rattle.rev_manifest.specs.Declarations.{DeclaredEdgeValue}
use Rattle.rev_manifest.specs.Ends.{EndValues}
use Rattle.rev_manifest.specs.Made.{left_of, with_left}
use Rattle.rev_manifest.specs.Manifest.{BuildValue, EndedEdge, phony_build, command_build, pool_number, variables_of, built_with, built, builds_of, AreEnded}
use Rattle.rev_manifest.proofs.AnswerLemmas.{onto_list-push, onto_list-nothing, onto_list-append}
use Rattle.rev_manifest.proofs.MadeLemmas.{left-some, left-fits}

abbrev pub Ended : Type 0
Ended = Result EndedEdge ManifestFault

-- an edge goes on alike whatever room there is above what it makes
abbrev pub GoesOn : (ℕ → Ended) → ℕ → EndedEdge → Type 0
GoesOn end room ended =
    (ended.left ≤ room) × ((more : ℕ) → end (room - ended.left + more) ≡ Ok (record { build = ended.build; left = more }))

module _ (scopes : List ScopeValue) (pools : List PoolValue) where
  -- an edge with these values and that pool, where so many bytes are left
  abbrev with_values : DeclaredEdgeValue → EndValues → Result (Option ℕ) ManifestFault → Option ℕ → Ended
  with_values edge values number left =
      with_left edge.place left (λ n. and_then number (λ pool. Ok (record { build = command_build edge values pool; left = n })))

  valued : (edge : DeclaredEdgeValue) (values : EndValues) (room : ℕ) (ended : EndedEdge) (left : Option ℕ) → left_of room values.made ≡ left
      → (number : Result (Option ℕ) ManifestFault) → pool_number edge.place pools values.pool ≡ number → with_values edge values number left ≡ Ok ended
      → GoesOn (λ n. with_values edge values (pool_number edge.place pools values.pool) (left_of n values.made)) room ended
  valued edge values room ended None l number n e = cc
  valued edge values room ended (Some left) l (Err fault) n e = cc
  valued edge values room ended (Some left) l (Ok pool) n e =
      let made : EndedEdge = record { build = command_build edge values pool; left = left } in
      let same : made ≡ ended = cc in
      let build : command_build edge values pool ≡ ended.build = ap (λ (x : EndedEdge). x.build) same in
      let is : left ≡ ended.left = ap (λ (x : EndedEdge). x.left) same in
      let fits = left-fits room values.made left l in
      let few : values.made ≤ room = fits.0 in
      let rest : left ≡ room - values.made = fits.1 in
      let goes : (more : ℕ) → left_of (room - ended.left + more) values.made ≡ Some more =
      λ more. (let enough : values.made ≤ room - ended.left + more = omega arith in
      let after : room - ended.left + more - values.made ≡ more = omega arith in
      left-some (room - ended.left + more) values.made enough ∙ ap Some after) in
      (omega arith, λ more. (λ i. with_values edge values (n i) (goes more i)) ∙ ap (λ (b : BuildValue). Ok (record { build = b; left = more })) build)

  ruled : (edge : DeclaredEdgeValue) (values : Result EndValues ManifestFault) (room : ℕ) (ended : EndedEdge)
      → and_then values (λ v. with_values edge v (pool_number edge.place pools v.pool) (left_of room v.made)) ≡ Ok ended
      → GoesOn (λ n. and_then values (λ v. with_values edge v (pool_number edge.place pools v.pool) (left_of n v.made))) room ended
  ruled edge (Err fault) room ended e = cc
  ruled edge (Ok values) room ended e = valued edge values room ended (left_of room values.made) refl (pool_number edge.place pools values.pool) refl e

  by_rule : (edge : DeclaredEdgeValue) (rule : Option RuleValue) (room : ℕ) (ended : EndedEdge) → built_with scopes pools room edge rule ≡ Ok ended
      → GoesOn (λ n. built_with scopes pools n edge rule) room ended
  by_rule edge None room ended e =
      let made : EndedEdge = record { build = phony_build edge; left = room } in
      let same : made ≡ ended = cc in
      let build : phony_build edge ≡ ended.build = ap (λ (x : EndedEdge). x.build) same in
      let is : room ≡ ended.left = ap (λ (x : EndedEdge). x.left) same in
      let goes : (more : ℕ) → room - ended.left + more ≡ more = λ more. omega arith in
      (omega arith, λ more. (λ i. Ok (record { build = build i; left = goes more i })))
  by_rule edge (Some rule) room ended e = ruled edge (variables_of scopes edge rule) room ended e

  goes_on : (edge : DeclaredEdgeValue) (room : ℕ) (ended : EndedEdge) → built scopes pools room edge ≡ Ok ended → GoesOn (λ n. built scopes pools n edge) room ended
  goes_on edge room ended e = by_rule edge edge.rule room ended e

  abbrev and_others : List DeclaredEdgeValue → Ended → Result (List BuildValue) ManifestFault
  and_others rest first = and_then first (λ ended. and_then (builds_of scopes pools ended.left rest) (λ builds. Ok (ended.build ∷ builds)))

  -- what is known before the first edge
  pub none-ended : (room : ℕ) (edges : List DeclaredEdgeValue) (more : ℕ) (others : List DeclaredEdgeValue)
      → builds_of scopes pools (room - room + more) (edges ++ others) ≡ onto_list [] (builds_of scopes pools more (edges ++ others))
  none-ended room edges more others =
      let same : room - room + more ≡ more = omega arith in
      ap (λ (n : ℕ). builds_of scopes pools n (edges ++ others)) same ∙ sym (onto_list-nothing (builds_of scopes pools more (edges ++ others)))

  module _ (room left : ℕ) (edges : List DeclaredEdgeValue) (edge : DeclaredEdgeValue) (rest : List DeclaredEdgeValue) (builds : List BuildValue) (within : left ≤ room)
      (so_far : (more : ℕ) (others : List DeclaredEdgeValue) → builds_of scopes pools (room - left + more) (edges ++ others) ≡ onto_list builds (builds_of scopes pools more (edge ∷ rest ++ others))) where
    -- the fault of the next edge is that of all
    pub fault-next : (fault : ReadFault) → IsFault fault (built scopes pools left edge) → IsFault fault (builds_of scopes pools room edges)
    fault-next Memory h = tt
    fault-next (Manifest fault) h =
        let same : room ≡ room - left + left = omega arith in
        ap (λ (n : ℕ). builds_of scopes pools n edges) same ∙ ap (λ (es : List DeclaredEdgeValue). builds_of scopes pools (room - left + left) es) (sym (append-nil edges))
        ∙ so_far left [] ∙ ap (λ (r : Ended). onto_list builds (and_others (rest ++ []) r)) h

    -- one more edge
    pub next-within : (ended : EndedEdge) → built scopes pools left edge ≡ Ok ended → ended.left ≤ room
    next-within ended e = let less : ended.left ≤ left = (goes_on edge left ended e).0 in omega arith

    pub next-ended : (ended : EndedEdge) → built scopes pools left edge ≡ Ok ended → (more : ℕ) (others : List DeclaredEdgeValue)
        → builds_of scopes pools (room - ended.left + more) (edges ++ others) ≡ onto_list (builds ++ ended.build ∷ []) (builds_of scopes pools more (rest ++ others))
    next-ended ended e more others =
        let goes = goes_on edge left ended e in
        let less : ended.left ≤ left = goes.0 in
        let same : room - ended.left + more ≡ room - left + (left - ended.left + more) = omega arith in
        ap (λ (n : ℕ). builds_of scopes pools n (edges ++ others)) same ∙ so_far (left - ended.left + more) others
        ∙ ap (λ (r : Ended). onto_list builds (and_others (rest ++ others) r)) (goes.1 more) ∙ sym (onto_list-push builds ended.build (builds_of scopes pools more (rest ++ others)))

  -- edges that are all ended
  pub all-ended : (room left : ℕ) (edges : List DeclaredEdgeValue) (builds : List BuildValue) → AreEnded scopes pools room left edges builds → builds_of scopes pools room edges ≡ Ok builds
  all-ended room left edges builds are =
      let within : left ≤ room = are.within in
      let same : room ≡ room - left + left = omega arith in
      ap (λ (n : ℕ). builds_of scopes pools n edges) same ∙ ap (λ (es : List DeclaredEdgeValue). builds_of scopes pools (room - left + left) es) (sym (append-nil edges))
      ∙ are.ended left [] ∙ ap Ok (append-nil builds)

  -- two parts of which each was ended by itself, and that together make no more than they may
  pub both-ended : (room first second : ℕ) (front back : List DeclaredEdgeValue) (builds others : List BuildValue) → AreEnded scopes pools room first front builds
      → AreEnded scopes pools room second back others → room - second ≤ first → AreEnded scopes pools room (first - (room - second)) (front ++ back) (builds ++ others)
  both-ended room first second front back builds others one two fits =
      let within : first ≤ room = one.within in
      let within-two : second ≤ room = two.within in
      record {
        within = omega arith;
        ended = λ more rest.
            (let same : room - (first - (room - second)) + more ≡ room - first + (room - second + more) = omega arith in
            ap (λ (n : ℕ). builds_of scopes pools n ((front ++ back) ++ rest)) same
            ∙ ap (λ (es : List DeclaredEdgeValue). builds_of scopes pools (room - first + (room - second + more)) es) (append_assoc front back rest)
            ∙ one.ended (room - second + more) (back ++ rest) ∙ ap (onto_list builds) (two.ended more rest) ∙ sym (onto_list-append builds others (builds_of scopes pools more rest)));
      }
