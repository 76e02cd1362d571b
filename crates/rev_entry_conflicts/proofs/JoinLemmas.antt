-- No conflict told: the premise of the law of one outcome.
use Rattle.std.proofs.Common.{◌≡◌, ℕ, ◌+◌, ◌<◌, ◌==◌, nat_eq, Bool, true, false, not, ◌&&◌, ◌||◌, List, length, Contains, slice_get, Some, inl, inr, refl, sym, ap, subst, ◌∙◌, arith, true≢false}
use Rattle.std.specs.Prelude.{◌≢◌, ◌⊎◌}
use Rattle.std.specs.List.{list_any, range_with_len}
use Rattle.std.proofs.lemmas.Bool.{and_from, and_parts, cases_Bool, eq-eqb, eqb-true, ne_eqb, not_from_false, or_cases, or_left, or_right}
use Rattle.std.proofs.lemmas.List.FromFn.{get_or-range_with_len, length-range_with_len}
use Rattle.std.proofs.lemmas.Option.{slice_get-get_or}
use Rattle.rev_world.specs.Commands.{Place, place_eq}
use Rattle.rev_world.specs.Laws.{By, GoesThrough}
use Rattle.rev_world.specs.Observed.{IsToldDetermined, told_uses}
use Rattle.rev_world.proofs.StepLemmas.{place-is, place-same}
use Rattle.rev_world.proofs.ObservedLemmas.{nothing-told-one-outcome}
use Rattle.rev_ranks.specs.Graph.{Reaches, Reaches.step as one_step, Reaches.further as then_on}
use Rattle.rev_ranks.proofs.LeadsLemmas.{leads-complete, leads-sound}
use Rattle.rev_entry_conflicts.specs.declared.conflict.Conflict.{Conflict}
use Rattle.rev_entry_conflicts.specs.declared.conflict.Kind.{Kind}
use Rattle.rev_entry_conflicts.specs.declared.conflict.Kind.TheVariants as kind
use Rattle.rev_entry_conflicts.specs.declared.deed.Command.{Command}
use Rattle.rev_entry_conflicts.specs.declared.word.Act.TheVariants as act
use Rattle.rev_entry_conflicts.specs.Deeds.{Scene, asks, does, entry_at, looks, waits}
use Rattle.rev_entry_conflicts.specs.Conflicts.{comes_before, conflicts, is_determined, is_kind, kind_at, kinds, kind_number, of_found_pair, of_numbers, of_pair, of_user, places, told as told_of_pair}
use Rattle.rev_entry_conflicts.specs.Joins.{AreNamed, NoConflictNoneTold, NoConflictOneOutcome, NoneUnordered, is_seen, is_seen_at, is_unordered, told}
use Rattle.rev_entry_conflicts.proofs.ListLemmas.{any-passes, contains-filter_map, contains-flat_map, contains-range, filter-begins, Passing, passing}
use Rattle.rev_entry_conflicts.proofs.KindLemmas.{AreUnordered, Tells, asked-tells, left-tells, turn, used-tells}

-- EACH KIND AT AN ENTRY IS TOLD
each-kind : (k : Kind) → Contains kinds k
each-kind kind.Clash = (0, omega arith, refl)
each-kind kind.Race = (1, omega arith, refl)
each-kind kind.Folder = (2, omega arith, refl)
each-kind kind.Link = (3, omega arith, refl)
each-kind kind.Cycle = (4, omega arith, refl)
each-kind kind.Unstable = (5, omega arith, refl)

-- a conflict of this kind is told
record HasKind (xs : List Conflict) (k : Kind) : Type 0 where
  pub conflict : Conflict
  pub there : Contains xs conflict
  pub is : conflict.kind ≡ k

module _ (s : Scene) where
  pair-told : (i j : ℕ) (made used : Command) (entry : ℕ) (k : Kind) → entry < length s.entries → kind_at s made used entry ≡ Some k → HasKind (of_pair s made used i j) k
  pair-told i j made used entry k within is =
      let b = filter-begins (λ e. is_kind k (kind_at s made used e)) (range_with_len 0 (length s.entries))
      (any-passes (λ e. is_kind k (kind_at s made used e)) (range_with_len 0 (length s.entries)) entry (contains-range 0 (length s.entries) entry (omega arith) (omega (arith, within)))
      (ap (is_kind k) is ∙ eq-eqb (kind_number k) (kind_number k) refl)) in
      record {
        conflict = record { kind = k; made_by = i; used_by = j; entry = b.first; others = length b.rest };
        there = contains-filter_map (λ kind. told_of_pair i j kind (places s made used kind)) kinds k _ (each-kind k) (ap (told_of_pair i j k) b.is);
        is = refl;
      }

  -- the number of a command
  record Numbered (c : Command) : Type 0 where
    pub number : ℕ
    pub within : number < length s.commands
    pub is : slice_get s.commands number ≡ Some c

  numbered : (c : Command) → Contains s.commands c → Numbered c
  numbered c (n, within, is) = record { number = n; within = within; is = slice_get-get_or s.commands n c within ∙ ap Some is }

  all-told : (made used : Command) (entry : ℕ) (k : Kind) → Contains s.commands made → Contains s.commands used → entry < length s.entries → kind_at s made used entry ≡ Some k → HasKind (conflicts s) k
  all-told made used entry k made_there used_there within is =
      let m = numbered made made_there in
      let u = numbered used used_there in
      let h = pair-told m.number u.number made used entry k within is in
      let by_numbers : of_numbers s u.number m.number ≡ of_pair s made used m.number u.number = ap (λ o. of_found_pair s m.number u.number o (slice_get s.commands u.number)) m.is ∙ ap (of_found_pair s m.number u.number (Some made)) u.is in
      record {
        conflict = h.conflict;
        there =
            contains-flat_map (of_user s) (range_with_len 0 (length s.commands)) u.number h.conflict (contains-range 0 (length s.commands) u.number (omega arith) (omega (arith, u.within)))
            (contains-flat_map (of_numbers s u.number) (range_with_len 0 (length s.commands)) m.number h.conflict (contains-range 0 (length s.commands) m.number (omega arith) (omega (arith, m.within)))
            (subst (λ xs. Contains xs h.conflict) (sym by_numbers) h.there));
        is = h.is;
      }

  -- WHAT WAS SEEN
  record Seen (test : Command → ℕ → Bool) (edge entry : ℕ) : Type 0 where
    pub command : Command
    pub there : Contains s.commands command
    pub shown : (entry_at s entry).hidden ≡ false
    pub late : command.early ≡ false
    pub of : command.edge ≡ edge
    pub does_it : test command entry ≡ true

  not-true : (b : Bool) → not b ≡ true → b ≡ false
  not-true true h = absurd (true≢false (sym h))
  not-true false h = refl

  seen : (test : Command → ℕ → Bool) (edge entry : ℕ) → is_seen s test edge entry ≡ true → Seen test edge entry
  seen test edge entry h =
      let parts = and_parts (not (entry_at s entry).hidden) (list_any (λ (c : Command). (not c.early && c.edge == edge) && test c entry) s.commands) h in
      let f = passing (λ (c : Command). (not c.early && c.edge == edge) && test c entry) s.commands parts.1 in
      let both = and_parts (not f.item.early && f.item.edge == edge) (test f.item entry) f.passes in
      let own = and_parts (not f.item.early) (f.item.edge == edge) both.0 in
      record {
        command = f.item;
        there = f.there;
        shown = not-true (entry_at s entry).hidden parts.0;
        late = not-true f.item.early own.0;
        of = eqb-true f.item.edge edge own.1;
        does_it = both.1;
      }

  module _ (place_of : ℕ → Place) (named : AreNamed s place_of) where
    record SeenAt (test : Command → ℕ → Bool) (edge : ℕ) (place : Place) : Type 0 where
      pub entry : ℕ
      pub within : entry < length s.entries
      pub has : place_eq (place_of entry) place ≡ true
      pub found : Seen test edge entry

    seen-at : (test : Command → ℕ → Bool) (edge : ℕ) (place : Place) → is_seen_at s place_of test edge place ≡ true → SeenAt test edge place
    seen-at test edge place h =
        let f = passing (λ entry. place_eq (place_of entry) place && is_seen s test edge entry) (range_with_len 0 (length s.entries)) h in
        let parts = and_parts (place_eq (place_of f.item) place) (is_seen s test edge f.item) f.passes in
        record { entry = f.item; within = range-within (length s.entries) f.item f.there; has = parts.0; found = seen test edge f.item parts.1 }
      where
        range-within : (n x : ℕ) → Contains (range_with_len 0 n) x → x < n
        range-within n x (k, within, is) =
            let below : k < n = subst (λ m. k < m) (length-range_with_len 0 n) within in
            let at : 0 + k ≡ x = sym (get_or-range_with_len 0 n k x below) ∙ is in
            omega (arith, below, at)

    -- two that were seen at one place were seen at one entry
    one-entry : (one other : ℕ) (place : Place) → one < length s.entries → other < length s.entries → place_eq (place_of one) place ≡ true → place_eq (place_of other) place ≡ true → one ≡ other
    one-entry one other place within also has has_too =
        named one other within also (subst (λ p. place_eq (place_of one) p ≡ true) (place-is (place_of one) place has ∙ sym (place-is (place_of other) place has_too)) (place-same (place_of one)))

    module _ (none : NoneUnordered (conflicts s)) where
      nothing : (made used : Command) (entry : ℕ) → Contains s.commands made → Contains s.commands used → entry < length s.entries → Tells s made used entry → ⊥
      nothing made used entry made_there used_there within t =
          let h = all-told made used entry t.kind made_there used_there within t.is in
          true≢false (sym t.unordered ∙ ap is_unordered (sym h.is) ∙ none h.conflict h.there)

      -- commands of edges of which neither waits for the other
      unordered : (a b entry : ℕ) (made used : Command) → a ≢ b → made.edge ≡ a → used.edge ≡ b → (entry_at s entry).hidden ≡ false → made.early ≡ false → used.early ≡ false → waits s a b ≡ false → waits s b a ≡ false → AreUnordered s made used entry
      unordered a b entry made used apart of_a of_b shown late also one other = record {
        shown = shown;
        others = ne_eqb made.edge used.edge (λ e. apart (sym of_a ∙ e ∙ of_b));
        turned = ne_eqb used.edge made.edge (λ e. apart (sym of_a ∙ sym e ∙ of_b));
        made_late = late;
        used_late = also;
        used_first = ap (λ e. waits s e made.edge) of_b ∙ ap (waits s b) of_a ∙ other;
        made_first = ap (λ e. waits s e used.edge) of_a ∙ ap (waits s a) of_b ∙ one;
      }

      abbrev Ordered : ℕ → ℕ → Type 0
      Ordered a b = By (waits s) a b ⊎ By (waits s) b a

      -- either one waits for the other, or neither does
      by-order : (a b : ℕ) → (waits s a b ≡ false → waits s b a ≡ false → ⊥) → Ordered a b
      by-order a b not_both = elim (cases_Bool (waits s a b)) [
        | inl one ↦ inl one
        | inr not_one ↦ elim (cases_Bool (waits s b a)) [
          | inl other ↦ inr other
          | inr not_other ↦ absurd (not_both not_one not_other)
        ]
      ]

      -- at one entry: who leaves it, and who uses it
      meet-left : (a b entry : ℕ) (test : Command → ℕ → Bool) → a ≢ b → entry < length s.entries → Seen (does act.Leaves) a entry → (f : Seen test b entry)
          → (does act.Leaves f.command entry ≡ true) ⊎ ((does act.Ensures f.command entry ≡ true) ⊎ (looks s f.command entry ≡ true)) → Ordered a b
      meet-left a b entry test apart within m f used = by-order a b (λ one other.
          elim (left-tells s m.command f.command entry (unordered a b entry m.command f.command apart m.of f.of m.shown m.late f.late one other) (λ e. apart (sym m.of ∙ e ∙ f.of)) m.does_it used) [
            | inl t ↦ nothing m.command f.command entry m.there f.there within t
            | inr t ↦ nothing f.command m.command entry f.there m.there within t
          ])

      moved : (test : Command → ℕ → Bool) (edge one other : ℕ) → one ≡ other → Seen test edge one → Seen test edge other
      moved test edge one other same f = subst (λ e. Seen test edge e) same f

      at-left : (a b : ℕ) (place : Place) → a ≢ b → (told s place_of a).left place ≡ true → told_uses place (told s place_of b) ≡ true → Ordered a b
      at-left a b place apart left used =
          let m = seen-at (does act.Leaves) a place left in
          elim (or_cases ((told s place_of b).left place) ((told s place_of b).ensured place || ((told s place_of b).asked place || (told s place_of b).passed place)) used) [
            | inl h ↦ let f = seen-at (does act.Leaves) b place h in by m f (λ (c : Seen (does act.Leaves) b m.entry). inl c.does_it)
            | inr rest ↦ elim (or_cases ((told s place_of b).ensured place) ((told s place_of b).asked place || (told s place_of b).passed place) rest) [
              | inl h ↦ let f = seen-at (does act.Ensures) b place h in by m f (λ (c : Seen (does act.Ensures) b m.entry). inr (inl c.does_it))
              | inr look ↦ elim (or_cases ((told s place_of b).asked place) ((told s place_of b).passed place) look) [
                | inl h ↦ let f = seen-at (asks s) b place h in by m f (λ (c : Seen (asks s) b m.entry). inr (inr (or_left (asks s c.command m.entry) (does act.Passes c.command m.entry) c.does_it)))
                | inr h ↦ let f = seen-at (does act.Passes) b place h in by m f (λ (c : Seen (does act.Passes) b m.entry). inr (inr (or_right (asks s c.command m.entry) (does act.Passes c.command m.entry) c.does_it)))
              ]
            ]
          ]
        where
          by : {test : Command → ℕ → Bool} (m : SeenAt (does act.Leaves) a place) (f : SeenAt test b place)
              → ((c : Seen test b m.entry) → (does act.Leaves c.command m.entry ≡ true) ⊎ ((does act.Ensures c.command m.entry ≡ true) ⊎ (looks s c.command m.entry ≡ true))) → Ordered a b
          by {test} m f used =
              let c = moved test b f.entry m.entry (one-entry f.entry m.entry place f.within m.within f.has m.has) f.found in
              meet-left a b m.entry test apart m.within m.found c (used c)

      -- WHAT IS DETERMINED
      determined : (b : ℕ) (place : Place) (q : SeenAt (asks s) b place) → is_determined s q.found.command q.entry ≡ true → IsToldDetermined (By (waits s)) (told s place_of) place b
      determined b place q h = record {
        maker = f.item.edge;
        before = ap (λ e. waits s e f.item.edge) (sym q.found.of) ∙ before.1;
        ensured = is-seen-at;
        later = later;
      }
        where
          ensures : Command → Bool
          ensures c = comes_before s q.found.command c && does act.Ensures c q.entry

          leaves : Command → Bool
          leaves c = comes_before s q.found.command c && does act.Leaves c q.entry

          parts : (list_any ensures s.commands ≡ true) × (not (list_any leaves s.commands) ≡ true)
          parts = and_parts (list_any ensures s.commands) (not (list_any leaves s.commands)) h

          f : Passing ensures s.commands
          f = passing ensures s.commands parts.0

          both : (comes_before s q.found.command f.item ≡ true) × (does act.Ensures f.item q.entry ≡ true)
          both = and_parts (comes_before s q.found.command f.item) (does act.Ensures f.item q.entry) f.passes

          before : (not f.item.early ≡ true) × (waits s q.found.command.edge f.item.edge ≡ true)
          before = and_parts (not f.item.early) (waits s q.found.command.edge f.item.edge) both.0

          is-seen : is_seen s (does act.Ensures) f.item.edge q.entry ≡ true
          is-seen =
              and_from (not (entry_at s q.entry).hidden) (list_any (λ (c : Command). (not c.early && c.edge == f.item.edge) && does act.Ensures c q.entry) s.commands) (not_from_false (entry_at s q.entry).hidden q.found.shown)
              (any-passes (λ (c : Command). (not c.early && c.edge == f.item.edge) && does act.Ensures c q.entry) s.commands f.item f.there
              (and_from (not f.item.early && f.item.edge == f.item.edge) (does act.Ensures f.item q.entry) (and_from (not f.item.early) (f.item.edge == f.item.edge) before.0 (eq-eqb f.item.edge f.item.edge refl)) both.1))

          is-seen-at : (told s place_of f.item.edge).ensured place ≡ true
          is-seen-at =
              any-passes (λ entry. place_eq (place_of entry) place && is_seen s (does act.Ensures) f.item.edge entry) (range_with_len 0 (length s.entries)) q.entry
              (contains-range 0 (length s.entries) q.entry (omega arith) (omega (arith, q.within))) (and_from (place_eq (place_of q.entry) place) (is_seen s (does act.Ensures) f.item.edge q.entry) q.has is-seen)

          later : (leaver : ℕ) → (told s place_of leaver).left place ≡ true → By (waits s) b leaver → By (waits s) f.item.edge leaver
          later leaver left waits_for =
              let l = seen-at (does act.Leaves) leaver place left in
              let c = moved (does act.Leaves) leaver l.entry q.entry (one-entry l.entry q.entry place l.within q.within l.has q.has) l.found in
              let there : list_any (λ (c : Command). comes_before s q.found.command c && does act.Leaves c q.entry) s.commands ≡ true =
              any-passes (λ (c : Command). comes_before s q.found.command c && does act.Leaves c q.entry) s.commands c.command c.there
              (and_from (comes_before s q.found.command c.command) (does act.Leaves c.command q.entry)
              (and_from (not c.command.early) (waits s q.found.command.edge c.command.edge) (not_from_false c.command.early c.late)
              (ap (λ e. waits s e c.command.edge) q.found.of ∙ ap (waits s b) c.of ∙ waits_for)) c.does_it) in
              absurd (true≢false (sym there ∙ not-true _ parts.1))

      at-asked : (b : ℕ) (place : Place) → (told s place_of b).asked place ≡ true
          → IsToldDetermined (By (waits s)) (told s place_of) place b ⊎ ((a : ℕ) → a ≢ b → (told s place_of a).ensured place ≡ true → Ordered a b)
      at-asked b place asked = by (seen-at (asks s) b place asked)
        where
          by : SeenAt (asks s) b place → IsToldDetermined (By (waits s)) (told s place_of) place b ⊎ ((a : ℕ) → a ≢ b → (told s place_of a).ensured place ≡ true → Ordered a b)
          by q = elim (cases_Bool (is_determined s q.found.command q.entry)) [
            | inl h ↦ inl (determined b place q h)
            | inr loose ↦ inr (λ a apart made.
                let m = seen-at (does act.Ensures) a place made in
                let c = moved (does act.Ensures) a m.entry q.entry (one-entry m.entry q.entry place m.within q.within m.has q.has) m.found in
                by-order a b (λ one other.
                let u = unordered a b q.entry c.command q.found.command apart c.of q.found.of c.shown c.late q.found.late one other in
                met a b q apart c loose u))
          ]
            where
              seen-look : (q : SeenAt (asks s) b place) → looks s q.found.command q.entry ≡ true
              seen-look q = or_left (asks s q.found.command q.entry) (does act.Passes q.found.command q.entry) q.found.does_it

              met : (a b : ℕ) (q : SeenAt (asks s) b place) → a ≢ b → (c : Seen (does act.Ensures) a q.entry) → is_determined s q.found.command q.entry ≡ false → AreUnordered s c.command q.found.command q.entry → ⊥
              met a b q apart c loose u = elim (cases_Bool (does act.Leaves c.command q.entry)) [
                | inl left ↦ elim (left-tells s c.command q.found.command q.entry u (λ e. apart (sym c.of ∙ e ∙ q.found.of)) left (inr (inr (or_left (asks s q.found.command q.entry) (does act.Passes q.found.command q.entry) q.found.does_it)))) [
                  | inl t ↦ nothing c.command q.found.command q.entry c.there q.found.there q.within t
                  | inr t ↦ nothing q.found.command c.command q.entry q.found.there c.there q.within t
                ]
                | inr not_left ↦ elim (cases_Bool (does act.Leaves q.found.command q.entry)) [
                  | inl left ↦ nothing q.found.command c.command q.entry q.found.there c.there q.within (used-tells s q.found.command c.command q.entry (turn s c.command q.found.command q.entry u) left not_left (inl c.does_it))
                  | inr free ↦ nothing c.command q.found.command q.entry c.there q.found.there q.within (asked-tells s c.command q.found.command q.entry u not_left c.does_it free q.found.does_it loose)
                ]
              ]

pub no-conflict-none-told : NoConflictNoneTold
no-conflict-none-told s place_of named none = record { at_left = at-left s place_of named none; at_asked = at-asked s place_of named none }

-- ONE OUTCOME
way-on : {graph : List (List ℕ)} {a b c : ℕ} → Reaches graph a b → Reaches graph b c → Reaches graph a c
way-on (one_step step) way = then_on step way
way-on (then_on step front) way = then_on step (way-on front way)

waits-way : (s : Scene) (a b : ℕ) → waits s a b ≡ true → Reaches s.steps a b
waits-way s a b h =
    let r = leads-sound s.steps (nat_eq b) a h in
    subst (λ x. Reaches s.steps a x) (sym (eqb-true b r.other r.passes)) r.way

way-waits : (s : Scene) (a b : ℕ) → Reaches s.steps a b → waits s a b ≡ true
way-waits s a b way = leads-complete s.steps (nat_eq b) a b way (eq-eqb b b refl)

goes-through : (s : Scene) → GoesThrough (waits s)
goes-through s a b c one other = way-waits s a c (way-on (waits-way s a b one) (waits-way s b c other))

pub no-conflict-one-outcome : NoConflictOneOutcome
no-conflict-one-outcome s place_of commands disk schedule other named none tells legal complete other_legal =
    nothing-told-one-outcome (waits s) (goes-through s) (told s place_of) commands disk schedule other (no-conflict-none-told s place_of named none) tells legal complete other_legal
