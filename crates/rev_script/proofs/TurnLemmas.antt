-- Turns, one lane and one round further.
use Rattle.std.proofs.Common.{◌≡◌, ℕ, zero, suc, ◌+◌, ◌-◌, ◌<◌, ◌≤◌, Bool, true, false, cond, nat_lt, List, [], ◌∷◌, ◌++◌, length, drop, get_or, refl, sym, ap, ◌∙◌, arith, append_assoc, None}
use Rattle.std.proofs.lemmas.Bool.{ltb-false}
use Rattle.std.proofs.lemmas.List.{drop_more}
use Rattle.std.specs.List.{enumerate_from, filter, flat_map, range_with_len, slice_get}
use Rattle.std.specs.Global.{Vec}
use Rattle.rev_trace.specs.Traces.{lanes_of}
use Rattle.rev_commands.specs.declared.command.Command.{Command}
use Rattle.rev_script.specs.declared.turns.LeftLane.{LeftLane}
use Rattle.rev_script.specs.LeftTurns.{round_of, seen_left}
use Rattle.rev_script.specs.Turns.{round, turn_of}

-- a lane more among the numbered ones
pub numbered_more : {A : Type 0} (before after start : List (ℕ × List A)) (lane : ℕ) (lanes : List (Vec A)) (i : ℕ) (v : Vec A) → i < length lanes → v ≡ get_or lanes i v
    → after ≡ before ++ (lane, v.items) ∷ []
    → before ++ enumerate_from lane (lanes_of (drop i lanes)) ≡ start
    → after ++ enumerate_from (lane + 1) (lanes_of (drop (i + 1) lanes)) ≡ start
numbered_more before after start lane lanes i v h at added all =
    ap (λ l. l ++ enumerate_from (lane + 1) (lanes_of (drop (i + 1) lanes))) added
    ∙ append_assoc before ((lane, v.items) ∷ []) (enumerate_from (lane + 1) (lanes_of (drop (i + 1) lanes)))
    ∙ ap (λ l. before ++ enumerate_from lane (lanes_of l)) (ap (λ x. x ∷ drop (i + 1) lanes) at ∙ sym (drop_more lanes i v h))
    ∙ all

-- the turn of one lane more
pub round_more : (before after start : List (ℕ × Command)) (place : ℕ) (left : List LeftLane) (i : ℕ) (lane : LeftLane) → i < length left → lane ≡ get_or left i lane
    → after ≡ before ++ turn_of lane.lane (slice_get lane.commands.now place)
    → before ++ round_of place (seen_left (drop i left)) ≡ start
    → after ++ round_of place (seen_left (drop (i + 1) left)) ≡ start
round_more before after start place left i lane h at added all =
    ap (λ l. l ++ round_of place (seen_left (drop (i + 1) left))) added
    ∙ append_assoc before (turn_of lane.lane (slice_get lane.commands.now place)) (round_of place (seen_left (drop (i + 1) left)))
    ∙ ap (λ l. before ++ round_of place (seen_left l)) (ap (λ x. x ∷ drop (i + 1) left) at ∙ sym (drop_more left i lane h))
    ∙ all

seen_kept : (place : ℕ) (lane : LeftLane) (left : List LeftLane) (b : Bool) → seen_left (cond b (lane ∷ left) left) ≡ cond b ((lane.lane, lane.commands.now) ∷ seen_left left) (seen_left left)
seen_kept place lane left true = refl
seen_kept place lane left false = refl

-- the lanes that are kept, as they are seen
pub seen_filter : (place : ℕ) (left : List LeftLane)
    → seen_left (filter (λ lane. nat_lt place (length lane.commands.now)) left) ≡ filter (λ lane. nat_lt place (length lane.1)) (seen_left left)
seen_filter place [] = refl
seen_filter place (lane ∷ left) =
    seen_kept place lane (filter (λ lane. nat_lt place (length lane.commands.now)) left) (nat_lt place (length lane.commands.now))
    ∙ ap (λ l. cond (nat_lt place (length lane.commands.now)) ((lane.lane, lane.commands.now) ∷ l) l) (seen_filter place left)

-- a lane has no command past its last
past_last : {A : Type 0} (commands : List A) (place : ℕ) → length commands ≤ place → slice_get commands place ≡ None
past_last [] place h = refl
past_last (c ∷ cs) zero h = absurd (omega arith)
past_last (c ∷ cs) (suc place) h = past_last cs place (omega arith)

kept : {A : Type 0} (lane : ℕ × List A) (lanes : List (ℕ × List A)) (place later : ℕ) → place ≤ later → (b : Bool) → nat_lt place (length lane.1) ≡ b
    → round_of later (cond b (lane ∷ lanes) lanes) ≡ turn_of lane.0 (slice_get lane.1 later) ++ round_of later lanes
kept lane lanes place later h true e = refl
kept lane lanes place later h false e = ap (λ o. turn_of lane.0 o ++ round_of later lanes) (sym (past_last lane.1 later (omega (arith, ltb-false place (length lane.1) e))))

-- the lanes that are done add nothing to later rounds
pub done_adds_nothing : {A : Type 0} (lanes : List (ℕ × List A)) (place later : ℕ) → place ≤ later → round_of later (filter (λ lane. nat_lt place (length lane.1)) lanes) ≡ round_of later lanes
done_adds_nothing [] place later h = refl
done_adds_nothing (lane ∷ lanes) place later h =
    kept lane (filter (λ lane. nat_lt place (length lane.1)) lanes) place later h (nat_lt place (length lane.1)) refl
    ∙ ap (λ l. turn_of lane.0 (slice_get lane.1 later) ++ l) (done_adds_nothing lanes place later h)

counted_down : (n place : ℕ) → place < n → n - place ≡ suc (n - (place + 1))
counted_down n place h = omega arith

-- one round more
pub rounds_more : {A : Type 0} (lanes : List (List A)) (before after start : List (ℕ × A)) (n place : ℕ) → place < n → after ≡ before ++ round place lanes
    → before ++ flat_map (λ p. round p lanes) (range_with_len place (n - place)) ≡ start
    → after ++ flat_map (λ p. round p lanes) (range_with_len (place + 1) (n - (place + 1))) ≡ start
rounds_more lanes before after start n place h added all =
    ap (λ l. l ++ flat_map (λ p. round p lanes) (range_with_len (place + 1) (n - (place + 1)))) added
    ∙ append_assoc before (round place lanes) (flat_map (λ p. round p lanes) (range_with_len (place + 1) (n - (place + 1))))
    ∙ ap (λ k. before ++ flat_map (λ p. round p lanes) (range_with_len place k)) (sym (counted_down n place h))
    ∙ all
