-- How lanes stand that wait, over the desks that commands leave.
use Rattle.std.proofs.Common.{◌≡◌, ◌∙◌, ◌+◌, ◌==◌, ◌&&◌, ℕ, zero, suc, Bool, true, false, List, [], ◌∷◌, ◌++◌, drop, map, take, length, Some, slice_get, slice_set, refl, sym, ap, subst, arith, append-nil, length-append, eqb-true, if◌then◌else◌}
use Rattle.std.proofs.lemmas.List.{length-map}
use Rattle.std.proofs.Math.Seq.{drop-length, take-length}
use Rattle.std.specs.List.{AllByRecursion}
use Rattle.std.specs.declared.snapshot.Snapshot.{Snapshot}
use Rattle.rev_commands.specs.declared.command.Command.{Command}
use Rattle.rev_desk.specs.declared.reply.Reply.{Reply}
use Rattle.rev_desk.specs.Machine.{DeskValue, after, entry_of, reply_to}
use Rattle.rev_desk.specs.Sound.{IsDesk}
use Rattle.rev_workers.specs.declared.standing.Standing.{Standing}
use Rattle.rev_workers.specs.declared.standing.Standing.TheVariants as standing
use Rattle.rev_workers.specs.Waiting.{IsOutOfWay, IsRefusedSo, IsStill, MayPass, OthersAreStill, OthersRest, Rests, Stands, WhoWaitsIsRefused, is_for_input, is_plain, is_touch, kept_waiting, makes_no_input, standings_after}
use Rattle.rev_workers.proofs.Touches.{touch-kept}

pub out-stands : (d : DeskValue) (ss : List Standing) → AllByRecursion IsOutOfWay ss → AllByRecursion (Stands d) ss
out-stands d [] h = tt
out-stands d (standing.Going ∷ ss) h = (tt, out-stands d ss h.1)
out-stands d (standing.Waiting refused_at for_input asked ∷ ss) h = absurd h.0
out-stands d (standing.Ended ∷ ss) h = (tt, out-stands d ss h.1)

longer : (d : DeskValue) (lane : ℕ) (c : Command) → length (after d lane c).journal ≡ length d.journal + 1
longer d lane c = length-append d.journal (entry_of d lane c ∷ [])

-- one that is to look again by then
past-stands : (d : DeskValue) (lane : ℕ) (c : Command) (s : Standing) → Stands d s → Stands (after d lane c) s
past-stands d lane c standing.Going h = tt
past-stands d lane c (standing.Waiting refused_at for_input asked) h =
    (omega (arith, h.0, longer d lane c), λ e. absurd (omega (arith, h.0, e, longer d lane c)))
past-stands d lane c standing.Ended h = tt

all-past : (d : DeskValue) (lane : ℕ) (c : Command) (ss : List Standing) → AllByRecursion (Stands d) ss → AllByRecursion (Stands (after d lane c)) ss
all-past d lane c [] h = tt
all-past d lane c (s ∷ ss) h = (past-stands d lane c s h.0, all-past d lane c ss h.1)

both-true : (a b : Bool) → (a && b) ≡ true → (a ≡ true) × (b ≡ true)
both-true true b h = (refl, h)
both-true false b h = cc

-- one that waited for an input, at the length that the journal had
still-stands : (d : DeskValue) (lane : ℕ) (t c : Command) (for_input : Bool) → IsDesk d → is_touch t ≡ true → is_plain (reply_to d t) ≡ true → for_input ≡ true → IsRefusedSo for_input c (reply_to d c) → IsRefusedSo for_input c (reply_to (after d lane t) c)
still-stands d lane t c for_input desk touch plain is h =
    subst (λ (r : Reply). IsRefusedSo for_input c r) (sym (touch-kept d lane t c desk touch plain (sym h.1 ∙ is))) h

kept-by : (d : DeskValue) (lane : ℕ) (t : Command) (refused_at : ℕ) (for_input : Bool) (asked : Command) → IsDesk d → is_touch t ≡ true → is_plain (reply_to d t) ≡ true
    → (refused_at ≡ length d.journal → IsRefusedSo for_input asked (reply_to d asked)) → (for_input && (refused_at == length d.journal)) ≡ true → IsRefusedSo for_input asked (reply_to (after d lane t) asked)
kept-by d lane t refused_at for_input asked desk touch plain h is =
    let both = both-true for_input (refused_at == length d.journal) is in
    still-stands d lane t asked for_input desk touch plain both.0 (h (eqb-true refused_at (length d.journal) both.1))

kept-stands : (d : DeskValue) (lane : ℕ) (t : Command) (s : Standing) → IsDesk d → is_touch t ≡ true → is_plain (reply_to d t) ≡ true → Stands d s → Stands (after d lane t) (kept_waiting (length d.journal) s)
kept-stands d lane t standing.Going desk touch plain h = tt
kept-stands d lane t (standing.Waiting refused_at for_input asked) desk touch plain h = by (for_input && (refused_at == length d.journal)) refl
  where
    by : (b : Bool) → (for_input && (refused_at == length d.journal)) ≡ b
        → Stands (after d lane t) (if b then standing.Waiting (length d.journal + 1) for_input asked else standing.Waiting refused_at for_input asked)
    by true is = (omega (arith, longer d lane t), λ e. kept-by d lane t refused_at for_input asked.value desk touch plain h.1 is)
    by false is = past-stands d lane t (standing.Waiting refused_at for_input asked) h
kept-stands d lane t standing.Ended desk touch plain h = tt

all-kept : (d : DeskValue) (lane : ℕ) (t : Command) (ss : List Standing) → IsDesk d → is_touch t ≡ true → is_plain (reply_to d t) ≡ true → AllByRecursion (Stands d) ss → AllByRecursion (Stands (after d lane t)) (map (kept_waiting (length d.journal)) ss)
all-kept d lane t [] desk touch plain h = tt
all-kept d lane t (s ∷ ss) desk touch plain h = (kept-stands d lane t s desk touch plain h.0, all-kept d lane t ss desk touch plain h.1)

after-by : (d : DeskValue) (lane : ℕ) (t : Command) (ss : List Standing) → IsDesk d → AllByRecursion (Stands d) ss → (b : Bool) → makes_no_input d t ≡ b
    → AllByRecursion (Stands (after d lane t)) (if b then map (kept_waiting (length d.journal)) ss else ss)
after-by d lane t ss desk h true is =
    let both = both-true (is_touch t) (is_plain (reply_to d t)) is in
    all-kept d lane t ss desk both.0 both.1 h
after-by d lane t ss desk h false is = all-past d lane t ss h

-- how lanes stand after a command
pub after-stands : (d : DeskValue) (lane : ℕ) (t : Command) (ss : List Standing) → IsDesk d → AllByRecursion (Stands d) ss → AllByRecursion (Stands (after d lane t)) (standings_after d t ss)
after-stands d lane t ss desk h = after-by d lane t ss desk h (makes_no_input d t) refl

-- one lane stands otherwise
pub set-stands : (d : DeskValue) (ss : List Standing) (k : ℕ) (s : Standing) → AllByRecursion (Stands d) ss → Stands d s → AllByRecursion (Stands d) (slice_set ss k s)
set-stands d [] k s h is = tt
set-stands d (x ∷ ss) zero s h is = (is, h.1)
set-stands d (x ∷ ss) (suc k) s h is = (h.0, set-stands d ss k s h.1 is)

rests-at : (d : DeskValue) (s : Standing) → Stands d s → IsStill (length d.journal) s → Rests d s
rests-at d standing.Going h still = absurd still
rests-at d (standing.Waiting refused_at for_input asked) h still = (h.1 still).0
rests-at d standing.Ended h still = tt

stands-at : (d : DeskValue) (ss : List Standing) (k : ℕ) (s : Standing) → AllByRecursion (Stands d) ss → slice_get ss k ≡ Some s → Stands d s
stands-at d [] k s h is = cc
stands-at d (x ∷ ss) zero s h is = let same : x ≡ s = cc in subst (Stands d) same h.0
stands-at d (x ∷ ss) (suc k) s h is = stands-at d ss k s h.1 is

-- lanes that need not look rest
pub still-rest : (d : DeskValue) (ss : List Standing) (n : ℕ) → AllByRecursion (Stands d) ss → OthersAreStill n (length d.journal) ss → OthersRest n d ss
still-rest d ss n h still k s is ne = rests-at d s (stands-at d ss k s h is) (still k s is ne)

-- who waits is refused now
pub who-waits : (d : DeskValue) (ss : List Standing) → AllByRecursion (Stands d) ss → WhoWaitsIsRefused d ss
who-waits d ss h lane refused_at for_input asked is at =
    ((stands-at d ss lane (standing.Waiting refused_at for_input asked) h is).1 at).0

-- the same lanes over the same desk
pub same-stands : (d e : DeskValue) (ss us : List Standing) → e ≡ d → us ≡ ss → AllByRecursion (Stands d) ss → AllByRecursion (Stands e) us
same-stands d e ss us desk standings h = subst (λ (x : DeskValue). AllByRecursion (Stands x) us) (sym desk) (subst (AllByRecursion (Stands d)) (sym standings) h)

-- a lane that begins to wait
pub waiting-stands : (d : DeskValue) (c : Command) (n : ℕ) (for_input : Bool) (asked : Snapshot Command) → n ≡ length d.journal → for_input ≡ is_for_input c (reply_to d c) → asked.value ≡ c → MayPass (reply_to d c) → Stands d (standing.Waiting n for_input asked)
waiting-stands d c n for_input asked at is same may = (omega (arith, at), λ _. subst (λ (x : Command). IsRefusedSo for_input x (reply_to d x)) (sym same) (may, is))

-- how the lanes stand that were gone over
pub kept-after : (d : DeskValue) (t : Command) (touches : Bool) (r : Reply) (entries : ℕ) (lent ss kept : List Standing) → touches ≡ is_touch t → r ≡ reply_to d t → entries ≡ length d.journal → lent ≡ ss
    → kept ≡ (if touches && is_plain r then map (kept_waiting entries) lent else lent) → kept ≡ standings_after d t ss
kept-after d t touches r entries lent ss kept touch reply at same is =
    is ∙ (λ i. if touch i && is_plain (reply i) then map (kept_waiting (at i)) (same i) else same i)

-- a list of as many items in the place of another
pub fitted : {A : Type 0} (n : ℕ) (xs ys : List A) → n ≡ length ys → length xs ≡ length ys → take n (xs ++ drop (length xs) ys) ≡ xs
fitted n xs ys same many =
    ap (λ l. take n (xs ++ l)) (ap (λ k. drop k ys) many ∙ drop-length ys) ∙ ap (take n) (append-nil xs)
    ∙ ap (λ k. take k xs) (same ∙ sym many) ∙ take-length xs

-- as many lanes stand as before
length-by : (f : Standing → Standing) (b : Bool) (ss : List Standing) → length (if b then map f ss else ss) ≡ length ss
length-by f true ss = length-map ss f
length-by f false ss = refl

pub length-after : (d : DeskValue) (t : Command) (ss : List Standing) → length (standings_after d t ss) ≡ length ss
length-after d t ss = length-by (kept_waiting (length d.journal)) (makes_no_input d t) ss
