-- Lanes that said all that they had to say, beside others that stopped.
use Rattle.std.proofs.Common.{◌≡◌, ◌∙◌, ◌+◌, ◌<◌, ◌≤◌, ℕ, zero, suc, Bool, true, false, List, [], ◌∷◌, ◌++◌, Option, Some, None, IfSome, Contains, drop, get_or, map, length, slice_get, refl, sym, ap, subst, inl, inr, arith, if◌then◌else◌, ltb-true, ltb-false, length-append}
use Rattle.std.specs.Prelude.{nat_lt}
use Rattle.std.specs.List.{AllByRecursion}
use Rattle.std.proofs.lemmas.List.{map-append}
use Rattle.std.proofs.lemmas.List.Prefix.{front_rest}
use Rattle.rev_commands.specs.declared.command.Command.{Command}
use Rattle.rev_desk.specs.declared.reply.Reply.{Reply}
use Rattle.rev_desk.specs.declared.reply.Entry.{Entry}
use Rattle.rev_workers.specs.Tracks.{Track}
use Rattle.rev_workers.specs.Closing.{part}
use Rattle.rev_workers.specs.Running.{AllRan, AreConfirmed, Covers, DidSay, DoneValue, HasSaid, HaveSaid, HaveSaidBelow, IsConfirmed, IsFrom, IsLeastStopped, IsUnder, commands_of, done_numbers, lanes_in, lesser, numbers_in, pair_up}

-- THE LESSER OF TWO NUMBERS
from-left : (b : Bool) (m k n : ℕ) → nat_lt k m ≡ b → m ≤ n → IsFrom (if b then Some k else Some m) n
from-left true m k n is h = let less : k < m = ltb-true k m is in omega (arith, less)
from-left false m k n is h = h

from-right : (b : Bool) (m k n : ℕ) → nat_lt k m ≡ b → k ≤ n → IsFrom (if b then Some k else Some m) n
from-right true m k n is h = h
from-right false m k n is h = let more : m ≤ k = ltb-false k m is in omega (arith, more)

from-first : (a b : Option ℕ) (n : ℕ) → IsFrom a n → IsFrom (lesser a b) n
from-first None b n h = absurd h
from-first (Some m) None n h = h
from-first (Some m) (Some k) n h = from-left (nat_lt k m) m k n refl h

from-second : (a b : Option ℕ) (n : ℕ) → IsFrom b n → IsFrom (lesser a b) n
from-second None b n h = h
from-second (Some m) None n h = absurd h
from-second (Some m) (Some k) n h = from-right (nat_lt k m) m k n refl h

if-chosen : (P : ℕ → Type 0) (b : Bool) (m k : ℕ) → P m → P k → IfSome (if b then Some k else Some m) P
if-chosen P true m k h i = i
if-chosen P false m k h i = h

pub if-lesser : (P : ℕ → Type 0) (a b : Option ℕ) → IfSome a P → IfSome b P → IfSome (lesser a b) P
if-lesser P None b h i = i
if-lesser P (Some m) None h i = h
if-lesser P (Some m) (Some k) h i = if-chosen P (nat_lt k m) m k h i

under-chosen : (b : Bool) (m k n : ℕ) → nat_lt k m ≡ b → IsUnder (if b then Some k else Some m) n → (n < m) × (n < k)
under-chosen true m k n is h = let less : k < m = ltb-true k m is in (omega (arith, less), h)
under-chosen false m k n is h = let more : m ≤ k = ltb-false k m is in (h, omega (arith, more))

pub under-lesser : (a b : Option ℕ) (n : ℕ) → IsUnder (lesser a b) n → IsUnder a n × IsUnder b n
under-lesser None b n h = (tt, h)
under-lesser (Some m) None n h = (h, tt)
under-lesser (Some m) (Some k) n h = under-chosen (nat_lt k m) m k n refl h

-- LANES BY HALVES
stopped-first : (s : Option ℕ) (j : Track × List Command) (js : List (Track × List Command)) (ds : List DoneValue) → IsFrom s j.0.number → Covers s js ds → Covers s (j ∷ js) ds
stopped-first s j js [] h c = (h, c)
stopped-first s j js (d ∷ ds) h c = inl (h, c)

weaker : (s r : Option ℕ) → ((n : ℕ) → IsFrom s n → IsFrom r n) → (js : List (Track × List Command)) (ds : List DoneValue) → Covers s js ds → Covers r js ds
weaker s r w [] [] c = tt
weaker s r w [] (d ∷ ds) c = absurd c
weaker s r w (j ∷ js) [] c = (w j.0.number c.0, weaker s r w js [] c.1)
weaker s r w (j ∷ js) (d ∷ ds) c = elim c [
  | inl stopped ↦ inl (w j.0.number stopped.0, weaker s r w js (d ∷ ds) stopped.1)
  | inr said ↦ inr (said.0, weaker s r w js ds said.1)
]

joined : (s : Option ℕ) (js ks : List (Track × List Command)) (ds es : List DoneValue) → Covers s js ds → Covers s ks es → Covers s (js ++ ks) (ds ++ es)
joined s [] ks [] es c e = e
joined s [] ks (d ∷ ds) es c e = absurd c
joined s (j ∷ js) ks [] es c e = stopped-first s j (js ++ ks) es c.0 (joined s js ks [] es c.1 e)
joined s (j ∷ js) ks (d ∷ ds) es c e = elim c [
  | inl stopped ↦ inl (stopped.0, joined s js ks (d ∷ ds) es stopped.1 e)
  | inr said ↦ inr (said.0, joined s js ks ds es said.1 e)
]

-- what two halves come to, together
pub covers-together : (a b : Option ℕ) (js ks : List (Track × List Command)) (ds es : List DoneValue) → Covers a js ds → Covers b ks es → Covers (lesser a b) (js ++ ks) (ds ++ es)
covers-together a b js ks ds es c e =
    joined (lesser a b) js ks ds es (weaker a (lesser a b) (from-first a b) js ds c) (weaker b (lesser a b) (from-second a b) ks es e)

-- where none said all
pub covers-lost : (n : ℕ) (js : List (Track × List Command)) → AllByRecursion (λ k. n ≤ k) (numbers_in js) → Covers (Some n) js []
covers-lost n [] h = tt
covers-lost n (j ∷ js) h = (h.0, covers-lost n js h.1)

pub covers-lost-both : (n : ℕ) (ns : List ℕ) (js ks : List (Track × List Command)) → AllByRecursion (λ k. n ≤ k) ns → ns ≡ numbers_in js ++ numbers_in ks → Covers (Some n) (js ++ ks) []
covers-lost-both n ns js ks h is =
    covers-lost n (js ++ ks) (subst (AllByRecursion (λ k. n ≤ k)) (is ∙ sym (map-append (λ (j : Track × List Command). j.0.number) js ks)) h)

-- of one lane
pub covers-stopped : (j : Track × List Command) → Covers (Some j.0.number) (j ∷ []) []
covers-stopped j = (omega arith, tt)

pub covers-said : (j : Track × List Command) (d : DoneValue) → DidSay j.0 j.1 d → Covers None (j ∷ []) (d ∷ [])
covers-said j d h = inr (h, tt)

-- WHERE NO LANE STOPPED
none-stopped : (js : List (Track × List Command)) (ds : List DoneValue) → Covers None js ds → AllRan js (lanes_in ds)
none-stopped [] [] c = tt
none-stopped [] (d ∷ ds) c = absurd c
none-stopped (j ∷ js) [] c = absurd c.0
none-stopped (j ∷ js) (d ∷ ds) c = elim c [
  | inl stopped ↦ absurd stopped.0
  | inr said ↦ (said.0.0, none-stopped js ds said.1)
]

pub all-ran : (s : Option ℕ) (js : List (Track × List Command)) (ds : List DoneValue) → s ≡ None → Covers s js ds → AllRan js (lanes_in ds)
all-ran s js ds none c = none-stopped js ds (subst (λ o. Covers o js ds) none c)

-- WHAT THE JOURNAL SAYS OF THEM
said-since : (journal : List Entry) (t : Track) (commands : List Command) (d : DoneValue) → DidSay t commands d → IsConfirmed journal d → HasSaid journal t commands
said-since journal t commands d h is =
    let first = λ (said : Command × Reply). said.0 in
    let rest = h.0.2.0 in
    let same : drop d.before d.lane.list ≡ rest = ap (λ n. drop n d.lane.list) h.2 ∙ front_rest d.lane.list t.list rest h.0.2.1 in
    let there : part t.number (drop t.seen journal) ≡ part d.lane.number (drop d.seen journal) = λ i. part (sym h.0.0 i) (drop (sym h.1 i) journal) in
    ap (map first) (there ∙ sym is ∙ same) ∙ h.0.2.2

not-from : (n : ℕ) (s : Option ℕ) (k : ℕ) → IsFrom s k → IfSome s (λ m. n ≤ m) → k < n → ⊥
not-from n None k from least less = absurd from
not-from n (Some m) k from least less = omega (arith, from, least, less)

under-said : (n : ℕ) (s : Option ℕ) (journal : List Entry) (js : List (Track × List Command)) (ds : List DoneValue) → Covers s js ds → IfSome s (λ m. n ≤ m)
    → ((k : ℕ) (d : DoneValue) → slice_get ds k ≡ Some d → d.lane.number < n → IsConfirmed journal d) → AllByRecursion (λ (j : Track × List Command). j.0.number < n → HasSaid journal j.0 j.1) js
under-said n s journal [] ds c least h = tt
under-said n s journal (j ∷ js) [] c least h = (λ less. absurd (not-from n s j.0.number c.0 least less), under-said n s journal js [] c.1 least h)
under-said n s journal (j ∷ js) (d ∷ ds) c least h = elim c [
  | inl stopped ↦ (λ less. absurd (not-from n s j.0.number stopped.0 least less), under-said n s journal js (d ∷ ds) stopped.1 least h)
  | inr said ↦ (
    λ less. said-since journal j.0 j.1 d said.0 (h 0 d refl (subst (λ k. k < n) (sym said.0.0.0) less)),
    under-said n s journal js ds said.1 least (λ k e is. h (suc k) e is),
  )
]

paired-at : (P : Track × List Command → Type 0) (ts : List Track) (lists : List (List Command)) (k : ℕ) (t : Track) → AllByRecursion P (pair_up ts lists) → slice_get ts k ≡ Some t → P (t, commands_of (slice_get lists k))
paired-at P [] lists k t h is = cc
paired-at P (s ∷ ts) [] zero t h is = let same : s ≡ t = cc in subst (λ (x : Track). P (x, [])) same h.0
paired-at P (s ∷ ts) [] (suc k) t h is = paired-at P ts [] k t h.1 is
paired-at P (s ∷ ts) (cs ∷ lists) zero t h is = let same : s ≡ t = cc in subst (λ (x : Track). P (x, cs)) same h.0
paired-at P (s ∷ ts) (cs ∷ lists) (suc k) t h is = paired-at P ts lists k t h.1 is

have-said-below : (n : ℕ) (s : Option ℕ) (journal : List Entry) (ts : List Track) (lists : List (List Command)) (ds : List DoneValue) → Covers s (pair_up ts lists) ds → IfSome s (λ m. n ≤ m)
    → ((k : ℕ) (d : DoneValue) → slice_get ds k ≡ Some d → d.lane.number < n → IsConfirmed journal d) → HaveSaidBelow n ts lists journal
have-said-below n s journal ts lists ds c least h k t is =
    paired-at (λ (j : Track × List Command). j.0.number < n → HasSaid journal j.0 j.1) ts lists k t (under-said n s journal (pair_up ts lists) ds c least h) is

if-none : (s : Option ℕ) (P : ℕ → Type 0) → s ≡ None → IfSome s P
if-none None P h = tt
if-none (Some n) P h = cc

-- where no lane stopped, and all are confirmed
pub have-said : (s : Option ℕ) (journal : List Entry) (ts : List Track) (lists : List (List Command)) (ds : List DoneValue) → Covers s (pair_up ts lists) ds → s ≡ None → AreConfirmed journal ds → HaveSaid ts lists journal
have-said s journal ts lists ds c none h k t is =
    have-said-below (t.number + 1) s journal ts lists ds c (if-none s (λ m. t.number + 1 ≤ m) none) (λ i d at less. h i d at) k t is (omega arith)

-- below the least lane that stopped
pub stopped-below : (n : ℕ) (s : Option ℕ) (journal : List Entry) (ts : List Track) (lists : List (List Command)) (ds : List DoneValue) → Covers s (pair_up ts lists) ds → IsLeastStopped s ds journal n → HaveSaidBelow n ts lists journal
stopped-below n s journal ts lists ds c h = have-said-below n s journal ts lists ds c h.least h.confirmed

-- of no lanes
pub nobody-has-said : (ts : List Track) (lists : List (List Command)) (journal : List Entry) → ts ≡ [] → HaveSaid ts lists journal
nobody-has-said [] lists journal none k t is = cc
nobody-has-said (u ∷ ts) lists journal none k t is = cc

-- below the least number there is none
pub none-below : (n : ℕ) (ts : List Track) (lists : List (List Command)) (journal : List Entry) → ((k : ℕ) (t : Track) → slice_get ts k ≡ Some t → n ≤ t.number) → HaveSaidBelow n ts lists journal
none-below n ts lists journal h k t is less = absurd (omega (arith, h k t is, less))

-- numbers that are not below one, by their places
pub all-from : (n : ℕ) (ns : List ℕ) → ((k : ℕ) → k < length ns → n ≤ get_or ns k 0) → AllByRecursion (λ k. n ≤ k) ns
all-from n [] h = tt
all-from n (k ∷ ns) h = (h 0 (omega arith), all-from n ns (λ i less. h (suc i) (omega (arith, less))))

-- THE NUMBERS OF LANES
numbers-said : (s : Option ℕ) (js : List (Track × List Command)) (ds : List DoneValue) → Covers s js ds → AllByRecursion (λ (d : DoneValue). Contains (numbers_in js) d.lane.number) ds
numbers-said s [] [] c = tt
numbers-said s [] (d ∷ ds) c = absurd c
numbers-said s (j ∷ js) [] c = tt
numbers-said s (j ∷ js) (d ∷ ds) c = elim c [
  | inl stopped ↦ behind (d ∷ ds) (numbers-said s js (d ∷ ds) stopped.1)
  | inr said ↦ ((0, omega arith, sym said.0.0.0), behind ds (numbers-said s js ds said.1))
]
  where
    behind : (es : List DoneValue) → AllByRecursion (λ (e : DoneValue). Contains (numbers_in js) e.lane.number) es → AllByRecursion (λ (e : DoneValue). Contains (j.0.number ∷ numbers_in js) e.lane.number) es
    behind [] h = tt
    behind (e ∷ es) h = ((suc h.0.0, omega (arith, h.0.1), h.0.2), behind es h.1)

all-numbers : (P : ℕ → Type 0) (ds : List DoneValue) (n : ℕ) → AllByRecursion (λ (d : DoneValue). P d.lane.number) ds → Contains (done_numbers ds) n → P n
all-numbers P [] n h (k, less, is) = absurd (omega (arith, less))
all-numbers P (d ∷ ds) n h (zero, less, is) = subst P is h.0
all-numbers P (d ∷ ds) n h (suc k, less, is) = all-numbers P ds n h.1 (k, omega (arith, less), is)

-- a lane that is named is one of the given ones
pub named-given : (s : Option ℕ) (js : List (Track × List Command)) (ds : List DoneValue) (journal : List Entry) (n : ℕ) → Covers s js ds → IfSome s (λ m. Contains (numbers_in js) m) → IsLeastStopped s ds journal n → Contains (numbers_in js) n
named-given s js ds journal n c among h = elim h.some [
  | inl is ↦ (let given : IfSome (Some n) (λ m. Contains (numbers_in js) m) = subst (λ (o : Option ℕ). IfSome o (λ m. Contains (numbers_in js) m)) is among in given)
  | inr said ↦ all-numbers (Contains (numbers_in js)) ds n (numbers-said s js ds c) said
]

-- WHICH LANE IS NAMED
pub least-stopped : (s u : Option ℕ) (ds : List DoneValue) (journal : List Entry) (n : ℕ) → lesser s u ≡ Some n → IfSome u (λ m. Contains (done_numbers ds) m)
    → ((k : ℕ) (d : DoneValue) → slice_get ds k ≡ Some d → IsUnder u d.lane.number → IsConfirmed journal d) → IsLeastStopped s ds journal n
least-stopped None None ds journal n is among h = cc
least-stopped None (Some m) ds journal n is among h =
    let same : m ≡ n = cc in
    record { some = inr (subst (Contains (done_numbers ds)) same among); least = tt; confirmed = λ k d at less. h k d at (subst (λ x. d.lane.number < x) (sym same) less) }
least-stopped (Some m) None ds journal n is among h =
    let same : m ≡ n = cc in
    record { some = inl is; least = omega (arith, same); confirmed = λ k d at less. h k d at tt }
least-stopped (Some m) (Some j) ds journal n is among h = by (nat_lt j m) refl is
  where
    by : (b : Bool) → nat_lt j m ≡ b → (if b then Some j else Some m) ≡ Some n → IsLeastStopped (Some m) ds journal n
    by true less is =
        let same : j ≡ n = cc in
        let lt : j < m = ltb-true j m less in
        record { some = inr (subst (Contains (done_numbers ds)) same among); least = omega (arith, same, lt); confirmed = λ k d at below. h k d at (subst (λ x. d.lane.number < x) (sym same) below) }
    by false more is =
        let same : m ≡ n = cc in
        let le : m ≤ j = ltb-false j m more in
        record { some = inl (ap Some same); least = omega (arith, same); confirmed = λ k d at below. h k d at (omega (arith, same, le, below)) }

pub none-lesser : (s u : Option ℕ) → lesser s u ≡ None → (s ≡ None) × (u ≡ None)
none-lesser None u is = (refl, is)
none-lesser (Some m) None is = cc
none-lesser (Some m) (Some k) is = by (nat_lt k m) is
  where
    by : (b : Bool) → (if b then Some k else Some m) ≡ None → (Some m ≡ None) × (Some k ≡ None)
    by true is = cc
    by false is = cc

-- of one lane at most
pub none-to_say : (o : Option ℕ) (js : List (Track × List Command)) (ds : List DoneValue) → js ≡ [] → ds ≡ [] → Covers o js ds
none-to_say o js ds none empty = subst (λ (xs : List (Track × List Command)). Covers o xs ds) (sym none) (subst (λ (es : List DoneValue). Covers o [] es) (sym empty) tt)

pub one-said : (js : List (Track × List Command)) (ds : List DoneValue) (j : Track × List Command) (d : DoneValue) → js ≡ j ∷ [] → ds ≡ d ∷ [] → DidSay j.0 j.1 d → Covers None js ds
one-said js ds j d one done h = subst (λ (xs : List (Track × List Command)). Covers None xs ds) (sym one) (subst (λ (es : List DoneValue). Covers None (j ∷ []) es) (sym done) (covers-said j d h))

pub one-stopped : (n : ℕ) (js : List (Track × List Command)) (ds : List DoneValue) (j : Track × List Command) → js ≡ j ∷ [] → ds ≡ [] → n ≡ j.0.number → Covers (Some n) js ds
one-stopped n js ds j one empty is = subst (λ (xs : List (Track × List Command)). Covers (Some n) xs ds) (sym one) (subst (λ (es : List DoneValue). Covers (Some n) (j ∷ []) es) (sym empty) (omega (arith, is), tt))

-- where one item at most was there
pub last-of-few : {A : Type 0} (xs ys : List A) (x : A) → xs ≡ ys ++ x ∷ [] → length xs < 2 → (xs ≡ x ∷ []) × (ys ≡ [])
last-of-few xs [] x is few = (is, refl)
last-of-few xs (y ∷ ys) x is few = absurd (omega (arith, few, ap length is, length-append (y ∷ ys) (x ∷ [])))
