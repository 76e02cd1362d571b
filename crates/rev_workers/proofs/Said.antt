-- Lanes that said their commands, and whose lists are their parts of the journal.
use Rattle.std.proofs.Common.{◌≡◌, ◌<◌, ◌≤◌, ◌+◌, ◌==◌, ℕ, zero, suc, List, [], ◌∷◌, Some, drop, map, slice_get, refl, sym, ap, ◌∙◌, subst, inl, inr, if◌then◌else◌, arith}
use Rattle.std.specs.List.{AllByRecursion}
use Rattle.std.proofs.lemmas.Bool.{cases_order}
use Rattle.std.proofs.lemmas.Bool.Decides.{nat_tests}
use Rattle.rev_commands.specs.declared.command.Command.{Command}
use Rattle.rev_desk.specs.declared.reply.Entry.{Entry}
use Rattle.rev_workers.specs.Tracks.{Track}
use Rattle.rev_workers.specs.Closing.{AreStated, IsOneOfEach, IsMissing, base_in, numbered, part}
use Rattle.rev_workers.specs.Running.{AllRan, AreSaid, Continues, Ran, commands_of, numbers_in, pair_up}
use Rattle.rev_workers.proofs.Counts.{due-past, numbered-cons}

pub pair_up-all : (n : ℕ) (ts : List Track) (lists : List (List Command)) → AllByRecursion (λ (t : Track). t.number < n) ts → AllByRecursion (λ (j : Track × List Command). j.0.number < n) (pair_up ts lists)
pair_up-all n [] lists h = tt
pair_up-all n (t ∷ ts) [] h = (h.0, pair_up-all n ts [] h.1)
pair_up-all n (t ∷ ts) (cs ∷ lists) h = (h.0, pair_up-all n ts lists h.1)

same_base : (t u : Track) (b c : ℕ) → u.number ≡ t.number → u.base ≡ t.base → b ≡ c → (if u.number == 0 then u.base else b) ≡ (if t.number == 0 then t.base else c)
same_base t u b c n e h = λ i. if n i == 0 then e i else h i

base_in-ran : (ts : List Track) (lists : List (List Command)) (us : List Track) → AllRan (pair_up ts lists) us → base_in us ≡ base_in ts
base_in-ran [] lists [] h = refl
base_in-ran [] lists (u ∷ us) h = absurd h
base_in-ran (t ∷ ts) [] [] h = absurd h
base_in-ran (t ∷ ts) [] (u ∷ us) h = same_base t u (base_in us) (base_in ts) h.0.0 h.0.1 (base_in-ran ts [] us h.1)
base_in-ran (t ∷ ts) (cs ∷ lists) [] h = absurd h
base_in-ran (t ∷ ts) (cs ∷ lists) (u ∷ us) h = same_base t u (base_in us) (base_in ts) h.0.0 h.0.1 (base_in-ran ts lists us h.1)

-- the lane at a place, once it has said its commands
ran_at : (ts : List Track) (lists : List (List Command)) (us : List Track) (k : ℕ) (t : Track) → AllRan (pair_up ts lists) us → slice_get ts k ≡ Some t
    → (u : Track) × (slice_get us k ≡ Some u) × Ran t (commands_of (slice_get lists k)) u
ran_at [] lists us k t h is = cc
ran_at (s ∷ ts) [] [] k t h is = absurd h
ran_at (s ∷ ts) [] (u ∷ us) zero t h is = let same : s ≡ t = cc in (u, refl, subst (λ (x : Track). Ran x [] u) same h.0)
ran_at (s ∷ ts) [] (u ∷ us) (suc k) t h is = ran_at ts [] us k t h.1 is
ran_at (s ∷ ts) (cs ∷ lists) [] k t h is = absurd h
ran_at (s ∷ ts) (cs ∷ lists) (u ∷ us) zero t h is = let same : s ≡ t = cc in (u, refl, subst (λ (x : Track). Ran x cs u) same h.0)
ran_at (s ∷ ts) (cs ∷ lists) (u ∷ us) (suc k) t h is = ran_at ts lists us k t h.1 is

all_at : (P : Track → Type 0) (us : List Track) (k : ℕ) (u : Track) → AllByRecursion P us → slice_get us k ≡ Some u → P u
all_at P [] k u h is = cc
all_at P (v ∷ us) zero u h is = let same : v ≡ u = cc in subst P same h.0
all_at P (v ∷ us) (suc k) u h is = all_at P us k u h.1 is

numbered-some : (us : List Track) (k : ℕ) (u : Track) → slice_get us k ≡ Some u → 1 ≤ numbered u.number us
numbered-some [] k u is = cc
numbered-some (v ∷ us) zero u is =
    let whole : v ≡ u = cc in
    let same : v.number ≡ u.number = ap (λ (x : Track). x.number) whole in
    grind (arith, nat_tests, numbered-cons u.number v us)
numbered-some (v ∷ us) (suc k) u is = omega (arith, numbered-cons u.number v us, numbered-some us k u is)

number_below : (n : ℕ) (us : List Track) (k : ℕ) (u : Track) → IsOneOfEach n us → slice_get us k ≡ Some u → u.number < n
number_below n us k u one is =
    let some = numbered-some us k u is in
    elim (cases_order u.number n) [
      | inl same ↦ absurd (omega (arith, some, one u.number, due-past n u.number (omega arith)))
      | inr (inl less) ↦ less
      | inr (inr more) ↦ absurd (omega (arith, some, one u.number, due-past n u.number (omega arith)))
    ]

pub all_said : (lanes : ℕ) (journal : List Entry) (ts : List Track) (lists : List (List Command)) (us : List Track) → AllRan (pair_up ts lists) us → IsOneOfEach lanes us → AreStated lanes journal us → AreSaid ts lists journal
all_said lanes journal ts lists us ran one stated k t is =
    let at = ran_at ts lists us k t ran is in
    let u = at.0 in
    let here : u.list ≡ part u.number (drop (base_in us) journal) = all_at (λ (v : Track). v.number ≡ u.number → v.list ≡ part u.number (drop (base_in us) journal)) us k u (stated u.number (number_below lanes us k u one at.1)) at.1 refl in
    subst (Continues t.list (commands_of (slice_get lists k))) (here ∙ (λ i. part (at.2.0 i) (drop (base_in-ran ts lists us ran i) journal))) at.2.2

-- where there are no lanes, nothing is to be said
pub nobody_said : (ts : List Track) (lists : List (List Command)) (journal : List Entry) → ts ≡ [] → AreSaid ts lists journal
nobody_said [] lists journal none k t is = cc
nobody_said (u ∷ ts) lists journal none k t is = cc

numbered-ran : (n : ℕ) (ts : List Track) (lists : List (List Command)) (us : List Track) → AllRan (pair_up ts lists) us → numbered n us ≡ numbered n ts
numbered-ran n [] lists [] h = refl
numbered-ran n [] lists (u ∷ us) h = absurd h
numbered-ran n (t ∷ ts) [] [] h = absurd h
numbered-ran n (t ∷ ts) [] (u ∷ us) h =
    numbered-cons n u us ∙ (λ i. (if h.0.0 i == n then 1 else 0) + numbered-ran n ts [] us h.1 i) ∙ sym (numbered-cons n t ts)
numbered-ran n (t ∷ ts) (cs ∷ lists) [] h = absurd h
numbered-ran n (t ∷ ts) (cs ∷ lists) (u ∷ us) h =
    numbered-cons n u us ∙ (λ i. (if h.0.0 i == n then 1 else 0) + numbered-ran n ts lists us h.1 i) ∙ sym (numbered-cons n t ts)

pub missing-ran : (lanes n : ℕ) (ts : List Track) (lists : List (List Command)) (us : List Track) → AllRan (pair_up ts lists) us → IsMissing lanes us n → IsMissing lanes ts n
missing-ran lanes n ts lists us ran is =
    (λ e. is.0 (numbered-ran n ts lists us ran ∙ e), λ m less. sym (numbered-ran m ts lists us ran) ∙ is.1 m less)

pub one_of_each-ran : (lanes : ℕ) (ts : List Track) (lists : List (List Command)) (us : List Track) → AllRan (pair_up ts lists) us → IsOneOfEach lanes us → IsOneOfEach lanes ts
one_of_each-ran lanes ts lists us ran one n = sym (numbered-ran n ts lists us ran) ∙ one n

-- a lane with its commands keeps its number
pub numbers-paired : (ts : List Track) (lists : List (List Command)) → numbers_in (pair_up ts lists) ≡ map (λ (t : Track). t.number) ts
numbers-paired [] lists = refl
numbers-paired (t ∷ ts) [] = λ i. t.number ∷ numbers-paired ts [] i
numbers-paired (t ∷ ts) (cs ∷ lists) = λ i. t.number ∷ numbers-paired ts lists i
