-- Lists out of which members of a set of numbers are taken.
use Rattle.std.proofs.Common.{◌≡◌, ℕ, ◌+◌, ◌<◌, Bool, true, false, not, ◌||◌, List, [], ◌∷◌, Option, None, Some, length, get_or, take, refl, sym, ap, subst, ◌∙◌, inl, inr, true≢false}
use Rattle.std.specs.Ordering.{nat_cmp}
use Rattle.rev_causal.specs.AccessLists.{numbers_by, lists_read, lists_write}
use Rattle.rev_causal.specs.Chosen.{is_among, without}
use Rattle.rev_causal.specs.History as causal
use Rattle.rev_causal.specs.Store.{Footprint, Footprint.Whole, Footprint.Cells, among, is_whole}
use Rattle.rev_causal.proofs.AccessLists.{numbers_by-without}
use Rattle.rev_causal.proofs.ByNumber.{without_rises}
use Rattle.rev_causal.proofs.Chosen.{without-not_among}
use Rattle.rev_causal.proofs.Runs.{either}
use Rattle.rev_numbers.specs.Taken.{without_all, IsThinned}
use Rattle.rev_accesses.specs.Thinned.{prints_without, AreThinned, AreThinnedUnder, IsGone, IsGoneUnder}
use Rattle.rev_accesses.specs.Value.{AccessesValue, Index, Prints, Shows, numbers_at}
use Rattle.rev_numbers.proofs.TakenLemmas.{filter_agree, filter_stays, gone_still, thinned_not, thinned_then, without_more, without_none}
use Rattle.rev_accesses.proofs.PlaceLemmas.{among_more}
use Rattle.rev_accesses.proofs.ShowsLemmas.{number_absent, number_fails}

-- lists at places

pub thinned_same : (members : List ℕ) (es fs : Index) → ((q : ℕ) → numbers_at fs q ≡ numbers_at es q) → AreThinnedUnder members es fs
thinned_same members es fs same q = subst (IsThinned members (numbers_at es q)) (sym (same q)) (thinned_not members (numbers_at es q))

-- lists that stayed the same before or behind
pub thinned_behind : (members : List ℕ) (a b d : Index) → ((q : ℕ) → numbers_at b q ≡ numbers_at a q) → AreThinnedUnder members b d → AreThinnedUnder members a d
thinned_behind members a b d same f q = subst (λ ks. IsThinned members ks (numbers_at d q)) (same q) (f q)

pub thinned_before : (members : List ℕ) (a b d : Index) → AreThinnedUnder members a b → ((q : ℕ) → numbers_at d q ≡ numbers_at b q) → AreThinnedUnder members a d
thinned_before members a b d f same q = subst (IsThinned members (numbers_at a q)) (sym (same q)) (f q)

pub gone_before : (n : ℕ) (cs : List ℕ) (b d : Index) → IsGoneUnder n cs b → ((q : ℕ) → numbers_at d q ≡ numbers_at b q) → IsGoneUnder n cs d
gone_before n cs b d gone same q h = ap (λ ks. is_among ks n) (same q) ∙ gone q h

-- one place more
pub gone_more : (members : List ℕ) (n : ℕ) (ps : List ℕ) (i d : ℕ) → i < length ps → (old new : Index) → AreThinnedUnder members old new
    → IsGoneUnder n (take i ps) old → IsGoneUnder n (get_or ps i d ∷ []) new → IsGoneUnder n (take (i + 1) ps) new
gone_more members n ps i d lt old new thinned so_far here q among_all = by (among nat_cmp (take i ps) q) refl
  where
    by : (b : Bool) → among nat_cmp (take i ps) q ≡ b → is_among (numbers_at new q) n ≡ false
    by true e = gone_still members (numbers_at old q) (numbers_at new q) n (thinned q) (so_far q e)
    by false e =
        here q (sym (ap (λ b. b || among nat_cmp (get_or ps i d ∷ []) q) e) ∙ sym (among_more ps i d lt q) ∙ among_all)

-- all lists

pub are_thinned_not : (members : List ℕ) (a : AccessesValue) → AreThinned members a a
are_thinned_not members a = record {
  writers = λ c. thinned_not members (numbers_at a.writers c);
  readers = λ c. thinned_not members (numbers_at a.readers c);
  whole = thinned_not members a.whole;
}

pub are_thinned_then : (members : List ℕ) (a b d : AccessesValue) → AreThinned members a b → AreThinned members b d → AreThinned members a d
are_thinned_then members a b d f g = record {
  writers = λ c. thinned_then members (numbers_at a.writers c) (numbers_at b.writers c) (numbers_at d.writers c) (f.writers c) (g.writers c);
  readers = λ c. thinned_then members (numbers_at a.readers c) (numbers_at b.readers c) (numbers_at d.readers c) (f.readers c) (g.readers c);
  whole = thinned_then members a.whole b.whole d.whole f.whole g.whole;
}

pub is_gone_still : (members : List ℕ) (n : ℕ) (f : Footprint ℕ) (a b : AccessesValue) → AreThinned members a b → IsGone n f a → IsGone n f b
is_gone_still members n f a b thinned gone = record {
  written = λ c h. gone_still members (numbers_at a.writers c) (numbers_at b.writers c) n (thinned.writers c) (gone.written c h);
  read = λ c h. gone_still members (numbers_at a.readers c) (numbers_at b.readers c) n (thinned.readers c) (gone.read c h);
  whole = λ h. gone_still members a.whole b.whole n thinned.whole (gone.whole h);
}

-- the number of an event that reads and writes these places is gone from each
pub gone_from : (n : ℕ) (reads writes : List ℕ) (a : AccessesValue) → IsGoneUnder n writes a.writers → IsGoneUnder n reads a.readers → IsGone n (Cells reads writes) a
gone_from n reads writes a written read = record {
  written = written;
  read = read;
  whole = λ h. absurd (true≢false (sym h));
}

pub gone_whole : (n : ℕ) (a : AccessesValue) → is_among a.whole n ≡ false → IsGone n Whole a
gone_whole n a gone = record {
  written = λ c h. absurd (true≢false (sym h));
  read = λ c h. absurd (true≢false (sym h));
  whole = λ h. gone;
}

-- a footprint that names no cell
pub gone_nowhere : (n : ℕ) (a : AccessesValue) → IsGone n (Cells [] []) a
gone_nowhere n a = record {
  written = λ c h. absurd (true≢false (sym h));
  read = λ c h. absurd (true≢false (sym h));
  whole = λ h. absurd (true≢false (sym h));
}

-- what the lists show when all members are gone

pub prints_without_rise : (members : List ℕ) (ps : Prints) → causal.IsRising ps → causal.IsRising (prints_without members ps)
prints_without_rise [] ps rising = rising
prints_without_rise (m ∷ ms) ps rising = without_rises m (prints_without ms ps) (prints_without_rise ms ps rising)

numbers_without : (test : Footprint ℕ → Bool) (members : List ℕ) (ps : Prints) → causal.IsRising ps
    → numbers_by test (prints_without members ps) ≡ without_all members (numbers_by test ps)
numbers_without test [] ps rising = sym (without_none (numbers_by test ps))
numbers_without test (m ∷ ms) ps rising =
    numbers_by-without test m (prints_without ms ps) (prints_without_rise ms ps rising)
    ∙ ap (without m) (numbers_without test ms ps rising) ∙ without_more m ms (numbers_by test ps)

-- a number in a list has a footprint that passes
passes_in : (test : Footprint ℕ → Bool) (n : ℕ) (ps : Prints) → causal.IsRising ps → is_among (numbers_by test ps) n ≡ true
    → (f : Footprint ℕ) × (causal.event_at n ps ≡ Some f) × (test f ≡ true)
passes_in test n ps rising among = by (causal.event_at n ps) refl
  where
    by : (o : Option (Footprint ℕ)) → causal.event_at n ps ≡ o → (f : Footprint ℕ) × (causal.event_at n ps ≡ Some f) × (test f ≡ true)
    by None e = absurd (true≢false (sym among ∙ number_absent test n ps e))
    by (Some f) e = elim (either (test f)) [
      | inl t ↦ (f, e, t)
      | inr fails ↦
          absurd (true≢false (sym among ∙ sym (ap (λ ks. is_among ks n) (number_fails test n f ps rising e fails)) ∙ without-not_among n (numbers_by test ps)))
    ]

list_thinned : (test : Footprint ℕ → Bool) (members old new : List ℕ) (ps : Prints) → causal.IsRising ps → old ≡ numbers_by test ps → IsThinned members old new
    → ((n : ℕ) (f : Footprint ℕ) → is_among members n ≡ true → causal.event_at n ps ≡ Some f → test f ≡ true → is_among new n ≡ false)
    → new ≡ numbers_by test (prints_without members ps)
list_thinned test members old new ps rising was thinned gone =
    thinned.is ∙ filter_agree thinned.keeps (λ k. not (is_among members k)) old (λ k h. agree k h (is_among members k) refl)
    ∙ ap (without_all members) was ∙ sym (numbers_without test members ps rising)
  where
    agree : (k : ℕ) → is_among old k ≡ true → (b : Bool) → is_among members k ≡ b → thinned.keeps k ≡ not (is_among members k)
    agree k h true e = elim (either (thinned.keeps k)) [
      | inl t ↦
          let at = passes_in test k ps rising (sym (ap (λ ks. is_among ks k) was) ∙ h) in
          absurd (true≢false (sym (ap (λ ks. is_among ks k) thinned.is ∙ filter_stays thinned.keeps k t old h) ∙ gone k at.0 e at.1 at.2))
      | inr f ↦ f ∙ sym (ap not e)
    ]
    agree k h false e = thinned.others k e ∙ sym (ap not e)

pub shows_thinned : (members : List ℕ) (a b : AccessesValue) (ps : Prints) → causal.IsRising ps → Shows a ps → AreThinned members a b
    → ((n : ℕ) (f : Footprint ℕ) → is_among members n ≡ true → causal.event_at n ps ≡ Some f → IsGone n f b) → Shows b (prints_without members ps)
shows_thinned members a b ps rising shown thinned gone = record {
  writers = λ c. list_thinned (lists_write nat_cmp c) members (numbers_at a.writers c) (numbers_at b.writers c) ps rising (shown.writers c) (thinned.writers c) (λ n f among at passes. (gone n f among at).written c passes);
  readers = λ c. list_thinned (lists_read nat_cmp c) members (numbers_at a.readers c) (numbers_at b.readers c) ps rising (shown.readers c) (thinned.readers c) (λ n f among at passes. (gone n f among at).read c passes);
  whole = list_thinned is_whole members a.whole b.whole ps rising shown.whole thinned.whole (λ n f among at passes. (gone n f among at).whole passes);
}
