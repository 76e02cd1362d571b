-- What reads take from a reader.
use Rattle.std.proofs.Common.{◌≡◌, ◌≢◌, ◌∙◌, ◌+◌, ◌<◌, ◌⊎◌, ℕ, Bool, true, List, [], ◌∷◌, ◌++◌, Option, Some, None, IfSome, Ok, Err, length, refl, sym, ap, subst, inl, inr, arith, append_assoc, append-nil, length-append}
use Rattle.std.specs.declared.alloc.Global.{Global}
use Rattle.std.specs.declared.vec.Vec.{Vec}
use Rattle.std.specs.Io.KnownBytes.{Consumes, IsAtEnd}
use Rattle.rev_input.specs.declared.reading.TakeFault.{TakeFault}
use Rattle.rev_input.specs.declared.reading.TakeFault.TheVariants.{Memory, Read}
use Rattle.rev_input.specs.declared.reading.TheConstants.{READ_LIMIT}
use Rattle.rev_input.specs.Input.{AreReads, NoneFails, Outcome, ReadOn, ReadsOne, Takes, bytes_in, bytes_of, is_end}
use Rattle.rev_input.specs.Input.Outcome.{Gave, CutShort, Failed}

-- a further read
pub consumes_more : (old mid new : Option (List ℕ)) (before after : List ℕ) → Consumes old mid before → ReadOn mid new before after → Consumes old new after
consumes_more None mid new before after read more = tt
consumes_more (Some xs) None new before after read more = absurd read
consumes_more (Some xs) (Some ys) None before after read (bytes, _, lost) = absurd lost
consumes_more (Some xs) (Some ys) (Some zs) before after read (bytes, grown, lost) =
    read ∙ ap (λ l. before ++ l) lost ∙ sym (append_assoc before bytes zs) ∙ ap (λ l. l ++ zs) (sym grown)

-- what was read to the end is all that there was
pub read_all : (old new : Option (List ℕ)) (bytes : List ℕ) → Consumes old new bytes → IsAtEnd new → IfSome old (λ all. bytes ≡ all)
read_all None new bytes read end = tt
read_all (Some xs) None bytes read end = absurd read
read_all (Some xs) (Some ys) bytes read end = sym (read ∙ ap (λ l. bytes ++ l) end ∙ append-nil bytes)

-- WHAT READS GIVE
-- so many reads so far, of which none failed, gave these bytes
pub record ReadSoFar {S : Type 0} (gives : S → Outcome → S → Type 0) (old new : S) (count : ℕ) (bytes : List ℕ) : Type 0 where
  pub outcomes : List Outcome
  pub reads : AreReads gives old outcomes new
  pub none : NoneFails outcomes
  pub many : length outcomes ≡ count
  pub whole : bytes ≡ bytes_of outcomes

-- a further one
reads-more : {S : Type 0} (gives : S → Outcome → S → Type 0) (old mid new : S) (os : List Outcome) (o : Outcome) → AreReads gives old os mid → gives mid o new → AreReads gives old (os ++ o ∷ []) new
reads-more gives old mid new [] o same given = (new, subst (λ s. gives s o new) same given, refl)
reads-more gives old mid new (p ∷ os) o reads given =
    (reads.0, reads.1, reads-more gives reads.0 mid new os o reads.2 given)

none-more : (os : List Outcome) (o : Outcome) → NoneFails os → o ≢ Failed → NoneFails (os ++ o ∷ [])
none-more [] o none one = (one, tt)
none-more (p ∷ os) o none one = (none.0, none-more os o none.1 one)

bytes-more : (os : List Outcome) (o : Outcome) → bytes_of (os ++ o ∷ []) ≡ bytes_of os ++ bytes_in o
bytes-more [] o = append-nil (bytes_in o)
bytes-more (p ∷ os) o = ap (λ l. bytes_in p ++ l) (bytes-more os o) ∙ sym (append_assoc (bytes_in p) (bytes_of os) (bytes_in o))

-- no read yet
pub none_read : {S : Type 0} (gives : S → Outcome → S → Type 0) (old : S) (bytes : List ℕ) → bytes ≡ [] → ReadSoFar gives old old 0 bytes
none_read gives old bytes none = record { outcomes = []; reads = refl; none = tt; many = refl; whole = none }

-- one that went on
pub one_more : {S : Type 0} (gives : S → Outcome → S → Type 0) (old mid new : S) (count : ℕ) (before after : List ℕ) (ended : Bool) → ReadSoFar gives old mid count before
    → (o : Outcome) × gives mid o new × ReadsOne o before after (Ok ended) → ReadSoFar gives old new (count + 1) after
one_more gives old mid new count before after ended so_far (o, given, one) =
    record {
      outcomes = so_far.outcomes ++ o ∷ [];
      reads = reads-more gives old mid new so_far.outcomes o so_far.reads given;
      none = none-more so_far.outcomes o so_far.none one.0;
      many = omega (arith, length-append so_far.outcomes (o ∷ []), so_far.many);
      whole = one.1 ∙ ap (λ l. l ++ bytes_in o) so_far.whole ∙ sym (bytes-more so_far.outcomes o);
    }

end-gave : (o : Outcome) → is_end o ≡ true → o ≡ Gave []
end-gave (Gave []) is = refl
end-gave (Gave (b ∷ bytes)) is = cc
end-gave CutShort is = cc
end-gave Failed is = cc

-- the last one, which found the end or gave more than is wanted
pub read_enough : {S : Type 0} (gives : S → Outcome → S → Type 0) (old mid new : S) (count most : ℕ) (before : List ℕ) (bytes : Vec ℕ Global) (ended : Bool) → ReadSoFar gives old mid count before
    → (o : Outcome) × gives mid o new × ReadsOne o before bytes.items (Ok ended) → (ended ≡ true) ⊎ (most < length bytes.items) → Takes gives most old new (Ok bytes)
unfolding one_more
read_enough gives old mid new count most before bytes ended so_far (o, given, one) why =
    let more = one_more gives old mid new count before bytes.items ended so_far (o, given, one) in
    record {
      outcomes = more.outcomes;
      reads = more.reads;
      answered = (
        more.whole,
        more.none,
        elim why [
          | inl end ↦ inl (so_far.outcomes, so_far.none, ap (λ p. so_far.outcomes ++ p ∷ []) (end-gave o (sym one.2 ∙ end)))
          | inr many ↦ inr many
        ],
      );
    }

-- the last one, which failed, or for which there was no memory
pub read_failed : {S : Type 0} (gives : S → Outcome → S → Type 0) (old mid new : S) (count most : ℕ) (before after : List ℕ) (fault : TakeFault) → ReadSoFar gives old mid count before
    → (o : Outcome) × gives mid o new × ReadsOne o before after (Err fault) → Takes gives most old new (Err fault)
read_failed gives old mid new count most before after Memory so_far (o, given, one) =
    record {
      outcomes = so_far.outcomes ++ o ∷ [];
      reads = reads-more gives old mid new so_far.outcomes o so_far.reads given;
      answered = tt;
    }
read_failed gives old mid new count most before after Read so_far (o, given, one) =
    record {
      outcomes = so_far.outcomes ++ o ∷ [];
      reads = reads-more gives old mid new so_far.outcomes o so_far.reads given;
      answered = inl (so_far.outcomes, so_far.none, ap (λ p. so_far.outcomes ++ p ∷ []) one);
    }

-- as many as there may be
pub read_long : {S : Type 0} (gives : S → Outcome → S → Type 0) (old new : S) (most : ℕ) (bytes : List ℕ) → ReadSoFar gives old new READ_LIMIT bytes → Takes gives most old new (Err Read)
read_long gives old new most bytes so_far =
    record { outcomes = so_far.outcomes; reads = so_far.reads; answered = inr (so_far.none, so_far.many) }

-- none was asked
pub read_none : {S : Type 0} (gives : S → Outcome → S → Type 0) (old : S) (most : ℕ) → Takes gives most old old (Err Memory)
read_none gives old most = record { outcomes = []; reads = refl; answered = tt }
