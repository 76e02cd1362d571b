-- What is known of a writer's bytes while a text goes out piece by piece.
use Rattle.std.proofs.Common.{◌≡◌, ℕ, ◌+◌, List, [], ◌++◌, Option, Some, None, Result, Ok, Err, IsErrAnd, take, drop, refl, sym, ap, subst, ◌∙◌, append_assoc, append-nil, take-append-drop, length, length-drop, arith, ◌-◌, ◌≤◌}
use Rattle.std.proofs.lemmas.Grind.{common_steps}
use Rattle.std.proofs.Math.Seq.{take-add}
use Rattle.std.specs.Io.KnownBytes.{Appends, Keeps}
use Rattle.rev_script.specs.Output.{AppendsFront, Writes}

-- a slice from n on, as code takes it
pub rest_of : (n : ℕ) (xs : List ℕ) → take (length xs - n) (drop n xs) ≡ drop n xs
rest_of n xs = grind (arith, common_steps)

pub appends-nothing : (a : Option (List ℕ)) → Appends a a []
appends-nothing None = tt
appends-nothing (Some xs) = sym (append-nil xs)

pub appends-then : (a b c : Option (List ℕ)) (xs ys : List ℕ) → Appends a b xs → Appends b c ys → Appends a c (xs ++ ys)
appends-then None b c xs ys p q = tt
appends-then (Some x) None c xs ys p q = absurd p
appends-then (Some x) (Some y) None xs ys p q = absurd q
appends-then (Some x) (Some y) (Some z) xs ys p q = q ∙ ap (λ l. l ++ ys) p ∙ append_assoc x xs ys

pub appends-kept : (a b c : Option (List ℕ)) (xs : List ℕ) → Appends a b xs → Keeps b c → Appends a c xs
appends-kept None b c xs p q = tt
appends-kept (Some x) None c xs p q = absurd p
appends-kept (Some x) (Some y) None xs p q = absurd q
appends-kept (Some x) (Some y) (Some z) xs p q = q ∙ p

-- writes that were interrupted, and then one that was not
pub keeps-all : (a : Option (List ℕ)) → Keeps a a
keeps-all None = tt
keeps-all (Some xs) = refl

pub keeps-then : (a b c : Option (List ℕ)) → Keeps a b → Keeps b c → Keeps a c
keeps-then None b c p q = tt
keeps-then (Some x) None c p q = absurd p
keeps-then (Some x) (Some y) None p q = absurd q
keeps-then (Some x) (Some y) (Some z) p q = q ∙ p

pub kept-appends : (a b c : Option (List ℕ)) (xs : List ℕ) → Keeps a b → Appends b c xs → Appends a c xs
kept-appends None b c xs p q = tt
kept-appends (Some x) None c xs p q = absurd p
kept-appends (Some x) (Some y) None xs p q = absurd q
kept-appends (Some x) (Some y) (Some z) xs p q = q ∙ ap (λ l. l ++ xs) p

pub kept-nothing : (a b c : Option (List ℕ)) → Keeps a b → Appends b c [] → Keeps a c
kept-nothing None b c p q = tt
kept-nothing (Some x) None c p q = absurd p
kept-nothing (Some x) (Some y) None p q = absurd q
kept-nothing (Some x) (Some y) (Some z) p q = q ∙ append-nil y ∙ p

-- one more piece, as long as the count says
pub appends-more : (a b c : Option (List ℕ)) (text : List ℕ) (n k : ℕ) → Appends a b (take n text) → Appends b c (take k (take (length text - n) (drop n text)))
    → Appends a c (take (n + k) text)
appends-more a b c text n k p q =
    subst (Appends a c) (sym (take-add n k text)) (appends-then a b c (take n text) (take k (drop n text)) p (subst (λ xs. Appends b c (take k xs)) (rest_of n text) q))

pub within_rest : (text : List ℕ) (n k : ℕ) → n ≤ length text → k ≤ length (take (length text - n) (drop n text)) → n + k ≤ length text
within_rest text n k h le = let left : k ≤ length (drop n text) = subst (λ xs. k ≤ length xs) (rest_of n text) le in omega (arith, length-drop n text)

-- what stopped after the front of a text
pub stopped : (a b : Option (List ℕ)) (text : List ℕ) (n : ℕ) → Appends a b (take n text) → AppendsFront a b text
stopped a b text n p = record { front = take n text; rest = drop n text; whole = sym (take-append-drop n text); appended = p }

pub nothing-sent : (a : Option (List ℕ)) (text : List ℕ) → AppendsFront a a text
nothing-sent a text = record { front = []; rest = text; whole = refl; appended = appends-nothing a }

-- some bytes of a text went out, and the rest of it is to follow
pub record Leads (start : Option (List ℕ)) (text : List ℕ) (now : Option (List ℕ)) (rest : List ℕ) : Type 0 where
  pub sent : List ℕ
  pub whole : text ≡ sent ++ rest
  pub appended : Appends start now sent

pub leads-start : (a : Option (List ℕ)) (text : List ℕ) → Leads a text a text
leads-start a text = record { sent = []; whole = refl; appended = appends-nothing a }

pub leads-on : (a b c : Option (List ℕ)) (text piece rest : List ℕ) → Leads a text b (piece ++ rest) → Appends b c piece → Leads a text c rest
leads-on a b c text piece rest l p = record {
  sent = l.sent ++ piece;
  whole = l.whole ∙ sym (append_assoc l.sent piece rest);
  appended = appends-then a b c l.sent piece l.appended p;
}

pub leads-to : (a b : Option (List ℕ)) (text rest rest' : List ℕ) → Leads a text b rest → rest ≡ rest' → Leads a text b rest'
leads-to a b text rest rest' l e = subst (Leads a text b) e l

-- the last piece
pub leads-end : (a b : Option (List ℕ)) (text : List ℕ) → Leads a text b [] → Appends a b text
leads-end a b text l = subst (Appends a b) (sym (l.whole ∙ append-nil l.sent)) l.appended

pub leads-last : (a b c : Option (List ℕ)) (text piece : List ℕ) → Leads a text b piece → Appends b c piece → Appends a c text
leads-last a b c text piece l p = subst (Appends a c) (sym l.whole) (appends-then a b c l.sent piece l.appended p)

-- a stop between two pieces
pub leads-stop : (a b : Option (List ℕ)) (text rest : List ℕ) → Leads a text b rest → AppendsFront a b text
leads-stop a b text rest l = record { front = l.sent; rest = rest; whole = l.whole; appended = l.appended }

-- a stop within a piece
pub leads-fail : (a b c : Option (List ℕ)) (text piece rest : List ℕ) → Leads a text b (piece ++ rest) → AppendsFront b c piece → AppendsFront a c text
leads-fail a b c text piece rest l f = record {
  front = l.sent ++ f.front;
  rest = f.rest ++ rest;
  whole = l.whole ∙ ap (λ p. l.sent ++ (p ++ rest)) f.whole ∙ ap (λ p. l.sent ++ p) (append_assoc f.front f.rest rest) ∙ sym (append_assoc l.sent f.front (f.rest ++ rest));
  appended = appends-then a b c l.sent f.front l.appended f.appended;
}

pub leads-fail_last : (a b c : Option (List ℕ)) (text piece : List ℕ) → Leads a text b piece → AppendsFront b c piece → AppendsFront a c text
leads-fail_last a b c text piece l f = record {
  front = l.sent ++ f.front;
  rest = f.rest;
  whole = l.whole ∙ ap (λ p. l.sent ++ p) f.whole ∙ sym (append_assoc l.sent f.front f.rest);
  appended = appends-then a b c l.sent f.front l.appended f.appended;
}

-- a piece of what is left went out, and then the rest is left
pub goes-on : (a b c : Option (List ℕ)) (text left piece rest bytes : List ℕ) → Leads a text b left → left ≡ piece ++ rest → bytes ≡ piece → Appends b c bytes → Leads a text c rest
goes-on a b c text left piece rest bytes l split same p = leads-on a b c text piece rest (leads-to a b text left (piece ++ rest) l split) (subst (Appends b c) same p)

-- a stop within a piece of what is left
pub stops-in : (a b c : Option (List ℕ)) (text left piece rest bytes : List ℕ) → Leads a text b left → left ≡ piece ++ rest → bytes ≡ piece → AppendsFront b c bytes → AppendsFront a c text
stops-in a b c text left piece rest bytes l split same f = leads-fail a b c text piece rest (leads-to a b text left (piece ++ rest) l split) (subst (AppendsFront b c) same f)

-- an error after a front of the text
pub writes-err : {T E : Type 0} (r : Result T E) (P : E → Type 0) (a b : Option (List ℕ)) (text : List ℕ) → IsErrAnd r P → AppendsFront a b text → Writes r a b text
writes-err (Ok x) P a b text h f = absurd h
writes-err (Err e) P a b text h f = f
