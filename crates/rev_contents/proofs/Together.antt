-- Which two runs one command does.
use Rattle.std.proofs.Common.{◌≡◌, Bool, true, false, List, [], ◌∷◌, inl, inr, refl, sym, ap, subst, ◌∙◌, Contains, ◌⊎◌, if◌then◌else◌}
use Rattle.std.specs.Prelude.{◌≢◌, ◌↔◌}
use Rattle.std.proofs.lemmas.Bool.{cases_eq}
use Rattle.rev_contents.specs.declared.looks.Left.{Left}
use Rattle.rev_contents.specs.Runs.{Differ, Knows, Question, Reply, Reply.No, Reply.Yes, Reply.Holds, Run, Same, Step}
use Rattle.rev_contents.specs.Commands.{Act, Act.Asks, Act.Ends, Command, Does}
use Rattle.rev_contents.specs.Laws.{ExplainedTogether, IsExplained}
use Rattle.rev_contents.proofs.Members.{further, here, here-or}
use Rattle.rev_contents.proofs.Steps.{exact, steps-of}

-- two replies are the same or not
pub same-reply : (x y : Reply) → (x ≡ y) ⊎ (x ≢ y)
same-reply No No = inl refl
same-reply No Yes = inr (λ e. cc)
same-reply No (Holds y) = inr (λ e. cc)
same-reply Yes No = inr (λ e. cc)
same-reply Yes Yes = inl refl
same-reply Yes (Holds y) = inr (λ e. cc)
same-reply (Holds x) No = inr (λ e. cc)
same-reply (Holds x) Yes = inr (λ e. cc)
same-reply (Holds x) (Holds y) = elim (cases_eq x y) [
  | inl same ↦ inl (ap Holds same)
  | inr apart ↦ inr (λ e. apart cc)
]

same-step : (s t : Step) → s.question ≡ t.question → s.reply ≡ t.reply → s ≡ t
same-step s t p q =
    ap (λ question. record { question = question; reply = s.reply }) p
    ∙ ap (λ reply. record { question = t.question; reply = reply }) q

-- A COMMAND IS ONE FUNCTION
-- Two lists of steps have a question with two replies.
record Split (one other : List Step) : Type 0 where
  question : Question
  x : Reply
  y : Reply
  in_one : Contains one (record { question = question; reply = x })
  in_other : Contains other (record { question = question; reply = y })
  apart : x ≢ y

no-end : (question : Question) (left : List Left) (act : Act) → act ≡ Ends left → act ≡ Asks question → ⊥
no-end question left act e f = let no : Ends left ≡ Asks question = sym e ∙ f in cc

same-or-split : (command : Command) (one other : List Step) (left right : List Left) → Does command one left → Does command other right
    → ((one ≡ other) × (left ≡ right)) ⊎ Split one other
same-or-split command [] [] left right does others = inl (refl, let e : Ends left ≡ Ends right = sym does ∙ others in cc)
same-or-split command [] (t ∷ ts) left right does others = absurd (no-end t.question left (command []) does others.0)
same-or-split command (s ∷ ss) [] left right does others = absurd (no-end s.question right (command []) others does.0)
same-or-split command (s ∷ ss) (t ∷ ts) left right does others =
    by (same-reply s.reply t.reply) (λ same. same-or-split (λ later. command (s ∷ later)) ss ts left right does.1
    (subst (λ step. Does (λ later. command (step ∷ later)) ts right) (sym same) others.1))
  where
    asks : s.question ≡ t.question
    asks = let e : Asks s.question ≡ Asks t.question = sym does.0 ∙ others.0 in cc

    whole : s ≡ t → ((ss ≡ ts) × (left ≡ right)) ⊎ Split ss ts → (((s ∷ ss) ≡ (t ∷ ts)) × (left ≡ right)) ⊎ Split (s ∷ ss) (t ∷ ts)
    whole same (inl is) = inl (ap (λ step. step ∷ ss) same ∙ ap (λ rest. t ∷ rest) is.0, is.1)
    whole same (inr split) = inr (record {
      question = split.question;
      x = split.x;
      y = split.y;
      in_one = further s _ ss split.in_one;
      in_other = further t _ ts split.in_other;
      apart = split.apart;
    })

    by : (s.reply ≡ t.reply) ⊎ (s.reply ≢ t.reply) → (s ≡ t → ((ss ≡ ts) × (left ≡ right)) ⊎ Split ss ts)
        → (((s ∷ ss) ≡ (t ∷ ts)) × (left ≡ right)) ⊎ Split (s ∷ ss) (t ∷ ts)
    by (inl same) rest = let e = same-step s t asks same in whole e (rest e)
    by (inr apart) rest = inr (record {
      question = s.question;
      x = s.reply;
      y = t.reply;
      in_one = here s ss;
      in_other = subst (λ q. Contains (t ∷ ts) (record { question = q; reply = t.reply })) (sym asks) (here t ts);
      apart = apart;
    })

together : (one other : Run) → IsExplained one other → Same one other ⊎ Differ one other
together one other e = by (same-or-split e.command e.does_one.steps e.does_other.steps one.left other.left e.does_one.does e.does_other.does)
  where
    by : ((e.does_one.steps ≡ e.does_other.steps) × (one.left ≡ other.left)) ⊎ Split e.does_one.steps e.does_other.steps → Same one other ⊎ Differ one other
    by (inl is) = inl (record {
      knows = λ step. (
        λ known. (e.does_other.exact step).0 (subst (λ steps. Contains steps step) is.0 ((e.does_one.exact step).1 known)),
        λ known. (e.does_one.exact step).0 (subst (λ steps. Contains steps step) (sym is.0) ((e.does_other.exact step).1 known)),
      );
      left = is.1;
    })
    by (inr split) = inr (record {
      question = split.question;
      here = split.x;
      there = split.y;
      one_knows = (e.does_one.exact _).0 split.in_one;
      other_knows = (e.does_other.exact _).0 split.in_other;
      unlike = split.apart;
    })

-- A COMMAND FOR TWO RUNS
-- it asks what these steps ask, one by one, whatever the replies are
abbrev follow : List Step → List Left → Command
follow [] left steps = Ends left
follow (s ∷ rest) left [] = Asks s.question
follow (s ∷ rest) left (t ∷ later) = follow rest left later

follow-does : (steps : List Step) (left : List Left) → Does (follow steps left) steps left
follow-does [] left = refl
follow-does (s ∷ rest) left = (refl, follow-does rest left)

of-same : (one other : Run) → Same one other → IsExplained one other
of-same one other same = record {
  command = follow (steps-of one.looks) one.left;
  does_one = record { steps = steps-of one.looks; exact = exact one; does = follow-does (steps-of one.looks) one.left };
  does_other = record {
    steps = steps-of one.looks;
    exact = λ step. (λ h. (same.knows step).0 ((exact one step).0 h), λ h. (exact one step).1 ((same.knows step).1 h));
    does = subst (λ left. Does (follow (steps-of one.looks) one.left) (steps-of one.looks) left) same.left (follow-does (steps-of one.looks) one.left);
  };
}

abbrev is-same : {x y : Reply} → (x ≡ y) ⊎ (x ≢ y) → Bool
is-same (inl same) = true
is-same (inr apart) = false

is-true : {x y : Reply} (d : (x ≡ y) ⊎ (x ≢ y)) → x ≡ y → is-same d ≡ true
is-true (inl same) e = refl
is-true (inr apart) e = absurd (apart e)

is-false : {x y : Reply} (d : (x ≡ y) ⊎ (x ≢ y)) → x ≢ y → is-same d ≡ false
is-false (inl same) apart = absurd (apart same)
is-false (inr other) apart = refl

-- by a choice, the rest of one list or of the other
abbrev go-on : Bool → List Step → List Left → List Step → List Left → Command
go-on choice one left other right later = if choice then follow one left later else follow other right later

-- it asks first what has two replies, and by the reply it follows one list or the other
abbrev forked : Question → Reply → List Step → List Left → List Step → List Left → Command
forked question x one left other right [] = Asks question
forked question x one left other right (s ∷ later) = go-on (is-same (same-reply s.reply x)) one left other right later

-- what a run knows already may be asked first
first-too : (run : Run) (first : Step) → Knows run first → (step : Step) → Contains (first ∷ steps-of run.looks) step ↔ Knows run step
first-too run first known step = (
  λ h. elim (here-or first step (steps-of run.looks) h) [
    | inl same ↦ subst (Knows run) same known
    | inr later ↦ (exact run step).0 later
  ],
  λ h. further first step (steps-of run.looks) ((exact run step).1 h),
)

of-differ : (one other : Run) → Differ one other → IsExplained one other
of-differ one other d = record {
  command = forked d.question d.here (steps-of one.looks) one.left (steps-of other.looks) other.left;
  does_one = record {
    steps = record { question = d.question; reply = d.here } ∷ steps-of one.looks;
    exact = first-too one _ d.one_knows;
    does = (
      refl,
      subst (λ c. Does (go-on c (steps-of one.looks) one.left (steps-of other.looks) other.left) (steps-of one.looks) one.left)
          (sym (is-true (same-reply d.here d.here) refl)) (follow-does (steps-of one.looks) one.left),
    );
  };
  does_other = record {
    steps = record { question = d.question; reply = d.there } ∷ steps-of other.looks;
    exact = first-too other _ d.other_knows;
    does = (
      refl,
      subst (λ c. Does (go-on c (steps-of one.looks) one.left (steps-of other.looks) other.left) (steps-of other.looks) other.left)
          (sym (is-false (same-reply d.there d.here) (λ e. d.unlike (sym e)))) (follow-does (steps-of other.looks) other.left),
    );
  };
}

pub explained-together : ExplainedTogether
explained-together one other = (
  together one other,
  λ h. elim h [
    | inl same ↦ of-same one other same
    | inr differ ↦ of-differ one other differ
  ],
)
