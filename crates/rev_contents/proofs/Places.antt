-- Places that answer two runs otherwise, and questions that have two replies.
use Rattle.std.proofs.Common.{◌≡◌, false, Some, None, inl, inr, refl, sym, ap, ◌∙◌, true≢false}
use Rattle.std.specs.Prelude.{◌≢◌}
use Rattle.std.proofs.lemmas.Bool.{eq-eqb, ne_eqb}
use Rattle.rev_contents.specs.declared.looks.Answer.{Answer}
use Rattle.rev_contents.specs.declared.looks.Answer.TheVariants.{Missing, There, Content}
use Rattle.rev_contents.specs.Runs.{Ask, Ask.IsThere, Ask.Read, Reply, Reply.No, Reply.Yes, Reply.Holds, alike, reply_to}
use Rattle.rev_contents.specs.Laws.{AgreeingRefute, FirstCauseRefutes, PlacesDecide, ServedLeavesTheSame}
use Rattle.rev_contents.proofs.Together.{explained-together}

no-value : {A : Type 0} (x : A) → None ≡ Some x → ⊥
no-value x e = cc

not-alike : (x y : Answer) (ask : Ask) (r s : Reply) → reply_to x ask ≡ Some r → reply_to y ask ≡ Some s → r ≢ s → alike x y ≡ false
not-alike Missing Missing ask r s e f apart = absurd (apart cc)
not-alike Missing There ask r s e f apart = refl
not-alike Missing (Content y) ask r s e f apart = refl
not-alike There Missing ask r s e f apart = refl
not-alike There There IsThere r s e f apart = absurd (apart cc)
not-alike There There Read r s e f apart = absurd (no-value r e)
not-alike There (Content y) IsThere r s e f apart = absurd (apart cc)
not-alike There (Content y) Read r s e f apart = absurd (no-value r e)
not-alike (Content x) Missing ask r s e f apart = refl
not-alike (Content x) There IsThere r s e f apart = absurd (apart cc)
not-alike (Content x) There Read r s e f apart = absurd (no-value s f)
not-alike (Content x) (Content y) IsThere r s e f apart = absurd (apart cc)
not-alike (Content x) (Content y) Read r s e f apart = ne_eqb x y (λ same. apart (let h : Holds x ≡ Holds y = ap Holds same in cc))

-- a question that has two replies
record Asked (x y : Answer) : Type 0 where
  ask : Ask
  r : Reply
  s : Reply
  one : reply_to x ask ≡ Some r
  other : reply_to y ask ≡ Some s
  apart : r ≢ s

asked : (x y : Answer) → alike x y ≡ false → Asked x y
asked Missing Missing h = absurd (true≢false h)
asked Missing There h = record { ask = IsThere; r = No; s = Yes; one = refl; other = refl; apart = λ e. cc }
asked Missing (Content y) h = record { ask = IsThere; r = No; s = Yes; one = refl; other = refl; apart = λ e. cc }
asked There Missing h = record { ask = IsThere; r = Yes; s = No; one = refl; other = refl; apart = λ e. cc }
asked There There h = absurd (true≢false h)
asked There (Content y) h = absurd (true≢false h)
asked (Content x) Missing h = record { ask = IsThere; r = Yes; s = No; one = refl; other = refl; apart = λ e. cc }
asked (Content x) There h = absurd (true≢false h)
asked (Content x) (Content y) h = record {
  ask = Read;
  r = Holds x;
  s = Holds y;
  one = refl;
  other = refl;
  apart = λ e. let same : x ≡ y = cc in true≢false (sym (eq-eqb x y same) ∙ h);
}

pub places-decide : PlacesDecide
places-decide one other = (
  λ d. (
    d.question.place,
    record {
      here = d.one_knows.answer;
      there = d.other_knows.answer;
      one_has = d.one_knows.looked;
      other_has = d.other_knows.looked;
      unlike = not-alike d.one_knows.answer d.other_knows.answer d.question.ask d.here d.there d.one_knows.says d.other_knows.says d.unlike;
    },
  ),
  λ (place, at). let a = asked at.here at.there at.unlike in record {
    question = record { place = place; ask = a.ask };
    here = a.r;
    there = a.s;
    one_knows = record { answer = at.here; looked = at.one_has; says = a.one };
    other_knows = record { answer = at.there; looked = at.other_has; says = a.other };
    unlike = a.apart;
  },
)

-- WHAT RUNS REFUTE
pub agreeing-refute : AgreeingRefute
agreeing-refute one other = (
  λ none. (
    λ place at. none ((explained-together one other).1 (inr ((places-decide one other).1 (place, at)))),
    λ same. none ((explained-together one other).1 (inl same)),
  ),
  λ (agree, unlike) e. elim ((explained-together one other).0 e) [
    | inl same ↦ unlike same
    | inr d ↦ let p = (places-decide one other).0 d in agree p.0 p.1
  ],
)

pub first-cause-refutes : FirstCauseRefutes
first-cause-refutes one other (agree, apart) e = (agreeing-refute one other).1 (agree, λ same. apart same.left) e

pub served-leaves-the-same : ServedLeavesTheSame
served-leaves-the-same earlier now agree e = elim ((explained-together earlier now).0 e) [
  | inl same ↦ sym same.left
  | inr d ↦ let p = (places-decide earlier now).0 d in absurd (agree p.0 p.1)
]
