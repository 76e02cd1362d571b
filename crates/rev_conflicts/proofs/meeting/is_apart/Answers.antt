use Rattle.std.proofs.Common.{false, get_or, sym, ◌∙◌, true≢false}
use Rattle.std.proofs.lemmas.Bool.{false_from_ne_true, not-true, not_from_false}
use Rattle.rev_conflicts.proofs.meeting.is_apart.Goals as goal

pub returns : goal.returns
returns c = (
  λ h. record {
    others = c.if-maker-user.false;
    comes_later = c.if-early-maker.false;
    unordered = λ way. true≢false (sym ((c.requires.waited.exact c.args.maker).1 way) ∙ not-true (get_or c.args.waited.now c.args.maker false) h);
  },
  λ a. not_from_false (get_or c.args.waited.now c.args.maker false) (false_from_ne_true (get_or c.args.waited.now c.args.maker false) (λ e. a.unordered ((c.requires.waited.exact c.args.maker).0 e))),
)
