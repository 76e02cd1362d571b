use Rattle.std.proofs.Common.{Some, sym, ap, ◌∙◌}
use Rattle.std.proofs.lemmas.Slice.Eq.{bytes_eq-Decides}
use Rattle.rev_trace.proofs.MentionedLemmas.{name-at}
use Rattle.rev_trace.proofs.mentions.Mentions.guessed.Goals as goal

-- the name there has the bytes that were looked for
pub returns-then-same_bytes-clause-text : goal.returns-then-same_bytes-clause-text
returns-then-same_bytes-clause-text c =
    let same = (bytes_eq-Decides c.args.text.now c.as_bytes.result.now).0 (sym c.same_bytes.ensures ∙ c.if-same_bytes.true) in
    let at = name-at c.args.self.now.last_lists.entries c.in-Some.place c.in-Some-get_index.name.now c.in-Some-get_index.field-0-1.now (sym c.in-Some-get_index.ensures.entry) in
    at ∙ ap Some (sym (same ∙ c.as_bytes.ensures.bytes))
