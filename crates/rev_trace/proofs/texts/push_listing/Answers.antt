use Rattle.rev_fields.proofs.AnswerLemmas.{on_ok}
use Rattle.rev_trace.proofs.TextLemmas.{listing-text}
use Rattle.rev_trace.proofs.texts.push_listing.Goals as goal

pub returns-in_ok-extend_from_slice-in-Paths-clause-text : goal.returns-in_ok-extend_from_slice-in-Paths-clause-text
returns-in_ok-extend_from_slice-in-Paths-clause-text c =
    on_ok c.next_paths.result _ _ (λ e. listing-text c.args.line.now.items c.extend_from_slice-in-Paths.new.self.items c.next_paths.new.line.items c.in-Paths.paths c.as_slice-in-Paths.result.now c.args.listing.now
    (c.in_ok-extend_from_slice-in-Paths).ensures.items e c.as_slice-in-Paths.ensures c.in-Paths.is) c.next_paths.ensures.text
