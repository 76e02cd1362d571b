use Rattle.std.proofs.Common.{List, ℕ, nat_eq, sym, subst}
use Rattle.std.specs.Cmp.Lexicographic.{nat_list_eq_equiv}
use Rattle.std.proofs.lemmas.Map.Entries.{lookup_from_place}
use Rattle.indexmap.specs.IndexMap.{set_value_at}
use Rattle.indexmap.proofs.CallerLemmas.{updates-with_value_at}
use Rattle.rev_trace.specs.Mentioned.{IsMentioned}
use Rattle.rev_trace.proofs.MentionedLemmas.{mentioned-again}
use Rattle.rev_trace.proofs.mentions.Mentions.mention_at.Goals as goal

-- the path gets the number of the list
pub returns-clause-mentioned : goal.returns-clause-mentioned
returns-clause-mentioned c =
    let e = c.pair_mut-last.ensures in
    let m = c.args.self.now.last_lists in
    let list = c.args.self.now.list in
    let name = c.pair_mut-last.result.0.now in
    let last = c.pair_mut-last.result.1.now in
    let new = set_value_at m.entries c.args.place list in
    let u = updates-with_value_at m c.args.place list nat_list_eq_equiv e.unique name last e.value in
    let P : List ℕ → Type 0 = λ path. IsMentioned m.entries new list path (nat_eq last list) in
    subst P (sym c.in_ok-path.ensures.equal) (mentioned-again m.entries new list name u.1 u.0 last (lookup_from_place nat_list_eq_equiv m.entries c.args.place name last e.unique e.value))
