use Rattle.std.proofs.Common.{◌≡◌, ◌+◌, ◌∷◌, [], ◌++◌, ℕ, List, ap, sym, ◌∙◌, get_or, set, length, map}
use Rattle.std.proofs.lemmas.List.{map-set}
use Rattle.std.proofs.lemmas.Option.{slice_get-get_or}
use Rattle.rev_desk.proofs.JournalLemmas.{IsIndexed-push, get_or-lists}
use Rattle.rev_desk.proofs.journal.Journal.push.Goals as goal

pub returns-clause-indexed : goal.returns-clause-indexed
returns-clause-indexed c =
    IsIndexed-push c.args.self.now _ (record { lane = c.args.lane; command = c.args.command; reply = c.args.reply }) c.push_reserved-2.ensures.items
    (map-set (λ v. v.items) c.args.self.now.numbers.items c.args.lane c.push_reserved.new.self
    ∙ ap (λ l. set (map (λ v. v.items) c.args.self.now.numbers.items) c.args.lane l)
    (c.push_reserved.ensures.items
    ∙ ap (λ l. l ++ c.next_number-number.result ∷ []) (ap (λ v. v.items) c.index_mut.ensures.value ∙ get_or-lists c.args.self.now.numbers.items c.args.lane c.index_mut.result.now c.requires.lane)
    ∙ ap (λ n. get_or (map (λ v. v.items) c.args.self.now.numbers.items) c.args.lane [] ++ n ∷ []) c.next_number-number.ensures))
    c.requires.lane c.requires.indexed
