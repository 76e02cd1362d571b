-- The verb of a word is looked for among all verbs.
use Rattle.std.proofs.Common.{◌≡◌, ℕ, ◌+◌, ◌<◌, false, cond, List, length, get_or, drop, Option, Some, bytes_eq, sym, ap, ◌∙◌}
use Rattle.std.specs.List.{find}
use Rattle.std.proofs.lemmas.List.{drop_more}
use Rattle.rev_trace.specs.declared.verb.Verb.{Verb}
use Rattle.rev_trace.specs.Commands.{word_of}

-- one verb has another word, so it is looked for among those behind it
pub find-behind : (word : List ℕ) (vs : List Verb) (i : ℕ) (d : Verb) (found : Option Verb) → i < length vs → bytes_eq word (word_of (get_or vs i d)) ≡ false
    → find (λ v. bytes_eq word (word_of v)) (drop i vs) ≡ found → find (λ v. bytes_eq word (word_of v)) (drop (i + 1) vs) ≡ found
find-behind word vs i d found within other h =
    sym (ap (find (λ v. bytes_eq word (word_of v))) (drop_more vs i d within)
    ∙ ap (λ b. cond b (Some (get_or vs i d)) (find (λ v. bytes_eq word (word_of v)) (drop (i + 1) vs))) other) ∙ h
