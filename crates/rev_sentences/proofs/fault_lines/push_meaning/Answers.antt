use Rattle.std.proofs.Common.{◌≡◌, ◌∙◌, ◌++◌, List, ℕ, Result, Ok, Err, OnOk, ap, codes, append_assoc}
use Rattle.std.specs.Fmt.{decimal}
use Rattle.std.specs.declared.alloc.AllocError.{AllocError}
use Rattle.rev_sentences.proofs.fault_lines.push_meaning.Goals as goal

-- what follows where a call went well
on_ok : {T : Type 0} (r : Result T AllocError) (P Q : Type 0) → (P → Q) → OnOk r P → OnOk r Q
on_ok (Ok x) P Q f h = f h
on_ok (Err e) P Q f h = tt

joined : (old words lead digits close : List ℕ) → (((old ++ words) ++ lead) ++ digits) ++ close ≡ old ++ (((words ++ lead) ++ digits) ++ close)
joined old words lead digits close = simp append_assoc

pub returns : goal.returns
returns c =
    on_ok c.push-3.result _ _
    (λ h. h ∙ ap (λ l. l ++ codes ", docs/CODES.md)")
    (c.in_ok-push_number.ensures ∙ ap (λ l. l ++ decimal c.args.number)
    (c.in_ok-push-2.ensures ∙ ap (λ l. l ++ codes " (")
    (c.in_ok-push.ensures ∙ ap (λ l. c.args.sentence.now.items ++ l) c.words_of.ensures)))
    ∙ joined c.args.sentence.now.items _ (codes " (") (decimal c.args.number) (codes ", docs/CODES.md)"))
    c.push-3.ensures
