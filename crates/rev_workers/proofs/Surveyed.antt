-- Lanes whose later commands are confirmed, and whose earlier ones are compared.
use Rattle.std.proofs.Common.{◌≡◌, ◌∙◌, ◌↔◌, ◌+◌, ◌-◌, ◌≤◌, ◌==◌, ℕ, suc, Bool, true, false, IsTrue, List, [], ◌∷◌, ◌++◌, Some, drop, take, slice_get, refl, sym, ap, subst, arith, if◌then◌else◌, take-append-drop}
use Rattle.std.proofs.lemmas.List.{append_cancel_right, drop-drop}
use Rattle.rev_commands.specs.declared.command.Command.{Command}
use Rattle.rev_desk.specs.declared.reply.Reply.{Reply}
use Rattle.rev_desk.specs.declared.reply.Entry.{Entry}
use Rattle.rev_workers.specs.Closing.{AreStated, IsStated, base_in, part}
use Rattle.rev_workers.specs.Running.{DoneValue, lanes_in}

grown : (b : Bool) (x : Command × Reply) (ps qs : List (Command × Reply)) → (if b then x ∷ (ps ++ qs) else ps ++ qs) ≡ (if b then x ∷ ps else ps) ++ qs
grown true x ps qs = refl
grown false x ps qs = refl

part-append : (n : ℕ) (xs ys : List Entry) → part n (xs ++ ys) ≡ part n xs ++ part n ys
part-append n [] ys = refl
part-append n (e ∷ xs) ys =
    ap (λ (ps : List (Command × Reply)). if e.lane == n then (e.command, e.reply) ∷ ps else ps) (part-append n xs ys)
    ∙ grown (e.lane == n) (e.command, e.reply) (part n xs) (part n ys)

drop-more : (b k : ℕ) (xs : List Entry) → drop k (drop b xs) ≡ drop (b + k) xs
drop-more b k xs = drop-drop k b xs

-- what a lane has past one place is what it has up to a later one, and then what it has past that
part-split : (n b s : ℕ) (journal : List Entry) → b ≤ s → part n (drop b journal) ≡ part n (take (s - b) (drop b journal)) ++ part n (drop s journal)
part-split n b s journal less =
    let same : b + (s - b) ≡ s = omega arith in
    ap (part n) (sym (take-append-drop (s - b) (drop b journal)))
    ∙ part-append n (take (s - b) (drop b journal)) (drop (s - b) (drop b journal))
    ∙ ap (λ es. part n (take (s - b) (drop b journal)) ++ part n es) (drop-more b (s - b) journal ∙ ap (λ k. drop k journal) same)

-- a list whose end is confirmed is stated exactly where its beginning is
pub stated-before : (n b s before : ℕ) (journal : List Entry) (list : List (Command × Reply)) → b ≤ s → drop before list ≡ part n (drop s journal)
    → (take before list ≡ part n (take (s - b) (drop b journal))) ↔ (list ≡ part n (drop b journal))
stated-before n b s before journal list less confirmed =
    let split = part-split n b s journal less in
    let front = part n (take (s - b) (drop b journal)) in
    let whole : take before list ++ part n (drop s journal) ≡ list =
    ap (λ l. take before list ++ l) (sym confirmed) ∙ take-append-drop before list in (
      λ is. sym whole ∙ ap (λ l. l ++ part n (drop s journal)) is ∙ sym split,
      λ is. append_cancel_right (take before list) front (part n (drop s journal)) (whole ∙ is ∙ split),
    )

-- lanes each of which is stated
all-in : (b n : ℕ) (journal : List Entry) (ds : List DoneValue) → ((k : ℕ) (d : DoneValue) → slice_get ds k ≡ Some d → d.lane.list ≡ part d.lane.number (drop b journal)) → IsStated b journal (lanes_in ds) n
all-in b n journal [] h = tt
all-in b n journal (d ∷ ds) h =
    (λ is. h 0 d refl ∙ ap (λ k. part k (drop b journal)) is, all-in b n journal ds (λ k e at. h (suc k) e at))

pub all-stated : (count : ℕ) (journal : List Entry) (ds : List DoneValue) → ((k : ℕ) (d : DoneValue) → slice_get ds k ≡ Some d → d.lane.list ≡ part d.lane.number (drop (base_in (lanes_in ds)) journal)) → AreStated count journal (lanes_in ds)
all-stated count journal ds h n less = all-in (base_in (lanes_in ds)) n journal ds h

-- what was found of the same lists
pub found-as : (b : Bool) (xs ys : List (Command × Reply)) (m n k l base : ℕ) (journal : List Entry) → (IsTrue b ↔ (xs ≡ part m (take k (drop base journal)))) → xs ≡ ys → m ≡ n → k ≡ l
    → IsTrue b ↔ (ys ≡ part n (take l (drop base journal)))
found-as b xs ys m n k l base journal found list number count =
    subst (λ (zs : List (Command × Reply)). IsTrue b ↔ (zs ≡ part n (take l (drop base journal)))) list
    (subst (λ j. IsTrue b ↔ (xs ≡ part j (take l (drop base journal)))) number
    (subst (λ j. IsTrue b ↔ (xs ≡ part m (take j (drop base journal)))) count found))
