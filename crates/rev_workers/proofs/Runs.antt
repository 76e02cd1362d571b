-- A lane that says one command more.
use Rattle.std.proofs.Common.{◌≡◌, ◌∙◌, ◌+◌, ◌<◌, ◌^◌, ℕ, inl, inr, subst, arith, List, [], ◌∷◌, ◌++◌, refl, sym, ap, append-nil, append_assoc}
use Rattle.std.proofs.lemmas.Bool.{cases_order}
use Rattle.std.proofs.lemmas.List.{map-append}
use Rattle.rev_commands.specs.declared.command.Command.{Command}
use Rattle.rev_desk.specs.declared.reply.Reply.{Reply}
use Rattle.rev_workers.specs.Tracks.{Track, said}
use Rattle.rev_workers.specs.Running.{AreTold, Ran}

pub ran-nothing : (t : Track) → Ran t [] t
ran-nothing t = (refl, refl, ([], sym (append-nil t.list), refl))

pub ran-one_more : (t u : Track) (cs : List Command) (c : Command) (r : Reply) (entries : ℕ) → Ran t cs u → Ran t (cs ++ c ∷ []) (said u c r entries)
ran-one_more t u cs c r entries h = (
  h.0,
  h.1,
  (
    h.2.0 ++ (c, r) ∷ [],
    ap (λ (xs : List (Command × Reply)). xs ++ (c, r) ∷ []) h.2.1 ∙ append_assoc t.list h.2.0 ((c, r) ∷ []),
    map-append (λ (s : Command × Reply). s.0) h.2.0 ((c, r) ∷ []) ∙ ap (λ (xs : List Command). xs ++ c ∷ []) h.2.2,
  ),
)

-- a gate is told of one command more
pub told-more : {S : Type 0} (told answered : S → ℕ → ℕ → Type 0) (gate : S) (lane count place total : ℕ) → total ≡ count + 1 → (count + 1 < 2 ^ 32 → place ≡ count + 1) → told gate lane place → answered gate lane place
    → AreTold told answered gate lane count → AreTold told answered gate lane total
told-more told answered gate lane count place total is at before after so_far k some within small =
    elim (cases_order k (count + 1)) [
      | inl same ↦ (
          let fits : count + 1 < 2 ^ 32 = omega (arith, same, small) in
          let here : place ≡ k = omega (arith, at fits, same) in
          (subst (told gate lane) here before, subst (answered gate lane) here after))
      | inr (inl less) ↦ so_far k some (omega (arith, less)) small
      | inr (inr more) ↦ absurd (omega (arith, more, within, is))
    ]
