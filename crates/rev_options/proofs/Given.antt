-- That a command line whose options have to be given gives them values.
use Rattle.std.proofs.Common.{zero, suc, ◌≡◌, ◌∙◌, ◌==◌, ◌<◌, ap, arith, false, if◌then◌else◌, inl, inr, length, List, [], ◌∷◌, ℕ, slice_index, sym}
use Rattle.std.specs.List.{All, slice_index_or}
use Rattle.std.proofs.lemmas.List.Elements.{All-cons, All-nil}
use Rattle.std.proofs.lemmas.Slice.Eq.{bytes_eq-Decides}
use Rattle.clap.specs.Facts.{args_of, groups_of}
use Rattle.clap.specs.Built.{AddsArg, AddsInTurn, FitsChain, HasDistinctIds, IsPlainArg, TakesValue}
use Rattle.clap.specs.Words.{Text}
use Rattle.clap.specs.declared.builder.arg.Arg.{Arg}
use Rattle.clap.specs.declared.builder.command.Command.{Command}
use Rattle.clap.specs.declared.builder.command.Command.TheViews.{out-Command}
use Rattle.clap.proofs.CallerLemmas.{required_in_chain}
use Rattle.rev_options.specs.CommandLine.{Gives}

-- the second byte of an argument's name
abbrev letter : Arg → ℕ
letter a = slice_index a.id.now 1

-- the place of an argument by that byte
place : ℕ → ℕ
place n =
    if n == 97 then 0
    else (if n == 114 then 1 else (if n == 99 then 2 else (if n == 111 then 3 else (if n == 105 then 4 else 5))))

fits : (a : Arg) (n : ℕ) → IsPlainArg a → a.global ≡ false → letter a ≡ n
    → (n ≡ 0 → ⊥) → (n ≡ 101 → ⊥) → FitsChain a
fits a n plain alone is not_0 not_e = (
  plain,
  alone,
  (λ e. not_0 (sym is ∙ ap (λ (t : Text). slice_index t 1) e)),
  (λ auto. elim auto [
    | inl h ↦ not_e (sym is ∙ ap (λ (t : Text). slice_index t 1) h)
    | inr v ↦ not_e (sym is ∙ ap (λ (t : Text). slice_index t 1) v)
  ]),
)

distinct : (xs : List Arg) → ((j : ℕ) (e : Arg) → j < length xs → place (letter (slice_index_or xs j e)) ≡ j) → HasDistinctIds xs
distinct xs at j k d e low lower same =
    let ids = (bytes_eq-Decides (slice_index_or xs j e).id.now (slice_index_or xs k d).id.now).0 same in
    sym (at j e low) ∙ (ap (λ (t : Text). place (slice_index t 1)) ids ∙ at k d lower)

module _ (a b c d e f : Arg) where
  abbrev list : List Arg
  list = a ∷ b ∷ c ∷ d ∷ e ∷ f ∷ []

  placed : letter a ≡ 97 → letter b ≡ 114 → letter c ≡ 99 → letter d ≡ 111 → letter e ≡ 105 → letter f ≡ 73
      → (j : ℕ) (x : Arg) → j < length list → place (letter (slice_index_or list j x)) ≡ j
  unfolding place
  placed la lb lc ld le lf zero x low = ap place la
  placed la lb lc ld le lf (suc zero) x low = ap place lb
  placed la lb lc ld le lf (suc (suc zero)) x low = ap place lc
  placed la lb lc ld le lf (suc (suc (suc zero))) x low = ap place ld
  placed la lb lc ld le lf (suc (suc (suc (suc zero)))) x low = ap place le
  placed la lb lc ld le lf (suc (suc (suc (suc (suc zero))))) x low = ap place lf
  placed la lb lc ld le lf (suc (suc (suc (suc (suc (suc n)))))) x low = absurd (omega arith)

  all_fit : FitsChain a → FitsChain b → FitsChain c → FitsChain d → FitsChain e → FitsChain f → All FitsChain list
  all_fit fa fb fc fd fe ff =
      All-cons FitsChain a (b ∷ c ∷ d ∷ e ∷ f ∷ []) fa (All-cons FitsChain b (c ∷ d ∷ e ∷ f ∷ []) fb
      (All-cons FitsChain c (d ∷ e ∷ f ∷ []) fc (All-cons FitsChain d (e ∷ f ∷ []) fd (All-cons FitsChain e (f ∷ []) fe
      (All-cons FitsChain f [] ff (All-nil FitsChain))))))

-- what is known of an argument of the command line, the second byte of whose name is n
pub record IsAt (n : ℕ) (a : Arg) : Type 0 where
  pub plain : IsPlainArg a
  pub alone : a.global ≡ false
  pub begins : slice_index a.id.now 1 ≡ n

-- a command to which six such arguments were added gives the first three their values
pub given : (start cmd : Command) (a b c d e f : Arg) → AddsInTurn AddsArg start (a ∷ b ∷ c ∷ d ∷ e ∷ f ∷ []) cmd
    → args_of start ≡ [] → groups_of start ≡ []
    → (out-Command start).has_globals ≡ false → (out-Command start).subcommand_negates_reqs ≡ false
    → IsAt 97 a → IsAt 114 b → IsAt 99 c → IsAt 111 d → IsAt 105 e → IsAt 73 f
    → TakesValue a → TakesValue b → TakesValue c
    → Gives cmd a.id.now × Gives cmd b.id.now × Gives cmd c.id.now
given start cmd a b c d e f chain args groups globals negates ia ib ic id ie if_ ta tb tc =
    let fit = all_fit a b c d e f
    (fits a 97 ia.plain ia.alone ia.begins (λ x. absurd (omega arith)) (λ x. absurd (omega arith)))
    (fits b 114 ib.plain ib.alone ib.begins (λ x. absurd (omega arith)) (λ x. absurd (omega arith)))
    (fits c 99 ic.plain ic.alone ic.begins (λ x. absurd (omega arith)) (λ x. absurd (omega arith)))
    (fits d 111 id.plain id.alone id.begins (λ x. absurd (omega arith)) (λ x. absurd (omega arith)))
    (fits e 105 ie.plain ie.alone ie.begins (λ x. absurd (omega arith)) (λ x. absurd (omega arith)))
    (fits f 73 if_.plain if_.alone if_.begins (λ x. absurd (omega arith)) (λ x. absurd (omega arith))) in
    let apart = distinct (a ∷ b ∷ c ∷ d ∷ e ∷ f ∷ []) (placed a b c d e f ia.begins ib.begins ic.begins id.begins ie.begins if_.begins) in (
      (λ m p. required_in_chain start cmd (a ∷ b ∷ c ∷ d ∷ e ∷ f ∷ []) 0 a m chain args groups globals negates fit apart (omega arith) ta p),
      (λ m p. required_in_chain start cmd (a ∷ b ∷ c ∷ d ∷ e ∷ f ∷ []) 1 a m chain args groups globals negates fit apart (omega arith) tb p),
      (λ m p. required_in_chain start cmd (a ∷ b ∷ c ∷ d ∷ e ∷ f ∷ []) 2 a m chain args groups globals negates fit apart (omega arith) tc p),
    )
