-- Edges that run before all else, file by file.
use Rattle.std.proofs.Common.{◌≡◌, ℕ, ◌+◌, ◌<◌, ◌==◌, Bool, true, false, ◌||◌, List, length, get_or, set, take, Option, Some, None, inl, inr, refl, sym, ap, subst, ◌∙◌, arith}
use Rattle.std.proofs.lemmas.Bool.{eq-eqb, ne_eqb, cases_eq}
use Rattle.std.proofs.lemmas.List.{length-set, get_or-set_same, get_or-set_other}
use Rattle.std.proofs.lemmas.List.Folds.{list_any_more}
use Rattle.std.proofs.Math.Seq.{take-length}
use Rattle.rev_manifest.specs.Manifest.{BuildValue}
use Rattle.rev_graph.specs.Graph.{producer_of}
use Rattle.rev_conflicts.specs.Conflicts.{is_by, runs_first}
use Rattle.rev_conflicts.specs.Tables.{AreEarly}

pub record AreEarlyBy (builds : List BuildValue) (files : List (List ℕ)) (n : ℕ) (marks : List Bool) : Type 0 where
  pub each : length marks ≡ length builds
  pub exact : (edge : ℕ) → get_or marks edge false ≡ runs_first builds (take n files) edge

or-false : (b : Bool) → (b || false) ≡ b
or-false true = refl
or-false false = refl

or-true : (b : Bool) → (b || true) ≡ true
or-true true = refl
or-true false = refl

set-or : (marks : List Bool) (x edge : ℕ) → x < length marks → get_or (set marks x true) edge false ≡ (get_or marks edge false || (x == edge))
set-or marks x edge within = elim (cases_eq edge x) [
  | inl same ↦
      subst (λ n. get_or (set marks x true) n false ≡ (get_or marks n false || (x == n))) (sym same)
      (get_or-set_same marks x true false within ∙ sym (ap (λ b. get_or marks x false || b) (eq-eqb x x refl) ∙ or-true (get_or marks x false)))
  | inr other ↦
      get_or-set_other marks x edge true false other
      ∙ sym (ap (λ b. get_or marks edge false || b) (ne_eqb x edge (λ e. other (sym e))) ∙ or-false (get_or marks edge false))
]

module _ (builds : List BuildValue) (files : List (List ℕ)) (n : ℕ) (file : List ℕ) (within : n < length files) (is : file ≡ get_or files n file) where
  more : (o : Option ℕ) → producer_of builds file ≡ o → (edge : ℕ) → runs_first builds (take (n + 1) files) edge ≡ (runs_first builds (take n files) edge || is_by edge o)
  more o made edge =
      list_any_more (λ (f : List ℕ). is_by edge (producer_of builds f)) files n file within
      ∙ ap (λ f. runs_first builds (take n files) edge || is_by edge (producer_of builds f)) (sym is)
      ∙ ap (λ p. runs_first builds (take n files) edge || is_by edge p) made

  pub early-none : (marks : List Bool) → producer_of builds file ≡ None → AreEarlyBy builds files n marks → AreEarlyBy builds files (n + 1) marks
  early-none marks made are = record {
    each = are.each;
    exact = λ edge. are.exact edge ∙ sym (or-false (runs_first builds (take n files) edge)) ∙ sym (more None made edge);
  }

  pub early-one : (marks : List Bool) (p : ℕ) → producer_of builds file ≡ Some p → p < length builds → AreEarlyBy builds files n marks → AreEarlyBy builds files (n + 1) (set marks p true)
  early-one marks p made inside are = record {
    each = length-set marks p true ∙ are.each;
    exact = λ edge.
        set-or marks p edge (let e = are.each in omega (arith, e, inside)) ∙ ap (λ b. b || (p == edge)) (are.exact edge) ∙ sym (more (Some p) made edge);
  }

pub early-start : (builds : List BuildValue) (files : List (List ℕ)) (marks : List Bool) → length marks ≡ length builds → ((k : ℕ) → get_or marks k false ≡ false) → AreEarlyBy builds files 0 marks
early-start builds files marks each none = record { each = each; exact = λ edge. none edge }

pub early-all : (builds : List BuildValue) (files : List (List ℕ)) (n : ℕ) (marks : List Bool) → n ≡ length files → AreEarlyBy builds files n marks → AreEarly builds files marks
early-all builds files n marks all are = record {
  each = are.each;
  exact = λ edge. are.exact edge ∙ ap (λ fs. runs_first builds fs edge) (ap (λ k. take k files) all ∙ take-length files);
}
