-- Tables of who leaves which file, one command after the other.
use Rattle.std.proofs.Common.{◌≡◌, ℕ, ◌+◌, ◌<◌, Bool, true, false, List, length, get_or, ◌⊎◌, inl, inr, refl, sym, ap, subst, ◌∙◌, arith, Contains}
use Rattle.std.specs.Prelude.{◌↔◌}
use Rattle.std.proofs.lemmas.Bool.{cases_eq}
use Rattle.std.proofs.lemmas.List.{get_or_default}
use Rattle.std.proofs.lemmas.List.Elements.{Contains-get_or}
use Rattle.rev_manifest.specs.Manifest.{BuildValue}
use Rattle.rev_ranks.specs.Graph.{Steps}
use Rattle.rev_observed.specs.CommandValues.{CommandValue}
use Rattle.rev_observed.specs.declared.kind.Kind.TheVariants.{Writes}
use Rattle.rev_conflicts.specs.Places.{does}
use Rattle.rev_conflicts.specs.Tables.{Puts, SomeBelow}
use Rattle.rev_undeclared.specs.Undeclared.{IsOpen}
use Rattle.rev_undeclared.specs.Tables.{AreLeft, IsOpenAmong, IsOpenAt, LeavesBy, PutsIf}

-- ONE PATH
pub puts-none : (lists : List (List ℕ)) (command : ℕ) (P : ℕ → Type 0) → ((p : ℕ) → P p → ⊥) → PutsIf lists lists command P
puts-none lists command P none = record {
  each = refl;
  exact = λ p c. (λ h. inl h, λ h. elim h [ inl o ↦ o | inr both ↦ absurd (none p both.1) ]);
}

pub open-none : (paths : List (List ℕ)) (hidden : List Bool) (sides : List BuildValue) (edge path command : ℕ) (lists : List (List ℕ)) → (IsOpen paths hidden sides edge path → ⊥)
    → PutsIf lists lists command (IsOpenAt paths hidden sides edge path)
open-none paths hidden sides edge path command lists none = puts-none lists command (IsOpenAt paths hidden sides edge path) (λ p at. none at.is_open)

pub open-here : (paths : List (List ℕ)) (hidden : List Bool) (sides : List BuildValue) (edge path command : ℕ) (old new : List (List ℕ)) → IsOpen paths hidden sides edge path → Puts old new path command
    → PutsIf old new command (IsOpenAt paths hidden sides edge path)
open-here paths hidden sides edge path command old new is_open put = record {
  each = put.each;
  exact = λ p c. (
    λ h. elim ((put.exact p c).0 h) [ inl o ↦ inl o | inr both ↦ inr (both.1, record { same = both.0; is_open = is_open }) ],
    λ h. (put.exact p c).1 (elim h [ inl o ↦ inl o | inr both ↦ let at = both.1 in inr (at.same, both.0) ]),
  );
}

-- ALL PATHS THAT A COMMAND LEAVES
abbrev pub FirstOpen : List (List ℕ) → List Bool → List BuildValue → ℕ → List ℕ → ℕ → ℕ → Type 0
FirstOpen paths hidden sides edge written n p = SomeBelow (λ i. IsOpenAt paths hidden sides edge (get_or written i 0) p) n

pub first-none : (paths : List (List ℕ)) (hidden : List Bool) (sides : List BuildValue) (edge command : ℕ) (written : List ℕ) (lists : List (List ℕ)) → PutsIf lists lists command (FirstOpen paths hidden sides edge written 0)
first-none paths hidden sides edge command written lists = puts-none lists command (FirstOpen paths hidden sides edge written 0) (λ p s. let b = s.below in omega (arith, b))

pub first-more : (paths : List (List ℕ)) (hidden : List Bool) (sides : List BuildValue) (edge command n : ℕ) (written : List ℕ) (one two three : List (List ℕ))
    → PutsIf one two command (FirstOpen paths hidden sides edge written n) → PutsIf two three command (IsOpenAt paths hidden sides edge (get_or written n 0))
    → PutsIf one three command (FirstOpen paths hidden sides edge written (n + 1))
first-more paths hidden sides edge command n written one two three before step = record {
  each = step.each ∙ before.each;
  exact = λ p c. (
    λ h. elim ((step.exact p c).0 h) [
      | inl old ↦ elim ((before.exact p c).0 old) [
        | inl o ↦ inl o
        | inr both ↦ inr (both.0, let s = both.1 in let b = s.below in record { number = s.number; below = omega (arith, b); holds = s.holds })
      ]
      | inr both ↦ inr (both.0, record { number = n; below = omega arith; holds = both.1 })
    ],
    λ h. elim h [
      | inl o ↦ (step.exact p c).1 (inl ((before.exact p c).1 (inl o)))
      | inr both ↦ elim (cases_eq both.1.number n) [
        | inl same ↦ (step.exact p c).1 (inr (both.0, subst (λ i. IsOpenAt paths hidden sides edge (get_or written i 0) p) same both.1.holds))
        | inr other ↦ (step.exact p c).1 (inl ((before.exact p c).1 (inr (both.0, let s = both.1 in let b = s.below in record { number = s.number; below = omega (arith, b, other); holds = s.holds }))))
      ]
    ],
  );
}

pub puts-by : (old new : List (List ℕ)) (command : ℕ) (P Q : ℕ → Type 0) → ((p : ℕ) → P p ↔ Q p) → PutsIf old new command P → PutsIf old new command Q
puts-by old new command P Q same put = record {
  each = put.each;
  exact = λ p c. (
    λ h. elim ((put.exact p c).0 h) [ inl o ↦ inl o | inr both ↦ inr (both.0, (same p).0 both.1) ],
    λ h. (put.exact p c).1 (elim h [ inl o ↦ inl o | inr both ↦ inr (both.0, (same p).1 both.1) ]),
  );
}

pub first-all : (paths : List (List ℕ)) (hidden : List Bool) (sides : List BuildValue) (edge : ℕ) (written : List ℕ) (p : ℕ)
    → FirstOpen paths hidden sides edge written (length written) p ↔ IsOpenAmong paths hidden sides edge written p
first-all paths hidden sides edge written p = (
  λ s.
      let b = s.below in
      let at = s.holds in
      record {
        among = subst (Contains written) (sym at.same) (Contains-get_or written s.number 0 b);
        is_open = subst (IsOpen paths hidden sides edge) (sym at.same) at.is_open;
      },
  λ among.
      let c = among.among in
      let at : get_or written c.0 0 ≡ p = get_or_default written c.0 0 p c.1 ∙ c.2 in
      record {
        number = c.0;
        below = c.1;
        holds = record { same = sym at; is_open = subst (IsOpen paths hidden sides edge) (sym at) among.is_open };
      },
)

-- ALL COMMANDS
-- the table of the first commands
pub record AreLeftBy (paths : List (List ℕ)) (hidden : List Bool) (sides : List BuildValue) (early : List Bool) (commands : List CommandValue) (edges : List ℕ) (n : ℕ) (lists : List (List ℕ)) : Type 0 where
  pub each : length lists ≡ length paths
  pub exact : (p c : ℕ) → Steps lists p c ↔ ((c < n) × LeavesBy paths hidden sides early commands edges p c)

module _ (paths : List (List ℕ)) (hidden : List Bool) (sides : List BuildValue) (early : List Bool) (commands : List CommandValue) (edges : List ℕ) where
  pub left-none : (lists : List (List ℕ)) → length lists ≡ length paths → ((p c : ℕ) → Steps lists p c → ⊥) → AreLeftBy paths hidden sides early commands edges 0 lists
  left-none lists each none = record { each = each; exact = λ p c. (λ h. absurd (none p c h), λ both. let b = both.0 in absurd (omega (arith, b))) }

  pub left-more : (n edge : ℕ) (command : CommandValue) (written : List ℕ) (old new : List (List ℕ)) → n < length commands → command ≡ get_or commands n command → edge ≡ get_or edges n 0
      → ((p : ℕ) → Contains written p ↔ ((get_or early edge false ≡ false) × (does Writes command p ≡ true))) → AreLeftBy paths hidden sides early commands edges n old
      → PutsIf old new n (IsOpenAmong paths hidden sides edge written) → AreLeftBy paths hidden sides early commands edges (n + 1) new
  left-more n edge command written old new within is of all before step = record {
    each = step.each ∙ before.each;
    exact = λ p c. (
      λ h. elim ((step.exact p c).0 h) [
        | inl o ↦ let b = (before.exact p c).0 o in let less = b.0 in (omega (arith, less), b.1)
        | inr both ↦ let e = both.0 in (omega (arith, e), subst (LeavesBy paths hidden sides early commands edges p) (sym both.0) (there p both.1))
      ],
      λ b. elim (cases_eq c n) [
        | inl at ↦ (step.exact p c).1 (inr (at, here p (subst (LeavesBy paths hidden sides early commands edges p) at b.1)))
        | inr other ↦ (step.exact p c).1 (inl ((before.exact p c).1 (let less = b.0 in omega (arith, less, other), b.1)))
      ],
    );
  }
    where
      there : (p : ℕ) → IsOpenAmong paths hidden sides edge written p → LeavesBy paths hidden sides early commands edges p n
      there p among = record {
        command = command;
        within = within;
        is = sym is;
        later = subst (λ e. get_or early e false ≡ false) of ((all p).0 among.among).0;
        left = ((all p).0 among.among).1;
        is_open = subst (λ e. IsOpen paths hidden sides e p) of among.is_open;
      }

      here : (p : ℕ) → LeavesBy paths hidden sides early commands edges p n → IsOpenAmong paths hidden sides edge written p
      here p t =
          let same : t.command ≡ command = sym t.is ∙ get_or_default commands n t.command command within ∙ sym is in
          record {
            among = (all p).1 (subst (λ e. get_or early e false ≡ false) (sym of) t.later, subst (λ x. does Writes x p ≡ true) same t.left);
            is_open = subst (λ e. IsOpen paths hidden sides e p) (sym of) t.is_open;
          }

  pub left-all : (n : ℕ) (lists : List (List ℕ)) → n ≡ length commands → AreLeftBy paths hidden sides early commands edges n lists → AreLeft paths hidden sides early commands edges lists
  left-all n lists all are = record {
    each = are.each;
    exact = λ p c. (λ h. ((are.exact p c).0 h).1, λ t. (are.exact p c).1 (let w = t.within in omega (arith, w, all), t));
  }
