-- Statements read one after another.
use Rattle.std.proofs.Common.{◌≡◌, ℕ, suc, ◌+◌, Bool, true, false, List, [], ◌∷◌, map, drop, cond, Ok, refl, sym, ap, ◌∙◌, if◌then◌else◌, arith}
use Rattle.std.specs.List.{prefix_len, take_while}
use Rattle.rev_syntax.specs.declared.fault.ReadFault.{ReadFault}
use Rattle.rev_syntax.specs.declared.fault.ReadFault.TheVariants.{Memory, Refused}
use Rattle.rev_syntax.specs.Lines.{LineValue}
use Rattle.rev_syntax.specs.Faults.{IsFault, and_then}
use Rattle.rev_syntax.specs.Statements.{FormValue, is_indented, form_of, statement_of, groups_of, later_groups, statements_of}
use Rattle.rev_syntax.specs.Seen.{IsFirstFault}

one-more : (n : ℕ) → 1 + n ≡ suc n
one-more n = omega arith

block-step : (line : LineValue) (lines : List LineValue) (b : Bool) → is_indented line ≡ b → groups_of (drop (prefix_len is_indented lines) lines) ≡ later_groups lines
    → groups_of (drop (cond b (1 + prefix_len is_indented lines) 0) (line ∷ lines)) ≡ later_groups (line ∷ lines)
block-step line lines true e rest =
    ap (λ k. groups_of (drop k (line ∷ lines))) (one-more (prefix_len is_indented lines)) ∙ rest
    ∙ sym (ap (λ b. if b then later_groups lines else record { head = line; block = take_while is_indented lines } ∷ later_groups lines) e)
block-step line lines false e rest = sym (ap (λ b. if b then later_groups lines else record { head = line; block = take_while is_indented lines } ∷ later_groups lines) e)

-- the groups that follow a block
pub groups_of-rest : (lines : List LineValue) → groups_of (drop (prefix_len is_indented lines) lines) ≡ later_groups lines
groups_of-rest [] = refl
groups_of-rest (line ∷ lines) = block-step line lines (is_indented line) refl (groups_of-rest lines)

group-first : (lines : List LineValue) (head : LineValue) (after block : List LineValue) → lines ≡ head ∷ after → block ≡ take_while is_indented after
    → statements_of lines ≡ statement_of (record { head = head; block = block }) ∷ map statement_of (later_groups after)
group-first lines head after block is is_block =
    ap statements_of is ∙ ap (λ found. statement_of (record { head = head; block = found }) ∷ map statement_of (later_groups after)) (sym is_block)

pub statements-first : (lines : List LineValue) (head : LineValue) (after block rest : List LineValue) (number : ℕ) (form : FormValue)
    → lines ≡ head ∷ after → block ≡ take_while is_indented after → rest ≡ drop (prefix_len is_indented after) after → number ≡ head.number
    → form_of (record { head = head; block = block }) ≡ Ok form → statements_of lines ≡ Ok (record { line = number; form = form }) ∷ statements_of rest
statements-first lines head after block rest number form is is_block is_rest is_number formed =
    group-first lines head after block is is_block
    ∙ ap (λ answer. and_then answer (λ found. Ok (record { line = head.number; form = found })) ∷ map statement_of (later_groups after)) formed
    ∙ ap (λ n. Ok (record { line = n; form = form }) ∷ map statement_of (later_groups after)) (sym is_number)
    ∙ ap (λ groups. Ok (record { line = number; form = form }) ∷ map statement_of groups) (sym (groups_of-rest after))
    ∙ ap (λ left. Ok (record { line = number; form = form }) ∷ statements_of left) (sym is_rest)

pub first-fault : (e : ReadFault) (lines : List LineValue) (head : LineValue) (after block : List LineValue) → lines ≡ head ∷ after → block ≡ take_while is_indented after
    → IsFault e (form_of (record { head = head; block = block })) → IsFirstFault e (statements_of lines)
first-fault Memory lines head after block is is_block h = tt
first-fault (Refused fault) lines head after block is is_block h = (
  map statement_of (later_groups after),
  group-first lines head after block is is_block
      ∙ ap (λ answer. and_then answer (λ found. Ok (record { line = head.number; form = found })) ∷ map statement_of (later_groups after)) h,
)
