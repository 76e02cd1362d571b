use Rattle.std.proofs.Common.{◌≡◌, ◌+◌, ◌<◌, ◌≤◌, ◌||◌, ℕ, Bool, List, [], ◌∷◌, ◌++◌, rules, ap, drop, length, Err, ◌∙◌, sym, arith, subst}
use Rattle.std.proofs.lemmas.Result.{err_from_is_err_and}
use Rattle.rev_fields.specs.Faults.{each_of}
use Rattle.rev_fields.specs.Lines.{path_of, paths_of}
use Rattle.rev_fields.specs.Parts.{lent_of}
use Rattle.rev_fields.proofs.AnswerLemmas.{fault_passes}
use Rattle.rev_fields.proofs.EachLemmas.{after, after-empty, each_step, each_fault, each_all}
use Rattle.rev_fields.proofs.SliceLemmas.{at-lent_of, length-lent_of}
use Rattle.rev_trace.specs.Mentioned.{AreMentioned}
use Rattle.rev_trace.proofs.MentionedLemmas.{none-mentioned, more-mentioned}
use Rattle.rev_trace.proofs.mentions.Mentions.mentioned.Goals as goal

pub loop-text-init : goal.loop-text-init
loop-text-init c =
    let start : c.in_ok-names.names.items ≡ [] = search rules in
    let rest = each_of path_of (lent_of c.args.texts.now) in
    record {
      said = ap (λ out. after out rest) start ∙ after-empty rest;
      known = rw start (none-mentioned _ _);
    }

pub returns-in_err-name-clause-paths : goal.returns-in_err-name-clause-paths
returns-in_err-name-clause-paths c =
    let items = c.args.texts.now in
    let i = c.loop-text.text-index in
    let p = err_from_is_err_and c.from_residual-in_err-name.result c.from_residual-in_err-name.ensures.1 in
    let within : i < length (lent_of items) = omega (arith, length-lent_of items, c.loop-text-test.true) in
    fault_passes c.from_residual-in_err-name.result c.in_err-name.field-0.0 (λ m. m.0) (λ m. m.0.items) _ (paths_of (lent_of items))
    (p.1 ∙ ap Err p.2) (λ kind said.
    each_fault path_of (lent_of items) c.loop-text.names.items i [] kind within (ap path_of (at-lent_of items i c.text-item.result c.loop-text-test.true c.text-item.is ∙ sym c.deref.ensures.value) ∙ said) c.loop-text.invariant.said) c.in_err-name.ensures.path

pub loop-text-preserved : goal.loop-text-preserved
loop-text-preserved c =
    let items = c.args.texts.now in
    let i = c.loop-text.text-index in
    let within : i < length (lent_of items) = omega (arith, length-lent_of items, c.loop-text-test.true) in
    let step = each_step path_of (lent_of items) c.loop-text.names.items i [] c.in_ok-name.name within (ap path_of (at-lent_of items i c.text-item.result c.loop-text-test.true c.text-item.is ∙ sym c.deref.ensures.value) ∙ c.in_ok-name.ensures.path) c.loop-text.invariant.said in
    let old = c.loop-text.self.last_lists.entries in
    let new = c.mention.new.self.last_lists.entries in
    let paths = c.loop-text.names.items ++ c.in_ok-name.name ∷ [] in
    let repeats = c.loop-text.repeats || c.in_ok-name.again in
    let more = more-mentioned old new c.loop-text.self.list c.loop-text.names.items c.in_ok-name.name c.loop-text.repeats c.in_ok-name.again c.loop-text.invariant.known c.in_ok-name.ensures.mentioned in
    let P : ℕ → Type 0 = λ list. AreMentioned new list paths repeats in
    let Q : List (List ℕ) → Type 0 = λ all. AreMentioned new c.mention.new.self.list all repeats in
    let R : Bool → Type 0 = λ flag. AreMentioned new c.mention.new.self.list c.push.new.self.items flag in
    record {
      said = ap (λ out. after out (each_of path_of (drop (i + 1) (lent_of items)))) c.in_ok-push.ensures.items ∙ step;
      known = subst R (sym c.either-repeats.ensures) (subst Q (sym c.in_ok-push.ensures.items) (subst P (sym c.in_ok-name.ensures.list) more));
    }

pub returns-clause-paths : goal.returns-clause-paths
returns-clause-paths c =
    let items = c.args.texts.now in
    let past : length (lent_of items) ≤ c.loop-text.text-index = omega (arith, length-lent_of items, c.loop-text-test.false) in
    each_all path_of (lent_of items) c.loop-text.names.items c.loop-text.text-index past c.loop-text.invariant.said

pub returns-clause-once : goal.returns-clause-once
returns-clause-once c = c.loop-text.invariant.known.once
