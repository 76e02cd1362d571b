use Rattle.std.proofs.Common.{◌∷◌, ◌++◌, [], sym, ap, ◌∙◌}
use Rattle.std.proofs.lemmas.Result.{err_from_is_err_and}
use Rattle.rev_syntax.specs.Bytes.{begins_with}
use Rattle.rev_syntax.specs.Paths.{text_of, raw_paths, texts_of}
use Rattle.rev_syntax.proofs.AnswerLemmas.{onto_list, onto_list-nothing, fault_passes}
use Rattle.rev_syntax.proofs.PathLemmas.{raw_paths-spaces, without_spaces-led, next-path, path-fault}
use Rattle.rev_syntax.proofs.paths.texts.Goals as goal

pub loop-rest-init : goal.loop-rest-init
loop-rest-init c =
    let line = c.args.line.now in
    let text = c.args.text.now in
    record {
      read =
          ap (λ paths. onto_list paths (texts_of line (raw_paths c.without_spaces-rest.result.now))) c.new-texts.ensures.items
          ∙ onto_list-nothing (texts_of line (raw_paths c.without_spaces-rest.result.now))
          ∙ ap (λ rest. texts_of line (raw_paths rest)) c.without_spaces-rest.ensures ∙ ap (texts_of line) (raw_paths-spaces text);
      led = ap (begins_with 32) c.without_spaces-rest.ensures ∙ without_spaces-led text;
    }

pub returns-in_err-path : goal.returns-in_err-path
returns-in_err-path c =
    let line = c.args.line.now in
    let rest = c.loop-rest.rest.now in
    let raw = c.split_free.result.0.now in
    let p = err_from_is_err_and c.from_residual.result c.from_residual.ensures.1 in
    rw (p.1, p.2)
    (fault_passes c.in_err-path.field-0.0 (text_of line raw) (texts_of line (raw_paths c.args.text.now))
    (λ fault h.
    sym c.loop-rest.invariant.read
    ∙ path-fault line c.loop-rest.texts.items rest raw c.split_free.result.1.now fault (sym c.is_empty.ensures ∙ c.loop-rest-test.true) c.loop-rest.invariant.led c.split_free.ensures.front c.split_free.ensures.rest h)
    c.in_err-path.ensures)

pub loop-rest-preserved : goal.loop-rest-preserved
loop-rest-preserved c =
    let line = c.args.line.now in
    let rest = c.loop-rest.rest.now in
    let after = c.split_free.result.1.now in
    record {
      read =
          ap (λ paths. onto_list paths (texts_of line (raw_paths c.without_spaces-rest-in-loop-rest.result.now))) c.in_ok-push.ensures.items
          ∙ ap (λ left. onto_list (c.loop-rest.texts.items ++ c.in_ok-path.path ∷ []) (texts_of line (raw_paths left))) c.without_spaces-rest-in-loop-rest.ensures
          ∙ next-path line c.loop-rest.texts.items rest c.split_free.result.0.now after c.in_ok-path.path (sym c.is_empty.ensures ∙ c.loop-rest-test.true) c.loop-rest.invariant.led
          c.split_free.ensures.front c.split_free.ensures.rest c.in_ok-path.ensures
          ∙ c.loop-rest.invariant.read;
      led = ap (begins_with 32) c.without_spaces-rest-in-loop-rest.ensures ∙ without_spaces-led after;
    }
