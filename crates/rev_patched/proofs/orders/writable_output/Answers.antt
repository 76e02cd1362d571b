use Rattle.std.proofs.Common.{◌≡◌, None, Some, find, sym, ap, ◌∙◌}
use Rattle.std.specs.Option.{option_copied, option_or}
use Rattle.rev_patch.specs.Additions.{is_written}
use Rattle.rev_patched.proofs.orders.writable_output.Goals as goal

pub returns-in-Some : goal.returns-in-Some
returns-in-Some c =
    let b = c.args.build.now in
    let found : find is_written b.explicit_outs ≡ Some c.in-Some.path.now =
    ap (find is_written) (sym c.explicit_outs.ensures) ∙ sym c.first_written.ensures ∙ ap option_copied c.in-Some.is in
    sym (ap (λ o. option_or o (find is_written b.implicit_outs)) found)

pub returns-in-None : goal.returns-in-None
returns-in-None c =
    let b = c.args.build.now in
    let none : find is_written b.explicit_outs ≡ None =
    ap (find is_written) (sym c.explicit_outs.ensures) ∙ sym c.first_written.ensures ∙ ap option_copied c.in-None.is in
    c.first_written-in-None.ensures ∙ ap (find is_written) c.implicit_outs.ensures
    ∙ sym (ap (λ o. option_or o (find is_written b.implicit_outs)) none)
