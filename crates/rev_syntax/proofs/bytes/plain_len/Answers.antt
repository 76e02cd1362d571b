use Rattle.std.proofs.Common.{◌≡◌, ◌+◌, ℕ, drop, false, sym, subst}
use Rattle.memchr.specs.Find.{is_byte2, is_byte3}
use Rattle.rev_syntax.specs.declared.bytes.End.{End}
use Rattle.rev_syntax.specs.declared.bytes.End.TheVariants.{SpaceEnd, ListEnd}
use Rattle.rev_syntax.specs.Ends.{free_len}
use Rattle.rev_syntax.proofs.FreeLemmas.{plain-place, spaces-plain, lists-plain}
use Rattle.rev_syntax.proofs.bytes.plain_len.Goals as goal

pub returns-in-SpaceEnd-clause-plain : goal.returns-in-SpaceEnd-clause-plain
returns-in-SpaceEnd-clause-plain c =
    let text = c.args.text.now in
    subst (λ (e : End). free_len e false text ≡ c.place_or_len.result + free_len e false (drop c.place_or_len.result text)) (sym c.in-SpaceEnd.is)
    (subst (λ (n : ℕ). free_len SpaceEnd false text ≡ n + free_len SpaceEnd false (drop n text)) (sym c.place_or_len.ensures)
    (plain-place SpaceEnd (is_byte2 32 36) spaces-plain text c.memchr2.result c.memchr2.ensures))

pub returns-in-ListEnd-clause-plain : goal.returns-in-ListEnd-clause-plain
returns-in-ListEnd-clause-plain c =
    let text = c.args.text.now in
    let n = c.place_or_len-in-ListEnd.result in
    subst (λ (e : End). free_len e false text ≡ n + free_len e false (drop n text)) (sym c.in-ListEnd.is)
    (subst (λ (n : ℕ). free_len ListEnd false text ≡ n + free_len ListEnd false (drop n text)) (sym c.place_or_len-in-ListEnd.ensures)
    (plain-place ListEnd (is_byte3 58 124 36) lists-plain text c.memchr3.result c.memchr3.ensures))
