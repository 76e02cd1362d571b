-- Two places with contents are the same where both parts are.
use Rattle.std.proofs.Common.{◌≡◌, ℕ, Bool, true, false, refl, sym, ap, ◌∙◌, inl, inr, true≢false}
use Rattle.std.specs.Prelude.{◌&&◌, ◌==◌, Decides}
use Rattle.std.proofs.lemmas.Bool.{cases_eq, eq-eqb, ne_eqb}
use Rattle.rev_contents.specs.declared.looks.Left.{Left}

same : (a b : Left) → a.place ≡ b.place → a.content ≡ b.content → a ≡ b
same a b p q = ap (λ place. record { place = place; content = a.content }) p ∙ ap (λ content. record { place = b.place; content = content }) q

both : (x y : Bool) → (x && y) ≡ true → (x ≡ true) × (y ≡ true)
both true y h = (refl, h)
both false y h = absurd (true≢false (sym h))

joined : (x y : Bool) → x ≡ true → y ≡ true → (x && y) ≡ true
joined true y h k = k
joined false y h k = absurd (true≢false (sym h))

equal : (x y : ℕ) → (x == y) ≡ true → x ≡ y
equal x y h = elim (cases_eq x y) [
  | inl is ↦ is
  | inr apart ↦ absurd (true≢false (sym h ∙ ne_eqb x y apart))
]

pub decides-left : (a b : Left) → Decides (a.place == b.place && a.content == b.content) (a ≡ b)
decides-left a b = (
  λ h. let parts = both (a.place == b.place) (a.content == b.content) h in same a b (equal a.place b.place parts.0) (equal a.content b.content parts.1),
  λ e. joined (a.place == b.place) (a.content == b.content) (eq-eqb a.place b.place (ap (λ l. l.place) e)) (eq-eqb a.content b.content (ap (λ l. l.content) e)),
)
