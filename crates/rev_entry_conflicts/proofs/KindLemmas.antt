-- What is told of two commands at an entry, where neither waits for the other.
use Rattle.std.proofs.Common.{◌≡◌, ℕ, ◌==◌, nat_lt, Bool, true, false, not, ◌&&◌, ◌||◌, Some, None, inl, inr, refl, sym, ap, ◌∙◌, arith, true≢false, if◌then◌else◌}
use Rattle.std.specs.Prelude.{◌≢◌, ◌⊎◌}
use Rattle.std.proofs.lemmas.Bool.{and_from, cases_Bool, cases_lt, lt-ltb, not_from_false}
use Rattle.rev_entry_conflicts.specs.declared.conflict.Kind.{Kind}
use Rattle.rev_entry_conflicts.specs.declared.conflict.Kind.TheVariants as kind
use Rattle.rev_entry_conflicts.specs.declared.deed.Command.{Command}
use Rattle.rev_entry_conflicts.specs.declared.word.Act.TheVariants as act
use Rattle.rev_entry_conflicts.specs.Deeds.{Scene, asks, does, entry_at, looks, waits}
use Rattle.rev_entry_conflicts.specs.Conflicts.{are_apart, is_determined, kind_apart, kind_at, kind_back, kind_of_look, kind_unordered, kind_where_ensured, kind_where_left}
use Rattle.rev_entry_conflicts.specs.Joins.{is_unordered}

-- two commands of which neither waits for the other, at an entry that no filter hides
pub record AreUnordered (s : Scene) (made used : Command) (entry : ℕ) : Type 0 where
  pub shown : (entry_at s entry).hidden ≡ false
  pub others : (made.edge == used.edge) ≡ false
  pub turned : (used.edge == made.edge) ≡ false
  pub made_late : made.early ≡ false
  pub used_late : used.early ≡ false
  pub used_first : waits s used.edge made.edge ≡ false
  pub made_first : waits s made.edge used.edge ≡ false

pub turn : (s : Scene) (made used : Command) (entry : ℕ) → AreUnordered s made used entry → AreUnordered s used made entry
turn s made used entry u = record {
  shown = u.shown;
  others = u.turned;
  turned = u.others;
  made_late = u.used_late;
  used_late = u.made_late;
  used_first = u.made_first;
  made_first = u.used_first;
}

-- a kind is told of them, and is one of commands without an order
pub record Tells (s : Scene) (made used : Command) (entry : ℕ) : Type 0 where
  pub kind : Kind
  pub is : kind_at s made used entry ≡ Some kind
  pub unordered : is_unordered kind ≡ true

module _ (s : Scene) (made used : Command) (entry : ℕ) (u : AreUnordered s made used entry) where
  apart : are_apart s made used ≡ true
  apart =
      and_from (not (made.edge == used.edge)) (not made.early && (not used.early && not (waits s used.edge made.edge))) (not_from_false (made.edge == used.edge) u.others)
      (and_from (not made.early) (not used.early && not (waits s used.edge made.edge)) (not_from_false made.early u.made_late)
      (and_from (not used.early) (not (waits s used.edge made.edge)) (not_from_false used.early u.used_late) (not_from_false (waits s used.edge made.edge) u.used_first)))

  pub kind-unordered : kind_at s made used entry ≡ kind_unordered s made used entry
  kind-unordered =
      ap (λ b. if b then kind_apart s made used entry else None) (and_from (are_apart s made used) (not (entry_at s entry).hidden) apart (not_from_false (entry_at s entry).hidden u.shown))
      ∙ ap (λ b. if b then kind_back s made used entry else kind_unordered s made used entry) u.made_first

  tells : (kind : Kind) → kind_unordered s made used entry ≡ Some kind → is_unordered kind ≡ true → Tells s made used entry
  tells kind is unordered = record { kind = kind; is = kind-unordered ∙ is; unordered = unordered }

  where-left : does act.Leaves made entry ≡ true → kind_unordered s made used entry ≡ kind_where_left s made used entry
  where-left left = ap (λ b. if b then kind_where_left s made used entry else if does act.Ensures made entry then kind_where_ensured s used entry else None) left

  pub clash-tells : does act.Leaves made entry ≡ true → does act.Leaves used entry ≡ true → nat_lt made.edge used.edge ≡ true → Tells s made used entry
  clash-tells left also lesser =
      tells kind.Clash
      (where-left left
      ∙ ap (λ b. if b then (if nat_lt made.edge used.edge then Some kind.Clash else None) else if does act.Ensures used entry then Some kind.Folder else if looks s used entry then Some (kind_of_look s made used entry) else None) also
      ∙ ap (λ b. if b then Some kind.Clash else None) lesser) refl

  of-two : (a b : Bool) → is_unordered (if a then kind.Folder else if b then kind.Link else kind.Race) ≡ true
  of-two true b = refl
  of-two false true = refl
  of-two false false = refl

  pub used-tells : does act.Leaves made entry ≡ true → does act.Leaves used entry ≡ false → (does act.Ensures used entry ≡ true) ⊎ (looks s used entry ≡ true) → Tells s made used entry
  used-tells left not_left used_there = elim (cases_Bool (does act.Ensures used entry)) [
    | inl ensures ↦ tells kind.Folder (behind ∙ ap (λ b. if b then Some kind.Folder else if looks s used entry then Some (kind_of_look s made used entry) else None) ensures) refl
    | inr not_ensures ↦ elim used_there [
      | inl ensures ↦ absurd (true≢false (sym ensures ∙ not_ensures))
      | inr seen ↦
          tells (kind_of_look s made used entry)
          (behind ∙ ap (λ b. if b then Some kind.Folder else if looks s used entry then Some (kind_of_look s made used entry) else None) not_ensures
          ∙ ap (λ b. if b then Some (kind_of_look s made used entry) else None) seen)
          (of-two (does act.Removes made entry) (does act.Links made entry || (does act.SeesLink used entry || not (asks s used entry))))
    ]
  ]
    where
      behind : kind_unordered s made used entry ≡ (if does act.Ensures used entry then Some kind.Folder else if looks s used entry then Some (kind_of_look s made used entry) else None)
      behind =
          where-left left
          ∙ ap (λ b. if b then (if nat_lt made.edge used.edge then Some kind.Clash else None) else if does act.Ensures used entry then Some kind.Folder else if looks s used entry then Some (kind_of_look s made used entry) else None) not_left

  pub asked-tells : does act.Leaves made entry ≡ false → does act.Ensures made entry ≡ true → does act.Leaves used entry ≡ false → asks s used entry ≡ true → is_determined s used entry ≡ false → Tells s made used entry
  asked-tells not_left ensures free asked loose =
      tells kind.Folder
      (ap (λ b. if b then kind_where_left s made used entry else if does act.Ensures made entry then kind_where_ensured s used entry else None) not_left
      ∙ ap (λ b. if b then kind_where_ensured s used entry else None) ensures
      ∙ ap (λ b. if b then Some kind.Folder else None)
      (and_from (not (does act.Leaves used entry)) (asks s used entry && not (is_determined s used entry)) (not_from_false (does act.Leaves used entry) free)
      (and_from (asks s used entry) (not (is_determined s used entry)) asked (not_from_false (is_determined s used entry) loose)))) refl

-- Who leaves an entry, and who uses it, are told in one order or the other.
pub left-tells : (s : Scene) (made used : Command) (entry : ℕ) → AreUnordered s made used entry → made.edge ≢ used.edge → does act.Leaves made entry ≡ true
    → (does act.Leaves used entry ≡ true) ⊎ ((does act.Ensures used entry ≡ true) ⊎ (looks s used entry ≡ true)) → Tells s made used entry ⊎ Tells s used made entry
left-tells s made used entry u others left used_there = elim (cases_Bool (does act.Leaves used entry)) [
  | inl also ↦ elim (cases_lt made.edge used.edge) [
    | inl lesser ↦ inl (clash-tells s made used entry u left also (lt-ltb made.edge used.edge lesser))
    | inr greater ↦ inr (clash-tells s used made entry (turn s made used entry u) also left (lt-ltb used.edge made.edge (omega (arith, greater, others))))
  ]
  | inr not_left ↦ elim used_there [
    | inl also ↦ absurd (true≢false (sym also ∙ not_left))
    | inr rest ↦ inl (used-tells s made used entry u left not_left rest)
  ]
]
