-- Events that `==` holds of are one.
use Rattle.std.proofs.Common.{◌≡◌, ◌==◌, ◌&&◌, ℕ, Bool, true, false, List, Option, None, Some, refl, sym, ap, ap₂, bytes_eq, eq-eqb, eqb-true, true≢false}
use Rattle.std.specs.Cmp.Lexicographic.{pointwise}
use Rattle.std.specs.Option.{option_eq}
use Rattle.std.proofs.lemmas.Slice.Eq.{bytes_eq-Decides, slice_eq-Decides}
use Rattle.rev_causal.specs.OrderCheck.{IsEquality}
use Rattle.rev_events.specs.declared.event.Event.{Event}
use Rattle.rev_events.specs.declared.event.Event.TheVariants as event
use Rattle.rev_events.specs.declared.event.Listing.{Listing}
use Rattle.rev_events.specs.declared.event.Listing.TheVariants as listing
use Rattle.rev_events.specs.contracts.event.ListingPartialEq.TheImpl as same_listing
use Rattle.rev_events.specs.Same.{event_eq, EqualEventsAreOne}

abbrev listing_eq : Listing → Listing → Bool
listing_eq = same_listing.ghosts.eq

both-of : (a b : Bool) → (a && b) ≡ true → (a ≡ true) × (b ≡ true)
both-of true b h = (refl, h)
both-of false b h = absurd (true≢false (sym h))

both : {a b : Bool} → (a && b) ≡ true → (a ≡ true) × (b ≡ true)
both {a} {b} h = both-of a b h

so : {a b : Bool} → a ≡ true → b ≡ true → (a && b) ≡ true
so g h = ap₂ (λ x y. x && y) g h

option_told : {A : Type 0} (E : A → A → Bool) → ((a b : A) → E a b ≡ true → a ≡ b) → (o p : Option A) → option_eq E o p ≡ true → o ≡ p
option_told E f None None h = refl
option_told E f None (Some b) h = absurd (true≢false (sym h))
option_told E f (Some a) None h = absurd (true≢false (sym h))
option_told E f (Some a) (Some b) h = ap Some (f a b h)

option_itself : {A : Type 0} (E : A → A → Bool) → ((a : A) → E a a ≡ true) → (o : Option A) → option_eq E o o ≡ true
option_itself E f None = refl
option_itself E f (Some a) = f a

number_itself : (a : ℕ) → (a == a) ≡ true
number_itself a = eq-eqb a a refl

bytes_told : (xs ys : List ℕ) → bytes_eq xs ys ≡ true → xs ≡ ys
bytes_told xs ys = (bytes_eq-Decides xs ys).0

bytes_itself : (xs : List ℕ) → bytes_eq xs xs ≡ true
bytes_itself xs = (bytes_eq-Decides xs xs).1 refl

paths_told : (xs ys : List (List ℕ)) → pointwise bytes_eq xs ys ≡ true → xs ≡ ys
paths_told xs ys = (slice_eq-Decides bytes_eq-Decides xs ys (pointwise bytes_eq xs ys) refl).0

paths_itself : (xs : List (List ℕ)) → pointwise bytes_eq xs xs ≡ true
paths_itself xs = (slice_eq-Decides bytes_eq-Decides xs xs (pointwise bytes_eq xs xs) refl).1 refl

listing_told : (a b : Listing) → listing_eq a b ≡ true → a ≡ b
listing_told listing.Nothing listing.Nothing h = refl
listing_told (listing.Depfile a) (listing.Depfile b) h = ap listing.Depfile (bytes_told a b h)
listing_told (listing.Paths a) (listing.Paths b) h = ap listing.Paths (paths_told a b h)
listing_told _ _ h = absurd (true≢false (sym h))

listing_itself : (a : Listing) → listing_eq a a ≡ true
listing_itself listing.Nothing = refl
listing_itself (listing.Depfile a) = bytes_itself a
listing_itself (listing.Paths a) = paths_itself a

told : (a b : Event) → event_eq a b ≡ true → a ≡ b
told (event.Plan a) (event.Plan b) h = ap event.Plan (paths_told a b h)
told (event.Start out job slot) (event.Start out' job' slot') h =
    let t = both h in
    let u = both t.1 in
    λ i. event.Start (bytes_told out out' t.0 i) (eqb-true job job' u.0 i) (option_told _ eqb-true slot slot' u.1 i)
told (event.Finish out stamps listing) (event.Finish out' stamps' listing') h =
    let t = both h in
    let u = both t.1 in
    λ i. event.Finish (bytes_told out out' t.0 i) (bytes_told stamps stamps' u.0 i) (listing_told listing listing' u.1 i)
told (event.Fail out stamps) (event.Fail out' stamps') h =
    let t = both h in ap₂ event.Fail (bytes_told out out' t.0) (bytes_told stamps stamps' t.1)
told (event.Abort out stamps) (event.Abort out' stamps') h =
    let t = both h in ap₂ event.Abort (bytes_told out out' t.0) (bytes_told stamps stamps' t.1)
told (event.Clean out) (event.Clean out') h = ap event.Clean (bytes_told out out' h)
told (event.Pass out) (event.Pass out') h = ap event.Pass (bytes_told out out' h)
told (event.Touch path stamp) (event.Touch path' stamp') h =
    let t = both h in ap₂ event.Touch (bytes_told path path' t.0) (eqb-true stamp stamp' t.1)
told event.Interrupt event.Interrupt h = refl
told (event.Resize pool depth) (event.Resize pool' depth') h =
    let t = both h in ap₂ event.Resize (eqb-true pool pool' t.0) (eqb-true depth depth' t.1)
told _ _ h = absurd (true≢false (sym h))

itself : (a : Event) → event_eq a a ≡ true
itself (event.Plan a) = paths_itself a
itself (event.Start out job slot) = so (bytes_itself out) (so (number_itself job) (option_itself _ number_itself slot))
itself (event.Finish out stamps listing) = so (bytes_itself out) (so (bytes_itself stamps) (listing_itself listing))
itself (event.Fail out stamps) = so (bytes_itself out) (bytes_itself stamps)
itself (event.Abort out stamps) = so (bytes_itself out) (bytes_itself stamps)
itself (event.Clean out) = bytes_itself out
itself (event.Pass out) = bytes_itself out
itself (event.Touch path stamp) = so (bytes_itself path) (number_itself stamp)
itself event.Interrupt = refl
itself (event.Resize pool depth) = so (number_itself pool) (number_itself depth)

-- the test of the code holds of equal events alone
pub equal_events_are_one : EqualEventsAreOne
equal_events_are_one = record { itself = itself; equal = told }
