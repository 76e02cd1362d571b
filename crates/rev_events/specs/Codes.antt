-- Events as data.
use Rattle.std.specs.Prelude.{◌≡◌, ◌⊎◌, ℕ, List, Option, refl}
use Rattle.std.proofs.Common.{inl, inr}
use Rattle.std.specs.Coded.{Coded, code_by, coded×, coded⊎, coded_list, coded_option, coded_ℕ}
use Rattle.rev_events.specs.declared.event.Listing.{Listing}
use Rattle.rev_events.specs.declared.event.Listing.TheVariants.{Nothing, Depfile, Paths}
use Rattle.rev_events.specs.declared.event.Event.{Event}
use Rattle.rev_events.specs.declared.event.Event.TheVariants.{Plan, Start, Finish, Fail, Abort, Clean, Pass, Touch, Interrupt, Resize}

abbrev pub ListingParts : Type 0
ListingParts = ℕ ⊎ (List ℕ ⊎ List (List ℕ))

abbrev pub listing_parts : Listing → ListingParts
listing_parts Nothing = inl 0
listing_parts (Depfile text) = inr (inl text)
listing_parts (Paths paths) = inr (inr paths)

abbrev pub listing_of : ListingParts → Listing
listing_of (inl n) = Nothing
listing_of (inr (inl text)) = Depfile text
listing_of (inr (inr paths)) = Paths paths

pub listing_of-listing_parts : (l : Listing) → listing_of (listing_parts l) ≡ l
listing_of-listing_parts Nothing = refl
listing_of-listing_parts (Depfile text) = refl
listing_of-listing_parts (Paths paths) = refl

abbrev pub coded_listing : Coded Listing
coded_listing =
    code_by ListingParts (coded⊎ coded_ℕ (coded⊎ (coded_list coded_ℕ) (coded_list (coded_list coded_ℕ)))) listing_parts
    listing_of listing_of-listing_parts

-- a name, and what stands beside it, by the kind of the event
abbrev pub EventParts : Type 0
EventParts =
    List (List ℕ) ⊎ ((List ℕ × (ℕ × Option ℕ))
    ⊎ ((List ℕ × (List ℕ × Listing))
    ⊎ ((List ℕ × List ℕ) ⊎ ((List ℕ × List ℕ) ⊎ (List ℕ ⊎ (List ℕ ⊎ ((List ℕ × ℕ) ⊎ (ℕ ⊎ (ℕ × ℕ)))))))))

abbrev pub event_parts : Event → EventParts
event_parts (Plan targets) = inl targets
event_parts (Start out job slot) = inr (inl (out, (job, slot)))
event_parts (Finish out stamps listing) = inr (inr (inl (out, (stamps, listing))))
event_parts (Fail out stamps) = inr (inr (inr (inl (out, stamps))))
event_parts (Abort out stamps) = inr (inr (inr (inr (inl (out, stamps)))))
event_parts (Clean out) = inr (inr (inr (inr (inr (inl out)))))
event_parts (Pass out) = inr (inr (inr (inr (inr (inr (inl out))))))
event_parts (Touch path stamp) = inr (inr (inr (inr (inr (inr (inr (inl (path, stamp))))))))
event_parts Interrupt = inr (inr (inr (inr (inr (inr (inr (inr (inl 0))))))))
event_parts (Resize pool depth) = inr (inr (inr (inr (inr (inr (inr (inr (inr (pool, depth)))))))))

abbrev pub event_of : EventParts → Event
event_of (inl targets) = Plan targets
event_of (inr (inl p)) = Start p.0 p.1.0 p.1.1
event_of (inr (inr (inl p))) = Finish p.0 p.1.0 p.1.1
event_of (inr (inr (inr (inl p)))) = Fail p.0 p.1
event_of (inr (inr (inr (inr (inl p))))) = Abort p.0 p.1
event_of (inr (inr (inr (inr (inr (inl out)))))) = Clean out
event_of (inr (inr (inr (inr (inr (inr (inl out))))))) = Pass out
event_of (inr (inr (inr (inr (inr (inr (inr (inl p)))))))) = Touch p.0 p.1
event_of (inr (inr (inr (inr (inr (inr (inr (inr (inl n))))))))) = Interrupt
event_of (inr (inr (inr (inr (inr (inr (inr (inr (inr p))))))))) = Resize p.0 p.1

pub event_of-event_parts : (e : Event) → event_of (event_parts e) ≡ e
event_of-event_parts (Plan targets) = refl
event_of-event_parts (Start out job slot) = refl
event_of-event_parts (Finish out stamps listing) = refl
event_of-event_parts (Fail out stamps) = refl
event_of-event_parts (Abort out stamps) = refl
event_of-event_parts (Clean out) = refl
event_of-event_parts (Pass out) = refl
event_of-event_parts (Touch path stamp) = refl
event_of-event_parts Interrupt = refl
event_of-event_parts (Resize pool depth) = refl

abbrev pub coded_event : Coded Event
coded_event =
    code_by EventParts
    (coded⊎ (coded_list (coded_list coded_ℕ))
    (coded⊎ (coded× (coded_list coded_ℕ) (coded× coded_ℕ (coded_option coded_ℕ)))
    (coded⊎ (coded× (coded_list coded_ℕ) (coded× (coded_list coded_ℕ) coded_listing))
    (coded⊎ (coded× (coded_list coded_ℕ) (coded_list coded_ℕ))
    (coded⊎ (coded× (coded_list coded_ℕ) (coded_list coded_ℕ))
    (coded⊎ (coded_list coded_ℕ) (coded⊎ (coded_list coded_ℕ)
    (coded⊎ (coded× (coded_list coded_ℕ) coded_ℕ) (coded⊎ coded_ℕ (coded× coded_ℕ coded_ℕ))))))))))
    event_parts event_of event_of-event_parts
