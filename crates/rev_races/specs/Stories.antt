-- What happened in a history with the run of a maker and that of a user.
use Rattle.std.specs.Prelude.{◌≡◌, ◌≤◌, ℕ, nat_lt, Bool, true, false, ◌&&◌, ◌||◌, List, Option, Some, None, IfSome, length, if◌then◌else◌}
use Rattle.std.specs.List.{list_any}
use Rattle.rev_events.specs.declared.event.Event.{Event}
use Rattle.rev_history.specs.Timeline.{Timeline, IsHistory, chosen, cone_numbers, coned, is_among, kept_events}
use Rattle.rev_held.specs.Beside.{held_beside}
use Rattle.rev_marks.specs.Masks.{AreMarks}
use Rattle.rev_races.specs.declared.cones.Cones.{Cones}
use Rattle.rev_races.specs.declared.race.Race.{Race}
use Rattle.rev_races.specs.declared.runs.Run.{Run}
use Rattle.rev_races.specs.declared.story.Happened.{Happened}
use Rattle.rev_races.specs.declared.story.Happened.TheVariants as happened
use Rattle.rev_races.specs.declared.story.Story.{Story}
use Rattle.rev_races.specs.Races.{is_plan}
use Rattle.rev_races.specs.Runs.{finished_run, last_run}

-- one number stands between two others
abbrev pub is_between : ℕ → ℕ → ℕ → Bool
is_between a b n = (nat_lt a n && nat_lt n b) || (nat_lt b n && nat_lt n a)

-- a kept plan stands between two numbers
abbrev pub are_parted : Timeline → ℕ → ℕ → Bool
are_parted t a b = list_any (λ (e : ℕ × Event). is_plan e.1 && is_between a b e.0) (kept_events t)

-- the maker ended at f before the user began at s. Free: s is not in the cone of f, which can be taken out, and the
-- user's start stays. Held by a place: it is in that cone by jobs and slots alone. Else held by a record.
abbrev pub held_in : List ℕ → List ℕ → ℕ → Happened
held_in members beside s =
    if is_among members s then (if is_among beside s then happened.HeldRecord else happened.HeldPlace)
    else happened.Free

abbrev pub held_by : Timeline → ℕ → ℕ → Happened
held_by t f s = held_in (cone_numbers f t) (held_beside t f) s

-- neither ended before the other began, or the maker ended first
abbrev pub after_end : Timeline → Option ℕ → ℕ → Happened
after_end t None s = happened.AtOnce
after_end t (Some f) s = if nat_lt f s then held_by t f s else happened.AtOnce

-- the user's run ended before the maker's began, or did not
abbrev pub in_order : Timeline → Run → Run → Option ℕ → Happened
in_order t maker user None = after_end t maker.ended user.began
in_order t maker user (Some e) = if nat_lt e maker.began then happened.Before else after_end t maker.ended user.began

-- both ran, and no plan stands between their starts
abbrev pub happened_of : Timeline → Option Run → Option Run → Happened
happened_of t (Some maker) (Some user) =
    if are_parted t maker.began user.began then happened.Apart else in_order t maker user user.ended
happened_of t _ _ = happened.Apart

-- the maker's last run, and the user's, of which its list is
abbrev pub story_of : Timeline → Race → Story
story_of t race =
    let maker = last_run t.manifest race.maker (kept_events t) in
    let user = finished_run t.manifest race.user (kept_events t) in
    record { happened = happened_of t maker user; maker = maker; user = user }

-- Without the cone of f the history is one still, in which s is kept and f is not.
pub record StaysWithout (t : Timeline) (f s : ℕ) : Type 0 where
  pub legal : IsHistory (coned f t)
  pub stays : is_among (coned f t).kept s ≡ true
  pub gone : is_among (coned f t).kept f ≡ false

-- where nothing held a kept start, it stays without the maker's end
abbrev pub FreeStays : Type 0
FreeStays =
    (t : Timeline) (f s : ℕ) → IsHistory t → is_among t.kept s ≡ true → held_by t f s ≡ happened.Free
    → StaysWithout t f s

-- AS THEY ARE FOUND
-- the numbers of the kept plans part what they stand between
pub record ArePlans (t : Timeline) (plans : List ℕ) : Type 0 where
  pub parts : (a b : ℕ) → list_any (is_between a b) plans ≡ are_parted t a b

-- the plans among some kept numbers
pub record ArePlansBy (t : Timeline) (ks plans : List ℕ) : Type 0 where
  pub parts : (a b : ℕ) → list_any (is_between a b) plans
      ≡ list_any (λ (e : ℕ × Event). is_plan e.1 && is_between a b e.0) (chosen t.accepted ks)

-- the cones of some events, as marks, and those beside jobs and slots where these are there
pub record AreCones (t : Timeline) (cones : Cones) : Type 0 where
  pub few : length cones.asked.items ≤ 64
  pub all : AreMarks (λ n. cone_numbers n t) cones.asked.items cones.all.entries
  pub beside : IfSome cones.beside (λ marks. AreMarks (held_beside t) cones.asked.items marks.entries)
