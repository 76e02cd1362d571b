-- What is written of a certificate.
use Rattle.std.specs.Prelude.{◌≡◌, ℕ, ◌<◌, Bool, true, false, ◌||◌, if◌then◌else◌, List, [], length, nat_lt, Option, Some, None, is_some, option_and_then, IsSomeAnd}
use Rattle.std.specs.List.{AllByRecursion, list_all}
use Rattle.std.specs.Option.{option_copied}
use Rattle.rev_history.specs.Timeline.{Timeline}
use Rattle.rev_observation.specs.Observations.{ObservationValue}
use Rattle.rev_races_text.specs.declared.race.RaceFinding.{RaceFinding}
use Rattle.rev_findings.specs.declared.reporting.Basis.{Basis}
use Rattle.rev_findings.specs.declared.seen.Sight.{Sight}
use Rattle.rev_certificate.specs.declared.certificate.Certificate.{Certificate}
use Rattle.rev_certainty.specs.Certain.{is_certain}
use Rattle.rev_certainty.specs.Races.{left}
use Rattle.rev_certainty.specs.Recorded.{IsCertificateOf}
use Rattle.rev_certainty.specs.Sayings.{object_says_certain, says_certain}
use Rattle.rev_certainty.specs.declared.certainty.Beside.{Beside}
use Rattle.rev_verdicts.specs.declared.answering.Written.{Written}
use Rattle.rev_verdicts.specs.declared.certifying.CertificateAnswer.{CertificateAnswer}
use Rattle.rev_verdicts.specs.declared.certifying.Found.{Found}
use Rattle.rev_verdicts.specs.declared.certifying.Seen.{Seen}
use Rattle.rev_verdicts.specs.declared.certifying.Wish.{Wish}
use Rattle.rev_verdicts.specs.declared.forms.Form.{Form}
use Rattle.rev_verdicts.specs.declared.forms.Form.TheVariants as form
use Rattle.rev_verdicts.specs.declared.leaving.Choice.{Choice}

-- WHAT IS WRITTEN
-- A text says `certain` or does not: its first line in words, its first object as JSON. Of a form of items nothing is
-- said.
abbrev pub Says : Form → List ℕ → Bool → Type 0
Says form.Words text certain = says_certain text ≡ certain
Says form.AllWords text certain = says_certain text ≡ certain
Says form.Json text certain = object_says_certain text ≡ certain
Says (form.Items of) text certain = Unit {0}

-- a baseline is read or written
abbrev pub has_baseline : Choice → Bool
has_baseline choice = choice.writes || is_some choice.baseline

-- What is written says `certain` exactly where that is so. The status is 0 then, and 4 else: without a baseline.
pub record SaysExactly (certain : Bool) (asked : Form) (by_baseline : Bool) (w : Written) : Type 0 where
  pub text : Says asked w.text.items certain
  pub status : certain ≡ true → w.status ≡ 0
  pub otherwise : certain ≡ false → by_baseline ≡ false → w.status ≡ 4

-- WHAT IS KNOWN BESIDE THE CERTIFICATE
-- what `races` finds, where these races are left
abbrev pub beside_by : Found → List RaceFinding → Beside
beside_by found races = record {
  replayed = found.report.replayed;
  commands = found.report.ran;
  findings = length found.findings.items;
  races = length races;
  side_files = length found.report.clashes.items;
}

abbrev pub beside : Found → List (List (List ℕ)) → Beside
beside found filters = beside_by found (left filters found.report.races.items)

-- WHAT WAS SEEN
-- an observation of version 2 whose commands are of edges, of which there are so many
abbrev pub placed : ℕ → Sight → Option ObservationValue
placed count sight = if list_all (λ edge. nat_lt edge count) sight.observed.edges.items then sight.observed.places else None

abbrev pub places_of : ℕ → Option Sight → Option ObservationValue
places_of count sight = option_and_then (placed count) sight

-- the edges of its commands
abbrev pub edges_of : Option Sight → List ℕ
edges_of None = []
edges_of (Some sight) = sight.observed.edges.items

pub record IsSeen (count : ℕ) (sight : Option Sight) (seen : Seen) : Type 0 where
  pub places : places_of count sight ≡ Some seen.places.now
  pub edges : seen.edges.now ≡ edges_of sight
  pub within : AllByRecursion (λ edge. edge < count) seen.edges.now

-- BOTH
-- The certificate is that of the recording, and what is written says `certain` exactly where nothing stands in the way.
abbrev pub IsJudgedAt : Timeline → Basis → Found → Wish → ObservationValue → List ℕ → CertificateAnswer → Type 0
IsJudgedAt t basis found wish o edges c =
    IsSomeAnd c.certificate (λ (certificate : Certificate).
    IsCertificateOf t basis.files.now basis.sources.builds.now o edges wish.filters.now certificate
    × SaysExactly (is_certain (beside found wish.filters.now) wish.is_strict o wish.trust.now.lines.items certificate)
    wish.form (has_baseline wish.choice) c.written)

-- Without an observation of version 2 there is no certificate, and what is written never says `certain`.
abbrev pub IsJudgedBy : Timeline → Basis → Found → Wish → CertificateAnswer → Option ObservationValue → Type 0
IsJudgedBy t basis found wish c None =
    (c.certificate ≡ None) × SaysExactly false wish.form (has_baseline wish.choice) c.written
IsJudgedBy t basis found wish c (Some o) = IsJudgedAt t basis found wish o (edges_of (option_copied basis.sight)) c

abbrev pub IsJudged : Timeline → Basis → Found → Wish → CertificateAnswer → Type 0
IsJudged t basis found wish c =
    IsJudgedBy t basis found wish c (places_of (length t.manifest.builds) (option_copied basis.sight))
