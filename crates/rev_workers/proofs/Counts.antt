-- Lanes of which each number below a bound stands once.
use Rattle.std.proofs.Common.{◌≡◌, ◌≢◌, ◌<◌, ◌≤◌, ◌+◌, ◌==◌, ℕ, zero, suc, List, [], ◌∷◌, length, refl, sym, add-one, ◌∙◌, inl, inr, if◌then◌else◌, arith}
use Rattle.std.specs.Prelude.{nat_lt}
use Rattle.std.specs.List.{count_by}
use Rattle.std.proofs.lemmas.Bool.{cases_order}
use Rattle.std.proofs.lemmas.Bool.Decides.{nat_tests}
use Rattle.std.proofs.lemmas.List.Sums.{count_by-le-length, sum_by-cons}
use Rattle.rev_desk.specs.Machine.{DeskValue}
use Rattle.rev_workers.specs.Tracks.{Track}
use Rattle.rev_workers.specs.Closing.{numbered, due, entries_of, IsOneOfEach, IsMissing}

-- how many have a number below k
abbrev pub below : ℕ → List Track → ℕ
below k ts = count_by (λ t. nat_lt t.number k) ts

pub numbered-cons : (n : ℕ) (t : Track) (ts : List Track) → numbered n (t ∷ ts) ≡ (if t.number == n then 1 else 0) + numbered n ts
numbered-cons n t ts = sum_by-cons (λ (u : Track). if u.number == n then 1 else 0) t ts

below-cons : (k : ℕ) (t : Track) (ts : List Track) → below k (t ∷ ts) ≡ (if nat_lt t.number k then 1 else 0) + below k ts
below-cons k t ts = sum_by-cons (λ (u : Track). if nat_lt u.number k then 1 else 0) t ts

below-none : (ts : List Track) → below 0 ts ≡ 0
below-none [] = refl
below-none (t ∷ ts) = grind (arith, nat_tests, below-cons 0 t ts, below-none ts)

below-one_more : (k : ℕ) (ts : List Track) → below (k + 1) ts ≡ below k ts + numbered k ts
below-one_more k [] = refl
below-one_more k (t ∷ ts) =
    grind (arith, nat_tests, below-cons k t ts, below-cons (k + 1) t ts, numbered-cons k t ts, below-one_more k ts)

-- where each number below k stands once, k lanes have such a number
below-each : (k : ℕ) (ts : List Track) → ((n : ℕ) → n < k → numbered n ts ≡ 1) → below k ts ≡ k
below-each zero ts h = below-none ts
below-each (suc k) ts h =
    rw (← add-one) (omega (arith, below-one_more k ts, below-each k ts (λ n l. h n (omega arith)), h k (omega arith)))

-- a number from k on is none of those below
below-and_one : (k n : ℕ) (ts : List Track) → k ≤ n → below k ts + numbered n ts ≤ length ts
below-and_one k n [] l = omega arith
below-and_one k n (t ∷ ts) l =
    grind (arith, nat_tests, below-cons k t ts, numbered-cons n t ts, below-and_one k n ts l)

due-below : (k n : ℕ) → n < k → due k n ≡ 1
due-below k n l = grind (arith, nat_tests)

pub due-past : (k n : ℕ) → k ≤ n → due k n ≡ 0
due-past k n l = grind (arith, nat_tests)

-- where there are no more lanes than numbers, and each number stands once, there is no other
pub one_of_each : (k : ℕ) (ts : List Track) → ((n : ℕ) → n < k → numbered n ts ≡ 1) → length ts ≤ k → IsOneOfEach k ts
one_of_each k ts h few n =
    let past : k ≤ n → numbered n ts ≡ due k n = λ (l : k ≤ n). omega (arith, below-each k ts h, below-and_one k n ts l, due-past k n l) in
    elim (cases_order n k) [
      | inl same ↦ past (omega arith)
      | inr (inl less) ↦ h n less ∙ sym (due-below k n less)
      | inr (inr more) ↦ past (omega arith)
    ]

-- and there are as many
pub as_many : (k : ℕ) (ts : List Track) → IsOneOfEach k ts → length ts ≤ k → length ts ≡ k
as_many k ts one few =
    omega (arith, below-each k ts (λ n l. one n ∙ due-below k n l), count_by-le-length (λ (t : Track). nat_lt t.number k) ts)

-- the least of which there is not just one
pub is_missing : (k : ℕ) (ts : List Track) (n : ℕ) → (n < k) × (numbered n ts ≢ 1) × ((m : ℕ) → m < n → numbered m ts ≡ 1) → IsMissing k ts n
is_missing k ts n h = (λ e. h.1 (e ∙ due-below k n h.0), λ m l. h.2 m l ∙ sym (due-below k m (omega arith)))

-- what the book counts is what the lanes know, where they have every part
pub all_counted : (s : DeskValue) (ts : List Track) (parts total : ℕ) → total ≡ length s.journal → s.lanes ≡ parts → length ts ≤ parts → (length ts ≡ parts → total ≡ entries_of ts) → IsOneOfEach s.lanes ts → length s.journal ≡ entries_of ts
all_counted s ts parts total is lanes few settled one =
    sym is ∙ settled (as_many s.lanes ts one (omega arith) ∙ lanes)
