-- A number whose last zeros are counted apart.
use Rattle.std.specs.Prelude.{◌≡◌, ℕ, ◌*◌, ◌%◌, ◌^◌, ◌<◌, ◌≤◌, ◌≢◌, Option, MatchOption}
use Rattle.e57_decimal.specs.declared.gathering.Gathered.{Gathered}
use Rattle.e57_decimal.specs.Fractions.{limit}

abbrev pub total : Gathered → ℕ
total number = number.magnitude * 10 ^ number.zeros

-- 0 has no zeros of its own, and no other magnitude ends in one
pub record IsGathered (number : Gathered) : Type 0 where
  pub within : number.magnitude ≤ limit
  pub tens : number.magnitude % 10 ≡ 0 → number.magnitude ≡ 0
  pub zero : number.magnitude ≡ 0 → number.zeros ≡ 0

-- Without its last zeros the number is above the limit.
pub record IsTooLong (n : ℕ) : Type 0 where
  pub front : ℕ
  pub zeros : ℕ
  pub whole : n ≡ front * 10 ^ zeros
  pub last : front % 10 ≢ 0
  pub above : limit < front

-- a number that is kept, of at most so many zeros
abbrev pub IsTotal : ℕ → ℕ → Gathered → Type 0
IsTotal n zeros number = IsGathered number × (total number ≡ n) × (number.zeros ≤ zeros)

-- what is answered of a number: none if it is too long
abbrev pub Gathers : ℕ → ℕ → Option Gathered → Type 0
Gathers n zeros result = MatchOption result (IsTooLong n) (IsTotal n zeros)
