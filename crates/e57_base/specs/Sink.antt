-- What a sink of bytes tells, and what its call does to it.
use Rattle.std.specs.Prelude.{◌≡◌, ℕ, ◌≤◌, List, ◌++◌, length, take, Option, Result, MatchResult, OnErr}
use Rattle.std.specs.Option.{option_map}
use Rattle.e57_base.specs.Count.{Rose}
use Rattle.e57_base.specs.declared.fault.Failed.{Failed}

-- the meanings of a sink
pub record SinkView : Type 0 where
  -- the bytes put so far
  pub written : Option (List ℕ)
  -- how many calls failed, at least
  pub faults : ℕ

-- the bytes, where they are told, grew by these
abbrev pub Grows : Option (List ℕ) → List ℕ → Option (List ℕ) → Type 0
Grows old piece new = new ≡ option_map (λ bytes. bytes ++ piece) old

-- the bytes grew by a front of these
abbrev pub GrowsByFront : Option (List ℕ) → List ℕ → Option (List ℕ) → Type 0
GrowsByFront old piece new = (k : ℕ) × (k ≤ length piece) × Grows old (take k piece) new

-- `put` of a piece
pub record Puts {T : Type 0} (old : SinkView) (piece : List ℕ) (result : Result T Failed) (new : SinkView) : Type 0 where
  pub written : MatchResult result (λ _. Grows old.written piece new.written) (λ _. GrowsByFront old.written piece new.written)
  pub faults : old.faults ≤ new.faults
  pub cause : OnErr result (Rose old.faults new.faults)
