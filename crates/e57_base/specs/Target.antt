-- What a target of a new file tells, and what its calls do to it.
use Rattle.std.specs.Prelude.{◌≡◌, ◌⊎◌, ℕ, ◌+◌, ◌-◌, ◌*◌, ◌<◌, ◌≤◌, max, Bool, false, ◌==◌, if◌then◌else◌, List, [], ◌++◌, length, take, drop, slice_index, Option, Some, None, IsSomeAnd, MatchOption, Result, is_ok, MatchResult, OnErr}
use Rattle.std.specs.Option.{option_map}
use Rattle.e57_base.specs.Count.{raised, Rose}
use Rattle.e57_base.specs.declared.fault.Failed.{Failed}

-- the meanings of a target
pub record TargetView : Type 0 where
  -- the bytes of the new file
  pub held : Option (List ℕ)
  -- how many pages it has had since it was created, none where it isn't created
  pub pages : Option ℕ
  -- whether it was finished and not touched since
  pub finished : Bool
  -- how many files were created or failed to be created
  pub created : ℕ
  -- the name of the last file that was created
  pub named : Option (List ℕ)
  -- how many calls failed, at least
  pub faults : ℕ

-- no byte, where the bytes are told
abbrev pub emptied : Option (List ℕ) → Option (List ℕ)
emptied held = option_map (λ _. []) held

-- `create` of a name
pub record Creates {T : Type 0} (old : TargetView) (name : List ℕ) (result : Result T Failed) (new : TargetView) : Type 0 where
  pub held : MatchResult result (λ _. new.held ≡ emptied old.held) (λ _. (new.held ≡ old.held) ⊎ (new.held ≡ emptied old.held))
  pub pages : new.pages ≡ (if is_ok result then Some 0 else None)
  pub finished : new.finished ≡ false
  pub created : new.created ≡ raised old.created
  pub named : MatchResult result (λ _. MatchOption new.named (Unit {0}) (λ given. given ≡ name)) (λ _. new.named ≡ old.named)
  pub faults : old.faults ≤ new.faults
  pub cause : OnErr result (Rose old.faults new.faults)

-- page n may be written: it is one of the pages, or the next
abbrev pub TakesPage : TargetView → ℕ → Type 0
TakesPage target n = IsSomeAnd target.pages (λ pages. n ≤ pages)

-- the file with these bytes as page n
abbrev pub with_page : ℕ → List ℕ → List ℕ → List ℕ
with_page n page file = take (1024 * n) file ++ page ++ drop (1024 * (n + 1)) file

-- A write of page n was broken off: no other page has changed, and each byte of page n is the old one or the new
-- one, where a byte past the old end counts as an old zero. What is new of the page may be absent or cut short.
pub record Torn (n : ℕ) (page old new : List ℕ) : Type 0 where
  pub before : take (1024 * n) new ≡ take (1024 * n) old
  pub after : drop (1024 * (n + 1)) new ≡ drop (1024 * (n + 1)) old
  pub no_shorter : length old ≤ length new
  pub no_longer : length new ≤ max (length old) (1024 * (n + 1))
  pub each : (i : ℕ) → 1024 * n ≤ i → i < length new → i < 1024 * (n + 1) → (slice_index new i ≡ slice_index old i) ⊎ (slice_index new i ≡ slice_index page (i - 1024 * n))

-- the same of bytes that may not be told
abbrev pub TornWhereTold : ℕ → List ℕ → Option (List ℕ) → Option (List ℕ) → Type 0
TornWhereTold n page old None = old ≡ None
TornWhereTold n page None (Some new) = ⊥
TornWhereTold n page (Some old) (Some new) = Torn n page old new

-- `put_page` of page n
pub record PutsPage {T : Type 0} (old : TargetView) (n : ℕ) (page : List ℕ) (result : Result T Failed) (new : TargetView) : Type 0 where
  pub held : MatchResult result (λ _. new.held ≡ option_map (with_page n page) old.held) (λ _. TornWhereTold n page old.held new.held)
  pub pages : new.pages ≡ (if is_ok result then option_map (λ pages. if n == pages then pages + 1 else pages) old.pages else old.pages)
  pub finished : new.finished ≡ false
  pub created : new.created ≡ old.created
  pub named : new.named ≡ old.named
  pub faults : old.faults ≤ new.faults
  pub cause : OnErr result (Rose old.faults new.faults)

-- `finish`
pub record Finishes {T : Type 0} (old : TargetView) (result : Result T Failed) (new : TargetView) : Type 0 where
  pub held : new.held ≡ old.held
  pub pages : new.pages ≡ old.pages
  pub finished : new.finished ≡ is_ok result
  pub created : new.created ≡ old.created
  pub named : new.named ≡ old.named
  pub faults : old.faults ≤ new.faults
  pub cause : OnErr result (Rose old.faults new.faults)
