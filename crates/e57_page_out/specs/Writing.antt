-- A new file while it is written, as contracts see it, and what the calls that write its pages answer and do
-- (ASTM E2807, physical layout).
use Rattle.std.specs.Prelude.{◌≡◌, ◌⊎◌, ℕ, ◌+◌, ◌-◌, ◌*◌, ◌/◌, ◌^◌, ◌<◌, ◌≤◌, Bool, true, false, List, ◌++◌, length, drop, replicate, slice_index, Option, Some, None, is_some, IfSome, IsSomeAnd, MatchOption}
use Rattle.std.specs.Option.{option_map, option_or}
use Rattle.e57_base.specs.Count.{raised, Rose}
use Rattle.e57_base.specs.Fault.{fault}
use Rattle.e57_base.specs.Source.{page_length}
use Rattle.e57_base.specs.Target.{TargetView, emptied}
use Rattle.e57_base.specs.declared.fault.PutFault.{PutFault}
use Rattle.e57_base.specs.declared.fault.PutFault.TheVariants.{Target, Large}
use Rattle.e57_base.specs.declared.kind.Kind.TheVariants.{Signature}
use Rattle.e57_page.specs.declared.header.Header.{Header}
use Rattle.e57_page.specs.File.{length_fault, opening_fault}
use Rattle.e57_page.specs.Place.{payload_length}
use Rattle.e57_page_out.specs.HeaderBytes.{header_bytes}
use Rattle.e57_page_out.specs.Sealed.{sealed, filled, pages_for}

-- what a writer of pages shows
pub record Writing (T : Type 0) : Type 0 where
  pub target : T
  -- the logical bytes so far, those of page 0 with them, where the target tells its bytes
  pub told_bytes : Option (List ℕ)
  -- the number of the logical bytes so far
  pub size : ℕ
  -- the number of the page that is held
  pub held : Option ℕ
  -- after a refusal, and after the file was closed
  pub is_spent : Bool

-- the most logical bytes that a file has: those of 2^38 pages
abbrev pub most_bytes : ℕ
most_bytes = payload_length * 2 ^ 38

-- The file's first fault is that of its length, or else that it doesn't begin with the signature.
abbrev pub IsUnfinished : List ℕ → Type 0
IsUnfinished file = opening_fault file ≡ option_or (length_fault (length file)) (Some (fault Signature 0 0))

-- what every call but the opening does to a target, whatever it answers: it creates no file
pub record KeepsTarget (old new : TargetView) : Type 0 where
  pub created : new.created ≡ old.created
  pub named : new.named ≡ old.named
  pub faults : old.faults ≤ new.faults

-- A file is being written: the target has the whole pages of its bytes so far.
pub record IsBeingWritten {T : Type 0} (view : T → TargetView) (out : Writing T) : Type 0 where
  pub unspent : out.is_spent ≡ false
  pub first : payload_length ≤ out.size
  pub limit : out.size ≤ most_bytes
  pub pages : (view out.target).pages ≡ Some (out.size / payload_length)
  pub unended : (view out.target).finished ≡ false
  pub tells : is_some out.told_bytes ≡ is_some (view out.target).held
  pub bytes : IfSome out.told_bytes (λ bytes. length bytes ≡ out.size)
  pub held : IfSome out.held (λ n. (1 ≤ n) × (n ≤ out.size / payload_length))
  pub unfinished : IfSome (view out.target).held IsUnfinished

-- The call was done: the file has so many bytes, these where they are told, and this page is held.
pub record Writes {T : Type 0} (view : T → TargetView) (old : Writing T) (told : Option (List ℕ)) (count : ℕ) (page : Option ℕ) (new : Writing T) : Type 0 where
  pub bytes : new.told_bytes ≡ told
  pub size : new.size ≡ count
  pub held : new.held ≡ page
  pub state : IsBeingWritten view new
  pub target : KeepsTarget (view old.target) (view new.target)

-- The target failed at a page from that of the first new byte on and below page `high`. What it holds is no whole file.
pub record IsBrokenOff {T : Type 0} (view : T → TargetView) (old : Writing T) (high : ℕ) (new : Writing T) : Type 0 where
  pub spent : new.is_spent ≡ true
  pub pages : IsSomeAnd (view new.target).pages (λ pages. (old.size / payload_length ≤ pages) × (pages < high))
  pub unended : (view new.target).finished ≡ false
  pub unfinished : IfSome (view new.target).held IsUnfinished
  pub target : KeepsTarget (view old.target) (view new.target)
  pub cause : Rose (view old.target).faults (view new.target).faults

-- The bytes would pass the last page: nothing was asked of the target.
pub record IsTooLarge {T : Type 0} (view : T → TargetView) (old : Writing T) (count : ℕ) (new : Writing T) : Type 0 where
  pub past : most_bytes < old.size + count
  pub spent : new.is_spent ≡ true
  pub target : new.target ≡ old.target
  pub unended : (view new.target).finished ≡ false
  pub unfinished : IfSome (view new.target).held IsUnfinished

-- why so many bytes were not put
abbrev pub IsNotPut : {T : Type 0} → (T → TargetView) → Writing T → ℕ → PutFault → Writing T → Type 0
IsNotPut view old count Target new = (old.size + count ≤ most_bytes) × IsBrokenOff view old ((old.size + count) / payload_length) new
IsNotPut view old count Large new = IsTooLarge view old count new

-- The file of this name was created, and has page 0, which is blank.
pub record IsBegun {T : Type 0} (view : T → TargetView) (old : TargetView) (name : List ℕ) (out : Writing T) : Type 0 where
  pub bytes : out.told_bytes ≡ option_map (λ _. replicate payload_length 0) old.held
  pub size : out.size ≡ payload_length
  pub held : out.held ≡ None
  pub state : IsBeingWritten view out
  pub created : (view out.target).created ≡ raised old.created
  pub named : MatchOption (view out.target).named (Unit {0}) (λ given. given ≡ name)
  pub faults : old.faults ≤ (view out.target).faults

-- The target failed: the file wasn't created, and then has no pages; or page 0 wasn't put.
pub record IsNotBegun (old : TargetView) (name : List ℕ) (new : TargetView) : Type 0 where
  pub state : MatchOption new.pages
      ((new.named ≡ old.named) × ((new.held ≡ old.held) ⊎ (new.held ≡ emptied old.held)))
      (λ pages. (pages ≡ 0) × MatchOption new.named (Unit {0}) (λ given. given ≡ name) × IfSome new.held IsUnfinished)
  pub unended : new.finished ≡ false
  pub created : new.created ≡ raised old.created
  pub faults : old.faults ≤ new.faults
  pub cause : Rose old.faults new.faults

-- The whole file: page 0 with the header and zeros behind it, and the pages of the bytes behind page 0, with zeros up to
-- the end of the last one.
abbrev pub closed_file : Header → List ℕ → List ℕ
closed_file header bytes =
    sealed (pages_for (length bytes)) (filled 1 (header_bytes header) ++ filled (pages_for (length bytes) - 1) (drop payload_length bytes))

-- The file was closed: the target was ended behind the whole file.
pub record IsClosed {T : Type 0} (view : T → TargetView) (old : Writing T) (header : Header) (answer : ℕ) (new : Writing T) : Type 0 where
  pub total : answer ≡ page_length * pages_for old.size
  pub spent : new.is_spent ≡ true
  pub held : (view new.target).held ≡ option_map (closed_file header) old.told_bytes
  pub pages : (view new.target).pages ≡ Some (pages_for old.size)
  pub ended : (view new.target).finished ≡ true
  pub target : KeepsTarget (view old.target) (view new.target)

-- The whole file, but for page 0, of which each byte is 0 or that of the file.
pub record IsHeadless (whole file : List ℕ) : Type 0 where
  pub size : length file ≡ length whole
  pub rest : drop page_length file ≡ drop page_length whole
  pub each : (i : ℕ) → i < page_length → (slice_index file i ≡ 0) ⊎ (slice_index file i ≡ slice_index whole i)

-- the same of bytes that may not be told
abbrev pub HeadlessWhereTold : Header → Option (List ℕ) → Option (List ℕ) → Type 0
HeadlessWhereTold header None now = now ≡ None
HeadlessWhereTold header (Some bytes) None = ⊥
HeadlessWhereTold header (Some bytes) (Some file) = IsHeadless (closed_file header bytes) file

-- The target failed at the last page, which was begun, and what it holds is no whole file. Or it has all pages, and
-- failed at page 0 with the header or at its end; all other bytes are those of the whole file.
pub record IsNotClosed {T : Type 0} (view : T → TargetView) (old : Writing T) (header : Header) (new : Writing T) : Type 0 where
  pub spent : new.is_spent ≡ true
  pub state : (IsBrokenOff view old (pages_for old.size) new) ⊎ (((view new.target).pages ≡ Some (pages_for old.size)) × HeadlessWhereTold header old.told_bytes (view new.target).held)
  pub unended : (view new.target).finished ≡ false
  pub target : KeepsTarget (view old.target) (view new.target)
  pub cause : Rose (view old.target).faults (view new.target).faults
