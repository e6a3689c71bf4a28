-- A file is opened by its name: its length, its header and its page 0 are judged.
use Rattle.std.specs.Prelude.{◌≡◌, ◌⊎◌, ℕ, true, List, [], ◌∷◌, length, None, Some, IfSome}
use Rattle.e57_base.specs.Count.{Rose}
use Rattle.e57_base.specs.Source.{SourceView, Asks}
use Rattle.e57_base.specs.Opening.{OpensOnce, IsOpen}
use Rattle.e57_base.specs.declared.fault.Fault.{Fault}
use Rattle.e57_base.specs.declared.fault.ReadFault.{ReadFault}
use Rattle.e57_base.specs.declared.fault.ReadFault.TheVariants.{Refused, Source}
use Rattle.e57_page.specs.declared.header.Header.{Header}
use Rattle.e57_page.specs.Header.{header_of}
use Rattle.e57_page.specs.File.{length_fault, opening_fault}
use Rattle.e57_page.specs.Pages.{is_opening_kind}

-- The file of this name is open, with this size and this header, and it has no fault of opening. Page 0 was asked for,
-- once.
pub record IsOpenedFile (name : List ℕ) (old : SourceView) (size : ℕ) (header : Header) (new : SourceView) : Type 0 where
  pub opens : OpensOnce old name new
  pub file : IsOpen old name new
  pub size_is : new.size ≡ Some size
  pub asked : Asks old.asked (0 ∷ []) new.asked
  pub whole : length_fault size ≡ None
  pub sound : IfSome new.held (λ file. opening_fault file ≡ None)
  pub long : IfSome new.held (λ file. length file ≡ size)
  pub read : IfSome new.held (λ file. header ≡ header_of file)

-- No page was asked for, or page 0 once, where the length has no fault.
abbrev pub AsksAtMostForFirst : SourceView → SourceView → Type 0
AsksAtMostForFirst old new =
    Asks old.asked [] new.asked ⊎ (Asks old.asked (0 ∷ []) new.asked × ((size : ℕ) × (new.size ≡ Some size) × (length_fault size ≡ None)))

-- The file of this name is open, and its length, before a page was asked for, or its header or page 0 has this fault.
pub record IsRefusedFile (name : List ℕ) (old : SourceView) (found : Fault) (new : SourceView) : Type 0 where
  pub opens : OpensOnce old name new
  pub file : IsOpen old name new
  pub asked : AsksAtMostForFirst old new
  pub kind : is_opening_kind found.kind ≡ true
  pub first : IfSome new.held (λ file. opening_fault file ≡ Some found)

-- The file of this name wasn't opened, or page 0 wasn't read, since the source failed.
pub record IsLostFile (name : List ℕ) (old new : SourceView) : Type 0 where
  pub opens : OpensOnce old name new
  pub asked : AsksAtMostForFirst old new
  pub cause : Rose old.faults new.faults

-- why a file was not opened
abbrev pub IsUnopenedFile : List ℕ → SourceView → ReadFault → SourceView → Type 0
IsUnopenedFile name old (Refused found) new = IsRefusedFile name old found new
IsUnopenedFile name old Source new = IsLostFile name old new
