-- How a new file gets its XML section, and is closed (ASTM E2807, file structure).
use Rattle.std.specs.Prelude.{◌≡◌, ◌⊎◌, ℕ, ◌+◌, ◌*◌, ◌<◌, ◌≤◌, true, false, List, length, map, drop, decimal, Option, Some, None, IfSome}
use Rattle.std.specs.Option.{option_map}
use Rattle.e57_base.specs.Count.{Rose}
use Rattle.e57_base.specs.Source.{page_length}
use Rattle.e57_base.specs.Target.{TargetView}
use Rattle.e57_base.specs.declared.fault.WriteFault.{WriteFault}
use Rattle.e57_base.specs.declared.fault.WriteFault.TheVariants.{Target, Large, Memory}
use Rattle.e57_page.specs.Place.{payload_length}
use Rattle.e57_page.specs.XmlSection.{xml_limit}
use Rattle.e57_page_out.specs.Sealed.{pages_for}
use Rattle.e57_page_out.specs.Sequences.{Leaves}
use Rattle.e57_page_out.specs.Writing.{Writing, KeepsTarget, IsHeadless, IsUnfinished, most_bytes}
use Rattle.e57_elements.specs.Tree.{Element}
use Rattle.e57_elements.specs.Spelling.{spelling}
use Rattle.e57_nodes.specs.Places.{with_places}
use Rattle.e57_plain.specs.Written.{finished, whole_pages}

-- the text of the XML section of a tree whose clouds and blobs have these offsets
unfoldable pub xml_text : Element → List ℕ → List ℕ
xml_text tree offsets = spelling (with_places (map decimal offsets) tree)

-- the file with these logical bytes, of which page 0 is to get the header, and behind them this text as its XML section
unfoldable pub whole_file : List ℕ → List ℕ → List ℕ
whole_file bytes text = finished (drop payload_length (whole_pages bytes)) text

-- how many pages it has, where there are so many bytes
abbrev pub whole_count : ℕ → List ℕ → ℕ
whole_count size text = pages_for size + pages_for (length text)

-- The text has more bytes than an XML section has at most, or passes the last page of a file.
abbrev pub IsTooLong : ℕ → List ℕ → Type 0
IsTooLong size text = (xml_limit < length text) ⊎ (most_bytes < payload_length * pages_for size + length text)

-- It is as long as a file can have it.
pub record IsWithinFile (size : ℕ) (text : List ℕ) : Type 0 where
  pub short : length text ≤ xml_limit
  pub room : payload_length * pages_for size + length text ≤ most_bytes

-- The file was closed: the target was ended behind the whole file.
pub record ClosesFile {T : Type 0} (view : T → TargetView) (old : Writing T) (text : List ℕ) (answer : ℕ) (new : Writing T) : Type 0 where
  pub fits : IsWithinFile old.size text
  pub total : answer ≡ page_length * whole_count old.size text
  pub held : (view new.target).held ≡ option_map (λ bytes. whole_file bytes text) old.told_bytes
  pub pages : (view new.target).pages ≡ Some (whole_count old.size text)
  pub ended : (view new.target).finished ≡ true
  pub target : KeepsTarget (view old.target) (view new.target)

-- All is as in the whole file, but for page 0, of which each byte is 0 or that of the whole file.
abbrev pub HeadlessFile : List ℕ → Option (List ℕ) → Option (List ℕ) → Type 0
HeadlessFile text None now = now ≡ None
HeadlessFile text (Some bytes) None = ⊥
HeadlessFile text (Some bytes) (Some file) = IsHeadless (whole_file bytes text) file

-- The target failed. What it holds is no whole file, or lacks the header alone or some of it.
pub record BreaksOff {T : Type 0} (view : T → TargetView) (old : Writing T) (text : List ℕ) (now : TargetView) : Type 0 where
  pub fits : IsWithinFile old.size text
  pub state : IfSome now.held IsUnfinished ⊎ HeadlessFile text old.told_bytes now.held
  pub unended : now.finished ≡ false
  pub target : KeepsTarget (view old.target) now
  pub cause : Rose (view old.target).faults now.faults

-- Why the file was not closed: the target failed; the text is too long, or there was no memory, and then nothing was put.
abbrev pub LeavesFile : {T : Type 0} → (T → TargetView) → Writing T → List ℕ → WriteFault → TargetView → Type 0
LeavesFile view old text Target now = BreaksOff view old text now
LeavesFile view old text Large now = Leaves view old now × (now ≡ view old.target) × IsTooLong old.size text
LeavesFile view old text Memory now = Leaves view old now × (now ≡ view old.target)
