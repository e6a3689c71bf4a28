-- A source of one file in memory.
use Rattle.std.specs.Prelude.{◌≡◌, ℕ, Bool, true, false, if◌then◌else◌, List, length, Some, None, IfSome, refl}
use Rattle.e57_base.specs.Count.{raised}
use Rattle.e57_base.specs.Source.{SourceView, HoldsSize}

pub record BytesState : Type 0 where
  -- the bytes of the file
  pub bytes : List ℕ
  -- the file is open
  pub is_open : Bool
  -- how often it was opened
  pub opened : ℕ

-- the file of these bytes, not open
abbrev pub initial_bytes : List ℕ → BytesState
initial_bytes bytes = record { bytes = bytes; is_open = false; opened = 0 }

-- what the source tells
abbrev pub bytes_view : BytesState → SourceView
bytes_view source =
    record {
      stock = None;
      size = if source.is_open then Some (length source.bytes) else None;
      held = if source.is_open then Some source.bytes else None;
      asked = None;
      opened = source.opened;
      missed = 0;
      faults = 0;
    }

-- after `open`
unfoldable pub after_open : BytesState → BytesState
after_open source = record source { is_open = true; opened = raised source.opened }

-- what is held is as long as the open file
pub bytes_hold_size : (source : BytesState) → HoldsSize (bytes_view source)
bytes_hold_size source = elim source.is_open as (λ b. IfSome (if b then Some source.bytes else None) (λ file. (if b then Some (length source.bytes) else None) ≡ Some (length file))) [ true ↦ refl | false ↦ tt ]
