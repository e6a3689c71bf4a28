-- A target of a new file in memory.
use Rattle.std.specs.Prelude.{ℕ, ◌+◌, ◌*◌, ◌≤◌, min, Bool, false, ◌||◌, not, ◌==◌, if◌then◌else◌, List, [], ◌∷◌, ◌++◌, length, take, drop, reverse, find, nat_lt, nat_le, Option, Some, None, is_some, IfSome}
use Rattle.std.specs.Option.{option_map}
use Rattle.e57_base.specs.Calls.{CallList, no_calls, is_failing, called, raised_if}
use Rattle.e57_base.specs.Count.{raised}
use Rattle.e57_base.specs.Target.{TargetView}

pub record TargetState : Type 0 where
  -- the bytes of the file
  pub bytes : List ℕ
  -- how many pages it has had since it was created, none where it isn't created
  pub pages : Option ℕ
  -- it was finished and not touched since
  pub finished : Bool
  -- how many files were created or failed to be created
  pub created : ℕ
  -- the name of the last file that was created, where there was room for it
  pub named : Option (List ℕ)
  -- for how many pages there is room
  pub page_room : ℕ
  -- for how many bytes of a name there is room
  pub name_room : ℕ
  -- the calls of the target so far, and those that are to fail
  pub calls : CallList
  -- the calls that are to be torn, each with how many bytes it writes
  pub tears : List (ℕ × ℕ)
  -- how many calls failed
  pub faults : ℕ

-- no file, and room for so many pages and so long a name
abbrev pub initial_target : ℕ → ℕ → TargetState
initial_target pages name_room = record { bytes = []; pages = None; finished = false; created = 0; named = None; page_room = pages; name_room = name_room; calls = no_calls; tears = []; faults = 0 }

-- what the target tells
abbrev pub target_view : TargetState → TargetView
target_view target =
    record {
      held = Some target.bytes;
      pages = target.pages;
      finished = target.finished;
      created = target.created;
      named = target.named;
      faults = target.faults;
    }

-- there is room for the pages, and the file has them
abbrev pub PagesFit : ℕ → Option ℕ → List ℕ → Type 0
PagesFit room pages bytes = IfSome pages (λ pages. (pages ≤ room) × (1024 * pages ≤ length bytes))

-- this call is to be torn after so many bytes
abbrev pub torn_at : ℕ → ℕ → TargetState → TargetState
torn_at call new_bytes target = record target { tears = target.tears ++ (call, new_bytes) ∷ [] }

-- how many bytes this call writes, by the last tear that is listed for it
abbrev pub last_tear : List (ℕ × ℕ) → ℕ → Option ℕ
last_tear tears call = option_map (λ tear. tear.1) (find (λ tear. tear.0 == call) (reverse tears))

-- the next call is to fail or to be torn
abbrev pub is_listed : List (ℕ × ℕ) → CallList → Bool
is_listed tears calls = is_some (last_tear tears calls.next) || is_failing calls

-- `create` or `finish` fails
abbrev pub fails : TargetState → Bool
fails target = is_listed target.tears target.calls

-- after `create` of a name
unfoldable pub after_create : TargetState → List ℕ → TargetState
after_create target name =
    record target {
      bytes = if fails target then target.bytes else [];
      pages = if fails target then None else Some 0;
      finished = false;
      created = raised target.created;
      named = if fails target then target.named else (if nat_le (length name) target.name_room then Some name else None);
      calls = called target.calls;
      faults = raised_if (fails target) target.faults;
    }

-- `put_page` of page n fails
abbrev pub put_fails : TargetState → ℕ → Bool
put_fails target n = fails target || not (nat_lt n target.page_room)

-- how many bytes of a reserved page a call writes: those of the tear, or else none where it is to fail
abbrev pub bytes_of_call : Option ℕ → Bool → ℕ
bytes_of_call (Some new_bytes) failing = min new_bytes 1024
bytes_of_call None failing = if failing then 0 else 1024

-- how many bytes of page n are written
abbrev pub bytes_put : TargetState → ℕ → ℕ
bytes_put target n = if nat_lt n target.page_room then bytes_of_call (last_tear target.tears target.calls.next) (is_failing target.calls) else 0

-- the file with this piece from this place on
abbrev pub with_piece : ℕ → List ℕ → List ℕ → List ℕ
with_piece at piece file = take at file ++ piece ++ drop (at + length piece) file

-- the number of pages after page n was put
abbrev pub pages_with : ℕ → Option ℕ → Option ℕ
pages_with n pages = option_map (λ pages. if n == pages then pages + 1 else pages) pages

-- after `put_page` of page n
unfoldable pub after_put : TargetState → ℕ → List ℕ → TargetState
after_put target n page =
    record target {
      bytes = with_piece (1024 * n) (take (bytes_put target n) page) target.bytes;
      pages = if put_fails target n then target.pages else pages_with n target.pages;
      finished = false;
      calls = called target.calls;
      faults = raised_if (put_fails target n) target.faults;
    }

-- after `finish`
unfoldable pub after_finish : TargetState → TargetState
after_finish target =
    record target {
      finished = not (fails target);
      calls = called target.calls;
      faults = raised_if (fails target) target.faults;
    }
