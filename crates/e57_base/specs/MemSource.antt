-- A source of files in memory.
use Rattle.std.specs.Prelude.{◌≡◌, ℕ, Bool, true, ◌&&◌, if◌then◌else◌, List, [], ◌∷◌, ◌++◌, length, nat_lt, Option, Some, None, is_none, IfSome, refl}
use Rattle.std.specs.Option.{option_map}
use Rattle.std.specs.FinMap.{get, insert, empty, code}
use Rattle.std.specs.Coded.{Coded, code_by, coded×, coded_list, coded_option, coded_bool, coded_ℕ}
use Rattle.e57_base.specs.Calls.{CallList, no_calls, is_failing, called, raised_if}
use Rattle.e57_base.specs.Count.{raised}
use Rattle.e57_base.specs.Source.{Stock, SourceView, HoldsSize, page_of, rest_of}

pub record SourceState : Type 0 where
  -- the files that it has
  pub files : Stock
  -- the bytes of the open file
  pub held : Option (List ℕ)
  -- the pages asked for, in order, as many as had room
  pub asked : List ℕ
  -- each page that was asked for had room
  pub told : Bool
  -- for how many pages there is room
  pub room : ℕ
  -- the calls of the source so far, and those that are to fail
  pub calls : CallList
  -- how many files were opened or failed to open
  pub opened : ℕ
  -- how many names were opened that aren't there
  pub missed : ℕ
  -- how many calls failed
  pub faults : ℕ

-- no file, and room for so many pages
abbrev pub initial_source : ℕ → SourceState
initial_source room = record { files = empty; held = None; asked = []; told = true; room = room; calls = no_calls; opened = 0; missed = 0; faults = 0 }

-- what the source tells
abbrev pub source_view : SourceState → SourceView
source_view source =
    record {
      stock = Some source.files;
      size = option_map length source.held;
      held = source.held;
      asked = if source.told then Some source.asked else None;
      opened = source.opened;
      missed = source.missed;
      faults = source.faults;
    }

-- with one more file
abbrev pub with_file : List ℕ → List ℕ → SourceState → SourceState
with_file name bytes source = record source { files = insert source.files name bytes }

-- the bytes of the file that `open` of a name opens, none where it fails
abbrev pub file_opened : SourceState → List ℕ → Option (List ℕ)
file_opened source name = if is_failing source.calls then None else get source.files name

-- after `open` of a name
unfoldable pub after_open : SourceState → List ℕ → SourceState
after_open source name =
    record source {
      held = file_opened source name;
      calls = called source.calls;
      opened = raised source.opened;
      missed = raised_if (is_none (get source.files name)) source.missed;
      faults = raised_if (is_none (file_opened source name)) source.faults;
    }

-- one more page can be written into the log
abbrev pub has_log_room : SourceState → Bool
has_log_room source = nat_lt (length source.asked) source.room

-- after `read_page` of page n
unfoldable pub after_read : SourceState → ℕ → SourceState
after_read source n =
    record source {
      asked = if has_log_room source then source.asked ++ n ∷ [] else source.asked;
      told = source.told && has_log_room source;
      calls = called source.calls;
      faults = raised_if (is_failing source.calls) source.faults;
    }

-- what `read_page` of page n leaves in the buffer: the page, or what was there where the call fails
abbrev pub page_left : SourceState → ℕ → List ℕ → List ℕ → List ℕ
page_left source n file before = if is_failing source.calls then before else page_of file n

-- the same of `read_rest`
abbrev pub rest_left : SourceState → List ℕ → List ℕ → List ℕ
rest_left source file before = if is_failing source.calls then before else rest_of file

-- what is held is as long as the open file
pub source_holds_size : (source : SourceState) → HoldsSize (source_view source)
source_holds_size source = elim source.held as (λ held. IfSome held (λ file. option_map length held ≡ Some (length file))) [ None ↦ tt | Some file ↦ refl ]

-- a state is stored as the pairs of its fields
abbrev pub source_code : Coded SourceState
source_code =
    code_by (Stock × (Option (List ℕ) × (List ℕ × (Bool × (ℕ × ((ℕ × List ℕ) × (ℕ × (ℕ × ℕ))))))))
    (coded× (code (coded_list coded_ℕ) (coded_list coded_ℕ)) (coded× (coded_option (coded_list coded_ℕ)) (coded× (coded_list coded_ℕ) (coded× coded_bool (coded× coded_ℕ (coded× (coded× coded_ℕ (coded_list coded_ℕ)) (coded× coded_ℕ (coded× coded_ℕ coded_ℕ))))))))
    (λ s. (s.files, (s.held, (s.asked, (s.told, (s.room, ((s.calls.next, s.calls.failing), (s.opened, (s.missed, s.faults)))))))))
    (λ (files, (held, (asked, (told, (room, ((next, failing), (opened, (missed, faults)))))))). record { files = files; held = held; asked = asked; told = told; room = room; calls = record { next = next; failing = failing }; opened = opened; missed = missed; faults = faults })
    (λ _. refl)
