-- What the words of a command line ask for.
use Rattle.std.specs.Prelude.{ℕ, ◌≤◌, Bool, if◌then◌else◌, List, [], ◌∷◌, Result, Ok, Err, codes}
use Rattle.std.specs.Str.{bytes_eq}
use Rattle.e57_show.specs.Extract.{Asked, IsLimited, asked_by}
use Rattle.e57_chunk_out.specs.CloudCalls.{IsChunkLength}
use Rattle.e57_filter.specs.Asking.{FilterAsked}
use Rattle.e57_filter.specs.Asks.{filter_asked, IsLimitedFilter}
use Rattle.e57_trial.specs.Content.{most_records}
use Rattle.e57_tool.specs.Cursor.{Unread, next_place, next_other, next_number, next_number_up_to, at_end}
use Rattle.e57_tool.specs.Options.{RowsGiven, nothing_given, with_options, rows_options, rows_asked}
use Rattle.e57_tool.specs.RepackOptions.{RepackGiven, no_repack_given, repack_rows, chunk_given, tight_given}
use Rattle.e57_tool.specs.FilterOptions.{FilterGiven, no_filter_given, filter_rows, filter_given}
use Rattle.e57_tool.specs.declared.words.Ask.{Ask}
use Rattle.e57_tool.specs.declared.words.Ask.TheVariants as asked

-- a command with its places
pub data Command : Type 0 where
  -- `--help`, `-h`
  HelpAsked : Command
  -- `--version`
  VersionAsked : Command
  -- `pages FILE`
  PagesOf : (file : List ℕ) → Command
  -- `info FILE`
  InfoOf : (file : List ℕ) → Command
  -- `list FILE`
  ListOf : (file : List ℕ) → Command
  -- `check FILE`
  CheckOf : (file : List ℕ) → Command
  -- `blob FILE K`
  BlobOf : (file : List ℕ) → (k : ℕ) → Command
  -- `extract FILE CLOUD`, and options
  ExtractOf : (file : List ℕ) → (what : Asked) → Command
  -- `repack IN OUT`, and options
  RepackOf : (file made : List ℕ) → (chunk : ℕ) → (is_tight : Bool) → Command
  -- `filter IN OUT CLOUD`, and options
  FilterOf : (file made : List ℕ) → (what : FilterAsked) → Command
  -- `trial START COUNT`
  TrialOf : (start count : ℕ) → Command

-- the one place behind a command, and no word behind it
abbrev pub only_place : Unread → Result (List ℕ) ℕ
only_place unread = ended (next_place unread) where
  ended : Result (List ℕ × Unread) ℕ → Result (List ℕ) ℕ
  ended (Ok (file, rest)) = at_end file rest
  ended (Err at) = Err at

-- the command with its place
abbrev pub with_place : (List ℕ → Command) → Result (List ℕ) ℕ → Result Command ℕ
with_place command (Ok file) = Ok (command file)
with_place command (Err at) = Err at

-- a file's name and the number of a blob, and no word behind them
abbrev pub blob_ask : Unread → Result Command ℕ
blob_ask unread = of_file (next_place unread) where
  of_number : List ℕ → Result (ℕ × Unread) ℕ → Result Command ℕ
  of_number file (Ok (k, rest)) = at_end (BlobOf file k) rest
  of_number file (Err at) = Err at

  of_file : Result (List ℕ × Unread) ℕ → Result Command ℕ
  of_file (Ok (file, rest)) = of_number file (next_number rest)
  of_file (Err at) = Err at

-- a file's name, the number of a cloud, and options
abbrev pub extract_ask : Unread → Result Command ℕ
extract_ask unread = of_file (next_place unread) where
  of_options : List ℕ → ℕ → Result RowsGiven ℕ → Result Command ℕ
  of_options file cloud (Ok given) = Ok (ExtractOf file (rows_asked cloud given))
  of_options file cloud (Err at) = Err at

  of_cloud : List ℕ → Result (ℕ × Unread) ℕ → Result Command ℕ
  of_cloud file (Ok (cloud, rest)) = of_options file cloud (with_options rows_options rest.at rest.words nothing_given)
  of_cloud file (Err at) = Err at

  of_file : Result (List ℕ × Unread) ℕ → Result Command ℕ
  of_file (Ok (file, rest)) = of_cloud file (next_number rest)
  of_file (Err at) = Err at

-- a file's name, the name of a new file, which is another, and options
abbrev pub repack_ask : Unread → Result Command ℕ
repack_ask unread = of_file (next_place unread) where
  of_options : List ℕ → List ℕ → Result RepackGiven ℕ → Result Command ℕ
  of_options file made (Ok given) = Ok (RepackOf file made (chunk_given given) (tight_given given))
  of_options file made (Err at) = Err at

  of_made : List ℕ → Result (List ℕ × Unread) ℕ → Result Command ℕ
  of_made file (Ok (made, rest)) = of_options file made (with_options repack_rows rest.at rest.words no_repack_given)
  of_made file (Err at) = Err at

  of_file : Result (List ℕ × Unread) ℕ → Result Command ℕ
  of_file (Ok (file, rest)) = of_made file (next_other file rest)
  of_file (Err at) = Err at

-- a file's name, the name of a new file, which is another, the number of a cloud, and options
abbrev pub filter_ask : Unread → Result Command ℕ
filter_ask unread = of_file (next_place unread) where
  of_options : List ℕ → List ℕ → ℕ → Result FilterGiven ℕ → Result Command ℕ
  of_options file made cloud (Ok given) = Ok (FilterOf file made (filter_given cloud given))
  of_options file made cloud (Err at) = Err at

  of_cloud : List ℕ → List ℕ → Result (ℕ × Unread) ℕ → Result Command ℕ
  of_cloud file made (Ok (cloud, rest)) = of_options file made cloud (with_options filter_rows rest.at rest.words no_filter_given)
  of_cloud file made (Err at) = Err at

  of_made : List ℕ → Result (List ℕ × Unread) ℕ → Result Command ℕ
  of_made file (Ok (made, rest)) = of_cloud file made (next_number rest)
  of_made file (Err at) = Err at

  of_file : Result (List ℕ × Unread) ℕ → Result Command ℕ
  of_file (Ok (file, rest)) = of_made file (next_other file rest)
  of_file (Err at) = Err at

-- two numbers, of which the second is a number of records, and no word behind them
abbrev pub trial_ask : Unread → Result Command ℕ
trial_ask unread = of_start (next_number unread) where
  of_count : ℕ → Result (ℕ × Unread) ℕ → Result Command ℕ
  of_count start (Ok (count, rest)) = at_end (TrialOf start count) rest
  of_count start (Err at) = Err at

  of_start : Result (ℕ × Unread) ℕ → Result Command ℕ
  of_start (Ok (start, rest)) = of_count start (next_number_up_to most_records rest)
  of_start (Err at) = Err at

-- what a command with the words behind it asks for, or the number of the first word at fault
unfoldable pub command_ask : List ℕ → Unread → Result Command ℕ
command_ask command words =
    if bytes_eq command (codes "--help") then at_end HelpAsked words
    else if bytes_eq command (codes "-h") then at_end HelpAsked words
    else if bytes_eq command (codes "--version") then at_end VersionAsked words
    else if bytes_eq command (codes "pages") then with_place PagesOf (only_place words)
    else if bytes_eq command (codes "info") then with_place InfoOf (only_place words)
    else if bytes_eq command (codes "list") then with_place ListOf (only_place words)
    else if bytes_eq command (codes "check") then with_place CheckOf (only_place words)
    else if bytes_eq command (codes "blob") then blob_ask words
    else if bytes_eq command (codes "extract") then extract_ask words
    else if bytes_eq command (codes "repack") then repack_ask words
    else if bytes_eq command (codes "filter") then filter_ask words
    else if bytes_eq command (codes "trial") then trial_ask words
    else Err 0

-- What the words ask for, or the number of the first word at fault. The command is word 0. Where a place is missing, it is
-- the number of words.
abbrev pub ask_of : List (List ℕ) → Result Command ℕ
ask_of [] = Err 0
ask_of (command ∷ words) = command_ask command (record { at = 1; words = words })

-- an ask as a command
abbrev pub command_of : Ask → Command
command_of asked.Help = HelpAsked
command_of asked.Version = VersionAsked
command_of (asked.Pages file) = PagesOf file.now
command_of (asked.Info file) = InfoOf file.now
command_of (asked.List file) = ListOf file.now
command_of (asked.Check file) = CheckOf file.now
command_of (asked.Blob file k) = BlobOf file.now k
command_of (asked.Extract file given) = ExtractOf file.now (asked_by given)
command_of (asked.Repack file made chunk is_tight) = RepackOf file.now made.now chunk is_tight
command_of (asked.Filter file made given) = FilterOf file.now made.now (filter_asked given)
command_of (asked.Trial start count) = TrialOf start count

-- no number of records is above the most that may be asked for, and a chunk may have the asked number of them; of a cloud that is
-- filtered each record or each of some is looked at; a file that is made has at most the most records
abbrev pub IsLimitedAsk : Ask → Type 0
IsLimitedAsk (asked.Extract file given) = IsLimited given
IsLimitedAsk (asked.Repack file made chunk is_tight) = IsChunkLength chunk
IsLimitedAsk (asked.Filter file made given) = IsLimitedFilter given
IsLimitedAsk (asked.Trial start count) = count ≤ most_records
IsLimitedAsk _ = Unit {0}
