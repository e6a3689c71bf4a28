-- What a run of a command promises.
use Rattle.std.specs.Prelude.{◌≡◌, ◌⊎◌, ℕ, Bool, true, false, IsTrue, IsSome}
use Rattle.e57_base.specs.Count.{raised}
use Rattle.e57_base.specs.Source.{SourceView}
use Rattle.e57_base.specs.Target.{TargetView}
use Rattle.e57_base.specs.Sink.{SinkView}
use Rattle.e57_tool.specs.declared.ending.Ending.{Ending}
use Rattle.e57_tool.specs.declared.status.Status.{Status}
use Rattle.e57_tool.specs.declared.status.Status.TheVariants.{Done, Refused, WordsFault, Memory, AskRefused}
use Rattle.e57_tool.specs.Lines.{words_line}
use Rattle.e57_tool.specs.Ending.{status_of, line_of, PutsLine, PutsLineOf}
use Rattle.e57_tool.specs.Outside.{Outside, outside, NoCallFails}

-- how many files a command opens
pub data Opens : Type 0 where
  NoFile : Opens
  OneFile : Opens
  -- as its own relation says
  MoreFiles : Opens

-- what a command promises
pub record Promise : Type 1 where
  -- how it ends, by what is outside before and after
  pub ends : Outside → Outside → Ending → Type 0
  -- what has to be outside for it to be done
  pub is_ready : Outside → Type 0
  -- whether it takes memory, how many files it opens, and whether it writes one
  pub takes_memory : Bool
  pub opens : Opens
  pub writes : Bool

-- a status that tells of the content of a file
abbrev pub tells_of_file : Status → Bool
tells_of_file Done = true
tells_of_file Refused = true
tells_of_file AskRefused = true
tells_of_file _ = false

-- Where the status tells of a file, it is open.
abbrev pub TellsOfOpenFile : SourceView → Status → Type 0
TellsOfOpenFile source given = IsTrue (tells_of_file given) → IsSome source.size

-- The source is called for the command's files alone.
abbrev pub CallsSource : {S : Type 0} → Opens → S → S → SourceView → SourceView → Status → Type 0
CallsSource NoFile source source' old new given = source' ≡ source
CallsSource OneFile source source' old new given = (new.opened ≡ raised old.opened) × TellsOfOpenFile new given
CallsSource MoreFiles source source' old new given = TellsOfOpenFile new given

-- The target is called by a command that writes a file, and created once at most.
abbrev pub CallsTarget : {T : Type 0} → Bool → T → T → TargetView → TargetView → Type 0
CallsTarget false target target' old new = target' ≡ target
CallsTarget true target target' old new = (new.created ≡ old.created) ⊎ (new.created ≡ raised old.created)

-- The run is done, or ran out of memory where the command takes any.
abbrev pub IsDone : Bool → Status → Type 0
IsDone takes_memory given = (given ≡ Done) ⊎ (IsTrue takes_memory × (given ≡ Memory))

-- Where all is there and no call failed, the run is as good as done.
abbrev pub IsComplete : Promise → Outside → Outside → Status → Type 0
IsComplete promise before after given = promise.is_ready before → NoCallFails before after → IsDone promise.takes_memory given

-- A command keeps its promise, by what its objects tell. It gives the source and the target back, and its ending.
pub record Keeps {S T O : Type 0} (source_of : S → SourceView) (target_of : T → TargetView) (out_of : O → SinkView) (promise : Promise) (source : S) (target : T) (out : O) (given : S × T × Ending) (out' : O) : Type 0 where
  pub ends : promise.ends (outside (source_of source) (target_of target) (out_of out)) (outside (source_of given.0) (target_of given.1) (out_of out')) given.2
  pub complete : IsComplete promise (outside (source_of source) (target_of target) (out_of out)) (outside (source_of given.0) (target_of given.1) (out_of out')) (status_of given.2)
  pub source_calls : CallsSource promise.opens source given.0 (source_of source) (source_of given.0) (status_of given.2)
  pub target_calls : CallsTarget promise.writes target given.1 (target_of target) (target_of given.1)

-- The command ended so, and the status and the line on `err` say how.
abbrev pub EndsAs : (Ending → Type 0) → SinkView → SinkView → Status → Type 0
EndsAs ends err err' given = (ending : Ending) × ends ending × (given ≡ status_of ending) × PutsLineOf err (line_of ending) err'

-- The words ask for nothing, and word `at` is the first at fault: no object is called but `err`.
pub record RefusesWords {S T O : Type 0} (at : ℕ) (source source' : S) (target target' : T) (out out' : O) (err err' : SinkView) (given : Status) : Type 0 where
  pub status : given ≡ WordsFault
  pub source_back : source' ≡ source
  pub target_back : target' ≡ target
  pub out_back : out' ≡ out
  pub line : PutsLine err (words_line at) err'
