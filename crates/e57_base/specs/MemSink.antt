-- A sink in memory.
use Rattle.std.specs.Prelude.{ℕ, ◌+◌, ◌-◌, Bool, ◌||◌, if◌then◌else◌, List, [], ◌++◌, length, take, nat_lt, Some}
use Rattle.e57_base.specs.Calls.{CallList, no_calls, is_failing, called, raised_if}
use Rattle.e57_base.specs.Sink.{SinkView}

pub record SinkState : Type 0 where
  -- the bytes put so far
  pub written : List ℕ
  -- for how many bytes there is room
  pub room : ℕ
  -- the calls of the sink so far, and those that are to fail
  pub calls : CallList
  -- how many calls failed
  pub faults : ℕ

-- no byte, and room for so many
abbrev pub initial_sink : ℕ → SinkState
initial_sink room = record { written = []; room = room; calls = no_calls; faults = 0 }

-- what the sink tells
abbrev pub sink_view : SinkState → SinkView
sink_view sink = record { written = Some sink.written; faults = sink.faults }

-- `put` of a piece fails
abbrev pub put_fails : SinkState → List ℕ → Bool
put_fails sink piece = is_failing sink.calls || nat_lt sink.room (length sink.written + length piece)

-- what `put` of a piece appends: what still fits, or nothing where the call is to fail
abbrev pub appended : SinkState → List ℕ → List ℕ
appended sink piece = if is_failing sink.calls then [] else take (sink.room - length sink.written) piece

-- after `put` of a piece
unfoldable pub after_put : SinkState → List ℕ → SinkState
after_put sink piece =
    record sink {
      written = sink.written ++ appended sink piece;
      calls = called sink.calls;
      faults = raised_if (put_fails sink piece) sink.faults;
    }
