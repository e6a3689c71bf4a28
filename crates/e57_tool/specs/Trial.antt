-- `trial START COUNT`: a content is made of two numbers, two files of it are written in memory, and one line says what they are.
use Rattle.std.specs.Prelude.{ℕ, List, true, length}
use Rattle.e57_plain.specs.Written.{plain}
use Rattle.e57_trial.specs.Content.{trial_content, trial_sum}
use Rattle.e57_trial.specs.Building.{first_chunk, second_chunk}
use Rattle.e57_tool.specs.Lines.{trial_line}
use Rattle.e57_tool.specs.Run.{Promise}
use Rattle.e57_tool.specs.Putting.{putting}

-- the length of the written form of the content of two numbers, with so many records a chunk
abbrev pub trial_length : ℕ → ℕ → ℕ → ℕ
trial_length chunk start count = length (plain chunk (trial_content start count))

-- the line: the two numbers, the lengths of both files, and the sum of the raw numbers of cartesianX
abbrev pub trial_text : ℕ → ℕ → List ℕ
trial_text start count = trial_line start count (trial_length first_chunk start count) (trial_length second_chunk start count) (trial_sum start count)

abbrev pub trial_promise : ℕ → ℕ → Promise
trial_promise start count = putting true (trial_text start count)
