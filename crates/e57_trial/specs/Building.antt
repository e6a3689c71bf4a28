-- Both files of a content of two numbers, and a sum of its items.
use Rattle.std.specs.Prelude.{◌≡◌, ℕ}
use Rattle.e57_plain.specs.Written.{plain}
use Rattle.e57_trial.specs.Content.{trial_content, trial_sum}
use Rattle.e57_trial.specs.declared.build.TrialFiles.{TrialFiles}

-- how many records a chunk of the first file has, and of the second one
abbrev pub first_chunk : ℕ
first_chunk = 8192

abbrev pub second_chunk : ℕ
second_chunk = 1024

-- The two files are the written forms of the content, and the sum is that of the items of its first column.
pub record IsBuilt (start count : ℕ) (files : TrialFiles) : Type 0 where
  pub first : files.first ≡ plain first_chunk (trial_content start count)
  pub second : files.second ≡ plain second_chunk (trial_content start count)
  pub sum : files.sum ≡ trial_sum start count
