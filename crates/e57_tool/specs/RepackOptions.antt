-- The options of `repack`.
use Rattle.std.specs.Prelude.{ℕ, ◌^◌, ◌%◌, Bool, true, false, ◌&&◌, ◌==◌, nat_lt, nat_le, if◌then◌else◌, List, [], ◌∷◌, Option, Some, None, IfSome, codes}
use Rattle.std.specs.Option.{option_and_then, unwrap_or}
use Rattle.std.specs.Str.{bytes_eq}
use Rattle.e57_chunk_out.specs.CloudCalls.{IsChunkLength}
use Rattle.e57_tool.specs.Cursor.{number_of}
use Rattle.e57_tool.specs.Options.{OptionRow, given_once}
use Rattle.e57_tool.specs.declared.repack_options.RepackOptions.{RepackOptions}

-- a chunk may have so many records: a multiple of 8 from 8 to 2 ^ 20
abbrev pub is_chunk_length : ℕ → Bool
is_chunk_length n = nat_lt 0 n && nat_le n (2 ^ 20) && (n % 8 == 0)

-- the number of records of a chunk
unfoldable pub chunk_asked : List ℕ → Option ℕ
chunk_asked value = option_and_then (λ n. if is_chunk_length n then Some n else None) (number_of value)

-- whether narrow limits are asked for: `yes` is the one value
abbrev pub tight_asked : List ℕ → Option Bool
tight_asked value = if bytes_eq value (codes "yes") then Some true else None

-- the number of records of a chunk, and whether narrow limits are asked for
pub record RepackGiven : Type 0 where
  pub chunk : Option ℕ
  pub tight : Option Bool

abbrev pub no_repack_given : RepackGiven
no_repack_given = record { chunk = None; tight = None }

-- `--chunk=N`, `--tight=yes`, each once
abbrev pub repack_rows : List (OptionRow RepackGiven)
repack_rows =
    record { front = codes "--chunk="; add = λ value given. given_once given.chunk (chunk_asked value) (λ n. record given { chunk = Some n }) }
    ∷ record { front = codes "--tight="; add = λ value given. given_once given.tight (tight_asked value) (λ b. record given { tight = Some b }) }
    ∷ []

-- how many records a chunk has, if no number is given
abbrev pub default_chunk : ℕ
default_chunk = 8192

abbrev pub chunk_given : RepackGiven → ℕ
chunk_given given = unwrap_or given.chunk default_chunk

abbrev pub tight_given : RepackGiven → Bool
tight_given given = unwrap_or given.tight false

-- options as what they give
abbrev pub repack_given : RepackOptions → RepackGiven
repack_given options = record { chunk = options.chunk; tight = options.tight }

-- a number of records is one that a chunk may have
abbrev pub IsLawfulRepack : RepackOptions → Type 0
IsLawfulRepack options = IfSome options.chunk IsChunkLength
