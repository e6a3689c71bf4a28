-- The records of the content, block by block.
use Rattle.std.specs.Prelude.{ℕ, ◌+◌, ◌*◌, ◌%◌, ◌^◌, ◌≤◌, pos, List, [], ◌∷◌}
use Rattle.std.specs.List.{range_with_len, sum_by}
use Rattle.e57_layout.specs.Values.{ItemKind, integers, words, strings}
use Rattle.e57_verdict.specs.Things.{Body, records_body}
use Rattle.e57_chunk_out.specs.CloudCalls.{in_block, most_of_block}
use Rattle.e57_chunk_out.specs.Standing.{Cloud}
use Rattle.e57_trial.specs.Content.{columns_from}

-- what the items of its fields are
abbrev pub trial_kinds : List ItemKind
trial_kinds =
    integers (pos 0) (pos 1048575)
    ∷ integers (pos 0) (pos 1048575)
    ∷ integers (pos 0) (pos 255)
    ∷ integers (pos 0) (pos 0)
    ∷ words 32
    ∷ strings
    ∷ []

-- a coordinate of record i: cartesianX with the factor 3, cartesianY with the factor 5
abbrev pub coordinate_at : ℕ → ℕ → ℕ → ℕ
coordinate_at start factor i = (start + factor * i) % 2 ^ 20

-- where the tags of n records end, if that of the first of them, `first`, begins at 0
abbrev pub tags_end : ℕ → ℕ → ℕ
tags_end first n = sum_by (λ i. i % 4) (range_with_len first n)

-- there is room in the block for n items more of field f
abbrev pub HasRoomFor : Cloud → ℕ → ℕ → Type 0
HasRoomFor c f n = in_block c f + n ≤ most_of_block

-- what the content's cloud holds
abbrev pub trial_bodies : ℕ → ℕ → List Body
trial_bodies start count = records_body (columns_from start 0 count) ∷ []
