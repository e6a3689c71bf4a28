-- The tables hold what the steps make of the numbers from 0 to 255.
use Rattle.std.proofs.Common.{◌≡◌, ℕ, ◌+◌, ◌*◌, ◌/◌, ◌%◌, ◌<◌, map, get_or, refl, ap, ◌∙◌, arith, zero-add}
use Rattle.std.specs.List.{range_with_len}
use Rattle.std.proofs.lemmas.List.FromFn.{get_or-map-range_with_len}
use Rattle.e57_crc.specs.declared.tables.TheConstants.{TABLES}
use Rattle.e57_crc.specs.Crc.{shifted}
use Rattle.e57_crc.specs.Steps.{step, steps}

tables : TABLES ≡ map (λ j. steps (8 * (j / 256 + 1)) (j % 256)) (range_with_len 0 2048)
unfolding step steps shifted
tables = refl

pub looked_up-is : (i z : ℕ) → i < 256 → z < 8 → get_or TABLES (256 * z + i) 0 ≡ steps (8 * (z + 1)) i
looked_up-is i z h g =
    let j : ℕ = 256 * z + i in
    let table : j / 256 ≡ z = omega arith in
    let place : j % 256 ≡ i = omega arith in
    let within : j < 2048 = omega arith in
    ap (λ t. get_or t j 0) tables
    ∙ get_or-map-range_with_len (λ k. steps (8 * (k / 256 + 1)) (k % 256)) 0 2048 j j 0 within (zero-add j)
    ∙ ap (λ k. steps (8 * (k + 1)) (j % 256)) table
    ∙ ap (steps (8 * (z + 1))) place
