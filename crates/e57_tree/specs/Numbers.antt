-- Numbers from digits, and signed numbers from unsigned ones.
use Rattle.std.specs.Prelude.{ℕ, ◌+◌, ◌*◌, ◌^◌, ℤ, pos, neg_ℤ, Option, None, option_map, option_and_then, if◌then◌else◌}
use Rattle.std.specs.Char.{digit_value}
use Rattle.e57_pieces.specs.Words.{is_decimal}
use Rattle.e57_nodes.specs.Facts.{when_below}

abbrev pub positive_from : Option ℕ → Option ℤ
positive_from number = option_map pos (option_and_then (when_below (2 ^ 63)) number)

abbrev pub negative_from : Option ℕ → Option ℤ
negative_from number = option_map (λ n. neg_ℤ (pos n)) (option_and_then (when_below (2 ^ 63 + 1)) number)

-- one digit more, where the byte is one and the number stays below 2 ^ 64
abbrev pub appended : ℕ → ℕ → Option ℕ
appended n b = if is_decimal b then when_below (2 ^ 64) (n * 10 + digit_value b) else None
