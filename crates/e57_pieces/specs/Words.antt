-- Classes of bytes, and the words of the grammar that are made of them. A byte from 128 on is part of a character past ASCII.
use Rattle.std.specs.Prelude.{◌≡◌, ℕ, ◌+◌, ◌*◌, Bool, true, ◌||◌, ◌==◌, nat_le, not, List, [], ◌∷◌, ◌++◌}
use Rattle.std.specs.List.{AllByRecursion}
use Rattle.std.specs.Char.{digit_value}
use Rattle.e57_pieces.specs.declared.words.Class.{Class}
use Rattle.e57_pieces.specs.declared.words.Class.TheVariants.{Space, Name, Decimal, Hexadecimal}
use Rattle.e57_pieces.specs.Characters.{between}

-- space, tab, carriage return, line feed
unfoldable pub is_space : ℕ → Bool
is_space b = b == 0x20 || b == 0x09 || b == 0x0D || b == 0x0A

-- an ASCII letter, `_`, `:` or a character past ASCII
unfoldable pub begins_name : ℕ → Bool
begins_name b = between 65 90 b || between 97 122 b || b == 95 || b == 58 || nat_le 128 b

-- also a digit, `-` or `.`
unfoldable pub goes_on_name : ℕ → Bool
goes_on_name b = begins_name b || between 48 57 b || b == 45 || b == 46

unfoldable pub is_decimal : ℕ → Bool
is_decimal b = between 48 57 b

unfoldable pub is_hexadecimal : ℕ → Bool
is_hexadecimal b = between 48 57 b || between 65 70 b || between 97 102 b

-- the test of a class
abbrev pub class_test : Class → ℕ → Bool
class_test Space = is_space
class_test Name = goes_on_name
class_test Decimal = is_decimal
class_test Hexadecimal = is_hexadecimal

-- a byte of a value other than `<`, `&` and its quote
unfoldable pub is_plain : ℕ → ℕ → Bool
is_plain quote b = not (b == 60 || b == 38 || b == quote)

-- each byte is in the class
abbrev pub Each : (ℕ → Bool) → List ℕ → Type 0
Each p bytes = AllByRecursion (λ b. p b ≡ true) bytes

abbrev pub IsName : List ℕ → Type 0
IsName [] = ⊥
IsName (b ∷ bs) = (begins_name b ≡ true) × Each goes_on_name bs

-- the number that digits write, the most significant first, after those that wrote n
unfoldable pub numeral_from : ℕ → ℕ → List ℕ → ℕ
numeral_from base n [] = n
numeral_from base n (d ∷ ds) = numeral_from base (n * base + digit_value d) ds

abbrev pub numeral : ℕ → List ℕ → ℕ
numeral base digits = numeral_from base 0 digits

-- a reference by number has at most so many digits
abbrev pub max_digits : ℕ
max_digits = 10

-- The word stands nowhere in the bytes.
abbrev pub Absent : List ℕ → List ℕ → Type 0
Absent word bytes = (front back : List ℕ) → bytes ≡ front ++ (word ++ back) → ⊥
