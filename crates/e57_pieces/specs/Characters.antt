-- The characters of an element text, by their numbers, and the front of a text before the first other one.
use Rattle.std.specs.Prelude.{◌≡◌, ℕ, suc, Bool, true, false, ◌||◌, ◌&&◌, ◌==◌, nat_le, nat_lt, not, List, [], ◌∷◌, ◌++◌, encode_utf8, if◌then◌else◌}
use Rattle.std.specs.Str.{encode_utf8_all}
use Rattle.std.specs.List.{AllByRecursion}

-- the number is from low to high
abbrev pub between : ℕ → ℕ → ℕ → Bool
between low high c = nat_le low c && nat_le c high

-- tab, line feed, carriage return, and from the space on all but the surrogates and U+FFFE and U+FFFF
unfoldable pub is_character : ℕ → Bool
is_character c = c == 0x9 || c == 0xA || c == 0xD || between 0x20 0xD7FF c || between 0xE000 0xFFFD c || between 0x10000 0x10FFFF c

-- The bytes are the UTF-8 of characters.
pub record AreCharacters (bytes : List ℕ) : Type 0 where
  pub numbers : List ℕ
  pub each : AllByRecursion (λ c. is_character c ≡ true) numbers
  pub spelled : encode_utf8_all numbers ≡ bytes

-- The bytes are empty, or begin with the UTF-8 of a number that is no character.
abbrev pub BeginsForbidden : List ℕ → Type 0
BeginsForbidden [] = Unit {0}
BeginsForbidden (b ∷ bs) = (c : ℕ) × (rest : List ℕ) × (is_character c ≡ false) × (b ∷ bs ≡ encode_utf8 c ++ rest)

-- The front is characters, and what follows begins with none.
pub record IsClean (front back : List ℕ) : Type 0 where
  pub characters : AreCharacters front
  pub forbidden : BeginsForbidden back

-- in UTF-8 only control bytes, and EF BF BE and EF BF BF, begin a number that is no character
unfoldable pub is_control : ℕ → Bool
is_control b = nat_lt b 0x20 && not (b == 0x9 || b == 0xA || b == 0xD)

unfoldable pub is_noncharacter : List ℕ → Bool
is_noncharacter [] = false
is_noncharacter (a ∷ []) = false
is_noncharacter (a ∷ b ∷ []) = false
is_noncharacter (a ∷ b ∷ c ∷ bs) = a == 0xEF && b == 0xBF && nat_le 0xBE c

-- no character begins here
unfoldable pub forbids : List ℕ → Bool
forbids [] = false
forbids (b ∷ bs) = is_control b || is_noncharacter (b ∷ bs)

-- how many bytes stand before the first that begins no character
unfoldable pub clean_len : List ℕ → ℕ
clean_len [] = 0
clean_len (b ∷ bs) = if forbids (b ∷ bs) then 0 else suc (clean_len bs)
