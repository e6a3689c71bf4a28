-- Reading from left to right: what stands at the front of a text, and the rest, or none.
use Rattle.std.specs.Prelude.{ℕ, zero, suc, ◌≤◌, Bool, true, false, ◌||◌, ◌&&◌, ◌==◌, nat_le, List, [], ◌∷◌, ◌++◌, length, take, drop, Option, Some, None, encode_utf8, codes, if◌then◌else◌}
use Rattle.std.specs.Option.{option_or, option_map}
use Rattle.std.specs.Str.{IsUtf8}
use Rattle.e57_pieces.specs.declared.piece.Attr.{Attr}
use Rattle.e57_pieces.specs.declared.piece.Piece.{Piece}
use Rattle.e57_pieces.specs.declared.piece.Piece.TheVariants.{Start, Empty, End, Comment, CData, Text}
use Rattle.e57_pieces.specs.Characters.{is_character, clean_len, IsClean}
use Rattle.e57_pieces.specs.Words.{is_space, begins_name, goes_on_name, is_decimal, is_hexadecimal, is_plain, numeral, max_digits}
use Rattle.e57_pieces.specs.Grammar.{differ}
use Rattle.e57_pieces.specs.Start.{strip, declares, after_mark, encoding_fits}

infixl 10 ◌>>=◌
abbrev pub ◌>>=◌ : {A B : Type 0} → Option A → (A → Option B) → Option B
None >>= f = None
(Some x) >>= f = f x

-- the value where the test holds
abbrev pub given : {A : Type 0} → Bool → A → Option A
given true x = Some x
given false x = None

-- the front of the bytes that is in the class, and what follows it
unfoldable pub run : (ℕ → Bool) → List ℕ → List ℕ
run p [] = []
run p (b ∷ bs) = if p b then b ∷ run p bs else []

unfoldable pub after : (ℕ → Bool) → List ℕ → List ℕ
after p [] = []
after p (b ∷ bs) = if p b then after p bs else b ∷ bs

-- what stands before the first place of the word, and what follows the word
unfoldable pub cut_at : List ℕ → List ℕ → Option (List ℕ × List ℕ)
cut_at word [] = None
cut_at word (b ∷ bs) = option_or (option_map (λ rest. ([], rest)) (strip word (b ∷ bs))) (option_map (λ x. (b ∷ x.0, x.1)) (cut_at word bs))

unfoldable pub name_at : List ℕ → Option (List ℕ × List ℕ)
name_at [] = None
name_at (b ∷ bs) = given (begins_name b) (b ∷ run goes_on_name bs, after goes_on_name bs)

-- one or more white space
unfoldable pub space_at : List ℕ → Option (List ℕ)
space_at [] = None
space_at (b ∷ bs) = given (is_space b) (after is_space bs)

-- a character by name, and the rest
abbrev pub named_at : List ℕ → ℕ → List ℕ → Option (ℕ × List ℕ)
named_at word c bytes = option_map (λ rest. (c, rest)) (strip word bytes)

-- at least one digit, and not too many
abbrev pub are_few : List ℕ → Bool
are_few digits = nat_le 1 (length digits) && nat_le (length digits) max_digits

unfoldable pub numbered_at : List ℕ → (ℕ → Bool) → ℕ → List ℕ → Option (ℕ × List ℕ)
numbered_at mark is_digit base bytes = do
  start ← strip mark bytes
  rest ← strip (codes ";") (after is_digit start)
  given (are_few (run is_digit start) && is_character (numeral base (run is_digit start))) (numeral base (run is_digit start), rest)

unfoldable pub reference_at : List ℕ → Option (ℕ × List ℕ)
reference_at bytes =
    option_or (named_at (codes "&lt;") 60 bytes) (option_or (named_at (codes "&gt;") 62 bytes) (option_or (named_at (codes "&amp;") 38 bytes)
    (option_or (named_at (codes "&apos;") 39 bytes) (option_or (named_at (codes "&quot;") 34 bytes)
    (option_or (numbered_at (codes "&#") is_decimal 10 bytes) (numbered_at (codes "&#x") is_hexadecimal 16 bytes))))))

-- what parts mean, and the rest: plain bytes, and where a reference stands after them, its character and what goes on means
abbrev pub parts_then : List ℕ → List ℕ → (List ℕ → List ℕ × List ℕ) → Option (ℕ × List ℕ) → List ℕ × List ℕ
parts_then front rest goes_on None = (front, rest)
parts_then front rest goes_on (Some x) = (front ++ (encode_utf8 x.0 ++ (goes_on x.1).0), (goes_on x.1).1)

-- up to n times plain bytes and a reference
unfoldable pub parts_at : (ℕ → Bool) → ℕ → List ℕ → List ℕ × List ℕ
parts_at plain zero bytes = ([], bytes)
parts_at plain (suc n) bytes = parts_then (run plain bytes) (after plain bytes) (λ rest. parts_at plain n rest) (reference_at (after plain bytes))

-- what the whole of the parts at the front means, and the rest
abbrev pub text_at : ℕ → List ℕ → List ℕ × List ℕ
text_at quote bytes = parts_at (is_plain quote) (length bytes) bytes

unfoldable pub quote_at : List ℕ → Option (ℕ × List ℕ)
quote_at [] = None
quote_at (b ∷ bs) = given (b == 34 || b == 39) (b, bs)

unfoldable pub value_at : List ℕ → Option (List ℕ × List ℕ)
value_at bytes = do
  quote ← quote_at bytes
  rest ← strip (quote.0 ∷ []) (text_at quote.0 quote.1).1
  Some ((text_at quote.0 quote.1).0, rest)

unfoldable pub attr_at : List ℕ → Option (Attr × List ℕ)
attr_at bytes = do
  start ← space_at bytes
  name ← name_at start
  sign ← strip (codes "=") (after is_space name.1)
  value ← value_at (after is_space sign)
  Some (record { name = name.0; value = value.0 }, value.1)

abbrev pub attrs_then : List ℕ → (List ℕ → List Attr × List ℕ) → Option (Attr × List ℕ) → List Attr × List ℕ
attrs_then bytes goes_on None = ([], bytes)
attrs_then bytes goes_on (Some x) = (x.0 ∷ (goes_on x.1).0, (goes_on x.1).1)

-- up to n attributes, and the rest
unfoldable pub attrs_at : ℕ → List ℕ → List Attr × List ℕ
attrs_at zero bytes = ([], bytes)
attrs_at (suc n) bytes = attrs_then bytes (λ rest. attrs_at n rest) (attr_at bytes)

-- attributes whose names differ, and what follows them and white space
unfoldable pub inside_at : List ℕ → Option (List Attr × List ℕ)
inside_at bytes = given (differ (attrs_at (length bytes) bytes).0) ((attrs_at (length bytes) bytes).0, after is_space (attrs_at (length bytes) bytes).1)

unfoldable pub tag_at : List ℕ → Option (Piece × List ℕ)
tag_at bytes = do
  start ← strip (codes "<") bytes
  name ← name_at start
  inside ← inside_at name.1
  option_or (option_map (λ rest. (Start name.0 inside.0, rest)) (strip (codes ">") inside.1)) (option_map (λ rest. (Empty name.0 inside.0, rest)) (strip (codes "/>") inside.1))

unfoldable pub end_at : List ℕ → Option (Piece × List ℕ)
end_at bytes = do
  start ← strip (codes "</") bytes
  name ← name_at start
  rest ← strip (codes ">") (after is_space name.1)
  Some (End name.0, rest)

unfoldable pub comment_at : List ℕ → Option (Piece × List ℕ)
comment_at bytes = do
  start ← strip (codes "<!--") bytes
  body ← cut_at (codes "--") start
  rest ← strip (codes ">") body.1
  Some (Comment, rest)

unfoldable pub cdata_at : List ℕ → Option (Piece × List ℕ)
cdata_at bytes = do
  start ← strip (codes "<![CDATA[") bytes
  text ← cut_at (codes "]]>") start
  Some (CData text.0, text.1)

-- a run has one part at least, so it isn't empty where its rest is shorter
unfoldable pub run_at : List ℕ → Option (Piece × List ℕ)
run_at bytes = given (nat_le (suc (length (text_at 60 bytes).1)) (length bytes)) (Text (text_at 60 bytes).0, (text_at 60 bytes).1)

-- the piece at the front of a text of characters
unfoldable pub piece_at : List ℕ → Option (Piece × List ℕ)
piece_at bytes = option_or (tag_at bytes) (option_or (end_at bytes) (option_or (run_at bytes) (option_or (comment_at bytes) (cdata_at bytes))))

-- what follows a declaration
unfoldable pub declaration_at : List ℕ → Option (List ℕ)
declaration_at bytes = do
  start ← strip (codes "<?xml") bytes
  inside ← inside_at start
  rest ← strip (codes "?>") inside.1
  given (encoding_fits inside.0) rest

-- ---- the whole of a text in UTF-8: characters up to the first other one, and what is left from there on

abbrev pub clean : List ℕ → List ℕ
clean text = take (clean_len text) text

abbrev pub unclean : List ℕ → List ℕ
unclean text = drop (clean_len text) text

-- the piece at the front, and the rest
unfoldable pub next_at : List ℕ → Option (Piece × List ℕ)
next_at text = option_map (λ x. (x.0, x.1 ++ unclean text)) (piece_at (clean text))

-- where the pieces begin
unfoldable pub body_at : List ℕ → Option (List ℕ)
body_at text = if declares (after_mark text) then option_map (λ rest. rest ++ unclean (after_mark text)) (declaration_at (clean (after_mark text))) else Some (after_mark text)

-- the text is UTF-8, its first n bytes are characters, and the next begins none
pub record IsCleanAt (text : List ℕ) (n : ℕ) : Type 0 where
  pub utf8 : IsUtf8 text
  pub within : n ≤ length text
  pub clean : IsClean (take n text) (drop n text)
