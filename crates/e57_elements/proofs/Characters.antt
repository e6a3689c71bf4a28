-- What a piece holds is names and characters.
use Rattle.std.proofs.Common.{◌≡◌, ℕ, zero, suc, ◌<◌, Bool, true, ltb, ◌||◌, ◌⊎◌, List, [], ◌∷◌, ◌++◌, length, refl, sym, ap, subst, ◌∙◌, inl, inr, append_assoc, lit<, arith}
use Rattle.std.specs.Prelude.{encode_utf8, codes, IsUtf8}
use Rattle.std.specs.List.{AllByRecursion, flat_map, list_all}
use Rattle.std.specs.Str.{IsAscii}
use Rattle.std.proofs.lemmas.List.{append-nil}
use Rattle.std.proofs.lemmas.Bool.{ltb-true, and_parts}
use Rattle.std.proofs.lemmas.Str.{IsUtf8-from_ascii}
use Rattle.e57_pieces.specs.declared.piece.Attr.{Attr}
use Rattle.e57_pieces.specs.declared.piece.Piece.{Piece}
use Rattle.e57_pieces.specs.declared.piece.Piece.TheVariants.{Start, Empty, End, Comment, CData, Text}
use Rattle.e57_pieces.specs.Characters.{between, is_character, AreCharacters}
use Rattle.e57_pieces.specs.Words.{is_space, is_plain, is_decimal, is_hexadecimal, Each, IsName}
use Rattle.e57_pieces.specs.Grammar.{IsNumbered, IsReference, IsPart, Means, IsAttr, AreAttrs, differ, IsInside, IsTag, IsCData, IsPiece}
use Rattle.e57_pieces.proofs.Laws.Characters.{or_true, between_bounds, AreCharacters-append, AreCharacters-nil, AreCharacters-parts, AreCharacters-before}
use Rattle.e57_pieces.proofs.Laws.References.{reference_begins}
use Rattle.e57_pieces.proofs.Laws.Attributes.{spaces}
use Rattle.e57_elements.specs.Lawful.{IsLawfulAttr}

-- ---- ASCII, and cuts beside it

abbrev pub AreLow : List ℕ → Type 0
AreLow bytes = AllByRecursion (λ b. b < 128) bytes

utf8_low : (bytes : List ℕ) → AreLow bytes → IsUtf8 bytes
utf8_low bytes low = IsUtf8-from_ascii bytes (at bytes low) where
  at : (bs : List ℕ) → AreLow bs → IsAscii bs
  at [] h i = lit< tt
  at (b ∷ bs) h zero = h.0
  at (b ∷ bs) h (suc i) = at bs h.1 i

low_append : (xs ys : List ℕ) → AreLow xs → AreLow ys → AreLow (xs ++ ys)
low_append [] ys f g = g
low_append (x ∷ xs) ys f g = (f.0, low_append xs ys f.1 g)

low_each : (p : ℕ → Bool) → ((b : ℕ) → p b ≡ true → b < 128) → (bytes : List ℕ) → Each p bytes → AreLow bytes
low_each p low [] h = tt
low_each p low (b ∷ bs) h = (low b h.0, low_each p low bs h.1)

-- of bytes that are written out
low_word : (bytes : List ℕ) → list_all (λ b. ltb b 128) bytes ≡ true → AreLow bytes
low_word [] e = tt
low_word (b ∷ bs) e = let h = and_parts (ltb b 128) (list_all (λ c. ltb c 128) bs) e in (ltb-true b 128 h.0, low_word bs h.1)

space_low : (b : ℕ) → is_space b ≡ true → b < 128
space_low b e = spaces (λ n. n < 128) b e (lit< tt) (lit< tt) (lit< tt) (lit< tt)

-- what follows ASCII
behind : (xs ys : List ℕ) → AreLow xs → AreCharacters (xs ++ ys) → AreCharacters ys
behind xs ys low are = (AreCharacters-parts xs ys are (utf8_low xs low)).1

-- empty, or begins with ASCII
abbrev pub StartsLow : List ℕ → Type 0
StartsLow [] = Unit {0}
StartsLow (b ∷ bs) = b < 128

cut_low : (xs ys : List ℕ) → StartsLow ys → AreCharacters (xs ++ ys) → AreCharacters xs × AreCharacters ys
cut_low xs [] low are = (subst (λ (t : List ℕ). AreCharacters t) (append-nil xs) are, AreCharacters-nil)
cut_low xs (b ∷ bs) low are = AreCharacters-before xs b bs low are

space_starts : (space rest : List ℕ) → Each is_space space → StartsLow rest → StartsLow (space ++ rest)
space_starts [] rest h low = low
space_starts (b ∷ bs) rest h low = space_low b h.0

-- ---- references

decimal_low : (b : ℕ) → is_decimal b ≡ true → b < 128
unfolding is_decimal
decimal_low b e = let h = between_bounds 48 57 b e in omega arith

hexadecimal_low : (b : ℕ) → is_hexadecimal b ≡ true → b < 128
unfolding is_hexadecimal
hexadecimal_low b e =
    elim (or_true (between 48 57 b || between 65 70 b) (between 97 102 b) e) [
      | inr low ↦ (let h = between_bounds 97 102 b low in omega arith)
      | inl more ↦ elim (or_true (between 48 57 b) (between 65 70 b) more) [
        | inl low ↦ (let h = between_bounds 48 57 b low in omega arith)
        | inr low ↦ (let h = between_bounds 65 70 b low in omega arith)
      ]
    ]

-- a reference is ASCII, and its number that of a character
record Sound (spelling : List ℕ) (c : ℕ) : Type 0 where
  low : AreLow spelling
  character : is_character c ≡ true

named_sound : (word spelling : List ℕ) (k c : ℕ) → AreLow word → is_character k ≡ true → (spelling ≡ word) × (c ≡ k) → Sound spelling c
named_sound word spelling k c low is h = record { low = subst AreLow (sym h.0) low; character = subst (λ n. is_character n ≡ true) (sym h.1) is }

numbered_sound : (mark : List ℕ) (is_digit : ℕ → Bool) (base : ℕ) (spelling : List ℕ) (c : ℕ) → AreLow mark → ((b : ℕ) → is_digit b ≡ true → b < 128) → IsNumbered mark is_digit base spelling c → Sound spelling c
numbered_sound mark is_digit base spelling c low digit_low h =
    record { low = subst AreLow (sym h.spelled) (low_append (mark ++ h.digits) (codes ";") (low_append mark h.digits low (low_each is_digit digit_low h.digits h.each)) (lit< tt, tt)); character = h.character }

reference_sound : (spelling : List ℕ) (c : ℕ) → IsReference spelling c → Sound spelling c
unfolding is_character
reference_sound spelling c (inl (inl h)) = named_sound (codes "&lt;") spelling 60 c (low_word (codes "&lt;") refl) refl h
reference_sound spelling c (inl (inr (inl h))) = named_sound (codes "&gt;") spelling 62 c (low_word (codes "&gt;") refl) refl h
reference_sound spelling c (inl (inr (inr (inl h)))) = named_sound (codes "&amp;") spelling 38 c (low_word (codes "&amp;") refl) refl h
reference_sound spelling c (inl (inr (inr (inr (inl h))))) = named_sound (codes "&apos;") spelling 39 c (low_word (codes "&apos;") refl) refl h
reference_sound spelling c (inl (inr (inr (inr (inr h))))) = named_sound (codes "&quot;") spelling 34 c (low_word (codes "&quot;") refl) refl h
reference_sound spelling c (inr (inl h)) = numbered_sound (codes "&#") is_decimal 10 spelling c (low_word (codes "&#") refl) decimal_low h
reference_sound spelling c (inr (inr h)) = numbered_sound (codes "&#x") is_hexadecimal 16 spelling c (low_word (codes "&#x") refl) hexadecimal_low h

-- ---- what text with references means

encoded : (c : ℕ) → is_character c ≡ true → AreCharacters (encode_utf8 c)
encoded c is = record { numbers = c ∷ []; each = (is, tt); spelled = append-nil (encode_utf8 c) }

reference_starts : (spelling rest : List ℕ) (c : ℕ) → IsReference spelling c → StartsLow (spelling ++ rest)
reference_starts spelling rest c h =
    let begins = reference_begins spelling c h in
    subst (λ (s : List ℕ). StartsLow (s ++ rest)) (sym begins.1) (lit< tt)

abbrev pub spelled_by : List (List ℕ × List ℕ) → List ℕ
spelled_by parts = flat_map (λ part. part.0) parts

abbrev pub meant_by : List (List ℕ × List ℕ) → List ℕ
meant_by parts = flat_map (λ part. part.1) parts

parts_mean : (plain : ℕ → Bool) (parts : List (List ℕ × List ℕ)) (before : List ℕ) → AllByRecursion (λ part. IsPart plain part.0 part.1) parts
    → AreCharacters (before ++ spelled_by parts) → AreCharacters (before ++ meant_by parts)
parts_mean plain [] before each are = are
parts_mean plain ((spelling, meaning) ∷ parts) before (inl (b, is_plain_byte, spells, means), each) are =
    let first : AreCharacters ((before ++ b ∷ []) ++ spelled_by parts) = subst (λ (t : List ℕ). AreCharacters t) (ap (λ (s : List ℕ). before ++ (s ++ spelled_by parts)) spells ∙ sym (append_assoc before (b ∷ []) (spelled_by parts))) are in
    subst (λ (t : List ℕ). AreCharacters t) (append_assoc before (b ∷ []) (meant_by parts) ∙ ap (λ (s : List ℕ). before ++ (s ++ meant_by parts)) (sym means)) (parts_mean plain parts (before ++ b ∷ []) each first)
parts_mean plain ((spelling, meaning) ∷ parts) before (inr (c, reference, means), each) are =
    let sound = reference_sound spelling c reference in
    let two = cut_low before (spelling ++ spelled_by parts) (reference_starts spelling (spelled_by parts) c reference) are in
    let rest = parts_mean plain parts [] each (behind spelling (spelled_by parts) sound.low two.1) in
    let later = AreCharacters-append (encode_utf8 c) (meant_by parts) (encoded c sound.character) rest in
    subst (λ (m : List ℕ). AreCharacters (before ++ (m ++ meant_by parts))) (sym means) (AreCharacters-append before (encode_utf8 c ++ meant_by parts) two.0 later)

meaning_characters : (plain : ℕ → Bool) (spelling meaning : List ℕ) → Means plain spelling meaning → AreCharacters spelling → AreCharacters meaning
meaning_characters plain spelling meaning h are =
    subst (λ (t : List ℕ). AreCharacters t) (sym h.meant) (parts_mean plain h.parts [] h.each (subst (λ (t : List ℕ). AreCharacters t) h.spelled are))

-- ---- attributes

attr_starts : (spelling rest : List ℕ) (attr : Attr) → IsAttr spelling attr → StartsLow (spelling ++ rest)
attr_starts spelling rest attr h =
    let tail = attr.name ++ (h.left ++ (codes "=" ++ (h.right ++ (h.quote ∷ h.value ++ h.quote ∷ [])))) in
    subst (λ (s : List ℕ). StartsLow (s ++ rest)) (sym h.spelled) (begins h.before tail h.some_space h.spaces.0) where
      begins : (before tail : List ℕ) → 0 < length before → Each is_space before → StartsLow ((before ++ tail) ++ rest)
      begins [] tail some each = absurd (omega arith)
      begins (b ∷ bs) tail some each = space_low b each.0

quote_low : (q : ℕ) → (q ≡ 34) ⊎ (q ≡ 39) → q < 128
quote_low q (inl e) = omega arith
quote_low q (inr e) = omega arith

attr_lawful : (spelling : List ℕ) (attr : Attr) → IsAttr spelling attr → AreCharacters spelling → IsLawfulAttr attr
attr_lawful spelling attr h are =
    let value = h.value ++ h.quote ∷ [] in
    let right = h.right ++ (h.quote ∷ value) in
    let left = h.left ++ (61 ∷ right) in
    let named : AreCharacters (attr.name ++ left) = behind h.before (attr.name ++ left) (low_each is_space space_low h.before h.spaces.0) (subst (λ (t : List ℕ). AreCharacters t) h.spelled are) in
    let two = cut_low attr.name left (space_starts h.left (61 ∷ right) h.spaces.1 (lit< tt)) named in
    let signed = behind h.left (61 ∷ right) (low_each is_space space_low h.left h.spaces.1) two.1 in
    let after_sign = behind (61 ∷ []) right (lit< tt, tt) signed in
    let quoted = behind h.right (h.quote ∷ value) (low_each is_space space_low h.right h.spaces.2) after_sign in
    let after_quote = behind (h.quote ∷ []) value (quote_low h.quote h.quotes, tt) quoted in
    let in_quotes = AreCharacters-before h.value h.quote [] (quote_low h.quote h.quotes) after_quote in
    record { is_name = h.name; name = two.0; value = meaning_characters (is_plain h.quote) h.value attr.value h.means in_quotes.0 }

attrs_start : (spelling rest : List ℕ) (attrs : List Attr) → AreAttrs spelling attrs → StartsLow rest → StartsLow (spelling ++ rest)
attrs_start spelling rest [] h low = subst (λ (s : List ℕ). StartsLow (s ++ rest)) (sym h) low
attrs_start spelling rest (attr ∷ attrs) (front, back, parts, is_attr, are_attrs) low =
    subst StartsLow (sym (append_assoc front back rest) ∙ ap (λ (s : List ℕ). s ++ rest) (sym parts)) (attr_starts front (back ++ rest) attr is_attr)

attrs_lawful : (spelling : List ℕ) (attrs : List Attr) → AreAttrs spelling attrs → AreCharacters spelling → AllByRecursion IsLawfulAttr attrs
attrs_lawful spelling [] h are = tt
attrs_lawful spelling (attr ∷ attrs) (front, back, parts, is_attr, are_attrs) are =
    let starts : StartsLow back = subst StartsLow (append-nil back) (attrs_start back [] attrs are_attrs tt) in
    let two = cut_low front back starts (subst (λ (t : List ℕ). AreCharacters t) parts are) in
    (attr_lawful front attr is_attr two.0, attrs_lawful back attrs are_attrs two.1)

inside_starts : (spelling : List ℕ) (attrs : List Attr) (close : List ℕ) → IsInside spelling attrs close → StartsLow close → StartsLow spelling
inside_starts spelling attrs close h low = subst StartsLow (sym h.spelled) (attrs_start h.front (h.space ++ close) attrs h.attributes (space_starts h.space close h.white low))

-- ---- pieces

-- a name, and lawful attributes
pub record LawfulTag (name : List ℕ) (attrs : List Attr) : Type 0 where
  pub is_name : IsName name
  pub characters : AreCharacters name
  pub each : AllByRecursion IsLawfulAttr attrs
  pub names_differ : differ attrs ≡ true

abbrev pub LawfulPiece : Piece → Type 0
LawfulPiece (Start name attrs) = LawfulTag name attrs
LawfulPiece (Empty name attrs) = LawfulTag name attrs
LawfulPiece (End name) = Unit {0}
LawfulPiece Comment = Unit {0}
LawfulPiece (CData text) = AreCharacters text
LawfulPiece (Text text) = AreCharacters text

tag_lawful : (spelling name : List ℕ) (attrs : List Attr) (close : List ℕ) → StartsLow close → IsTag spelling name attrs close → AreCharacters spelling → LawfulTag name attrs
tag_lawful spelling name attrs close low h are =
    let named : AreCharacters (name ++ h.inside) = behind (codes "<") (name ++ h.inside) (lit< tt, tt) (subst (λ (t : List ℕ). AreCharacters t) h.spelled are) in
    let two = cut_low name h.inside (inside_starts h.inside attrs close h.is_inside low) named in
    let inside = h.is_inside in
    let three = cut_low inside.front (inside.space ++ close) (space_starts inside.space close inside.white low) (subst (λ (t : List ℕ). AreCharacters t) inside.spelled two.1) in
    record { is_name = h.is_name; characters = two.0; each = attrs_lawful inside.front attrs inside.attributes three.0; names_differ = inside.names_differ }

cdata_lawful : (spelling text : List ℕ) → IsCData spelling text → AreCharacters spelling → AreCharacters text
cdata_lawful spelling text h are =
    let body = behind (codes "<![CDATA[") (text ++ codes "]]>") (low_word (codes "<![CDATA[") refl) (subst (λ (t : List ℕ). AreCharacters t) h.spelled are) in
    (cut_low text (codes "]]>") (lit< tt) body).0

pub piece_lawful : (spelling : List ℕ) (piece : Piece) → IsPiece spelling piece → LawfulPiece piece
piece_lawful spelling (Start name attrs) h = tag_lawful spelling name attrs (codes ">") (lit< tt) h.spelled h.characters
piece_lawful spelling (Empty name attrs) h = tag_lawful spelling name attrs (codes "/>") (lit< tt) h.spelled h.characters
piece_lawful spelling (End name) h = tt
piece_lawful spelling Comment h = tt
piece_lawful spelling (CData text) h = cdata_lawful spelling text h.spelled h.characters
piece_lawful spelling (Text text) h = meaning_characters (is_plain 60) spelling text h.spelled.means h.characters
