-- Bytes as they are written: what they mean, and that they are characters.
use Rattle.std.proofs.Common.{◌≡◌, ℕ, ◌+◌, ◌/◌, ◌<◌, ◌≤◌, Bool, true, false, cond, not, ◌||◌, ◌&&◌, eqb, ltb, inl, inr, List, [], ◌∷◌, ◌++◌, codes, refl, sym, ap, subst, ◌∙◌, arith}
use Rattle.std.proofs.lemmas.Bool.{eqb-true, ne_eqb, ltb-true, and_parts}
use Rattle.std.proofs.lemmas.List.{append-nil}
use Rattle.std.proofs.lemmas.Str.{encode_ascii}
use Rattle.std.specs.List.{AllByRecursion}
use lib.Utf8.{encode, encodes, next}
use Rattle.e57_pieces.specs.Characters.{is_character, AreCharacters}
use Rattle.e57_pieces.specs.Words.{is_decimal, is_plain, numeral, numeral_from}
use Rattle.e57_pieces.specs.Grammar.{IsReference, IsPart, Means}
use Rattle.e57_pieces.proofs.Laws.Characters.{AreCharacters-append, AreCharacters-nil, tested}
use Rattle.e57_pieces.proofs.Laws.References.{Means-append, Means-nil, Means-part}
use Rattle.e57_elements.specs.Spelling.{text_byte, value_byte, written}
use Rattle.e57_elements.proofs.Writing.{written-append}

-- ---- what a byte means

none_of_three : (x y z : Bool) → x ≡ false → y ≡ false → z ≡ false → not (x || y || z) ≡ true
none_of_three true y z e f g = cc
none_of_three false true z e f g = cc
none_of_three false false true e f g = cc
none_of_three false false false e f g = refl

plain_byte : (quote b : ℕ) → eqb b 60 ≡ false → eqb b 38 ≡ false → eqb b quote ≡ false → is_plain quote b ≡ true
unfolding is_plain
plain_byte quote b e f g = none_of_three (eqb b 60) (eqb b 38) (eqb b quote) e f g

-- a reference by number, with two digits and with one
two_digits : (b d e : ℕ) → is_decimal d ≡ true → is_decimal e ≡ true → b ≡ numeral 10 (d ∷ e ∷ []) → is_character b ≡ true → IsReference (codes "&#" ++ (d ∷ e ∷ []) ++ codes ";") b
two_digits b d e f g is character =
    inr (inl (record { digits = d ∷ e ∷ []; each = (f, (g, tt)); some = omega arith; few = omega arith; value = is; character = character; spelled = refl }))

one_digit : (b d : ℕ) → is_decimal d ≡ true → b ≡ numeral 10 (d ∷ []) → is_character b ≡ true → IsReference (codes "&#" ++ (d ∷ []) ++ codes ";") b
one_digit b d f is character =
    inr (inl (record { digits = d ∷ []; each = (f, tt); some = omega arith; few = omega arith; value = is; character = character; spelled = refl }))

character_at : (b c : ℕ) → b ≡ c → is_character c ≡ true → is_character b ≡ true
character_at b c e h = ap is_character e ∙ h

return : (b : ℕ) → b ≡ 13 → IsReference (codes "&#13;") b
unfolding is_decimal is_character numeral_from
return b e = two_digits b 49 51 refl refl e (character_at b 13 e refl)

feed : (b : ℕ) → b ≡ 10 → IsReference (codes "&#10;") b
unfolding is_decimal is_character numeral_from
feed b e = two_digits b 49 48 refl refl e (character_at b 10 e refl)

tab : (b : ℕ) → b ≡ 9 → IsReference (codes "&#9;") b
unfolding is_decimal is_character numeral_from
tab b e = one_digit b 57 refl e (character_at b 9 e refl)

-- a reference to an ASCII character means its byte
refers : (plain : ℕ → Bool) (s : List ℕ) (b : ℕ) → b < 128 → IsReference s b → IsPart plain s (b ∷ [])
refers plain s b low is = inr (b, is, sym (encode_ascii b low))

text_case : (quote b : ℕ) (p q r s : Bool) → eqb b 38 ≡ p → eqb b 60 ≡ q → eqb b 62 ≡ r → eqb b 13 ≡ s → (eqb b 60 ≡ false → eqb b quote ≡ false)
    → IsPart (is_plain quote) (cond p (codes "&amp;") (cond q (codes "&lt;") (cond r (codes "&gt;") (cond s (codes "&#13;") (b ∷ []))))) (b ∷ [])
text_case quote b true q r s e f g h other = let is = eqb-true b 38 e in refers (is_plain quote) (codes "&amp;") b (omega arith) (inl (inr (inr (inl (refl, is)))))
text_case quote b false true r s e f g h other = let is = eqb-true b 60 f in refers (is_plain quote) (codes "&lt;") b (omega arith) (inl (inl (refl, is)))
text_case quote b false false true s e f g h other = let is = eqb-true b 62 g in refers (is_plain quote) (codes "&gt;") b (omega arith) (inl (inr (inl (refl, is))))
text_case quote b false false false true e f g h other = let is = eqb-true b 13 h in refers (is_plain quote) (codes "&#13;") b (omega arith) (return b is)
text_case quote b false false false false e f g h other = inl (b, plain_byte quote b f e (other f), refl, refl)

text_part : (quote b : ℕ) → (eqb b 60 ≡ false → eqb b quote ≡ false) → IsPart (is_plain quote) (text_byte b) (b ∷ [])
unfolding text_byte
text_part quote b other = text_case quote b (eqb b 38) (eqb b 60) (eqb b 62) (eqb b 13) refl refl refl refl other

value_case : (b : ℕ) (p q r : Bool) → eqb b 34 ≡ p → eqb b 9 ≡ q → eqb b 10 ≡ r
    → IsPart (is_plain 34) (cond p (codes "&quot;") (cond q (codes "&#9;") (cond r (codes "&#10;") (text_byte b)))) (b ∷ [])
value_case b true q r e f g = let is = eqb-true b 34 e in refers (is_plain 34) (codes "&quot;") b (omega arith) (inl (inr (inr (inr (inr (refl, is))))))
value_case b false true r e f g = let is = eqb-true b 9 f in refers (is_plain 34) (codes "&#9;") b (omega arith) (tab b is)
value_case b false false true e f g = let is = eqb-true b 10 g in refers (is_plain 34) (codes "&#10;") b (omega arith) (feed b is)
value_case b false false false e f g = text_part 34 b (λ h. e)

value_part : (b : ℕ) → IsPart (is_plain 34) (value_byte b) (b ∷ [])
unfolding value_byte
value_part b = value_case b (eqb b 34) (eqb b 9) (eqb b 10) refl refl refl

-- ---- what bytes mean

means : (plain : ℕ → Bool) (byte : ℕ → List ℕ) → ((b : ℕ) → IsPart plain (byte b) (b ∷ [])) → (bytes : List ℕ) → Means plain (written byte bytes) bytes
means plain byte part [] = Means-nil plain
means plain byte part (b ∷ bs) = Means-append plain (byte b) (b ∷ []) (written byte bs) bs (Means-part plain (byte b) (b ∷ []) (part b)) (means plain byte part bs)

pub text_means : (bytes : List ℕ) → Means (is_plain 60) (written text_byte bytes) bytes
text_means bytes = means (is_plain 60) text_byte (λ b. text_part 60 b (λ h. h)) bytes

pub value_means : (bytes : List ℕ) → Means (is_plain 34) (written value_byte bytes) bytes
value_means bytes = means (is_plain 34) value_byte value_part bytes

-- ---- characters

-- each byte is an ASCII character
unfoldable pub are_low : List ℕ → Bool
are_low [] = true
are_low (b ∷ bs) = (ltb b 128 && is_character b) && are_low bs

pub low_characters : (bytes : List ℕ) → are_low bytes ≡ true → AreCharacters bytes
unfolding are_low
low_characters [] h = AreCharacters-nil
low_characters (b ∷ bs) h =
    let both = and_parts (ltb b 128 && is_character b) (are_low bs) h in
    let first = and_parts (ltb b 128) (is_character b) both.0 in
    let later = low_characters bs both.1 in
    record {
      numbers = b ∷ later.numbers;
      each = (first.1, later.each);
      spelled = ap (λ t. t ++ encodes later.numbers) (encode_ascii b (ltb-true b 128 first.0)) ∙ ap (λ t. b ∷ t) later.spelled;
    }

one_character : (b : ℕ) → b < 128 → is_character b ≡ true → AreCharacters (b ∷ [])
one_character b low is = record { numbers = b ∷ []; each = (is, tt); spelled = ap (λ t. t ++ []) (encode_ascii b low) }

text_characters_case : (b : ℕ) (p q r s : Bool) → b < 128 → is_character b ≡ true → AreCharacters (cond p (codes "&amp;") (cond q (codes "&lt;") (cond r (codes "&gt;") (cond s (codes "&#13;") (b ∷ [])))))
unfolding are_low is_character
text_characters_case b true q r s low is = low_characters (codes "&amp;") refl
text_characters_case b false true r s low is = low_characters (codes "&lt;") refl
text_characters_case b false false true s low is = low_characters (codes "&gt;") refl
text_characters_case b false false false true low is = low_characters (codes "&#13;") refl
text_characters_case b false false false false low is = one_character b low is

text_byte_characters : (b : ℕ) → b < 128 → is_character b ≡ true → AreCharacters (text_byte b)
unfolding text_byte
text_byte_characters b low is = text_characters_case b (eqb b 38) (eqb b 60) (eqb b 62) (eqb b 13) low is

value_characters_case : (b : ℕ) (p q r : Bool) → b < 128 → is_character b ≡ true → AreCharacters (cond p (codes "&quot;") (cond q (codes "&#9;") (cond r (codes "&#10;") (text_byte b))))
unfolding are_low is_character
value_characters_case b true q r low is = low_characters (codes "&quot;") refl
value_characters_case b false true r low is = low_characters (codes "&#9;") refl
value_characters_case b false false true low is = low_characters (codes "&#10;") refl
value_characters_case b false false false low is = text_byte_characters b low is

value_byte_characters : (b : ℕ) → b < 128 → is_character b ≡ true → AreCharacters (value_byte b)
unfolding value_byte
value_byte_characters b low is = value_characters_case b (eqb b 34) (eqb b 9) (eqb b 10) low is

-- a byte past ASCII stands as it is
abbrev Keeps_high : (ℕ → List ℕ) → Type 0
Keeps_high byte = (b : ℕ) → 128 ≤ b → byte b ≡ b ∷ []

text_high : Keeps_high text_byte
unfolding text_byte
text_high b high = rw (ne_eqb b 38 (λ e. omega arith), ne_eqb b 60 (λ e. omega arith), ne_eqb b 62 (λ e. omega arith), ne_eqb b 13 (λ e. omega arith)) refl

value_high : Keeps_high value_byte
unfolding value_byte
value_high b high = rw (ne_eqb b 34 (λ e. omega arith), ne_eqb b 9 (λ e. omega arith), ne_eqb b 10 (λ e. omega arith)) (text_high b high)

kept_two : (byte : ℕ → List ℕ) → Keeps_high byte → (x y : ℕ) → 128 ≤ x → 128 ≤ y → written byte (x ∷ y ∷ []) ≡ x ∷ y ∷ []
kept_two byte keeps x y p q = rw (keeps x p, keeps y q) refl

kept_three : (byte : ℕ → List ℕ) → Keeps_high byte → (x y z : ℕ) → 128 ≤ x → 128 ≤ y → 128 ≤ z → written byte (x ∷ y ∷ z ∷ []) ≡ x ∷ y ∷ z ∷ []
kept_three byte keeps x y z p q r = rw (keeps x p, keeps y q, keeps z r) refl

kept_four : (byte : ℕ → List ℕ) → Keeps_high byte → (w x y z : ℕ) → 128 ≤ w → 128 ≤ x → 128 ≤ y → 128 ≤ z → written byte (w ∷ x ∷ y ∷ z ∷ []) ≡ w ∷ x ∷ y ∷ z ∷ []
kept_four byte keeps w x y z o p q r = rw (keeps w o, keeps x p, keeps y q, keeps z r) refl

past : (n : ℕ) → 128 ≤ next n
past n = omega arith

kept_case : (byte : ℕ → List ℕ) → Keeps_high byte → (c : ℕ) (q r : Bool)
    → written byte (cond q ((192 + c / 64) ∷ next c ∷ []) (cond r ((224 + c / 4096) ∷ next (c / 64) ∷ next c ∷ []) ((240 + c / 262144) ∷ next (c / 4096) ∷ next (c / 64) ∷ next c ∷ [])))
    ≡ cond q ((192 + c / 64) ∷ next c ∷ []) (cond r ((224 + c / 4096) ∷ next (c / 64) ∷ next c ∷ []) ((240 + c / 262144) ∷ next (c / 4096) ∷ next (c / 64) ∷ next c ∷ []))
kept_case byte keeps c true r = kept_two byte keeps (192 + c / 64) (next c) (omega arith) (past c)
kept_case byte keeps c false true = kept_three byte keeps (224 + c / 4096) (next (c / 64)) (next c) (omega arith) (past (c / 64)) (past c)
kept_case byte keeps c false false = kept_four byte keeps (240 + c / 262144) (next (c / 4096)) (next (c / 64)) (next c) (omega arith) (past (c / 4096)) (past (c / 64)) (past c)

high_test : (p : Bool) (x y : List ℕ) → p ≡ false → cond p x y ≡ y
high_test true x y e = cc
high_test false x y e = refl

kept_character : (byte : ℕ → List ℕ) → Keeps_high byte → (c : ℕ) → ltb c 128 ≡ false → written byte (encode c) ≡ encode c
unfolding encode
kept_character byte keeps c high =
    let two = cond (ltb c 2048) ((192 + c / 64) ∷ next c ∷ []) (cond (ltb c 65536) ((224 + c / 4096) ∷ next (c / 64) ∷ next c ∷ []) ((240 + c / 262144) ∷ next (c / 4096) ∷ next (c / 64) ∷ next c ∷ [])) in
    let e : cond (ltb c 128) (c ∷ []) two ≡ two = high_test (ltb c 128) (c ∷ []) two high in
    ap (written byte) e ∙ kept_case byte keeps c (ltb c 2048) (ltb c 65536) ∙ sym e

abbrev Low_characters : (ℕ → List ℕ) → Type 0
Low_characters byte = (b : ℕ) → b < 128 → is_character b ≡ true → AreCharacters (byte b)

character_characters : (byte : ℕ → List ℕ) → Keeps_high byte → Low_characters byte → (c : ℕ) → is_character c ≡ true → AreCharacters (written byte (encode c))
character_characters byte keeps low c is =
    elim (tested (ltb c 128)) [
      | inl small ↦ let lt = ltb-true c 128 small in subst (λ t. AreCharacters t) (sym (ap (written byte) (encode_ascii c lt) ∙ append-nil (byte c))) (low c lt is)
      | inr high ↦ subst (λ t. AreCharacters t) (sym (kept_character byte keeps c high)) (record { numbers = c ∷ []; each = (is, tt); spelled = append-nil (encode c) })
    ]

characters_of : (byte : ℕ → List ℕ) → Keeps_high byte → Low_characters byte → (cs : List ℕ) → AllByRecursion (λ c. is_character c ≡ true) cs → AreCharacters (written byte (encodes cs))
characters_of byte keeps low [] each = AreCharacters-nil
characters_of byte keeps low (c ∷ cs) each =
    subst (λ t. AreCharacters t) (sym (written-append byte (encode c) (encodes cs)))
    (AreCharacters-append (written byte (encode c)) (written byte (encodes cs)) (character_characters byte keeps low c each.0) (characters_of byte keeps low cs each.1))

pub text_characters : (bytes : List ℕ) → AreCharacters bytes → AreCharacters (written text_byte bytes)
text_characters bytes are = subst (λ t. AreCharacters (written text_byte t)) are.spelled (characters_of text_byte text_high text_byte_characters are.numbers are.each)

pub value_characters : (bytes : List ℕ) → AreCharacters bytes → AreCharacters (written value_byte bytes)
value_characters bytes are = subst (λ t. AreCharacters (written value_byte t)) are.spelled (characters_of value_byte value_high value_byte_characters are.numbers are.each)
