-- Laws of the header as it is written: it is read again.
use Rattle.std.proofs.Common.{◌≡◌, ℕ, ◌+◌, ◌*◌, ◌^◌, ◌<◌, List, ◌++◌, length, codes, None, refl, sym, ap, ◌∙◌, arith, lit<, eq-eqb}
use Rattle.std.proofs.lemmas.List.{append_assoc, length-append, take_at, drop_at}
use Rattle.e57_bits.specs.Bits.{number}
use Rattle.e57_bits.proofs.BitLaws.{number-take, number-drop}
use Rattle.e57_layout.specs.Bytes.{low_bytes}
use Rattle.e57_layout.proofs.Laws.Numbers.{length-low_bytes, number-low_bytes_all}
use Rattle.e57_page.specs.declared.header.Header.{Header}
use Rattle.e57_page.specs.Header.{header_fault, header_of}
use Rattle.e57_page_out.specs.HeaderBytes.{header_bytes}

-- the header, and what stands behind it
abbrev before : Header → List ℕ → List ℕ
before h rest =
    codes "ASTM-E57"
    ++ (low_bytes 4 1 ++ (low_bytes 4 0 ++ (low_bytes 8 h.length ++ (low_bytes 8 h.xml_place ++ (low_bytes 8 h.xml_length ++ (low_bytes 8 1024 ++ rest))))))

before-is : (h : Header) (rest : List ℕ) → header_bytes h ++ rest ≡ before h rest
unfolding header_bytes
before-is h rest =
    seven (codes "ASTM-E57") (low_bytes 4 1) (low_bytes 4 0) (low_bytes 8 h.length) (low_bytes 8 h.xml_place) (low_bytes 8 h.xml_length) (low_bytes 8 1024) rest
  where
    seven : (a b c d e f g z : List ℕ) → a ++ (b ++ (c ++ (d ++ (e ++ (f ++ g))))) ++ z ≡ a ++ (b ++ (c ++ (d ++ (e ++ (f ++ (g ++ z))))))
    seven a b c d e f g z =
        rw (
          append_assoc a (b ++ (c ++ (d ++ (e ++ (f ++ g))))) z,
          append_assoc b (c ++ (d ++ (e ++ (f ++ g)))) z,
          append_assoc c (d ++ (e ++ (f ++ g))) z,
          append_assoc d (e ++ (f ++ g)) z,
          append_assoc e (f ++ g) z,
          append_assoc f g z,
        ) refl

pub length-header_bytes : (h : Header) → length (header_bytes h) ≡ 48
unfolding header_bytes
length-header_bytes h =
    rw (
      length-append (low_bytes 4 1) (low_bytes 4 0 ++ (low_bytes 8 h.length ++ (low_bytes 8 h.xml_place ++ (low_bytes 8 h.xml_length ++ low_bytes 8 1024)))),
      length-append (low_bytes 4 0) (low_bytes 8 h.length ++ (low_bytes 8 h.xml_place ++ (low_bytes 8 h.xml_length ++ low_bytes 8 1024))),
      length-append (low_bytes 8 h.length) (low_bytes 8 h.xml_place ++ (low_bytes 8 h.xml_length ++ low_bytes 8 1024)),
      length-append (low_bytes 8 h.xml_place) (low_bytes 8 h.xml_length ++ low_bytes 8 1024),
      length-append (low_bytes 8 h.xml_length) (low_bytes 8 1024),
      length-low_bytes 4 1,
      length-low_bytes 4 0,
      length-low_bytes 8 h.length,
      length-low_bytes 8 h.xml_place,
      length-low_bytes 8 h.xml_length,
      length-low_bytes 8 1024,
    ) refl

-- a number behind n bytes
skipped : (front rest : List ℕ) (n s t w : ℕ) → length front ≡ n → s ≡ 8 * n + t → number (front ++ rest) s w ≡ number rest t w
skipped front rest n s t w size place = ap (λ i. number (front ++ rest) i w) place ∙ sym (number-drop (front ++ rest) n t w) ∙ ap (λ (xs : List ℕ). number xs t w) (drop_at front rest n size)

-- the first number
found : (k n : ℕ) (rest : List ℕ) → n < 2 ^ (8 * k) → number (low_bytes k n ++ rest) 0 (8 * k) ≡ n
found k n rest below =
    sym (number-take (low_bytes k n ++ rest) k 0 (8 * k) (omega arith))
    ∙ ap (λ (xs : List ℕ). number xs 0 (8 * k)) (take_at (low_bytes k n) rest k (length-low_bytes k n))
    ∙ number-low_bytes_all k n below

module _ (h : Header) (rest : List ℕ) where
  abbrev size_of : List ℕ
  size_of = low_bytes 8 1024 ++ rest

  abbrev text_of : List ℕ
  text_of = low_bytes 8 h.xml_length ++ size_of

  abbrev place_of : List ℕ
  place_of = low_bytes 8 h.xml_place ++ text_of

  abbrev length_of : List ℕ
  length_of = low_bytes 8 h.length ++ place_of

  abbrev minor_of : List ℕ
  minor_of = low_bytes 4 0 ++ length_of

  abbrev major_of : List ℕ
  major_of = low_bytes 4 1 ++ minor_of

  -- from the major version on
  tail : (t w : ℕ) → number (before h rest) (64 + t) w ≡ number major_of t w
  tail t w = skipped (codes "ASTM-E57") major_of 8 (64 + t) t w refl (omega arith)

  -- from the length on
  numbers : (t w : ℕ) → number (before h rest) (128 + t) w ≡ number length_of t w
  numbers t w =
      ap (λ i. number (before h rest) i w) (turn t)
      ∙ tail (64 + t) w
      ∙ skipped (low_bytes 4 1) minor_of 4 (64 + t) (32 + t) w (length-low_bytes 4 1) (omega arith)
      ∙ skipped (low_bytes 4 0) length_of 4 (32 + t) t w (length-low_bytes 4 0) (omega arith)
    where
      turn : (t : ℕ) → 128 + t ≡ 64 + (64 + t)
      turn t = omega arith

  major_is : number (before h rest) 64 32 ≡ 1
  major_is = tail 0 32 ∙ found 4 1 minor_of (lit< tt)

  minor_is : number (before h rest) 96 32 ≡ 0
  minor_is = tail 32 32 ∙ skipped (low_bytes 4 1) minor_of 4 32 0 32 (length-low_bytes 4 1) refl ∙ found 4 0 length_of (lit< tt)

  length_is : h.length < 2 ^ 64 → number (before h rest) 128 64 ≡ h.length
  length_is below = numbers 0 64 ∙ found 8 h.length place_of below

  place_is : h.xml_place < 2 ^ 64 → number (before h rest) 192 64 ≡ h.xml_place
  place_is below =
      numbers 64 64 ∙ skipped (low_bytes 8 h.length) place_of 8 64 0 64 (length-low_bytes 8 h.length) refl ∙ found 8 h.xml_place text_of below

  text_is : h.xml_length < 2 ^ 64 → number (before h rest) 256 64 ≡ h.xml_length
  text_is below =
      numbers 128 64
      ∙ skipped (low_bytes 8 h.length) place_of 8 128 64 64 (length-low_bytes 8 h.length) refl
      ∙ skipped (low_bytes 8 h.xml_place) text_of 8 64 0 64 (length-low_bytes 8 h.xml_place) refl
      ∙ found 8 h.xml_length size_of below

  size_is : number (before h rest) 320 64 ≡ 1024
  size_is =
      numbers 192 64
      ∙ skipped (low_bytes 8 h.length) place_of 8 192 128 64 (length-low_bytes 8 h.length) refl
      ∙ skipped (low_bytes 8 h.xml_place) text_of 8 128 64 64 (length-low_bytes 8 h.xml_place) refl
      ∙ skipped (low_bytes 8 h.xml_length) size_of 8 64 0 64 (length-low_bytes 8 h.xml_length) refl
      ∙ found 8 1024 rest (lit< tt)

  -- it is read as what was written
  pub header_of-written : h.length < 2 ^ 64 → h.xml_place < 2 ^ 64 → h.xml_length < 2 ^ 64 → header_of (header_bytes h ++ rest) ≡ h
  header_of-written a b c = rw (before-is h rest, length_is a, place_is b, text_is c) refl

  -- it has no fault for its own length
  pub header_fault-written : h.length < 2 ^ 64 → header_fault (header_bytes h ++ rest) h.length ≡ None
  unfolding header_fault
  header_fault-written a =
      rw (before-is h rest, major_is, minor_is, length_is a, size_is, eq-eqb h.length h.length refl) refl
