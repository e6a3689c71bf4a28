-- A file of some whole pages of sections and a text: its pages are right, its header is read again, and its XML section is the text.
use Rattle.std.specs.Prelude.{◌≡◌, ℕ, zero, suc, ◌+◌, ◌-◌, ◌*◌, ◌/◌, ◌%◌, ◌^◌, ◌<◌, ◌≤◌, ◌==◌, ◌||◌, Bool, true, false, List, ◌++◌, length, take, drop, replicate, reverse, None, bit_xor}
use Rattle.std.proofs.Common.{refl, sym, ap, subst, ◌∙◌, arith, append_assoc, eq-eqb, le-ltb, ne_eqb, lit<, lit≤, length-append, length-drop}
use Rattle.std.proofs.lemmas.Nat.{xor_lt}
use Rattle.std.proofs.lemmas.List.{length-replicate, length-take-le, take_at, drop_at, drop-drop, reverse-reverse}
use Rattle.e57_bits.specs.Bits.{bit, number, le}
use Rattle.e57_bits.proofs.BitLaws.{bit-lt}
use Rattle.e57_base.specs.Source.{page_of}
use Rattle.e57_crc.specs.Crc.{shifted, register, crc, is_right}
use Rattle.e57_layout.specs.Bytes.{low_bytes}
use Rattle.e57_layout.specs.Standing.{Stands}
use Rattle.e57_layout.proofs.Laws.Numbers.{length-low_bytes, number-low_bytes_all}
use Rattle.e57_layout.proofs.Laws.Standing.{Stands-here}
use Rattle.e57_layout.proofs.Laws.Written.{physical_is}
use Rattle.e57_layout.specs.Written.{physical}
use Rattle.e57_page.specs.declared.header.Header.{Header}
use Rattle.e57_page.specs.Header.{header_fault, header_of}
use Rattle.e57_page.specs.File.{length_fault, logical}
use Rattle.e57_page.proofs.FileLaws.{page_fault-right}
use Rattle.e57_page.specs.XmlSection.{xml_place_fault, xml_limit_fault, xml_span_fault, xml_text, xml_start}
use Rattle.e57_page_out.specs.Sealed.{page_bytes, sealed, filled, pages_for}
use Rattle.e57_page_out.proofs.SealedLaws.{page_bytes-is, length-page_bytes, take-page_bytes, sealed-suc, length-sealed, logical-sealed}
use Rattle.e57_page_out.specs.HeaderBytes.{header_bytes}
use Rattle.e57_page_out.proofs.HeaderLaws.{length-header_bytes, header_of-written, header_fault-written}
use Rattle.e57_cloud.proofs.Laws.Spans.{pages-right}
use Rattle.e57_cloud.specs.Written.{AreRight}
use Rattle.e57_cloud.proofs.Laws.Indexes.{place-physical}
use Rattle.e57_verdict.specs.Verdict.{fault_before_text, xml_text_of}
use Rattle.e57_plain.specs.Written.{whole_pages, xml_page, page_count, file_header, finished_bytes, finished}

-- ---- checksums have 32 bits

register-small : (b : List ℕ) (t : ℕ) → register b t < 2 ^ 32
unfolding register shifted
register-small b zero = lit< tt
register-small b (suc t) =
    let before = register-small b t in
    let lowest : register b t % 2 < 2 ^ 1 = omega arith in
    let x = xor_lt 1 (register b t % 2) (bit b t) lowest (bit-lt b t) in
    xor_lt 32 (register b t / 2) (bit_xor (register b t % 2) (bit b t) * 0x82F6_3B78) (omega arith) (omega arith)

crc-small : (b : List ℕ) → crc b < 2 ^ 32
unfolding crc
crc-small b = xor_lt 32 (register b (8 * length b)) 0xFFFF_FFFF (register-small b (8 * length b)) (lit< tt)

-- ---- sealed pages are right

le-word : (n : ℕ) → n < 2 ^ 32 → le (low_bytes 4 n) ≡ n
unfolding le
le-word n small = ap (λ k. number (low_bytes 4 n) 0 (8 * k)) (length-low_bytes 4 n) ∙ number-low_bytes_all 4 n small

sealed-word : (p : List ℕ) → length p ≡ 1020 → is_right (page_bytes p) ≡ true
unfolding is_right
sealed-word p size =
    let word : drop 1020 (page_bytes p) ≡ reverse (low_bytes 4 (crc p)) = ap (drop 1020) (page_bytes-is p) ∙ drop_at p (reverse (low_bytes 4 (crc p))) 1020 size in
    let turned : le (reverse (drop 1020 (page_bytes p))) ≡ crc p = ap (λ (w : List ℕ). le (reverse w)) word ∙ ap le (reverse-reverse (low_bytes 4 (crc p))) ∙ le-word (crc p) (crc-small p) in
    let same : (le (reverse (drop 1020 (page_bytes p))) == crc (take 1020 (page_bytes p))) ≡ true = eq-eqb (le (reverse (drop 1020 (page_bytes p)))) (crc (take 1020 (page_bytes p))) (turned ∙ ap crc (sym (take-page_bytes p size))) in
    ap (λ t. (le (drop 1020 (page_bytes p)) == crc (take 1020 (page_bytes p))) || t) same ∙ or-true (le (drop 1020 (page_bytes p)) == crc (take 1020 (page_bytes p)))
  where
    or-true : (a : Bool) → (a || true) ≡ true
    or-true true = refl
    or-true false = refl

page_of-sealed : (n k : ℕ) (b : List ℕ) → length b ≡ 1020 * n → k < n → page_of (sealed n b) k ≡ page_bytes (take 1020 (drop (1020 * k) b))
page_of-sealed zero k b size below = absurd (omega arith)
page_of-sealed (suc n) zero b size below =
    rw (sealed-suc n b) (take_at (page_bytes (take 1020 b)) (sealed n (drop 1020 b)) 1024 (length-page_bytes (take 1020 b) (length-take-le 1020 b (omega arith))))
page_of-sealed (suc n) (suc k) b size below =
    let first = length-page_bytes (take 1020 b) (length-take-le 1020 b (omega arith)) in
    let place : 1024 * suc k ≡ 1024 + 1024 * k = omega arith in
    let place_too : 1020 * suc k ≡ 1020 + 1020 * k = omega arith in
    let rest : length (drop 1020 b) ≡ 1020 * n = rw length-drop (omega arith) in
    rw (sealed-suc n b, place, place_too, ← drop-drop (1024 * k) 1024 (page_bytes (take 1020 b) ++ sealed n (drop 1020 b)), ← drop-drop (1020 * k) 1020 b, drop_at (page_bytes (take 1020 b)) (sealed n (drop 1020 b)) 1024 first)
    (page_of-sealed n k (drop 1020 b) rest (omega arith))

pub sealed-right : (n : ℕ) (b : List ℕ) → length b ≡ 1020 * n → AreRight (sealed n b)
sealed-right n b size k below =
    let all = length-sealed n b size in
    let fits : k < n = omega arith in
    let long : length (take 1020 (drop (1020 * k) b)) ≡ 1020 = length-take-le 1020 (drop (1020 * k) b) (rw length-drop (omega arith)) in
    page_fault-right (sealed n b) k (ap is_right (page_of-sealed n k b size fits) ∙ sealed-word (take 1020 (drop (1020 * k) b)) long)

-- ---- whole pages

pub whole_pages-is : (b : List ℕ) → whole_pages b ≡ b ++ replicate (1020 * pages_for (length b) - length b) 0
unfolding whole_pages filled
whole_pages-is b = refl

pub length-whole_pages : (b : List ℕ) → length (whole_pages b) ≡ 1020 * pages_for (length b)
unfolding whole_pages filled pages_for
length-whole_pages b = rw (length-append, length-replicate) (omega arith)

pub pages_for-small : (n : ℕ) → 0 < n → n ≤ 1020 → pages_for n ≡ 1
unfolding pages_for
pages_for-small n some small = omega arith

pub le-pages_for : (n : ℕ) → n ≤ 1020 * pages_for n
unfolding pages_for
le-pages_for n = omega arith

-- ---- the file of some sections and a text

-- whole pages of sections
abbrev pub AreWhole : List ℕ → Type 0
AreWhole sections = length sections % 1020 ≡ 0

xml_page-is : (sections : List ℕ) → AreWhole sections → 1020 * xml_page sections ≡ 1020 + length sections
unfolding xml_page
xml_page-is sections whole = omega arith

page_count-is : (sections text : List ℕ) → page_count sections text ≡ xml_page sections + pages_for (length text)
unfolding page_count
page_count-is sections text = refl

header_page : (h : Header) → length (whole_pages (header_bytes h)) ≡ 1020
header_page h = length-whole_pages (header_bytes h) ∙ ap (λ n. 1020 * pages_for n) (length-header_bytes h) ∙ ap (λ n. 1020 * n) (pages_for-small 48 (lit< tt) (lit≤ tt))

pub finished_bytes-is : (sections text : List ℕ) → finished_bytes sections text ≡ whole_pages (header_bytes (file_header sections text)) ++ (sections ++ whole_pages text)
unfolding finished_bytes
finished_bytes-is sections text = refl

length-finished_bytes : (sections text : List ℕ) → AreWhole sections → length (finished_bytes sections text) ≡ 1020 * page_count sections text
length-finished_bytes sections text whole =
    let first = header_page (file_header sections text) in
    let page = xml_page-is sections whole in
    let last = length-whole_pages text in
    rw (finished_bytes-is sections text, page_count-is sections text, length-append, first, length-append, last) (omega arith)

pub length-finished : (sections text : List ℕ) → AreWhole sections → length (finished sections text) ≡ 1024 * page_count sections text
unfolding finished
length-finished sections text whole = length-sealed (page_count sections text) (finished_bytes sections text) (length-finished_bytes sections text whole)

pub logical-finished : (sections text : List ℕ) → AreWhole sections → logical (finished sections text) ≡ finished_bytes sections text
unfolding finished
logical-finished sections text whole = logical-sealed (page_count sections text) (finished_bytes sections text) (length-finished_bytes sections text whole)

pub finished-right : (sections text : List ℕ) → AreWhole sections → AreRight (finished sections text)
unfolding finished
finished-right sections text whole = sealed-right (page_count sections text) (finished_bytes sections text) (length-finished_bytes sections text whole)

-- the sections stand behind page 0, and the text behind them
pub finished-sections : (sections text : List ℕ) → AreWhole sections → Stands (logical (finished sections text)) 1020 sections
finished-sections sections text whole =
    let first = header_page (file_header sections text) in
    rw (logical-finished sections text whole, finished_bytes-is sections text)
    (subst (λ (q : ℕ). Stands (whole_pages (header_bytes (file_header sections text)) ++ (sections ++ whole_pages text)) q sections) first
    (Stands-here (whole_pages (header_bytes (file_header sections text))) sections (whole_pages text)))

finished-text : (sections text : List ℕ) → AreWhole sections → Stands (logical (finished sections text)) (1020 * xml_page sections) text
finished-text sections text whole =
    let first = header_page (file_header sections text) in
    let before : length (whole_pages (header_bytes (file_header sections text)) ++ sections) ≡ 1020 * xml_page sections = rw (length-append, first) (sym (xml_page-is sections whole)) in
    let parts : logical (finished sections text) ≡ (whole_pages (header_bytes (file_header sections text)) ++ sections) ++ (text ++ replicate (1020 * pages_for (length text) - length text) 0) =
    logical-finished sections text whole ∙ finished_bytes-is sections text
    ∙ ap (λ (xs : List ℕ). whole_pages (header_bytes (file_header sections text)) ++ (sections ++ xs)) (whole_pages-is text)
    ∙ sym (append_assoc (whole_pages (header_bytes (file_header sections text))) sections (text ++ replicate (1020 * pages_for (length text) - length text) 0)) in
    rw parts
    (subst (λ (q : ℕ). Stands ((whole_pages (header_bytes (file_header sections text)) ++ sections) ++ (text ++ replicate (1020 * pages_for (length text) - length text) 0)) q text) before
    (Stands-here (whole_pages (header_bytes (file_header sections text)) ++ sections) text (replicate (1020 * pages_for (length text) - length text) 0)))

-- ---- its header

-- The file begins with its header.
pub record Begins (sections text : List ℕ) : Type 0 where
  pub rest : List ℕ
  pub is : finished sections text ≡ header_bytes (file_header sections text) ++ rest

finished-begins : (sections text : List ℕ) → AreWhole sections → Begins sections text
unfolding finished page_count xml_page
finished-begins sections text whole =
    let count : page_count sections text ≡ suc (length sections / 1020 + pages_for (length text)) = omega arith in
    let h = file_header sections text in
    let zeros = replicate (1020 * pages_for (length (header_bytes h)) - length (header_bytes h)) 0 in
    let page : take 1020 (finished_bytes sections text) ≡ header_bytes h ++ zeros =
    ap (take 1020) (finished_bytes-is sections text) ∙ take_at (whole_pages (header_bytes h)) (sections ++ whole_pages text) 1020 (header_page h) ∙ whole_pages-is (header_bytes h) in
    let word = reverse (low_bytes 4 (crc (header_bytes h ++ zeros))) in
    let later = sealed (length sections / 1020 + pages_for (length text)) (drop 1020 (finished_bytes sections text)) in
    record {
      rest = zeros ++ (word ++ later);
      is =
          ap (λ n. sealed n (finished_bytes sections text)) count
          ∙ sealed-suc (length sections / 1020 + pages_for (length text)) (finished_bytes sections text)
          ∙ ap (λ (p : List ℕ). page_bytes p ++ later) page
          ∙ ap (λ (p : List ℕ). p ++ later) (page_bytes-is (header_bytes h ++ zeros))
          ∙ append_assoc (header_bytes h ++ zeros) word later
          ∙ append_assoc (header_bytes h) zeros (word ++ later);
    }

-- the file is within the format's limits
pub record IsWithin (sections text : List ℕ) : Type 0 where
  pub text_fits : length text ≤ 2 ^ 26
  pub file_fits : length (finished sections text) ≤ 2 ^ 48

-- the numbers of the header
pub record AreSmall (h : Header) : Type 0 where
  pub length : h.length < 2 ^ 64
  pub xml_place : h.xml_place < 2 ^ 64
  pub xml_length : h.xml_length < 2 ^ 64

header-small : (sections text : List ℕ) → AreWhole sections → IsWithin sections text → AreSmall (file_header sections text)
unfolding file_header page_count
header-small sections text whole is =
    let all = length-finished sections text whole in
    let few = is.file_fits in
    let short = is.text_fits in
    let place = physical_is (1020 * xml_page sections) in
    record { length = omega arith; xml_place = omega arith; xml_length = omega arith }

pub finished-header : (sections text : List ℕ) → AreWhole sections → IsWithin sections text → header_of (finished sections text) ≡ file_header sections text
finished-header sections text whole is =
    let begins = finished-begins sections text whole in
    let small = header-small sections text whole is in
    ap header_of begins.is ∙ header_of-written (file_header sections text) begins.rest small.length small.xml_place small.xml_length

finished-header_fault : (sections text : List ℕ) → AreWhole sections → IsWithin sections text → header_fault (finished sections text) (length (finished sections text)) ≡ None
unfolding file_header
finished-header_fault sections text whole is =
    let begins = finished-begins sections text whole in
    let small = header-small sections text whole is in
    let size : length (finished sections text) ≡ (file_header sections text).length = length-finished sections text whole in
    ap (λ n. header_fault (finished sections text) n) size
    ∙ ap (λ (file : List ℕ). header_fault file (file_header sections text).length) begins.is
    ∙ header_fault-written (file_header sections text) begins.rest small.length

-- ---- no fault before the text

length-none : (n : ℕ) → 0 < n → n % 1024 ≡ 0 → n ≤ 2 ^ 48 → length_fault n ≡ None
unfolding length_fault
length-none n some whole most = rw (ne_eqb n 0 (λ zero. omega arith), eq-eqb (n % 1024) 0 whole, le-ltb (2 ^ 48) n most) refl

span-none : (h : Header) (q size : ℕ) → h.xml_place ≡ physical q → q + h.xml_length ≤ size → h.xml_length ≤ 2 ^ 26 → xml_span_fault h size ≡ None
unfolding xml_place_fault xml_limit_fault
span-none h q size at inside few = rw (at, place-physical q, le-ltb size (q + h.xml_length) inside, le-ltb (2 ^ 26) h.xml_length few) refl

header-place : (sections text : List ℕ) → (file_header sections text).xml_place ≡ physical (1020 * xml_page sections)
unfolding file_header
header-place sections text = refl

header-length : (sections text : List ℕ) → (file_header sections text).xml_length ≡ length text
unfolding file_header
header-length sections text = refl

pub finished-sound : (sections text : List ℕ) → AreWhole sections → IsWithin sections text → fault_before_text (finished sections text) ≡ None
unfolding fault_before_text page_count
finished-sound sections text whole is =
    let file = finished sections text in
    let size : length file ≡ 1024 * (xml_page sections + pages_for (length text)) = length-finished sections text whole in
    let pages = xml_page-is sections whole in
    let room = le-pages_for (length text) in
    let few : length text ≤ 2 ^ 26 = is.text_fits in
    let a = length-none (length file) (omega arith) (omega arith) is.file_fits in
    let b = finished-header_fault sections text whole is in
    let c = pages-right file 0 (length file / 1024) (finished-right sections text whole) (omega arith) in
    let inside : 1020 * xml_page sections + (file_header sections text).xml_length ≤ length file / 1024 * 1020 = rw (header-length sections text) (omega arith) in
    let short : (file_header sections text).xml_length ≤ 2 ^ 26 = rw (header-length sections text) few in
    let d = span-none (file_header sections text) (1020 * xml_page sections) (length file / 1024 * 1020) (header-place sections text) inside short in
    rw (a, b, c, finished-header sections text whole is, d) refl

start-of : (h : Header) (q : ℕ) → h.xml_place ≡ physical q → xml_start h ≡ q
start-of h q at = rw (at, place-physical q) refl

-- the text of the XML section
pub finished-text_of : (sections text : List ℕ) → AreWhole sections → IsWithin sections text → xml_text_of (finished sections text) ≡ text
finished-text_of sections text whole is =
    let file = finished sections text in
    let start = start-of (file_header sections text) (1020 * xml_page sections) (header-place sections text) in
    ap (λ (h : Header). xml_text h file) (finished-header sections text whole is)
    ∙ ap (λ n. take n (drop (xml_start (file_header sections text)) (logical file))) (header-length sections text)
    ∙ ap (λ q. take (length text) (drop q (logical file))) start
    ∙ finished-text sections text whole
