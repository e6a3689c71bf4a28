-- Laws of pages with their checksum words: their length, their logical bytes, and pages behind pages.
use Rattle.std.proofs.Common.{◌≡◌, ℕ, zero, suc, ◌+◌, ◌*◌, ◌/◌, ◌≤◌, List, [], ◌++◌, length, take, drop, reverse, refl, sym, ap, ◌∙◌, arith, zero-add, lit≤}
use Rattle.std.specs.List.{flat_map, range_with_len}
use Rattle.std.proofs.lemmas.List.{append_assoc, append-nil, length-append, length-take-le, length-drop, length-reverse, take_at, drop_at, take-take, take-append-le, drop-append-le, drop-drop, take-append-drop, nil_from_length}
use Rattle.e57_crc.specs.Crc.{crc}
use Rattle.e57_layout.specs.Bytes.{low_bytes}
use Rattle.e57_layout.proofs.Laws.Numbers.{length-low_bytes}
use Rattle.e57_page.specs.File.{payload, logical}
use Rattle.e57_page_out.specs.Sealed.{page_bytes, sealed}

pub page_bytes-is : (p : List ℕ) → page_bytes p ≡ p ++ reverse (low_bytes 4 (crc p))
unfolding page_bytes
page_bytes-is p = refl

pub length-page_bytes : (p : List ℕ) → length p ≡ 1020 → length (page_bytes p) ≡ 1024
unfolding page_bytes
length-page_bytes p size = omega (arith, length-append p (reverse (low_bytes 4 (crc p))), length-reverse (low_bytes 4 (crc p)), length-low_bytes 4 (crc p))

pub take-page_bytes : (p : List ℕ) → length p ≡ 1020 → take 1020 (page_bytes p) ≡ p
unfolding page_bytes
take-page_bytes p size = take_at p (reverse (low_bytes 4 (crc p))) 1020 size

pub sealed-zero : (b : List ℕ) → sealed 0 b ≡ []
unfolding sealed
sealed-zero b = refl

pub sealed-suc : (n : ℕ) (b : List ℕ) → sealed (suc n) b ≡ page_bytes (take 1020 b) ++ sealed n (drop 1020 b)
unfolding sealed
sealed-suc n b = refl

-- the first payload of some
first_payload : (n : ℕ) (b : List ℕ) → length b ≡ 1020 * suc n → length (take 1020 b) ≡ 1020
first_payload n b size = length-take-le 1020 b (omega arith)

later_payloads : (n : ℕ) (b : List ℕ) → length b ≡ 1020 * suc n → length (drop 1020 b) ≡ 1020 * n
later_payloads n b size = rw length-drop (omega arith)

pub length-sealed : (n : ℕ) (b : List ℕ) → length b ≡ 1020 * n → length (sealed n b) ≡ 1024 * n
length-sealed zero b size = rw (sealed-zero b) refl
length-sealed (suc n) b size =
    let first = length-page_bytes (take 1020 b) (first_payload n b size) in
    let rest = length-sealed n (drop 1020 b) (later_payloads n b size) in
    rw (sealed-suc n b, length-append (page_bytes (take 1020 b)) (sealed n (drop 1020 b)), first, rest) (omega arith)

-- pages and then others
pub sealed-append : (k m : ℕ) (b c : List ℕ) → length b ≡ 1020 * k → sealed (k + m) (b ++ c) ≡ sealed k b ++ sealed m c
sealed-append zero m b c size =
    let none : b ≡ [] = nil_from_length b size in
    rw (none, zero-add, sealed-zero []) refl
sealed-append (suc k) m b c size =
    let count : suc k + m ≡ suc (k + m) = omega arith in
    let fits : 1020 ≤ length b = omega arith in
    rw (
      count,
      sealed-suc (k + m) (b ++ c),
      sealed-suc k b,
      take-append-le 1020 b c fits,
      drop-append-le 1020 b c fits,
      sealed-append k m (drop 1020 b) c (later_payloads k b size),
      append_assoc (page_bytes (take 1020 b)) (sealed k (drop 1020 b)) (sealed m c),
    ) refl

-- one page
pub sealed-one : (p : List ℕ) → length p ≡ 1020 → sealed 1 p ≡ page_bytes p
sealed-one p size =
    let whole : take 1020 p ≡ p = ap (take 1020) (sym (append-nil p)) ∙ take_at p [] 1020 size in
    rw (sealed-suc 0 p, sealed-zero (drop 1020 p), append-nil (page_bytes (take 1020 p)), whole) refl

-- the payloads of n pages, one after another
payloads : ℕ → List ℕ → List ℕ
payloads zero file = []
payloads (suc n) file = take 1020 file ++ payloads n (drop 1024 file)

payloads-from : (file : List ℕ) (k n : ℕ) → flat_map (payload file) (range_with_len k n) ≡ payloads n (drop (1024 * k) file)
unfolding payloads
payloads-from file k zero = refl
payloads-from file k (suc n) =
    let place : 1024 * (k + 1) ≡ 1024 * k + 1024 = omega arith in
    rw (take-take 1020 1024 (drop (1024 * k) file) (lit≤ tt), payloads-from file (k + 1) n, place, drop-drop 1024 (1024 * k) file) refl

payloads-page : (n : ℕ) (p rest : List ℕ) → length p ≡ 1024 → payloads (suc n) (p ++ rest) ≡ take 1020 p ++ payloads n rest
unfolding payloads
payloads-page n p rest size = rw (take-append-le 1020 p rest (omega arith), drop_at p rest 1024 size) refl

payloads-sealed : (n : ℕ) (b : List ℕ) → length b ≡ 1020 * n → payloads n (sealed n b) ≡ b
unfolding payloads
payloads-sealed zero b size = sym (nil_from_length b size)
payloads-sealed (suc n) b size =
    let first = first_payload n b size in
    rw (
      sealed-suc n b,
      payloads-page n (page_bytes (take 1020 b)) (sealed n (drop 1020 b)) (length-page_bytes (take 1020 b) first),
      take-page_bytes (take 1020 b) first,
      payloads-sealed n (drop 1020 b) (later_payloads n b size),
    ) (take-append-drop 1020 b)

logical-payloads : (n : ℕ) (file : List ℕ) → length file ≡ 1024 * n → logical file ≡ payloads n file
unfolding logical
logical-payloads n file size =
    let count : length file / 1024 ≡ n = omega arith in
    rw count (payloads-from file 0 n)

-- the logical bytes of the file are what was sealed
pub logical-sealed : (n : ℕ) (b : List ℕ) → length b ≡ 1020 * n → logical (sealed n b) ≡ b
logical-sealed n b size = logical-payloads n (sealed n b) (length-sealed n b size) ∙ payloads-sealed n b size

-- the same behind another page
pub logical-behind : (n : ℕ) (page b : List ℕ) → length page ≡ 1024 → length b ≡ 1020 * n → logical (page ++ sealed n b) ≡ take 1020 page ++ b
logical-behind n page b size sizes =
    let count : length (page ++ sealed n b) ≡ 1024 * suc n = omega (arith, length-append page (sealed n b), length-sealed n b sizes) in
    logical-payloads (suc n) (page ++ sealed n b) count
    ∙ payloads-page n page (sealed n b) size
    ∙ ap (λ (xs : List ℕ). take 1020 page ++ xs) (payloads-sealed n b sizes)
