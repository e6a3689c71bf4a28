-- Laws of a file's pages, its logical bytes and its faults.
use Rattle.std.specs.Prelude.{◌≡◌, ℕ, zero, suc, ◌+◌, ◌-◌, ◌*◌, ◌/◌, ◌%◌, ◌^◌, ◌<◌, ◌≤◌, nat_lt, ◌==◌, ◌||◌, not, if◌then◌else◌, Bool, true, false, List, length, take, drop, Option, Some, None}
use Rattle.std.specs.List.{flat_map, range_with_len}
use Rattle.std.specs.Option.{option_or}
use Rattle.std.proofs.Common.{lit≤, refl, ◌∙◌, arith, zero-add, add-zero, add-one, length-append, length-take, length-drop}
use Rattle.std.proofs.lemmas.Bool.Decides.{nat_tests}
use Rattle.std.proofs.lemmas.List.{take-take, take-append-le, drop-append-le, drop-drop, drop_at, drop-take}
use Rattle.e57_base.specs.declared.fault.Fault.{Fault}
use Rattle.e57_base.specs.Source.{page_of}
use Rattle.e57_base.specs.declared.kind.Kind.TheVariants.{FileLength, Page}
use Rattle.e57_bits.proofs.BitLaws.{number-take}
use Rattle.e57_crc.specs.Crc.{is_right}
use Rattle.e57_base.specs.Fault.{fault}
use Rattle.e57_page.specs.Header.{header_fault, header_of}
use Rattle.e57_page.specs.File.{length_fault, payload, logical, page_fault, pages_fault}
use Rattle.e57_base.proofs.Options.{option_or_parts}

-- the fault of a first page, or else of those after it
pub pages_fault-suc : (file : List ℕ) (n count : ℕ) → pages_fault file n (suc count) ≡ option_or (page_fault file n) (pages_fault file (n + 1) count)
unfolding pages_fault
pages_fault-suc file n count = refl

-- no page, no fault
pub pages_fault-zero : (file : List ℕ) (n : ℕ) → pages_fault file n 0 ≡ None
unfolding pages_fault
pages_fault-zero file n = refl

-- one page more, which has no fault either
pub pages_fault-more : (file : List ℕ) (n count : ℕ) → pages_fault file n count ≡ None → page_fault file (n + count) ≡ None → pages_fault file n (count + 1) ≡ None
pages_fault-more file n zero before last =
    let this : page_fault file n ≡ None = rw add-zero at last in
    rw (pages_fault-suc file n 0, this, pages_fault-zero)
pages_fault-more file n (suc count) before last =
    let both = option_or_parts (page_fault file n) (pages_fault file (n + 1) count) (rw pages_fault-suc at before) in
    let place : n + suc count ≡ n + 1 + count = omega arith in
    let rest : pages_fault file (n + 1) (count + 1) ≡ None = pages_fault-more file (n + 1) count both.1 (rw place at last) in
    rw (add-one (suc count), pages_fault-suc file n (suc count), both.0, ← add-one count, rest)

-- of some pages that have no fault, and then others, the first fault is that of the others
pub pages_fault-on : (file : List ℕ) (n before count : ℕ) (outcome : Option Fault) → pages_fault file n before ≡ None → pages_fault file (n + before) count ≡ outcome → pages_fault file n (before + count) ≡ outcome
pages_fault-on file n zero count outcome none after = rw zero-add (rw add-zero at after)
pages_fault-on file n (suc before) count outcome none after =
    let both = option_or_parts (page_fault file n) (pages_fault file (n + 1) before) (rw pages_fault-suc at none) in
    let place : n + suc before ≡ n + 1 + before = omega arith in
    let more : suc before + count ≡ suc (before + count) = omega arith in
    rw (more, pages_fault-suc file n (before + count), both.0)
    (pages_fault-on file (n + 1) before count outcome both.1 (rw place at after))

-- the first fault of some pages is that of the first one that has a fault
pub pages_fault-found : (file : List ℕ) (n before count : ℕ) (found : Fault) → pages_fault file n before ≡ None → page_fault file (n + before) ≡ Some found → before < count → pages_fault file n count ≡ Some found
pages_fault-found file n before zero found none last below = absurd (omega arith)
pages_fault-found file n zero (suc count) found none last below =
    let this : page_fault file n ≡ Some found = rw add-zero at last in
    rw (pages_fault-suc file n count, this)
pages_fault-found file n (suc before) (suc count) found none last below =
    let both = option_or_parts (page_fault file n) (pages_fault file (n + 1) before) (rw pages_fault-suc at none) in
    let place : n + suc before ≡ n + 1 + before = omega arith in
    rw (pages_fault-suc file n count, both.0)
    (pages_fault-found file (n + 1) before count found both.1 (rw place at last) (omega arith))

-- page n of a file that has it is 1024 bytes long
pub length-page_of : (file : List ℕ) (n : ℕ) → n < length file / 1024 → length (page_of file n) ≡ 1024
length-page_of file n below = rw (length-take, length-drop) (omega arith)

-- the same of its payload
pub length-payload : (file : List ℕ) (n : ℕ) → n < length file / 1024 → length (payload file n) ≡ 1020
length-payload file n below = rw length-take (let whole = length-page_of file n below in omega arith)

-- pieces of 1020 bytes one after another are that long
length-pieces : (f : ℕ → List ℕ) (first count : ℕ) → ((i : ℕ) → i < first + count → length (f i) ≡ 1020) → length (flat_map f (range_with_len first count)) ≡ count * 1020
length-pieces f first zero whole = refl
length-pieces f first (suc count) whole =
    let this : length (f first) ≡ 1020 = whole first (omega arith) in
    let rest = length-pieces f (first + 1) count (λ i below. whole i (omega arith)) in
    rw length-append (omega arith)

-- the logical bytes are 1020 for each page
pub length-logical : (file : List ℕ) → length (logical file) ≡ length file / 1024 * 1020
unfolding logical
length-logical file = length-pieces (payload file) 0 (length file / 1024) (λ i below. length-payload file i (omega arith))

-- of pieces of 1020 bytes one after another, a part of one
part_of_pieces : (f : ℕ → List ℕ) (first count n skip k : ℕ) → ((i : ℕ) → i < first + count → length (f i) ≡ 1020) → n < count → skip + k ≤ 1020 → take k (drop (1020 * n + skip) (flat_map f (range_with_len first count))) ≡ take k (drop skip (f (first + n)))
part_of_pieces f first zero n skip k whole below within = absurd (omega arith)
part_of_pieces f first (suc count) zero skip k whole below within =
    let this : length (f first) ≡ 1020 = whole first (omega arith) in
    let fits : skip ≤ length (f first) = omega arith in
    let fits_too : k ≤ length (drop skip (f first)) = rw length-drop (omega arith) in
    let place : 1020 * 0 + skip ≡ skip = omega arith in
    rw (place, add-zero, drop-append-le, take-append-le)
part_of_pieces f first (suc count) (suc n) skip k whole below within =
    let this : length (f first) ≡ 1020 = whole first (omega arith) in
    let place : 1020 * suc n + skip ≡ 1020 + (1020 * n + skip) = omega arith in
    let number : first + suc n ≡ first + 1 + n = omega arith in
    rw (place, number, ← drop-drop, drop_at (f first) (flat_map f (range_with_len (first + 1) count)) 1020 this)
    (part_of_pieces f (first + 1) count n skip k (λ i under. whole i (omega arith)) (omega arith) within)

-- a part within the payload of a page is a part of that page
part_of_payload : (page : List ℕ) (skip k : ℕ) → skip + k ≤ 1020 → take k (drop skip (take 1020 page)) ≡ take k (drop skip page)
part_of_payload page skip k within =
    let whole : 1020 ≡ skip + (1020 - skip) = omega arith in
    let fits : k ≤ 1020 - skip = omega arith in
    rw (whole, drop-take, take-take)

-- a piece of the logical bytes within page n is a piece of that page
pub logical-piece : (file : List ℕ) (n skip count : ℕ) → n < length file / 1024 → skip + count ≤ 1020 → take count (drop (1020 * n + skip) (logical file)) ≡ take count (drop skip (page_of file n))
unfolding logical
logical-piece file n skip count below within =
    part_of_pieces (payload file) 0 (length file / 1024) n skip count (λ i under. length-payload file i (omega arith)) below within
    ∙ rw zero-add (part_of_payload (page_of file n) skip count within)

-- a page whose word is right has no fault
pub page_fault-right : (file : List ℕ) (n : ℕ) → is_right (page_of file n) ≡ true → page_fault file n ≡ None
unfolding page_fault
page_fault-right file n right = rw right

-- a page whose word is wrong has a fault
pub page_fault-wrong : (file : List ℕ) (n : ℕ) → is_right (page_of file n) ≡ false → page_fault file n ≡ Some (fault Page n 0)
unfolding page_fault
page_fault-wrong file n wrong = rw wrong

-- The header of a file is that of its first page.
pub header_fault-page : (file : List ℕ) (size : ℕ) → header_fault (page_of file 0) size ≡ header_fault file size
unfolding header_fault
header_fault-page file size =
    rw (
      take-take 8 1024 file (lit≤ tt),
      number-take file 1024 (8 * 8) 32 (lit≤ tt),
      number-take file 1024 (8 * 12) 32 (lit≤ tt),
      number-take file 1024 (8 * 16) 64 (lit≤ tt),
      number-take file 1024 (8 * 40) 64 (lit≤ tt),
    )

pub header_of-page : (file : List ℕ) → header_of (page_of file 0) ≡ header_of file
header_of-page file =
    rw (number-take file 1024 (8 * 16) 64 (lit≤ tt), number-take file 1024 (8 * 24) 64 (lit≤ tt), number-take file 1024 (8 * 32) 64 (lit≤ tt))

-- A length with no fault is that of one or more whole pages, up to 2^48 bytes.
pub whole_length : (n : ℕ) → length_fault n ≡ None → (0 < n) × (n % 1024 ≡ 0) × (n ≤ 2 ^ 48)
unfolding length_fault
whole_length n whole = (tests (n == 0) (not (n % 1024 == 0)) (nat_lt (2 ^ 48) n) whole n refl refl refl)
  where
    tests : (a b c : Bool) → (if a || b || c then Some (fault FileLength n 0) else None) ≡ None → (m : ℕ) → (m == 0) ≡ a → not (m % 1024 == 0) ≡ b → nat_lt (2 ^ 48) m ≡ c → (0 < m) × (m % 1024 ≡ 0) × (m ≤ 2 ^ 48)
    tests true b c whole m x y z = absurd (cc)
    tests false true c whole m x y z = absurd (cc)
    tests false false true whole m x y z = absurd (cc)
    tests false false false whole m x y z = (grind (arith, nat_tests), grind (arith, nat_tests), grind (arith, nat_tests))
