-- A file that is being written: a blank page 0 and sealed pages behind it.
use Rattle.std.proofs.Common.{◌≡◌, ℕ, suc, ◌+◌, ◌-◌, ◌*◌, ◌<◌, ◌≤◌, List, [], ◌++◌, length, take, drop, replicate, slice_index, refl, sym, ap, ◌∙◌, arith}
use Rattle.std.proofs.lemmas.List.{append_assoc, append-nil, length-append, length-take-le, length-drop, take_at, drop_at, drop_all, take_all, take-append-drop}
use Rattle.e57_base.specs.MemTarget.{with_piece}
use Rattle.e57_base.specs.Target.{with_page}
use Rattle.e57_page.specs.File.{logical}
use Rattle.e57_page.specs.declared.header.Header.{Header}
use Rattle.e57_page_out.specs.Buffer.{IsRow}
use Rattle.e57_page_out.specs.HeaderBytes.{header_bytes}
use Rattle.e57_page_out.proofs.HeaderLaws.{length-header_bytes}
use Rattle.e57_page_out.proofs.PieceLaws.{length-piece, piece-between, piece-behind}
use Rattle.e57_page_out.specs.Sealed.{page_bytes, sealed, filled, pages_for}
use Rattle.e57_page_out.proofs.SealedLaws.{length-page_bytes, sealed-zero, sealed-suc, length-sealed, sealed-append, sealed-one, logical-behind}
use Rattle.e57_page_out.specs.Writing.{closed_file}
use Rattle.e57_page_out.proofs.WritingLaws.{filled_whole, pages_whole, length-filled}

-- page 0, before the file is closed
abbrev blank : List ℕ
blank = replicate 1024 0

abbrev blank_payload : List ℕ
blank_payload = replicate 1020 0

pub row_first : IsRow 1 (replicate 1024 0)
row_first = record { count = 0; bytes = []; number = refl; size = refl; is = rw (sealed-zero []) refl }

pub length_row : (n : ℕ) (file : List ℕ) → IsRow n file → length file ≡ 1024 * n
length_row n file row =
    let number = row.number in
    let pages = length-sealed row.count row.bytes row.size in
    let front : length blank ≡ 1024 = refl in
    ap length row.is ∙ omega (arith, length-append blank (sealed row.count row.bytes))

pub first_byte : (n : ℕ) (file : List ℕ) → IsRow n file → slice_index file 0 ≡ 0
first_byte n file row = ap (λ (xs : List ℕ). slice_index xs 0) row.is ∙ refl

-- its logical bytes
pub logical_row : (n : ℕ) (file : List ℕ) (row : IsRow n file) → logical file ≡ replicate 1020 0 ++ row.bytes
logical_row n file row = ap logical row.is ∙ logical-behind row.count (replicate 1024 0) row.bytes refl row.size

pub logical_blank : logical (replicate 1024 0) ≡ replicate 1020 0
unfolding row_first
logical_blank = logical_row 1 (replicate 1024 0) row_first ∙ append-nil (replicate {A = ℕ} 1020 0)

pub length_logical_row : (n : ℕ) (file : List ℕ) → IsRow n file → length (logical file) ≡ 1020 * n
length_logical_row n file row =
    let number = row.number in
    let size = row.size in
    let front : length blank_payload ≡ 1020 = refl in
    ap length (logical_row n file row) ∙ omega (arith, length-append blank_payload row.bytes)

-- the next page is put behind the others
page_behind : (n : ℕ) (page file : List ℕ) → length file ≡ 1024 * n → with_page n page file ≡ file ++ page
page_behind n page file size = rw (take_all (1024 * n) file (omega arith), drop_all (1024 * (n + 1)) file (omega arith), append-nil (file ++ page)) refl

-- one page more
more_pages : (count : ℕ) (bytes payload : List ℕ) → length bytes ≡ 1020 * count → length payload ≡ 1020 → sealed (count + 1) (bytes ++ payload) ≡ sealed count bytes ++ page_bytes payload
more_pages count bytes payload size whole = rw (sealed-append count 1 bytes payload size, sealed-one payload whole) refl

pub row_more : (n : ℕ) (payload file : List ℕ) → IsRow n file → length payload ≡ 1020 → IsRow (n + 1) (with_page n (page_bytes payload) file)
row_more n payload file row whole =
    let number = row.number in
    record {
      count = row.count + 1;
      bytes = row.bytes ++ payload;
      number = omega arith;
      size = let size = row.size in omega (arith, length-append row.bytes payload);
      is = page_behind n (page_bytes payload) file (length_row n file row)
          ∙ ap (λ (xs : List ℕ). xs ++ page_bytes payload) row.is
          ∙ append_assoc (replicate 1024 0) (sealed row.count row.bytes) (page_bytes payload)
          ∙ ap (λ (xs : List ℕ). replicate 1024 0 ++ xs) (sym (more_pages row.count row.bytes payload row.size whole));
    }

pub logical_more : (n : ℕ) (payload file : List ℕ) → IsRow n file → length payload ≡ 1020 → logical (with_page n (page_bytes payload) file) ≡ logical file ++ payload
unfolding row_more
logical_more n payload file row whole =
    logical_row (n + 1) (with_page n (page_bytes payload) file) (row_more n payload file row whole)
    ∙ sym (append_assoc (replicate 1020 0) row.bytes payload)
    ∙ ap (λ (xs : List ℕ). xs ++ payload) (sym (logical_row n file row))

-- pages of some bytes, of which one payload is named
pages_between : (i m : ℕ) (a p c : List ℕ) → length a ≡ 1020 * i → length p ≡ 1020 → sealed (i + suc m) (a ++ (p ++ c)) ≡ sealed i a ++ (page_bytes p ++ sealed m c)
pages_between i m a p c first whole =
    sealed-append i (suc m) a (p ++ c) first
    ∙ ap (λ (xs : List ℕ). sealed i a ++ xs) (sealed-suc m (p ++ c) ∙ rw (take_at p c 1020 whole, drop_at p c 1020 whole) refl)

-- a page is put again
with_page_is : (n : ℕ) (page file : List ℕ) → length page ≡ 1024 → with_page n page file ≡ with_piece (1024 * n) page file
with_page_is n page file whole = let e : 1024 * (n + 1) ≡ 1024 * n + length page = omega arith in ap (λ k. take (1024 * n) file ++ page ++ drop k file) e

module _ (i m : ℕ) (a p c payload : List ℕ) (first : length a ≡ 1020 * i) (whole : length p ≡ 1020) (new : length payload ≡ 1020) where
  pages_again : with_piece (1024 * i) (page_bytes payload) (sealed (i + suc m) (a ++ (p ++ c))) ≡ sealed (i + suc m) (a ++ (payload ++ c))
  pages_again =
      ap (with_piece (1024 * i) (page_bytes payload)) (pages_between i m a p c first whole)
      ∙ piece-between (1024 * i) (sealed i a) (page_bytes payload) (page_bytes p) (sealed m c) (length-sealed i a first) (length-page_bytes payload new ∙ sym (length-page_bytes p whole))
      ∙ sym (pages_between i m a payload c first new)

-- the payloads before, at and behind page i of some
module _ (i m : ℕ) (bytes payload : List ℕ) (size : length bytes ≡ 1020 * (i + suc m)) (new : length payload ≡ 1020) where
  abbrev before : List ℕ
  before = take (1020 * i) bytes

  abbrev here : List ℕ
  here = take 1020 (drop (1020 * i) bytes)

  abbrev behind : List ℕ
  behind = drop 1020 (drop (1020 * i) bytes)

  parts : before ++ (here ++ behind) ≡ bytes
  parts = ap (λ (xs : List ℕ). before ++ xs) (take-append-drop 1020 (drop (1020 * i) bytes)) ∙ take-append-drop (1020 * i) bytes

  length_before : length before ≡ 1020 * i
  length_before = length-take-le (1020 * i) bytes (omega arith)

  length_here : length here ≡ 1020
  length_here = length-take-le 1020 (drop (1020 * i) bytes) (omega (arith, length-drop (1020 * i) bytes))

  pub with_payload : with_piece (1020 * i) payload bytes ≡ before ++ (payload ++ behind)
  with_payload =
      ap (with_piece (1020 * i) payload) (sym parts) ∙ piece-between (1020 * i) before payload here behind length_before (new ∙ sym length_here)

  pub sealed_again : with_piece (1024 * i) (page_bytes payload) (sealed (i + suc m) bytes) ≡ sealed (i + suc m) (with_piece (1020 * i) payload bytes)
  sealed_again =
      ap (λ (xs : List ℕ). with_piece (1024 * i) (page_bytes payload) (sealed (i + suc m) xs)) (sym parts)
      ∙ pages_again i m before here behind payload length_before length_here new
      ∙ ap (sealed (i + suc m)) (sym with_payload)

-- the same behind page 0
row_again_at : (i m : ℕ) (file payload : List ℕ) (row : IsRow (i + suc m + 1) file) → length payload ≡ 1020 → with_page (i + 1) (page_bytes payload) file ≡ replicate 1024 0 ++ sealed (i + suc m) (with_piece (1020 * i) payload row.bytes)
row_again_at i m file payload row whole =
    let number = row.number in
    let count : row.count ≡ i + suc m = omega arith in
    let size : length row.bytes ≡ 1020 * (i + suc m) = row.size ∙ ap (λ k. 1020 * k) count in
    let place : 1024 * (i + 1) ≡ 1024 + 1024 * i = omega arith in
    let within : 1024 * i ≤ length (sealed (i + suc m) row.bytes) = omega (arith, length-sealed (i + suc m) row.bytes size) in
    with_page_is (i + 1) (page_bytes payload) file (length-page_bytes payload whole)
    ∙ ap (with_piece (1024 * (i + 1)) (page_bytes payload)) (row.is ∙ ap (λ k. replicate 1024 0 ++ sealed k row.bytes) count)
    ∙ ap (λ k. with_piece k (page_bytes payload) (replicate 1024 0 ++ sealed (i + suc m) row.bytes)) place
    ∙ piece-behind 1024 (1024 * i) (replicate 1024 0) (page_bytes payload) (sealed (i + suc m) row.bytes) refl within
    ∙ ap (λ (xs : List ℕ). replicate 1024 0 ++ xs) (sealed_again i m row.bytes payload size whole)

module _ (n k : ℕ) (payload file : List ℕ) (row : IsRow n file) (from : 1 ≤ k) (below : k < n) (whole : length payload ≡ 1020) where
  abbrev new_bytes : List ℕ
  new_bytes = with_piece (1020 * (k - 1)) payload row.bytes

  length_new : length new_bytes ≡ 1020 * row.count
  length_new =
      let number = row.number in
      let size = row.size in
      length-piece (1020 * (k - 1)) payload row.bytes (omega arith) ∙ row.size

  pub row_again : IsRow n (with_page k (page_bytes payload) file)
  row_again =
      let number = row.number in
      let count : row.count ≡ k - 1 + suc (n - k - 1) = omega arith in
      let total : n ≡ k - 1 + suc (n - k - 1) + 1 = omega arith in
      let place : k ≡ k - 1 + 1 = omega arith in
      record {
        count = row.count;
        bytes = new_bytes;
        number = row.number;
        size = length_new;
        is = ap (λ j. with_page j (page_bytes payload) file) place
            ∙ row_again_at (k - 1) (n - k - 1) file payload (record { count = row.count; bytes = row.bytes; number = sym total ∙ row.number; size = row.size; is = row.is }) whole
            ∙ ap (λ j. replicate 1024 0 ++ sealed j new_bytes) (sym count);
      }

  pub logical_again : logical (with_page k (page_bytes payload) file) ≡ with_piece (1020 * k) payload (logical file)
  unfolding row_again
  logical_again =
      let number = row.number in
      let size = row.size in
      let place : 1020 * k ≡ 1020 + 1020 * (k - 1) = omega arith in
      let within : 1020 * (k - 1) ≤ length row.bytes = omega arith in
      logical_row n (with_page k (page_bytes payload) file) row_again
      ∙ sym (piece-behind 1020 (1020 * (k - 1)) (replicate 1020 0) payload row.bytes refl within)
      ∙ ap (λ j. with_piece j payload (replicate 1020 0 ++ row.bytes)) (sym place)
      ∙ ap (with_piece (1020 * k) payload) (sym (logical_row n file row))

-- the bytes behind page 0 are those behind the first 1020
behind_first : (n : ℕ) (file : List ℕ) (row : IsRow n file) → drop 1020 (logical file) ≡ row.bytes
behind_first n file row = ap (drop 1020) (logical_row n file row) ∙ drop_at blank_payload row.bytes 1020 refl

-- page 0 as it is put last
unfoldable pub head_of : Header → List ℕ
head_of header = page_bytes (filled 1 (header_bytes header))

-- the whole pages with page 0 put again are the closed file
pub row_closed : (n : ℕ) (header : Header) (file : List ℕ) → IsRow n file → with_page 0 (head_of header) file ≡ closed_file header (logical file)
unfolding head_of
row_closed n header file row =
    let number = row.number in
    let size = length_logical_row n file row in
    let count : pages_for (length (logical file)) ≡ n = ap pages_for size ∙ pages_whole n in
    let less : n - 1 ≡ row.count = omega arith in
    let total : n ≡ 1 + row.count = omega arith in
    let head : length (filled 1 (header_bytes header)) ≡ 1020 = length-filled 1 (header_bytes header) (omega (arith, length-header_bytes header)) in
    ap (λ (xs : List ℕ). page_bytes (filled 1 (header_bytes header)) ++ xs) (ap (drop 1024) row.is ∙ drop_at blank (sealed row.count row.bytes) 1024 refl)
    ∙ ap (λ (xs : List ℕ). xs ++ sealed row.count row.bytes) (sym (sealed-one (filled 1 (header_bytes header)) head))
    ∙ sym (sealed-append 1 row.count (filled 1 (header_bytes header)) row.bytes head)
    ∙ ap (λ (xs : List ℕ). sealed (1 + row.count) (filled 1 (header_bytes header) ++ xs)) (sym (filled_whole row.count row.bytes row.size))
    ∙ ap (λ k. sealed k (filled 1 (header_bytes header) ++ filled row.count row.bytes)) (sym total)
    ∙ ap (λ k. sealed n (filled 1 (header_bytes header) ++ filled k row.bytes)) (sym less)
    ∙ ap (λ (xs : List ℕ). sealed n (filled 1 (header_bytes header) ++ filled (n - 1) xs)) (sym (behind_first n file row))
    ∙ ap (λ k. sealed k (filled 1 (header_bytes header) ++ filled (k - 1) (drop 1020 (logical file)))) (sym count)
