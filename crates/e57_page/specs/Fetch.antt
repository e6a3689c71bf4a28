-- What the steps of a read do: a page is asked for and tested, kept, and a piece of it is copied.
use Rattle.std.specs.Prelude.{◌≡◌, ℕ, ◌+◌, ◌-◌, ◌*◌, ◌/◌, min, true, false, if◌then◌else◌, List, [], ◌∷◌, ◌++◌, length, take, drop, Some, None, IfSome}
use Rattle.e57_base.specs.Source.{SourceView, HasPage, page_length, page_of}
use Rattle.e57_base.specs.declared.fault.ReadFault.{ReadFault}
use Rattle.e57_crc.specs.Crc.{is_right}
use Rattle.e57_page.specs.declared.header.Header.{Header}
use Rattle.e57_page.specs.Place.{payload_length}
use Rattle.e57_page.specs.Kept.{is_kept, page_in, KeepsTo}
use Rattle.e57_page.specs.Header.{header_of}
use Rattle.e57_page.specs.File.{logical, length_fault, page_fault, pages_fault, opening_fault}
use Rattle.e57_page.specs.Pages.{AsksFor, AsksUnkept, IsStopped}

-- These bytes are page n of the open file, and its word is right.
pub record IsPage (source : SourceView) (n : ℕ) (page : List ℕ) : Type 0 where
  pub within : HasPage source n
  pub long : length page ≡ page_length
  pub right : is_right page ≡ true
  pub bytes : IfSome source.held (λ file. page ≡ page_of file n)

-- The pages that are kept are pages of the open file.
abbrev pub AreKept : SourceView → List ℕ → List (List ℕ) → Type 0
AreKept source numbers pages = (n : ℕ) → is_kept numbers n ≡ true → IsPage source n (page_in pages n)

-- The open file has this size and this header, it has no fault of opening, and the pages that are kept are its own.
pub record IsSound (source : SourceView) (size : ℕ) (header : Header) (numbers : List ℕ) (pages : List (List ℕ)) : Type 0 where
  pub open_size : source.size ≡ Some size
  pub whole : length_fault size ≡ None
  pub agrees : header.length ≡ size
  pub first : IfSome source.held (λ file. opening_fault file ≡ None)
  pub read : IfSome source.held (λ file. header ≡ header_of file)
  pub kept : AreKept source numbers pages

-- Page n was asked for, and is right.
pub record IsFetched (old : SourceView) (n : ℕ) (page : List ℕ) (new : SourceView) : Type 0 where
  pub source : AsksFor old (n ∷ []) new
  pub right_page : IsPage new n page

-- Page n was asked for, and failed or is wrong.
pub record IsNotFetched (old : SourceView) (n : ℕ) (found : ReadFault) (new : SourceView) : Type 0 where
  pub source : AsksFor old (n ∷ []) new
  pub cause : IsStopped old n found new

-- what is asked for to have page n: that page, unless it is kept
abbrev pub unless_kept : List ℕ → ℕ → List ℕ
unless_kept kept n = if is_kept kept n then [] else n ∷ []

-- how many of the bytes from place `at` on lie before page n
abbrev pub before_page : ℕ → ℕ → ℕ
before_page at n = payload_length * n - at

-- the bytes of page n that lie in the range of `size` bytes from place `at` on
abbrev pub page_piece : ℕ → ℕ → ℕ → List ℕ → List ℕ
page_piece at n size page = take (min (payload_length - (at - payload_length * n)) (size - before_page at n)) (drop (at - payload_length * n) page)

-- the bytes with this part from a place on
abbrev pub with_part : ℕ → List ℕ → List ℕ → List ℕ
with_part place part bytes = take place bytes ++ (part ++ drop (place + length part) bytes)

-- the two lists have the same bytes from place `low` on and before place `high`
abbrev pub SameBetween : ℕ → ℕ → List ℕ → List ℕ → Type 0
SameBetween low high xs ys = take (high - low) (drop low xs) ≡ take (high - low) (drop low ys)

-- The bytes of the range from place `at` on that lie in page n were read, and no other byte of the buffer changed. The
-- range's pages are below `high`.
pub record ReadsPiece (old : SourceView) (kept : List ℕ) (at n high : ℕ) (before after : List ℕ) (new : SourceView) (now : List ℕ) : Type 0 where
  pub source : AsksFor old (unless_kept kept n) new
  pub keeps : KeepsTo kept n (n + 1) high now
  pub right : IfSome old.held (λ file. page_fault file n ≡ None)
  pub front : take (before_page at n) after ≡ take (before_page at n) before
  pub piece : IfSome old.held (λ file. SameBetween (before_page at n) (before_page at (n + 1)) after (take (length before) (drop at (logical file))))
  pub rest : drop (before_page at (n + 1)) after ≡ drop (before_page at (n + 1)) before

-- Page n, which wasn't kept, was asked for, and failed or is wrong: the buffer and what is kept are as they were.
pub record LosesPiece (old : SourceView) (kept : List ℕ) (n : ℕ) (before : List ℕ) (found : ReadFault) (after : List ℕ) (new : SourceView) (now : List ℕ) : Type 0 where
  pub unkept : is_kept kept n ≡ false
  pub same_kept : now ≡ kept
  pub same_bytes : after ≡ before
  pub page : IsNotFetched old n found new

-- The bytes of the range from place `at` on that lie before page n were read, and no other byte of the buffer changed.
-- The range's pages are below `high`.
pub record HasRead (old : SourceView) (kept : List ℕ) (at n high : ℕ) (before after : List ℕ) (new : SourceView) (now : List ℕ) : Type 0 where
  pub source : AsksUnkept kept (at / payload_length) n old new
  pub keeps : KeepsTo kept (at / payload_length) n high now
  pub right : IfSome old.held (λ file. pages_fault file (at / payload_length) (n - at / payload_length) ≡ None)
  pub bytes : IfSome old.held (λ file. take (before_page at n) after ≡ take (before_page at n) (take (length before) (drop at (logical file))))
  pub rest : drop (before_page at n) after ≡ drop (before_page at n) before
