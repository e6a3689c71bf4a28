-- The pages of a file that are kept, by their numbers: 144 places, of which page n may stand in place n % 144 alone.
use Rattle.std.specs.Prelude.{◌≡◌, ℕ, ◌+◌, ◌%◌, ◌<◌, ◌≤◌, ◌⊎◌, Bool, true, false, ◌==◌, ◌&&◌, nat_lt, nat_le, if◌then◌else◌, List, [], ◌∷◌, slice_index, slice_index_or, slice_set}

-- how many places there are
abbrev pub places : ℕ
places = 144

-- Page n is kept: its number stands in its place. A place that isn't used has number 0, whose place is the first, and
-- page 0 is kept from the opening on.
abbrev pub is_kept : List ℕ → ℕ → Bool
is_kept kept n = n == slice_index kept (n % places)

-- no page but page 0 is kept
abbrev pub KeepsFirst : List ℕ → Type 0
KeepsFirst kept = (n : ℕ) → is_kept kept n ≡ (n == 0)

-- none of these pages is kept
abbrev pub AreUnkept : List ℕ → List ℕ → Type 0
AreUnkept kept [] = Unit {0}
AreUnkept kept (page ∷ pages) = (is_kept kept page ≡ false) × AreUnkept kept pages

-- What a read of the pages from `low` on and below `high` has kept when it comes to page n.
pub record KeepsTo (old : List ℕ) (low n high : ℕ) (new : List ℕ) : Type 0 where
  -- of the 144 pages before the range's end those that it read, and those that were kept
  pub last : (k : ℕ) → k < n → high ≤ k + places → (low ≤ k) ⊎ (is_kept old k ≡ true) → is_kept new k ≡ true
  -- of the pages that it will come to those that were kept, and no other
  pub later : (k : ℕ) → n ≤ k → k < high → is_kept new k ≡ is_kept old k
  -- and else only what was kept
  pub no_other : (k : ℕ) → is_kept new k ≡ true → (is_kept old k ≡ true) ⊎ ((low ≤ k) × (k < n))

-- The page whose place page n has is one that a read of pages below `high` comes to later.
abbrev pub is_later : List ℕ → ℕ → ℕ → Bool
is_later kept n high = nat_le (n + places) (slice_index kept (n % places)) && nat_lt (slice_index kept (n % places)) high

-- the numbers and the pages where page n is kept, unless a later page has its place
abbrev pub numbers_with : List ℕ → ℕ → ℕ → List ℕ
numbers_with numbers n high = if is_later numbers n high then numbers else slice_set numbers (n % places) n

abbrev pub pages_with : List ℕ → List (List ℕ) → ℕ → ℕ → List ℕ → List (List ℕ)
pages_with numbers pages n high page = if is_later numbers n high then pages else slice_set pages (n % places) page

-- the page in the place of page n
abbrev pub page_in : List (List ℕ) → ℕ → List ℕ
page_in pages n = slice_index_or pages (n % places) []
