-- The pages that are kept, through a read of one page more.
use Rattle.std.proofs.Common.{◌≡◌, ◌≢◌, ℕ, ◌+◌, ◌%◌, ◌<◌, ◌≤◌, ◌⊎◌, Bool, true, false, ◌==◌, ◌&&◌, if◌then◌else◌, List, [], ◌∷◌, length, get_or, set, Option, Some, None, IfSome, refl, sym, ap, subst, ◌∙◌, inl, inr, arith, ⊎_elim}
use Rattle.std.specs.Prelude.{nat_lt, nat_le, slice_index, slice_set, replicate}
use Rattle.std.proofs.lemmas.Bool.Decides.{nat_tests}
use Rattle.std.proofs.lemmas.Bool.{cases_lt, eqb-true}
use Rattle.std.proofs.lemmas.List.{get_or-set_same, get_or-set_other, get_or-replicate}
use Rattle.e57_base.specs.Source.{SourceView, SameFile, page_of}
use Rattle.e57_page.specs.declared.header.Header.{Header}
use Rattle.e57_page.specs.Header.{header_of}
use Rattle.e57_page.specs.File.{opening_fault}
use Rattle.e57_page.specs.Kept.{is_kept, is_later, numbers_with, pages_with, page_in, KeepsFirst, KeepsTo}
use Rattle.e57_page.specs.Pages.{AsksFor, IsOpened}
use Rattle.e57_page.proofs.PagesLaws.{asks_for_none}
use Rattle.e57_page.specs.Fetch.{IsPage, AreKept, IsSound, unless_kept}

-- in its place page n is kept, or another page of that place
kept_same : (kept : List ℕ) (n k : ℕ) → length kept ≡ 144 → k % 144 ≡ n % 144 → is_kept (slice_set kept (n % 144) n) k ≡ (k == n)
kept_same kept n k long same =
    let fits : n % 144 < length kept = omega arith in
    ap (λ (place : ℕ). k == get_or (set kept (n % 144) n) place 0) same ∙ ap (λ (number : ℕ). k == number) (get_or-set_same kept (n % 144) n 0 fits)

kept_other : (kept : List ℕ) (n k : ℕ) → k % 144 ≢ n % 144 → is_kept (slice_set kept (n % 144) n) k ≡ is_kept kept k
kept_other kept n k other = ap (λ (number : ℕ). k == number) (get_or-set_other kept (n % 144) (k % 144) n 0 other)

same_number : (n : ℕ) → (n == n) ≡ true
same_number n = grind (arith, nat_tests)

-- two pages have the same place, or not
cases_place : (k n : ℕ) → (k % 144 ≡ n % 144) ⊎ (k % 144 ≢ n % 144)
cases_place k n =
    ⊎_elim
    (λ (below : k % 144 < n % 144). inr (λ same. absurd (omega arith)))
    (λ (not_below : n % 144 ≤ k % 144).
    ⊎_elim
    (λ (above : n % 144 < k % 144). inr (λ same. absurd (omega arith)))
    (λ (not_above : k % 144 ≤ n % 144). inl (omega arith))
    (cases_lt (n % 144) (k % 144)))
    (cases_lt (k % 144) (n % 144))

-- page n is written into its place, since no later page of the range stands there
module _ (kept : List ℕ) (n high : ℕ) (long : length kept ≡ 144) (free : is_later kept n high ≡ false) where
  set_last : (k : ℕ) → k < n + 1 → high ≤ k + 144 → n < high → (n ≤ k) ⊎ (is_kept kept k ≡ true) → is_kept (slice_set kept (n % 144) n) k ≡ true
  set_last k below near inside (inl from) = let same : k ≡ n = omega arith in subst (λ (m : ℕ). is_kept (slice_set kept (n % 144) n) m ≡ true) (sym same) (kept_same kept n n long refl ∙ same_number n)
  set_last k below near inside (inr held) =
      ⊎_elim
      (λ (same : k % 144 ≡ n % 144). let here : k ≡ n = omega arith in subst (λ (m : ℕ). is_kept (slice_set kept (n % 144) n) m ≡ true) (sym here) (kept_same kept n n long refl ∙ same_number n))
      (λ (other : k % 144 ≢ n % 144). kept_other kept n k other ∙ held)
      (cases_place k n)

  set_later : (k : ℕ) → n + 1 ≤ k → k < high → is_kept (slice_set kept (n % 144) n) k ≡ is_kept kept k
  set_later k above below =
      ⊎_elim
      (λ (same : k % 144 ≡ n % 144). kept_same kept n k long same ∙ unequal (slice_index kept (n % 144)) k above below same free ∙ sym (ap (λ (place : ℕ). k == slice_index kept place) same))
      (λ (other : k % 144 ≢ n % 144). kept_other kept n k other)
      (cases_place k n)
    where
      unequal : (number k : ℕ) → n + 1 ≤ k → k < high → k % 144 ≡ n % 144 → (nat_le (n + 144) number && nat_lt number high) ≡ false → (k == n) ≡ (k == number)
      unequal number k above below same not_later = grind (arith, nat_tests)

  set_no_other : (k : ℕ) → is_kept (slice_set kept (n % 144) n) k ≡ true → (is_kept kept k ≡ true) ⊎ ((n ≤ k) × (k < n + 1))
  set_no_other k held =
      ⊎_elim
      (λ (same : k % 144 ≡ n % 144). let here : k ≡ n = eqb-true k n (sym (kept_same kept n k long same) ∙ held) in inr (omega arith, omega arith))
      (λ (other : k % 144 ≢ n % 144). inl (sym (kept_other kept n k other) ∙ held))
      (cases_place k n)

  pub keeps_set : n < high → KeepsTo kept n (n + 1) high (slice_set kept (n % 144) n)
  keeps_set inside =
      record {
        last = λ k below near held. set_last k below near inside held;
        later = set_later;
        no_other = set_no_other;
      }

-- page n is left out, since a later page of the range stands in its place
keeps_left : (kept : List ℕ) (n high : ℕ) → is_later kept n high ≡ true → KeepsTo kept n (n + 1) high kept
keeps_left kept n high later =
    record {
      last = λ k below near held. ⊎_elim (λ (from : n ≤ k). absurd (none_near (slice_index kept (n % 144)) k below from near later)) (λ (was : is_kept kept k ≡ true). was) held;
      later = λ k above below. refl;
      no_other = λ k held. inl held;
    }
  where
    none_near : (number k : ℕ) → k < n + 1 → n ≤ k → high ≤ k + 144 → (nat_le (n + 144) number && nat_lt number high) ≡ true → ⊥
    none_near number k below from near later = grind (arith, nat_tests)

-- page n was kept already
pub keeps_kept : (kept : List ℕ) (n high : ℕ) → is_kept kept n ≡ true → KeepsTo kept n (n + 1) high kept
keeps_kept kept n high held =
    record {
      last = λ k below near was. ⊎_elim (λ (from : n ≤ k). let here : k ≡ n = omega arith in subst (λ (m : ℕ). is_kept kept m ≡ true) (sym here) held) (λ (is : is_kept kept k ≡ true). is) was;
      later = λ k above below. refl;
      no_other = λ k is. inl is;
    }

-- page n was read
pub keeps_read : (kept now : List ℕ) (n high : ℕ) → length kept ≡ 144 → n < high → now ≡ numbers_with kept n high → KeepsTo kept n (n + 1) high now
keeps_read kept now n high long inside is = subst (λ (numbers : List ℕ). KeepsTo kept n (n + 1) high numbers) (sym is) (by_cases (is_later kept n high) refl) where
  by_cases : (b : Bool) → is_later kept n high ≡ b → KeepsTo kept n (n + 1) high (if b then kept else slice_set kept (n % 144) n)
  by_cases true is = keeps_left kept n high is
  by_cases false is = keeps_set kept n high long is inside

-- only page 0 is kept at first
pub keeps_first : KeepsFirst (replicate 144 0)
keeps_first n = ap (λ (number : ℕ). n == number) (get_or-replicate 144 (n % 144) 0 0 (omega arith))

-- ---- what is kept goes on being of the open file

pub page_later : (old new : SourceView) (n : ℕ) (page : List ℕ) → SameFile old new → IsPage old n page → IsPage new n page
page_later old new n page same is =
    record {
      within = rw same.size is.within;
      long = is.long;
      right = is.right;
      bytes = subst (λ (held : Option (List ℕ)). IfSome held (λ file. page ≡ page_of file n)) (sym same.held) is.bytes;
    }

-- the bytes of a page that is kept
pub page_held : (source : SourceView) (numbers : List ℕ) (pages : List (List ℕ)) (n : ℕ) (page : List ℕ) → AreKept source numbers pages → is_kept numbers n ≡ true → page ≡ page_in pages n → IsPage source n page
page_held source numbers pages n page are held is = subst (λ (bytes : List ℕ). IsPage source n bytes) (sym is) (are n held)

pub sound_later : (old new : SourceView) (size : ℕ) (header : Header) (numbers : List ℕ) (pages : List (List ℕ)) → SameFile old new → IsSound old size header numbers pages → IsSound new size header numbers pages
sound_later old new size header numbers pages same sound =
    record {
      open_size = same.size ∙ sound.open_size;
      whole = sound.whole;
      agrees = sound.agrees;
      first = subst (λ (held : Option (List ℕ)). IfSome held (λ file. opening_fault file ≡ None)) (sym same.held) sound.first;
      read = subst (λ (held : Option (List ℕ)). IfSome held (λ file. header ≡ header_of file)) (sym same.held) sound.read;
      kept = λ n held. page_later old new n (page_in pages n) same (sound.kept n held);
    }

-- page n is kept too
kept_set : (source : SourceView) (numbers : List ℕ) (pages : List (List ℕ)) (n : ℕ) (page : List ℕ) → length numbers ≡ 144 → length pages ≡ 144 → AreKept source numbers pages → IsPage source n page → AreKept source (slice_set numbers (n % 144) n) (slice_set pages (n % 144) page)
kept_set source numbers pages n page long longs are is k held =
    ⊎_elim
    (λ (same : k % 144 ≡ n % 144).
    let here : k ≡ n = eqb-true k n (sym (kept_same numbers n k long same) ∙ held) in
    let fits : n % 144 < length pages = omega arith in
    let page_is : page_in (slice_set pages (n % 144) page) k ≡ page = ap (λ (place : ℕ). get_or (set pages (n % 144) page) place []) same ∙ get_or-set_same pages (n % 144) page [] fits in
    subst (λ (bytes : List ℕ). IsPage source k bytes) (sym page_is) (subst (λ (m : ℕ). IsPage source m page) (sym here) is))
    (λ (other : k % 144 ≢ n % 144).
    let page_is : page_in (slice_set pages (n % 144) page) k ≡ page_in pages k = get_or-set_other pages (n % 144) (k % 144) page [] other in
    subst (λ (bytes : List ℕ). IsPage source k bytes) (sym page_is) (are k (sym (kept_other numbers n k other) ∙ held)))
    (cases_place k n)

pub sound_more : (old new : SourceView) (size n high : ℕ) (header : Header) (numbers : List ℕ) (pages : List (List ℕ)) (page : List ℕ) → length numbers ≡ 144 → length pages ≡ 144 → SameFile old new → IsSound old size header numbers pages → IsPage new n page → IsSound new size header (numbers_with numbers n high) (pages_with numbers pages n high page)
sound_more old new size n high header numbers pages page long longs same sound is = by_cases (is_later numbers n high) where
  sound_new : IsSound new size header numbers pages
  sound_new = sound_later old new size header numbers pages same sound

  by_cases : (b : Bool) → IsSound new size header (if b then numbers else slice_set numbers (n % 144) n) (if b then pages else slice_set pages (n % 144) page)
  by_cases true = sound_new
  by_cases false =
      record {
        open_size = sound_new.open_size;
        whole = sound_new.whole;
        agrees = sound_new.agrees;
        first = sound_new.first;
        read = sound_new.read;
        kept = kept_set new numbers pages n page long longs sound_new.kept is;
      }

-- page 0 alone is kept
pub keeps_first_alone : (numbers : List ℕ) → numbers ≡ replicate 144 0 → KeepsFirst numbers
keeps_first_alone numbers is = subst KeepsFirst (sym is) keeps_first

pub kept_first : (source : SourceView) (numbers : List ℕ) (pages : List (List ℕ)) (page : List ℕ) → numbers ≡ replicate 144 0 → page_in pages 0 ≡ page → IsPage source 0 page → AreKept source numbers pages
kept_first source numbers pages page are at_0 is k held =
    let here : k ≡ 0 = eqb-true k 0 (sym (keeps_first_alone numbers are k) ∙ held) in
    subst (λ (m : ℕ). IsPage source m (page_in pages m)) (sym here) (subst (λ (bytes : List ℕ). IsPage source 0 bytes) (sym at_0) is)

pub sound_first : (old source : SourceView) (size told : ℕ) (header : Header) (numbers : List ℕ) (pages : List (List ℕ)) (page : List ℕ) → old.size ≡ Some size → IsOpened old size told header source → numbers ≡ replicate 144 0 → page_in pages 0 ≡ page → IsPage source 0 page → IsSound source size header numbers pages
sound_first old source size told header numbers pages page open_size opened are at_0 is =
    record {
      open_size = opened.source.same.size ∙ open_size;
      whole = opened.sound;
      agrees = opened.agrees;
      first = subst (λ (held : Option (List ℕ)). IfSome held (λ file. opening_fault file ≡ None)) (sym opened.source.same.held) opened.first;
      read = subst (λ (held : Option (List ℕ)). IfSome held (λ file. header ≡ header_of file)) (sym opened.source.same.held) opened.read;
      kept = kept_first source numbers pages page are at_0 is;
    }

-- page n was read, and is kept unless a later page of the range has its place
pub sound_read : (old new : SourceView) (size n high : ℕ) (header : Header) (numbers numbers' : List ℕ) (pages pages' : List (List ℕ)) (page : List ℕ) → length numbers ≡ 144 → length pages ≡ 144 → SameFile old new → IsSound old size header numbers pages → IsPage new n page → numbers' ≡ numbers_with numbers n high → pages' ≡ pages_with numbers pages n high page → IsSound new size header numbers' pages'
sound_read old new size n high header numbers numbers' pages pages' page long longs same sound is are stand =
    subst (λ (ns : List ℕ). IsSound new size header ns pages') (sym are)
    (subst (λ (ps : List (List ℕ)). IsSound new size header (numbers_with numbers n high) ps) (sym stand)
    (sound_more old new size n high header numbers pages page long longs same sound is))

-- a page that is kept isn't asked for, and another one is
pub kept_asks : (source : SourceView) (kept : List ℕ) (n : ℕ) → is_kept kept n ≡ true → AsksFor source (unless_kept kept n) source
kept_asks source kept n held = subst (λ (b : Bool). AsksFor source (if b then [] else n ∷ []) source) (sym held) (asks_for_none source)

pub unkept_asks : (old new : SourceView) (kept : List ℕ) (n : ℕ) → is_kept kept n ≡ false → AsksFor old (n ∷ []) new → AsksFor old (unless_kept kept n) new
unkept_asks old new kept n free asks = subst (λ (b : Bool). AsksFor old (if b then [] else n ∷ []) new) (sym free) asks
