-- A file that is read as a whole, page by page.
use Rattle.std.proofs.Common.{◌≡◌, ℕ, suc, zero, ◌+◌, ◌-◌, ◌*◌, ◌/◌, ◌%◌, ◌<◌, ◌≤◌, ◌≢◌, List, [], ◌∷◌, ◌++◌, length, take, drop, replicate, Option, Some, None, refl, sym, ap, subst, ◌∙◌, arith, add-zero, add-one, zero-add, length-append}
use Rattle.std.specs.Prelude.{IfSome, IsSomeAnd, Result, Ok, Err, OnErr}
use Rattle.std.specs.List.{range_with_len}
use Rattle.std.proofs.Math.Seq.{take-add, take-append_seam}
use Rattle.std.proofs.lemmas.List.{length-drop, take-append-drop, take_all}
use Rattle.e57_base.specs.Count.{Rose}
use Rattle.e57_base.specs.Source.{SourceView, HasPage, HasRest, HoldsSize, ReadsPage, ReadsRest, page_of, page_length, rest_of}
use Rattle.e57_base.specs.declared.fault.Failed.{Failed}
use Rattle.e57_base.specs.declared.fault.RunFault.{RunFault}
use Rattle.e57_base.specs.declared.fault.RunFault.TheVariants.{Refused, Source, Out, Memory, Ask}
use Rattle.e57_base.proofs.CountLaws.{rose_before}
use Rattle.e57_base.proofs.Told.{told_both, told_here, told_map, length_told}
use Rattle.e57_page.specs.Pages.{AsksFor}
use Rattle.e57_page.proofs.PagesLaws.{asks_for_none, asks_for_on}
use Rattle.e57_import.specs.Reading.{pages_of, AddsRest, HasPages, IsReadCause, ReadsAll, ReadsFirst, ReadsFront, ReadsSome, StopsAtRest, StopsWithin}

numbers_more : (from n : ℕ) → range_with_len from n ++ (from + n) ∷ [] ≡ range_with_len from (n + 1)
numbers_more from zero = rw (add-zero)
numbers_more from (suc n) =
    let place : from + suc n ≡ from + 1 + n = omega arith in
    rw (place, add-one (suc n)) (ap (λ (ns : List ℕ). from ∷ ns) (rw (add-one n) at (numbers_more (from + 1) n)))

one_more : (n : ℕ) → range_with_len 0 n ++ n ∷ [] ≡ range_with_len 0 (n + 1)
one_more n = ap (λ (k : ℕ). range_with_len 0 n ++ k ∷ []) (sym (zero-add n)) ∙ numbers_more 0 n

-- no page yet
pub front_first : (source : SourceView) → ReadsFront 0 source [] source
front_first source = record { reads = asks_for_none source; long = refl; told = at_first source.held }
  where
    at_first : (held : Option (List ℕ)) → IfSome held (λ file. [] ≡ take (page_length * 0) file)
    at_first None = tt
    at_first (Some file) = refl

-- the next page was asked for
asks_next : {T : Type 0} (n : ℕ) (page : List ℕ) (result : Result T Failed) (old mid new : SourceView) → ReadsFirst n old mid → ReadsPage mid n page result new → ReadsFirst (n + 1) old new
asks_next n page result old mid new reads read =
    subst (λ (pages : List ℕ). AsksFor old pages new) (one_more n) (asks_for_on (range_with_len 0 n) (n ∷ []) reads (record { same = read.same; asked = read.asked; faults = read.faults }))

-- and read
pub front_more : (n : ℕ) (page text : List ℕ) (u : Unit {0}) (old mid new : SourceView) → length page ≡ 1024 → ReadsFront n old text mid → ReadsPage {T = Unit {0}} mid n page (Ok u) new → ReadsFront (n + 1) old (text ++ page) new
front_more n page text u old mid new long front read = record {
  reads = asks_next {T = Unit {0}} n page (Ok u) old mid new front.reads read;
  long = let sum = length-append text page in let before = front.long in omega (arith, sum, before, long);
  told =
      told_both (λ file. text ≡ take (page_length * n) file) (λ file. page ≡ page_of file n) (λ file. text ++ page ≡ take (page_length * (n + 1)) file) old.held
      (λ file is this.
      let next : page_length * (n + 1) ≡ page_length * n + page_length = omega arith in
      ap (λ (x : List ℕ). x ++ page) is ∙ ap (λ (x : List ℕ). take (page_length * n) file ++ x) this
      ∙ sym (take-add (page_length * n) page_length file) ∙ ap (λ k. take k file) (sym next))
      front.told (told_here (λ file. page ≡ page_of file n) mid.held old.held (sym front.reads.same.held) read.read);
}

-- the source failed at a page, or memory ran out behind it
pub front_fails : (n most : ℕ) (page text : List ℕ) (e : Failed) (old mid new : SourceView) → n < most → ReadsFront n old text mid → ReadsPage {T = Unit {0}} mid n page (Err e) new → StopsWithin most old Source new
front_fails n most page text e old mid new few front read = record {
  reads = record { count = n + 1; few = omega arith; reads = asks_next {T = Unit {0}} n page (Err e) old mid new front.reads read };
  cause = rose_before old.faults mid.faults new.faults front.reads.faults read.cause;
}

pub front_full : (n most : ℕ) (page text : List ℕ) (u : Unit {0}) (old mid new : SourceView) → n < most → ReadsFront n old text mid → ReadsPage {T = Unit {0}} mid n page (Ok u) new → StopsWithin most old Memory new
front_full n most page text u old mid new few front read = record {
  reads = record { count = n + 1; few = omega arith; reads = asks_next {T = Unit {0}} n page (Ok u) old mid new front.reads read };
  cause = tt;
}

-- the next page is there
pub has_page : (n count : ℕ) (text : List ℕ) (old new : SourceView) → n < count → HasPages count old → ReadsFront n old text new → HasPage new n
has_page n count text old new less has front = subst (λ (size : Option ℕ). IsSomeAnd size (λ size. n < size / page_length)) (sym front.reads.same.size) (there old.size has)
  where
    there : (size : Option ℕ) → IsSomeAnd size (λ size. count ≤ size / page_length) → IsSomeAnd size (λ size. n < size / page_length)
    there None h = h
    there (Some size) h = omega (arith, less, h)

-- ---- the whole file

-- so many bytes have as many whole pages, or one page more
whole_pages : (size : ℕ) → size % 1024 ≡ 0 → pages_of size ≡ size / 1024
whole_pages size whole = omega (arith, whole)

page_more : (size : ℕ) → 0 < size % 1024 → pages_of size ≡ size / 1024 + 1
page_more size rest = omega (arith, rest)

-- the file has whole pages alone
pub all_whole : (size : ℕ) (text : List ℕ) (old new : SourceView) → HoldsSize old → old.size ≡ Some size → size % 1024 ≡ 0 → ReadsFront (size / 1024) old text new → ReadsAll size old text new
all_whole size text old new holds known whole front = record {
  reads = subst (λ n. ReadsFirst n old new) (sym (whole_pages size whole)) front.reads;
  long = let long = front.long in omega (arith, long, whole);
  told =
      told_both (λ file. length file ≡ size) (λ file. text ≡ take (page_length * (size / 1024)) file) (λ file. text ≡ file) old.held
      (λ file long is. is ∙ take_all (page_length * (size / 1024)) file (omega (arith, long, whole))) (length_told old.held old.size size holds known) front.told;
}

-- the bytes behind the whole pages of a file
rest_is : (size : ℕ) (file : List ℕ) → length file ≡ size → take (size % 1024) (rest_of file) ≡ drop (1024 * (size / 1024)) file
rest_is size file long =
    let place : length file / 1024 * 1024 ≡ 1024 * (size / 1024) = omega (arith, long) in
    let back = drop (1024 * (size / 1024)) file in
    let few : size % 1024 ≡ length back = let left = length-drop (1024 * (size / 1024)) file in omega (arith, left, long) in
    subst (λ k. take (size % 1024) (drop k file ++ replicate (1024 - length (drop k file)) 0) ≡ back) (sym place)
    (subst (λ k. take k (back ++ replicate (1024 - length back) 0) ≡ back) (sym few) (take-append_seam back (replicate (1024 - length back) 0)))

-- the file has a part of a page behind them
pub all_with_rest : (size : ℕ) (front text : List ℕ) (old mid new : SourceView) → HoldsSize old → old.size ≡ Some size → 0 < size % 1024 → ReadsFront (size / 1024) old front mid → AddsRest size front mid text new
    → ReadsAll size old text new
all_with_rest size front text old mid new holds known rest reads adds = record {
  reads =
      subst (λ n. ReadsFirst n old new) (sym (page_more size rest))
      (subst (λ (pages : List ℕ). AsksFor old pages new) (one_more (size / 1024)) (asks_for_on (range_with_len 0 (size / 1024)) (size / 1024 ∷ []) reads.reads adds.reads));
  long = let a = adds.long in let b = reads.long in omega (arith, a, b);
  told =
      told_both (λ file. (length file ≡ size) × (front ≡ take (page_length * (size / 1024)) file)) (λ file. text ≡ front ++ take (size % page_length) (rest_of file)) (λ file. text ≡ file) old.held
      (λ file first is.
      is ∙ ap (λ (x : List ℕ). front ++ x) (rest_is size file first.0) ∙ ap (λ (x : List ℕ). x ++ drop (1024 * (size / 1024)) file) first.1
      ∙ take-append-drop (1024 * (size / 1024)) file)
      (told_both (λ file. length file ≡ size) (λ file. front ≡ take (page_length * (size / 1024)) file) (λ file. (length file ≡ size) × (front ≡ take (page_length * (size / 1024)) file)) old.held
      (λ file long is. (long, is)) (length_told old.held old.size size holds known) reads.told)
      (told_here (λ file. text ≡ front ++ take (size % page_length) (rest_of file)) mid.held old.held (sym reads.reads.same.held) adds.told);
}

-- what stopped the reading behind the first whole pages
pub stops_at_rest : (size : ℕ) (front : List ℕ) (fault : RunFault) (old mid new : SourceView) → 0 < size % 1024 → ReadsFront (size / 1024) old front mid → StopsAtRest size mid fault new → StopsWithin (pages_of size) old fault new
stops_at_rest size front fault old mid new rest reads stops = record {
  reads = record {
    count = size / 1024 + 1;
    few = let more = page_more size rest in omega (arith, more);
    reads = subst (λ (pages : List ℕ). AsksFor old pages new) (one_more (size / 1024)) (asks_for_on (range_with_len 0 (size / 1024)) (size / 1024 ∷ []) reads.reads stops.reads);
  };
  cause = cause_before fault old mid new reads.reads.faults stops.cause;
}
  where
    cause_before : (fault : RunFault) (old mid new : SourceView) → old.faults ≤ mid.faults → IsReadCause mid fault new → IsReadCause old fault new
    cause_before (Refused found) old mid new later cause = cause
    cause_before Source old mid new later cause = rose_before old.faults mid.faults new.faults later cause
    cause_before Out old mid new later cause = cause
    cause_before Memory old mid new later cause = cause
    cause_before (Ask why) old mid new later cause = cause

-- the reading stopped within the whole pages
pub stops_before : (size : ℕ) (fault : RunFault) (old new : SourceView) → StopsWithin (size / 1024) old fault new → StopsWithin (pages_of size) old fault new
stops_before size fault old new stops = record {
  reads = record { count = stops.reads.count; few = let few = stops.reads.few in omega (arith, few); reads = stops.reads.reads };
  cause = stops.cause;
}
