-- What each finder finds.
use Rattle.std.specs.Prelude.{◌≡◌, ℕ, ◌+◌, ◌<◌, ◌≤◌, ◌==◌, ◌||◌, Bool, true, false, List, Option, Some, None, IsSomeAnd, Result, Ok, Err, MatchResult}
use Rattle.std.specs.List.{AllByRecursion}
use Rattle.std.specs.Result.{IsOkAnd}
use Rattle.std.proofs.Common.{refl, sym, subst, ◌∙◌, arith, inl, inr}
use Rattle.e57_base.specs.Source.{SourceView}
use Rattle.e57_base.proofs.Told.{told_map, told_all}
use Rattle.e57_base.specs.declared.fault.Fault.{Fault}
use Rattle.e57_base.specs.declared.fault.ReadFault.{ReadFault}
use Rattle.e57_base.specs.declared.fault.ReadFault.TheVariants.{Refused, Source}
use Rattle.e57_base.specs.declared.kind.Kind.{Kind}
use Rattle.e57_layout.specs.declared.section.Section.{Section}
use Rattle.e57_layout.specs.declared.field.Fixed.{Fixed}
use Rattle.e57_cloud.specs.PathItem.{ChunkAt, path, chunk_at}
use Rattle.e57_cloud.specs.Met.{OnPath}
use Rattle.e57_index.specs.Standing.{Cursor, StandsIn as CursorStands}
use Rattle.e57_index.specs.Finding.{OnWay as OnIndexWay, AsksWay, chunk_of, FindsChunk, IsWayCause, LosesChunk}
use Rattle.e57_index.specs.Reading.{is_index_kind}
use Rattle.e57_index.specs.declared.cursor.Found.{Found}
use Rattle.e57_ahead.specs.Counting.{Search, OnWay, StandsIn as CountStands}
use Rattle.e57_ahead.specs.Finding.{AsksOf, is_found_kind, HasRecords, Finds as FindsCounted, IsFindCause as IsCountCause, FindsNot as FindsNotCounted}
use Rattle.e57_ahead.specs.declared.reached.Covered.{Covered}
use Rattle.e57_stream.specs.Asking.{AsksMet}
use Rattle.e57_stream.specs.Taking.{is_walk_kind}
use Rattle.e57_stream.specs.Reading.{is_item_kind}
use Rattle.e57_texts.specs.Reading.{is_limit_kind, is_text_kind}
use Rattle.e57_stream.proofs.AskingLaws.{asks_met_none}
use Rattle.e57_stream.specs.declared.bytestream.Bytestream.{Bytestream}
use Rattle.e57_column.specs.declared.finder.Finder.TheVariants.{ByIndex, ByCounting, OneChunk}
use Rattle.e57_column.specs.Finding.{FinderStands, AreIn, IsLedTo, OnCount, OnSearch, is_column_kind, Finds, IsFindCause, FindsNot}
use Rattle.e57_cloud.proofs.Laws.Reached.{chunk_at-indexed}
use Rattle.e57_base.proofs.Lists.{all_map}

-- ---- by the index

index_met : (old new : SourceView) (b : Bytestream) (before : Cursor) (i : ℕ) → before.section ≡ b.section → AsksWay before i old new → AsksMet (λ file p. FinderStands file (ByIndex before) → OnSearch file b i p) old new
index_met old new b before i same asks = record {
  pages = asks.pages;
  are_met = told_map (λ file. AllByRecursion (OnIndexWay before i file) asks.pages) (λ file. AllByRecursion (λ (p : ℕ). FinderStands file (ByIndex before) → OnSearch file b i p) asks.pages) old.held
      (λ file all. all_map (OnIndexWay before i file) (λ (p : ℕ). FinderStands file (ByIndex before) → OnSearch file b i p) asks.pages
      (λ p way stands. inl (subst (λ (s : Section). OnPath file s i p) same (way stands))) all) asks.allowed;
  asks = asks.asks;
}

pub or_later : (a b : Bool) → b ≡ true → (a || b) ≡ true
or_later true b is = refl
or_later false b is = is

pub index_kind : (kind : Kind) → is_index_kind kind ≡ true → is_column_kind kind ≡ true
index_kind kind is = rw is refl

pub found_kind : (kind : Kind) → is_found_kind kind ≡ true → is_column_kind kind ≡ true
found_kind kind is = or_later (is_index_kind kind) _ (rw is refl)

-- the kinds of faults of a read
pub text_kind : (kind : Kind) → is_text_kind kind ≡ true → is_column_kind kind ≡ true
text_kind kind is = or_later (is_index_kind kind) _ (or_later (is_found_kind kind) _ (either (is_walk_kind kind) (is_item_kind kind) (is_limit_kind kind) is))
  where
    either : (a b c : Bool) → (a || c) ≡ true → (a || (b || c)) ≡ true
    either true b c is = refl
    either false true c is = refl
    either false false c is = is

pub item_kind : (kind : Kind) → (is_walk_kind kind || is_item_kind kind) ≡ true → is_column_kind kind ≡ true
item_kind kind is = or_later (is_index_kind kind) _ (or_later (is_found_kind kind) _ (either (is_walk_kind kind) (is_item_kind kind) (is_limit_kind kind) is))
  where
    either : (a b c : Bool) → (a || b) ≡ true → (a || (b || c)) ≡ true
    either true b c is = refl
    either false true c is = refl
    either false false c is = absurd cc

index_are : (file : List ℕ) (b : Bytestream) (s : Section) (i : ℕ) (f : Found) → s ≡ b.section → (b.section.index == 0) ≡ false → f.start ≤ i → ((j : ℕ) → f.start ≤ j → j < f.until → path file s j ≡ Ok (chunk_of f)) → AreIn file b f.start f.place i f.until
index_are file b s i f same indexed low is j from below =
    let leads : path file b.section j ≡ Ok (chunk_of f) = subst (λ (t : Section). path file t j ≡ Ok (chunk_of f)) same (is j (omega (arith, low, from)) below) in
    subst (λ (r : Result ChunkAt Fault). IsOkAnd r (λ chunk. (chunk.first ≡ f.start) × (chunk.place ≡ f.place))) (sym (chunk_at-indexed file b.section b.fixed j indexed ∙ leads)) (refl, refl)

index_led : (file : List ℕ) (b : Bytestream) (s : Section) (i : ℕ) (f : Found) → s ≡ b.section → f.start ≤ i → i < f.until → f.until ≤ b.section.count → ((j : ℕ) → f.start ≤ j → j < f.until → path file s j ≡ Ok (chunk_of f)) → IsLedTo file b.section (chunk_of f)
index_led file b s i f same low high most is indexed = (i, omega (arith, high, most), subst (λ (t : Section). path file t i ≡ Ok (chunk_of f)) same (is i low high))

finds_index : (old new : SourceView) (b : Bytestream) (before after : Cursor) (i : ℕ) (f : Found) → before.section ≡ b.section → (b.section.index == 0) ≡ false → FindsChunk old before i f new after → Finds old b (ByIndex before) i f new (ByIndex after)
finds_index old new b before after i f same indexed found =
    let most : f.until ≤ b.section.count = subst (λ (s : Section). f.until ≤ s.count) same found.most in
    let end : f.place + 4 ≤ b.section.end = subst (λ (s : Section). f.place + 4 ≤ s.end) same found.within in
    record {
      low = found.low;
      high = found.high;
      most = most;
      within = omega (arith, end);
      met = index_met old new b before i same found.source;
      stands = found.stands;
      are = told_map (λ file. CursorStands file before → (j : ℕ) → f.start ≤ j → j < f.until → path file before.section j ≡ Ok (chunk_of f)) (λ file. FinderStands file (ByIndex before) → AreIn file b f.start f.place i f.until) old.held
          (λ file is stands. index_are file b before.section i f same indexed found.low (is stands)) found.is;
      led = told_map (λ file. CursorStands file before → (j : ℕ) → f.start ≤ j → j < f.until → path file before.section j ≡ Ok (chunk_of f)) (λ file. FinderStands file (ByIndex before) → IsLedTo file b.section (chunk_of f)) old.held
          (λ file is stands. index_led file b before.section i f same found.low found.high most (is stands)) found.is;
    }

index_cause : (old new : SourceView) (b : Bytestream) (before : Cursor) (i : ℕ) (found : ReadFault) → before.section ≡ b.section → (b.section.index == 0) ≡ false → IsWayCause old before i found new → IsFindCause old b (ByIndex before) i found new
index_cause old new b before i (Refused found) same indexed cause = (
  index_kind found.kind cause.0,
  told_map (λ file. CursorStands file before → path file before.section i ≡ Err found) (λ file. FinderStands file (ByIndex before) → chunk_at file b.section b.fixed i ≡ Err found) old.held
      (λ file is stands. chunk_at-indexed file b.section b.fixed i indexed ∙ subst (λ (s : Section). path file s i ≡ Err found) same (is stands)) cause.1,
)
index_cause old new b before i Source same indexed cause = cause

-- what a search by the index answers
pub by_index : (old new : SourceView) (b : Bytestream) (before after : Cursor) (i : ℕ) (result : Result Found ReadFault) → before.section ≡ b.section → (b.section.index == 0) ≡ false
    → MatchResult result (λ f. FindsChunk old before i f new after) (λ found. LosesChunk old before i found new after)
    → MatchResult result (λ f. Finds old b (ByIndex before) i f new (ByIndex after)) (λ found. FindsNot old b (ByIndex before) i found new (ByIndex after))
by_index old new b before after i (Ok f) same indexed found = finds_index old new b before after i f same indexed found
by_index old new b before after i (Err found) same indexed lost = record { met = index_met old new b before i same lost.source; stands = lost.stands; cause = index_cause old new b before i found same indexed lost.cause }

-- ---- by counting

-- what a column needs of a search that counts
abbrev pub Counts : List ℕ → Search → Type 0
Counts file search = CountStands file search.section search.fixed search.reached

count_met : (old new : SourceView) (b : Bytestream) (search : Search) (i low high : ℕ) → search.section ≡ b.section → b.fixed ≡ Some search.fixed → search.section.index ≡ 0
    → AsksOf (λ file p. Counts file search → OnWay file search.section search.fixed i p) low high old new → AsksMet (λ file p. FinderStands file (ByCounting search) → OnSearch file b i p) old new
count_met old new b search i low high same fixed unindexed asks = record {
  pages = asks.pages;
  are_met = told_map (λ file. AllByRecursion (λ (p : ℕ). Counts file search → OnWay file search.section search.fixed i p) asks.pages) (λ file. AllByRecursion (λ (p : ℕ). FinderStands file (ByCounting search) → OnSearch file b i p) asks.pages) old.held
      (λ file all. all_map (λ (p : ℕ). Counts file search → OnWay file search.section search.fixed i p) (λ (p : ℕ). FinderStands file (ByCounting search) → OnSearch file b i p) asks.pages
      (λ p way stands. inr (counted file p (way stands))) all) asks.each;
  asks = asks.asks;
}
  where
    counted : (file : List ℕ) (p : ℕ) → OnWay file search.section search.fixed i p → OnCount file b i p
    counted file p way = (
      subst (λ (s : Section). s.index ≡ 0) same unindexed,
      subst (λ (o : Option Fixed). IsSomeAnd o (λ x. OnWay file b.section x i p)) (sym fixed) (subst (λ (s : Section). OnWay file s search.fixed i p) same way),
    )

counted_are : (file : List ℕ) (b : Bytestream) (search : Search) (i : ℕ) (c : Covered) → search.section ≡ b.section → b.fixed ≡ Some search.fixed → HasRecords file search.section search.fixed i c → AreIn file b c.start c.place i c.until
counted_are file b search i c same fixed are j from below =
    subst (λ (o : Option Fixed). IsOkAnd (chunk_at file b.section o j) (λ chunk. (chunk.first ≡ c.start) × (chunk.place ≡ c.place))) (sym fixed)
    (subst (λ (s : Section). IsOkAnd (chunk_at file s (Some search.fixed) j) (λ chunk. (chunk.first ≡ c.start) × (chunk.place ≡ c.place))) same (are j from below))

kept_same : (file : List ℕ) (before after : Search) → after.section ≡ before.section → after.fixed ≡ before.fixed → CountStands file before.section before.fixed after.reached → Counts file after
kept_same file before after section fixed stands = rw (section, fixed) stands

-- what a search by counting answers
pub by_counting : (old new : SourceView) (b : Bytestream) (before after : Search) (i low : ℕ) (c : Covered) → before.section ≡ b.section → b.fixed ≡ Some before.fixed → b.section.index ≡ 0 → after.section ≡ before.section → after.fixed ≡ before.fixed
    → FindsCounted old (λ file. Counts file before) before.section before.fixed i low c after.reached new
    → Finds old b (ByCounting before) i (record { start = c.start; until = c.until; place = c.place }) new (ByCounting after)
by_counting old new b before after i low c same fixed unindexed section_too fixed_too found =
    let most : c.until ≤ b.section.count = subst (λ (s : Section). c.until ≤ s.count) same found.few in
    let end : c.place ≤ b.section.end = subst (λ (s : Section). c.place ≤ s.end) same found.within in
    let index : before.section.index ≡ 0 = subst (λ (s : Section). s.index ≡ 0) (sym same) unindexed in
    record {
      low = found.after;
      high = found.before;
      most = most;
      within = end;
      met = count_met old new b before i low after.reached.taken same fixed index found.source;
      stands = told_map (λ file. Counts file before → CountStands file before.section before.fixed after.reached) (λ file. FinderStands file (ByCounting before) → FinderStands file (ByCounting after)) old.held
          (λ file kept stands. kept_same file before after section_too fixed_too (kept stands)) found.kept;
      are = told_map (λ file. Counts file before → HasRecords file before.section before.fixed i c) (λ file. FinderStands file (ByCounting before) → AreIn file b c.start c.place i c.until) old.held
          (λ file are stands. counted_are file b before i c same fixed (are stands)) found.read;
      led = told_all (λ file. FinderStands file (ByCounting before) → IsLedTo file b.section (record { first = c.start; until = c.until; place = c.place })) old.held (λ file stands indexed. absurd (indexed_not b.section.index unindexed indexed));
    }
  where
    indexed_not : (n : ℕ) → n ≡ 0 → (n == 0) ≡ false → ⊥
    indexed_not n zero_is indexed = let e : (0 == 0) ≡ false = subst (λ (m : ℕ). (m == 0) ≡ false) zero_is indexed in cc

count_cause : (old new : SourceView) (b : Bytestream) (before : Search) (i : ℕ) (found : ReadFault) → before.section ≡ b.section → b.fixed ≡ Some before.fixed
    → IsCountCause old (λ file. Counts file before) before.section before.fixed i found new → IsFindCause old b (ByCounting before) i found new
count_cause old new b before i (Refused found) same fixed cause = (
  found_kind found.kind cause.0,
  told_map (λ file. Counts file before → chunk_at file before.section (Some before.fixed) i ≡ Err found) (λ file. FinderStands file (ByCounting before) → chunk_at file b.section b.fixed i ≡ Err found) old.held
      (λ file is stands. subst (λ (o : Option Fixed). chunk_at file b.section o i ≡ Err found) (sym fixed) (subst (λ (s : Section). chunk_at file s (Some before.fixed) i ≡ Err found) same (is stands))) cause.1,
)
count_cause old new b before i Source same fixed cause = cause

pub by_counting_not : (old new : SourceView) (b : Bytestream) (before after : Search) (i low : ℕ) (fault : ReadFault) → before.section ≡ b.section → b.fixed ≡ Some before.fixed → b.section.index ≡ 0 → after.section ≡ before.section → after.fixed ≡ before.fixed
    → FindsNotCounted old (λ file. Counts file before) before.section before.fixed i low fault after.reached new
    → FindsNot old b (ByCounting before) i fault new (ByCounting after)
by_counting_not old new b before after i low fault same fixed unindexed section_too fixed_too found =
    let index : before.section.index ≡ 0 = subst (λ (s : Section). s.index ≡ 0) (sym same) unindexed in
    record {
      met = count_met old new b before i low before.section.end same fixed index found.source;
      stands = told_map (λ file. Counts file before → CountStands file before.section before.fixed after.reached) (λ file. FinderStands file (ByCounting before) → FinderStands file (ByCounting after)) old.held
          (λ file kept stands. kept_same file before after section_too fixed_too (kept stands)) found.kept;
      cause = count_cause old new b before i fault same fixed found.cause;
    }

-- ---- one chunk

one_path : (file : List ℕ) (s : Section) (fixed : Option Fixed) (i : ℕ) → s.index ≡ 0 → fixed ≡ None → chunk_at file s fixed i ≡ Ok (record { first = 0; until = s.count; place = s.data_place })
unfolding chunk_at path
one_path file s fixed i unindexed none = rw (none, unindexed) refl

pub one_chunk : (source : SourceView) (b : Bytestream) (i : ℕ) → b.section.index ≡ 0 → b.fixed ≡ None → i < b.section.count → b.section.data_place ≤ b.section.end → Finds source b OneChunk i (record { start = 0; until = b.section.count; place = b.section.data_place }) source OneChunk
one_chunk source b i unindexed none below within = record {
  low = omega arith;
  high = below;
  most = omega arith;
  within = within;
  met = asks_met_none (λ file p. FinderStands file OneChunk → OnSearch file b i p) source;
  stands = told_all (λ file. FinderStands file OneChunk → FinderStands file OneChunk) source.held (λ file stands. stands);
  are = told_all (λ file. FinderStands file OneChunk → AreIn file b 0 b.section.data_place i b.section.count) source.held
      (λ file stands j from before. subst (λ (r : Result ChunkAt Fault). IsOkAnd r (λ chunk. (chunk.first ≡ 0) × (chunk.place ≡ b.section.data_place))) (sym (one_path file b.section b.fixed j unindexed none)) (refl, refl));
  led = told_all (λ file. FinderStands file OneChunk → IsLedTo file b.section (record { first = 0; until = b.section.count; place = b.section.data_place })) source.held
      (λ file stands indexed. absurd (indexed_not b.section.index unindexed indexed));
}
  where
    indexed_not : (n : ℕ) → n ≡ 0 → (n == 0) ≡ false → ⊥
    indexed_not n zero_is indexed = let e : (0 == 0) ≡ false = subst (λ (m : ℕ). (m == 0) ≡ false) zero_is indexed in cc
