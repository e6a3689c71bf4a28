-- Blocks of the kept fields and of those that are tested, and limits for these.
use Rattle.std.proofs.Common.{◌≡◌, ℕ, zero, suc, ◌+◌, ◌<◌, ◌≤◌, Bool, true, false, List, [], ◌∷◌, ◌++◌, length, map, take, Option, refl, sym, subst, ap, ◌∙◌, arith}
use Rattle.std.specs.Prelude.{slice_index_or, MatchResult, Result}
use Rattle.std.specs.List.{AllByRecursion, range_with_len}
use Rattle.std.proofs.lemmas.List.{append_assoc, length-append, length-map}
use Rattle.e57_base.specs.Source.{SourceView}
use Rattle.e57_base.specs.Target.{TargetView}
use Rattle.e57_base.specs.declared.fault.RunFault.{RunFault}
use Rattle.e57_base.specs.declared.fault.RunFault.TheVariants.{Memory}
use Rattle.e57_base.proofs.Lists.{all_append}
use Rattle.e57_base.proofs.Told.{told_all}
use Rattle.e57_layout.specs.Values.{ItemKind, item_kind, strings}
use Rattle.e57_layout.specs.declared.field.Field.{Field}
use Rattle.e57_layout.specs.declared.field.Fixed.{Fixed}
use Rattle.e57_layout.specs.declared.section.Section.{Section}
use Rattle.e57_page_out.specs.Writing.{Writing, IsBeingWritten}
use Rattle.e57_page_out.proofs.Sequences.{leaves_still}
use Rattle.e57_cloud.specs.Cloud.{Leaf}
use Rattle.e57_column.specs.Reading.{AreWhole}
use Rattle.e57_stream.proofs.AskingLaws.{asks_met_none}
use Rattle.e57_blocks.specs.Block.{Holds}
use Rattle.e57_blocks.specs.Fields.{AreOf, asked_of, Blocks, field_at, field_of, leaf_of, IsOf, OnSlice, OpensBlocks, Slice, slice_at, slice_of}
use Rattle.e57_chunk_out.specs.CloudCalls.{chosen_kinds, kinds_in, new_cloud}
use Rattle.e57_chunk_out.specs.Standing.{Cloud}
use Rattle.e57_chunk_out.specs.declared.cloud_out.Written.{Written}
use Rattle.e57_copy.specs.Adding.{block_kinds}
use Rattle.e57_copy.specs.Copying.{StandBefore}
use Rattle.e57_copy.specs.Found.{asked_kinds}
use Rattle.e57_copy.proofs.Found.{kinds_asked}
use Rattle.e57_plain.specs.Kept.{chosen}
use Rattle.e57_filter.specs.Keeping.{IsTestOf, Sieve}
use Rattle.e57_filter.specs.KeptSection.{limits_from, LosesKept, PutsKept}
use Rattle.e57_filter.specs.Selecting.{test_fields, IsFieldTest, AreOfCloud}
use Rattle.e57_filter.specs.declared.keep.Limits.{Limits}
use Rattle.e57_filter.specs.declared.select.FieldTest.{FieldTest}
use Rattle.e57_filter.specs.declared.select.Selected.{Selected}
use Rattle.e57_filter.proofs.Picking.{chosen-few}

-- ---- limits

limits-last : (b : ℕ) (tests : List FieldTest) (test : FieldTest) → limits_from b (tests ++ test ∷ []) ≡ limits_from b tests ++ (record { block = b + length tests; low = test.low; high = test.high }) ∷ []
limits-last b [] test =
    let place : b ≡ b + 0 = omega arith in
    ap (λ (k : ℕ). (record { block = k; low = test.low; high = test.high }) ∷ []) place
limits-last b (t ∷ tests) test =
    let place : b + 1 + length tests ≡ b + suc (length tests) = omega arith in
    ap (λ (limits : List Limits). (record { block = b; low = t.low; high = t.high }) ∷ limits)
    (limits-last (b + 1) tests test ∙ ap (λ (k : ℕ). limits_from (b + 1) tests ++ (record { block = k; low = test.low; high = test.high }) ∷ []) place)

take-one : {X : Type 0} (xs : List X) (j : ℕ) (x : X) → j < length xs → take (j + 1) xs ≡ take j xs ++ slice_index_or xs j x ∷ []
take-one [] j x below = absurd (omega (arith, below))
take-one (y ∷ ys) zero x below = refl
take-one {X = X} (y ∷ ys) (suc j) x below =
    let next : suc j + 1 ≡ suc (j + 1) = omega arith in
    ap (λ (k : ℕ). take k (y ∷ ys)) next ∙ ap (λ (zs : List X). y ∷ zs) (take-one ys j x (omega (arith, below)))

pub length-first : {X : Type 0} (xs : List X) (j : ℕ) → j ≤ length xs → length (take j xs) ≡ j
length-first xs zero within = refl
length-first [] (suc j) within = absurd (omega (arith, within))
length-first (x ∷ xs) (suc j) within = ap suc (length-first xs j (omega (arith, within)))

pub limits-more : (b j : ℕ) (tests : List FieldTest) (test : FieldTest) → j < length tests
    → limits_from b (take j tests) ++ (record { block = b + j; low = (slice_index_or tests j test).low; high = (slice_index_or tests j test).high }) ∷ [] ≡ limits_from b (take (j + 1) tests)
limits-more b j tests test below =
    let t = slice_index_or tests j test in
    ap (λ (k : ℕ). limits_from b (take j tests) ++ (record { block = b + k; low = t.low; high = t.high }) ∷ []) (sym (length-first tests j (omega (arith, below))))
    ∙ sym (limits-last b (take j tests) t)
    ∙ ap (limits_from b) (sym (take-one tests j test below))

-- ---- numbers of fields

range-below : (from n high : ℕ) → from + n ≤ high → AllByRecursion (λ (f : ℕ). f < high) (range_with_len from n)
range-below from zero high within = tt
range-below from (suc n) high within = (omega (arith, within), range-below (from + 1) n high (omega (arith, within)))

pub chosen-all : {X : Type 0} (P : X → Type 0) (flags : List Bool) (xs : List X) → AllByRecursion P xs → AllByRecursion P (chosen flags xs)
chosen-all P [] xs all = tt
chosen-all P (b ∷ flags) [] all = tt
chosen-all P (true ∷ flags) (x ∷ xs) all = (all.0, chosen-all P flags xs all.1)
chosen-all P (false ∷ flags) (x ∷ xs) all = chosen-all P flags xs all.1

tests-below : (fields : List Field) (tests : List FieldTest) → AllByRecursion (IsFieldTest fields) tests → AllByRecursion (λ (f : ℕ). f < length fields) (test_fields tests)
tests-below fields [] all = tt
tests-below fields (test ∷ tests) all = (all.0.there, tests-below fields tests all.1)

module _ (fields : List Field) (s : Selected) (of : AreOfCloud fields s) where
  pub numbers-below : AllByRecursion (λ (f : ℕ). f < length fields) s.numbers.items
  numbers-below =
      subst (λ (xs : List ℕ). AllByRecursion (λ (f : ℕ). f < length fields) xs) (sym of.numbers)
      (chosen-all (λ (f : ℕ). f < length fields) s.chosen.items (range_with_len 0 (length fields)) (range-below 0 (length fields) (length fields) (omega arith)))

  pub asked-below : AllByRecursion (λ (f : ℕ). f < length fields) (s.numbers.items ++ test_fields s.tests.items)
  asked-below = all_append (λ (f : ℕ). f < length fields) s.numbers.items (test_fields s.tests.items) numbers-below (tests-below fields s.tests.items of.tests)

  pub numbers-few : length s.numbers.items ≤ length fields
  numbers-few =
      let few = chosen-few s.chosen.items (range_with_len 0 (length fields)) in
      let flags = of.flags in
      let many = ap (λ (xs : List ℕ). length xs) of.numbers in
      omega (arith, few, flags, many)

-- ---- kinds

-- the kind of field f
abbrev pub kind_at : List Field → ℕ → ItemKind
kind_at fields f = item_kind (field_at fields f).kind

index-kind : (fields : List Field) (f : ℕ) → slice_index_or (kinds_in fields) f strings ≡ kind_at fields f
index-kind [] zero = refl
index-kind [] (suc f) = refl
index-kind (field ∷ fields) zero = refl
index-kind (field ∷ fields) (suc f) = index-kind fields f

first-kinds : (fields : List Field) (numbers others : List ℕ) → take (length numbers) (asked_kinds (asked_of fields (numbers ++ others))) ≡ chosen_kinds fields numbers
first-kinds fields [] others = refl
first-kinds fields (f ∷ numbers) others = rw (index-kind fields f, first-kinds fields numbers others) refl

at-front : {X : Type 0} (xs ys : List X) (x d : X) → slice_index_or (xs ++ x ∷ ys) (length xs) d ≡ x
at-front [] ys x d = refl
at-front (z ∷ xs) ys x d = at-front xs ys x d

tests-are : (fields : List Field) (kinds before : List ItemKind) (tests : List FieldTest) → kinds ≡ before ++ map (kind_at fields) (test_fields tests) → AllByRecursion (IsFieldTest fields) tests
    → AllByRecursion (IsTestOf kinds) (limits_from (length before) tests)
tests-are fields kinds before [] is all = tt
tests-are fields kinds before (test ∷ tests) is all =
    let kind = kind_at fields test.field in
    let rest = map (kind_at fields) (test_fields tests) in
    let here : slice_index_or kinds (length before) strings ≡ kind = ap (λ (ks : List ItemKind). slice_index_or ks (length before) strings) is ∙ at-front before rest kind strings in
    let more : kinds ≡ (before ++ kind ∷ []) ++ rest = is ∙ sym (append_assoc before (kind ∷ []) rest) in
    let long : length (before ++ kind ∷ []) ≡ length before + 1 = length-append before (kind ∷ []) in
    (subst (λ (k : ItemKind). AreWhole k) (sym here) all.0.integers, subst (λ (b : ℕ). AllByRecursion (IsTestOf kinds) (limits_from b tests)) long (tests-are fields kinds (before ++ kind ∷ []) tests more all.1))

kinds-both : (fields : List Field) (numbers others : List ℕ) → asked_kinds (asked_of fields (numbers ++ others)) ≡ map (kind_at fields) numbers ++ map (kind_at fields) others
kinds-both fields [] [] = refl
kinds-both fields [] (f ∷ others) = ap (λ (ks : List ItemKind). kind_at fields f ∷ ks) (kinds-both fields [] others)
kinds-both fields (f ∷ numbers) others = ap (λ (ks : List ItemKind). kind_at fields f ∷ ks) (kinds-both fields numbers others)

-- ---- new blocks

module _ (section : Section) (fixed : Option Fixed) (fields : List Field) (s : Selected) (asked : List ℕ) (blocks : Blocks) (is : asked ≡ s.numbers.items ++ test_fields s.tests.items) (cloud : AreOfCloud fields s) (few : length fields ≤ 512) (of : AreOf section fixed blocks) (opens : OpensBlocks section fixed (asked_of fields asked) blocks.blocks) where
  abbrev all_asked : List ℕ
  all_asked = s.numbers.items ++ test_fields s.tests.items

  fields_are : map field_of blocks.blocks ≡ asked_of fields all_asked
  fields_are = opens.are.fields ∙ ap (asked_of fields) is

  kinds_are : block_kinds blocks.blocks ≡ asked_kinds (asked_of fields all_asked)
  kinds_are = kinds_asked blocks.blocks ∙ ap asked_kinds fields_are

  pub blocks_stand : (i : ℕ) (source : SourceView) → StandBefore blocks i source
  blocks_stand i source = record {
    all = subst (λ (t : Section). AllByRecursion (IsOf t blocks.fixed) blocks.blocks) (sym of.in_section)
        (subst (λ (x : Option Fixed). AllByRecursion (IsOf section x) blocks.blocks) (sym of.with_fixed) opens.are.all);
    ready = opens.ready i;
    holds = told_all (λ file. AllByRecursion (Holds file) blocks.blocks) source.held (λ file. opens.holds file);
  }

  blocks_many : length blocks.blocks ≡ length s.numbers.items + length s.tests.items
  blocks_many =
      sym (length-map blocks.blocks field_of)
      ∙ ap (λ (xs : List (ℕ × Leaf)). length xs) fields_are
      ∙ length-map all_asked (λ (f : ℕ). (f, leaf_of (field_at fields f)))
      ∙ length-append s.numbers.items (test_fields s.tests.items)
      ∙ ap (λ (k : ℕ). length s.numbers.items + k) (length-map s.tests.items (λ (test : FieldTest). test.field))

  pub many_blocks : (0 < length s.numbers.items) × (length s.numbers.items ≤ 512) × (length s.numbers.items ≤ length blocks.blocks) × (length blocks.blocks ≤ 520)
  many_blocks =
      let many = blocks_many in
      let less = numbers-few fields s cloud in
      let some = cloud.some in
      let tests = cloud.few_tests in
      (omega (arith, some), omega (arith, less, few), omega (arith, many), omega (arith, many, less, few, tests))

  pub kinds_first : take (length s.numbers.items) (block_kinds blocks.blocks) ≡ chosen_kinds fields s.numbers.items
  kinds_first = ap (λ (ks : List ItemKind). take (length s.numbers.items) ks) kinds_are ∙ first-kinds fields s.numbers.items (test_fields s.tests.items)

  pub tests_of : AllByRecursion (IsTestOf (block_kinds blocks.blocks)) (limits_from (length s.numbers.items) s.tests.items)
  tests_of =
      subst (λ (b : ℕ). AllByRecursion (IsTestOf (block_kinds blocks.blocks)) (limits_from b s.tests.items)) (length-map s.numbers.items (kind_at fields))
      (tests-are fields (block_kinds blocks.blocks) (map (kind_at fields) s.numbers.items) s.tests.items (kinds_are ∙ kinds-both fields s.numbers.items (test_fields s.tests.items)) cloud.tests)

  pub slice_is : (from count : ℕ) → slice_at blocks from count ≡ slice_of section fixed fields all_asked from count
  slice_is from count =
      ap (λ (t : Section). slice_with t blocks.fixed (map field_of blocks.blocks)) of.in_section
      ∙ ap (λ (x : Option Fixed). slice_with section x (map field_of blocks.blocks)) of.with_fixed
      ∙ ap (λ (xs : List (ℕ × Leaf)). slice_with section fixed xs) fields_are
    where
      slice_with : Section → Option Fixed → List (ℕ × Leaf) → Slice
      slice_with t x xs = record { section = t; fixed = x; asked = xs; from = from; count = count }

  pub new_cloud_is : (c : Cloud) (n most : ℕ) → c ≡ new_cloud (chosen_kinds fields s.numbers.items) n most → c ≡ new_cloud (take (length s.numbers.items) (block_kinds blocks.blocks)) c.chunk c.at_most
  new_cloud_is c n most is =
      subst (λ (ks : List ItemKind). c ≡ new_cloud ks c.chunk c.at_most) (sym kinds_first) (subst (λ (x : Cloud). x ≡ new_cloud (chosen_kinds fields s.numbers.items) x.chunk x.at_most) (sym is) refl)

-- memory ran out before anything was read
pub nothing_put : {T : Type 0} (view : T → TargetView) (s : Sieve) (m : ℕ) (a : Slice) (n : ℕ) (kinds : List ItemKind) (source : SourceView) (out : Writing T) → IsBeingWritten view out → LosesKept view s m a n kinds source source out Memory out
nothing_put view s m a n kinds source out state = record { met = asks_met_none (OnSlice a) source; left = leaves_still view out state; cause = tt }

-- what a section is answered as
abbrev pub Answers : {T : Type 0} → (T → TargetView) → Sieve → ℕ → Slice → ℕ → List ItemKind → SourceView → SourceView → Writing T → Result Written RunFault → Writing T → Type 0
Answers view s m a n kinds old new out result out' = MatchResult result (λ w. PutsKept view s m a n kinds old new out w out') (λ fault. LosesKept view s m a n kinds old new out fault out')

pub same_answer : {T : Type 0} (view : T → TargetView) (s t : Sieve) (m : ℕ) (a b : Slice) (n k : ℕ) (kinds others : List ItemKind) (old new : SourceView) (out : Writing T) (result : Result Written RunFault) (out' : Writing T) → s ≡ t → a ≡ b → n ≡ k → kinds ≡ others
    → Answers view s m a n kinds old new out result out' → Answers view t m b k others old new out result out'
same_answer view s t m a b n k kinds others old new out result out' sieves slices chunks same answers =
    subst (λ (x : Sieve). Answers view x m b k others old new out result out') sieves
    (subst (λ (x : Slice). Answers view s m x k others old new out result out') slices
    (subst (λ (x : ℕ). Answers view s m a x others old new out result out') chunks
    (subst (λ (x : List ItemKind). Answers view s m a n x old new out result out') same answers)))
