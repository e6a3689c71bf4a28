-- Blocks side by side, filled one after another.
use Rattle.std.specs.Prelude.{◌≡◌, ℕ, zero, suc, ◌+◌, ◌<◌, ◌≤◌, min, List, [], ◌∷◌, ◌++◌, map, length, take, drop, get_or, Option, IfSome, Contains, Some, Ok, Err}
use Rattle.std.specs.List.{AllByRecursion}
use Rattle.std.proofs.Common.{set, refl, sym, subst, ap, ◌∙◌, arith, inr}
use Rattle.std.proofs.lemmas.List.{drop_more, drop-set-lt, get_or-map, get_or-set_other, get_or_default, length-map, length-set, map-append, take-append-drop, take_all, take_more_set}
use Rattle.e57_base.proofs.CountLaws.{rose_before}
use Rattle.e57_base.specs.Source.{SourceView}
use Rattle.e57_base.proofs.Told.{told_map, told_both, told_here}
use Rattle.e57_base.specs.declared.fault.Fault.{Fault}
use Rattle.e57_base.specs.declared.fault.OpenFault.{OpenFault}
use Rattle.e57_base.specs.declared.fault.OpenFault.TheVariants.{Refused, Source, Memory}
use Rattle.e57_layout.specs.declared.field.Fixed.{Fixed}
use Rattle.e57_layout.specs.declared.section.Section.{Section}
use Rattle.e57_cloud.specs.Cloud.{Leaf}
use Rattle.e57_cloud.specs.Met.{OnItem}
use Rattle.e57_stream.specs.Asking.{AsksMet}
use Rattle.e57_stream.proofs.AskingLaws.{asks_met_none, asks_met_on, asks_met_map}
use Rattle.e57_column.specs.Column.{leaf_of, column_item, column_length, StandsIn}
use Rattle.e57_column.specs.Reading.{SameField, OnRecords, AsksRecords}
use Rattle.e57_layout.specs.Values.{word}
use Rattle.e57_blocks.specs.Block.{Block, room_of, Holds}
use Rattle.e57_blocks.specs.Filling.{NeedsMore}
use Rattle.e57_blocks.specs.Runs.{HasRecords}
use Rattle.e57_blocks.specs.Fields.{Slice, OnSlice, slice_at, record_fault, field_of, IsOf, AreBlocks, IsReady, AreOfFile, HoldsFrom, FillsBlock, IsBlockCause, FillsNoBlock, FillsBlocks, IsBlocksCause, FillsNoBlocks}
use Rattle.e57_blocks.proofs.Parts.{all_at, all_front, all_set, map_set}
use Rattle.e57_blocks.proofs.Faults.{faults_stop}
use Rattle.e57_base.proofs.Lists.{all_append, all_map}

all_parts : {X : Type 0} (P : X → Type 0) (xs ys : List X) → AllByRecursion P (xs ++ ys) → AllByRecursion P xs × AllByRecursion P ys
all_parts P [] ys all = (tt, all)
all_parts P (x ∷ xs) ys all = let rest = all_parts P xs ys all.1 in ((all.0, rest.0), rest.1)

-- ---- the same field

pub same_of : (s : Section) (fixed : Option Fixed) (a b : Block) → SameField a.column b.column → IsOf s fixed a → IsOf s fixed b
same_of s fixed a b same is = record { in_section = rw same.stream is.in_section; with_fixed = rw same.stream is.with_fixed }

same_field : (a b : Block) → SameField a.column b.column → field_of b ≡ field_of a
same_field a b same = rw (same.stream, same.items) refl

-- ---- pages

-- pages on the way to a block's items are pages of the slice
pub asks_slice : (a : Slice) (old new : SourceView) (b : Block) → IsOf a.section a.fixed b → Contains a.asked (field_of b) → IfSome old.held (λ file. Holds file b) → AsksRecords old b.column a.from a.count new → AsksMet (OnSlice a) old new
asks_slice a old new b is among holds asks =
    asks_met_map (λ file p. StandsIn file b.column → OnRecords file b.column a.from a.count p) (OnSlice a) old new
    (told_map (λ file. Holds file b) (λ file. (p : ℕ) → (StandsIn file b.column → OnRecords file b.column a.from a.count p) → OnSlice a file p) old.held
    (λ file held p on.
    let one = on held.stands in
    let way = subst (λ (s : Section). OnItem file s b.column.stream.fixed b.column.stream.field (leaf_of b.column) one.i p) is.in_section one.way in
    record {
      f = b.column.stream.field;
      leaf = leaf_of b.column;
      i = one.i;
      asks = among;
      after = one.after;
      before = one.before;
      way = subst (λ (x : Option Fixed). OnItem file a.section x b.column.stream.field (leaf_of b.column) one.i p) is.with_fixed way;
    }) holds) asks

-- a block's field is among those of all
among_fields : (blocks : List Block) (j : ℕ) (d : Block) → j < length blocks → Contains (map field_of blocks) (field_of (get_or blocks j d))
among_fields blocks j d below =
    (j, rw (length-map blocks field_of) below, get_or-map field_of blocks j d (field_of (get_or blocks j d)) below)

-- ---- blocks filled so far

-- The first j blocks hold n records of the slice, and the others were not looked at.
pub record FilledTo (a : Slice) (old : SourceView) (before : List Block) (j n : ℕ) (new : SourceView) (blocks : List Block) : Type 0 where
  pub are : AreBlocks a.section a.fixed a.asked blocks
  pub some : 0 < n
  pub few : n ≤ a.count
  pub have : AllByRecursion (HasRecords a.from n) (take j blocks)
  pub most : n < a.count → AllByRecursion (HasRecords a.from (n + 1)) (take j blocks) → ⊥
  pub ready : AllByRecursion (IsReady a.from) (drop j blocks)
  pub size : length blocks ≡ length before
  pub rest : (k : ℕ) (d : Block) → j ≤ k → get_or blocks k d ≡ get_or before k d
  pub met : AsksMet (OnSlice a) old new
  pub holds : AreOfFile old blocks

pub filled_none : (s : Section) (fixed : Option Fixed) (blocks : List Block) (i want : ℕ) (source : SourceView) → 0 < want → AllByRecursion (IsOf s fixed) blocks → AllByRecursion (IsReady i) blocks → AreOfFile source blocks
    → FilledTo (slice_at (record { section = s; fixed = fixed; blocks = blocks }) i want) source blocks 0 want source blocks
filled_none s fixed blocks i want source some all ready holds = record {
  are = record { fields = refl; all = all };
  some = some;
  few = omega arith;
  have = tt;
  most = λ fewer have. omega (arith, fewer);
  ready = ready;
  size = refl;
  rest = λ k d from. refl;
  met = asks_met_none (OnSlice (slice_at (record { section = s; fixed = fixed; blocks = blocks }) i want)) source;
  holds = holds;
}

-- what is known of the block that comes
pub record NextBlock (a : Slice) (mid : SourceView) (b : Block) : Type 0 where
  pub is_of : IsOf a.section a.fixed b
  pub among : Contains a.asked (field_of b)
  pub ready : IsReady a.from b
  pub holds : IfSome mid.held (λ file. Holds file b)

pub next_block : (a : Slice) (old mid : SourceView) (start : List Block) (j n : ℕ) (blocks : List Block) (b d : Block) → j < length blocks → b ≡ get_or blocks j d → FilledTo a old start j n mid blocks → NextBlock a mid b
next_block a old mid start j n blocks b d below is filled =
    subst (NextBlock a mid) (sym is)
    (record {
      is_of = all_at (IsOf a.section a.fixed) blocks j d below filled.are.all;
      among = subst (λ (asked : List (ℕ × Leaf)). Contains asked (field_of (get_or blocks j d))) filled.are.fields (among_fields blocks j d below);
      ready = (subst (AllByRecursion (IsReady a.from)) (drop_more blocks j d below) filled.ready).0;
      holds = told_map (λ file. AllByRecursion (Holds file) blocks) (λ file. Holds file (get_or blocks j d)) mid.held (λ file all. all_at (Holds file) blocks j d below all) (told_here (λ file. AllByRecursion (Holds file) blocks) old.held mid.held filled.met.asks.same.held filled.holds);
    })

fewer_records : (i n m : ℕ) (b : Block) → m ≤ n → HasRecords i n b → HasRecords i m b
fewer_records i n m b few has = let high = has.1 in (has.0, omega (arith, high, few))

held_records : (i n : ℕ) (b : Block) → HoldsFrom i n b → HasRecords i n b
held_records i n b h = let end = h.end in (h.low, omega (arith, end))

-- if all hold one more, the others hold one more and this one too
most_on : (i n have count want : ℕ) (front : List Block) (b : Block) → count ≡ min n have → (n < want → AllByRecursion (HasRecords i (n + 1)) front → ⊥) → HoldsFrom i have b → count < want → AllByRecursion (HasRecords i (count + 1)) (front ++ b ∷ []) → ⊥
most_on i n have count want front b least most holds fewer all =
    let parts = all_parts (HasRecords i (count + 1)) front (b ∷ []) all in
    let high = parts.1.0.1 in
    let end = holds.end in
    let same : count ≡ n = omega (arith, least, high, end) in
    most (omega (arith, same, fewer)) (subst (λ (m : ℕ). AllByRecursion (HasRecords i (m + 1)) front) same parts.0)

-- one block more
pub filled_on : (a : Slice) (old mid new : SourceView) (start : List Block) (j n have count : ℕ) (blocks : List Block) (b d after : Block) → j < length blocks → b ≡ get_or blocks j d → count ≡ min n have → FilledTo a old start j n mid blocks → FillsBlock mid b a.from a.count have new after
    → FilledTo a old start (j + 1) count new (set blocks j after)
filled_on a old mid new start j n have count blocks b d after below is least filled fills =
    let next = next_block a old mid start j n blocks b d below is filled in
    let keeps = fills.keeps in
    let some = filled.some in
    let records = fills.records in
    let some_too = records.some in
    let few = filled.few in
    record {
      are = record {
        fields = map_set field_of blocks j d after below (same_field b after keeps.same ∙ ap field_of is) ∙ filled.are.fields;
        all = all_set (IsOf a.section a.fixed) blocks j after filled.are.all (same_of a.section a.fixed b after keeps.same next.is_of);
      };
      some = omega (arith, least, some, some_too);
      few = omega (arith, least, few);
      have = subst (AllByRecursion (HasRecords a.from count)) (sym (take_more_set blocks j after below))
          (all_append (HasRecords a.from count) (take j blocks) (after ∷ [])
          (all_map (HasRecords a.from n) (HasRecords a.from count) (take j blocks) (λ x has. fewer_records a.from n count x (omega (arith, least)) has) filled.have)
          (fewer_records a.from have count after (omega (arith, least)) (held_records a.from have after records), tt));
      most = λ fewer all. most_on a.from n have count a.count (take j blocks) after least filled.most records fewer (subst (AllByRecursion (HasRecords a.from (count + 1))) (take_more_set blocks j after below) all);
      ready = subst (AllByRecursion (IsReady a.from)) (sym (drop-set-lt (j + 1) blocks j after (omega arith))) (subst (AllByRecursion (IsReady a.from)) (drop_more blocks j d below) filled.ready).1;
      size = length-set blocks j after ∙ filled.size;
      rest = λ k e from. get_or-set_other blocks j k after e (λ same. omega (arith, same, from)) ∙ filled.rest k e (omega (arith, from));
      met = asks_met_on (OnSlice a) old mid new filled.met (asks_slice a mid new b next.is_of next.among next.holds keeps.met);
      holds = told_both (λ file. AllByRecursion (Holds file) blocks) (λ file. Holds file after) (λ file. AllByRecursion (Holds file) (set blocks j after)) old.held (λ file all one. all_set (Holds file) blocks j after all one) filled.holds
          (told_here (λ file. Holds file after) mid.held old.held (sym filled.met.asks.same.held) keeps.holds);
    }

-- all blocks
pub filled_all : (a : Slice) (old new : SourceView) (start : List Block) (j n : ℕ) (blocks : List Block) → length blocks ≤ j → FilledTo a old start j n new blocks → FillsBlocks a old n new blocks
filled_all a old new start j n blocks past filled = record {
  are = filled.are;
  some = filled.some;
  few = filled.few;
  have = subst (AllByRecursion (HasRecords a.from n)) (take_all j blocks past) filled.have;
  most = λ fewer all. filled.most fewer (subst (AllByRecursion (HasRecords a.from (n + 1))) (sym (take_all j blocks past)) all);
  met = filled.met;
  holds = filled.holds;
}

-- ---- a block that isn't filled

-- the record has the fault of the next block
record_wrong : (a : Slice) (file : List ℕ) (j n : ℕ) (blocks : List Block) (b d : Block) (found : Fault) → j < length blocks → b ≡ get_or blocks j d → 0 < n → AreBlocks a.section a.fixed a.asked blocks → AllByRecursion (HasRecords a.from n) (take j blocks) → IsOf a.section a.fixed b
    → AllByRecursion (Holds file) blocks → column_item file b.column a.from ≡ Err found → record_fault file a.section a.fixed a.asked a.from ≡ Some found
record_wrong a file j n blocks b d found below is some are have is_of holds wrong =
    let fields : map field_of (take j blocks) ++ field_of b ∷ map field_of (drop (j + 1) blocks) ≡ a.asked =
    ap (λ (x : Block). map field_of (take j blocks) ++ field_of x ∷ map field_of (drop (j + 1) blocks)) is
    ∙ sym (map-append field_of (take j blocks) (get_or blocks j d ∷ drop (j + 1) blocks))
    ∙ ap (λ (xs : List Block). map field_of (take j blocks ++ xs)) (sym (drop_more blocks j d below))
    ∙ ap (map field_of) (take-append-drop j blocks)
    ∙ are.fields in
    subst (λ (asked : List (ℕ × Leaf)). record_fault file a.section a.fixed asked a.from ≡ Some found) fields
    (faults_stop file a.section a.fixed a.from (take j blocks) b (map field_of (drop (j + 1) blocks)) found
    (all_front (IsOf a.section a.fixed) j blocks are.all)
    (all_front (Holds file) j blocks holds)
    (all_map (HasRecords a.from n) (HasRecords a.from 1) (take j blocks) (λ x has. fewer_records a.from n 1 x some has) have)
    is_of wrong)

-- a block that was looked at, or not
ready_records : (i n : ℕ) (b : Block) → 0 < n → HasRecords i n b → IsReady i b
ready_records i n b some has = let high = has.1 in inr (has.0, omega (arith, high))

all_join : {X : Type 0} (P : X → Type 0) (xs : List X) (j : ℕ) (y : X) → j < length xs → AllByRecursion P (take j xs) → P y → AllByRecursion P (drop (j + 1) xs) → AllByRecursion P (set xs j y)
all_join P [] j y below front is rest = tt
all_join P (x ∷ xs) zero y below front is rest = (is, rest)
all_join {X} P (x ∷ xs) (suc j) y below front is rest =
    let next : suc j + 1 ≡ suc (j + 1) = omega arith in
    (front.0, all_join P xs j y (omega arith) front.1 is (subst (λ (m : ℕ). AllByRecursion P (drop m (x ∷ xs))) next rest))

-- of blocks of which one needs memory
needs_block : (a : Slice) (old mid : SourceView) (start : List Block) (j n : ℕ) (blocks : List Block) (b d : Block) → j < length blocks → b ≡ get_or blocks j d → FilledTo a old start j n mid blocks → NeedsMore mid b.column a.from (room_of b.buffer)
    → (c : Block) × Contains start c × NeedsMore old c.column a.from (room_of c.buffer)
needs_block a old mid start j n blocks b d below is filled needs =
    let size = filled.size in
    let long = needs.long in (
      b,
      (j, omega (arith, below, size), sym (filled.rest j b (omega arith)) ∙ get_or_default blocks j b d below ∙ sym is),
      record {
        texts = needs.texts;
        n = needs.n;
        long = record { more = long.more; limit = long.limit; is = told_here (λ file. StandsIn file b.column → column_length file b.column a.from ≡ Ok (word needs.n)) mid.held old.held (sym filled.met.asks.same.held) long.is };
      },
    )

pub filled_not : (a : Slice) (old mid new : SourceView) (start : List Block) (j n : ℕ) (blocks : List Block) (b d after : Block) (lost : OpenFault) → j < length blocks → b ≡ get_or blocks j d → FilledTo a old start j n mid blocks → FillsNoBlock mid b a.from a.count lost new after
    → FillsNoBlocks a old start lost new (set blocks j after)
filled_not a old mid new start j n blocks b d after lost below is filled fails =
    let next = next_block a old mid start j n blocks b d below is filled in
    let keeps = fails.keeps in
    record {
      are = record {
        fields = map_set field_of blocks j d after below (same_field b after keeps.same ∙ ap field_of is) ∙ filled.are.fields;
        all = all_set (IsOf a.section a.fixed) blocks j after filled.are.all (same_of a.section a.fixed b after keeps.same next.is_of);
      };
      ready = all_join (IsReady a.from) blocks j after below (all_map (HasRecords a.from n) (IsReady a.from) (take j blocks) (λ x has. ready_records a.from n x filled.some has) filled.have) fails.ready
          (subst (AllByRecursion (IsReady a.from)) (drop_more blocks j d below) filled.ready).1;
      met = asks_met_on (OnSlice a) old mid new filled.met (asks_slice a mid new b next.is_of next.among next.holds keeps.met);
      holds = told_both (λ file. AllByRecursion (Holds file) blocks) (λ file. Holds file after) (λ file. AllByRecursion (Holds file) (set blocks j after)) old.held (λ file all one. all_set (Holds file) blocks j after all one) filled.holds
          (told_here (λ file. Holds file after) mid.held old.held (sym filled.met.asks.same.held) keeps.holds);
      cause = by_cause lost fails.cause next.is_of;
    }
  where
    by_cause : (lost : OpenFault) → IsBlockCause mid b a.from lost new → IsOf a.section a.fixed b → IsBlocksCause a old start lost new
    by_cause (Refused found) (kind, wrong) is_of = (
      kind,
      told_both (λ file. AllByRecursion (Holds file) blocks) (λ file. column_item file b.column a.from ≡ Err found) (λ file. record_fault file a.section a.fixed a.asked a.from ≡ Some found) old.held
          (λ file holds e. record_wrong a file j n blocks b d found below is filled.some filled.are filled.have is_of holds e) filled.holds
          (told_here (λ file. column_item file b.column a.from ≡ Err found) mid.held old.held (sym filled.met.asks.same.held) wrong),
    )
    by_cause Source rose is_of = rose_before old.faults mid.faults new.faults filled.met.asks.faults rose
    by_cause Memory needs is_of = needs_block a old mid start j n blocks b d below is filled needs
