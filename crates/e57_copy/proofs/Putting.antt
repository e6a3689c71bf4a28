-- All records of a section, put as a section.
use Rattle.std.proofs.Common.{◌≡◌, ℕ, ◌+◌, ◌*◌, ◌%◌, ◌<◌, List, [], ◌∷◌, ◌++◌, length, map, Option, Some, None, refl, sym, subst, ap, ◌∙◌, arith, inl, inr, ⊎_elim}
use Rattle.std.specs.Prelude.{IfSome}
use Rattle.std.proofs.lemmas.List.{map-id}
use Rattle.std.proofs.lemmas.List.FromFn.{map-range_with_len_more}
use Rattle.std.specs.Option.{option_map}
use Rattle.std.specs.List.{AllByRecursion, range_with_len}
use Rattle.e57_base.specs.Fault.{write_as_run}
use Rattle.e57_base.specs.Source.{SourceView}
use Rattle.e57_base.specs.Target.{TargetView}
use Rattle.e57_base.specs.declared.fault.AskFault.{AskFault}
use Rattle.e57_base.specs.declared.fault.AskFault.TheVariants as of_ask
use Rattle.e57_base.specs.declared.fault.RunFault.{RunFault}
use Rattle.e57_base.specs.declared.fault.RunFault.TheVariants.{Refused, Source, Out, Memory, Ask}
use Rattle.e57_base.specs.declared.fault.WriteFault.{WriteFault}
use Rattle.e57_base.specs.declared.fault.WriteFault.TheVariants as of_write
use Rattle.e57_base.proofs.CountLaws.{rose_before}
use Rattle.e57_base.proofs.Told.{told_map}
use Rattle.e57_layout.specs.Values.{ItemKind, Value}
use Rattle.e57_layout.specs.Items.{AreColumns}
use Rattle.e57_layout.specs.Packing.{join_columns}
use Rattle.e57_layout.specs.Written.{physical, section_spelled}
use Rattle.e57_page_out.specs.Sealed.{filled, pages_for}
use Rattle.e57_page_out.specs.Writing.{Writing, IsBeingWritten, most_bytes}
use Rattle.e57_page_out.proofs.Sequences.{leaves_later}
use Rattle.e57_page_out.proofs.WritingLaws.{filled_whole, keeps_both}
use Rattle.e57_blocks.specs.Fields.{Blocks, Slice, record_fault}
use Rattle.e57_chunk_out.specs.CloudCalls.{new_cloud, section_of, ClosesCloud, ClosesNothing, ClosesOn, HasStrings, IsBetween, PassesSection}
use Rattle.e57_chunk_out.specs.Going.{LosesRecords}
use Rattle.e57_chunk_out.specs.Standing.{Cloud, Stands, in_groups}
use Rattle.e57_chunk_out.specs.Turns.{data_end}
use Rattle.e57_chunk_out.specs.declared.cloud_out.Written.{Written}
use Rattle.e57_chunk_out.proofs.Adding.{new_stands}
use Rattle.e57_copy.specs.Adding.{IsStanding}
use Rattle.e57_copy.specs.Copying.{CopiesAll, CopiesNot, IsCopyCause, IsLargeCause, IsOutside}
use Rattle.e57_copy.specs.Sections.{LacksRecord, LosesSection, IsPastCause, IsRecordsCause, PutsRecords}
use Rattle.e57_copy.proofs.Columns.{no_records}

-- ---- a new cloud

no_items : (kinds : List ItemKind) → AllByRecursion (λ (column : List Value). length column ≡ 0) (no_records kinds)
no_items [] = tt
no_items (kind ∷ kinds) = (refl, no_items kinds)

pub new_between : (c : Cloud) (kinds : List ItemKind) → c ≡ new_cloud kinds c.chunk c.at_most → IsBetween c
new_between c kinds is = subst IsBetween (sym is) (no_items kinds)

pub new_standing : {T : Type 0} (view : T → TargetView) (out : Writing T) (c : Cloud) (kinds : List ItemKind) → c ≡ new_cloud kinds c.chunk c.at_most → IsBeingWritten view out → out.held ≡ None → IsStanding c out
new_standing view out c kinds is state free = record {
  before = out.told_bytes;
  start = out.size;
  columns = no_records kinds;
  stands = subst (λ (x : Cloud). Stands out.told_bytes out.size (no_records kinds) x out) (sym is) (new_stands kinds c.chunk c.at_most out.told_bytes out.size out state.bytes refl refl free);
}

none_join : (kinds : List ItemKind) (n : ℕ) (columns : List (List Value)) → AreColumns kinds n columns → join_columns (no_records kinds) columns ≡ columns
unfolding join_columns
none_join [] n columns are = refl
none_join (kind ∷ kinds) n [] are = absurd are
none_join (kind ∷ kinds) n (column ∷ columns) are = ap (λ (xs : List (List Value)). column ∷ xs) (none_join kinds n columns are.2)

-- ---- a file that ends at the end of a page

pub whole_size : (size : ℕ) → size % 1020 ≡ 0 → 1020 * pages_for size ≡ size
unfolding pages_for
whole_size size whole = omega arith

pub told_behind : (size : ℕ) (told : Option (List ℕ)) (bytes : List ℕ) → size % 1020 ≡ 0 → IfSome told (λ b. length b ≡ size) → option_map (λ b. filled (pages_for size) b ++ bytes) told ≡ option_map (λ b. b ++ bytes) told
told_behind size None bytes whole long = refl
told_behind size (Some b) bytes whole long = ap (λ (xs : List ℕ). Some (xs ++ bytes)) (filled_whole (pages_for size) b (long ∙ sym (whole_size size whole)))

-- ---- all records were put, over plain variables

module _ {T : Type 0} (view : T → TargetView) (a : Slice) (n most : ℕ) (kinds : List ItemKind) (old new : SourceView) (out mid : Writing T) (b : Blocks) (c : Cloud) (state : IsBeingWritten view out) (free : out.held ≡ None) (whole : out.size % 1020 ≡ 0) where
  new_at_end : Stands out.told_bytes out.size (no_records kinds) (new_cloud kinds n most) out
  new_at_end = new_stands kinds n most out.told_bytes out.size out state.bytes refl refl free

  module _ (copies : CopiesAll view a old (new_cloud kinds n most) out new b c mid) where
    abbrev columns : List (List Value)
    columns = copies.copies.columns

    stands_all : Stands out.told_bytes out.size columns c mid
    stands_all =
        subst (λ (cs : List (List Value)). Stands out.told_bytes out.size cs c mid) (none_join kinds a.count columns copies.copies.adds.columns)
        (copies.copies.adds.stands out.told_bytes out.size (no_records kinds) new_at_end)

    pub standing_all : IsStanding c mid
    standing_all = record { before = out.told_bytes; start = out.size; columns = columns; stands = stands_all }

    section_same : section_of out.size c columns ≡ section_spelled out.size kinds n a.count columns
    section_same =
        let adds = copies.copies.adds in
        let count = adds.count in
        let many : c.count ≡ a.count = omega arith in
        ap (λ (q : ℕ). section_spelled q c.kinds c.chunk c.count columns) (whole_size out.size whole)
        ∙ ap (λ (ks : List ItemKind). section_spelled out.size ks c.chunk c.count columns) adds.kinds
        ∙ ap (λ (m : ℕ). section_spelled out.size kinds m c.count columns) adds.chunk
        ∙ ap (λ (m : ℕ). section_spelled out.size kinds n m columns) many

    closed_on : (offset : ℕ) (now : Writing T) → ClosesOn view c mid offset now → PutsRecords view a n kinds old new out offset now
    closed_on offset now closes =
        let puts = closes.section out.told_bytes out.size columns stands_all in
        let size = whole_size out.size whole in
        record {
          met = copies.met;
          columns = columns;
          are = copies.copies.adds.columns;
          found = copies.copies.found;
          begins = puts.place ∙ ap physical size;
          wrote = record {
            bytes = puts.bytes
                ∙ told_behind out.size out.told_bytes (section_of out.size c columns) whole state.bytes
                ∙ ap (λ (xs : List ℕ). option_map (λ b. b ++ xs) out.told_bytes) section_same;
            size = puts.size ∙ ap (λ m. m + length (section_of out.size c columns)) size ∙ ap (λ (xs : List ℕ). out.size + length xs) section_same;
            held = closes.held ∙ sym free;
            state = closes.state;
            target = keeps_both (view out.target) (view mid.target) (view now.target) copies.copies.adds.target closes.target;
          };
        }

    pub closed : (w : Written) (now : Writing T) → 0 < a.count → ClosesCloud view c mid w now → PutsRecords view a n kinds old new out w.place now
    closed w now some closes =
        let count = copies.copies.adds.count in
        ⊎_elim (λ (none : ClosesNothing c mid w.place now). let zero = none.count in absurd (omega arith)) (λ (on : (0 < c.count) × ClosesOn view c mid w.place now). closed_on w.place now on.1) closes.section

    -- it was not closed
    pub unclosed : (fault : WriteFault) (given : RunFault) (now : Writing T) → given ≡ write_as_run fault → LosesRecords view mid (PassesSection c mid) (HasStrings c.kinds) fault (view now.target) → LosesSection view a n kinds old new out given now
    unclosed fault given now is lost = subst (λ (f : RunFault). LosesSection view a n kinds old new out f now) (sym is) (by_fault fault lost)
      where
        by_fault : (fault : WriteFault) → LosesRecords view mid (PassesSection c mid) (HasStrings c.kinds) fault (view now.target) → LosesSection view a n kinds old new out (write_as_run fault) now
        by_fault of_write.Target lost = record {
          met = copies.met;
          left = leaves_later view out mid (view now.target) copies.copies.adds.target lost.0;
          cause = rose_before (view out.target).faults (view mid.target).faults (view now.target).faults copies.copies.adds.target.faults lost.1;
        }
        by_fault of_write.Large lost =
            let past = lost.1 out.told_bytes out.size columns stands_all in
            record {
              met = copies.met;
              left = leaves_later view out mid (view now.target) copies.copies.adds.target lost.0;
              cause = record {
                m = a.count;
                few = omega arith;
                columns = columns;
                are = copies.copies.adds.columns;
                found = copies.copies.found;
                past = inr (
                  refl,
                  subst (λ (xs : List ℕ). most_bytes < out.size + length xs) section_same (subst (λ m. most_bytes < m + length (section_of out.size c columns)) (whole_size out.size whole) past),
                );
              };
            }
        by_fault of_write.Memory lost = record { met = copies.met; left = leaves_later view out mid (view now.target) copies.copies.adds.target lost.0; cause = tt }

  -- not all records were copied
  pub uncopied : (fault : RunFault) → CopiesNot view a old (new_cloud kinds n most) out fault new b c mid → LosesSection view a n kinds old new out fault mid
  uncopied fault lost = record { met = lost.met; left = lost.left; cause = by_fault fault lost.cause }
    where
      by_ask : (why : AskFault) → IsLargeCause a old (new_cloud kinds n most) out why → IsPastCause a n kinds old out why
      by_ask of_ask.Large passes =
          let past = passes.passes.past out.told_bytes out.size (no_records kinds) new_at_end in
          let many : 0 + passes.n ≡ passes.n = omega arith in
          record {
            m = passes.n;
            few = passes.few;
            columns = passes.columns;
            are = passes.passes.columns;
            found = passes.found;
            past = inl
                (subst (λ (cs : List (List Value)). most_bytes < data_end out.size kinds n (in_groups passes.n) cs) (none_join kinds passes.n passes.columns passes.passes.columns)
                (subst (λ m. most_bytes < data_end out.size kinds n (in_groups m) (join_columns (no_records kinds) passes.columns)) many past));
          }
      by_ask why lost = absurd lost

      by_fault : (fault : RunFault) → IsCopyCause view a old (new_cloud kinds n most) out fault new b c mid → IsRecordsCause view a n kinds old new out fault mid
      by_fault (Refused found) (inl (kind, stops)) =
          told_map (λ file. record_fault file a.section a.fixed a.asked (a.from + stops.n) ≡ Some found) (LacksRecord a kinds) old.held
          (λ file is. let short = stops.short in record { i = a.from + stops.n; after = omega arith; before = omega arith; lacks = inl (found, is) }) stops.stopped
      by_fault (Refused found) (inr (kind, stops)) =
          told_map (λ file. IsOutside a kinds file stops.i) (LacksRecord a kinds) old.held (λ file is. record { i = stops.i; after = let low = stops.after in omega arith; before = stops.before; lacks = inr is }) stops.outside
      by_fault Source stops = stops.stopped
      by_fault Out lost = lost.1
      by_fault Memory lost = tt
      by_fault (Ask why) lost = by_ask why lost.1

-- ---- numbers in a row

pub next_number : (f : ℕ) (numbers : List ℕ) → numbers ≡ range_with_len 0 f → numbers ++ f ∷ [] ≡ range_with_len 0 (f + 1)
next_number f numbers is = ap (λ (xs : List ℕ). xs ++ f ∷ []) (is ∙ sym (mapped 0 f)) ∙ sym (map-range_with_len_more (λ (n : ℕ). n) 0 f f (omega arith)) ∙ mapped 0 (f + 1)
  where
    mapped : (a n : ℕ) → map (λ (n : ℕ). n) (range_with_len a n) ≡ range_with_len a n
    mapped a n = map-id (range_with_len a n)
