-- Those records of a slice that pass, put as a section.
use Rattle.std.proofs.Common.{◌≡◌, ℕ, zero, suc, ◌+◌, ◌/◌, ◌%◌, ◌<◌, false, List, [], ◌∷◌, ◌++◌, length, Option, Some, None, refl, sym, subst, ap, ◌∙◌, arith, inl, inr, ⊎_elim}
use Rattle.std.specs.Prelude.{◌==◌}
use Rattle.std.specs.Option.{option_map}
use Rattle.std.proofs.lemmas.Bool.{ne_eqb}
use Rattle.e57_base.specs.Fault.{write_as_run}
use Rattle.e57_base.specs.Source.{SourceView}
use Rattle.e57_base.specs.Target.{TargetView}
use Rattle.e57_base.specs.declared.fault.AskFault.{AskFault}
use Rattle.e57_base.specs.declared.fault.AskFault.TheVariants as of_ask
use Rattle.e57_base.specs.declared.fault.RunFault.{RunFault}
use Rattle.e57_base.specs.declared.fault.RunFault.TheVariants.{Refused, Source, Out, Memory, Ask}
use Rattle.e57_base.specs.declared.fault.WriteFault.{WriteFault}
use Rattle.e57_base.specs.declared.fault.WriteFault.TheVariants as of_write
use Rattle.e57_base.proofs.CountLaws.{rose_before}
use Rattle.e57_base.proofs.Told.{told_map}
use Rattle.e57_layout.specs.Values.{ItemKind, Value}
use Rattle.e57_layout.specs.Items.{AreColumns}
use Rattle.e57_layout.specs.Packing.{join_columns}
use Rattle.e57_layout.specs.Written.{physical, section_spelled}
use Rattle.e57_layout.proofs.Laws.Written.{length-section_spelled}
use Rattle.e57_page_out.specs.Sequences.{Puts}
use Rattle.e57_page_out.specs.Writing.{Writing, IsBeingWritten, most_bytes}
use Rattle.e57_page_out.proofs.Sequences.{leaves_later, puts_nothing}
use Rattle.e57_page_out.proofs.WritingLaws.{keeps_both}
use Rattle.e57_plain.specs.Written.{section_offset}
use Rattle.e57_blocks.specs.Fields.{Blocks, Slice, record_fault}
use Rattle.e57_chunk_out.specs.CloudCalls.{new_cloud, section_of, ClosesCloud, ClosesNothing, ClosesOn, HasStrings, PassesSection}
use Rattle.e57_chunk_out.specs.Going.{LosesRecords}
use Rattle.e57_chunk_out.specs.Standing.{Cloud, IsPut, Stands, in_groups}
use Rattle.e57_chunk_out.specs.Turns.{data_end}
use Rattle.e57_chunk_out.specs.declared.cloud_out.Written.{Written}
use Rattle.e57_chunk_out.specs.declared.section.Begun.{Begun}
use Rattle.e57_chunk_out.proofs.Adding.{new_stands}
use Rattle.e57_copy.specs.Adding.{IsStanding}
use Rattle.e57_copy.proofs.Clouds.{offset_some}
use Rattle.e57_copy.proofs.Columns.{no_records}
use Rattle.e57_copy.proofs.Putting.{told_behind, whole_size}
use Rattle.e57_filter.specs.Keeping.{kept_columns, kept_number, IsKeepCause, IsLargeCause, KeepsAll, KeepsNot, Sieve}
use Rattle.e57_filter.specs.KeptSection.{kept_section, HasFault, IsKeptCause, IsPastKept, LosesKept, PutsKept}

none_join : (kinds : List ItemKind) (n : ℕ) (columns : List (List Value)) → AreColumns kinds n columns → join_columns (no_records kinds) columns ≡ columns
unfolding join_columns
none_join [] n columns are = refl
none_join (kind ∷ kinds) n [] are = absurd are
none_join (kind ∷ kinds) n (column ∷ columns) are = ap (λ (xs : List (List Value)). column ∷ xs) (none_join kinds n columns are.2)

section_none : (size : ℕ) (kinds : List ItemKind) (n : ℕ) (columns : List (List Value)) → kept_section size kinds n 0 columns ≡ []
unfolding kept_section
section_none size kinds n columns = refl

pub section_some : (size : ℕ) (kinds : List ItemKind) (n count : ℕ) (columns : List (List Value)) → 0 < count → kept_section size kinds n count columns ≡ section_spelled size kinds n count columns
unfolding kept_section
section_some size kinds n count columns some =
    let counted : (count == 0) ≡ false = ne_eqb count 0 (λ none. omega (arith, some, none)) in
    rw counted refl

some_of : (k : ℕ) → (k ≡ 0 → ⊥) → 0 < k
some_of zero not = absurd (not refl)
some_of (suc k) not = omega arith

module _ {T : Type 0} (view : T → TargetView) (s : Sieve) (m : ℕ) (a : Slice) (n most : ℕ) (kinds : List ItemKind) (old new : SourceView) (out mid : Writing T) (b : Blocks) (c : Cloud) (state : IsBeingWritten view out) (free : out.held ≡ None) (whole : out.size % 1020 ≡ 0) where
  new_at_end : Stands out.told_bytes out.size (no_records kinds) (new_cloud kinds n most) out
  new_at_end = new_stands kinds n most out.told_bytes out.size out state.bytes refl refl free

  module _ (keeps : KeepsAll view s m a old (new_cloud kinds n most) out new b c mid) where
    abbrev number : ℕ
    number = kept_number s keeps.keeps.columns a.count

    abbrev more : List (List Value)
    more = kept_columns s m keeps.keeps.columns

    stands_all : Stands out.told_bytes out.size more c mid
    stands_all =
        subst (λ (cs : List (List Value)). Stands out.told_bytes out.size cs c mid) (none_join kinds number more keeps.keeps.adds.columns)
        (keeps.keeps.adds.stands out.told_bytes out.size (no_records kinds) new_at_end)

    pub standing_all : IsStanding c mid
    standing_all = record { before = out.told_bytes; start = out.size; columns = more; stands = stands_all }

    counted : c.count ≡ number
    counted = let count = keeps.keeps.adds.count in omega (arith, count)

    -- none passed
    unbegun : (x : Option Begun) → IsPut out.told_bytes out.size more c mid x → mid.size ≡ out.size → (mid.told_bytes ≡ out.told_bytes) × (mid.held ≡ None) × (c.count ≡ 0)
    unbegun None put same = (put.bytes, put.held, put.count)
    unbegun (Some x) put same =
        let size = put.2.size in
        let start = whole_size out.size whole in
        absurd (omega (arith, size, start, same))

    pub kept_none : (w : Written) → w.place ≡ 0 → w.count ≡ 0 → mid.size ≡ out.size → PutsKept view s m a n kinds old new out w mid
    kept_none w place count same =
        let is = unbegun c.section stands_all.written same in
        let number_none : number ≡ 0 = sym counted ∙ is.2 in
        let none = puts_nothing view out state in
        let section : [] ≡ kept_section out.size kinds n w.count more = sym (section_none out.size kinds n more) ∙ ap (λ k. kept_section out.size kinds n k more) (sym count) in
        record {
          met = keeps.met;
          columns = keeps.keeps.columns;
          found = keeps.keeps.found;
          full = keeps.keeps.full;
          number = count ∙ sym number_none;
          are = subst (λ k. AreColumns kinds k more) (number_none ∙ sym count) keeps.keeps.adds.columns;
          begins = place ∙ ap (section_offset (out.size / 1020)) section;
          wrote = subst (λ (xs : List ℕ). Puts view out xs mid) section
              (record {
                bytes = is.0 ∙ none.bytes;
                size = same ∙ none.size;
                held = is.1 ∙ sym free;
                state = keeps.keeps.adds.state;
                target = keeps.keeps.adds.target;
              });
        }

    module _ (some : 0 < c.count) where
      section_same : section_of out.size c more ≡ section_spelled out.size kinds n number more
      section_same =
          let adds = keeps.keeps.adds in
          ap (λ (q : ℕ). section_spelled q c.kinds c.chunk c.count more) (whole_size out.size whole)
          ∙ ap (λ (ks : List ItemKind). section_spelled out.size ks c.chunk c.count more) adds.kinds
          ∙ ap (λ (k : ℕ). section_spelled out.size kinds k c.count more) adds.chunk
          ∙ ap (λ (k : ℕ). section_spelled out.size kinds n k more) counted

      closed_on : (w : Written) (now : Writing T) → w.count ≡ c.count → ClosesOn view c mid w.place now → PutsKept view s m a n kinds old new out w now
      closed_on w now count closes =
          let puts = closes.section out.told_bytes out.size more stands_all in
          let size = whole_size out.size whole in
          let known : w.count ≡ number = count ∙ counted in
          let section : section_of out.size c more ≡ kept_section out.size kinds n w.count more =
          section_same ∙ ap (λ k. section_spelled out.size kinds n k more) (sym known) ∙ sym (section_some out.size kinds n w.count more (omega (arith, some, count))) in
          let long = length-section_spelled out.size kinds n w.count more in
          let filled_section = section_some out.size kinds n w.count more (omega (arith, some, count)) in
          record {
            met = keeps.met;
            columns = keeps.keeps.columns;
            found = keeps.keeps.found;
            full = keeps.keeps.full;
            number = known;
            are = subst (λ k. AreColumns kinds k more) (sym known) keeps.keeps.adds.columns;
            begins = puts.place ∙ ap physical size
                ∙ sym (offset_some out.size (section_spelled out.size kinds n w.count more) whole (omega (arith, long)))
                ∙ ap (section_offset (out.size / 1020)) (sym filled_section);
            wrote = record {
              bytes = puts.bytes
                  ∙ told_behind out.size out.told_bytes (section_of out.size c more) whole state.bytes
                  ∙ ap (λ (xs : List ℕ). option_map (λ (b : List ℕ). b ++ xs) out.told_bytes) section;
              size = puts.size ∙ ap (λ k. k + length (section_of out.size c more)) size ∙ ap (λ (xs : List ℕ). out.size + length xs) section;
              held = closes.held ∙ sym free;
              state = closes.state;
              target = keeps_both (view out.target) (view mid.target) (view now.target) keeps.keeps.adds.target closes.target;
            };
          }

      closed_some : (w : Written) (now : Writing T) → ClosesCloud view c mid w now → PutsKept view s m a n kinds old new out w now
      closed_some w now closes =
          ⊎_elim (λ (none : ClosesNothing c mid w.place now). let zero_count = none.count in absurd (omega (arith, zero_count, some)))
          (λ (on : (0 < c.count) × ClosesOn view c mid w.place now). closed_on w now closes.count on.1) closes.section

      -- it was not closed
      unclosed_some : (fault : WriteFault) (now : Writing T) → LosesRecords view mid (PassesSection c mid) (HasStrings c.kinds) fault (view now.target) → LosesKept view s m a n kinds old new out (write_as_run fault) now
      unclosed_some of_write.Target now lost = record {
        met = keeps.met;
        left = leaves_later view out mid (view now.target) keeps.keeps.adds.target lost.0;
        cause = rose_before (view out.target).faults (view mid.target).faults (view now.target).faults keeps.keeps.adds.target.faults lost.1;
      }
      unclosed_some of_write.Large now lost =
          let past = lost.1 out.told_bytes out.size more stands_all in
          record {
            met = keeps.met;
            left = leaves_later view out mid (view now.target) keeps.keeps.adds.target lost.0;
            cause = record {
              some = a.count;
              few = omega arith;
              columns = keeps.keeps.columns;
              found = keeps.keeps.found;
              full = keeps.keeps.full;
              are = keeps.keeps.adds.columns;
              past = inr (
                refl,
                subst (λ k. 0 < k) counted some,
                subst (λ (xs : List ℕ). most_bytes < out.size + length xs) section_same (subst (λ k. most_bytes < k + length (section_of out.size c more)) (whole_size out.size whole) past),
              );
            };
          }
      unclosed_some of_write.Memory now lost = record { met = keeps.met; left = leaves_later view out mid (view now.target) keeps.keeps.adds.target lost.0; cause = tt }

    -- some passed, as the new file is longer
    module _ (idle : c.count ≡ 0 → mid.size ≡ out.size) (longer : mid.size ≡ out.size → ⊥) where
      some_kept : 0 < c.count
      some_kept = some_of c.count (λ none. longer (idle none))

      pub closed : (w : Written) (now : Writing T) → ClosesCloud view c mid w now → PutsKept view s m a n kinds old new out w now
      closed w now closes = closed_some some_kept w now closes

      pub unclosed : (fault : WriteFault) (given : RunFault) (now : Writing T) → given ≡ write_as_run fault → LosesRecords view mid (PassesSection c mid) (HasStrings c.kinds) fault (view now.target) → LosesKept view s m a n kinds old new out given now
      unclosed fault given now is lost = subst (λ (f : RunFault). LosesKept view s m a n kinds old new out f now) (sym is) (unclosed_some some_kept fault now lost)

  -- not all records were kept
  pub unkept : (fault : RunFault) → KeepsNot view s m a old (new_cloud kinds n most) out fault new b c mid → LosesKept view s m a n kinds old new out fault mid
  unkept fault lost = record { met = lost.met; left = lost.left; cause = by_fault fault lost.cause }
    where
      by_ask : (why : AskFault) → IsLargeCause s m a old (new_cloud kinds n most) out why → IsPastKept s m a n kinds old out why
      by_ask of_ask.Large passes =
          let past = passes.passes.past out.told_bytes out.size (no_records kinds) new_at_end in
          let number = kept_number s passes.columns passes.n in
          let many : 0 + number ≡ number = omega arith in
          record {
            some = passes.n;
            few = passes.few;
            columns = passes.columns;
            found = passes.found;
            full = passes.full;
            are = passes.passes.columns;
            past = inl
                (subst (λ (cs : List (List Value)). most_bytes < data_end out.size kinds n (in_groups number) cs) (none_join kinds number (kept_columns s m passes.columns) passes.passes.columns)
                (subst (λ k. most_bytes < data_end out.size kinds n (in_groups k) (join_columns (no_records kinds) (kept_columns s m passes.columns))) many past));
          }
      by_ask why lost = absurd lost

      by_fault : (fault : RunFault) → IsKeepCause view s m a old (new_cloud kinds n most) out fault new b c mid → IsKeptCause view s m a n kinds old new out fault mid
      by_fault (Refused found) (kind, stops) =
          told_map (λ file. record_fault file a.section a.fixed a.asked (a.from + stops.n) ≡ Some found) (HasFault a) old.held
          (λ file is. let short = stops.short in record { i = a.from + stops.n; after = omega arith; before = omega (arith, short); found = found; is = is }) stops.stopped
      by_fault Source stops = stops.stopped
      by_fault Out lost = lost.1
      by_fault Memory lost = tt
      by_fault (Ask why) lost = by_ask why lost.1
