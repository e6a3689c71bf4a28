-- Records that are put into a new cloud, block by block, and the end of its section.
use Rattle.std.proofs.Common.{◌≡◌, ℕ, ◌+◌, ◌^◌, ◌<◌, ◌≤◌, List, ◌++◌, length, None, refl, sym, subst, ap, ◌∙◌, arith, inl, ⊎_elim, lit≤}
use Rattle.std.specs.Option.{option_map}
use Rattle.e57_base.specs.Target.{TargetView}
use Rattle.e57_base.specs.declared.fault.WriteFault.{WriteFault}
use Rattle.e57_base.specs.declared.fault.WriteFault.TheVariants.{Target, Large, Memory}
use Rattle.e57_base.proofs.CountLaws.{rose_before}
use Rattle.e57_layout.specs.Values.{ItemKind, Value}
use Rattle.e57_layout.specs.Packing.{join_columns}
use Rattle.e57_layout.specs.Widths.{bit_length, width}
use Rattle.e57_layout.specs.Written.{physical, section_spelled}
use Rattle.e57_page_out.specs.Sequences.{Puts}
use Rattle.e57_page_out.specs.Writing.{Writing, IsBeingWritten, most_bytes}
use Rattle.e57_page_out.proofs.Sequences.{leaves_later}
use Rattle.e57_page_out.proofs.WritingLaws.{keeps_both}
use Rattle.e57_chunk_out.specs.CloudCalls.{new_cloud, section_of, ClosesCloud, ClosesNothing, ClosesOn, HasStrings, IsChunkLength, PassesSection}
use Rattle.e57_chunk_out.specs.Going.{LosesRecords}
use Rattle.e57_chunk_out.specs.Standing.{Cloud, Stands, IsHere, in_groups}
use Rattle.e57_chunk_out.specs.Turns.{data_end}
use Rattle.e57_chunk_out.specs.declared.cloud_out.Written.{Written}
use Rattle.e57_chunk_out.proofs.Adding.{new_stands}
use Rattle.e57_chunk_out.proofs.Joins.{first-all}
use Rattle.e57_copy.specs.Adding.{AddsRecords, IsStanding, LosesRun, PassesWith}
use Rattle.e57_copy.proofs.Adding.{adds_both, adds_none, is_here, passes_later, still_standing}
use Rattle.e57_copy.proofs.Columns.{no_records}
use Rattle.e57_copy.proofs.OfCloud.{section_past}
use Rattle.e57_copy.proofs.Putting.{new_between, new_standing, told_behind, whole_size}
use Rattle.e57_copy.proofs.Starting.{new_again}
use Rattle.e57_trial.specs.Content.{columns_from, most_records}
use Rattle.e57_trial.specs.Records.{trial_kinds}
use Rattle.e57_trial.proofs.Columns.{columns_are, columns_more, columns_short}
use Rattle.e57_trial.proofs.Lengths.{section_bytes, AreNarrow}

-- ---- it is never too long

pub short_section : (q n start count : ℕ) → 0 < n → count ≤ most_records → length (section_spelled q trial_kinds n count (columns_from start 0 count)) ≤ 2 ^ 44
unfolding bit_length width
short_section q n start count some few =
    let narrow : AreNarrow trial_kinds = (lit≤ tt, (lit≤ tt, (lit≤ tt, (lit≤ tt, (lit≤ tt, (lit≤ tt, tt)))))) in
    let bytes = section_bytes q trial_kinds n count (columns_from start 0 count) (lit≤ tt) narrow some (columns_short start 0 count) in
    omega (arith, bytes, few)

none_first : (start count : ℕ) → join_columns (no_records trial_kinds) (columns_from start 0 count) ≡ columns_from start 0 count
unfolding join_columns
none_first start count = refl

-- ---- a new cloud

module _ {T : Type 0} (view : T → TargetView) (start count : ℕ) (out : Writing T) (c : Cloud) (fresh : c ≡ new_cloud trial_kinds c.chunk count) (chunk : IsChunkLength c.chunk) (few : count ≤ most_records) (state : IsBeingWritten view out) (free : out.held ≡ None) (begun : out.size ≡ 1020) where
  again : c ≡ new_cloud trial_kinds c.chunk c.at_most
  again = new_again c trial_kinds c.chunk count fresh

  kinds : c.kinds ≡ trial_kinds
  kinds = ap (λ (x : Cloud). x.kinds) fresh

  standing_new : IsStanding c out
  standing_new = new_standing view out c trial_kinds again state free

  pub puts_none : AddsRecords view 0 (columns_from start 0 0) c out c out
  puts_none =
      subst (λ (columns : List (List Value)). AddsRecords view 0 columns c out c out) (ap no_records kinds)
      (adds_none view c out (new_between c trial_kinds again) (ap (λ (x : Cloud). x.is_spent) fresh) state)

  -- as it stands before the first record
  stands_new : Stands out.told_bytes out.size (no_records trial_kinds) c out
  stands_new = subst (λ (x : Cloud). Stands out.told_bytes out.size (no_records trial_kinds) x out) (sym fresh) (new_stands trial_kinds c.chunk count out.told_bytes out.size out state.bytes refl refl free)

  never_past : (m : ℕ) → m ≤ count → PassesWith m (columns_from start 0 m) c out → ⊥
  never_past m within passes =
      let columns = columns_from start 0 m in
      let n = c.chunk in
      let past : most_bytes < data_end out.size c.kinds n (in_groups (c.count + m)) (join_columns (no_records trial_kinds) columns) = passes.past out.told_bytes out.size (no_records trial_kinds) stands_new in
      let none : c.count + m ≡ m = let zero = ap (λ (x : Cloud). x.count) fresh in omega (arith, zero) in
      let early : most_bytes < data_end out.size trial_kinds n (in_groups m) columns =
      subst (λ (cs : List (List Value)). most_bytes < data_end out.size trial_kinds n (in_groups m) cs) (none_first start m)
      (subst (λ k. most_bytes < data_end out.size trial_kinds n (in_groups k) (join_columns (no_records trial_kinds) columns)) none
      (subst (λ (ks : List ItemKind). most_bytes < data_end out.size ks n (in_groups (c.count + m)) (join_columns (no_records trial_kinds) columns)) kinds past)) in
      let are = columns_are start 0 m in
      let whole = section_past out.size n trial_kinds m m columns columns chunk.some chunk.groups (omega (arith, begun)) are (omega arith) (sym (first-all trial_kinds m m columns are (omega arith))) (inl early) in
      let short = short_section out.size n start m chunk.some (omega (arith, within, few)) in
      omega (arith, whole, short, begun)

  -- ---- some records were put

  module _ (at : ℕ) (b : Cloud) (mid : Writing T) (adds : AddsRecords view at (columns_from start 0 at) c out b mid) where
    pub kinds_on : b.kinds ≡ trial_kinds
    kinds_on = adds.kinds ∙ kinds

    pub standing_on : IsStanding b mid
    standing_on = still_standing view at (columns_from start 0 at) c b out mid adds standing_new

    pub room_on : (n : ℕ) → at + n ≤ count → b.count + n ≤ b.at_most
    room_on n within =
        let zero = ap (λ (x : Cloud). x.count) fresh in
        let most = ap (λ (x : Cloud). x.at_most) fresh in
        let now = adds.count in
        let same = adds.at_most in
        omega (arith, zero, most, now, same, within)

    pub puts_on : (n : ℕ) (b' : Cloud) (now : Writing T) → AddsRecords view n (columns_from start at n) b mid b' now → AddsRecords view (at + n) (columns_from start 0 (at + n)) c out b' now
    puts_on n b' now next =
        subst (λ (columns : List (List Value)). AddsRecords view (at + n) columns c out b' now) (columns_more start at n)
        (adds_both view at n (columns_from start 0 at) (columns_from start at n) c b b' out mid now adds next)

    pub puts_not : (n : ℕ) (fault : WriteFault) (b' : Cloud) (now : Writing T) → at + n ≤ count → LosesRun view n (columns_from start at n) b mid fault b' now → LosesRecords view out ⊥ (Unit {0}) fault (view now.target)
    puts_not n fault b' now within lost = by_fault fault lost.cause
      where
        passing : PassesWith n (columns_from start at n) b mid → ⊥
        passing passes =
            never_past (at + n) within
            (subst (λ (columns : List (List Value)). PassesWith (at + n) columns c out) (columns_more start at n) (passes_later view at n (columns_from start 0 at) (columns_from start at n) c b out mid adds passes))

        by_fault : (fault : WriteFault) → LosesRecords view mid (PassesWith n (columns_from start at n) b mid) (HasStrings b.kinds) fault (view now.target) → LosesRecords view out ⊥ (Unit {0}) fault (view now.target)
        by_fault Target lost = (
          leaves_later view out mid (view now.target) adds.target lost.0,
          rose_before (view out.target).faults (view mid.target).faults (view now.target).faults adds.target.faults lost.1,
        )
        by_fault Large lost = (leaves_later view out mid (view now.target) adds.target lost.0, passing lost.1)
        by_fault Memory lost = (leaves_later view out mid (view now.target) adds.target lost.0, tt)

  -- ---- all of them were put

  module _ (b : Cloud) (mid : Writing T) (adds : AddsRecords view count (columns_from start 0 count) c out b mid) where
    stands_all : Stands out.told_bytes out.size (columns_from start 0 count) b mid
    stands_all = subst (λ (cs : List (List Value)). Stands out.told_bytes out.size cs b mid) (none_first start count) (adds.stands out.told_bytes out.size (no_records trial_kinds) stands_new)

    pub here_all : IsHere b mid
    here_all = is_here b mid (record { before = out.told_bytes; start = out.size; columns = columns_from start 0 count; stands = stands_all })

    section_same : section_of out.size b (columns_from start 0 count) ≡ section_spelled out.size trial_kinds c.chunk count (columns_from start 0 count)
    section_same =
        let zero = ap (λ (x : Cloud). x.count) fresh in
        let now = adds.count in
        let many : b.count ≡ count = omega (arith, zero, now) in
        ap (λ (q : ℕ). section_spelled q b.kinds b.chunk b.count (columns_from start 0 count)) (whole_size out.size (omega (arith, begun)))
        ∙ ap (λ (ks : List ItemKind). section_spelled out.size ks b.chunk b.count (columns_from start 0 count)) (adds.kinds ∙ kinds)
        ∙ ap (λ (m : ℕ). section_spelled out.size trial_kinds m b.count (columns_from start 0 count)) adds.chunk
        ∙ ap (λ (m : ℕ). section_spelled out.size trial_kinds c.chunk m (columns_from start 0 count)) many

    closed_on : (offset : ℕ) (now : Writing T) → ClosesOn view b mid offset now → (offset ≡ physical out.size) × Puts view out (section_spelled out.size trial_kinds c.chunk count (columns_from start 0 count)) now
    closed_on offset now closes =
        let puts = closes.section out.told_bytes out.size (columns_from start 0 count) stands_all in
        let size = whole_size out.size (omega (arith, begun)) in (
          puts.place ∙ ap physical size,
          record {
            bytes = puts.bytes
                ∙ told_behind out.size out.told_bytes (section_of out.size b (columns_from start 0 count)) (omega (arith, begun)) state.bytes
                ∙ ap (λ (xs : List ℕ). option_map (λ bytes. bytes ++ xs) out.told_bytes) section_same;
            size = puts.size ∙ ap (λ m. m + length (section_of out.size b (columns_from start 0 count))) size ∙ ap (λ (xs : List ℕ). out.size + length xs) section_same;
            held = closes.held ∙ sym free;
            state = closes.state;
            target = keeps_both (view out.target) (view mid.target) (view now.target) adds.target closes.target;
          },
        )

    pub closed : (w : Written) (now : Writing T) → 0 < count → ClosesCloud view b mid w now → (w.place ≡ physical out.size) × Puts view out (section_spelled out.size trial_kinds c.chunk count (columns_from start 0 count)) now
    closed w now some closes =
        let zero = ap (λ (x : Cloud). x.count) fresh in
        let many = adds.count in
        ⊎_elim (λ (none : ClosesNothing b mid w.place now). let nothing = none.count in absurd (omega (arith, zero, many, nothing, some))) (λ (on : (0 < b.count) × ClosesOn view b mid w.place now). closed_on w.place now on.1) closes.section

    pub unclosed : (fault : WriteFault) (now : Writing T) → LosesRecords view mid (PassesSection b mid) (HasStrings b.kinds) fault (view now.target) → LosesRecords view out ⊥ (Unit {0}) fault (view now.target)
    unclosed fault now lost = by_fault fault lost
      where
        by_fault : (fault : WriteFault) → LosesRecords view mid (PassesSection b mid) (HasStrings b.kinds) fault (view now.target) → LosesRecords view out ⊥ (Unit {0}) fault (view now.target)
        by_fault Target lost = (
          leaves_later view out mid (view now.target) adds.target lost.0,
          rose_before (view out.target).faults (view mid.target).faults (view now.target).faults adds.target.faults lost.1,
        )
        by_fault Large lost =
            let past = lost.1 out.told_bytes out.size (columns_from start 0 count) stands_all in
            let size = whole_size out.size (omega (arith, begun)) in
            let same = ap (λ (xs : List ℕ). length xs) section_same in
            let short = short_section out.size c.chunk start count chunk.some few in
            (leaves_later view out mid (view now.target) adds.target lost.0, omega (arith, past, size, same, short, begun))
        by_fault Memory lost = (leaves_later view out mid (view now.target) adds.target lost.0, tt)
