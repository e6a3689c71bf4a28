-- Reading integers step by step.
use Rattle.std.proofs.Common.{◌≡◌, ℕ, ◌+◌, ◌-◌, ◌<◌, ◌≤◌, List, ◌++◌, length, get_or, take, drop, refl, sym, subst, ap, ◌∙◌, arith, inl, ⊎_elim}
use Rattle.std.specs.Prelude.{min, ℤ, pos, ◌≤ℤ◌, Ok}
use Rattle.std.proofs.lemmas.Bool.{cases_lt}
use Rattle.std.proofs.lemmas.List.{length-take, get_or_append_left}
use Rattle.e57_base.specs.Source.{SourceView}
use Rattle.e57_base.specs.declared.fault.ReadFault.{ReadFault}
use Rattle.e57_lanes.specs.Unpack.{Written}
use Rattle.e57_layout.specs.Values.{whole}
use Rattle.e57_layout.specs.Widths.{width}
use Rattle.e57_layout.proofs.Laws.Widths.{bit_length-le}
use Rattle.std.specs.Int.{int_gap}
use Rattle.e57_stream.specs.declared.bytestream.Bytestream.{Bytestream}
use Rattle.e57_stream.specs.declared.bytestream.Integers.{Integers}
use Rattle.e57_stream.specs.declared.chunk.Chunk.{Chunk}
use Rattle.e57_stream.specs.Standing.{IsWithin, items_held, moved_on, let_gone, wanted, IsOnward}
use Rattle.e57_stream.specs.Taking.{TakesPacket, TakesNone}
use Rattle.e57_stream.specs.Reading.{ReadsItems, StopsAt}
use Rattle.e57_stream.proofs.ReadingLaws.{reads_on, stops_on, reads_nothing}
use Rattle.e57_stream.specs.Integers.{IsRange, kind_of, FillsIntegers, whole_at, ReadsIntegers, StopsIntegers, TakesIntegers}
use Rattle.e57_stream.proofs.IntegerItems.{fills_integers, within_as}
use Rattle.e57_stream.proofs.WindowItems.{HasNone, none_taken}
use Rattle.e57_stream.proofs.NextPacket.{MayTake, may_take, packet_read, packet_stopped, MayStep, may_step_on, step_less}
use Rattle.e57_stream.proofs.Parts.{part_before, part_in, length-part, length_of_part, rest_on, behind_front, length_front}
use borrow.Rule.Slice.PartMut.{put_mid}

-- ---- no item in the window

width_most : (low high : ℤ) → width low high ≤ 64
unfolding width
width_most low high = bit_length-le 64 (int_gap low high)

some_bits : (range : Integers) → IsRange range → 0 < width range.low range.high
some_bits range is = subst (λ (w : ℕ). 0 < w) is.width_is is.some

-- where no item was read into one or more places
has_none : (range : Integers) (before mid : Chunk) (old new : List ℤ) (n : ℕ) → IsRange range → 0 < length old → n ≤ 0 → TakesIntegers range before old (Ok n) mid new → HasNone (width range.low range.high) before mid
has_none range before mid old new n is some zero takes =
    none_taken (width range.low range.high) (length old) n before mid (some_bits range is) (width_most range.low range.high) some zero (takes.0 ∙ ap (λ (w : ℕ). min (length old) (items_held w before)) is.width_is) (takes.1 ∙ ap (λ (w : ℕ). moved_on w n before) is.width_is)

pub may_take_on : (b : Bytestream) (range : Integers) (before mid gone : Chunk) (old new : List ℤ) (n : ℕ) → IsRange range → before.taken ≤ b.section.end → 0 < length old → n ≤ 0 → TakesIntegers range before old (Ok n) mid new → gone ≡ let_gone mid → MayTake b.section.end gone
may_take_on b range before mid gone old new n is within some zero takes gone_is = may_take b.section.end (width range.low range.high) before mid gone within (has_none range before mid old new n is some zero takes) gone_is

-- where the window had none, nothing of the buffer was changed
fills_none : (range : Integers) (before after : Chunk) (old new : List ℤ) (n : ℕ) → IsRange range → n ≤ 0 → TakesIntegers range before old (Ok n) after new → FillsIntegers range 0 old new
fills_none range before after old new n is zero takes =
    let e : n ≡ 0 = omega (arith, zero) in
    subst (λ (k : ℕ). FillsIntegers range k old new) e (fills_integers range before n old new is takes.2)

-- some were
pub onward_items : (range : Integers) (before after : Chunk) (old new : List ℤ) (n : ℕ) → 0 < n → TakesIntegers range before old (Ok n) after new → IsOnward before after
unfolding moved_on
onward_items range before after old new n some takes =
    let at : after.at ≡ before.at + n = ap (λ (c : Chunk). c.at) takes.1 in
    inl (omega (arith, at, some))

-- then a packet was taken
pub reads_packet : (source source' : SourceView) (b : Bytestream) (range : Integers) (before mid gone after : Chunk) (old new : List ℤ) (n : ℕ) → IsRange range → IsWithin b.section range.width before → 0 < length old → n ≤ 0 → TakesIntegers range before old (Ok n) mid new → gone ≡ let_gone mid
    → TakesPacket source b gone after source' → ReadsIntegers source b range before (length old) 0 old new after source' × (before.taken < after.taken)
reads_packet source source' b range before mid gone after old new n is within some zero takes gone_is packet =
    let none = has_none range before mid old new n is some zero takes in
    let read = packet_read source source' b (kind_of range) before mid gone after (length old) (whole_at new) (some_bits range is) (within_as b range before is.width_is within) some none gone_is packet in
    (record { fills = fills_none range before mid old new n is zero takes; reads = read.0 }, read.1)

-- or none was
pub stops_packet : (source source' : SourceView) (b : Bytestream) (range : Integers) (before mid gone after : Chunk) (old new : List ℤ) (n : ℕ) (found : ReadFault) → IsRange range → IsWithin b.section range.width before → 0 < length old → n ≤ 0 → TakesIntegers range before old (Ok n) mid new → gone ≡ let_gone mid
    → TakesNone source b gone found after source' → StopsIntegers source b range before (length old) 0 found old new after source'
stops_packet source source' b range before mid gone after old new n found is within some zero takes gone_is packet =
    let none = has_none range before mid old new n is some zero takes in
    record {
      fills = fills_none range before mid old new n is zero takes;
      stops = packet_stopped source source' b (kind_of range) before mid gone after (length old) found (whole_at new) (some_bits range is) (within_as b range before is.width_is within) some none gone_is packet;
    }

-- ---- one step after another

-- a buffer of which some places were filled, and then some of a part
fills_on : (range : Integers) (want n m : ℕ) (out0 out1 part part' : List ℤ) → n ≤ want → want ≤ length out1 → part ≡ take (want - n) (drop n out1) → m ≤ want - n → FillsIntegers range n out0 out1 → FillsIntegers range m part part' → FillsIntegers range (n + m) out0 (put_mid n (want - n) out1 part')
fills_on range want n m out0 out1 part part' few room is fewer f g =
    let begin : n ≤ length out1 = omega (arith, few, room) in
    let size : length part' ≡ want - n = g.same_length ∙ length_of_part out1 part want n few room is in
    record {
      least = λ j below. ⊎_elim
          (λ (early : j < n). rw (part_before out1 part' n (want - n) j (pos 0) begin early) (f.least j early))
          (λ (late : n ≤ j).
          let e : n + (j - n) ≡ j = omega (arith, late) in
          let there : j - n < m = omega (arith, below, late) in
          subst (λ (i : ℕ). range.low ≤ℤ get_or (put_mid n (want - n) out1 part') i (pos 0)) e (rw (part_in out1 part' n (want - n) (j - n) (pos 0) begin (omega (arith, there, size, fewer))) (g.least (j - n) there)))
          (cases_lt j n);
      most = λ j below. ⊎_elim
          (λ (early : j < n). rw (part_before out1 part' n (want - n) j (pos 0) begin early) (f.most j early))
          (λ (late : n ≤ j).
          let e : n + (j - n) ≡ j = omega (arith, late) in
          let there : j - n < m = omega (arith, below, late) in
          subst (λ (i : ℕ). get_or (put_mid n (want - n) out1 part') i (pos 0) ≤ℤ range.high) e (rw (part_in out1 part' n (want - n) (j - n) (pos 0) begin (omega (arith, there, size, fewer))) (g.most (j - n) there)))
          (cases_lt j n);
      rest = λ j past. rest_on want n m j out0 out1 part part' (pos 0) few room is g.same_length f.rest g.rest past;
      same_length = length-part out1 part' n (want - n) (omega (arith, few, room)) size ∙ f.same_length;
    }

-- some items, and then some more into a part of the buffer
pub reads_integers_on : (s0 s1 s2 : SourceView) (b : Bytestream) (range : Integers) (first second third : Chunk) (want n m : ℕ) (out0 out1 part part' : List ℤ) → n ≤ want → want ≤ length out1 → part ≡ take (want - n) (drop n out1)
    → ReadsIntegers s0 b range first want n out0 out1 second s1 → ReadsIntegers s1 b range second (length part) m part part' third s2 → ReadsIntegers s0 b range first want (n + m) out0 (put_mid n (want - n) out1 part') third s2
reads_integers_on s0 s1 s2 b range first second third want n m out0 out1 part part' few room is f g =
    let begin : n ≤ length out1 = omega (arith, few, room) in
    let size = length_of_part out1 part want n few room is in
    let count = g.reads.count in
    let size_too : length part' ≡ want - n = g.fills.same_length ∙ size in
    record {
      fills = fills_on range want n m out0 out1 part part' few room is (omega (arith, count, size)) f.fills g.fills;
      reads = reads_on s0 s1 s2 b (kind_of range) first second third want n m (whole_at out1) (whole_at part') (whole_at (put_mid n (want - n) out1 part'))
          (λ j early. ap whole (sym (part_before out1 part' n (want - n) j (pos 0) begin early)))
          (λ j there. ap whole (sym (part_in out1 part' n (want - n) j (pos 0) begin (omega (arith, there, count, size, size_too)))))
          f.reads (subst (λ (k : ℕ). ReadsItems s1 b (kind_of range) second k m (whole_at part') third s2) size g.reads);
    }

pub stops_integers_on : (s0 s1 s2 : SourceView) (b : Bytestream) (range : Integers) (first second third : Chunk) (want n m : ℕ) (found : ReadFault) (out0 out1 part part' : List ℤ) → n ≤ want → want ≤ length out1 → part ≡ take (want - n) (drop n out1)
    → ReadsIntegers s0 b range first want n out0 out1 second s1 → StopsIntegers s1 b range second (length part) m found part part' third s2 → StopsIntegers s0 b range first want (n + m) found out0 (put_mid n (want - n) out1 part') third s2
stops_integers_on s0 s1 s2 b range first second third want n m found out0 out1 part part' few room is f g =
    let begin : n ≤ length out1 = omega (arith, few, room) in
    let size = length_of_part out1 part want n few room is in
    let count = g.stops.below in
    let size_too : length part' ≡ want - n = g.fills.same_length ∙ size in
    record {
      fills = fills_on range want n m out0 out1 part part' few room is (omega (arith, count, size)) f.fills g.fills;
      stops = stops_on s0 s1 s2 b (kind_of range) first second third want n m found (whole_at out1) (whole_at part') (whole_at (put_mid n (want - n) out1 part'))
          (λ j early. ap whole (sym (part_before out1 part' n (want - n) j (pos 0) begin early)))
          (λ j there. ap whole (sym (part_in out1 part' n (want - n) j (pos 0) begin (omega (arith, there, count, size, size_too)))))
          f.reads (subst (λ (k : ℕ). StopsAt s1 b (kind_of range) second k m found (whole_at part') third s2) size g.stops);
    }

-- ---- unpacking

pub written_none : (bytes : List ℕ) (phase w : ℕ) (low : ℤ) (span : ℕ) (out : List ℤ) → Written bytes phase w low span 0 0 out out
written_none bytes phase w low span out = record { within = λ k from until. absurd (omega (arith, until)); items = λ k from until. absurd (omega (arith, until)); others = λ k not_those. refl; same_length = refl }

-- all of so many places were written
pub all_written : (bytes : List ℕ) (phase w : ℕ) (low : ℤ) (span n : ℕ) (out new : List ℤ) → length out ≡ n → Written bytes phase w low span 0 (length out) out new → Written bytes phase w low span 0 n out new
all_written bytes phase w low span n out new size written = subst (λ (k : ℕ). Written bytes phase w low span 0 k out new) size written

-- what was unpacked into the front of a buffer
pub written_front : (bytes : List ℕ) (phase w : ℕ) (low : ℤ) (span n : ℕ) (out part : List ℤ) → n ≤ length out → Written bytes phase w low span 0 n (take n out) part → Written bytes phase w low span 0 n out (part ++ drop n out)
written_front bytes phase w low span n out part room written =
    let front : length (take n out) ≡ n = length-take n out ∙ omega (arith, room) in
    let size : length part ≡ n = written.same_length ∙ front in
    record {
      within = written.within;
      items = λ k from until. get_or_append_left part (drop n out) (pos 0) k (omega (arith, size, until)) ∙ written.items k from until;
      others = λ k not_those. ⊎_elim (λ (below : k < 0). absurd (omega (arith, below))) (λ (past : n ≤ k). behind_front out part n k (pos 0) size past) not_those;
      same_length = length_front out part n size room;
    }

-- ---- a loop

-- nothing was read yet
pub reads_integers_none : (source : SourceView) (b : Bytestream) (range : Integers) (chunk : Chunk) (want : ℕ) (out : List ℤ) → IsRange range → IsWithin b.section range.width chunk → ReadsIntegers source b range chunk want 0 out out chunk source
reads_integers_none source b range chunk want out is within = record {
  fills = record { least = λ j below. absurd (omega (arith, below)); most = λ j below. absurd (omega (arith, below)); rest = λ j past. refl; same_length = refl };
  reads = reads_nothing source b (kind_of range) chunk want (whole_at out) (within_as b range chunk is.width_is within);
}

-- what a step asks for
pub may_step : (s0 s1 : SourceView) (b : Bytestream) (range : Integers) (first second : Chunk) (want n : ℕ) (out0 out1 : List ℤ) → IsRange range → first.at ≤ first.until → n ≤ want → want ≡ wanted first (length out0) → ReadsIntegers s0 b range first want n out0 out1 second s1 → MayStep b range.width second (want - n)
may_step s0 s1 b range first second want n out0 out1 is low few want_is f =
    subst (λ (w : ℕ). MayStep b w second (want - n)) (sym is.width_is) (may_step_on s0 s1 b (kind_of range) first second want n (length out0) (whole_at out1) low few want_is f.reads)

-- where the state is after a read
pub within_read : (s0 s1 : SourceView) (b : Bytestream) (range : Integers) (first second : Chunk) (want n : ℕ) (out0 out1 : List ℤ) → IsRange range → ReadsIntegers s0 b range first want n out0 out1 second s1 → IsWithin b.section range.width second
within_read s0 s1 b range first second want n out0 out1 is f = subst (λ (w : ℕ). IsWithin b.section w second) (sym is.width_is) f.reads.stays.within

-- and after one that stopped
pub within_stopped : (s0 s1 : SourceView) (b : Bytestream) (range : Integers) (first second : Chunk) (want n : ℕ) (found : ReadFault) (out0 out1 : List ℤ) → IsRange range → StopsIntegers s0 b range first want n found out0 out1 second s1 → IsWithin b.section range.width second
within_stopped s0 s1 b range first second want n found out0 out1 is f = subst (λ (w : ℕ). IsWithin b.section w second) (sym is.width_is) f.stops.stays.within

-- a step goes on
pub step_smaller : (s0 s1 : SourceView) (b : Bytestream) (range : Integers) (before after : Chunk) (left n : ℕ) (out new : List ℤ) → ReadsIntegers s0 b range before left n out new after s1 → IsOnward before after → (want done : ℕ) → left ≡ want - done → done < want → (b.section.end - after.taken) + (want - (done + n)) < (b.section.end - before.taken) + (want - done)
step_smaller s0 s1 b range before after left n out new f onward want done left_is below = step_less s0 s1 b (kind_of range) before after left n (whole_at new) f.reads onward want done left_is below
