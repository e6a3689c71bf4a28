-- Integers that a window has.
use Rattle.std.proofs.Common.{◌≡◌, ℕ, ◌+◌, ◌-◌, ◌*◌, ◌/◌, ◌%◌, ◌<◌, ◌≤◌, List, ◌++◌, length, drop, sym, subst, ap, ◌∙◌, arith, inr}
use Rattle.std.specs.Prelude.{ℤ, pos, ◌+ℤ◌, Ok, Err}
use Rattle.std.specs.Int.{int_gap}
use Rattle.e57_base.specs.Source.{SourceView}
use Rattle.e57_base.specs.declared.fault.ReadFault.{ReadFault}
use Rattle.e57_base.specs.declared.fault.ReadFault.TheVariants.{Refused}
use Rattle.e57_bits.specs.Bits.{number}
use Rattle.e57_layout.specs.Values.{integers, whole, here, out_of_range}
use Rattle.e57_layout.specs.Widths.{width}
use Rattle.e57_layout.specs.Items.{above, item_at}
use Rattle.e57_layout.proofs.Laws.Items.{bits_at-found, item_at-integers, above-within, above-over}
use Rattle.e57_layout.proofs.Laws.Widths.{gap-above}
use Rattle.e57_stream.specs.declared.bytestream.Bytestream.{Bytestream}
use Rattle.e57_stream.specs.declared.bytestream.Integers.{Integers}
use Rattle.e57_stream.specs.declared.chunk.Chunk.{Chunk}
use Rattle.e57_stream.specs.Standing.{IsWithin, items_held, moved_on}
use Rattle.e57_stream.specs.Reading.{ReadsItems, StopsAt}
use Rattle.e57_stream.proofs.ReadingLaws.{AreHere, reads_taken, stops_out}
use Rattle.e57_stream.proofs.WindowItems.{number_behind, bits_behind}
use Rattle.e57_stream.specs.Integers.{IsRange, kind_of, range_at, FillsIntegers, whole_at, ReadsIntegers, StopsIntegers, WindowWritten, window_number, TakesIntegers}

-- ---- an integer

here_integer : (low high : ℤ) (w : ℕ) (stream : List ℕ) (k n : ℕ) → w ≡ width low high → 0 < w → w * k + w ≤ 8 * length stream → number stream (w * k) w ≡ n → n ≤ int_gap low high → item_at (integers low high) stream k ≡ here (whole (low +ℤ pos n))
here_integer low high w stream k n e some room is near =
    let some' : 0 < width low high = rw (← e) some in
    let room' : width low high * k + width low high ≤ 8 * length stream = rw (← e) room in
    let is' : number stream (width low high * k) (width low high) ≡ n = rw (← e) is in
    item_at-integers low high stream k some' ∙ bits_at-found (width low high) (above low high k) stream k room' ∙ ap (above low high k) is' ∙ above-within low high k n near

over_integer : (low high : ℤ) (w : ℕ) (stream : List ℕ) (k n : ℕ) → w ≡ width low high → 0 < w → w * k + w ≤ 8 * length stream → number stream (w * k) w ≡ n → int_gap low high < n → item_at (integers low high) stream k ≡ out_of_range k
over_integer low high w stream k n e some room is far =
    let some' : 0 < width low high = rw (← e) some in
    let room' : width low high * k + width low high ≤ 8 * length stream = rw (← e) room in
    let is' : number stream (width low high * k) (width low high) ≡ n = rw (← e) is in
    item_at-integers low high stream k some' ∙ bits_at-found (width low high) (above low high k) stream k room' ∙ ap (above low high k) is' ∙ above-over low high k n far

begins_as : (range : Integers) (chunk : Chunk) (front : List ℕ) → range.width ≡ width range.low range.high → 8 * length front + chunk.bit ≡ width range.low range.high * (chunk.at - chunk.start) → 8 * length front + chunk.bit ≡ range.width * (chunk.at - chunk.start)
begins_as range chunk front e begins = begins ∙ ap (λ (w : ℕ). w * (chunk.at - chunk.start)) (sym e)

-- the items that were unpacked from the window are those of the stream
pub are_here : (range : Integers) (chunk : Chunk) (m : ℕ) (old new : List ℤ) → IsRange range → m ≤ items_held range.width chunk → WindowWritten range chunk m old new → AreHere (kind_of range) chunk m (whole_at new)
are_here range chunk m old new is few written front begins j below =
    let at = begins_as range chunk front is.width_is begins in
    let near : number (drop (chunk.bit / 8) chunk.window) (chunk.bit % 8 + j * range.width) range.width ≤ int_gap range.low range.high = written.within j (omega arith) below in
    here_integer range.low range.high range.width (front ++ chunk.window) (chunk.at - chunk.start + j) (number (drop (chunk.bit / 8) chunk.window) (chunk.bit % 8 + j * range.width) range.width) is.width_is is.some
    (bits_behind front chunk.window range.width chunk.bit (chunk.at - chunk.start) j is.some at (omega (arith, below, few)))
    (number_behind front chunk.window range.width chunk.bit (chunk.at - chunk.start) j at) near
    ∙ ap (λ (z : ℤ). here (whole z)) (sym (written.items j (omega arith) below))

pub is_over : (range : Integers) (chunk : Chunk) (k : ℕ) → IsRange range → k < items_held range.width chunk → int_gap range.low range.high < window_number range chunk k
    → (front : List ℕ) → 8 * length front + chunk.bit ≡ width range.low range.high * (chunk.at - chunk.start) → item_at (kind_of range) (front ++ chunk.window) (chunk.at - chunk.start + k) ≡ out_of_range (chunk.at - chunk.start + k)
is_over range chunk k is below far front begins =
    let at = begins_as range chunk front is.width_is begins in
    over_integer range.low range.high range.width (front ++ chunk.window) (chunk.at - chunk.start + k) (window_number range chunk k) is.width_is is.some
    (bits_behind front chunk.window range.width chunk.bit (chunk.at - chunk.start) k is.some at below)
    (number_behind front chunk.window range.width chunk.bit (chunk.at - chunk.start) k at) far

-- ---- a buffer

pub fills_integers : (range : Integers) (chunk : Chunk) (n : ℕ) (old new : List ℤ) → IsRange range → WindowWritten range chunk n old new → FillsIntegers range n old new
fills_integers range chunk n old new is written = record {
  least = λ j below. rw (written.items j (omega arith) below) (gap-above range.low range.high (window_number range chunk j) is.order (written.within j (omega arith) below)).0;
  most = λ j below. rw (written.items j (omega arith) below) (gap-above range.low range.high (window_number range chunk j) is.order (written.within j (omega arith) below)).1;
  rest = λ j past. written.others j (inr past);
  same_length = written.same_length;
}

pub within_as : (b : Bytestream) (range : Integers) (chunk : Chunk) → range.width ≡ width range.low range.high → IsWithin b.section range.width chunk → IsWithin b.section (width range.low range.high) chunk
within_as b range chunk e within = subst (λ (w : ℕ). IsWithin b.section w chunk) e within

-- items of the window were read
pub reads_integers : (source : SourceView) (b : Bytestream) (range : Integers) (before : Chunk) (old new : List ℤ) (n : ℕ) (after : Chunk) → IsRange range → IsWithin b.section range.width before → before.at + length old ≤ before.until
    → TakesIntegers range before old (Ok n) after new → ReadsIntegers source b range before (length old) n old new after source
reads_integers source b range before old new n after is within room takes =
    let count = takes.0 in
    record {
      fills = fills_integers range before n old new is takes.2;
      reads = subst (λ (chunk : Chunk). ReadsItems source b (kind_of range) before (length old) n (whole_at new) chunk source) (sym (takes.1 ∙ ap (λ (w : ℕ). moved_on w n before) is.width_is))
          (reads_taken source b (kind_of range) before (length old) n (whole_at new) (omega (arith, count)) (omega (arith, count, room)) (within_as b range before is.width_is within) (are_here range before n old new is (omega (arith, count)) takes.2));
    }

-- an integer of the window is above the highest value
pub stops_integers : (source : SourceView) (b : Bytestream) (range : Integers) (before : Chunk) (old new : List ℤ) (k : ℕ) (found : ReadFault) (after : Chunk) → IsRange range → IsWithin b.section range.width before → TakesIntegers range before old (Err k) after new
    → found ≡ Refused (range_at b (before.at + k)) → StopsIntegers source b range before (length old) k found old new after source
stops_integers source b range before old new k found after is within takes fault_is =
    let below = takes.0 in
    record {
      fills = fills_integers range before k old new is takes.2;
      stops = subst (λ (chunk : Chunk). StopsAt source b (kind_of range) before (length old) k found (whole_at new) chunk source) (sym takes.1)
          (stops_out source b (kind_of range) before (length old) k found (whole_at new) (omega (arith, below)) (within_as b range before is.width_is within) (are_here range before k old new is (omega (arith, below)) takes.2)
          (is_over range before k is (omega (arith, below)) takes.3) fault_is);
    }
