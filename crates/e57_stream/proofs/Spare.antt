-- Numbers that lie in the first bytes of a buffer: what stands behind these bytes changes nothing.
use Rattle.std.proofs.Common.{◌≡◌, ℕ, ℤ, ◌+◌, ◌-◌, ◌*◌, ◌/◌, ◌%◌, ◌<◌, ◌≤◌, List, Result, Ok, Err, length, take, drop, subst, arith}
use Rattle.std.proofs.lemmas.List.{drop-take}
use Rattle.e57_bits.proofs.BitLaws.{number-take}
use Rattle.e57_lanes.specs.Unpack.{Written, Unpacks, stored}
use Rattle.e57_lanes.proofs.PackedItems.{item_room}

stored_held : (x : List ℕ) (k phase width n i : ℕ) → phase + width * n ≤ 8 * k → i < n → stored (take k x) phase width i ≡ stored x phase width i
stored_held x k phase width n i there below = number-take x k (phase + i * width) width (item_room i n width phase k below (rw (commuted n width) there))
  where
    commuted : (a b : ℕ) → a * b ≡ b * a
    commuted a b = grind arith

written_held : (x : List ℕ) (k phase width n : ℕ) (minimum : ℤ) (span until : ℕ) (old new : List ℤ) → phase + width * n ≤ 8 * k → until ≤ n
    → Written x phase width minimum span 0 until old new → Written (take k x) phase width minimum span 0 until old new
written_held x k phase width n minimum span until old new there within written = record {
  within = λ i from below. let same = stored_held x k phase width n i there (omega (arith, below, within)) in rw same (written.within i from below);
  items = λ i from below. let same = stored_held x k phase width n i there (omega (arith, below, within)) in rw same (written.items i from below);
  others = written.others;
  same_length = written.same_length;
}

unpacks_take : (x : List ℕ) (k phase width : ℕ) (minimum : ℤ) (span : ℕ) (old : List ℤ) (r : Result (Unit {0}) ℕ) (new : List ℤ) → phase + width * length old ≤ 8 * k
    → Unpacks x phase width minimum span old r new → Unpacks (take k x) phase width minimum span old r new
unpacks_take x k phase width minimum span old (Ok done) new there written = written_held x k phase width (length old) minimum span (length old) old new there (omega arith) written
unpacks_take x k phase width minimum span old (Err i) new there stops =
    let same = stored_held x k phase width (length old) i there stops.there in
    record {
      there = stops.there;
      above = rw same stops.above;
      before = written_held x k phase width (length old) minimum span i old new there (omega (arith, stops.there)) stops.before;
    }

-- the bytes that are held, from byte s on
held_from : (b : List ℕ) (held s : ℕ) → s ≤ held → drop s (take held b) ≡ take (held - s) (drop s b)
held_from b held s within = let whole : s + (held - s) ≡ held = omega (arith, within) in subst (λ k. drop s (take k b) ≡ take (held - s) (drop s b)) whole (drop-take s (held - s) b)

-- unpacked from a buffer is unpacked from the bytes that are held in it
pub unpacks_held : (b : List ℕ) (held bit width : ℕ) (minimum : ℤ) (span : ℕ) (old : List ℤ) (r : Result (Unit {0}) ℕ) (new : List ℤ) → bit + width * length old ≤ 8 * held → bit ≤ 8 * held
    → Unpacks (drop (bit / 8) b) (bit % 8) width minimum span old r new → Unpacks (drop (bit / 8) (take held b)) (bit % 8) width minimum span old r new
unpacks_held b held bit width minimum span old r new there within unpacked =
    let bytes : bit / 8 ≤ held = omega (arith, within) in
    let front = held_from b held (bit / 8) bytes in
    rw front (unpacks_take (drop (bit / 8) b) (held - bit / 8) (bit % 8) width minimum span old r new (omega (arith, there, bytes)) unpacked)
