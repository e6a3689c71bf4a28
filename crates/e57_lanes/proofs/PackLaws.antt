-- What was packed is unpacked again.
use Rattle.std.proofs.Common.{◌≡◌, ℕ, ◌+◌, ◌-◌, ◌*◌, ◌^◌, ◌<◌, ◌≤◌, List, length, get_or, ℤ, pos, ◌+ℤ◌, ◌-ℤ◌, ◌≤ℤ◌, Ok, Err, refl, ◌∙◌, arith}
use Rattle.std.proofs.lemmas.List.{ext_get_or}
use Rattle.std.proofs.lemmas.Int.{ints}
use Rattle.e57_lanes.specs.Unpack.{stored, CanUnpack}
use Rattle.e57_lanes.specs.Pack.{Packed, CanPack, PackedComesBack}

-- the number of a packed item, with the minimum added
value_back : (n : ℕ) (minimum z : ℤ) → pos n ≡ z -ℤ minimum → minimum +ℤ pos n ≡ z
value_back n minimum z e = omega (arith, ints)

within_span : (n span : ℕ) (minimum z : ℤ) → pos n ≡ z -ℤ minimum → z ≤ℤ (minimum +ℤ pos span) → n ≤ span
within_span n span minimum z e h = omega (arith, ints)

-- packed values can be unpacked
pub CanUnpack-packed : (values : List ℤ) (minimum : ℤ) (width phase span : ℕ) (before bytes : List ℕ)
    → CanPack values minimum width phase before → Packed values minimum width phase before bytes
    → span < 2 ^ width → (minimum +ℤ pos span) ≤ℤ pos (2 ^ 63 - 1) → CanUnpack bytes phase width minimum span (length values)
CanUnpack-packed values minimum width phase span before bytes can packed small fits = record {
  phase_in_byte = can.phase_in_byte;
  width_in_word = can.width_in_word;
  bits_there = rw packed.same_length (room can.room);
  span_in_width = small;
  items_fit = fits;
}
  where
    room : phase + length values * width ≤ 8 * length before → phase + width * length values ≤ 8 * length before
    room h = omega arith

pub unpacked_packed : PackedComesBack
unpacked_packed values minimum width phase span before bytes old new (Ok tt) packed long most unpacked = (
  refl,
  ext_get_or (pos 0) new values (unpacked.same_length ∙ long)
      (λ k h. let there : k < length values = omega (arith, unpacked.same_length, long) in
      unpacked.items k (omega arith) (omega (arith, long)) ∙ value_back (stored bytes phase width k) minimum (get_or values k (pos 0)) (packed.numbers k there)),
)
unpacked_packed values minimum width phase span before bytes old new (Err k) packed long most unpacked =
    let there : k < length values = omega (arith, unpacked.there, long) in
    let within = within_span (stored bytes phase width k) span minimum (get_or values k (pos 0)) (packed.numbers k there) (most k there) in
    absurd (omega (arith, within, unpacked.above))
