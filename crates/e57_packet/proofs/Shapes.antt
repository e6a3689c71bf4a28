-- Each condition of a shape, by itself.
use Rattle.std.specs.Prelude.{◌≡◌, ℕ, ◌+◌, ◌*◌, ◌%◌, ◌<◌, ◌≤◌, true, false, List, length, sum}
use Rattle.std.proofs.Common.{refl}
use Rattle.std.proofs.Math.Bool.{or-true}
use Rattle.std.proofs.lemmas.Bool.{lt-ltb, le-ltb, eq-eqb, ne_eqb}
use Rattle.e57_layout.specs.Packets.{sort_at, length_at, stream_count_at, lengths_at}
use Rattle.e57_layout.specs.IndexPackets.{entry_count_at}
use Rattle.e57_packet.specs.Reading.{is_misshapen, is_misshapen_head}

-- ---- index packets

pub index_sort : (b : List ℕ) → (sort_at b 0 ≡ 0 → ⊥) → is_misshapen_head b ≡ true
unfolding is_misshapen_head
index_sort b h = let e = ne_eqb (sort_at b 0) 0 h in rw e refl

pub index_length : (b : List ℕ) → (length_at b 0 % 4 ≡ 0 → ⊥) → is_misshapen_head b ≡ true
unfolding is_misshapen_head
index_length b h = let e = ne_eqb (length_at b 0 % 4) 0 h in rw (e, or-true) refl

pub index_none : (b : List ℕ) → entry_count_at b 0 ≡ 0 → is_misshapen_head b ≡ true
unfolding is_misshapen_head
index_none b h = let e = eq-eqb (entry_count_at b 0) 0 h in rw (e, or-true, or-true) refl

pub index_many : (b : List ℕ) → 2048 < entry_count_at b 0 → is_misshapen_head b ≡ true
unfolding is_misshapen_head
index_many b h = let e = lt-ltb 2048 (entry_count_at b 0) h in rw (e, or-true, or-true, or-true) refl

pub index_past : (b : List ℕ) → length_at b 0 < 16 + 16 * entry_count_at b 0 → is_misshapen_head b ≡ true
unfolding is_misshapen_head
index_past b h = let e = lt-ltb (length_at b 0) (16 + 16 * entry_count_at b 0) h in rw (e, or-true, or-true, or-true, or-true) refl

pub index_sound : (b : List ℕ) → sort_at b 0 ≡ 0 → length_at b 0 % 4 ≡ 0 → (entry_count_at b 0 ≡ 0 → ⊥) → entry_count_at b 0 ≤ 2048 → 16 + 16 * entry_count_at b 0 ≤ length_at b 0 → is_misshapen_head b ≡ false
unfolding is_misshapen_head
index_sound b sort whole some most within =
    let e1 = eq-eqb (sort_at b 0) 0 sort in
    let e2 = eq-eqb (length_at b 0 % 4) 0 whole in
    let e3 = ne_eqb (entry_count_at b 0) 0 some in
    let e4 = le-ltb 2048 (entry_count_at b 0) most in
    let e5 = le-ltb (length_at b 0) (16 + 16 * entry_count_at b 0) within in
    rw (e1, e2, e3, e4, e5) refl

-- ---- data packets

pub data_short : (b : List ℕ) (fields : ℕ) → length b < 6 → is_misshapen b fields ≡ true
unfolding is_misshapen
data_short b fields h = let e = lt-ltb (length b) 6 h in rw e refl

pub data_count : (b : List ℕ) (fields : ℕ) → (stream_count_at b 0 ≡ fields → ⊥) → is_misshapen b fields ≡ true
unfolding is_misshapen
data_count b fields h = let e = ne_eqb (stream_count_at b 0) fields h in rw (e, or-true) refl

pub data_past : (b : List ℕ) (fields : ℕ) → length b < 6 + 2 * fields + sum (lengths_at b 6 fields) → is_misshapen b fields ≡ true
unfolding is_misshapen
data_past b fields h = let e = lt-ltb (length b) (6 + 2 * fields + sum (lengths_at b 6 fields)) h in rw (e, or-true, or-true) refl

pub data_sound : (b : List ℕ) (fields : ℕ) → 6 ≤ length b → stream_count_at b 0 ≡ fields → 6 + 2 * fields + sum (lengths_at b 6 fields) ≤ length b → is_misshapen b fields ≡ false
unfolding is_misshapen
data_sound b fields some count within =
    let e1 = le-ltb (length b) 6 some in
    let e2 = eq-eqb (stream_count_at b 0) fields count in
    let e3 = le-ltb (length b) (6 + 2 * fields + sum (lengths_at b 6 fields)) within in
    rw (e1, e2, e3) refl
