-- The first fault of one index packet, from its start, its level, its entries' pages and their order.
use Rattle.std.specs.Prelude.{◌≡◌, ℕ, ◌+◌, ◌*◌, ◌%◌, ◌==◌, not, nat_lt, Bool, true, false, List, Option, Some, None}
use Rattle.std.specs.Option.{option_or}
use Rattle.std.proofs.Common.{refl, sym, ◌∙◌}
use Rattle.std.proofs.lemmas.Bool.{eqb-true, or_right}
use Rattle.e57_base.specs.declared.fault.Fault.{Fault}
use Rattle.e57_base.specs.declared.kind.Kind.TheVariants.{IndexShape, IndexOrder}
use Rattle.e57_base.specs.Fault.{fault}
use Rattle.e57_page.specs.Place.{place}
use Rattle.e57_page.specs.File.{logical, span_fault}
use Rattle.e57_layout.specs.Packets.{sort_at, length_at}
use Rattle.e57_layout.specs.Written.{entries_limit}
use Rattle.e57_layout.specs.IndexPackets.{index_size, entry_count_at, level_at}
use Rattle.e57_layout.specs.declared.packet.Entry.{Entry}
use Rattle.e57_layout.specs.declared.section.Section.{Section}
use Rattle.e57_cloud.specs.Section.{when}
use Rattle.e57_cloud.specs.Index.{highest_level, known_place, begins_and_rises, is_misshapen_index, index_start_fault, index_shape_fault, index_packet_fault}
use Rattle.e57_index.specs.OnePacket.{level_fits, level_of, start_fault, wanted_fault, IsPacketAt}
use Rattle.e57_base.proofs.Options.{option_or_parts}

pub not_is : (t : Bool) → not t ≡ true → t ≡ false
not_is true e = sym e
not_is false e = refl

not_isn't : (t : Bool) → not t ≡ false → t ≡ true
not_isn't true e = refl
not_isn't false e = sym e

pub no_start_fault : (file : List ℕ) (s : Section) (level offset : ℕ) → index_shape_fault file s level offset ≡ None → index_start_fault file s offset (place offset) ≡ None
unfolding index_shape_fault
no_start_fault file s level offset none = (option_or_parts (index_start_fault file s offset (place offset)) (when (is_misshapen_index (logical file) s level (known_place offset)) (fault IndexShape s.node offset)) none).0

-- ---- the level

pub level_is : (file : List ℕ) (wanted : Option ℕ) (e : Entry) (level : ℕ) → level_at (logical file) (known_place e.place) ≡ level → level_fits wanted level ≡ true → level_of file wanted e ≡ level
level_is file None e level is fits = is
level_is file (Some wanted) e level is fits = sym (eqb-true level wanted fits)

pub start_none : (file : List ℕ) (s : Section) (wanted : Option ℕ) (e : Entry) (level : ℕ) → index_shape_fault file s level e.place ≡ None → level_at (logical file) (known_place e.place) ≡ level → level_fits wanted level ≡ true → start_fault file s wanted e ≡ None
start_none file s None e level shape is fits =
    let start = no_start_fault file s level e.place shape in
    let low = not_is (nat_lt highest_level level) fits in
    rw (start, is, low) refl
start_none file s (Some wanted) e level shape is fits = refl

other_level : (b : List ℕ) (s : Section) (level q : ℕ) → (level_at b q == level) ≡ false → is_misshapen_index b s level q ≡ true
unfolding is_misshapen_index
other_level b s level q other =
    let last : not (level_at b q == level) ≡ true = rw other refl in
    or_right (not (sort_at b q == 0)) _
    (or_right (not (length_at b q % 4 == 0)) _
    (or_right (nat_lt s.end (q + length_at b q)) _
    (or_right (entry_count_at b q == 0) _
    (or_right (nat_lt entries_limit (entry_count_at b q)) _
    (or_right (nat_lt (length_at b q) (index_size (entry_count_at b q))) _ last)))))

-- another level than the wanted one
pub level_fault : (file : List ℕ) (s : Section) (wanted : Option ℕ) (e : Entry) (bound level : ℕ) → index_shape_fault file s level e.place ≡ None → level_at (logical file) (known_place e.place) ≡ level → level_fits wanted level ≡ false → wanted_fault file s wanted e bound ≡ Some (fault IndexShape s.node e.place)
unfolding index_packet_fault index_shape_fault
level_fault file s None e bound level shape is fits =
    let start = no_start_fault file s level e.place shape in
    let high = not_isn't (nat_lt highest_level level) fits in
    rw (start, is, high) refl
level_fault file s (Some wanted) e bound level shape is fits =
    let start = no_start_fault file s level e.place shape in
    let other = other_level (logical file) s wanted (known_place e.place) (rw is fits) in
    rw (start, other) refl

-- ---- the start

of_start : (a rest : Option Fault) (m h : Bool) (f found : Fault) → option_or a (when m f) ≡ Some found → option_or (option_or a (when h f)) (option_or (option_or a (when m f)) rest) ≡ Some found
of_start (Some x) rest m h f found is = is
of_start None rest true true f found is = is
of_start None rest true false f found is = is
of_start None rest false h f found is = absurd cc

-- a fault of the first 16 bytes, whatever level is wanted
pub early_fault : (file : List ℕ) (s : Section) (wanted : Option ℕ) (e : Entry) (bound : ℕ) (found : Fault) → ((level : ℕ) → index_shape_fault file s level e.place ≡ Some found) → wanted_fault file s wanted e bound ≡ Some found
unfolding index_packet_fault index_shape_fault
early_fault file s None e bound found each =
    let level = level_at (logical file) (known_place e.place) in
    of_start (index_start_fault file s e.place (place e.place)) _ (is_misshapen_index (logical file) s level (known_place e.place)) (nat_lt highest_level level) (fault IndexShape s.node e.place) found (each level)
early_fault file s (Some wanted) e bound found each = rw (each wanted) refl

-- ---- the entries

-- a wrong page of the entries
pub late_fault : (file : List ℕ) (s : Section) (wanted : Option ℕ) (e : Entry) (bound level : ℕ) (found : Fault) → index_shape_fault file s level e.place ≡ None → level_at (logical file) (known_place e.place) ≡ level → level_fits wanted level ≡ true
    → span_fault file (known_place e.place + 16) (16 * entry_count_at (logical file) (known_place e.place)) ≡ Some found → wanted_fault file s wanted e bound ≡ Some found
unfolding index_packet_fault
late_fault file s wanted e bound level found shape is fits wrong =
    let start = start_none file s wanted e level shape is fits in
    let of_level = level_is file wanted e level is fits in
    rw (start, of_level, shape, wrong) refl

order_is : (file : List ℕ) (s : Section) (wanted : Option ℕ) (e : Entry) (bound level : ℕ) (entries : List Entry) → IsPacketAt file s e.place level entries → level_fits wanted level ≡ true → wanted_fault file s wanted e bound ≡ when (not (begins_and_rises e.first bound entries)) (fault IndexOrder s.node e.place)
unfolding index_packet_fault
order_is file s wanted e bound level entries at fits =
    let start = start_none file s wanted e level at.shape at.of_level fits in
    let of_level = level_is file wanted e level at.of_level fits in
    rw (start, of_level, at.shape, at.right, at.has) refl

-- the records aren't in order
pub order_fault : (file : List ℕ) (s : Section) (wanted : Option ℕ) (e : Entry) (bound level : ℕ) (entries : List Entry) → IsPacketAt file s e.place level entries → level_fits wanted level ≡ true → begins_and_rises e.first bound entries ≡ false → wanted_fault file s wanted e bound ≡ Some (fault IndexOrder s.node e.place)
order_fault file s wanted e bound level entries at fits wrong = order_is file s wanted e bound level entries at fits ∙ rw wrong refl

-- the packet has no fault
pub no_fault : (file : List ℕ) (s : Section) (wanted : Option ℕ) (e : Entry) (bound level : ℕ) (entries : List Entry) → IsPacketAt file s e.place level entries → level_fits wanted level ≡ true → begins_and_rises e.first bound entries ≡ true → wanted_fault file s wanted e bound ≡ None
no_fault file s wanted e bound level entries at fits right = order_is file s wanted e bound level entries at fits ∙ rw right refl
