-- Why a walk over an index ends soon: an index packet that is led to with two records has a fault for one of them, and in a
-- walk without fault no two entries of one height lead to the same packet.
use Rattle.std.specs.Prelude.{◌≡◌, ℕ, ◌+◌, ◌*◌, ◌<◌, false, List, [], ◌∷◌, length, None}
use Rattle.std.proofs.Common.{refl, sym, ◌∙◌}
use Rattle.std.proofs.lemmas.Bool.{ne_eqb}
use Rattle.e57_page.specs.File.{logical, span_fault}
use Rattle.e57_layout.specs.IndexPackets.{entry_count_at}
use Rattle.e57_layout.specs.declared.packet.Entry.{Entry}
use Rattle.e57_layout.specs.declared.section.Section.{Section}
use Rattle.e57_cloud.specs.Index.{known_place, entries_of, begins_and_rises, next_first, index_shape_fault, index_packet_fault}
use Rattle.e57_cloud.proofs.Laws.Descents.{packet-entries}
use Rattle.e57_index.specs.Reading.{IsRefusedAgain}
use Rattle.e57_base.proofs.Options.{option_or_parts}

other-first : (first bound b other : ℕ) (es : List Entry) → next_first bound es ≡ first → 0 < length es → (other ≡ first → ⊥) → begins_and_rises other b es ≡ false
unfolding begins_and_rises
other-first first bound b other [] begins some differ = refl
other-first first bound b other (e ∷ es) begins some differ = rw (ne_eqb e.first other (λ same. differ (sym same ∙ begins))) refl

-- its start, shape and pages have no fault
sound_before : (file : List ℕ) (s : Section) (level : ℕ) (x : Entry) (a : ℕ) → index_packet_fault file s level x a ≡ None → (index_shape_fault file s level x.place ≡ None) × (span_fault file (known_place x.place + 16) (16 * entry_count_at (logical file) (known_place x.place)) ≡ None)
unfolding index_packet_fault
sound_before file s level x a none =
    let first = option_or_parts (index_shape_fault file s level x.place) _ none in
    (first.0, (option_or_parts (span_fault file (known_place x.place + 16) (16 * entry_count_at (logical file) (known_place x.place))) _ first.1).0)

pub refused_again : (file : List ℕ) (s : Section) (level : ℕ) (x y : Entry) (a b : ℕ) → IsRefusedAgain file s level x y a b
unfolding index_packet_fault
refused_again file s level x y a b none same differ =
    let packet = packet-entries file s level x a none in
    let wrong = other-first x.first a b y.first (entries_of file x.place) packet.1 packet.2 differ in
    let sound = sound_before file s level x a none in
    let shape = sound.0 in
    let right = sound.1 in
    rw (same, shape, right, wrong) refl
