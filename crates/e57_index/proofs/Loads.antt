-- The packet that a cursor holds after a load.
use Rattle.std.specs.Prelude.{◌≡◌, ℕ, ◌*◌, true, false, List, take, Option, Some, None, IfSome}
use Rattle.std.proofs.Common.{refl, subst}
use Rattle.e57_base.specs.Fault.{fault}
use Rattle.e57_base.specs.Source.{SourceView}
use Rattle.e57_base.proofs.Told.{told_map, told_all}
use Rattle.e57_base.specs.declared.fault.ReadFault.{ReadFault}
use Rattle.e57_base.specs.declared.fault.ReadFault.TheVariants.{Refused, Source}
use Rattle.e57_base.specs.declared.kind.Kind.TheVariants.{IndexShape, IndexOrder}
use Rattle.e57_layout.specs.declared.packet.Entry.{Entry}
use Rattle.e57_layout.specs.declared.packet.IndexHead.{IndexHead}
use Rattle.e57_cloud.specs.Index.{begins_and_rises}
use Rattle.e57_index.specs.OnePacket.{level_fits, wanted_fault, OnPacket, IsPacketAt}
use Rattle.e57_index.specs.Reading.{ReadsIndex, LosesIndex}
use Rattle.e57_index.specs.Standing.{HeldPacket, Cursor, IsOfFile, StandsIn}
use Rattle.e57_index.specs.Holding.{front_entries, LoadsIndex, LosesLoad}
use Rattle.e57_index.proofs.Asked.{asks_met-none}
use Rattle.e57_index.proofs.Judged.{level_fault, order_fault}

-- ---- read

pub loaded_read : (old new : SourceView) (before after : Cursor) (wanted : Option ℕ) (e : Entry) (bound : ℕ) (head : IndexHead) (bytes : List ℕ)
    → after.held ≡ Some (record { place = e.place; level = head.level; first = e.first; bound = bound; entries = front_entries head.entries bytes }) → ReadsIndex old before.section wanted e bound head (take (16 * head.entries) bytes) new → LoadsIndex old before wanted e bound new after
loaded_read old new before after wanted e bound head bytes held read =
    record {
      h = record { place = e.place; level = head.level; first = e.first; bound = bound; entries = front_entries head.entries bytes };
      held = held;
      same_place = refl;
      same_first = refl;
      same_bound = refl;
      fits = read.fits;
      ordered = read.ordered;
      source = read.source;
      is = told_map (λ file. IsPacketAt file before.section e.place head.level (front_entries head.entries bytes)) (λ file. StandsIn file before → IsPacketAt file before.section e.place head.level (front_entries head.entries bytes)) old.held (λ file at stands. at) read.read;
    }

nothing_held : (file : List ℕ) (after : Cursor) → after.held ≡ None → StandsIn file after
nothing_held file after none = rw none tt

pub lost_read : (old new : SourceView) (before after : Cursor) (wanted : Option ℕ) (e : Entry) (bound : ℕ) (found : ReadFault) → after.held ≡ None → LosesIndex old before.section wanted e bound found new → LosesLoad old before wanted e bound found new after
lost_read old new before after wanted e bound (Refused found) none lost =
    record {
      source = lost.source;
      cause = (lost.cause.0, told_map (λ file. wanted_fault file before.section wanted e bound ≡ Some found) (λ file. StandsIn file before → wanted_fault file before.section wanted e bound ≡ Some found) old.held (λ file is stands. is) lost.cause.1);
      kept = λ file stands. nothing_held file after none;
    }
lost_read old new before after wanted e bound Source none lost = record { source = lost.source; cause = lost.cause; kept = λ file stands. nothing_held file after none }

-- ---- judged anew

held_is : (file : List ℕ) (before : Cursor) (h : HeldPacket) (e : Entry) → before.held ≡ Some h → h.place ≡ e.place → StandsIn file before → IsPacketAt file before.section e.place h.level h.entries
held_is file before h e is same stands =
    let of : IsOfFile file before.section h = subst (λ (held : Option HeldPacket). IfSome held (IsOfFile file before.section)) is stands in
    rw same at of.is

pub lost_level_held : (old : SourceView) (before : Cursor) (h : HeldPacket) (wanted : Option ℕ) (e : Entry) (bound : ℕ) → before.held ≡ Some h → h.place ≡ e.place → level_fits wanted h.level ≡ false → LosesLoad old before wanted e bound (Refused (fault IndexShape before.section.node e.place)) old before
lost_level_held old before h wanted e bound is same other =
    record {
      source = asks_met-none before.section (OnPacket before.section wanted e) old;
      cause = (
        refl,
        told_all (λ file. StandsIn file before → wanted_fault file before.section wanted e bound ≡ Some (fault IndexShape before.section.node e.place)) old.held
            (λ file stands. let at = held_is file before h e is same stands in level_fault file before.section wanted e bound h.level at.shape at.of_level other),
      );
      kept = λ file stands. stands;
    }

pub lost_order_held : (old : SourceView) (before : Cursor) (h : HeldPacket) (wanted : Option ℕ) (e : Entry) (bound : ℕ) → before.held ≡ Some h → h.place ≡ e.place → level_fits wanted h.level ≡ true → begins_and_rises e.first bound h.entries ≡ false → LosesLoad old before wanted e bound (Refused (fault IndexOrder before.section.node e.place)) old before
lost_order_held old before h wanted e bound is same fits wrong =
    record {
      source = asks_met-none before.section (OnPacket before.section wanted e) old;
      cause = (
        refl,
        told_all (λ file. StandsIn file before → wanted_fault file before.section wanted e bound ≡ Some (fault IndexOrder before.section.node e.place)) old.held
            (λ file stands. order_fault file before.section wanted e bound h.level h.entries (held_is file before h e is same stands) fits wrong),
      );
      kept = λ file stands. stands;
    }

pub loaded_held : (old : SourceView) (before after : Cursor) (h : HeldPacket) (wanted : Option ℕ) (e : Entry) (bound : ℕ) → before.held ≡ Some h → h.place ≡ e.place → level_fits wanted h.level ≡ true → begins_and_rises e.first bound h.entries ≡ true
    → after.held ≡ Some (record { place = h.place; level = h.level; first = e.first; bound = bound; entries = h.entries }) → LoadsIndex old before wanted e bound old after
loaded_held old before after h wanted e bound is same fits right held =
    record {
      h = record { place = h.place; level = h.level; first = e.first; bound = bound; entries = h.entries };
      held = held;
      same_place = same;
      same_first = refl;
      same_bound = refl;
      fits = fits;
      ordered = right;
      source = asks_met-none before.section (OnPacket before.section wanted e) old;
      is = told_all (λ file. StandsIn file before → IsPacketAt file before.section e.place h.level h.entries) old.held (λ file stands. held_is file before h e is same stands);
    }
