use Rattle.std.proofs.Common.{◌≡◌, ◌∙◌, ◌*◌, ◌<◌, ◌≤◌, List, ℕ, refl, sym, ap, subst, take, arith}
use Rattle.std.specs.Prelude.{Option, Some, IfSome}
use Rattle.e57_layout.specs.declared.section.Section.{Section}
use Rattle.e57_index.specs.Picking.{IsPicked}
use Rattle.e57_index.specs.Standing.{Cursor}
use Rattle.e57_index.specs.Holding.{front_entries, held_packet, held_packets, IsHeld}
use Rattle.e57_index.specs.Finding.{HoldsRecord}
use Rattle.e57_index.specs.declared.held.Held.{Held}
use Rattle.e57_index.proofs.Ways.{picked_below, front_first}
use Rattle.e57_index.proofs.cursor.IndexCursor.pick_held.Goals as goal

sound_of : (s : Section) (held : Option Held) (bytes : List ℕ) (h : Held) → held ≡ Some h → IfSome held (IsHeld s bytes) → IsHeld s bytes h
sound_of s held bytes h is sound = subst (λ (x : Option Held). IfSome x (IsHeld s bytes)) is sound

has_of : (section : Section) (held : Option Held) (bytes : List ℕ) (c : Cursor) (h : Held) (i : ℕ) → ◌≡◌ {A = Cursor} (record { section = section; held = held_packets held bytes }) c → held ≡ Some h → HoldsRecord c.held i → (h.first ≤ i) × (i < h.bound)
has_of section held bytes c h i view is has =
    let there : c.held ≡ Some (held_packet bytes h) = sym (ap (λ (x : Cursor). x.held) view) ∙ rw is refl in
    rw there at has

pub pick-requires-clause-low : goal.pick-requires-clause-low
pick-requires-clause-low c =
    let h = c.in-Some.held in
    let bytes = c.self.inside.bytes.items in
    let sound = sound_of c.self.inside.section c.self.inside.held bytes h c.in-Some.is c.self.invariant.sound in
    let has = has_of c.self.inside.section c.self.inside.held bytes c.args.self.now h c.args.i c.self.view_is c.in-Some.is c.requires in
    let first = front_first (take (16 * h.entries) bytes) h.entries h.first h.bound sound.some sound.ordered in
    rw (c.deref.ensures.value, first) has.0

pub returns-clause-most : goal.returns-clause-most
returns-clause-most c =
    let h = c.in-Some.held in
    let bytes = c.self.inside.bytes.items in
    let sound = sound_of c.self.inside.section c.self.inside.held bytes h c.in-Some.is c.self.invariant.sound in
    let picked : IsPicked h.bound (front_entries h.entries bytes) c.args.i c.pick.result.0 c.pick.result.1 = rw c.deref.ensures.value at c.pick.ensures in
    let most = picked_below h.first h.bound c.args.i (front_entries h.entries bytes) c.pick.result.0 c.pick.result.1 sound.ordered picked in
    let section = ap (λ (x : Cursor). x.section.count) c.self.view_is in
    let below = sound.below in
    omega (arith, most, below, section)
