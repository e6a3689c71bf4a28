use Rattle.std.proofs.Common.{◌≡◌, ◌∙◌, List, ℕ, refl, sym, ap, true}
use Rattle.std.specs.Prelude.{Option, Some, ◌==◌}
use Rattle.std.proofs.lemmas.Bool.{eqb-true}
use Rattle.e57_layout.specs.declared.section.Section.{Section}
use Rattle.e57_index.specs.Standing.{HeldPacket, Cursor}
use Rattle.e57_index.specs.Holding.{held_packet, held_packets, holds_place}
use Rattle.e57_index.specs.declared.held.Held.{Held}
use Rattle.e57_index.proofs.Loads.{lost_level_held, lost_order_held}
use Rattle.e57_index.proofs.cursor.IndexCursor.judge_held.Goals as goal

held_of : (section : Section) (held : Option Held) (bytes : List ℕ) (c : Cursor) (h : Held) → ◌≡◌ {A = Cursor} (record { section = section; held = held_packets held bytes }) c → held ≡ Some h → c.held ≡ Some (held_packet bytes h)
held_of section held bytes c h view is = sym (ap (λ (x : Cursor). x.held) view) ∙ rw is refl

place_of : (c : Cursor) (h : HeldPacket) (place : ℕ) → c.held ≡ Some h → holds_place c.held place ≡ true → h.place ≡ place
place_of c h place is holds = let here : (h.place == place) ≡ true = rw is at holds in eqb-true h.place place here

pub returns-then-not-is_wanted-clause-load : goal.returns-then-not-is_wanted-clause-load
returns-then-not-is_wanted-clause-load c =
    let before = c.args.self.now in
    let h = held_packet c.self.inside.bytes.items c.in-Some.held in
    let is = held_of c.self.inside.section c.self.inside.held c.self.inside.bytes.items before c.in-Some.held c.self.view_is c.in-Some.is in
    let other = sym c.is_wanted.ensures ∙ c.if-not-is_wanted.true in
    let node = ap (λ (x : Cursor). x.section.node) c.self.view_is in
    λ old. rw (c.refused.ensures, node) (lost_level_held old before h c.args.wanted c.args.entry.now c.args.bound is (place_of before h c.args.entry.now.place is c.requires.holds) other)

pub returns-then-not-is_ordered-clause-load : goal.returns-then-not-is_ordered-clause-load
returns-then-not-is_ordered-clause-load c =
    let before = c.args.self.now in
    let h = held_packet c.self.inside.bytes.items c.in-Some.held in
    let is = held_of c.self.inside.section c.self.inside.held c.self.inside.bytes.items before c.in-Some.held c.self.view_is c.in-Some.is in
    let fits = sym c.is_wanted.ensures ∙ c.if-not-is_wanted.false in
    let wrong = rw c.deref.ensures.value at (sym c.is_ordered.ensures ∙ c.if-not-is_ordered.true) in
    let node = ap (λ (x : Cursor). x.section.node) c.self.view_is in
    λ old. rw (c.refused-then-not-is_ordered.ensures, node) (lost_order_held old before h c.args.wanted c.args.entry.now c.args.bound is (place_of before h c.args.entry.now.place is c.requires.holds) fits wrong)
