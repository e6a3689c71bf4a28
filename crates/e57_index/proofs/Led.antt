-- The path of a record through the packets that lead to it.
use Rattle.std.specs.Prelude.{◌≡◌, ℕ, suc, ◌<◌, ◌≤◌, ◌==◌, false, List, [], ◌∷◌, Option, Some, None, Result, Ok, Err}
use Rattle.std.specs.Option.{option_or}
use Rattle.std.proofs.Common.{refl, ◌∙◌, arith, inl, inr, ⊎_elim}
use Rattle.std.proofs.lemmas.Bool.{eqb-false}
use Rattle.e57_base.specs.declared.fault.Fault.{Fault}
use Rattle.e57_layout.specs.declared.packet.Entry.{Entry}
use Rattle.e57_layout.specs.declared.section.Section.{Section}
use Rattle.e57_cloud.specs.Index.{known_place, entries_of, index_packet_fault, target_fault, root_fault, root_level, root_entry, Rises, HasEntry}
use Rattle.e57_cloud.specs.PathItem.{ChunkAt, unless, descend, path}
use Rattle.e57_cloud.specs.Met.{InIndexStart, InEntries, InTarget, OnPicked, OnDescent, OnPath}
use Rattle.e57_cloud.proofs.Laws.Descents.{entry-within, pick-is, packet-entries, by_entry-is}
use Rattle.e57_index.specs.OnePacket.{wanted_fault, OnPacket}
use Rattle.e57_index.specs.Standing.{IsLed, AreLed}
use Rattle.e57_base.proofs.Options.{option_or_parts}

-- ---- the root

pub root_led : (file : List ℕ) (s : Section) → (s.index == 0) ≡ false → wanted_fault file s None (root_entry s) s.count ≡ None → AreLed file s (suc (root_level file s)) (root_entry s) s.count
unfolding path root_fault root_level
root_led file s indexed none i low high =
    let start = (option_or_parts (root_fault file s) (index_packet_fault file s (root_level file s) (root_entry s) s.count) none).0 in
    record { leads = rw (indexed, start) refl; pages = λ p on. (eqb-false s.index 0 indexed, inr (start, on)) }

first_err : (a b : Option Fault) (result : Result ChunkAt Fault) (found : Fault) → option_or a b ≡ Some found → unless a (unless b result) ≡ Err found
first_err (Some x) b result found is = cc
first_err None (Some x) result found is = cc
first_err None None result found is = cc

pub root_lost : (file : List ℕ) (s : Section) (i : ℕ) (found : Fault) → (s.index == 0) ≡ false → wanted_fault file s None (root_entry s) s.count ≡ Some found → path file s i ≡ Err found
unfolding path root_fault root_level descend
root_lost file s i found indexed lost =
    rw indexed (first_err (root_fault file s) (index_packet_fault file s (root_level file s) (root_entry s) s.count) _ found lost)

pub root_met : (file : List ℕ) (s : Section) (i p : ℕ) → (s.index == 0) ≡ false → OnPacket s None (root_entry s) file p → OnPath file s i p
unfolding OnDescent root_fault root_level
root_met file s i p indexed on =
    ⊎_elim
    (λ (start : InIndexStart s s.index p). (eqb-false s.index 0 indexed, inl start))
    (λ (rest : (root_fault file s ≡ None) × InEntries file s (root_level file s) s.index p). (eqb-false s.index 0 indexed, inr (rest.0, inr (inl rest.1))))
    on

-- ---- a packet

pub packet_lost : (file : List ℕ) (s : Section) (level : ℕ) (e : Entry) (bound i : ℕ) (found : Fault) → IsLed file s (suc level) e bound i → wanted_fault file s (Some level) e bound ≡ Some found → path file s i ≡ Err found
unfolding descend
packet_lost file s level e bound i found led lost = led.leads ∙ rw lost refl

pub packet_met : (file : List ℕ) (s : Section) (level : ℕ) (e : Entry) (bound i p : ℕ) → IsLed file s (suc level) e bound i → OnPacket s (Some level) e file p → OnPath file s i p
unfolding OnDescent
packet_met file s level e bound i p led on =
    ⊎_elim
    (λ (start : InIndexStart s e.place p). led.pages p (inl start))
    (λ (rest : (◌≡◌ {A = Option Fault} None None) × InEntries file s level e.place p). led.pages p (inr (inl rest.1)))
    on

on_picked : (f : Entry → ℕ → Type 0) (i least bound : ℕ) (es : List Entry) (e : Entry) (until : ℕ) → Rises least bound es → HasEntry bound es e until → e.first ≤ i → i < until → f e until → OnPicked f i bound es
on_picked f i least bound [] e until up has low high is = absurd has
on_picked f i least bound (x ∷ xs) e until up has low high is = rw (pick-is i least bound x xs e until up has low high) is

-- an entry of a packet without fault is on the path of its records
pub child_led : (file : List ℕ) (s : Section) (level : ℕ) (e : Entry) (bound : ℕ) (x : Entry) (ends : ℕ) → AreLed file s (suc level) e bound → index_packet_fault file s level e bound ≡ None → HasEntry bound (entries_of file e.place) x ends → AreLed file s level x ends
unfolding descend OnDescent
child_led file s level e bound x ends led none has i low high =
    let packet = packet-entries file s level e bound none in
    let within = entry-within e.first bound (entries_of file e.place) x ends packet.0 has in
    let here = led i (omega (arith, within.0, low)) (omega (arith, within.2, high)) in
    record {
      leads = here.leads ∙ rw none (by_entry-is (descend file s i level) i e.first bound (entries_of file e.place) x ends packet.0 has low high);
      pages = λ p on. here.pages p (inr (inr (none, on_picked (OnDescent file s i p level) i e.first bound (entries_of file e.place) x ends packet.0 has low high on)));
    }

-- ---- what an entry of height 0 names

pub target_lost : (file : List ℕ) (s : Section) (e : Entry) (bound i : ℕ) (found : Fault) → IsLed file s 0 e bound i → target_fault file s e ≡ Some found → path file s i ≡ Err found
unfolding descend
target_lost file s e bound i found led lost = led.leads ∙ rw lost refl

pub target_met : (file : List ℕ) (s : Section) (e : Entry) (bound i p : ℕ) → IsLed file s 0 e bound i → InTarget s e p → OnPath file s i p
unfolding OnDescent
target_met file s e bound i p led on = led.pages p on

pub target_found : (file : List ℕ) (s : Section) (e : Entry) (bound i : ℕ) → IsLed file s 0 e bound i → target_fault file s e ≡ None → path file s i ≡ Ok (record { first = e.first; until = bound; place = known_place e.place })
unfolding descend
target_found file s e bound i led none = led.leads ∙ rw none refl
