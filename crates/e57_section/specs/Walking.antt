-- A walk packet by packet, as it is taken by a reader that keeps only where it stands. What each place has is given, and so
-- is the section's end, so the laws of walks know no file.
use Rattle.std.specs.Prelude.{◌≡◌, ℕ, zero, suc, ◌+◌, ◌-◌, ◌≤◌, ◌||◌, ◌&&◌, not, nat_lt, Bool, true, if◌then◌else◌, List, [], ◌∷◌, Option, Some, None, Result, Ok, Err}
use Rattle.e57_base.specs.declared.fault.Fault.{Fault}
use Rattle.e57_page.specs.File.{logical}
use Rattle.e57_layout.specs.declared.section.Section.{Section}
use Rattle.e57_cloud.specs.Walk.{Packet, packet_at, packet_fault}
use Rattle.e57_cloud.specs.PathItem.{unless}

-- the packet at place q, or its first fault
abbrev pub judged_at : List ℕ → Section → ℕ → Result Packet Fault
judged_at file s q = unless (packet_fault file s q) (Ok (packet_at (logical file) q))

-- what ends a walk: the section's end, the data packet at a place that begins another chunk, or a packet's fault
pub data Finish : Type 0 where
  Ends : Finish
  Restarts : ℕ → Finish
  Faulty : Fault → Finish

-- the packets of a walk, and what ended it
pub record Walked : Type 0 where
  pub packets : List Packet
  pub finish : Finish

-- A packet is of the walk's chunk. In a fresh walk, which has no data packet yet, each is; else one that begins a chunk isn't.
abbrev pub goes_on : Bool → Packet → Bool
goes_on fresh p = fresh || not (p.is_data && p.restart)

-- no data packet came yet, this packet included
abbrev pub still_fresh : Bool → Packet → Bool
still_fresh fresh p = fresh && not p.is_data

abbrev pub ended : Finish → Walked
ended finish = record { packets = []; finish = finish }

abbrev pub before : Packet → Walked → Walked
before p rest = record { packets = p ∷ rest.packets; finish = rest.finish }

abbrev pub stepped : Bool → ℕ → Result Packet Fault → (Packet → Walked) → Walked
stepped fresh at (Err found) go = ended (Faulty found)
stepped fresh at (Ok p) go = if goes_on fresh p then before p (go p) else ended (Restarts at)

unfoldable pub walk_on : (ℕ → Result Packet Fault) → ℕ → ℕ → Bool → ℕ → Walked
walk_on judge limit zero fresh at = ended Ends
walk_on judge limit (suc fuel) fresh at =
    if nat_lt limit (at + 4) then ended Ends else stepped fresh at (judge at) (λ p. walk_on judge limit fuel (still_fresh fresh p) (at + p.length))

-- The walk from a place on. Where each packet has bytes, this fuel isn't used up before the end.
unfoldable pub walk_rest : (ℕ → Result Packet Fault) → ℕ → Bool → ℕ → Walked
walk_rest judge limit fresh at = walk_on judge limit (limit - at) fresh at

-- These packets stand from place `at` up to place `to`, and none of them ends the walk.
unfoldable pub Leads : (ℕ → Result Packet Fault) → ℕ → Bool → ℕ → List Packet → Bool → ℕ → Type 0
Leads judge limit fresh at [] fresh' to = (fresh' ≡ fresh) × (to ≡ at)
Leads judge limit fresh at (p ∷ ps) fresh' to =
    (at + 4 ≤ limit) × (judge at ≡ Ok p) × (goes_on fresh p ≡ true) × Leads judge limit (still_fresh fresh p) (at + p.length) ps fresh' to

abbrev pub finish_fault : Finish → Option Fault
finish_fault Ends = None
finish_fault (Restarts q) = None
finish_fault (Faulty found) = Some found

abbrev pub finish_next : Finish → Option ℕ
finish_next Ends = None
finish_next (Restarts q) = Some q
finish_next (Faulty found) = None

-- these are the items from number i on
abbrev pub AreItems : {X : Type 0} → (ℕ → Result X Fault) → ℕ → List X → Type 0
AreItems item i [] = Unit {0}
AreItems item i (x ∷ xs) = (item i ≡ Ok x) × AreItems item (i + 1) xs
