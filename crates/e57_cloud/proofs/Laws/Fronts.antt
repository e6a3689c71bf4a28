-- Laws of a walk packet by packet: some packets, and then the walk from where they end; and how the walk through one chunk ends.
use Rattle.std.specs.Prelude.{◌≡◌, ℕ, zero, suc, ◌+◌, ◌-◌, ◌<◌, ◌≤◌, ◌==◌, ◌*◌, true, false, List, [], ◌∷◌, ◌++◌, length, get_or, Option, Some, None}
use Rattle.std.specs.List.{onto_first}
use Rattle.std.proofs.Common.{refl, sym, ap, ◌∙◌, arith, ⊎_elim, append-nil}
use Rattle.std.proofs.lemmas.Bool.{cases_lt, cases_Bool, and_parts}
use Rattle.std.proofs.lemmas.List.Concat.{flat_map-append}
use Rattle.e57_base.specs.declared.fault.Fault.{Fault}
use Rattle.e57_page.specs.File.{logical}
use Rattle.e57_bits.specs.Bits.{number}
use Rattle.e57_layout.specs.Packets.{sort_at, length_at, restart_at}
use Rattle.e57_layout.specs.declared.section.Section.{Section}
use Rattle.e57_cloud.specs.Walk.{Packet, packet_at, packet_fault, Walk, onward, walk, walk_from, IsFront}
use Rattle.e57_cloud.specs.Chunks.{data_packets, stream_of, cut, by_chunk}
use Rattle.e57_cloud.specs.PathItem.{Stretch, stretch_of, stretch}
use Rattle.e57_cloud.specs.Met.{place_after, IsWalked}
use Rattle.e57_cloud.proofs.Laws.Walks.{walk-end, walk-step, length_at-some}
use Rattle.e57_cloud.proofs.Laws.Chunks.{data-append, cut-restart}
use Rattle.e57_cloud.proofs.Laws.Pieces.{data-yes, data-other, cut-on, by_chunk-is, by_chunk-none, cut-none, data-none, packet-place}

-- ---- one step

-- fuel that is enough changes nothing
pub walk-fuel : (file : List ℕ) (s : Section) (f g q : ℕ) → s.end - q ≤ f → s.end - q ≤ g → walk file s f q ≡ walk file s g q
walk-fuel file s zero g q enough other = walk-end file s 0 q (omega arith) ∙ sym (walk-end file s g q (omega arith))
walk-fuel file s (suc f) zero q enough other = walk-end file s (suc f) q (omega arith) ∙ sym (walk-end file s 0 q (omega arith))
walk-fuel file s (suc f) (suc g) q enough other =
    let some : 0 < length_at (logical file) q = length_at-some (logical file) q in
    ⊎_elim
    (λ (over : s.end < q + 4). walk-end file s (suc f) q over ∙ sym (walk-end file s (suc g) q over))
    (λ (there : q + 4 ≤ s.end).
    walk-step file s f q there
    ∙ ap (onward (packet_fault file s q) (packet_at (logical file) q)) (walk-fuel file s f g (q + length_at (logical file) q) (omega arith) (omega arith))
    ∙ sym (walk-step file s g q there))
    (cases_lt s.end (q + 4))

pub walk_from-end : (file : List ℕ) (s : Section) (q : ℕ) → s.end < q + 4 → walk_from file s q ≡ record { packets = []; fault = None }
unfolding walk_from
walk_from-end file s q over = walk-end file s (s.end - q) q over

pub walk_from-step : (file : List ℕ) (s : Section) (q : ℕ) → q + 4 ≤ s.end → walk_from file s q ≡ onward (packet_fault file s q) (packet_at (logical file) q) (walk_from file s (q + length_at (logical file) q))
unfolding walk_from
walk_from-step file s q there =
    let some : 0 < length_at (logical file) q = length_at-some (logical file) q in
    walk-fuel file s (s.end - q) (suc (s.end - q)) q (omega arith) (omega arith)
    ∙ walk-step file s (s.end - q) q there
    ∙ ap (onward (packet_fault file s q) (packet_at (logical file) q)) (walk-fuel file s (s.end - q) (s.end - (q + length_at (logical file) q)) (q + length_at (logical file) q) (omega arith) (omega arith))

pub walk_from-fault : (file : List ℕ) (s : Section) (q : ℕ) (found : Fault) → q + 4 ≤ s.end → packet_fault file s q ≡ Some found → walk_from file s q ≡ record { packets = []; fault = Some found }
walk_from-fault file s q found there is = rw (walk_from-step file s q there, is)

pub front-none : (file : List ℕ) (s : Section) (at : ℕ) → IsFront file s at [] at
unfolding IsFront
front-none file s at = refl

-- one packet more
pub front-more : (file : List ℕ) (s : Section) (at : ℕ) (packets : List Packet) (q : ℕ) → IsFront file s at packets q → q + 4 ≤ s.end → packet_fault file s q ≡ None → IsFront file s at (packets ++ packet_at (logical file) q ∷ []) (q + length_at (logical file) q)
unfolding IsFront
front-more file s at [] q front there sound = rw front (there, sound, refl, refl)
front-more file s at (packet ∷ packets) q front there sound = (front.0, front.1, front.2, front-more file s (at + length_at (logical file) at) packets q front.3 there sound)

-- the walk from a place is these packets, and then the walk from where they end
pub front-walk : (file : List ℕ) (s : Section) (at : ℕ) (packets : List Packet) (q : ℕ) → IsFront file s at packets q → walk_from file s at ≡ record { packets = packets ++ (walk_from file s q).packets; fault = (walk_from file s q).fault }
unfolding IsFront
front-walk file s at [] q front = ap (walk_from file s) front
front-walk file s at (packet ∷ packets) q front =
    let rest = front-walk file s (at + length_at (logical file) at) packets q front.3 in
    rw (walk_from-step file s at front.0, front.1, rest, ← front.2)

pub packet-length : (b : List ℕ) (q : ℕ) → (packet_at b q).length ≡ length_at b q
unfolding packet_at
packet-length b q = refl

pub front-after : (file : List ℕ) (s : Section) (at : ℕ) (packets : List Packet) (q : ℕ) → IsFront file s at packets q → place_after at packets ≡ q
unfolding IsFront place_after
front-after file s at [] q front = front
front-after file s at (packet ∷ packets) q front =
    let size : packet.length ≡ length_at (logical file) at = ap (λ (p : Packet). p.length) front.2 ∙ packet-length (logical file) at in
    ap (λ (n : ℕ). place_after (at + n) packets) size ∙ front-after file s (at + length_at (logical file) at) packets q front.3

-- packets of one chunk are on the walk in the sense of the pages that may be met
pub front-walked : (file : List ℕ) (s : Section) (at : ℕ) (packets : List Packet) (q : ℕ) → IsFront file s at packets q → length (by_chunk (data_packets packets)) ≡ 1 → IsWalked file s at packets q
front-walked file s at packets q front one = record {
  later = (walk_from file s q).packets;
  all = ap (λ (w : Walk). w.packets) (front-walk file s at packets q front);
  reached = front-after file s at packets q front;
  one_chunk = one;
}

-- ---- how the walk through one chunk ends

pub length-onto : (p : Packet) (pieces : List (List Packet)) → 0 < length pieces → length (onto_first p pieces) ≡ length pieces
length-onto p [] some = absurd (omega arith)
length-onto p (piece ∷ pieces) some = refl

pub length-onto_some : (p : Packet) (pieces : List (List Packet)) → 0 < length (onto_first p pieces)
length-onto_some p [] = omega arith
length-onto_some p (piece ∷ pieces) = omega arith

cut-some : (ps : List Packet) → 0 < length (cut ps)
cut-some [] = rw cut-none (omega arith)
cut-some (p ∷ ps) =
    ⊎_elim
    (λ (restart : p.restart ≡ true). rw (cut-restart p ps restart) (omega arith))
    (λ (same : p.restart ≡ false). rw (cut-on p ps same) (length-onto_some p (cut ps)))
    (cases_Bool p.restart)

-- packets of which none begins another chunk, and then one that does
cut-split : (ps : List Packet) (p : Packet) (rest : List Packet) → length (cut ps) ≡ 1 → p.restart ≡ true → (cut ps ≡ ps ∷ []) × (cut (ps ++ p ∷ rest) ≡ ps ∷ onto_first p (cut rest))
cut-split [] p rest one restart = (cut-none, cut-restart p rest restart)
cut-split (x ∷ xs) p rest one restart =
    let some = cut-some xs in
    ⊎_elim
    (λ (again : x.restart ≡ true). absurd (let many = length-onto_some x (cut xs) in let count : suc (length (onto_first x (cut xs))) ≡ 1 = ap (λ (all : List (List Packet)). length all) (sym (cut-restart x xs again)) ∙ one in omega arith))
    (λ (same : x.restart ≡ false).
    let count : length (cut xs) ≡ 1 = sym (length-onto x (cut xs) some) ∙ ap (λ (all : List (List Packet)). length all) (sym (cut-on x xs same)) ∙ one in
    let later = cut-split xs p rest count restart in
    (cut-on x xs same ∙ ap (onto_first x) later.0, cut-on x (xs ++ p ∷ rest) same ∙ ap (onto_first x) later.1))
    (cases_Bool x.restart)

chunk-split : (ps : List Packet) (p : Packet) (rest : List Packet) → length (by_chunk ps) ≡ 1 → p.restart ≡ true → (by_chunk ps ≡ ps ∷ []) × (0 < length ps → by_chunk (ps ++ p ∷ rest) ≡ ps ∷ onto_first p (cut rest))
chunk-split [] p rest one restart = (by_chunk-none, λ some. absurd (omega arith))
chunk-split (x ∷ xs) p rest one restart =
    let some = cut-some xs in
    let count : length (cut xs) ≡ 1 = sym (length-onto x (cut xs) some) ∙ ap (λ (all : List (List Packet)). length all) (sym (by_chunk-is x xs)) ∙ one in
    let later = cut-split xs p rest count restart in
    (by_chunk-is x xs ∙ ap (onto_first x) later.0, λ _. by_chunk-is x (xs ++ p ∷ rest) ∙ ap (onto_first x) later.1)

restarting : Packet
restarting = record { place = 0; length = 0; is_data = true; restart = true; streams = [] }

-- packets that are one chunk
pub one-chunk : (ps : List Packet) → length (by_chunk ps) ≡ 1 → by_chunk ps ≡ ps ∷ []
unfolding restarting
one-chunk ps one = (chunk-split ps restarting [] one refl).0

-- the section ends after these packets
pub stretch-end : (file : List ℕ) (s : Section) (at : ℕ) (packets : List Packet) (q : ℕ) → IsFront file s at packets q → length (by_chunk (data_packets packets)) ≡ 1 → s.end < q + 4
    → stretch file s at ≡ record { packets = data_packets packets; fault = None; next = None }
unfolding stretch
stretch-end file s at packets q front one over = rw (front-walk file s at packets q front, walk_from-end file s q over, append-nil packets, one-chunk (data_packets packets) one)

-- the packet after them has a fault
pub stretch-fault : (file : List ℕ) (s : Section) (at : ℕ) (packets : List Packet) (q : ℕ) (found : Fault) → IsFront file s at packets q → length (by_chunk (data_packets packets)) ≡ 1 → q + 4 ≤ s.end → packet_fault file s q ≡ Some found
    → stretch file s at ≡ record { packets = data_packets packets; fault = Some found; next = None }
unfolding stretch
stretch-fault file s at packets q found front one there is = rw (front-walk file s at packets q front, walk_from-fault file s q found there is, append-nil packets, one-chunk (data_packets packets) one)

-- the walk through a chunk that another one at place q ends
stretch_ending : List Packet → ℕ → Stretch
stretch_ending packets q = record { packets = packets; fault = None; next = Some q }

stretch-two : (found : Option Fault) (chunk : List Packet) (p : Packet) (pieces : List (List Packet)) → stretch_of found (chunk ∷ onto_first p pieces) ≡ record { packets = chunk; fault = None; next = Some p.place }
stretch-two found chunk p [] = refl
stretch-two found chunk p (piece ∷ pieces) = refl

restart-data : (b : List ℕ) (q : ℕ) → restart_at b q ≡ true → ((packet_at b q).is_data ≡ true) × ((packet_at b q).restart ≡ true)
unfolding restart_at packet_at
restart-data b q restart = ((and_parts (sort_at b q == 1) (number b (8 * q + 8) 1 == 1) restart).0, restart)

-- a data packet with restart comes after them
pub stretch-next : (file : List ℕ) (s : Section) (at : ℕ) (packets : List Packet) (q : ℕ) → IsFront file s at packets q → length (by_chunk (data_packets packets)) ≡ 1 → 0 < length (data_packets packets) → q + 4 ≤ s.end → packet_fault file s q ≡ None
    → restart_at (logical file) q ≡ true → stretch file s at ≡ record { packets = data_packets packets; fault = None; next = Some q }
unfolding stretch stretch_ending
stretch-next file s at packets q front one some there sound restart =
    let begins = restart-data (logical file) q restart in
    let p = packet_at (logical file) q in
    let rest = walk_from file s (q + length_at (logical file) q) in
    let step = walk_from-step file s q there in
    let split = (chunk-split (data_packets packets) p (data_packets rest.packets) one begins.1).1 some in
    let cuts : data_packets (packets ++ p ∷ rest.packets) ≡ data_packets packets ++ p ∷ data_packets rest.packets = data-append packets (p ∷ rest.packets) ∙ ap (λ (later : List Packet). data_packets packets ++ later) (data-yes p rest.packets begins.0) in
    rw (front-walk file s at packets q front, step, sound, cuts, split) (stretch-two rest.fault (data_packets packets) p (cut (data_packets rest.packets)) ∙ ap (λ (n : ℕ). stretch_ending (data_packets packets) n) (packet-place (logical file) q))

-- ---- one packet more of the same chunk

cut-more : (ps : List Packet) (p : Packet) → length (cut ps) ≡ 1 → p.restart ≡ false → length (cut (ps ++ p ∷ [])) ≡ 1
cut-more [] p one same = rw (cut-on p [] same, cut-none)
cut-more (x ∷ xs) p one same =
    let some = cut-some xs in
    let all = cut-some (xs ++ p ∷ []) in
    ⊎_elim
    (λ (again : x.restart ≡ true). absurd (let many = length-onto_some x (cut xs) in let count : suc (length (onto_first x (cut xs))) ≡ 1 = ap (λ (pieces : List (List Packet)). length pieces) (sym (cut-restart x xs again)) ∙ one in omega arith))
    (λ (on : x.restart ≡ false).
    let count : length (cut xs) ≡ 1 = sym (length-onto x (cut xs) some) ∙ ap (λ (pieces : List (List Packet)). length pieces) (sym (cut-on x xs on)) ∙ one in
    ap (λ (pieces : List (List Packet)). length pieces) (cut-on x (xs ++ p ∷ []) on) ∙ length-onto x (cut (xs ++ p ∷ [])) all ∙ cut-more xs p count same)
    (cases_Bool x.restart)

chunk-more : (ps : List Packet) (p : Packet) → length (by_chunk ps) ≡ 1 → p.restart ≡ false → length (by_chunk (ps ++ p ∷ [])) ≡ 1
chunk-more [] p one same = rw (by_chunk-is p [], cut-none)
chunk-more (x ∷ xs) p one same =
    let some = cut-some xs in
    let all = cut-some (xs ++ p ∷ []) in
    let count : length (cut xs) ≡ 1 = sym (length-onto x (cut xs) some) ∙ ap (λ (pieces : List (List Packet)). length pieces) (sym (by_chunk-is x xs)) ∙ one in
    ap (λ (pieces : List (List Packet)). length pieces) (by_chunk-is x (xs ++ p ∷ [])) ∙ length-onto x (cut (xs ++ p ∷ [])) all ∙ cut-more xs p count same

-- no packet is one chunk, and so is a first data packet
pub none-one : length (by_chunk (data_packets [])) ≡ 1
none-one = rw (data-none, by_chunk-none)

pub first-one : (p : Packet) → length (by_chunk (p ∷ [])) ≡ 1
first-one p = rw (by_chunk-is p [], cut-none)

-- a packet without restart belongs to the chunk
pub same-one : (packets : List Packet) (p : Packet) → length (by_chunk (data_packets packets)) ≡ 1 → p.restart ≡ false → length (by_chunk (data_packets (packets ++ p ∷ []))) ≡ 1
same-one packets p one same =
    ⊎_elim
    (λ (is : p.is_data ≡ true). rw (data-append packets (p ∷ []), data-yes p [] is, data-none) (chunk-more (data_packets packets) p one same))
    (λ (other : p.is_data ≡ false). rw (data-append packets (p ∷ []), data-other p [] other, data-none, append-nil (data_packets packets)) one)
    (cases_Bool p.is_data)

pub stream_of-append : (f : ℕ) (xs ys : List Packet) → stream_of f (xs ++ ys) ≡ stream_of f xs ++ stream_of f ys
unfolding stream_of
stream_of-append f xs ys = flat_map-append (λ (p : Packet). get_or p.streams f []) xs ys
