-- Laws of the walk through one chunk: from the start of a chunk on, the walk finds its packets and where the next one starts.
use Rattle.std.specs.Prelude.{◌≡◌, ℕ, suc, ◌+◌, ◌<◌, ◌≤◌, true, false, List, [], ◌∷◌, length, drop, None}
use Rattle.std.specs.List.{onto_first}
use Rattle.std.proofs.Common.{refl, sym, ap, subst, ◌∙◌, arith, ⊎_elim}
use Rattle.std.proofs.lemmas.Bool.{cond-true, cond-false, cases_Bool}
use Rattle.e57_page.specs.File.{logical}
use Rattle.e57_layout.specs.Packets.{length_at}
use Rattle.e57_layout.specs.declared.section.Section.{Section}
use Rattle.e57_cloud.specs.Walk.{Packet, packet_at, walk_from}
use Rattle.e57_cloud.specs.Chunks.{data_packets, cut, by_chunk, start_of}
use Rattle.e57_cloud.specs.PathItem.{stretch_of, stretch}
use Rattle.e57_cloud.proofs.Laws.Walks.{walk_from-stands, IsWalk, walk_from-of, length_at-some}
use Rattle.e57_cloud.proofs.Laws.Chunks.{cut-restart}

pub data-yes : (p : Packet) (ps : List Packet) → p.is_data ≡ true → data_packets (p ∷ ps) ≡ p ∷ data_packets ps
unfolding data_packets
data-yes p ps is = cond-true p.is_data (p ∷ data_packets ps) (data_packets ps) is

pub data-other : (p : Packet) (ps : List Packet) → p.is_data ≡ false → data_packets (p ∷ ps) ≡ data_packets ps
unfolding data_packets
data-other p ps other = cond-false p.is_data (p ∷ data_packets ps) (data_packets ps) other

pub cut-on : (p : Packet) (ps : List Packet) → p.restart ≡ false → cut (p ∷ ps) ≡ onto_first p (cut ps)
unfolding cut
cut-on p ps on = cond-false p.restart ([] ∷ onto_first p (cut ps)) (onto_first p (cut ps)) on

pub by_chunk-is : (p : Packet) (ps : List Packet) → by_chunk (p ∷ ps) ≡ onto_first p (cut ps)
unfolding by_chunk
by_chunk-is p ps = refl

pub by_chunk-none : by_chunk [] ≡ [] ∷ []
unfolding by_chunk
by_chunk-none = refl

pub cut-none : cut [] ≡ [] ∷ []
unfolding cut
cut-none = refl

pub data-none : data_packets [] ≡ []
unfolding data_packets
data-none = refl

-- the place of the first packet of the first piece
unfoldable pub start_of_first : List (List Packet) → ℕ
start_of_first [] = 0
start_of_first (piece ∷ pieces) = start_of piece

length_of_first : List (List Packet) → ℕ
length_of_first [] = 0
length_of_first (piece ∷ pieces) = length piece

pub onto-start : (p : Packet) (pieces : List (List Packet)) → start_of_first (onto_first p pieces) ≡ p.place
unfolding start_of_first
onto-start p [] = refl
onto-start p (piece ∷ pieces) = refl

onto-length : (p : Packet) (pieces : List (List Packet)) → 0 < length_of_first (onto_first p pieces)
unfolding length_of_first
onto-length p [] = omega arith
onto-length p (piece ∷ pieces) = omega arith

pub onto-rest : (p : Packet) (pieces : List (List Packet)) (front next : List Packet) (more : List (List Packet)) → onto_first p pieces ≡ front ∷ next ∷ more → (piece : List Packet) × (pieces ≡ piece ∷ next ∷ more)
onto-rest p [] front next more is = absurd (let count : 1 ≡ suc (suc (length more)) = ap (λ (all : List (List Packet)). length all) is in omega arith)
onto-rest p (piece ∷ pieces) front next more is = (piece, ap (λ (all : List (List Packet)). piece ∷ drop 1 all) is)

pub packet-place : (b : List ℕ) (q : ℕ) → (packet_at b q).place ≡ q
unfolding packet_at
packet-place b q = refl

-- Packets that stand from place q to the section's end are these pieces by chunk.
pub record HasPieces (file : List ℕ) (s : Section) (q : ℕ) (pieces : List (List Packet)) : Type 0 where
  pub packets : List Packet
  pub stand : IsWalk file s q packets
  pub are : by_chunk (data_packets packets) ≡ pieces

-- where the first piece has a packet, the same packets stand from its place on
pub from-start : (file : List ℕ) (s : Section) (q : ℕ) (packets : List Packet) (p : Packet) (piece : List Packet) (more : List (List Packet)) → IsWalk file s q packets → by_chunk (data_packets packets) ≡ (p ∷ piece) ∷ more
    → HasPieces file s p.place ((p ∷ piece) ∷ more)
unfolding IsWalk start_of_first length_of_first
from-start file s q [] p piece more stand are =
    absurd (let same : [] ∷ [] ≡ (p ∷ piece) ∷ more = sym by_chunk-none ∙ ap by_chunk (sym data-none) ∙ are in let count : 0 ≡ suc (length piece) = ap length_of_first same in omega arith)
from-start file s q (x ∷ xs) p piece more stand are =
    ⊎_elim
    (λ (is : x.is_data ≡ true).
    let begins : onto_first x (cut (data_packets xs)) ≡ (p ∷ piece) ∷ more = sym (by_chunk-is x (data_packets xs)) ∙ ap by_chunk (sym (data-yes x xs is)) ∙ are in
    let place : p.place ≡ q = sym (ap start_of_first begins) ∙ onto-start x (cut (data_packets xs)) ∙ ap (λ (packet : Packet). packet.place) stand.2 ∙ packet-place (logical file) q in
    record { packets = x ∷ xs; stand = subst (λ (at : ℕ). IsWalk file s at (x ∷ xs)) (sym place) stand; are = are })
    (λ (other : x.is_data ≡ false). from-start file s (q + length_at (logical file) q) xs p piece more stand.3 (ap by_chunk (sym (data-other x xs other)) ∙ are))
    (cases_Bool x.is_data)

-- the pieces after the first stand from the start of the second
pub record HasNext (file : List ℕ) (s : Section) (q : ℕ) (next : List Packet) (more : List (List Packet)) : Type 0 where
  pub pieces : HasPieces file s (start_of next) (next ∷ more)
  pub after : q ≤ start_of next
  pub some : 0 < length next

cut-next : (file : List ℕ) (s : Section) (q : ℕ) (packets front next : List Packet) (more : List (List Packet)) → IsWalk file s q packets → cut (data_packets packets) ≡ front ∷ next ∷ more → HasNext file s q next more
unfolding IsWalk start_of_first length_of_first
cut-next file s q [] front next more stand are =
    absurd (let same : [] ∷ [] ≡ front ∷ next ∷ more = sym cut-none ∙ ap cut (sym data-none) ∙ are in let count : 1 ≡ suc (suc (length more)) = ap (λ (all : List (List Packet)). length all) same in omega arith)
cut-next file s q (x ∷ xs) front next more stand are =
    let on : HasNext file s (q + length_at (logical file) q) next more → HasNext file s q next more = λ later. record { pieces = later.pieces; after = omega (arith, later.after); some = later.some } in
    ⊎_elim
    (λ (is : x.is_data ≡ true).
    let cuts : cut (x ∷ data_packets xs) ≡ front ∷ next ∷ more = ap cut (sym (data-yes x xs is)) ∙ are in
    ⊎_elim
    (λ (restart : x.restart ≡ true).
    let begins : onto_first x (cut (data_packets xs)) ≡ next ∷ more = ap (λ (all : List (List Packet)). drop 1 all) (sym (cut-restart x (data_packets xs) restart) ∙ cuts) in
    let place : start_of next ≡ q = sym (ap start_of_first begins) ∙ onto-start x (cut (data_packets xs)) ∙ ap (λ (packet : Packet). packet.place) stand.2 ∙ packet-place (logical file) q in
    let some : 0 < length next = rw begins at (onto-length x (cut (data_packets xs))) in
    record {
      pieces = record { packets = x ∷ xs; stand = subst (λ (at : ℕ). IsWalk file s at (x ∷ xs)) (sym place) stand; are = ap by_chunk (data-yes x xs is) ∙ by_chunk-is x (data_packets xs) ∙ begins };
      after = omega arith;
      some = some;
    })
    (λ (same : x.restart ≡ false).
    let rest = onto-rest x (cut (data_packets xs)) front next more (sym (cut-on x (data_packets xs) same) ∙ cuts) in
    on (cut-next file s (q + length_at (logical file) q) xs rest.0 next more stand.3 rest.1))
    (cases_Bool x.restart))
    (λ (other : x.is_data ≡ false). on (cut-next file s (q + length_at (logical file) q) xs front next more stand.3 (ap cut (sym (data-other x xs other)) ∙ are)))
    (cases_Bool x.is_data)

-- and that start is further on
by_chunk-next : (file : List ℕ) (s : Section) (q : ℕ) (packets chunk next : List Packet) (more : List (List Packet)) → IsWalk file s q packets → by_chunk (data_packets packets) ≡ chunk ∷ next ∷ more → HasNext file s (q + 1) next more
unfolding IsWalk
by_chunk-next file s q [] chunk next more stand are =
    absurd (let same : [] ∷ [] ≡ chunk ∷ next ∷ more = sym by_chunk-none ∙ ap by_chunk (sym data-none) ∙ are in let count : 1 ≡ suc (suc (length more)) = ap (λ (all : List (List Packet)). length all) same in omega arith)
by_chunk-next file s q (x ∷ xs) chunk next more stand are =
    let some : 0 < length_at (logical file) q = length_at-some (logical file) q in
    ⊎_elim
    (λ (is : x.is_data ≡ true).
    let rest = onto-rest x (cut (data_packets xs)) chunk next more (sym (by_chunk-is x (data_packets xs)) ∙ ap by_chunk (sym (data-yes x xs is)) ∙ are) in
    let later = cut-next file s (q + length_at (logical file) q) xs rest.0 next more stand.3 rest.1 in
    record { pieces = later.pieces; after = omega (arith, later.after); some = later.some })
    (λ (other : x.is_data ≡ false).
    let later = by_chunk-next file s (q + length_at (logical file) q) xs chunk next more stand.3 (ap by_chunk (sym (data-other x xs other)) ∙ are) in
    record { pieces = later.pieces; after = omega (arith, later.after); some = later.some })
    (cases_Bool x.is_data)

pub pieces-next : (file : List ℕ) (s : Section) (q : ℕ) (chunk next : List Packet) (more : List (List Packet)) → HasPieces file s q (chunk ∷ next ∷ more) → HasNext file s (q + 1) next more
pieces-next file s q chunk next more has = by_chunk-next file s q has.packets chunk next more has.stand has.are

pub pieces-start : (file : List ℕ) (s : Section) (q : ℕ) (p : Packet) (piece : List Packet) (more : List (List Packet)) → HasPieces file s q ((p ∷ piece) ∷ more) → HasPieces file s p.place ((p ∷ piece) ∷ more)
pieces-start file s q p piece more has = from-start file s q has.packets p piece more has.stand has.are

-- the walk from there is the first piece, ended by the start of the second
pub pieces-stretch : (file : List ℕ) (s : Section) (q : ℕ) (pieces : List (List Packet)) → HasPieces file s q pieces → stretch file s q ≡ stretch_of None pieces
unfolding stretch
pieces-stretch file s q pieces has = rw (walk_from-of file s q has.packets has.stand, has.are)

-- the packets of a walk without fault
pub walk-pieces : (file : List ℕ) (s : Section) (q : ℕ) → (walk_from file s q).fault ≡ None → HasPieces file s q (by_chunk (data_packets (walk_from file s q).packets))
walk-pieces file s q none = record { packets = (walk_from file s q).packets; stand = walk_from-stands file s q none; are = refl }

-- where there is a second piece, there are bytes for a packet
two-room : (file : List ℕ) (s : Section) (q : ℕ) (packets chunk next : List Packet) (more : List (List Packet)) → IsWalk file s q packets → by_chunk (data_packets packets) ≡ chunk ∷ next ∷ more → q + 4 ≤ s.end
unfolding IsWalk
two-room file s q [] chunk next more stand are =
    absurd (let same : [] ∷ [] ≡ chunk ∷ next ∷ more = sym by_chunk-none ∙ ap by_chunk (sym data-none) ∙ are in let count : 1 ≡ suc (suc (length more)) = ap (λ (all : List (List Packet)). length all) same in omega arith)
two-room file s q (x ∷ xs) chunk next more stand are = stand.0

pub pieces-room : (file : List ℕ) (s : Section) (q : ℕ) (chunk next : List Packet) (more : List (List Packet)) → HasPieces file s q (chunk ∷ next ∷ more) → q + 4 ≤ s.end
pieces-room file s q chunk next more has = two-room file s q has.packets chunk next more has.stand has.are
