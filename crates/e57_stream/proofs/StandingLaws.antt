-- Laws of where a reader stands in a chunk: one packet more, and how the chunk ends.
use Rattle.std.specs.Prelude.{◌≡◌, ℕ, suc, ◌+◌, ◌<◌, ◌≤◌, ◌==◌, ◌&&◌, ◌⊎◌, Bool, true, false, if◌then◌else◌, List, [], ◌∷◌, ◌++◌, length, get_or, Option, Some, None, is_none, Err}
use Rattle.std.specs.List.{onto_first}
use Rattle.std.proofs.Common.{refl, sym, ap, ◌∙◌, arith, inl, inr, ⊎_elim, append-nil}
use Rattle.std.proofs.lemmas.Bool.{cases_Bool}
use Rattle.e57_base.specs.declared.fault.Fault.{Fault}
use Rattle.e57_base.specs.Fault.{fault}
use Rattle.e57_base.specs.declared.kind.Kind.TheVariants.{RestartUnindexed}
use Rattle.e57_page.specs.File.{logical}
use Rattle.e57_layout.specs.Packets.{length_at, restart_at}
use Rattle.e57_cloud.specs.Walk.{Packet, packet_at, packet_fault, Walk, walk_from}
use Rattle.e57_cloud.specs.Chunks.{data_packets, stream_of, cut, by_chunk}
use Rattle.e57_cloud.specs.PathItem.{stretch_of, stretch, or_short}
use Rattle.e57_cloud.proofs.Laws.Chunks.{data-append, cut-restart}
use Rattle.e57_cloud.proofs.Laws.Pieces.{data-yes, data-other, cut-on, cut-none, by_chunk-is, data-none}
use Rattle.e57_cloud.proofs.Laws.Fronts.{front-more, front-walk, stretch-end, stretch-fault, stretch-next, first-one, same-one, stream_of-append, length-onto_some}
use Rattle.e57_stream.specs.declared.bytestream.Bytestream.{Bytestream}
use Rattle.e57_stream.specs.Standing.{IsFresh, HasTaken}
use Rattle.e57_stream.specs.Taking.{short_at, restart_at_place, Finishes}
use Rattle.e57_cloud.proofs.Laws.Streams.{stream-one}

stream_none : (f : ℕ) → stream_of f [] ≡ []
unfolding stream_of
stream_none f = refl

some_after : (ps : List Packet) (p : Packet) → 0 < length (ps ++ p ∷ [])
some_after [] p = omega arith
some_after (x ∷ ps) p = omega arith

-- whether a data packet belongs to the chunk: it is the first one, or doesn't begin another chunk
one_more : (fresh : Bool) (packets : List Packet) (p : Packet) → p.is_data ≡ true → length (by_chunk (data_packets packets)) ≡ 1 → IsFresh fresh packets → (fresh ≡ true) ⊎ (p.restart ≡ false) → length (by_chunk (data_packets (packets ++ p ∷ []))) ≡ 1
one_more fresh packets p is one freshness (inr same) = same-one packets p one same
one_more true packets p is one freshness (inl first) = rw (data-append packets (p ∷ []), data-yes p [] is, data-none, freshness) (first-one p)
one_more false packets p is one freshness (inl first) = absurd cc

-- a data packet of the chunk
pub taken_data : (file : List ℕ) (b : Bytestream) (entry q : ℕ) (fresh : Bool) (bytes : List ℕ) → HasTaken file b entry q fresh bytes → q + 4 ≤ b.section.end → packet_fault file b.section q ≡ None
    → (packet_at (logical file) q).is_data ≡ true → (fresh ≡ true) ⊎ ((packet_at (logical file) q).restart ≡ false)
    → HasTaken file b entry (q + length_at (logical file) q) false (bytes ++ get_or (packet_at (logical file) q).streams b.field [])
taken_data file b entry q fresh bytes has there sound is same =
    let p = packet_at (logical file) q in
    let more : data_packets (has.packets ++ p ∷ []) ≡ data_packets has.packets ++ p ∷ [] = data-append has.packets (p ∷ []) ∙ ap (λ (ps : List Packet). data_packets has.packets ++ ps) (data-yes p [] is ∙ ap (λ (ps : List Packet). p ∷ ps) data-none) in
    record {
      packets = has.packets ++ p ∷ [];
      leads = front-more file b.section entry has.packets q has.leads there sound;
      one_chunk = one_more fresh has.packets p is has.one_chunk has.freshness same;
      freshness = rw more (some_after (data_packets has.packets) p);
      stream = ap (stream_of b.field) more ∙ stream_of-append b.field (data_packets has.packets) (p ∷ []) ∙ ap (λ (xs : List ℕ). xs ++ stream_of b.field (p ∷ [])) has.stream ∙ ap (λ (xs : List ℕ). bytes ++ xs) (stream-one b.field p);
    }

-- a packet of another kind
pub taken_other : (file : List ℕ) (b : Bytestream) (entry q : ℕ) (fresh : Bool) (bytes : List ℕ) → HasTaken file b entry q fresh bytes → q + 4 ≤ b.section.end → packet_fault file b.section q ≡ None
    → (packet_at (logical file) q).is_data ≡ false → (packet_at (logical file) q).restart ≡ false
    → HasTaken file b entry (q + length_at (logical file) q) fresh bytes
taken_other file b entry q fresh bytes has there sound is same =
    let p = packet_at (logical file) q in
    let more : data_packets (has.packets ++ p ∷ []) ≡ data_packets has.packets = data-append has.packets (p ∷ []) ∙ ap (λ (ps : List Packet). data_packets has.packets ++ ps) (data-other p [] is ∙ data-none) ∙ append-nil (data_packets has.packets) in
    record {
      packets = has.packets ++ p ∷ [];
      leads = front-more file b.section entry has.packets q has.leads there sound;
      one_chunk = same-one has.packets p has.one_chunk same;
      freshness = still_fresh fresh has.packets (has.packets ++ p ∷ []) more has.freshness;
      stream = ap (stream_of b.field) more ∙ has.stream;
    }
  where
    still_fresh : (fresh : Bool) (before after : List Packet) → data_packets after ≡ data_packets before → IsFresh fresh before → IsFresh fresh after
    still_fresh true before after e f = e ∙ f
    still_fresh false before after e f = rw e f

-- ---- how the chunk ends

pub finish_end : (file : List ℕ) (b : Bytestream) (entry q at : ℕ) (fresh : Bool) (bytes : List ℕ) → HasTaken file b entry q fresh bytes → b.section.end < q + 4 → Finishes file b entry at bytes (short_at b at)
finish_end file b entry q at fresh bytes has over =
    let ends = stretch-end file b.section entry has.packets q has.leads has.one_chunk over in
    record { stream = rw ends has.stream; cause = rw ends refl }

pub finish_fault : (file : List ℕ) (b : Bytestream) (entry q at : ℕ) (fresh : Bool) (bytes : List ℕ) (found : Fault) → HasTaken file b entry q fresh bytes → q + 4 ≤ b.section.end → packet_fault file b.section q ≡ Some found → Finishes file b entry at bytes found
finish_fault file b entry q at fresh bytes found has there wrong =
    let ends = stretch-fault file b.section entry has.packets q found has.leads has.one_chunk there wrong in
    record { stream = rw ends has.stream; cause = rw ends refl }

chosen : (test : Bool) (x own : Fault) → or_short (if test then Some x else None) own ≡ Err (if test then x else own)
chosen true x own = refl
chosen false x own = refl

pub finish_next : (file : List ℕ) (b : Bytestream) (entry q at : ℕ) (bytes : List ℕ) → HasTaken file b entry q false bytes → q + 4 ≤ b.section.end → packet_fault file b.section q ≡ None → restart_at (logical file) q ≡ true → Finishes file b entry at bytes (restart_at_place b at q)
finish_next file b entry q at bytes has there sound begins =
    let ends = stretch-next file b.section entry has.packets q has.leads has.one_chunk has.freshness there sound begins in
    record { stream = rw ends has.stream; cause = rw ends (chosen (b.section.index == 0 && is_none b.fixed) (fault RestartUnindexed b.section.node q) (short_at b at)) }

-- ---- the chunk has these packets, and then more

abbrev first_piece : List (List Packet) → List Packet
first_piece [] = []
first_piece (piece ∷ pieces) = piece

first-onto : (p : Packet) (pieces : List (List Packet)) → first_piece (onto_first p pieces) ≡ p ∷ first_piece pieces
first-onto p [] = refl
first-onto p (piece ∷ pieces) = refl

length-onto : (p : Packet) (pieces : List (List Packet)) → length (onto_first p pieces) ≡ 1 → 0 < length pieces → length pieces ≡ 1
length-onto p [] one some = absurd (omega arith)
length-onto p (piece ∷ pieces) one some = one

cut_some : (ps : List Packet) → 0 < length (cut ps)
cut_some [] = rw cut-none (omega arith)
cut_some (p ∷ ps) =
    ⊎_elim
    (λ (restart : p.restart ≡ true). rw (cut-restart p ps restart) (omega arith))
    (λ (same : p.restart ≡ false). rw (cut-on p ps same) (length-onto_some p (cut ps)))
    (cases_Bool p.restart)

cut_front : (ps qs : List Packet) → length (cut ps) ≡ 1 → (more : List Packet) × (first_piece (cut (ps ++ qs)) ≡ ps ++ more)
cut_front [] qs one = (first_piece (cut qs), refl)
cut_front (x ∷ xs) qs one =
    ⊎_elim
    (λ (restart : x.restart ≡ true). absurd (let many = length-onto_some x (cut xs) in let count : suc (length (onto_first x (cut xs))) ≡ 1 = ap (λ (all : List (List Packet)). length all) (sym (cut-restart x xs restart)) ∙ one in omega arith))
    (λ (same : x.restart ≡ false).
    let count : length (cut xs) ≡ 1 = length-onto x (cut xs) (ap (λ (all : List (List Packet)). length all) (sym (cut-on x xs same)) ∙ one) (cut_some xs) in
    let (more, is) = cut_front xs qs count in
    (more, ap first_piece (cut-on x (xs ++ qs) same) ∙ first-onto x (cut (xs ++ qs)) ∙ ap (λ (ps : List Packet). x ∷ ps) is))
    (cases_Bool x.restart)

chunk_front : (ps qs : List Packet) → length (by_chunk ps) ≡ 1 → (more : List Packet) × (first_piece (by_chunk (ps ++ qs)) ≡ ps ++ more)
chunk_front [] qs one = (first_piece (by_chunk qs), refl)
chunk_front (x ∷ xs) qs one =
    let count : length (cut xs) ≡ 1 = length-onto x (cut xs) (ap (λ (all : List (List Packet)). length all) (sym (by_chunk-is x xs)) ∙ one) (cut_some xs) in
    let (more, is) = cut_front xs qs count in
    (more, ap first_piece (by_chunk-is x (xs ++ qs)) ∙ first-onto x (cut (xs ++ qs)) ∙ ap (λ (ps : List Packet). x ∷ ps) is)

stretch_first : (found : Option Fault) (pieces : List (List Packet)) → (stretch_of found pieces).packets ≡ first_piece pieces
stretch_first found [] = refl
stretch_first found (piece ∷ []) = refl
stretch_first found (piece ∷ next ∷ more) = refl

-- the stream of the chunk is the bytes that were taken, and then more
pub taken_first : (file : List ℕ) (b : Bytestream) (entry q : ℕ) (fresh : Bool) (bytes : List ℕ) → HasTaken file b entry q fresh bytes → (more : List ℕ) × (stream_of b.field (stretch file b.section entry).packets ≡ bytes ++ more)
unfolding stretch
taken_first file b entry q fresh bytes has =
    let rest = walk_from file b.section q in
    let walk = front-walk file b.section entry has.packets q has.leads in
    let (later, is) = chunk_front (data_packets has.packets) (data_packets rest.packets) has.one_chunk in
    let all : data_packets (walk_from file b.section entry).packets ≡ data_packets has.packets ++ data_packets rest.packets = ap (λ (w : Walk). data_packets w.packets) walk ∙ data-append has.packets rest.packets in (
      stream_of b.field later,
      ap (stream_of b.field) (stretch_first (walk_from file b.section entry).fault (by_chunk (data_packets (walk_from file b.section entry).packets)) ∙ ap (λ (ps : List Packet). first_piece (by_chunk ps)) all ∙ is)
          ∙ stream_of-append b.field (data_packets has.packets) later ∙ ap (λ (xs : List ℕ). xs ++ stream_of b.field later) has.stream,
    )
