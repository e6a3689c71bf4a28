-- Packets of one chunk are the first ones of their chunk, whatever comes after them.
use Rattle.std.specs.Prelude.{◌≡◌, ℕ, suc, ◌+◌, ◌/◌, ◌<◌, ◌≤◌, ◌⊎◌, true, false, List, [], ◌∷◌, ◌++◌, length, Option, Some}
use Rattle.std.specs.List.{onto_first}
use Rattle.std.proofs.Common.{refl, sym, ap, ◌∙◌, arith, ⊎_elim}
use Rattle.std.proofs.lemmas.Bool.{cases_Bool}
use Rattle.std.proofs.lemmas.List.{length-append}
use Rattle.e57_base.specs.declared.fault.Fault.{Fault}
use Rattle.e57_layout.specs.declared.field.Fixed.{Fixed}
use Rattle.e57_layout.specs.declared.section.Section.{Section}
use Rattle.e57_cloud.specs.Walk.{Packet, walk_from, IsFront}
use Rattle.e57_cloud.specs.Chunks.{data_packets, stream_of, cut, by_chunk, float_items}
use Rattle.e57_cloud.specs.PathItem.{stretch_of, stretch}
use Rattle.e57_cloud.proofs.Laws.Chunks.{data-append, cut-restart}
use Rattle.e57_cloud.proofs.Laws.Pieces.{cut-on, by_chunk-is, by_chunk-none, cut-none}
use Rattle.e57_cloud.proofs.Laws.Fronts.{front-walk, stream_of-append, length-onto_some, length-onto}
use Rattle.e57_ahead.specs.Counting.{IsWidth}

cut-some : (ps : List Packet) → 0 < length (cut ps)
cut-some [] = rw cut-none (omega arith)
cut-some (p ∷ ps) =
    ⊎_elim
    (λ (restart : p.restart ≡ true). rw (cut-restart p ps restart) (omega arith))
    (λ (same : p.restart ≡ false). rw (cut-on p ps same) (length-onto_some p (cut ps)))
    (cases_Bool p.restart)

by_chunk-some : (ps : List Packet) → 0 < length (by_chunk ps)
by_chunk-some [] = rw by_chunk-none (omega arith)
by_chunk-some (p ∷ ps) = rw (by_chunk-is p ps) (length-onto_some p (cut ps))

-- the pieces begin with these packets and some more
pub record BeginsWith (ps : List Packet) (pieces : List (List Packet)) : Type 0 where
  pub more : List Packet
  pub later : List (List Packet)
  pub is : pieces ≡ (ps ++ more) ∷ later

begins-none : (pieces : List (List Packet)) → 0 < length pieces → BeginsWith [] pieces
begins-none [] some = absurd (omega arith)
begins-none (piece ∷ pieces) some = record { more = piece; later = pieces; is = refl }

begins-onto : (p : Packet) (ps : List Packet) (pieces : List (List Packet)) → BeginsWith ps pieces → BeginsWith (p ∷ ps) (onto_first p pieces)
begins-onto p ps pieces begins = record { more = begins.more; later = begins.later; is = ap (onto_first p) begins.is }

same-begins : (ps : List Packet) (pieces all : List (List Packet)) → all ≡ pieces → BeginsWith ps pieces → BeginsWith ps all
same-begins ps pieces all same begins = record { more = begins.more; later = begins.later; is = same ∙ begins.is }

-- without restart in one of them, the first one apart
cut-rest : (p : Packet) (ps : List Packet) → length (onto_first p (cut ps)) ≡ 1 → length (cut ps) ≡ 1
cut-rest p ps one = sym (length-onto p (cut ps) (cut-some ps)) ∙ one

cut-begins : (ps qs : List Packet) → length (cut ps) ≡ 1 → BeginsWith ps (cut (ps ++ qs))
cut-begins [] qs one = begins-none (cut qs) (cut-some qs)
cut-begins (p ∷ ps) qs one =
    ⊎_elim
    (λ (restart : p.restart ≡ true). absurd (let many = length-onto_some p (cut ps) in let count : suc (length (onto_first p (cut ps))) ≡ 1 = ap (λ (all : List (List Packet)). length all) (sym (cut-restart p ps restart)) ∙ one in omega arith))
    (λ (same : p.restart ≡ false).
    let rest = cut-rest p ps (ap (λ (all : List (List Packet)). length all) (sym (cut-on p ps same)) ∙ one) in
    same-begins (p ∷ ps) (onto_first p (cut (ps ++ qs))) (cut (p ∷ ps ++ qs)) (cut-on p (ps ++ qs) same) (begins-onto p ps (cut (ps ++ qs)) (cut-begins ps qs rest)))
    (cases_Bool p.restart)

chunk-begins : (ps qs : List Packet) → length (by_chunk ps) ≡ 1 → BeginsWith ps (by_chunk (ps ++ qs))
chunk-begins [] qs one = begins-none (by_chunk qs) (by_chunk-some qs)
chunk-begins (p ∷ ps) qs one =
    let rest = cut-rest p ps (ap (λ (all : List (List Packet)). length all) (sym (by_chunk-is p ps)) ∙ one) in
    same-begins (p ∷ ps) (onto_first p (cut (ps ++ qs))) (by_chunk (p ∷ ps ++ qs)) (by_chunk-is p (ps ++ qs)) (begins-onto p ps (cut (ps ++ qs)) (cut-begins ps qs rest))

stretch-packets : (found : Option Fault) (chunk : List Packet) (later : List (List Packet)) → (stretch_of found (chunk ∷ later)).packets ≡ chunk
stretch-packets found chunk [] = refl
stretch-packets found chunk (next ∷ more) = refl

-- The walk through a chunk begins with the packets of one chunk that stand from its place on.
pub stretch-begins : (file : List ℕ) (s : Section) (at : ℕ) (packets : List Packet) (q : ℕ) → IsFront file s at packets q → length (by_chunk (data_packets packets)) ≡ 1
    → (more : List Packet) × ((stretch file s at).packets ≡ data_packets packets ++ more)
unfolding stretch
stretch-begins file s at packets q front one =
    let rest = (walk_from file s q).packets in
    let begins = chunk-begins (data_packets packets) (data_packets rest) one in
    (begins.more, rw (front-walk file s at packets q front, data-append packets rest, begins.is) (stretch-packets (walk_from file s q).fault (data_packets packets ++ begins.more) begins.later))

quotient-more : (n a b : ℕ) → (n ≡ 4) ⊎ (n ≡ 8) → a / n ≤ (a + b) / n
quotient-more n a b width =
    ⊎_elim
    (λ (four : n ≡ 4). rw four (omega arith))
    (λ (eight : n ≡ 8). rw eight (omega arith))
    width

-- more packets have as many whole items or more
pub items-more : (fixed : Fixed) (xs ys : List Packet) → IsWidth fixed → float_items (Some fixed) xs ≤ float_items (Some fixed) (xs ++ ys)
items-more fixed xs ys width =
    rw (stream_of-append fixed.field xs ys, length-append (stream_of fixed.field xs) (stream_of fixed.field ys))
    (quotient-more fixed.bytes (length (stream_of fixed.field xs)) (length (stream_of fixed.field ys)) width)
