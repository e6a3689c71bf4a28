-- Laws of chunks that are reached: where index, packets and chunks have no fault, the way to a record of a chunk leads to
-- the packets of that chunk.
use Rattle.std.specs.Prelude.{◌≡◌, ℕ, zero, suc, ◌+◌, ◌-◌, ◌<◌, ◌≤◌, ◌==◌, ◌&&◌, ◌||◌, not, min, nat_lt, Bool, true, false, if◌then◌else◌, List, [], ◌∷◌, map, Option, Some, None, Result, Ok}
use Rattle.std.specs.List.{AllByRecursion}
use Rattle.std.proofs.Common.{refl, sym, ap, ◌∙◌, arith, ⊎_elim, inl, inr}
use Rattle.std.proofs.lemmas.Bool.{lt-ltb, le-ltb, eqb-true, cases_Bool, ltb-true, or_parts, not-false}
use Rattle.e57_base.specs.declared.fault.Fault.{Fault}
use Rattle.e57_base.specs.declared.kind.Kind.TheVariants.{IndexTarget, RestartUnindexed}
use Rattle.e57_page.specs.Place.{place}
use Rattle.e57_base.specs.Fault.{fault}
use Rattle.e57_layout.specs.declared.packet.Entry.{Entry}
use Rattle.e57_layout.specs.declared.field.Fixed.{Fixed}
use Rattle.e57_layout.specs.declared.section.Section.{Section}
use Rattle.e57_cloud.specs.Section.{or_zero}
use Rattle.e57_cloud.specs.Walk.{Packet}
use Rattle.e57_cloud.specs.Index.{next_first, index_fault, entries, HasEntry}
use Rattle.e57_cloud.specs.Chunks.{start_of, compared, starts_fault, float_items, restarts_fault, counted, Chunk, head_or, with_records}
use Rattle.e57_cloud.specs.PathItem.{ChunkAt, path, stretch_of, stretch, cover, chunk_at, restart_fault}
use Rattle.e57_cloud.proofs.Laws.Pieces.{pieces-room, HasPieces, pieces-next, pieces-start, pieces-stretch}
use Rattle.e57_cloud.proofs.Laws.Descents.{path-is}
use Rattle.e57_base.proofs.Options.{option_or_parts}

-- The way to record i leads to this chunk, and nothing on it has a fault.
pub record IsReached (file : List ℕ) (s : Section) (fixed : Option Fixed) (chunk : Chunk) (i : ℕ) : Type 0 where
  pub place : ℕ
  pub next : Option ℕ
  pub entry : ChunkAt
  pub on_path : path file s i ≡ Ok entry
  pub at : chunk_at file s fixed i ≡ Ok (record { first = chunk.first; until = chunk.until; place = place })
  pub walked : stretch file s place ≡ record { packets = chunk.packets; fault = None; next = next }
  pub ended : restart_fault s fixed next ≡ None

-- each record of each chunk is reached
abbrev pub AreReached : List ℕ → Section → Option Fixed → List Chunk → Type 0
AreReached file s fixed chunks = AllByRecursion (λ (chunk : Chunk). (i : ℕ) → chunk.first ≤ i → i < chunk.until → IsReached file s fixed chunk i) chunks

-- where the next chunk starts
abbrev pub next_of : List (List Packet) → Option ℕ
next_of [] = None
next_of (piece ∷ pieces) = Some (start_of piece)

pub stretch-of : (chunk : List Packet) (pieces : List (List Packet)) → stretch_of None (chunk ∷ pieces) ≡ record { packets = chunk; fault = None; next = next_of pieces }
stretch-of chunk [] = refl
stretch-of chunk (piece ∷ pieces) = refl

-- ---- with an index

some≢none : (found : Fault) → Some found ≡ None → ⊥
some≢none found none = cc

compared-none : (s : Section) (j : ℕ) (e : Entry) (q : ℕ) (at : Option ℕ) → compared s j e q at ≡ None → at ≡ Some q
compared-none s j e q None none = absurd (some≢none (fault IndexTarget s.node e.first) none)
compared-none s j e q (Some at) none =
    ⊎_elim
    (λ (same : (at == q) ≡ true). ap Some (eqb-true at q same))
    (λ (differ : (at == q) ≡ false). absurd (never (nat_lt 0 j && nat_lt q at) (fault RestartUnindexed s.node q) (fault IndexTarget s.node e.first) (rw differ at none)))
    (cases_Bool (at == q))
  where
    never : (test : Bool) (a b : Fault) → (if test then Some a else Some b) ≡ None → ⊥
    never true a b none = some≢none a none
    never false a b none = some≢none b none

restart-indexed : (s : Section) (fixed : Option Fixed) (next : Option ℕ) → (s.index == 0) ≡ false → restart_fault s fixed next ≡ None
restart-indexed s fixed None indexed = refl
restart-indexed s fixed (Some q) indexed = rw indexed

pub chunk_at-indexed : (file : List ℕ) (s : Section) (fixed : Option Fixed) (i : ℕ) → (s.index == 0) ≡ false → chunk_at file s fixed i ≡ path file s i
unfolding chunk_at
chunk_at-indexed file s None i indexed = refl
chunk_at-indexed file s (Some fixed) i indexed = rw indexed

pub head-first : (count : ℕ) (es : List Entry) → head_or count (map (λ (e : Entry). e.first) es) ≡ next_first count es
head-first count [] = refl
head-first count (e ∷ es) = refl

-- an index without fault
pub record HasEntries (file : List ℕ) (s : Section) : Type 0 where
  pub indexed : (s.index == 0) ≡ false
  pub sound : index_fault file s ≡ None
  pub some : 0 < s.count

found_at : ℕ → ℕ → Option ℕ → Result ChunkAt Fault
found_at first until at = Ok (record { first = first; until = until; place = or_zero at })

one-reached : (file : List ℕ) (s : Section) (fixed : Option Fixed) (q until : ℕ) (e : Entry) (p : Packet) (ps : List Packet) (pieces : List (List Packet)) → HasEntries file s → HasEntry s.count (entries file s) e until → place e.place ≡ Some p.place
    → HasPieces file s q ((p ∷ ps) ∷ pieces) → (i : ℕ) → e.first ≤ i → i < until → IsReached file s fixed (record { first = e.first; until = until; packets = p ∷ ps }) i
unfolding found_at
one-reached file s fixed q until e p ps pieces index has at pieces_are i low high =
    let way : path file s i ≡ Ok (record { first = e.first; until = until; place = p.place }) = path-is file s i e until index.indexed index.sound index.some has low high ∙ ap (found_at e.first until) at in
    record {
      place = p.place;
      next = next_of pieces;
      entry = record { first = e.first; until = until; place = p.place };
      on_path = way;
      at = chunk_at-indexed file s fixed i index.indexed ∙ way;
      walked = pieces-stretch file s p.place ((p ∷ ps) ∷ pieces) (pieces-start file s q p ps pieces pieces_are) ∙ stretch-of (p ∷ ps) pieces;
      ended = restart-indexed s fixed (next_of pieces) index.indexed;
    }

pub indexed-reached : (file : List ℕ) (s : Section) (fixed : Option Fixed) (j q : ℕ) (es : List Entry) (pieces : List (List Packet)) → HasEntries file s → ((e : Entry) (until : ℕ) → HasEntry s.count es e until → HasEntry s.count (entries file s) e until)
    → HasPieces file s q pieces → starts_fault s j es pieces ≡ None → AreReached file s fixed (with_records s.count (map (λ (e : Entry). e.first) es) pieces)
unfolding with_records starts_fault
indexed-reached file s fixed j q [] pieces index within has sound = tt
indexed-reached file s fixed j q (e ∷ es) [] index within has sound = tt
indexed-reached file s fixed j q (e ∷ es) ([] ∷ pieces) index within has sound = absurd (some≢none (fault IndexTarget s.node e.first) sound)
indexed-reached file s fixed j q (e ∷ es) ((p ∷ ps) ∷ []) index within has sound =
    let parts = option_or_parts (compared s j e p.place (place e.place)) (starts_fault s (j + 1) es []) sound in (
      λ i low high. one-reached file s fixed q (head_or s.count (map (λ (x : Entry). x.first) es)) e p ps [] index (within e (head_or s.count (map (λ (x : Entry). x.first) es)) (inl (refl, sym (head-first s.count es)))) (compared-none s j e p.place (place e.place) parts.0) has i low high,
      no_pieces es,
    )
  where
    no_pieces : (es : List Entry) → AreReached file s fixed (with_records s.count (map (λ (x : Entry). x.first) es) [])
    no_pieces [] = tt
    no_pieces (e ∷ es) = tt
indexed-reached file s fixed j q (e ∷ es) ((p ∷ ps) ∷ next ∷ pieces) index within has sound =
    let parts = option_or_parts (compared s j e p.place (place e.place)) (starts_fault s (j + 1) es (next ∷ pieces)) sound in
    let later = pieces-next file s q (p ∷ ps) next pieces has in (
      λ i low high. one-reached file s fixed q (head_or s.count (map (λ (x : Entry). x.first) es)) e p ps (next ∷ pieces) index (within e (head_or s.count (map (λ (x : Entry). x.first) es)) (inl (refl, sym (head-first s.count es)))) (compared-none s j e p.place (place e.place) parts.0) has i low high,
      indexed-reached file s fixed (j + 1) (start_of next) es (next ∷ pieces) index (λ x until has_it. within x until (inr has_it)) later.pieces parts.1,
    )

-- ---- without an index

path-plain : (file : List ℕ) (s : Section) (i : ℕ) → (s.index == 0) ≡ true → path file s i ≡ Ok (record { first = 0; until = s.count; place = s.data_place })
unfolding path
path-plain file s i plain = rw plain

-- without a Float field there is one chunk
pub single-reached : (file : List ℕ) (s : Section) (chunk : List Packet) (more : List (List Packet)) → (s.index == 0) ≡ true → HasPieces file s s.data_place (chunk ∷ more) → restarts_fault s None 0 chunk more ≡ None
    → AreReached file s None (with_records s.count (counted None 0 (chunk ∷ more)) (chunk ∷ more))
unfolding restarts_fault with_records counted chunk_at
single-reached file s chunk [] plain has sound = (
  λ i low high. record {
    place = s.data_place;
    next = None;
    entry = record { first = 0; until = s.count; place = s.data_place };
    on_path = path-plain file s i plain;
    at = path-plain file s i plain;
    walked = pieces-stretch file s s.data_place (chunk ∷ []) has;
    ended = refl;
  },
  tt,
)
single-reached file s chunk (next ∷ more) plain has sound = absurd (some≢none (fault RestartUnindexed s.node (start_of next)) sound)

-- a later chunk needs records in the one before it, and some left
pub record GoesOn (s : Section) (fixed : Option Fixed) (first : ℕ) (chunk next : List Packet) (more : List (List Packet)) : Type 0 where
  pub some : (float_items fixed chunk == 0) ≡ false
  pub left : first + float_items fixed chunk < s.count
  pub rest : restarts_fault s fixed (first + float_items fixed chunk) next more ≡ None

pub goes_on-from : (s : Section) (fixed : Option Fixed) (first : ℕ) (chunk next : List Packet) (more : List (List Packet)) → restarts_fault s fixed first chunk (next ∷ more) ≡ None → GoesOn s fixed first chunk next more
unfolding restarts_fault
goes_on-from s fixed first chunk next more sound =
    ⊎_elim
    (λ (bad : (float_items fixed chunk == 0 || not (nat_lt (first + float_items fixed chunk) s.count)) ≡ true). absurd (some≢none (fault RestartUnindexed s.node (start_of next)) (rw bad at sound)))
    (λ (good : (float_items fixed chunk == 0 || not (nat_lt (first + float_items fixed chunk) s.count)) ≡ false).
    let parts = or_parts (float_items fixed chunk == 0) (not (nat_lt (first + float_items fixed chunk) s.count)) good in
    record { some = parts.0; left = ltb-true (first + float_items fixed chunk) s.count (not-false (nat_lt (first + float_items fixed chunk) s.count) parts.1); rest = rw good at sound })
    (cases_Bool (float_items fixed chunk == 0 || not (nat_lt (first + float_items fixed chunk) s.count)))

pub cover-last : (file : List ℕ) (s : Section) (fixed : Fixed) (i fuel first q : ℕ) (chunk : List Packet) → stretch file s q ≡ record { packets = chunk; fault = None; next = None } → cover file s fixed i fuel first q ≡ Ok (record { first = first; until = s.count; place = q })
unfolding cover
cover-last file s fixed i zero first q chunk walked = refl
cover-last file s fixed i (suc fuel) first q chunk walked =
    ⊎_elim
    (λ (in_it : nat_lt (i - first) (float_items (Some fixed) chunk) ≡ true). rw (walked, in_it))
    (λ (past : nat_lt (i - first) (float_items (Some fixed) chunk) ≡ false). rw (walked, past))
    (cases_Bool (nat_lt (i - first) (float_items (Some fixed) chunk)))

cover-here : (file : List ℕ) (s : Section) (fixed : Fixed) (i fuel first q next : ℕ) (chunk : List Packet) → stretch file s q ≡ record { packets = chunk; fault = None; next = Some next } → first ≤ i → i < first + float_items (Some fixed) chunk
    → first + float_items (Some fixed) chunk < s.count → cover file s fixed i (suc fuel) first q ≡ Ok (record { first = first; until = first + float_items (Some fixed) chunk; place = q })
unfolding cover
cover-here file s fixed i fuel first q next chunk walked low high left =
    let least : min s.count (first + float_items (Some fixed) chunk) ≡ first + float_items (Some fixed) chunk = omega arith in
    rw (walked, lt-ltb (i - first) (float_items (Some fixed) chunk) (omega arith), least)

cover-on : (file : List ℕ) (s : Section) (fixed : Fixed) (i fuel first q next : ℕ) (chunk : List Packet) → stretch file s q ≡ record { packets = chunk; fault = None; next = Some next } → first + float_items (Some fixed) chunk ≤ i → (float_items (Some fixed) chunk == 0) ≡ false
    → cover file s fixed i (suc fuel) first q ≡ cover file s fixed i fuel (first + float_items (Some fixed) chunk) next
unfolding cover
cover-on file s fixed i fuel first q next chunk walked past some = rw (walked, le-ltb (i - first) (float_items (Some fixed) chunk) (omega arith), some)

restart-fixed : (s : Section) (fixed : Fixed) (q : ℕ) → restart_fault s (Some fixed) (Some q) ≡ None
restart-fixed s fixed q = plain (s.index == 0) (fault RestartUnindexed s.node q)
  where
    plain : (test : Bool) (found : Fault) → (if test && false then Some found else None) ≡ None
    plain true found = refl
    plain false found = refl

pub cover-reached : (file : List ℕ) (s : Section) (fixed : Fixed) (fuel first q : ℕ) (chunk : List Packet) (more : List (List Packet)) → (s.index == 0) ≡ true → HasPieces file s q (chunk ∷ more) → restarts_fault s (Some fixed) first chunk more ≡ None → s.end - q ≤ fuel
    → ((i : ℕ) → first ≤ i → i < s.count → chunk_at file s (Some fixed) i ≡ cover file s fixed i fuel first q) → AreReached file s (Some fixed) (with_records s.count (counted (Some fixed) first (chunk ∷ more)) (chunk ∷ more))
unfolding with_records counted
cover-reached file s fixed fuel first q chunk [] plain has sound enough on =
    let walked = pieces-stretch file s q (chunk ∷ []) has in (
      λ i low high. record {
        place = q;
        next = None;
        entry = record { first = 0; until = s.count; place = s.data_place };
        on_path = path-plain file s i plain;
        at = on i low high ∙ cover-last file s fixed i fuel first q chunk walked;
        walked = walked;
        ended = refl;
      },
      tt,
    )
cover-reached file s fixed zero first q chunk (next ∷ more) plain has sound enough on = absurd (let room = pieces-room file s q chunk next more has in omega arith)
cover-reached file s fixed (suc fuel) first q chunk (next ∷ more) plain has sound enough on =
    let walked = pieces-stretch file s q (chunk ∷ next ∷ more) has in
    let goes = goes_on-from s (Some fixed) first chunk next more sound in
    let later = pieces-next file s q chunk next more has in (
      λ i low high. record {
        place = q;
        next = Some (start_of next);
        entry = record { first = 0; until = s.count; place = s.data_place };
        on_path = path-plain file s i plain;
        at = on i low (omega (arith, goes.left)) ∙ cover-here file s fixed i fuel first q (start_of next) chunk walked low high goes.left;
        walked = walked;
        ended = restart-fixed s fixed (start_of next);
      },
      cover-reached file s fixed fuel (first + float_items (Some fixed) chunk) (start_of next) next more plain later.pieces goes.rest (omega (arith, later.after))
          (λ i low high. on i (omega arith) high ∙ cover-on file s fixed i fuel first q (start_of next) chunk walked low goes.some),
    )
