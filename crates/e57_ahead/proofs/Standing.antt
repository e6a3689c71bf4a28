-- What a count that stands in a file says of the chunks of records, and how it goes on standing there.
use Rattle.std.specs.Prelude.{◌≡◌, ℕ, zero, suc, ◌+◌, ◌-◌, ◌/◌, ◌<◌, ◌≤◌, ◌==◌, ◌⊎◌, ◌&&◌, nat_lt, min, Bool, true, false, if◌then◌else◌, List, [], ◌∷◌, ◌++◌, length, get_or, Some, None, is_none, Result, Ok, Err}
use Rattle.std.specs.Result.{IsOkAnd}
use Rattle.std.proofs.Common.{refl, sym, subst, ap, ◌∙◌, arith, inl, inr, ⊎_elim}
use Rattle.std.proofs.lemmas.Bool.{cases_lt, lt-ltb, le-ltb, ltb-true, le-leb, ne_eqb}
use Rattle.std.proofs.lemmas.List.{append-nil, length-append}
use Rattle.std.proofs.Math.Bool.{or-true, and-true}
use Rattle.e57_cloud.specs.Section.{or_zero}
use Rattle.e57_base.specs.declared.fault.Fault.{Fault}
use Rattle.e57_base.specs.declared.kind.Kind.TheVariants.{RestartUnindexed}
use Rattle.e57_base.specs.Fault.{fault}
use Rattle.e57_page.specs.File.{logical}
use Rattle.e57_layout.specs.Packets.{restart_at}
use Rattle.e57_layout.specs.Values.{ItemKind}
use Rattle.e57_layout.specs.declared.field.Fixed.{Fixed}
use Rattle.e57_layout.specs.declared.section.Section.{Section}
use Rattle.e57_cloud.specs.Walk.{Packet, packet_at, packet_fault, IsFront}
use Rattle.e57_cloud.specs.Chunks.{data_packets, stream_of, by_chunk, float_items}
use Rattle.e57_cloud.specs.PathItem.{ChunkAt, Stretch, stretch, covered, cover_from, chunk_at}
use Rattle.e57_cloud.specs.Met.{OnWalk, OnCover, lacks_item, lacks_record, goes_on, InSpan, needed_at}
use Rattle.e57_cloud.proofs.Laws.Chunks.{data-append}
use Rattle.e57_cloud.proofs.Laws.Pieces.{data-yes, data-other, data-none}
use Rattle.e57_cloud.proofs.Laws.Reached.{cover-last}
use Rattle.e57_cloud.proofs.Laws.Covers.{next-after, cover_from-step}
use Rattle.e57_cloud.proofs.Laws.Fronts.{front-none, front-more, front-walked, none-one, first-one, same-one, stretch-end, stretch-fault, stretch-next, stream_of-append, packet-length}
use Rattle.e57_ahead.specs.declared.reached.Reached.{Reached}
use Rattle.e57_ahead.specs.declared.reached.Covered.{Covered}
use Rattle.e57_ahead.specs.Counting.{begun, anew, IsWidth, items, has_ended, answered, OnWay, StandsIn}
use Rattle.e57_ahead.specs.Finding.{IsOf, IsBeyond, HasRecords}
use Rattle.e57_ahead.proofs.Prefix.{stretch-begins, items-more}
use Rattle.e57_cloud.proofs.Laws.Streams.{stream-one}

-- ---- a new count

chunk_at-unindexed : (file : List ℕ) (s : Section) (fixed : Fixed) (i : ℕ) → s.index ≡ 0 → chunk_at file s (Some fixed) i ≡ cover_from file s fixed i 0 s.data_place
unfolding chunk_at
chunk_at-unindexed file s fixed i none = rw none

none-streams : (f : ℕ) → stream_of f [] ≡ []
unfolding stream_of
none-streams f = refl

pub stands-begun : (file : List ℕ) (s : Section) (fixed : Fixed) → s.index ≡ 0 → StandsIn file s fixed (begun s)
stands-begun file s fixed none = record {
  packets = [];
  front = front-none file s s.data_place;
  one_chunk = none-one;
  has_data = rw data-none refl;
  counted = rw (data-none, none-streams fixed.field) refl;
  chunk = λ i low. chunk_at-unindexed file s fixed i none;
  way = λ i p f kind low met. met;
}

-- ---- what is known of the chunk of a record

chunk_of : (first until q : ℕ) → ChunkAt
chunk_of first until q = record { first = first; until = until; place = q }

counted-items : (file : List ℕ) (s : Section) (fixed : Fixed) (r : Reached) (stands : StandsIn file s fixed r) → float_items (Some fixed) (data_packets stands.packets) ≡ items fixed r
counted-items file s fixed r stands = ap (λ (n : ℕ). n / fixed.bytes) (sym stands.counted)

-- the section ended
pub ended-chunk : (file : List ℕ) (s : Section) (fixed : Fixed) (r : Reached) (j : ℕ) → StandsIn file s fixed r → s.end < r.taken + 4 → r.first ≤ j
    → chunk_at file s (Some fixed) j ≡ Ok (record { first = r.first; until = s.count; place = r.place })
ended-chunk file s fixed r j stands over low =
    stands.chunk j low
    ∙ cover-last file s fixed j (s.end - r.place) r.first r.place (data_packets stands.packets) (stretch-end file s r.place stands.packets r.taken stands.front stands.one_chunk over)

covered-some : (s : Section) (i first q items : ℕ) (w : Stretch) (go : ℕ → Result ChunkAt Fault) → nat_lt (i - first) items ≡ true
    → (until : ℕ) × (covered s i first q items w go ≡ Ok (record { first = first; until = until; place = q }))
covered-some s i first q items w go enough = ((if is_none w.fault && is_none w.next then s.count else min s.count (first + items)), rw enough refl)

-- enough items were counted
pub counted-chunk : (file : List ℕ) (s : Section) (fixed : Fixed) (r : Reached) (j : ℕ) → IsWidth fixed → StandsIn file s fixed r → r.first ≤ j → j - r.first < items fixed r
    → (until : ℕ) × (chunk_at file s (Some fixed) j ≡ Ok (record { first = r.first; until = until; place = r.place }))
counted-chunk file s fixed r j width stands low enough =
    let begins = stretch-begins file s r.place stands.packets r.taken stands.front stands.one_chunk in
    let known = counted-items file s fixed r stands in
    let more = items-more fixed (data_packets stands.packets) begins.0 width in
    let all : float_items (Some fixed) (data_packets stands.packets) ≤ float_items (Some fixed) (stretch file s r.place).packets = rw begins.1 more in
    let go = λ (next : ℕ). cover_from file s fixed j (r.first + float_items (Some fixed) (stretch file s r.place).packets) next in
    let some = covered-some s j r.first r.place (float_items (Some fixed) (stretch file s r.place).packets) (stretch file s r.place) go (lt-ltb (j - r.first) (float_items (Some fixed) (stretch file s r.place).packets) (omega (arith, all, known, enough))) in
    (some.0, stands.chunk j low ∙ cover_from-step file s fixed j r.first r.place ∙ some.1)

is-of : (result : Result ChunkAt Fault) (first until q : ℕ) (found : Covered) → found.start ≡ first → found.place ≡ q → result ≡ Ok (record { first = first; until = until; place = q }) → IsOkAnd result (IsOf found)
is-of result first until q found starts begins is = rw is (sym starts, sym begins)

-- the records that are known to be of the chunk
pub known-records : (file : List ℕ) (s : Section) (fixed : Fixed) (r : Reached) (i : ℕ) → IsWidth fixed → r.first ≤ i → (s.end < r.taken + 4) ⊎ (i - r.first < items fixed r) → StandsIn file s fixed r
    → HasRecords file s fixed i (answered s fixed r)
known-records file s fixed r i width low how stands j from below =
    ⊎_elim
    (λ (over : s.end < r.taken + 4). is-of (chunk_at file s (Some fixed) j) r.first s.count r.place (answered s fixed r) refl refl (ended-chunk file s fixed r j stands over (omega arith)))
    (λ (there : r.taken + 4 ≤ s.end).
    let last : has_ended s r ≡ false = le-ltb s.end (r.taken + 4) there in
    let few : j < min s.count (r.first + items fixed r) = rw last at below in
    let enough : j - r.first < items fixed r = omega (arith, few, low, from) in
    let known = counted-chunk file s fixed r j width stands (omega (arith, low, from)) enough in
    is-of (chunk_at file s (Some fixed) j) r.first known.0 r.place (answered s fixed r) refl refl known.1)
    (cases_lt s.end (r.taken + 4))

-- ---- what ends a walk

-- the packet that comes has a fault
pub faulty-chunk : (file : List ℕ) (s : Section) (fixed : Fixed) (r : Reached) (found : Fault) (i : ℕ) → StandsIn file s fixed r → r.taken + 4 ≤ s.end → packet_fault file s r.taken ≡ Some found → IsBeyond fixed r i
    → chunk_at file s (Some fixed) i ≡ Err found
faulty-chunk file s fixed r found i stands there is beyond =
    let ends = stretch-fault file s r.place stands.packets r.taken found stands.front stands.one_chunk there is in
    let few : nat_lt (i - r.first) (items fixed r) ≡ false = le-ltb (i - r.first) (items fixed r) beyond.1 in
    stands.chunk i beyond.0 ∙ cover_from-step file s fixed i r.first r.place ∙ rw (ends, counted-items file s fixed r stands, few) refl

-- the packet that comes begins another chunk, and this one has no item
pub empty-chunk : (file : List ℕ) (s : Section) (fixed : Fixed) (r : Reached) (i : ℕ) → StandsIn file s fixed r → r.taken + 4 ≤ s.end → packet_fault file s r.taken ≡ None → restart_at (logical file) r.taken ≡ true → r.has_data ≡ true → items fixed r ≡ 0
    → r.first ≤ i → chunk_at file s (Some fixed) i ≡ Err (fault RestartUnindexed s.node r.taken)
empty-chunk file s fixed r i stands there sound restart has none low =
    let some = ltb-true 0 (length (data_packets stands.packets)) (sym stands.has_data ∙ has) in
    let ends = stretch-next file s r.place stands.packets r.taken stands.front stands.one_chunk some there sound restart in
    let few : nat_lt (i - r.first) 0 ≡ false = le-ltb (i - r.first) 0 (omega arith) in
    stands.chunk i low ∙ cover_from-step file s fixed i r.first r.place ∙ rw (ends, counted-items file s fixed r stands, none, few) refl

-- ---- one packet more

empty-list : (ps : List Packet) → (0 < length ps → ⊥) → ps ≡ []
empty-list [] none = refl
empty-list (p ∷ ps) none = absurd (none (omega arith))

data-more : (ps : List Packet) (p : Packet) → p.is_data ≡ true → data_packets (ps ++ p ∷ []) ≡ data_packets ps ++ p ∷ []
data-more ps p is = data-append ps (p ∷ []) ∙ ap (λ (l : List Packet). data_packets ps ++ l) (data-yes p [] is ∙ ap (λ (l : List Packet). p ∷ l) data-none)

data-less : (ps : List Packet) (p : Packet) → p.is_data ≡ false → data_packets (ps ++ p ∷ []) ≡ data_packets ps
data-less ps p other = data-append ps (p ∷ []) ∙ ap (λ (l : List Packet). data_packets ps ++ l) (data-other p [] other ∙ data-none) ∙ append-nil (data_packets ps)

some-more : (ps : List Packet) (p : Packet) → nat_lt 0 (length (ps ++ p ∷ [])) ≡ true
some-more ps p = let size = length-append ps (p ∷ []) in lt-ltb 0 (length (ps ++ p ∷ [])) (omega (arith, size))

-- a data packet of the chunk: it has no restart, or is the first one
one-more : (ps : List Packet) (p : Packet) (has : Bool) → has ≡ nat_lt 0 (length (data_packets ps)) → length (by_chunk (data_packets ps)) ≡ 1 → p.is_data ≡ true → (p.restart && has) ≡ false → length (by_chunk (data_packets (ps ++ p ∷ []))) ≡ 1
one-more ps p true is one sort same = same-one ps p one (sym (and-true p.restart) ∙ same)
one-more ps p false is one sort same =
    let none = empty-list (data_packets ps) (λ some. let yes = lt-ltb 0 (length (data_packets ps)) some in absurd cc) in
    rw (data-more ps p sort, none) (first-one p)

-- the front with one packet more, of n bytes
front-on : (file : List ℕ) (s : Section) (at : ℕ) (packets : List Packet) (q n : ℕ) → IsFront file s at packets q → q + 4 ≤ s.end → packet_fault file s q ≡ None → n ≡ (packet_at (logical file) q).length
    → IsFront file s at (packets ++ packet_at (logical file) q ∷ []) (q + n)
front-on file s at packets q n front there sound size =
    subst (λ (m : ℕ). IsFront file s at (packets ++ packet_at (logical file) q ∷ []) (q + m)) (sym (size ∙ packet-length (logical file) q)) (front-more file s at packets q front there sound)

-- the count after a data packet of the chunk
pub stands-more : (file : List ℕ) (s : Section) (fixed : Fixed) (r : Reached) (n bytes : ℕ) → StandsIn file s fixed r → r.taken + 4 ≤ s.end → packet_fault file s r.taken ≡ None → (packet_at (logical file) r.taken).is_data ≡ true
    → ((packet_at (logical file) r.taken).restart && r.has_data) ≡ false → n ≡ (packet_at (logical file) r.taken).length → bytes ≡ length (get_or (packet_at (logical file) r.taken).streams fixed.field [])
    → StandsIn file s fixed (record { first = r.first; place = r.place; taken = r.taken + n; bytes = r.bytes + bytes; has_data = true })
stands-more file s fixed r n bytes stands there sound is same size streams =
    let p = packet_at (logical file) r.taken in
    let more = data-more stands.packets p is in
    record {
      packets = stands.packets ++ p ∷ [];
      front = front-on file s r.place stands.packets r.taken n stands.front there sound size;
      one_chunk = one-more stands.packets p r.has_data stands.has_data stands.one_chunk is same;
      has_data = rw more (sym (some-more (data_packets stands.packets) p));
      counted = rw (more, stream_of-append fixed.field (data_packets stands.packets) (p ∷ []), stream-one fixed.field p, length-append (stream_of fixed.field (data_packets stands.packets)) (get_or p.streams fixed.field []), ← stands.counted, ← streams) refl;
      chunk = stands.chunk;
      way = stands.way;
    }

-- the count after a packet without streams
pub stands-passed : (file : List ℕ) (s : Section) (fixed : Fixed) (r : Reached) (n : ℕ) → StandsIn file s fixed r → r.taken + 4 ≤ s.end → packet_fault file s r.taken ≡ None → (packet_at (logical file) r.taken).is_data ≡ false
    → n ≡ (packet_at (logical file) r.taken).length → StandsIn file s fixed (record { first = r.first; place = r.place; taken = r.taken + n; bytes = r.bytes; has_data = r.has_data })
stands-passed file s fixed r n stands there sound other size =
    let p = packet_at (logical file) r.taken in
    let less = data-less stands.packets p other in
    record {
      packets = stands.packets ++ p ∷ [];
      front = front-on file s r.place stands.packets r.taken n stands.front there sound size;
      one_chunk = rw less stands.one_chunk;
      has_data = rw less stands.has_data;
      counted = rw less stands.counted;
      chunk = stands.chunk;
      way = stands.way;
    }

-- ---- another chunk

ending : (packets : List Packet) (next : ℕ) → Stretch
ending packets next = record { packets = packets; fault = None; next = Some next }

covered-on : (s : Section) (i first q items next : ℕ) (packets : List Packet) (go : ℕ → Result ChunkAt Fault) → items ≤ i - first → 0 < items → covered s i first q items (ending packets next) go ≡ go next
unfolding ending
covered-on s i first q items next packets go few some =
    let past : nat_lt (i - first) items ≡ false = le-ltb (i - first) items few in
    let have : (items == 0) ≡ false = ne_eqb items 0 (λ none. absurd (omega arith)) in
    rw (past, have) refl

goes-on : (i first items next : ℕ) (packets : List Packet) → items ≤ i - first → 0 < items → goes_on i first items (ending packets next) ≡ true
unfolding ending
goes-on i first items next packets few some =
    let past : nat_lt (i - first) items ≡ false = le-ltb (i - first) items few in
    let have : (items == 0) ≡ false = ne_eqb items 0 (λ none. absurd (omega arith)) in
    rw (past, have) refl

-- the search goes on from the next chunk
cover-on : (file : List ℕ) (s : Section) (fixed : Fixed) (i first q items next : ℕ) (packets : List Packet) → stretch file s q ≡ ending packets next → float_items (Some fixed) packets ≡ items → items ≤ i - first → 0 < items
    → cover_from file s fixed i first q ≡ cover_from file s fixed i (first + items) next
unfolding ending
cover-on file s fixed i first q items next packets ends known few some =
    cover_from-step file s fixed i first q
    ∙ ap (λ (w : Stretch). covered s i first q (float_items (Some fixed) w.packets) w (λ next. cover_from file s fixed i (first + float_items (Some fixed) w.packets) next)) ends
    ∙ ap (λ (n : ℕ). covered s i first q n (ending packets next) (λ next. cover_from file s fixed i (first + n) next)) known
    ∙ covered-on s i first q items next packets (λ next. cover_from file s fixed i (first + items) next) few some

-- more fuel allows as many pages
cover-wider : (file : List ℕ) (s : Section) (fixed : Fixed) (f : ℕ) (kind : ItemKind) (i p fuel other first q : ℕ) → fuel ≤ other → OnCover file s fixed f kind i p fuel first q → OnCover file s fixed f kind i p other first q
unfolding OnCover
cover-wider file s fixed f kind i p zero zero first q wider met = met
cover-wider file s fixed f kind i p zero (suc other) first q wider met = inl met
cover-wider file s fixed f kind i p (suc fuel) zero first q wider met = absurd (omega arith)
cover-wider file s fixed f kind i p (suc fuel) (suc other) first q wider met =
    ⊎_elim
    (λ here. inl here)
    (λ on. inr (on.0, cover-wider file s fixed f kind i p fuel other (first + float_items (Some fixed) (stretch file s q).packets) (or_zero (stretch file s q).next) (omega arith) on.1))
    met

-- a page of the walks from the next chunk on
cover-next : (file : List ℕ) (s : Section) (fixed : Fixed) (f : ℕ) (kind : ItemKind) (i p fuel first q items next : ℕ) (packets : List Packet) → stretch file s q ≡ ending packets next → float_items (Some fixed) packets ≡ items → items ≤ i - first → 0 < items
    → OnCover file s fixed f kind i p fuel (first + items) next → OnCover file s fixed f kind i p (suc fuel) first q
unfolding OnCover ending
cover-next file s fixed f kind i p fuel first q items next packets ends known few some met =
    let on : (goes_on i first (float_items (Some fixed) packets) (ending packets next) ≡ true) × OnCover file s fixed f kind i p fuel (first + float_items (Some fixed) packets) next =
    rw known (goes-on i first items next packets few some, met) in
    inr (subst (λ (w : Stretch). (goes_on i first (float_items (Some fixed) w.packets) w ≡ true) × OnCover file s fixed f kind i p fuel (first + float_items (Some fixed) w.packets) (or_zero w.next)) (sym ends) on)

-- the count after the first data packet of another chunk
pub stands-anew : (file : List ℕ) (s : Section) (fixed : Fixed) (r : Reached) (n bytes : ℕ) → StandsIn file s fixed r → r.taken + 4 ≤ s.end → packet_fault file s r.taken ≡ None → (packet_at (logical file) r.taken).is_data ≡ true
    → restart_at (logical file) r.taken ≡ true → r.has_data ≡ true → 0 < items fixed r → n ≡ (packet_at (logical file) r.taken).length → bytes ≡ length (get_or (packet_at (logical file) r.taken).streams fixed.field [])
    → StandsIn file s fixed (anew fixed r n bytes)
unfolding ending
stands-anew file s fixed r n bytes stands there sound is restart has some size streams =
    let p = packet_at (logical file) r.taken in
    let known = counted-items file s fixed r stands in
    let come = ltb-true 0 (length (data_packets stands.packets)) (sym stands.has_data ∙ has) in
    let ends = stretch-next file s r.place stands.packets r.taken stands.front stands.one_chunk come there sound restart in
    let after = next-after file s r.place r.taken (ap (λ (w : Stretch). w.next) ends) in
    let first : data_packets (p ∷ []) ≡ p ∷ [] = data-yes p [] is ∙ ap (λ (l : List Packet). p ∷ l) data-none in
    record {
      packets = p ∷ [];
      front = front-on file s r.taken [] r.taken n (front-none file s r.taken) there sound size;
      one_chunk = rw first (first-one p);
      has_data = rw first refl;
      counted = rw (first, stream-one fixed.field p) streams;
      chunk = λ i low. stands.chunk i (omega arith) ∙ cover-on file s fixed i r.first r.place (items fixed r) r.taken (data_packets stands.packets) ends known (omega arith) some;
      way = λ i p f kind low met.
          let fuel : s.end - r.place ≡ suc (s.end - r.place - 1) = omega (arith, after, there) in
          stands.way i p f kind (omega arith)
          (subst (λ (m : ℕ). OnCover file s fixed f kind i p m r.first r.place) (sym fuel)
          (cover-next file s fixed f kind i p (s.end - r.place - 1) r.first r.place (items fixed r) r.taken (data_packets stands.packets) ends known (omega arith) some
          (cover-wider file s fixed f kind i p (s.end - r.taken) (s.end - r.place - 1) (r.first + items fixed r) r.taken (omega (arith, after, there)) met)));
    }

-- ---- the pages of the packet that comes

walk-cover : (file : List ℕ) (s : Section) (fixed : Fixed) (f : ℕ) (kind : ItemKind) (i p fuel first q : ℕ) → OnWalk file s (lacks_record fixed f kind i first) q p → OnCover file s fixed f kind i p fuel first q
unfolding OnCover
walk-cover file s fixed f kind i p zero first q met = met
walk-cover file s fixed f kind i p (suc fuel) first q met = inl met

too-few : (fixed : Fixed) (f : ℕ) (kind : ItemKind) (i first : ℕ) (packets : List Packet) → float_items (Some fixed) (data_packets packets) ≤ i - first → lacks_record fixed f kind i first packets ≡ true
unfolding lacks_record
too-few fixed f kind i first packets few = rw (le-leb (float_items (Some fixed) (data_packets packets)) (i - first) few) (or-true (lacks_item f kind i first packets))

-- The packet that comes may be asked for where record i isn't among those that were counted.
pub packet-way : (file : List ℕ) (s : Section) (fixed : Fixed) (r : Reached) (i p : ℕ) → StandsIn file s fixed r → r.taken + 4 ≤ s.end → IsBeyond fixed r i → InSpan r.taken (needed_at file s r.taken) p → OnWay file s fixed i p
packet-way file s fixed r i p stands there beyond within f kind =
    let known = counted-items file s fixed r stands in
    stands.way i p f kind beyond.0
    (walk-cover file s fixed f kind i p (s.end - r.place) r.first r.place (record {
      before = stands.packets;
      q = r.taken;
      walked = front-walked file s r.place stands.packets r.taken stands.front stands.one_chunk;
      there = there;
      wanting = too-few fixed f kind i r.first stands.packets (rw known beyond.1);
      within = within;
    }))
