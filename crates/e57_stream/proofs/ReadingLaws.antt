-- Laws of reading items in a row: one call after another, one packet more, some items.
use Rattle.std.specs.Prelude.{◌≡◌, ℕ, ◌+◌, ◌-◌, ◌*◌, ◌/◌, ◌%◌, ◌<◌, ◌≤◌, min, List, ◌++◌, length, take, drop, Ok, Err, IfSome}
use Rattle.std.proofs.Common.{refl, sym, subst, ap, ◌∙◌, arith, ⊎_elim, append_assoc, length-append}
use Rattle.std.proofs.lemmas.Bool.{cases_lt}
use Rattle.std.proofs.lemmas.List.{take-append-drop, length-take}
use Rattle.e57_base.proofs.CountLaws.{rose_before}
use Rattle.e57_base.specs.Fault.{fault}
use Rattle.e57_base.specs.Source.{SourceView}
use Rattle.e57_base.proofs.Told.{told_map, told_both, told_here, told_all}
use Rattle.e57_base.specs.declared.fault.Fault.{Fault}
use Rattle.e57_base.specs.declared.fault.ReadFault.{ReadFault}
use Rattle.e57_base.specs.declared.fault.ReadFault.TheVariants.{Refused, Source}
use Rattle.e57_base.specs.declared.kind.Kind.TheVariants.{ValueRange, StreamShort}
use Rattle.e57_layout.specs.Values.{ItemKind, integers, words, strings, Value, word, Outcome, here, short, out_of_range, kind_width}
use Rattle.e57_layout.specs.Widths.{width}
use Rattle.e57_layout.specs.Items.{item_at, above}
use Rattle.e57_layout.proofs.Laws.Items.{bits_at-short, item_at-integers, item_at-words}
use Rattle.e57_layout.proofs.Laws.Found.{Stays, item_at-stays}
use Rattle.e57_cloud.specs.Met.{lacks_item}
use Rattle.e57_cloud.specs.PathItem.{stretch, ended_by, or_short, item_in}
use Rattle.e57_cloud.proofs.Laws.Fronts.{front-walked}
use Rattle.e57_stream.specs.declared.bytestream.Bytestream.{Bytestream}
use Rattle.e57_stream.specs.declared.chunk.Chunk.{Chunk}
use Rattle.e57_stream.specs.Asking.{AsksMet}
use Rattle.e57_stream.proofs.AskingLaws.{asks_met_none, asks_met_on, asks_met_map, asks_near_none, asks_near_nothing, asks_near_on}
use Rattle.e57_stream.specs.Standing.{whole_bytes, let_gone, moved_on, IsWithin, HasTaken, Reaches, Stands}
use Rattle.e57_stream.proofs.StandingLaws.{taken_first}
use Rattle.e57_stream.specs.Taking.{InNext, TakesPacket, Finishes, IsFinishCause, TakesNone}
use Rattle.e57_stream.specs.Reading.{chunk_item, IsMet, IsOf, StaysIn, ReadsItems, IsItemCause, StopsAt}

-- ---- one call after another

same_item : (file : List ℕ) (b : Bytestream) (kind : ItemKind) (before after : Chunk) (i : ℕ) → StaysIn b kind before after → chunk_item file b kind after i ≡ chunk_item file b kind before i
same_item file b kind before after i stays = rw (stays.start, stays.until, stays.entry) refl

-- what is met for records of a row is met for more of them
met_more : (file : List ℕ) (b : Bytestream) (kind : ItemKind) (chunk : Chunk) (a n m p : ℕ) → n ≤ m → IsMet file b kind chunk a n p → IsMet file b kind chunk a m p
met_more file b kind chunk a n m p most met = let below = met.before in record { i = met.i; after = met.after; before = omega (arith, below, most); way = met.way }

met_same : (file : List ℕ) (b : Bytestream) (kind : ItemKind) (first second : Chunk) (a n m q p : ℕ) → StaysIn b kind first second → m + q ≤ n → IsMet file b kind second (a + m) q p → IsMet file b kind first a n p
met_same file b kind first second a n m q p stays most met =
    let low = met.after in
    let high = met.before in
    record { i = met.i; after = omega (arith, low); before = omega (arith, high, most); way = rw (stays.start, stays.entry) at met.way }

stays_on : (b : Bytestream) (kind : ItemKind) (first second third : Chunk) → StaysIn b kind first second → StaysIn b kind second third → StaysIn b kind first third
stays_on b kind first second third f g =
    let on = f.onward in
    let too = g.onward in
    record { start = g.start ∙ f.start; until = g.until ∙ f.until; entry = g.entry ∙ f.entry; onward = omega (arith, on, too); within = g.within }

-- pages that a second call asked for are met in the sense of the first
met_on : (old mid new : SourceView) (b : Bytestream) (kind : ItemKind) (first second : Chunk) (n m q : ℕ) → StaysIn b kind first second → second.at ≡ first.at + m → m + q ≤ n → mid.held ≡ old.held
    → IfSome old.held (λ file. IsOf file b kind first → IsOf file b kind second) → AsksMet (λ file p. IsOf file b kind second → IsMet file b kind second second.at q p) mid new
    → AsksMet (λ file p. IsOf file b kind first → IsMet file b kind first first.at n p) mid new
met_on old mid new b kind first second n m q stays at most same stands met =
    asks_met_map (λ file p. IsOf file b kind second → IsMet file b kind second second.at q p) (λ file p. IsOf file b kind first → IsMet file b kind first first.at n p) mid new
    (told_map (λ file. IsOf file b kind first → IsOf file b kind second) (λ file. (p : ℕ) → (IsOf file b kind second → IsMet file b kind second second.at q p) → IsOf file b kind first → IsMet file b kind first first.at n p) mid.held
    (λ file on p is_met is. met_same file b kind first second first.at n m q p stays most (subst (λ (a : ℕ). IsMet file b kind second a q p) at (is_met (on is))))
    (told_here (λ file. IsOf file b kind first → IsOf file b kind second) old.held mid.held same stands))
    met

items_on : (file : List ℕ) (b : Bytestream) (kind : ItemKind) (first second : Chunk) (n m : ℕ) (front back read : ℕ → Value) → StaysIn b kind first second → second.at ≡ first.at + n
    → ((j : ℕ) → j < n → front j ≡ read j) → ((j : ℕ) → j < m → back j ≡ read (n + j))
    → ((j : ℕ) → j < n → chunk_item file b kind first (first.at + j) ≡ Ok (front j)) → ((j : ℕ) → j < m → chunk_item file b kind second (second.at + j) ≡ Ok (back j))
    → (j : ℕ) → j < n + m → chunk_item file b kind first (first.at + j) ≡ Ok (read j)
items_on file b kind first second n m front back read stays at same same_too f g j below =
    ⊎_elim
    (λ (early : j < n). f j early ∙ ap Ok (same j early))
    (λ (late : n ≤ j).
    let k : ℕ = j - n in
    let number : n + (j - n) ≡ j = omega arith in
    let there : j - n < m = omega arith in
    let place : second.at + (j - n) ≡ first.at + j = omega (arith, at) in
    sym (same_item file b kind first second (first.at + j) stays) ∙ ap (chunk_item file b kind second) (sym place) ∙ g (j - n) there ∙ ap Ok (same_too (j - n) there) ∙ ap (λ (i : ℕ). Ok (read i)) number)
    (cases_lt j n)

-- some items, and then some more
pub reads_on : (old mid new : SourceView) (b : Bytestream) (kind : ItemKind) (first second third : Chunk) (want n m : ℕ) (front back read : ℕ → Value) → ((j : ℕ) → j < n → front j ≡ read j) → ((j : ℕ) → j < m → back j ≡ read (n + j))
    → ReadsItems old b kind first want n front second mid → ReadsItems mid b kind second (want - n) m back third new → ReadsItems old b kind first want (n + m) read third new
reads_on old mid new b kind first second third want n m front back read same same_too f g =
    let count = f.count in
    let count_too = g.count in
    let held = f.near.asks.same.held in
    let at = f.at in
    let at_too = g.at in
    record {
      count = omega (arith, count, count_too);
      stays = stays_on b kind first second third f.stays g.stays;
      at = omega (arith, at, at_too);
      near = asks_near_on first.taken second.taken third.taken old mid new f.stays.onward g.stays.onward f.near g.near;
      met = asks_met_on (λ file p. IsOf file b kind first → IsMet file b kind first first.at (min (n + m + 1) want) p) old mid new
          (asks_met_map (λ file p. IsOf file b kind first → IsMet file b kind first first.at (min (n + 1) want) p) (λ file p. IsOf file b kind first → IsMet file b kind first first.at (min (n + m + 1) want) p) old mid
          (told_all (λ file. (p : ℕ) → (IsOf file b kind first → IsMet file b kind first first.at (min (n + 1) want) p) → IsOf file b kind first → IsMet file b kind first first.at (min (n + m + 1) want) p) old.held
          (λ file p is_met is. met_more file b kind first first.at (min (n + 1) want) (min (n + m + 1) want) p (omega arith) (is_met is)))
          f.met)
          (met_on old mid new b kind first second (min (n + m + 1) want) n (min (m + 1) (want - n)) f.stays at (omega (arith, count)) held f.stands g.met);
      items = told_both (λ file. (IsOf file b kind first → (j : ℕ) → j < n → chunk_item file b kind first (first.at + j) ≡ Ok (front j)) × (IsOf file b kind first → IsOf file b kind second))
          (λ file. IsOf file b kind second → (j : ℕ) → j < m → chunk_item file b kind second (second.at + j) ≡ Ok (back j))
          (λ file. IsOf file b kind first → (j : ℕ) → j < n + m → chunk_item file b kind first (first.at + j) ≡ Ok (read j)) old.held
          (λ file one two is. items_on file b kind first second n m front back read f.stays at same same_too (one.0 is) (two (one.1 is)))
          (told_both (λ file. IsOf file b kind first → (j : ℕ) → j < n → chunk_item file b kind first (first.at + j) ≡ Ok (front j)) (λ file. IsOf file b kind first → IsOf file b kind second)
          (λ file. (IsOf file b kind first → (j : ℕ) → j < n → chunk_item file b kind first (first.at + j) ≡ Ok (front j)) × (IsOf file b kind first → IsOf file b kind second)) old.held (λ file x y. (x, y)) f.items f.stands)
          (told_here (λ file. IsOf file b kind second → (j : ℕ) → j < m → chunk_item file b kind second (second.at + j) ≡ Ok (back j)) mid.held old.held (sym held) g.items);
      stands = told_both (λ file. IsOf file b kind first → IsOf file b kind second) (λ file. IsOf file b kind second → IsOf file b kind third) (λ file. IsOf file b kind first → IsOf file b kind third) old.held
          (λ file x y is. y (x is)) f.stands (told_here (λ file. IsOf file b kind second → IsOf file b kind third) mid.held old.held (sym held) g.stands);
    }

cause_on : (old mid new : SourceView) (b : Bytestream) (kind : ItemKind) (first second : Chunk) (i k : ℕ) (found : ReadFault) → StaysIn b kind first second → i ≡ k → mid.held ≡ old.held → old.faults ≤ mid.faults
    → IfSome old.held (λ file. IsOf file b kind first → IsOf file b kind second) → IsItemCause mid b kind second i found new → IsItemCause old b kind first k found new
cause_on old mid new b kind first second i k (Refused found) stays at held faults stands cause = (
  cause.0,
  told_both (λ file. IsOf file b kind first → IsOf file b kind second) (λ file. IsOf file b kind second → chunk_item file b kind second i ≡ Err found) (λ file. IsOf file b kind first → chunk_item file b kind first k ≡ Err found) old.held
      (λ file on wrong is. ap (chunk_item file b kind first) (sym at) ∙ sym (same_item file b kind first second i stays) ∙ wrong (on is)) stands
      (told_here (λ file. IsOf file b kind second → chunk_item file b kind second i ≡ Err found) mid.held old.held (sym held) cause.1),
)
cause_on old mid new b kind first second i k Source stays at held faults stands cause = rose_before old.faults mid.faults new.faults faults cause

-- some items, and then a stop
pub stops_on : (old mid new : SourceView) (b : Bytestream) (kind : ItemKind) (first second third : Chunk) (want n m : ℕ) (found : ReadFault) (front back read : ℕ → Value) → ((j : ℕ) → j < n → front j ≡ read j) → ((j : ℕ) → j < m → back j ≡ read (n + j))
    → ReadsItems old b kind first want n front second mid → StopsAt mid b kind second (want - n) m found back third new → StopsAt old b kind first want (n + m) found read third new
stops_on old mid new b kind first second third want n m found front back read same same_too f g =
    let count = f.count in
    let below = g.below in
    let held = f.near.asks.same.held in
    let at = f.at in
    record {
      below = omega (arith, below);
      stays = stays_on b kind first second third f.stays g.stays;
      near = asks_near_on first.taken second.taken b.section.end old mid new f.stays.onward f.stays.within.taken_within f.near g.near;
      met = asks_met_on (λ file p. IsOf file b kind first → IsMet file b kind first first.at (n + m + 1) p) old mid new
          (asks_met_map (λ file p. IsOf file b kind first → IsMet file b kind first first.at (min (n + 1) want) p) (λ file p. IsOf file b kind first → IsMet file b kind first first.at (n + m + 1) p) old mid
          (told_all (λ file. (p : ℕ) → (IsOf file b kind first → IsMet file b kind first first.at (min (n + 1) want) p) → IsOf file b kind first → IsMet file b kind first first.at (n + m + 1) p) old.held
          (λ file p is_met is. met_more file b kind first first.at (min (n + 1) want) (n + m + 1) p (omega arith) (is_met is)))
          f.met)
          (met_on old mid new b kind first second (n + m + 1) n (m + 1) f.stays at (omega arith) held f.stands g.met);
      items = told_both (λ file. (IsOf file b kind first → (j : ℕ) → j < n → chunk_item file b kind first (first.at + j) ≡ Ok (front j)) × (IsOf file b kind first → IsOf file b kind second))
          (λ file. IsOf file b kind second → (j : ℕ) → j < m → chunk_item file b kind second (second.at + j) ≡ Ok (back j))
          (λ file. IsOf file b kind first → (j : ℕ) → j < n + m → chunk_item file b kind first (first.at + j) ≡ Ok (read j)) old.held
          (λ file one two is. items_on file b kind first second n m front back read f.stays at same same_too (one.0 is) (two (one.1 is)))
          (told_both (λ file. IsOf file b kind first → (j : ℕ) → j < n → chunk_item file b kind first (first.at + j) ≡ Ok (front j)) (λ file. IsOf file b kind first → IsOf file b kind second)
          (λ file. (IsOf file b kind first → (j : ℕ) → j < n → chunk_item file b kind first (first.at + j) ≡ Ok (front j)) × (IsOf file b kind first → IsOf file b kind second)) old.held (λ file x y. (x, y)) f.items f.stands)
          (told_here (λ file. IsOf file b kind second → (j : ℕ) → j < m → chunk_item file b kind second (second.at + j) ≡ Ok (back j)) mid.held old.held (sym held) g.items);
      stands = told_both (λ file. IsOf file b kind first → IsOf file b kind second) (λ file. IsOf file b kind second → IsOf file b kind third) (λ file. IsOf file b kind first → IsOf file b kind third) old.held
          (λ file x y is. y (x is)) f.stands (told_here (λ file. IsOf file b kind second → IsOf file b kind third) mid.held old.held (sym held) g.stands);
      cause = cause_on old mid new b kind first second (second.at + m) (first.at + (n + m)) found f.stays (omega (arith, at)) held f.near.asks.faults f.stands g.cause;
    }

-- nothing yet
pub reads_nothing : (source : SourceView) (b : Bytestream) (kind : ItemKind) (chunk : Chunk) (want : ℕ) (read : ℕ → Value) → IsWithin b.section (kind_width kind) chunk → ReadsItems source b kind chunk want 0 read chunk source
reads_nothing source b kind chunk want read within = record {
  count = omega arith;
  stays = record { start = refl; until = refl; entry = refl; onward = omega arith; within = within };
  at = omega arith;
  near = asks_near_none chunk.taken source;
  met = asks_met_none (λ file p. IsOf file b kind chunk → IsMet file b kind chunk chunk.at (min (0 + 1) want) p) source;
  items = told_all (λ file. IsOf file b kind chunk → (j : ℕ) → j < 0 → chunk_item file b kind chunk (chunk.at + j) ≡ Ok (read j)) source.held (λ file is j below. absurd (omega arith));
  stands = told_all (λ file. IsOf file b kind chunk → IsOf file b kind chunk) source.held (λ file is. is);
}

-- ---- items that are found in what was taken

-- an item that is found in the bytes that were taken is the chunk's
pub chunk_here : (file : List ℕ) (b : Bytestream) (kind : ItemKind) (chunk : Chunk) (bytes : List ℕ) (i : ℕ) (v : Value) → HasTaken file b chunk.entry chunk.taken chunk.fresh bytes → item_at kind bytes (i - chunk.start) ≡ here v → chunk_item file b kind chunk i ≡ Ok v
unfolding item_in
chunk_here file b kind chunk bytes i v has is =
    let (more, all) = taken_first file b chunk.entry chunk.taken chunk.fresh bytes has in
    let later : item_at kind (bytes ++ more) (i - chunk.start) ≡ here v = subst (λ (o : Outcome). Stays o (item_at kind (bytes ++ more) (i - chunk.start))) is (item_at-stays kind bytes more (i - chunk.start)) in
    rw (all, later) refl

-- and so is one that is out of range
pub chunk_out : (file : List ℕ) (b : Bytestream) (kind : ItemKind) (chunk : Chunk) (bytes : List ℕ) (i : ℕ) → chunk.start ≤ i → HasTaken file b chunk.entry chunk.taken chunk.fresh bytes → item_at kind bytes (i - chunk.start) ≡ out_of_range (i - chunk.start) → chunk_item file b kind chunk i ≡ Err (fault ValueRange i b.node)
unfolding item_in
chunk_out file b kind chunk bytes i low has is =
    let (more, all) = taken_first file b chunk.entry chunk.taken chunk.fresh bytes has in
    let later : item_at kind (bytes ++ more) (i - chunk.start) ≡ out_of_range (i - chunk.start) = subst (λ (o : Outcome). Stays o (item_at kind (bytes ++ more) (i - chunk.start))) is (item_at-stays kind bytes more (i - chunk.start)) in
    let number : chunk.start + (i - chunk.start) ≡ i = omega arith in
    rw (all, later) (ap (λ (n : ℕ). Err (fault ValueRange n b.node)) number)

-- where the chunk's stream is too short for an item, this is what is answered
pub chunk_short : (file : List ℕ) (b : Bytestream) (kind : ItemKind) (chunk : Chunk) (bytes : List ℕ) (found : Fault) → chunk.start ≤ chunk.at → Finishes file b chunk.entry chunk.at bytes found → item_at kind bytes (chunk.at - chunk.start) ≡ short (chunk.at - chunk.start) → chunk_item file b kind chunk chunk.at ≡ Err found
unfolding item_in
chunk_short file b kind chunk bytes found low finishes is =
    let number : chunk.start + (chunk.at - chunk.start) ≡ chunk.at = omega arith in
    rw (finishes.stream, is) (ap (λ (n : ℕ). or_short (ended_by b.section b.fixed (stretch file b.section chunk.entry)) (fault StreamShort n b.node)) number ∙ finishes.cause)

-- ---- items of fixed width

-- items that are numbers of one or more bits
abbrev pub AreNumbers : ItemKind → Type 0
AreNumbers (integers low high) = 0 < width low high
AreNumbers (words w) = 0 < w
AreNumbers strings = ⊥

-- a stream that ends before all bits of an item
pub number_short : (kind : ItemKind) (stream : List ℕ) (k : ℕ) → AreNumbers kind → 8 * length stream < kind_width kind * k + kind_width kind → item_at kind stream k ≡ short k
number_short (integers low high) stream k some cut = item_at-integers low high stream k some ∙ bits_at-short (width low high) (above low high k) stream k cut
number_short (words w) stream k some cut = item_at-words w stream k ∙ bits_at-short w (λ n. here (word n)) stream k cut
number_short strings stream k some cut = absurd some

-- the window ends before the next item does
abbrev pub Lacks : ItemKind → Chunk → Type 0
Lacks kind chunk = 8 * length chunk.window < chunk.bit + kind_width kind

lacks_next : (file : List ℕ) (b : Bytestream) (kind : ItemKind) (chunk : Chunk) (is : IsOf file b kind chunk) → AreNumbers kind → Lacks kind chunk → item_at kind (is.front ++ chunk.window) (chunk.at - chunk.start) ≡ short (chunk.at - chunk.start)
lacks_next file b kind chunk is numbers lacks =
    let begins = is.begins in
    number_short kind (is.front ++ chunk.window) (chunk.at - chunk.start) numbers (rw length-append (omega (arith, begins, lacks)))

-- ---- whole bytes are let go

unfoldable pub stands_gone : (file : List ℕ) (b : Bytestream) (w : ℕ) (chunk : Chunk) → Stands file b w chunk → Stands file b w (let_gone chunk)
unfolding let_gone
stands_gone file b w chunk is =
    let n : ℕ = whole_bytes chunk in
    let few : whole_bytes chunk ≤ length chunk.window = omega arith in
    let size : length (take (whole_bytes chunk) chunk.window) ≡ whole_bytes chunk = length-take (whole_bytes chunk) chunk.window ∙ omega arith in
    let begins = is.begins in
    let same : is.front ++ chunk.window ≡ (is.front ++ take (whole_bytes chunk) chunk.window) ++ drop (whole_bytes chunk) chunk.window = ap (λ (xs : List ℕ). is.front ++ xs) (sym (take-append-drop (whole_bytes chunk) chunk.window)) ∙ sym (append_assoc is.front (take (whole_bytes chunk) chunk.window) (drop (whole_bytes chunk) chunk.window)) in
    record {
      front = is.front ++ take (whole_bytes chunk) chunk.window;
      reaches = subst (λ (xs : List ℕ). HasTaken file b chunk.entry chunk.taken chunk.fresh xs) same is.reaches;
      begins = rw length-append (omega (arith, size, begins));
    }

-- the bytes that were taken are the same
gone_bytes : (file : List ℕ) (b : Bytestream) (w : ℕ) (chunk : Chunk) (is : Stands file b w chunk) → (stands_gone file b w chunk is).front ++ (let_gone chunk).window ≡ is.front ++ chunk.window
unfolding let_gone stands_gone
gone_bytes file b w chunk is = append_assoc is.front (take (whole_bytes chunk) chunk.window) (drop (whole_bytes chunk) chunk.window) ∙ ap (λ (xs : List ℕ). is.front ++ xs) (take-append-drop (whole_bytes chunk) chunk.window)

-- ---- a packet more

next_met : (file : List ℕ) (b : Bytestream) (kind : ItemKind) (chunk : Chunk) (n p : ℕ) → 0 < n → AreNumbers kind → Lacks kind chunk → IsOf file b kind chunk → InNext b (let_gone chunk) file p → IsMet file b kind chunk chunk.at n p
unfolding let_gone lacks_item
next_met file b kind chunk n p some numbers lacks is next = record {
  i = chunk.at;
  after = omega arith;
  before = omega (arith, some);
  way = record {
    before = is.reaches.packets;
    q = chunk.taken;
    walked = front-walked file b.section chunk.entry is.reaches.packets chunk.taken is.reaches.leads is.reaches.one_chunk;
    there = next.0;
    wanting = rw (is.reaches.stream, lacks_next file b kind chunk is numbers lacks) refl;
    within = next.1;
  };
}

next_asked : (old new : SourceView) (b : Bytestream) (kind : ItemKind) (chunk : Chunk) (n : ℕ) → 0 < n → AreNumbers kind → Lacks kind chunk → AsksMet (InNext b (let_gone chunk)) old new → AsksMet (λ file p. IsOf file b kind chunk → IsMet file b kind chunk chunk.at n p) old new
next_asked old new b kind chunk n some numbers lacks met =
    asks_met_map (InNext b (let_gone chunk)) (λ file p. IsOf file b kind chunk → IsMet file b kind chunk chunk.at n p) old new
    (told_all (λ file. (p : ℕ) → InNext b (let_gone chunk) file p → IsOf file b kind chunk → IsMet file b kind chunk chunk.at n p) old.held (λ file p next is. next_met file b kind chunk n p some numbers lacks is next)) met

-- Where the window ends before the next item, a packet was taken, and no item.
pub reads_none : (old new : SourceView) (b : Bytestream) (kind : ItemKind) (before after : Chunk) (want : ℕ) (read : ℕ → Value) → AreNumbers kind → 0 < want → IsWithin b.section (kind_width kind) before → Lacks kind before
    → TakesPacket old b (let_gone before) after new → ReadsItems old b kind before want 0 read after new
unfolding let_gone
reads_none old new b kind before after want read numbers some within lacks takes =
    let there = takes.there in
    let at = takes.same.at in
    let start = takes.same.start in
    let until = takes.same.until in
    let bit = takes.same.bit in
    let low = within.low in
    let high = within.high in
    let most = within.most in
    let begins = within.begins in
    record {
      count = omega arith;
      stays = record {
        start = start;
        until = until;
        entry = takes.same.entry;
        onward = omega (arith, there);
        within = record { low = rw (at, start) low; high = rw (at, until) high; most = rw until most; taken_within = takes.within; begins = rw (at, start, bit) (omega (arith, begins)); whole = λ even. let byte = within.whole even in rw bit (omega (arith, byte)) };
      };
      at = omega (arith, at);
      near = takes.near;
      met = next_asked old new b kind before (min (0 + 1) want) (omega (arith, some)) numbers lacks takes.met;
      items = told_all (λ file. IsOf file b kind before → (j : ℕ) → j < 0 → chunk_item file b kind before (before.at + j) ≡ Ok (read j)) old.held (λ file is j below. absurd (omega arith));
      stands = told_map (λ file. (front : List ℕ) → Reaches file b (let_gone before) front → Reaches file b after front) (λ file. IsOf file b kind before → IsOf file b kind after) old.held
          (λ file reaches is. let gone = stands_gone file b (kind_width kind) before is in record { front = gone.front; reaches = reaches gone.front gone.reaches; begins = rw (at, start, bit) gone.begins }) takes.reaches;
    }

short_cause : (old new : SourceView) (b : Bytestream) (kind : ItemKind) (before : Chunk) (found : ReadFault) → before.start ≤ before.at → AreNumbers kind → Lacks kind before → IsFinishCause old b (let_gone before) found new → IsItemCause old b kind before (before.at + 0) found new
unfolding let_gone
short_cause old new b kind before (Refused found) low numbers lacks cause =
    let kinds = cause.0 in
    let none : before.at + 0 ≡ before.at = omega arith in (
      rw kinds refl,
      told_map (λ file. (front : List ℕ) → Reaches file b (let_gone before) front → Finishes file b before.entry before.at (front ++ (let_gone before).window) found) (λ file. IsOf file b kind before → chunk_item file b kind before (before.at + 0) ≡ Err found) old.held
          (λ file ends is.
          let gone = stands_gone file b (kind_width kind) before is in
          let whole = gone_bytes file b (kind_width kind) before is in
          let finishes = subst (λ (xs : List ℕ). Finishes file b before.entry before.at xs found) whole (ends gone.front gone.reaches) in
          ap (chunk_item file b kind before) none ∙ chunk_short file b kind before (is.front ++ before.window) found low finishes (lacks_next file b kind before is numbers lacks)) cause.1,
    )
short_cause old new b kind before Source low numbers lacks cause = cause

-- Where the window ends before the next item and no packet was taken, the read stops.
pub stops_short : (old new : SourceView) (b : Bytestream) (kind : ItemKind) (before after : Chunk) (want : ℕ) (found : ReadFault) (read : ℕ → Value) → AreNumbers kind → 0 < want → IsWithin b.section (kind_width kind) before → Lacks kind before
    → TakesNone old b (let_gone before) found after new → StopsAt old b kind before want 0 found read after new
unfolding let_gone
stops_short old new b kind before after want found read numbers some within lacks none =
    let low = within.low in
    let begins = within.begins in
    subst (λ (chunk : Chunk). StopsAt old b kind before want 0 found read chunk new) (sym none.same)
    (record {
      below = some;
      stays = record {
        start = refl;
        until = refl;
        entry = refl;
        onward = omega arith;
        within = record { low = low; high = within.high; most = within.most; taken_within = within.taken_within; begins = omega (arith, begins); whole = λ even. let byte = within.whole even in omega (arith, byte) };
      };
      near = none.near;
      met = next_asked old new b kind before 1 (omega arith) numbers lacks none.met;
      items = told_all (λ file. IsOf file b kind before → (j : ℕ) → j < 0 → chunk_item file b kind before (before.at + j) ≡ Ok (read j)) old.held (λ file is j below. absurd (omega arith));
      stands = told_all (λ file. IsOf file b kind before → IsOf file b kind (let_gone before)) old.held (λ file is. stands_gone file b (kind_width kind) before is);
      cause = short_cause old new b kind before found low numbers lacks none.cause;
    })

-- ---- items of the window

-- The next m items are in the window, whatever comes before it.
abbrev pub AreHere : ItemKind → Chunk → ℕ → (ℕ → Value) → Type 0
AreHere kind chunk m read = (front : List ℕ) → 8 * length front + chunk.bit ≡ kind_width kind * (chunk.at - chunk.start) → (j : ℕ) → j < m → item_at kind (front ++ chunk.window) (chunk.at - chunk.start + j) ≡ here (read j)

spread : (w a s m : ℕ) → s ≤ a → w * (a + m - s) ≡ w * (a - s) + w * m
spread w a s m low = let e : a + m - s ≡ a - s + m = omega arith in rw e (omega arith)

-- behind items of whole bytes a whole byte begins
whole_on : (w bit m : ℕ) → w % 8 ≡ 0 → bit % 8 ≡ 0 → (bit + w * m) % 8 ≡ 0
whole_on w bit m even byte =
    let parts : w ≡ 8 * (w / 8) = omega (arith, even) in
    let all : w * m ≡ 8 * (w / 8) * m = ap (λ (v : ℕ). v * m) parts in
    let same : 8 * (w / 8) * m ≡ 8 * (w / 8 * m) = grind arith in
    omega (arith, all, same, byte)

items_here : (file : List ℕ) (b : Bytestream) (kind : ItemKind) (before : Chunk) (m : ℕ) (read : ℕ → Value) → before.start ≤ before.at → AreHere kind before m read → IsOf file b kind before → (j : ℕ) → j < m → chunk_item file b kind before (before.at + j) ≡ Ok (read j)
items_here file b kind before m read low each is j below =
    let number : before.at + j - before.start ≡ before.at - before.start + j = omega arith in
    chunk_here file b kind before (is.front ++ before.window) (before.at + j) (read j) is.reaches (ap (item_at kind (is.front ++ before.window)) number ∙ each is.front is.begins j below)

-- Items of the window were read.
pub reads_taken : (source : SourceView) (b : Bytestream) (kind : ItemKind) (before : Chunk) (want m : ℕ) (read : ℕ → Value) → m ≤ want → before.at + m ≤ before.until → IsWithin b.section (kind_width kind) before → AreHere kind before m read
    → ReadsItems source b kind before want m read (moved_on (kind_width kind) m before) source
unfolding moved_on
reads_taken source b kind before want m read few room within each =
    let low = within.low in
    let begins = within.begins in
    let more = spread (kind_width kind) before.at before.start m low in
    record {
      count = few;
      stays = record {
        start = refl;
        until = refl;
        entry = refl;
        onward = omega arith;
        within = record { low = omega (arith, low); high = room; most = within.most; taken_within = within.taken_within; begins = omega (arith, begins, more); whole = λ even. whole_on (kind_width kind) before.bit m even (within.whole even) };
      };
      at = refl;
      near = asks_near_none before.taken source;
      met = asks_met_none (λ file p. IsOf file b kind before → IsMet file b kind before before.at (min (m + 1) want) p) source;
      items = told_all (λ file. IsOf file b kind before → (j : ℕ) → j < m → chunk_item file b kind before (before.at + j) ≡ Ok (read j)) source.held (λ file is j below. items_here file b kind before m read low each is j below);
      stands = told_all (λ file. IsOf file b kind before → IsOf file b kind (moved_on (kind_width kind) m before)) source.held
          (λ file is. let at = is.begins in record { front = is.front; reaches = is.reaches; begins = omega (arith, at, more) });
    }

-- The item behind k items of the window is out of range.
pub stops_out : (source : SourceView) (b : Bytestream) (kind : ItemKind) (before : Chunk) (want k : ℕ) (found : ReadFault) (read : ℕ → Value) → k < want → IsWithin b.section (kind_width kind) before → AreHere kind before k read
    → ((front : List ℕ) → 8 * length front + before.bit ≡ kind_width kind * (before.at - before.start) → item_at kind (front ++ before.window) (before.at - before.start + k) ≡ out_of_range (before.at - before.start + k))
    → found ≡ Refused (fault ValueRange (before.at + k) b.node) → StopsAt source b kind before want k found read before source
stops_out source b kind before want k found read below within each out is =
    let low = within.low in
    let number : before.at + k - before.start ≡ before.at - before.start + k = omega arith in
    rw is
    (record {
      below = below;
      stays = record { start = refl; until = refl; entry = refl; onward = omega arith; within = within };
      near = asks_near_nothing before.taken b.section.end source;
      met = asks_met_none (λ file p. IsOf file b kind before → IsMet file b kind before before.at (k + 1) p) source;
      items = told_all (λ file. IsOf file b kind before → (j : ℕ) → j < k → chunk_item file b kind before (before.at + j) ≡ Ok (read j)) source.held (λ file of j near. items_here file b kind before k read low each of j near);
      stands = told_all (λ file. IsOf file b kind before → IsOf file b kind before) source.held (λ file of. of);
      cause = (
        refl,
        told_all (λ file. IsOf file b kind before → chunk_item file b kind before (before.at + k) ≡ Err (fault ValueRange (before.at + k) b.node)) source.held
            (λ file of. chunk_out file b kind before (of.front ++ before.window) (before.at + k) (omega (arith, low)) of.reaches (rw number (out of.front of.begins))),
      );
    })
