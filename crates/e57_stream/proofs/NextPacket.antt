-- A step of reading numbers: a packet where the window has no item.
use Rattle.std.proofs.Common.{◌≡◌, ℕ, ◌+◌, ◌-◌, ◌<◌, ◌≤◌, length, refl, sym, subst, ap, ◌∙◌, arith, ⊎_elim}
use Rattle.e57_base.specs.Source.{SourceView}
use Rattle.e57_base.specs.declared.fault.ReadFault.{ReadFault}
use Rattle.e57_layout.specs.Values.{ItemKind, Value, kind_width}
use Rattle.e57_stream.specs.declared.bytestream.Bytestream.{Bytestream}
use Rattle.e57_stream.specs.declared.chunk.Chunk.{Chunk}
use Rattle.e57_stream.specs.Standing.{IsWithin, IsOnward, let_gone, wanted}
use Rattle.e57_stream.specs.Taking.{TakesPacket, TakesNone}
use Rattle.e57_stream.specs.Reading.{ReadsItems, StopsAt}
use Rattle.e57_stream.proofs.ReadingLaws.{AreNumbers, reads_none, stops_short}
use Rattle.e57_stream.proofs.WindowItems.{HasNone}

later : (source source' : SourceView) (b : Bytestream) (before after : Chunk) → TakesPacket source b (let_gone before) after source' → before.taken < after.taken
unfolding let_gone
later source source' b before after taken = let there = taken.there in omega (arith, there)

gone_taken : (chunk : Chunk) → (let_gone chunk).taken ≡ chunk.taken
unfolding let_gone
gone_taken chunk = refl

-- what taking a packet asks for
pub record MayTake (end : ℕ) (gone : Chunk) : Type 0 where
  pub within : gone.taken ≤ end
  pub left : length gone.window ≤ 16

pub may_take : (end w : ℕ) (before mid gone : Chunk) → before.taken ≤ end → HasNone w before mid → gone ≡ let_gone mid → MayTake end gone
may_take end w before mid gone within none gone_is =
    let same : gone.taken ≡ before.taken = ap (λ (c : Chunk). c.taken) gone_is ∙ gone_taken mid ∙ ap (λ (c : Chunk). c.taken) none.same in
    record { within = omega (arith, same, within); left = subst (λ (c : Chunk). length c.window ≤ 16) (sym gone_is) none.left }

-- then a packet was taken
pub packet_read : (source source' : SourceView) (b : Bytestream) (kind : ItemKind) (before mid gone after : Chunk) (places : ℕ) (read : ℕ → Value) → AreNumbers kind → IsWithin b.section (kind_width kind) before → 0 < places → HasNone (kind_width kind) before mid → gone ≡ let_gone mid
    → TakesPacket source b gone after source' → ReadsItems source b kind before places 0 read after source' × (before.taken < after.taken)
packet_read source source' b kind before mid gone after places read numbers within some none gone_is packet =
    let taken : TakesPacket source b (let_gone before) after source' = subst (λ (chunk : Chunk). TakesPacket source b chunk after source') (gone_is ∙ ap let_gone none.same) packet in
    (reads_none source source' b kind before after places read numbers some within none.lacks taken, later source source' b before after taken)

-- or none was
pub packet_stopped : (source source' : SourceView) (b : Bytestream) (kind : ItemKind) (before mid gone after : Chunk) (places : ℕ) (found : ReadFault) (read : ℕ → Value) → AreNumbers kind → IsWithin b.section (kind_width kind) before → 0 < places → HasNone (kind_width kind) before mid → gone ≡ let_gone mid
    → TakesNone source b gone found after source' → StopsAt source b kind before places 0 found read after source'
packet_stopped source source' b kind before mid gone after places found read numbers within some none gone_is packet =
    let taken : TakesNone source b (let_gone before) found after source' = subst (λ (chunk : Chunk). TakesNone source b chunk found after source') (gone_is ∙ ap let_gone none.same) packet in
    stops_short source source' b kind before after places found read numbers some within none.lacks taken

-- ---- a loop of steps

-- what a step asks for
pub record MayStep (b : Bytestream) (w : ℕ) (chunk : Chunk) (places : ℕ) : Type 0 where
  pub within : IsWithin b.section w chunk
  pub left : chunk.at + places ≤ chunk.until

pub may_step_on : (s0 s1 : SourceView) (b : Bytestream) (kind : ItemKind) (first second : Chunk) (want n places : ℕ) (read : ℕ → Value) → first.at ≤ first.until → n ≤ want → want ≡ wanted first places → ReadsItems s0 b kind first want n read second s1 → MayStep b (kind_width kind) second (want - n)
may_step_on s0 s1 b kind first second want n places read low few want_is f =
    let at = f.at in
    let until = f.stays.until in
    record { within = f.stays.within; left = omega (arith, at, until, few, want_is, low) }

-- a step goes on: what is left of the section and of the records is less
pub step_less : (s0 s1 : SourceView) (b : Bytestream) (kind : ItemKind) (before after : Chunk) (left n : ℕ) (read : ℕ → Value) → ReadsItems s0 b kind before left n read after s1 → IsOnward before after → (want done : ℕ) → left ≡ want - done → done < want → (b.section.end - after.taken) + (want - (done + n)) < (b.section.end - before.taken) + (want - done)
step_less s0 s1 b kind before after left n read f onward want done left_is below =
    let at = f.at in
    let on = f.stays.onward in
    let count = f.count in
    let within = f.stays.within.taken_within in
    ⊎_elim
    (λ (items : before.at < after.at). omega (arith, at, on, count, within, items, left_is, below))
    (λ (packet : before.taken < after.taken). omega (arith, on, count, within, packet, left_is, below))
    onward
