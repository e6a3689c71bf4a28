-- Words of one chunk.
use Rattle.std.specs.Prelude.{◌≡◌, ℕ, ◌+◌, ◌-◌, ◌<◌, ◌≤◌, min, List, length, None}
use Rattle.std.proofs.Common.{refl, sym, subst, ap, ◌∙◌, arith}
use Rattle.e57_base.specs.Source.{SourceView}
use Rattle.e57_base.specs.declared.fault.ReadFault.{ReadFault}
use Rattle.e57_base.specs.declared.fault.ReadFault.TheVariants.{Refused, Source}
use Rattle.e57_layout.specs.Values.{ItemKind, words, word}
use Rattle.e57_cloud.specs.PathItem.{constant_of}
use Rattle.e57_stream.specs.Asking.{AsksMet}
use Rattle.e57_stream.specs.Reading.{IsMet, IsOf, IsItemCause}
use Rattle.e57_stream.specs.Standing.{wanted as wanted_here}
use Rattle.e57_stream.specs.Words.{FillsWords, word_at, ReadsWords, StopsWords}
use Rattle.e57_stream.specs.declared.bytestream.Bytestream.{Bytestream}
use Rattle.e57_stream.specs.declared.chunk.Chunk.{Chunk}
use Rattle.e57_column.specs.declared.state.Items.{Items}
use Rattle.e57_column.specs.declared.state.Place.TheVariants.{Nowhere}
use Rattle.e57_column.specs.declared.state.State.{State}
use Rattle.e57_column.specs.Column.{kind_of, IsColumn}
use Rattle.e57_column.specs.Reading.{KeepsRest, AreLimited, ReadsInto, StopsInto}
use Rattle.e57_column.specs.Going.{GoesTo}
use Rattle.e57_column.proofs.Finders.{item_kind}
use Rattle.e57_column.proofs.Chunks.{ReadsChunk, IsChunkCause, StopsChunk, reads_one, stops_one}

words-chunk : (old new : SourceView) (b : Bytestream) (w : ℕ) (before after : Chunk) (n : ℕ) (out out' : List ℕ) → ReadsWords old b w before n n out out' after new → ReadsChunk old b (words w) before n n (word_at out') after new
words-chunk old new b w before after n out out' r = record {
  start = r.reads.stays.start;
  until = r.reads.stays.until;
  entry = r.reads.stays.entry;
  onward = r.reads.stays.onward;
  at = r.reads.at;
  read_to = r.reads.stays.within;
  near = r.reads.near;
  met = let count : min (n + 1) n ≡ n = omega arith in subst (λ (m : ℕ). AsksMet (λ file p. IsOf file b (words w) before → IsMet file b (words w) before before.at m p) old new) count r.reads.met;
  items = r.reads.items;
  stands = r.reads.stands;
}

words-cause : (old new : SourceView) (b : Bytestream) (w : ℕ) (chunk : Chunk) (i : ℕ) (found : ReadFault) → IsItemCause old b (words w) chunk i found new → IsChunkCause old b (words w) chunk i found new
words-cause old new b w chunk i (Refused found) cause = (item_kind found.kind cause.0, cause.1)
words-cause old new b w chunk i Source cause = cause

words-stop : (old new : SourceView) (b : Bytestream) (w : ℕ) (before after : Chunk) (want wider done : ℕ) (found : ReadFault) (out out' : List ℕ) → want ≤ wider → StopsWords old b w before want done found out out' after new → StopsChunk old b (words w) before wider done found (word_at out') new
words-stop old new b w before after want wider done found out out' most s = let below = s.stops.below in record { below = omega (arith, below, most); met = s.stops.met; items = s.stops.items; cause = words-cause old new b w before (before.at + done) found s.stops.cause }

words-rest : (n : ℕ) (out out' : List ℕ) → FillsWords n out out' → KeepsRest 0 n out out'
words-rest n out out' fills = record { rest = fills.rest; same_length = fills.same_length }

no-limits : (kind : ItemKind) (w n : ℕ) (out : List ℕ) → kind ≡ words w → AreLimited 0 word kind n out
no-limits kind w n out is = subst (λ (k : ItemKind). AreLimited 0 word k n out) (sym is) (λ j below. tt)

-- what a step answers
pub record ReadsStep (old : SourceView) (before : State) (n : ℕ) (out out' : List ℕ) (new : SourceView) (after : State) : Type 0 where
  pub some : 0 < n
  pub few : n ≤ length out
  pub column : IsColumn after
  pub reads : ReadsInto 0 word old before n out out' new after

pub reads-words : (old mid new : SourceView) (before c : State) (items : Items) (w n : ℕ) (out out' : List ℕ) (chunk' : Chunk) → before.items ≡ items → kind_of items ≡ words w → 0 < length out → IsColumn c
    → GoesTo old before before.chunk.at mid c → n ≡ wanted_here c.chunk (length out) → ReadsWords mid c.stream w c.chunk (wanted_here c.chunk (length out)) n out out' chunk' new
    → ReadsStep old before n out out' new (record c { chunk = chunk' })
reads-words old mid new before c items w n out out' chunk' is kind room column goes count r =
    let at = goes.is_at in
    let high = goes.high in
    let here : kind_of before.items ≡ words w = ap kind_of is ∙ kind in
    let there : kind_of c.items ≡ words w = ap kind_of goes.same.items ∙ here in
    let whole_r = subst (λ (k : ℕ). ReadsWords mid c.stream w c.chunk k n out out' chunk' new) (sym count) r in
    let read = subst (λ (k : ItemKind). ReadsChunk mid c.stream k c.chunk n n (word_at out') chunk' new) (sym there) (words-chunk mid new c.stream w c.chunk chunk' n out out' whole_r) in
    let varies = subst (λ (k : ItemKind). constant_of k ≡ None) (sym here) refl in
    let one = reads_one old mid new before c n n chunk' (word_at out') varies (omega arith) (omega (arith, count, room, high, at)) (omega (arith, count, high, at)) column goes read in
    record {
      some = omega (arith, count, room, high, at);
      few = omega (arith, count);
      column = one.column;
      reads = record { rest = words-rest n out out' r.fills; within = no-limits (kind_of before.items) w n out' here; reads = one.reads };
    }

pub record StopsStep (old : SourceView) (before : State) (want done : ℕ) (found : ReadFault) (out out' : List ℕ) (new : SourceView) (after : State) : Type 0 where
  pub column : IsColumn after
  pub stops : StopsInto 0 word old before want done found out out' new after

pub stops-words : (old mid new : SourceView) (before c : State) (items : Items) (w done : ℕ) (found : ReadFault) (out out' : List ℕ) (chunk' : Chunk) → before.items ≡ items → kind_of items ≡ words w → IsColumn c
    → GoesTo old before before.chunk.at mid c → StopsWords mid c.stream w c.chunk (wanted_here c.chunk (length out)) done found out out' chunk' new
    → StopsStep old before (length out) done found out out' new (record c { place = Nowhere; chunk = chunk' })
stops-words old mid new before c items w done found out out' chunk' is kind column goes s =
    let at = goes.is_at in
    let high = goes.high in
    let below = s.stops.below in
    let here : kind_of before.items ≡ words w = ap kind_of is ∙ kind in
    let there : kind_of c.items ≡ words w = ap kind_of goes.same.items ∙ here in
    let stop = subst (λ (k : ItemKind). StopsChunk mid c.stream k c.chunk (length out) done found (word_at out') new) (sym there) (words-stop mid new c.stream w c.chunk chunk' (wanted_here c.chunk (length out)) (length out) done found out out' (omega arith) s) in
    let varies = subst (λ (k : ItemKind). constant_of k ≡ None) (sym here) refl in
    let one = stops_one old mid new before c (length out) done chunk' found (word_at out') varies (omega (arith, below, high, at)) column goes stop in
    record { column = one.column; stops = record { rest = words-rest done out out' s.fills; within = no-limits (kind_of before.items) w done out' here; stops = one.stops } }
