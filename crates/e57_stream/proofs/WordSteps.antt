-- Reading raw words step by step.
use Rattle.std.proofs.Common.{◌≡◌, ℕ, ◌+◌, ◌-◌, ◌<◌, ◌≤◌, List, length, take, drop, refl, sym, subst, ap, ◌∙◌, arith}
use Rattle.e57_base.specs.Source.{SourceView}
use Rattle.e57_base.specs.declared.fault.ReadFault.{ReadFault}
use Rattle.e57_base.specs.declared.fault.ReadFault.TheVariants.{Refused, Source}
use Rattle.e57_layout.specs.Values.{words, word}
use Rattle.e57_stream.specs.declared.bytestream.Bytestream.{Bytestream}
use Rattle.e57_stream.specs.declared.chunk.Chunk.{Chunk}
use Rattle.e57_stream.specs.Standing.{IsWithin, IsOnward, let_gone, wanted}
use Rattle.e57_stream.specs.Taking.{TakesPacket, IsFinishCause, TakesNone}
use Rattle.e57_stream.specs.Reading.{ReadsItems, StopsAt}
use Rattle.e57_stream.proofs.ReadingLaws.{reads_on, stops_on, reads_nothing}
use Rattle.e57_stream.specs.Words.{FillsWords, word_at, ReadsWords, IsWordFault, StopsWords, TakesWords}
use Rattle.e57_stream.proofs.WordItems.{no_words}
use Rattle.e57_stream.proofs.NextPacket.{packet_read, packet_stopped, MayStep, may_step_on, step_less}
use Rattle.e57_stream.proofs.Parts.{part_before, part_in, length-part, length_of_part, rest_on}
use borrow.Rule.Slice.PartMut.{put_mid}

-- where the window had none, nothing of the buffer was changed
fills_none : (w : ℕ) (before : Chunk) (old : List ℕ) (n : ℕ) (after : Chunk) (new : List ℕ) → n ≤ 0 → TakesWords w before old n after new → FillsWords 0 old new
fills_none w before old n after new zero takes = record { rest = λ j past. takes.fills.rest j (omega (arith, zero)); same_length = takes.fills.same_length }

-- then a packet was taken
pub reads_packet : (source source' : SourceView) (b : Bytestream) (w : ℕ) (before mid gone after : Chunk) (old new : List ℕ) (n : ℕ) → 0 < w → w ≤ 64 → IsWithin b.section w before → 0 < length old → n ≤ 0 → TakesWords w before old n mid new → gone ≡ let_gone mid
    → TakesPacket source b gone after source' → ReadsWords source b w before (length old) 0 old new after source' × (before.taken < after.taken)
reads_packet source source' b w before mid gone after old new n wide narrow within some zero takes gone_is packet =
    let none = no_words w before old n mid new wide narrow some zero takes in
    let read = packet_read source source' b (words w) before mid gone after (length old) (word_at new) wide within some none gone_is packet in
    (record { fills = fills_none w before old n mid new zero takes; reads = read.0 }, read.1)

word_fault : (source source' : SourceView) (b : Bytestream) (chunk : Chunk) (found : ReadFault) → IsFinishCause source b chunk found source' → IsWordFault found
word_fault source source' b chunk (Refused found) cause = cause.0
word_fault source source' b chunk Source cause = tt

-- or none was
pub stops_packet : (source source' : SourceView) (b : Bytestream) (w : ℕ) (before mid gone after : Chunk) (old new : List ℕ) (n : ℕ) (found : ReadFault) → 0 < w → w ≤ 64 → IsWithin b.section w before → 0 < length old → n ≤ 0 → TakesWords w before old n mid new → gone ≡ let_gone mid
    → TakesNone source b gone found after source' → StopsWords source b w before (length old) 0 found old new after source'
stops_packet source source' b w before mid gone after old new n found wide narrow within some zero takes gone_is packet =
    let none = no_words w before old n mid new wide narrow some zero takes in
    record {
      fills = fills_none w before old n mid new zero takes;
      stops = packet_stopped source source' b (words w) before mid gone after (length old) found (word_at new) wide within some none gone_is packet;
      word_fault = word_fault source source' b gone found packet.cause;
    }

-- ---- one step after another

fills_on : (want n m : ℕ) (out0 out1 part part' : List ℕ) → n ≤ want → want ≤ length out1 → part ≡ take (want - n) (drop n out1) → FillsWords n out0 out1 → FillsWords m part part' → FillsWords (n + m) out0 (put_mid n (want - n) out1 part')
fills_on want n m out0 out1 part part' few room is f g =
    let size : length part' ≡ want - n = g.same_length ∙ length_of_part out1 part want n few room is in
    record {
      rest = λ j past. rest_on want n m j out0 out1 part part' 0 few room is g.same_length f.rest g.rest past;
      same_length = length-part out1 part' n (want - n) (omega (arith, few, room)) size ∙ f.same_length;
    }

-- some words, and then some more into a part of the buffer
pub reads_words_on : (s0 s1 s2 : SourceView) (b : Bytestream) (w : ℕ) (first second third : Chunk) (want n m : ℕ) (out0 out1 part part' : List ℕ) → n ≤ want → want ≤ length out1 → part ≡ take (want - n) (drop n out1)
    → ReadsWords s0 b w first want n out0 out1 second s1 → ReadsWords s1 b w second (length part) m part part' third s2 → ReadsWords s0 b w first want (n + m) out0 (put_mid n (want - n) out1 part') third s2
reads_words_on s0 s1 s2 b w first second third want n m out0 out1 part part' few room is f g =
    let begin : n ≤ length out1 = omega (arith, few, room) in
    let size = length_of_part out1 part want n few room is in
    let count = g.reads.count in
    let size_too : length part' ≡ want - n = g.fills.same_length ∙ size in
    record {
      fills = fills_on want n m out0 out1 part part' few room is f.fills g.fills;
      reads = reads_on s0 s1 s2 b (words w) first second third want n m (word_at out1) (word_at part') (word_at (put_mid n (want - n) out1 part'))
          (λ j early. ap word (sym (part_before out1 part' n (want - n) j 0 begin early)))
          (λ j there. ap word (sym (part_in out1 part' n (want - n) j 0 begin (omega (arith, there, count, size, size_too)))))
          f.reads (subst (λ (k : ℕ). ReadsItems s1 b (words w) second k m (word_at part') third s2) size g.reads);
    }

pub stops_words_on : (s0 s1 s2 : SourceView) (b : Bytestream) (w : ℕ) (first second third : Chunk) (want n : ℕ) (found : ReadFault) (out0 out1 part part' : List ℕ) → n ≤ want → want ≤ length out1 → part ≡ take (want - n) (drop n out1)
    → ReadsWords s0 b w first want n out0 out1 second s1 → StopsWords s1 b w second (length part) 0 found part part' third s2 → StopsWords s0 b w first want n found out0 (put_mid n (want - n) out1 part') third s2
stops_words_on s0 s1 s2 b w first second third want n found out0 out1 part part' few room is f g =
    let begin : n ≤ length out1 = omega (arith, few, room) in
    let size = length_of_part out1 part want n few room is in
    let zero : n + 0 ≡ n = omega arith in
    subst (λ (done : ℕ). StopsWords s0 b w first want done found out0 (put_mid n (want - n) out1 part') third s2) zero
    (record {
      fills = fills_on want n 0 out0 out1 part part' few room is f.fills g.fills;
      stops = stops_on s0 s1 s2 b (words w) first second third want n 0 found (word_at out1) (word_at part') (word_at (put_mid n (want - n) out1 part'))
          (λ j early. ap word (sym (part_before out1 part' n (want - n) j 0 begin early)))
          (λ j there. absurd (omega (arith, there)))
          f.reads (subst (λ (k : ℕ). StopsAt s1 b (words w) second k 0 found (word_at part') third s2) size g.stops);
      word_fault = g.word_fault;
    })

-- nothing was read yet
pub reads_words_none : (source : SourceView) (b : Bytestream) (w : ℕ) (chunk : Chunk) (want : ℕ) (out : List ℕ) → IsWithin b.section w chunk → ReadsWords source b w chunk want 0 out out chunk source
reads_words_none source b w chunk want out within = record {
  fills = record { rest = λ j past. refl; same_length = refl };
  reads = reads_nothing source b (words w) chunk want (word_at out) within;
}

-- what a step asks for
pub may_step : (s0 s1 : SourceView) (b : Bytestream) (w : ℕ) (first second : Chunk) (want n : ℕ) (out0 out1 : List ℕ) → first.at ≤ first.until → n ≤ want → want ≡ wanted first (length out0) → ReadsWords s0 b w first want n out0 out1 second s1 → MayStep b w second (want - n)
may_step s0 s1 b w first second want n out0 out1 low few want_is f = may_step_on s0 s1 b (words w) first second want n (length out0) (word_at out1) low few want_is f.reads

-- a step goes on
pub step_smaller : (s0 s1 : SourceView) (b : Bytestream) (w : ℕ) (before after : Chunk) (left n : ℕ) (out new : List ℕ) → ReadsWords s0 b w before left n out new after s1 → IsOnward before after → (want done : ℕ) → left ≡ want - done → done < want → (b.section.end - after.taken) + (want - (done + n)) < (b.section.end - before.taken) + (want - done)
step_smaller s0 s1 b w before after left n out new f onward want done left_is below = step_less s0 s1 b (words w) before after left n (word_at new) f.reads onward want done left_is below
