-- Skipping in a chunk of numbers.
use Rattle.std.specs.Prelude.{◌≡◌, ℕ, ◌+◌, ◌-◌, ◌*◌, ◌/◌, ◌%◌, ◌<◌, ◌≤◌, ℤ, List, Result, Ok, Err, MatchResult}
use Rattle.std.proofs.Common.{refl, arith}
use Rattle.std.proofs.lemmas.Nat.{mul-le}
use Rattle.e57_base.specs.Source.{SourceView}
use Rattle.e57_base.proofs.Told.{told_map, told_all}
use Rattle.e57_base.specs.declared.fault.ReadFault.{ReadFault}
use Rattle.e57_base.specs.declared.fault.ReadFault.TheVariants.{Refused, Source}
use Rattle.e57_layout.specs.Values.{integers, words, strings}
use Rattle.e57_layout.specs.Widths.{width}
use Rattle.e57_layout.specs.declared.section.Section.{Section}
use Rattle.e57_section.specs.Opening.{most_records}
use Rattle.e57_stream.proofs.AskingLaws.{asks_met_none, asks_met_map, asks_near_none}
use Rattle.e57_stream.specs.Asking.{AsksMet}
use Rattle.e57_stream.specs.Standing.{IsWithin, Stands}
use Rattle.e57_stream.specs.declared.bytestream.Bytestream.{Bytestream}
use Rattle.e57_stream.specs.declared.chunk.Chunk.{Chunk}
use Rattle.e57_texts.specs.Standing.{StandsText}
use Rattle.e57_texts.specs.Reading.{chunk_length, OnWay, IsTextCause, IsLengthCause, SkipsStrings, StopsSkipping}
use Rattle.e57_column.specs.Column.{IsRead, IsReadOf}
use Rattle.e57_column.specs.Going.{moved_to, OnSkip, Skips, IsSkipCause, IsSkipLength, SkipsNot}
use Rattle.e57_column.proofs.Finders.{text_kind}

-- the bits up to a later record
pub bits-on : (w start at i : ℕ) → start ≤ at → at ≤ i → w * (at - start) + w * (i - at) ≡ w * (i - start)
bits-on w start at i low high = let e : at - start + (i - at) ≡ i - start = omega (arith, low, high) in rw (← e) (omega arith)

pub bits-few : (w start at i : ℕ) → w ≤ 64 → start ≤ at → at ≤ i → i ≤ most_records → w * (at - start) + w * (i - at) ≤ 64 * most_records
bits-few w start at i narrow low high few =
    let sum = bits-on w start at i low high in
    let most : w * (i - start) ≤ 64 * most_records = mul-le w (i - start) 64 most_records narrow (omega (arith, few)) in
    omega (arith, sum, most)

pub times-few : (w at i : ℕ) → w ≤ 64 → i ≤ most_records → w * (i - at) ≤ 64 * most_records
times-few w at i narrow few = mul-le w (i - at) 64 most_records narrow (omega (arith, few))

whole-on : (w bit k : ℕ) → (w % 8 ≡ 0 → bit % 8 ≡ 0) → w % 8 ≡ 0 → (bit + w * k) % 8 ≡ 0
whole-on w bit k whole is = let one = whole is in let w_is : w ≡ 8 * (w / 8) = omega (arith, is) in rw w_is (omega (arith, one))

pub within-moved : (s : Section) (w i : ℕ) (chunk : Chunk) → chunk.at ≤ i → i ≤ chunk.until → IsWithin s w chunk → IsWithin s w (moved_to w i chunk)
within-moved s w i chunk low high is =
    let first = is.low in
    let begins = is.begins in
    let sum = bits-on w chunk.start chunk.at i first low in
    record { low = omega (arith, first, low); high = high; most = is.most; taken_within = is.taken_within; begins = omega (arith, begins, sum); whole = whole-on w chunk.bit (i - chunk.at) is.whole }

pub stands-moved : (file : List ℕ) (b : Bytestream) (w i : ℕ) (chunk : Chunk) → chunk.start ≤ chunk.at → chunk.at ≤ i → Stands file b w chunk → Stands file b w (moved_to w i chunk)
stands-moved file b w i chunk low high is =
    let begins = is.begins in
    let sum = bits-on w chunk.start chunk.at i low high in
    record { front = is.front; reaches = is.reaches; begins = omega (arith, begins, sum) }

pub skips-integers : (source : SourceView) (b : Bytestream) (low high : ℤ) (w i : ℕ) (chunk : Chunk) → w ≡ width low high → chunk.at ≤ i → i < chunk.until → IsRead b.section (integers low high) chunk → Skips source b (integers low high) chunk i source (moved_to w i chunk)
skips-integers source b low high w i chunk is from below read = rw is (record {
  start = refl;
  until = refl;
  entry = refl;
  at = refl;
  onward = omega arith;
  read = within-moved b.section (width low high) i chunk from (omega (arith, below)) read;
  near = asks_near_none chunk.taken source;
  met = asks_met_none (OnSkip b (integers low high) chunk i) source;
  stands = told_all (λ file. IsReadOf file b (integers low high) chunk → IsReadOf file b (integers low high) (moved_to (width low high) i chunk)) source.held (λ file of. stands-moved file b (width low high) i chunk read.low from of);
})

pub skips-words : (source : SourceView) (b : Bytestream) (w i : ℕ) (chunk : Chunk) → chunk.at ≤ i → i < chunk.until → IsRead b.section (words w) chunk → Skips source b (words w) chunk i source (moved_to w i chunk)
skips-words source b w i chunk from below read = record {
  start = refl;
  until = refl;
  entry = refl;
  at = refl;
  onward = omega arith;
  read = within-moved b.section w i chunk from (omega (arith, below)) read;
  near = asks_near_none chunk.taken source;
  met = asks_met_none (OnSkip b (words w) chunk i) source;
  stands = told_all (λ file. IsReadOf file b (words w) chunk → IsReadOf file b (words w) (moved_to w i chunk)) source.held (λ file of. stands-moved file b w i chunk read.low from of);
}

-- ---- strings

skip-way : (source new : SourceView) (b : Bytestream) (i : ℕ) (chunk : Chunk) → AsksMet (λ file p. StandsText file b chunk → OnWay file b chunk i p) source new → AsksMet (OnSkip b strings chunk i) source new
skip-way source new b i chunk met =
    asks_met_map (λ file p. StandsText file b chunk → OnWay file b chunk i p) (OnSkip b strings chunk i) source new
    (told_all (λ file. (p : ℕ) → (StandsText file b chunk → OnWay file b chunk i p) → OnSkip b strings chunk i file p) source.held
    (λ file p way stands. record { i = i; after = omega arith; before = omega arith; way = way stands })) met

skip-strings-cause : (source new : SourceView) (b : Bytestream) (i : ℕ) (chunk : Chunk) (found : ReadFault) → IsTextCause source b chunk i found new → IsSkipCause source b strings chunk i found new
skip-strings-cause source new b i chunk (Refused found) cause = (text_kind found.kind cause.0, cause.1)
skip-strings-cause source new b i chunk Source cause = cause

skip-strings-length : (source : SourceView) (b : Bytestream) (i : ℕ) (chunk : Chunk) (found : ReadFault) → IsLengthCause source b chunk i found → IsSkipLength source b strings chunk i found
skip-strings-length source b i chunk (Refused found) cause =
    told_map (λ file. StandsText file b chunk → chunk_length file b chunk i ≡ Err found) (λ file. IsReadOf file b strings chunk → strings ≡ strings → chunk_length file b chunk i ≡ Err found) source.held (λ file wrong stands same. wrong stands) cause
skip-strings-length source b i chunk Source cause = tt

-- what skipping strings answers
pub skips-strings : (source new : SourceView) (b : Bytestream) (i : ℕ) (chunk after : Chunk) (result : Result Unit ReadFault)
    → MatchResult result (λ _. SkipsStrings source b chunk i after new) (λ found. StopsSkipping source b chunk i found after new)
    → MatchResult result (λ _. Skips source b strings chunk i new after) (λ found. SkipsNot source b strings chunk i found new)
skips-strings source new b i chunk after (Ok done) s = record {
  start = s.stays.start;
  until = s.stays.until;
  entry = s.stays.entry;
  at = s.at;
  onward = s.stays.onward;
  read = s.stays.within;
  near = s.near;
  met = skip-way source new b i chunk s.met;
  stands = s.stands;
}
skips-strings source new b i chunk after (Err found) s = record { met = skip-way source new b i chunk s.met; cause = skip-strings-cause source new b i chunk found s.cause; length = skip-strings-length source b i chunk found s.length }
