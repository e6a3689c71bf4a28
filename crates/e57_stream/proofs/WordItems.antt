-- Raw words that a window has.
use Rattle.std.proofs.Common.{◌≡◌, ℕ, ◌+◌, ◌-◌, ◌*◌, ◌/◌, ◌%◌, ◌<◌, ◌≤◌, List, ◌++◌, length, take, drop, refl, sym, subst, ap, ◌∙◌, arith, inl}
use Rattle.std.specs.Prelude.{min, slice_index}
use Rattle.std.proofs.lemmas.List.{length-take-le, get_or_append_left, take_rest}
use Rattle.e57_base.specs.Source.{SourceView}
use Rattle.e57_bits.specs.Bits.{number}
use Rattle.e57_layout.specs.Values.{words, word, here}
use Rattle.e57_layout.proofs.Laws.Items.{bits_at-found, item_at-words}
use Rattle.e57_stream.specs.declared.bytestream.Bytestream.{Bytestream}
use Rattle.e57_stream.specs.declared.chunk.Chunk.{Chunk}
use Rattle.e57_stream.specs.Standing.{IsWithin, IsOnward, items_held, moved_on}
use Rattle.e57_stream.specs.Reading.{ReadsItems}
use Rattle.e57_stream.proofs.ReadingLaws.{AreHere, reads_taken}
use Rattle.e57_stream.specs.Words.{word_at, ReadsWords, TakesWords}
use Rattle.e57_stream.proofs.WindowItems.{number_behind, bits_behind, moved_none, moved_at, HasNone, none_taken}
use Rattle.e57_stream.proofs.Parts.{behind_front, length_front}

-- the words that were unpacked from the window are those of the stream
are_words : (w : ℕ) (before : Chunk) (old : List ℕ) (n : ℕ) (after : Chunk) (new : List ℕ) → 0 < w → before.bit % 8 ≡ 0 → TakesWords w before old n after new → AreHere (words w) before n (word_at new)
are_words w before old n after new some byte takes front begins j below =
    let count = takes.count in
    let k : ℕ = before.at - before.start in
    let place : w * j ≡ before.bit % 8 + j * w = (let turned : w * j ≡ j * w = grind arith in omega (arith, turned, byte)) in
    let is : number (front ++ before.window) (w * (before.at - before.start + j)) w ≡ slice_index new j =
    number_behind front before.window w before.bit (before.at - before.start) j begins ∙ ap (λ (t : ℕ). number (drop (before.bit / 8) before.window) t w) (sym place) ∙ sym (takes.items j below) in
    item_at-words w (front ++ before.window) (before.at - before.start + j)
    ∙ bits_at-found w (λ m. here (word m)) (front ++ before.window) (before.at - before.start + j) (bits_behind front before.window w before.bit (before.at - before.start) j some begins (omega (arith, below, count)))
    ∙ ap (λ (m : ℕ). here (word m)) is

-- words of the window were read
pub reads_words : (source : SourceView) (b : Bytestream) (w : ℕ) (before : Chunk) (old new : List ℕ) (n : ℕ) (after : Chunk) → 0 < w → w % 8 ≡ 0 → IsWithin b.section w before → before.at + length old ≤ before.until → TakesWords w before old n after new → ReadsWords source b w before (length old) n old new after source
reads_words source b w before old new n after some even within room takes =
    let count = takes.count in
    record {
      fills = takes.fills;
      reads = subst (λ (chunk : Chunk). ReadsItems source b (words w) before (length old) n (word_at new) chunk source) (sym takes.moved)
          (reads_taken source b (words w) before (length old) n (word_at new) (omega (arith, count)) (omega (arith, count, room)) within (are_words w before old n after new some (within.whole even) takes));
    }

pub onward_words : (w : ℕ) (before : Chunk) (old : List ℕ) (n : ℕ) (after : Chunk) (new : List ℕ) → 0 < n → TakesWords w before old n after new → IsOnward before after
onward_words w before old n after new some takes = let at = moved_at w n before after takes.moved in inl (omega (arith, at, some))

pub no_words : (w : ℕ) (before : Chunk) (old : List ℕ) (n : ℕ) (after : Chunk) (new : List ℕ) → 0 < w → w ≤ 64 → 0 < length old → n ≤ 0 → TakesWords w before old n after new → HasNone w before after
no_words w before old n after new wide narrow some zero takes = none_taken w (length old) n before after wide narrow some zero takes.count takes.moved

-- ---- unpacking

-- no word was unpacked
pub words_none : (w n : ℕ) (chunk : Chunk) (out : List ℕ) → n ≡ 0 → 0 ≡ min (length out) (items_held w chunk) → TakesWords w chunk out 0 chunk out
words_none w n chunk out zero count = record {
  count = count;
  moved = sym (moved_none w chunk);
  items = λ j below. absurd (omega (arith, below));
  fills = record { rest = λ j past. refl; same_length = refl };
}

-- words were unpacked into the front of a buffer
pub words_front : (w n : ℕ) (chunk after : Chunk) (bytes out part : List ℕ) → n ≡ min (length out) (items_held w chunk) → after ≡ moved_on w n chunk → bytes ≡ chunk.window → length part ≡ length (take n out)
    → ((k : ℕ) → k < length (take n out) → slice_index part k ≡ number (take (length bytes - chunk.bit / 8) (drop (chunk.bit / 8) bytes)) (w * k) w) → TakesWords w chunk out n after (part ++ drop n out)
words_front w n chunk after bytes out part count moved same kept items =
    let room : n ≤ length out = omega (arith, count) in
    let places : length (take n out) ≡ n = length-take-le n out room in
    let size : length part ≡ n = kept ∙ places in
    record {
      count = count;
      moved = moved;
      items = λ j below. get_or_append_left part (drop n out) 0 j (omega (arith, size, below)) ∙ items j (omega (arith, places, below)) ∙ ap (λ (xs : List ℕ). number xs (w * j) w) (take_rest bytes (chunk.bit / 8) ∙ ap (drop (chunk.bit / 8)) same);
      fills = record {
        rest = λ j past. behind_front out part n j 0 size past;
        same_length = length_front out part n size room;
      };
    }
