-- Bytes of the window, and a packet where it has no more.
use Rattle.std.proofs.Common.{◌≡◌, ℕ, ◌+◌, ◌-◌, ◌<◌, ◌≤◌, List, [], ◌∷◌, ◌++◌, length, take, drop, refl, sym, subst, ap, ◌∙◌, arith, append_assoc, length-append}
use Rattle.std.specs.Prelude.{min}
use Rattle.std.proofs.lemmas.List.{append-nil, length-take, length-drop, take_all, drop_all, take_at}
use Rattle.e57_base.specs.Source.{SourceView}
use Rattle.e57_stream.specs.declared.bytestream.Bytestream.{Bytestream}
use Rattle.e57_stream.specs.declared.chunk.Chunk.{Chunk}
use Rattle.e57_stream.specs.Taking.{TakesPacket}
use Rattle.e57_texts.specs.Pieces.{IsFewer, TakesPiece, SkipsPiece}
use Rattle.e57_texts.proofs.Pieces.{takes_none, takes_moved, takes_packet}
use borrow.Rule.Slice.PartMut.{put_mid}

no_bytes : (xs : List ℕ) → length xs ≡ 0 → xs ≡ []
no_bytes [] e = refl
no_bytes (x ∷ xs) e = absurd (omega (arith, e))

-- ---- bytes that are read

-- The first `done` places are filled, and the window has no more bytes where others are left.
pub record Reads (old : SourceView) (b : Bytestream) (before : Chunk) (want : ℕ) (out : List ℕ) (done : ℕ) (after : Chunk) (new : SourceView) : Type 0 where
  pub takes : TakesPiece old b before (IsFewer want) (take done out) after new
  pub size : length out ≡ want
  pub few : done ≤ want
  pub empty : done < want → after.window ≡ []

-- the bytes that are there end before the piece does
pub lacks_more : (out window : List ℕ) (want done : ℕ) → done < want → window ≡ [] → IsFewer want (take done out ++ window)
lacks_more out window want done below none = rw (none, append-nil, length-take) (omega (arith, below))

emptied : (window rest : List ℕ) (places count : ℕ) → count ≡ min places (length window) → count < places → rest ≡ drop count window → rest ≡ []
emptied window rest places count is below rest_is = rest_is ∙ drop_all count window (omega (arith, is, below))

-- a chunk whose window had these bytes moved to the front of `out`
pub reads_first : (source : SourceView) (b : Bytestream) (chunk : Chunk) (old out window : List ℕ) (count : ℕ) → chunk.taken ≤ b.section.end → count ≡ min (length old) (length chunk.window) → out ≡ take count chunk.window ++ drop count old → window ≡ drop count chunk.window
    → Reads source b chunk (length old) out count (record chunk { window = window }) source
reads_first source b chunk old out window count within count_is out_is window_is =
    let front : length (take count chunk.window) ≡ count = length-take count chunk.window ∙ omega (arith, count_is) in
    let rest = length-drop count old in
    let filled : take count out ≡ take count chunk.window = ap (take count) out_is ∙ take_at (take count chunk.window) (drop count old) count front in
    record {
      takes = subst (λ (xs : List ℕ). TakesPiece source b chunk (IsFewer (length old)) xs (record chunk { window = window }) source) (sym filled)
          (takes_moved source source b chunk chunk (IsFewer (length old)) [] count window window_is (takes_none source b chunk (IsFewer (length old)) within));
      size = ap (λ (xs : List ℕ). length xs) out_is ∙ length-append (take count chunk.window) (drop count old) ∙ omega (arith, front, rest, count_is);
      few = omega (arith, count_is);
      empty = λ below. emptied chunk.window window (length old) count count_is below window_is;
    }

-- what a list is whose last part was changed
pub part_rest : (out part : List ℕ) (done : ℕ) → put_mid done (length out - done) out part ≡ take done out ++ part
part_rest out part done =
    let left = length-drop done out in
    ap (λ (xs : List ℕ). take done out ++ (part ++ xs)) (drop_all (length out - done) (drop done out) (omega (arith, left))) ∙ ap (λ (xs : List ℕ). take done out ++ xs) (append-nil part)

pub last_part : (out : List ℕ) (done : ℕ) → take (length out - done) (drop done out) ≡ drop done out
last_part out done = let left = length-drop done out in take_all (length out - done) (drop done out) (omega (arith, left))

-- a packet, and then bytes of its window
pub reads_more : (s0 s1 s2 : SourceView) (b : Bytestream) (c0 c1 c2 : Chunk) (want : ℕ) (out out' rest part window : List ℕ) (done count : ℕ) → rest ≡ drop done out → done < want → Reads s0 b c0 want out done c1 s1 → TakesPacket s1 b c1 c2 s2
    → count ≡ min (length rest) (length c2.window) → part ≡ take count c2.window ++ drop count rest → out' ≡ take done out ++ part → window ≡ drop count c2.window
    → Reads s0 b c0 want out' (done + count) (record c2 { window = window }) s2
reads_more s0 s1 s2 b c0 c1 c2 want out out' rest part window done count rest_is below f packet count_of part_of out_is window_is =
    let count_is : count ≡ min (length (drop done out)) (length c2.window) = subst (λ (xs : List ℕ). count ≡ min (length xs) (length c2.window)) rest_is count_of in
    let part_is : part ≡ take count c2.window ++ drop count (drop done out) = subst (λ (xs : List ℕ). part ≡ take count c2.window ++ drop count xs) rest_is part_of in
    let size = f.size in
    let left = length-drop done out in
    let front : length (take done out) ≡ done = length-take done out ∙ omega (arith, size, below) in
    let here : length (take count c2.window) ≡ count = length-take count c2.window ∙ omega (arith, count_is) in
    let behind = length-drop count (drop done out) in
    let all : out' ≡ (take done out ++ take count c2.window) ++ drop count (drop done out) =
    out_is ∙ ap (λ (xs : List ℕ). take done out ++ xs) part_is ∙ sym (append_assoc (take done out) (take count c2.window) (drop count (drop done out))) in
    let both : length (take done out ++ take count c2.window) ≡ done + count = length-append (take done out) (take count c2.window) ∙ omega (arith, front, here) in
    let filled : take (done + count) out' ≡ take done out ++ take count c2.window = ap (take (done + count)) all ∙ take_at (take done out ++ take count c2.window) (drop count (drop done out)) (done + count) both in
    record {
      takes = subst (λ (xs : List ℕ). TakesPiece s0 b c0 (IsFewer want) xs (record c2 { window = window }) s2) (sym filled)
          (takes_moved s0 s2 b c0 c2 (IsFewer want) (take done out) count window window_is
          (takes_packet s0 s1 s2 b c0 c1 c2 (IsFewer want) (take done out) (lacks_more out c1.window want done below (f.empty below)) f.takes packet));
      size = ap (λ (xs : List ℕ). length xs) all ∙ length-append (take done out ++ take count c2.window) (drop count (drop done out)) ∙ omega (arith, both, behind, left, size, count_is, below);
      few = omega (arith, count_is, left, size, below);
      empty = λ still. emptied c2.window window (length (drop done out)) count count_is (omega (arith, still, left, size)) window_is;
    }

-- all places are filled
pub reads_all : (s0 s1 : SourceView) (b : Bytestream) (c0 c1 : Chunk) (want : ℕ) (out : List ℕ) (done : ℕ) → length out ≤ done → Reads s0 b c0 want out done c1 s1 → TakesPiece s0 b c0 (IsFewer want) out c1 s1
reads_all s0 s1 b c0 c1 want out done all f = subst (λ (xs : List ℕ). TakesPiece s0 b c0 (IsFewer want) xs c1 s1) (take_all done out all) f.takes

-- ---- bytes that are skipped

-- All but the last `left` bytes of n are skipped, and the window has no more where some are left.
pub record Skips (old : SourceView) (b : Bytestream) (before : Chunk) (n left : ℕ) (after : Chunk) (new : SourceView) : Type 0 where
  pub bytes : List ℕ
  pub count : length bytes + left ≡ n
  pub takes : TakesPiece old b before (IsFewer n) bytes after new
  pub empty : 0 < left → after.window ≡ []

pub lacks_some : (bytes window : List ℕ) (n left : ℕ) → 0 < left → length bytes + left ≡ n → window ≡ [] → IsFewer n (bytes ++ window)
lacks_some bytes window n left some count none = rw (none, append-nil) (omega (arith, some, count))

pub skips_first : (source : SourceView) (b : Bytestream) (chunk : Chunk) (n left : ℕ) (window : List ℕ) → chunk.taken ≤ b.section.end → left ≡ n - length chunk.window → window ≡ drop n chunk.window → Skips source b chunk n left (record chunk { window = window }) source
skips_first source b chunk n left window within left_is window_is =
    let size = length-take n chunk.window in
    record {
      bytes = take n chunk.window;
      count = omega (arith, size, left_is);
      takes = takes_moved source source b chunk chunk (IsFewer n) [] n window window_is (takes_none source b chunk (IsFewer n) within);
      empty = λ some. window_is ∙ drop_all n chunk.window (omega (arith, left_is, some));
    }

pub skips_more : (s0 s1 s2 : SourceView) (b : Bytestream) (c0 c1 c2 : Chunk) (n left left' : ℕ) (window : List ℕ) → 0 < left → Skips s0 b c0 n left c1 s1 → TakesPacket s1 b c1 c2 s2 → left' ≡ left - length c2.window → window ≡ drop left c2.window
    → Skips s0 b c0 n left' (record c2 { window = window }) s2
skips_more s0 s1 s2 b c0 c1 c2 n left left' window some f packet left_is window_is =
    let size = length-take left c2.window in
    let count = f.count in
    record {
      bytes = f.bytes ++ take left c2.window;
      count = ap (λ (k : ℕ). k + left') (length-append f.bytes (take left c2.window)) ∙ omega (arith, size, left_is, count);
      takes = takes_moved s0 s2 b c0 c2 (IsFewer n) f.bytes left window window_is
          (takes_packet s0 s1 s2 b c0 c1 c2 (IsFewer n) f.bytes (lacks_some f.bytes c1.window n left some f.count (f.empty some)) f.takes packet);
      empty = λ more. window_is ∙ drop_all left c2.window (omega (arith, left_is, more));
    }

pub skips_all : (s0 s1 : SourceView) (b : Bytestream) (c0 c1 : Chunk) (n left : ℕ) → left ≡ 0 → Skips s0 b c0 n left c1 s1 → SkipsPiece s0 b c0 n c1 s1
skips_all s0 s1 b c0 c1 n left none f = let count = f.count in record { bytes = f.bytes; count = omega (arith, count, none); takes = f.takes }
