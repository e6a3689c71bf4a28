-- What reading or skipping one string does.
use Rattle.std.specs.Prelude.{◌≡◌, ℕ, ◌+◌, ◌<◌, ◌≤◌, List, [], length, take}
use Rattle.e57_base.specs.Source.{SourceView}
use Rattle.e57_layout.specs.Strings.{string_limit, string_found, first_string}
use Rattle.e57_stream.specs.declared.bytestream.Bytestream.{Bytestream}
use Rattle.e57_stream.specs.declared.chunk.Chunk.{Chunk}
use Rattle.e57_texts.specs.Pieces.{IsCut, TakesPiece, HasPrefix}
use Rattle.e57_texts.specs.declared.strings.Next.{Next}
use Rattle.e57_texts.specs.declared.strings.Next.TheVariants.{Read, Needs}

-- the state with the next record after this one
unfoldable pub one_on : Chunk → Chunk
one_on chunk = record chunk { at = chunk.at + 1 }

-- The next string was taken, its prefix and its bytes.
pub record TakesText (old : SourceView) (b : Bytestream) (before : Chunk) (text : List ℕ) (after : Chunk) (new : SourceView) : Type 0 where
  pub bytes : List ℕ
  pub limit : length text ≤ string_limit
  pub found : first_string bytes ≡ string_found text []
  pub mid : Chunk
  pub takes : TakesPiece old b before IsCut bytes mid new
  pub next : after ≡ one_on mid

-- the same, whatever the string is
pub record SkipsText (old : SourceView) (b : Bytestream) (before after : Chunk) (new : SourceView) : Type 0 where
  pub text : List ℕ
  pub takes : TakesText old b before text after new

-- The window has the prefix of the next string, whose n bytes are more than there are places.
pub record NeedsMore (old : SourceView) (b : Bytestream) (before : Chunk) (n : ℕ) (out out' : List ℕ) (after : Chunk) (new : SourceView) : Type 0 where
  pub more : length out < n
  pub same : out' ≡ out
  pub size : ℕ
  pub has : HasPrefix old b before n size after new

-- what came of the next string
abbrev pub ReadsNext : SourceView → Bytestream → Chunk → Next → List ℕ → List ℕ → Chunk → SourceView → Type 0
ReadsNext old b before (Read n) out out' after new = (n ≤ length out) × TakesText old b before (take n out') after new
ReadsNext old b before (Needs n) out out' after new = NeedsMore old b before n out out' after new
