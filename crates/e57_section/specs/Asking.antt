-- The pages that a thing of a section asks for: those of the bytes that it needs.
use Rattle.std.specs.Prelude.{◌≡◌, ℕ, ◌/◌, ◌⊎◌, true, List, ◌++◌}
use Rattle.e57_base.specs.Source.{SourceView}
use Rattle.e57_page.specs.Place.{span_end, RisesWithin}
use Rattle.e57_page.specs.Kept.{is_kept, AreUnkept, KeepsTo}
use Rattle.e57_page.specs.Pages.{AsksFor, AsksUnkept}
use Rattle.e57_cloud.specs.Met.{InSpan}

-- Of the pages of the n logical bytes from place q on those that weren't kept were asked for, or the first of these, in
-- ascending order, each once, and no other.
abbrev pub AsksSpan : List ℕ → ℕ → ℕ → SourceView → SourceView → Type 0
AsksSpan kept q n old new = AsksUnkept kept (q / 1020) (span_end q n) old new

-- The pages of these bytes were read, and the last 144 of them are kept.
abbrev pub KeepsSpan : List ℕ → ℕ → ℕ → List ℕ → Type 0
KeepsSpan old q n new = KeepsTo old (q / 1020) (span_end q n) (span_end q n) new

-- Of these pages some may be kept now, and else only what was kept before.
abbrev pub KeepsOnly : List ℕ → ℕ → ℕ → List ℕ → Type 0
KeepsOnly old q n new = (k : ℕ) → is_kept new k ≡ true → (is_kept old k ≡ true) ⊎ InSpan q n k

-- The packet of n bytes at place q: of the pages of its first four bytes those were asked for that weren't kept, and then
-- some of the pages behind them, all in ascending order and each at most once.
pub record AsksPacket (kept : List ℕ) (q n : ℕ) (old new : SourceView) : Type 0 where
  pub head : List ℕ
  pub body : List ℕ
  pub head_rises : RisesWithin (q / 1020) (span_end q 4) head
  pub head_unkept : AreUnkept kept head
  pub body_rises : RisesWithin (span_end q 4) (span_end q n) body
  pub asks : AsksFor old (head ++ body) new
