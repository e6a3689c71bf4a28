-- Pages that are asked for span by span.
use Rattle.std.specs.Prelude.{◌≡◌, ℕ, ◌+◌, ◌/◌, ◌≤◌, List, [], ◌∷◌, ◌++◌, length, Option, Some, IfSome}
use Rattle.std.specs.List.{AllByRecursion}
use Rattle.std.proofs.Common.{refl, sym, ap, ◌∙◌, arith}
use Rattle.std.proofs.lemmas.List.{append_assoc, append-nil}
use Rattle.std.proofs.lemmas.Bool.{le-leb}
use Rattle.e57_base.specs.Source.{SourceView}
use Rattle.e57_base.proofs.Told.{told_map, told_both, told_here, told_all}
use Rattle.e57_page.specs.Place.{span_end, RisesWithin}
use Rattle.e57_page.specs.Pages.{AsksUnkept}
use Rattle.e57_page.proofs.PagesLaws.{asks_for_none, asks_for_on}
use Rattle.e57_layout.specs.declared.section.Section.{Section}
use Rattle.e57_index.specs.Spans.{Span, AskedAs, IsSpanOf, AsksSpans, within_spans}

-- ---- lists

-- nothing was asked for, whatever could be
pub asked-none : (spans : List Span) → AskedAs spans []
asked-none [] = refl
asked-none (span ∷ spans) = ([], [], refl, tt, asked-none spans)

-- pages of the first spans, and then of the later ones
pub asked-on : (xs ys : List Span) (p q : List ℕ) → AskedAs xs p → AskedAs ys q → AskedAs (xs ++ ys) (p ++ q)
asked-on [] ys p q first next = rw first next
asked-on (x ∷ xs) ys p q (here, later, is, rises, rest) next =
    (here, later ++ q, ap (λ (l : List ℕ). l ++ q) is ∙ append_assoc here later q, rises, asked-on xs ys later q rest next)

-- pages of the first spans alone
pub asked-front : (xs ys : List Span) (p : List ℕ) → AskedAs xs p → AskedAs (xs ++ ys) p
asked-front xs ys p first = rw (append-nil p) at (asked-on xs ys p [] first (asked-none ys))

pub asked-one : (q n : ℕ) (pages : List ℕ) → RisesWithin (q / 1020) (span_end q n) pages → AskedAs (record { place = q; size = n } ∷ []) pages
asked-one q n pages rises = (pages, [], sym (append-nil pages), rises, refl)

within-append : (P : Span → Type 0) (xs ys : List Span) → AllByRecursion P xs → AllByRecursion P ys → AllByRecursion P (xs ++ ys)
within-append P [] ys first next = next
within-append P (x ∷ xs) ys first next = (first.0, within-append P xs ys first.1 next)

length-append : (xs ys : List Span) → length (xs ++ ys) ≡ length xs + length ys
length-append [] ys = omega arith
length-append (x ∷ xs) ys = let rest = length-append xs ys in omega (arith, rest)

-- ---- calls

-- nothing was asked for
pub asks_spans-none : (s : Section) (most : ℕ) (met : List ℕ → List ℕ → Type 0) (a : SourceView) → ((file : List ℕ) → met file []) → AsksSpans s most met a a
asks_spans-none s most met a each = record { pages = []; asks = asks_for_none a; spans = []; few = omega arith; within = tt; asked = refl; told = told_all (λ file. met file []) a.held each }

-- pages of one span
pub asks_spans-one : (s : Section) (met : List ℕ → List ℕ → Type 0) (kept : List ℕ) (q n : ℕ) (a b : SourceView) → s.start ≤ q → q + n ≤ s.end
    → IfSome a.held (λ file. (pages : List ℕ) → AskedAs (record { place = q; size = n } ∷ []) pages → met file pages) → AsksUnkept kept (q / 1020) (span_end q n) a b → AsksSpans s 1 met a b
asks_spans-one s met kept q n a b low high by (pages, rises, unkept, asks) =
    let asked = asked-one q n pages rises in
    record {
      pages = pages;
      asks = asks;
      spans = record { place = q; size = n } ∷ [];
      few = omega arith;
      within = ((low, high), tt);
      asked = asked;
      told = told_map (λ file. (pages : List ℕ) → AskedAs (record { place = q; size = n } ∷ []) pages → met file pages) (λ file. met file pages) a.held (λ file way. way pages asked) by;
    }

-- one call after another
pub asks_spans-on : (s : Section) (m n most : ℕ) (f g h : List ℕ → List ℕ → Type 0) (a b c : SourceView) → m + n ≤ most → IfSome a.held (λ file. (p q : List ℕ) → f file p → g file q → h file (p ++ q)) → AsksSpans s m f a b → AsksSpans s n g b c → AsksSpans s most h a c
asks_spans-on s m n most f g h a b c enough by first next =
    let some = first.few in
    let more = next.few in
    let long = length-append first.spans next.spans in
    record {
      pages = first.pages ++ next.pages;
      asks = asks_for_on first.pages next.pages first.asks next.asks;
      spans = first.spans ++ next.spans;
      few = omega (arith, some, more, long, enough);
      within = within-append (IsSpanOf s) first.spans next.spans first.within next.within;
      asked = asked-on first.spans next.spans first.pages next.pages first.asked next.asked;
      told = told_both (λ file. (p q : List ℕ) → f file p → g file q → h file (p ++ q)) (λ file. f file first.pages × g file next.pages) (λ file. h file (first.pages ++ next.pages)) a.held (λ file way both. way first.pages next.pages both.0 both.1) by
          (told_both (λ file. f file first.pages) (λ file. g file next.pages) (λ file. f file first.pages × g file next.pages) a.held (λ file x y. (x, y)) first.told
          (told_here (λ file. g file next.pages) b.held a.held (sym first.asks.same.held) next.told));
    }

-- of what was asked for another is said
pub asks_spans-by : (s : Section) (m most : ℕ) (f g : List ℕ → List ℕ → Type 0) (a b : SourceView) → m ≤ most → IfSome a.held (λ file. (p : List ℕ) → f file p → g file p) → AsksSpans s m f a b → AsksSpans s most g a b
asks_spans-by s m most f g a b enough by first =
    let some = first.few in
    record {
      pages = first.pages;
      asks = first.asks;
      spans = first.spans;
      few = omega (arith, some, enough);
      within = first.within;
      asked = first.asked;
      told = told_both (λ file. (p : List ℕ) → f file p → g file p) (λ file. f file first.pages) (λ file. g file first.pages) a.held (λ file way x. way first.pages x) by first.told;
    }

-- ---- one thing

pub inside_is : (low high n : ℕ) (at : Option ℕ) (q : ℕ) → at ≡ Some q → low ≤ q → q + n ≤ high → within_spans low high n at ≡ record { place = q; size = n } ∷ []
inside_is low high n at q is above below = rw (is, le-leb low q above, le-leb (q + n) high below) refl

-- pages of n bytes at a place that lie where they may
pub asks_there : (s : Section) (low n : ℕ) (at : Option ℕ) (kept : List ℕ) (q : ℕ) (a b : SourceView) → s.start ≤ low → at ≡ Some q → low ≤ q → q + n ≤ s.end → AsksUnkept kept (q / 1020) (span_end q n) a b → AsksSpans s 1 (λ file. AskedAs (within_spans low s.end n at)) a b
asks_there s low n at kept q a b start is above below asks =
    asks_spans-one s (λ file. AskedAs (within_spans low s.end n at)) kept q n a b (omega (arith, start, above)) below
    (told_all (λ file. (pages : List ℕ) → AskedAs (record { place = q; size = n } ∷ []) pages → AskedAs (within_spans low s.end n at) pages) a.held (λ file pages asked. rw (inside_is low s.end n at q is above below) asked)) asks

pub asks_nothing : (s : Section) (most : ℕ) (spans : List ℕ → List Span) (a : SourceView) → AsksSpans s most (λ file. AskedAs (spans file)) a a
asks_nothing s most spans a = asks_spans-none s most (λ file. AskedAs (spans file)) a (λ file. asked-none (spans file))
