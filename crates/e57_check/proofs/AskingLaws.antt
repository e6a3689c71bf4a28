-- Laws of the pages of a file that are asked for.
use Rattle.std.specs.Prelude.{ℕ, ◌+◌, ◌*◌, ◌/◌, ◌<◌, ◌≤◌, List, [], ◌∷◌, ◌++◌, Option, Some, None, IfSome}
use Rattle.std.specs.List.{AllByRecursion}
use Rattle.std.proofs.Common.{sym, arith}
use Rattle.std.proofs.lemmas.Bool.Decides.{nat_tests}
use Rattle.e57_base.specs.Source.{SourceView}
use Rattle.e57_page.specs.Place.{span_end, RisesWithin}
use Rattle.e57_page.specs.Pages.{AsksWithin, AsksUnkept}
use Rattle.e57_page.proofs.PagesLaws.{asks_for_none, asks_for_on, asks_unkept_within}
use Rattle.e57_section.specs.Asking.{AsksPacket}
use Rattle.e57_section.proofs.AskingLaws.{asks_packet_within}
use Rattle.e57_base.proofs.Told.{told_both, told_here}
use Rattle.e57_check.specs.Asking.{AsksPages, AsksWhere}
use Rattle.e57_base.proofs.Lists.{all_append}

-- nothing was asked for
pub asks_pages_none : (count : ℕ) (source : SourceView) → AsksPages count source source
asks_pages_none count source = record { pages = []; within = tt; asks = asks_for_none source }

-- some pages, and then others
pub asks_pages_on : (count : ℕ) (a b c : SourceView) → AsksPages count a b → AsksPages count b c → AsksPages count a c
asks_pages_on count a b c f g = record {
  pages = f.pages ++ g.pages;
  within = all_append (λ (p : ℕ). p < count) f.pages g.pages f.within g.within;
  asks = asks_for_on f.pages g.pages f.asks g.asks;
}

rising_below : (low high count : ℕ) (pages : List ℕ) → high ≤ count → RisesWithin low high pages → AllByRecursion (λ (p : ℕ). p < count) pages
rising_below low high count [] below rises = tt
rising_below low high count (page ∷ pages) below rises = (let here = rises.1 in omega (arith, below, here), rising_below (page + 1) high count pages below rises.2)

-- pages of a part of the file
pub within_pages : (low high count : ℕ) (old new : SourceView) → high ≤ count → AsksWithin low high old new → AsksPages count old new
within_pages low high count old new below (pages, rises, asks) = record { pages = pages; within = rising_below low high count pages below rises; asks = asks }

pub unkept_pages : (kept : List ℕ) (low high count : ℕ) (old new : SourceView) → high ≤ count → AsksUnkept kept low high old new → AsksPages count old new
unkept_pages kept low high count old new below asks = within_pages low high count old new below (asks_unkept_within kept low high old new asks)

-- the pages of bytes of the file
pub span_below : (q n count : ℕ) → q + n ≤ count * 1020 → span_end q n ≤ count
span_below q n count within = grind (arith, nat_tests)

-- the pages of a packet
pub packet_pages : (kept : List ℕ) (q n count : ℕ) (old new : SourceView) → 4 ≤ n → q + n ≤ count * 1020 → AsksPacket kept q n old new → AsksPages count old new
packet_pages kept q n count old new some within asks = within_pages (q / 1020) (span_end q n) count old new (span_below q n count within) (asks_packet_within kept q n old new some asks)

-- ---- where something holds of the file

none_within : (holds : List ℕ → Type 0) (count : ℕ) (held : Option (List ℕ)) → IfSome held (λ file. holds file → AllByRecursion (λ (p : ℕ). p < count) [])
none_within holds count None = tt
none_within holds count (Some file) = λ h. tt

pub asks_where_none : (holds : List ℕ → Type 0) (count : ℕ) (source : SourceView) → AsksWhere holds count source source
asks_where_none holds count source = record { pages = []; within = none_within holds count source.held; asks = asks_for_none source }

pub asks_where_on : (holds : List ℕ → Type 0) (count : ℕ) (a b c : SourceView) → AsksWhere holds count a b → AsksWhere holds count b c → AsksWhere holds count a c
asks_where_on holds count a b c f g = record {
  pages = f.pages ++ g.pages;
  within = told_both (λ file. holds file → AllByRecursion (λ (p : ℕ). p < count) f.pages) (λ file. holds file → AllByRecursion (λ (p : ℕ). p < count) g.pages) (λ file. holds file → AllByRecursion (λ (p : ℕ). p < count) (f.pages ++ g.pages)) a.held
      (λ file x y h. all_append (λ (p : ℕ). p < count) f.pages g.pages (x h) (y h)) f.within
      (told_here (λ file. holds file → AllByRecursion (λ (p : ℕ). p < count) g.pages) b.held a.held (sym f.asks.same.held) g.within);
  asks = asks_for_on f.pages g.pages f.asks g.asks;
}

-- where more holds of the file
pub asks_where_map : (holds more : List ℕ → Type 0) (count : ℕ) (a b : SourceView) → IfSome a.held (λ file. more file → holds file) → AsksWhere holds count a b → AsksWhere more count a b
asks_where_map holds more count a b each f = record {
  pages = f.pages;
  within = told_both (λ file. more file → holds file) (λ file. holds file → AllByRecursion (λ (p : ℕ). p < count) f.pages) (λ file. more file → AllByRecursion (λ (p : ℕ). p < count) f.pages) a.held
      (λ file g x h. x (g h)) each f.within;
  asks = f.asks;
}

-- what always holds
pub asks_anywhere : (holds : List ℕ → Type 0) (count : ℕ) (a b : SourceView) → AsksPages count a b → AsksWhere holds count a b
asks_anywhere holds count a b f = record { pages = f.pages; within = all a.held; asks = f.asks }
  where
    all : (held : Option (List ℕ)) → IfSome held (λ file. holds file → AllByRecursion (λ (p : ℕ). p < count) f.pages)
    all None = tt
    all (Some file) = λ h. f.within
