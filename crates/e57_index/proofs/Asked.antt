-- The pages of one read after another.
use Rattle.std.specs.Prelude.{ℕ, ◌+◌, ◌-◌, ◌/◌, ◌<◌, ◌≤◌, List, [], ◌∷◌, ◌++◌, IfSome}
use Rattle.std.specs.List.{AllByRecursion}
use Rattle.std.proofs.Common.{sym, arith}
use Rattle.std.proofs.lemmas.Bool.Decides.{nat_tests}
use Rattle.e57_base.proofs.Told.{told_map, told_both, told_here, told_all}
use Rattle.e57_base.specs.Source.{SourceView}
use Rattle.e57_page.specs.Place.{span_end, RisesWithin}
use Rattle.e57_page.specs.Pages.{AsksUnkept}
use Rattle.e57_page.proofs.PagesLaws.{asks_for_none, asks_for_on}
use Rattle.e57_layout.specs.declared.section.Section.{Section}
use Rattle.e57_cloud.specs.Met.{InSpan}
use Rattle.e57_index.specs.Asking.{InSection, AsksMet}
use Rattle.e57_base.proofs.Lists.{all_append, all_map}

-- nothing was asked for
pub asks_met-none : (s : Section) (met : List ℕ → ℕ → Type 0) (a : SourceView) → AsksMet s met a a
asks_met-none s met a = record { pages = []; asks = asks_for_none a; within = tt; allowed = told_all (λ file. AllByRecursion (met file) []) a.held (λ file. tt) }

-- one search after another
pub asks_met-on : (s : Section) (met : List ℕ → ℕ → Type 0) (a b c : SourceView) → AsksMet s met a b → AsksMet s met b c → AsksMet s met a c
asks_met-on s met a b c f g =
    record {
      pages = f.pages ++ g.pages;
      asks = asks_for_on f.pages g.pages f.asks g.asks;
      within = all_append (InSection s) f.pages g.pages f.within g.within;
      allowed = told_both (λ file. AllByRecursion (met file) f.pages) (λ file. AllByRecursion (met file) g.pages) (λ file. AllByRecursion (met file) (f.pages ++ g.pages)) a.held
          (λ file first next. all_append (met file) f.pages g.pages first next) f.allowed
          (told_here (λ file. AllByRecursion (met file) g.pages) b.held a.held (sym f.asks.same.held) g.allowed);
    }

-- what is met is met in another way
pub asks_met-by : (s : Section) (met met' : List ℕ → ℕ → Type 0) (a b : SourceView) → IfSome a.held (λ file. (p : ℕ) → met file p → met' file p) → AsksMet s met a b → AsksMet s met' a b
asks_met-by s met met' a b by f =
    record {
      pages = f.pages;
      asks = f.asks;
      within = f.within;
      allowed = told_both (λ file. (p : ℕ) → met file p → met' file p) (λ file. AllByRecursion (met file) f.pages) (λ file. AllByRecursion (met' file) f.pages) a.held
          (λ file way all. all_map (met file) (met' file) f.pages way all) by f.allowed;
    }

rises-each : (low high : ℕ) (pages : List ℕ) → RisesWithin low high pages → AllByRecursion (λ p. (low ≤ p) × (p < high)) pages
rises-each low high [] up = tt
rises-each low high (p ∷ pages) up =
    ((up.0, up.1), all_map (λ k. (p + 1 ≤ k) × (k < high)) (λ k. (low ≤ k) × (k < high)) pages (λ k is. (omega (arith, is.0, up.0), is.1)) (rises-each (p + 1) high pages up.2))

span-in : (s e q n p : ℕ) → s ≤ q → q + n ≤ e → InSpan q n p → InSpan s (e - s) p
span-in s e q n p low high is = grind (arith, nat_tests)

-- pages of bytes of the section
pub asks_met-span : (s : Section) (met : List ℕ → ℕ → Type 0) (kept : List ℕ) (q n : ℕ) (a b : SourceView) → s.start ≤ q → q + n ≤ s.end → IfSome a.held (λ file. (p : ℕ) → InSpan q n p → met file p) → AsksUnkept kept (q / 1020) (span_end q n) a b → AsksMet s met a b
asks_met-span s met kept q n a b low high by (pages, rises, unkept, asks) =
    let each = rises-each (q / 1020) (span_end q n) pages rises in
    record {
      pages = pages;
      asks = asks;
      within = all_map (InSpan q n) (InSection s) pages (λ p is. span-in s.start s.end q n p low high is) each;
      allowed = told_map (λ file. (p : ℕ) → InSpan q n p → met file p) (λ file. AllByRecursion (met file) pages) a.held (λ file way. all_map (InSpan q n) (met file) pages way each) by;
    }
