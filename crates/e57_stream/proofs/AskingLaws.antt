-- Laws of the pages that a reader of a stream asks for: one call after another.
use Rattle.std.specs.Prelude.{◌≡◌, ℕ, ◌+◌, ◌-◌, ◌/◌, ◌≤◌, List, [], ◌∷◌, ◌++◌, length, Option, Some, None, IfSome}
use Rattle.std.specs.List.{AllByRecursion}
use Rattle.std.proofs.Common.{sym, arith, length-append}
use Rattle.std.proofs.lemmas.Bool.Decides.{nat_tests}
use Rattle.e57_base.specs.Source.{SourceView}
use Rattle.e57_base.proofs.Told.{told_map, told_both, told_here}
use Rattle.e57_page.specs.Place.{span_end, RisesWithin}
use Rattle.e57_page.proofs.PagesLaws.{asks_for_none, asks_for_on}
use Rattle.e57_cloud.specs.Met.{InSpan}
use Rattle.e57_section.specs.Asking.{AsksPacket}
use Rattle.e57_section.proofs.AskingLaws.{rises_in_span, asks_packet_within}
use Rattle.e57_stream.specs.Asking.{AsksMet, AsksNear}
use Rattle.e57_base.proofs.Lists.{all_append, all_map}

-- ---- pages that are met

pub asks_met_none : (met : List ℕ → ℕ → Type 0) (source : SourceView) → AsksMet met source source
asks_met_none met source = record { pages = []; are_met = none source.held; asks = asks_for_none source }
  where
    none : (held : Option (List ℕ)) → IfSome held (λ file. AllByRecursion (met file) [])
    none None = tt
    none (Some file) = tt

pub asks_met_on : (met : List ℕ → ℕ → Type 0) (a b c : SourceView) → AsksMet met a b → AsksMet met b c → AsksMet met a c
asks_met_on met a b c f g = record {
  pages = f.pages ++ g.pages;
  are_met = told_both (λ file. AllByRecursion (met file) f.pages) (λ file. AllByRecursion (met file) g.pages) (λ file. AllByRecursion (met file) (f.pages ++ g.pages)) a.held
      (λ file x y. all_append (met file) f.pages g.pages x y) f.are_met
      (told_here (λ file. AllByRecursion (met file) g.pages) b.held a.held (sym f.asks.same.held) g.are_met);
  asks = asks_for_on f.pages g.pages f.asks g.asks;
}

-- pages that are met in one sense are met in another
pub asks_met_map : (met met' : List ℕ → ℕ → Type 0) (a b : SourceView) → IfSome a.held (λ file. (p : ℕ) → met file p → met' file p) → AsksMet met a b → AsksMet met' a b
asks_met_map met met' a b each f = record {
  pages = f.pages;
  are_met = told_both (λ file. (p : ℕ) → met file p → met' file p) (λ file. AllByRecursion (met file) f.pages) (λ file. AllByRecursion (met' file) f.pages) a.held
      (λ file one x. all_map (met file) (met' file) f.pages one x) each f.are_met;
  asks = f.asks;
}

-- ---- pages between two places

pub asks_near_none : (at : ℕ) (source : SourceView) → AsksNear at at source source
asks_near_none at source = record { pages = []; in_span = tt; few = omega arith; asks = asks_for_none source }

pub near_first : (low mid high p : ℕ) → low ≤ mid → mid ≤ high → InSpan low (mid - low) p → InSpan low (high - low) p
near_first low mid high p below above f = (f.0, let h = f.1 in grind (arith, nat_tests))

pub near_next : (low mid high p : ℕ) → low ≤ mid → mid ≤ high → InSpan mid (high - mid) p → InSpan low (high - low) p
near_next low mid high p below above f = let g = f.0 in let h = f.1 in (omega (arith, g, below), grind (arith, nat_tests))

pub asks_near_on : (low mid high : ℕ) (a b c : SourceView) → low ≤ mid → mid ≤ high → AsksNear low mid a b → AsksNear mid high b c → AsksNear low high a c
asks_near_on low mid high a b c below above f g =
    let few = f.few in
    let few_too = g.few in
    record {
      pages = f.pages ++ g.pages;
      in_span = all_append (InSpan low (high - low)) f.pages g.pages
          (all_map (InSpan low (mid - low)) (InSpan low (high - low)) f.pages (λ p x. near_first low mid high p below above x) f.in_span)
          (all_map (InSpan mid (high - mid)) (InSpan low (high - low)) g.pages (λ p x. near_next low mid high p below above x) g.in_span);
      few = rw length-append (omega (arith, few, few_too));
      asks = asks_for_on f.pages g.pages f.asks g.asks;
    }

-- no pages at all
pub asks_near_nothing : (low high : ℕ) (source : SourceView) → AsksNear low high source source
asks_near_nothing low high source = record { pages = []; in_span = tt; few = omega arith; asks = asks_for_none source }

-- pages up to a place are pages up to a later one
pub asks_near_wider : (low mid high : ℕ) (old new : SourceView) → low ≤ mid → mid ≤ high → AsksNear low mid old new → AsksNear low high old new
asks_near_wider low mid high old new below above f = asks_near_on low mid high old new new below above f (asks_near_nothing mid high new)

-- ---- the pages of a packet

rises_count : (low high : ℕ) (pages : List ℕ) → low ≤ high → RisesWithin low high pages → length pages ≤ high - low
rises_count low high [] order rises = omega arith
rises_count low high (page ∷ pages) order rises =
    let here = rises.0 in
    let below = rises.1 in
    let rest = rises_count (page + 1) high pages (omega (arith, below)) rises.2 in
    omega (arith, rest, here, below)

span_order : (q n : ℕ) → q / 1020 ≤ span_end q n
span_order q n = grind (arith, nat_tests)

span_few : (q n m : ℕ) → 4 ≤ n → n ≤ m → span_end q n - q / 1020 ≤ q + m - q
span_few q n m some most = grind (arith, nat_tests)

span_more : (q n m p : ℕ) → 4 ≤ n → n ≤ m → InSpan q n p → InSpan q m p
span_more q n m p some most f = let h = f.1 in (f.0, grind (arith, nat_tests))

same_span : (q m : ℕ) → q + m - q ≡ m
same_span q m = omega arith

-- the pages of n bytes of a packet of m bytes
pub packet_near : (kept : List ℕ) (q n m : ℕ) (old new : SourceView) → 4 ≤ n → n ≤ m → AsksPacket kept q n old new → AsksNear q (q + m) old new
packet_near kept q n m old new some most asks =
    let (pages, rises, asked) = asks_packet_within kept q n old new some asks in
    record {
      pages = pages;
      in_span = rw same_span (all_map (InSpan q n) (InSpan q m) pages (λ p x. span_more q n m p some most x) (rises_in_span q n (q / 1020) pages (omega arith) rises));
      few = let count = rises_count (q / 1020) (span_end q n) pages (span_order q n) rises in let few = span_few q n m some most in omega (arith, count, few);
      asks = asked;
    }

-- the pages of a part of what a packet needs
pub packet_met : (kept : List ℕ) (q n : ℕ) (needed : List ℕ → ℕ) (old new : SourceView) → 4 ≤ n → IfSome old.held (λ file. n ≤ needed file) → AsksPacket kept q n old new → AsksMet (λ file p. InSpan q (needed file) p) old new
packet_met kept q n needed old new some most asks =
    let (pages, rises, asked) = asks_packet_within kept q n old new some asks in
    let all = rises_in_span q n (q / 1020) pages (omega arith) rises in
    record {
      pages = pages;
      are_met = told_map (λ file. n ≤ needed file) (λ file. AllByRecursion (InSpan q (needed file)) pages) old.held
          (λ file within. all_map (InSpan q n) (InSpan q (needed file)) pages (λ p x. span_more q n (needed file) p some within x) all) most;
      asks = asked;
    }
