-- The pages that are asked for: of one packet, of one read after another, and of a wider span.
use Rattle.std.specs.Prelude.{ℕ, ◌+◌, ◌-◌, ◌/◌, ◌<◌, ◌≤◌, List, [], ◌++◌, Option, Some, None, IfSome}
use Rattle.std.specs.List.{AllByRecursion}
use Rattle.std.proofs.Common.{sym, arith}
use Rattle.std.proofs.lemmas.Bool.Decides.{nat_tests}
use Rattle.e57_base.specs.Source.{SourceView}
use Rattle.e57_base.proofs.Told.{told_map, told_both, told_here}
use Rattle.e57_page.specs.Place.{span_end}
use Rattle.e57_page.proofs.PagesLaws.{asks_for_none, asks_for_on}
use Rattle.e57_layout.proofs.Laws.Lists.{all-append}
use Rattle.e57_cloud.specs.Met.{InSpan}
use Rattle.e57_section.specs.Asking.{AsksPacket}
use Rattle.e57_section.proofs.AskingLaws.{asks_packet_within, rises_in_span}
use Rattle.e57_ahead.specs.Finding.{AsksOf}
use Rattle.e57_base.proofs.Lists.{all_map}

pub span-wider : (q n q' n' p : ℕ) → q' ≤ q → q + n ≤ q' + n' → InSpan q n p → InSpan q' n' p
span-wider q n q' n' p below above within = (first q q' below within.0, last q n q' n' p below above within.0 within.1)
  where
    first : (q q' : ℕ) {p : ℕ} → q' ≤ q → q / 1020 ≤ p → q' / 1020 ≤ p
    first q q' below low = omega arith

    last : (q n q' n' p : ℕ) → q' ≤ q → q + n ≤ q' + n' → q / 1020 ≤ p → p < span_end q n → p < span_end q' n'
    last q n q' n' p below above low high = grind (arith, nat_tests)

-- nothing is asked for
pub asks-none : (allows : List ℕ → ℕ → Type 0) (low : ℕ) (view : SourceView) → AsksOf allows low low view view
asks-none allows low view = record { pages = []; near = tt; each = nothing view.held; asks = asks_for_none view }
  where
    nothing : (held : Option (List ℕ)) → IfSome held (λ file. AllByRecursion (allows file) [])
    nothing None = tt
    nothing (Some file) = tt

-- first of one span, and then of the one behind it
pub asks-on : (allows : List ℕ → ℕ → Type 0) (low mid high : ℕ) (a b c : SourceView) → low ≤ mid → mid ≤ high → AsksOf allows low mid a b → AsksOf allows mid high b c → AsksOf allows low high a c
asks-on allows low mid high a b c below above first next = record {
  pages = first.pages ++ next.pages;
  near = all-append (InSpan low (high - low)) first.pages next.pages
      (all_map (InSpan low (mid - low)) (InSpan low (high - low)) first.pages (λ p. span-wider low (mid - low) low (high - low) p (omega arith) (omega arith)) first.near)
      (all_map (InSpan mid (high - mid)) (InSpan low (high - low)) next.pages (λ p. span-wider mid (high - mid) low (high - low) p below (omega arith)) next.near);
  each = told_both (λ file. AllByRecursion (allows file) first.pages) (λ file. AllByRecursion (allows file) next.pages) (λ file. AllByRecursion (allows file) (first.pages ++ next.pages)) a.held
      (λ file. all-append (allows file) first.pages next.pages)
      first.each
      (told_here (λ file. AllByRecursion (allows file) next.pages) b.held a.held (sym first.asks.same.held) next.each);
  asks = asks_for_on first.pages next.pages first.asks next.asks;
}

-- what a told file allows more
pub asks-allow : (A B : List ℕ → ℕ → Type 0) (low high : ℕ) (old new : SourceView) → IfSome old.held (λ file. (p : ℕ) → A file p → B file p) → AsksOf A low high old new → AsksOf B low high old new
asks-allow A B low high old new more asks = record {
  pages = asks.pages;
  near = asks.near;
  each = told_both (λ file. (p : ℕ) → A file p → B file p) (λ file. AllByRecursion (A file) asks.pages) (λ file. AllByRecursion (B file) asks.pages) old.held (λ file f. all_map (A file) (B file) asks.pages f) more asks.each;
  asks = asks.asks;
}

-- the pages of n bytes of a packet, within a span and allowed
pub packet-asks : (allows : List ℕ → ℕ → Type 0) (kept : List ℕ) (q n high : ℕ) (old new : SourceView) → 4 ≤ n → q + n ≤ high → IfSome old.held (λ file. (p : ℕ) → InSpan q n p → allows file p) → AsksPacket kept q n old new → AsksOf allows q high old new
packet-asks allows kept q n high old new some within more asks =
    let found = asks_packet_within kept q n old new some asks in
    let each = rises_in_span q n (q / 1020) found.0 (omega arith) found.1 in
    record {
      pages = found.0;
      near = all_map (InSpan q n) (InSpan q (high - q)) found.0 (λ p. span-wider q n q (high - q) p (omega arith) (omega arith)) each;
      each = told_map (λ file. (p : ℕ) → InSpan q n p → allows file p) (λ file. AllByRecursion (allows file) found.0) old.held (λ file f. all_map (InSpan q n) (allows file) found.0 f each) more;
      asks = found.2;
    }
