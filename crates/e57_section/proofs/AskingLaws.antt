-- Laws of the pages that things of a section ask for, and of what a packet needs.
use Rattle.std.specs.Prelude.{◌≡◌, ℕ, ◌+◌, ◌/◌, ◌≤◌, ◌<◌, true, List, [], ◌∷◌, ◌++◌, Option, Some, None}
use Rattle.std.specs.List.{AllByRecursion}
use Rattle.std.proofs.Common.{refl, ◌∙◌, arith}
use Rattle.std.proofs.lemmas.Bool.{eq-eqb}
use Rattle.std.proofs.lemmas.Bool.Decides.{nat_tests}
use Rattle.e57_base.specs.Source.{SourceView}
use Rattle.e57_page.specs.File.{logical}
use Rattle.e57_page.specs.Kept.{is_kept}
use Rattle.e57_page.proofs.KeptLaws.{rises_from_unkept}
use Rattle.e57_page.specs.Place.{span_end, RisesWithin}
use Rattle.e57_page.proofs.PlaceLaws.{rises_on}
use Rattle.e57_page.specs.Pages.{AsksWithin}
use Rattle.e57_layout.specs.declared.section.Section.{Section}
use Rattle.e57_layout.specs.Packets.{sort_at, restart_at}
use Rattle.e57_cloud.specs.Walk.{packet_at, packet_head_fault, packet_fault}
use Rattle.e57_cloud.specs.Met.{InSpan, needed_at}
use Rattle.e57_section.specs.declared.load.Loaded.{Loaded}
use Rattle.e57_section.specs.declared.load.Loaded.TheVariants.{Stream, Index, Empty}
use Rattle.e57_section.specs.Asking.{AsksPacket}
use Rattle.e57_section.specs.Loading.{needed_by, IsLoaded, loaded_as}
use Rattle.e57_base.proofs.Options.{option_or_parts}

head_end : (q n : ℕ) → 4 ≤ n → span_end q 4 ≤ span_end q n
head_end q n h = grind (arith, nat_tests)

head_begin : (q : ℕ) → q / 1020 ≤ span_end q 4
head_begin q = grind (arith, nat_tests)

-- the pages of a packet are of its span
pub asks_packet_within : (kept : List ℕ) (q n : ℕ) (old new : SourceView) → 4 ≤ n → AsksPacket kept q n old new → AsksWithin (q / 1020) (span_end q n) old new
asks_packet_within kept q n old new some asks =
    (asks.head ++ asks.body, rises_on (q / 1020) (span_end q 4) (span_end q n) asks.head asks.body (head_begin q) (head_end q n some) asks.head_rises asks.body_rises, asks.asks)

-- and where the first ones were kept, those behind them
pub asks_packet_behind : (kept : List ℕ) (q n mid : ℕ) (old new : SourceView) → 4 ≤ n → mid ≤ span_end q 4 → ((k : ℕ) → q / 1020 ≤ k → k < mid → is_kept kept k ≡ true) → AsksPacket kept q n old new → AsksWithin mid (span_end q n) old new
asks_packet_behind kept q n mid old new some within are_kept asks =
    (asks.head ++ asks.body, rises_on mid (span_end q 4) (span_end q n) asks.head asks.body within (head_end q n some) (rises_from_unkept kept (q / 1020) mid (span_end q 4) asks.head are_kept asks.head_rises asks.head_unkept) asks.body_rises, asks.asks)

-- pages that rise in a span are each of it
pub rises_in_span : (q n low : ℕ) (pages : List ℕ) → q / 1020 ≤ low → RisesWithin low (span_end q n) pages → AllByRecursion (InSpan q n) pages
rises_in_span q n low [] above rises = tt
rises_in_span q n low (page ∷ pages) above rises =
    let here = rises.0 in
    ((omega (arith, above, here), rises.1), rises_in_span q n (page + 1) pages (omega (arith, above, here)) rises.2)

-- the bytes of a packet that were read are those that it needs
pub needed_loaded : (file : List ℕ) (s : Section) (q : ℕ) (answer : Loaded) (held : Option (List (List ℕ))) → packet_fault file s q ≡ None → IsLoaded (logical file) q answer held → needed_by answer ≡ needed_at file s q
unfolding packet_fault needed_at
needed_loaded file s q (Stream n restart) held none is =
    let head = option_or_parts (packet_head_fault file s q) _ none in
    let data_sort = eq-eqb (sort_at (logical file) q) 1 is.0 in
    is.1 ∙ rw (head.0, data_sort) refl
needed_loaded file s q (Index n) held none is =
    let head = option_or_parts (packet_head_fault file s q) _ none in
    let sort = is.0 in rw (head.0, sort) refl
needed_loaded file s q (Empty n) held none is =
    let head = option_or_parts (packet_head_fault file s q) _ none in
    let sort = is.0 in rw (head.0, sort) refl

-- the packet that was loaded is that of the file
pub loaded_packet : (b : List ℕ) (q : ℕ) (answer : Loaded) (held : Option (List (List ℕ))) → IsLoaded b q answer held → packet_at b q ≡ loaded_as q answer held
unfolding packet_at restart_at
loaded_packet b q (Stream n restart) None is = let none = is.3 in absurd cc
loaded_packet b q (Stream n restart) (Some streams) is =
    let sort = is.0 in
    let same = is.3 in
    rw (is.1, is.2, some-streams streams _ same, sort) refl
  where
    some-streams : (a c : List (List ℕ)) → Some a ≡ Some c → a ≡ c
    some-streams a c e = cc
loaded_packet b q (Index n) held is = let sort = is.0 in rw (sort, is.1) refl
loaded_packet b q (Empty n) held is = let sort = is.0 in rw (sort, is.1) refl
