-- The first fault of what an entry of height 0 names, from the four bytes there.
use Rattle.std.specs.Prelude.{◌≡◌, ℕ, ◌+◌, ◌*◌, ◌/◌, ◌%◌, ◌<◌, ◌≤◌, ◌==◌, ◌&&◌, ◌||◌, not, Bool, true, false, List, take, drop, Some, None, IfSome}
use Rattle.std.proofs.Common.{refl, sym, subst, ◌∙◌, arith, lit≤}
use Rattle.std.proofs.lemmas.Bool.{lt-ltb, le-ltb}
use Rattle.e57_base.specs.Fault.{fault}
use Rattle.e57_base.specs.Source.{SourceView}
use Rattle.e57_base.proofs.Told.{told_map, told_both, told_all}
use Rattle.e57_base.specs.declared.fault.ReadFault.{ReadFault}
use Rattle.e57_base.specs.declared.fault.ReadFault.TheVariants.{Refused, Source}
use Rattle.e57_base.specs.declared.kind.Kind.TheVariants.{IndexTarget}
use Rattle.e57_page.specs.Place.{place, span_end}
use Rattle.e57_page.specs.Pages.{AsksUnkept}
use Rattle.e57_page.specs.File.{logical, span_fault}
use Rattle.e57_layout.specs.declared.packet.Entry.{Entry}
use Rattle.e57_layout.specs.declared.section.Section.{Section}
use Rattle.e57_bits.specs.Bits.{number}
use Rattle.e57_layout.specs.Packets.{sort_at, restart_at, packet_head_at}
use Rattle.e57_layout.proofs.Laws.Layouts.{restart_at-flags}
use Rattle.e57_cloud.specs.Section.{when}
use Rattle.e57_cloud.specs.Met.{InSpan, InTarget}
use Rattle.e57_cloud.specs.Index.{is_target, target_fault}
use Rattle.e57_section.specs.Steps.{IsSpanCause}
use Rattle.e57_index.specs.Reading.{AsksTarget, IsTargetCause}
use Rattle.e57_index.proofs.Asked.{asks_met-span}
use Rattle.e57_section.proofs.Moved.{sort-piece, number-piece}

same_test : (a r z : Bool) → (a && (r || z)) ≡ (a && ((a && r) || z))
same_test true r z = refl
same_test false r z = refl

-- the test of the four bytes
pub target_is : (b : List ℕ) (q : ℕ) (e : Entry) → (sort_at b q == 1 && (number b (8 * q + 8) 8 % 2 == 1 || e.first == 0)) ≡ is_target b e q
unfolding packet_head_at
target_is b q e = rw (restart_at-flags b q) (same_test (sort_at b q == 1) (number b (8 * q + 8) 8 % 2 == 1) (e.first == 0))

restart-piece : (b : List ℕ) (q : ℕ) → restart_at (take 4 (drop q b)) 0 ≡ restart_at b q
unfolding restart_at
restart-piece b q =
    let sort = sort-piece b q 4 (lit≤ tt) in
    let flag : number (take 4 (drop q b)) 8 1 ≡ number b (8 * q + 8) 1 = number-piece b q 4 8 (8 * q + 8) 1 (lit≤ tt) refl in
    rw (sort, flag) refl

target-piece : (b : List ℕ) (q : ℕ) (e : Entry) → is_target (take 4 (drop q b)) e 0 ≡ is_target b e q
target-piece b q e = rw (sort-piece b q 4 (lit≤ tt), restart-piece b q) refl

pub asks_target : (s : Section) (kept : List ℕ) (e : Entry) (q : ℕ) (a b : SourceView) → s.start ≤ s.data_place → place e.place ≡ Some q → s.data_place ≤ q → q + 4 ≤ s.end → AsksUnkept kept (q / 1020) (span_end q 4) a b → AsksTarget s e a b
asks_target s kept e q a b first is low high asks =
    asks_met-span s (λ file p. InTarget s e p) kept q 4 a b (omega (arith, first, low)) high
    (told_all (λ file. (p : ℕ) → InSpan q 4 p → InTarget s e p) a.held (λ file p within. rw is (low, high, within))) asks

pub no_target : (old new : SourceView) (s : Section) (e : Entry) → place e.place ≡ None → IsTargetCause old s e (Refused (fault IndexTarget s.node e.first)) new
unfolding target_fault
no_target old new s e none = (refl, told_all (λ file. target_fault file s e ≡ Some (fault IndexTarget s.node e.first)) old.held (λ file. rw none refl))

pub before_data : (old new : SourceView) (s : Section) (e : Entry) (q : ℕ) → place e.place ≡ Some q → q < s.data_place → IsTargetCause old s e (Refused (fault IndexTarget s.node e.first)) new
unfolding target_fault
before_data old new s e q is low =
    let test = lt-ltb q s.data_place low in
    (refl, told_all (λ file. target_fault file s e ≡ Some (fault IndexTarget s.node e.first)) old.held (λ file. rw (is, test) refl))

pub past_end : (old new : SourceView) (s : Section) (e : Entry) (q : ℕ) → place e.place ≡ Some q → s.data_place ≤ q → s.end < q + 4 → IsTargetCause old s e (Refused (fault IndexTarget s.node e.first)) new
unfolding target_fault
past_end old new s e q is low high =
    let test = le-ltb q s.data_place low in
    let over = lt-ltb s.end (q + 4) high in
    (refl, told_all (λ file. target_fault file s e ≡ Some (fault IndexTarget s.node e.first)) old.held (λ file. rw (is, test, over) refl))

pub wrong_page : (old new : SourceView) (s : Section) (e : Entry) (q : ℕ) (found : ReadFault) → place e.place ≡ Some q → s.data_place ≤ q → q + 4 ≤ s.end → IsSpanCause old q 4 found new → IsTargetCause old s e found new
unfolding target_fault
wrong_page old new s e q (Refused found) is low high cause =
    let test = le-ltb q s.data_place low in
    let under = le-ltb s.end (q + 4) high in
    (rw cause.0 refl, told_map (λ file. span_fault file q 4 ≡ Some found) (λ file. target_fault file s e ≡ Some found) old.held (λ file wrong. rw (is, test, under, wrong) refl) cause.1)
wrong_page old new s e q Source is low high cause = cause

judged : (old : SourceView) (s : Section) (e : Entry) (q : ℕ) (bytes : List ℕ) (test : Bool) → place e.place ≡ Some q → s.data_place ≤ q → q + 4 ≤ s.end → is_target bytes e 0 ≡ test
    → IfSome old.held (λ file. span_fault file q 4 ≡ None) → IfSome old.held (λ file. bytes ≡ take 4 (drop q (logical file))) → IfSome old.held (λ file. target_fault file s e ≡ when (not test) (fault IndexTarget s.node e.first))
unfolding target_fault
judged old s e q bytes test is low high told right read =
    let before = le-ltb q s.data_place low in
    let under = le-ltb s.end (q + 4) high in
    told_both (λ file. span_fault file q 4 ≡ None) (λ file. bytes ≡ take 4 (drop q (logical file))) (λ file. target_fault file s e ≡ when (not test) (fault IndexTarget s.node e.first)) old.held
    (λ file sound was.
    let here : is_target (logical file) e q ≡ test = sym (target-piece (logical file) q e) ∙ subst (λ (b : List ℕ). is_target b e 0 ≡ test) was told in
    rw (is, before, under, sound, here) refl) right read

pub no_target_there : (old new : SourceView) (s : Section) (e : Entry) (q : ℕ) (bytes : List ℕ) → place e.place ≡ Some q → s.data_place ≤ q → q + 4 ≤ s.end → is_target bytes e 0 ≡ false
    → IfSome old.held (λ file. span_fault file q 4 ≡ None) → IfSome old.held (λ file. bytes ≡ take 4 (drop q (logical file))) → IsTargetCause old s e (Refused (fault IndexTarget s.node e.first)) new
no_target_there old new s e q bytes is low high told right read = (refl, judged old s e q bytes false is low high told right read)

pub target_there : (old : SourceView) (s : Section) (e : Entry) (q : ℕ) (bytes : List ℕ) → place e.place ≡ Some q → s.data_place ≤ q → q + 4 ≤ s.end → is_target bytes e 0 ≡ true
    → IfSome old.held (λ file. span_fault file q 4 ≡ None) → IfSome old.held (λ file. bytes ≡ take 4 (drop q (logical file))) → IfSome old.held (λ file. target_fault file s e ≡ None)
target_there old s e q bytes is low high told right read = judged old s e q bytes true is low high told right read
