-- The first fault of the first 16 bytes of an index packet, from those bytes.
use Rattle.std.specs.Prelude.{◌≡◌, ℕ, ◌+◌, ◌-◌, ◌*◌, ◌%◌, ◌<◌, ◌≤◌, ◌==◌, ◌||◌, not, nat_lt, Bool, true, false, List, take, drop, Some, None, IfSome}
use Rattle.std.proofs.Common.{refl, sym, subst, ap, ◌∙◌, arith, lit≤, ⊎_elim}
use Rattle.std.proofs.lemmas.Bool.{lt-ltb, le-ltb, eq-eqb, ltb-true, ltb-false, or_parts, or_left, eqb-false, cases_Bool}
use Rattle.e57_base.specs.Fault.{fault}
use Rattle.e57_base.specs.Source.{SourceView}
use Rattle.e57_base.proofs.Told.{told_map, told_both, told_all}
use Rattle.e57_base.specs.declared.fault.Fault.{Fault}
use Rattle.e57_base.specs.declared.fault.ReadFault.{ReadFault}
use Rattle.e57_base.specs.declared.fault.ReadFault.TheVariants.{Refused, Source}
use Rattle.e57_base.specs.declared.kind.Kind.TheVariants.{Page, IndexShape}
use Rattle.e57_page.specs.Place.{place}
use Rattle.e57_page.specs.File.{logical, span_fault}
use Rattle.e57_layout.specs.declared.section.Section.{Section}
use Rattle.e57_layout.specs.Packets.{sort_at, length_at}
use Rattle.e57_layout.specs.IndexPackets.{entry_count_at, level_at, index_size}
use Rattle.e57_layout.specs.Written.{entries_limit}
use Rattle.e57_packet.specs.Reading.{is_misshapen_head}
use Rattle.e57_cloud.specs.Section.{when}
use Rattle.e57_cloud.specs.Index.{is_misshapen_index, index_shape_fault}
use Rattle.e57_section.specs.Steps.{IsSpanCause}
use Rattle.e57_index.specs.Reading.{is_index_kind, IsStartAt, IsStartCause}
use Rattle.e57_index.proofs.Moved.{count-piece, level-piece}
use Rattle.e57_section.proofs.Moved.{sort-piece, length-piece}

-- ---- outside the section

pub no_place : (old new : SourceView) (s : Section) (offset : ℕ) → place offset ≡ None → IsStartCause old s offset (Refused (fault IndexShape s.node offset)) new
unfolding index_shape_fault
no_place old new s offset none =
    (refl, told_all (λ file. (level : ℕ) → index_shape_fault file s level offset ≡ Some (fault IndexShape s.node offset)) old.held (λ file level. rw none refl))

pub before_data : (old new : SourceView) (s : Section) (offset q : ℕ) → place offset ≡ Some q → q < s.start + 32 → IsStartCause old s offset (Refused (fault IndexShape s.node offset)) new
unfolding index_shape_fault
before_data old new s offset q is low =
    let test = lt-ltb q (s.start + 32) low in
    (refl, told_all (λ file. (level : ℕ) → index_shape_fault file s level offset ≡ Some (fault IndexShape s.node offset)) old.held (λ file level. rw (is, test) refl))

pub past_end : (old new : SourceView) (s : Section) (offset q : ℕ) → place offset ≡ Some q → s.start + 32 ≤ q → s.end < q + 16 → IsStartCause old s offset (Refused (fault IndexShape s.node offset)) new
unfolding index_shape_fault
past_end old new s offset q is low high =
    let test = le-ltb q (s.start + 32) low in
    let over = lt-ltb s.end (q + 16) high in
    (refl, told_all (λ file. (level : ℕ) → index_shape_fault file s level offset ≡ Some (fault IndexShape s.node offset)) old.held (λ file level. rw (is, test, over) refl))

-- ---- within it

page_index : (found : Fault) → found.kind ≡ Page → is_index_kind found.kind ≡ true
page_index found is = rw is refl

pub wrong_start : (old new : SourceView) (s : Section) (offset q : ℕ) (found : ReadFault) → place offset ≡ Some q → s.start + 32 ≤ q → q + 16 ≤ s.end → IsSpanCause old q 16 found new → IsStartCause old s offset found new
unfolding index_shape_fault
wrong_start old new s offset q (Refused found) is low high cause =
    let test = le-ltb q (s.start + 32) low in
    let under = le-ltb s.end (q + 16) high in
    (page_index found cause.0, told_map (λ file. span_fault file q 16 ≡ Some found) (λ file. (level : ℕ) → index_shape_fault file s level offset ≡ Some found) old.held (λ file wrong level. rw (is, test, under, wrong) refl) cause.1)
wrong_start old new s offset q Source is low high cause = cause

lt_same : (a b c : ℕ) → b ≤ a → nat_lt a (b + c) ≡ nat_lt (a - b) c
lt_same a b c low =
    ⊎_elim
    (λ (yes : nat_lt (a - b) c ≡ true). let under = ltb-true (a - b) c yes in lt-ltb a (b + c) (omega (arith, under)) ∙ sym yes)
    (λ (no : nat_lt (a - b) c ≡ false). let over = ltb-false (a - b) c no in le-ltb a (b + c) (omega (arith, over)) ∙ sym no)
    (cases_Bool (nat_lt (a - b) c))

shuffled : (a b c d e f g : Bool) → (a || (b || (c || (d || (e || (f || g)))))) ≡ (((a || (b || (d || (e || f)))) || c) || g)
shuffled true b c d e f g = refl
shuffled false true c d e f g = refl
shuffled false false true true e f g = refl
shuffled false false true false true f g = refl
shuffled false false true false false true g = refl
shuffled false false true false false false g = refl
shuffled false false false true e f g = refl
shuffled false false false false true f g = refl
shuffled false false false false false true g = refl
shuffled false false false false false false g = refl

-- the shape of a packet from its first 16 bytes
shape_is : (b : List ℕ) (s : Section) (level q : ℕ) → q ≤ s.end → is_misshapen_index b s level q ≡ ((is_misshapen_head (take 16 (drop q b)) || nat_lt (s.end - q) (length_at (take 16 (drop q b)) 0)) || not (level_at b q == level))
unfolding is_misshapen_index is_misshapen_head
shape_is b s level q within =
    let sort = sort-piece b q 16 (lit≤ tt) in
    let size = length-piece b q 16 (lit≤ tt) in
    let count = count-piece b q 16 (lit≤ tt) in
    let room = lt_same s.end q (length_at b q) within in
    rw (sort, size, count, room)
    (shuffled (not (sort_at b q == 0)) (not (length_at b q % 4 == 0)) (nat_lt (s.end - q) (length_at b q)) (entry_count_at b q == 0) (nat_lt entries_limit (entry_count_at b q)) (nat_lt (length_at b q) (index_size (entry_count_at b q))) (not (level_at b q == level)))

start_rest : (file : List ℕ) (s : Section) (level offset q : ℕ) → place offset ≡ Some q → s.start + 32 ≤ q → q + 16 ≤ s.end → span_fault file q 16 ≡ None → index_shape_fault file s level offset ≡ when (is_misshapen_index (logical file) s level q) (fault IndexShape s.node offset)
unfolding index_shape_fault
start_rest file s level offset q is low high right =
    let test = le-ltb q (s.start + 32) low in
    let under = le-ltb s.end (q + 16) high in
    rw (is, test, under, right) refl

pub misshapen : (old new : SourceView) (s : Section) (offset q : ℕ) (bytes : List ℕ) → place offset ≡ Some q → s.start + 32 ≤ q → q + 16 ≤ s.end → (is_misshapen_head bytes || nat_lt (s.end - q) (length_at bytes 0)) ≡ true
    → IfSome old.held (λ file. span_fault file q 16 ≡ None) → IfSome old.held (λ file. bytes ≡ take 16 (drop q (logical file))) → IsStartCause old s offset (Refused (fault IndexShape s.node offset)) new
misshapen old new s offset q bytes is low high wrong right read = (
  refl,
  told_both (λ file. span_fault file q 16 ≡ None) (λ file. bytes ≡ take 16 (drop q (logical file))) (λ file. (level : ℕ) → index_shape_fault file s level offset ≡ Some (fault IndexShape s.node offset)) old.held
      (λ file sound was level.
      let here = subst (λ (b : List ℕ). (is_misshapen_head b || nat_lt (s.end - q) (length_at b 0)) ≡ true) was wrong in
      let shape = shape_is (logical file) s level q (omega (arith, high)) in
      let all = or_left (is_misshapen_head (take 16 (drop q (logical file))) || nat_lt (s.end - q) (length_at (take 16 (drop q (logical file))) 0)) (not (level_at (logical file) q == level)) here in
      start_rest file s level offset q is low high sound ∙ ap (λ (t : Bool). when t (fault IndexShape s.node offset)) (shape ∙ all)) right read,
)

-- what a sound start has
pub record IsSoundStart (s : Section) (q count : ℕ) : Type 0 where
  pub some : 0 < count
  pub few : count ≤ 2048
  pub within : q + 16 + 16 * count ≤ s.end

pub sound_start : (s : Section) (q : ℕ) (bytes : List ℕ) → q ≤ s.end → (is_misshapen_head bytes || nat_lt (s.end - q) (length_at bytes 0)) ≡ false → IsSoundStart s q (entry_count_at bytes 0)
unfolding is_misshapen_head
sound_start s q bytes low none =
    let both = or_parts (is_misshapen_head bytes) (nat_lt (s.end - q) (length_at bytes 0)) none in
    let a = or_parts (not (sort_at bytes 0 == 0)) _ both.0 in
    let b = or_parts (not (length_at bytes 0 % 4 == 0)) _ a.1 in
    let c = or_parts (entry_count_at bytes 0 == 0) _ b.1 in
    let d = or_parts (nat_lt entries_limit (entry_count_at bytes 0)) (nat_lt (length_at bytes 0) (index_size (entry_count_at bytes 0))) c.1 in
    let room = ltb-false (s.end - q) (length_at bytes 0) both.1 in
    let most = ltb-false entries_limit (entry_count_at bytes 0) d.0 in
    let long = ltb-false (length_at bytes 0) (index_size (entry_count_at bytes 0)) d.1 in
    let some = eqb-false (entry_count_at bytes 0) 0 c.0 in
    record { some = omega (arith, some); few = most; within = omega (arith, room, long, low) }

start_sound : (old : SourceView) (s : Section) (offset q : ℕ) (bytes : List ℕ) → place offset ≡ Some q → s.start + 32 ≤ q → q + 16 ≤ s.end → (is_misshapen_head bytes || nat_lt (s.end - q) (length_at bytes 0)) ≡ false
    → IfSome old.held (λ file. span_fault file q 16 ≡ None) → IfSome old.held (λ file. bytes ≡ take 16 (drop q (logical file))) → IfSome old.held (λ file. index_shape_fault file s (level_at bytes 0) offset ≡ None)
start_sound old s offset q bytes is low high none right read =
    told_both (λ file. span_fault file q 16 ≡ None) (λ file. bytes ≡ take 16 (drop q (logical file))) (λ file. index_shape_fault file s (level_at bytes 0) offset ≡ None) old.held
    (λ file sound was.
    let here = subst (λ (b : List ℕ). (is_misshapen_head b || nat_lt (s.end - q) (length_at b 0)) ≡ false) was none in
    let level : level_at bytes 0 ≡ level_at (logical file) q = rw was (level-piece (logical file) q 16 (lit≤ tt)) in
    let test = eq-eqb (level_at (logical file) q) (level_at bytes 0) (sym level) in
    let shape = shape_is (logical file) s (level_at bytes 0) q (omega (arith, high)) in
    let none : is_misshapen_index (logical file) s (level_at bytes 0) q ≡ false = shape ∙ rw (here, test) refl in
    start_rest file s (level_at bytes 0) offset q is low high sound ∙ ap (λ (t : Bool). when t (fault IndexShape s.node offset)) none) right read

pub start_is : (old : SourceView) (s : Section) (offset q : ℕ) (bytes : List ℕ) → place offset ≡ Some q → s.start + 32 ≤ q → q + 16 ≤ s.end → (is_misshapen_head bytes || nat_lt (s.end - q) (length_at bytes 0)) ≡ false
    → IfSome old.held (λ file. span_fault file q 16 ≡ None) → IfSome old.held (λ file. bytes ≡ take 16 (drop q (logical file))) → IfSome old.held (λ file. IsStartAt file s offset (record { place = q; entries = entry_count_at bytes 0; level = level_at bytes 0 }))
start_is old s offset q bytes is low high none right read =
    told_both (λ file. index_shape_fault file s (level_at bytes 0) offset ≡ None) (λ file. bytes ≡ take 16 (drop q (logical file))) (λ file. IsStartAt file s offset (record { place = q; entries = entry_count_at bytes 0; level = level_at bytes 0 })) old.held
    (λ file sound was.
    record {
      shape = sound;
      of_level = sym (rw was (level-piece (logical file) q 16 (lit≤ tt)));
      counts = sym (rw was (count-piece (logical file) q 16 (lit≤ tt)));
    }) (start_sound old s offset q bytes is low high none right read) read
