-- Laws of the spans of a section and of a cloud, with an index or without: one way for all records of a span, and which spans have no fault.
use Rattle.std.specs.Prelude.{◌≡◌, ℕ, zero, suc, ◌+◌, ◌-◌, ◌<◌, ◌==◌, true, false, if◌then◌else◌, List, [], ◌∷◌, flat_map, slice_get, Option, Some, None, Result, Ok, Err, IfOk, Contains}
use Rattle.std.specs.List.{range_with_len}
use Rattle.std.specs.Option.{option_or}
use Rattle.std.proofs.Common.{refl, sym, ap, subst, ◌∙◌, arith, ⊎_elim}
use Rattle.std.proofs.lemmas.Bool.{cases_Bool}
use Rattle.e57_base.specs.declared.fault.Fault.{Fault}
use Rattle.e57_base.specs.declared.kind.Kind.TheVariants.{RestartUnindexed}
use Rattle.e57_base.specs.Fault.{fault}
use Rattle.e57_layout.specs.declared.section.Section.{Section}
use Rattle.e57_layout.specs.declared.field.Fixed.{Fixed}
use Rattle.e57_cloud.specs.Section.{section_fault}
use Rattle.e57_cloud.specs.Index.{known_place, target_fault}
use Rattle.e57_cloud.specs.Cloud.{Leaf, Cloud, fixed_of, section_of}
use Rattle.e57_cloud.specs.PathItem.{ChunkAt, unless, Stretch, stretch, path, chunk_at, path_item, refusal}
use Rattle.e57_cloud.proofs.Laws.Reached.{chunk_at-indexed}
use Rattle.e57_spans.specs.Spans.{Span, span, records_in, IsSpanOf, or_lost, index_spans, next_start, spans_on, walk_spans, walk_spans_from, section_spans}
use Rattle.e57_spans.specs.Judged.{HasOneWay, IsSoundRecord, with_items, spans_of, judged}
use Rattle.e57_spans.proofs.Laws.Chains.{among-cases, chain-within, chain-has, chain-one, chain-records}
use Rattle.e57_spans.proofs.Laws.Found.{index-chain, judged-of}
use Rattle.e57_spans.proofs.Laws.Items.{AreSound, sound-items, items-sound, section-count, found-chain, cloud-chain, among-items}
use Rattle.e57_spans.proofs.Laws.Paths.{HasEntryWay, judged-items, index-way}
use Rattle.e57_spans.proofs.Laws.Covered.{HasOneChunk, walk-way}

-- ---- one way

chunk-way : (x : Span) (way : ℕ → Result ChunkAt Fault) → HasOneChunk x way → HasOneWay x way
chunk-way x way is = record { leads_to = Ok (record { first = x.first; until = x.until; place = is.place }); same = is.leads; ends = (refl, refl) }

-- without a Float field one chunk has all records
single-spans : (s : Section) (first : ℕ) (w : Stretch) (next : Option ℕ) (later : ℕ → List Span) (x : Span) → Contains (spans_on s first 0 w next later) x → (x.first ≡ first) × (x.until ≡ s.count)
single-spans s first w None later x among =
    ⊎_elim
    (λ (this : span first s.count w.fault ≡ x). (sym (ap (λ (z : Span). z.first) this), sym (ap (λ (z : Span). z.until) this)))
    (λ (rest : Contains [] x). absurd (omega (arith, rest.1)))
    (among-cases (span first s.count w.fault) [] x among)
single-spans s first w (Some q) later x among =
    let lost = span first s.count (option_or w.fault (Some (fault RestartUnindexed s.node q))) in
    ⊎_elim
    (λ (this : lost ≡ x). (sym (ap (λ (z : Span). z.first) this), sym (ap (λ (z : Span). z.until) this)))
    (λ (rest : Contains [] x). absurd (omega (arith, rest.1)))
    (among-cases lost [] x among)

single-all : (file : List ℕ) (s : Section) (fuel first q : ℕ) (x : Span) → Contains (walk_spans file s None fuel first q) x → (x.first ≡ first) × (x.until ≡ s.count)
unfolding walk_spans
single-all file s zero first q x among =
    ⊎_elim
    (λ (this : span first s.count None ≡ x). (sym (ap (λ (z : Span). z.first) this), sym (ap (λ (z : Span). z.until) this)))
    (λ (rest : Contains [] x). absurd (omega (arith, rest.1)))
    (among-cases (span first s.count None) [] x among)
single-all file s (suc fuel) first q x among = single-spans s first (stretch file s q) (next_start file s q) (λ next. walk_spans file s None fuel (first + 0) next) x among

plain-way : (file : List ℕ) (s : Section) (fixed : Option Fixed) (x : Span) → (s.index == 0) ≡ true → 0 < s.count → Contains (walk_spans file s fixed (s.end - s.data_place) 0 s.data_place) x → x.fault ≡ None → HasOneWay x (chunk_at file s fixed)
unfolding chunk_at path
plain-way file s None x plain some among none =
    let all = single-all file s (s.end - s.data_place) 0 s.data_place x among in
    record { leads_to = Ok (record { first = 0; until = s.count; place = s.data_place }); same = λ j low high. rw plain refl; ends = (sym all.0, sym all.1) }
plain-way file s (Some fixed) x plain some among none =
    let way = walk-way file s fixed (s.end - s.data_place) 0 s.data_place x (omega arith) some among none in
    chunk-way x (chunk_at file s (Some fixed)) (record { place = way.place; leads = λ j low high. rw plain (way.leads j low high) })

unless-ends : (found : Option Fault) (first until at : ℕ) → IfOk (unless found (Ok (record { first = first; until = until; place = at }))) (λ (chunk : ChunkAt). (chunk.first ≡ first) × (chunk.until ≡ until))
unless-ends None first until at = (refl, refl)
unless-ends (Some f) first until at = tt

entry-way : (file : List ℕ) (s : Section) (fixed : Option Fixed) (x : Span) → (s.index == 0) ≡ false → HasEntryWay file s x (path file s) → HasOneWay x (chunk_at file s fixed)
entry-way file s fixed x indexed is = record {
  leads_to = _;
  same = λ j low high. chunk_at-indexed file s fixed j indexed ∙ is.leads j low high;
  ends = subst (λ (n : ℕ). IfOk (unless (target_fault file s is.entry) (Ok (record { first = is.entry.first; until = x.until; place = known_place is.entry.place }))) (λ (chunk : ChunkAt). (chunk.first ≡ n) × (chunk.until ≡ x.until))) is.first (unless-ends (target_fault file s is.entry) is.entry.first x.until (known_place is.entry.place));
}

-- All records of a span that is found have one way.
pub section-way : (file : List ℕ) (s : Section) (fixed : Option Fixed) (x : Span) → 0 < s.count → Contains (section_spans file s fixed) x → x.fault ≡ None → HasOneWay x (chunk_at file s fixed)
unfolding section_spans
section-way file s fixed x some among none =
    ⊎_elim
    (λ (plain : (s.index == 0) ≡ true). plain-way file s fixed x plain some (rw plain at among) none)
    (λ (indexed : (s.index == 0) ≡ false). entry-way file s fixed x indexed (index-way file s x indexed some (rw indexed at among) none))
    (cases_Bool (s.index == 0))

-- ---- which spans have no fault

-- Each field of each record of a sound span is found.
pub span-sound : (file : List ℕ) (c : Cloud) (x : Span) → Contains (spans_of file c) x → x.fault ≡ None → AreSound file c x
unfolding spans_of with_items
span-sound file c x among none =
    ⊎_elim
    (λ (empty : (c.count == 0) ≡ true). absurd (let nothing = (rw empty at among).1 in omega arith))
    (λ (some : (c.count == 0) ≡ false).
    let from = among-items file c (or_lost 0 c.count (section_fault file c.node c.offset) (section_spans file (section_of file c) (fixed_of c))) x (rw some at among) in
    let sound = sound-items file c from.0 (ap (λ (z : Span). z.fault) from.2 ∙ none) in
    let start : from.0.first ≡ x.first = ap (λ (z : Span). z.first) from.2 in
    let ends : from.0.until ≡ x.until = ap (λ (z : Span). z.until) from.2 in
    λ i low high. sound.1 i (omega arith) (omega arith))
    (cases_Bool (c.count == 0))

-- a field that isn't found makes its record unsound
refused-never : (file : List ℕ) (c : Cloud) (i : ℕ) (leaf : Leaf) (leaves : List Leaf) (found : Fault) → c.leaves ≡ leaf ∷ leaves → path_item file c 0 leaf i ≡ Err found → IsSoundRecord file c i → ⊥
refused-never file c i leaf leaves found has err sound = never found (sym (ap refusal err) ∙ sound 0 leaf (ap (λ (all : List Leaf). slice_get all 0) has)) where
  never : (f : Fault) → Some f ≡ None → ⊥
  never f e = cc

header-lost : (file : List ℕ) (c : Cloud) (f : ℕ) (leaf : Leaf) (i : ℕ) (found : Fault) → section_fault file c.node c.offset ≡ Some found → path_item file c f leaf i ≡ Err found
unfolding path_item
header-lost file c f leaf i found is = rw is refl

index-lost : (file : List ℕ) (c : Cloud) (f : ℕ) (leaf : Leaf) (i : ℕ) (found : Fault) → section_fault file c.node c.offset ≡ None → ((section_of file c).index == 0) ≡ false → (judged file (section_of file c) i).fault ≡ Some found → path_item file c f leaf i ≡ Err found
unfolding path_item
index-lost file c f leaf i found header indexed lost = rw (header, judged-items file (section_of file c) (fixed_of c) f leaf i found indexed lost) refl

-- spans of a section with an index that aren't found
pub found-exact : (file : List ℕ) (c : Cloud) (leaf : Leaf) (leaves : List Leaf) (x : Span) → 0 < c.count → ((section_of file c).index == 0) ≡ false → c.leaves ≡ leaf ∷ leaves
    → Contains (or_lost 0 c.count (section_fault file c.node c.offset) (section_spans file (section_of file c) (fixed_of c))) x → AreSound file c x → x.fault ≡ None
unfolding section_spans
found-exact file c leaf leaves x some indexed has among sound = by_header (section_fault file c.node c.offset) refl among
  where
    s : Section
    s = section_of file c

    size : s.count ≡ c.count
    size = section-count file c.node c.offset c.count _

    by_fault : section_fault file c.node c.offset ≡ None → Contains (index_spans file s) x → (o : Option Fault) → x.fault ≡ o → o ≡ None
    by_fault header there None is = refl
    by_fault header there (Some f) is =
        let chain = index-chain file s (omega (arith, size)) in
        let within = chain-within 0 s.count (index_spans file s) x chain there in
        let this = judged-of file s x.first (omega (arith, within.1, within.2)) in
        let same : judged file s x.first ≡ x = chain-one 0 s.count (index_spans file s) x.first (judged file s x.first) x chain this (record { among = there; low = omega arith; high = within.1 }) in
        absurd (refused-never file c x.first leaf leaves f has (index-lost file c 0 leaf x.first f header indexed (ap (λ (z : Span). z.fault) same ∙ is)) (sound x.first (omega arith) within.1))

    by_header : (o : Option Fault) → section_fault file c.node c.offset ≡ o → Contains (or_lost 0 c.count o (if s.index == 0 then walk_spans_from file s (fixed_of c) 0 s.data_place else index_spans file s)) x → x.fault ≡ None
    by_header None header there = by_fault header (rw indexed at there) x.fault refl
    by_header (Some f) header there =
        ⊎_elim
        (λ (this : span 0 c.count (Some f) ≡ x).
        let start : 0 ≡ x.first = ap (λ (z : Span). z.first) this in
        let ends : c.count ≡ x.until = ap (λ (z : Span). z.until) this in
        absurd (refused-never file c 0 leaf leaves f has (header-lost file c 0 leaf 0 f header) (sound 0 (omega arith) (omega arith))))
        (λ (rest : Contains [] x). absurd (omega (arith, rest.1)))
        (among-cases (span 0 c.count (Some f)) [] x there)

of-items : (file : List ℕ) (c : Cloud) (y x : Span) → with_items file c y ≡ x → AreSound file c x → AreSound file c y
unfolding with_items
of-items file c y x is sound i low high =
    let start : y.first ≡ x.first = ap (λ (z : Span). z.first) is in
    let ends : y.until ≡ x.until = ap (λ (z : Span). z.until) is in
    sound i (omega arith) (omega arith)

-- With an index, a span of a cloud with a field has no fault exactly if each field of each of its records is found.
pub span-exact : (file : List ℕ) (c : Cloud) (leaf : Leaf) (leaves : List Leaf) (x : Span) → ((section_of file c).index == 0) ≡ false → c.leaves ≡ leaf ∷ leaves → Contains (spans_of file c) x → AreSound file c x → x.fault ≡ None
unfolding spans_of
span-exact file c leaf leaves x indexed has among sound =
    ⊎_elim
    (λ (empty : (c.count == 0) ≡ true). absurd (let nothing = (rw empty at among).1 in omega arith))
    (λ (some : (c.count == 0) ≡ false).
    let counted = above c.count some in
    let found = or_lost 0 c.count (section_fault file c.node c.offset) (section_spans file (section_of file c) (fixed_of c)) in
    let from = among-items file c found x (rw some at among) in
    let within = chain-within 0 c.count found from.0 (found-chain file c counted) from.1 in
    let all : AreSound file c from.0 = of-items file c from.0 x from.2 sound in
    sym (ap (λ (z : Span). z.fault) from.2) ∙ items-sound file c from.0 (found-exact file c leaf leaves from.0 counted indexed has from.1 all) (omega (arith, within.1)) all)
    (cases_Bool (c.count == 0))
  where
    above : (n : ℕ) → (n == 0) ≡ false → 0 < n
    above zero none = cc
    above (suc n) some = omega arith

-- ---- all records of a cloud

pub span-record : (file : List ℕ) (c : Cloud) (i : ℕ) (x : Span) → IsSpanOf (spans_of file c) i x → x.fault ≡ None → IsSoundRecord file c i
span-record file c i x is none = span-sound file c x is.among none i is.low is.high

pub cloud-records : (file : List ℕ) (c : Cloud) → flat_map records_in (spans_of file c) ≡ range_with_len 0 c.count
cloud-records file c = let all : c.count - 0 ≡ c.count = omega arith in chain-records 0 c.count (spans_of file c) (cloud-chain file c) ∙ ap (range_with_len 0) all

pub cloud-has : (file : List ℕ) (c : Cloud) (i : ℕ) → i < c.count → (x : Span) × IsSpanOf (spans_of file c) i x
cloud-has file c i below = chain-has 0 c.count (spans_of file c) i (cloud-chain file c) (omega arith) below

pub cloud-one : (file : List ℕ) (c : Cloud) (i : ℕ) (x y : Span) → IsSpanOf (spans_of file c) i x → IsSpanOf (spans_of file c) i y → x ≡ y
cloud-one file c i x y f g = chain-one 0 c.count (spans_of file c) i x y (cloud-chain file c) f g
