-- Laws of the spans of a section: they follow one another from record 0 to its last one, and by an index a record's span is found on its
-- path alone.
use Rattle.std.specs.Prelude.{◌≡◌, ℕ, zero, suc, ◌+◌, ◌-◌, ◌<◌, ◌≤◌, ◌==◌, ◌||◌, not, nat_lt, true, false, List, [], ◌∷◌, length, Option, Some, None}
use Rattle.std.specs.Option.{option_or}
use Rattle.std.proofs.Common.{refl, subst, arith, ⊎_elim}
use Rattle.std.proofs.lemmas.Bool.{cases_Bool, ltb-true, ltb-false, or_parts, not-false}
use Rattle.e57_base.specs.declared.fault.Fault.{Fault}
use Rattle.e57_base.specs.declared.kind.Kind.TheVariants.{RestartUnindexed}
use Rattle.e57_base.specs.Fault.{fault}
use Rattle.e57_layout.specs.declared.section.Section.{Section}
use Rattle.e57_layout.specs.declared.packet.Entry.{Entry}
use Rattle.e57_layout.specs.declared.field.Fixed.{Fixed}
use Rattle.e57_cloud.specs.Index.{entries_of, next_first, index_packet_fault, root_fault, root_level, root_entry, Rises}
use Rattle.e57_cloud.specs.Chunks.{float_items}
use Rattle.e57_cloud.specs.PathItem.{Stretch, stretch, pick}
use Rattle.e57_cloud.proofs.Laws.Descents.{packet-entries}
use Rattle.e57_spans.specs.Spans.{Span, span, IsChain, IsSpanOf, or_lost, each_span, entry_spans, index_spans, next_start, spans_on, walk_spans, section_spans}
use Rattle.e57_spans.specs.Judged.{or_lost_span, picked_span, judged_below, judged}
use Rattle.e57_spans.proofs.Laws.Chains.{among-one, of-left, of-right, chain-append}

one-chain : (first until : ℕ) (found : Option Fault) → first < until → IsChain first until (span first until found ∷ [])
one-chain first until found low = (refl, low, refl)

pub lost-chain : (first until : ℕ) (found : Option Fault) (spans : List Span) → first < until → (found ≡ None → IsChain first until spans) → IsChain first until (or_lost first until found spans)
lost-chain first until None spans low chain = chain refl
lost-chain first until (Some x) spans low chain = one-chain first until (Some x) low

-- ---- with an index

each-chain : (f : Entry → ℕ → List Span) (least bound : ℕ) (es : List Entry) → ((e : Entry) (ends : ℕ) → e.first < ends → IsChain e.first ends (f e ends)) → Rises least bound es → IsChain (next_first bound es) bound (each_span f bound es)
unfolding each_span
each-chain f least bound [] each up = refl
each-chain f least bound (e ∷ []) each up = chain-append e.first bound bound (f e bound) [] (each e bound up.1) refl
each-chain f least bound (e ∷ x ∷ es) each up =
    chain-append e.first x.first bound (f e x.first) (each_span f bound (x ∷ es)) (each e x.first (omega (arith, up.2.0))) (each-chain f (e.first + 1) bound (x ∷ es) each up.2)

pub entry-chain : (file : List ℕ) (s : Section) (height : ℕ) (e : Entry) (bound : ℕ) → e.first < bound → IsChain e.first bound (entry_spans file s height e bound)
unfolding entry_spans
entry-chain file s zero e bound low = one-chain e.first bound None low
entry-chain file s (suc level) e bound low =
    lost-chain e.first bound (index_packet_fault file s level e bound) (each_span (entry_spans file s level) bound (entries_of file e.place)) low
    (λ none.
    let packet = packet-entries file s level e bound none in
    subst (λ (n : ℕ). IsChain n bound (each_span (entry_spans file s level) bound (entries_of file e.place))) packet.1
    (each-chain (entry_spans file s level) e.first bound (entries_of file e.place) (λ x ends under. entry-chain file s level x ends under) packet.0))

pub index-chain : (file : List ℕ) (s : Section) → 0 < s.count → IsChain 0 s.count (index_spans file s)
unfolding index_spans
index-chain file s some =
    lost-chain 0 s.count (root_fault file s) (entry_spans file s (suc (root_level file s)) (root_entry s) s.count) some
    (λ none. entry-chain file s (suc (root_level file s)) (root_entry s) s.count some)

-- ---- the span of a record

one-of : (first until : ℕ) (found : Option Fault) (i : ℕ) → first ≤ i → i < until → IsSpanOf (span first until found ∷ []) i (span first until found)
one-of first until found i low high = record { among = among-one (span first until found); low = low; high = high }

lost-of : (first until : ℕ) (found : Option Fault) (spans : List Span) (x : Span) (i : ℕ) → first ≤ i → i < until → (found ≡ None → IsSpanOf spans i x) → IsSpanOf (or_lost first until found spans) i (or_lost_span first until found x)
lost-of first until None spans x i low high is = is refl
lost-of first until (Some f) spans x i low high is = one-of first until (Some f) i low high

-- of each entry, the span of a record of its own
abbrev EachOf : (Entry → ℕ → List Span) → (Entry → ℕ → Span) → ℕ → Type 0
EachOf f g i = (e : Entry) (ends : ℕ) → e.first ≤ i → i < ends → IsSpanOf (f e ends) i (g e ends)

picked-of : (f : Entry → ℕ → List Span) (g : Entry → ℕ → Span) (i bound : ℕ) (e : Entry) (es : List Entry) → EachOf f g i → e.first ≤ i → i < bound → IsSpanOf (each_span f bound (e ∷ es)) i (g (pick i bound e es).0 (pick i bound e es).1)
unfolding each_span pick
picked-of f g i bound e [] each low high = of-left (f e bound) [] i (g e bound) (each e bound low high)
picked-of f g i bound e (x ∷ es) each low high =
    ⊎_elim
    (λ (before : nat_lt i x.first ≡ true). rw before (of-left (f e x.first) (each_span f bound (x ∷ es)) i (g e x.first) (each e x.first low (ltb-true i x.first before))))
    (λ (past : nat_lt i x.first ≡ false).
    rw past
    (of-right (f e x.first) (each_span f bound (x ∷ es)) i (g (pick i bound x es).0 (pick i bound x es).1) (picked-of f g i bound x es each (ltb-false i x.first past) high)))
    (cases_Bool (nat_lt i x.first))

listed-of : (f : Entry → ℕ → List Span) (g : Entry → ℕ → Span) (i first bound : ℕ) (es : List Entry) → EachOf f g i → next_first bound es ≡ first → 0 < length es → first ≤ i → i < bound → IsSpanOf (each_span f bound es) i (picked_span g i bound es)
listed-of f g i first bound [] each begins some low high = absurd (omega arith)
listed-of f g i first bound (e ∷ es) each begins some low high = picked-of f g i bound e es each (omega (arith, begins)) high

pub below-of : (file : List ℕ) (s : Section) (i height : ℕ) (e : Entry) (bound : ℕ) → e.first ≤ i → i < bound → IsSpanOf (entry_spans file s height e bound) i (judged_below file s i height e bound)
unfolding entry_spans judged_below
below-of file s i zero e bound low high = one-of e.first bound None i low high
below-of file s i (suc level) e bound low high =
    lost-of e.first bound (index_packet_fault file s level e bound) (each_span (entry_spans file s level) bound (entries_of file e.place)) (picked_span (judged_below file s i level) i bound (entries_of file e.place)) i low high
    (λ none.
    let packet = packet-entries file s level e bound none in
    listed-of (entry_spans file s level) (judged_below file s i level) i e.first bound (entries_of file e.place) (λ x ends first last. below-of file s i level x ends first last) packet.1 packet.2 low high)

pub judged-of : (file : List ℕ) (s : Section) (i : ℕ) → i < s.count → IsSpanOf (index_spans file s) i (judged file s i)
unfolding index_spans judged
judged-of file s i below =
    lost-of 0 s.count (root_fault file s) (entry_spans file s (suc (root_level file s)) (root_entry s) s.count) (judged_below file s i (suc (root_level file s)) (root_entry s) s.count) i (omega arith) below
    (λ none. below-of file s i (suc (root_level file s)) (root_entry s) s.count (omega arith) below)

-- ---- without an index

on-chain : (s : Section) (first items : ℕ) (w : Stretch) (next : Option ℕ) (later : ℕ → List Span) → first < s.count → ((q : ℕ) → next ≡ Some q → 0 < items → first + items < s.count → IsChain (first + items) s.count (later q)) → IsChain first s.count (spans_on s first items w next later)
on-chain s first items w None later low chain = one-chain first s.count w.fault low
on-chain s first items w (Some q) later low chain =
    ⊎_elim
    (λ (refused : (items == 0 || not (nat_lt (first + items) s.count)) ≡ true). rw refused (one-chain first s.count (option_or w.fault (Some (fault RestartUnindexed s.node q))) low))
    (λ (goes : (items == 0 || not (nat_lt (first + items) s.count)) ≡ false).
    let parts = or_parts (items == 0) (not (nat_lt (first + items) s.count)) goes in
    let some : 0 < items = above items parts.0 in
    let left = ltb-true (first + items) s.count (not-false (nat_lt (first + items) s.count) parts.1) in
    rw goes (refl, omega arith, chain q refl some left))
    (cases_Bool (items == 0 || not (nat_lt (first + items) s.count)))
  where
    above : (n : ℕ) → (n == 0) ≡ false → 0 < n
    above zero none = cc
    above (suc n) some = omega arith

pub walk-chain : (file : List ℕ) (s : Section) (fixed : Option Fixed) (fuel first q : ℕ) → first < s.count → IsChain first s.count (walk_spans file s fixed fuel first q)
unfolding walk_spans
walk-chain file s fixed zero first q low = one-chain first s.count None low
walk-chain file s fixed (suc fuel) first q low =
    let items = float_items fixed (stretch file s q).packets in
    on-chain s first items (stretch file s q) (next_start file s q) (λ next. walk_spans file s fixed fuel (first + items) next) low
    (λ next is some left. walk-chain file s fixed fuel (first + items) next left)

-- ---- a section

-- The spans of a section follow one another from record 0 to its last one.
pub section-chain : (file : List ℕ) (s : Section) (fixed : Option Fixed) → 0 < s.count → IsChain 0 s.count (section_spans file s fixed)
unfolding section_spans
section-chain file s fixed some =
    ⊎_elim
    (λ (plain : (s.index == 0) ≡ true). rw plain (walk-chain file s fixed (s.end - s.data_place) 0 s.data_place some))
    (λ (indexed : (s.index == 0) ≡ false). rw indexed (index-chain file s some))
    (cases_Bool (s.index == 0))
