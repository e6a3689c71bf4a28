-- Laws of a section with an index: the path of a record ends with the fault of its span, and all records of a span that is found have one
-- path.
use Rattle.std.specs.Prelude.{◌≡◌, ℕ, zero, suc, ◌<◌, ◌≤◌, ◌==◌, false, List, [], ◌∷◌, Option, Some, None, Result, Ok, Err, Contains}
use Rattle.std.proofs.Common.{refl, ap, ◌∙◌, arith, ⊎_elim, inl, inr}
use Rattle.std.proofs.lemmas.List.Elements.{Contains-append_cases}
use Rattle.e57_base.specs.declared.fault.Fault.{Fault}
use Rattle.e57_layout.specs.Values.{Value}
use Rattle.e57_layout.specs.declared.section.Section.{Section}
use Rattle.e57_layout.specs.declared.packet.Entry.{Entry}
use Rattle.e57_layout.specs.declared.field.Fixed.{Fixed}
use Rattle.e57_cloud.specs.Index.{known_place, entries_of, next_first, index_packet_fault, target_fault, root_fault, root_level, root_entry, HasEntry}
use Rattle.e57_cloud.specs.Cloud.{Leaf}
use Rattle.e57_cloud.specs.PathItem.{ChunkAt, unless, pick, by_entry, descend, path, constant_of, item_by, item_of}
use Rattle.e57_cloud.proofs.Laws.Descents.{entry-within, packet-entries, by_entry-is}
use Rattle.e57_cloud.proofs.Laws.Reached.{chunk_at-indexed}
use Rattle.e57_spans.specs.Spans.{Span, span, or_lost, each_span, entry_spans, index_spans}
use Rattle.e57_spans.specs.Judged.{or_lost_span, picked_span, judged_below, judged}
use Rattle.e57_spans.proofs.Laws.Chains.{among-cases, chain-within}
use Rattle.e57_spans.proofs.Laws.Found.{entry-chain}

-- ---- a span that is lost

lost-way : {X : Type 0} (first until : ℕ) (found : Option Fault) (x : Span) (way : Result X Fault) (f : Fault) → (or_lost_span first until found x).fault ≡ Some f → (found ≡ None → x.fault ≡ Some f → way ≡ Err f) → unless found way ≡ Err f
lost-way first until None x way f lost on = on refl lost
lost-way {X = X} first until (Some g) x way f lost on = same g f lost where
  same : (a b : Fault) → ◌≡◌ {A = Option Fault} (Some a) (Some b) → ◌≡◌ {A = Result X Fault} (Err a) (Err b)
  same a b e = cc

below-lost : (file : List ℕ) (s : Section) (i height : ℕ) (e : Entry) (bound : ℕ) (f : Fault) → (judged_below file s i height e bound).fault ≡ Some f → descend file s i height e bound ≡ Err f
unfolding judged_below descend
below-lost file s i zero e bound f lost = cc
below-lost file s i (suc level) e bound f lost =
    lost-way e.first bound (index_packet_fault file s level e bound) (picked_span (judged_below file s i level) i bound (entries_of file e.place)) (by_entry (descend file s i level) i bound (entries_of file e.place)) f lost
    (λ none lost_below. picked (entries_of file e.place) lost_below (λ x ends lost_there. below-lost file s i level x ends f lost_there))
  where
    picked : (es : List Entry) → (picked_span (judged_below file s i level) i bound es).fault ≡ Some f → ((x : Entry) (ends : ℕ) → (judged_below file s i level x ends).fault ≡ Some f → descend file s i level x ends ≡ Err f)
        → by_entry (descend file s i level) i bound es ≡ Err f
    picked [] lost_below each = cc
    picked (x ∷ es) lost_below each = each (pick i bound x es).0 (pick i bound x es).1 lost_below

-- The fault of a record's span is the first one on its path.
pub judged-lost : (file : List ℕ) (s : Section) (i : ℕ) (f : Fault) → (s.index == 0) ≡ false → (judged file s i).fault ≡ Some f → path file s i ≡ Err f
unfolding judged path
judged-lost file s i f indexed lost =
    rw indexed
    (lost-way 0 s.count (root_fault file s) (judged_below file s i (suc (root_level file s)) (root_entry s) s.count) (descend file s i (suc (root_level file s)) (root_entry s) s.count) f lost
    (λ none lost_below. below-lost file s i (suc (root_level file s)) (root_entry s) s.count f lost_below))

-- and that of each of its fields
pub judged-items : (file : List ℕ) (s : Section) (fixed : Option Fixed) (f : ℕ) (leaf : Leaf) (i : ℕ) (found : Fault) → (s.index == 0) ≡ false → (judged file s i).fault ≡ Some found → item_of file s fixed f leaf i ≡ Err found
unfolding item_of
judged-items file s fixed f leaf i found indexed lost = by_constant (constant_of leaf.kind)
  where
    by_constant : (o : Option Value) → item_by file s fixed f leaf i o ≡ Err found
    by_constant None = rw (chunk_at-indexed file s fixed i indexed, judged-lost file s i found indexed lost) refl
    by_constant (Some v) = rw (judged-lost file s i found indexed lost) refl

-- ---- a span that is found

-- where an entry of height 0 leads the records before this one
abbrev pub led_to : List ℕ → Section → Entry → ℕ → Result ChunkAt Fault
led_to file s e until = unless (target_fault file s e) (Ok (record { first = e.first; until = until; place = known_place e.place }))

-- All records of the span are led to the chunk of one entry, if that names a data packet.
pub record HasEntryWay (file : List ℕ) (s : Section) (x : Span) (way : ℕ → Result ChunkAt Fault) : Type 0 where
  pub entry : Entry
  pub first : entry.first ≡ x.first
  pub leads : (j : ℕ) → x.first ≤ j → j < x.until → way j ≡ led_to file s entry x.until

-- the entry below which a span stands
record HasChild (f : Entry → ℕ → List Span) (bound : ℕ) (es : List Entry) (x : Span) : Type 0 where
  pub child : Entry
  pub ends : ℕ
  pub there : HasEntry bound es child ends
  pub among : Contains (f child ends) x

child-of : (f : Entry → ℕ → List Span) (bound : ℕ) (es : List Entry) (x : Span) → Contains (each_span f bound es) x → HasChild f bound es x
unfolding each_span
child-of f bound [] x among = absurd (omega (arith, among.1))
child-of f bound (e ∷ es) x among =
    ⊎_elim
    (λ (here : Contains (f e (next_first bound es)) x). record { child = e; ends = next_first bound es; there = inl (refl, refl); among = here })
    (λ (later : Contains (each_span f bound es) x). let rest = child-of f bound es x later in record { child = rest.child; ends = rest.ends; there = inr rest.there; among = rest.among })
    (Contains-append_cases (f e (next_first bound es)) (each_span f bound es) x among)

-- a span with a fault alone
lost-among : (first until : ℕ) (found : Option Fault) (spans : List Span) (x : Span) → Contains (or_lost first until found spans) x → x.fault ≡ None → (found ≡ None) × Contains spans x
lost-among first until None spans x among none = (refl, among)
lost-among first until (Some f) spans x among none =
    ⊎_elim
    (λ (this : span first until (Some f) ≡ x). absurd (never f (ap (λ (z : Span). z.fault) this ∙ none)))
    (λ (later : Contains [] x). absurd (omega (arith, later.1)))
    (among-cases (span first until (Some f)) [] x among)
  where
    never : (f : Fault) → Some f ≡ None → ⊥
    never f e = cc

down : (found : Option Fault) (way last : Result ChunkAt Fault) → found ≡ None → way ≡ last → unless found way ≡ last
down found way last none same = ap (λ (o : Option Fault). unless o way) none ∙ same

-- a step down the index
step-way : (file : List ℕ) (s : Section) (j level : ℕ) (e : Entry) (bound : ℕ) (child : Entry) (ends : ℕ) (last : Result ChunkAt Fault) → index_packet_fault file s level e bound ≡ None → HasEntry bound (entries_of file e.place) child ends
    → child.first ≤ j → j < ends → descend file s j level child ends ≡ last → descend file s j (suc level) e bound ≡ last
unfolding descend
step-way file s j level e bound child ends last none there low high same =
    let packet = packet-entries file s level e bound none in
    down (index_packet_fault file s level e bound) (by_entry (descend file s j level) j bound (entries_of file e.place)) last none
    (by_entry-is (descend file s j level) j e.first bound (entries_of file e.place) child ends packet.0 there low high ∙ same)

below-way : (file : List ℕ) (s : Section) (height : ℕ) (e : Entry) (bound : ℕ) (x : Span) → e.first < bound → Contains (entry_spans file s height e bound) x → x.fault ≡ None → HasEntryWay file s x (λ j. descend file s j height e bound)
unfolding entry_spans descend
below-way file s zero e bound x low among none =
    ⊎_elim
    (λ (this : span e.first bound None ≡ x).
    let ends : bound ≡ x.until = ap (λ (z : Span). z.until) this in
    record {
      entry = e;
      first = ap (λ (z : Span). z.first) this;
      leads = λ j first last. ap (led_to file s e) ends;
    })
    (λ (later : Contains [] x). absurd (omega (arith, later.1)))
    (among-cases (span e.first bound None) [] x among)
below-way file s (suc level) e bound x low among none =
    let parts = lost-among e.first bound (index_packet_fault file s level e bound) (each_span (entry_spans file s level) bound (entries_of file e.place)) x among none in
    let packet = packet-entries file s level e bound parts.0 in
    let one = child-of (entry_spans file s level) bound (entries_of file e.place) x parts.1 in
    let inside = entry-within e.first bound (entries_of file e.place) one.child one.ends packet.0 one.there in
    let within = chain-within one.child.first one.ends (entry_spans file s level one.child one.ends) x (entry-chain file s level one.child one.ends inside.1) one.among in
    let way = below-way file s level one.child one.ends x inside.1 one.among none in
    record {
      entry = way.entry;
      first = way.first;
      leads = λ j first last. step-way file s j level e bound one.child one.ends (led_to file s way.entry x.until) parts.0 one.there (omega (arith, within.0)) (omega (arith, within.2)) (way.leads j first last);
    }

-- All records of a span of an index that is found have one path.
pub index-way : (file : List ℕ) (s : Section) (x : Span) → (s.index == 0) ≡ false → 0 < s.count → Contains (index_spans file s) x → x.fault ≡ None → HasEntryWay file s x (path file s)
unfolding index_spans path
index-way file s x indexed some among none =
    let parts = lost-among 0 s.count (root_fault file s) (entry_spans file s (suc (root_level file s)) (root_entry s) s.count) x among none in
    let way = below-way file s (suc (root_level file s)) (root_entry s) s.count x some parts.1 none in
    record { entry = way.entry; first = way.first; leads = λ j first last. rw indexed (down (root_fault file s) (descend file s j (suc (root_level file s)) (root_entry s) s.count) (led_to file s way.entry x.until) parts.0 (way.leads j first last)) }
