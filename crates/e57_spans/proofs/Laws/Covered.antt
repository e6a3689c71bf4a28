-- Law of a section without an index: all records of a span that is found are of one chunk, which is walked from one place on.
use Rattle.std.specs.Prelude.{◌≡◌, ℕ, zero, suc, ◌+◌, ◌-◌, ◌<◌, ◌≤◌, ◌⊎◌, ◌==◌, ◌||◌, not, min, nat_lt, true, false, List, [], ◌∷◌, Option, Some, None, Result, Ok, Contains}
use Rattle.std.specs.Option.{option_or}
use Rattle.std.proofs.Common.{refl, ap, subst, ◌∙◌, arith, ⊎_elim, inl, inr}
use Rattle.std.proofs.lemmas.Bool.{cases_Bool, lt-ltb, le-ltb, ltb-true, or_parts, not-false}
use Rattle.e57_base.specs.declared.fault.Fault.{Fault}
use Rattle.e57_base.specs.declared.kind.Kind.TheVariants.{RestartUnindexed}
use Rattle.e57_base.specs.Fault.{fault}
use Rattle.e57_base.proofs.Options.{option_or_parts}
use Rattle.e57_layout.specs.declared.section.Section.{Section}
use Rattle.e57_layout.specs.declared.field.Fixed.{Fixed}
use Rattle.e57_cloud.specs.Walk.{Packet}
use Rattle.e57_cloud.specs.Chunks.{float_items}
use Rattle.e57_cloud.specs.PathItem.{ChunkAt, Stretch, stretch_of, stretch, covered, cover_from, cover}
use Rattle.e57_cloud.specs.Walk.{walk_from}
use Rattle.e57_cloud.specs.Chunks.{data_packets, by_chunk}
use Rattle.e57_cloud.proofs.Laws.Covers.{cover_from-step}
use Rattle.e57_spans.specs.Spans.{Span, span, next_start, spans_on, walk_spans}
use Rattle.e57_spans.proofs.Laws.Chains.{among-cases, chain-within}
use Rattle.e57_spans.proofs.Laws.Found.{walk-chain}
use Rattle.e57_spans.proofs.Laws.Walks.{EndsAt, stretch-empty, IsNext, by_restart, by_fault, next-cases, start-after}

-- All records of the span are of the chunk from this place on.
pub record HasOneChunk (x : Span) (way : ℕ → Result ChunkAt Fault) : Type 0 where
  pub place : ℕ
  pub leads : (j : ℕ) → x.first ≤ j → j < x.until → way j ≡ Ok (record { first = x.first; until = x.until; place = place })

chunk_of : ℕ → ℕ → ℕ → Result ChunkAt Fault
chunk_of first until q = Ok (record { first = first; until = until; place = q })

-- ---- one step of the search

step-last : (s : Section) (j first q items : ℕ) (packets : List Packet) (go : ℕ → Result ChunkAt Fault) → covered s j first q items (record { packets = packets; fault = None; next = None }) go ≡ Ok (record { first = first; until = s.count; place = q })
step-last s j first q items packets go =
    ⊎_elim (λ (here : nat_lt (j - first) items ≡ true). rw here refl) (λ (past : nat_lt (j - first) items ≡ false). rw past refl) (cases_Bool (nat_lt (j - first) items))

-- a record of a chunk that isn't the last one
step-here : (s : Section) (j first q items : ℕ) (w : Stretch) (go : ℕ → Result ChunkAt Fault) → (n : ℕ) → (w.next ≡ Some n) ⊎ ((f : Fault) × (w.fault ≡ Some f)) → first ≤ j → j < first + items → first + items < s.count
    → covered s j first q items w go ≡ Ok (record { first = first; until = first + items; place = q })
step-here s j first q items w go n goes low high left =
    let least : min s.count (first + items) ≡ first + items = omega arith in
    by_parts w.packets w.fault w.next goes least (lt-ltb (j - first) items (omega arith))
  where
    by_parts : (packets : List Packet) (found : Option Fault) (next : Option ℕ) → (next ≡ Some n) ⊎ ((f : Fault) × (found ≡ Some f)) → min s.count (first + items) ≡ first + items → nat_lt (j - first) items ≡ true
        → covered s j first q items (record { packets = packets; fault = found; next = next }) go ≡ Ok (record { first = first; until = first + items; place = q })
    by_parts packets None None more least here = absurd (⊎_elim (λ (some : None ≡ Some n). never some) (λ (some : (f : Fault) × (None ≡ Some f)). never_fault some.0 some.1) more) where
      never : None ≡ Some n → ⊥
      never e = cc

      never_fault : (f : Fault) → None ≡ Some f → ⊥
      never_fault f e = cc
    by_parts packets None (Some m) more least here = rw (here, least) refl
    by_parts packets (Some f) next more least here = rw (here, least) refl

-- a record of a later one
step-on : (s : Section) (j first q items n : ℕ) (packets : List Packet) (go : ℕ → Result ChunkAt Fault) → first + items ≤ j → (items == 0) ≡ false → covered s j first q items (record { packets = packets; fault = None; next = Some n }) go ≡ go n
step-on s j first q items n packets go low some = rw (le-ltb (j - first) items (omega arith), some) refl

-- ---- the spans

none-sound : (found : Option Fault) (pieces : List (List Packet)) (n : ℕ) → (stretch_of found pieces).next ≡ Some n → (stretch_of found pieces).fault ≡ None
none-sound found [] n is = cc
none-sound found (chunk ∷ []) n is = cc
none-sound found (chunk ∷ later ∷ more) n is = refl

next-sound : (file : List ℕ) (s : Section) (q n : ℕ) → (stretch file s q).next ≡ Some n → (stretch file s q).fault ≡ None
unfolding stretch
next-sound file s q n is = none-sound (walk_from file s q).fault (by_chunk (data_packets (walk_from file s q).packets)) n is

same-stretch : (w : Stretch) (found : Option Fault) (next : Option ℕ) → w.fault ≡ found → w.next ≡ next → w ≡ record { packets = w.packets; fault = found; next = next }
same-stretch w found next a b = ap (λ (o : Option Fault). record { packets = w.packets; fault = o; next = w.next }) a ∙ ap (λ (o : Option ℕ). record { packets = w.packets; fault = found; next = o }) b

only : (y x : Span) → Contains (y ∷ []) x → y ≡ x
only y x among = ⊎_elim (λ (this : y ≡ x). this) (λ (later : Contains [] x). absurd (omega (arith, later.1))) (among-cases y [] x among)

-- a chunk whose walk a fault of its first packet ends has no span without a fault
ended-lost : (file : List ℕ) (s : Section) (fixed : Option Fixed) (fuel first q p : ℕ) (found : Fault) (x : Span) → EndsAt file s q p found → s.end - p ≤ fuel → Contains (walk_spans file s fixed fuel first p) x → x.fault ≡ None → ⊥
unfolding walk_spans next_start
ended-lost file s fixed zero first q p found x at enough among none = let there = at.there in omega arith
ended-lost file s fixed (suc fuel) first q p found x at enough among none =
    let walked = stretch-empty file s p (Some found) at.walked in
    let spans : spans_on s first (float_items fixed (stretch file s p).packets) (stretch file s p) (next_start file s p) (λ next. walk_spans file s fixed fuel (first + float_items fixed (stretch file s p).packets) next) ≡ span first s.count (Some found) ∷ [] = rw walked refl in
    let this : span first s.count (Some found) ≡ x = only (span first s.count (Some found)) x (subst (λ (xs : List Span). Contains xs x) spans among) in
    never found (ap (λ (z : Span). z.fault) this ∙ none)
  where
    never : (f : Fault) → Some f ≡ None → ⊥
    never f e = cc

no-next : (file : List ℕ) (s : Section) (q : ℕ) → next_start file s q ≡ None → (stretch file s q).next ≡ None
unfolding next_start
no-next file s q none = (option_or_parts (stretch file s q).next _ none).0

cover-end : (file : List ℕ) (s : Section) (fixed : Fixed) (j first q : ℕ) → s.end ≤ q → cover_from file s fixed j first q ≡ Ok (record { first = first; until = s.count; place = q })
unfolding cover
cover-end file s fixed j first q over = let none : s.end - q ≡ 0 = omega arith in rw none refl

one-chunk : (y x : Span) (way : ℕ → Result ChunkAt Fault) (q : ℕ) → y ≡ x → ((j : ℕ) → y.first ≤ j → j < y.until → way j ≡ Ok (record { first = y.first; until = y.until; place = q })) → HasOneChunk x way
one-chunk y x way q this leads = subst (λ (z : Span). HasOneChunk z way) this (record { place = q; leads = leads })

pub walk-way : (file : List ℕ) (s : Section) (fixed : Fixed) (fuel first q : ℕ) (x : Span) → s.end - q ≤ fuel → first < s.count → Contains (walk_spans file s (Some fixed) fuel first q) x → x.fault ≡ None → HasOneChunk x (λ j. cover_from file s fixed j first q)
unfolding walk_spans
walk-way file s fixed zero first q x enough low among none =
    one-chunk (span first s.count None) x (λ j. cover_from file s fixed j first q) q (only (span first s.count None) x among) (λ j above below. cover-end file s fixed j first q (omega arith))
walk-way file s fixed (suc fuel) first q x enough low among none =
    by_next (λ p after left there. walk-way file s fixed fuel (first + items) p x (omega (arith, after)) left there none) (next_start file s q) refl among
  where
    items : ℕ
    items = float_items (Some fixed) (stretch file s q).packets

    go : ℕ → ℕ → Result ChunkAt Fault
    go j next = cover_from file s fixed j (first + items) next

    later : ℕ → List Span
    later next = walk_spans file s (Some fixed) fuel (first + items) next

    way : ℕ → Result ChunkAt Fault
    way j = cover_from file s fixed j first q

    last : next_start file s q ≡ None → Contains (span first s.count (stretch file s q).fault ∷ []) x → HasOneChunk x way
    last end there =
        let this = only (span first s.count (stretch file s q).fault) x there in
        let free : (stretch file s q).fault ≡ None = ap (λ (z : Span). z.fault) this ∙ none in
        one-chunk (span first s.count (stretch file s q).fault) x way q this
        (λ j above below. cover_from-step file s fixed j first q ∙ ap (λ (w : Stretch). covered s j first q items w (go j)) (same-stretch (stretch file s q) None None free (no-next file s q end)) ∙ step-last s j first q items (stretch file s q).packets (go j))

    fault-or : (p : ℕ) → IsNext file s q p → ((stretch file s q).next ≡ Some p) ⊎ ((f : Fault) × ((stretch file s q).fault ≡ Some f))
    fault-or p (by_restart next) = inl next
    fault-or p (by_fault f ended at) = inr (f, ended)

    this-chunk : (p : ℕ) → next_start file s q ≡ Some p → first + items < s.count → span first (first + items) None ≡ x → HasOneChunk x way
    this-chunk p is left this =
        one-chunk (span first (first + items) None) x way q this
        (λ j above below. cover_from-step file s fixed j first q ∙ step-here s j first q items (stretch file s q) (go j) p (fault-or p (next-cases file s q p is)) above below left)

    later-chunk : (p : ℕ) → IsNext file s q p → q < p → (items == 0) ≡ false → first + items < s.count → Contains (later p) x → HasOneChunk x (λ j. go j p) → HasOneChunk x way
    later-chunk p (by_fault f ended at) after some left there rest = absurd (ended-lost file s (Some fixed) fuel (first + items) q p f x at (omega arith) there none)
    later-chunk p (by_restart next) after some left there rest =
        let within = chain-within (first + items) s.count (later p) x (walk-chain file s (Some fixed) fuel (first + items) p left) there in
        record {
          place = rest.place;
          leads = λ j above below.
              cover_from-step file s fixed j first q
              ∙ ap (λ (w : Stretch). covered s j first q items w (go j)) (same-stretch (stretch file s q) None (Some p) (next-sound file s q p next) next)
              ∙ step-on s j first q items p (stretch file s q).packets (go j) (omega (arith, within.0)) some
              ∙ rest.leads j above below;
        }

    refused-lost : (p : ℕ) → Contains (span first s.count (option_or (stretch file s q).fault (Some (fault RestartUnindexed s.node p))) ∷ []) x → HasOneChunk x way
    refused-lost p there =
        let this = only (span first s.count (option_or (stretch file s q).fault (Some (fault RestartUnindexed s.node p)))) x there in
        absurd (never (stretch file s q).fault (fault RestartUnindexed s.node p) (ap (λ (z : Span). z.fault) this ∙ none))
      where
        never : (a : Option Fault) (f : Fault) → option_or a (Some f) ≡ None → ⊥
        never None f e = cc
        never (Some g) f e = cc

    by_next : ((p : ℕ) → q < p → first + items < s.count → Contains (later p) x → HasOneChunk x (λ j. go j p)) → (o : Option ℕ) → next_start file s q ≡ o → Contains (spans_on s first items (stretch file s q) o later) x → HasOneChunk x way
    by_next rest None is there = last is there
    by_next rest (Some p) is there =
        ⊎_elim
        (λ (refused : (items == 0 || not (nat_lt (first + items) s.count)) ≡ true). refused-lost p (rw refused at there))
        (λ (goes : (items == 0 || not (nat_lt (first + items) s.count)) ≡ false).
        let parts = or_parts (items == 0) (not (nat_lt (first + items) s.count)) goes in
        let left = ltb-true (first + items) s.count (not-false (nat_lt (first + items) s.count) parts.1) in
        let after = start-after file s q p is in
        ⊎_elim
        (λ (this : span first (first + items) None ≡ x). this-chunk p is left this)
        (λ (behind : Contains (later p) x). later-chunk p (next-cases file s q p is) after parts.0 left behind (rest p after left behind))
        (among-cases (span first (first + items) None) (later p) x (rw goes at there)))
        (cases_Bool (items == 0 || not (nat_lt (first + items) s.count)))
