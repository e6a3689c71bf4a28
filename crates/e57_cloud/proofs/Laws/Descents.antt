-- Laws of the path through an index without fault: it leads each record to the entry of height 0 that has it.
use Rattle.std.specs.Prelude.{◌≡◌, ℕ, zero, suc, ◌+◌, ◌<◌, ◌≤◌, ◌⊎◌, ◌==◌, Bool, true, false, not, ◌*◌, List, [], ◌∷◌, ◌++◌, length, None, Result, Ok}
use Rattle.std.specs.List.{flat_map}
use Rattle.std.proofs.Common.{refl, sym, ap, subst, ◌∙◌, arith, ⊎_elim, inl, inr}
use Rattle.std.proofs.lemmas.Bool.{lt-ltb, le-ltb, eqb-true, and_parts, false≢true}
use Rattle.e57_base.specs.declared.fault.Fault.{Fault}
use Rattle.e57_base.specs.declared.kind.Kind.TheVariants.{IndexOrder}
use Rattle.e57_base.specs.Fault.{fault}
use Rattle.e57_layout.specs.IndexPackets.{entry_count_at}
use Rattle.e57_page.specs.File.{logical, span_fault}
use Rattle.e57_layout.specs.declared.packet.Entry.{Entry}
use Rattle.e57_layout.specs.declared.section.Section.{Section}
use Rattle.e57_cloud.specs.Section.{when}
use Rattle.e57_cloud.specs.Index.{known_place, entries_of, rises, begins_and_rises, index_shape_fault, index_packet_fault, next_first, each_fault, entry_fault, entries_below, root_entry, root_level, root_fault, index_fault, entries, HasEntry, Rises}
use Rattle.e57_cloud.specs.PathItem.{ChunkAt, pick, by_entry, descend, path}
use Rattle.e57_cloud.proofs.Laws.Indexes.{rises-lower, rises-to, rises-split, next_first-append, entry_fault-suc}
use Rattle.e57_cloud.proofs.Laws.Entries.{entry_fault-zero}
use Rattle.e57_base.proofs.Options.{option_or_parts}

pub has-append : (bound : ℕ) (xs ys : List Entry) (e : Entry) (until : ℕ) → HasEntry bound (xs ++ ys) e until → HasEntry (next_first bound ys) xs e until ⊎ HasEntry bound ys e until
has-append bound [] ys e until has = inr has
has-append bound (x ∷ xs) ys e until has =
    ⊎_elim
    (λ (this : (x ≡ e) × (next_first bound (xs ++ ys) ≡ until)). inl (inl (this.0, sym (next_first-append bound xs ys) ∙ this.1)))
    (λ (later : HasEntry bound (xs ++ ys) e until).
    ⊎_elim
    (λ (first : HasEntry (next_first bound ys) xs e until). inl (inr first))
    (λ (second : HasEntry bound ys e until). inr second)
    (has-append bound xs ys e until later))
    has

pub entry-within : (least bound : ℕ) (es : List Entry) (e : Entry) (until : ℕ) → Rises least bound es → HasEntry bound es e until → (least ≤ e.first) × (e.first < until) × (until ≤ bound)
entry-within least bound [] e until up has = absurd has
entry-within least bound (x ∷ []) e until up has =
    ⊎_elim
    (λ (this : (x ≡ e) × (bound ≡ until)). let same : x.first ≡ e.first = ap (λ (z : Entry). z.first) this.0 in (omega (arith, up.0), omega (arith, up.1, this.1), omega (arith, this.1)))
    (λ (never : ⊥). absurd never)
    has
entry-within least bound (x ∷ y ∷ ys) e until up has =
    ⊎_elim
    (λ (this : (x ≡ e) × (y.first ≡ until)).
    let same : x.first ≡ e.first = ap (λ (z : Entry). z.first) this.0 in
    (omega (arith, up.0), omega (arith, up.2.0, this.1), omega (arith, up.2.1, this.1)))
    (λ (later : HasEntry bound (y ∷ ys) e until). let rest = entry-within (x.first + 1) bound (y ∷ ys) e until up.2 later in (omega (arith, up.0, rest.0), rest.1, rest.2))
    has

pairs : (x e : Entry) (m n : ℕ) → x ≡ e → m ≡ n → ◌≡◌ {A = Entry × ℕ} (x, m) (e, n)
pairs x e m n same equal = cc

-- the entry that has record i is picked
pub pick-is : (i least bound : ℕ) (x : Entry) (xs : List Entry) (e : Entry) (until : ℕ) → Rises least bound (x ∷ xs) → HasEntry bound (x ∷ xs) e until → e.first ≤ i → i < until → pick i bound x xs ≡ (e, until)
unfolding pick
pick-is i least bound x [] e until up has low high =
    ⊎_elim (λ (this : (x ≡ e) × (bound ≡ until)). pairs x e bound until this.0 this.1) (λ (never : ⊥). absurd never) has
pick-is i least bound x (y ∷ ys) e until up has low high =
    ⊎_elim
    (λ (this : (x ≡ e) × (y.first ≡ until)). rw (lt-ltb i y.first (omega (arith, this.1))) (pairs x e y.first until this.0 this.1))
    (λ (later : HasEntry bound (y ∷ ys) e until).
    let within = entry-within (x.first + 1) bound (y ∷ ys) e until up.2 later in
    let above : y.first ≤ e.first = (entry-within y.first bound (y ∷ ys) e until (omega arith, up.2.1, up.2.2) later).0 in
    rw (le-ltb i y.first (omega arith)) (pick-is i (x.first + 1) bound y ys e until up.2 later low high))
    has

-- ---- what lies below an entry without fault

list-entries : (first bound : ℕ) (es : List Entry) → begins_and_rises first bound es ≡ true → Rises first bound es × (next_first bound es ≡ first) × (0 < length es)
unfolding begins_and_rises
list-entries first bound [] up = absurd (false≢true up)
list-entries first bound (e ∷ es) up =
    let both = and_parts (e.first == first) (rises first bound (e ∷ es)) up in
    (rises-to first bound (e ∷ es) both.1, eqb-true e.first first both.0, omega arith)

-- the entries of an index packet without fault begin with the entry's record, rise below the bound, and are some
pub packet-entries : (file : List ℕ) (s : Section) (level : ℕ) (e : Entry) (bound : ℕ) → index_packet_fault file s level e bound ≡ None → Rises e.first bound (entries_of file e.place) × (next_first bound (entries_of file e.place) ≡ e.first) × (0 < length (entries_of file e.place))
unfolding index_packet_fault
packet-entries file s level e bound none =
    let first = option_or_parts (index_shape_fault file s level e.place) _ none in
    let second = option_or_parts (span_fault file (known_place e.place + 16) (16 * entry_count_at (logical file) (known_place e.place))) _ first.1 in
    list-entries e.first bound (entries_of file e.place) (when-none (begins_and_rises e.first bound (entries_of file e.place)) (fault IndexOrder s.node e.place) second.1)
  where
    when-none : (test : Bool) (found : Fault) → when (not test) found ≡ None → test ≡ true
    when-none true found none = refl
    when-none false found none = cc

rises-above : (more least bound : ℕ) (es : List Entry) → more ≤ next_first bound es → Rises least bound es → Rises more bound es
rises-above more least bound [] above up = tt
rises-above more least bound (e ∷ es) above up = (above, up.1, up.2)

rises-join : (least bound : ℕ) (xs ys : List Entry) → Rises least (next_first bound ys) xs → Rises least bound ys → (next_first bound ys ≤ bound) → Rises least bound (xs ++ ys)
rises-join least bound [] ys first second low = second
rises-join least bound (x ∷ xs) ys first second low =
    (first.0, omega (arith, first.1), rises-join (x.first + 1) bound xs ys first.2 (rises-above (x.first + 1) least bound ys (omega (arith, first.1)) second) low)

next-low : (least bound : ℕ) (es : List Entry) → Rises least bound es → next_first bound es ≤ bound
next-low least bound [] up = omega arith
next-low least bound (e ∷ es) up = omega (arith, up.1)

some-first : (es : List Entry) (bound b : ℕ) → 0 < length es → next_first b es ≡ next_first bound es
some-first [] bound b some = absurd (omega arith)
some-first (e ∷ es) bound b some = refl

-- the entries of height 0 below an entry without fault begin with its record, and rise below its bound
abbrev BelowRises : List ℕ → Section → ℕ → Type 0
BelowRises file s height = (e : Entry) (bound : ℕ) → e.first < bound → entry_fault file s height e bound ≡ None → Rises e.first bound (entries_below file height e) × ((b : ℕ) → next_first b (entries_below file height e) ≡ e.first)

all-rise : (file : List ℕ) (s : Section) (height least bound : ℕ) (es : List Entry) → BelowRises file s height → Rises least bound es → each_fault (entry_fault file s height) bound es ≡ None
    → Rises least bound (flat_map (entries_below file height) es) × ((b : ℕ) → next_first b (flat_map (entries_below file height) es) ≡ next_first b es)
unfolding each_fault
all-rise file s height least bound [] each up sound = (tt, λ b. refl)
all-rise file s height least bound (e ∷ es) each up sound =
    let parts = option_or_parts (entry_fault file s height e (next_first bound es)) (each_fault (entry_fault file s height) bound es) sound in
    let split = rises-split (e.first + 1) bound [] es (omega (arith, up.1)) up.2 in
    let this = each e (next_first bound es) (omega (arith, split.2)) parts.0 in
    let rest = all-rise file s height (e.first + 1) bound es each up.2 parts.1 in
    let below = entries_below file height e in
    let later = flat_map (entries_below file height) es in
    let mid : next_first bound later ≡ next_first bound es = rest.1 bound in (
      rises-join least bound below later (subst (λ (m : ℕ). Rises least m below) (sym mid) (rises-lower least e.first (next_first bound es) below up.0 this.0)) (rises-lower least (e.first + 1) bound later (omega (arith, up.0)) rest.0) (next-low (e.first + 1) bound later rest.0),
      λ b. next_first-append b below later ∙ this.1 (next_first b later),
    )

below-rises : (file : List ℕ) (s : Section) (height : ℕ) → BelowRises file s height
unfolding entries_below
below-rises file s zero = λ e bound low none. ((omega arith, low, tt), λ b. refl)
below-rises file s (suc level) = λ e bound low none.
    let parts = option_or_parts (index_packet_fault file s level e bound) (each_fault (entry_fault file s level) bound (entries_of file e.place)) (sym (entry_fault-suc file s level e bound) ∙ none) in
    let packet = packet-entries file s level e bound parts.0 in
    let all = all-rise file s level e.first bound (entries_of file e.place) (below-rises file s level) packet.0 parts.1 in
    (all.0, λ b. all.1 b ∙ some-first (entries_of file e.place) bound b packet.2 ∙ packet.1)

-- ---- the path

-- an entry of the list, and an entry of height 0 below it
record HasChild (file : List ℕ) (s : Section) (height bound : ℕ) (es : List Entry) (e : Entry) (until : ℕ) : Type 0 where
  pub child : Entry
  pub ends : ℕ
  pub there : HasEntry bound es child ends
  pub sound : entry_fault file s height child ends ≡ None
  pub below : HasEntry ends (entries_below file height child) e until
  pub low : child.first < ends

child-of : (file : List ℕ) (s : Section) (height least bound : ℕ) (es : List Entry) (e : Entry) (until : ℕ) → Rises least bound es → each_fault (entry_fault file s height) bound es ≡ None → HasEntry bound (flat_map (entries_below file height) es) e until
    → HasChild file s height bound es e until
unfolding each_fault
child-of file s height least bound [] e until up sound has = absurd has
child-of file s height least bound (x ∷ xs) e until up sound has =
    let parts = option_or_parts (entry_fault file s height x (next_first bound xs)) (each_fault (entry_fault file s height) bound xs) sound in
    let rest = all-rise file s height (x.first + 1) bound xs (below-rises file s height) up.2 parts.1 in
    let split = rises-split (x.first + 1) bound [] xs (omega (arith, up.1)) up.2 in
    let later = flat_map (entries_below file height) xs in
    ⊎_elim
    (λ (this : HasEntry (next_first bound later) (entries_below file height x) e until).
    record { child = x; ends = next_first bound xs; there = inl (refl, refl); sound = parts.0; below = subst (λ (b : ℕ). HasEntry b (entries_below file height x) e until) (rest.1 bound) this; low = omega (arith, split.2) })
    (λ (further : HasEntry bound later e until).
    let found = child-of file s height (x.first + 1) bound xs e until up.2 parts.1 further in
    record { child = found.child; ends = found.ends; there = inr found.there; sound = found.sound; below = found.below; low = found.low })
    (has-append bound (entries_below file height x) later e until has)

pub by_entry-is : (f : Entry → ℕ → Result ChunkAt Fault) (i least bound : ℕ) (es : List Entry) (e : Entry) (until : ℕ) → Rises least bound es → HasEntry bound es e until → e.first ≤ i → i < until → by_entry f i bound es ≡ f e until
by_entry-is f i least bound [] e until up has low high = absurd has
by_entry-is f i least bound (x ∷ xs) e until up has low high = rw (pick-is i least bound x xs e until up has low high)

descend-is : (file : List ℕ) (s : Section) (i height : ℕ) (e : Entry) (bound : ℕ) (found : Entry) (until : ℕ) → e.first < bound → entry_fault file s height e bound ≡ None → HasEntry bound (entries_below file height e) found until → found.first ≤ i → i < until
    → descend file s i height e bound ≡ Ok (record { first = found.first; until = until; place = known_place found.place })
unfolding descend entries_below
descend-is file s i zero e bound found until below none has low high =
    ⊎_elim
    (λ (this : (e ≡ found) × (bound ≡ until)). rw (← this.0, ← this.1, sym (entry_fault-zero file s e bound) ∙ none))
    (λ (never : ⊥). absurd never)
    has
descend-is file s i (suc level) e bound found until below none has low high =
    let parts = option_or_parts (index_packet_fault file s level e bound) (each_fault (entry_fault file s level) bound (entries_of file e.place)) (sym (entry_fault-suc file s level e bound) ∙ none) in
    let packet = packet-entries file s level e bound parts.0 in
    let c = child-of file s level e.first bound (entries_of file e.place) found until packet.0 parts.1 has in
    let rise = below-rises file s level c.child c.ends c.low c.sound in
    let within = entry-within c.child.first c.ends (entries_below file level c.child) found until rise.0 c.below in
    let picked = by_entry-is (descend file s i level) i e.first bound (entries_of file e.place) c.child c.ends packet.0 c.there (omega (arith, within.0)) (omega (arith, within.2)) in
    rw (parts.0, picked) (descend-is file s i level c.child c.ends found until c.low c.sound c.below low high)

-- The path leads a record to the entry of height 0 that has it.
pub path-is : (file : List ℕ) (s : Section) (i : ℕ) (e : Entry) (until : ℕ) → (s.index == 0) ≡ false → index_fault file s ≡ None → 0 < s.count → HasEntry s.count (entries file s) e until → e.first ≤ i → i < until
    → path file s i ≡ Ok (record { first = e.first; until = until; place = known_place e.place })
unfolding path index_fault entries
path-is file s i e until indexed none some has low high =
    let parts = option_or_parts (root_fault file s) (entry_fault file s (suc (root_level file s)) (root_entry s) s.count) none in
    rw (indexed, parts.0) (descend-is file s i (suc (root_level file s)) (root_entry s) s.count e until some parts.1 has low high)

-- The entries of an index without fault rise from record 0, below the count.
pub entries-rise : (file : List ℕ) (s : Section) → index_fault file s ≡ None → 0 < s.count → Rises 0 s.count (entries file s) × ((b : ℕ) → next_first b (entries file s) ≡ 0)
unfolding index_fault entries
entries-rise file s none some =
    let parts = option_or_parts (root_fault file s) (entry_fault file s (suc (root_level file s)) (root_entry s) s.count) none in
    below-rises file s (suc (root_level file s)) (root_entry s) s.count some parts.1
