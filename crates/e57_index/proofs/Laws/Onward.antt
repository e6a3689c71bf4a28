-- Where a chunk ends, the next one begins: the path of the record past a chunk leads to a chunk that begins with it.
use Rattle.std.specs.Prelude.{◌≡◌, ℕ, zero, suc, ◌+◌, ◌<◌, ◌≤◌, nat_lt, true, false, List, [], ◌∷◌, length, Option, Some, None, Result, Ok}
use Rattle.std.proofs.Common.{refl, sym, subst, ap, ◌∙◌, arith, ⊎_elim, inl, inr}
use Rattle.std.proofs.lemmas.Bool.{ltb-false, ltb-true, cases_Bool}
use Rattle.e57_base.specs.declared.fault.Fault.{Fault}
use Rattle.e57_layout.specs.declared.packet.Entry.{Entry}
use Rattle.e57_layout.specs.declared.section.Section.{Section}
use Rattle.e57_cloud.specs.Index.{known_place, entries_of, next_first, index_packet_fault, target_fault, root_fault, root_level, root_entry, Rises, HasEntry}
use Rattle.e57_cloud.specs.PathItem.{ChunkAt, unless, by_entry, descend, path}
use Rattle.e57_cloud.proofs.Laws.Descents.{entry-within, packet-entries, by_entry-is}
use Rattle.e57_index.specs.Finding.{IsFollowed}
use Rattle.e57_cloud.proofs.Laws.Found.{same_ok}

unless-ok : (found : Option Fault) (result : Result ChunkAt Fault) (x : ChunkAt) → unless found result ≡ Ok x → (found ≡ None) × (result ≡ Ok x)
unless-ok None result x is = (refl, is)
unless-ok (Some found) result x is = cc

-- ---- the entry that has a record

record HasRecord (bound : ℕ) (es : List Entry) (i : ℕ) : Type 0 where
  pub entry : Entry
  pub ends : ℕ
  pub has : HasEntry bound es entry ends
  pub low : entry.first ≤ i
  pub high : i < ends

has-record : (least bound i : ℕ) (x : Entry) (xs : List Entry) → Rises least bound (x ∷ xs) → x.first ≤ i → i < bound → HasRecord bound (x ∷ xs) i
has-record least bound i x [] up low high = record { entry = x; ends = bound; has = inl (refl, refl); low = low; high = high }
has-record least bound i x (y ∷ ys) up low high =
    ⊎_elim
    (λ (before : nat_lt i y.first ≡ true). record { entry = x; ends = y.first; has = inl (refl, refl); low = low; high = ltb-true i y.first before })
    (λ (past : nat_lt i y.first ≡ false).
    let later = has-record (x.first + 1) bound i y ys up.2 (ltb-false i y.first past) high in
    record { entry = later.entry; ends = later.ends; has = inr later.has; low = later.low; high = later.high })
    (cases_Bool (nat_lt i y.first))

-- of rising entries that begin with a record at most i, one has record i
has-some : (least bound i : ℕ) (es : List Entry) → Rises least bound es → next_first bound es ≡ least → 0 < length es → least ≤ i → i < bound → HasRecord bound es i
has-some least bound i [] up begins some low high = absurd (omega arith)
has-some least bound i (x ∷ xs) up begins some low high = has-record least bound i x xs up (omega (arith, begins, low)) high

-- an entry that ends below the bound is followed by one that begins there
followed : (least bound : ℕ) (es : List Entry) (x : Entry) (ends : ℕ) → Rises least bound es → HasEntry bound es x ends → ends < bound → HasRecord bound es ends
followed least bound [] x ends up has below = absurd has
followed least bound (y ∷ ys) x ends up has below =
    let within = entry-within least bound (y ∷ ys) x ends up has in
    has-record least bound ends y ys up (first-least least bound y ys x ends up has) below
  where
    first-least : (least bound : ℕ) (y : Entry) (ys : List Entry) (x : Entry) (ends : ℕ) → Rises least bound (y ∷ ys) → HasEntry bound (y ∷ ys) x ends → y.first ≤ ends
    first-least least bound y ys x ends up has =
        let within = entry-within y.first bound (y ∷ ys) x ends (omega arith, up.1, up.2) has in
        omega (arith, within.0, within.1)

begins-there : (least bound : ℕ) (es : List Entry) (x y : Entry) (ends until : ℕ) → Rises least bound es → HasEntry bound es x ends → HasEntry bound es y until → y.first ≤ ends → ends < until → y.first ≡ ends
begins-there least bound [] x y ends until up a b low high = absurd a
begins-there least bound (z ∷ zs) x y ends until up a b low high =
    ⊎_elim
    (λ (this : (z ≡ x) × (next_first bound zs ≡ ends)).
    ⊎_elim
    (λ (same : (z ≡ y) × (next_first bound zs ≡ until)). absurd (omega (arith, this.1, same.1, high)))
    (λ (later : HasEntry bound zs y until). after-first bound zs y until (z.first + 1) ends this.1 up.2 later low)
    b)
    (λ (rest : HasEntry bound zs x ends).
    ⊎_elim
    (λ (same : (z ≡ y) × (next_first bound zs ≡ until)).
    let inside = entry-within (z.first + 1) bound zs x ends up.2 rest in
    let least_first = lowest (z.first + 1) bound zs x ends up.2 rest in
    absurd (omega (arith, same.1, least_first, inside.1, high)))
    (λ (later : HasEntry bound zs y until). begins-there (z.first + 1) bound zs x y ends until up.2 rest later low high)
    b)
    a
  where
    lowest : (least bound : ℕ) (es : List Entry) (x : Entry) (ends : ℕ) → Rises least bound es → HasEntry bound es x ends → next_first bound es ≤ x.first
    lowest least bound [] x ends up has = absurd has
    lowest least bound (e ∷ es) x ends up has = (entry-within e.first bound (e ∷ es) x ends (omega arith, up.1, up.2) has).0

    after-first : (bound : ℕ) (es : List Entry) (y : Entry) (until least ends : ℕ) → next_first bound es ≡ ends → Rises least bound es → HasEntry bound es y until → y.first ≤ ends → y.first ≡ ends
    after-first bound es y until least ends is up has low = let under = lowest least bound es y until up has in omega (arith, is, under, low)

-- ---- the descent

-- what an entry leads to for its own record begins with that record
begins : (file : List ℕ) (s : Section) (j height : ℕ) (e : Entry) (bound : ℕ) (d : ChunkAt) → e.first ≡ j → j < bound → descend file s j height e bound ≡ Ok d → d.first ≡ j
unfolding descend
begins file s j zero e bound d at below is =
    let parts = unless-ok (target_fault file s e) (Ok (record { first = e.first; until = bound; place = known_place e.place })) d is in
    let same = same_ok (record { first = e.first; until = bound; place = known_place e.place }) d parts.1 in
    sym (ap (λ (c : ChunkAt). c.first) same) ∙ at
begins file s j (suc level) e bound d at below is =
    let parts = unless-ok (index_packet_fault file s level e bound) (by_entry (descend file s j level) j bound (entries_of file e.place)) d is in
    let packet = packet-entries file s level e bound parts.0 in
    let one = has-some e.first bound j (entries_of file e.place) packet.0 packet.1 packet.2 (omega (arith, at)) below in
    let inside = entry-within e.first bound (entries_of file e.place) one.entry one.ends packet.0 one.has in
    begins file s j level one.entry one.ends d (omega (arith, inside.0, one.low, at)) one.high (sym (by_entry-is (descend file s j level) j e.first bound (entries_of file e.place) one.entry one.ends packet.0 one.has one.low one.high) ∙ parts.1)

-- the chunk ends at the bound at most
ends-within : (file : List ℕ) (s : Section) (i height : ℕ) (e : Entry) (bound : ℕ) (c : ChunkAt) → e.first ≤ i → i < bound → descend file s i height e bound ≡ Ok c → (i < c.until) × (c.until ≤ bound)
unfolding descend
ends-within file s i zero e bound c low high is =
    let parts = unless-ok (target_fault file s e) (Ok (record { first = e.first; until = bound; place = known_place e.place })) c is in
    let same = ap (λ (d : ChunkAt). d.until) (same_ok (record { first = e.first; until = bound; place = known_place e.place }) c parts.1) in
    (omega (arith, same, high), omega (arith, same))
ends-within file s i (suc level) e bound c low high is =
    let parts = unless-ok (index_packet_fault file s level e bound) (by_entry (descend file s i level) i bound (entries_of file e.place)) c is in
    let packet = packet-entries file s level e bound parts.0 in
    let one = has-some e.first bound i (entries_of file e.place) packet.0 packet.1 packet.2 low high in
    let inside = entry-within e.first bound (entries_of file e.place) one.entry one.ends packet.0 one.has in
    let below = ends-within file s i level one.entry one.ends c one.low one.high (sym (by_entry-is (descend file s i level) i e.first bound (entries_of file e.place) one.entry one.ends packet.0 one.has one.low one.high) ∙ parts.1) in
    (below.0, omega (arith, below.1, inside.2))

onward : (file : List ℕ) (s : Section) (i height : ℕ) (e : Entry) (bound : ℕ) (c d : ChunkAt) → e.first ≤ i → i < bound → descend file s i height e bound ≡ Ok c → c.until < bound → descend file s c.until height e bound ≡ Ok d → d.first ≡ c.until
unfolding descend
onward file s i zero e bound c d low high is below next =
    let parts = unless-ok (target_fault file s e) (Ok (record { first = e.first; until = bound; place = known_place e.place })) c is in
    let same = ap (λ (x : ChunkAt). x.until) (same_ok (record { first = e.first; until = bound; place = known_place e.place }) c parts.1) in
    absurd (omega (arith, same, below))
onward file s i (suc level) e bound c d low high is below next =
    let es = entries_of file e.place in
    let parts = unless-ok (index_packet_fault file s level e bound) (by_entry (descend file s i level) i bound es) c is in
    let more = unless-ok (index_packet_fault file s level e bound) (by_entry (descend file s c.until level) c.until bound es) d next in
    let packet = packet-entries file s level e bound parts.0 in
    let one = has-some e.first bound i es packet.0 packet.1 packet.2 low high in
    let here = sym (by_entry-is (descend file s i level) i e.first bound es one.entry one.ends packet.0 one.has one.low one.high) ∙ parts.1 in
    let ends = ends-within file s i level one.entry one.ends c one.low one.high here in
    ⊎_elim
    (λ (inside : nat_lt c.until one.ends ≡ true).
    let under = ltb-true c.until one.ends inside in
    let first = one.low in
    let after = ends.0 in
    onward file s i level one.entry one.ends c d one.low one.high here under (sym (by_entry-is (descend file s c.until level) c.until e.first bound es one.entry one.ends packet.0 one.has (omega (arith, first, after)) under) ∙ more.1))
    (λ (past : nat_lt c.until one.ends ≡ false).
    let over = ltb-false c.until one.ends past in
    let most = ends.1 in
    let same : one.ends ≡ c.until = omega (arith, over, most) in
    let later = followed e.first bound es one.entry c.until packet.0 (subst (λ (u : ℕ). HasEntry bound es one.entry u) same one.has) below in
    let at = begins-there e.first bound es one.entry later.entry c.until later.ends packet.0 (subst (λ (u : ℕ). HasEntry bound es one.entry u) same one.has) later.has later.low later.high in
    begins file s c.until level later.entry later.ends d at later.high (sym (by_entry-is (descend file s c.until level) c.until e.first bound es later.entry later.ends packet.0 later.has later.low later.high) ∙ more.1))
    (cases_Bool (nat_lt c.until one.ends))

pub path_onward : (file : List ℕ) (s : Section) (i : ℕ) (c d : ChunkAt) → IsFollowed file s i c d
unfolding path
path_onward file s i c d indexed below is more next =
    let first = unless-ok (root_fault file s) (descend file s i (suc (root_level file s)) (root_entry s) s.count) c (rw indexed at is) in
    let second = unless-ok (root_fault file s) (descend file s c.until (suc (root_level file s)) (root_entry s) s.count) d (rw indexed at next) in
    onward file s i (suc (root_level file s)) (root_entry s) s.count c d (omega arith) below first.1 more second.1
