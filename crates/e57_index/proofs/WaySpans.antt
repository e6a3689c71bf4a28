-- The pages of a search, step by step: of the root, of each packet below it, and of the four bytes at the end.
use Rattle.std.specs.Prelude.{◌≡◌, ℕ, suc, ◌+◌, ◌<◌, ◌≤◌, ◌==◌, ◌&&◌, nat_le, nat_lt, Bool, true, false, if◌then◌else◌, List, [], ◌∷◌, ◌++◌, Option, Some, None, IfSome, MatchResult, Result, Ok, Err}
use Rattle.std.proofs.Common.{refl, ap, subst, ◌∙◌, arith}
use Rattle.std.proofs.lemmas.List.{append_assoc, append-nil}
use Rattle.std.proofs.lemmas.Bool.{eqb-true, eq-eqb, ltb-false, lt-ltb, le-leb, and_parts, false≢true}
use Rattle.e57_base.specs.Source.{SourceView}
use Rattle.e57_base.proofs.Told.{told_map, told_all}
use Rattle.e57_base.specs.declared.fault.ReadFault.{ReadFault}
use Rattle.e57_page.specs.File.{logical}
use Rattle.e57_layout.specs.IndexPackets.{level_at}
use Rattle.e57_layout.specs.declared.packet.Entry.{Entry}
use Rattle.e57_layout.specs.declared.section.Section.{Section}
use Rattle.e57_cloud.specs.Index.{begins_and_rises, known_place, entries_of, root_entry, root_level}
use Rattle.e57_cloud.proofs.Laws.Descents.{pick-is}
use Rattle.e57_index.specs.Picking.{IsPicked}
use Rattle.e57_index.specs.OnePacket.{level_fits, wanted_fault, IsPacketAt}
use Rattle.e57_index.specs.Standing.{HeldPacket, Cursor, StandsIn}
use Rattle.e57_index.specs.Holding.{holds_place, LoadsIndex, LosesLoad}
use Rattle.e57_index.specs.Finding.{KeepsStanding, HoldsRecord, held_level}
use Rattle.e57_index.specs.Spans.{Span, AskedAs, AsksSpans, unless_fault, packet_spans, target_spans, of_picked, below_spans, beyond_root, path_spans, holds_leaf, spans_from, most_spans, OnSpans, AsksPath, left_spans, load_spans, AsksLoad, packets_spans, LeavesSpans, DescendsSpans, StopsSpans, LeavesBelow, StepsSpans, IsBelow, AsksBelow}
use Rattle.e57_index.proofs.Judged.{not_is, no_fault}
use Rattle.e57_index.proofs.Ways.{first_is, some_and, some_if}
use Rattle.e57_index.proofs.Spanned.{asked-none, asked-on, asked-front, asks_spans-none, asks_spans-on, asks_spans-by}

-- ---- the entry that has the record

picked_is : (f : Entry → ℕ → List Span) (first bound i : ℕ) (es : List Entry) (x : Entry) (ends : ℕ) → begins_and_rises first bound es ≡ true → IsPicked bound es i x ends → of_picked f i bound es ≡ f x ends
picked_is f first bound i [] x ends up picked = absurd picked.has
picked_is f first bound i (e ∷ es) x ends up picked = rw (pick-is i first bound e es x ends (first_is first bound (e ∷ es) up).0 picked.has picked.low picked.high) refl

-- ---- a load

-- what is asked for where the packet may be held
loaded_spans : (file : List ℕ) (c : Cursor) (wanted : Option ℕ) (e : Entry) (p : List ℕ) → AskedAs (load_spans file c wanted e) p → AskedAs (packet_spans file c.section wanted e) p
loaded_spans file c wanted e p asked = by_held (holds_place c.held e.place) asked
  where
    by_held : (held : Bool) → AskedAs (if held then [] else packet_spans file c.section wanted e) p → AskedAs (packet_spans file c.section wanted e) p
    by_held true none = rw none (asked-none (packet_spans file c.section wanted e))
    by_held false asked = asked

-- what is left below the packet that was loaded
pub below_loaded : (file : List ℕ) (s : Section) (i : ℕ) (wanted : Option ℕ) (e : Entry) (bound : ℕ) (h : HeldPacket) → h.bound ≡ bound → IsPacketAt file s e.place h.level h.entries → level_fits wanted h.level ≡ true → begins_and_rises e.first bound h.entries ≡ true
    → unless_fault (wanted_fault file s wanted e bound) (below_spans file s i h.level bound (entries_of file e.place)) ≡ below_spans file s i h.level h.bound h.entries
below_loaded file s i wanted e bound h same at fits ordered =
    let none = no_fault file s wanted e bound h.level h.entries at fits ordered in
    let has = at.has in
    rw (none, same, has) refl

-- ---- the root

root_level_is : (file : List ℕ) (s : Section) (level : ℕ) → level_at (logical file) (known_place s.index) ≡ level → root_level file s ≡ level
unfolding root_level
root_level_is file s level is = is

root_is : (file : List ℕ) (s : Section) (i : ℕ) (h : HeldPacket) → h.bound ≡ s.count → IsPacketAt file s s.index h.level h.entries → level_fits None h.level ≡ true → begins_and_rises 0 s.count h.entries ≡ true → beyond_root file s i ≡ below_spans file s i h.level h.bound h.entries
unfolding beyond_root
root_is file s i h same at fits ordered =
    ap (λ (n : ℕ). unless_fault (wanted_fault file s None (root_entry s) s.count) (below_spans file s i n s.count (entries_of file s.index))) (root_level_is file s h.level at.of_level)
    ∙ below_loaded file s i None (root_entry s) s.count h same at fits ordered

root_from : (file : List ℕ) (c : Cursor) (i : ℕ) (held : Option HeldPacket) (p rest : List ℕ) → holds_leaf held i ≡ false → AskedAs (if holds_place held c.section.index then [] else packet_spans file c.section None (root_entry c.section)) p
    → AskedAs (beyond_root file c.section i) rest → AskedAs (spans_from file c.section i held) (p ++ rest)
unfolding spans_from path_spans
root_from file c i None p rest away first next = asked-on (packet_spans file c.section None (root_entry c.section)) (beyond_root file c.section i) p rest first next
root_from file c i (Some h) p rest away first next = rw away (by_place (h.place == c.section.index) first)
  where
    by_place : (held : Bool) → AskedAs (if held then [] else packet_spans file c.section None (root_entry c.section)) p
        → AskedAs (if held then beyond_root file c.section i else path_spans file c.section i) (p ++ rest)
    by_place true none = rw none next
    by_place false asked = asked-on (packet_spans file c.section None (root_entry c.section)) (beyond_root file c.section i) p rest asked next

not_leaf : (held : Option HeldPacket) (i : ℕ) → holds_leaf held i ≡ false → packets_spans held i ≡ 12
not_leaf held i away = rw away refl

-- the root was loaded, or wasn't
pub root_spans : {X : Type 0} (r : Result X ReadFault) (old new : SourceView) (before after : Cursor) (i : ℕ) → holds_leaf before.held i ≡ false → AsksLoad before None (root_entry before.section) old new
    → MatchResult r (λ _. LoadsIndex old before None (root_entry before.section) before.section.count new after) (λ found. LosesLoad old before None (root_entry before.section) before.section.count found new after)
    → MatchResult r (λ _. DescendsSpans before i old new after) (λ _. StopsSpans before i old new)
root_spans (Ok x) old new before after i away asks load =
    let low = ltb-false 5 load.h.level (not_is (nat_lt 5 load.h.level) load.fits) in
    let level : held_level after.held ≡ load.h.level = rw load.held refl in
    let most = not_leaf before.held i away in
    record {
      most = 2;
      few = omega (arith, low, level, most);
      source = asks_spans-by before.section 2 2 (λ file. AskedAs (load_spans file before None (root_entry before.section))) (LeavesSpans before after i) old new (omega arith)
          (told_map (λ file. StandsIn file before → IsPacketAt file before.section before.section.index load.h.level load.h.entries) (λ file. (p : List ℕ) → AskedAs (load_spans file before None (root_entry before.section)) p → LeavesSpans before after i file p) old.held
          (λ file at p asked stands rest next.
          let left : AskedAs (below_spans file before.section i load.h.level load.h.bound load.h.entries) rest = rw load.held at next in
          root_from file before i before.held p rest away asked (rw (root_is file before.section i load.h load.same_bound (at stands) load.fits load.ordered) left)) load.is) asks;
    }
root_spans (Err found) old new before after i away asks lost =
    let most = not_leaf before.held i away in
    asks_spans-by before.section 2 (packets_spans before.held i) (λ file. AskedAs (load_spans file before None (root_entry before.section))) (OnSpans before i) old new (omega (arith, most))
    (told_all (λ file. (p : List ℕ) → AskedAs (load_spans file before None (root_entry before.section)) p → OnSpans before i file p) old.held
    (λ file p asked stands. rw (append-nil p) at (root_from file before i before.held p [] away asked (asked-none (beyond_root file before.section i))))) asks

-- ---- a packet below it

below_is : (file : List ℕ) (s : Section) (i level : ℕ) (h : HeldPacket) (x : Entry) (ends : ℕ) → h.level ≡ suc level → begins_and_rises h.first h.bound h.entries ≡ true → IsPicked h.bound h.entries i x ends
    → below_spans file s i h.level h.bound h.entries ≡ packet_spans file s (Some level) x ++ unless_fault (wanted_fault file s (Some level) x ends) (below_spans file s i level ends (entries_of file x.place))
unfolding below_spans
below_is file s i level h x ends higher up picked =
    rw higher (picked_is (λ e until. packet_spans file s (Some level) e ++ unless_fault (wanted_fault file s (Some level) e until) (below_spans file s i level until (entries_of file e.place))) h.first h.bound i h.entries x ends up picked)

left_is : (file : List ℕ) (s : Section) (i : ℕ) (held : Option HeldPacket) (h : HeldPacket) → held ≡ Some h → left_spans file s i held ≡ below_spans file s i h.level h.bound h.entries
left_is file s i held h is = rw is refl

down_held : {X : Type 0} (r : Result X ReadFault) (old new : SourceView) (before after : Cursor) (h : HeldPacket) (level i : ℕ) (x : Entry) (ends : ℕ) → before.held ≡ Some h → h.level ≡ suc level → begins_and_rises h.first h.bound h.entries ≡ true → IsPicked h.bound h.entries i x ends → AsksLoad before (Some level) x old new
    → MatchResult r (λ _. LoadsIndex old before (Some level) x ends new after) (λ found. LosesLoad old before (Some level) x ends found new after) → MatchResult r (λ _. StepsSpans before i old new after) (λ _. AsksBelow 2 before i old new)
down_held (Ok y) old new before after h level i x ends held higher up picked asks load =
    asks_spans-by before.section 2 2 (λ file. AskedAs (load_spans file before (Some level) x)) (LeavesBelow before after i) old new (omega arith)
    (told_map (λ file. StandsIn file before → IsPacketAt file before.section x.place load.h.level load.h.entries) (λ file. (p : List ℕ) → AskedAs (load_spans file before (Some level) x) p → LeavesBelow before after i file p) old.held
    (λ file at p asked stands rest next.
    let same = eqb-true load.h.level level load.fits in
    let left : AskedAs (below_spans file before.section i load.h.level load.h.bound load.h.entries) rest = rw load.held at next in
    let onward = below_loaded file before.section i (Some level) x ends load.h load.same_bound (at stands) load.fits load.ordered in
    let there : AskedAs (unless_fault (wanted_fault file before.section (Some level) x ends) (below_spans file before.section i level ends (entries_of file x.place))) rest =
    subst (λ (n : ℕ). AskedAs (unless_fault (wanted_fault file before.section (Some level) x ends) (below_spans file before.section i n ends (entries_of file x.place))) rest) same (rw onward left) in
    rw (left_is file before.section i before.held h held, below_is file before.section i level h x ends higher up picked)
    (asked-on (packet_spans file before.section (Some level) x) _ p rest (loaded_spans file before (Some level) x p asked) there)) load.is) asks
down_held (Err found) old new before after h level i x ends held higher up picked asks lost =
    asks_spans-by before.section 2 2 (λ file. AskedAs (load_spans file before (Some level) x)) (IsBelow before i) old new (omega arith)
    (told_all (λ file. (p : List ℕ) → AskedAs (load_spans file before (Some level) x) p → IsBelow before i file p) old.held
    (λ file p asked stands. rw (left_is file before.section i before.held h held, below_is file before.section i level h x ends higher up picked)
    (asked-front (packet_spans file before.section (Some level) x) _ p (loaded_spans file before (Some level) x p asked)))) asks

-- the packet one level lower was loaded, or wasn't
pub down_spans : {X : Type 0} (r : Result X ReadFault) (old new : SourceView) (before after : Cursor) (level i : ℕ) (x : Entry) (ends : ℕ) → HoldsRecord before.held i → held_level before.held ≡ suc level → IfSome before.held (λ h. IsPicked h.bound h.entries i x ends)
    → IfSome before.held (λ h. begins_and_rises h.first h.bound h.entries ≡ true) → AsksLoad before (Some level) x old new → MatchResult r (λ _. LoadsIndex old before (Some level) x ends new after) (λ found. LosesLoad old before (Some level) x ends found new after)
    → MatchResult r (λ _. StepsSpans before i old new after) (λ _. AsksBelow 2 before i old new)
down_spans r old new before after level i x ends has higher picked up asks load =
    let held = some_and before.held (λ h. (h.first ≤ i) × (i < h.bound)) has in
    let of_level : held.0.level ≡ suc level = rw held.1 at higher in
    down_held r old new before after held.0 level i x ends held.1 of_level (some_if before.held held.0 (λ h. begins_and_rises h.first h.bound h.entries ≡ true) held.1 up) (some_if before.held held.0 (λ h. IsPicked h.bound h.entries i x ends) held.1 picked) asks load

-- ---- the four bytes

leaf_is : (file : List ℕ) (s : Section) (i : ℕ) (h : HeldPacket) (x : Entry) (ends : ℕ) → h.level ≡ 0 → begins_and_rises h.first h.bound h.entries ≡ true → IsPicked h.bound h.entries i x ends → below_spans file s i h.level h.bound h.entries ≡ target_spans s x
unfolding below_spans
leaf_is file s i h x ends leaf up picked = rw leaf (picked_is (λ e until. target_spans s e) h.first h.bound i h.entries x ends up picked)

pub target_below : (old new : SourceView) (c : Cursor) (i : ℕ) (x : Entry) (ends : ℕ) → HoldsRecord c.held i → held_level c.held ≡ 0 → IfSome c.held (λ h. IsPicked h.bound h.entries i x ends) → IfSome c.held (λ h. begins_and_rises h.first h.bound h.entries ≡ true)
    → AsksSpans c.section 1 (λ file. AskedAs (target_spans c.section x)) old new → AsksBelow 1 c i old new
target_below old new c i x ends has leaf picked up asks =
    let held = some_and c.held (λ h. (h.first ≤ i) × (i < h.bound)) has in
    let of_level : held.0.level ≡ 0 = rw held.1 at leaf in
    let is = leaf_one held.0 held.1 of_level in
    asks_spans-by c.section 1 1 (λ file. AskedAs (target_spans c.section x)) (IsBelow c i) old new (omega arith)
    (told_all (λ file. (p : List ℕ) → AskedAs (target_spans c.section x) p → IsBelow c i file p) old.held (λ file p asked stands. rw (is file) asked)) asks
  where
    leaf_one : (h : HeldPacket) → c.held ≡ Some h → h.level ≡ 0 → (file : List ℕ) → left_spans file c.section i c.held ≡ target_spans c.section x
    leaf_one h held of_level file = left_is file c.section i c.held h held ∙ leaf_is file c.section i h x ends of_level (some_if c.held h (λ k. begins_and_rises k.first k.bound k.entries ≡ true) held up) (some_if c.held h (λ k. IsPicked k.bound k.entries i x ends) held picked)

-- ---- one step after another

leaf_level : (held : Option HeldPacket) (i : ℕ) → holds_leaf held i ≡ true → held_level held ≡ 0
leaf_level None i leaf = absurd (false≢true leaf)
leaf_level (Some h) i leaf = eqb-true h.level 0 (and_parts (h.level == 0) (nat_le h.first i && nat_lt i h.bound) leaf).0

leaf_left : (file : List ℕ) (s : Section) (i : ℕ) (held : Option HeldPacket) → holds_leaf held i ≡ true → left_spans file s i held ≡ spans_from file s i held
unfolding spans_from
leaf_left file s i None leaf = absurd (false≢true leaf)
leaf_left file s i (Some h) leaf =
    let level = eqb-true h.level 0 (and_parts (h.level == 0) (nat_le h.first i && nat_lt i h.bound) leaf).0 in
    rw leaf (ap (λ (n : ℕ). below_spans file s i n h.bound h.entries) level)

-- the leaf that has the record is held
pub held_descends : (old : SourceView) (c : Cursor) (i : ℕ) → holds_leaf c.held i ≡ true → DescendsSpans c i old old c
held_descends old c i leaf =
    let level = leaf_level c.held i leaf in
    record {
      most = 0;
      few = omega (arith, level);
      source = asks_spans-none c.section 0 (LeavesSpans c c i) old (λ file stands rest next. subst (λ (spans : List Span). AskedAs spans rest) (leaf_left file c.section i c.held leaf) next);
    }

-- one step more
pub descends_on : (old mid new : SourceView) (a b c : Cursor) (i : ℕ) → b.section ≡ a.section → KeepsStanding old a b → held_level c.held < held_level b.held → DescendsSpans a i old mid b → StepsSpans b i mid new c → DescendsSpans a i old new c
descends_on old mid new a b c i same keeps lower first next =
    let few = first.few in
    let later : AsksSpans a.section 2 (LeavesBelow b c i) mid new = subst (λ (s : Section). AsksSpans s 2 (LeavesBelow b c i) mid new) same next in
    record {
      most = first.most + 2;
      few = omega (arith, few, lower);
      source = asks_spans-on a.section first.most 2 (first.most + 2) (LeavesSpans a b i) (LeavesBelow b c i) (LeavesSpans a c i) old mid new (omega arith)
          (told_map (λ file. StandsIn file a → StandsIn file b) (λ file. (p q : List ℕ) → LeavesSpans a b i file p → LeavesBelow b c i file q → LeavesSpans a c i file (p ++ q)) old.held
          (λ file keep p q x y stands rest left.
          let there : AskedAs (left_spans file a.section i b.held) (q ++ rest) = rw same at (y (keep stands) rest (rw same left)) in
          rw (append_assoc p q rest) (x stands (q ++ rest) there)) keeps) first.source later;
    }

-- a step more, which was refused, or the four bytes
pub below_on : (old mid new : SourceView) (a b : Cursor) (i n most : ℕ) → b.section ≡ a.section → KeepsStanding old a b → (first : DescendsSpans a i old mid b) → first.most + n ≤ most → AsksBelow n b i mid new → AsksSpans a.section most (OnSpans a i) old new
below_on old mid new a b i n most same keeps first enough next =
    let later : AsksSpans a.section n (IsBelow b i) mid new = subst (λ (s : Section). AsksSpans s n (IsBelow b i) mid new) same next in
    asks_spans-on a.section first.most n most (LeavesSpans a b i) (IsBelow b i) (OnSpans a i) old mid new enough
    (told_map (λ file. StandsIn file a → StandsIn file b) (λ file. (p q : List ℕ) → LeavesSpans a b i file p → IsBelow b i file q → OnSpans a i file (p ++ q)) old.held
    (λ file keep p q x y stands. x stands q (rw same at (y (keep stands)))) keeps) first.source later

one_more : (held : Option HeldPacket) (i : ℕ) → packets_spans held i + 1 ≡ most_spans held i
one_more held i = by_leaf (holds_leaf held i)
  where
    by_leaf : (leaf : Bool) → (if leaf then 0 else 12) + 1 ≡ (if leaf then 1 else 13)
    by_leaf true = refl
    by_leaf false = refl

-- the steps, and the four bytes
pub path_asked : (old mid new : SourceView) (a b : Cursor) (i : ℕ) → b.section ≡ a.section → KeepsStanding old a b → DescendsSpans a i old mid b → AsksBelow 1 b i mid new → AsksPath a i old new
path_asked old mid new a b i same keeps first next =
    let few = first.few in
    let most = one_more a.held i in
    below_on old mid new a b i 1 (most_spans a.held i) same keeps first (omega (arith, few, most)) next

-- the steps, of which the last one was refused
pub path_stopped : (old mid new : SourceView) (a b : Cursor) (i : ℕ) → b.section ≡ a.section → KeepsStanding old a b → 0 < held_level b.held → DescendsSpans a i old mid b → AsksBelow 2 b i mid new → StopsSpans a i old new
path_stopped old mid new a b i same keeps higher first next =
    let few = first.few in
    below_on old mid new a b i 2 (packets_spans a.held i) same keeps first (omega (arith, few, higher)) next

pub stopped_path : (old new : SourceView) (a : Cursor) (i : ℕ) → StopsSpans a i old new → AsksPath a i old new
stopped_path old new a i stops =
    let most = one_more a.held i in
    asks_spans-by a.section (packets_spans a.held i) (most_spans a.held i) (OnSpans a i) (OnSpans a i) old new (omega (arith, most)) (told_all (λ file. (p : List ℕ) → OnSpans a i file p → OnSpans a i file p) old.held (λ file p on. on)) stops

-- ---- where the section was taken out of the cursor

pub root_spans_of : {X : Type 0} (r : Result X ReadFault) (old new : SourceView) (before after : Cursor) (s : Section) (i : ℕ) → s ≡ before.section → holds_leaf before.held i ≡ false → AsksLoad before None (record { first = 0; place = s.index }) old new
    → MatchResult r (λ _. LoadsIndex old before None (record { first = 0; place = s.index }) s.count new after) (λ found. LosesLoad old before None (record { first = 0; place = s.index }) s.count found new after)
    → MatchResult r (λ _. DescendsSpans before i old new after) (λ _. StopsSpans before i old new)
root_spans_of r old new before after s i is away asks load =
    root_spans r old new before after i away (subst (λ (x : Section). AsksLoad before None (record { first = 0; place = x.index }) old new) is asks)
    (subst (λ (x : Section). MatchResult r (λ _. LoadsIndex old before None (record { first = 0; place = x.index }) x.count new after) (λ found. LosesLoad old before None (record { first = 0; place = x.index }) x.count found new after)) is load)

pub target_below_of : (old new : SourceView) (c : Cursor) (s : Section) (i : ℕ) (x : Entry) (ends : ℕ) → s ≡ c.section → HoldsRecord c.held i → held_level c.held ≡ 0 → IfSome c.held (λ h. IsPicked h.bound h.entries i x ends) → IfSome c.held (λ h. begins_and_rises h.first h.bound h.entries ≡ true)
    → AsksSpans s 1 (λ file. AskedAs (target_spans s x)) old new → AsksBelow 1 c i old new
target_below_of old new c s i x ends is has leaf picked up asks =
    target_below old new c i x ends has leaf picked up (subst (λ (y : Section). AsksSpans y 1 (λ file. AskedAs (target_spans y x)) old new) is asks)

-- the leaf is held at the end
pub leaf_held : {X : Type 0} (r : Result X ReadFault) (held : Option HeldPacket) (i : ℕ) → held_level held ≡ 0 → HoldsRecord held i → MatchResult r (λ _. holds_leaf held i ≡ true) (λ _. Unit {0})
leaf_held (Err found) held i level has = tt
leaf_held (Ok x) None i level has = absurd has
leaf_held (Ok x) (Some h) i level has = rw (eq-eqb h.level 0 level, le-leb h.first i has.0, lt-ltb i h.bound has.1) refl
