-- The steps of a search: down from the root, packet by packet, and to the chunk.
use Rattle.std.specs.Prelude.{◌≡◌, ℕ, zero, suc, ◌<◌, ◌≤◌, ◌==◌, true, false, List, [], ◌∷◌, Option, Some, None, IfSome, IsSomeAnd, MatchResult, Result, Ok, Err}
use Rattle.std.proofs.Common.{refl, sym, subst, arith}
use Rattle.std.proofs.lemmas.Bool.{eqb-true, eq-eqb, and_parts, false≢true}
use Rattle.e57_base.proofs.CountLaws.{rose_before}
use Rattle.e57_base.specs.Source.{SourceView}
use Rattle.e57_base.proofs.Told.{told_map, told_both, told_here, told_all}
use Rattle.e57_base.specs.declared.fault.Fault.{Fault}
use Rattle.e57_base.specs.declared.fault.ReadFault.{ReadFault}
use Rattle.e57_base.specs.declared.fault.ReadFault.TheVariants.{Refused, Source}
use Rattle.e57_layout.specs.IndexPackets.{entry_at, entries_at}
use Rattle.e57_layout.specs.declared.packet.Entry.{Entry}
use Rattle.e57_layout.specs.declared.section.Section.{Section}
use Rattle.e57_page.specs.Place.{place}
use Rattle.e57_cloud.specs.Index.{begins_and_rises, rises, target_fault, root_entry, root_level, next_first, Rises, HasEntry}
use Rattle.e57_cloud.specs.PathItem.{path}
use Rattle.e57_cloud.specs.Met.{InTarget, OnPath}
use Rattle.e57_cloud.proofs.Laws.Indexes.{rises-to}
use Rattle.e57_cloud.proofs.Laws.Descents.{entry-within}
use Rattle.e57_index.specs.declared.cursor.Found.{Found}
use Rattle.e57_index.specs.Asking.{AsksMet}
use Rattle.e57_index.specs.Picking.{IsPicked}
use Rattle.e57_index.specs.OnePacket.{level_of, wanted_fault, OnPacket, IsPacketAt}
use Rattle.e57_index.specs.Reading.{AsksTarget, ReadsTarget, LosesTarget}
use Rattle.e57_index.specs.Standing.{HeldPacket, Cursor, AreLed, entry_of, IsOfFile, StandsIn}
use Rattle.e57_index.specs.Holding.{LoadsIndex, LosesLoad}
use Rattle.e57_index.specs.Finding.{OnWay, AsksWay, KeepsStanding, FindsChunk, IsWayCause, LosesChunk, StepsDown, HoldsRecord, held_level, chunk_of}
use Rattle.e57_index.proofs.Asked.{asks_met-on, asks_met-by}
use Rattle.e57_index.proofs.Judged.{level_is, no_fault}
use Rattle.e57_index.proofs.Led.{root_led, root_lost, root_met, packet_lost, packet_met, child_led, target_lost, target_met, target_found}
use Rattle.e57_index.proofs.Judging.{known_is}

-- ---- the entries that are held

pub first_is : (first bound : ℕ) (es : List Entry) → begins_and_rises first bound es ≡ true → Rises first bound es × (next_first bound es ≡ first)
unfolding begins_and_rises
first_is first bound [] up = absurd (false≢true up)
first_is first bound (e ∷ es) up =
    let both = and_parts (e.first == first) (rises first bound (e ∷ es)) up in
    (rises-to first bound (e ∷ es) both.1, eqb-true e.first first both.0)

pub picked_below : (first bound i : ℕ) (es : List Entry) (x : Entry) (ends : ℕ) → begins_and_rises first bound es ≡ true → IsPicked bound es i x ends → ends ≤ bound
picked_below first bound i es x ends up picked = (entry-within first bound es x ends (first_is first bound es up).0 picked.has).2

-- ---- a packet on the way

-- what an entry leads to is on the path of record i
pub record IsWay (before : Cursor) (wanted : Option ℕ) (e : Entry) (bound i : ℕ) : Type 0 where
  pub low : e.first ≤ i
  pub high : i < bound
  pub led : (file : List ℕ) → StandsIn file before → wanted_fault file before.section wanted e bound ≡ None → AreLed file before.section (suc (level_of file wanted e)) e bound
  pub met : (file : List ℕ) → StandsIn file before → (p : ℕ) → OnPacket before.section wanted e file p → OnPath file before.section i p
  pub lost : (file : List ℕ) → StandsIn file before → (found : Fault) → wanted_fault file before.section wanted e bound ≡ Some found → path file before.section i ≡ Err found

pub root_way : (before : Cursor) (i : ℕ) → (before.section.index == 0) ≡ false → i < before.section.count → IsWay before None (root_entry before.section) before.section.count i
unfolding root_level
root_way before i indexed below =
    record {
      low = omega arith;
      high = below;
      led = λ file stands none. root_led file before.section indexed none;
      met = λ file stands p on. root_met file before.section i p indexed on;
      lost = λ file stands found is. root_lost file before.section i found indexed is;
    }

held_of : (file : List ℕ) (before : Cursor) (h : HeldPacket) → before.held ≡ Some h → StandsIn file before → IsOfFile file before.section h
held_of file before h is stands = subst (λ (held : Option HeldPacket). IfSome held (IsOfFile file before.section)) is stands

-- an entry of the held packet is on the path of its records
held_led : (file : List ℕ) (before : Cursor) (h : HeldPacket) (x : Entry) (ends : ℕ) → before.held ≡ Some h → begins_and_rises h.first h.bound h.entries ≡ true → HasEntry h.bound h.entries x ends → StandsIn file before → AreLed file before.section h.level x ends
held_led file before h x ends is up has stands =
    let of = held_of file before h is stands in
    let none = no_fault file before.section (Some h.level) (entry_of h) h.bound h.level h.entries of.is (eq-eqb h.level h.level refl) up in
    child_led file before.section h.level (entry_of h) h.bound x ends of.led none (subst (λ (es : List Entry). HasEntry h.bound es x ends) of.is.has has)

pub child_way : (before : Cursor) (h : HeldPacket) (level i : ℕ) (x : Entry) (ends : ℕ) → before.held ≡ Some h → begins_and_rises h.first h.bound h.entries ≡ true → h.level ≡ suc level → IsPicked h.bound h.entries i x ends → IsWay before (Some level) x ends i
child_way before h level i x ends is up higher picked =
    record {
      low = picked.low;
      high = picked.high;
      led = λ file stands none. led file stands;
      met = λ file stands p on. packet_met file before.section level x ends i p (led file stands i picked.low picked.high) on;
      lost = λ file stands found lost. packet_lost file before.section level x ends i found (led file stands i picked.low picked.high) lost;
    }
  where
    led : (file : List ℕ) → StandsIn file before → AreLed file before.section (suc level) x ends
    led file stands = rw higher at (held_led file before h x ends is up picked.has stands)

-- the packet was loaded
pub stepped : (old new : SourceView) (before after : Cursor) (wanted : Option ℕ) (e : Entry) (bound i : ℕ) → after.section ≡ before.section → IsWay before wanted e bound i → LoadsIndex old before wanted e bound new after → StepsDown old before i new after
stepped old new before after wanted e bound i same way load =
    record {
      source = asks_met-by before.section (OnPacket before.section wanted e) (OnWay before i) old new (told_all (λ file. (p : ℕ) → OnPacket before.section wanted e file p → OnWay before i file p) old.held (λ file p on stands. way.met file stands p on)) load.source;
      stands = told_map (λ file. StandsIn file before → IsPacketAt file before.section e.place load.h.level load.h.entries) (λ file. StandsIn file before → StandsIn file after) old.held (λ file at stands. of_file file stands (at stands)) load.is;
      has = rw load.held (omega (arith, load.same_first, way.low), omega (arith, load.same_bound, way.high));
    }
  where
    of_file : (file : List ℕ) → StandsIn file before → IsPacketAt file before.section e.place load.h.level load.h.entries → StandsIn file after
    of_file file stands at =
        let none = no_fault file before.section wanted e bound load.h.level load.h.entries at load.fits load.ordered in
        let led : AreLed file before.section (suc load.h.level) e bound = rw (level_is file wanted e load.h.level at.of_level load.fits) at (way.led file stands none) in
        rw (load.held, same) (record { is = rw load.same_place at; led = rw (load.same_first, load.same_place, load.same_bound) led })

-- it wasn't
pub lost_way : (old new : SourceView) (before after : Cursor) (wanted : Option ℕ) (e : Entry) (bound i : ℕ) (found : ReadFault) → IsWay before wanted e bound i → LosesLoad old before wanted e bound found new after → LosesChunk old before i found new after
lost_way old new before after wanted e bound i (Refused found) way lost =
    record {
      source = asks_met-by before.section (OnPacket before.section wanted e) (OnWay before i) old new (told_all (λ file. (p : ℕ) → OnPacket before.section wanted e file p → OnWay before i file p) old.held (λ file p on stands. way.met file stands p on)) lost.source;
      cause = (lost.cause.0, told_map (λ file. StandsIn file before → wanted_fault file before.section wanted e bound ≡ Some found) (λ file. StandsIn file before → path file before.section i ≡ Err found) old.held (λ file is stands. way.lost file stands found (is stands)) lost.cause.1);
      stands = told_all (λ file. StandsIn file before → StandsIn file after) old.held lost.kept;
    }
lost_way old new before after wanted e bound i Source way lost =
    record {
      source = asks_met-by before.section (OnPacket before.section wanted e) (OnWay before i) old new (told_all (λ file. (p : ℕ) → OnPacket before.section wanted e file p → OnWay before i file p) old.held (λ file p on stands. way.met file stands p on)) lost.source;
      cause = lost.cause;
      stands = told_all (λ file. StandsIn file before → StandsIn file after) old.held lost.kept;
    }

-- ---- one step after another

-- what was asked for from a cursor that stands where the first one stood
on_later : (old : SourceView) (a b : Cursor) (i : ℕ) → b.section ≡ a.section → KeepsStanding old a b → IfSome old.held (λ file. (p : ℕ) → OnWay b i file p → OnWay a i file p)
on_later old a b i same keeps = told_map (λ file. StandsIn file a → StandsIn file b) (λ file. (p : ℕ) → OnWay b i file p → OnWay a i file p) old.held (λ file keep p way stands. rw same at (way (keep stands))) keeps

asks_later : (old mid new : SourceView) (a b : Cursor) (i : ℕ) → b.section ≡ a.section → AsksWay a i old mid → KeepsStanding old a b → AsksWay b i mid new → AsksWay a i old new
asks_later old mid new a b i same first keeps next =
    let later : AsksMet a.section (OnWay b i) mid new = subst (λ (s : Section). AsksMet s (OnWay b i) mid new) same next in
    asks_met-on a.section (OnWay a i) old mid new first
    (asks_met-by a.section (OnWay b i) (OnWay a i) mid new (told_here (λ file. (p : ℕ) → OnWay b i file p → OnWay a i file p) old.held mid.held first.asks.same.held (on_later old a b i same keeps)) later)

keeps_later : (old mid : SourceView) (a b c : Cursor) → mid.held ≡ old.held → KeepsStanding old a b → KeepsStanding mid b c → KeepsStanding old a c
keeps_later old mid a b c same first next =
    told_both (λ file. StandsIn file a → StandsIn file b) (λ file. StandsIn file b → StandsIn file c) (λ file. StandsIn file a → StandsIn file c) old.held (λ file f g stands. g (f stands)) first
    (told_here (λ file. StandsIn file b → StandsIn file c) mid.held old.held (sym same) next)

pub steps_later : (old mid new : SourceView) (a b c : Cursor) (i : ℕ) → b.section ≡ a.section → AsksWay a i old mid → KeepsStanding old a b → StepsDown mid b i new c → StepsDown old a i new c
steps_later old mid new a b c i same first keeps next =
    record { source = asks_later old mid new a b i same first keeps next.source; stands = keeps_later old mid a b c first.asks.same.held keeps next.stands; has = next.has }

cause_later : (old mid new : SourceView) (a b : Cursor) (i : ℕ) (found : ReadFault) → b.section ≡ a.section → AsksWay a i old mid → KeepsStanding old a b → IsWayCause mid b i found new → IsWayCause old a i found new
cause_later old mid new a b i (Refused found) same first keeps cause = (
  cause.0,
  told_both (λ file. StandsIn file a → StandsIn file b) (λ file. StandsIn file b → path file b.section i ≡ Err found) (λ file. StandsIn file a → path file a.section i ≡ Err found) old.held
      (λ file keep is stands. rw same at (is (keep stands))) keeps
      (told_here (λ file. StandsIn file b → path file b.section i ≡ Err found) mid.held old.held (sym first.asks.same.held) cause.1),
)
cause_later old mid new a b i Source same first keeps cause = rose_before old.faults mid.faults new.faults first.asks.faults cause

pub lost_later : (old mid new : SourceView) (a b c : Cursor) (i : ℕ) (found : ReadFault) → b.section ≡ a.section → AsksWay a i old mid → KeepsStanding old a b → LosesChunk mid b i found new c → LosesChunk old a i found new c
lost_later old mid new a b c i found same first keeps next =
    record {
      source = asks_later old mid new a b i same first keeps next.source;
      cause = cause_later old mid new a b i found same first keeps next.cause;
      stands = keeps_later old mid a b c first.asks.same.held keeps next.stands;
    }

pub found_later : (old mid new : SourceView) (a b c : Cursor) (i : ℕ) (f : Found) → b.section ≡ a.section → AsksWay a i old mid → KeepsStanding old a b → FindsChunk mid b i f new c → FindsChunk old a i f new c
found_later old mid new a b c i f same first keeps next =
    record {
      source = asks_later old mid new a b i same first keeps next.source;
      low = next.low;
      high = next.high;
      most = rw same at next.most;
      data_after = rw same at next.data_after;
      within = rw same at next.within;
      stands = keeps_later old mid a b c first.asks.same.held keeps next.stands;
      is = told_both (λ file. StandsIn file a → StandsIn file b) (λ file. StandsIn file b → (j : ℕ) → f.start ≤ j → j < f.until → path file b.section j ≡ Ok (chunk_of f)) (λ file. StandsIn file a → (j : ℕ) → f.start ≤ j → j < f.until → path file a.section j ≡ Ok (chunk_of f)) old.held
          (λ file keep is stands j low high. rw same at (is (keep stands) j low high)) keeps
          (told_here (λ file. StandsIn file b → (j : ℕ) → f.start ≤ j → j < f.until → path file b.section j ≡ Ok (chunk_of f)) mid.held old.held (sym first.asks.same.held) next.is);
    }

-- ---- the chunk

leaf_led : (file : List ℕ) (c : Cursor) (h : HeldPacket) (x : Entry) (ends : ℕ) → c.held ≡ Some h → h.level ≡ 0 → begins_and_rises h.first h.bound h.entries ≡ true → HasEntry h.bound h.entries x ends → StandsIn file c → AreLed file c.section 0 x ends
leaf_led file c h x ends is leaf up has stands = rw leaf at (held_led file c h x ends is up has stands)

asks_leaf : (old new : SourceView) (c : Cursor) (h : HeldPacket) (i : ℕ) (x : Entry) (ends : ℕ) → c.held ≡ Some h → h.level ≡ 0 → begins_and_rises h.first h.bound h.entries ≡ true → IsPicked h.bound h.entries i x ends → AsksTarget c.section x old new → AsksWay c i old new
asks_leaf old new c h i x ends is leaf up picked asks =
    asks_met-by c.section (λ file p. InTarget c.section x p) (OnWay c i) old new
    (told_all (λ file. (p : ℕ) → InTarget c.section x p → OnWay c i file p) old.held (λ file p on stands. target_met file c.section x ends i p (leaf_led file c h x ends is leaf up picked.has stands i picked.low picked.high) on)) asks

pub found_chunk : (old new : SourceView) (c : Cursor) (h : HeldPacket) (i : ℕ) (x : Entry) (ends q : ℕ) → c.held ≡ Some h → h.level ≡ 0 → begins_and_rises h.first h.bound h.entries ≡ true → IsPicked h.bound h.entries i x ends → ends ≤ c.section.count → ReadsTarget old c.section x q new
    → FindsChunk old c i (record { start = x.first; until = ends; place = q }) new c
found_chunk old new c h i x ends q is leaf up picked most read =
    record {
      source = asks_leaf old new c h i x ends is leaf up picked read.source;
      low = picked.low;
      high = picked.high;
      most = most;
      data_after = read.after;
      within = read.within;
      stands = told_all (λ file. StandsIn file c → StandsIn file c) old.held (λ file stands. stands);
      is = told_map (λ file. target_fault file c.section x ≡ None) (λ file. StandsIn file c → (j : ℕ) → x.first ≤ j → j < ends → path file c.section j ≡ Ok (record { first = x.first; until = ends; place = q })) old.held
          (λ file none stands j low high. rw (known_is x.place q read.at) at (target_found file c.section x ends j (leaf_led file c h x ends is leaf up picked.has stands j low high) none)) read.sound;
    }

pub lost_chunk : (old new : SourceView) (c : Cursor) (h : HeldPacket) (i : ℕ) (x : Entry) (ends : ℕ) (found : ReadFault) → c.held ≡ Some h → h.level ≡ 0 → begins_and_rises h.first h.bound h.entries ≡ true → IsPicked h.bound h.entries i x ends → LosesTarget old c.section x found new → LosesChunk old c i found new c
lost_chunk old new c h i x ends (Refused found) is leaf up picked lost =
    record {
      source = asks_leaf old new c h i x ends is leaf up picked lost.source;
      cause = (
        lost.cause.0,
        told_map (λ file. target_fault file c.section x ≡ Some found) (λ file. StandsIn file c → path file c.section i ≡ Err found) old.held
            (λ file wrong stands. target_lost file c.section x ends i found (leaf_led file c h x ends is leaf up picked.has stands i picked.low picked.high) wrong) lost.cause.1,
      );
      stands = told_all (λ file. StandsIn file c → StandsIn file c) old.held (λ file stands. stands);
    }
lost_chunk old new c h i x ends Source is leaf up picked lost =
    record { source = asks_leaf old new c h i x ends is leaf up picked lost.source; cause = lost.cause; stands = told_all (λ file. StandsIn file c → StandsIn file c) old.held (λ file stands. stands) }

-- ---- what a call answered

pub some_and : (held : Option HeldPacket) (P : HeldPacket → Type 0) → IsSomeAnd held P → (h : HeldPacket) × (held ≡ Some h) × P h
some_and None P is = absurd is
some_and (Some h) P is = (h, refl, is)

pub some_if : (held : Option HeldPacket) (h : HeldPacket) (P : HeldPacket → Type 0) → held ≡ Some h → IfSome held P → P h
some_if held h P is all = subst (λ (x : Option HeldPacket). IfSome x P) is all

pub taken : {X : Type 0} (r : Result X ReadFault) (old new : SourceView) (before after : Cursor) (wanted : Option ℕ) (e : Entry) (bound i : ℕ) → after.section ≡ before.section → IsWay before wanted e bound i → MatchResult r (λ _. LoadsIndex old before wanted e bound new after) (λ found. LosesLoad old before wanted e bound found new after)
    → MatchResult r (λ _. StepsDown old before i new after) (λ found. LosesChunk old before i found new after)
taken (Ok x) old new before after wanted e bound i same way load = stepped old new before after wanted e bound i same way load
taken (Err found) old new before after wanted e bound i same way lost = lost_way old new before after wanted e bound i found way lost

lower_by : (after : Cursor) (old new : SourceView) (before : Cursor) (level : ℕ) (e : Entry) (bound : ℕ) → LoadsIndex old before (Some level) e bound new after → held_level after.held ≡ level
lower_by after old new before level e bound load = rw load.held (eqb-true load.h.level level load.fits)

pub lower : {X : Type 0} (r : Result X ReadFault) (old new : SourceView) (before after : Cursor) (level : ℕ) (e : Entry) (bound : ℕ) → held_level before.held ≡ suc level → MatchResult r (λ _. LoadsIndex old before (Some level) e bound new after) (λ found. LosesLoad old before (Some level) e bound found new after)
    → MatchResult r (λ _. held_level after.held < held_level before.held) (λ _. Unit {0})
lower (Ok x) old new before after level e bound is load = let under = lower_by after old new before level e bound load in omega (arith, is, under)
lower (Err found) old new before after level e bound is load = tt

pub down_way : (before : Cursor) (level i : ℕ) (x : Entry) (ends : ℕ) → HoldsRecord before.held i → held_level before.held ≡ suc level → IfSome before.held (λ h. IsPicked h.bound h.entries i x ends) → IfSome before.held (λ h. begins_and_rises h.first h.bound h.entries ≡ true) → IsWay before (Some level) x ends i
down_way before level i x ends has higher picked up =
    let held = some_and before.held (λ h. (h.first ≤ i) × (i < h.bound)) has in
    let of_level : held.0.level ≡ suc level = rw held.1 at higher in
    child_way before held.0 level i x ends held.1 (some_if before.held held.0 (λ h. begins_and_rises h.first h.bound h.entries ≡ true) held.1 up) of_level (some_if before.held held.0 (λ h. IsPicked h.bound h.entries i x ends) held.1 picked)

pub leaf_found : (old new : SourceView) (c : Cursor) (i : ℕ) (x : Entry) (ends q : ℕ) → HoldsRecord c.held i → held_level c.held ≡ 0 → IfSome c.held (λ h. IsPicked h.bound h.entries i x ends) → IfSome c.held (λ h. begins_and_rises h.first h.bound h.entries ≡ true) → ends ≤ c.section.count → ReadsTarget old c.section x q new
    → FindsChunk old c i (record { start = x.first; until = ends; place = q }) new c
leaf_found old new c i x ends q has leaf picked up most read =
    let held = some_and c.held (λ h. (h.first ≤ i) × (i < h.bound)) has in
    let of_level : held.0.level ≡ 0 = rw held.1 at leaf in
    found_chunk old new c held.0 i x ends q held.1 of_level (some_if c.held held.0 (λ h. begins_and_rises h.first h.bound h.entries ≡ true) held.1 up) (some_if c.held held.0 (λ h. IsPicked h.bound h.entries i x ends) held.1 picked) most read

pub leaf_lost : (old new : SourceView) (c : Cursor) (i : ℕ) (x : Entry) (ends : ℕ) (found : ReadFault) → HoldsRecord c.held i → held_level c.held ≡ 0 → IfSome c.held (λ h. IsPicked h.bound h.entries i x ends) → IfSome c.held (λ h. begins_and_rises h.first h.bound h.entries ≡ true) → LosesTarget old c.section x found new → LosesChunk old c i found new c
leaf_lost old new c i x ends found has leaf picked up lost =
    let held = some_and c.held (λ h. (h.first ≤ i) × (i < h.bound)) has in
    let of_level : held.0.level ≡ 0 = rw held.1 at leaf in
    lost_chunk old new c held.0 i x ends found held.1 of_level (some_if c.held held.0 (λ h. begins_and_rises h.first h.bound h.entries ≡ true) held.1 up) (some_if c.held held.0 (λ h. IsPicked h.bound h.entries i x ends) held.1 picked) lost

pub after_leaf : (r : Result Found ReadFault) (old mid new : SourceView) (a b : Cursor) (i : ℕ) → b.section ≡ a.section → StepsDown old a i mid b → MatchResult r (λ f. FindsChunk mid b i f new b) (λ found. LosesChunk mid b i found new b)
    → MatchResult r (λ f. FindsChunk old a i f new b) (λ found. LosesChunk old a i found new b)
after_leaf (Ok f) old mid new a b i same step is = found_later old mid new a b b i f same step.source step.stands is
after_leaf (Err found) old mid new a b i same step is = lost_later old mid new a b b i found same step.source step.stands is

-- the first of the held entries has the first record
pub front_first : (b : List ℕ) (n first bound : ℕ) → 0 < n → begins_and_rises first bound (entries_at b 0 n) ≡ true → (entry_at b 0).first ≡ first
unfolding entries_at
front_first b zero first bound some up = absurd (omega arith)
front_first b (suc n) first bound some up = (first_is first bound (entries_at b 0 (suc n)) up).1

pub rooted : {X : Type 0} (r : Result X ReadFault) (old new : SourceView) (before after : Cursor) (s : Section) (i : ℕ) → s ≡ before.section → (s.index == 0) ≡ false → i < before.section.count → after.section ≡ before.section
    → MatchResult r (λ _. LoadsIndex old before None (record { first = 0; place = s.index }) s.count new after) (λ found. LosesLoad old before None (record { first = 0; place = s.index }) s.count found new after)
    → MatchResult r (λ _. StepsDown old before i new after) (λ found. LosesChunk old before i found new after)
rooted r old new before after s i is indexed below same load =
    let there : (before.section.index == 0) ≡ false = subst (λ (x : Section). (x.index == 0) ≡ false) is indexed in
    taken r old new before after None (root_entry before.section) before.section.count i same (root_way before i there below)
    (subst (λ (x : Section). MatchResult r (λ _. LoadsIndex old before None (record { first = 0; place = x.index }) x.count new after) (λ found. LosesLoad old before None (record { first = 0; place = x.index }) x.count found new after)) is load)
