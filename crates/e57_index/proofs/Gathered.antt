-- The walk over an index, step by step.
use Rattle.std.specs.Prelude.{◌≡◌, ℕ, suc, ◌+◌, ◌-◌, ◌*◌, ◌<◌, ◌≤◌, nat_lt, true, Result, MatchResult, List, [], ◌∷◌, ◌++◌, length, Option, Some, None, IfSome, flat_map}
use Rattle.std.specs.List.{AllByRecursion}
use Rattle.std.specs.Option.{option_or}
use Rattle.std.proofs.Common.{refl, sym, ap, subst, ◌∙◌, arith}
use Rattle.std.proofs.lemmas.List.{append_assoc, append-nil}
use Rattle.std.proofs.lemmas.Bool.{eq-eqb, eqb-true, ltb-false}
use Rattle.e57_base.proofs.CountLaws.{rose_before}
use Rattle.e57_base.specs.Fault.{read_as_open}
use Rattle.e57_base.specs.Source.{SourceView}
use Rattle.e57_base.proofs.Told.{told_map, told_both, told_here, told_all}
use Rattle.e57_base.specs.declared.fault.Fault.{Fault}
use Rattle.e57_base.specs.declared.fault.ReadFault.{ReadFault}
use Rattle.e57_base.specs.declared.fault.ReadFault.TheVariants as of_read
use Rattle.e57_base.specs.declared.fault.OpenFault.{OpenFault}
use Rattle.e57_base.specs.declared.fault.OpenFault.TheVariants.{Refused, Source, Memory}
use Rattle.e57_page.proofs.PagesLaws.{asks_for_none, asks_for_on}
use Rattle.e57_layout.specs.declared.packet.Entry.{Entry}
use Rattle.e57_layout.specs.declared.packet.IndexHead.{IndexHead}
use Rattle.e57_layout.specs.declared.section.Section.{Section}
use Rattle.e57_layout.specs.IndexPackets.{entries_at}
use Rattle.e57_cloud.specs.Index.{begins_and_rises, next_first, entries_of, each_fault, entry_fault, entries_below, index_fault, index_packet_fault, root_fault, root_level, root_entry, entries as the_entries, Rises}
use Rattle.e57_cloud.proofs.Laws.Indexes.{rises-from, rises-lower, next_first-append}
use Rattle.e57_index.specs.Asking.{InSection, AsksMet}
use Rattle.e57_index.specs.OnePacket.{level_of, level_fits, wanted_fault, OnPacket, IsPacketAt}
use Rattle.e57_index.specs.Reading.{ReadsIndex, LosesIndex, ReadsTarget, LosesTarget}
use Rattle.e57_index.specs.Gathering.{AsksInside, IsAmongData, HaveRecords, branch_fault, branch_entries, Gathers, IsGatherCause, GathersNot, GathersIndex, GathersNoIndex}
use Rattle.e57_index.proofs.Judged.{not_is, level_is, no_fault}
use Rattle.e57_index.proofs.Ways.{first_is}
use Rattle.e57_base.proofs.Options.{option_or_assoc}
use Rattle.e57_base.proofs.Lists.{all_append}

-- ---- pages

pub inside : (s : Section) (met : List ℕ → ℕ → Type 0) (a b : SourceView) → AsksMet s met a b → AsksInside s a b
inside s met a b asks = record { pages = asks.pages; asks = asks.asks; within = asks.within }

pub inside-on : (s : Section) (a b c : SourceView) → AsksInside s a b → AsksInside s b c → AsksInside s a c
inside-on s a b c f g = record { pages = f.pages ++ g.pages; asks = asks_for_on f.pages g.pages f.asks g.asks; within = all_append (InSection s) f.pages g.pages f.within g.within }

-- ---- records

low-first : (first bound : ℕ) (es : List Entry) → next_first bound es ≡ first → Rises first bound es → first ≤ bound
low-first first bound [] begins up = omega (arith, begins)
low-first first bound (e ∷ es) begins up = let below = up.1 in omega (arith, begins, below)

join : (least bound : ℕ) (xs ys : List Entry) → Rises least (next_first bound ys) xs → Rises least bound ys → next_first bound ys ≤ bound → Rises least bound (xs ++ ys)
join least bound [] ys first second low = second
join least bound (x ∷ xs) ys first second low =
    let under = first.1 in
    (first.0, omega (arith, under, low), join (x.first + 1) bound xs ys first.2 (above (x.first + 1) least bound ys (omega (arith, under)) second) low)
  where
    above : (more least bound : ℕ) (es : List Entry) → more ≤ next_first bound es → Rises least bound es → Rises more bound es
    above more least bound [] over up = tt
    above more least bound (e ∷ es) over up = (over, up.1, up.2)

entries-append : (P : Entry → Type 0) (xs ys : List Entry) → AllByRecursion P xs → AllByRecursion P ys → AllByRecursion P (xs ++ ys)
entries-append P [] ys first next = next
entries-append P (x ∷ xs) ys first next = (first.0, entries-append P xs ys first.1 next)

-- the records up to one, and those from it on
records-on : (s : Section) (a b c : ℕ) (xs ys : List Entry) → HaveRecords s a b xs → HaveRecords s b c ys → HaveRecords s a c (xs ++ ys)
records-on s a b c xs ys f g =
    let low = low-first a b xs f.begins f.rise in
    let high = low-first b c ys g.begins g.rise in
    let mid = g.begins in
    record {
      begins = next_first-append c xs ys ∙ ap (λ (n : ℕ). next_first n xs) mid ∙ f.begins;
      rise = join a c xs ys (rw mid f.rise) (rises-lower a b c ys low g.rise) (omega (arith, mid, high));
      among = entries-append (IsAmongData s) xs ys f.among g.among;
    }

-- ---- what an entry of height 0 names

among : (old new : SourceView) (s : Section) (e : Entry) (q : ℕ) → ReadsTarget old s e q new → IsAmongData s e
among old new s e q read = rw read.at (read.after, read.within)

pub target_taken : (old new : SourceView) (s : Section) (e : Entry) (q bound : ℕ) (had have : List Entry) → have ≡ had ++ e ∷ [] → e.first < bound → ReadsTarget old s e q new → Gathers s e.first bound (λ file. entry_fault file s 0 e bound) (λ file. entries_below file 0 e) old had new have
unfolding entry_fault entries_below
target_taken old new s e q bound had have is low read =
    record {
      source = inside s _ old new read.source;
      added = e ∷ [];
      has = is;
      records = record { begins = refl; rise = (omega arith, low, tt); among = (among old new s e q read, tt) };
      sound = read.sound;
      is = told_all (λ file. e ∷ [] ≡ entries_below file 0 e) old.held (λ file. refl);
    }

pub target_lost : (old new : SourceView) (s : Section) (e : Entry) (bound : ℕ) (found : ReadFault) → LosesTarget old s e found new → GathersNot s (λ file. entry_fault file s 0 e bound) old (read_as_open found) new
unfolding entry_fault
target_lost old new s e bound (of_read.Refused found) lost = record { source = inside s _ old new lost.source; cause = lost.cause }
target_lost old new s e bound of_read.Source lost = record { source = inside s _ old new lost.source; cause = lost.cause }

-- ---- entry after entry

-- Of these entries of one height all but the last ones were walked over.
pub record Walks (s : Section) (first bound height : ℕ) (es left : List Entry) (old : SourceView) (had : List Entry) (new : SourceView) (have : List Entry) : Type 0 where
  pub source : AsksInside s old new
  pub added : List Entry
  pub has : have ≡ had ++ added
  pub records : HaveRecords s first (next_first bound left) added
  pub up : Rises (next_first bound left) bound left
  pub is : IfSome old.held (λ file. (each_fault (entry_fault file s height) bound es ≡ each_fault (entry_fault file s height) bound left) × (flat_map (entries_below file height) es ≡ added ++ flat_map (entries_below file height) left))

asks_none : (s : Section) (a : SourceView) → AsksInside s a a
asks_none s a = record { pages = []; asks = asks_for_none a; within = tt }

pub walks-none : (s : Section) (first bound height : ℕ) (es : List Entry) (old : SourceView) (had : List Entry) → begins_and_rises first bound es ≡ true → Walks s first bound height es es old had old had
walks-none s first bound height es old had ordered =
    let up = first_is first bound es ordered in
    record {
      source = asks_none s old;
      added = [];
      has = sym (append-nil had);
      records = record { begins = up.1; rise = tt; among = tt };
      up = rw up.1 up.0;
      is = told_all (λ file. (each_fault (entry_fault file s height) bound es ≡ each_fault (entry_fault file s height) bound es) × (flat_map (entries_below file height) es ≡ [] ++ flat_map (entries_below file height) es)) old.held (λ file. (refl, refl));
    }

-- the first entry that is left begins below the record at which it ends
pub below_next : (least bound : ℕ) (x : Entry) (xs : List Entry) → Rises least bound (x ∷ xs) → x.first < next_first bound xs
below_next least bound x [] up = up.1
below_next least bound x (y ∷ ys) up = let above = up.2.0 in omega (arith, above)

later-up : (least bound : ℕ) (x : Entry) (xs : List Entry) → Rises least bound (x ∷ xs) → Rises (next_first bound xs) bound xs
later-up least bound x [] up = tt
later-up least bound x (y ∷ ys) up = (omega arith, up.2.1, up.2.2)

-- one entry more
pub walks-step : (s : Section) (first bound height : ℕ) (es : List Entry) (x : Entry) (xs : List Entry) (old mid new : SourceView) (had between have : List Entry) → Walks s first bound height es (x ∷ xs) old had mid between
    → Gathers s x.first (next_first bound xs) (λ file. entry_fault file s height x (next_first bound xs)) (λ file. entries_below file height x) mid between new have → Walks s first bound height es xs old had new have
unfolding each_fault
walks-step s first bound height es x xs old mid new had between have walks one =
    let held = sym walks.source.asks.same.held in
    record {
      source = inside-on s old mid new walks.source one.source;
      added = walks.added ++ one.added;
      has = one.has ∙ ap (λ (l : List Entry). l ++ one.added) walks.has ∙ append_assoc had walks.added one.added;
      records = records-on s first x.first (next_first bound xs) walks.added one.added walks.records one.records;
      up = later-up x.first bound x xs walks.up;
      is = told_both (λ file. (each_fault (entry_fault file s height) bound es ≡ each_fault (entry_fault file s height) bound (x ∷ xs)) × (flat_map (entries_below file height) es ≡ walks.added ++ flat_map (entries_below file height) (x ∷ xs)))
          (λ file. (entry_fault file s height x (next_first bound xs) ≡ None) × (one.added ≡ entries_below file height x))
          (λ file. (each_fault (entry_fault file s height) bound es ≡ each_fault (entry_fault file s height) bound xs) × (flat_map (entries_below file height) es ≡ (walks.added ++ one.added) ++ flat_map (entries_below file height) xs)) old.held
          (λ file so here. (
            so.0 ∙ ap (λ (o : Option Fault). option_or o (each_fault (entry_fault file s height) bound xs)) here.0,
            so.1 ∙ ap (λ (l : List Entry). walks.added ++ (l ++ flat_map (entries_below file height) xs)) (sym here.1) ∙ sym (append_assoc walks.added one.added (flat_map (entries_below file height) xs)),
          )) walks.is
          (told_here (λ file. (entry_fault file s height x (next_first bound xs) ≡ None) × (one.added ≡ entries_below file height x)) mid.held old.held held
          (told_both (λ file. entry_fault file s height x (next_first bound xs) ≡ None) (λ file. one.added ≡ entries_below file height x) (λ file. (entry_fault file s height x (next_first bound xs) ≡ None) × (one.added ≡ entries_below file height x)) mid.held (λ file a b. (a, b)) one.sound one.is));
    }

-- ---- one packet

each_of : (file : List ℕ) (s : Section) (wanted : Option ℕ) (e : Entry) (bound level : ℕ) (es : List Entry) → IsPacketAt file s e.place level es → level_fits wanted level ≡ true → begins_and_rises e.first bound es ≡ true
    → (branch_fault file s wanted e bound ≡ each_fault (entry_fault file s level) bound es) × (branch_entries file wanted e ≡ flat_map (entries_below file level) es)
each_of file s wanted e bound level es at fits ordered =
    let none = no_fault file s wanted e bound level es at fits ordered in
    let same = level_is file wanted e level at.of_level fits in
    let has = at.has in
    (rw (none, same, has) refl, rw (same, has) refl)

pub packet_lost : (old new : SourceView) (s : Section) (wanted : Option ℕ) (e : Entry) (bound : ℕ) (found : ReadFault) → LosesIndex old s wanted e bound found new → GathersNot s (λ file. branch_fault file s wanted e bound) old (read_as_open found) new
packet_lost old new s wanted e bound (of_read.Refused found) lost =
    record {
      source = inside s _ old new lost.source;
      cause = (lost.cause.0, told_map (λ file. wanted_fault file s wanted e bound ≡ Some found) (λ file. branch_fault file s wanted e bound ≡ Some found) old.held (λ file is. ap (λ (o : Option Fault). option_or o (each_fault (entry_fault file s (level_of file wanted e)) bound (entries_of file e.place))) is) lost.cause.1);
    }
packet_lost old new s wanted e bound of_read.Source lost = record { source = inside s _ old new lost.source; cause = lost.cause }

-- an entry of the packet led to a fault, or the source failed, or memory ran out
pub walk_lost : (old mid new last : SourceView) (s : Section) (wanted : Option ℕ) (e : Entry) (bound : ℕ) (head : IndexHead) (bytes : List ℕ) (x : Entry) (xs had between : List Entry) (found : OpenFault) → ReadsIndex old s wanted e bound head bytes mid
    → Walks s e.first bound head.level (entries_at bytes 0 head.entries) (x ∷ xs) mid had new between → GathersNot s (λ file. entry_fault file s head.level x (next_first bound xs)) new found last → GathersNot s (λ file. branch_fault file s wanted e bound) old found last
unfolding each_fault
walk_lost old mid new last s wanted e bound head bytes x xs had between found read walks lost =
    let first = inside s (OnPacket s wanted e) old mid read.source in
    record {
      source = inside-on s old mid last first (inside-on s mid new last walks.source lost.source);
      cause = by_cause found lost.cause;
    }
  where
    es : List Entry
    es = entries_at bytes 0 head.entries

    by_cause : (found : OpenFault) → IsGatherCause new (λ file. entry_fault file s head.level x (next_first bound xs)) found last → IsGatherCause old (λ file. branch_fault file s wanted e bound) found last
    by_cause (Refused wrong) cause = (
      cause.0,
      told_both (λ file. IsPacketAt file s e.place head.level es) (λ file. each_fault (entry_fault file s head.level) bound es ≡ Some wrong) (λ file. branch_fault file s wanted e bound ≡ Some wrong) old.held
          (λ file at is. (each_of file s wanted e bound head.level es at read.fits read.ordered).0 ∙ is) read.read
          (told_here (λ file. each_fault (entry_fault file s head.level) bound es ≡ Some wrong) mid.held old.held (sym read.source.asks.same.held)
          (told_both (λ file. (each_fault (entry_fault file s head.level) bound es ≡ each_fault (entry_fault file s head.level) bound (x ∷ xs)) × (flat_map (entries_below file head.level) es ≡ walks.added ++ flat_map (entries_below file head.level) (x ∷ xs)))
          (λ file. entry_fault file s head.level x (next_first bound xs) ≡ Some wrong) (λ file. each_fault (entry_fault file s head.level) bound es ≡ Some wrong) mid.held
          (λ file so here. so.0 ∙ ap (λ (o : Option Fault). option_or o (each_fault (entry_fault file s head.level) bound xs)) here) walks.is
          (told_here (λ file. entry_fault file s head.level x (next_first bound xs) ≡ Some wrong) new.held mid.held (sym walks.source.asks.same.held) cause.1))),
    )
    by_cause Source cause = rose_before old.faults mid.faults last.faults read.source.asks.faults (rose_before mid.faults new.faults last.faults walks.source.asks.faults cause)
    by_cause Memory cause = tt

-- all its entries were walked over
pub walk_done : (old mid new : SourceView) (s : Section) (wanted : Option ℕ) (e : Entry) (bound : ℕ) (head : IndexHead) (bytes : List ℕ) (had have : List Entry) → ReadsIndex old s wanted e bound head bytes mid → Walks s e.first bound head.level (entries_at bytes 0 head.entries) [] mid had new have
    → Gathers s e.first bound (λ file. branch_fault file s wanted e bound) (λ file. branch_entries file wanted e) old had new have
unfolding each_fault
walk_done old mid new s wanted e bound head bytes had have read walks =
    let es = entries_at bytes 0 head.entries in
    let all = told_both (λ file. IsPacketAt file s e.place head.level es) (λ file. (each_fault (entry_fault file s head.level) bound es ≡ None) × (flat_map (entries_below file head.level) es ≡ walks.added ++ []))
    (λ file. (branch_fault file s wanted e bound ≡ None) × (walks.added ≡ branch_entries file wanted e)) old.held
    (λ file at is.
    let each = each_of file s wanted e bound head.level es at read.fits read.ordered in
    (each.0 ∙ is.0, sym (append-nil walks.added) ∙ sym is.1 ∙ sym each.1)) read.read
    (told_here (λ file. (each_fault (entry_fault file s head.level) bound es ≡ None) × (flat_map (entries_below file head.level) es ≡ walks.added ++ [])) mid.held old.held (sym read.source.asks.same.held) walks.is) in
    record {
      source = inside-on s old mid new (inside s (OnPacket s wanted e) old mid read.source) walks.source;
      added = walks.added;
      has = walks.has;
      records = walks.records;
      sound = told_map (λ file. (branch_fault file s wanted e bound ≡ None) × (walks.added ≡ branch_entries file wanted e)) (λ file. branch_fault file s wanted e bound ≡ None) old.held (λ file both. both.0) all;
      is = told_map (λ file. (branch_fault file s wanted e bound ≡ None) × (walks.added ≡ branch_entries file wanted e)) (λ file. walks.added ≡ branch_entries file wanted e) old.held (λ file both. both.1) all;
    }

root_branch : (file : List ℕ) (s : Section) → branch_fault file s None (root_entry s) s.count ≡ index_fault file s
unfolding index_fault root_fault root_level entry_fault
root_branch file s = option_or_assoc (root_fault file s) (index_packet_fault file s (root_level file s) (root_entry s) s.count) (each_fault (entry_fault file s (root_level file s)) s.count (entries_of file s.index))

root_entries : (file : List ℕ) (s : Section) → branch_entries file None (root_entry s) ≡ the_entries file s
unfolding the_entries root_level entries_below
root_entries file s = refl

some-entries : (bound : ℕ) (es : List Entry) → next_first bound es ≡ 0 → 0 < bound → 0 < length es
some-entries bound [] begins some = absurd (omega (arith, begins, some))
some-entries bound (e ∷ es) begins some = omega arith

in-order : (bound : ℕ) (es : List Entry) → next_first bound es ≡ 0 → 0 < bound → Rises 0 bound es → begins_and_rises 0 bound es ≡ true
unfolding begins_and_rises
in-order bound [] begins some up = absurd (omega (arith, begins, some))
in-order bound (e ∷ es) begins some up = rw (eq-eqb e.first 0 begins, rises-from 0 bound (e ∷ es) up) refl

pub index_gathered : (old new : SourceView) (s : Section) (es : List Entry) → 0 < s.count → (had : List Entry) → had ≡ [] → Gathers s 0 s.count (λ file. branch_fault file s None (root_entry s) s.count) (λ file. branch_entries file None (root_entry s)) old had new es → GathersIndex old s es new
index_gathered old new s es some had none all =
    let same : es ≡ all.added = rw none at all.has in
    let records : HaveRecords s 0 s.count es = subst (λ (l : List Entry). HaveRecords s 0 s.count l) (sym same) all.records in
    record {
      source = all.source;
      some = some-entries s.count es records.begins some;
      ordered = in-order s.count es records.begins some records.rise;
      among = records.among;
      sound = told_map (λ file. branch_fault file s None (root_entry s) s.count ≡ None) (λ file. index_fault file s ≡ None) old.held (λ file is. sym (root_branch file s) ∙ is) all.sound;
      is = told_map (λ file. all.added ≡ branch_entries file None (root_entry s)) (λ file. es ≡ the_entries file s) old.held (λ file is. same ∙ is ∙ root_entries file s) all.is;
    }

pub index_lost : (old new : SourceView) (s : Section) (found : OpenFault) → GathersNot s (λ file. branch_fault file s None (root_entry s) s.count) old found new → GathersNoIndex old s found new
index_lost old new s (Refused found) lost =
    record {
      source = lost.source;
      cause = (lost.cause.0, told_map (λ file. branch_fault file s None (root_entry s) s.count ≡ Some found) (λ file. index_fault file s ≡ Some found) old.held (λ file is. sym (root_branch file s) ∙ is) lost.cause.1);
    }
index_lost old new s Source lost = record { source = lost.source; cause = lost.cause }
index_lost old new s Memory lost = record { source = lost.source; cause = lost.cause }

-- ---- the depth of the walk

-- more than twice the level that a wanted packet can have
pub depth : Option ℕ → ℕ
depth None = 20
depth (Some level) = 2 * level + 1

pub below_depth : (wanted : Option ℕ) (level : ℕ) → level_fits wanted level ≡ true → 2 * level < depth wanted
unfolding depth
below_depth None level fits = let low = ltb-false 5 level (not_is (nat_lt 5 level) fits) in omega (arith, low)
below_depth (Some wanted) level fits = let same = eqb-true level wanted fits in omega (arith, same)

-- what an entry leads to, by its height
pub of_height : (r : Result (Unit {0}) OpenFault) (old new : SourceView) (s : Section) (height : ℕ) (e : Entry) (bound : ℕ) (had have : List Entry) → height ≡ 0
    → MatchResult r (λ _. Gathers s e.first bound (λ file. entry_fault file s 0 e bound) (λ file. entries_below file 0 e) old had new have) (λ found. GathersNot s (λ file. entry_fault file s 0 e bound) old found new)
    → MatchResult r (λ _. Gathers s e.first bound (λ file. entry_fault file s height e bound) (λ file. entries_below file height e) old had new have) (λ found. GathersNot s (λ file. entry_fault file s height e bound) old found new)
of_height r old new s height e bound had have is all = subst (λ (h : ℕ). MatchResult r (λ _. Gathers s e.first bound (λ file. entry_fault file s h e bound) (λ file. entries_below file h e) old had new have) (λ found. GathersNot s (λ file. entry_fault file s h e bound) old found new)) (sym is) all

pub of_branch : (r : Result (Unit {0}) OpenFault) (old new : SourceView) (s : Section) (level : ℕ) (e : Entry) (bound : ℕ) (had have : List Entry)
    → MatchResult r (λ _. Gathers s e.first bound (λ file. branch_fault file s (Some level) e bound) (λ file. branch_entries file (Some level) e) old had new have) (λ found. GathersNot s (λ file. branch_fault file s (Some level) e bound) old found new)
    → MatchResult r (λ _. Gathers s e.first bound (λ file. entry_fault file s (suc level) e bound) (λ file. entries_below file (suc level) e) old had new have) (λ found. GathersNot s (λ file. entry_fault file s (suc level) e bound) old found new)
unfolding entry_fault entries_below
of_branch r old new s level e bound had have all = all

pub depth_below : (height t : ℕ) → (height ≡ 0 → ⊥) → 2 * height ≡ t → depth (Some (height - 1)) < t
unfolding depth
depth_below height t higher is = omega (arith, higher, is)
