use Rattle.std.proofs.Common.{◌≡◌, ◌-◌, ◌*◌, ◌+◌, ◌∙◌, ℕ, List, suc, [], ◌∷◌, sym, ap, subst, take, drop, length, refl, arith}
use Rattle.std.proofs.lemmas.List.{take_at}
use Rattle.e57_layout.specs.declared.packet.Entry.{Entry}
use Rattle.e57_layout.specs.IndexPackets.{entry_at, entries_at}
use Rattle.e57_cloud.specs.Index.{next_first, entry_fault, entries_below}
use Rattle.e57_index.specs.Reading.{ReadsIndex}
use Rattle.e57_index.specs.Gathering.{Gathers, GathersNot}
use Rattle.e57_index.proofs.Listed.{from-entry, none-from}
use Rattle.e57_index.proofs.Gathered.{Walks, packet_lost, walks-none, walks-step, walk_lost, walk_done, below_next, below_depth, depth_below, of_height, of_branch}
use Rattle.e57_index.proofs.gather.+gather.Goals as goal

pub gather-returns-in-Err-clause-branch : goal.gather-returns-in-Err-clause-branch
gather-returns-in-Err-clause-branch g t c =
    rw c.from.ensures (packet_lost (g.S.Source.view c.args.pages.now.source) (g.S.Source.view c.read_index.new.pages.source) c.args.section.now c.args.wanted c.args.entry.now c.args.bound c.in-Err.found c.in-Err.ensures.index)

pub gather-loop-k-init : goal.gather-loop-k-init
gather-loop-k-init g t c =
    let old = g.S.Source.view c.args.pages.now.source in
    let mid = g.S.Source.view c.read_index.new.pages.source in
    let head = c.in-Ok.head in
    let b = take (16 * head.entries) c.deref.result.now in
    let same : c.deref.result.now ≡ c.read_index.new.bytes =
    c.deref.ensures.value ∙ take_at c.read_index.new.bytes (drop (length c.read_index.new.bytes) c.in_ok-bytes.bytes.items) c.in_ok-bytes.bytes.len (c.read_index.auto.bytes ∙ c.deref_mut.ensures.len) in
    let read : ReadsIndex old c.args.section.now c.args.wanted c.args.entry.now c.args.bound head b mid = subst (λ (bytes : List ℕ). ReadsIndex old c.args.section.now c.args.wanted c.args.entry.now c.args.bound head (take (16 * head.entries) bytes) mid) (sym same) c.in-Ok.ensures.index in
    let whole : head.entries - 0 ≡ head.entries = omega arith in
    record {
      length = refl;
      header = refl;
      walks = rw whole (walks-none c.args.section.now c.args.entry.now.first c.args.bound head.level (entries_at b 0 head.entries) mid c.args.out.now.items read.ordered);
    }

pub gather-gather_below-requires : goal.gather-gather_below-requires
gather-gather_below-requires g t c = λ κs within.
    let old = g.S.Source.view c.args.pages.now.source in
    let mid = g.S.Source.view c.read_index.new.pages.source in
    let head = c.in-Ok.head in
    let b = take (16 * head.entries) c.deref.result.now in
    let k = c.loop-k.k in
    let x = entry_at b (16 * k) in
    let xs = entries_at b (16 * (k + 1)) (head.entries - (k + 1)) in
    let split = from-entry b head.entries k c.loop-k-test.true in
    let walks : Walks c.args.section.now c.args.entry.now.first c.args.bound head.level (entries_at b 0 head.entries) (x ∷ xs) mid c.args.out.now.items (g.S.Source.view c.loop-k.pages.source) c.loop-k.out.items =
    subst (λ (left : List Entry). Walks c.args.section.now c.args.entry.now.first c.args.bound head.level (entries_at b 0 head.entries) left mid c.args.out.now.items (g.S.Source.view c.loop-k.pages.source) c.loop-k.out.items) split c.loop-k.invariant.walks in
    let first = ap (λ (e : Entry). e.first) c.entry-below.ensures in
    let until = c.end_of-until.ensures in
    let next = below_next x.first c.args.bound x xs walks.up in
    let long = c.loop-k.invariant.length in
    let mid_long = c.in-Ok.ensures.length in
    let now : c.loop-k.pages.length ≡ c.args.pages.now.length = long ∙ mid_long in
    let deep = below_depth c.args.wanted head.level c.in-Ok.ensures.index.fits in
    let measure = c.decreases in
    (omega (arith, deep, measure), (within, (rw now c.requires.lies, omega (arith, first, until, next))))

pub gather-returns-in-Err-gather_below-clause-branch : goal.gather-returns-in-Err-gather_below-clause-branch
gather-returns-in-Err-gather_below-clause-branch g t c =
    let old = g.S.Source.view c.args.pages.now.source in
    let mid = g.S.Source.view c.read_index.new.pages.source in
    let head = c.in-Ok.head in
    let b = take (16 * head.entries) c.deref.result.now in
    let same : c.deref.result.now ≡ c.read_index.new.bytes =
    c.deref.ensures.value ∙ take_at c.read_index.new.bytes (drop (length c.read_index.new.bytes) c.in_ok-bytes.bytes.items) c.in_ok-bytes.bytes.len (c.read_index.auto.bytes ∙ c.deref_mut.ensures.len) in
    let read : ReadsIndex old c.args.section.now c.args.wanted c.args.entry.now c.args.bound head b mid = subst (λ (bytes : List ℕ). ReadsIndex old c.args.section.now c.args.wanted c.args.entry.now c.args.bound head (take (16 * head.entries) bytes) mid) (sym same) c.in-Ok.ensures.index in
    let k = c.loop-k.k in
    let x = entry_at b (16 * k) in
    let xs = entries_at b (16 * (k + 1)) (head.entries - (k + 1)) in
    let split = from-entry b head.entries k c.loop-k-test.true in
    let walks : Walks c.args.section.now c.args.entry.now.first c.args.bound head.level (entries_at b 0 head.entries) (x ∷ xs) mid c.args.out.now.items (g.S.Source.view c.loop-k.pages.source) c.loop-k.out.items =
    subst (λ (left : List Entry). Walks c.args.section.now c.args.entry.now.first c.args.bound head.level (entries_at b 0 head.entries) left mid c.args.out.now.items (g.S.Source.view c.loop-k.pages.source) c.loop-k.out.items) split c.loop-k.invariant.walks in
    let now = g.S.Source.view c.loop-k.pages.source in
    let last = g.S.Source.view c.gather_below.new.pages.source in
    let lost : GathersNot c.args.section.now (λ file. entry_fault file c.args.section.now head.level x (next_first c.args.bound xs)) now c.in-Err-gather_below.found last = rw (sym c.entry-below.ensures, sym c.end_of-until.ensures) c.in-Err-gather_below.ensures.below in
    walk_lost old mid now last c.args.section.now c.args.wanted c.args.entry.now c.args.bound head b x xs c.args.out.now.items c.loop-k.out.items c.in-Err-gather_below.found read walks lost

pub gather-loop-k-preserved : goal.gather-loop-k-preserved
gather-loop-k-preserved g t c =
    let old = g.S.Source.view c.args.pages.now.source in
    let mid = g.S.Source.view c.read_index.new.pages.source in
    let head = c.in-Ok.head in
    let b = take (16 * head.entries) c.deref.result.now in
    let k = c.loop-k.k in
    let x = entry_at b (16 * k) in
    let xs = entries_at b (16 * (k + 1)) (head.entries - (k + 1)) in
    let split = from-entry b head.entries k c.loop-k-test.true in
    let walks : Walks c.args.section.now c.args.entry.now.first c.args.bound head.level (entries_at b 0 head.entries) (x ∷ xs) mid c.args.out.now.items (g.S.Source.view c.loop-k.pages.source) c.loop-k.out.items =
    subst (λ (left : List Entry). Walks c.args.section.now c.args.entry.now.first c.args.bound head.level (entries_at b 0 head.entries) left mid c.args.out.now.items (g.S.Source.view c.loop-k.pages.source) c.loop-k.out.items) split c.loop-k.invariant.walks in
    let now = g.S.Source.view c.loop-k.pages.source in
    let last = g.S.Source.view c.gather_below.new.pages.source in
    let one : Gathers c.args.section.now x.first (next_first c.args.bound xs) (λ file. entry_fault file c.args.section.now head.level x (next_first c.args.bound xs)) (λ file. entries_below file head.level x) now c.loop-k.out.items last c.gather_below.new.out.items =
    rw (sym c.entry-below.ensures, sym c.end_of-until.ensures) c.in_default.ensures.below in
    record {
      length = c.in_default.ensures.length ∙ c.loop-k.invariant.length;
      header = c.in_default.ensures.header ∙ c.loop-k.invariant.header;
      walks = walks-step c.args.section.now c.args.entry.now.first c.args.bound head.level (entries_at b 0 head.entries) x xs mid now last c.args.out.now.items c.loop-k.out.items c.gather_below.new.out.items walks one;
    }

pub gather-returns-clause-branch : goal.gather-returns-clause-branch
gather-returns-clause-branch g t c =
    let old = g.S.Source.view c.args.pages.now.source in
    let mid = g.S.Source.view c.read_index.new.pages.source in
    let head = c.in-Ok.head in
    let b = take (16 * head.entries) c.deref.result.now in
    let same : c.deref.result.now ≡ c.read_index.new.bytes =
    c.deref.ensures.value ∙ take_at c.read_index.new.bytes (drop (length c.read_index.new.bytes) c.in_ok-bytes.bytes.items) c.in_ok-bytes.bytes.len (c.read_index.auto.bytes ∙ c.deref_mut.ensures.len) in
    let read : ReadsIndex old c.args.section.now c.args.wanted c.args.entry.now c.args.bound head b mid = subst (λ (bytes : List ℕ). ReadsIndex old c.args.section.now c.args.wanted c.args.entry.now c.args.bound head (take (16 * head.entries) bytes) mid) (sym same) c.in-Ok.ensures.index in
    let now = g.S.Source.view c.loop-k.pages.source in
    let none = none-from b (16 * c.loop-k.k) head.entries c.loop-k.k c.loop-k-test.false in
    let walks : Walks c.args.section.now c.args.entry.now.first c.args.bound head.level (entries_at b 0 head.entries) [] mid c.args.out.now.items now c.loop-k.out.items =
    subst (λ (left : List Entry). Walks c.args.section.now c.args.entry.now.first c.args.bound head.level (entries_at b 0 head.entries) left mid c.args.out.now.items now c.loop-k.out.items) none c.loop-k.invariant.walks in
    walk_done old mid now c.args.section.now c.args.wanted c.args.entry.now c.args.bound head b c.args.out.now.items c.loop-k.out.items read walks

pub gather_below-returns-then-height-eq0-clause-below : goal.gather_below-returns-then-height-eq0-clause-below
gather_below-returns-then-height-eq0-clause-below g t c =
    of_height c.take_target.result (g.S.Source.view c.args.pages.now.source) (g.S.Source.view c.take_target.new.pages.source) c.args.section.now c.args.height c.args.entry.now c.args.bound c.args.out.now.items c.take_target.new.out.items c.if-height-eq0.true (c.take_target.ensures.target c.args.bound c.requires.low)

pub gather_below-gather-requires : goal.gather_below-gather-requires
gather_below-gather-requires g t c = λ κs within.
    (depth_below c.args.height t c.if-height-eq0.false c.decreases, (within, (c.requires.lies, c.requires.low)))

pub gather_below-returns-clause-below : goal.gather_below-returns-clause-below
gather_below-returns-clause-below g t c =
    let higher = c.if-height-eq0.false in
    let more : suc (c.args.height - 1) ≡ c.args.height = omega (arith, higher) in
    rw (sym more) (of_branch c.gather.result (g.S.Source.view c.args.pages.now.source) (g.S.Source.view c.gather.new.pages.source) c.args.section.now (c.args.height - 1) c.args.entry.now c.args.bound c.args.out.now.items c.gather.new.out.items c.gather.ensures.branch)
