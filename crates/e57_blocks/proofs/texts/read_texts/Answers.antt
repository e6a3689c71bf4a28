use Rattle.std.specs.Prelude.{◌≡◌, ℕ, List, ◌++◌, length, take, drop}
use Rattle.std.proofs.Common.{refl, sym, subst, ap, ◌∙◌, arith, inl}
use Rattle.std.proofs.lemmas.List.{take_at}
use Rattle.e57_blocks.specs.declared.texts.Tried.{Tried}
use Rattle.e57_blocks.specs.Filling.{GetsTexts, Tries}
use Rattle.e57_blocks.proofs.Getting.{grown_same, grown_wider}
use Rattle.e57_blocks.proofs.Cutting.{grown_more, placed_first, placed_on, texts_on, texts_not_on, no_memory}
use Rattle.e57_blocks.proofs.texts.read_texts.Goals as goal

pub loop-got-init : goal.loop-got-init
loop-got-init g c = record {
  same_size = refl;
  same_header = refl;
  same_places = refl;
  room = inl refl;
  way = placed_first (g.S.Source.view c.args.pages.now.source) c.args.column.now c.args.i c.args.want c.requires.placed;
}

pub returns-in-Ok-Read-clause-gets : goal.returns-in-Ok-Read-clause-gets
returns-in-Ok-Read-clause-gets g c =
    subst (λ (b : List ℕ). GetsTexts (g.S.Source.view c.args.pages.now.source) c.args.column.now c.args.i c.args.want c.in-Ok-Read.got b c.try_texts.new.ends (g.S.Source.view c.try_texts.new.pages.source) c.try_texts.new.column)
    (sym (take_at c.try_texts.new.bytes (drop (length c.try_texts.new.bytes) c.loop-got.bytes.items) c.loop-got.bytes.len (c.try_texts.auto.bytes ∙ c.deref_mut.ensures.len)))
    (texts_on (g.S.Source.view c.args.pages.now.source) (g.S.Source.view c.loop-got.pages.source) (g.S.Source.view c.try_texts.new.pages.source) c.args.column.now c.loop-got.column c.try_texts.new.column c.args.i c.args.want c.in-Ok-Read.got c.try_texts.new.bytes c.try_texts.new.ends c.loop-got.invariant.way (subst (λ (t : Tried). Tries (g.S.Source.view c.loop-got.pages.source) c.loop-got.column c.args.i c.args.want c.try_texts.new.bytes c.try_texts.new.ends t (g.S.Source.view c.try_texts.new.pages.source) c.try_texts.new.column) c.in-Ok-Read.field-0-is c.in-Ok-Read.ensures.tries))

pub returns-in-Ok-Read-clause-room : goal.returns-in-Ok-Read-clause-room
returns-in-Ok-Read-clause-room g c =
    let held : length c.deref_mut.result.now ≡ length c.loop-got.bytes.items = ap length c.deref_mut.ensures.value in
    let same = c.in-Ok-Read.ensures.room in
    let size = ap length (take_at c.try_texts.new.bytes (drop (length c.try_texts.new.bytes) c.loop-got.bytes.items) c.loop-got.bytes.len (c.try_texts.auto.bytes ∙ c.deref_mut.ensures.len)) in
    grown_same (g.S.Source.view c.args.pages.now.source) c.args.column.now c.args.i (length c.args.bytes.now.items) _ (length c.loop-got.bytes.items) (omega (arith, held, same, size)) c.loop-got.invariant.room

pub returns-in-Err-clause-room : goal.returns-in-Err-clause-room
returns-in-Err-clause-room g c =
    let held : length c.deref_mut.result.now ≡ length c.loop-got.bytes.items = ap length c.deref_mut.ensures.value in
    let same = c.in-Err.ensures.room in
    let size = ap length (take_at c.try_texts.new.bytes (drop (length c.try_texts.new.bytes) c.loop-got.bytes.items) c.loop-got.bytes.len (c.try_texts.auto.bytes ∙ c.deref_mut.ensures.len)) in
    grown_same (g.S.Source.view c.args.pages.now.source) c.args.column.now c.args.i (length c.args.bytes.now.items) _ (length c.loop-got.bytes.items) (omega (arith, held, same, size)) c.loop-got.invariant.room

pub returns-in-Err-resize-clause-room : goal.returns-in-Err-resize-clause-room
returns-in-Err-resize-clause-room g c =
    let held : length c.deref_mut.result.now ≡ length c.loop-got.bytes.items = ap length c.deref_mut.ensures.value in
    let same = c.in-Ok-Needs.ensures.room in
    let size = ap length (take_at c.try_texts.new.bytes (drop (length c.try_texts.new.bytes) c.loop-got.bytes.items) c.loop-got.bytes.len (c.try_texts.auto.bytes ∙ c.deref_mut.ensures.len)) in
    let kept = ap length {y = take c.loop-got.bytes.len (c.try_texts.new.bytes ++ drop (length c.try_texts.new.bytes) c.loop-got.bytes.items)} c.in-Err-resize.ensures.items in
    grown_same (g.S.Source.view c.args.pages.now.source) c.args.column.now c.args.i (length c.args.bytes.now.items) _ (length c.loop-got.bytes.items) (omega (arith, held, same, size, kept)) c.loop-got.invariant.room

pub loop-got-preserved : goal.loop-got-preserved
loop-got-preserved g c =
    let inv = c.loop-got.invariant in
    let needs = subst (λ (t : Tried). Tries (g.S.Source.view c.loop-got.pages.source) c.loop-got.column c.args.i c.args.want c.try_texts.new.bytes c.try_texts.new.ends t (g.S.Source.view c.try_texts.new.pages.source) c.try_texts.new.column) c.in-Ok-Needs.field-0-is c.in-Ok-Needs.ensures.tries in
    let held : length c.deref_mut.result.now ≡ length c.loop-got.bytes.items = ap length c.deref_mut.ensures.value in
    let same = c.in-Ok-Needs.ensures.room in
    let room = grown_wider (g.S.Source.view c.args.pages.now.source) c.args.column.now c.args.i (length c.args.bytes.now.items) (length c.loop-got.bytes.items) inv.room in
    let size = c.in-Ok.ensures.len in
    record {
      same_size = c.in-Ok-Needs.ensures.length ∙ inv.same_size;
      same_header = c.in-Ok-Needs.ensures.header ∙ inv.same_header;
      same_places = c.in-Ok-Needs.ensures.places ∙ inv.same_places;
      room = grown_same (g.S.Source.view c.args.pages.now.source) c.args.column.now c.args.i (length c.args.bytes.now.items) (length c.resize.new.self.items) c.in-Ok-Needs.n (omega (arith, size))
          (grown_more (g.S.Source.view c.args.pages.now.source) (g.S.Source.view c.loop-got.pages.source) c.args.column.now c.loop-got.column c.args.i c.args.want (length c.args.bytes.now.items) (length c.try_texts.new.bytes) c.in-Ok-Needs.n (omega (arith, room, held, same)) inv.way needs.1);
      way = placed_on (g.S.Source.view c.args.pages.now.source) (g.S.Source.view c.loop-got.pages.source) (g.S.Source.view c.try_texts.new.pages.source) c.args.column.now c.loop-got.column c.try_texts.new.column c.args.i c.args.want inv.way needs.0;
    }

pub returns-in-Err-resize-clause-gets : goal.returns-in-Err-resize-clause-gets
returns-in-Err-resize-clause-gets g c =
    let needs = subst (λ (t : Tried). Tries (g.S.Source.view c.loop-got.pages.source) c.loop-got.column c.args.i c.args.want c.try_texts.new.bytes c.try_texts.new.ends t (g.S.Source.view c.try_texts.new.pages.source) c.try_texts.new.column) c.in-Ok-Needs.field-0-is c.in-Ok-Needs.ensures.tries in
    let held : length c.deref_mut.result.now ≡ length c.loop-got.bytes.items = ap length c.deref_mut.ensures.value in
    let same = c.in-Ok-Needs.ensures.room in
    let room = grown_wider (g.S.Source.view c.args.pages.now.source) c.args.column.now c.args.i (length c.args.bytes.now.items) (length c.loop-got.bytes.items) c.loop-got.invariant.room in
    no_memory (g.S.Source.view c.args.pages.now.source) (g.S.Source.view c.loop-got.pages.source) (g.S.Source.view c.try_texts.new.pages.source) c.args.column.now c.loop-got.column c.try_texts.new.column c.args.i c.args.want (length c.args.bytes.now.items) (length c.try_texts.new.bytes) c.in-Ok-Needs.n c.requires.kind (omega (arith, held, same, room)) c.loop-got.invariant.way needs

pub returns-in-Err-clause-gets : goal.returns-in-Err-clause-gets
returns-in-Err-clause-gets g c =
    let held : length c.deref_mut.result.now ≡ length c.loop-got.bytes.items = ap length c.deref_mut.ensures.value in
    let room = grown_wider (g.S.Source.view c.args.pages.now.source) c.args.column.now c.args.i (length c.args.bytes.now.items) (length c.loop-got.bytes.items) c.loop-got.invariant.room in
    texts_not_on (g.S.Source.view c.args.pages.now.source) (g.S.Source.view c.loop-got.pages.source) (g.S.Source.view c.try_texts.new.pages.source) c.args.column.now c.loop-got.column c.try_texts.new.column c.args.i c.args.want (length c.args.bytes.now.items) (length c.deref_mut.result.now) c.in-Err.lost (omega (arith, held, room)) c.loop-got.invariant.way c.in-Err.ensures.tries
