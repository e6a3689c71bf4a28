use Rattle.std.specs.Prelude.{ℕ, ℤ, ◌-◌, List, get_or, length, pos}
use Rattle.std.proofs.Common.{sym, subst, ap, ◌∙◌, arith}
use Rattle.e57_layout.specs.Values.{whole, word}
use Rattle.e57_texts.specs.Reading.{begin_of}
use Rattle.e57_column.specs.Column.{kind_of}
use Rattle.e57_blocks.specs.declared.buffer.Buffer.{Buffer}
use Rattle.e57_blocks.specs.Block.{Block, IsFor, AreInside, item_in, places_of}
use Rattle.e57_blocks.proofs.Running.{ints_run, words_run, texts_run}
use Rattle.e57_blocks.proofs.block.FieldBlock.run.Goals as goal

pub returns-in-Ints-clause-values : goal.returns-in-Ints-clause-values
returns-in-Ints-clause-values c =
    let b : Block = record { column = c.self.inside.column; buffer = c.self.inside.buffer; first = c.self.inside.first; count = c.self.inside.count; fault = c.self.inside.fault } in
    (ints_run b c.args.self.now c.args.i c.args.n _ c.deref.result.now c.self.view_is (omega arith) c.self.invariant c.requires (subst (λ (x : Buffer). IsFor x (kind_of b.column.items)) c.in-Ints.is c.self.invariant.kind) (ap places_of c.in-Ints.is ∙ ap length (sym c.deref.ensures.value))
    (λ k. ap (λ (x : Buffer). item_in x k) c.in-Ints.is ∙ ap (λ (xs : List ℤ). whole (get_or xs k (pos 0))) (sym c.deref.ensures.value))).0

pub returns-in-Ints-clause-within : goal.returns-in-Ints-clause-within
returns-in-Ints-clause-within c =
    let b : Block = record { column = c.self.inside.column; buffer = c.self.inside.buffer; first = c.self.inside.first; count = c.self.inside.count; fault = c.self.inside.fault } in
    (ints_run b c.args.self.now c.args.i c.args.n _ c.deref.result.now c.self.view_is (omega arith) c.self.invariant c.requires (subst (λ (x : Buffer). IsFor x (kind_of b.column.items)) c.in-Ints.is c.self.invariant.kind) (ap places_of c.in-Ints.is ∙ ap length (sym c.deref.ensures.value))
    (λ k. ap (λ (x : Buffer). item_in x k) c.in-Ints.is ∙ ap (λ (xs : List ℤ). whole (get_or xs k (pos 0))) (sym c.deref.ensures.value))).1

pub returns-in-Bits32-clause-values : goal.returns-in-Bits32-clause-values
returns-in-Bits32-clause-values c =
    let b : Block = record { column = c.self.inside.column; buffer = c.self.inside.buffer; first = c.self.inside.first; count = c.self.inside.count; fault = c.self.inside.fault } in
    (words_run b c.args.self.now c.args.i c.args.n 32 c.deref-in-Bits32.result.now c.part32.result.now c.self.view_is c.part32.ensures.part c.self.invariant c.requires (subst (λ (x : Buffer). IsFor x (kind_of b.column.items)) c.in-Bits32.is c.self.invariant.kind) (ap places_of c.in-Bits32.is ∙ ap length (sym c.deref-in-Bits32.ensures.value))
    (λ k. ap (λ (x : Buffer). item_in x k) c.in-Bits32.is ∙ ap (λ (xs : List ℕ). word (get_or xs k 0)) (sym c.deref-in-Bits32.ensures.value)) c.part32.ensures.small).0

pub returns-in-Bits32-clause-within : goal.returns-in-Bits32-clause-within
returns-in-Bits32-clause-within c =
    let b : Block = record { column = c.self.inside.column; buffer = c.self.inside.buffer; first = c.self.inside.first; count = c.self.inside.count; fault = c.self.inside.fault } in
    (words_run b c.args.self.now c.args.i c.args.n 32 c.deref-in-Bits32.result.now c.part32.result.now c.self.view_is c.part32.ensures.part c.self.invariant c.requires (subst (λ (x : Buffer). IsFor x (kind_of b.column.items)) c.in-Bits32.is c.self.invariant.kind) (ap places_of c.in-Bits32.is ∙ ap length (sym c.deref-in-Bits32.ensures.value))
    (λ k. ap (λ (x : Buffer). item_in x k) c.in-Bits32.is ∙ ap (λ (xs : List ℕ). word (get_or xs k 0)) (sym c.deref-in-Bits32.ensures.value)) c.part32.ensures.small).1

pub returns-in-Bits64-clause-values : goal.returns-in-Bits64-clause-values
returns-in-Bits64-clause-values c =
    let b : Block = record { column = c.self.inside.column; buffer = c.self.inside.buffer; first = c.self.inside.first; count = c.self.inside.count; fault = c.self.inside.fault } in
    (words_run b c.args.self.now c.args.i c.args.n 64 c.deref-in-Bits64.result.now c.part64.result.now c.self.view_is c.part64.ensures.part c.self.invariant c.requires (subst (λ (x : Buffer). IsFor x (kind_of b.column.items)) c.in-Bits64.is c.self.invariant.kind) (ap places_of c.in-Bits64.is ∙ ap length (sym c.deref-in-Bits64.ensures.value))
    (λ k. ap (λ (x : Buffer). item_in x k) c.in-Bits64.is ∙ ap (λ (xs : List ℕ). word (get_or xs k 0)) (sym c.deref-in-Bits64.ensures.value)) c.part64.ensures.small).0

pub returns-in-Bits64-clause-within : goal.returns-in-Bits64-clause-within
returns-in-Bits64-clause-within c =
    let b : Block = record { column = c.self.inside.column; buffer = c.self.inside.buffer; first = c.self.inside.first; count = c.self.inside.count; fault = c.self.inside.fault } in
    (words_run b c.args.self.now c.args.i c.args.n 64 c.deref-in-Bits64.result.now c.part64.result.now c.self.view_is c.part64.ensures.part c.self.invariant c.requires (subst (λ (x : Buffer). IsFor x (kind_of b.column.items)) c.in-Bits64.is c.self.invariant.kind) (ap places_of c.in-Bits64.is ∙ ap length (sym c.deref-in-Bits64.ensures.value))
    (λ k. ap (λ (x : Buffer). item_in x k) c.in-Bits64.is ∙ ap (λ (xs : List ℕ). word (get_or xs k 0)) (sym c.deref-in-Bits64.ensures.value)) c.part64.ensures.small).1

pub returns-in-Texts-clause-values : goal.returns-in-Texts-clause-values
returns-in-Texts-clause-values c =
    let b : Block = record { column = c.self.inside.column; buffer = c.self.inside.buffer; first = c.self.inside.first; count = c.self.inside.count; fault = c.self.inside.fault } in
    let bytes = c.deref-in-Texts.ensures.value in
    let ends = c.deref-in-Texts-3.ensures.value in
    (texts_run b c.args.self.now c.args.i c.args.n _ c.begin_at.result c.deref-in-Texts.result.now c.deref-in-Texts-3.result.now c.self.view_is (omega arith) (c.begin_at.ensures ∙ ap (λ (es : List ℕ). begin_of 0 es (c.args.i - b.first)) (c.deref-in-Texts-2.ensures.value ∙ sym ends)) c.self.invariant c.requires
    (subst (λ (x : Buffer). IsFor x (kind_of b.column.items)) c.in-Texts.is c.self.invariant.kind) (rw (bytes, ends) (subst (λ (x : Buffer). AreInside b.count x) c.in-Texts.is c.self.invariant.inside)) (ap places_of c.in-Texts.is ∙ ap length (sym ends))
    (λ k. rw (bytes, ends) (ap (λ (x : Buffer). item_in x k) c.in-Texts.is))).0.0

pub returns-in-Texts-clause-within : goal.returns-in-Texts-clause-within
returns-in-Texts-clause-within c =
    let b : Block = record { column = c.self.inside.column; buffer = c.self.inside.buffer; first = c.self.inside.first; count = c.self.inside.count; fault = c.self.inside.fault } in
    let bytes = c.deref-in-Texts.ensures.value in
    let ends = c.deref-in-Texts-3.ensures.value in
    (texts_run b c.args.self.now c.args.i c.args.n _ c.begin_at.result c.deref-in-Texts.result.now c.deref-in-Texts-3.result.now c.self.view_is (omega arith) (c.begin_at.ensures ∙ ap (λ (es : List ℕ). begin_of 0 es (c.args.i - b.first)) (c.deref-in-Texts-2.ensures.value ∙ sym ends)) c.self.invariant c.requires
    (subst (λ (x : Buffer). IsFor x (kind_of b.column.items)) c.in-Texts.is c.self.invariant.kind) (rw (bytes, ends) (subst (λ (x : Buffer). AreInside b.count x) c.in-Texts.is c.self.invariant.inside)) (ap places_of c.in-Texts.is ∙ ap length (sym ends))
    (λ k. rw (bytes, ends) (ap (λ (x : Buffer). item_in x k) c.in-Texts.is))).0.1

pub returns-in-Texts-clause-inside : goal.returns-in-Texts-clause-inside
returns-in-Texts-clause-inside c =
    let b : Block = record { column = c.self.inside.column; buffer = c.self.inside.buffer; first = c.self.inside.first; count = c.self.inside.count; fault = c.self.inside.fault } in
    let bytes = c.deref-in-Texts.ensures.value in
    let ends = c.deref-in-Texts-3.ensures.value in
    (texts_run b c.args.self.now c.args.i c.args.n _ c.begin_at.result c.deref-in-Texts.result.now c.deref-in-Texts-3.result.now c.self.view_is (omega arith) (c.begin_at.ensures ∙ ap (λ (es : List ℕ). begin_of 0 es (c.args.i - b.first)) (c.deref-in-Texts-2.ensures.value ∙ sym ends)) c.self.invariant c.requires
    (subst (λ (x : Buffer). IsFor x (kind_of b.column.items)) c.in-Texts.is c.self.invariant.kind) (rw (bytes, ends) (subst (λ (x : Buffer). AreInside b.count x) c.in-Texts.is c.self.invariant.inside)) (ap places_of c.in-Texts.is ∙ ap length (sym ends))
    (λ k. rw (bytes, ends) (ap (λ (x : Buffer). item_in x k) c.in-Texts.is))).1
