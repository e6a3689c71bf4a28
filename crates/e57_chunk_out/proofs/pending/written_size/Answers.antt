use Rattle.std.proofs.Common.{◌≡◌, ℕ, ◌+◌, ◌-◌, ◌*◌, ◌/◌, ◌≤◌, List, length, take, drop, sym, ap, ◌∙◌, subst, arith, refl}
use Rattle.e57_layout.specs.Values.{Value, whole, word, integers, words, strings}
use Rattle.e57_layout.specs.Items.{field_bytes}
use Rattle.e57_layout.specs.Widths.{width}
use Rattle.e57_chunk_out.specs.Texts.{AreEnds}
use Rattle.e57_chunk_out.specs.Waiting.{kind_in, items_in, places_in, part, IsInOrder}
use Rattle.e57_chunk_out.specs.declared.pending.Pending.{Pending}
use Rattle.e57_chunk_out.specs.declared.pending.Pending.TheVariants.{Ints, Bits32, Bits64, Texts}
use Rattle.e57_chunk_out.proofs.Strings.{begin_at, length-texts}
use Rattle.e57_chunk_out.proofs.Waits.{sliced, ends_part, texts_part, length-ints, length-words, length-cut}
use Rattle.e57_chunk_out.proofs.pending.written_size.Goals as goal

-- the size is that of the items
is_size : (p q : Pending) (from n until size : ℕ) → p ≡ q → size ≡ length (field_bytes (kind_in q) (part from n (items_in q until))) → size ≡ length (field_bytes (kind_in p) (part from n (items_in p until)))
is_size p q from n until size e h = subst (λ (r : Pending). size ≡ length (field_bytes (kind_in r) (part from n (items_in r until)))) (sym e) h

pub returns-in-Ints-clause-size : goal.returns-in-Ints-clause-size
returns-in-Ints-clause-size c =
    let places : length c.in-Ints.items.items ≡ 1031 = subst (λ (p : Pending). places_in p ≡ 1031) c.in-Ints.is c.requires.pending.places in
    let is : c.in-Ints.width ≡ width c.in-Ints.min c.in-Ints.max = (subst (λ (p : Pending). IsInOrder p c.args.until) c.in-Ints.is c.requires.pending.order).0 in
    let many : c.args.from + c.args.n ≤ length c.in-Ints.items.items = omega (arith, places, c.requires.there, c.requires.pending.few) in
    is_size c.args.pending.now (Ints c.in-Ints.min c.in-Ints.max c.in-Ints.width c.in-Ints.items) c.args.from c.args.n c.args.until c.ints_size.result c.in-Ints.is
    (c.ints_size.ensures.size
    ∙ ap (λ w. (w * c.args.n + 7) / 8) is
    ∙ ap (λ k. (width c.in-Ints.min c.in-Ints.max * k + 7) / 8) (sym (length-cut c.args.from c.args.n c.in-Ints.items.items many))
    ∙ sym (length-ints c.in-Ints.min c.in-Ints.max (take (c.args.from + c.args.n - c.args.from) (drop c.args.from c.in-Ints.items.items)))
    ∙ ap (λ (items : List Value). length (field_bytes (integers c.in-Ints.min c.in-Ints.max) items)) (sliced whole c.args.from c.args.n c.args.until c.in-Ints.items.items c.in-Ints.items.items refl c.requires.there))

pub returns-in-Bits32-clause-size : goal.returns-in-Bits32-clause-size
returns-in-Bits32-clause-size c =
    let places : length c.in-Bits32.items.items ≡ 1031 = subst (λ (p : Pending). places_in p ≡ 1031) c.in-Bits32.is c.requires.pending.places in
    let many : c.args.from + c.args.n ≤ length c.in-Bits32.items.items = omega (arith, places, c.requires.there, c.requires.pending.few) in
    is_size c.args.pending.now (Bits32 c.in-Bits32.items) c.args.from c.args.n c.args.until (4 * c.args.n) c.in-Bits32.is
    (ap (λ k. 4 * k) (sym (length-cut c.args.from c.args.n c.in-Bits32.items.items many))
    ∙ sym (length-words 4 (take (c.args.from + c.args.n - c.args.from) (drop c.args.from c.in-Bits32.items.items)))
    ∙ ap (λ (items : List Value). length (field_bytes (words 32) items)) (sliced word c.args.from c.args.n c.args.until c.in-Bits32.items.items c.in-Bits32.items.items refl c.requires.there))

pub returns-in-Bits64-clause-size : goal.returns-in-Bits64-clause-size
returns-in-Bits64-clause-size c =
    let places : length c.in-Bits64.items.items ≡ 1031 = subst (λ (p : Pending). places_in p ≡ 1031) c.in-Bits64.is c.requires.pending.places in
    let many : c.args.from + c.args.n ≤ length c.in-Bits64.items.items = omega (arith, places, c.requires.there, c.requires.pending.few) in
    is_size c.args.pending.now (Bits64 c.in-Bits64.items) c.args.from c.args.n c.args.until (8 * c.args.n) c.in-Bits64.is
    (ap (λ k. 8 * k) (sym (length-cut c.args.from c.args.n c.in-Bits64.items.items many))
    ∙ sym (length-words 8 (take (c.args.from + c.args.n - c.args.from) (drop c.args.from c.in-Bits64.items.items)))
    ∙ ap (λ (items : List Value). length (field_bytes (words 64) items)) (sliced word c.args.from c.args.n c.args.until c.in-Bits64.items.items c.in-Bits64.items.items refl c.requires.there))

pub all_texts_size-requires-clause-ends : goal.all_texts_size-requires-clause-ends
all_texts_size-requires-clause-ends c =
    let order : AreEnds (length c.in-Texts.bytes.items) 0 (take c.args.until c.in-Texts.ends.items) = subst (λ (p : Pending). IsInOrder p c.args.until) c.in-Texts.is c.requires.pending.order in
    let places : length c.in-Texts.ends.items ≡ 1031 = subst (λ (p : Pending). places_in p ≡ 1031) c.in-Texts.is c.requires.pending.places in
    ends_part c.in-Texts.bytes.items c.in-Texts.ends.items c.deref.result.now c.deref-in-Texts-2.result.now c.begin_of.result c.args.from c.args.n c.args.until
    c.deref.ensures.value c.deref-in-Texts-2.ensures.value (c.begin_of.ensures ∙ ap (λ (es : List ℕ). begin_at 0 es c.args.from) c.deref-in-Texts.ensures.value) c.requires.there (omega (arith, places, c.requires.pending.few)) order

pub returns-in-Texts-clause-size : goal.returns-in-Texts-clause-size
returns-in-Texts-clause-size c =
    let order : AreEnds (length c.in-Texts.bytes.items) 0 (take c.args.until c.in-Texts.ends.items) = subst (λ (p : Pending). IsInOrder p c.args.until) c.in-Texts.is c.requires.pending.order in
    let places : length c.in-Texts.ends.items ≡ 1031 = subst (λ (p : Pending). places_in p ≡ 1031) c.in-Texts.is c.requires.pending.places in
    let begin = c.begin_of.ensures ∙ ap (λ (es : List ℕ). begin_at 0 es c.args.from) c.deref-in-Texts.ensures.value in
    let few : c.args.until ≤ length c.in-Texts.ends.items = omega (arith, places, c.requires.pending.few) in
    let ends = ends_part c.in-Texts.bytes.items c.in-Texts.ends.items c.deref.result.now c.deref-in-Texts-2.result.now c.begin_of.result c.args.from c.args.n c.args.until
    c.deref.ensures.value c.deref-in-Texts-2.ensures.value begin c.requires.there few order in
    is_size c.args.pending.now (Texts c.in-Texts.bytes c.in-Texts.ends) c.args.from c.args.n c.args.until c.all_texts_size.result c.in-Texts.is
    (c.all_texts_size.ensures.size
    ∙ sym (length-texts c.deref.result.now c.begin_of.result (take (c.args.from + c.args.n - c.args.from) (drop c.args.from c.deref-in-Texts-2.result.now)) ends)
    ∙ ap (λ (items : List Value). length (field_bytes strings items)) (texts_part c.in-Texts.bytes.items c.in-Texts.ends.items c.deref.result.now c.deref-in-Texts-2.result.now c.begin_of.result c.args.from c.args.n c.args.until
    c.deref.ensures.value c.deref-in-Texts-2.ensures.value begin c.requires.there few))
