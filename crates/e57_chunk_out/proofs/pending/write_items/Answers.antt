use Rattle.std.proofs.Common.{◌≡◌, ℕ, ◌+◌, ◌-◌, ◌≤◌, List, length, map, take, drop, sym, ap, ◌∙◌, subst, arith}
use Rattle.e57_layout.specs.Values.{Value, whole, word, integers, words, strings}
use Rattle.e57_layout.specs.Items.{AreItems, field_bytes}
use Rattle.e57_chunk_out.specs.Texts.{AreEnds, strings_at}
use Rattle.e57_chunk_out.specs.Waiting.{kind_in, items_in, places_in, part, IsInOrder}
use Rattle.e57_chunk_out.specs.declared.pending.Pending.{Pending}
use Rattle.e57_chunk_out.proofs.Strings.{begin_at, length-texts}
use Rattle.e57_chunk_out.proofs.Waits.{sliced, part_items, ends_part, texts_part}
use Rattle.e57_chunk_out.proofs.pending.write_items.Goals as goal

pub write_ints-requires-clause-kind : goal.write_ints-requires-clause-kind
write_ints-requires-clause-kind c = rw c.in-Ints.is at c.requires.pending.kind

pub write_ints-requires-clause-least : goal.write_ints-requires-clause-least
write_ints-requires-clause-least c = (rw c.in-Ints.is at c.requires.pending.order).1

pub write_ints-requires-clause-fits : goal.write_ints-requires-clause-fits
write_ints-requires-clause-fits c = (rw c.in-Ints.is at c.requires.pending.order).0

pub write_ints-requires-clause-items : goal.write_ints-requires-clause-items
write_ints-requires-clause-items c =
    let items : AreItems (integers c.in-Ints.min c.in-Ints.max) (map whole (take c.args.until c.in-Ints.items.items)) = subst (λ (p : Pending). AreItems (kind_in p) (items_in p c.args.until)) c.in-Ints.is c.requires.pending.items in
    subst (AreItems (integers c.in-Ints.min c.in-Ints.max)) (sym (sliced whole c.args.from c.args.n c.args.until c.deref.result.now c.in-Ints.items.items c.deref.ensures.value c.requires.there))
    (part_items (integers c.in-Ints.min c.in-Ints.max) c.args.from c.args.n (map whole (take c.args.until c.in-Ints.items.items)) items)

pub write_ints-requires-clause-room : goal.write_ints-requires-clause-room
write_ints-requires-clause-room c =
    let room : length c.args.out.now ≡ length (field_bytes (integers c.in-Ints.min c.in-Ints.max) (part c.args.from c.args.n (map whole (take c.args.until c.in-Ints.items.items)))) =
    subst (λ (p : Pending). length c.args.out.now ≡ length (field_bytes (kind_in p) (part c.args.from c.args.n (items_in p c.args.until)))) c.in-Ints.is c.requires.room in
    room ∙ ap (λ (items : List Value). length (field_bytes (integers c.in-Ints.min c.in-Ints.max) items)) (sym (sliced whole c.args.from c.args.n c.args.until c.deref.result.now c.in-Ints.items.items c.deref.ensures.value c.requires.there))

pub returns-in-Ints : goal.returns-in-Ints
returns-in-Ints c =
    subst (λ (p : Pending). c.write_ints.new.out ≡ field_bytes (kind_in p) (part c.args.from c.args.n (items_in p c.args.until))) (sym c.in-Ints.is)
    (c.write_ints.ensures ∙ ap (field_bytes (integers c.in-Ints.min c.in-Ints.max)) (sliced whole c.args.from c.args.n c.args.until c.deref.result.now c.in-Ints.items.items c.deref.ensures.value c.requires.there))

pub write_words-requires : goal.write_words-requires
write_words-requires c =
    let room : length c.args.out.now ≡ length (field_bytes (words 32) (part c.args.from c.args.n (map word (take c.args.until c.in-Bits32.items.items)))) =
    subst (λ (p : Pending). length c.args.out.now ≡ length (field_bytes (kind_in p) (part c.args.from c.args.n (items_in p c.args.until)))) c.in-Bits32.is c.requires.room in
    record { room = room ∙ ap (λ (items : List Value). length (field_bytes (words 32) items)) (sym (sliced word c.args.from c.args.n c.args.until c.deref-in-Bits32.result.now c.in-Bits32.items.items c.deref-in-Bits32.ensures.value c.requires.there)) }

pub returns-in-Bits32 : goal.returns-in-Bits32
returns-in-Bits32 c =
    subst (λ (p : Pending). c.write_words.new.out ≡ field_bytes (kind_in p) (part c.args.from c.args.n (items_in p c.args.until))) (sym c.in-Bits32.is)
    (c.write_words.ensures ∙ ap (field_bytes (words 32)) (sliced word c.args.from c.args.n c.args.until c.deref-in-Bits32.result.now c.in-Bits32.items.items c.deref-in-Bits32.ensures.value c.requires.there))

pub write_long_words-requires : goal.write_long_words-requires
write_long_words-requires c =
    let room : length c.args.out.now ≡ length (field_bytes (words 64) (part c.args.from c.args.n (map word (take c.args.until c.in-Bits64.items.items)))) =
    subst (λ (p : Pending). length c.args.out.now ≡ length (field_bytes (kind_in p) (part c.args.from c.args.n (items_in p c.args.until)))) c.in-Bits64.is c.requires.room in
    record { room = room ∙ ap (λ (items : List Value). length (field_bytes (words 64) items)) (sym (sliced word c.args.from c.args.n c.args.until c.deref-in-Bits64.result.now c.in-Bits64.items.items c.deref-in-Bits64.ensures.value c.requires.there)) }

pub returns-in-Bits64 : goal.returns-in-Bits64
returns-in-Bits64 c =
    subst (λ (p : Pending). c.write_long_words.new.out ≡ field_bytes (kind_in p) (part c.args.from c.args.n (items_in p c.args.until))) (sym c.in-Bits64.is)
    (c.write_long_words.ensures ∙ ap (field_bytes (words 64)) (sliced word c.args.from c.args.n c.args.until c.deref-in-Bits64.result.now c.in-Bits64.items.items c.deref-in-Bits64.ensures.value c.requires.there))

pub write_texts-requires-clause-ends : goal.write_texts-requires-clause-ends
write_texts-requires-clause-ends c =
    let order : AreEnds (length c.in-Texts.bytes.items) 0 (take c.args.until c.in-Texts.ends.items) = subst (λ (p : Pending). IsInOrder p c.args.until) c.in-Texts.is c.requires.pending.order in
    let places : length c.in-Texts.ends.items ≡ 1031 = subst (λ (p : Pending). places_in p ≡ 1031) c.in-Texts.is c.requires.pending.places in
    ends_part c.in-Texts.bytes.items c.in-Texts.ends.items c.deref-in-Texts.result.now c.deref-in-Texts-3.result.now c.begin_of.result c.args.from c.args.n c.args.until
    c.deref-in-Texts.ensures.value c.deref-in-Texts-3.ensures.value (c.begin_of.ensures ∙ ap (λ (es : List ℕ). begin_at 0 es c.args.from) c.deref-in-Texts-2.ensures.value) c.requires.there (omega (arith, places, c.requires.pending.few)) order

pub write_texts-requires-clause-room : goal.write_texts-requires-clause-room
write_texts-requires-clause-room c =
    let order : AreEnds (length c.in-Texts.bytes.items) 0 (take c.args.until c.in-Texts.ends.items) = subst (λ (p : Pending). IsInOrder p c.args.until) c.in-Texts.is c.requires.pending.order in
    let places : length c.in-Texts.ends.items ≡ 1031 = subst (λ (p : Pending). places_in p ≡ 1031) c.in-Texts.is c.requires.pending.places in
    let room : length c.args.out.now ≡ length (field_bytes strings (part c.args.from c.args.n (strings_at c.in-Texts.bytes.items 0 (take c.args.until c.in-Texts.ends.items)))) =
    subst (λ (p : Pending). length c.args.out.now ≡ length (field_bytes (kind_in p) (part c.args.from c.args.n (items_in p c.args.until)))) c.in-Texts.is c.requires.room in
    let begin = c.begin_of.ensures ∙ ap (λ (es : List ℕ). begin_at 0 es c.args.from) c.deref-in-Texts-2.ensures.value in
    let few : c.args.until ≤ length c.in-Texts.ends.items = omega (arith, places, c.requires.pending.few) in
    let ends = ends_part c.in-Texts.bytes.items c.in-Texts.ends.items c.deref-in-Texts.result.now c.deref-in-Texts-3.result.now c.begin_of.result c.args.from c.args.n c.args.until
    c.deref-in-Texts.ensures.value c.deref-in-Texts-3.ensures.value begin c.requires.there few order in
    room
    ∙ ap (λ (items : List Value). length (field_bytes strings items)) (sym (texts_part c.in-Texts.bytes.items c.in-Texts.ends.items c.deref-in-Texts.result.now c.deref-in-Texts-3.result.now c.begin_of.result c.args.from c.args.n c.args.until
    c.deref-in-Texts.ensures.value c.deref-in-Texts-3.ensures.value begin c.requires.there few))
    ∙ length-texts c.deref-in-Texts.result.now c.begin_of.result (take (c.args.from + c.args.n - c.args.from) (drop c.args.from c.deref-in-Texts-3.result.now)) ends

pub returns-in-Texts : goal.returns-in-Texts
returns-in-Texts c =
    let places : length c.in-Texts.ends.items ≡ 1031 = subst (λ (p : Pending). places_in p ≡ 1031) c.in-Texts.is c.requires.pending.places in
    subst (λ (p : Pending). c.write_texts.new.out ≡ field_bytes (kind_in p) (part c.args.from c.args.n (items_in p c.args.until))) (sym c.in-Texts.is)
    (c.write_texts.ensures
    ∙ ap (field_bytes strings) (texts_part c.in-Texts.bytes.items c.in-Texts.ends.items c.deref-in-Texts.result.now c.deref-in-Texts-3.result.now c.begin_of.result c.args.from c.args.n c.args.until
    c.deref-in-Texts.ensures.value c.deref-in-Texts-3.ensures.value (c.begin_of.ensures ∙ ap (λ (es : List ℕ). begin_at 0 es c.args.from) c.deref-in-Texts-2.ensures.value) c.requires.there (omega (arith, places, c.requires.pending.few))))
