use Rattle.std.specs.Prelude.{◌≡◌, ℕ, min, length, take, drop, ◌++◌, pos}
use Rattle.std.proofs.Common.{sym, ap, ◌∙◌, arith}
use Rattle.std.proofs.lemmas.List.{take_at}
use Rattle.e57_layout.specs.Values.{whole, word}
use Rattle.e57_blocks.specs.Block.{places_of, room_of}
use Rattle.e57_blocks.proofs.Getting.{fronts_none, none_inside, lists_on}
use Rattle.e57_blocks.proofs.Cutting.{texts_after}
use Rattle.e57_blocks.proofs.read.read_block.Goals as goal

pub returns-in-Err-clause-gets : goal.returns-in-Err-clause-gets
returns-in-Err-clause-gets g c =
    let some = c.requires.some in
    let places = c.requires.places in
    rw c.got.ensures (fronts_none (g.S.Source.view c.args.pages.now.source) (g.S.Source.view c.place.new.pages.source) c.args.column.now c.place.new.column c.args.i (min c.args.want (places_of c.args.buffer.now)) (room_of c.args.buffer.now) c.args.buffer.now c.in-Err.fault (omega (arith, some, places)) (none_inside c.args.buffer.now) c.in-Err.ensures.places)

pub returns-in-Texts-clause-gets : goal.returns-in-Texts-clause-gets
returns-in-Texts-clause-gets g c =
    let some = c.requires.some in
    let places = c.requires.places in
    let all : c.fewer-want.result ≡ min c.args.want (places_of c.args.buffer.now) = c.fewer-want.ensures ∙ ap (λ (n : ℕ). min c.args.want n) c.places.ensures in
    texts_after (g.S.Source.view c.args.pages.now.source) (g.S.Source.view c.place.new.pages.source) (g.S.Source.view c.read_texts.new.pages.source) c.args.column.now c.place.new.column c.read_texts.new.column c.args.i c.fewer-want.result (min c.args.want (places_of c.args.buffer.now)) (room_of c.args.buffer.now) (length c.in-Texts.texts.bytes.items) c.read_texts.new.bytes.items (take c.in-Texts.texts.ends.len (c.read_texts.new.ends ++ drop (length c.read_texts.new.ends) c.in-Texts.texts.ends.items)) c.read_texts.new.ends c.read_texts.result (take_at c.read_texts.new.ends (drop (length c.read_texts.new.ends) c.in-Texts.texts.ends.items) c.in-Texts.texts.ends.len (c.read_texts.auto.ends ∙ c.deref_mut-in-Texts.ensures.len)) all (omega (arith, some, places, all)) (ap room_of (sym c.in-Texts.is)) c.in_default.ensures.places c.read_texts.ensures.gets

pub returns-in-Ints-clause-gets : goal.returns-in-Ints-clause-gets
returns-in-Ints-clause-gets g c =
    let some = c.requires.some in
    let places = c.requires.places in
    let all : c.fewer-want.result ≡ min c.args.want (places_of c.args.buffer.now) = c.fewer-want.ensures ∙ ap (λ (n : ℕ). min c.args.want n) c.places.ensures in
    lists_on (pos 0) whole (g.S.Source.view c.args.pages.now.source) (g.S.Source.view c.place.new.pages.source) (g.S.Source.view c.read_ints.new.pages.source) c.args.column.now c.place.new.column c.read_ints.new.column c.args.i c.fewer-want.result (min c.args.want (places_of c.args.buffer.now)) (room_of c.args.buffer.now) (take c.in-Ints.items.len (c.read_ints.new.out ++ drop (length c.read_ints.new.out) c.in-Ints.items.items)) c.read_ints.new.out c.read_ints.result (take_at c.read_ints.new.out (drop (length c.read_ints.new.out) c.in-Ints.items.items) c.in-Ints.items.len (c.read_ints.auto.out ∙ c.deref_mut.ensures.len)) all (omega (arith, some, places, all)) (ap room_of (sym c.in-Ints.is)) c.in_default.ensures.places c.read_ints.ensures.gets

pub returns-in-Bits32-clause-gets : goal.returns-in-Bits32-clause-gets
returns-in-Bits32-clause-gets g c =
    let some = c.requires.some in
    let places = c.requires.places in
    let all : c.fewer-want.result ≡ min c.args.want (places_of c.args.buffer.now) = c.fewer-want.ensures ∙ ap (λ (n : ℕ). min c.args.want n) c.places.ensures in
    lists_on 0 word (g.S.Source.view c.args.pages.now.source) (g.S.Source.view c.place.new.pages.source) (g.S.Source.view c.read_bits32.new.pages.source) c.args.column.now c.place.new.column c.read_bits32.new.column c.args.i c.fewer-want.result (min c.args.want (places_of c.args.buffer.now)) (room_of c.args.buffer.now) (take c.in-Bits32.items.len (c.read_bits32.new.out ++ drop (length c.read_bits32.new.out) c.in-Bits32.items.items)) c.read_bits32.new.out c.read_bits32.result (take_at c.read_bits32.new.out (drop (length c.read_bits32.new.out) c.in-Bits32.items.items) c.in-Bits32.items.len (c.read_bits32.auto.out ∙ c.deref_mut-in-Bits32.ensures.len)) all (omega (arith, some, places, all)) (ap room_of (sym c.in-Bits32.is)) c.in_default.ensures.places c.read_bits32.ensures.gets

pub returns-in-Bits64-clause-gets : goal.returns-in-Bits64-clause-gets
returns-in-Bits64-clause-gets g c =
    let some = c.requires.some in
    let places = c.requires.places in
    let all : c.fewer-want.result ≡ min c.args.want (places_of c.args.buffer.now) = c.fewer-want.ensures ∙ ap (λ (n : ℕ). min c.args.want n) c.places.ensures in
    lists_on 0 word (g.S.Source.view c.args.pages.now.source) (g.S.Source.view c.place.new.pages.source) (g.S.Source.view c.read_bits64.new.pages.source) c.args.column.now c.place.new.column c.read_bits64.new.column c.args.i c.fewer-want.result (min c.args.want (places_of c.args.buffer.now)) (room_of c.args.buffer.now) (take c.in-Bits64.items.len (c.read_bits64.new.out ++ drop (length c.read_bits64.new.out) c.in-Bits64.items.items)) c.read_bits64.new.out c.read_bits64.result (take_at c.read_bits64.new.out (drop (length c.read_bits64.new.out) c.in-Bits64.items.items) c.in-Bits64.items.len (c.read_bits64.auto.out ∙ c.deref_mut-in-Bits64.ensures.len)) all (omega (arith, some, places, all)) (ap room_of (sym c.in-Bits64.is)) c.in_default.ensures.places c.read_bits64.ensures.gets
