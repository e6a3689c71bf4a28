use Rattle.std.proofs.Common.{◌≡◌, ◌∙◌, ◌*◌, ◌/◌, List, ℕ, length, drop, ap}
use Rattle.std.proofs.lemmas.List.{take_at}
use Rattle.e57_section.proofs.Openings.{told_size}
use Rattle.e57_section.proofs.Answered.{lost_head, loaded_index, loaded_empty, lost_data, loaded_data, filled_buffer}
use Rattle.e57_section.proofs.load.load_packet.Goals as goal

pub returns-in-Err-clause-packet : goal.returns-in-Err-clause-packet
returns-in-Err-clause-packet g c =
    lost_head (g.S.Source.view c.args.pages.now.source) (g.S.Source.view c.read_head.new.pages.source) c.args.pages.now.kept c.read_head.new.pages.kept c.args.section.now c.args.at c.in-Err.found c.requires.there c.in-Err.ensures.head

pub returns-then-head-eq-INDEX_PACKET-clause-packet : goal.returns-then-head-eq-INDEX_PACKET-clause-packet
returns-then-head-eq-INDEX_PACKET-clause-packet g c =
    loaded_index (g.S.Source.view c.args.pages.now.source) (g.S.Source.view c.read_head.new.pages.source) c.args.pages.now.kept c.read_head.new.pages.kept c.args.section.now c.args.at c.in-Ok.head c.in-Ok.ensures.head c.if-head-eq-INDEX_PACKET.true

pub returns-then-head-ne-DATA_PACKET-clause-packet : goal.returns-then-head-ne-DATA_PACKET-clause-packet
returns-then-head-ne-DATA_PACKET-clause-packet g c =
    loaded_empty (g.S.Source.view c.args.pages.now.source) (g.S.Source.view c.read_head.new.pages.source) c.args.pages.now.kept c.read_head.new.pages.kept c.args.section.now c.args.at c.in-Ok.head c.in-Ok.ensures.head c.if-head-eq-INDEX_PACKET.false c.if-head-ne-DATA_PACKET.true

pub returns-in-Err-read_data-clause-packet : goal.returns-in-Err-read_data-clause-packet
returns-in-Err-read_data-clause-packet g c =
    let now = c.args.pages.now in
    let old = g.S.Source.view now.source in
    let told = told_size old now.length (g.met.S.Source.holds_size now.source) c.logical_len-size.ensures.open_size in
    lost_data old (g.S.Source.view c.read_head.new.pages.source) (g.S.Source.view c.read_data.new.pages.source) now.kept c.read_head.new.pages.kept c.read_data.new.pages.kept c.args.section.now c.args.at (now.length / 1024 * 1020) c.in-Ok.head c.in-Err-read_data.found told c.requires.lies.within c.in-Ok.ensures.head c.if-head-ne-DATA_PACKET.false c.in-Err-read_data.ensures.data

pub invariant_of-buf-2 : goal.invariant_of-buf-2
invariant_of-buf-2 g c =
    let mid = g.S.Source.view c.read_head.new.pages.source in
    let new = g.S.Source.view c.read_data.new.pages.source in
    let bytes = take_at c.read_data.new.bytes (drop (length c.read_data.new.bytes) c.buf.inside.bytes.items) c.buf.inside.bytes.len (c.read_data.auto.bytes ∙ c.deref_mut.ensures.len) in
    let ends = take_at c.read_data.new.ends (drop (length c.read_data.new.ends) c.buf.inside.ends.items) c.buf.inside.ends.len (c.read_data.auto.ends ∙ c.deref_mut-2.ensures.len) in
    let room : length c.read_data.new.bytes ≡ 65536 = c.read_data.auto.bytes ∙ ap (λ (l : List ℕ). length l) c.deref_mut.ensures.value ∙ c.buf.invariant.bytes_room in
    let places : length c.read_data.new.ends ≡ 512 = c.read_data.auto.ends ∙ ap (λ (l : List ℕ). length l) c.deref_mut-2.ensures.value ∙ c.buf.invariant.ends_room in
    rw (bytes, ends) (filled_buffer mid new c.read_head.new.pages.kept c.read_data.new.pages.kept c.args.at c.in-Ok.head.length c.args.section.now.fields c.read_data.new.bytes c.read_data.new.ends c.requires.lies.few_fields c.in-Ok.ensures.head.most room places c.in_default.ensures.data)

pub returns-clause-packet : goal.returns-clause-packet
returns-clause-packet g c =
    let old = g.S.Source.view c.args.pages.now.source in
    let mid = g.S.Source.view c.read_head.new.pages.source in
    let new = g.S.Source.view c.read_data.new.pages.source in
    let bytes = take_at c.read_data.new.bytes (drop (length c.read_data.new.bytes) c.buf.inside.bytes.items) c.buf.inside.bytes.len (c.read_data.auto.bytes ∙ c.deref_mut.ensures.len) in
    let ends = take_at c.read_data.new.ends (drop (length c.read_data.new.ends) c.buf.inside.ends.items) c.buf.inside.ends.len (c.read_data.auto.ends ∙ c.deref_mut-2.ensures.len) in
    let room : length c.read_data.new.bytes ≡ 65536 = c.read_data.auto.bytes ∙ ap (λ (l : List ℕ). length l) c.deref_mut.ensures.value ∙ c.buf.invariant.bytes_room in
    rw (bytes, ends) (loaded_data old mid new c.args.pages.now.kept c.read_head.new.pages.kept c.read_data.new.pages.kept c.args.section.now c.args.at c.in-Ok.head c.read_data.new.bytes c.read_data.new.ends c.in-Ok.ensures.head c.if-head-ne-DATA_PACKET.false room c.in_default.ensures.data)
