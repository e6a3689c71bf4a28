use Rattle.std.proofs.Common.{◌≡◌, ◌∙◌, ◌≤◌, ℕ, List, length, get_or, refl, ap, arith}
use Rattle.std.specs.Option.{unwrap_or}
use Rattle.std.proofs.lemmas.List.{get_or_default}
use Rattle.e57_section.specs.Streams.{first_stream, stream_begin}
use Rattle.e57_section.proofs.Streams.{has_stream}
use Rattle.e57_section.proofs.packet.Packet.stream.Goals as goal

pub stream_begin-begin-requires : goal.stream_begin-begin-requires
stream_begin-begin-requires c =
    let facts = has_stream c.self.inside.fields c.self.inside.ends.items c.self.inside.bytes.items c.args.self.now c.args.f c.self.invariant c.self.view_is c.requires in
    let room = c.self.invariant.ends_room in
    let index = facts.index in
    rw c.deref.ensures.value (omega (arith, room, index))

pub index-requires : goal.index-requires
index-requires c =
    let facts = has_stream c.self.inside.fields c.self.inside.ends.items c.self.inside.bytes.items c.args.self.now c.args.f c.self.invariant c.self.view_is c.requires in
    let room : length c.deref.result.now ≡ 512 = ap (λ (l : List ℕ). length l) c.deref.ensures.value ∙ c.self.invariant.ends_room in
    let len = c.deref.ensures.len in
    let index = facts.index in
    omega (arith, room, len, index)

-- where the stream begins and ends
begins : (c : goal.After-deref-2) → c.stream_begin-begin.result ≡ stream_begin (first_stream (unwrap_or c.self.inside.fields 0)) c.self.inside.ends.items c.args.f
begins c = c.stream_begin-begin.ensures ∙ rw (c.deref.ensures.value, c.unwrap_or.ensures) refl

ends : (c : goal.After-deref-2) → c.index.result.now ≡ get_or c.self.inside.ends.items c.args.f 0
ends c =
    let facts = has_stream c.self.inside.fields c.self.inside.ends.items c.self.inside.bytes.items c.args.self.now c.args.f c.self.invariant c.self.view_is c.requires in
    let room = c.self.invariant.ends_room in
    let index = facts.index in
    c.index.ensures ∙ get_or_default c.self.inside.ends.items c.args.f c.index.result.now 0 (omega (arith, room, index))

pub slice_bounds-result-count : goal.slice_bounds-result-count
slice_bounds-result-count c =
    let facts = has_stream c.self.inside.fields c.self.inside.ends.items c.self.inside.bytes.items c.args.self.now c.args.f c.self.invariant c.self.view_is c.requires in
    let rises = facts.rises in
    let begin = begins c in
    let end = ends c in
    omega (arith, rises, begin, end)

pub slice_bounds-result-start : goal.slice_bounds-result-start
slice_bounds-result-start c = slice_bounds-result-count c

pub slice_bounds-result-end : goal.slice_bounds-result-end
slice_bounds-result-end c =
    let facts = has_stream c.self.inside.fields c.self.inside.ends.items c.self.inside.bytes.items c.args.self.now c.args.f c.self.invariant c.self.view_is c.requires in
    let within = facts.within in
    let room : length c.deref-2.result.now ≡ 65536 = ap (λ (l : List ℕ). length l) c.deref-2.ensures.value ∙ c.self.invariant.bytes_room in
    let end = ends c in
    let bound : c.index.result.now ≤ length c.deref-2.result.now = omega (arith, within, room, end) in
    bound

pub returns-clause-bytes : goal.returns-clause-bytes
returns-clause-bytes c =
    let facts = has_stream c.self.inside.fields c.self.inside.ends.items c.self.inside.bytes.items c.args.self.now c.args.f c.self.invariant c.self.view_is c.requires in
    let room = c.self.invariant.ends_room in
    let index = facts.index in
    let begin : c.stream_begin-begin.result ≡ stream_begin (first_stream (unwrap_or c.self.inside.fields 0)) c.self.inside.ends.items c.args.f = c.stream_begin-begin.ensures ∙ rw (c.deref.ensures.value, c.unwrap_or.ensures) refl in
    let end : c.index.result.now ≡ get_or c.self.inside.ends.items c.args.f 0 = c.index.ensures ∙ get_or_default c.self.inside.ends.items c.args.f c.index.result.now 0 (omega (arith, room, index)) in
    rw (begin, end, c.deref-2.ensures.value) facts.is
