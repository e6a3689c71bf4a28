use Rattle.std.proofs.Common.{◌≡◌, ◌∙◌, ◌+◌, ◌≤◌, refl, ap, arith}
use Rattle.e57_base.proofs.Told.{told_map}
use Rattle.e57_page.specs.File.{logical}
use Rattle.e57_layout.specs.Packets.{packet_head_at, length_at, sort_at}
use Rattle.e57_layout.specs.declared.packet.PacketHead.{PacketHead}
use Rattle.e57_page.proofs.PagesLaws.{cut_asks}
use Rattle.e57_section.proofs.Spans.{keeps_only_span, cut_keeps, cut_cause}
use Rattle.e57_section.proofs.Heads.{head_page, head_kind_found, sound_head, sound_sort, sound_whole, sound_some, length_most, head_past, head_within, head_read}
use Rattle.e57_section.proofs.head.read_head.Goals as goal

pub returns-in-Err-clause-head : goal.returns-in-Err-clause-head
returns-in-Err-clause-head g c =
    let old = g.S.Source.view c.args.pages.now.source in
    let new = g.S.Source.view c.read.new.self.source in
    let kept = c.args.pages.now.kept in
    let cut = c.in-Err.cut in
    let stopped = c.in-Err.ensures.range in
    record {
      source = cut_asks old new kept c.read.new.self.kept c.args.at stopped.0 _ c.read.new.out cut stopped.1;
      keeps = cut_keeps old new kept c.read.new.self.kept c.args.at stopped.0 _ c.read.new.out cut stopped.1;
      cause = head_page old new c.args.section.now c.args.at cut.fault (cut_cause old new kept c.read.new.self.kept c.args.at stopped.0 _ c.read.new.out cut cut.fault refl stopped.1);
    }

pub returns-then-head-section-clause-head : goal.returns-then-head-section-clause-head
unfolding packet_head_at
returns-then-head-section-clause-head g c =
    let old = g.S.Source.view c.args.pages.now.source in
    let s = c.args.section.now in
    let range = c.in_default.ensures.range in
    let bytes = c.read.new.out in
    let sound = sound_head bytes c.in-Ok.ensures.0 in
    let length : c.in-Ok.head.length ≡ length_at bytes 0 = ap (λ (h : PacketHead). h.length) c.in-Ok.ensures.1 in
    let past = c.if-head-section.true in
    record {
      source = range.source;
      keeps = keeps_only_span c.args.pages.now.kept c.read.new.self.kept c.args.at 4 range.keeps;
      cause = rw c.refused.ensures (refl, head_past old bytes s c.args.at sound (omega (arith, past, length)) range.right range.bytes);
    }

pub returns-else-head-section-clause-head : goal.returns-else-head-section-clause-head
unfolding packet_head_at
returns-else-head-section-clause-head g c =
    let old = g.S.Source.view c.args.pages.now.source in
    let s = c.args.section.now in
    let range = c.in_default.ensures.range in
    let bytes = c.read.new.out in
    let sound = sound_head bytes c.in-Ok.ensures.0 in
    let length : c.in-Ok.head.length ≡ length_at bytes 0 = ap (λ (h : PacketHead). h.length) c.in-Ok.ensures.1 in
    let sort : c.in-Ok.head.sort ≡ sort_at bytes 0 = ap (λ (h : PacketHead). h.sort) c.in-Ok.ensures.1 in
    let low = c.if-head-section.false in
    let there = c.requires.there in
    let some = sound_some bytes sound in
    let most = length_most bytes in
    let within : c.args.at + length_at bytes 0 ≤ s.end = omega (arith, low, length, there) in
    record {
      source = range.source;
      keeps = range.keeps;
      sort = rw sort (sound_sort bytes sound);
      some = rw length some;
      most = rw length most;
      whole = rw length (sound_whole bytes sound);
      within = rw length within;
      sound = head_within old bytes s c.args.at sound within range.right range.bytes;
      read = told_map (λ file. packet_head_at bytes 0 ≡ packet_head_at (logical file) c.args.at) (λ file. c.in-Ok.head ≡ packet_head_at (logical file) c.args.at) old.held (λ file is. c.in-Ok.ensures.1 ∙ is) (head_read old bytes c.args.at range.bytes);
    }

pub returns-in-Err-read_packet_head-clause-head : goal.returns-in-Err-read_packet_head-clause-head
returns-in-Err-read_packet_head-clause-head g c =
    let old = g.S.Source.view c.args.pages.now.source in
    let range = c.in_default.ensures.range in
    record {
      source = range.source;
      keeps = keeps_only_span c.args.pages.now.kept c.read.new.self.kept c.args.at 4 range.keeps;
      cause = rw c.refused-in-Err-read_packet_head.ensures (head_kind_found old c.read.new.out c.args.section.now c.args.at c.in-Err-read_packet_head.kind c.in-Err-read_packet_head.ensures range.right range.bytes);
    }
