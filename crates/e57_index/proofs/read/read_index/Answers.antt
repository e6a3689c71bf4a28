use Rattle.std.proofs.Common.{◌≡◌, ◌+◌, ◌*◌, ◌++◌, length, take, drop, refl, sym, ◌∙◌, arith}
use Rattle.std.proofs.lemmas.List.{length-take-le}
use Rattle.std.proofs.Math.Seq.{take-append_seam}
use Rattle.e57_page.proofs.PagesLaws.{cut_asks}
use Rattle.e57_index.proofs.Judging.{lost_start, lost_level, lost_entries, lost_order, read_whole}
use Rattle.e57_index.proofs.PacketSpans.{asks_start_spans, asks_packet_spans}
use Rattle.e57_index.proofs.read.read_index.Goals as goal
use Rattle.e57_section.proofs.Spans.{cut_cause}

pub returns-in-Err-clause-index : goal.returns-in-Err-clause-index
returns-in-Err-clause-index g c =
    lost_start (g.S.Source.view c.args.pages.now.source) (g.S.Source.view c.read_start.new.pages.source) c.args.section.now c.args.wanted c.args.entry.now c.args.bound c.in-Err.found c.in-Err.ensures.start

pub returns-then-not-is_wanted-clause-index : goal.returns-then-not-is_wanted-clause-index
returns-then-not-is_wanted-clause-index g c =
    let other = sym c.is_wanted.ensures ∙ c.if-not-is_wanted.true in
    rw c.refused.ensures (lost_level (g.S.Source.view c.args.pages.now.source) (g.S.Source.view c.read_start.new.pages.source) c.args.section.now c.args.wanted c.args.entry.now c.args.bound c.in-Ok.start c.in-Ok.ensures.start other)

pub returns-in-Err-read-clause-index : goal.returns-in-Err-read-clause-index
returns-in-Err-read-clause-index g c =
    let old = g.S.Source.view c.args.pages.now.source in
    let mid = g.S.Source.view c.read_start.new.pages.source in
    let new = g.S.Source.view c.read.new.self.source in
    let start = c.in-Ok.start in
    let kept = c.read_start.new.pages.kept in
    let cut = c.in-Err-read.cut in
    let stopped = c.in-Err-read.ensures.range in
    let fits = sym c.is_wanted.ensures ∙ c.if-not-is_wanted.false in
    let before = take (16 * start.entries) c.args.bytes.now in
    let few = c.in-Ok.ensures.start.few in
    let room = c.requires.room in
    let long : length before ≡ 16 * start.entries = length-take-le (16 * start.entries) c.args.bytes.now (omega (arith, few, room)) in
    lost_entries old mid new kept c.args.section.now c.args.wanted c.args.entry.now c.args.bound start cut.fault c.in-Ok.ensures.start fits
    (rw long at (cut_asks mid new kept c.read.new.self.kept (start.place + 16) stopped.0 before c.read.new.out cut stopped.1))
    (rw long at (cut_cause mid new kept c.read.new.self.kept (start.place + 16) stopped.0 before c.read.new.out cut cut.fault refl stopped.1))

pub returns-then-not-is_ordered-clause-index : goal.returns-then-not-is_ordered-clause-index
returns-then-not-is_ordered-clause-index g c =
    let old = g.S.Source.view c.args.pages.now.source in
    let mid = g.S.Source.view c.read_start.new.pages.source in
    let new = g.S.Source.view c.read.new.self.source in
    let start = c.in-Ok.start in
    let fits = sym c.is_wanted.ensures ∙ c.if-not-is_wanted.false in
    let wrong = sym c.is_ordered.ensures ∙ c.if-not-is_ordered.true in
    let range = c.in_default.ensures.range in
    let few = c.in-Ok.ensures.start.few in
    let room = c.requires.room in
    let long : length (take (16 * start.entries) c.args.bytes.now) ≡ 16 * start.entries = length-take-le (16 * start.entries) c.args.bytes.now (omega (arith, few, room)) in
    rw c.refused-then-not-is_ordered.ensures
    (lost_order old mid new c.read_start.new.pages.kept c.args.section.now c.args.wanted c.args.entry.now c.args.bound start c.read.new.out c.in-Ok.ensures.start fits (rw long at range.source) (rw long at range.right) (rw long at range.bytes) wrong)

pub returns-clause-index : goal.returns-clause-index
returns-clause-index g c =
    let old = g.S.Source.view c.args.pages.now.source in
    let mid = g.S.Source.view c.read_start.new.pages.source in
    let new = g.S.Source.view c.read.new.self.source in
    let start = c.in-Ok.start in
    let fits = sym c.is_wanted.ensures ∙ c.if-not-is_wanted.false in
    let right = sym c.is_ordered.ensures ∙ c.if-not-is_ordered.false in
    let range = c.in_default.ensures.range in
    let few = c.in-Ok.ensures.start.few in
    let room = c.requires.room in
    let long : length (take (16 * start.entries) c.args.bytes.now) ≡ 16 * start.entries = length-take-le (16 * start.entries) c.args.bytes.now (omega (arith, few, room)) in
    let size : length c.read.new.out ≡ 16 * start.entries = c.read.auto.out ∙ long in
    let whole : take (16 * start.entries) (c.read.new.out ++ drop (16 * start.entries) c.args.bytes.now) ≡ c.read.new.out = rw (sym size) (take-append_seam c.read.new.out (drop (length c.read.new.out) c.args.bytes.now)) in
    rw whole
    (read_whole old mid new c.read_start.new.pages.kept c.args.section.now c.args.wanted c.args.entry.now c.args.bound start c.read.new.out c.in-Ok.ensures.start fits (rw long at range.source) (rw long at range.right) (rw long at range.bytes) right)

pub returns-in-Err-clause-spans : goal.returns-in-Err-clause-spans
returns-in-Err-clause-spans g c = asks_start_spans c.args.section.now c.args.wanted c.args.entry.now (g.S.Source.view c.args.pages.now.source) (g.S.Source.view c.read_start.new.pages.source) c.in-Err.ensures.spans

pub returns-then-not-is_wanted-clause-spans : goal.returns-then-not-is_wanted-clause-spans
returns-then-not-is_wanted-clause-spans g c = asks_start_spans c.args.section.now c.args.wanted c.args.entry.now (g.S.Source.view c.args.pages.now.source) (g.S.Source.view c.read_start.new.pages.source) c.in-Ok.ensures.spans

pub returns-in-Err-read-clause-spans : goal.returns-in-Err-read-clause-spans
returns-in-Err-read-clause-spans g c =
    let old = g.S.Source.view c.args.pages.now.source in
    let mid = g.S.Source.view c.read_start.new.pages.source in
    let new = g.S.Source.view c.read.new.self.source in
    let start = c.in-Ok.start in
    let kept = c.read_start.new.pages.kept in
    let fits = sym c.is_wanted.ensures ∙ c.if-not-is_wanted.false in
    let before = take (16 * start.entries) c.args.bytes.now in
    let few = c.in-Ok.ensures.start.few in
    let room = c.requires.room in
    let long : length before ≡ 16 * start.entries = length-take-le (16 * start.entries) c.args.bytes.now (omega (arith, few, room)) in
    let cut = c.in-Err-read.cut in
    let stopped = c.in-Err-read.ensures.range in
    asks_packet_spans c.args.section.now c.args.wanted c.args.entry.now start kept old mid new c.in-Ok.ensures.start fits c.in-Ok.ensures.spans
    (rw long at (cut_asks mid new kept c.read.new.self.kept (start.place + 16) stopped.0 before c.read.new.out cut stopped.1))

pub returns-then-not-is_ordered-clause-spans : goal.returns-then-not-is_ordered-clause-spans
returns-then-not-is_ordered-clause-spans g c =
    let old = g.S.Source.view c.args.pages.now.source in
    let mid = g.S.Source.view c.read_start.new.pages.source in
    let new = g.S.Source.view c.read.new.self.source in
    let start = c.in-Ok.start in
    let kept = c.read_start.new.pages.kept in
    let fits = sym c.is_wanted.ensures ∙ c.if-not-is_wanted.false in
    let before = take (16 * start.entries) c.args.bytes.now in
    let few = c.in-Ok.ensures.start.few in
    let room = c.requires.room in
    let long : length before ≡ 16 * start.entries = length-take-le (16 * start.entries) c.args.bytes.now (omega (arith, few, room)) in
    let range = c.in_default.ensures.range in
    asks_packet_spans c.args.section.now c.args.wanted c.args.entry.now start kept old mid new c.in-Ok.ensures.start fits c.in-Ok.ensures.spans (rw long at range.source)

pub returns-clause-spans : goal.returns-clause-spans
returns-clause-spans g c =
    let old = g.S.Source.view c.args.pages.now.source in
    let mid = g.S.Source.view c.read_start.new.pages.source in
    let new = g.S.Source.view c.read.new.self.source in
    let start = c.in-Ok.start in
    let kept = c.read_start.new.pages.kept in
    let fits = sym c.is_wanted.ensures ∙ c.if-not-is_wanted.false in
    let before = take (16 * start.entries) c.args.bytes.now in
    let few = c.in-Ok.ensures.start.few in
    let room = c.requires.room in
    let long : length before ≡ 16 * start.entries = length-take-le (16 * start.entries) c.args.bytes.now (omega (arith, few, room)) in
    let range = c.in_default.ensures.range in
    asks_packet_spans c.args.section.now c.args.wanted c.args.entry.now start kept old mid new c.in-Ok.ensures.start fits c.in-Ok.ensures.spans (rw long at range.source)
