use Rattle.std.proofs.Common.{◌≡◌, ◌+◌, ◌/◌, ◌≤◌, ℕ, List, refl, sym, ap, arith}
use Rattle.std.specs.Prelude.{Some}
use Rattle.e57_base.specs.Source.{SourceView}
use Rattle.e57_page.specs.Place.{place, span_end}
use Rattle.e57_page.specs.Pages.{AsksUnkept}
use Rattle.e57_page.proofs.PagesLaws.{cut_asks}
use Rattle.e57_layout.specs.IndexPackets.{entry_count_at, level_at}
use Rattle.e57_layout.specs.declared.packet.IndexHead.{IndexHead}
use Rattle.e57_layout.specs.declared.section.Section.{Section}
use Rattle.e57_cloud.specs.Met.{InIndexStart, InSpan}
use Rattle.e57_index.specs.Reading.{AsksStart}
use Rattle.e57_index.proofs.Asked.{asks_met-none, asks_met-span}
use Rattle.e57_index.proofs.Starts.{no_place, before_data, past_end, wrong_start, misshapen, sound_start, start_is}
use Rattle.e57_index.specs.Spans.{start_spans}
use Rattle.e57_index.proofs.Spanned.{asks_there, asks_nothing}
use Rattle.e57_index.proofs.start.read_start.Goals as goal
use Rattle.e57_base.proofs.Told.{told_all}
use Rattle.e57_section.proofs.Spans.{cut_cause}

asks_start : (s : Section) (kept : List ℕ) (offset q : ℕ) (a b : SourceView) → place offset ≡ Some q → s.start + 32 ≤ q → q + 16 ≤ s.end → AsksUnkept kept (q / 1020) (span_end q 16) a b → AsksStart s offset a b
asks_start s kept offset q a b is low high asks =
    asks_met-span s (λ file p. InIndexStart s offset p) kept q 16 a b (omega (arith, low)) high
    (told_all (λ file. (p : ℕ) → InSpan q 16 p → InIndexStart s offset p) a.held (λ file p within. rw is (low, high, within))) asks

pub returns-in_default-clause-start : goal.returns-in_default-clause-start
returns-in_default-clause-start g c =
    let old = g.S.Source.view c.args.pages.now.source in
    let s = c.args.section.now in
    record { source = asks_met-none s (λ file p. InIndexStart s c.args.offset p) old; cause = rw c.refused-shape.ensures (no_place old old s c.args.offset (sym c.in_default.ensures)) }

pub returns-then-place-section-clause-start : goal.returns-then-place-section-clause-start
returns-then-place-section-clause-start g c =
    let old = g.S.Source.view c.args.pages.now.source in
    let s = c.args.section.now in
    record { source = asks_met-none s (λ file p. InIndexStart s c.args.offset p) old; cause = rw c.refused-shape.ensures (before_data old old s c.args.offset c.in-Some.place (sym c.in-Some.ensures) c.if-place-section.true) }

pub returns-then-section-place-clause-start : goal.returns-then-section-place-clause-start
returns-then-section-place-clause-start g c =
    let old = g.S.Source.view c.args.pages.now.source in
    let s = c.args.section.now in
    let over = c.if-section-place.true in
    let long = c.requires.header in
    record { source = asks_met-none s (λ file p. InIndexStart s c.args.offset p) old; cause = rw c.refused-shape.ensures (past_end old old s c.args.offset c.in-Some.place (sym c.in-Some.ensures) c.if-place-section.false (omega (arith, over, long))) }

pub returns-in-Err-clause-start : goal.returns-in-Err-clause-start
returns-in-Err-clause-start g c =
    let old = g.S.Source.view c.args.pages.now.source in
    let new = g.S.Source.view c.read.new.self.source in
    let s = c.args.section.now in
    let kept = c.args.pages.now.kept in
    let cut = c.in-Err.cut in
    let stopped = c.in-Err.ensures.range in
    let under = c.if-section-place.false in
    let long = c.requires.header in
    let high : c.in-Some.place + 16 ≤ s.end = omega (arith, under, long) in
    record {
      source = asks_start s kept c.args.offset c.in-Some.place old new (sym c.in-Some.ensures) c.if-place-section.false high (cut_asks old new kept c.read.new.self.kept c.in-Some.place stopped.0 _ c.read.new.out cut stopped.1);
      cause = wrong_start old new s c.args.offset c.in-Some.place cut.fault (sym c.in-Some.ensures) c.if-place-section.false high (cut_cause old new kept c.read.new.self.kept c.in-Some.place stopped.0 _ c.read.new.out cut cut.fault refl stopped.1);
    }

pub returns-in-Some-judge_head-clause-start : goal.returns-in-Some-judge_head-clause-start
returns-in-Some-judge_head-clause-start g c =
    let old = g.S.Source.view c.args.pages.now.source in
    let new = g.S.Source.view c.read.new.self.source in
    let s = c.args.section.now in
    let q = c.in-Some.place in
    let bytes = c.read.new.out in
    let range = c.in_default-read.ensures.range in
    let under = c.if-section-place.false in
    let long = c.requires.header in
    let low = c.if-place-section.false in
    let high : q + 16 ≤ s.end = omega (arith, under, long) in
    let head = c.in-Some-judge_head.ensures in
    let count : c.in-Some-judge_head.head.entries ≡ entry_count_at bytes 0 = ap (λ (h : IndexHead). h.entries) head.1 in
    let level : c.in-Some-judge_head.head.level ≡ level_at bytes 0 = ap (λ (h : IndexHead). h.level) head.1 in
    let sound = sound_start s q bytes (omega (arith, high)) head.0 in
    record {
      source = asks_start s c.args.pages.now.kept c.args.offset q old new (sym c.in-Some.ensures) low high range.source;
      at = sym c.in-Some.ensures;
      after = low;
      some = rw count sound.some;
      few = rw count sound.few;
      within = rw count sound.within;
      is = rw (count, level) (start_is old s c.args.offset q bytes (sym c.in-Some.ensures) low high head.0 range.right range.bytes);
    }

pub returns-in-None-clause-start : goal.returns-in-None-clause-start
returns-in-None-clause-start g c =
    let old = g.S.Source.view c.args.pages.now.source in
    let new = g.S.Source.view c.read.new.self.source in
    let s = c.args.section.now in
    let q = c.in-Some.place in
    let bytes = c.read.new.out in
    let range = c.in_default-read.ensures.range in
    let under = c.if-section-place.false in
    let long = c.requires.header in
    let low = c.if-place-section.false in
    let high : q + 16 ≤ s.end = omega (arith, under, long) in
    record {
      source = asks_start s c.args.pages.now.kept c.args.offset q old new (sym c.in-Some.ensures) low high range.source;
      cause = rw c.refused-shape.ensures (misshapen old new s c.args.offset q bytes (sym c.in-Some.ensures) low high c.in-None.ensures range.right range.bytes);
    }

pub returns-in_default-clause-spans : goal.returns-in_default-clause-spans
returns-in_default-clause-spans g c = asks_nothing c.args.section.now 1 (λ file. start_spans c.args.section.now c.args.offset) (g.S.Source.view c.args.pages.now.source)

pub returns-then-place-section-clause-spans : goal.returns-then-place-section-clause-spans
returns-then-place-section-clause-spans g c = asks_nothing c.args.section.now 1 (λ file. start_spans c.args.section.now c.args.offset) (g.S.Source.view c.args.pages.now.source)

pub returns-then-section-place-clause-spans : goal.returns-then-section-place-clause-spans
returns-then-section-place-clause-spans g c = asks_nothing c.args.section.now 1 (λ file. start_spans c.args.section.now c.args.offset) (g.S.Source.view c.args.pages.now.source)

pub returns-in-Err-clause-spans : goal.returns-in-Err-clause-spans
returns-in-Err-clause-spans g c =
    let old = g.S.Source.view c.args.pages.now.source in
    let new = g.S.Source.view c.read.new.self.source in
    let s = c.args.section.now in
    let under = c.if-section-place.false in
    let long = c.requires.header in
    let high : c.in-Some.place + 16 ≤ s.end = omega (arith, under, long) in
    let kept = c.args.pages.now.kept in
    let stopped = c.in-Err.ensures.range in
    asks_there s (s.start + 32) 16 (place c.args.offset) kept c.in-Some.place old new (omega arith) (sym c.in-Some.ensures) c.if-place-section.false high (cut_asks old new kept c.read.new.self.kept c.in-Some.place stopped.0 _ c.read.new.out c.in-Err.cut stopped.1)

pub returns-in-Some-judge_head-clause-spans : goal.returns-in-Some-judge_head-clause-spans
returns-in-Some-judge_head-clause-spans g c =
    let old = g.S.Source.view c.args.pages.now.source in
    let new = g.S.Source.view c.read.new.self.source in
    let s = c.args.section.now in
    let under = c.if-section-place.false in
    let long = c.requires.header in
    let high : c.in-Some.place + 16 ≤ s.end = omega (arith, under, long) in
    asks_there s (s.start + 32) 16 (place c.args.offset) c.args.pages.now.kept c.in-Some.place old new (omega arith) (sym c.in-Some.ensures) c.if-place-section.false high c.in_default-read.ensures.range.source

pub returns-in-None-clause-spans : goal.returns-in-None-clause-spans
returns-in-None-clause-spans g c =
    let old = g.S.Source.view c.args.pages.now.source in
    let new = g.S.Source.view c.read.new.self.source in
    let s = c.args.section.now in
    let under = c.if-section-place.false in
    let long = c.requires.header in
    let high : c.in-Some.place + 16 ≤ s.end = omega (arith, under, long) in
    asks_there s (s.start + 32) 16 (place c.args.offset) c.args.pages.now.kept c.in-Some.place old new (omega arith) (sym c.in-Some.ensures) c.if-place-section.false high c.in_default-read.ensures.range.source
