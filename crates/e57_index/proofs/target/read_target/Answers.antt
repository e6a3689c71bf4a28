use Rattle.std.proofs.Common.{◌∙◌, ◌+◌, ◌≤◌, refl, sym, arith}
use Rattle.e57_page.proofs.PagesLaws.{cut_asks}
use Rattle.e57_cloud.specs.Met.{InTarget}
use Rattle.e57_index.proofs.Asked.{asks_met-none}
use Rattle.e57_index.proofs.Targets.{asks_target, no_target, before_data, past_end, wrong_page, no_target_there, target_there}
use Rattle.e57_page.specs.Place.{place}
use Rattle.e57_index.specs.Spans.{target_spans}
use Rattle.e57_index.proofs.Spanned.{asks_there, asks_nothing}
use Rattle.e57_index.proofs.target.read_target.Goals as goal
use Rattle.e57_section.proofs.Spans.{cut_cause}

pub returns-in_default-clause-target : goal.returns-in_default-clause-target
returns-in_default-clause-target g c =
    let old = g.S.Source.view c.args.pages.now.source in
    let s = c.args.section.now in
    record { source = asks_met-none s (λ file p. InTarget s c.args.entry.now p) old; cause = rw c.refused-wrong.ensures (no_target old old s c.args.entry.now (sym c.in_default.ensures)) }

pub returns-then-place-section-clause-target : goal.returns-then-place-section-clause-target
returns-then-place-section-clause-target g c =
    let old = g.S.Source.view c.args.pages.now.source in
    let s = c.args.section.now in
    record { source = asks_met-none s (λ file p. InTarget s c.args.entry.now p) old; cause = rw c.refused-wrong.ensures (before_data old old s c.args.entry.now c.in-Some.place (sym c.in-Some.ensures) c.if-place-section.true) }

pub returns-then-section-place-clause-target : goal.returns-then-section-place-clause-target
returns-then-section-place-clause-target g c =
    let old = g.S.Source.view c.args.pages.now.source in
    let s = c.args.section.now in
    let over = c.if-section-place.true in
    let long = c.requires.header in
    record { source = asks_met-none s (λ file p. InTarget s c.args.entry.now p) old; cause = rw c.refused-wrong.ensures (past_end old old s c.args.entry.now c.in-Some.place (sym c.in-Some.ensures) c.if-place-section.false (omega (arith, over, long))) }

pub returns-in-Err-clause-target : goal.returns-in-Err-clause-target
returns-in-Err-clause-target g c =
    let old = g.S.Source.view c.args.pages.now.source in
    let new = g.S.Source.view c.read.new.self.source in
    let s = c.args.section.now in
    let kept = c.args.pages.now.kept in
    let cut = c.in-Err.cut in
    let stopped = c.in-Err.ensures.range in
    let under = c.if-section-place.false in
    let long = c.requires.header in
    let high : c.in-Some.place + 4 ≤ s.end = omega (arith, under, long) in
    record {
      source = asks_target s kept c.args.entry.now c.in-Some.place old new c.requires.start (sym c.in-Some.ensures) c.if-place-section.false high (cut_asks old new kept c.read.new.self.kept c.in-Some.place stopped.0 _ c.read.new.out cut stopped.1);
      cause = wrong_page old new s c.args.entry.now c.in-Some.place cut.fault (sym c.in-Some.ensures) c.if-place-section.false high (cut_cause old new kept c.read.new.self.kept c.in-Some.place stopped.0 _ c.read.new.out cut cut.fault refl stopped.1);
    }

pub returns-then-not-is_target-clause-target : goal.returns-then-not-is_target-clause-target
returns-then-not-is_target-clause-target g c =
    let old = g.S.Source.view c.args.pages.now.source in
    let new = g.S.Source.view c.read.new.self.source in
    let s = c.args.section.now in
    let range = c.in_default-read.ensures.range in
    let under = c.if-section-place.false in
    let long = c.requires.header in
    let high : c.in-Some.place + 4 ≤ s.end = omega (arith, under, long) in
    let wrong = sym c.is_target.ensures ∙ c.if-not-is_target.true in
    record {
      source = asks_target s c.args.pages.now.kept c.args.entry.now c.in-Some.place old new c.requires.start (sym c.in-Some.ensures) c.if-place-section.false high range.source;
      cause = rw c.refused-wrong.ensures (no_target_there old new s c.args.entry.now c.in-Some.place c.read.new.out (sym c.in-Some.ensures) c.if-place-section.false high wrong range.right range.bytes);
    }

pub returns-clause-target : goal.returns-clause-target
returns-clause-target g c =
    let old = g.S.Source.view c.args.pages.now.source in
    let new = g.S.Source.view c.read.new.self.source in
    let s = c.args.section.now in
    let range = c.in_default-read.ensures.range in
    let under = c.if-section-place.false in
    let long = c.requires.header in
    let high : c.in-Some.place + 4 ≤ s.end = omega (arith, under, long) in
    let right = sym c.is_target.ensures ∙ c.if-not-is_target.false in
    record {
      source = asks_target s c.args.pages.now.kept c.args.entry.now c.in-Some.place old new c.requires.start (sym c.in-Some.ensures) c.if-place-section.false high range.source;
      at = sym c.in-Some.ensures;
      after = c.if-place-section.false;
      within = high;
      sound = target_there old s c.args.entry.now c.in-Some.place c.read.new.out (sym c.in-Some.ensures) c.if-place-section.false high right range.right range.bytes;
    }

pub returns-in_default-clause-spans : goal.returns-in_default-clause-spans
returns-in_default-clause-spans g c = asks_nothing c.args.section.now 1 (λ file. target_spans c.args.section.now c.args.entry.now) (g.S.Source.view c.args.pages.now.source)

pub returns-then-place-section-clause-spans : goal.returns-then-place-section-clause-spans
returns-then-place-section-clause-spans g c = asks_nothing c.args.section.now 1 (λ file. target_spans c.args.section.now c.args.entry.now) (g.S.Source.view c.args.pages.now.source)

pub returns-then-section-place-clause-spans : goal.returns-then-section-place-clause-spans
returns-then-section-place-clause-spans g c = asks_nothing c.args.section.now 1 (λ file. target_spans c.args.section.now c.args.entry.now) (g.S.Source.view c.args.pages.now.source)

pub returns-in-Err-clause-spans : goal.returns-in-Err-clause-spans
returns-in-Err-clause-spans g c =
    let old = g.S.Source.view c.args.pages.now.source in
    let new = g.S.Source.view c.read.new.self.source in
    let s = c.args.section.now in
    let under = c.if-section-place.false in
    let long = c.requires.header in
    let high : c.in-Some.place + 4 ≤ s.end = omega (arith, under, long) in
    let kept = c.args.pages.now.kept in
    let stopped = c.in-Err.ensures.range in
    asks_there s s.data_place 4 (place c.args.entry.now.place) kept c.in-Some.place old new c.requires.start (sym c.in-Some.ensures) c.if-place-section.false high (cut_asks old new kept c.read.new.self.kept c.in-Some.place stopped.0 _ c.read.new.out c.in-Err.cut stopped.1)

pub returns-then-not-is_target-clause-spans : goal.returns-then-not-is_target-clause-spans
returns-then-not-is_target-clause-spans g c =
    let old = g.S.Source.view c.args.pages.now.source in
    let new = g.S.Source.view c.read.new.self.source in
    let s = c.args.section.now in
    let under = c.if-section-place.false in
    let long = c.requires.header in
    let high : c.in-Some.place + 4 ≤ s.end = omega (arith, under, long) in
    asks_there s s.data_place 4 (place c.args.entry.now.place) c.args.pages.now.kept c.in-Some.place old new c.requires.start (sym c.in-Some.ensures) c.if-place-section.false high c.in_default-read.ensures.range.source

pub returns-clause-spans : goal.returns-clause-spans
returns-clause-spans g c =
    let old = g.S.Source.view c.args.pages.now.source in
    let new = g.S.Source.view c.read.new.self.source in
    let s = c.args.section.now in
    let under = c.if-section-place.false in
    let long = c.requires.header in
    let high : c.in-Some.place + 4 ≤ s.end = omega (arith, under, long) in
    asks_there s s.data_place 4 (place c.args.entry.now.place) c.args.pages.now.kept c.in-Some.place old new c.requires.start (sym c.in-Some.ensures) c.if-place-section.false high c.in_default-read.ensures.range.source
