use Rattle.std.specs.Prelude.{MatchResult}
use Rattle.std.specs.List.{AllByRecursion}
use Rattle.std.proofs.Common.{◌*◌, ◌/◌, ◌<◌, ℕ, List, length, sym, subst, arith}
use Rattle.e57_base.specs.declared.fault.RunFault.{RunFault}
use Rattle.e57_rows.specs.Shown.{show_of}
use Rattle.e57_rows.specs.Putting.{PutsRows, FailsRows}
use Rattle.e57_blocks.specs.Fields.{Slice, OnSlice}
use Rattle.e57_show.specs.Extracting.{selection_of, FailsRecords}
use Rattle.e57_show.proofs.Records.{records-none, opening-met, opened-met, rows-met, section-lost, rows-put, fixed-in, section-of, given-slice, met-of}
use Rattle.e57_show.proofs.rows.put_records.Goals as goal
use Rattle.e57_file.proofs.Blobs.{told_size}

pub returns-then-count-eq0-clause-puts : goal.returns-then-count-eq0-clause-puts
returns-then-count-eq0-clause-puts g c = records-none (selection_of c.args.selected.now c.args.fields.now) (g.S.Source.view c.args.pages.now.source) (g.O.Sink.view c.args.out.now) c.if-count-eq0.true

pub returns-in-Err-clause-met : goal.returns-in-Err-clause-met
returns-in-Err-clause-met g c =
    let some = c.if-count-eq0.false in
    let now = c.args.pages.now in
    opening-met (selection_of c.args.selected.now c.args.fields.now) now.kept (now.length / 1024 * 1020) (g.S.Source.view now.source) (g.S.Source.view c.open_section.new.pages.source) (omega (arith, some))
    (told_size (g.S.Source.view now.source) now.length (g.met.S.Source.holds_size now.source) c.logical_len-size.ensures.open_size) c.in-Err.ensures.section.source

pub returns-in-Err-clause-puts : goal.returns-in-Err-clause-puts
returns-in-Err-clause-puts g c =
    let some = c.if-count-eq0.false in
    let old = g.S.Source.view c.args.pages.now.source in
    let new = g.S.Source.view c.open_section.new.pages.source in
    let out = g.O.Sink.view c.args.out.now in
    let s = selection_of c.args.selected.now c.args.fields.now in
    subst (λ (fault : RunFault). FailsRecords s old new out out fault) (sym c.from.ensures) (section-lost s old new out c.in-Err.fault c.requires.some (omega (arith, some)) c.in-Err.ensures.section.cause)

pub put_rows-requires-clause-fixed : goal.put_rows-requires-clause-fixed
put_rows-requires-clause-fixed g c = fixed-in c.args.fields.now c.in-Ok.section.fields c.args.fixed (sym c.in-Ok.ensures.section.has_fields) c.requires.fixed

pub put_rows-requires-clause-are_fields : goal.put_rows-requires-clause-are_fields
put_rows-requires-clause-are_fields g c = subst (λ (xs : List ℕ). AllByRecursion (λ f. f < length c.args.fields.now) xs) (sym c.deref.ensures.value) c.requires.numbers

pub returns-clause-met : goal.returns-clause-met
returns-clause-met g c =
    let some = c.if-count-eq0.false in
    let now = c.args.pages.now in
    let old = g.S.Source.view now.source in
    let mid = g.S.Source.view c.open_section.new.pages.source in
    let new = g.S.Source.view c.put_rows.new.pages.source in
    let s = selection_of c.args.selected.now c.args.fields.now in
    let opens = c.in-Ok.ensures.section in
    let sized = told_size old now.length (g.met.S.Source.holds_size now.source) c.logical_len-size.ensures.open_size in
    let same = given-slice s c.in-Ok.section c.args.fixed _ c.requires.fixed c.deref.ensures.value in
    rows-met s c.in-Ok.section old mid new (omega (arith, some)) c.requires.numbers opens.source.3.same.held
    (section-of s now.kept c.open_section.new.pages.kept (now.length / 1024 * 1020) c.in-Ok.section old mid opens)
    (opened-met s now.kept c.open_section.new.pages.kept (now.length / 1024 * 1020) c.in-Ok.section old mid (omega (arith, some)) sized opens)
    (subst (λ (a : Slice). Rattle.e57_stream.specs.Asking.AsksMet (OnSlice a) mid new) same (met-of _ _ mid new (g.O.Sink.view c.args.out.now) (g.O.Sink.view c.put_rows.new.out) c.put_rows.result c.put_rows.ensures.rows))

pub returns-clause-puts : goal.returns-clause-puts
returns-clause-puts g c =
    let now = c.args.pages.now in
    let old = g.S.Source.view now.source in
    let mid = g.S.Source.view c.open_section.new.pages.source in
    let new = g.S.Source.view c.put_rows.new.pages.source in
    let out = g.O.Sink.view c.args.out.now in
    let out' = g.O.Sink.view c.put_rows.new.out in
    let s = selection_of c.args.selected.now c.args.fields.now in
    let opens = c.in-Ok.ensures.section in
    let same = given-slice s c.in-Ok.section c.args.fixed _ c.requires.fixed c.deref.ensures.value in
    rows-put s c.in-Ok.section old mid new out out' c.put_rows.result opens.source.3.same.held opens.source.3.faults
    (section-of s now.kept c.open_section.new.pages.kept (now.length / 1024 * 1020) c.in-Ok.section old mid opens)
    (subst (λ (a : Slice). MatchResult c.put_rows.result (λ _. PutsRows (show_of s.decimal s.fields) a mid new out out') (λ fault. FailsRows (show_of s.decimal s.fields) a mid new out out' fault)) same c.put_rows.ensures.rows)
