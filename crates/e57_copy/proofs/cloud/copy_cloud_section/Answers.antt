use Rattle.std.proofs.Common.{◌/◌, arith}
use Rattle.e57_copy.proofs.Clouds.{cloud_result, cloud_unopened, copies_none}
use Rattle.e57_copy.proofs.cloud.copy_cloud_section.Goals as goal

pub returns-then-count-eq0-clause-copies : goal.returns-then-count-eq0-clause-copies
returns-then-count-eq0-clause-copies g c =
    copies_none g.T.Target.view c.args.chunk (c.args.pages.now.length / 1024) c.args.cloud.now c.args.fields.now c.args.others.now (g.S.Source.view c.args.pages.now.source) c.args.out.now c.size-place.ensures.state c.requires.alike c.if-count-eq0.true

pub returns-in-Err-clause-copies : goal.returns-in-Err-clause-copies
returns-in-Err-clause-copies g c =
    let some = c.if-count-eq0.false in
    cloud_unopened g.T.Target.view c.args.chunk (c.args.pages.now.length / 1024) c.args.cloud.now c.args.fields.now c.args.others.now (g.S.Source.view c.args.pages.now.source) (g.S.Source.view c.open_section.new.pages.source) c.args.pages.now.kept c.open_section.new.pages.kept c.args.out.now c.in-Err.fault
    c.from.result (omega (arith, some)) c.from.ensures c.size-place.ensures.state c.in-Err.ensures.section

pub returns-clause-copies : goal.returns-clause-copies
returns-clause-copies g c =
    let some = c.if-count-eq0.false in
    cloud_result g.T.Target.view c.args.chunk (c.args.pages.now.length / 1024) c.args.cloud.now c.args.fixed c.args.fields.now c.args.others.now (g.S.Source.view c.args.pages.now.source) (g.S.Source.view c.open_section.new.pages.source) (g.S.Source.view c.copy_section_records.new.pages.source) c.args.pages.now.kept
    c.open_section.new.pages.kept c.in-Ok.section c.args.out.now c.copy_section_records.new.out c.requires.chunk c.requires.whole c.requires.fixed (omega (arith, some)) c.in-Ok.ensures.section c.copy_section_records.result c.copy_section_records.ensures.puts
