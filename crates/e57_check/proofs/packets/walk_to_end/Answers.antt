use Rattle.std.proofs.Common.{◌/◌, sym, ◌∙◌}
use Rattle.e57_check.proofs.Passed.{ended-sound, ended-refused}
use Rattle.e57_check.proofs.packets.walk_to_end.Goals as goal

pub returns-in-Some-clause-walk : goal.returns-in-Some-clause-walk
returns-in-Some-clause-walk g c =
    ended-refused (c.args.pages.now.length / 1024) (g.S.Source.view c.args.pages.now.source) (g.S.Source.view c.walk_to.new.pages.source) c.args.section.now c.args.starts.now c.args.passed c.in-Ok.passed c.in-Some.found c.in-Ok.ensures.far (sym c.in-Some.is ∙ c.left_fault.ensures) c.in-Ok.ensures.walk

pub returns-in-None-clause-walk : goal.returns-in-None-clause-walk
returns-in-None-clause-walk g c =
    ended-sound (c.args.pages.now.length / 1024) (g.S.Source.view c.args.pages.now.source) (g.S.Source.view c.walk_to.new.pages.source) c.args.section.now c.args.starts.now c.args.passed c.in-Ok.passed c.in-Ok.ensures.far (sym c.in-None.is ∙ c.left_fault.ensures) c.in-Ok.ensures.walk
