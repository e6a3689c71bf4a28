use Rattle.e57_tool.proofs.program.run.Goals as goal

pub returns-clause-complete : goal.returns-clause-complete
returns-clause-complete g c = rw (c.in-Ok.ensures.ask, c.report.ensures.status) c.perform-source.ensures.complete
