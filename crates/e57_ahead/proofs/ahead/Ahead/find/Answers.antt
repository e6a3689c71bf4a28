use Rattle.std.proofs.Common.{sym}
use Rattle.e57_ahead.proofs.Resuming.{answer-find}
use Rattle.e57_ahead.proofs.ahead.Ahead.find.Goals as goal

pub returns-clause-found : goal.returns-clause-found
returns-clause-found g c =
    answer-find (g.S.Source.view c.args.pages.now.source) (g.S.Source.view c.look-answer.new.pages.source) c.args.self.now c.self.inside.section c.self.inside.fixed c.self.inside.reached c.resumed-reached.result c.look-answer.result.0 c.args.i c.look-answer.result.1 (sym c.self.view_is) c.resumed-reached.ensures c.self.invariant.unindexed c.look-answer.ensures.found
