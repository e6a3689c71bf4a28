use Rattle.e57_index.specs.Spans.{load_spans}
use Rattle.e57_index.proofs.Spanned.{asks_nothing}
use Rattle.e57_index.proofs.cursor.IndexCursor.load.Goals as goal

pub returns-then-holds-clause-spans : goal.returns-then-holds-clause-spans
returns-then-holds-clause-spans g c = asks_nothing c.args.self.now.section 2 (λ file. load_spans file c.args.self.now c.args.wanted c.args.entry.now) (g.S.Source.view c.args.pages.now.source)
