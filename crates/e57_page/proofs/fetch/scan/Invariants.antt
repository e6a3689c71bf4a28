use Rattle.e57_page.specs.Pages.{IsScanned}
use Rattle.e57_page.proofs.fetch.scan.Given as goal

abbrev pub invariant-loop-n : goal.invariant-loop-n
invariant-loop-n g l = IsScanned (g.S.Source.view l.initial.source) l.n (g.S.Source.view l.source)
