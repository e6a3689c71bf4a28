use Rattle.e57_import.specs.Reading.{ReadsFront}
use Rattle.e57_import.proofs.text.read_pages.Given as goal

abbrev pub invariant-loop-n : goal.invariant-loop-n
invariant-loop-n g l = ReadsFront l.n (g.S.Source.view l.fn.source) l.text.items (g.S.Source.view l.source)
