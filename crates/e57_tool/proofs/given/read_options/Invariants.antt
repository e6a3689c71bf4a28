use Rattle.std.proofs.Common.{◌≡◌, drop, map, string_bytes}
use Rattle.e57_tool.specs.Options.{with_options}
use Rattle.e57_tool.proofs.given.read_options.Given as goal

abbrev pub invariant-loop-at : goal.invariant-loop-at
invariant-loop-at g l =
    (with_options g.G.Given.rows l.words.next (drop l.words.next (map string_bytes l.words.words.now)) g.G.Given.nothing ≡ with_options g.G.Given.rows l.at (drop l.at (map string_bytes l.words.words.now)) (g.G.Given.meaning l.given)) × g.G.Given.is_lawful l.given
