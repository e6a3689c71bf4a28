use Rattle.std.proofs.Common.{◌≡◌}
use Rattle.e57_page.specs.Fetch.{HasRead}
use Rattle.e57_page.proofs.pages.Pages.read.Given as goal

abbrev pub invariant-loop-n : goal.invariant-loop-n
invariant-loop-n g l = record {
  size : l.self.length ≡ l.fn.self.length;
  header : l.self.header ≡ l.fn.self.header;
  read : HasRead (g.S.Source.view l.fn.self.source) l.fn.self.kept l.at l.n l.high l.fn.out l.out (g.S.Source.view l.self.source) l.self.kept;
}
