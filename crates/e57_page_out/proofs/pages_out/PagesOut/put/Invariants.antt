use Rattle.e57_page_out.proofs.Putting.{HasPut}
use Rattle.e57_page_out.proofs.pages_out.PagesOut.put.Given as goal

abbrev pub invariant-loop-n : goal.invariant-loop-n
invariant-loop-n g l = record {
  put : HasPut g.T.Target.view l.fn.self l.n l.bytes l.self;
}
