use Rattle.e57_spans.proofs.Laws.Exact.{section-way}
use Rattle.e57_spans.proofs.Laws.Found.{judged-of}
use Rattle.e57_spans.proofs.Laws.Paths.{judged-lost}
use Rattle.e57_spans.proofs.theorems.span_of_record.Goals as goal

pub returns-clause-judged : goal.returns-clause-judged
returns-clause-judged c = judged-of

pub returns-clause-lost : goal.returns-clause-lost
returns-clause-lost c = judged-lost

pub returns-clause-way : goal.returns-clause-way
returns-clause-way c = section-way
