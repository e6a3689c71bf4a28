use Rattle.e57_spans.proofs.Laws.Exact.{span-record, span-exact}
use Rattle.e57_spans.proofs.Laws.Items.{kept-sound, kept-few}
use Rattle.e57_spans.proofs.Laws.Saved.{saved-items}
use Rattle.e57_spans.proofs.theorems.sound_records.Goals as goal

pub returns-clause-found : goal.returns-clause-found
returns-clause-found c = span-record

pub returns-clause-exact : goal.returns-clause-exact
returns-clause-exact c = span-exact

pub returns-clause-kept : goal.returns-clause-kept
returns-clause-kept c = kept-sound

pub returns-clause-few : goal.returns-clause-few
returns-clause-few c = kept-few

pub returns-clause-items : goal.returns-clause-items
returns-clause-items c = saved-items
