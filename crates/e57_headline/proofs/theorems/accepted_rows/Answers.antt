use Rattle.e57_headline.proofs.Accepted.{shows, selected, opened, is-whole}
use Rattle.e57_headline.proofs.theorems.accepted_rows.Goals as goal

pub returns-clause-rows : goal.returns-clause-rows
returns-clause-rows c = λ file content k s is asked. shows file content k s c.one_answer.ensures.tree c.item_by_record.ensures.record_of is asked

pub returns-clause-asked : goal.returns-clause-asked
returns-clause-asked c = selected

pub returns-clause-opening : goal.returns-clause-opening
returns-clause-opening c = opened

pub returns-clause-completes : goal.returns-clause-completes
returns-clause-completes c = λ file clouds blobs records asked s is selects. is-whole file clouds blobs records asked s c.one_answer.ensures.tree c.one_verdict.ensures.one c.item_by_record.ensures.record_of is selects
