use Rattle.e57_salvage.proofs.Laws.Valid.{saved-valid, file-valid, saved-records, saved-content}
use Rattle.e57_salvage.proofs.theorems.saved_content.Goals as goal

pub returns-clause-valid : goal.returns-clause-valid
returns-clause-valid c = saved-valid

pub returns-clause-of_file : goal.returns-clause-of_file
returns-clause-of_file c = file-valid

pub returns-clause-records : goal.returns-clause-records
returns-clause-records c = saved-records

pub returns-clause-written : goal.returns-clause-written
returns-clause-written c = saved-content c.written_form.ensures.content
