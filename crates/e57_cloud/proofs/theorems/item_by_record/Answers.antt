use Rattle.e57_cloud.proofs.Laws.Refusals.{field-refusal, path_item-record}
use Rattle.e57_cloud.proofs.theorems.item_by_record.Goals as goal

pub returns-clause-refusal : goal.returns-clause-refusal
returns-clause-refusal c = field-refusal

pub returns-clause-record_of : goal.returns-clause-record_of
returns-clause-record_of c = path_item-record
