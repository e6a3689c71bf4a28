use Rattle.e57_spans.proofs.Laws.Exact.{cloud-records, cloud-has, cloud-one}
use Rattle.e57_spans.proofs.Laws.Found.{section-chain}
use Rattle.e57_spans.proofs.Laws.Items.{cloud-chain}
use Rattle.e57_spans.proofs.Laws.Walks.{spans-step}
use Rattle.e57_spans.proofs.theorems.spans_in_order.Goals as goal

pub returns-clause-section : goal.returns-clause-section
returns-clause-section c = section-chain

pub returns-clause-cloud : goal.returns-clause-cloud
returns-clause-cloud c = cloud-chain

pub returns-clause-records : goal.returns-clause-records
returns-clause-records c = cloud-records

pub returns-clause-some : goal.returns-clause-some
returns-clause-some c = cloud-has

pub returns-clause-one : goal.returns-clause-one
returns-clause-one c = cloud-one

pub returns-clause-step : goal.returns-clause-step
returns-clause-step c = spans-step
