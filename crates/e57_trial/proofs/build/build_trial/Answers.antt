use Rattle.std.proofs.Common.{◌∙◌, List, ℕ, sym, subst}
use Rattle.e57_verdict.specs.Content.{IsContent}
use Rattle.e57_trial.specs.Accepted.{HasColumns}
use Rattle.e57_trial.specs.Building.{first_chunk, second_chunk}
use Rattle.e57_trial.specs.Content.{columns_from, trial_content}
use Rattle.e57_trial.proofs.Forms.{form-content, trial-columns, trial-total}
use Rattle.e57_trial.proofs.build.build_trial.Goals as goal

pub sum_accepted-requires-clause-cloud : goal.sum_accepted-requires-clause-cloud
sum_accepted-requires-clause-cloud c =
    let start = c.args.start in
    let count = c.args.count in
    let content = trial_content start count in
    let forms = c.written_form.ensures.content in
    let first = form-content forms first_chunk content c.in-Ok.first c.in-Ok.ensures in
    let here = subst (λ (bytes : List ℕ). IsContent bytes content) (sym c.open_accepted-pages.ensures.same_bytes) first in
    let second = c.in-Ok-write_second.ensures.form content here in (
      columns_from start 0 count,
      subst (λ (bytes : List ℕ). HasColumns bytes (columns_from start 0 count)) (sym c.open_accepted-pages-2.ensures.same_bytes)
          (trial-columns start count c.in-Ok-write_second.second (form-content forms second_chunk content c.in-Ok-write_second.second second)),
    )

pub returns : goal.returns
returns c =
    let start = c.args.start in
    let count = c.args.count in
    let content = trial_content start count in
    let forms = c.written_form.ensures.content in
    let first = form-content forms first_chunk content c.in-Ok.first c.in-Ok.ensures in
    let here = subst (λ (bytes : List ℕ). IsContent bytes content) (sym c.open_accepted-pages.ensures.same_bytes) first in
    let second = c.in-Ok-write_second.ensures.form content here in
    let columns = subst (λ (bytes : List ℕ). HasColumns bytes (columns_from start 0 count)) (sym c.open_accepted-pages-2.ensures.same_bytes)
    (trial-columns start count c.in-Ok-write_second.second (form-content forms second_chunk content c.in-Ok-write_second.second second)) in
    record {
      first = c.close_bytes-first.ensures ∙ c.in-Ok-write_second.ensures.same.same_bytes ∙ c.open_accepted-pages.ensures.same_bytes ∙ c.in-Ok.ensures.is_plain;
      second = c.close_bytes-second.ensures ∙ c.in-Ok-sum_accepted.ensures.same.same_bytes ∙ c.open_accepted-pages-2.ensures.same_bytes ∙ second.is_plain;
      sum = trial-total start count c.in-Ok-sum_accepted.sum (c.in-Ok-sum_accepted.ensures.sum (columns_from start 0 count) columns);
    }
