use Rattle.std.proofs.Common.{◌∙◌, List, ℕ, sym, subst}
use Rattle.e57_trial.specs.Accepted.{IsForm}
use Rattle.e57_trial.specs.Building.{second_chunk}
use Rattle.e57_trial.proofs.Forms.{repack-form, repack-want}
use Rattle.e57_trial.proofs.build.write_second.Goals as goal

pub want-requires : goal.want-requires
want-requires c =
    repack-want second_chunk c.args.pages.now.source.bytes c.check_accepted.new.pages.source c.repack-target.new.pages.source c.in-Ok.target c.repack-target.result.0 c.check_accepted.ensures
    c.one_verdict.ensures.one c.requires.accepted c.repack-target.result.1 c.in-Err-result.fault c.in-Err-result.is c.repack-target.ensures.repacks

pub returns-in-Ok-result-clause-form : goal.returns-in-Ok-result-clause-form
returns-in-Ok-result-clause-form c = λ content of.
    subst (λ (bytes : List ℕ). IsForm second_chunk content bytes) (sym (c.new-in-Ok-result.ensures ∙ c.into_bytes.ensures))
    (repack-form second_chunk c.args.pages.now.source.bytes c.check_accepted.new.pages.source c.repack-target.new.pages.source c.in-Ok.target c.repack-target.result.0 c.check_accepted.ensures
    c.one_content.ensures.one c.repack-target.result.1 c.in-Ok-result._total c.in-Ok-result.is c.repack-target.ensures.repacks content of)
