use Rattle.e57_base.proofs.Rest.{over_zeros}
use Rattle.e57_base.proofs.page.copy_rest.Goals as goal

pub returns : goal.returns
returns c = over_zeros c.args.file.now c.split_at.result.1.now _ c.split_at.ensures.back c.put_first.ensures
