use Rattle.e57_chunk_out.proofs.Opening.{new_is_empty}
use Rattle.e57_chunk_out.proofs.cloud_out.new_field.Goals as goal

pub returns-clause-is : goal.returns-clause-is
returns-clause-is c = new_is_empty c.args.field.now.kind c.args.most c.room_of.result c.in_ok-field.field c.room_of.ensures c.in_ok-field.ensures c.len-len.ensures.state
