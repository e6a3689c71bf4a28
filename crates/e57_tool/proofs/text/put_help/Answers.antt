use Rattle.std.proofs.Common.{false}
use Rattle.e57_base.specs.declared.fault.RunFault.TheVariants.{Out}
use Rattle.e57_tool.specs.declared.ending.Ending.TheVariants.{Failed}
use Rattle.e57_tool.specs.Text.{help_text}
use Rattle.e57_tool.proofs.Putting.{keeps, front_put}
use Rattle.e57_tool.proofs.text.put_help.Goals as goal

pub returns-in-Err : goal.returns-in-Err
returns-in-Err g c =
    let view = g.O.Sink.view in
    keeps g.S.Source.view g.T.Target.view view false help_text c.args.source c.args.target c.args.out.now c.put.new.self (Failed Out) (front_put false help_text c.as_bytes.result.now (view c.args.out.now) (view c.put.new.self) c.as_bytes.ensures.value c.in-Err.ensures.written c.in-Err.ensures.cause)
