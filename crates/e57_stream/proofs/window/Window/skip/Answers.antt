use Rattle.std.proofs.Common.{arith, ◌+◌, ◌≤◌, ◌∙◌, ap, drop}
use Rattle.e57_stream.proofs.Windows.{held-skip}
use Rattle.e57_stream.proofs.window.Window.skip.Goals as goal

pub returns : goal.returns
returns c =
    let order = c.self.invariant.order in
    let below : c.self.inside.begin + c.args.n ≤ c.self.inside.end = omega arith in
    held-skip c.self.inside.buffer.items c.self.inside.begin c.self.inside.end c.args.n below ∙ ap (drop c.args.n) c.self.view_is
