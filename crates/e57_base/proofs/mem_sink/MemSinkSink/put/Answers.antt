use Rattle.std.proofs.Common.{◌≡◌, ◌-◌, ◌≤◌, Some, ◌++◌, length, take, ap, arith, rules}
use Rattle.std.proofs.lemmas.Grind.{common_steps}
use Rattle.e57_base.proofs.mem_sink.MemSinkSink.put.Goals as goal

pub returns-then-piece-room-clause-puts : goal.returns-then-piece-room-clause-puts
returns-then-piece-room-clause-puts c =
    let old = c.self.inside.written.items in
    let new = c.extend_from_slice.new.self.items in
    let piece = c.args.piece.now in
    let k = c.self.inside.room - c.len.result in
    let grown : new ≡ old ++ take k piece = grind (arith, common_steps) in
    let within : k ≤ length piece = omega arith in
    rw (← c.self.view_is) (record {
      written = (k, within, ap Some grown);
      faults = search rules;
      cause = search rules;
    })
