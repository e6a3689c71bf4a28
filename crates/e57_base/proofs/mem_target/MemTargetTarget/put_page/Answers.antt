use Rattle.std.proofs.Common.{◌*◌, ◌≤◌, length, rules}
use Rattle.e57_base.specs.Target.{Torn}
use Rattle.e57_base.proofs.TornPage.{torn_piece}
use Rattle.e57_base.proofs.mem_target.MemTargetTarget.put_page.Goals as goal

pub returns-then-is_listed-clause-puts : goal.returns-then-is_listed-clause-puts
returns-then-is_listed-clause-puts c =
    let old = c.self.inside.bytes.items in
    let new = c.overwrite.new.bytes.items in
    let front = c.split_at.result.0.now in
    let within : 1024 * c.args.n ≤ length old = search rules in
    let short : length front ≤ 1024 = search rules in
    let torn : Torn c.args.n c.args.page.now old new = torn_piece c.args.n c.bytes_written.result c.args.page.now front old within c.split_at.ensures.front short new c.overwrite.ensures.bytes in
    rw (← c.self.view_is) (record {
      held = torn;
      pages = search rules;
      finished = search rules;
      created = search rules;
      named = search rules;
      faults = search rules;
      cause = search rules;
    })
