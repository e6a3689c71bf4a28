use Rattle.std.proofs.Common.{sym, ap, ◌∙◌}
use Rattle.e57_layout.specs.declared.packet.Entry.{Entry}
use Rattle.e57_index.proofs.Listed.{next-inner, next-last}
use Rattle.e57_index.proofs.entries.end_of.Goals as goal

pub returns-then-k-count : goal.returns-then-k-count
returns-then-k-count c = ap (λ (e : Entry). e.first) c.entry.ensures ∙ sym (next-inner c.args.entries.now c.args.bound c.args.count c.args.k c.if-k-count.true)

pub returns : goal.returns
returns c = sym (next-last c.args.entries.now c.args.bound c.args.count c.args.k c.if-k-count.false)
