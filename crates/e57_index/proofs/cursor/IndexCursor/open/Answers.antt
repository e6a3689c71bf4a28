use Rattle.std.proofs.Common.{rules}
use Rattle.std.proofs.lemmas.Bool.{ne_eqb}
use Rattle.e57_index.proofs.cursor.IndexCursor.open.Goals as goal

pub invariant_of-result : goal.invariant_of-result
invariant_of-result c = record { room = search rules; indexed = ne_eqb c.args.section.now.index 0 c.requires; sound = tt }
