-- How many bytes of a packet are needed.
use Rattle.std.specs.Prelude.{◌≤◌}
use Rattle.std.proofs.Common.{arith}
use Rattle.e57_section.specs.declared.load.Loaded.{Loaded}
use Rattle.e57_section.specs.declared.load.Loaded.TheVariants.{Stream, Index, Empty}
use Rattle.e57_section.specs.Loading.{loaded_length, needed_by}

pub needed-most : (answer : Loaded) → 4 ≤ loaded_length answer → (4 ≤ needed_by answer) × (needed_by answer ≤ loaded_length answer)
needed-most (Stream n restart) some = (some, omega arith)
needed-most (Index n) some = (omega arith, some)
needed-most (Empty n) some = (omega arith, some)
