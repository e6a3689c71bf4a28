-- The names of the children of a node, each with the number of the first child that has it.
use Rattle.std.specs.Prelude.{◌≡◌, ℕ, List, Option, Some, None, if◌then◌else◌}
use Rattle.std.specs.Option.{option_or}
use Rattle.std.specs.Str.{bytes_eq}
use Rattle.std.specs.Ordering.{nat_cmp}
use Rattle.std.specs.Cmp.Lexicographic.{slice_cmp}
use Rattle.std.specs.BTreeMap.{get_by}
use Rattle.e57_tree.specs.declared.names.Names.{Names}

-- the number of a name
abbrev pub number_of : Names → List ℕ → Option ℕ
number_of names name = get_by (λ k. slice_cmp nat_cmp name k.now) names.numbers

-- The name has this number if it had none; each other name stays as it was.
abbrev pub Notes : Names → Names → List ℕ → ℕ → Type 0
Notes old new name number = (q : List ℕ) → number_of new q ≡ option_or (number_of old q) (if bytes_eq name q then Some number else None)
