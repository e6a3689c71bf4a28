-- The fields of a cloud of a tree, looked up by their names.
use Rattle.std.specs.Prelude.{◌≡◌, ℕ, ◌<◌, List, length, slice_get, Option, Some, None, Err}
use Rattle.e57_base.specs.declared.fault.AskFault.TheVariants as ask
use Rattle.e57_base.specs.declared.fault.RunFault.{RunFault}
use Rattle.e57_base.specs.declared.fault.RunFault.TheVariants.{Refused, Source, Out, Memory, Ask}
use Rattle.e57_layout.specs.declared.field.Field.{Field}
use Rattle.e57_elements.specs.declared.tree.RawNode.{RawNode}
use Rattle.e57_elements.specs.Tree.{Element, preorder}
use Rattle.e57_elements.specs.Lawful.{AreNodes}
use Rattle.e57_tree.specs.Held.{clouds_of, cloud_fields}
use Rattle.e57_select.specs.Asking.{numbers_from}

-- the tree with these nodes has a cloud k with these fields
pub record HasFields (nodes : List RawNode) (k : ℕ) (fields : List Field) : Type 0 where
  pub are_nodes : AreNodes nodes
  pub there : (e : Element) → nodes ≡ preorder e → k < length (clouds_of e)
  pub has : (e : Element) → nodes ≡ preorder e → slice_get (cloud_fields e) k ≡ Some fields

-- why not all fields with these names were found: one that isn't there, by its number in the list, or memory ran out
abbrev pub LacksName : List Field → List (List ℕ) → RunFault → Type 0
LacksName fields names (Refused found) = ⊥
LacksName fields names Source = ⊥
LacksName fields names Out = ⊥
LacksName fields names Memory = Unit {0}
LacksName fields names (Ask why) = (j : ℕ) × (j < length names) × (why ≡ ask.Field j (length fields)) × (numbers_from fields 0 names ≡ Err j)

abbrev pub LacksField : Option (List (List ℕ)) → List Field → RunFault → Type 0
LacksField None fields fault = fault ≡ Memory
LacksField (Some names) fields fault = LacksName fields names fault
