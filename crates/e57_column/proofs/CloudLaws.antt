-- A law: the items of a cloud's section are those of the cloud.
use Rattle.std.specs.Prelude.{◌≡◌, ℕ, List, Option, None}
use Rattle.std.proofs.Common.{refl, sym, subst}
use Rattle.e57_base.specs.declared.fault.Fault.{Fault}
use Rattle.e57_layout.specs.declared.section.Section.{Section}
use Rattle.e57_cloud.specs.Section.{section_fault}
use Rattle.e57_cloud.specs.Cloud.{Leaf, Cloud, fixed_of, section_of}
use Rattle.e57_cloud.specs.PathItem.{unless, item_of, path_item}

pub item_of-cloud : (file : List ℕ) (c : Cloud) (s : Section) (f : ℕ) (leaf : Leaf) (i : ℕ) → section_fault file c.node c.offset ≡ None → s ≡ section_of file c → item_of file s (fixed_of c) f leaf i ≡ path_item file c f leaf i
unfolding path_item
item_of-cloud file c s f leaf i sound same =
    subst (λ (o : Option Fault). item_of file s (fixed_of c) f leaf i ≡ unless o (item_of file (section_of file c) (fixed_of c) f leaf i)) (sym sound)
    (subst (λ (t : Section). item_of file s (fixed_of c) f leaf i ≡ item_of file t (fixed_of c) f leaf i) same refl)
