-- A cloud of a tree that is read, put as that of a tree that is written.
use Rattle.std.proofs.Common.{◌≡◌, ℕ, List, [], slice_get, Some, Result, Ok, Err, sym, subst, ap, ◌∙◌}
use Rattle.std.specs.Prelude.{MatchResult}
use Rattle.std.proofs.lemmas.Option.{get_or_from_slice_get}
use Rattle.e57_base.specs.Source.{SourceView}
use Rattle.e57_base.specs.Target.{TargetView}
use Rattle.e57_base.specs.declared.fault.RunFault.{RunFault}
use Rattle.e57_layout.specs.Values.{ItemKind}
use Rattle.e57_layout.specs.declared.field.Field.{Field}
use Rattle.e57_page_out.specs.Writing.{Writing}
use Rattle.e57_elements.specs.Tree.{Element}
use Rattle.e57_nodes.specs.Items.{StatedItem, stated_cloud}
use Rattle.e57_tree.specs.Held.{cloud_fields, cloud_in, fields_in}
use Rattle.e57_tree.specs.declared.items.Cloud.{Cloud as StatedCloud}
use Rattle.e57_tree.specs.declared.items.Item.TheVariants as item
use Rattle.e57_verdict.specs.Things.{Thing}
use Rattle.e57_chunk_out.specs.CloudCalls.{kinds_in}
use Rattle.e57_check.specs.Checking.{thing_in}
use Rattle.e57_copy.specs.Items.{stated_in, AreAlike, IsAlikeItem, LosesItem}
use Rattle.e57_copy.specs.Sections.{thing_of, CopiesBody, CopiesCloud, LosesCloud}
use Rattle.e57_copy.proofs.Clouds.{same_kinds}

pub fields_there : (e : Element) (k : ℕ) (fields : List Field) → slice_get (cloud_fields e) k ≡ Some fields → fields_in e k ≡ fields
fields_there e k fields is = get_or_from_slice_get (cloud_fields e) k fields [] is

module _ (e d : Element) (k : ℕ) (fields others : List Field) (at_fields : fields_in e k ≡ fields) (at_others : fields_in d k ≡ others) (alike : IsAlikeItem (stated_in e (item.Cloud k)) (stated_in d (item.Cloud k))) where
  pub fields_alike : AreAlike (kinds_in fields) (kinds_in others)
  fields_alike =
      subst (λ (ks : List ItemKind). AreAlike ks (kinds_in others)) (sym (same_kinds (fields_in e k)) ∙ ap kinds_in at_fields)
      (subst (λ (ks : List ItemKind). AreAlike (Rattle.e57_plain.specs.Valid.kinds_in (fields_in e k)) ks) (sym (same_kinds (fields_in d k)) ∙ ap kinds_in at_others) alike.1)

  module _ (cloud : StatedCloud) (at_cloud : cloud ≡ cloud_in e k) where
    abbrev node : ℕ
    node = (cloud_in d k).node

    stated_same : stated_cloud node cloud.count others ≡ stated_in d (item.Cloud k)
    stated_same =
        let count : cloud.count ≡ (cloud_in d k).count = ap (λ (x : StatedCloud). x.count) at_cloud ∙ alike.0 in
        ap (λ m. stated_cloud node m others) count ∙ ap (λ (fs : List Field). stated_cloud node (cloud_in d k).count fs) (sym at_others)

    thing_same : thing_of cloud fields ≡ thing_in e (item.Cloud k)
    thing_same = ap (λ (x : StatedCloud). thing_of x fields) at_cloud ∙ ap (λ (fs : List Field). thing_of (cloud_in e k) fs) (sym at_fields)

    pub of_trees : {T : Type 0} (view : T → TargetView) (n count : ℕ) (old new : SourceView) (out out' : Writing T) (result : Result ℕ RunFault)
        → MatchResult result (λ offset. CopiesCloud view n cloud fields others count old new out offset out') (λ fault. LosesCloud view n cloud fields others count old new out fault out')
        → MatchResult result (λ offset. CopiesBody view n (stated_in d (item.Cloud k)) (thing_in e (item.Cloud k)) count old new out offset out') (λ fault. LosesItem view n (stated_in d (item.Cloud k)) (thing_in e (item.Cloud k)) count old new out fault out')
    of_trees view n count old new out out' (Ok offset) copies =
        subst (λ (x : StatedItem). CopiesBody view n x (thing_in e (item.Cloud k)) count old new out offset out') stated_same
        (subst (λ (x : Thing). CopiesBody view n (stated_cloud node cloud.count others) x count old new out offset out') thing_same (copies node))
    of_trees view n count old new out out' (Err fault) loses =
        subst (λ (x : StatedItem). LosesItem view n x (thing_in e (item.Cloud k)) count old new out fault out') stated_same
        (subst (λ (x : Thing). LosesItem view n (stated_cloud node cloud.count others) x count old new out fault out') thing_same (loses node))
