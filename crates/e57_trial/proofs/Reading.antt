-- An accepted file in memory whose only cloud is read.
use Rattle.std.proofs.Common.{◌≡◌, ℕ, List, None, ap, ◌∙◌}
use Rattle.std.specs.Prelude.{IfSome}
use Rattle.e57_base.specs.BytesSource.{BytesState, bytes_view}
use Rattle.e57_base.specs.Fault.{open_as_run}
use Rattle.e57_base.specs.Source.{SameFile}
use Rattle.e57_base.specs.declared.fault.OpenFault.{OpenFault}
use Rattle.e57_base.proofs.Told.{told_is}
use Rattle.e57_layout.specs.Values.{Value}
use Rattle.e57_cloud.specs.Cloud.{cloud_fault, records_of}
use Rattle.e57_elements.specs.Tree.{Element, preorder}
use Rattle.e57_elements.specs.declared.tree.RawNode.{RawNode}
use Rattle.e57_check.specs.Checking.{HasSoundNodes, IsCloud}
use Rattle.e57_trial.specs.Accepted.{HasColumns, HasOpen, IsWant}
use Rattle.e57_trial.specs.Summing.{first_cloud, first_sum, SumsCloud, SumsNoCloud}
use Rattle.e57_trial.proofs.OneCloud.{only-cloud, IsOneContent, IsOnly}
use Rattle.e57_trial.proofs.Opening.{still-open, told-open, want-of-sum}

module _ (one : IsOneContent) (file : List ℕ) (old mid : BytesState) (nodes : List RawNode) (columns : List (List Value)) (has : HasOpen file old) (same : SameFile (bytes_view old) (bytes_view mid)) (judged : IfSome (bytes_view old).held (λ f. HasSoundNodes f nodes)) (is : HasColumns file columns) where
  sound : HasSoundNodes file nodes
  sound = told_is (λ f. HasSoundNodes f nodes) (bytes_view old).held file (told-open old file has) judged

  only : (e : Element) → nodes ≡ preorder e → IsOnly file e columns
  only e spelled = only-cloud one file nodes e columns sound spelled is

  pub cloud-there : (e : Element) → nodes ≡ preorder e → IsCloud e 0
  cloud-there e spelled = (only e spelled).is_cloud

  has-mid : HasOpen file mid
  has-mid = still-open old mid file has same

  pub total-is : (count total : ℕ) (new : BytesState) → ((e : Element) → nodes ≡ preorder e → SumsCloud (first_cloud e) count (bytes_view mid) total (bytes_view new)) → total ≡ first_sum columns
  total-is count total new sums =
      let e = sound.tree in
      let here = only e sound.in_preorder in
      told_is (λ f. cloud_fault f (first_cloud e) ≡ None → total ≡ first_sum (records_of f (first_cloud e))) (bytes_view mid).held file (told-open mid file has-mid) (sums e sound.in_preorder).sum here.free
      ∙ ap first_sum here.records

  pub want-is : (count : ℕ) (fault : OpenFault) (new : BytesState) → ((e : Element) → nodes ≡ preorder e → SumsNoCloud (first_cloud e) count (bytes_view mid) fault (bytes_view new)) → IsWant (open_as_run fault)
  want-is count fault new lost =
      let e = sound.tree in
      want-of-sum file (first_cloud e) mid new fault has-mid (only e sound.in_preorder).free (lost e sound.in_preorder).cause
