-- A file that is written anew with narrow limits.
use Rattle.std.specs.Prelude.{◌≡◌, ℕ, ℤ, List, Option, Some, None, IfSome, slice_index_or}
use Rattle.std.proofs.Common.{refl, ap, subst, ◌∙◌, inl}
use Rattle.e57_base.proofs.Told.{told_both}
use Rattle.e57_base.specs.Fault.{open_as_run}
use Rattle.e57_base.specs.Source.{SourceView}
use Rattle.e57_base.specs.Target.{TargetView}
use Rattle.e57_base.specs.declared.fault.OpenFault.{OpenFault}
use Rattle.e57_base.specs.declared.fault.OpenFault.TheVariants as of_open
use Rattle.e57_elements.specs.Tree.{Element, preorder}
use Rattle.e57_elements.specs.declared.tree.RawNode.{RawNode}
use Rattle.e57_nodes.specs.Items.{stated_items}
use Rattle.e57_nodes.specs.Limits.{with_limits}
use Rattle.e57_nodes.specs.Places.{without_places}
use Rattle.e57_nodes.specs.Shape.{shape_of}
use Rattle.e57_verdict.specs.Things.{things_in}
use Rattle.e57_verdict.specs.Verdict.{IsVerdict, refused}
use Rattle.e57_plain.specs.Tight.{range_in, tight}
use Rattle.e57_check.specs.Checking.{HasSoundNodes}
use Rattle.e57_copy.specs.Rewriting.{Rewriting, RewritesNot}
use Rattle.e57_edits.specs.declared.limits.Range.{Range}
use Rattle.e57_edits.specs.Ranges.{limits_of, range_at, AreOrdered, AreSigned, IsOrdered, IsSigned}
use Rattle.e57_plain.proofs.Laws.Limits.{IsRange, AreRanges}
use Rattle.e57_copy.specs.Several.{bodies_in, content_in, content_with, AreSound}
use Rattle.e57_copy.proofs.OneTree.{one-tree}
use Rattle.e57_copy.proofs.Rewriting.{sound-things, sound-tree}
use Rattle.e57_repack.specs.Copying.{AreAlikeItems}
use Rattle.e57_repack.specs.Ranges.{AreLimits, FindsRanges, FindsNoRanges}
use Rattle.e57_repack.proofs.Limits.{alike-tree, limits-same, without-limits}
use Rattle.e57_repack.proofs.Rewriting.{IsChange}

-- the tree with these limits, without its places, is that of the narrow content
pub narrow-content : (file : List ℕ) (e : Element) (ranges : List (Option Range)) → ((n : ℕ) → range_at ranges n ≡ range_in (content_in file e) n)
    → content_with (with_limits (range_at ranges) 0 e) (bodies_in file (things_in e)) ≡ tight (content_in file e)
unfolding tight
narrow-content file e ranges same =
    ap (λ (t : Element). record { tree = t; bodies = bodies_in file (things_in e) })
    (without-limits (range_at ranges) e ∙ limits-same (range_at ranges) (range_in (content_in file e)) 0 (without_places e) same)

pub narrow-change : (count : ℕ) (old mid : SourceView) (nodes : List RawNode) (e : Element) (ranges : List (Option Range)) → nodes ≡ preorder e → IfSome old.held (λ file. HasSoundNodes file nodes) → FindsRanges e count old ranges mid
    → IfSome old.held (IsChange tight e (with_limits (range_at ranges) 0 e))
narrow-change count old mid nodes e ranges same has finds =
    told_both (λ file. HasSoundNodes file nodes) (λ file. AreSound (things_in e) file → (n : ℕ) → range_at ranges n ≡ range_in (content_in file e) n) (IsChange tight e (with_limits (range_at ranges) 0 e)) old.held
    (λ file is found.
    let sound = sound-tree file nodes e same is in
    record { sound = sound; made = narrow-content file e ranges (found (sound-things file e sound)) }) has finds.of_file

-- ranges that were not found
pub not-narrowed : {T : Type 0} (view : T → TargetView) (r : Rewriting) (count : ℕ) (old new : SourceView) (nodes : List RawNode) (e : Element) (target : T) (name : List ℕ) (fault : OpenFault) → nodes ≡ preorder e
    → IfSome old.held (λ file. HasSoundNodes file nodes) → FindsNoRanges e count old fault new → RewritesNot view r old new target name (open_as_run fault) target
not-narrowed view r count old new nodes e target name (of_open.Refused found) same has lost =
    inl (
      refl,
      told_both (λ file. HasSoundNodes file nodes) (λ file. AreSound (things_in e) file → ⊥) (λ file. IsVerdict file (refused found)) old.held
          (λ file is never. absurd (never (sound-things file e (sound-tree file nodes e same is)))) has lost.cause,
    )
not-narrowed view r count old new nodes e target name of_open.Source same has lost = (lost.cause, inl refl)
not-narrowed view r count old new nodes e target name of_open.Memory same has lost = inl refl

-- the entries are limits
entries-are : (ranges : List (Option Range)) → AreOrdered ranges → AreSigned ranges → AreRanges (range_at ranges)
entries-are ranges ordered signed n range found = by_entry (slice_index_or ranges n None) found (ordered n) (signed n) where
  by_entry : (entry : Option Range) → limits_of entry ≡ Some range → IsOrdered entry → IsSigned entry → IsRange range
  by_entry None found order fits = absurd (cc)
  by_entry (Some limits) found order fits =
      let same : (limits.low, limits.high) ≡ range = cc in
      subst (λ (r : ℤ × ℤ). IsRange r) same (record { order = order; low = fits.0; high = fits.1 })

-- the narrow tree's items are alike
pub alike-narrow : (nodes new : List RawNode) (ranges : List (Option Range)) (count : ℕ) (e d : Element) → AreLimits count ranges → nodes ≡ preorder e → new ≡ preorder (with_limits (range_at ranges) 0 e) → new ≡ preorder d
    → AreAlikeItems (stated_items (shape_of e)) (stated_items (shape_of d))
alike-narrow nodes new ranges count e d limits same made other =
    subst (λ (x : Element). AreAlikeItems (stated_items (shape_of e)) (stated_items (shape_of x))) (one-tree new (with_limits (range_at ranges) 0 e) d made other)
    (alike-tree (range_at ranges) e (entries-are ranges limits.ordered limits.signed))
