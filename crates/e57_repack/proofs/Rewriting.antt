-- From the file that is written anew with another tree to what is asked for.
use Rattle.std.proofs.Common.{◌≡◌, ℕ, ◌≤◌, List, [], ◌∷◌, Option, Some, None, IfSome, refl, sym, ap, subst, ◌∙◌}
use Rattle.e57_base.proofs.CountLaws.{rose_before}
use Rattle.e57_base.proofs.Told.{told_map, told_both, told_here}
use Rattle.e57_base.specs.Source.{SourceView}
use Rattle.e57_elements.specs.Tree.{Element, preorder}
use Rattle.e57_elements.specs.declared.tree.RawNode.{RawNode}
use Rattle.e57_layout.specs.Values.{ItemKind, integers, words, strings}
use Rattle.e57_nodes.specs.Items.{StatedItem, stated_cloud, stated_blob, stated_items}
use Rattle.e57_nodes.specs.Places.{without_places}
use Rattle.e57_nodes.specs.Shape.{Shape, shape_of}
use Rattle.e57_verdict.specs.Content.{Content}
use Rattle.e57_verdict.specs.Things.{Body, things_in}
use Rattle.e57_verdict.specs.Verdict.{IsSoundFile}
use Rattle.e57_plain.specs.Valid.{AreBodies, IsValid, kinds_in}
use Rattle.e57_plain.specs.Written.{Fits}
use Rattle.e57_plain.proofs.Laws.Accepted.{content-valid}
use Rattle.e57_check.specs.Checking.{HasSoundNodes}
use Rattle.e57_copy.specs.Items.{IsAlike, AreAlike}
use Rattle.e57_copy.specs.Rewriting.{Rewriting, Gives}
use Rattle.e57_copy.specs.Several.{bodies_in, content_in, content_with, AreSound}
use Rattle.e57_copy.proofs.OneTree.{one-tree, IsGoodTree}
use Rattle.e57_copy.proofs.Rewriting.{is-content, sound-things, sound-tree, Serves}
use Rattle.e57_copy.proofs.Valid.{plain-tree}
use Rattle.e57_repack.specs.Anew.{copied, IsCopied}
use Rattle.e57_repack.specs.Copying.{AreAlikeItems}

-- ---- each item is alike itself

pub alike-kind : (kind : ItemKind) → IsAlike kind kind
alike-kind (integers low high) = tt
alike-kind (words w) = refl
alike-kind strings = refl

alike-kinds : (kinds : List ItemKind) → AreAlike kinds kinds
unfolding AreAlike
alike-kinds [] = tt
alike-kinds (kind ∷ kinds) = (alike-kind kind, alike-kinds kinds)

pub alike-self : (items : List StatedItem) → AreAlikeItems items items
alike-self [] = tt
alike-self (stated_cloud n count fields ∷ items) = ((refl, alike-kinds (kinds_in fields)), alike-self items)
alike-self (stated_blob n size ∷ items) = (refl, alike-self items)

pub alike-nodes : (nodes : List RawNode) (e d : Element) → nodes ≡ preorder e → nodes ≡ preorder d → AreAlikeItems (stated_items (shape_of e)) (stated_items (shape_of d))
alike-nodes nodes e d same other =
    subst (λ (x : Element). AreAlikeItems (stated_items (shape_of e)) (stated_items (shape_of x))) (one-tree nodes e d same other) (alike-self (stated_items (shape_of e)))

-- ---- a change of the file's content

-- what the tree d and these bodies make is the change of the file's content
pub record IsChange (change : Content → Content) (e d : Element) (file : List ℕ) : Type 0 where
  pub sound : IsSoundFile file e
  pub made : content_with d (bodies_in file (things_in e)) ≡ change (content_in file e)

abbrev pub changing : ℕ → (Content → Content) → Rewriting
changing n change = record { chunk = n; gives = λ old new. new ≡ change old; is_short = λ old why. ⊥ }

same-content : (content : Content) (d : Element) (bodies : List Body) → content.tree ≡ without_places d → content.bodies ≡ bodies → content ≡ content_with d bodies
same-content content d bodies tree held = ap (λ (t : Element). record { tree = t; bodies = content.bodies }) tree ∙ ap (λ (bs : List Body). record { tree = without_places d; bodies = bs }) held

module _ (n : ℕ) (change : Content → Content) (e d : Element) (good : IsGoodTree d) (keeps : (c : Content) → IsValid c → IsValid (change c)) where
  gives-content : (file : List ℕ) (content : Content) → IsChange change e d file → content ≡ content_with d (bodies_in file (things_in e)) → Gives (changing n change) file content
  gives-content file content is same = record { old = content_in file e; of_file = is-content file e is.sound; gives = same ∙ is.made }

  gives-copied : (held : Option (List ℕ)) (content : Content) → IfSome held (IsChange change e d) → IsCopied d (things_in e) held content → IfSome held (λ file. Gives (changing n change) file content)
  gives-copied held content known is =
      told_both (IsChange change e d) (λ file. AreSound (things_in e) file → content.bodies ≡ bodies_in file (things_in e)) (λ file. Gives (changing n change) file content) held
      (λ file one two. gives-content file content one (same-content content d (bodies_in file (things_in e)) is.same_tree (two (sound-things file e one.sound)))) known is.of_file

  -- all bodies are within the limits of the written tree
  are-bodies : (file : List ℕ) → IsChange change e d file → AreBodies (stated_items (shape_of d)) (bodies_in file (things_in e))
  are-bodies file is =
      let valid : IsValid (content_with d (bodies_in file (things_in e))) = subst (λ (c : Content). IsValid c) (sym is.made) (keeps (content_in file e) (content-valid file (content_in file e) (is-content file e is.sound))) in
      subst (λ (s : Shape). AreBodies (stated_items s) (bodies_in file (things_in e))) (plain-tree d good.is_lawful good.typed).same_shape valid.bodies

  untold : (held : Option (List ℕ)) → IfSome held (IsChange change e d) → IfSome held (λ file. AreSound (things_in e) file → AreBodies (stated_items (shape_of d)) (bodies_in file (things_in e)) → ⊥) → held ≡ None
  untold None known never = refl
  untold (Some file) known never = absurd (never (sound-things file e known.sound) (are-bodies file known))

  module _ (old mid new : SourceView) (here : mid.held ≡ old.held) (rises : old.faults ≤ mid.faults) (known : IfSome old.held (IsChange change e d)) where
    too-large : IfSome mid.held (λ file. AreSound (things_in e) file → AreBodies (stated_items (shape_of d)) (bodies_in file (things_in e)) → Fits n (content_with d (bodies_in file (things_in e))) → ⊥)
        → IfSome old.held (λ file. (content : Content) × Gives (changing n change) file content × (Fits n content → ⊥))
    too-large never =
        told_both (IsChange change e d) (λ file. AreSound (things_in e) file → AreBodies (stated_items (shape_of d)) (bodies_in file (things_in e)) → Fits n (content_with d (bodies_in file (things_in e))) → ⊥)
        (λ file. (content : Content) × Gives (changing n change) file content × (Fits n content → ⊥)) old.held
        (λ file one two. (content_with d (bodies_in file (things_in e)), gives-content file (content_with d (bodies_in file (things_in e))) one refl, two (sound-things file e one.sound) (are-bodies file one)))
        known (told_here (λ file. AreSound (things_in e) file → AreBodies (stated_items (shape_of d)) (bodies_in file (things_in e)) → Fits n (content_with d (bodies_in file (things_in e))) → ⊥) mid.held old.held (sym here) never)

    -- the file's content, changed, is what is written of it
    pub serves : Serves (changing n change) (copied n d (things_in e) mid new) old new
    serves = record {
      chunk = refl;
      gives = λ content is writable. gives-copied old.held content known (subst (λ (held : Option (List ℕ)). IsCopied d (things_in e) held content) here is);
      refused = λ never.
          untold old.held known (told_here (λ file. AreSound (things_in e) file → AreBodies (stated_items (shape_of d)) (bodies_in file (things_in e)) → ⊥) mid.held old.held (sym here) never);
      failed = λ rose. rose_before old.faults mid.faults new.faults rises rose;
      large = too-large;
    }

-- the accepted file, with its own tree
pub no-change : (old : SourceView) (nodes : List RawNode) (e : Element) → nodes ≡ preorder e → IfSome old.held (λ file. HasSoundNodes file nodes) → IfSome old.held (IsChange (λ c. c) e e)
no-change old nodes e same has =
    told_map (λ file. HasSoundNodes file nodes) (IsChange (λ c. c) e e) old.held (λ file is. record { sound = sound-tree file nodes e same is; made = refl }) has
