-- Each file has one verdict, and each accepted file one content.
use Rattle.std.specs.Prelude.{◌≡◌, ℕ, List, map, Option, Some, None}
use Rattle.std.proofs.Common.{refl, sym, ap, subst, ◌∙◌, inl, inr}
use Rattle.e57_base.specs.declared.fault.Fault.{Fault}
use Rattle.e57_elements.specs.Tree.{Element}
use Rattle.e57_elements.specs.Spells.{Spells}
use Rattle.e57_elements.specs.Fault.{IsFirstFault, HasAnswer, HasNotBoth}
use Rattle.e57_nodes.specs.Items.{stated_items}
use Rattle.e57_nodes.specs.Places.{without_places}
use Rattle.e57_nodes.specs.Shape.{shape_of}
use Rattle.e57_verdict.specs.Things.{Body, body_of, things_in}
use Rattle.e57_verdict.specs.Verdict.{fault_before_text, xml_text_of, HasTree, fault_behind_text, IsSoundFile, IsFileFault, Verdict, accepted, refused, accepted_with, IsVerdict}
use Rattle.e57_verdict.specs.Content.{Content, IsContent}

-- what is known of texts
pub record AreJudged : Type 0 where
  pub some : (text : List ℕ) → HasAnswer text
  pub tree : (text : List ℕ) (a b : Element) → Spells text a → Spells text b → a ≡ b
  pub fault : (text : List ℕ) (a b : Fault) → IsFirstFault text a → IsFirstFault text b → a ≡ b
  pub either : (text : List ℕ) → HasNotBoth text

-- ---- there is a verdict

some_behind : (file : List ℕ) (tree : Element) → HasTree file tree → (outcome : Option Fault) → fault_behind_text file tree ≡ outcome → (verdict : Verdict) × IsVerdict file verdict
some_behind file tree has None is = (accepted_with (stated_items (shape_of tree)), (tree, record { has_tree = has; sound = is }, refl))
some_behind file tree has (Some found) is = (refused found, inr (inr (tree, has, is)))

some_text : (file : List ℕ) → fault_before_text file ≡ None → HasAnswer (xml_text_of file) → (verdict : Verdict) × IsVerdict file verdict
some_text file none (inl (tree, spells, lawful)) =
    some_behind file tree (record { sound = none; spells = spells; is_lawful = lawful }) (fault_behind_text file tree) refl
some_text file none (inr (found, is)) = (refused found, inr (inl (none, is)))

some_before : AreJudged → (file : List ℕ) (outcome : Option Fault) → fault_before_text file ≡ outcome → (verdict : Verdict) × IsVerdict file verdict
some_before judged file None is = some_text file is (judged.some (xml_text_of file))
some_before judged file (Some found) is = (refused found, inl is)

pub some-verdict : AreJudged → (file : List ℕ) → (verdict : Verdict) × IsVerdict file verdict
some-verdict judged file = some_before judged file (fault_before_text file) refl

-- ---- there is one

pub same-tree : AreJudged → (file : List ℕ) (a b : Element) → HasTree file a → HasTree file b → a ≡ b
same-tree judged file a b f g = judged.tree (xml_text_of file) a b f.spells g.spells

-- a file without fault has none
pub sound-refused : AreJudged → (file : List ℕ) (tree : Element) (found : Fault) → IsSoundFile file tree → IsFileFault file found → ⊥
sound-refused judged file tree found sound (inl before) = let h : None ≡ Some found = sym sound.has_tree.sound ∙ before in cc
sound-refused judged file tree found sound (inr (inl text)) =
    judged.either (xml_text_of file) tree found sound.has_tree.spells sound.has_tree.is_lawful text.1
sound-refused judged file tree found sound (inr (inr (other, has, behind))) =
    let same = same-tree judged file tree other sound.has_tree has in
    let none = subst (λ e. fault_behind_text file e ≡ None) same sound.sound in
    let h : None ≡ Some found = sym none ∙ behind in cc

-- a first fault is before the text, of it, or behind it
text-behind : AreJudged → (file : List ℕ) (a : Fault) (tree : Element) → IsFirstFault (xml_text_of file) a → HasTree file tree → ⊥
text-behind judged file a tree text has = judged.either (xml_text_of file) tree a has.spells has.is_lawful text

some-none : (a : Fault) (x : Option Fault) → x ≡ Some a → x ≡ None → ⊥
some-none a x is none = let h : None ≡ Some a = sym none ∙ is in cc

pub one-fault : AreJudged → (file : List ℕ) (a b : Fault) → IsFileFault file a → IsFileFault file b → a ≡ b
one-fault judged file a b (inl f) (inl g) = let h : Some a ≡ Some b = sym f ∙ g in cc
one-fault judged file a b (inl f) (inr (inl g)) = absurd (some-none a (fault_before_text file) f g.0)
one-fault judged file a b (inl f) (inr (inr (tree, has, behind))) = absurd (some-none a (fault_before_text file) f has.sound)
one-fault judged file a b (inr (inl f)) (inl g) = absurd (some-none b (fault_before_text file) g f.0)
one-fault judged file a b (inr (inl f)) (inr (inl g)) = judged.fault (xml_text_of file) a b f.1 g.1
one-fault judged file a b (inr (inl f)) (inr (inr (tree, has, behind))) = absurd (text-behind judged file a tree f.1 has)
one-fault judged file a b (inr (inr (tree, has, behind))) (inl g) = absurd (some-none b (fault_before_text file) g has.sound)
one-fault judged file a b (inr (inr (tree, has, behind))) (inr (inl g)) = absurd (text-behind judged file b tree g.1 has)
one-fault judged file a b (inr (inr (tree, has, behind))) (inr (inr (other, has_too, behind_too))) =
    let same = same-tree judged file tree other has has_too in
    let first = subst (λ e. fault_behind_text file e ≡ Some a) same behind in
    let h : Some a ≡ Some b = sym first ∙ behind_too in cc

pub one-verdict : AreJudged → (file : List ℕ) (a b : Verdict) → IsVerdict file a → IsVerdict file b → a ≡ b
one-verdict judged file (accepted c d r) (accepted x y z) (tree, sound, is) (other, sound_too, is_too) =
    is ∙ ap (λ e. accepted_with (stated_items (shape_of e))) (same-tree judged file tree other sound.has_tree sound_too.has_tree) ∙ sym is_too
one-verdict judged file (accepted c d r) (refused found) (tree, sound, is) fails = absurd (sound-refused judged file tree found sound fails)
one-verdict judged file (refused found) (accepted c d r) fails (tree, sound, is) = absurd (sound-refused judged file tree found sound fails)
one-verdict judged file (refused found) (refused other) fails fails_too = ap refused (one-fault judged file found other fails fails_too)

-- ---- contents

pub some-content : (file : List ℕ) (clouds blobs records : ℕ) → IsVerdict file (accepted clouds blobs records) → (content : Content) × IsContent file content
some-content file clouds blobs records (tree, sound, is) = (
  record { tree = without_places tree; bodies = map (body_of file) (things_in tree) },
  record { tree = tree; is_sound = sound; same_tree = refl; same_bodies = refl },
)

pub content-accepted : (file : List ℕ) (content : Content) → IsContent file content → (clouds blobs records : ℕ) × IsVerdict file (accepted clouds blobs records)
content-accepted file content is = (_, _, _, (is.tree, is.is_sound, refl))

both : (a b : Content) → a.tree ≡ b.tree → a.bodies ≡ b.bodies → a ≡ b
both a b tree bodies =
    ap (λ (e : Element). record { tree = e; bodies = a.bodies }) tree ∙ ap (λ (held : List Body). record { tree = b.tree; bodies = held }) bodies

pub one-content : AreJudged → (file : List ℕ) (a b : Content) → IsContent file a → IsContent file b → a ≡ b
one-content judged file a b f g =
    let same = same-tree judged file f.tree g.tree f.is_sound.has_tree g.is_sound.has_tree in
    let tree : a.tree ≡ b.tree = f.same_tree ∙ ap without_places same ∙ sym g.same_tree in
    let bodies : a.bodies ≡ b.bodies = f.same_bodies ∙ ap (λ e. map (body_of file) (things_in e)) same ∙ sym g.same_bodies in
    both a b tree bodies
