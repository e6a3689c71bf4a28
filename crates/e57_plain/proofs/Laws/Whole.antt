-- The written form of a valid content is accepted, and has just that content.
use Rattle.std.specs.Prelude.{◌≡◌, ℕ, ◌+◌, ◌*◌, ◌^◌, ◌<◌, ◌≤◌, List, length, map, decimal, None}
use Rattle.std.specs.List.{AllByRecursion}
use Rattle.std.proofs.Common.{refl, sym, ap, subst, ◌∙◌, arith}
use Rattle.std.proofs.lemmas.List.{length-map}
use Rattle.e57_elements.specs.Tree.{Element}
use Rattle.e57_elements.specs.Lawful.{IsLawful}
use Rattle.e57_elements.specs.Spells.{Spells}
use Rattle.e57_elements.specs.Spelling.{spelling}
use Rattle.e57_nodes.specs.Shape.{shape_of, node_count}
use Rattle.e57_nodes.specs.Typed.{typed_fault}
use Rattle.e57_nodes.specs.Items.{stated_items}
use Rattle.e57_nodes.specs.Places.{places_in, with_places, without_places}
use Rattle.e57_nodes.proofs.Laws.Places.{AreTexts-decimals, AreReadable-decimals, IsLawful-with_places, shape_of-with_places, places_in-with_places, without_places-with_places}
use Rattle.e57_nodes.proofs.Laws.Sound.{sound_items}
use Rattle.e57_nodes.proofs.Laws.Stated.{ArePlaced-typed, length-stated_items}
use Rattle.e57_verdict.specs.Things.{things_at, things_in, body_of}
use Rattle.e57_verdict.specs.Verdict.{xml_text_of, fault_before_text, fault_behind_text, IsSoundFile, accepted_with, IsVerdict}
use Rattle.e57_verdict.specs.Content.{Content, IsContent}
use Rattle.e57_verdict.proofs.Laws.Verdicts.{AreJudged, one-content}
use Rattle.e57_plain.specs.Valid.{IsValid, items_in}
use Rattle.e57_plain.specs.Written.{page_count, xml_page, finished, sections_of, offsets_of, written_tree, written_text, plain, Fits, IsWritable}
use Rattle.e57_plain.proofs.Laws.Pages.{AreWhole, IsWithin, length-finished, finished-right, finished-sections, finished-sound, finished-text_of}
use Rattle.e57_plain.proofs.Laws.Sections.{IsGood, AreHeld, length-sections, sections-held, length-offsets, offsets-small}

-- the offsets fit into 64 bits
abbrev pub AreSmall : List ℕ → Type 0
AreSmall offsets = AllByRecursion (λ k. k < 2 ^ 64) offsets

-- ---- the tree

-- The tree with offsets: it is lawful, its nodes have no fault, and it states the same items with these offsets.
pub record IsPlacedTree (tree placed : Element) (offsets : List ℕ) : Type 0 where
  pub is_lawful : IsLawful placed
  pub same_shape : shape_of placed ≡ shape_of tree
  pub places : places_in placed ≡ offsets
  pub without : without_places placed ≡ without_places tree

pub placed-tree : (tree : Element) (offsets : List ℕ) → IsLawful tree → typed_fault (shape_of tree) ≡ None → AreSmall offsets → length offsets ≡ length (stated_items (shape_of tree))
    → IsPlacedTree tree (with_places (map decimal offsets) tree) offsets
placed-tree tree offsets lawful typed small many =
    let readable = ArePlaced-typed tree typed in
    let count : length offsets ≡ length (places_in tree) = many ∙ length-stated_items tree in
    let texts : length (map decimal offsets) ≡ length offsets = length-map offsets decimal in
    record {
      is_lawful = IsLawful-with_places (map decimal offsets) tree (AreTexts-decimals offsets small) lawful;
      same_shape = shape_of-with_places (map decimal offsets) tree (omega arith) (AreReadable-decimals offsets small) readable;
      places = places_in-with_places offsets tree count small readable;
      without = without_places-with_places (map decimal offsets) tree;
    }

-- ---- the whole

-- what is known of the written form
record IsRead (n : ℕ) (content : Content) : Type 0 where
  whole : AreWhole (sections_of n content)
  within : IsWithin (sections_of n content) (written_text n content)
  placed : IsPlacedTree content.tree (written_tree n content) (offsets_of n content)
  held : AreHeld (plain n content) (things_at (items_in content) (offsets_of n content)) content.bodies

pub plain-is : (n : ℕ) (content : Content) → plain n content ≡ finished (sections_of n content) (written_text n content)
unfolding plain
plain-is n content = refl

sections-near : (n : ℕ) (content : Content) → AreWhole (sections_of n content) → length (finished (sections_of n content) (written_text n content)) ≤ 2 ^ 48 → 1020 * 1 + length (sections_of n content) ≤ 2 ^ 60
unfolding page_count xml_page
sections-near n content whole small =
    let all : length (finished (sections_of n content) (written_text n content)) ≡ 1024 * page_count (sections_of n content) (written_text n content) = length-finished (sections_of n content) (written_text n content) whole in
    omega arith

plain-read : (n : ℕ) (content : Content) → 0 < n → IsValid content → Fits n content → IsRead n content
unfolding written_tree
plain-read n content some valid fits =
    let sections = sections_of n content in
    let text = written_text n content in
    let whole : AreWhole sections = length-sections n 1 (items_in content) content.bodies in
    let small : length (finished sections text) ≤ 2 ^ 48 = subst (λ (file : List ℕ). length file ≤ 2 ^ 48) (plain-is n content) fits.file in
    let near = sections-near n content whole small in
    let good : IsGood (finished sections text) n = record { right = finished-right sections text whole; near = omega arith; chunk = some } in
    record {
      whole = whole;
      within = record { text_fits = fits.text; file_fits = small };
      placed = placed-tree content.tree (offsets_of n content) valid.is_lawful valid.typed (offsets-small n 1 (items_in content) content.bodies near) (length-offsets n 1 (items_in content) content.bodies valid.bodies);
      held =
          subst (λ (file : List ℕ). AreHeld file (things_at (items_in content) (offsets_of n content)) content.bodies) (sym (plain-is n content))
          (sections-held (finished sections text) n 1 (node_count (shape_of content.tree)) (items_in content) content.bodies good (sound_items content.tree valid.typed) valid.bodies (finished-sections sections text whole));
    }

things-are : (n : ℕ) (content : Content) → IsRead n content → things_in (written_tree n content) ≡ things_at (items_in content) (offsets_of n content)
things-are n content is = ap (λ s. things_at (stated_items s) (places_in (written_tree n content))) is.placed.same_shape ∙ ap (things_at (items_in content)) is.placed.places

text-is : (n : ℕ) (content : Content) → written_text n content ≡ spelling (written_tree n content)
unfolding written_text
text-is n content = refl

-- spellings of lawful trees spell them
abbrev pub AreSpelled : Type 0
AreSpelled = (e : Element) → IsLawful e → Spells (spelling e) e

read-sound : AreSpelled → (n : ℕ) (content : Content) → IsValid content → IsRead n content → IsSoundFile (plain n content) (written_tree n content)
unfolding fault_behind_text
read-sound spelled n content valid is =
    let text = ap xml_text_of (plain-is n content) ∙ finished-text_of (sections_of n content) (written_text n content) is.whole is.within ∙ text-is n content in
    let typed : typed_fault (shape_of (written_tree n content)) ≡ None = ap typed_fault is.placed.same_shape ∙ valid.typed in
    record {
      has_tree = record {
        sound = subst (λ (file : List ℕ). fault_before_text file ≡ None) (sym (plain-is n content)) (finished-sound (sections_of n content) (written_text n content) is.whole is.within);
        spells = subst (λ (t : List ℕ). Spells t (written_tree n content)) (sym text) (spelled (written_tree n content) is.placed.is_lawful);
        is_lawful = is.placed.is_lawful;
      };
      sound = rw (typed, things-are n content is, is.held.sound) refl;
    }

pub plain-content : AreSpelled → (n : ℕ) (content : Content) → IsWritable n content → IsContent (plain n content) content
plain-content spelled n content can =
    let valid = can.valid in
    let is = plain-read n content can.chunk valid can.fits in
    record {
      tree = written_tree n content;
      is_sound = read-sound spelled n content valid is;
      same_tree = sym valid.no_places ∙ sym is.placed.without;
      same_bodies = sym is.held.same ∙ ap (map (body_of (plain n content))) (sym (things-are n content is));
    }

pub plain-accepted : AreSpelled → (n : ℕ) (content : Content) → IsWritable n content → IsVerdict (plain n content) (accepted_with (items_in content))
plain-accepted spelled n content can =
    let is = plain-read n content can.chunk can.valid can.fits in
    (written_tree n content, read-sound spelled n content can.valid is, ap (λ s. accepted_with (stated_items s)) (sym is.placed.same_shape))

-- ---- the written form determines the content

pub plain-determines : AreSpelled → AreJudged → (n m : ℕ) (a b : Content) → IsWritable n a → IsWritable m b → plain n a ≡ plain m b → a ≡ b
plain-determines spelled judged n m a b f g same =
    one-content judged (plain m b) a b (subst (λ (file : List ℕ). IsContent file a) same (plain-content spelled n a f)) (plain-content spelled m b g)
