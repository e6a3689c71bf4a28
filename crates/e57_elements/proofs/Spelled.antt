-- The written spelling of a lawful tree spells it.
use Rattle.std.proofs.Common.{◌≡◌, ℕ, ◌+◌, ◌<◌, Bool, true, false, cond, eqb, inl, inr, List, [], ◌∷◌, ◌++◌, length, codes, refl, sym, ap, subst, ◌∙◌, append_assoc, length-append, arith}
use Rattle.std.proofs.lemmas.List.{append-nil}
use Rattle.std.specs.List.{AllByRecursion}
use Rattle.e57_pieces.specs.declared.piece.Attr.{Attr}
use Rattle.e57_pieces.specs.declared.piece.Piece.{Piece}
use Rattle.e57_pieces.specs.declared.piece.Piece.TheVariants.{Start, Empty, End, Comment, CData, Text}
use Rattle.e57_pieces.specs.Characters.{is_character, AreCharacters}
use Rattle.e57_pieces.specs.Words.{is_space, begins_name, goes_on_name, is_plain, IsName}
use Rattle.e57_pieces.specs.Grammar.{IsAttr, AreAttrs, differ, IsInside, IsTag, Spelled}
use Rattle.e57_pieces.specs.Cut.{NoPiece, NoRun, IsNext, IsFront}
use Rattle.e57_pieces.specs.Start.{strip, IsDeclaration, Begins}
use Rattle.e57_pieces.proofs.Laws.Characters.{AreCharacters-append, AreCharacters-nil, IsUtf8-AreCharacters}
use Rattle.e57_pieces.proofs.Laws.References.{NoPart, no_reference}
use Rattle.e57_pieces.proofs.Laws.Markup.{run_begins}
use Rattle.e57_pieces.proofs.Laws.Cut.{IsFront-append}
use Rattle.e57_elements.specs.declared.tree.RawNode.{RawNode}
use Rattle.e57_elements.specs.Tree.{Element, element, Elements, none, more, preorder, preorder_all}
use Rattle.e57_elements.specs.Nested.{only_space, AreTexts, kept, IsElement, IsContent}
use Rattle.e57_elements.specs.Lawful.{IsLawfulAttr, IsLawfulNode, IsLawful}
use Rattle.e57_elements.specs.Spelling.{text_byte, value_byte, written, attrs_spelling, is_bare, element_spelling, elements_spelling, spelling}
use Rattle.e57_elements.specs.Spells.{Spells}
use Rattle.e57_elements.proofs.Lists.{all-parts}
use Rattle.e57_elements.proofs.Elements.{length-preorder, size_some}
use Rattle.e57_elements.proofs.Escapes.{text_means, value_means, low_characters, are_low, text_characters, value_characters}

-- ---- attributes

attr_spelling : Attr → List ℕ
attr_spelling attr = 32 ∷ (attr.name ++ (61 ∷ 34 ∷ (written value_byte attr.value ++ (34 ∷ []))))

is_attr : (attr : Attr) → IsLawfulAttr attr → IsAttr (attr_spelling attr) attr
unfolding attr_spelling is_space
is_attr attr h = record {
  before = 32 ∷ [];
  left = [];
  right = [];
  quote = 34;
  value = written value_byte attr.value;
  some_space = omega arith;
  spaces = ((refl, tt), tt, tt);
  name = h.is_name;
  quotes = inl refl;
  means = value_means attr.value;
  spelled = refl;
}

attr_characters : (attr : Attr) → IsLawfulAttr attr → AreCharacters (attr_spelling attr)
unfolding attr_spelling are_low is_character
attr_characters attr h =
    AreCharacters-append (32 ∷ []) (attr.name ++ (61 ∷ 34 ∷ (written value_byte attr.value ++ (34 ∷ [])))) (low_characters (32 ∷ []) refl)
    (AreCharacters-append attr.name (61 ∷ 34 ∷ (written value_byte attr.value ++ (34 ∷ []))) h.name
    (AreCharacters-append (61 ∷ 34 ∷ []) (written value_byte attr.value ++ (34 ∷ [])) (low_characters (61 ∷ 34 ∷ []) refl)
    (AreCharacters-append (written value_byte attr.value) (34 ∷ []) (value_characters attr.value h.value) (low_characters (34 ∷ []) refl))))

one_more : (attr : Attr) (attrs : List Attr) → attrs_spelling (attr ∷ attrs) ≡ attr_spelling attr ++ attrs_spelling attrs
unfolding attr_spelling
one_more attr attrs =
    let v = written value_byte attr.value in
    ap (λ t. 32 ∷ t)
    (ap (λ t. attr.name ++ (61 ∷ 34 ∷ t)) (sym (append_assoc v (34 ∷ []) (attrs_spelling attrs)))
    ∙ sym (append_assoc attr.name (61 ∷ 34 ∷ (v ++ (34 ∷ []))) (attrs_spelling attrs)))

are_attrs : (attrs : List Attr) → AllByRecursion IsLawfulAttr attrs → AreAttrs (attrs_spelling attrs) attrs
are_attrs [] h = refl
are_attrs (attr ∷ attrs) h = (attr_spelling attr, attrs_spelling attrs, one_more attr attrs, is_attr attr h.0, are_attrs attrs h.1)

attrs_characters : (attrs : List Attr) → AllByRecursion IsLawfulAttr attrs → AreCharacters (attrs_spelling attrs)
attrs_characters [] h = AreCharacters-nil
attrs_characters (attr ∷ attrs) h =
    subst (λ t. AreCharacters t) (sym (one_more attr attrs)) (AreCharacters-append (attr_spelling attr) (attrs_spelling attrs) (attr_characters attr h.0) (attrs_characters attrs h.1))

is_inside : (attrs : List Attr) (close : List ℕ) → AllByRecursion IsLawfulAttr attrs → differ attrs ≡ true → IsInside (attrs_spelling attrs ++ close) attrs close
is_inside attrs close h e = record { front = attrs_spelling attrs; space = []; attributes = are_attrs attrs h; names_differ = e; white = tt; spelled = refl }

-- ---- pieces

tag_characters : (name : List ℕ) (attrs : List Attr) (close : List ℕ) → AreCharacters name → AllByRecursion IsLawfulAttr attrs → AreCharacters close → AreCharacters (60 ∷ (name ++ (attrs_spelling attrs ++ close)))
unfolding are_low is_character
tag_characters name attrs close h each last =
    AreCharacters-append (60 ∷ []) (name ++ (attrs_spelling attrs ++ close)) (low_characters (60 ∷ []) refl)
    (AreCharacters-append name (attrs_spelling attrs ++ close) h (AreCharacters-append (attrs_spelling attrs) close (attrs_characters attrs each) last))

is_tag : (node : RawNode) (close : List ℕ) → IsLawfulNode node → IsTag (60 ∷ (node.name ++ (attrs_spelling node.attrs ++ close))) node.name node.attrs close
is_tag node close h = record { inside = attrs_spelling node.attrs ++ close; is_name = h.is_name; is_inside = is_inside node.attrs close h.each h.names_differ; spelled = refl }

start_next : (node : RawNode) (rest : List ℕ) → IsLawfulNode node → IsNext (60 ∷ (node.name ++ (attrs_spelling node.attrs ++ (62 ∷ rest)))) (Start node.name node.attrs) rest
unfolding are_low is_character
start_next node rest h = record {
  spelling = 60 ∷ (node.name ++ (attrs_spelling node.attrs ++ (62 ∷ [])));
  is_piece = record { characters = tag_characters node.name node.attrs (62 ∷ []) h.name h.each (low_characters (62 ∷ []) refl); spelled = is_tag node (62 ∷ []) h };
  is_whole = tt;
  parts = sym (ap (λ t. 60 ∷ t) (append_assoc node.name (attrs_spelling node.attrs ++ (62 ∷ [])) rest ∙ ap (λ t. node.name ++ t) (append_assoc (attrs_spelling node.attrs) (62 ∷ []) rest)));
}

empty_next : (node : RawNode) (rest : List ℕ) → IsLawfulNode node → IsNext (60 ∷ (node.name ++ (attrs_spelling node.attrs ++ (47 ∷ 62 ∷ rest)))) (Empty node.name node.attrs) rest
unfolding are_low is_character
empty_next node rest h = record {
  spelling = 60 ∷ (node.name ++ (attrs_spelling node.attrs ++ (47 ∷ 62 ∷ [])));
  is_piece = record { characters = tag_characters node.name node.attrs (47 ∷ 62 ∷ []) h.name h.each (low_characters (47 ∷ 62 ∷ []) refl); spelled = is_tag node (47 ∷ 62 ∷ []) h };
  is_whole = tt;
  parts = sym (ap (λ t. 60 ∷ t) (append_assoc node.name (attrs_spelling node.attrs ++ (47 ∷ 62 ∷ [])) rest ∙ ap (λ t. node.name ++ t) (append_assoc (attrs_spelling node.attrs) (47 ∷ 62 ∷ []) rest)));
}

end_next : (name rest : List ℕ) → IsName name → AreCharacters name → IsNext (60 ∷ 47 ∷ (name ++ (62 ∷ rest))) (End name) rest
unfolding are_low is_character
end_next name rest is_name are = record {
  spelling = 60 ∷ 47 ∷ (name ++ (62 ∷ []));
  is_piece = record {
    characters = AreCharacters-append (60 ∷ 47 ∷ []) (name ++ (62 ∷ [])) (low_characters (60 ∷ 47 ∷ []) refl) (AreCharacters-append name (62 ∷ []) are (low_characters (62 ∷ []) refl));
    spelled = record { space = []; is_name = is_name; white = tt; spelled = refl };
  };
  is_whole = tt;
  parts = sym (ap (λ t. 60 ∷ 47 ∷ t) (append_assoc name (62 ∷ []) rest));
}

-- no text run goes on at a tag
no_run : (rest : List ℕ) → NoRun (60 ∷ rest)
unfolding is_plain
no_run rest s others text e is =
    run_begins s text others is.spelled (subst (λ t. NoPart (is_plain 60) t) e (record { stops = refl; none = no_reference (60 ∷ rest) refl }))

abbrev text_pieces : List ℕ → List Piece
text_pieces [] = []
text_pieces (b ∷ bs) = Text (b ∷ bs) ∷ []

-- a byte is written as one at least
some_case : (b : ℕ) (p q r s : Bool) → 0 < length (cond p (codes "&amp;") (cond q (codes "&lt;") (cond r (codes "&gt;") (cond s (codes "&#13;") (b ∷ [])))))
some_case b true q r s = omega arith
some_case b false true r s = omega arith
some_case b false false true s = omega arith
some_case b false false false true = omega arith
some_case b false false false false = omega arith

byte_some : (b : ℕ) → 0 < length (text_byte b)
unfolding text_byte
byte_some b = some_case b (eqb b 38) (eqb b 60) (eqb b 62) (eqb b 13)

written_some : (b : ℕ) (bs : List ℕ) → 0 < length (written text_byte (b ∷ bs))
written_some b bs = let l = length-append (text_byte b) (written text_byte bs) in let s = byte_some b in omega arith

text_front : (text rest : List ℕ) → AreCharacters text → IsFront (written text_byte text ++ (60 ∷ rest)) (text_pieces text) (60 ∷ rest)
text_front [] rest are = refl
text_front (b ∷ bs) rest are = (
  60 ∷ rest,
  record {
    spelling = written text_byte (b ∷ bs);
    is_piece = record { characters = text_characters (b ∷ bs) are; spelled = record { some = written_some b bs; means = text_means (b ∷ bs) } };
    is_whole = no_run rest;
    parts = refl;
  },
  refl,
)

-- ---- elements

abbrev mutual
  element_pieces : Element → List Piece
  element_pieces (element name attrs text children) =
      cond (is_bare text children) (Empty name attrs ∷ []) (Start name attrs ∷ ((text_pieces text ++ elements_pieces children) ++ End name ∷ []))

  elements_pieces : Elements → List Piece
  elements_pieces none = []
  elements_pieces (more e es) = element_pieces e ++ elements_pieces es

abbrev AllLawful : List RawNode → Type 0
AllLawful nodes = AllByRecursion IsLawfulNode nodes

-- after a text stands a tag
tag_after : (children : Elements) (name rest : List ℕ) → (others : List ℕ) × (elements_spelling children ++ (60 ∷ 47 ∷ (name ++ (62 ∷ rest))) ≡ 60 ∷ others)
tag_after none name rest = (47 ∷ (name ++ (62 ∷ rest)), refl)
tag_after (more (element m attrs text children) es) name rest = (_, refl)

-- a start tag, the text, the children and an end tag
full_front : (node : RawNode) (children : Elements) (rest : List ℕ) → IsLawfulNode node
    → ((after : List ℕ) → IsFront (elements_spelling children ++ after) (elements_pieces children) after)
    → IsFront (60 ∷ (node.name ++ (attrs_spelling node.attrs ++ (62 ∷ (written text_byte node.text ++ (elements_spelling children ++ (60 ∷ 47 ∷ (node.name ++ (62 ∷ rest)))))))))
    (Start node.name node.attrs ∷ ((text_pieces node.text ++ elements_pieces children) ++ End node.name ∷ [])) rest
full_front node children rest h inner =
    let closing = 60 ∷ 47 ∷ (node.name ++ (62 ∷ rest)) in
    let inside = elements_spelling children ++ closing in
    let tag = tag_after children node.name rest in
    let texts : IsFront (written text_byte node.text ++ inside) (text_pieces node.text) inside =
    subst (λ t. IsFront (written text_byte node.text ++ t) (text_pieces node.text) t) (sym tag.1) (text_front node.text tag.0 h.text) in (
      written text_byte node.text ++ inside,
      start_next node (written text_byte node.text ++ inside) h,
      IsFront-append (text_pieces node.text ++ elements_pieces children) (End node.name ∷ []) (written text_byte node.text ++ inside) closing rest
          (IsFront-append (text_pieces node.text) (elements_pieces children) (written text_byte node.text ++ inside) inside closing texts (inner closing))
          (rest, end_next node.name rest h.is_name h.name, refl),
    )

bare_front : (node : RawNode) (rest : List ℕ) → IsLawfulNode node → IsFront (60 ∷ (node.name ++ (attrs_spelling node.attrs ++ (47 ∷ 62 ∷ rest)))) (Empty node.name node.attrs ∷ []) rest
bare_front node rest h = (rest, empty_next node rest h, refl)

-- the spelling, which the rest follows
bare_after : (name attrs rest : List ℕ) → (60 ∷ (name ++ (attrs ++ (47 ∷ 62 ∷ [])))) ++ rest ≡ 60 ∷ (name ++ (attrs ++ (47 ∷ 62 ∷ rest)))
bare_after name attrs rest = ap (λ t. 60 ∷ t) (append_assoc name (attrs ++ (47 ∷ 62 ∷ [])) rest ∙ ap (λ t. name ++ t) (append_assoc attrs (47 ∷ 62 ∷ []) rest))

full_after : (name attrs text inner rest : List ℕ)
    → (60 ∷ (name ++ (attrs ++ (62 ∷ (text ++ (inner ++ (60 ∷ 47 ∷ (name ++ (62 ∷ []))))))))) ++ rest
    ≡ 60 ∷ (name ++ (attrs ++ (62 ∷ (text ++ (inner ++ (60 ∷ 47 ∷ (name ++ (62 ∷ rest))))))))
full_after name attrs text inner rest =
    ap (λ t. 60 ∷ t) (append_assoc name (attrs ++ (62 ∷ (text ++ (inner ++ (60 ∷ 47 ∷ (name ++ (62 ∷ []))))))) rest
    ∙ ap (λ t. name ++ t) (append_assoc attrs (62 ∷ (text ++ (inner ++ (60 ∷ 47 ∷ (name ++ (62 ∷ [])))))) rest
    ∙ ap (λ t. attrs ++ (62 ∷ t)) (append_assoc text (inner ++ (60 ∷ 47 ∷ (name ++ (62 ∷ [])))) rest
    ∙ ap (λ t. text ++ t) (append_assoc inner (60 ∷ 47 ∷ (name ++ (62 ∷ []))) rest
    ∙ ap (λ t. inner ++ (60 ∷ 47 ∷ t)) (append_assoc name (62 ∷ []) rest)))))

either_front : (node : RawNode) (children : Elements) (rest : List ℕ) (bare : Bool) → IsLawfulNode node
    → ((after : List ℕ) → IsFront (elements_spelling children ++ after) (elements_pieces children) after)
    → IsFront ((60 ∷ (node.name ++ (attrs_spelling node.attrs ++ (cond bare (47 ∷ 62 ∷ []) (62 ∷ (written text_byte node.text ++ (elements_spelling children ++ (60 ∷ 47 ∷ (node.name ++ (62 ∷ [])))))))))) ++ rest)
    (cond bare (Empty node.name node.attrs ∷ []) (Start node.name node.attrs ∷ ((text_pieces node.text ++ elements_pieces children) ++ End node.name ∷ []))) rest
either_front node children rest true h inner =
    subst (λ t. IsFront t (Empty node.name node.attrs ∷ []) rest) (sym (bare_after node.name (attrs_spelling node.attrs) rest)) (bare_front node rest h)
either_front node children rest false h inner =
    subst (λ t. IsFront t (Start node.name node.attrs ∷ ((text_pieces node.text ++ elements_pieces children) ++ End node.name ∷ [])) rest)
    (sym (full_after node.name (attrs_spelling node.attrs) (written text_byte node.text) (elements_spelling children) rest)) (full_front node children rest h inner)

mutual
  element_front : (e : Element) (rest : List ℕ) → AllLawful (preorder e) → IsFront (element_spelling e ++ rest) (element_pieces e) rest
  element_front (element name attrs text children) rest h =
      either_front (record { name = name; attrs = attrs; text = text; size = length (preorder_all children) + 1 }) children rest (is_bare text children) h.0
      (λ after. elements_front children after h.1)

  elements_front : (es : Elements) (rest : List ℕ) → AllLawful (preorder_all es) → IsFront (elements_spelling es ++ rest) (elements_pieces es) rest
  elements_front none rest h = refl
  elements_front (more e es) rest h =
      let p = all-parts IsLawfulNode (preorder e) (preorder_all es) h in
      subst (λ t. IsFront t (element_pieces e ++ elements_pieces es) rest) (sym (append_assoc (element_spelling e) (elements_spelling es) rest))
      (IsFront-append (element_pieces e) (elements_pieces es) (element_spelling e ++ (elements_spelling es ++ rest)) (elements_spelling es ++ rest) rest
      (element_front e (elements_spelling es ++ rest) p.0) (elements_front es rest p.1))

-- ---- how they nest

are_texts : (text : List ℕ) → AreTexts (text_pieces text) text
are_texts [] = record { each = tt; joined = refl }
are_texts (b ∷ bs) = record { each = (tt, tt); joined = sym (append-nil (b ∷ bs)) }

kept_all : (children : Elements) (node : RawNode) → node.size ≡ length (preorder_all children) + 1 → IsLawfulNode node → node.text ≡ kept children node.text
kept_all none node size h = refl
kept_all (more e es) node size h = choose (only_space node.text) refl where
  choose : (b : Bool) → only_space node.text ≡ b → node.text ≡ cond b [] node.text
  choose true space = h.no_space (let a = length-append (preorder e) (preorder_all es) in let n = length-preorder e in let s = size_some e in omega arith) space
  choose false space = refl

mutual
  element_nests : (e : Element) → AllLawful (preorder e) → IsElement e (element_pieces e)
  element_nests (element name attrs [] none) h = inl (refl, refl, refl)
  element_nests (element name attrs [] (more e es)) h =
      inr (elements_pieces (more e es), [], refl, content_nests (more e es) [] h.1, kept_all (more e es) (record { name = name; attrs = attrs; text = []; size = length (preorder_all (more e es)) + 1 }) refl h.0)
  element_nests (element name attrs (b ∷ bs) children) h =
      inr (
        text_pieces (b ∷ bs) ++ elements_pieces children,
        b ∷ bs,
        refl,
        content_nests children (b ∷ bs) h.1,
        kept_all children (record { name = name; attrs = attrs; text = b ∷ bs; size = length (preorder_all children) + 1 }) refl h.0,
      )

  content_nests : (es : Elements) (text : List ℕ) → AllLawful (preorder_all es) → IsContent es (text_pieces text ++ elements_pieces es) text
  content_nests none text h = subst (λ ps. AreTexts ps text) (sym (append-nil (text_pieces text))) (are_texts text)
  content_nests (more e es) text h =
      let p = all-parts IsLawfulNode (preorder e) (preorder_all es) h in
      (text_pieces text, element_pieces e, elements_pieces es, text, [], refl, sym (append-nil text), are_texts text, element_nests e p.0, content_nests es [] p.1)

-- ---- the whole

front_characters : (pieces : List Piece) (text rest : List ℕ) → IsFront text pieces rest → AreCharacters rest → AreCharacters text
front_characters [] text rest front are = subst (λ t. AreCharacters t) (sym front) are
front_characters (piece ∷ pieces) text rest (after, next, front) are =
    subst (λ t. AreCharacters t) (sym next.parts) (AreCharacters-append next.spelling after next.is_piece.characters (front_characters pieces after rest front are))

no_piece : NoPiece []
no_piece s rest piece e is = go piece is.spelled where
  none_left : length s ≡ 0
  none_left = let l = length-append s rest in let f = ap length e in omega arith

  go : (x : Piece) → Spelled s x → ⊥
  go (Start name attrs) h = let n = none_left in let f = ap length h.spelled in omega arith
  go (Empty name attrs) h = let n = none_left in let f = ap length h.spelled in omega arith
  go (End name) h = let n = none_left in let f = ap length h.spelled in omega arith
  go Comment h = let n = none_left in let f = ap length h.spelled in omega arith
  go (CData text) h = let n = none_left in let f = ap length h.spelled in omega arith
  go (Text text) h = let n = none_left in let f = h.some in omega arith

-- the line feed before the root
feed_next : (rest : List ℕ) → IsNext (10 ∷ 60 ∷ rest) (Text (10 ∷ [])) (60 ∷ rest)
unfolding are_low is_character text_byte
feed_next rest = record {
  spelling = 10 ∷ [];
  is_piece = record { characters = low_characters (10 ∷ []) refl; spelled = record { some = omega arith; means = text_means (10 ∷ []) } };
  is_whole = no_run rest;
  parts = refl;
}

abbrev version : Attr
version = record { name = codes "version"; value = codes "1.0" }

abbrev encoding : Attr
encoding = record { name = codes "encoding"; value = codes "UTF-8" }

version_lawful : IsLawfulAttr version
unfolding are_low is_character begins_name goes_on_name
version_lawful = record { is_name = (refl, (refl, (refl, (refl, (refl, (refl, (refl, tt))))))); name = low_characters (codes "version") refl; value = low_characters (codes "1.0") refl }

encoding_lawful : IsLawfulAttr encoding
unfolding are_low is_character begins_name goes_on_name
encoding_lawful = record { is_name = (refl, (refl, (refl, (refl, (refl, (refl, (refl, (refl, tt)))))))); name = low_characters (codes "encoding") refl; value = low_characters (codes "UTF-8") refl }

abbrev declaration : List ℕ
declaration = codes "<?xml version=" ++ (34 ∷ codes "1.0" ++ (34 ∷ codes " encoding=" ++ (34 ∷ codes "UTF-8" ++ (34 ∷ codes "?>"))))

is_declaration : IsDeclaration declaration
unfolding are_low is_character value_byte text_byte
is_declaration = record {
  characters = low_characters declaration refl;
  inside = attrs_spelling (version ∷ encoding ∷ []) ++ codes "?>";
  attrs = version ∷ encoding ∷ [];
  is_inside = is_inside (version ∷ encoding ∷ []) (codes "?>") (version_lawful, (encoding_lawful, tt)) refl;
  encoding = refl;
  spelled = refl;
}

begins : (e : Element) → Begins (spelling e) (10 ∷ element_spelling e)
unfolding strip is_space
begins e = inr (refl, declaration, is_declaration, refl)

root_pieces : (e : Element) → AllLawful (preorder e) → IsFront (10 ∷ element_spelling e) (Text (10 ∷ []) ∷ element_pieces e) []
root_pieces (element name attrs text children) h =
    let e = element name attrs text children in
    (element_spelling e, feed_next _, subst (λ t. IsFront t (element_pieces e) []) (append-nil (element_spelling e)) (element_front e [] h))

feed_space : only_space (10 ∷ []) ≡ true
unfolding is_space
feed_space = refl

pub spelling_spells : (e : Element) → IsLawful e → Spells (spelling e) e
spelling_spells e h =
    let front = root_pieces e h.each in
    record {
      utf8 = IsUtf8-AreCharacters (spelling e) (AreCharacters-append declaration (10 ∷ element_spelling e) is_declaration.characters (front_characters (Text (10 ∷ []) ∷ element_pieces e) (10 ∷ element_spelling e) [] front AreCharacters-nil));
      body = 10 ∷ element_spelling e;
      begins = begins e;
      pieces = Text (10 ∷ []) ∷ element_pieces e;
      is_cut = record { is_front = front; is_longest = no_piece };
      nested = record { before = Text (10 ∷ []) ∷ []; inside = element_pieces e; after = []; parts = ap (λ ps. Text (10 ∷ []) ∷ ps) (sym (append-nil (element_pieces e))); outer_before = (feed_space, tt); is_element = element_nests e h.each; outer_after = tt };
    }
