-- Lawful pieces within the limits lead to a lawful tree.
use Rattle.std.proofs.Common.{◌≡◌, ℕ, ◌+◌, ◌<◌, ◌≤◌, max, Bool, true, false, cond, List, [], ◌∷◌, length, Some, None, refl, sym, subst, ◌∙◌, arith}
use Rattle.std.specs.List.{AllByRecursion}
use Rattle.e57_pieces.specs.declared.piece.Attr.{Attr}
use Rattle.e57_pieces.specs.declared.piece.Piece.{Piece}
use Rattle.e57_pieces.specs.Characters.{AreCharacters}
use Rattle.e57_pieces.proofs.Laws.Characters.{AreCharacters-append, AreCharacters-nil}
use Rattle.e57_elements.specs.Tree.{Element, element, Elements, none, more, preorder, preorder_all, depth}
use Rattle.e57_elements.specs.Nested.{only_space, kept}
use Rattle.e57_elements.specs.Lawful.{IsLawfulNode}
use Rattle.e57_elements.specs.Machine.{Open, State, reading, done, begin, ended, put, step, open_node, nodes_of, state_nodes, passes_in}
use Rattle.e57_elements.proofs.Within.{limit_within}
use Rattle.e57_elements.proofs.Nodes.{put_nodes}
use Rattle.e57_elements.proofs.Steps.{Steps, by_steps}
use Rattle.e57_elements.proofs.Counts.{peak, peaks, put_peak}
use Rattle.e57_elements.proofs.Lists.{all-parts}
use Rattle.e57_elements.proofs.Characters.{LawfulTag, LawfulPiece}
use Rattle.e57_base.proofs.Lists.{all_append}

abbrev pub TextsLawful : List Open → Type 0
TextsLawful opens = AllByRecursion (λ (top : Open). AreCharacters top.text) opens

abbrev pub StateTexts : State → Type 0
StateTexts (reading opens) = TextsLawful opens
StateTexts (done e) = Unit {0}

pub record IsLawfulState (s : State) : Type 0 where
  pub nodes : AllByRecursion IsLawfulNode (state_nodes s)
  pub texts : StateTexts s
  pub not_deep : peak s ≤ 64

-- the node of a tag
tag_node : (name : List ℕ) (attrs : List Attr) (size : ℕ) → LawfulTag name attrs → length attrs ≤ 64 → IsLawfulNode (record { name = name; attrs = attrs; text = []; size = size })
tag_node name attrs size h few =
    record { is_name = h.is_name; name = h.characters; each = h.each; names_differ = h.names_differ; few_attrs = few; text = AreCharacters-nil; no_space = λ children space. refl }

kept_characters : (cs : Elements) (text : List ℕ) → AreCharacters text → AreCharacters (kept cs text)
kept_characters none text are = are
kept_characters (more e es) text are = go (only_space text) where
  go : (b : Bool) → AreCharacters (cond b [] text)
  go true = AreCharacters-nil
  go false = are

-- beside children no text of white space alone is kept
kept_no_space : (cs : Elements) (text : List ℕ) → 1 < length (preorder_all cs) + 1 → only_space (kept cs text) ≡ true → kept cs text ≡ []
kept_no_space none text children space = absurd (omega arith)
kept_no_space (more e es) text children space = go (only_space text) refl space where
  go : (b : Bool) → only_space text ≡ b → only_space (cond b [] text) ≡ true → cond b [] text ≡ []
  go true eq h = refl
  go false eq h = let f : true ≡ false = sym h ∙ eq in cc

ended_lawful : (top : Open) → IsLawfulNode (open_node top) → AreCharacters top.text
    → IsLawfulNode (record { name = top.name; attrs = top.attrs; text = kept top.children top.text; size = length (preorder_all top.children) + 1 })
ended_lawful top h are =
    record {
      is_name = h.is_name;
      name = h.name;
      each = h.each;
      names_differ = h.names_differ;
      few_attrs = h.few_attrs;
      text = kept_characters top.children top.text are;
      no_space = kept_no_space top.children top.text;
    }

put_lawful : (e : Element) (opens : List Open) → AllByRecursion IsLawfulNode (nodes_of opens) → AllByRecursion IsLawfulNode (preorder e) → TextsLawful opens → max (peaks opens) (length opens + depth e) ≤ 64 → IsLawfulState (put e opens)
put_lawful e opens nodes new texts deep =
    record {
      nodes = subst (λ ns. AllByRecursion IsLawfulNode ns) (sym (put_nodes e opens)) (all_append IsLawfulNode (nodes_of opens) (preorder e) nodes new);
      texts = same_texts opens texts;
      not_deep = (let p = put_peak e opens in omega arith);
    } where
      same_texts : (os : List Open) → TextsLawful os → StateTexts (put e os)
      same_texts [] h = tt
      same_texts (top ∷ outer) h = h

record Keeping (s : State) (x : Piece) (t : State) : Type 0 where
  on : IsLawfulState s → LawfulPiece x → passes_in s x ≡ None → IsLawfulState t

keeping : Steps Keeping
keeping = record {
  start = λ opens name attrs. record {
    on = λ h tag fits.
        let w = limit_within (length attrs) (length opens + 1) (length (nodes_of opens) + 1) fits in
        let d = h.not_deep in
        let k = w.depth in
        record { nodes = all_append IsLawfulNode (nodes_of opens) (open_node (begin name attrs) ∷ []) h.nodes (tag_node name attrs 0 tag w.attrs, tt); texts = (AreCharacters-nil, h.texts); not_deep = omega arith };
  };
  empty = λ opens name attrs. record {
    on = λ h tag fits.
        let w = limit_within (length attrs) (length opens + 1) (length (nodes_of opens) + 1) fits in
        let d = h.not_deep in
        let k = w.depth in
        put_lawful (element name attrs [] none) opens h.nodes (tag_node name attrs 1 tag w.attrs, tt) h.texts (omega arith);
  };
  end = λ top outer. record {
    on = λ h tag fits.
        let parts = all-parts IsLawfulNode (nodes_of outer) (open_node top ∷ preorder_all top.children) h.nodes in
        let d = h.not_deep in
        put_lawful (ended top) outer parts.0 (ended_lawful top parts.1.0 h.texts.0, parts.1.1) h.texts.1 (omega arith);
  };
  comment = λ s. record { on = λ h tag fits. h };
  cdata = λ text top outer. record { on = λ h are fits. record { nodes = h.nodes; texts = (AreCharacters-append top.text text h.texts.0 are, h.texts.1); not_deep = h.not_deep } };
  run = λ text top outer. record { on = λ h are fits. record { nodes = h.nodes; texts = (AreCharacters-append top.text text h.texts.0 are, h.texts.1); not_deep = h.not_deep } };
  space_before = λ text e. record { on = λ h are fits. h };
  space_after = λ text d e. record { on = λ h are fits. h };
}

pub lawful_step : (s : State) (x : Piece) (t : State) → step s x ≡ Some t → IsLawfulState s → LawfulPiece x → passes_in s x ≡ None → IsLawfulState t
lawful_step s x t e = (by_steps Keeping keeping s x t e).on

pub lawful_start : IsLawfulState (reading [])
lawful_start = record { nodes = tt; texts = tt; not_deep = omega arith }
