-- A small tree that is made: what each of its calls leaves.
use Rattle.std.proofs.Common.{◌≡◌, ℕ, inl, inr, List, [], ◌∷◌, codes, refl, sym, ap, subst, ◌∙◌, arith}
use Rattle.e57_pieces.specs.declared.piece.Attr.{Attr}
use Rattle.e57_pieces.specs.Characters.{is_character}
use Rattle.e57_pieces.specs.Words.{is_space, begins_name}
use Rattle.e57_elements.specs.declared.tree.RawNode.{RawNode}
use Rattle.e57_elements.specs.Making.{TreeSoFar, started, add_attr, set_text, set_size, ChangesLast, Ends, MayStart, MayAttr, MayText}
use Rattle.e57_elements.proofs.Escapes.{low_characters, are_low}
use Rattle.e57_elements.proofs.Makes.{so_far}

abbrev begun_a : List Attr → List ℕ → RawNode
begun_a attrs text = record { name = codes "a"; attrs = attrs; text = text; size = 0 }

abbrev attr_b : Attr
attr_b = record { name = codes "b"; value = codes "c" }

abbrev begun_e : RawNode
begun_e = record { name = codes "e"; attrs = []; text = []; size = 0 }

-- the root of the tree while it is begun
abbrev pub whole_a : RawNode
whole_a = begun_a (attr_b ∷ []) (codes "d")

may_start_a : MayStart (so_far [] []) (codes "a")
unfolding begins_name are_low is_character
may_start_a = record { is_name = (refl, tt); characters = low_characters (codes "a") refl; place = inl refl; few_begun = omega arith; few_nodes = omega arith }

pub may_start_first : (t : TreeSoFar) (a : List ℕ) → t ≡ so_far [] [] → a ≡ codes "a" → MayStart t a
may_start_first t a e f = subst (λ u. MayStart u a) (sym e) (subst (λ n. MayStart (so_far [] []) n) (sym f) may_start_a)

pub first : (t u : TreeSoFar) (a : List ℕ) → t ≡ so_far [] [] → a ≡ codes "a" → u ≡ started a t → u ≡ so_far (begun_a [] [] ∷ []) (0 ∷ [])
first t u a e f g = g ∙ ap (λ (v : TreeSoFar). started a v) e ∙ ap (λ n. started n (so_far [] [])) f

may_attr_b : MayAttr (so_far (begun_a [] [] ∷ []) (0 ∷ [])) (codes "b") (codes "c")
unfolding begins_name are_low is_character
may_attr_b = record {
  node = begun_a [] [];
  is_innermost = record { outer = []; before = []; begun = refl; nodes = refl };
  is_name = (refl, tt);
  characters = low_characters (codes "b") refl;
  value_characters = low_characters (codes "c") refl;
  few = omega arith;
  names_differ = refl;
}

pub may_attr_first : (t : TreeSoFar) (b c : List ℕ) → t ≡ so_far (begun_a [] [] ∷ []) (0 ∷ []) → b ≡ codes "b" → c ≡ codes "c" → MayAttr t b c
may_attr_first t b c e f g =
    subst (λ u. MayAttr u b c) (sym e) (subst (λ n. MayAttr (so_far (begun_a [] [] ∷ []) (0 ∷ [])) n c) (sym f) (subst (λ v. MayAttr (so_far (begun_a [] [] ∷ []) (0 ∷ [])) (codes "b") v) (sym g) may_attr_b))

-- the only node is changed
only_changed : (change : RawNode → RawNode) (t u : TreeSoFar) (node : RawNode) → t ≡ so_far (node ∷ []) (0 ∷ []) → ChangesLast change t u → u ≡ so_far (change node ∷ []) (0 ∷ [])
only_changed change t u node e h =
    ap (λ ns. so_far ns u.begun) (h.nodes [] node (ap (λ (v : TreeSoFar). v.nodes) e))
    ∙ ap (λ ps. so_far (change node ∷ []) ps) (h.begun ∙ ap (λ (v : TreeSoFar). v.begun) e)

pub second : (t u : TreeSoFar) (b c : List ℕ) → t ≡ so_far (begun_a [] [] ∷ []) (0 ∷ []) → b ≡ codes "b" → c ≡ codes "c" → ChangesLast (add_attr b c) t u → u ≡ so_far (begun_a (attr_b ∷ []) [] ∷ []) (0 ∷ [])
second t u b c e f g h =
    only_changed (add_attr b c) t u (begun_a [] []) e h
    ∙ ap (λ n. so_far (add_attr n c (begun_a [] []) ∷ []) (0 ∷ [])) f
    ∙ ap (λ v. so_far (add_attr (codes "b") v (begun_a [] []) ∷ []) (0 ∷ [])) g

may_text_d : MayText (so_far (begun_a (attr_b ∷ []) [] ∷ []) (0 ∷ [])) (codes "d")
unfolding are_low is_character
may_text_d = record { node = begun_a (attr_b ∷ []) []; is_innermost = record { outer = []; before = []; begun = refl; nodes = refl }; characters = low_characters (codes "d") refl }

pub may_text_first : (t : TreeSoFar) (d : List ℕ) → t ≡ so_far (begun_a (attr_b ∷ []) [] ∷ []) (0 ∷ []) → d ≡ codes "d" → MayText t d
may_text_first t d e f = subst (λ u. MayText u d) (sym e) (subst (λ n. MayText (so_far (begun_a (attr_b ∷ []) [] ∷ []) (0 ∷ [])) n) (sym f) may_text_d)

pub third : (t u : TreeSoFar) (d : List ℕ) → t ≡ so_far (begun_a (attr_b ∷ []) [] ∷ []) (0 ∷ []) → d ≡ codes "d" → ChangesLast (set_text d) t u → u ≡ so_far (whole_a ∷ []) (0 ∷ [])
third t u d e f h = only_changed (set_text d) t u (begun_a (attr_b ∷ []) []) e h ∙ ap (λ x. so_far (set_text x (begun_a (attr_b ∷ []) []) ∷ []) (0 ∷ [])) f

may_start_e : MayStart (so_far (whole_a ∷ []) (0 ∷ [])) (codes "e")
unfolding begins_name are_low is_character is_space
may_start_e = record {
  is_name = (refl, tt);
  characters = low_characters (codes "e") refl;
  place = inr (whole_a, [], record { outer = []; before = []; begun = refl; nodes = refl }, λ space. cc);
  few_begun = omega arith;
  few_nodes = omega arith;
}

pub may_start_second : (t : TreeSoFar) (e : List ℕ) → t ≡ so_far (whole_a ∷ []) (0 ∷ []) → e ≡ codes "e" → MayStart t e
may_start_second t e f g = subst (λ u. MayStart u e) (sym f) (subst (λ n. MayStart (so_far (whole_a ∷ []) (0 ∷ [])) n) (sym g) may_start_e)

pub fourth : (t u : TreeSoFar) (e : List ℕ) → t ≡ so_far (whole_a ∷ []) (0 ∷ []) → e ≡ codes "e" → u ≡ started e t → u ≡ so_far (whole_a ∷ begun_e ∷ []) (0 ∷ 1 ∷ [])
fourth t u e f g h = h ∙ ap (λ (v : TreeSoFar). started e v) f ∙ ap (λ n. started n (so_far (whole_a ∷ []) (0 ∷ []))) g

pub fifth : (t u : TreeSoFar) → t ≡ so_far (whole_a ∷ begun_e ∷ []) (0 ∷ 1 ∷ []) → Ends t u → u ≡ so_far (whole_a ∷ set_size 1 begun_e ∷ []) (0 ∷ [])
fifth t u e h = h (0 ∷ []) (whole_a ∷ []) [] begun_e (ap (λ (v : TreeSoFar). v.begun) e) (ap (λ (v : TreeSoFar). v.nodes) e)

pub sixth : (t u : TreeSoFar) → t ≡ so_far (whole_a ∷ set_size 1 begun_e ∷ []) (0 ∷ []) → Ends t u → u ≡ so_far (set_size 2 whole_a ∷ set_size 1 begun_e ∷ []) []
sixth t u e h = h [] [] (set_size 1 begun_e ∷ []) whole_a (ap (λ (v : TreeSoFar). v.begun) e) (ap (λ (v : TreeSoFar). v.nodes) e)
