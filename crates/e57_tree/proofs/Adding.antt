-- The fields below a node, child after child, and widths.
use Rattle.std.proofs.Common.{◌≡◌, ℕ, zero, suc, ◌+◌, ◌-◌, ◌*◌, ◌/◌, ◌^◌, ◌<◌, ◌≤◌, Bool, true, false, List, ◌∷◌, ◌++◌, length, refl, sym, ap, subst, ◌∙◌, arith, append_assoc}
use Rattle.std.proofs.lemmas.Bool.{ne_eqb}
use Rattle.std.proofs.Math.Nat.{pow-suc}
use Rattle.std.proofs.lemmas.List.{append-nil}
use Rattle.e57_elements.specs.declared.tree.RawNode.{RawNode}
use Rattle.e57_layout.specs.declared.field.Field.{Field}
use Rattle.e57_layout.specs.Widths.{bit_length}
use Rattle.e57_nodes.specs.Paths.{child_path}
use Rattle.e57_nodes.specs.Fields.{fields_from, fields_from_all}
use Rattle.e57_tree.specs.Flat.{raw_at, shapes_between, end_of, shape_in, AreElements}
use Rattle.e57_tree.specs.Paths.{named_path}
use Rattle.e57_tree.proofs.Laws.Flat.{next_element, shapes_between-end}
use Rattle.e57_tree.proofs.Children.{name_in}

-- the fields of the children from this one on
abbrev pub fields_left : Bool → List ℕ → ℕ → List RawNode → ℕ → ℕ → List Field
fields_left counted path position nodes child end = fields_from_all counted path position child (shapes_between nodes child end)

-- What is added and what is left are all fields below the node.
pub record IsAdding (nodes : List RawNode) (n child end position : ℕ) (counted : Bool) (path : List ℕ) (before now : List Field) : Type 0 where
  pub elements : AreElements nodes child end
  pub all : now ++ fields_left counted path position nodes child end ≡ before ++ fields_left counted path 0 nodes (n + 1) end

pub adding_begins : (nodes : List RawNode) (n end : ℕ) (counted : Bool) (path : List ℕ) (before : List Field) → AreElements nodes (n + 1) end → IsAdding nodes n (n + 1) end 0 counted path before before
adding_begins nodes n end counted path before h = record { elements = h; all = refl }

child_named_path : (counted : Bool) (path : List ℕ) (position : ℕ) (nodes : List RawNode) (child : ℕ) → named_path counted path position (raw_at nodes child).name ≡ child_path counted path position (shape_in nodes child)
child_named_path true path position nodes child = refl
child_named_path false path position nodes child = ap (λ name. path ++ (47 ∷ name)) (sym (name_in (raw_at nodes child)))

pub adding_goes_on : (nodes : List RawNode) (n child end next position later : ℕ) (counted : Bool) (path own name : List ℕ) (before now new : List Field) → IsAdding nodes n child end position counted path before now
    → child < end → next ≡ end_of nodes child → later ≡ position + 1 → own ≡ named_path counted path position name → name ≡ (raw_at nodes child).name
    → new ≡ now ++ fields_from own child (shape_in nodes child) → IsAdding nodes n next end later counted path before new
adding_goes_on nodes n child end next position later counted path own name before now new h l e p o m f =
    let is_next = next_element nodes child end h.elements l in
    let first = fields_from (child_path counted path position (shape_in nodes child)) child (shape_in nodes child) in
    let rest = fields_left counted path (position + 1) nodes (end_of nodes child) end in
    let own_is : own ≡ child_path counted path position (shape_in nodes child) = o ∙ ap (named_path counted path position) m ∙ child_named_path counted path position nodes child in
    let left : fields_left counted path position nodes child end ≡ first ++ rest =
    ap (fields_from_all counted path position child) is_next.shapes_are
    ∙ ap (λ k. first ++ fields_from_all counted path (position + 1) (child + k) (shapes_between nodes (end_of nodes child) end)) is_next.inside.count in
    record {
      elements = subst (λ (k : ℕ). AreElements nodes k end) (sym e) is_next.after;
      all =
          ap (λ xs. xs ++ fields_left counted path later nodes next end) (f ∙ ap (λ q. now ++ fields_from q child (shape_in nodes child)) own_is)
          ∙ ap (λ k. (now ++ first) ++ fields_left counted path k nodes next end) p
          ∙ ap (λ k. (now ++ first) ++ fields_left counted path (position + 1) nodes k end) e
          ∙ append_assoc now first rest ∙ ap (λ xs. now ++ xs) (sym left) ∙ h.all;
    }

pub adding_ends : (nodes : List RawNode) (n child end position : ℕ) (counted : Bool) (path : List ℕ) (before now : List Field) → IsAdding nodes n child end position counted path before now → end ≤ child
    → now ≡ before ++ fields_left counted path 0 nodes (n + 1) end
adding_ends nodes n child end position counted path before now h l =
    let last = h.elements.ends in
    let at : child ≡ end = omega arith in
    sym (append-nil now)
    ∙ sym (ap (λ k. now ++ fields_from_all counted path position k (shapes_between nodes k end)) at ∙ ap (λ ss. now ++ fields_from_all counted path position end ss) (shapes_between-end nodes end))
    ∙ h.all

-- ---- widths

pub bits_more : (most n : ℕ) → 0 < n → bit_length (suc most) n ≡ suc (bit_length most (n / 2))
unfolding bit_length
bits_more most n h = rw (ne_eqb n 0 (λ e. absurd (omega arith))) refl

pub bits_none : (most : ℕ) → bit_length most 0 ≡ 0
unfolding bit_length
bits_none zero = refl
bits_none (suc most) = refl

-- One bit more is counted.
pub record Halves (bits rest length : ℕ) : Type 0 where
  pub same : bits + 1 + bit_length (64 - (bits + 1)) (rest / 2) ≡ length
  pub few : bits + 1 ≤ 64
  pub small : rest / 2 < 2 ^ (64 - (bits + 1))

pub halves : (bits rest length : ℕ) → bits ≤ 64 → rest < 2 ^ (64 - bits) → 0 < rest → bits + bit_length (64 - bits) rest ≡ length → Halves bits rest length
halves bits rest length few small some same = by_left (64 - bits) refl where
  by_left : (k : ℕ) → 64 - bits ≡ k → Halves bits rest length
  by_left zero e = let one : 2 ^ (64 - bits) ≡ 1 = ap (λ k. 2 ^ k) e in absurd (omega arith)
  by_left (suc k) e =
      let left : 64 - (bits + 1) ≡ k = omega arith in
      let double : 2 ^ (64 - bits) ≡ 2 ^ k * 2 = ap (λ j. 2 ^ j) e ∙ pow-suc 2 k in
      let more : bit_length (64 - bits) rest ≡ suc (bit_length k (rest / 2)) = ap (λ j. bit_length j rest) e ∙ bits_more k rest some in
      let later : bit_length (64 - (bits + 1)) (rest / 2) ≡ bit_length k (rest / 2) = ap (λ j. bit_length j (rest / 2)) left in
      let power : 2 ^ (64 - (bits + 1)) ≡ 2 ^ k = ap (λ j. 2 ^ j) left in
      record { same = omega arith; few = omega arith; small = omega arith }
