-- Attributes that are copied one after another, the first one of a name with another value.
use Rattle.std.proofs.Common.{◌≡◌, ℕ, ◌+◌, ◌≤◌, Bool, true, false, cond, ◌||◌, List, [], ◌∷◌, ◌++◌, length, drop, Some, slice_get, refl, sym, ap, ◌∙◌, append_assoc}
use Rattle.std.proofs.lemmas.List.{append-nil}
use Rattle.e57_pieces.specs.declared.piece.Attr.{Attr}
use Rattle.e57_nodes.specs.Places.{with_value}
use Rattle.e57_edits.proofs.Lists.{drop-here, drop-all}
use Rattle.e57_edits.specs.Values.{is_named, next_attr}

-- the attributes that are left, of which the first one of the name has this value unless it is set
abbrev pub values_left : Bool → List ℕ → List ℕ → List Attr → List Attr
values_left is_set name value attrs = cond is_set attrs (with_value name value attrs)

left_first : (is_set : Bool) (name value : List ℕ) (attr : Attr) (rest : List Attr)
    → values_left is_set name value (attr ∷ rest) ≡ next_attr is_set name value attr ∷ values_left (is_set || is_named name attr) name value rest
unfolding with_value
left_first true name value attr rest = refl
left_first false name value attr rest = by_test (is_named name attr) where
  by_test : (b : Bool) → cond b ((record { name = attr.name; value = value }) ∷ rest) (attr ∷ with_value name value rest) ≡ (cond b (record { name = attr.name; value = value }) attr) ∷ cond b rest (with_value name value rest)
  by_test true = refl
  by_test false = refl

pub values_go_on : (old new : Bool) (name value : List ℕ) (attrs now whole : List Attr) (i : ℕ) (attr added : Attr) → slice_get attrs i ≡ Some attr → added ≡ next_attr old name value attr → new ≡ (old || is_named name attr)
    → now ++ values_left old name value (drop i attrs) ≡ whole → (now ++ added ∷ []) ++ values_left new name value (drop (i + 1) attrs) ≡ whole
values_go_on old new name value attrs now whole i attr added found a s h =
    append_assoc now (added ∷ []) (values_left new name value (drop (i + 1) attrs))
    ∙ ap (λ x. now ++ (x ∷ values_left new name value (drop (i + 1) attrs))) a ∙ ap (λ b. now ++ (next_attr old name value attr ∷ values_left b name value (drop (i + 1) attrs))) s
    ∙ ap (λ xs. now ++ xs) (sym (ap (values_left old name value) (drop-here attrs i attr found) ∙ left_first old name value attr (drop (i + 1) attrs))) ∙ h

none_left : (is_set : Bool) (name value : List ℕ) → values_left is_set name value [] ≡ []
unfolding with_value
none_left true name value = refl
none_left false name value = refl

pub values_end : (is_set : Bool) (name value : List ℕ) (attrs now whole : List Attr) (i : ℕ) → length attrs ≤ i → now ++ values_left is_set name value (drop i attrs) ≡ whole → now ≡ whole
values_end is_set name value attrs now whole i l h =
    sym (append-nil now) ∙ ap (λ xs. now ++ xs) (sym (ap (values_left is_set name value) (drop-all attrs i l) ∙ none_left is_set name value)) ∙ h

-- copies as they are
pub copies_go_on : (attrs now : List Attr) (i : ℕ) (attr added : Attr) → slice_get attrs i ≡ Some attr → added ≡ attr → now ++ drop i attrs ≡ attrs → (now ++ added ∷ []) ++ drop (i + 1) attrs ≡ attrs
copies_go_on attrs now i attr added found a h =
    append_assoc now (added ∷ []) (drop (i + 1) attrs) ∙ ap (λ x. now ++ (x ∷ drop (i + 1) attrs)) a ∙ ap (λ xs. now ++ xs) (sym (drop-here attrs i attr found)) ∙ h
