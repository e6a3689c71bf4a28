-- Items that are the same but for the limits of integer fields.
use Rattle.std.proofs.Common.{◌≡◌, ℕ, zero, suc, ◌+◌, List, [], ◌∷◌, length, Some, slice_get, refl, ap, subst}
use Rattle.e57_nodes.specs.Items.{StatedItem, stated_cloud, stated_blob}
use Rattle.e57_tree.specs.declared.items.Item.TheVariants as item
use Rattle.e57_tree.specs.Held.{items_among}
use Rattle.e57_copy.specs.Items.{IsAlikeItem}
use Rattle.e57_repack.specs.Copying.{AreAlikeItems}

-- alike items are numbered alike
pub alike-among : (items others : List StatedItem) (c b : ℕ) → AreAlikeItems items others → items_among c b items ≡ items_among c b others
alike-among [] [] c b alike = refl
alike-among [] (other ∷ others) c b alike = absurd alike
alike-among (i ∷ items) [] c b alike = absurd alike
alike-among (stated_cloud n count fields ∷ items) (stated_cloud m other rows ∷ others) c b alike = ap (λ xs. item.Cloud c ∷ xs) (alike-among items others (c + 1) b alike.1)
alike-among (stated_cloud n count fields ∷ items) (stated_blob m size ∷ others) c b alike = absurd alike.0
alike-among (stated_blob n size ∷ items) (stated_cloud m other rows ∷ others) c b alike = absurd alike.0
alike-among (stated_blob n size ∷ items) (stated_blob m length ∷ others) c b alike = ap (λ xs. item.Blob b ∷ xs) (alike-among items others c (b + 1) alike.1)

pub alike-at : (items others : List StatedItem) (i : ℕ) (x y : StatedItem) → AreAlikeItems items others → slice_get items i ≡ Some x → slice_get others i ≡ Some y → IsAlikeItem x y
alike-at [] others i x y alike here there = absurd cc
alike-at (z ∷ items) [] i x y alike here there = absurd alike
alike-at (z ∷ items) (w ∷ others) zero x y alike here there =
    let left : z ≡ x = cc in
    let right : w ≡ y = cc in
    subst (λ (a : StatedItem). IsAlikeItem a y) left (subst (λ (b : StatedItem). IsAlikeItem z b) right alike.0)
alike-at (z ∷ items) (w ∷ others) (suc i) x y alike here there = alike-at items others i x y alike.1 here there

pub alike-count : (items others : List StatedItem) → AreAlikeItems items others → length items ≡ length others
alike-count [] [] alike = refl
alike-count [] (other ∷ others) alike = absurd alike
alike-count (i ∷ items) [] alike = absurd alike
alike-count (i ∷ items) (other ∷ others) alike = ap suc (alike-count items others alike.1)
