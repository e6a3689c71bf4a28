-- What is kept of items and bodies one after another: of the first ones, of one more, and of all.
use Rattle.std.proofs.Common.{◌≡◌, ℕ, zero, suc, ◌+◌, Bool, true, false, List, [], ◌∷◌, ◌++◌, length, map, take, Some, slice_get, refl, ap, arith}
use Rattle.e57_layout.specs.Values.{ItemKind, Value}
use Rattle.e57_layout.specs.declared.field.Field.{Field}
use Rattle.e57_layout.specs.Values.{item_kind}
use Rattle.e57_nodes.specs.Items.{StatedItem, stated_cloud, stated_blob}
use Rattle.e57_tree.specs.Held.{items_among}
use Rattle.e57_tree.specs.declared.items.Item.TheVariants as item
use Rattle.e57_verdict.specs.Things.{Body, records_body, bytes_body, cloud_count}
use Rattle.e57_plain.specs.Kept.{chosen, cloud_columns, with_columns}
use Rattle.e57_plain.specs.Valid.{IsBody, AreBodies, kinds_in}
use Rattle.e57_plain.proofs.Laws.Forms.{Form, blob_form, cloud_form, form_of}
use Rattle.e57_plain.proofs.Laws.Changed.{changed}
use Rattle.e57_filter.specs.Filtering.{with_kept}

-- ---- the item behind some is cloud k

abbrev pub is_here : ℕ → List StatedItem → StatedItem → Bool
is_here k [] (stated_blob n size) = false
is_here zero [] (stated_cloud n count fields) = true
is_here (suc k) [] (stated_cloud n count fields) = false
is_here k (stated_blob n size ∷ items) x = is_here k items x
is_here zero (stated_cloud n count fields ∷ items) x = false
is_here (suc k) (stated_cloud n count fields ∷ items) x = is_here k items x

pub here-blob : (k : ℕ) (items : List StatedItem) (n size : ℕ) → is_here k items (stated_blob n size) ≡ false
here-blob k [] n size = refl
here-blob k (stated_blob m length ∷ items) n size = here-blob k items n size
here-blob zero (stated_cloud m count fields ∷ items) n size = refl
here-blob (suc k) (stated_cloud m count fields ∷ items) n size = here-blob k items n size

pub here-cloud : (k : ℕ) (items : List StatedItem) (n count : ℕ) (fields : List Field) → cloud_count items ≡ k → is_here k items (stated_cloud n count fields) ≡ true
here-cloud zero [] n count fields same = refl
here-cloud (suc k) [] n count fields same = absurd (omega (arith, same))
here-cloud k (stated_blob m length ∷ items) n count fields same = here-cloud k items n count fields same
here-cloud zero (stated_cloud m other others ∷ items) n count fields same = absurd (omega (arith, same))
here-cloud (suc k) (stated_cloud m other others ∷ items) n count fields same = here-cloud k items n count fields (omega (arith, same))

pub here-other : (k : ℕ) (items : List StatedItem) (n count : ℕ) (fields : List Field) → (cloud_count items ≡ k → ⊥) → is_here k items (stated_cloud n count fields) ≡ false
here-other zero [] n count fields differ = absurd (differ refl)
here-other (suc k) [] n count fields differ = refl
here-other k (stated_blob m length ∷ items) n count fields differ = here-other k items n count fields differ
here-other zero (stated_cloud m other others ∷ items) n count fields differ = refl
here-other (suc k) (stated_cloud m other others ∷ items) n count fields differ = here-other k items n count fields (λ same. differ (omega (arith, same)))

same_some : {X : Type 0} (x y : X) → Some x ≡ Some y → x ≡ y
same_some x y is = cc

-- the number of a cloud is how many stand before it
cloud-number-from : (a b : ℕ) (items : List StatedItem) (j c : ℕ) → slice_get (items_among a b items) j ≡ Some (item.Cloud c) → c ≡ a + cloud_count (take j items)
cloud-number-from a b [] j c got = absurd cc
cloud-number-from a b (stated_blob n size ∷ items) zero c got = absurd cc
cloud-number-from a b (stated_blob n size ∷ items) (suc j) c got = cloud-number-from a (b + 1) items j c got
cloud-number-from a b (stated_cloud n count fields ∷ items) zero c got = let same : a ≡ c = cc in omega (arith, same)
cloud-number-from a b (stated_cloud n count fields ∷ items) (suc j) c got = let later = cloud-number-from (a + 1) b items j c got in omega (arith, later)

pub cloud-number : (items : List StatedItem) (j c : ℕ) → slice_get (items_among 0 0 items) j ≡ Some (item.Cloud c) → c ≡ cloud_count (take j items)
cloud-number items j c got = let is = cloud-number-from 0 0 items j c got in omega (arith, is)

-- ---- items

-- what is stated of it in the new tree
abbrev pub new_item : Bool → List Bool → ℕ → StatedItem → StatedItem
new_item b flags number (stated_blob n size) = stated_blob n size
new_item true flags number (stated_cloud n count fields) = stated_cloud n number (chosen flags fields)
new_item false flags number (stated_cloud n count fields) = stated_cloud n count fields

pub kept-more : (k : ℕ) (flags : List Bool) (number : ℕ) (items : List StatedItem) (x : StatedItem) (after : List StatedItem)
    → (rest : List StatedItem) × (with_kept k flags number (items ++ x ∷ after) ≡ with_kept k flags number items ++ new_item (is_here k items x) flags number x ∷ rest)
kept-more k flags number [] (stated_blob n size) after = (with_kept k flags number after, refl)
kept-more zero flags number [] (stated_cloud n count fields) after = (after, refl)
kept-more (suc k) flags number [] (stated_cloud n count fields) after = (with_kept k flags number after, refl)
kept-more k flags number (stated_blob n size ∷ items) x after = let later = kept-more k flags number items x after in (later.0, ap (λ (xs : List StatedItem). stated_blob n size ∷ xs) later.1)
kept-more zero flags number (stated_cloud n count fields ∷ items) (stated_blob m size) after = (after, refl)
kept-more zero flags number (stated_cloud n count fields ∷ items) (stated_cloud m other others) after = (after, refl)
kept-more (suc k) flags number (stated_cloud n count fields ∷ items) x after = let later = kept-more k flags number items x after in (later.0, ap (λ (xs : List StatedItem). stated_cloud n count fields ∷ xs) later.1)

pub kept-one : (k : ℕ) (flags : List Bool) (number : ℕ) (items : List StatedItem) (x : StatedItem) → with_kept k flags number (items ++ x ∷ []) ≡ with_kept k flags number items ++ new_item (is_here k items x) flags number x ∷ []
kept-one k flags number [] (stated_blob n size) = refl
kept-one zero flags number [] (stated_cloud n count fields) = refl
kept-one (suc k) flags number [] (stated_cloud n count fields) = refl
kept-one k flags number (stated_blob n size ∷ items) x = ap (λ (xs : List StatedItem). stated_blob n size ∷ xs) (kept-one k flags number items x)
kept-one zero flags number (stated_cloud n count fields ∷ items) (stated_blob m size) = refl
kept-one zero flags number (stated_cloud n count fields ∷ items) (stated_cloud m other others) = refl
kept-one (suc k) flags number (stated_cloud n count fields ∷ items) x = ap (λ (xs : List StatedItem). stated_cloud n count fields ∷ xs) (kept-one k flags number items x)

-- the cloud isn't among those before it
pub kept-before : (k : ℕ) (flags : List Bool) (number : ℕ) (items : List StatedItem) (x : StatedItem) → is_here k items x ≡ true → with_kept k flags number items ≡ items
kept-before k flags number [] x here = refl
kept-before k flags number (stated_blob n size ∷ items) x here = ap (λ (xs : List StatedItem). stated_blob n size ∷ xs) (kept-before k flags number items x here)
kept-before zero flags number (stated_cloud n count fields ∷ items) x here = absurd cc
kept-before (suc k) flags number (stated_cloud n count fields ∷ items) x here = ap (λ (xs : List StatedItem). stated_cloud n count fields ∷ xs) (kept-before k flags number items x here)

pub length-kept : (k : ℕ) (flags : List Bool) (number : ℕ) (items : List StatedItem) → length (with_kept k flags number items) ≡ length items
length-kept k flags number [] = refl
length-kept k flags number (stated_blob n size ∷ items) = ap suc (length-kept k flags number items)
length-kept zero flags number (stated_cloud n count fields ∷ items) = refl
length-kept (suc k) flags number (stated_cloud n count fields ∷ items) = ap suc (length-kept k flags number items)

-- ---- bodies

abbrev pub new_body : Bool → List (List Value) → Body → Body
new_body b columns (bytes_body bytes) = bytes_body bytes
new_body true columns (records_body old) = records_body columns
new_body false columns (records_body old) = records_body old

pub columns-more : (k : ℕ) (columns : List (List Value)) (items : List StatedItem) (bodies : List Body) (x : StatedItem) (body : Body) (after : List Body) → AreBodies items bodies → IsBody x body
    → (rest : List Body) × (with_columns k columns (bodies ++ body ∷ after) ≡ with_columns k columns bodies ++ new_body (is_here k items x) columns body ∷ rest)
columns-more k columns [] [] (stated_blob n size) (bytes_body bytes) after are is = (with_columns k columns after, refl)
columns-more k columns [] [] (stated_blob n size) (records_body old) after are is = absurd is
columns-more zero columns [] [] (stated_cloud n count fields) (records_body old) after are is = (after, refl)
columns-more (suc k) columns [] [] (stated_cloud n count fields) (records_body old) after are is = (with_columns k columns after, refl)
columns-more k columns [] [] (stated_cloud n count fields) (bytes_body bytes) after are is = absurd is
columns-more k columns [] (b ∷ bodies) x body after are is = absurd are
columns-more k columns (i ∷ items) [] x body after are is = absurd are
columns-more k columns (stated_blob n size ∷ items) (records_body old ∷ bodies) x body after are is = absurd are.0
columns-more k columns (stated_cloud n count fields ∷ items) (bytes_body bytes ∷ bodies) x body after are is = absurd are.0
columns-more k columns (stated_blob n size ∷ items) (bytes_body bytes ∷ bodies) x body after are is =
    let later = columns-more k columns items bodies x body after are.1 is in (later.0, ap (λ (bs : List Body). bytes_body bytes ∷ bs) later.1)
columns-more zero columns (stated_cloud n count fields ∷ items) (records_body old ∷ bodies) x (bytes_body bytes) after are is = (after, refl)
columns-more zero columns (stated_cloud n count fields ∷ items) (records_body old ∷ bodies) x (records_body was) after are is = (after, refl)
columns-more (suc k) columns (stated_cloud n count fields ∷ items) (records_body old ∷ bodies) x body after are is =
    let later = columns-more k columns items bodies x body after are.1 is in (later.0, ap (λ (bs : List Body). records_body old ∷ bs) later.1)

pub columns-one : (k : ℕ) (columns : List (List Value)) (items : List StatedItem) (bodies : List Body) (x : StatedItem) (body : Body) → AreBodies items bodies → IsBody x body
    → with_columns k columns (bodies ++ body ∷ []) ≡ with_columns k columns bodies ++ new_body (is_here k items x) columns body ∷ []
columns-one k columns [] [] (stated_blob n size) (bytes_body bytes) are is = refl
columns-one k columns [] [] (stated_blob n size) (records_body old) are is = absurd is
columns-one zero columns [] [] (stated_cloud n count fields) (records_body old) are is = refl
columns-one (suc k) columns [] [] (stated_cloud n count fields) (records_body old) are is = refl
columns-one k columns [] [] (stated_cloud n count fields) (bytes_body bytes) are is = absurd is
columns-one k columns [] (b ∷ bodies) x body are is = absurd are
columns-one k columns (i ∷ items) [] x body are is = absurd are
columns-one k columns (stated_blob n size ∷ items) (records_body old ∷ bodies) x body are is = absurd are.0
columns-one k columns (stated_cloud n count fields ∷ items) (bytes_body bytes ∷ bodies) x body are is = absurd are.0
columns-one k columns (stated_blob n size ∷ items) (bytes_body bytes ∷ bodies) x body are is = ap (λ (bs : List Body). bytes_body bytes ∷ bs) (columns-one k columns items bodies x body are.1 is)
columns-one zero columns (stated_cloud n count fields ∷ items) (records_body old ∷ bodies) x (bytes_body bytes) are is = refl
columns-one zero columns (stated_cloud n count fields ∷ items) (records_body old ∷ bodies) x (records_body was) are is = refl
columns-one (suc k) columns (stated_cloud n count fields ∷ items) (records_body old ∷ bodies) x body are is = ap (λ (bs : List Body). records_body old ∷ bs) (columns-one k columns items bodies x body are.1 is)

-- the cloud isn't among the bodies before it, and its columns are those of its body
pub columns-before : (k : ℕ) (columns : List (List Value)) (items : List StatedItem) (bodies : List Body) (x : StatedItem) → AreBodies items bodies → is_here k items x ≡ true → with_columns k columns bodies ≡ bodies
columns-before k columns [] [] x are here = refl
columns-before k columns [] (b ∷ bodies) x are here = absurd are
columns-before k columns (i ∷ items) [] x are here = absurd are
columns-before k columns (stated_blob n size ∷ items) (records_body old ∷ bodies) x are here = absurd are.0
columns-before k columns (stated_cloud n count fields ∷ items) (bytes_body bytes ∷ bodies) x are here = absurd are.0
columns-before k columns (stated_blob n size ∷ items) (bytes_body bytes ∷ bodies) x are here = ap (λ (bs : List Body). bytes_body bytes ∷ bs) (columns-before k columns items bodies x are.1 here)
columns-before zero columns (stated_cloud n count fields ∷ items) (records_body old ∷ bodies) x are here = absurd cc
columns-before (suc k) columns (stated_cloud n count fields ∷ items) (records_body old ∷ bodies) x are here = ap (λ (bs : List Body). records_body old ∷ bs) (columns-before k columns items bodies x are.1 here)

pub columns-here : (k : ℕ) (items : List StatedItem) (bodies : List Body) (x : StatedItem) (columns : List (List Value)) (after : List Body) → AreBodies items bodies → is_here k items x ≡ true → cloud_columns k (bodies ++ records_body columns ∷ after) ≡ columns
columns-here zero [] [] x columns after are here = refl
columns-here (suc k) [] [] (stated_cloud n count fields) columns after are here = absurd cc
columns-here (suc k) [] [] (stated_blob n size) columns after are here = absurd cc
columns-here k [] (b ∷ bodies) x columns after are here = absurd are
columns-here k (i ∷ items) [] x columns after are here = absurd are
columns-here k (stated_blob n size ∷ items) (records_body old ∷ bodies) x columns after are here = absurd are.0
columns-here k (stated_cloud n count fields ∷ items) (bytes_body bytes ∷ bodies) x columns after are here = absurd are.0
columns-here k (stated_blob n size ∷ items) (bytes_body bytes ∷ bodies) x columns after are here = columns-here k items bodies x columns after are.1 here
columns-here zero (stated_cloud n count fields ∷ items) (records_body old ∷ bodies) x columns after are here = absurd cc
columns-here (suc k) (stated_cloud n count fields ∷ items) (records_body old ∷ bodies) x columns after are here = columns-here k items bodies x columns after are.1 here

-- another body behind them: the columns of the cloud stay
pub columns-same : (k : ℕ) (items : List StatedItem) (bodies : List Body) (x : StatedItem) (body : Body) → AreBodies items bodies → IsBody x body → is_here k items x ≡ false → cloud_columns k (bodies ++ body ∷ []) ≡ cloud_columns k bodies
columns-same k [] [] (stated_blob n size) (bytes_body bytes) are is here = refl
columns-same k [] [] (stated_blob n size) (records_body old) are is here = absurd is
columns-same zero [] [] (stated_cloud n count fields) (records_body old) are is here = absurd cc
columns-same (suc k) [] [] (stated_cloud n count fields) (records_body old) are is here = refl
columns-same k [] [] (stated_cloud n count fields) (bytes_body bytes) are is here = absurd is
columns-same k [] (b ∷ bodies) x body are is here = absurd are
columns-same k (i ∷ items) [] x body are is here = absurd are
columns-same k (stated_blob n size ∷ items) (records_body old ∷ bodies) x body are is here = absurd are.0
columns-same k (stated_cloud n count fields ∷ items) (bytes_body bytes ∷ bodies) x body are is here = absurd are.0
columns-same k (stated_blob n size ∷ items) (bytes_body bytes ∷ bodies) x body are is here = columns-same k items bodies x body are.1 is here
columns-same zero (stated_cloud n count fields ∷ items) (records_body old ∷ bodies) x body are is here = refl
columns-same (suc k) (stated_cloud n count fields ∷ items) (records_body old ∷ bodies) x body are is here = columns-same k items bodies x body are.1 is here

-- ---- the first ones, by the columns of all

pub front-items : (k : ℕ) (flags : List Bool) (number : List (List Value) → ℕ) (items : List StatedItem) (bodies after : List Body) → AreBodies items bodies
    → with_kept k flags (number (cloud_columns k (bodies ++ after))) items ≡ with_kept k flags (number (cloud_columns k bodies)) items
front-items k flags number [] bodies after are = refl
front-items k flags number (i ∷ items) [] after are = absurd are
front-items k flags number (stated_blob n size ∷ items) (records_body old ∷ bodies) after are = absurd are.0
front-items k flags number (stated_cloud n count fields ∷ items) (bytes_body bytes ∷ bodies) after are = absurd are.0
front-items k flags number (stated_blob n size ∷ items) (bytes_body bytes ∷ bodies) after are = ap (λ (xs : List StatedItem). stated_blob n size ∷ xs) (front-items k flags number items bodies after are.1)
front-items zero flags number (stated_cloud n count fields ∷ items) (records_body old ∷ bodies) after are = refl
front-items (suc k) flags number (stated_cloud n count fields ∷ items) (records_body old ∷ bodies) after are = ap (λ (xs : List StatedItem). stated_cloud n count fields ∷ xs) (front-items k flags number items bodies after are.1)

pub front-bodies : (k : ℕ) (change : List (List Value) → List (List Value)) (bodies after : List Body) → with_columns k (change (cloud_columns k (bodies ++ after))) bodies ≡ with_columns k (change (cloud_columns k bodies)) bodies
front-bodies k change [] after = refl
front-bodies k change (bytes_body bytes ∷ bodies) after = ap (λ (bs : List Body). bytes_body bytes ∷ bs) (front-bodies k change bodies after)
front-bodies zero change (records_body old ∷ bodies) after = refl
front-bodies (suc k) change (records_body old ∷ bodies) after = ap (λ (bs : List Body). records_body old ∷ bs) (front-bodies k change bodies after)

-- ---- forms

chosen-kinds : (flags : List Bool) (fields : List Field) → chosen flags (kinds_in fields) ≡ kinds_in (chosen flags fields)
chosen-kinds [] fields = refl
chosen-kinds (b ∷ flags) [] = refl
chosen-kinds (true ∷ flags) (field ∷ fields) = ap (λ (kinds : List ItemKind). item_kind field.kind ∷ kinds) (chosen-kinds flags fields)
chosen-kinds (false ∷ flags) (field ∷ fields) = chosen-kinds flags fields

pub kept-forms : (k : ℕ) (flags : List Bool) (number : ℕ) (items : List StatedItem) → changed k flags number (map form_of items) ≡ map form_of (with_kept k flags number items)
kept-forms k flags number [] = refl
kept-forms k flags number (stated_blob n size ∷ items) = ap (λ (forms : List Form). blob_form size ∷ forms) (kept-forms k flags number items)
kept-forms zero flags number (stated_cloud n count fields ∷ items) = ap (λ (kinds : List ItemKind). cloud_form number kinds ∷ map form_of items) (chosen-kinds flags fields)
kept-forms (suc k) flags number (stated_cloud n count fields ∷ items) = ap (λ (forms : List Form). cloud_form count (kinds_in fields) ∷ forms) (kept-forms k flags number items)
