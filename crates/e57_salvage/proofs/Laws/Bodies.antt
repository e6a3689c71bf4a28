-- What is saved is held by the clouds and blobs with their new counts.
use Rattle.std.specs.Prelude.{◌≡◌, ℕ, zero, suc, ◌+◌, ◌^◌, ◌<◌, ◌≤◌, true, false, is_none, List, [], ◌∷◌, length, map, get_or, Option, Some, None}
use Rattle.std.specs.List.{AllByRecursion}
use Rattle.std.proofs.Common.{refl, ap, arith, ⊎_elim}
use Rattle.std.proofs.lemmas.Bool.{cases_Bool}
use Rattle.e57_cloud.specs.Cloud.{Cloud}
use Rattle.e57_nodes.specs.Items.{StatedItem, stated_cloud, stated_blob, leaves_of}
use Rattle.e57_nodes.proofs.Laws.Sound.{IsSoundItem}
use Rattle.e57_verdict.specs.Blob.{Blob, blob_fault, blob_bytes}
use Rattle.e57_verdict.specs.Things.{Thing, things_at, record_count}
use Rattle.e57_plain.proofs.Laws.Forms.{Form, cloud_form, blob_form, form_of, AreFormBodies}
use Rattle.e57_plain.proofs.Laws.Sections.{sound-kinds}
use Rattle.e57_plain.proofs.Laws.Accepted.{blob-length}
use Rattle.e57_base.proofs.Options.{option_or_parts}
use Rattle.e57_spans.specs.Lost.{kept_count}
use Rattle.e57_spans.proofs.Laws.Items.{kept-few}
use Rattle.e57_spans.proofs.Laws.Saved.{saved-items}
use Rattle.e57_salvage.specs.Blobs.{blob_loss, saved_bytes}
use Rattle.e57_salvage.specs.Lines.{records_kept}
use Rattle.e57_salvage.specs.Saved.{saved_body, saved_count}
use Rattle.e57_salvage.proofs.Laws.Recounted.{AreUnsigned, FewItems}
use Rattle.e57_salvage.proofs.Laws.Counts.{recounted}

-- Of clouds and blobs whose limits are in order the saved bodies have as many records and bytes as are counted, and each item is one of
-- its field.
pub saved-bodies : (file : List ℕ) (nodes : ℕ) (items : List StatedItem) (offsets : List ℕ) → length items ≡ length offsets → AllByRecursion (IsSoundItem nodes) items
    → AreFormBodies (recounted (map (saved_count file) (things_at items offsets)) (map form_of items)) (map (saved_body file) (things_at items offsets))
saved-bodies file nodes [] offsets same sound = tt
saved-bodies file nodes (item ∷ items) [] same sound = absurd (omega arith)
saved-bodies file nodes (stated_cloud n count fields ∷ items) (offset ∷ offsets) same sound =
    (saved-items file (record { node = n; offset = offset; count = count; leaves = leaves_of fields }) (sound-kinds nodes fields sound.0.each), saved-bodies file nodes items offsets (omega arith) sound.1)
saved-bodies file nodes (stated_blob n size ∷ items) (offset ∷ offsets) same sound = (refl, saved-bodies file nodes items offsets (omega arith) sound.1)

-- ---- the counts are small

blob-small : (file : List ℕ) (b : Blob) → length (saved_bytes file b) ≤ b.length
unfolding saved_bytes blob_loss
blob-small file b =
    ⊎_elim
    (λ (kept : is_none (blob_loss file b) ≡ true). rw kept (whole (blob-length file b (option_or_parts (blob_fault file b) _ (none-is (blob_loss file b) kept)).0)))
    (λ (lost : is_none (blob_loss file b) ≡ false). rw lost (omega arith))
    (cases_Bool (is_none (blob_loss file b)))
  where
    none-is : {A : Type 0} (o : Option A) → is_none o ≡ true → o ≡ None
    none-is None is = refl
    none-is (Some found) is = cc

    whole : length (blob_bytes file b) ≡ b.length → length (blob_bytes file b) ≤ b.length
    whole same = omega (arith, same)

get-map : (file : List ℕ) (things : List Thing) (i : ℕ) → AllByRecursion (λ (thing : Thing). saved_count file thing < 2 ^ 64) things → get_or (map (saved_count file) things) i 0 < 2 ^ 64
get-map file [] i small = omega arith
get-map file (thing ∷ things) zero small = small.0
get-map file (thing ∷ things) (suc i) small = get-map file things i small.1

things-small : (file : List ℕ) (nodes : ℕ) (items : List StatedItem) (offsets : List ℕ) → length items ≡ length offsets → AllByRecursion (IsSoundItem nodes) items → AllByRecursion (λ (thing : Thing). saved_count file thing < 2 ^ 64) (things_at items offsets)
things-small file nodes [] offsets same sound = tt
things-small file nodes (item ∷ items) [] same sound = absurd (omega arith)
things-small file nodes (stated_cloud n count fields ∷ items) (offset ∷ offsets) same sound =
    let c : Cloud = record { node = n; offset = offset; count = count; leaves = leaves_of fields } in
    let few = kept-few file c in
    let most = sound.0.few_records in
    (omega arith, things-small file nodes items offsets (omega arith) sound.1)
things-small file nodes (stated_blob n size ∷ items) (offset ∷ offsets) same sound =
    let b : Blob = record { node = n; offset = offset; length = size } in
    let few = blob-small file b in
    let most = sound.0.in_range in
    (omega arith, things-small file nodes items offsets (omega arith) sound.1)

pub small-saved : (file : List ℕ) (nodes : ℕ) (items : List StatedItem) (offsets : List ℕ) → length items ≡ length offsets → AllByRecursion (IsSoundItem nodes) items → AreUnsigned (map (saved_count file) (things_at items offsets))
small-saved file nodes items offsets same sound i = get-map file (things_at items offsets) i (things-small file nodes items offsets same sound)

pub few-saved : (file : List ℕ) (nodes : ℕ) (items : List StatedItem) (offsets : List ℕ) → length items ≡ length offsets → AllByRecursion (IsSoundItem nodes) items → FewItems items (map (saved_count file) (things_at items offsets))
few-saved file nodes [] offsets same sound = tt
few-saved file nodes (item ∷ items) [] same sound = absurd (omega arith)
few-saved file nodes (stated_cloud n count fields ∷ items) (offset ∷ offsets) same sound =
    let c : Cloud = record { node = n; offset = offset; count = count; leaves = leaves_of fields } in
    let few = kept-few file c in
    let most = sound.0.few_records in
    (omega arith, few-saved file nodes items offsets (omega arith) sound.1)
few-saved file nodes (stated_blob n size ∷ items) (offset ∷ offsets) same sound = few-saved file nodes items offsets (omega arith) sound.1

-- ---- how many records there are

abbrev pub form_records : List Form → ℕ
form_records [] = 0
form_records (cloud_form count kinds ∷ forms) = count + form_records forms
form_records (blob_form size ∷ forms) = form_records forms

pub records-forms : (items : List StatedItem) → record_count items ≡ form_records (map form_of items)
records-forms [] = refl
records-forms (stated_cloud n count fields ∷ items) = ap (λ (k : ℕ). count + k) (records-forms items)
records-forms (stated_blob n size ∷ items) = records-forms items

pub records-saved : (file : List ℕ) (items : List StatedItem) (offsets : List ℕ) → length items ≡ length offsets
    → form_records (recounted (map (saved_count file) (things_at items offsets)) (map form_of items)) ≡ records_kept file (things_at items offsets)
records-saved file [] offsets same = refl
records-saved file (item ∷ items) [] same = absurd (omega arith)
records-saved file (stated_cloud n count fields ∷ items) (offset ∷ offsets) same =
    ap (λ (k : ℕ). kept_count file (record { node = n; offset = offset; count = count; leaves = leaves_of fields }) + k) (records-saved file items offsets (omega arith))
records-saved file (stated_blob n size ∷ items) (offset ∷ offsets) same = records-saved file items offsets (omega arith)
