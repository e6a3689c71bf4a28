-- Items put behind those of one field of a cloud.
use Rattle.std.proofs.Common.{◌≡◌, ℕ, zero, suc, ◌<◌, Bool, false, List, [], ◌∷◌, length, set, get_or, Option, refl, sym, ap, subst, ◌∙◌, arith}
use Rattle.std.specs.Prelude.{slice_set}
use Rattle.std.proofs.lemmas.List.{length-map}
use Rattle.e57_layout.specs.Values.{Value}
use Rattle.e57_chunk_out.specs.Waiting.{Waiting, IsWaiting, with_more}
use Rattle.e57_chunk_out.specs.Grouping.{kinds_of}
use Rattle.e57_chunk_out.specs.Standing.{Cloud}
use Rattle.e57_chunk_out.specs.Clouds.{cloud_of, IsCloudUnless}
use Rattle.e57_chunk_out.specs.CloudCalls.{with_items}
use Rattle.e57_chunk_out.specs.declared.section.Begun.{Begun}
use Rattle.e57_chunk_out.specs.declared.turn.Chunks.{Chunks}
use Rattle.e57_chunk_out.proofs.Adding.{added, added_is}

read-set : {A : Type 0} (xs : List A) (i : ℕ) (v d : A) → i < length xs → get_or (set xs i v) i d ≡ v
read-set [] i v d h = absurd (omega arith)
read-set (x ∷ xs) zero v d h = refl
read-set (x ∷ xs) (suc i) v d h = read-set xs i v d (omega (arith, h))

module _ (fields : List Waiting) (chunks : Chunks) (count : ℕ) (section : Option Begun) (spent : Bool) (f : ℕ) (self : Cloud) (is : cloud_of fields chunks count section spent ≡ self) (unspent : self.is_spent ≡ false) (there : f < length self.kinds) (w now : Waiting) (values : List Value) (at : w ≡ get_or fields f w) (more : now ≡ with_more values w) where
  not-spent : spent ≡ false
  not-spent = ap (λ (c : Cloud). c.is_spent) is ∙ unspent

  field-there : f < length fields
  field-there =
      let kinds : length (kinds_of fields) ≡ length self.kinds = ap (λ (c : Cloud). length c.kinds) is in
      let count : length (kinds_of fields) ≡ length fields = length-map fields (λ (v : Waiting). v.kind) in
      omega (arith, kinds, count, there)

  -- the field was read again
  pub stays_cloud : (got : Waiting) → got ≡ get_or (slice_set fields f now) f got → IsWaiting got → IsCloudUnless spent fields chunks count section → IsCloudUnless spent (slice_set fields f now) chunks count section
  stays_cloud got read waiting cloud =
      let same : got ≡ now = read ∙ read-set fields f now got field-there in
      subst (λ (b : Bool). IsCloudUnless b (slice_set fields f now) chunks count section) (sym not-spent)
      (added fields f w now values field-there at more chunks count section (subst (λ (b : Bool). IsCloudUnless b fields chunks count section) not-spent cloud) (subst IsWaiting same waiting))

  pub has_items : cloud_of (slice_set fields f now) chunks count section spent ≡ with_items self f values
  has_items =
      subst (λ (b : Bool). cloud_of (slice_set fields f now) chunks count section b ≡ with_items (cloud_of fields chunks count section b) f values) (sym not-spent)
      (added_is fields f w now values field-there at more chunks count section)
      ∙ ap (λ (c : Cloud). with_items c f values) is
