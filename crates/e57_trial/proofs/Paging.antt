-- The section of the content's cloud, with zeros up to the end of its last page.
use Rattle.std.proofs.Common.{◌≡◌, ℕ, ◌+◌, ◌-◌, ◌*◌, ◌/◌, ◌%◌, ◌<◌, ◌≤◌, false, List, [], ◌∷◌, ◌++◌, length, replicate, Option, Some, None, refl, sym, subst, ap, ◌∙◌, arith, append_assoc, length-append}
use Rattle.std.specs.Prelude.{IfSome, ◌==◌}
use Rattle.std.specs.Option.{option_map}
use Rattle.std.proofs.lemmas.Bool.{ne_eqb}
use Rattle.e57_base.specs.Target.{TargetView}
use Rattle.e57_layout.specs.Written.{physical, section_spelled}
use Rattle.e57_layout.proofs.Laws.Written.{length-section_spelled}
use Rattle.e57_page_out.specs.Sealed.{filled, pages_for}
use Rattle.e57_page_out.specs.Sequences.{Puts}
use Rattle.e57_page_out.specs.Writing.{Writing, Writes, IsBeingWritten}
use Rattle.e57_page_out.proofs.Sequences.{puts_nothing}
use Rattle.e57_page_out.proofs.WritingLaws.{keeps_both}
use Rattle.e57_nodes.specs.Items.{StatedItem, stated_cloud, stated_items}
use Rattle.e57_nodes.specs.Shape.{shape_of}
use Rattle.e57_verdict.specs.Things.{records_body}
use Rattle.e57_plain.specs.Valid.{AreBodies}
use Rattle.e57_plain.specs.Written.{body_section, section_offset, whole_pages}
use Rattle.e57_plain.proofs.Laws.Pages.{length-whole_pages, whole_pages-is}
use Rattle.e57_copy.specs.Several.{PutsItems}
use Rattle.e57_copy.proofs.Clouds.{offset_some}
use Rattle.e57_copy.proofs.Several.{puts-more, puts-none}
use Rattle.e57_trial.specs.Content.{columns_from, most_records, trial_tree}
use Rattle.e57_trial.specs.Records.{trial_bodies, trial_kinds}
use Rattle.e57_trial.proofs.Columns.{columns_are}
use Rattle.e57_trial.proofs.Trees.{stated, trial_fields}

-- ---- zeros up to the end of a page

same_zeros : (size n : ℕ) → size % 1020 ≡ 0 → 1020 * pages_for (size + n) - (size + n) ≡ 1020 * pages_for n - n
unfolding pages_for
same_zeros size n whole = omega (arith, whole)

same_end : (size n : ℕ) → size % 1020 ≡ 0 → 1020 * pages_for (size + n) ≡ size + 1020 * pages_for n
unfolding pages_for
same_end size n whole = omega (arith, whole)

filled_behind : (size : ℕ) (b bytes : List ℕ) → size % 1020 ≡ 0 → length b ≡ size → filled (pages_for (size + length bytes)) (b ++ bytes) ≡ b ++ whole_pages bytes
unfolding filled
filled_behind size b bytes whole long =
    let both : length (b ++ bytes) ≡ size + length bytes = omega (arith, length-append b bytes, long) in
    ap (λ k. (b ++ bytes) ++ replicate (1020 * pages_for (size + length bytes) - k) 0) both
    ∙ ap (λ k. (b ++ bytes) ++ replicate k 0) (same_zeros size (length bytes) whole)
    ∙ append_assoc b bytes (replicate (1020 * pages_for (length bytes) - length bytes) 0)
    ∙ ap (λ (xs : List ℕ). b ++ xs) (sym (whole_pages-is bytes))

told_filled : (size : ℕ) (bytes : List ℕ) (told : Option (List ℕ)) → size % 1020 ≡ 0 → IfSome told (λ b. length b ≡ size) → option_map (filled (pages_for (size + length bytes))) (option_map (λ b. b ++ bytes) told) ≡ option_map (λ b. b ++ whole_pages bytes) told
told_filled size bytes None whole long = refl
told_filled size bytes (Some b) whole long = ap Some (filled_behind size b bytes whole long)

module _ {T : Type 0} (view : T → TargetView) (out mid now : Writing T) (state : IsBeingWritten view out) (whole : out.size % 1020 ≡ 0) where
  ends_page : (bytes : List ℕ) → Puts view out bytes mid → Writes view mid (option_map (filled (pages_for mid.size)) mid.told_bytes) (1020 * pages_for mid.size) mid.held now → Puts view out (whole_pages bytes) now
  ends_page bytes puts ends = record {
    bytes = ends.bytes
        ∙ ap (λ k. option_map (filled (pages_for k)) mid.told_bytes) puts.size
        ∙ ap (option_map (filled (pages_for (out.size + length bytes)))) puts.bytes
        ∙ told_filled out.size bytes out.told_bytes whole state.bytes;
    size = ends.size ∙ ap (λ k. 1020 * pages_for k) puts.size ∙ same_end out.size (length bytes) whole ∙ ap (λ k. out.size + k) (sym (length-whole_pages bytes));
    held = ends.held ∙ puts.held;
    state = ends.state;
    target = keeps_both (view out.target) (view mid.target) (view now.target) puts.target ends.target;
  }

-- ---- the section of the cloud

abbrev cloud : ℕ → StatedItem
cloud count = stated_cloud 3 count trial_fields

pub section_none : (n q start : ℕ) → body_section n q (cloud 0) (records_body (columns_from start 0 0)) ≡ []
unfolding body_section
section_none n q start = refl

pub section_some : (n q start count : ℕ) → 0 < count → body_section n q (cloud count) (records_body (columns_from start 0 count)) ≡ section_spelled q trial_kinds n count (columns_from start 0 count)
unfolding body_section
section_some n q start count some =
    let counted : (count == 0) ≡ false = ne_eqb count 0 (λ none. omega (arith, some, none)) in
    rw counted refl

pub bodies_are : (start count : ℕ) → count ≤ most_records → AreBodies (stated_items (shape_of (trial_tree count))) (trial_bodies start count)
bodies_are start count few = subst (λ (items : List StatedItem). AreBodies items (trial_bodies start count)) (sym (stated count few)) (columns_are start 0 count, tt)

-- one item
module _ {T : Type 0} (view : T → TargetView) (n start count : ℕ) (few : count ≤ most_records) (out : Writing T) (state : IsBeingWritten view out) (begun : out.size ≡ 1020) where
  whole_first : out.size % 1020 ≡ 0
  whole_first = omega (arith, begun)

  only_item : (offset : ℕ) (now : Writing T) → offset ≡ section_offset (out.size / 1020) (body_section n out.size (cloud count) (records_body (columns_from start 0 count)))
      → Puts view out (whole_pages (body_section n out.size (cloud count) (records_body (columns_from start 0 count)))) now
      → PutsItems view n (stated_items (shape_of (trial_tree count))) (trial_bodies start count) out (offset ∷ []) now
  only_item offset now begins wrote =
      subst (λ (items : List StatedItem). PutsItems view n items (trial_bodies start count) out (offset ∷ []) now) (sym (stated count few))
      (puts-more view n [] [] (cloud count) (records_body (columns_from start 0 count)) out out now [] offset whole_first refl (puts-none view n out state) (record { begins = begins; wrote = wrote }))

  pub puts_section : (mid now : Writing T) (offset : ℕ) → 0 < count → (offset ≡ physical out.size) × Puts view out (section_spelled out.size trial_kinds n count (columns_from start 0 count)) mid
      → Writes view mid (option_map (filled (pages_for mid.size)) mid.told_bytes) (1020 * pages_for mid.size) mid.held now
      → PutsItems view n (stated_items (shape_of (trial_tree count))) (trial_bodies start count) out (offset ∷ []) now
  puts_section mid now offset some puts ends =
      let section = section_some n out.size start count some in
      let spelled = section_spelled out.size trial_kinds n count (columns_from start 0 count) in
      let long = length-section_spelled out.size trial_kinds n count (columns_from start 0 count) in
      only_item offset now
      (puts.0 ∙ sym (offset_some out.size spelled whole_first (omega (arith, long))) ∙ ap (section_offset (out.size / 1020)) (sym section))
      (subst (λ (xs : List ℕ). Puts view out (whole_pages xs) now) (sym section) (ends_page view out mid now state whole_first spelled puts.1 ends))

  no_pages : whole_pages [] ≡ []
  unfolding whole_pages filled pages_for
  no_pages = refl

  pub puts_no_section : count ≡ 0 → PutsItems view n (stated_items (shape_of (trial_tree count))) (trial_bodies start count) out (0 ∷ []) out
  puts_no_section none =
      let section : body_section n out.size (cloud count) (records_body (columns_from start 0 count)) ≡ [] =
      ap (λ m. body_section n out.size (cloud m) (records_body (columns_from start 0 m))) none ∙ section_none n out.size start in
      only_item 0 out
      (ap (section_offset (out.size / 1020)) (sym section))
      (subst (λ (xs : List ℕ). Puts view out (whole_pages xs) out) (sym section) (subst (λ (xs : List ℕ). Puts view out xs out) (sym no_pages) (puts_nothing view out state)))
