-- What is kept of a cloud, put as an item: with zeros up to the end of its last page.
use Rattle.std.proofs.Common.{◌≡◌, ℕ, ◌+◌, ◌-◌, ◌*◌, ◌%◌, List, [], ◌∷◌, ◌++◌, length, replicate, Option, Some, None, refl, sym, ap, subst, ◌∙◌, arith, append_assoc, length-append}
use Rattle.std.specs.Prelude.{IfSome}
use Rattle.std.specs.Option.{option_map}
use Rattle.e57_base.proofs.CountLaws.{rose_before}
use Rattle.e57_base.specs.Source.{SourceView}
use Rattle.e57_base.specs.Target.{TargetView}
use Rattle.e57_base.specs.declared.fault.RunFault.TheVariants.{Out}
use Rattle.e57_layout.specs.Values.{ItemKind, integers, words, strings}
use Rattle.e57_layout.specs.declared.field.Field.{Field}
use Rattle.e57_page_out.specs.Sealed.{filled, pages_for}
use Rattle.e57_page_out.specs.Writing.{Writing, Writes, IsBeingWritten, IsBrokenOff}
use Rattle.e57_page_out.specs.Sequences.{Puts}
use Rattle.e57_page_out.proofs.Sequences.{leaves_later, leaves_page}
use Rattle.e57_page_out.proofs.WritingLaws.{keeps_both}
use Rattle.e57_plain.specs.Written.{body_section, whole_pages}
use Rattle.e57_plain.proofs.Laws.Pages.{length-whole_pages, whole_pages-is}
use Rattle.e57_elements.specs.Tree.{Element, preorder}
use Rattle.e57_elements.specs.declared.tree.RawNode.{RawNode}
use Rattle.e57_nodes.specs.Items.{StatedItem, stated_cloud, stated_blob}
use Rattle.e57_tree.specs.declared.items.Cloud.{Cloud as StatedCloud}
use Rattle.e57_tree.specs.declared.items.Item.{Item}
use Rattle.e57_verdict.specs.Things.{records_body}
use Rattle.e57_plain.specs.Kept.{Selection, chosen}
use Rattle.e57_plain.specs.Valid.{kinds_in}
use Rattle.e57_chunk_out.specs.declared.cloud_out.Written.{Written}
use Rattle.e57_copy.specs.Items.{stated_in, AreAlike, IsAlike, IsAlikeItem}
use Rattle.e57_copy.proofs.OneTree.{one-tree}
use Rattle.e57_filter.specs.Filtering.{KeepsCloud}
use Rattle.e57_filter.specs.KeptSection.{FiltersCloud, LosesFiltered}

-- ---- bytes that are put, and the rest of their last page

same_zeros : (size n : ℕ) → size % 1020 ≡ 0 → 1020 * pages_for (size + n) - (size + n) ≡ 1020 * pages_for n - n
unfolding pages_for
same_zeros size n whole = omega (arith, whole)

same_end : (size n : ℕ) → size % 1020 ≡ 0 → 1020 * pages_for (size + n) ≡ size + 1020 * pages_for n
unfolding pages_for
same_end size n whole = omega (arith, whole)

filled_behind : (size : ℕ) (b bytes : List ℕ) → size % 1020 ≡ 0 → length b ≡ size → filled (pages_for (size + length bytes)) (b ++ bytes) ≡ b ++ whole_pages bytes
unfolding filled
filled_behind size b bytes whole long =
    let both : length (b ++ bytes) ≡ size + length bytes = omega (arith, length-append b bytes, long) in
    ap (λ k. (b ++ bytes) ++ replicate (1020 * pages_for (size + length bytes) - k) 0) both
    ∙ ap (λ k. (b ++ bytes) ++ replicate k 0) (same_zeros size (length bytes) whole)
    ∙ append_assoc b bytes (replicate (1020 * pages_for (length bytes) - length bytes) 0)
    ∙ ap (λ (xs : List ℕ). b ++ xs) (sym (whole_pages-is bytes))

told_filled : (size : ℕ) (bytes : List ℕ) (told : Option (List ℕ)) → size % 1020 ≡ 0 → IfSome told (λ b. length b ≡ size) → option_map (filled (pages_for (size + length bytes))) (option_map (λ b. b ++ bytes) told) ≡ option_map (λ b. b ++ whole_pages bytes) told
told_filled size bytes None whole long = refl
told_filled size bytes (Some b) whole long = ap Some (filled_behind size b bytes whole long)

module _ {T : Type 0} (view : T → TargetView) (out mid now : Writing T) (state : IsBeingWritten view out) (whole : out.size % 1020 ≡ 0) where
  ends_page : (bytes : List ℕ) → Puts view out bytes mid → Writes view mid (option_map (filled (pages_for mid.size)) mid.told_bytes) (1020 * pages_for mid.size) mid.held now → Puts view out (whole_pages bytes) now
  ends_page bytes puts ends = record {
    bytes = ends.bytes
        ∙ ap (λ k. option_map (filled (pages_for k)) mid.told_bytes) puts.size
        ∙ ap (option_map (filled (pages_for (out.size + length bytes)))) puts.bytes
        ∙ told_filled out.size bytes out.told_bytes whole state.bytes;
    size = ends.size ∙ ap (λ k. 1020 * pages_for k) puts.size ∙ same_end out.size (length bytes) whole ∙ ap (λ k. out.size + k) (sym (length-whole_pages bytes));
    held = ends.held ∙ puts.held;
    state = ends.state;
    target = keeps_both (view out.target) (view mid.target) (view now.target) puts.target ends.target;
  }

  module _ (n count : ℕ) (cloud : StatedCloud) (fields : List Field) (selection : Selection) (old new : SourceView) (written : Written) (filters : FiltersCloud view n cloud fields selection count old new out written mid) where
    pub cloud-ended : Writes view mid (option_map (filled (pages_for mid.size)) mid.told_bytes) (1020 * pages_for mid.size) mid.held now → KeepsCloud view n cloud fields selection count old new out written now
    cloud-ended ends = record {
      source = filters.source;
      few = filters.few;
      columns = filters.columns;
      are = filters.are;
      of_file = filters.of_file;
      puts = λ node. record {
        begins = (filters.puts node).begins;
        wrote = ends_page (body_section n out.size (stated_cloud node written.count (chosen selection.fields fields)) (records_body filters.columns)) (filters.puts node).wrote ends;
      };
    }

    pub cloud-cut : (high : ℕ) → IsBrokenOff view mid high now → LosesFiltered view n cloud fields selection count old new out Out now
    cloud-cut high broken =
        let put = filters.puts 0 in
        record {
          source = filters.source;
          left = leaves_later view out mid (view now.target) put.wrote.target (leaves_page view mid high now broken);
          cause = rose_before (view out.target).faults (view mid.target).faults (view now.target).faults put.wrote.target.faults broken.cause;
        }

-- ---- an item is alike itself

alike-kind : (kind : ItemKind) → IsAlike kind kind
alike-kind (integers low high) = tt
alike-kind (words w) = refl
alike-kind strings = refl

alike-kinds : (kinds : List ItemKind) → AreAlike kinds kinds
unfolding AreAlike
alike-kinds [] = tt
alike-kinds (kind ∷ kinds) = (alike-kind kind, alike-kinds kinds)

alike-item : (x : StatedItem) → IsAlikeItem x x
alike-item (stated_cloud n count fields) = (refl, alike-kinds (kinds_in fields))
alike-item (stated_blob n size) = refl

pub alike-trees : (nodes : List RawNode) (e d : Element) (x : Item) → nodes ≡ preorder e → nodes ≡ preorder d → IsAlikeItem (stated_in e x) (stated_in d x)
alike-trees nodes e d x same other = subst (λ (y : Element). IsAlikeItem (stated_in e x) (stated_in y x)) (one-tree nodes e d same other) (alike-item (stated_in e x))
