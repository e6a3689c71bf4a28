-- A section that was put, and the rest of its last page.
use Rattle.std.proofs.Common.{◌≡◌, ℕ, ◌+◌, ◌-◌, ◌*◌, ◌%◌, List, ◌++◌, length, replicate, Option, Some, None, refl, sym, ap, ◌∙◌, arith, append_assoc, length-append}
use Rattle.std.specs.Prelude.{IfSome}
use Rattle.std.specs.Option.{option_map}
use Rattle.e57_base.specs.Source.{SourceView}
use Rattle.e57_base.specs.Target.{TargetView}
use Rattle.e57_base.specs.declared.fault.RunFault.TheVariants.{Out}
use Rattle.e57_base.proofs.CountLaws.{rose_before}
use Rattle.e57_page_out.specs.Sealed.{filled, pages_for}
use Rattle.e57_page_out.specs.Sequences.{Puts}
use Rattle.e57_page_out.specs.Writing.{Writing, Writes, IsBeingWritten, IsBrokenOff}
use Rattle.e57_page_out.proofs.Sequences.{leaves_later, leaves_page}
use Rattle.e57_page_out.proofs.WritingLaws.{keeps_both}
use Rattle.e57_nodes.specs.Items.{StatedItem}
use Rattle.e57_verdict.specs.Things.{Thing}
use Rattle.e57_plain.specs.Written.{body_section, whole_pages}
use Rattle.e57_plain.proofs.Laws.Pages.{length-whole_pages, whole_pages-is}
use Rattle.e57_copy.specs.Items.{CopiesItem, LosesItem}
use Rattle.e57_copy.specs.Sections.{CopiesBody}

same_zeros : (size n : ℕ) → size % 1020 ≡ 0 → 1020 * pages_for (size + n) - (size + n) ≡ 1020 * pages_for n - n
unfolding pages_for
same_zeros size n whole = omega (arith, whole)

same_end : (size n : ℕ) → size % 1020 ≡ 0 → 1020 * pages_for (size + n) ≡ size + 1020 * pages_for n
unfolding pages_for
same_end size n whole = omega (arith, whole)

filled_behind : (size : ℕ) (b bytes : List ℕ) → size % 1020 ≡ 0 → length b ≡ size → filled (pages_for (size + length bytes)) (b ++ bytes) ≡ b ++ whole_pages bytes
unfolding filled
filled_behind size b bytes whole long =
    let both : length (b ++ bytes) ≡ size + length bytes = omega (arith, length-append b bytes, long) in
    ap (λ k. (b ++ bytes) ++ replicate (1020 * pages_for (size + length bytes) - k) 0) both
    ∙ ap (λ k. (b ++ bytes) ++ replicate k 0) (same_zeros size (length bytes) whole)
    ∙ append_assoc b bytes (replicate (1020 * pages_for (length bytes) - length bytes) 0)
    ∙ ap (λ (xs : List ℕ). b ++ xs) (sym (whole_pages-is bytes))

told_filled : (size : ℕ) (bytes : List ℕ) (told : Option (List ℕ)) → size % 1020 ≡ 0 → IfSome told (λ b. length b ≡ size) → option_map (filled (pages_for (size + length bytes))) (option_map (λ b. b ++ bytes) told) ≡ option_map (λ b. b ++ whole_pages bytes) told
told_filled size bytes None whole long = refl
told_filled size bytes (Some b) whole long = ap Some (filled_behind size b bytes whole long)

module _ {T : Type 0} (view : T → TargetView) (out mid now : Writing T) (state : IsBeingWritten view out) (whole : out.size % 1020 ≡ 0) where
  ends_page : (bytes : List ℕ) → Puts view out bytes mid → Writes view mid (option_map (filled (pages_for mid.size)) mid.told_bytes) (1020 * pages_for mid.size) mid.held now → Puts view out (whole_pages bytes) now
  ends_page bytes puts ends = record {
    bytes = ends.bytes
        ∙ ap (λ k. option_map (filled (pages_for k)) mid.told_bytes) puts.size
        ∙ ap (option_map (filled (pages_for (out.size + length bytes)))) puts.bytes
        ∙ told_filled out.size bytes out.told_bytes whole state.bytes;
    size = ends.size ∙ ap (λ k. 1020 * pages_for k) puts.size ∙ same_end out.size (length bytes) whole ∙ ap (λ k. out.size + k) (sym (length-whole_pages bytes));
    held = ends.held ∙ puts.held;
    state = ends.state;
    target = keeps_both (view out.target) (view mid.target) (view now.target) puts.target ends.target;
  }

  module _ (n count : ℕ) (stated : StatedItem) (thing : Thing) (old new : SourceView) (offset : ℕ) (copies : CopiesBody view n stated thing count old new out offset mid) where
    pub item_copied : Writes view mid (option_map (filled (pages_for mid.size)) mid.told_bytes) (1020 * pages_for mid.size) mid.held now → CopiesItem view n stated thing count old new out offset now
    item_copied ends = record {
      source = copies.source;
      body = copies.body;
      is_body = copies.is_body;
      of_file = copies.of_file;
      puts = record { begins = copies.puts.begins; wrote = ends_page (body_section n out.size stated copies.body) copies.puts.wrote ends };
    }

    pub item_cut : (high : ℕ) → IsBrokenOff view mid high now → LosesItem view n stated thing count old new out Out now
    item_cut high broken = record {
      source = copies.source;
      left = leaves_later view out mid (view now.target) copies.puts.wrote.target (leaves_page view mid high now broken);
      cause = rose_before (view out.target).faults (view mid.target).faults (view now.target).faults copies.puts.wrote.target.faults broken.cause;
    }
