use Rattle.std.proofs.Common.{◌≡◌, ℕ, ◌+◌, ◌-◌, ◌*◌, List, ◌++◌, length, Option, Some, None, refl, sym, ap, subst, ◌∙◌, arith}
use Rattle.std.specs.Prelude.{IfSome}
use Rattle.std.specs.Option.{option_map}
use Rattle.e57_base.specs.MemTarget.{with_piece}
use Rattle.e57_base.specs.Target.{TargetView}
use Rattle.e57_layout.specs.Headers.{section_head}
use Rattle.e57_layout.specs.Written.{most_levels, physical, root_place}
use Rattle.e57_layout.specs.declared.packet.Entry.{Entry}
use Rattle.e57_layout.specs.declared.section.SectionHeader.{SectionHeader}
use Rattle.e57_page_out.specs.Sequences.{Puts}
use Rattle.e57_page_out.specs.Writing.{Writing, KeepsTarget, Writes}
use Rattle.e57_page_out.proofs.Places.{offset-place}
use Rattle.e57_page_out.proofs.WritingLaws.{keeps_both}
use Rattle.e57_chunk_out.specs.Sections.{header_of, index_packets}
use Rattle.e57_chunk_out.proofs.section.end_section.Goals as goal

abbrev header-parts : ℕ → ℕ → ℕ → SectionHeader
header-parts l first root = record { id = 1; length = l; data_place = first; index = root }

-- the index was put, the header stands over the zeros, and no page is held
ended : {T : Type 0} (view : T → TargetView) (page : ℕ) (entries : List Entry) (out mid patched now : Writing T) (size first root : ℕ) (head : List ℕ)
    → Puts view out (index_packets out.size entries) mid → out.held ≡ Some page
    → head ≡ section_head (header-parts (size - 1020 * page) first root) → size ≡ mid.size → first ≡ physical (1020 * page + 32) → root ≡ physical (root_place most_levels 0 out.size entries)
    → IfSome mid.held (λ n. patched ≡ record mid { told_bytes = option_map (with_piece (1020 * n + 0) head) mid.told_bytes })
    → Writes view patched patched.told_bytes patched.size None now
    → Writes view out (option_map (λ b. with_piece (1020 * page) (section_head (header_of page out.size entries)) (b ++ index_packets out.size entries)) out.told_bytes) (out.size + length (index_packets out.size entries)) None now
ended {T} view page entries out mid patched now size first root head puts held is long begins root-is patch writes =
    let same : patched ≡ record mid { told_bytes = option_map (with_piece (1020 * page + 0) head) mid.told_bytes } =
    subst (λ h. IfSome h (λ n. patched ≡ record mid { told_bytes = option_map (with_piece (1020 * n + 0) head) mid.told_bytes })) (puts.held ∙ held) patch in
    let none : 1020 * page + 0 ≡ 1020 * page = omega arith in
    let head-is : head ≡ section_head (header_of page out.size entries) =
    is ∙ ap (λ l. section_head (header-parts (l - 1020 * page) first root)) (long ∙ puts.size)
    ∙ ap (λ d. section_head (header-parts (out.size + length (index_packets out.size entries) - 1020 * page) d root)) begins
    ∙ ap (λ r. section_head (header-parts (out.size + length (index_packets out.size entries) - 1020 * page) (physical (1020 * page + 32)) r)) root-is in
    record {
      bytes = writes.bytes ∙ ap (λ (o : Writing T). o.told_bytes) same
          ∙ ap (λ q. option_map (with_piece q head) mid.told_bytes) none
          ∙ ap (λ (h : List ℕ). option_map (with_piece (1020 * page) h) mid.told_bytes) head-is
          ∙ ap (option_map (with_piece (1020 * page) (section_head (header_of page out.size entries)))) puts.bytes
          ∙ joined out.told_bytes;
      size = writes.size ∙ ap (λ (o : Writing T). o.size) same ∙ puts.size;
      held = writes.held;
      state = writes.state;
      target = keeps_both (view out.target) (view mid.target) (view now.target) puts.target (subst (λ (o : Writing T). KeepsTarget (view o.target) (view now.target)) same writes.target);
    }
  where
    joined : (told : Option (List ℕ)) → option_map (with_piece (1020 * page) (section_head (header_of page out.size entries))) (option_map (λ b. b ++ index_packets out.size entries) told) ≡ option_map (λ b. with_piece (1020 * page) (section_head (header_of page out.size entries)) (b ++ index_packets out.size entries)) told
    joined None = refl
    joined (Some b) = refl

pub returns : goal.returns
returns g c = (
  offset-place c.physical_of-2.result (1020 * c.args.page) c.physical_of-2.ensures,
  ended g.T.Target.view c.args.page c.args.index.now.entries c.args.out.now c.write.new.out c.patch_held.new.self c.release.new.self c.size.result c.physical_of.result c.in-Ok.root c.write_section_header.new.out
      c.in-Ok.ensures.0 c.requires.held c.write_section_header.ensures.bytes c.size.ensures.size (offset-place c.physical_of.result (1020 * c.args.page + 32) c.physical_of.ensures) c.in-Ok.ensures.1 c.patch_held.ensures c.in_default.ensures.released,
)
