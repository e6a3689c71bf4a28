-- The content behind page 0, its tree, and the end of the file.
use Rattle.std.proofs.Common.{◌≡◌, ⊎_elim, inr, ℕ, ◌+◌, ◌*◌, ◌^◌, ◌<◌, ◌≤◌, List, [], ◌∷◌, ◌++◌, length, Ok, Err, sym, subst, ap, ◌∙◌, arith, length-append, lit<}
use Rattle.std.specs.Prelude.{decimal, map, MatchResult, Result}
use Rattle.std.proofs.lemmas.Bool.{cases_lt}
use Rattle.e57_base.specs.Fault.{write_as_run}
use Rattle.e57_base.specs.Target.{TargetView}
use Rattle.e57_base.specs.declared.fault.RunFault.TheVariants.{Out, Memory as OutOfMemory}
use Rattle.e57_base.specs.declared.fault.WriteFault.{WriteFault}
use Rattle.e57_base.specs.declared.fault.WriteFault.TheVariants.{Target, Large, Memory}
use Rattle.e57_layout.specs.Written.{physical}
use Rattle.e57_page_out.specs.Sealed.{pages_for}
use Rattle.e57_page_out.specs.Writing.{Writing, IsBeingWritten, IsBegun}
use Rattle.e57_elements.specs.Spelling.{spelling}
use Rattle.e57_elements.specs.Tree.{Element}
use Rattle.e57_nodes.specs.Items.{StatedItem, stated_cloud, stated_items}
use Rattle.e57_nodes.specs.Places.{with_places, without_places}
use Rattle.e57_nodes.specs.Shape.{shape_of}
use Rattle.e57_verdict.specs.Content.{Content}
use Rattle.e57_verdict.specs.Things.{records_body}
use Rattle.e57_plain.specs.Written.{Fits, offsets_from, offsets_of, section_offset, sections_from, sections_of, whole_pages, written_text, written_tree, body_section}
use Rattle.e57_plain.proofs.Laws.Pages.{length-whole_pages}
use Rattle.e57_file_out.specs.Closing.{ClosesFile, LeavesFile, xml_text}
use Rattle.e57_copy.specs.Ending.{Aim, EndsFile, EndsNot}
use Rattle.e57_copy.specs.Several.{content_with, PutsItems}
use Rattle.e57_copy.proofs.Beginning.{written-or-not}
use Rattle.e57_copy.proofs.Closing.{file-closed, file-not-closed}
use Rattle.e57_copy.proofs.Valid.{IsPlain, offsets-same, plain-size, plain-tree, sections-same}
use Rattle.e57_trial.specs.Content.{columns_from, most_records, trial_content, trial_tree}
use Rattle.e57_trial.specs.Records.{trial_bodies}
use Rattle.e57_trial.specs.Writing.{trial_aim, WritesTrial, WritesNoTrial}
use Rattle.e57_trial.proofs.Paging.{bodies_are, section_none, section_some}
use Rattle.e57_trial.proofs.Putting.{short_section}
use Rattle.e57_trial.proofs.Texts.{spelled_short}
use Rattle.e57_trial.proofs.Trees.{good, placeless, stated, trial_fields}

-- ---- the content

pub content_is : (start count : ℕ) → content_with (trial_tree count) (trial_bodies start count) ≡ trial_content start count
unfolding trial_content
content_is start count = ap (λ (e : Element). let content : Content = record { tree = e; bodies = trial_bodies start count } in content) (placeless count)

abbrev content : ℕ → ℕ → Content
content start count = content_with (trial_tree count) (trial_bodies start count)

-- ---- it is within the limits

abbrev its_section : ℕ → ℕ → ℕ → ℕ → List ℕ
its_section n q start count = body_section n q (stated_cloud 3 count trial_fields) (records_body (columns_from start 0 count))

section_short : (n q start count : ℕ) → 0 < n → count ≤ most_records → length (its_section n q start count) ≤ 2 ^ 44
section_short n q start count some few = ⊎_elim
    (λ (more : 0 < count).
    let is = ap (λ (xs : List ℕ). length xs) (section_some n q start count more) in
    let short = short_section q n start count some few in
    omega (arith, is, short))
    (λ (less : count ≤ 0).
    let none : count ≡ 0 = omega arith in
    let is = ap (λ m. length (its_section n q start m)) none ∙ ap (λ (xs : List ℕ). length xs) (section_none n q start) in
    omega (arith, is))
    (cases_lt 0 count)

plain : (count : ℕ) → count ≤ most_records → IsPlain (trial_tree count)
plain count few = plain-tree (trial_tree count) (good count few).is_lawful (good count few).typed

pages_near : (n : ℕ) → 1020 * pages_for n ≤ n + 1020
unfolding pages_for
pages_near n = omega arith

sections_short : (n start count : ℕ) → 0 < n → count ≤ most_records → length (sections_of n (content start count)) ≤ 2 ^ 44 + 1020
unfolding sections_from
sections_short n start count some few =
    let section = its_section n (1020 * 1) start count in
    let is : sections_of n (content start count) ≡ whole_pages section ++ [] =
    sections-same n (trial_tree count) (trial_bodies start count) (plain count few) ∙ ap (λ (items : List StatedItem). sections_from n 1 items (trial_bodies start count)) (stated count few) in
    let long = ap (λ (xs : List ℕ). length xs) is ∙ length-append (whole_pages section) [] in
    let whole = length-whole_pages section in
    let near = pages_near (length section) in
    let short = section_short n (1020 * 1) start count some few in
    omega (arith, long, whole, near, short)

offset_short : (bytes : List ℕ) → section_offset 1 bytes < 2 ^ 64
unfolding physical
offset_short [] = lit< tt
offset_short (b ∷ bytes) = lit< tt

text_short : (n start count : ℕ) → count ≤ most_records → length (written_text n (content start count)) ≤ 1000
unfolding offsets_from written_text written_tree
text_short n start count few =
    let offset = section_offset 1 (its_section n (1020 * 1) start count) in
    let offsets : offsets_of n (content start count) ≡ offset ∷ [] =
    offsets-same n (trial_tree count) (trial_bodies start count) (plain count few) ∙ ap (λ (items : List StatedItem). offsets_from n 1 items (trial_bodies start count)) (stated count few) in
    let text = ap (λ (os : List ℕ). length (spelling (with_places (map decimal os) (without_places (trial_tree count))))) offsets
    ∙ ap (λ (e : Element). length (spelling (with_places (decimal offset ∷ []) e))) (placeless count) in
    subst (λ k. k ≤ 1000) (sym text) (spelled_short offset count (offset_short (its_section n (1020 * 1) start count)) (omega (arith, few)))

pages_few : (n : ℕ) → pages_for n ≤ n
unfolding pages_for
pages_few n = omega arith

pub fits : (n start count : ℕ) → 0 < n → count ≤ most_records → Fits n (content start count)
fits n start count some few =
    let sections = sections_short n start count some few in
    let text = text_short n start count few in
    let size = plain-size n (content start count) in
    let pages = pages_few (length (written_text n (content start count))) in
    record { text = omega (arith, text); file = omega (arith, sections, text, size, pages) }

-- ---- its end

module _ {T : Type 0} (view : T → TargetView) (chunk start count : ℕ) (some : 0 < chunk) (few : count ≤ most_records) where
  abbrev aim : Aim
  aim = trial_aim chunk start count

  pub ended_or_not : (a b c : Writing T) (offset : ℕ) → IsBeingWritten view a → a.size ≡ 1020 → PutsItems view chunk (stated_items (shape_of (trial_tree count))) (trial_bodies start count) a (offset ∷ []) b → (result : Result ℕ WriteFault)
      → MatchResult result (λ total. ClosesFile view b (xml_text (trial_tree count) (offset ∷ [])) total c) (λ fault. LeavesFile view b (xml_text (trial_tree count) (offset ∷ [])) fault (view c.target))
      → MatchResult result (λ total. EndsFile view aim a total (view c.target)) (λ fault. EndsNot view aim a (write_as_run fault) (view c.target))
  ended_or_not a b c offset state begun puts (Ok total) closed =
      file-closed view aim (trial_tree count) (trial_bodies start count) a b c (offset ∷ []) total (good count few) some begun state.bytes puts (bodies_are start count few) (content_is start count) closed
  ended_or_not a b c offset state begun puts (Err fault) left =
      file-not-closed view aim (trial_tree count) (trial_bodies start count) a b c (offset ∷ []) fault (good count few) some begun state.bytes puts (bodies_are start count few) (content_is start count)
      (λ unfit. unfit (fits chunk start count some few)) left

  pub written : (target now : T) (out : Writing T) → IsBegun view (view target) [] out → (result : Result ℕ WriteFault)
      → MatchResult result (λ total. EndsFile view aim out total (view now)) (λ fault. EndsNot view aim out (write_as_run fault) (view now))
      → MatchResult result (λ total. WritesTrial chunk start count (view target) total (view now)) (λ fault. WritesNoTrial view chunk start count target fault now)
  written target now out begun (Ok total) ended = written-or-not view (view target) [] out begun aim (view now) (Ok total) ended
  written target now out begun (Err Target) lost = written-or-not view (view target) [] out begun aim (view now) (Err Out) lost
  written target now out begun (Err Large) lost = lost.1
  written target now out begun (Err Memory) lost = inr (written-or-not view (view target) [] out begun aim (view now) (Err OutOfMemory) lost)
