-- What closing a file behind a text does, call by call.
use Rattle.std.proofs.Common.{◌≡◌, ◌⊎◌, ℕ, ◌+◌, ◌*◌, ◌≤◌, true, List, ◌++◌, length, Option, Some, None, IfSome, refl, sym, ap, subst, ◌∙◌, arith, inl, inr}
use Rattle.std.specs.Option.{option_map}
use Rattle.e57_base.proofs.CountLaws.{rose_before}
use Rattle.e57_base.specs.Target.{TargetView}
use Rattle.e57_base.specs.declared.fault.PutFault.{PutFault}
use Rattle.e57_base.specs.declared.fault.PutFault.TheVariants.{Target, Large}
use Rattle.e57_layout.specs.Written.{physical}
use Rattle.e57_page.specs.Place.{place}
use Rattle.e57_page.specs.declared.header.Header.{Header}
use Rattle.e57_page_out.specs.Sealed.{filled, pages_for}
use Rattle.e57_page_out.specs.Writing.{Writing, Writes, KeepsTarget, IsBeingWritten, IsBrokenOff, IsNotPut, IsClosed, IsNotClosed, IsUnfinished, HeadlessWhereTold, IsHeadless, closed_file}
use Rattle.e57_page_out.proofs.WritingLaws.{keeps_both}
use Rattle.e57_page_out.proofs.Places.{offset-place}
use Rattle.e57_file_out.specs.Closing.{ClosesFile, BreaksOff, IsWithinFile, HeadlessFile, whole_file}
use Rattle.e57_file_out.proofs.Finished.{closed-whole}

pages_sum : (p n : ℕ) → pages_for (1020 * p + n) ≡ p + pages_for n
unfolding pages_for
pages_sum p n = omega arith

module _ {T : Type 0} (view : T → TargetView) (a : Writing T) (text : List ℕ) (state : IsBeingWritten view a) (fits : IsWithinFile a.size text) where
  -- the page was ended, and the text put
  pub record Ready (header : Header) (b c : Writing T) : Type 0 where
    pub page : Writes view a (option_map (filled (pages_for a.size)) a.told_bytes) (1020 * pages_for a.size) a.held b
    pub put : Writes view b (option_map (λ (xs : List ℕ). xs ++ text) b.told_bytes) (b.size + length text) b.held c
    pub made : header ≡ record { length = 1024 * (pages_for a.size + pages_for (length text)); xml_place = physical (1020 * pages_for a.size); xml_length = length text }

  -- the header, as it is made
  pub ready : (b c : Writing T) (n x : ℕ) (header : Header) → Writes view a (option_map (filled (pages_for a.size)) a.told_bytes) (1020 * pages_for a.size) a.held b
      → Writes view b (option_map (λ (xs : List ℕ). xs ++ text) b.told_bytes) (b.size + length text) b.held c
      → n ≡ pages_for c.size → place x ≡ Some b.size → header ≡ record { length = 1024 * n; xml_place = x; xml_length = length text } → Ready header b c
  ready b c n x header page put' count here is =
      let total : n ≡ pages_for a.size + pages_for (length text) = count ∙ ap pages_for (put'.size ∙ ap (λ k. k + length text) page.size) ∙ pages_sum (pages_for a.size) (length text) in
      let offset : x ≡ physical (1020 * pages_for a.size) = offset-place x b.size here ∙ ap physical page.size in
      record {
        page = page;
        put = put';
        made = is ∙ ap (λ k. record { length = 1024 * k; xml_place = x; xml_length = length text }) total
            ∙ ap (λ k. record { length = 1024 * (pages_for a.size + pages_for (length text)); xml_place = k; xml_length = length text }) offset;
      }

  module _ (header : Header) (b c : Writing T) (now : Ready header b c) where
    told_closed : (told : Option (List ℕ)) → IfSome told (λ bytes. length bytes ≡ a.size) → option_map (closed_file header) (option_map (λ (xs : List ℕ). xs ++ text) (option_map (filled (pages_for a.size)) told)) ≡ option_map (λ bytes. whole_file bytes text) told
    told_closed None size = refl
    told_closed (Some bytes) size =
        let first = state.first in
        ap Some (closed-whole bytes text (pages_for a.size) header (omega arith) (ap pages_for (sym size)) now.made)

    told_bytes : c.told_bytes ≡ option_map (λ (xs : List ℕ). xs ++ text) (option_map (filled (pages_for a.size)) a.told_bytes)
    told_bytes = now.put.bytes ∙ ap (option_map (λ (xs : List ℕ). xs ++ text)) now.page.bytes

    count : pages_for c.size ≡ pages_for a.size + pages_for (length text)
    count = ap pages_for (now.put.size ∙ ap (λ k. k + length text) now.page.size) ∙ pages_sum (pages_for a.size) (length text)

    kept : KeepsTarget (view a.target) (view c.target)
    kept = keeps_both (view a.target) (view b.target) (view c.target) now.page.target now.put.target

    -- and closed
    pub file_closed : (total : ℕ) (d : Writing T) → IsClosed view c header total d → ClosesFile view a text total d
    file_closed total d closed =
        record {
          fits = fits;
          total = closed.total ∙ ap (λ n. 1024 * n) count;
          held = closed.held ∙ ap (option_map (closed_file header)) told_bytes ∙ told_closed a.told_bytes state.bytes;
          pages = closed.pages ∙ ap (λ (n : ℕ). Some n) count;
          ended = closed.ended;
          target = keeps_both (view a.target) (view c.target) (view d.target) kept closed.target;
        }

    headless : (told held : Option (List ℕ)) → IfSome told (λ bytes. length bytes ≡ a.size) → HeadlessWhereTold header (option_map (λ (xs : List ℕ). xs ++ text) (option_map (filled (pages_for a.size)) told)) held → HeadlessFile text told held
    headless None held size is = is
    headless (Some bytes) None size is = is
    headless (Some bytes) (Some file) size is =
        let first = state.first in
        subst (λ whole. IsHeadless whole file) (closed-whole bytes text (pages_for a.size) header (omega arith) (ap pages_for (sym size)) now.made) is

    -- the closing failed
    pub file_lost : (d : Writing T) → IsNotClosed view c header d → BreaksOff view a text (view d.target)
    file_lost d lost =
        record {
          fits = fits;
          state = either lost.state;
          unended = lost.unended;
          target = keeps_both (view a.target) (view c.target) (view d.target) kept lost.target;
          cause = rose_before (view a.target).faults (view c.target).faults (view d.target).faults kept.faults lost.cause;
        }
      where
        either : (IsBrokenOff view c (pages_for c.size) d) ⊎ (((view d.target).pages ≡ Some (pages_for c.size)) × HeadlessWhereTold header c.told_bytes (view d.target).held) → IfSome (view d.target).held IsUnfinished ⊎ HeadlessFile text a.told_bytes (view d.target).held
        either (inl broken) = inl broken.unfinished
        either (inr all) = inr (headless a.told_bytes (view d.target).held state.bytes (subst (λ t. HeadlessWhereTold header t (view d.target).held) told_bytes all.1))

  -- the page was not ended
  pub page_lost : (b : Writing T) → IsBrokenOff view a (pages_for a.size) b → BreaksOff view a text (view b.target)
  page_lost b broken = record { fits = fits; state = inl broken.unfinished; unended = broken.unended; target = broken.target; cause = broken.cause }

  -- the text was not put
  pub text_lost : (b c : Writing T) (fault : PutFault) → Writes view a (option_map (filled (pages_for a.size)) a.told_bytes) (1020 * pages_for a.size) a.held b → IsNotPut view b (length text) fault c → (c.is_spent ≡ true) × BreaksOff view a text (view c.target)
  text_lost b c Target page lost =
      let broken = lost.1 in (
        broken.spent,
        record {
          fits = fits;
          state = inl broken.unfinished;
          unended = broken.unended;
          target = keeps_both (view a.target) (view b.target) (view c.target) page.target broken.target;
          cause = rose_before (view a.target).faults (view b.target).faults (view c.target).faults page.target.faults broken.cause;
        },
      )
  text_lost b c Large page lost =
      let past = lost.past in
      let size = page.size in
      let within = fits.room in
      absurd (omega arith)
