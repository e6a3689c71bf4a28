-- The file is closed: page 0 is put again, with the header, and the target is ended.
use Rattle.std.proofs.Common.{◌≡◌, ℕ, ◌+◌, ◌-◌, ◌*◌, ◌≤◌, ◌<◌, Bool, true, false, cond, ◌==◌, List, ◌++◌, length, take, drop, replicate, slice_index, Option, Some, None, IfSome, Ok, Err, refl, sym, ap, ◌∙◌, arith, inl, inr, ⊎_elim}
use Rattle.std.specs.Option.{option_map}
use Rattle.std.proofs.lemmas.Bool.Decides.{nat_tests}
use Rattle.std.proofs.lemmas.List.{append_assoc, append-nil, length-append, length-drop, drop_at, take_at, get_or-replicate, get_or_append_left}
use Rattle.e57_base.proofs.CountLaws.{rose_before}
use Rattle.e57_base.specs.Target.{TargetView, PutsPage, Finishes, Torn, TornWhereTold, with_page}
use Rattle.e57_base.specs.declared.fault.Failed.{Failed}
use Rattle.e57_page.specs.File.{logical}
use Rattle.e57_page.specs.declared.header.Header.{Header}
use Rattle.e57_page_out.specs.Buffer.{number_held, bytes_so_far, IsRow, IsSoundUnless, writing}
use Rattle.e57_page_out.specs.HeaderBytes.{header_bytes}
use Rattle.e57_page_out.proofs.HeaderLaws.{length-header_bytes}
use Rattle.e57_page_out.specs.Sealed.{page_bytes, sealed, filled, pages_for}
use Rattle.e57_page_out.proofs.SealedLaws.{length-page_bytes}
use Rattle.e57_page_out.specs.Writing.{Writing, Writes, IsBeingWritten, KeepsTarget, closed_file, IsClosed, IsHeadless, HeadlessWhereTold, IsNotClosed}
use Rattle.e57_page_out.proofs.WritingLaws.{length-filled, closed_filled, keeps_both}
use Rattle.e57_page_out.specs.declared.buffer.Buffer.{Buffer}
use Rattle.e57_page_out.specs.declared.buffer.Held.{Held}
use Rattle.e57_page_out.specs.declared.buffer.Held.TheVariants.{Nothing, Begun, Whole}
use Rattle.e57_page_out.proofs.Steps.{by_sound}
use Rattle.e57_page_out.proofs.Rows.{length_row, head_of, row_closed}

-- the header in a blank page, and its word, is page 0
pub head_page : (header : Header) → page_bytes (take 1020 (header_bytes header ++ drop 48 (replicate 1024 0))) ≡ head_of header
unfolding head_of filled
head_page header =
    let size = length-header_bytes header in
    let rest : drop 48 (replicate {A = ℕ} 1024 0) ≡ replicate 972 0 ++ replicate 4 0 = refl in
    let zeros : 1020 * 1 - length (header_bytes header) ≡ 972 = omega arith in
    let front : length (header_bytes header ++ replicate 972 0) ≡ 1020 = length-append (header_bytes header) (replicate 972 0) ∙ ap (λ k. k + 972) size in
    ap page_bytes
    (ap (λ (xs : List ℕ). take 1020 (header_bytes header ++ xs)) rest
    ∙ ap (take 1020) (sym (append_assoc (header_bytes header) (replicate 972 0) (replicate 4 0)))
    ∙ take_at (header_bytes header ++ replicate 972 0) (replicate 4 0) 1020 front
    ∙ ap (λ k. header_bytes header ++ replicate k 0) (sym zeros))

length_head : (header : Header) → length (head_of header) ≡ 1024
unfolding head_of
length_head header = length-page_bytes (filled 1 (header_bytes header)) (length-filled 1 (header_bytes header) (omega (arith, length-header_bytes header)))

-- what is held is what is closed
closed_here : (header : Header) (n k size : ℕ) (file bytes : List ℕ) → IsRow n file → length bytes ≡ size → 1020 ≤ size → k ≡ pages_for size → logical file ≡ filled k bytes → with_page 0 (head_of header) file ≡ closed_file header bytes
closed_here header n k size file bytes row long first count same =
    let pages : k ≡ pages_for (length bytes) = count ∙ ap pages_for (sym long) in
    row_closed n header file row
    ∙ ap (closed_file header) (same ∙ ap (λ j. filled j bytes) pages)
    ∙ closed_filled header bytes (omega arith)

pub closed_told : (header : Header) (n k size : ℕ) (held told : Option (List ℕ)) → IfSome held (λ file. IsRow n file) → IfSome told (λ bytes. length bytes ≡ size) → 1020 ≤ size → k ≡ pages_for size → option_map logical held ≡ option_map (filled k) told → option_map (with_page 0 (head_of header)) held ≡ option_map (closed_file header) told
closed_told header n k size None None row long first count same = refl
closed_told header n k size None (Some bytes) row long first count same = absurd cc
closed_told header n k size (Some file) None row long first count same = absurd cc
closed_told header n k size (Some file) (Some bytes) row long first count same =
    let inner : logical file ≡ filled k bytes = cc in
    ap Some (closed_here header n k size file bytes row long first count inner)

-- page 0 was broken off
headless : (header : Header) (n : ℕ) (whole file new : List ℕ) → 1 ≤ n → IsRow n file → with_page 0 (head_of header) file ≡ whole → Torn 0 (head_of header) file new → IsHeadless whole new
headless header n whole file new some row is torn =
    let long = length_row n file row in
    let head = length_head header in
    let low = torn.no_shorter in
    let high = torn.no_longer in
    let size : length new ≡ length file = omega arith in
    let total : length whole ≡ length file = ap length (sym is) ∙ omega (arith, length-append (head_of header) (drop 1024 file), length-drop 1024 file) in
    record {
      size = size ∙ sym total;
      rest = torn.after ∙ sym (ap (drop 1024) (sym is) ∙ drop_at (head_of header) (drop 1024 file) 1024 head);
      each = λ i below.
          ⊎_elim
          (λ (same : slice_index new i ≡ slice_index file i). inl (same ∙ blank_byte i below))
          (λ (same : slice_index new i ≡ slice_index (head_of header) (i - 0)). inr (same ∙ head_byte i below))
          (torn.each i (omega arith) (omega arith) (omega arith));
    }
  where
    blank_byte : (i : ℕ) → i < 1024 → slice_index file i ≡ 0
    blank_byte i below =
        ap (λ (xs : List ℕ). slice_index xs i) row.is
        ∙ get_or_append_left (replicate 1024 0) (sealed row.count row.bytes) 0 i below
        ∙ get_or-replicate 1024 i 0 0 below

    head_byte : (i : ℕ) → i < 1024 → slice_index (head_of header) (i - 0) ≡ slice_index whole i
    head_byte i below =
        let place : i - 0 ≡ i = omega arith in
        let inside : i < length (head_of header) = omega (arith, length_head header) in
        ap (slice_index (head_of header)) place
        ∙ sym (get_or_append_left (head_of header) (drop 1024 file) 0 i inside)
        ∙ ap (λ (xs : List ℕ). slice_index xs i) is

pub headless_told : (header : Header) (n k size : ℕ) (held told new : Option (List ℕ)) → 1 ≤ n → IfSome held (λ file. IsRow n file) → IfSome told (λ bytes. length bytes ≡ size) → 1020 ≤ size → k ≡ pages_for size → option_map logical held ≡ option_map (filled k) told → TornWhereTold 0 (head_of header) held new → HeadlessWhereTold header told new
headless_told header n k size None None None some row long first count same torn = refl
headless_told header n k size None None (Some new) some row long first count same torn = absurd torn
headless_told header n k size None (Some bytes) new some row long first count same torn = absurd cc
headless_told header n k size (Some file) None new some row long first count same torn = absurd cc
headless_told header n k size (Some file) (Some bytes) None some row long first count same torn = absurd cc
headless_told header n k size (Some file) (Some bytes) (Some new) some row long first count same torn =
    let inner : logical file ≡ filled k bytes = cc in
    headless header n (closed_file header bytes) file new some row (closed_here header n k size file bytes row long first count inner) torn

-- the whole file lacks nothing
pub headless_whole : (header : Header) (told new : Option (List ℕ)) → new ≡ option_map (closed_file header) told → HeadlessWhereTold header told new
headless_whole header None new is = is
headless_whole header (Some bytes) None is = absurd cc
headless_whole header (Some bytes) (Some new) is =
    let inner : new ≡ closed_file header bytes = cc in
    record { size = ap length inner; rest = ap (drop 1024) inner; each = λ i below. inr (ap (λ (xs : List ℕ). slice_index xs i) inner) }

-- all bytes so far are in whole pages, and none is held
whole_bytes : (buffer : Buffer) (held : Held) → buffer.filled ≡ 0 → number_held held buffer.number ≡ None → (o : Option (List ℕ)) → option_map (bytes_so_far (record buffer { held = held })) o ≡ option_map logical o
whole_bytes buffer Nothing none free None = refl
whole_bytes buffer Nothing none free (Some file) = ap (λ k. Some (logical file ++ take k buffer.page)) none ∙ ap Some (append-nil (logical file))
whole_bytes buffer Begun none free o = absurd cc
whole_bytes buffer (Whole k) none free o = absurd cc

-- what is known when page 0 is put again
pub record IsReadyToClose {T : Type 0} (view : T → TargetView) (old : Writing T) (target : T) (number : ℕ) : Type 0 where
  pub number_is : number ≡ pages_for old.size
  pub some : 1 ≤ number
  pub pages : (view target).pages ≡ Some number
  pub rows : IfSome (view target).held (λ file. IsRow number file)
  pub told : IfSome old.told_bytes (λ bytes. length bytes ≡ old.size)
  pub first : 1020 ≤ old.size
  pub same : option_map logical (view target).held ≡ option_map (filled number) old.told_bytes
  pub keeps : KeepsTarget (view old.target) (view target)

pub ready_to_close : {T : Type 0} (view : T → TargetView) (old mid : Writing T) (target : T) (buffer : Buffer) (spent : Bool) → IsBeingWritten view old → old.held ≡ None → Writes view old (option_map (filled (pages_for old.size)) old.told_bytes) (1020 * pages_for old.size) old.held mid → writing view target buffer spent ≡ mid → IsSoundUnless spent (view target) buffer → IsReadyToClose view old target buffer.number
ready_to_close {T} view old mid target buffer spent state free writes is sound =
    by_sound view target buffer spent mid
    (λ now spent. Writes view old (option_map (filled (pages_for old.size)) old.told_bytes) (1020 * pages_for old.size) old.held now → IsReadyToClose view old target buffer.number)
    is writes.state.unspent sound
    (λ sound writes.
    let short = sound.short in
    let total = writes.size in
    let count : buffer.number ≡ pages_for old.size = omega arith in
    let none : buffer.filled ≡ 0 = omega arith in
    record {
      number_is = count;
      some = sound.behind;
      pages = sound.pages;
      rows = sound.file;
      told = state.bytes;
      first = state.first;
      same = sym (whole_bytes buffer buffer.held none (writes.held ∙ free) (view target).held) ∙ writes.bytes ∙ ap (λ k. option_map (filled k) old.told_bytes) (sym count);
      keeps = writes.target;
    })
    writes

module _ {T : Type 0} (view : T → TargetView) (old : Writing T) (header : Header) (mid target : T) (number : ℕ) (ready : IsReadyToClose view old mid number) where
  same_pages : (n : ℕ) (pages : Option ℕ) → pages ≡ Some n → 1 ≤ n → option_map (λ pages. cond (0 == pages) (pages + 1) pages) pages ≡ Some n
  same_pages n pages is some =
      let other : (0 == n) ≡ false = grind (arith, nat_tests) in
      ap (option_map (λ pages. cond (0 == pages) (pages + 1) pages)) is ∙ ap (λ b. Some (cond b (n + 1) n)) other

  pub head_not_put : (buffer : Buffer) (e : Failed) → PutsPage {T = Unit {0}} (view mid) 0 (head_of header) (Err e) (view target) → IsNotClosed view old header (writing view target buffer true)
  head_not_put buffer e puts =
      record {
        spent = refl;
        state = inr (puts.pages ∙ ready.pages ∙ ap Some ready.number_is, headless_told header number number old.size (view mid).held old.told_bytes (view target).held ready.some ready.rows ready.told ready.first ready.number_is ready.same puts.held);
        unended = puts.finished;
        target = keeps_both (view old.target) (view mid) (view target) ready.keeps (record { created = puts.created; named = puts.named; faults = puts.faults });
        cause = rose_before (view old.target).faults (view mid).faults (view target).faults ready.keeps.faults puts.cause;
      }

  module _ (e : Unit {0}) (puts : PutsPage {T = Unit {0}} (view mid) 0 (head_of header) (Ok e) (view target)) (last : T) where
    whole_held : (view target).held ≡ option_map (closed_file header) old.told_bytes
    whole_held = puts.held ∙ closed_told header number number old.size (view mid).held old.told_bytes ready.rows ready.told ready.first ready.number_is ready.same

    whole_pages : (view target).pages ≡ Some (pages_for old.size)
    whole_pages = puts.pages ∙ same_pages number (view mid).pages ready.pages ready.some ∙ ap Some ready.number_is

    keeps_put : KeepsTarget (view old.target) (view target)
    keeps_put = keeps_both (view old.target) (view mid) (view target) ready.keeps (record { created = puts.created; named = puts.named; faults = puts.faults })

    pub not_ended : (buffer : Buffer) (f : Failed) → Finishes {T = Unit {0}} (view target) (Err f) (view last) → IsNotClosed view old header (writing view last buffer true)
    not_ended buffer f ends =
        record {
          spent = refl;
          state = inr (ends.pages ∙ whole_pages, headless_whole header old.told_bytes (view last).held (ends.held ∙ whole_held));
          unended = ends.finished;
          target = keeps_both (view old.target) (view target) (view last) keeps_put (record { created = ends.created; named = ends.named; faults = ends.faults });
          cause = rose_before (view old.target).faults (view target).faults (view last).faults keeps_put.faults ends.cause;
        }

    pub is_closed : (buffer : Buffer) (f : Unit {0}) (answer : ℕ) → answer ≡ pages_for old.size → Finishes {T = Unit {0}} (view target) (Ok f) (view last) → IsClosed view old header (1024 * answer) (writing view last buffer true)
    is_closed buffer f answer is ends =
        record {
          total = ap (λ k. 1024 * k) is;
          spent = refl;
          held = ends.held ∙ whole_held;
          pages = ends.pages ∙ whole_pages;
          ended = ends.finished;
          target = keeps_both (view old.target) (view target) (view last) keeps_put (record { created = ends.created; named = ends.named; faults = ends.faults });
        }
