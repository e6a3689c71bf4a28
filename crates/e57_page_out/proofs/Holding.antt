-- A page that is held: bytes of it are patched, and it is put again.
use Rattle.std.proofs.Common.{◌≡◌, ℕ, ◌+◌, ◌*◌, ◌/◌, ◌≤◌, ◌<◌, true, false, List, ◌++◌, length, take, drop, Option, Some, None, IfSome, Ok, Err, refl, sym, ap, ◌∙◌, arith, cond, ◌==◌}
use Rattle.std.proofs.lemmas.Bool.Decides.{nat_tests}
use Rattle.std.specs.Prelude.{IsSomeAnd}
use Rattle.std.specs.Option.{option_map}
use Rattle.std.proofs.lemmas.List.{append_assoc, length-append, length-take-le}
use Rattle.e57_base.specs.MemTarget.{with_piece}
use Rattle.e57_base.specs.Target.{TargetView, PutsPage, with_page}
use Rattle.e57_base.specs.declared.fault.Failed.{Failed}
use Rattle.e57_page.specs.File.{logical}
use Rattle.e57_page_out.specs.Buffer.{number_held, begun_bytes, bytes_so_far, size_so_far, patched, IsRow, IsSound, writing}
use Rattle.e57_page_out.proofs.PieceLaws.{length-piece, piece-behind, piece-before, piece-front}
use Rattle.e57_page_out.specs.Sealed.{page_bytes}
use Rattle.e57_page_out.proofs.SealedLaws.{length-page_bytes}
use Rattle.e57_page_out.specs.Writing.{Writing, Writes, IsBrokenOff}
use Rattle.e57_page_out.specs.declared.buffer.Buffer.{Buffer}
use Rattle.e57_page_out.specs.declared.buffer.Held.{Held}
use Rattle.e57_page_out.specs.declared.buffer.Held.TheVariants.{Nothing, Begun, Whole}
use Rattle.e57_page_out.proofs.Rows.{length_logical_row, row_again, logical_again}
use Rattle.e57_page_out.proofs.States.{told_same, told_after, length_laid, length_begun, sound_state, pages_so_far}
use Rattle.e57_page_out.proofs.Turning.{broken_off}

-- a piece of a piece
piece_within : (a at : ℕ) (piece part bytes : List ℕ) → at + length piece ≤ length part → a + length part ≤ length bytes → with_piece (a + at) piece (with_piece a part bytes) ≡ with_piece a (with_piece at piece part) bytes
piece_within a at piece part bytes fits within =
    let front : length (take a bytes) ≡ a = length-take-le a bytes (omega arith) in
    let same : length (with_piece at piece part) ≡ length part = length-piece at piece part fits in
    ap (with_piece (a + at) piece) (append_assoc (take a bytes) part (drop (a + length part) bytes))
    ∙ piece-behind a at (take a bytes) piece (part ++ drop (a + length part) bytes) front (omega (arith, length-append part (drop (a + length part) bytes)))
    ∙ ap (λ (xs : List ℕ). take a bytes ++ xs) (piece-before at piece part (drop (a + length part) bytes) fits)
    ∙ sym (append_assoc (take a bytes) (with_piece at piece part) (drop (a + length part) bytes))
    ∙ ap (λ k. take a bytes ++ with_piece at piece part ++ drop (a + k) bytes) (sym same)

-- the buffer with this page held
abbrev pub with_held : Held → Buffer → Buffer
with_held held buffer = record buffer { held = held }

told_map_both : (f g h : List ℕ → List ℕ) (P : List ℕ → Type 0) (held : Option (List ℕ)) → ((file : List ℕ) → P file → f file ≡ h (g file)) → IfSome held P → option_map f held ≡ option_map h (option_map g held)
told_map_both f g h P None each ok = refl
told_map_both f g h P (Some file) each ok = ap Some (each file ok)

module _ (target : TargetView) (buffer : Buffer) (at : ℕ) (piece : List ℕ) (fits : at + length piece ≤ 1020) where
  -- bytes of the begun page
  begun_patched : IsSound target (with_held Begun buffer) → at + length piece ≤ buffer.filled → (file : List ℕ) → IsRow buffer.number file → bytes_so_far (patched (with_held Begun buffer) at piece) file ≡ with_piece (1020 * buffer.number + at) piece (bytes_so_far (with_held Begun buffer) file)
  begun_patched sound written file row =
      let short = sound.short in
      let long = sound.page in
      let size = length_begun buffer sound.page (omega arith) in
      ap (λ (xs : List ℕ). logical file ++ xs) (piece-front buffer.filled at piece buffer.page written (omega arith))
      ∙ sym (piece-behind (1020 * buffer.number) at (logical file) piece (begun_bytes buffer) (length_logical_row buffer.number file row) (omega arith))

  -- bytes of a page that was put
  whole_patched : (k : ℕ) → IsSound target (with_held (Whole k) buffer) → (file : List ℕ) → IsRow buffer.number file → bytes_so_far (patched (with_held (Whole k) buffer) at piece) file ≡ with_piece (1020 * k + at) piece (bytes_so_far (with_held (Whole k) buffer) file)
  whole_patched k sound file row =
      let long = sound.kept in
      let below = sound.held.1 in
      let part : length (take 1020 buffer.kept) ≡ 1020 = length-take-le 1020 buffer.kept (omega arith) in
      let size = length_logical_row buffer.number file row in
      let all = length_laid (Whole k) buffer.number buffer.kept (logical file) sound.held sound.kept size in
      ap (λ (xs : List ℕ). with_piece (1020 * k) xs (logical file) ++ begun_bytes buffer) (piece-front 1020 at piece buffer.kept fits (omega arith))
      ∙ ap (λ (xs : List ℕ). xs ++ begun_bytes buffer) (sym (piece_within (1020 * k) at piece (take 1020 buffer.kept) (logical file) (omega arith) (omega arith)))
      ∙ sym (piece-before (1020 * k + at) piece (with_piece (1020 * k) (take 1020 buffer.kept) (logical file)) (begun_bytes buffer) (omega arith))

  abbrev pub IsPatched : {T : Type 0} → (T → TargetView) → T → Held → Type 0
  IsPatched view goal held =
      IfSome (number_held held buffer.number) (λ n. writing view goal (patched (with_held held buffer) at piece) false ≡ record (writing view goal (with_held held buffer) false) { told_bytes = option_map (with_piece (1020 * n + at) piece) (option_map (bytes_so_far (with_held held buffer)) (view goal).held) })

abbrev pub IsWritten : Buffer → ℕ → List ℕ → Held → Type 0
IsWritten buffer at piece held = IsSomeAnd (number_held held buffer.number) (λ n. 1020 * n + at + length piece ≤ size_so_far buffer)

module _ {T : Type 0} (view : T → TargetView) (goal : T) (buffer : Buffer) (at : ℕ) (piece : List ℕ) (fits : at + length piece ≤ 1020) where
  pub is_patched : (held : Held) → IsSound (view goal) (with_held held buffer) → IsWritten buffer at piece held → IsPatched (view goal) buffer at piece fits view goal held
  is_patched Nothing sound written = tt
  is_patched Begun sound written =
      ap (λ told. record (writing view goal (with_held Begun buffer) false) { told_bytes = told })
      (told_map_both (bytes_so_far (patched (with_held Begun buffer) at piece)) (bytes_so_far (with_held Begun buffer)) (with_piece (1020 * buffer.number + at) piece) (λ file. IsRow buffer.number file) (view goal).held (begun_patched (view goal) buffer at piece fits sound (omega arith)) sound.file)
  is_patched (Whole k) sound written =
      ap (λ told. record (writing view goal (with_held (Whole k) buffer) false) { told_bytes = told })
      (told_map_both (bytes_so_far (patched (with_held (Whole k) buffer) at piece)) (bytes_so_far (with_held (Whole k) buffer)) (with_piece (1020 * k + at) piece) (λ file. IsRow buffer.number file) (view goal).held (whole_patched (view goal) buffer at piece fits k sound) sound.file)

module _ {T : Type 0} (view : T → TargetView) (goal : T) (buffer : Buffer) where
  -- the released page is put again
  module _ (k : ℕ) (sound : IsSound (view goal) (with_held (Whole k) buffer)) where
    abbrev again : List ℕ
    again = page_bytes (take 1020 buffer.kept)

    abbrev unheld : Buffer
    unheld = record buffer { held = Nothing; kept = again }

    kept_payload : length (take 1020 buffer.kept) ≡ 1020
    kept_payload = let long = sound.kept in length-take-le 1020 buffer.kept (omega arith)

    module _ (goal' : T) (e : Unit {0}) (puts : PutsPage {T = Unit {0}} (view goal) k (page_bytes (take 1020 buffer.kept)) (Ok e) (view goal')) where
      pub released_sound : IsSound (view goal') unheld
      released_sound =
          let below = sound.held.1 in
          record {
            page = sound.page;
            kept = length-page_bytes (take 1020 buffer.kept) kept_payload;
            short = sound.short;
            behind = sound.behind;
            limit = sound.limit;
            pages = puts.pages ∙ same_pages k buffer.number (view goal).pages sound.pages below;
            unended = puts.finished;
            held = tt;
            file = told_after (with_page k again) (λ file. IsRow buffer.number file) (λ file. IsRow buffer.number file) (view goal).held (view goal').held (λ file row. row_again buffer.number k (take 1020 buffer.kept) file row sound.held.0 below kept_payload) sound.file puts.held;
          }
        where
          same_pages : (k n : ℕ) (pages : Option ℕ) → pages ≡ Some n → k < n → option_map (λ pages. cond (k == pages) (pages + 1) pages) pages ≡ Some n
          same_pages k n pages is below =
              let other : (k == n) ≡ false = grind (arith, nat_tests) in
              ap (option_map (λ pages. cond (k == pages) (pages + 1) pages)) is ∙ ap (λ b. Some (cond b (n + 1) n)) other

      released_bytes : (file : List ℕ) → IsRow buffer.number file → bytes_so_far unheld (with_page k again file) ≡ bytes_so_far (with_held (Whole k) buffer) file
      released_bytes file row = ap (λ (xs : List ℕ). xs ++ begun_bytes buffer) (logical_again buffer.number k (take 1020 buffer.kept) file row sound.held.0 sound.held.1 kept_payload)

      pub released : Writes view (writing view goal (with_held (Whole k) buffer) false) (option_map (bytes_so_far (with_held (Whole k) buffer)) (view goal).held) (size_so_far buffer) None (writing view goal' unheld false)
      released =
          record {
            bytes = told_same (bytes_so_far unheld) (bytes_so_far (with_held (Whole k) buffer)) (with_page k again) (λ file. IsRow buffer.number file) (view goal).held (view goal').held released_bytes sound.file puts.held;
            size = refl;
            held = refl;
            state = sound_state view goal' unheld released_sound;
            target = record { created = puts.created; named = puts.named; faults = puts.faults };
          }

    pub not_released : (goal' : T) (after : Buffer) (e : Failed) → PutsPage {T = Unit {0}} (view goal) k (page_bytes (take 1020 buffer.kept)) (Err e) (view goal') → IsBrokenOff view (writing view goal (with_held (Whole k) buffer) false) (size_so_far buffer / 1020 + 1) (writing view goal' after true)
    not_released goal' after e puts =
        let short = sound.short in
        broken_off view (writing view goal (with_held (Whole k) buffer) false) goal' after k buffer.number (size_so_far buffer / 1020 + 1) again e sound.held.0 sound.behind sound.pages (omega arith) (omega arith) sound.file puts

    pub not_begun : number_held (Whole k) buffer.number ≡ Some (size_so_far buffer / 1020) → ⊥
    not_begun is =
        let short = sound.short in
        let below = sound.held.1 in
        let count = pages_so_far buffer.number buffer.filled sound.short in
        let same : k ≡ size_so_far buffer / 1020 = cc in
        omega arith

  -- a page that is still begun, or none, is held no longer
  pub let_go : (held : Held) → IsSound (view goal) (with_held held buffer) → ((k : ℕ) → held ≡ Whole k → ⊥) → (IsSound (view goal) (with_held Nothing buffer)) × (writing view goal (with_held Nothing buffer) false ≡ record (writing view goal (with_held held buffer) false) { held = None })
  let_go Nothing sound other = (sound, refl)
  let_go Begun sound other = (
    record {
      page = sound.page;
      kept = sound.kept;
      short = sound.short;
      behind = sound.behind;
      limit = sound.limit;
      pages = sound.pages;
      unended = sound.unended;
      held = tt;
      file = sound.file;
    },
    refl,
  )
  let_go (Whole k) sound other = absurd (other k refl)

-- the same as what the call does
pub freed : {T : Type 0} (view : T → TargetView) (goal : T) (buffer : Buffer) → IsSound (view goal) buffer → ((k : ℕ) → buffer.held ≡ Whole k → ⊥) → Writes view (writing view goal buffer false) (option_map (bytes_so_far buffer) (view goal).held) (size_so_far buffer) None (writing view goal (with_held Nothing buffer) false)
freed {T} view goal buffer sound other =
    let gone = let_go view goal buffer buffer.held sound other in
    let is = gone.1 in
    record {
      bytes = ap (λ (w : Writing T). w.told_bytes) is;
      size = refl;
      held = refl;
      state = sound_state view goal (with_held Nothing buffer) gone.0;
      target = record { created = refl; named = refl; faults = omega arith };
    }
