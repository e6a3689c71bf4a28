-- What each call of a writer does, from a sound state.
use Rattle.std.proofs.Common.{◌≡◌, ℕ, ◌+◌, ◌-◌, ◌*◌, ◌/◌, ◌%◌, ◌<◌, ◌≤◌, Bool, true, false, List, [], ◌++◌, length, replicate, Option, Some, None, IfSome, Ok, Err, refl, sym, ap, subst, ◌∙◌, arith}
use Rattle.std.specs.Option.{option_map}
use Rattle.std.proofs.lemmas.List.{append-nil}
use Rattle.e57_base.specs.Target.{TargetView, PutsPage}
use Rattle.e57_base.specs.declared.fault.Failed.{Failed}
use Rattle.e57_page_out.specs.Buffer.{number_held, bytes_so_far, size_so_far, ended_payload, turned, appended, IsRow, IsSound, IsSoundUnless, writing}
use Rattle.e57_page_out.specs.Sealed.{page_bytes, filled, pages_for}
use Rattle.e57_page_out.specs.Writing.{Writing, Writes, IsBrokenOff, most_bytes}
use Rattle.e57_page_out.proofs.WritingLaws.{keeps_none}
use Rattle.e57_page_out.specs.declared.buffer.Buffer.{Buffer}
use Rattle.e57_page_out.proofs.States.{sound_state, length_so_far}
use Rattle.e57_page_out.proofs.Turning.{turned_sound, turned_bytes, number_turned, broken_off, told_appended, appended_sound, appended_ready, begun_ready}

-- a writer that isn't spent is in a sound state
pub by_sound : {T : Type 0} (view : T → TargetView) (target : T) (buffer : Buffer) (spent : Bool) (now : Writing T) (P : Writing T → Bool → Type 0) → writing view target buffer spent ≡ now → now.is_spent ≡ false → IsSoundUnless spent (view target) buffer → (IsSound (view target) buffer → P (writing view target buffer false) false) → P now spent
by_sound {T} view target buffer true now P is unspent sound each =
    let wrong : true ≡ false = ap (λ (w : Writing T). w.is_spent) is ∙ unspent in
    absurd cc
by_sound view target buffer false now P is unspent sound each = subst (λ w. P w false) is (each sound)

-- a piece that fits into the page and doesn't leave room ends it
pub whole_piece : (n filled count : ℕ) → filled < 1020 → (1020 * n + filled) % 1020 + count ≤ 1020 → 1020 ≤ filled + count → filled + count ≡ 1020
whole_piece n filled count short fits full = omega arith

pub some_begun : (n filled : ℕ) → filled < 1020 → 0 < (1020 * n + filled) % 1020 → 0 < filled
some_begun n filled short some = omega arith

module _ {T : Type 0} (view : T → TargetView) (target : T) (buffer : Buffer) (piece : List ℕ) (sound : IsSound (view target) buffer) where
  -- a piece within the page
  pub put_within : (after : Buffer) → after ≡ appended buffer piece → after.filled < 1020 → size_so_far buffer + length piece ≤ most_bytes
      → Writes view (writing view target buffer false) (option_map (λ so_far. so_far ++ piece) (option_map (bytes_so_far buffer) (view target).held)) (size_so_far buffer + length piece) (number_held buffer.held buffer.number) (writing view target after false)
  put_within after is short limit =
      let fits : buffer.filled + length piece < 1020 = subst (λ (b : Buffer). b.filled < 1020) is short in
      let next = appended_sound (view target) buffer piece sound fits limit in
      subst (λ b. Writes view (writing view target buffer false) (option_map (λ so_far. so_far ++ piece) (option_map (bytes_so_far buffer) (view target).held)) (size_so_far buffer + length piece) (number_held buffer.held buffer.number) (writing view target b false)) (sym is)
      (record {
        bytes = told_appended buffer piece (view target).held sound.page (omega arith);
        size = omega arith;
        held = refl;
        state = sound_state view target (appended buffer piece) next;
        target = keeps_none (view target);
      })

  -- a piece that ends the page
  pub put_whole : (target' : T) (e : Unit {0}) → buffer.filled + length piece ≡ 1020 → size_so_far buffer + length piece ≤ most_bytes
      → PutsPage {T = Unit {0}} (view target) buffer.number (page_bytes (ended_payload (appended buffer piece))) (Ok e) (view target')
      → Writes view (writing view target buffer false) (option_map (λ so_far. so_far ++ piece) (option_map (bytes_so_far buffer) (view target).held)) (size_so_far buffer + length piece) (number_held buffer.held buffer.number) (writing view target' (turned (appended buffer piece) (page_bytes (ended_payload (appended buffer piece)))) false)
  put_whole target' e whole limit puts =
      let ready = appended_ready (view target) buffer piece sound whole limit in
      let next = turned_sound (view target) (view target') (appended buffer piece) ready e puts in
      let none : 1020 - (buffer.filled + length piece) ≡ 0 = omega arith in
      record {
        bytes = turned_bytes (view target) (view target') (appended buffer piece) ready e puts
            ∙ rw none (no_zeros (bytes_so_far (appended buffer piece)) (view target).held)
            ∙ told_appended buffer piece (view target).held sound.page (omega arith);
        size = omega arith;
        held = number_turned buffer.held buffer.number;
        state = sound_state view target' (turned (appended buffer piece) (page_bytes (ended_payload (appended buffer piece)))) next;
        target = record { created = puts.created; named = puts.named; faults = puts.faults };
      }
    where
      no_zeros : (f : List ℕ → List ℕ) (held : Option (List ℕ)) → option_map (λ file. f file ++ []) held ≡ option_map f held
      no_zeros f None = refl
      no_zeros f (Some file) = ap Some (append-nil (f file))

  pub whole_sound : (target' : T) (e : Unit {0}) → buffer.filled + length piece ≡ 1020 → size_so_far buffer + length piece ≤ most_bytes
      → PutsPage {T = Unit {0}} (view target) buffer.number (page_bytes (ended_payload (appended buffer piece))) (Ok e) (view target')
      → IsSound (view target') (turned (appended buffer piece) (page_bytes (ended_payload (appended buffer piece))))
  whole_sound target' e whole limit puts = turned_sound (view target) (view target') (appended buffer piece) (appended_ready (view target) buffer piece sound whole limit) e puts

  pub piece_lost : (target' : T) (after : Buffer) (e : Failed) → buffer.filled + length piece ≡ 1020
      → PutsPage {T = Unit {0}} (view target) buffer.number (page_bytes (ended_payload (appended buffer piece))) (Err e) (view target')
      → IsBrokenOff view (writing view target buffer false) ((size_so_far buffer + length piece) / 1020) (writing view target' after true)
  piece_lost target' after e whole puts =
      let behind = sound.behind in
      let short = sound.short in
      broken_off view (writing view target buffer false) target' after buffer.number buffer.number ((size_so_far buffer + length piece) / 1020) (page_bytes (ended_payload (appended buffer piece))) e sound.behind sound.behind sound.pages (omega arith) (omega arith) sound.file puts

-- how many pages the bytes so far take, where a page is begun
pages_begun : (n k : ℕ) → 0 < k → k < 1020 → pages_for (1020 * n + k) ≡ n + 1
unfolding pages_for
pages_begun n k some short = omega arith

zeros_so_far : (size : ℕ) (f : List ℕ → List ℕ) (n k : ℕ) (P : List ℕ → Type 0) (held : Option (List ℕ)) → ((file : List ℕ) → P file → length (f file) ≡ size) → IfSome held P → 1020 * n - size ≡ k → option_map (λ file. f file ++ replicate k 0) held ≡ option_map (filled n) (option_map f held)
unfolding filled
zeros_so_far size f n k P None each ok is = refl
zeros_so_far size f n k P (Some file) each ok is =
    let same : k ≡ 1020 * n - length (f file) = omega (arith, each file ok) in
    ap (λ j. Some (f file ++ replicate j 0)) same

module _ {T : Type 0} (view : T → TargetView) (target : T) (buffer : Buffer) (sound : IsSound (view target) buffer) (some : 0 < buffer.filled) where
  -- the begun page was filled and put
  pub page_ended : (target' : T) (e : Unit {0})
      → PutsPage {T = Unit {0}} (view target) buffer.number (page_bytes (ended_payload buffer)) (Ok e) (view target')
      → Writes view (writing view target buffer false) (option_map (filled (pages_for (size_so_far buffer))) (option_map (bytes_so_far buffer) (view target).held)) (1020 * pages_for (size_so_far buffer)) (number_held buffer.held buffer.number) (writing view target' (turned buffer (page_bytes (ended_payload buffer))) false)
  page_ended target' e puts =
      let ready = begun_ready (view target) buffer sound some in
      let next = turned_sound (view target) (view target') buffer ready e puts in
      let count : pages_for (size_so_far buffer) ≡ buffer.number + 1 = pages_begun buffer.number buffer.filled some sound.short in
      record {
        bytes = turned_bytes (view target) (view target') buffer ready e puts
            ∙ zeros_so_far (size_so_far buffer) (bytes_so_far buffer) (buffer.number + 1) (1020 - buffer.filled) (λ file. IsRow buffer.number file) (view target).held (length_so_far (view target) buffer sound) sound.file (omega arith)
            ∙ ap (λ n. option_map (filled n) (option_map (bytes_so_far buffer) (view target).held)) (sym count);
        size = omega arith;
        held = number_turned buffer.held buffer.number;
        state = sound_state view target' (turned buffer (page_bytes (ended_payload buffer))) next;
        target = record { created = puts.created; named = puts.named; faults = puts.faults };
      }

  pub ended_sound : (target' : T) (e : Unit {0})
      → PutsPage {T = Unit {0}} (view target) buffer.number (page_bytes (ended_payload buffer)) (Ok e) (view target')
      → IsSound (view target') (turned buffer (page_bytes (ended_payload buffer)))
  ended_sound target' e puts = turned_sound (view target) (view target') buffer (begun_ready (view target) buffer sound some) e puts

  pub page_lost : (target' : T) (after : Buffer) (e : Failed)
      → PutsPage {T = Unit {0}} (view target) buffer.number (page_bytes (ended_payload buffer)) (Err e) (view target')
      → IsBrokenOff view (writing view target buffer false) (pages_for (size_so_far buffer)) (writing view target' after true)
  page_lost target' after e puts =
      let behind = sound.behind in
      let short = sound.short in
      let count : pages_for (size_so_far buffer) ≡ buffer.number + 1 = pages_begun buffer.number buffer.filled some sound.short in
      broken_off view (writing view target buffer false) target' after buffer.number buffer.number (pages_for (size_so_far buffer)) (page_bytes (ended_payload buffer)) e sound.behind sound.behind sound.pages (omega arith) (omega arith) sound.file puts

pages_even : (n k : ℕ) → k ≡ 0 → pages_for (1020 * n + k) ≡ n
unfolding pages_for
pages_even n k none = omega arith

-- directly behind a whole page nothing is filled
pub page_still : {T : Type 0} (view : T → TargetView) (target : T) (buffer : Buffer) → IsSound (view target) buffer → buffer.filled ≡ 0 → Writes view (writing view target buffer false) (option_map (filled (pages_for (size_so_far buffer))) (option_map (bytes_so_far buffer) (view target).held)) (1020 * pages_for (size_so_far buffer)) (number_held buffer.held buffer.number) (writing view target buffer false)
page_still view target buffer sound none =
    let count : pages_for (size_so_far buffer) ≡ buffer.number = pages_even buffer.number buffer.filled none in
    record {
      bytes = no_zeros (bytes_so_far buffer) (view target).held
          ∙ zeros_so_far (size_so_far buffer) (bytes_so_far buffer) buffer.number 0 (λ file. IsRow buffer.number file) (view target).held (length_so_far (view target) buffer sound) sound.file (omega arith)
          ∙ ap (λ n. option_map (filled n) (option_map (bytes_so_far buffer) (view target).held)) (sym count);
      size = omega arith;
      held = refl;
      state = sound_state view target buffer sound;
      target = keeps_none (view target);
    }
  where
    no_zeros : (f : List ℕ → List ℕ) (held : Option (List ℕ)) → option_map f held ≡ option_map (λ file. f file ++ []) held
    no_zeros f None = refl
    no_zeros f (Some file) = ap Some (sym (append-nil (f file)))
