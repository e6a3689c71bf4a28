-- What the states of a writer say of its target and its bytes.
use Rattle.std.proofs.Common.{◌≡◌, ℕ, ◌+◌, ◌*◌, ◌/◌, ◌<◌, ◌≤◌, false, List, length, take, Option, Some, None, IfSome, refl, sym, ap, subst, ◌∙◌, arith}
use Rattle.std.specs.Prelude.{is_some}
use Rattle.std.specs.Option.{option_map}
use Rattle.std.proofs.lemmas.List.{length-append, length-take-le}
use Rattle.e57_base.specs.Target.{TargetView}
use Rattle.e57_base.proofs.Told.{told_map}
use Rattle.e57_page.specs.File.{logical}
use Rattle.e57_page_out.specs.Buffer.{number_held, laid_over, begun_bytes, bytes_so_far, size_so_far, IsRow, IsHeldBelow, IsSound, writing}
use Rattle.e57_page_out.proofs.PieceLaws.{length-piece}
use Rattle.e57_page_out.specs.Sealed.{filled}
use Rattle.e57_page_out.specs.Writing.{IsUnfinished, IsBeingWritten}
use Rattle.e57_page_out.specs.declared.buffer.Buffer.{Buffer}
use Rattle.e57_page_out.specs.declared.buffer.Held.{Held}
use Rattle.e57_page_out.specs.declared.buffer.Held.TheVariants.{Nothing, Begun, Whole}
use Rattle.e57_page_out.proofs.Rows.{first_byte, length_logical_row}
use Rattle.e57_page_out.proofs.Unfinished.{unfinished}

-- what two functions give of bytes that may not be told, after a third changed them
pub told_same : (f g h : List ℕ → List ℕ) (P : List ℕ → Type 0) (held now : Option (List ℕ)) → ((file : List ℕ) → P file → f (h file) ≡ g file) → IfSome held P → now ≡ option_map h held → option_map f now ≡ option_map g held
told_same f g h P None now each ok is = ap (option_map f) is
told_same f g h P (Some file) now each ok is = ap (option_map f) is ∙ ap Some (each file ok)

-- a fact of the bytes after that
pub told_after : (h : List ℕ → List ℕ) (P Q : List ℕ → Type 0) (held now : Option (List ℕ)) → ((file : List ℕ) → P file → Q (h file)) → IfSome held P → now ≡ option_map h held → IfSome now Q
told_after h P Q None now each ok is = subst (λ o. IfSome o Q) (sym is) tt
told_after h P Q (Some file) now each ok is = subst (λ o. IfSome o Q) (sym is) (each file ok)

pub some_mapped : (f : List ℕ → List ℕ) (held : Option (List ℕ)) → is_some (option_map f held) ≡ is_some held
some_mapped f None = refl
some_mapped f (Some file) = refl

-- the bytes so far are as many as they are said to be
pub length_laid : (held : Held) (n : ℕ) (kept bytes : List ℕ) → IsHeldBelow held n → length kept ≡ 1024 → length bytes ≡ 1020 * n → length (laid_over held kept bytes) ≡ 1020 * n
length_laid Nothing n kept bytes below long size = size
length_laid Begun n kept bytes below long size = size
length_laid (Whole k) n kept bytes below long size =
    let low = below.1 in
    let part : length (take 1020 kept) ≡ 1020 = length-take-le 1020 kept (omega arith) in
    length-piece (1020 * k) (take 1020 kept) bytes (omega arith) ∙ size

pub length_begun : (buffer : Buffer) → length buffer.page ≡ 1024 → buffer.filled ≤ 1020 → length (begun_bytes buffer) ≡ buffer.filled
length_begun buffer long short = length-take-le buffer.filled buffer.page (omega arith)

pub length_so_far : (target : TargetView) (buffer : Buffer) (sound : IsSound target buffer) (file : List ℕ) → IsRow buffer.number file → length (bytes_so_far buffer file) ≡ size_so_far buffer
length_so_far target buffer sound file row =
    let front = length_laid buffer.held buffer.number buffer.kept (logical file) sound.held sound.kept (length_logical_row buffer.number file row) in
    let short = sound.short in
    let back = length_begun buffer sound.page (omega arith) in
    omega (arith, length-append (laid_over buffer.held buffer.kept (logical file)) (begun_bytes buffer))

told_length : (f : List ℕ → List ℕ) (n : ℕ) (P : List ℕ → Type 0) (held : Option (List ℕ)) → ((file : List ℕ) → P file → length (f file) ≡ n) → IfSome held P → IfSome (option_map f held) (λ bytes. length bytes ≡ n)
told_length f n P None each ok = tt
told_length f n P (Some file) each ok = each file ok

held_bounds : (held : Held) (n : ℕ) → 1 ≤ n → IsHeldBelow held n → IfSome (number_held held n) (λ k. (1 ≤ k) × (k ≤ n))
held_bounds Nothing n from below = tt
held_bounds Begun n from below = (from, omega arith)
held_bounds (Whole k) n from below = let low = below.1 in (below.0, omega arith)

pub pages_so_far : (n filled : ℕ) → filled < 1020 → (1020 * n + filled) / 1020 ≡ n
pages_so_far n filled short = omega arith

pub unfinished_told : (n : ℕ) (held : Option (List ℕ)) → IfSome held (λ file. IsRow n file) → IfSome held IsUnfinished
unfinished_told n held rows = told_map (λ file. IsRow n file) IsUnfinished held (λ file row. unfinished file (first_byte n file row)) rows

-- a sound state is one of a file that is being written
pub sound_state : {T : Type 0} (view : T → TargetView) (target : T) (buffer : Buffer) → IsSound (view target) buffer → IsBeingWritten view (writing view target buffer false)
sound_state view target buffer sound =
    let short = sound.short in
    let behind = sound.behind in
    let count : size_so_far buffer / 1020 ≡ buffer.number = pages_so_far buffer.number buffer.filled sound.short in
    record {
      unspent = refl;
      first = omega arith;
      limit = sound.limit;
      pages = sound.pages ∙ ap Some (sym count);
      unended = sound.unended;
      tells = some_mapped (bytes_so_far buffer) (view target).held;
      bytes = told_length (bytes_so_far buffer) (size_so_far buffer) (λ file. IsRow buffer.number file) (view target).held (length_so_far (view target) buffer sound) sound.file;
      held = subst (λ k. IfSome (number_held buffer.held buffer.number) (λ n. (1 ≤ n) × (n ≤ k))) (sym count) (held_bounds buffer.held buffer.number behind sound.held);
      unfinished = unfinished_told buffer.number (view target).held sound.file;
    }
