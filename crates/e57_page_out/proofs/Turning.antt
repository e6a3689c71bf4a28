-- The begun page is put, and the next one is begun.
use Rattle.std.proofs.Common.{◌≡◌, ℕ, ◌+◌, ◌-◌, ◌*◌, ◌/◌, ◌^◌, ◌<◌, ◌≤◌, true, List, [], ◌++◌, length, take, drop, replicate, slice_index, Option, Some, None, IfSome, Ok, Err, refl, sym, ap, subst, ◌∙◌, arith, cond, ◌==◌, eq-eqb}
use Rattle.std.specs.Prelude.{IsSomeAnd}
use Rattle.std.specs.Option.{option_map}
use Rattle.std.proofs.lemmas.List.{append_assoc, append-nil, length-append, length-take-le, length-replicate, take_at}
use Rattle.e57_base.specs.MemTarget.{with_piece}
use Rattle.e57_base.specs.Target.{TargetView, PutsPage, with_page}
use Rattle.e57_base.proofs.Told.{told_map}
use Rattle.e57_base.specs.declared.fault.Failed.{Failed}
use Rattle.e57_page.specs.File.{logical}
use Rattle.e57_page_out.specs.Buffer.{number_held, laid_over, begun_bytes, bytes_so_far, size_so_far, ended_payload, held_after, kept_after, turned, appended, IsRow, IsHeldBelow, IsSound, writing}
use Rattle.e57_page_out.proofs.PieceLaws.{length-piece, piece-between, piece-before}
use Rattle.e57_page_out.specs.Sealed.{page_bytes}
use Rattle.e57_page_out.proofs.SealedLaws.{take-page_bytes, length-page_bytes}
use Rattle.e57_page_out.specs.Writing.{Writing, IsBrokenOff}
use Rattle.e57_page_out.specs.declared.buffer.Buffer.{Buffer}
use Rattle.e57_page_out.specs.declared.buffer.Held.{Held}
use Rattle.e57_page_out.specs.declared.buffer.Held.TheVariants.{Nothing, Begun, Whole}
use Rattle.e57_page_out.proofs.Rows.{first_byte, length_logical_row, row_more, logical_more}
use Rattle.e57_page_out.proofs.States.{told_same, told_after, length_begun}
use Rattle.e57_page_out.proofs.Unfinished.{torn_told}

-- the begun page may be put: as a sound state, but its payload may be whole
pub record IsReady (target : TargetView) (buffer : Buffer) : Type 0 where
  pub page : length buffer.page ≡ 1024
  pub kept : length buffer.kept ≡ 1024
  pub short : buffer.filled ≤ 1020
  pub behind : 1 ≤ buffer.number
  pub limit : buffer.number < 2 ^ 38
  pub pages : target.pages ≡ Some buffer.number
  pub held : IsHeldBelow buffer.held buffer.number
  pub file : IfSome target.held (λ file. IsRow buffer.number file)

pub length_ended : (buffer : Buffer) → length buffer.page ≡ 1024 → buffer.filled ≤ 1020 → length (ended_payload buffer) ≡ 1020
length_ended buffer long short = omega (arith, length-append (begun_bytes buffer) (replicate {A = ℕ} (1020 - buffer.filled) 0), length_begun buffer long short, length-replicate {A = ℕ} (1020 - buffer.filled) 0)

held_turned : (held : Held) (n : ℕ) → 1 ≤ n → IsHeldBelow held n → IsHeldBelow (held_after held n) (n + 1)
held_turned Nothing n from below = tt
held_turned Begun n from below = (from, omega arith)
held_turned (Whole k) n from below = let low = below.1 in (below.0, omega arith)

pub number_turned : (held : Held) (n : ℕ) → number_held (held_after held n) (n + 1) ≡ number_held held n
number_turned Nothing n = refl
number_turned Begun n = refl
number_turned (Whole k) n = refl

kept_long : (held : Held) (page kept : List ℕ) → length page ≡ 1024 → length kept ≡ 1024 → length (kept_after held page kept) ≡ 1024
kept_long Nothing page kept a b = b
kept_long Begun page kept a b = a
kept_long (Whole k) page kept a b = b

-- the held page lies over the longer bytes as over the shorter ones
laid_turned : (held : Held) (n : ℕ) (payload kept bytes : List ℕ) → IsHeldBelow held n → length payload ≡ 1020 → length kept ≡ 1024 → length bytes ≡ 1020 * n → laid_over (held_after held n) (kept_after held (page_bytes payload) kept) (bytes ++ payload) ≡ laid_over held kept bytes ++ payload
laid_turned Nothing n payload kept bytes below whole long size = refl
laid_turned Begun n payload kept bytes below whole long size =
    ap (λ (xs : List ℕ). with_piece (1020 * n) xs (bytes ++ payload)) (take-page_bytes payload whole)
    ∙ ap (λ (xs : List ℕ). with_piece (1020 * n) payload (bytes ++ xs)) (sym (append-nil payload))
    ∙ piece-between (1020 * n) bytes payload payload [] size refl
    ∙ ap (λ (xs : List ℕ). bytes ++ xs) (append-nil payload)
laid_turned (Whole k) n payload kept bytes below whole long size =
    let low = below.1 in
    let part : length (take 1020 kept) ≡ 1020 = length-take-le 1020 kept (omega arith) in
    piece-before (1020 * k) (take 1020 kept) bytes payload (omega arith)

-- the bytes so far are those from before, and the zeros
bytes_turned : (target : TargetView) (buffer : Buffer) (ready : IsReady target buffer) (file : List ℕ) → IsRow buffer.number file → bytes_so_far (turned buffer (page_bytes (ended_payload buffer))) (with_page buffer.number (page_bytes (ended_payload buffer)) file) ≡ bytes_so_far buffer file ++ replicate (1020 - buffer.filled) 0
bytes_turned target buffer ready file row =
    let whole = length_ended buffer ready.page ready.short in
    append-nil (laid_over (held_after buffer.held buffer.number) (kept_after buffer.held (page_bytes (ended_payload buffer)) buffer.kept) (logical (with_page buffer.number (page_bytes (ended_payload buffer)) file)))
    ∙ ap (laid_over (held_after buffer.held buffer.number) (kept_after buffer.held (page_bytes (ended_payload buffer)) buffer.kept)) (logical_more buffer.number (ended_payload buffer) file row whole)
    ∙ laid_turned buffer.held buffer.number (ended_payload buffer) buffer.kept (logical file) ready.held whole ready.kept (length_logical_row buffer.number file row)
    ∙ sym (append_assoc (laid_over buffer.held buffer.kept (logical file)) (begun_bytes buffer) (replicate (1020 - buffer.filled) 0))

module _ (old new : TargetView) (buffer : Buffer) (ready : IsReady old buffer) (e : Unit {0}) (puts : PutsPage {T = Unit {0}} old buffer.number (page_bytes (ended_payload buffer)) (Ok e) new) where
  pub turned_sound : IsSound new (turned buffer (page_bytes (ended_payload buffer)))
  turned_sound =
      let whole = length_ended buffer ready.page ready.short in
      let behind = ready.behind in
      let below = ready.limit in
      record {
        page = length-page_bytes (ended_payload buffer) whole;
        kept = kept_long buffer.held (page_bytes (ended_payload buffer)) buffer.kept (length-page_bytes (ended_payload buffer) whole) ready.kept;
        short = omega arith;
        behind = omega arith;
        limit = omega arith;
        pages = puts.pages ∙ more_pages buffer.number old.pages ready.pages;
        unended = puts.finished;
        held = held_turned buffer.held buffer.number ready.behind ready.held;
        file = told_after (with_page buffer.number (page_bytes (ended_payload buffer))) (λ file. IsRow buffer.number file) (λ file. IsRow (buffer.number + 1) file) old.held new.held (λ file row. row_more buffer.number (ended_payload buffer) file row whole) ready.file puts.held;
      }
    where
      more_pages : (n : ℕ) (pages : Option ℕ) → pages ≡ Some n → option_map (λ pages. cond (n == pages) (pages + 1) pages) pages ≡ Some (n + 1)
      more_pages n pages is = ap (option_map (λ pages. cond (n == pages) (pages + 1) pages)) is ∙ ap (λ b. Some (cond b (n + 1) n)) (eq-eqb n n refl)

  pub turned_bytes : option_map (bytes_so_far (turned buffer (page_bytes (ended_payload buffer)))) new.held ≡ option_map (λ file. bytes_so_far buffer file ++ replicate (1020 - buffer.filled) 0) old.held
  turned_bytes =
      told_same (bytes_so_far (turned buffer (page_bytes (ended_payload buffer)))) (λ file. bytes_so_far buffer file ++ replicate (1020 - buffer.filled) 0) (with_page buffer.number (page_bytes (ended_payload buffer))) (λ file. IsRow buffer.number file) old.held new.held (bytes_turned old buffer ready) ready.file puts.held

-- a page behind page 0 was not put
pub broken_off : {T : Type 0} (view : T → TargetView) (old : Writing T) (target : T) (buffer : Buffer) (n number high : ℕ) (page : List ℕ) (e : Failed) → 1 ≤ n → 1 ≤ number → (view old.target).pages ≡ Some number → old.size / 1020 ≤ number → number < high → IfSome (view old.target).held (λ file. IsRow number file) → PutsPage {T = Unit {0}} (view old.target) n page (Err e) (view target) → IsBrokenOff view old high (writing view target buffer true)
broken_off view old target buffer n number high page e from some known low below rows puts =
    record {
      spent = refl;
      pages = subst (λ pages. IsSomeAnd pages (λ pages. (old.size / 1020 ≤ pages) × (pages < high))) (sym (puts.pages ∙ known)) (low, below);
      unended = puts.finished;
      unfinished = torn_told n page (view old.target).held (view target).held from puts.held (told_map (λ file. IsRow number file) (λ file. slice_index file 0 ≡ 0) (view old.target).held (first_byte number) rows);
      target = record { created = puts.created; named = puts.named; faults = puts.faults };
      cause = puts.cause;
    }

-- bytes appended to the begun page
begun_appended : (at : ℕ) (piece page : List ℕ) → at + length piece ≤ length page → take (at + length piece) (with_piece at piece page) ≡ take at page ++ piece
begun_appended at piece page within = take_at (take at page ++ piece) (drop (at + length piece) page) (at + length piece) (omega (arith, length-append (take at page) piece, length-take-le at page (omega arith)))

pub bytes_appended : (buffer : Buffer) (piece file : List ℕ) → length buffer.page ≡ 1024 → buffer.filled + length piece ≤ 1020 → bytes_so_far (appended buffer piece) file ≡ bytes_so_far buffer file ++ piece
bytes_appended buffer piece file long fits =
    ap (λ (xs : List ℕ). laid_over buffer.held buffer.kept (logical file) ++ xs) (begun_appended buffer.filled piece buffer.page (omega arith))
    ∙ sym (append_assoc (laid_over buffer.held buffer.kept (logical file)) (begun_bytes buffer) piece)

pub told_appended : (buffer : Buffer) (piece : List ℕ) (held : Option (List ℕ)) → length buffer.page ≡ 1024 → buffer.filled + length piece ≤ 1020 → option_map (bytes_so_far (appended buffer piece)) held ≡ option_map (λ so_far. so_far ++ piece) (option_map (bytes_so_far buffer) held)
told_appended buffer piece None long fits = refl
told_appended buffer piece (Some file) long fits = ap Some (bytes_appended buffer piece file long fits)

pub appended_sound : (target : TargetView) (buffer : Buffer) (piece : List ℕ) → IsSound target buffer → buffer.filled + length piece < 1020 → size_so_far buffer + length piece ≤ 1020 * 2 ^ 38 → IsSound target (appended buffer piece)
appended_sound target buffer piece sound fits limit =
    let long = sound.page in
    record {
      page = length-piece buffer.filled piece buffer.page (omega arith) ∙ sound.page;
      kept = sound.kept;
      short = fits;
      behind = sound.behind;
      limit = omega arith;
      pages = sound.pages;
      unended = sound.unended;
      held = sound.held;
      file = sound.file;
    }

pub appended_ready : (target : TargetView) (buffer : Buffer) (piece : List ℕ) → IsSound target buffer → buffer.filled + length piece ≡ 1020 → size_so_far buffer + length piece ≤ 1020 * 2 ^ 38 → IsReady target (appended buffer piece)
appended_ready target buffer piece sound fits limit =
    let long = sound.page in
    record {
      page = length-piece buffer.filled piece buffer.page (omega arith) ∙ sound.page;
      kept = sound.kept;
      short = omega arith;
      behind = sound.behind;
      limit = omega arith;
      pages = sound.pages;
      held = sound.held;
      file = sound.file;
    }

pub begun_ready : (target : TargetView) (buffer : Buffer) → IsSound target buffer → 0 < buffer.filled → IsReady target buffer
begun_ready target buffer sound some =
    let short = sound.short in
    let limit = sound.limit in
    record {
      page = sound.page;
      kept = sound.kept;
      short = omega arith;
      behind = sound.behind;
      limit = omega arith;
      pages = sound.pages;
      held = sound.held;
      file = sound.file;
    }
