-- The two pages that a writer has in memory, and what they say of a file that is being written.
use Rattle.std.specs.Prelude.{◌≡◌, ℕ, ◌+◌, ◌-◌, ◌*◌, ◌^◌, ◌<◌, ◌≤◌, Bool, true, false, List, ◌++◌, length, take, replicate, Option, Some, None, IfSome}
use Rattle.std.specs.Option.{option_map}
use Rattle.e57_base.specs.MemTarget.{with_piece}
use Rattle.e57_base.specs.Target.{TargetView}
use Rattle.e57_page.specs.File.{logical}
use Rattle.e57_page_out.specs.Sealed.{sealed}
use Rattle.e57_page_out.specs.Writing.{Writing}
use Rattle.e57_page_out.specs.declared.buffer.Buffer.{Buffer}
use Rattle.e57_page_out.specs.declared.buffer.Held.{Held}
use Rattle.e57_page_out.specs.declared.buffer.Held.TheVariants.{Nothing, Begun, Whole}

-- page 1 is begun, and none is held
abbrev pub begun_first : Buffer
begun_first = record { number = 1; filled = 0; page = replicate 1024 0; held = Nothing; kept = replicate 1024 0 }

-- the number of the page that is held, where page n is begun
abbrev pub number_held : Held → ℕ → Option ℕ
number_held Nothing n = None
number_held Begun n = Some n
number_held (Whole k) n = Some k

-- bytes with the held page laid over, where that is whole
abbrev pub laid_over : Held → List ℕ → List ℕ → List ℕ
laid_over Nothing kept bytes = bytes
laid_over Begun kept bytes = bytes
laid_over (Whole k) kept bytes = with_piece (1020 * k) (take 1020 kept) bytes

-- the written bytes of the begun page
abbrev pub begun_bytes : Buffer → List ℕ
begun_bytes buffer = take buffer.filled buffer.page

-- the logical bytes so far of a file with these bytes
abbrev pub bytes_so_far : Buffer → List ℕ → List ℕ
bytes_so_far buffer file = laid_over buffer.held buffer.kept (logical file) ++ begun_bytes buffer

-- how many these are
abbrev pub size_so_far : Buffer → ℕ
size_so_far buffer = 1020 * buffer.number + buffer.filled

-- the payload of the begun page when it is put: what is written of it, and zeros
abbrev pub ended_payload : Buffer → List ℕ
ended_payload buffer = begun_bytes buffer ++ replicate (1020 - buffer.filled) 0

-- with bytes appended to the begun page
abbrev pub appended : Buffer → List ℕ → Buffer
appended buffer piece = record buffer { filled = buffer.filled + length piece; page = with_piece buffer.filled piece buffer.page }

-- what is held after the begun page n was put
abbrev pub held_after : Held → ℕ → Held
held_after Nothing n = Nothing
held_after Begun n = Whole n
held_after (Whole k) n = Whole k

abbrev pub kept_after : Held → List ℕ → List ℕ → List ℕ
kept_after Nothing page kept = kept
kept_after Begun page kept = page
kept_after (Whole k) page kept = kept

-- after the begun page was put as this page: the next one is begun
abbrev pub turned : Buffer → List ℕ → Buffer
turned buffer page =
    record {
      number = buffer.number + 1;
      filled = 0;
      page = page;
      held = held_after buffer.held buffer.number;
      kept = kept_after buffer.held page buffer.kept;
    }

-- the file has a blank page 0 and sealed pages behind it, n in all
pub record IsRow (n : ℕ) (file : List ℕ) : Type 0 where
  pub count : ℕ
  pub bytes : List ℕ
  pub number : n ≡ count + 1
  pub size : length bytes ≡ 1020 * count
  pub is : file ≡ replicate 1024 0 ++ sealed count bytes

-- a page that is held and whole lies between page 0 and page n
abbrev pub IsHeldBelow : Held → ℕ → Type 0
IsHeldBelow Nothing n = Unit {0}
IsHeldBelow Begun n = Unit {0}
IsHeldBelow (Whole k) n = (1 ≤ k) × (k < n)

-- The target has the whole pages, and the buffer the begun one.
pub record IsSound (target : TargetView) (buffer : Buffer) : Type 0 where
  pub page : length buffer.page ≡ 1024
  pub kept : length buffer.kept ≡ 1024
  pub short : buffer.filled < 1020
  pub behind : 1 ≤ buffer.number
  pub limit : size_so_far buffer ≤ 1020 * 2 ^ 38
  pub pages : target.pages ≡ Some buffer.number
  pub unended : target.finished ≡ false
  pub held : IsHeldBelow buffer.held buffer.number
  pub file : IfSome target.held (λ file. IsRow buffer.number file)

-- nothing is known of a writer that is spent
abbrev pub IsSoundUnless : Bool → TargetView → Buffer → Type 0
IsSoundUnless true target buffer = Unit {0}
IsSoundUnless false target buffer = IsSound target buffer

-- the held page with bytes written over those from one place of it on
abbrev pub patched : Buffer → ℕ → List ℕ → Buffer
patched buffer at bytes = patched_by buffer.held buffer at bytes where
  patched_by : Held → Buffer → ℕ → List ℕ → Buffer
  patched_by Nothing buffer at bytes = buffer
  patched_by Begun buffer at bytes = record buffer { page = with_piece at bytes buffer.page }
  patched_by (Whole k) buffer at bytes = record buffer { kept = with_piece at bytes buffer.kept }

-- what a writer with this target and this buffer shows
abbrev pub writing : {T : Type 0} → (T → TargetView) → T → Buffer → Bool → Writing T
writing view target buffer is_spent =
    record {
      target = target;
      told_bytes = option_map (bytes_so_far buffer) (view target).held;
      size = size_so_far buffer;
      held = number_held buffer.held buffer.number;
      is_spent = is_spent;
    }
