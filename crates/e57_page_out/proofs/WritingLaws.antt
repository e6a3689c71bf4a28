-- Laws of a new file while it is written: filled pages, the closed file, a file that is unfinished, calls in a row.
use Rattle.std.proofs.Common.{◌≡◌, ◌⊎◌, ℕ, ◌+◌, ◌-◌, ◌*◌, ◌≤◌, Bool, true, false, cond, List, ◌++◌, length, drop, replicate, Some, None, refl, sym, ap, ◌∙◌, arith, inl, inr}
use Rattle.std.specs.Option.{option_or}
use Rattle.std.proofs.lemmas.List.{append-nil, length-append, length-drop, length-replicate, drop_at, drop-append-le}
use Rattle.e57_base.specs.Fault.{fault}
use Rattle.e57_base.specs.Target.{TargetView}
use Rattle.e57_base.specs.declared.fault.Fault.{Fault}
use Rattle.e57_base.specs.declared.kind.Kind.TheVariants.{FileLength, Signature}
use Rattle.e57_page.specs.File.{length_fault, opening_fault}
use Rattle.e57_page.specs.declared.header.Header.{Header}
use Rattle.e57_page_out.specs.HeaderBytes.{header_bytes}
use Rattle.e57_page_out.specs.Sealed.{sealed, filled, pages_for}
use Rattle.e57_page_out.specs.Writing.{KeepsTarget, IsUnfinished, closed_file}

pub filled_whole : (n : ℕ) (bytes : List ℕ) → length bytes ≡ 1020 * n → filled n bytes ≡ bytes
unfolding filled
filled_whole n bytes size = let none : 1020 * n - length bytes ≡ 0 = omega arith in rw none (append-nil bytes)

pub pages_whole : (n : ℕ) → pages_for (1020 * n) ≡ n
unfolding pages_for
pages_whole n = omega arith

pub length-filled : (n : ℕ) (bytes : List ℕ) → length bytes ≤ 1020 * n → length (filled n bytes) ≡ 1020 * n
unfolding filled
length-filled n bytes within = omega (arith, length-append bytes (replicate (1020 * n - length bytes) 0), length-replicate {A = ℕ} (1020 * n - length bytes) 0)

-- page 0 is one page more
pub pages_behind : (n : ℕ) → pages_for (1020 + n) ≡ 1 + pages_for n
unfolding pages_for
pages_behind n = omega arith

-- bytes behind the first 1020 are those behind page 0
pub closed_behind : (header : Header) (first bytes : List ℕ) → length first ≡ 1020 → closed_file header (first ++ bytes) ≡ sealed (1 + pages_for (length bytes)) (filled 1 (header_bytes header) ++ filled (pages_for (length bytes)) bytes)
closed_behind header first bytes size =
    let total : length (first ++ bytes) ≡ 1020 + length bytes = omega (arith, length-append first bytes) in
    let count : pages_for (length (first ++ bytes)) ≡ 1 + pages_for (length bytes) = ap pages_for total ∙ pages_behind (length bytes) in
    let less : 1 + pages_for (length bytes) - 1 ≡ pages_for (length bytes) = omega arith in
    ap (λ k. sealed k (filled 1 (header_bytes header) ++ filled (k - 1) (drop 1020 (first ++ bytes)))) count
    ∙ ap (λ k. sealed (1 + pages_for (length bytes)) (filled 1 (header_bytes header) ++ filled k (drop 1020 (first ++ bytes)))) less
    ∙ ap (λ (xs : List ℕ). sealed (1 + pages_for (length bytes)) (filled 1 (header_bytes header) ++ filled (pages_for (length bytes)) xs)) (drop_at first bytes 1020 size)

pages_hold : (size : ℕ) → size ≤ 1020 * pages_for size
unfolding pages_for
pages_hold size = omega arith

filled_behind : (n : ℕ) (bytes : List ℕ) → 1020 ≤ length bytes → length bytes ≤ 1020 * n → filled (n - 1) (drop 1020 (filled n bytes)) ≡ filled (n - 1) (drop 1020 bytes)
unfolding filled
filled_behind n bytes first within =
    let zeros = replicate {A = ℕ} (1020 * n - length bytes) 0 in
    let behind : drop 1020 (bytes ++ zeros) ≡ drop 1020 bytes ++ zeros = drop-append-le 1020 bytes zeros first in
    let same : 1020 * n - length bytes ≡ 1020 * (n - 1) - length (drop 1020 bytes) = omega (arith, length-drop 1020 bytes) in
    let none : 1020 * (n - 1) - length (drop 1020 bytes ++ zeros) ≡ 0 = omega (arith, length-append (drop 1020 bytes) zeros, length-drop 1020 bytes, length-replicate {A = ℕ} (1020 * n - length bytes) 0) in
    ap (λ (xs : List ℕ). xs ++ replicate (1020 * (n - 1) - length xs) 0) behind
    ∙ rw none (append-nil (drop 1020 bytes ++ zeros))
    ∙ ap (λ k. drop 1020 bytes ++ replicate k 0) same

-- zeros up to the last page's end change nothing of it
pub closed_filled : (header : Header) (bytes : List ℕ) → 1020 ≤ length bytes → closed_file header (filled (pages_for (length bytes)) bytes) ≡ closed_file header bytes
closed_filled header bytes first =
    let n = pages_for (length bytes) in
    let within : length bytes ≤ 1020 * n = pages_hold (length bytes) in
    let size : length (filled n bytes) ≡ 1020 * n = length-filled n bytes within in
    let count : pages_for (length (filled n bytes)) ≡ n = ap pages_for size ∙ pages_whole n in
    ap (λ k. sealed k (filled 1 (header_bytes header) ++ filled (k - 1) (drop 1020 (filled n bytes)))) count
    ∙ ap (λ (xs : List ℕ). sealed n (filled 1 (header_bytes header) ++ xs)) (filled_behind n bytes first within)

-- the fault of a length, or else that of the signature
length_kind : (n : ℕ) (found : Fault) → option_or (length_fault n) (Some (fault Signature 0 0)) ≡ Some found → (found.kind ≡ FileLength) ⊎ (found.kind ≡ Signature)
unfolding length_fault
length_kind n found is = by_test _ n found is where
  by_test : (wrong : Bool) (n : ℕ) (found : Fault) → option_or (cond wrong (Some (fault FileLength n 0)) None) (Some (fault Signature 0 0)) ≡ Some found → (found.kind ≡ FileLength) ⊎ (found.kind ≡ Signature)
  by_test true n found is = let e : fault FileLength n 0 ≡ found = cc in inl (ap (λ (f : Fault). f.kind) (sym e))
  by_test false n found is = let e : fault Signature 0 0 ≡ found = cc in inr (ap (λ (f : Fault). f.kind) (sym e))

-- the first fault of an unfinished file is one of these two
pub unfinished_kind : (file : List ℕ) (found : Fault) → IsUnfinished file → opening_fault file ≡ Some found → (found.kind ≡ FileLength) ⊎ (found.kind ≡ Signature)
unfinished_kind file found unfinished is = length_kind (length file) found (sym unfinished ∙ is)

-- two calls in a row
pub keeps_none : (target : TargetView) → KeepsTarget target target
keeps_none target = record { created = refl; named = refl; faults = omega arith }

pub keeps_both : (a b c : TargetView) → KeepsTarget a b → KeepsTarget b c → KeepsTarget a c
keeps_both a b c first next =
    record {
      created = next.created ∙ first.created;
      named = next.named ∙ first.named;
      faults = let low = first.faults in let high = next.faults in omega arith;
    }
