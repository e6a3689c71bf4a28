-- Laws of the first faults of the pages of some bytes, and of more of them.
use Rattle.std.proofs.Common.{◌≡◌, ℕ, zero, suc, ◌+◌, ◌-◌, ◌*◌, ◌/◌, ◌<◌, ◌≤◌, List, Option, Some, None, arith, add-zero}
use Rattle.std.specs.Option.{option_or}
use Rattle.std.proofs.lemmas.Bool.Decides.{nat_tests}
use Rattle.e57_base.specs.declared.fault.Fault.{Fault}
use Rattle.e57_page.specs.Place.{span_end}
use Rattle.e57_page.specs.File.{page_fault, pages_fault, span_fault}
use Rattle.e57_page.proofs.FileLaws.{pages_fault-zero, pages_fault-suc, pages_fault-on}
use Rattle.e57_base.proofs.Options.{option_or_parts}

-- ---- faults of pages in a row

-- of pages without a fault the first ones have none
pages-front : (file : List ℕ) (p few more : ℕ) → pages_fault file p (few + more) ≡ None → pages_fault file p few ≡ None
pages-front file p zero more none = pages_fault-zero file p
pages-front file p (suc few) more none =
    let sum : suc few + more ≡ suc (few + more) = omega arith in
    let both = option_or_parts (page_fault file p) (pages_fault file (p + 1) (few + more)) (rw (sum, pages_fault-suc) at none) in
    rw (pages_fault-suc file p few, both.0) (pages-front file (p + 1) few more both.1)

-- the first fault of some pages is that of more
pages-longer : (file : List ℕ) (p few more : ℕ) (found : Fault) → pages_fault file p few ≡ Some found → pages_fault file p (few + more) ≡ Some found
pages-longer file p zero more found some = let none = pages_fault-zero file p in absurd cc
pages-longer file p (suc few) more found some =
    let sum : suc few + more ≡ suc (few + more) = omega arith in
    rw (sum, pages_fault-suc file p (few + more)) (either (page_fault file p) (λ rest. pages-longer file (p + 1) few more found rest) (rw pages_fault-suc at some)) where
      either : (first : Option Fault) → (pages_fault file (p + 1) few ≡ Some found → pages_fault file (p + 1) (few + more) ≡ Some found) → option_or first (pages_fault file (p + 1) few) ≡ Some found → option_or first (pages_fault file (p + 1) (few + more)) ≡ Some found
      either None later rest = later rest
      either (Some x) later is = is

-- ---- faults of spans

-- bytes without a fault, and then others
pub spans-on : (file : List ℕ) (s at count : ℕ) (outcome : Option Fault) → 0 < count → span_fault file s at ≡ None → span_fault file (s + at) count ≡ outcome → span_fault file s (at + count) ≡ outcome
spans-on file s at count outcome some none next =
    let p = s / 1020 in
    let m = (s + at) / 1020 in
    let first : span_end s at - p ≡ (m - p) + (span_end s at - m) = grind (arith, nat_tests) in
    let here : p + (m - p) ≡ m = grind arith in
    let all : span_end s (at + count) - p ≡ (m - p) + (span_end (s + at) count - m) = grind (arith, nat_tests) in
    let front = pages-front file p (m - p) (span_end s at - m) (rw first at none) in
    rw all (pages_fault-on file p (m - p) (span_end (s + at) count - m) outcome front (rw here next))

pub spans-none : (file : List ℕ) (s at count : ℕ) → span_fault file s at ≡ None → span_fault file (s + at) count ≡ None → span_fault file s (at + count) ≡ None
spans-none file s at zero none next = rw add-zero none
spans-none file s at (suc count) none next = spans-on file s at (suc count) None (omega arith) none next

pub span-longer : (file : List ℕ) (s few n : ℕ) (found : Fault) → few ≤ n → span_fault file s few ≡ Some found → span_fault file s n ≡ Some found
span-longer file s few n found within some =
    let all : span_end s n - s / 1020 ≡ (span_end s few - s / 1020) + ((span_end s n - s / 1020) - (span_end s few - s / 1020)) = grind (arith, nat_tests) in
    rw all (pages-longer file (s / 1020) (span_end s few - s / 1020) ((span_end s n - s / 1020) - (span_end s few - s / 1020)) found some)

pub no_span : (file : List ℕ) (q : ℕ) → span_fault file q 0 ≡ None
no_span file q = let none : q / 1020 - q / 1020 ≡ 0 = omega arith in rw none (pages_fault-zero file (q / 1020))
