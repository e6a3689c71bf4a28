-- Laws of spans in a file whose pages are right.
use Rattle.std.specs.Prelude.{◌≡◌, ℕ, zero, suc, ◌+◌, ◌-◌, ◌*◌, ◌/◌, ◌≤◌, List, length, Option, None}
use Rattle.std.specs.Option.{option_or}
use Rattle.std.proofs.Common.{arith}
use Rattle.std.proofs.lemmas.Bool.Decides.{nat_tests}
use Rattle.e57_base.specs.declared.fault.Fault.{Fault}
use Rattle.e57_page.specs.Place.{span_end}
use Rattle.e57_page.specs.File.{pages_fault, span_fault, logical_size}
use Rattle.e57_page.proofs.FileLaws.{pages_fault-zero, pages_fault-suc}
use Rattle.e57_cloud.specs.Written.{AreRight}

pub pages-right : (file : List ℕ) (n count : ℕ) → AreRight file → n + count ≤ length file / 1024 → pages_fault file n count ≡ None
pages-right file n zero right within = pages_fault-zero file n
pages-right file n (suc count) right within =
    rw (pages_fault-suc file n count, right n (omega arith), pages-right file (n + 1) count right (omega arith))

-- where the pages are right, a span in the file has no fault
pub span-right : (file : List ℕ) (q n : ℕ) → AreRight file → q + n ≤ logical_size file → span_fault file q n ≡ None
span-right file q n right within = pages-right file (q / 1020) (span_end q n - q / 1020) right (bound q n (length file / 1024) within)
  where
    bound : (q n size : ℕ) → q + n ≤ size * 1020 → q / 1020 + (span_end q n - q / 1020) ≤ size
    bound q n size within = grind (arith, nat_tests)

-- and back
pub none-or : (a b : Option Fault) → a ≡ None → b ≡ None → option_or a b ≡ None
none-or a b first second = rw (first, second)
