-- Laws of sources, and of those in memory.
use Rattle.std.specs.Prelude.{◌≡◌, ℕ, false, List, [], ◌++◌, Option, Some, None, is_some, IsNone, refl}
use Rattle.std.specs.Ordering.{nat_cmp}
use Rattle.std.specs.Cmp.Lexicographic.{slice_cmp, nat_list_cmp_total}
use Rattle.std.specs.FinMap.{get, get-empty, get-insert}
use Rattle.std.proofs.Common.{sym, ap, ◌∙◌, append_assoc, cond}
use Rattle.std.proofs.lemmas.List.{append-nil}
use Rattle.e57_base.specs.Source.{SourceView, SameFile, Asks}
use Rattle.std.specs.Str.{bytes_eq}
use Rattle.std.proofs.lemmas.Map.Text.{is_eq-slice_cmp}
use Rattle.e57_base.specs.MemSource.{SourceState, initial_source, with_file}

pub same_file : (source : SourceView) → SameFile source source
same_file source = record { stock = refl; size = refl; held = refl; opened = refl; missed = refl }

pub same_file_on : {a b c : SourceView} → SameFile a b → SameFile b c → SameFile a c
same_file_on f g =
    record {
      stock = g.stock ∙ f.stock;
      size = g.size ∙ f.size;
      held = g.held ∙ f.held;
      opened = g.opened ∙ f.opened;
      missed = g.missed ∙ f.missed;
    }

-- nothing was asked for
pub asks_none : (before : Option (List ℕ)) → Asks before [] before
asks_none None = tt
asks_none (Some before) = sym (append-nil before)

-- first these pages, and then those
pub asks_on : (a b c : Option (List ℕ)) (first next : List ℕ) → Asks a first b → Asks b next c → Asks a (first ++ next) c
asks_on a b None first next f g = tt
asks_on a None (Some now) first next f g = absurd g
asks_on None (Some mid) (Some now) first next f g = absurd f
asks_on (Some before) (Some mid) (Some now) first next f g = g ∙ ap (λ (x : List ℕ). x ++ next) f ∙ append_assoc before first next

-- a new source has no file
pub absent_at_first : (room : ℕ) (name : List ℕ) → IsNone (get (initial_source room).files name)
absent_at_first room name = ap is_some (get-empty (slice_cmp nat_cmp) name)

-- a file that isn't there is not there either beside one of another name
pub absent_beside : (source : SourceState) (name bytes other : List ℕ) → IsNone (get source.files other) → bytes_eq other name ≡ false → IsNone (get (with_file name bytes source).files other)
absent_beside source name bytes other absent differs =
    ap is_some (get-insert nat_list_cmp_total source.files name bytes other ∙ ap (λ b. cond b (Some bytes) (get source.files other)) (is_eq-slice_cmp other name ∙ differs)) ∙ absent
