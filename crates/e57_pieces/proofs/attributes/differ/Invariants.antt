use Rattle.std.proofs.Common.{◌≡◌, ℕ, List, true, drop}
use Rattle.std.specs.List.{list_any}
use Rattle.std.specs.Str.{bytes_eq}
use Rattle.std.specs.Ordering.{nat_cmp}
use Rattle.std.specs.Cmp.Lexicographic.{slice_cmp}
use Rattle.std.specs.BTreeSet.{contains_by}
use Rattle.e57_pieces.specs.declared.piece.Attr.{Attr}
use Rattle.e57_pieces.specs.Grammar.{differ}
use denote.Ref.{Bor}
use Rattle.e57_pieces.proofs.attributes.differ.Given as goal

abbrev pub invariant-loop-i : goal.invariant-loop-i
invariant-loop-i l = record {
  told : (q : Bor (List ℕ)) → contains_by (λ (k : Bor (List ℕ)). slice_cmp nat_cmp q.now k.now) l.names ≡ list_any (λ (a : Attr). bytes_eq q.now a.name) (drop l.i l.attrs);
  so_far : differ (drop l.i l.attrs) ≡ true;
}
