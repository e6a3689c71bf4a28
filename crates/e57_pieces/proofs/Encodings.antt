-- The test of each attribute's encoding, one step at a time.
use Rattle.std.proofs.Common.{◌≡◌, ℕ, ◌+◌, ◌<◌, ◌≤◌, Bool, true, false, ◌&&◌, List, length, drop, Some, refl, sym, ap, ◌∙◌}
use Rattle.std.specs.List.{slice_get}
use Rattle.std.proofs.lemmas.List.{drop_all}
use Rattle.e57_pieces.specs.declared.piece.Attr.{Attr}
use Rattle.e57_pieces.specs.Start.{attr_fits, encoding_fits}
use Rattle.e57_pieces.proofs.Names.{from_here}

and_same : (a b : Bool) → a ≡ true → b ≡ (a && b)
and_same true b e = refl
and_same false b e = absurd cc

and_not : (a b : Bool) → a ≡ false → (a && b) ≡ false
and_not true b e = absurd cc
and_not false b e = refl

pub fits_more : (attrs : List Attr) (i : ℕ) (a : Attr) → i < length attrs → slice_get attrs i ≡ Some a → attr_fits a ≡ true → encoding_fits (drop (i + 1) attrs) ≡ encoding_fits (drop i attrs)
fits_more attrs i a lt got fits = and_same (attr_fits a) (encoding_fits (drop (i + 1) attrs)) fits ∙ ap encoding_fits (sym (from_here attrs i a lt got))

pub fits_not : (attrs : List Attr) (i : ℕ) (a : Attr) → i < length attrs → slice_get attrs i ≡ Some a → attr_fits a ≡ false → encoding_fits (drop i attrs) ≡ false
fits_not attrs i a lt got fails = ap encoding_fits (from_here attrs i a lt got) ∙ and_not (attr_fits a) (encoding_fits (drop (i + 1) attrs)) fails

pub fits_done : (attrs : List Attr) (i : ℕ) → length attrs ≤ i → encoding_fits (drop i attrs) ≡ true
fits_done attrs i le = ap encoding_fits (drop_all i attrs le)
