-- Which items a kind has.
use Rattle.std.specs.Prelude.{◌≡◌, ℕ}
use Rattle.std.proofs.Common.{refl, ap, arith}
use Rattle.e57_layout.specs.Values.{ItemKind, integers, words, strings}
use Rattle.e57_column.specs.declared.state.Items.{Items}
use Rattle.e57_column.specs.declared.state.Items.TheVariants.{Whole, Words32, Words64, Strings}
use Rattle.e57_column.specs.Column.{kind_of}

-- the bits of words
abbrev bits_of : ItemKind → ℕ
bits_of (integers low high) = 0
bits_of (words w) = w
bits_of strings = 1

pub words32-items : (items : Items) → kind_of items ≡ words 32 → items ≡ Words32
words32-items (Whole range) is = let e : 0 ≡ 32 = ap bits_of is in absurd (omega (arith, e))
words32-items Words32 is = refl
words32-items Words64 is = let e : 64 ≡ 32 = ap bits_of is in absurd (omega (arith, e))
words32-items Strings is = let e : 1 ≡ 32 = ap bits_of is in absurd (omega (arith, e))

pub words64-items : (items : Items) → kind_of items ≡ words 64 → items ≡ Words64
words64-items (Whole range) is = let e : 0 ≡ 64 = ap bits_of is in absurd (omega (arith, e))
words64-items Words32 is = let e : 32 ≡ 64 = ap bits_of is in absurd (omega (arith, e))
words64-items Words64 is = refl
words64-items Strings is = let e : 1 ≡ 64 = ap bits_of is in absurd (omega (arith, e))

pub strings-items : (items : Items) → kind_of items ≡ strings → items ≡ Strings
strings-items (Whole range) is = let e : 0 ≡ 1 = ap bits_of is in absurd (omega (arith, e))
strings-items Words32 is = let e : 32 ≡ 1 = ap bits_of is in absurd (omega (arith, e))
strings-items Words64 is = let e : 64 ≡ 1 = ap bits_of is in absurd (omega (arith, e))
strings-items Strings is = refl
