-- Kinds that differ in the limits of integers alone.
use Rattle.std.proofs.Common.{◌≡◌, ℕ, ℤ, zero, suc, ◌<◌, List, [], ◌∷◌, length, get_or, refl, subst, ap, arith, inl, inr}
use Rattle.e57_layout.specs.Values.{ItemKind, integers, words, strings, Value}
use Rattle.e57_layout.specs.Items.{AreItems}
use Rattle.e57_blocks.specs.Runs.{IsRunOf}
use Rattle.e57_blocks.specs.declared.block.Run.{Run}
use Rattle.e57_blocks.specs.declared.block.Run.TheVariants.{Ints, Bits32, Bits64, Texts}
use Rattle.e57_chunk_out.specs.CloudCalls.{HasStrings, IsInteger}
use Rattle.e57_copy.specs.Items.{AreAlike, IsAlike}
use Rattle.e57_copy.proofs.Columns.{no_records}

-- ---- two kinds

-- they are both of integers, or the same
pub alike_cases : (P : ItemKind → ItemKind → Type 0) (kind other : ItemKind) → IsAlike kind other → ((low high least most : ℤ) → P (integers low high) (integers least most)) → ((k : ItemKind) → P k k) → P kind other
alike_cases P (integers low high) (integers least most) alike both same = both low high least most
alike_cases P (integers low high) (words w) alike both same = subst (λ (k : ItemKind). P (integers low high) k) alike (same (integers low high))
alike_cases P (integers low high) strings alike both same = subst (λ (k : ItemKind). P (integers low high) k) alike (same (integers low high))
alike_cases P (words v) other alike both same = subst (λ (k : ItemKind). P (words v) k) alike (same (words v))
alike_cases P strings other alike both same = subst (λ (k : ItemKind). P strings k) alike (same strings)

-- other fields than those of integers are the same
pub same_items : (kind other : ItemKind) (values : List Value) → IsAlike kind other → (IsInteger other → ⊥) → AreItems kind values → AreItems other values
same_items kind other values alike =
    alike_cases (λ (k : ItemKind) (x : ItemKind). (IsInteger x → ⊥) → AreItems k values → AreItems x values) kind other alike (λ low high least most not are. absurd (not tt)) (λ k not are. are)

-- a run of one is a run of the other
pub run_alike : (kind other : ItemKind) (run : Run) → IsAlike kind other → IsRunOf kind run → IsRunOf other run
run_alike kind other run alike = alike_cases (λ (k : ItemKind) (x : ItemKind). IsRunOf k run → IsRunOf x run) kind other alike (λ low high least most. by_run low high least most run) (λ k is. is)
  where
    by_run : (low high least most : ℤ) (run : Run) → IsRunOf (integers low high) run → IsRunOf (integers least most) run
    by_run low high least most (Ints items) is = tt
    by_run low high least most (Bits32 items) is = absurd cc
    by_run low high least most (Bits64 items) is = absurd cc
    by_run low high least most (Texts bytes begin ends) is = absurd cc

texts_alike : (kind other : ItemKind) → IsAlike kind other → kind ≡ strings → other ≡ strings
texts_alike kind other alike = alike_cases (λ (k : ItemKind) (x : ItemKind). k ≡ strings → x ≡ strings) kind other alike (λ low high least most is. absurd cc) (λ k is. is)

-- ---- kinds in a row

pub alike_many : (kinds others : List ItemKind) → AreAlike kinds others → length kinds ≡ length others
unfolding AreAlike
alike_many [] [] alike = refl
alike_many [] (other ∷ others) alike = absurd alike
alike_many (kind ∷ kinds) [] alike = absurd alike
alike_many (kind ∷ kinds) (other ∷ others) alike = ap suc (alike_many kinds others alike.1)

pub alike_at : (kinds others : List ItemKind) (j : ℕ) → j < length kinds → AreAlike kinds others → IsAlike (get_or kinds j strings) (get_or others j strings)
unfolding AreAlike
alike_at [] others j below alike = absurd (omega arith)
alike_at (kind ∷ kinds) [] j below alike = absurd alike
alike_at (kind ∷ kinds) (other ∷ others) zero below alike = alike.0
alike_at (kind ∷ kinds) (other ∷ others) (suc j) below alike = alike_at kinds others j (omega arith) alike.1

pub strings_alike : (kinds others : List ItemKind) → AreAlike kinds others → HasStrings kinds → HasStrings others
unfolding AreAlike
strings_alike [] others alike has = absurd has
strings_alike (kind ∷ kinds) [] alike has = absurd alike
strings_alike (kind ∷ kinds) (other ∷ others) alike (inl is) = inl (texts_alike kind other alike.0 is)
strings_alike (kind ∷ kinds) (other ∷ others) alike (inr has) = inr (strings_alike kinds others alike.1 has)

pub none_alike : (kinds others : List ItemKind) → AreAlike kinds others → no_records kinds ≡ no_records others
unfolding AreAlike
none_alike [] [] alike = refl
none_alike [] (other ∷ others) alike = absurd alike
none_alike (kind ∷ kinds) [] alike = absurd alike
none_alike (kind ∷ kinds) (other ∷ others) alike = ap (λ (columns : List (List Value)). [] ∷ columns) (none_alike kinds others alike.1)

-- a field of strings is among them
pub strings_in : (kinds : List ItemKind) (j : ℕ) → j < length kinds → get_or kinds j strings ≡ strings → HasStrings kinds
strings_in [] j below is = absurd (omega arith)
strings_in (kind ∷ kinds) zero below is = inl is
strings_in (kind ∷ kinds) (suc j) below is = inr (strings_in kinds j (omega arith) is)
