-- The items of some records of a section, a column for each of the asked fields.
use Rattle.std.specs.Prelude.{◌≡◌, ℕ, ◌+◌, List, [], ◌∷◌, map, Option, Result, Ok}
use Rattle.e57_base.specs.declared.fault.Fault.{Fault}
use Rattle.e57_layout.specs.declared.field.Fixed.{Fixed}
use Rattle.e57_layout.specs.declared.section.Section.{Section}
use Rattle.e57_layout.specs.Values.{ItemKind, Value}
use Rattle.e57_cloud.specs.Cloud.{Leaf}
use Rattle.e57_cloud.specs.PathItem.{item_of}

-- the kinds of the asked fields
abbrev pub asked_kinds : List (ℕ × Leaf) → List ItemKind
asked_kinds asked = map (λ (field : ℕ × Leaf). field.1.kind) asked

-- record i has the first of these items, and each record after it the next one
unfoldable pub AreFound : (ℕ → Result Value Fault) → ℕ → List Value → Type 0
AreFound item i [] = Unit {0}
AreFound item i (value ∷ values) = (item i ≡ Ok value) × AreFound item (i + 1) values

-- of each asked field a column of its items, from record i on
unfoldable pub AreFoundColumns : List ℕ → Section → Option Fixed → List (ℕ × Leaf) → ℕ → List (List Value) → Type 0
AreFoundColumns file s fixed [] i [] = Unit {0}
AreFoundColumns file s fixed [] i (column ∷ columns) = ⊥
AreFoundColumns file s fixed (field ∷ asked) i [] = ⊥
AreFoundColumns file s fixed (field ∷ asked) i (column ∷ columns) =
    AreFound (item_of file s fixed field.0 field.1) i column × AreFoundColumns file s fixed asked i columns
