-- What putting the levels of an index does, one after another.
use Rattle.std.proofs.Common.{◌≡◌, ℕ, ◌+◌, ◌<◌, ◌≤◌, true, List, length, Result, Ok, Err, MatchResult, sym, ap, subst, ◌∙◌, arith}
use Rattle.e57_base.specs.Target.{TargetView}
use Rattle.e57_base.specs.declared.fault.PutFault.{PutFault}
use Rattle.e57_layout.specs.declared.packet.Entry.{Entry}
use Rattle.e57_layout.specs.Written.{packets_bytes, physical, index_spelled, root_place}
use Rattle.e57_page_out.specs.Sequences.{Puts, Loses}
use Rattle.e57_page_out.specs.Writing.{Writing, most_bytes}
use Rattle.e57_index_out.specs.Levels.{lowest_level, upper_level, level_entries, IsLevel}
use Rattle.e57_index_out.specs.declared.level.Level.{Level}
use Rattle.e57_index_out.proofs.LevelLaws.{is_upper, lowest-is, packets_from, packets_of, root_from, more_done, more_lost}

-- what a call that puts a level and those above it answers and does
abbrev pub PutsLevels : {T : Type 0} → (T → TargetView) → List Entry → Level → Writing T → Result ℕ PutFault → Writing T → Type 0
PutsLevels view chunks level old result new =
    MatchResult result
    (λ root. Puts view old (packets_from chunks level old.size) new × (root ≡ root_from chunks level old.size))
    (λ fault. (new.is_spent ≡ true) × Loses view old (most_bytes < old.size + length (packets_from chunks level old.size)) fault (view new.target))

module _ {T : Type 0} (view : T → TargetView) (chunks : List Entry) (level upper : Level) (a b : Writing T) where
  pub upper_fits : IsLevel (length chunks) level → 2048 < level.count → upper ≡ upper_level level a.size → Puts view a (packets_of chunks level) b → IsLevel (length chunks) upper
  upper_fits is many above puts =
      let size = puts.size in
      let limit = puts.state.limit in
      subst (λ (u : Level). IsLevel (length chunks) u) (sym above) (is_upper chunks level a.size is many (omega arith))

  pub levels_done : (c : Writing T) (result : Result ℕ PutFault) → IsLevel (length chunks) level → 2048 < level.count → upper ≡ upper_level level a.size → Puts view a (packets_of chunks level) b → PutsLevels view chunks upper b result c → PutsLevels view chunks level a result c
  levels_done c (Ok root) is many above puts later = more_done view chunks level upper a b c is root many above puts later
  levels_done c (Err fault) is many above puts later = (later.0, more_lost view chunks level upper a b c is fault (view c.target) many above puts later.1)

-- level 0 is that of the chunks' entries
pub index_done : {T : Type 0} (view : T → TargetView) (chunks entries : List Entry) (level : Level) (n : ℕ) (a b : Writing T) (result : Result ℕ PutFault) → chunks ≡ entries → n ≡ length entries → level ≡ lowest_level n → PutsLevels view chunks level a result b
    → MatchResult result
    (λ root. Puts view a (packets_bytes (index_spelled 5 0 a.size entries)) b × (root ≡ physical (root_place 5 0 a.size entries)))
    (λ fault. (b.is_spent ≡ true) × Loses view a (most_bytes < a.size + length (packets_bytes (index_spelled 5 0 a.size entries))) fault (view b.target))
index_done view chunks entries level n a b result same count lowest done =
    let first : level ≡ lowest_level (length entries) = lowest ∙ ap lowest_level count in
    subst (λ (es : List Entry). MatchResult result
    (λ root. Puts view a (packets_bytes (index_spelled 5 0 a.size es)) b × (root ≡ physical (root_place 5 0 a.size es)))
    (λ fault. (b.is_spent ≡ true) × Loses view a (most_bytes < a.size + length (packets_bytes (index_spelled 5 0 a.size es))) fault (view b.target)))
    (lowest-is entries)
    (subst (λ (l : Level). PutsLevels view entries l a result b) first (subst (λ (es : List Entry). PutsLevels view es level a result b) same done))
