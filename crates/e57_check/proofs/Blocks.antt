-- The fields of a section, judged block after block.
use Rattle.std.specs.Prelude.{◌≡◌, ℕ, ◌+◌, ◌-◌, ◌≤◌, ◌⊎◌, List, [], ◌∷◌, ◌++◌, length, take, Option, None, IfSome, Result}
use Rattle.std.specs.Option.{option_or}
use Rattle.std.proofs.Common.{refl, sym, ap, ◌∙◌, arith, ⊎_elim}
use Rattle.std.proofs.lemmas.List.{take_at}
use Rattle.e57_base.specs.Source.{SourceView}
use Rattle.e57_base.proofs.Told.{told_map, told_both, told_here}
use Rattle.e57_base.specs.declared.fault.Fault.{Fault}
use Rattle.e57_layout.specs.Values.{Value}
use Rattle.e57_layout.specs.declared.field.Fixed.{Fixed}
use Rattle.e57_layout.specs.declared.section.Section.{Section}
use Rattle.e57_cloud.specs.Chunks.{chunks}
use Rattle.e57_cloud.specs.Cloud.{Leaf, fields_fault, IsBodySound}
use Rattle.e57_cloud.specs.PathItem.{first_refusal}
use Rattle.e57_column.specs.Column.{column_item}
use Rattle.e57_check.specs.Asking.{AsksWhere}
use Rattle.e57_check.proofs.AskingLaws.{asks_where_on, asks_where_map}
use Rattle.e57_check.specs.Judging.{AllAt, AllStand, columns_fault, RowIs, ReadsRow, Judges, OpensColumns, JudgesBlock}
use Rattle.e57_column.specs.declared.state.State.{State}
use Rattle.e57_check.proofs.Rows.{row-step, columns-none}

-- what is left of a row
pub block-read : (count : ℕ) (old new : SourceView) (s : Section) (cs : List State) (found row_found : Option Fault) (a n j : ℕ) (cs' : List State) → ReadsRow count old s cs a n j row_found new cs' → JudgesBlock count old s cs found a n new (take j cs') (option_or row_found found)
block-read count old new s cs found row_found a n j cs' row = record {
  source = row.source;
  all = row.all;
  stand = told_map (λ file. AllStand file cs → RowIs file cs a n j row_found cs') (λ file. AllStand file cs → AllStand file (take j cs')) old.held (λ file told stand. (told stand).stand) row.told;
  told = told_map (λ file. AllStand file cs → RowIs file cs a n j row_found cs') (λ file. AllStand file cs → (m : ℕ) → option_or (columns_fault file cs a (n + m)) found ≡ option_or (columns_fault file (take j cs') (a + n) m) (option_or row_found found)) old.held
      (λ file told stand m. row-step file cs cs' a n m j row_found found (told stand) row.same) row.told;
}

-- a row was read of the elements of a vector, which then keeps the first ones
pub block-kept : (count : ℕ) (old new : SourceView) (s : Section) (cs read : List State) (found row_found found' : Option Fault) (a n j size : ℕ) (cs' rest kept : List State) → read ≡ cs → length read ≡ size → kept ≡ take j (take size (cs' ++ rest)) → found' ≡ option_or row_found found → ReadsRow count old s read a n j row_found new cs'
    → JudgesBlock count old s cs found a n new kept found'
block-kept count old new s cs read found row_found found' a n j size cs' rest kept same long is found_is row =
    let whole : take size (cs' ++ rest) ≡ cs' = take_at cs' rest size (row.as_many ∙ long) in
    rw (is, whole, found_is, ← same) (block-read count old new s read found row_found a n j cs' row)

-- What is known of the fields where the columns are at record a.
pub record FieldsSoFar (old : SourceView) (s : Section) (fixed : Option Fixed) (leaves : List Leaf) (a : ℕ) (cs : List State) (found : Option Fault) : Type 0 where
  pub low : a ≤ s.count
  pub all : AllAt s a cs
  pub stand : IfSome old.held (λ file. AllStand file cs)
  pub judged : Judges old s fixed leaves a cs found

pub fields-begin : (count : ℕ) (old new : SourceView) (s : Section) (fixed : Option Fixed) (leaves : List Leaf) (cs : List State) (found : Option Fault) → OpensColumns count old s fixed leaves cs found new → FieldsSoFar old s fixed leaves 0 cs found
fields-begin count old new s fixed leaves cs found opens = record { low = omega arith; all = opens.all; stand = opens.stand; judged = opens.judged }

pub block-asks : (count : ℕ) (old mid new : SourceView) (cs : List State) → AsksWhere (λ file. Unit {0}) count old mid → IfSome old.held (λ file. AllStand file cs) → AsksWhere (λ file. AllStand file cs) count mid new → AsksWhere (λ file. Unit {0}) count old new
block-asks count old mid new cs first stand next =
    asks_where_on (λ file. Unit {0}) count old mid new first
    (asks_where_map (λ file. AllStand file cs) (λ file. Unit {0}) count mid new
    (told_map (λ file. AllStand file cs) (λ file. Unit {0} → AllStand file cs) mid.held (λ file all u. all) (told_here (λ file. AllStand file cs) old.held mid.held first.asks.same.held stand)) next)

-- one block more
pub fields-step : (count : ℕ) (old mid new : SourceView) (s : Section) (fixed : Option Fixed) (leaves : List Leaf) (a n : ℕ) (cs cs' : List State) (found found' : Option Fault) → n ≤ s.count - a
    → mid.held ≡ old.held → FieldsSoFar old s fixed leaves a cs found → JudgesBlock count mid s cs found a n new cs' found' → FieldsSoFar old s fixed leaves (a + n) cs' found'
fields-step count old mid new s fixed leaves a n cs cs' found found' few same before block =
    let low = before.low in
    let split : s.count - a ≡ n + (s.count - (a + n)) = omega (arith, few, low) in
    record {
      low = omega (arith, few, low);
      all = block.all;
      stand = told_both (λ file. AllStand file cs) (λ file. AllStand file cs → AllStand file cs') (λ file. AllStand file cs') old.held (λ file all on. on all) before.stand
          (told_here (λ file. AllStand file cs → AllStand file cs') mid.held old.held (sym same) block.stand);
      judged = told_both (λ file. AllStand file cs × (IsBodySound file s fixed → fields_fault 0 leaves (chunks file s fixed) ≡ option_or (columns_fault file cs a (s.count - a)) found))
          (λ file. AllStand file cs → (m : ℕ) → option_or (columns_fault file cs a (n + m)) found ≡ option_or (columns_fault file cs' (a + n) m) found')
          (λ file. IsBodySound file s fixed → fields_fault 0 leaves (chunks file s fixed) ≡ option_or (columns_fault file cs' (a + n) (s.count - (a + n))) found') old.held
          (λ file both told sound. both.1 sound ∙ ap (λ (m : ℕ). option_or (columns_fault file cs a m) found) split ∙ told both.0 (s.count - (a + n)))
          (told_both (λ file. AllStand file cs) (λ file. IsBodySound file s fixed → fields_fault 0 leaves (chunks file s fixed) ≡ option_or (columns_fault file cs a (s.count - a)) found)
          (λ file. AllStand file cs × (IsBodySound file s fixed → fields_fault 0 leaves (chunks file s fixed) ≡ option_or (columns_fault file cs a (s.count - a)) found)) old.held (λ file x y. (x, y)) before.stand before.judged)
          (told_here (λ file. AllStand file cs → (m : ℕ) → option_or (columns_fault file cs a (n + m)) found ≡ option_or (columns_fault file cs' (a + n) m) found') mid.held old.held (sym same) block.told);
    }

-- nothing is left to read
first-none : (look : ℕ → Result Value Fault) (a : ℕ) → first_refusal look a 0 ≡ None
unfolding first_refusal
first-none look a = refl

no-records : (file : List ℕ) (cs : List State) (a : ℕ) → columns_fault file cs a 0 ≡ None
unfolding columns_fault
no-records file [] a = refl
no-records file (c ∷ cs) a = rw (nothing a, no-records file cs a) refl
  where
    nothing : (a : ℕ) → first_refusal (column_item file c) a 0 ≡ None
    nothing a = first-none (column_item file c) a

left-none : (file : List ℕ) (s : Section) (a : ℕ) (cs : List State) → (s.count ≤ a) ⊎ (length cs ≡ 0) → columns_fault file cs a (s.count - a) ≡ None
left-none file s a cs how = ⊎_elim
    (λ (over : s.count ≤ a). let none : s.count - a ≡ 0 = omega (arith, over) in rw none (no-records file cs a))
    (λ (empty : length cs ≡ 0). by_list cs empty) how
  where
    by_list : (cs : List State) → length cs ≡ 0 → columns_fault file cs a (s.count - a) ≡ None
    by_list [] empty = columns-none file a (s.count - a)
    by_list (c ∷ cs) empty = absurd (omega (arith, empty))

-- the fields' first fault, where the records are at their end or no column is left
pub fields-ended : (old : SourceView) (s : Section) (fixed : Option Fixed) (leaves : List Leaf) (a : ℕ) (cs : List State) (found : Option Fault) → (s.count ≤ a) ⊎ (length cs ≡ 0) → FieldsSoFar old s fixed leaves a cs found → IfSome old.held (λ file. IsBodySound file s fixed → fields_fault 0 leaves (chunks file s fixed) ≡ found)
fields-ended old s fixed leaves a cs found how so =
    told_map (λ file. IsBodySound file s fixed → fields_fault 0 leaves (chunks file s fixed) ≡ option_or (columns_fault file cs a (s.count - a)) found) (λ file. IsBodySound file s fixed → fields_fault 0 leaves (chunks file s fixed) ≡ found) old.held
    (λ file is sound. is sound ∙ ap (λ (o : Option Fault). option_or o found) (left-none file s a cs how)) so.judged
