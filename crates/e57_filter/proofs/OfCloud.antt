-- The records that are found of some fields of a cloud without fault, and those of them that are kept.
use Rattle.std.proofs.Common.{◌≡◌, ℕ, zero, suc, ◌+◌, ◌<◌, ◌≤◌, Bool, true, false, List, [], ◌∷◌, ◌++◌, length, map, take, drop, get_or, slice_get, pos, Option, Some, None, Result, Ok, refl, sym, subst, ap, ◌∙◌, arith}
use Rattle.std.specs.Prelude.{slice_index_or}
use Rattle.std.specs.List.{AllByRecursion, range_with_len}
use Rattle.std.proofs.lemmas.List.{get_or-map, length-map}
use Rattle.std.proofs.lemmas.Option.{slice_get-get_or}
use Rattle.e57_base.specs.declared.fault.Fault.{Fault}
use Rattle.e57_layout.specs.Items.{AreColumns}
use Rattle.e57_layout.specs.Packing.{first_records}
use Rattle.e57_layout.specs.Values.{ItemKind, item_kind, IsValidField, Value, strings, whole}
use Rattle.e57_layout.specs.declared.field.Field.{Field}
use Rattle.e57_layout.specs.declared.field.Fixed.{Fixed}
use Rattle.e57_layout.specs.declared.section.Section.{Section}
use Rattle.e57_cloud.specs.Section.{section_fault}
use Rattle.e57_cloud.specs.Cloud.{Leaf, Cloud, fixed_of, float_from, section_of, cloud_fault, records_of}
use Rattle.e57_cloud.specs.PathItem.{item_of, path_item}
use Rattle.e57_cloud.proofs.Laws.Refusals.{path_item-record}
use Rattle.e57_nodes.specs.Items.{leaves_of}
use Rattle.e57_blocks.specs.Fields.{asked_of, field_at, first_fault, leaf_of, no_field, record_fault}
use Rattle.e57_chunk_out.specs.CloudCalls.{chosen_kinds, kinds_in}
use Rattle.e57_copy.specs.Found.{AreFound, AreFoundColumns}
use Rattle.e57_copy.proofs.Clouds.{same_kinds}
use Rattle.e57_copy.proofs.Columns.{AreLong}
use Rattle.e57_copy.proofs.OfCloud.{leaf_in, records_long, IsSectionOf}
use Rattle.e57_plain.specs.Valid.{kinds_in as stated_kinds}
use Rattle.e57_plain.specs.Kept.{chosen, kept_count, kept_columns as of_selection, passes, passing, passing_count, Selection}
use Rattle.e57_filter.specs.Keeping.{kept_columns, kept_number, passes_sieve, sieve_of, Sieve}
use Rattle.e57_filter.specs.KeptSection.{limits_from, AreKept}
use Rattle.e57_filter.specs.Selecting.{selection_of, test_fields, AreOfCloud}
use Rattle.e57_filter.specs.declared.select.Selected.{Selected}
use Rattle.e57_filter.proofs.KeptItems.{each-column, each-item, found-item, kept-columns, valid_at}
use Rattle.e57_filter.proofs.Opening.{numbers-below}
use Rattle.e57_filter.proofs.Ranges.{all-columns, count-front, count-range, first-map, get-part, length-part, map-chosen, passes-after, passes-at, passes-before, passing-front, passing-range, rest-map}

-- ---- kinds

index-range : {X : Type 0} (d : X) (at_number : ℕ → X) (from : ℕ) (xs : List X) → ((k : ℕ) → k < length xs → at_number (from + k) ≡ slice_index_or xs k d) → map at_number (range_with_len from (length xs)) ≡ xs
index-range d at_number from [] each = refl
index-range {X = X} d at_number from (x ∷ xs) each =
    let place : from + 0 ≡ from = omega arith in
    let here : at_number from ≡ x = rw place at (each 0 (omega arith)) in
    let rest = index-range d at_number (from + 1) xs (λ k below. let next : from + suc k ≡ from + 1 + k = omega arith in rw next at (each (suc k) (omega (arith, below)))) in
    rw (here, rest) refl

pub kinds-chosen : (fields : List Field) (s : Selected) → AreOfCloud fields s → chosen_kinds fields s.numbers.items ≡ stated_kinds (chosen s.chosen.items fields)
kinds-chosen fields s of =
    let kinds = kinds_in fields in
    let long : length kinds ≡ length fields = length-map fields (λ (f : Field). item_kind f.kind) in
    let all : map (λ (f : ℕ). slice_index_or kinds f strings) (range_with_len 0 (length kinds)) ≡ kinds =
    index-range strings (λ (f : ℕ). slice_index_or kinds f strings) 0 kinds (λ k below. let place : 0 + k ≡ k = omega arith in ap (λ (f : ℕ). slice_index_or kinds f strings) place) in
    ap (λ (numbers : List ℕ). chosen_kinds fields numbers) of.numbers
    ∙ map-chosen (λ (f : ℕ). slice_index_or kinds f strings) s.chosen.items (range_with_len 0 (length fields))
    ∙ ap (λ (n : ℕ). chosen s.chosen.items (map (λ (f : ℕ). slice_index_or kinds f strings) (range_with_len 0 n))) (sym long)
    ∙ ap (λ (ks : List ItemKind). chosen s.chosen.items ks) all
    ∙ sym (map-chosen (λ (f : Field). item_kind f.kind) s.chosen.items fields)
    ∙ same_kinds (chosen s.chosen.items fields)

chosen-kinds : (flags : List Bool) (fields : List Field) → chosen flags (stated_kinds fields) ≡ stated_kinds (chosen flags fields)
chosen-kinds [] fields = refl
chosen-kinds (b ∷ flags) [] = refl
chosen-kinds (true ∷ flags) (field ∷ fields) = ap (λ (kinds : List ItemKind). item_kind field.kind ∷ kinds) (chosen-kinds flags fields)
chosen-kinds (false ∷ flags) (field ∷ fields) = chosen-kinds flags fields

-- ---- one column

same_ok : (x y : Value) (r : Result Value Fault) → r ≡ Ok x → r ≡ Ok y → x ≡ y
same_ok x y r first next = let e : ◌≡◌ {A = Result Value Fault} (Ok x) (Ok y) = sym first ∙ next in cc

same_column : (item : ℕ → Result Value Fault) (i : ℕ) (xs ys : List Value) (d : Value) → length xs ≡ length ys → AreFound item i xs → ((k : ℕ) → k < length ys → item (i + k) ≡ Ok (get_or ys k d)) → xs ≡ ys
unfolding AreFound
same_column item i [] [] d same found each = refl
same_column item i [] (y ∷ ys) d same found each = absurd (omega arith)
same_column item i (x ∷ xs) [] d same found each = absurd (omega arith)
same_column item i (x ∷ xs) (y ∷ ys) d same found each =
    let none : i + 0 ≡ i = omega arith in
    let here : x ≡ y = same_ok x y (item i) found.0 (rw none at (each 0 (omega arith))) in
    let rest : xs ≡ ys = same_column item (i + 1) xs ys d (omega arith) found.1 (λ k below. let place : i + suc k ≡ i + 1 + k = omega arith in rw place at (each (suc k) (omega (arith, below)))) in
    rw (here, rest) refl

-- ---- the items of a cloud without fault

leaf_there : (fields : List Field) (f : ℕ) → f < length fields → slice_get (leaves_of fields) f ≡ Some (leaf_of (field_at fields f))
leaf_there fields f below =
    let long = length-map fields leaf_of in
    slice_get-get_or (leaves_of fields) f (leaf_of no_field) (omega (arith, below, long))
    ∙ ap Some (get_or-map leaf_of fields f no_field (leaf_of no_field) below)

by_path : (file : List ℕ) (c : Cloud) (f : ℕ) (leaf : Leaf) (i : ℕ) → section_fault file c.node c.offset ≡ None → path_item file c f leaf i ≡ item_of file (section_of file c) (fixed_of c) f leaf i
unfolding path_item
by_path file c f leaf i none = rw none refl

module _ (file : List ℕ) (c : Cloud) (s : Section) (fixed : Option Fixed) (fields : List Field) (same : c.leaves ≡ leaves_of fields) (is : fixed ≡ float_from 0 (leaves_of fields)) (some : 0 < c.count) (of : IsSectionOf file c s) (none : cloud_fault file c ≡ None) where
  abbrev all : List (List Value)
  all = records_of file c

  pub many_columns : length all ≡ length fields
  many_columns = (records_long file c some none).1 ∙ ap (λ (ls : List Leaf). length ls) same ∙ length-map fields leaf_of

  item_is : (f i : ℕ) (d : Value) → f < length fields → i < c.count → item_of file s fixed f (leaf_in fields f) i ≡ Ok (get_or (get_or all f []) i d)
  item_is f i d below within =
      let there : slice_get c.leaves f ≡ Some (leaf_in fields f) = ap (λ (ls : List Leaf). slice_get ls f) same ∙ leaf_there fields f below in
      let here = sym (by_path file c f (leaf_in fields f) i of.header) ∙ path_item-record file c f (leaf_in fields f) i d none there within in
      let fixed_is : fixed ≡ fixed_of c = is ∙ ap (float_from 0) (sym same) in
      subst (λ (x : Option Fixed). item_of file s x f (leaf_in fields f) i ≡ Ok (get_or (get_or all f []) i d)) (sym fixed_is)
      (subst (λ (t : Section). item_of file t (fixed_of c) f (leaf_in fields f) i ≡ Ok (get_or (get_or all f []) i d)) (sym of.is) here)

  column_long : (columns : List (List Value)) (f : ℕ) → f < length columns → AreLong c.count columns → length (get_or columns f []) ≡ c.count
  column_long [] f below long = absurd (omega (arith, below))
  column_long (column ∷ columns) zero below long = long.0
  column_long (column ∷ columns) (suc f) below long = column_long columns f (omega (arith, below)) long.1

  pub long_column : (f : ℕ) → f < length fields → length (get_or all f []) ≡ c.count
  long_column f below = let many = many_columns in column_long all f (omega (arith, below, many)) (records_long file c some none).0

  -- its items are of its fields' kinds
  pub columns_are : AllByRecursion IsValidField fields → AreColumns (stated_kinds fields) c.count all
  columns_are valid =
      each-column fields c.count all many_columns (λ f below.
      let long = long_column f below in (
        long,
        each-item (leaf_in fields f).kind (get_or all f []) (whole (pos 0)) (λ k within.
            found-item file s fixed f (leaf_in fields f) k (get_or (get_or all f []) k (whole (pos 0))) (valid_at fields f below valid).limits (item_is f k (whole (pos 0)) below (omega (arith, within, long)))),
      ))

  -- a part of the columns of these fields
  abbrev pub parts : ℕ → ℕ → List ℕ → List (List Value)
  parts from count numbers = map (λ (f : ℕ). take count (drop from (get_or all f []))) numbers

  pub found-parts : (from count : ℕ) (numbers : List ℕ) (columns : List (List Value)) → from + count ≤ c.count → AllByRecursion (λ (f : ℕ). f < length fields) numbers → AreLong count columns → AreFoundColumns file s fixed (asked_of fields numbers) from columns
      → columns ≡ parts from count numbers
  unfolding AreFoundColumns
  found-parts from count [] [] within below long found = refl
  found-parts from count [] (column ∷ columns) within below long found = absurd found
  found-parts from count (f ∷ numbers) [] within below long found = absurd found
  found-parts from count (f ∷ numbers) (column ∷ columns) within below long found =
      let size = long_column f below.0 in
      let part = take count (drop from (get_or all f [])) in
      let part_long : length part ≡ count = length-part from count (get_or all f []) (omega (arith, within, size)) in
      let here : column ≡ part = same_column (item_of file s fixed f (leaf_in fields f)) from column part (whole (pos 0)) (long.0 ∙ sym part_long) found.0
      (λ k less. item_is f (from + k) (whole (pos 0)) below.0 (omega (arith, less, part_long, within)) ∙ ap (λ (v : Value). Ok v) (sym (get-part from count k (get_or all f []) (whole (pos 0)) (omega (arith, less, part_long))))) in
      rw (here, found-parts from count numbers columns within below.1 long.1 found.1) refl

  -- no record has a fault
  pub no_fault : (numbers : List ℕ) (i : ℕ) → i < c.count → AllByRecursion (λ (f : ℕ). f < length fields) numbers → record_fault file s fixed (asked_of fields numbers) i ≡ None
  unfolding first_fault
  no_fault [] i within below = refl
  no_fault (f ∷ numbers) i within below =
      let here = item_is f i (whole (pos 0)) below.0 within in
      rw here (no_fault numbers i within below.1)

  module _ (every : ℕ) (selected : Selected) (cloud : AreOfCloud fields selected) (within : selected.from + selected.count ≤ c.count) (some_fields : 0 < length fields) where
    abbrev numbers : List ℕ
    numbers = selected.numbers.items

    abbrev selection : Selection
    selection = selection_of every selected

    abbrev sieve : Sieve
    sieve = sieve_of every (limits_from (length numbers) selected.tests.items)

    abbrev pub blocks : List (List Value)
    blocks = parts selected.from selected.count (numbers ++ test_fields selected.tests.items)

    tested : drop (length numbers) blocks ≡ parts selected.from selected.count (test_fields selected.tests.items)
    tested = rest-map (λ (f : ℕ). take selected.count (drop selected.from (get_or all f []))) numbers (test_fields selected.tests.items)

    same_pass : (k : ℕ) → k < selected.count → passes selection all (selected.from + k) ≡ passes_sieve sieve blocks k
    same_pass k below = passes-at selection all sieve blocks selected.count k (length numbers) selected.tests.items below (omega arith) refl refl refl tested

    column_same : (f : ℕ) → f < length fields → passing (passes_sieve sieve blocks) 0 (take selected.count (drop selected.from (get_or all f []))) ≡ passing (passes selection all) 0 (get_or all f [])
    column_same f below =
        let size = long_column f below in
        sym (passing-range (passes selection all) (passes_sieve sieve blocks) selected.from selected.count (passes-before selection all) (passes-after selection all) same_pass (get_or all f []) (omega (arith, within, size)))

    columns_same : (ns : List ℕ) → AllByRecursion (λ (f : ℕ). f < length fields) ns
        → map (passing (passes_sieve sieve blocks) 0) (parts selected.from selected.count ns) ≡ map (λ (f : ℕ). passing (passes selection all) 0 (get_or all f [])) ns
    columns_same [] below = refl
    columns_same (f ∷ ns) below = rw (column_same f below.0, columns_same ns below.1) refl

    -- of the columns by their numbers
    by_numbers : map (λ (f : ℕ). passing (passes selection all) 0 (get_or all f [])) numbers ≡ of_selection selection all
    by_numbers =
        let h = λ (f : ℕ). passing (passes selection all) 0 (get_or all f []) in
        ap (λ (ns : List ℕ). map h ns) cloud.numbers
        ∙ map-chosen h selected.chosen.items (range_with_len 0 (length fields))
        ∙ ap (λ (n : ℕ). chosen selected.chosen.items (map h (range_with_len 0 n))) (sym many_columns)
        ∙ ap (λ (columns : List (List Value)). chosen selected.chosen.items columns) (all-columns (passing (passes selection all) 0) all)

    pub kept_same : kept_columns sieve (length numbers) blocks ≡ of_selection selection all
    kept_same =
        ap (λ (columns : List (List Value)). map (passing (passes_sieve sieve blocks) 0) columns) (first-map (λ (f : ℕ). take selected.count (drop selected.from (get_or all f []))) numbers (test_fields selected.tests.items))
        ∙ columns_same numbers (numbers-below fields selected cloud)
        ∙ by_numbers

    pub number_same : kept_number sieve blocks selected.count ≡ kept_count selection all
    number_same =
        let size = long_column 0 some_fields in
        sym (count-range (passes selection all) (passes_sieve sieve blocks) selected.from selected.count (passes-before selection all) (passes-after selection all) same_pass (length (get_or all 0 [])) (omega (arith, within, size)))

    pub are_kept : (columns : List (List Value)) (number : ℕ) → columns ≡ blocks → number ≡ kept_number sieve columns selected.count → AreKept selection all number (kept_columns sieve (length numbers) columns)
    are_kept columns number same known = record {
      count = known ∙ ap (λ (cs : List (List Value)). kept_number sieve cs selected.count) same ∙ number_same;
      columns = ap (λ (cs : List (List Value)). kept_columns sieve (length numbers) cs) same ∙ kept_same;
    }

    -- they are of the kept fields' kinds
    pub kept_are : AllByRecursion IsValidField fields → AreColumns (stated_kinds (chosen selected.chosen.items fields)) (kept_count selection all) (of_selection selection all)
    kept_are valid =
        let pass = passes selection all in
        let kinds = stated_kinds fields in
        subst (λ (n : ℕ). AreColumns (stated_kinds (chosen selected.chosen.items fields)) (passing_count pass 0 n) (of_selection selection all)) (sym (long_column 0 some_fields))
        (subst (λ (ks : List ItemKind). AreColumns ks (passing_count pass 0 c.count) (of_selection selection all)) (chosen-kinds selected.chosen.items fields)
        (kept-columns selected.chosen.items pass kinds c.count all (columns_are valid)))

    -- the first records of the range, of which some are kept
    module _ (first : ℕ) (few : first ≤ selected.count) where
      abbrev pub front : List (List Value)
      front = parts selected.from first (numbers ++ test_fields selected.tests.items)

      abbrev pub front_number : ℕ
      front_number = kept_number sieve front first

      tested_front : drop (length numbers) front ≡ parts selected.from first (test_fields selected.tests.items)
      tested_front = rest-map (λ (f : ℕ). take first (drop selected.from (get_or all f []))) numbers (test_fields selected.tests.items)

      same_front : (k : ℕ) → k < first → passes selection all (selected.from + k) ≡ passes_sieve sieve front k
      same_front k below = passes-at selection all sieve front first k (length numbers) selected.tests.items below (omega (arith, few)) refl refl refl tested_front

      column_front : (f : ℕ) → f < length fields → passing (passes_sieve sieve front) 0 (take first (drop selected.from (get_or all f []))) ≡ take front_number (passing (passes selection all) 0 (get_or all f []))
      column_front f below =
          let size = long_column f below in
          passing-front (passes selection all) (passes_sieve sieve front) selected.from first (passes-before selection all) same_front (get_or all f []) (omega (arith, within, size, few))

      columns_front : (ns : List ℕ) → AllByRecursion (λ (f : ℕ). f < length fields) ns
          → map (passing (passes_sieve sieve front) 0) (parts selected.from first ns) ≡ first_records front_number (map (λ (f : ℕ). passing (passes selection all) 0 (get_or all f [])) ns)
      unfolding first_records
      columns_front [] below = refl
      columns_front (f ∷ ns) below = rw (column_front f below.0, columns_front ns below.1) refl

      -- they are the first of all that are kept
      pub front_same : kept_columns sieve (length numbers) front ≡ first_records front_number (of_selection selection all)
      front_same =
          ap (λ (columns : List (List Value)). map (passing (passes_sieve sieve front) 0) columns) (first-map (λ (f : ℕ). take first (drop selected.from (get_or all f []))) numbers (test_fields selected.tests.items))
          ∙ columns_front numbers (numbers-below fields selected cloud)
          ∙ ap (first_records front_number) by_numbers

      pub front_few : front_number ≤ kept_count selection all
      front_few =
          let size = long_column 0 some_fields in
          count-front (passes selection all) (passes_sieve sieve front) selected.from first (passes-before selection all) same_front (length (get_or all 0 [])) (omega (arith, within, size, few))
