-- What is asked, looked up in a tree.
use Rattle.std.specs.Prelude.{nat_lt, nat_le, ◌==◌, if◌then◌else◌, IfSome, option_map}
use Rattle.std.specs.List.{AllByRecursion, range_with_len}
use Rattle.std.proofs.Common.{◌≡◌, ℕ, suc, ◌+◌, ◌<◌, ◌≤◌, ◌&&◌, Bool, true, false, List, [], ◌∷◌, length, drop, slice_get, slice_index_or, Bor, Option, Some, None, Result, Ok, Err, refl, sym, subst, ap, ◌∙◌, arith}
use Rattle.std.proofs.lemmas.Bool.{lt-ltb, le-ltb, le-leb, eq-eqb, and_from}
use Rattle.std.proofs.lemmas.List.{drop_all, drop_more}
use Rattle.std.proofs.lemmas.Option.{slice_get_past, slice_get_within}
use Rattle.e57_base.specs.declared.fault.AskFault.{AskFault}
use Rattle.e57_base.specs.declared.fault.AskFault.TheVariants as ask
use Rattle.e57_base.specs.declared.fault.RunFault.{RunFault}
use Rattle.e57_base.specs.declared.fault.RunFault.TheVariants.{Refused, Source, Out, Memory, Ask}
use Rattle.e57_layout.specs.declared.field.Field.{Field}
use Rattle.e57_elements.specs.Lawful.{AreNodes}
use Rattle.e57_elements.specs.Tree.{Element, preorder}
use Rattle.e57_elements.specs.declared.tree.RawNode.{RawNode}
use Rattle.e57_nodes.specs.Shape.{shape_of}
use Rattle.e57_nodes.specs.Typed.{max_fields, typed_fault}
use Rattle.e57_tree.specs.declared.items.Cloud.{Cloud}
use Rattle.e57_tree.specs.Held.{clouds_of, cloud_fields}
use Rattle.e57_show.specs.Extract.{Asked, Selection, lacking_from, lacking, is_place, select_range, select_records, select}
use Rattle.e57_blocks.specs.Fields.{field_at, no_field}
use Rattle.e57_blocks.proofs.Parts.{all_at}
use Rattle.e57_rows.specs.Shown.{has_decimals}
use Rattle.std.proofs.lemmas.List.{get_or_default}
use Rattle.std.proofs.Common.{get_or}
use Rattle.e57_select.specs.Asking.{names_in, numbers_of, asked_end, asked_count}
use Rattle.e57_select.specs.Looking.{LacksName, LacksField}
use Rattle.e57_select.proofs.Looked.{named-all, range-length, some-listed, some-numbers, cloud-few, within-cloud, IsThere}
use Rattle.e57_show.specs.declared.select.Selected.{Selected}
use Rattle.e57_show.specs.Extracting.{IsSelected, IsUnselected}

-- ---- what was asked

some-fields : {X : Type 0} (a b : X) → ◌≡◌ {A = Option X} (Some a) (Some b) → a ≡ b
some-fields a b is = cc

-- the asked cloud isn't there
pub no-cloud : (asked : Asked) (e : Element) → length (clouds_of e) ≤ asked.cloud → select asked e ≡ Err (ask.Cloud asked.cloud (length (clouds_of e)))
unfolding select
no-cloud asked e past = rw (slice_get_past (clouds_of e) asked.cloud past) refl

-- it is, and these are its fields
pub selects-of : (asked : Asked) (e : Element) (cloud : Cloud) (fields : List Field) → slice_get (clouds_of e) asked.cloud ≡ Some cloud → slice_get (cloud_fields e) asked.cloud ≡ Some fields → select asked e ≡ select_records cloud fields asked (numbers_of fields asked.names)
unfolding select
selects-of asked e cloud fields at_cloud at_fields = rw (at_cloud, at_fields) refl

pub no-field : (cloud : Cloud) (fields : List Field) (asked : Asked) (j : ℕ) (numbers : Result (List ℕ) ℕ) → numbers ≡ Err j → select_records cloud fields asked numbers ≡ Err (ask.Field j (length fields))
no-field cloud fields asked j numbers is = rw is refl

pub no-decimal : (cloud : Cloud) (fields : List Field) (asked : Asked) (j : ℕ) (given : List ℕ) (numbers : Result (List ℕ) ℕ) → numbers ≡ Ok given → lacking asked.decimal fields given ≡ Some j → select_records cloud fields asked numbers ≡ Err (ask.Decimal j (length fields))
no-decimal cloud fields asked j given numbers is lacks = rw is (ap (select_range cloud fields asked given) lacks)

pub no-range : (cloud : Cloud) (fields : List Field) (asked : Asked) (given : List ℕ) (numbers : Result (List ℕ) ℕ) → numbers ≡ Ok given → lacking asked.decimal fields given ≡ None → cloud.count < asked_end asked.from asked.count
    → select_records cloud fields asked numbers ≡ Err (ask.Range (asked_end asked.from asked.count) cloud.count)
no-range cloud fields asked given numbers is none past = rw is (ap (select_range cloud fields asked given) none ∙ rw (lt-ltb cloud.count (asked_end asked.from asked.count) past) refl)

pub all-there : (cloud : Cloud) (fields : List Field) (asked : Asked) (given : List ℕ) (numbers : Result (List ℕ) ℕ) → numbers ≡ Ok given → lacking asked.decimal fields given ≡ None → asked_end asked.from asked.count ≤ cloud.count
    → select_records cloud fields asked numbers ≡ Ok (record { cloud = cloud; fields = fields; numbers = given; from = asked.from; count = asked_count cloud.count asked.from asked.count; decimal = asked.decimal })
all-there cloud fields asked given numbers is none within = rw is (ap (select_range cloud fields asked given) none ∙ rw (le-ltb cloud.count (asked_end asked.from asked.count) within) refl)

-- the cloud isn't there
pub cloud-lacking : (asked : Asked) (nodes : List RawNode) (clouds : List Cloud) → ((e : Element) → nodes ≡ preorder e → clouds ≡ clouds_of e) → length clouds ≤ asked.cloud → IsUnselected nodes asked (Ask (ask.Cloud asked.cloud (length clouds)))
cloud-lacking asked nodes clouds of past = (
  and_from (asked.cloud == asked.cloud) (nat_le (length clouds) asked.cloud) (eq-eqb asked.cloud asked.cloud refl) (le-leb (length clouds) asked.cloud past),
  λ e same.
      let is = of e same in
      subst (λ (cs : List Cloud). select asked e ≡ Err (ask.Cloud asked.cloud (length cs))) (sym is) (no-cloud asked e (subst (λ (cs : List Cloud). length cs ≤ asked.cloud) is past)),
)

-- a field isn't there
pub field-lacking : (asked : Asked) (nodes : List RawNode) (cloud : Cloud) (fields : List Field) (fault : RunFault) → IsThere nodes asked.cloud cloud fields → LacksField asked.names fields fault → IsUnselected nodes asked fault
field-lacking asked nodes cloud fields fault there lacks = by_names asked.names refl lacks
  where
    by_fault : (names : List (List ℕ)) (fault : RunFault) → asked.names ≡ Some names → LacksName fields names fault → IsUnselected nodes asked fault
    by_fault names (Refused found) is never = absurd never
    by_fault names Source is never = absurd never
    by_fault names Out is never = absurd never
    by_fault names Memory is ok = tt
    by_fault names (Ask why) is (j, below, same, lacking) =
        subst (λ (w : AskFault). IsUnselected nodes asked (Ask w)) (sym same) (
          rw is (lt-ltb j (length names) below),
          λ e node.
              let at = there e node in
              selects-of asked e cloud fields at.0 at.1 ∙ no-field cloud fields asked j (numbers_of fields asked.names) (ap (λ (o : Option (List (List ℕ))). numbers_of fields o) is ∙ lacking),
        )

    by_names : (names : Option (List (List ℕ))) → asked.names ≡ names → LacksField names fields fault → IsUnselected nodes asked fault
    by_names None is same = subst (λ (f : RunFault). IsUnselected nodes asked f) (sym same) tt
    by_names (Some names) is lacks = by_fault names fault is lacks

-- ---- the decimals

lacking-below : (fields : List Field) (k : ℕ) (numbers : List ℕ) (j : ℕ) → lacking_from fields k numbers ≡ Some j → j < k + length numbers
unfolding lacking_from
lacking-below fields k [] j is = absurd cc
lacking-below fields k (f ∷ numbers) j is = by_test (has_decimals (field_at fields f).kind) (λ rest. lacking-below fields (k + 1) numbers j rest) is
  where
    by_test : (b : Bool) → (lacking_from fields (k + 1) numbers ≡ Some j → j < k + 1 + length numbers) → (if b then lacking_from fields (k + 1) numbers else Some k) ≡ Some j → j < k + suc (length numbers)
    by_test true later is = let rest = later is in omega (arith, rest)
    by_test false later is = let same : k ≡ j = cc in omega (arith, same)

place-of : (fields : List Field) (names : Option (List (List ℕ))) (numbers : List ℕ) (j : ℕ) → length fields ≤ max_fields → numbers_of fields names ≡ Ok numbers → j < length numbers → is_place names j ≡ true
place-of fields None numbers j few is below =
    let same : range_with_len 0 (length fields) ≡ numbers = cc in
    let long : length numbers ≡ length fields = ap (λ (xs : List ℕ). length xs) (sym same) ∙ range-length 0 (length fields) in
    lt-ltb j max_fields (omega (arith, long, few, below))
place-of fields (Some names) numbers j few is below = let all = named-all fields 0 names numbers is in let long = all.0 in lt-ltb j (length names) (omega (arith, long, below))

-- a field has none
pub decimal-lacking : (asked : Asked) (nodes : List RawNode) (cloud : Cloud) (fields : List Field) (numbers : List ℕ) (j : ℕ) → IsThere nodes asked.cloud cloud fields → length fields ≤ max_fields → numbers_of fields asked.names ≡ Ok numbers → lacking asked.decimal fields numbers ≡ Some j → IsUnselected nodes asked (Ask (ask.Decimal j (length fields)))
decimal-lacking asked nodes cloud fields numbers j there few is lacks = (
  by_asked asked.decimal lacks,
  λ e node.
      let at = there e node in
      selects-of asked e cloud fields at.0 at.1 ∙ no-decimal cloud fields asked j numbers (numbers_of fields asked.names) is lacks,
)
  where
    by_asked : (b : Bool) → lacking b fields numbers ≡ Some j → (b && is_place asked.names j) ≡ true
    by_asked false lacks = absurd cc
    by_asked true lacks = place-of fields asked.names numbers j few is (let low = lacking-below fields 0 numbers j lacks in omega (arith, low))

-- the loop over the asked fields
pub lacking-next : (fields : List Field) (numbers : List ℕ) (j : ℕ) → j < length numbers → has_decimals (field_at fields (slice_index_or numbers j 0)).kind ≡ true → lacking_from fields j (drop j numbers) ≡ lacking_from fields (j + 1) (drop (j + 1) numbers)
unfolding lacking_from
lacking-next fields numbers j below has = rw (drop_more numbers j 0 below) (rw has refl)

pub lacking-here : (fields : List Field) (numbers : List ℕ) (j : ℕ) → j < length numbers → has_decimals (field_at fields (slice_index_or numbers j 0)).kind ≡ false → lacking_from fields j (drop j numbers) ≡ Some j
unfolding lacking_from
lacking-here fields numbers j below has = rw (drop_more numbers j 0 below) (rw has refl)

pub lacking-end : (fields : List Field) (numbers : List ℕ) (j : ℕ) → length numbers ≤ j → lacking_from fields j (drop j numbers) ≡ None
unfolding lacking_from
lacking-end fields numbers j past = rw (drop_all j numbers past) refl

asked-field : (fields : List Field) (numbers : List ℕ) (j : ℕ) (field : Field) → j < length numbers → AllByRecursion (λ f. f < length fields) numbers → field ≡ get_or fields (get_or numbers j 0) field → field ≡ field_at fields (slice_index_or numbers j 0)
asked-field fields numbers j field below all is = is ∙ get_or_default fields (get_or numbers j 0) field no_field (all_at (λ f. f < length fields) numbers j 0 below all)

pub lacking-more : (fields : List Field) (numbers : List ℕ) (j : ℕ) (field : Field) (b : Bool) → j < length numbers → AllByRecursion (λ f. f < length fields) numbers → field ≡ get_or fields (get_or numbers j 0) field → b ≡ has_decimals field.kind → b ≡ true
    → lacking_from fields 0 numbers ≡ lacking_from fields j (drop j numbers) → lacking_from fields 0 numbers ≡ lacking_from fields (j + 1) (drop (j + 1) numbers)
lacking-more fields numbers j field b below all is tells holds before =
    before ∙ lacking-next fields numbers j below (ap (λ (x : Field). has_decimals x.kind) (sym (asked-field fields numbers j field below all is)) ∙ sym tells ∙ holds)

pub lacking-found : (fields : List Field) (numbers : List ℕ) (j : ℕ) (field : Field) (b : Bool) → j < length numbers → AllByRecursion (λ f. f < length fields) numbers → field ≡ get_or fields (get_or numbers j 0) field → b ≡ has_decimals field.kind → b ≡ false
    → lacking_from fields 0 numbers ≡ lacking_from fields j (drop j numbers) → Some j ≡ lacking_from fields 0 numbers
lacking-found fields numbers j field b below all is tells fails before =
    sym (before ∙ lacking-here fields numbers j below (ap (λ (x : Field). has_decimals x.kind) (sym (asked-field fields numbers j field below all is)) ∙ sym tells ∙ fails))

pub asked-so : (fields : List Field) (numbers : List ℕ) (decimal b : Bool) (r : Option ℕ) → decimal ≡ b → b ≡ true → r ≡ lacking_from fields 0 numbers → r ≡ lacking decimal fields numbers
asked-so fields numbers decimal b r same holds is = is ∙ ap (λ (t : Bool). lacking t fields numbers) (sym (same ∙ holds))

-- the records aren't there
pub range-lacking : (asked : Asked) (nodes : List RawNode) (cloud : Cloud) (fields : List Field) (numbers : List ℕ) (end : ℕ) → IsThere nodes asked.cloud cloud fields → numbers_of fields asked.names ≡ Ok numbers → lacking asked.decimal fields numbers ≡ None → end ≡ asked_end asked.from asked.count → cloud.count < end → IsUnselected nodes asked (Ask (ask.Range end cloud.count))
range-lacking asked nodes cloud fields numbers end there is none same past = (
  and_from (end == asked_end asked.from asked.count) (nat_lt cloud.count end) (eq-eqb end (asked_end asked.from asked.count) same) (lt-ltb cloud.count end past),
  λ e node.
      let at = there e node in
      subst (λ (n : ℕ). select asked e ≡ Err (ask.Range n cloud.count)) (sym same)
      (selects-of asked e cloud fields at.0 at.1 ∙ no-range cloud fields asked numbers (numbers_of fields asked.names) is none (subst (λ (n : ℕ). cloud.count < n) same past)),
)

some-same : (x y : List Field) → ◌≡◌ {A = Option (List Field)} (Some x) (Some y) → x ≡ y
some-same x y is = cc

-- all is there
pub is-selected : (asked : Asked) (nodes : List RawNode) (s : Selected) (fields : List Field) (list : Option (Bor (List ℕ))) → AreNodes nodes → ((e : Element) → nodes ≡ preorder e → typed_fault (shape_of e) ≡ None) → IsThere nodes asked.cloud s.cloud fields
    → s.k ≡ asked.cloud → s.from ≡ asked.from → s.count ≡ asked_count s.cloud.count asked.from asked.count → s.decimal ≡ asked.decimal → asked.names ≡ option_map (λ text. names_in text.now) list → asked_end asked.from asked.count ≤ s.cloud.count → 0 < length fields → numbers_of fields asked.names ≡ Ok s.numbers.items → lacking asked.decimal fields s.numbers.items ≡ None → IsSelected nodes asked s
is-selected asked nodes s fields list are typed there is_k is_from is_count is_decimal is_names within some numbers none =
    let of_fields = some-numbers fields asked.names s.numbers.items some (subst (λ (o : Option (List (List ℕ))). IfSome o (λ names. 0 < length names)) (sym is_names) (some-listed list)) numbers in
    record {
      of_cloud = record {
        are_nodes = are;
        there = λ e same. subst (λ (k : ℕ). k < length (clouds_of e)) (sym is_k) (slice_get_within (clouds_of e) asked.cloud s.cloud (there e same).0);
        fields = fields;
        has_fields = λ e same. subst (λ (k : ℕ). slice_get (cloud_fields e) k ≡ Some fields) (sym is_k) (there e same).1;
        few = cloud-few are.tree asked.cloud s.cloud (typed are.tree are.in_preorder) (there are.tree are.in_preorder).0;
        left = subst (λ (n : ℕ). n + s.count ≤ s.cloud.count) (sym is_from) (subst (λ (n : ℕ). asked.from + n ≤ s.cloud.count) (sym is_count) (within-cloud s.cloud.count asked.from asked.count within));
        some = of_fields.0;
        numbers = λ e same others has.
            subst (λ (fs : List Field). AllByRecursion (λ f. f < length fs) s.numbers.items) (some-same fields others (sym (there e same).1 ∙ subst (λ (k : ℕ). slice_get (cloud_fields e) k ≡ Some others) is_k has)) of_fields.1;
      };
      selects = λ e same others has.
          let at = there e same in
          let all = selects-of asked e s.cloud fields at.0 at.1 ∙ all-there s.cloud fields asked s.numbers.items (numbers_of fields asked.names) numbers none within in
          let here : fields ≡ others = some-same fields others (sym at.1 ∙ subst (λ (k : ℕ). slice_get (cloud_fields e) k ≡ Some others) is_k has) in
          all ∙ parts s fields others asked.from (asked_count s.cloud.count asked.from asked.count) asked.decimal here (sym is_from) (sym is_count) (sym is_decimal);
    }
  where
    parts : (s : Selected) (a b : List Field) (from count : ℕ) (decimal : Bool) → a ≡ b → from ≡ s.from → count ≡ s.count → decimal ≡ s.decimal
        → ◌≡◌ {A = Result Selection AskFault} (Ok (record { cloud = s.cloud; fields = a; numbers = s.numbers.items; from = from; count = count; decimal = decimal })) (Ok (record { cloud = s.cloud; fields = b; numbers = s.numbers.items; from = s.from; count = s.count; decimal = s.decimal }))
    parts s a b from count decimal same at_from at_count at_decimal = rw (same, at_from, at_count, at_decimal) refl
