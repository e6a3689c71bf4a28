-- Fields and records that are asked for, looked up in a tree.
use Rattle.std.specs.Prelude.{unwrap_or, ◌==◌, if◌then◌else◌, IfSome, option_map, MatchResult}
use Rattle.std.specs.List.{AllByRecursion, range_with_len, slice_split, position_from, onto_first}
use Rattle.std.specs.Str.{bytes_eq}
use Rattle.std.proofs.Common.{◌≡◌, ℕ, zero, suc, ◌+◌, ◌-◌, ◌^◌, ◌<◌, ◌≤◌, Bool, true, false, List, [], ◌∷◌, ◌++◌, length, drop, map, slice_get, slice_index_or, Bor, Option, Some, None, Result, Ok, Err, refl, sym, subst, ap, ◌∙◌, arith, append_assoc}
use Rattle.std.proofs.lemmas.List.{append-nil, drop_all, drop_more, map-id}
use Rattle.std.proofs.lemmas.List.FromFn.{map-range_with_len_more}
use Rattle.std.proofs.lemmas.Option.{slice_get-get_or}
use Rattle.e57_base.specs.declared.fault.RunFault.{RunFault}
use Rattle.e57_layout.specs.declared.field.Field.{Field}
use Rattle.e57_elements.specs.Tree.{Element, preorder}
use Rattle.e57_elements.specs.declared.tree.RawNode.{RawNode}
use Rattle.e57_nodes.specs.Shape.{shape_of, node_count}
use Rattle.e57_nodes.specs.Typed.{typed_fault}
use Rattle.e57_nodes.specs.Items.{StatedItem, stated_cloud, stated_blob, stated_items}
use Rattle.e57_nodes.specs.Places.{places_in}
use Rattle.e57_nodes.proofs.Laws.Sound.{IsSoundItem, sound_items}
use Rattle.e57_tree.specs.declared.items.Cloud.{Cloud}
use Rattle.e57_tree.specs.Held.{clouds_among, clouds_of, cloud_fields}
use Rattle.e57_file.specs.Opened.{field_number}
use Rattle.e57_select.specs.Asking.{names_in, with_number, by_number, numbers_from, numbers_of, asked_end, asked_count}
use Rattle.e57_select.specs.Looking.{LacksName, LacksField}

-- ---- names one after another

-- these numbers, and then those of the names that are left
abbrev pub behind_all : List ℕ → Result (List ℕ) ℕ → Result (List ℕ) ℕ
behind_all first (Ok others) = Ok (first ++ others)
behind_all first (Err at) = Err at

pub numbers-none : (r : Result (List ℕ) ℕ) → r ≡ behind_all [] r
numbers-none (Ok others) = refl
numbers-none (Err at) = refl

pub one-more : (first : List ℕ) (f : ℕ) (fields : List Field) (j : ℕ) (name : List ℕ) (names : List (List ℕ)) → field_number name fields ≡ Some f → behind_all first (numbers_from fields j (name ∷ names)) ≡ behind_all (first ++ f ∷ []) (numbers_from fields (j + 1) names)
unfolding numbers_from
one-more first f fields j name names is = rw is (by_rest (numbers_from fields (j + 1) names))
  where
    by_rest : (r : Result (List ℕ) ℕ) → behind_all first (with_number f r) ≡ behind_all (first ++ f ∷ []) r
    by_rest (Ok others) = ap (λ (xs : List ℕ). Ok xs) (sym (append_assoc first (f ∷ []) others))
    by_rest (Err at) = refl

pub no-more : (fields : List Field) (j : ℕ) (name : List ℕ) (names : List (List ℕ)) → field_number name fields ≡ None → numbers_from fields j (name ∷ names) ≡ Err j
unfolding numbers_from
no-more fields j name names is = rw is refl

pub names-done : (fields : List Field) (j : ℕ) (first : List ℕ) → behind_all first (numbers_from fields j []) ≡ Ok first
unfolding numbers_from
names-done fields j first = ap (λ (xs : List ℕ). Ok xs) (append-nil first)

-- ---- the loop over the names of a list

pub next-name : (fields : List Field) (names : List (Bor (List ℕ))) (j f : ℕ) (d : Bor (List ℕ)) (first : List ℕ) → j < length names
    → numbers_from fields 0 (map (λ name. name.now) names) ≡ behind_all first (numbers_from fields j (map (λ name. name.now) (drop j names))) → field_number (slice_index_or names j d).now fields ≡ Some f
    → numbers_from fields 0 (map (λ name. name.now) names) ≡ behind_all (first ++ f ∷ []) (numbers_from fields (j + 1) (map (λ name. name.now) (drop (j + 1) names)))
next-name fields names j f d first within before is =
    before ∙ ap (λ (xs : List (Bor (List ℕ))). behind_all first (numbers_from fields j (map (λ name. name.now) xs))) (drop_more names j d within)
    ∙ one-more first f fields j (slice_index_or names j d).now (map (λ name. name.now) (drop (j + 1) names)) is

pub absent-name : (fields : List Field) (names : List (Bor (List ℕ))) (j : ℕ) (d : Bor (List ℕ)) (first : List ℕ) → j < length names
    → numbers_from fields 0 (map (λ name. name.now) names) ≡ behind_all first (numbers_from fields j (map (λ name. name.now) (drop j names))) → field_number (slice_index_or names j d).now fields ≡ None
    → numbers_from fields 0 (map (λ name. name.now) names) ≡ Err j
absent-name fields names j d first within before is =
    before ∙ ap (λ (xs : List (Bor (List ℕ))). behind_all first (numbers_from fields j (map (λ name. name.now) xs))) (drop_more names j d within)
    ∙ ap (λ (r : Result (List ℕ) ℕ). behind_all first r) (no-more fields j (slice_index_or names j d).now (map (λ name. name.now) (drop (j + 1) names)) is)

pub last-name : (fields : List Field) (names : List (Bor (List ℕ))) (j : ℕ) (first : List ℕ) → length names ≤ j
    → numbers_from fields 0 (map (λ name. name.now) names) ≡ behind_all first (numbers_from fields j (map (λ name. name.now) (drop j names))) → numbers_from fields 0 (map (λ name. name.now) names) ≡ Ok first
last-name fields names j first past before =
    before ∙ ap (λ (xs : List (Bor (List ℕ))). behind_all first (numbers_from fields j (map (λ name. name.now) xs))) (drop_all j names past) ∙ names-done fields j first

pub next-number : (f : ℕ) (numbers : List ℕ) → numbers ≡ range_with_len 0 f → numbers ++ f ∷ [] ≡ range_with_len 0 (f + 1)
next-number f numbers is = ap (λ (xs : List ℕ). xs ++ f ∷ []) (is ∙ sym (mapped 0 f)) ∙ sym (map-range_with_len_more (λ (n : ℕ). n) 0 f f (omega arith)) ∙ mapped 0 (f + 1)
  where
    mapped : (a n : ℕ) → map (λ (n : ℕ). n) (range_with_len a n) ≡ range_with_len a n
    mapped a n = map-id (range_with_len a n)

-- ---- what the numbers are

below-length : (test : Field → Bool) (n : ℕ) (fields : List Field) (f : ℕ) → position_from test n fields ≡ Some f → f < n + length fields
below-length test n [] f is = absurd cc
below-length test n (field ∷ fields) f is = by_test (test field) (λ rest. below-length test (n + 1) fields f rest) is
  where
    by_test : (b : Bool) → (position_from test (n + 1) fields ≡ Some f → f < n + 1 + length fields) → (if b then Some n else position_from test (n + 1) fields) ≡ Some f → f < n + suc (length fields)
    by_test true later is = let same : n ≡ f = cc in omega (arith, same)
    by_test false later is = let rest = later is in omega (arith, rest)

pub numbered-below : (fields : List Field) (name : List ℕ) (f : ℕ) → field_number name fields ≡ Some f → f < length fields
numbered-below fields name f is = let low = below-length (λ (field : Field). bytes_eq field.path name) 0 fields f is in omega (arith, low)

-- as many as there are names, each of a field
pub named-all : (fields : List Field) (j : ℕ) (names : List (List ℕ)) (numbers : List ℕ) → numbers_from fields j names ≡ Ok numbers → (length numbers ≡ length names) × AllByRecursion (λ f. f < length fields) numbers
unfolding numbers_from
named-all fields j [] numbers is = let same : [] ≡ numbers = cc in subst (λ (xs : List ℕ). (length xs ≡ 0) × AllByRecursion (λ f. f < length fields) xs) same (refl, tt)
named-all fields j (name ∷ names) numbers is = by_field (field_number name fields) (numbers_from fields (j + 1) names) refl refl (λ others rest. named-all fields (j + 1) names others rest) is
  where
    by_field : (o : Option ℕ) (r : Result (List ℕ) ℕ) → field_number name fields ≡ o → numbers_from fields (j + 1) names ≡ r
        → ((others : List ℕ) → numbers_from fields (j + 1) names ≡ Ok others → (length others ≡ length names) × AllByRecursion (λ f. f < length fields) others) → by_number j o r ≡ Ok numbers → (length numbers ≡ suc (length names)) × AllByRecursion (λ f. f < length fields) numbers
    by_field None r at_name rest all is = absurd cc
    by_field (Some f) (Err at) at_name rest all is = absurd cc
    by_field (Some f) (Ok others) at_name rest all is =
        let same : f ∷ others ≡ numbers = cc in
        let later = all others rest in
        subst (λ (xs : List ℕ). (length xs ≡ suc (length names)) × AllByRecursion (λ f. f < length fields) xs) same (ap (λ (n : ℕ). suc n) later.0, (numbered-below fields name f at_name, later.1))

range-all : (from n high : ℕ) → from + n ≤ high → AllByRecursion (λ f. f < high) (range_with_len from n)
range-all from zero high within = tt
range-all from (suc n) high within = (omega (arith, within), range-all (from + 1) n high (omega (arith, within)))

pub range-length : (from n : ℕ) → length (range_with_len from n) ≡ n
range-length from zero = refl
range-length from (suc n) = ap (λ (m : ℕ). suc m) (range-length (from + 1) n)

-- a list has a name
pub some-name : (text : List ℕ) → 0 < length (slice_split (λ b. b == 44) text)
some-name [] = omega arith
some-name (b ∷ text) = by_test (b == 44) (slice_split (λ b. b == 44) text)
  where
    first : (rest : List (List ℕ)) → 0 < length (onto_first b rest)
    first [] = omega arith
    first (x ∷ xs) = omega arith

    by_test : (test : Bool) (rest : List (List ℕ)) → 0 < length (if test then [] ∷ rest else onto_first b rest)
    by_test true rest = omega arith
    by_test false rest = first rest

pub some-listed : (list : Option (Bor (List ℕ))) → IfSome (option_map (λ text. names_in text.now) list) (λ names. 0 < length names)
some-listed None = tt
some-listed (Some text) = some-name text.now

-- the numbers of the asked fields are of fields, of which there is one
pub some-numbers : (fields : List Field) (names : Option (List (List ℕ))) (numbers : List ℕ) → 0 < length fields → IfSome names (λ names. 0 < length names) → numbers_of fields names ≡ Ok numbers → (0 < length numbers) × AllByRecursion (λ f. f < length fields) numbers
some-numbers fields None numbers some listed is =
    let same : range_with_len 0 (length fields) ≡ numbers = cc in
    subst (λ (xs : List ℕ). (0 < length xs) × AllByRecursion (λ f. f < length fields) xs) same
    (let long = range-length 0 (length fields) in omega (arith, long, some), range-all 0 (length fields) (length fields) (omega arith))
some-numbers fields (Some names) numbers some listed is =
    let all = named-all fields 0 names numbers is in
    let same = all.0 in
    (omega (arith, same, listed), all.1)

-- ---- the cloud

few-records : (nodes : ℕ) (items : List StatedItem) (places : List ℕ) (k : ℕ) (cloud : Cloud) → AllByRecursion (IsSoundItem nodes) items → slice_get (clouds_among items places) k ≡ Some cloud → cloud.count ≤ 2 ^ 40
few-records nodes [] places k cloud sound is = absurd cc
few-records nodes (x ∷ items) [] k cloud sound is = absurd cc
few-records nodes (stated_cloud n count fields ∷ items) (place ∷ places) zero cloud sound is =
    let same : record { node = n; place = place; count = count } ≡ cloud = cc in
    subst (λ (c : Cloud). c.count ≤ 2 ^ 40) same sound.0.few_records
few-records nodes (stated_cloud n count fields ∷ items) (place ∷ places) (suc k) cloud sound is = few-records nodes items places k cloud sound.1 is
few-records nodes (stated_blob n size ∷ items) (place ∷ places) k cloud sound is = few-records nodes items places k cloud sound.1 is

pub cloud-few : (e : Element) (k : ℕ) (cloud : Cloud) → typed_fault (shape_of e) ≡ None → slice_get (clouds_of e) k ≡ Some cloud → cloud.count ≤ 2 ^ 40
cloud-few e k cloud typed is = few-records (node_count (shape_of e)) (stated_items (shape_of e)) (places_in e) k cloud (sound_items e typed) is

-- the asked cloud with its fields
abbrev pub IsThere : List RawNode → ℕ → Cloud → List Field → Type 0
IsThere nodes k cloud fields = (e : Element) → nodes ≡ preorder e → (slice_get (clouds_of e) k ≡ Some cloud) × (slice_get (cloud_fields e) k ≡ Some fields)

pub is-there : (nodes : List RawNode) (k : ℕ) (d : Cloud) (clouds : List Cloud) (fields : List Field) → ((e : Element) → nodes ≡ preorder e → clouds ≡ clouds_of e) → ((e : Element) → nodes ≡ preorder e → slice_get (cloud_fields e) k ≡ Some fields) → k < length clouds
    → IsThere nodes k (slice_index_or clouds k d) fields
is-there nodes k d clouds fields of fields_of below = λ e same. (subst (λ (cs : List Cloud). slice_get cs k ≡ Some (slice_index_or clouds k d)) (of e same) (slice_get-get_or clouds k d below), fields_of e same)

-- ---- the records

pub within-cloud : (records from : ℕ) (count : Option ℕ) → asked_end from count ≤ records → from + asked_count records from count ≤ records
within-cloud records from None within = omega (arith, within)
within-cloud records from (Some n) within = within

-- the numbers of the asked fields are of fields
pub numbers-below : (fields : List Field) (list : Option (Bor (List ℕ))) (numbers : List ℕ) → 0 < length fields → numbers_of fields (option_map (λ text. names_in text.now) list) ≡ Ok numbers → AllByRecursion (λ f. f < length fields) numbers
numbers-below fields list numbers some is = (some-numbers fields (option_map (λ text. names_in text.now) list) numbers some (some-listed list) is).1

-- the numbers of the fields with the names of a list
pub listed-numbers : {V : Type 0} (items : V → List ℕ) (fields : List Field) (text : List ℕ) (names : List (List ℕ)) (result : Result V RunFault) → names ≡ names_in text
    → MatchResult result (λ numbers. numbers_from fields 0 names ≡ Ok (items numbers)) (λ fault. LacksName fields names fault)
    → MatchResult result (λ numbers. numbers_of fields (Some (names_in text)) ≡ Ok (items numbers)) (λ fault. LacksField (Some (names_in text)) fields fault)
listed-numbers items fields text names result is given =
    subst (λ (ns : List (List ℕ)). MatchResult result (λ numbers. numbers_from fields 0 ns ≡ Ok (items numbers)) (λ fault. LacksName fields ns fault)) is given

pub counted : (records from n : ℕ) (count : Option ℕ) → n ≡ unwrap_or count (records - from) → n ≡ asked_count records from count
counted records from n None is = is
counted records from n (Some m) is = is
