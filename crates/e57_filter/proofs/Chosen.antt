-- What is asked of a cloud, looked up: flags of fields, their numbers, and tests.
use Rattle.std.proofs.Common.{◌≡◌, ℕ, zero, suc, ◌+◌, ◌<◌, ◌≤◌, ◌==◌, ◌||◌, ℤ, Bool, true, false, List, [], ◌∷◌, ◌++◌, length, drop, map, cond, get_or, slice_index_or, Some, None, Result, Ok, Err, refl, sym, subst, ap, ◌∙◌, arith, append_assoc}
use Rattle.std.specs.List.{AllByRecursion, filter, list_any, range_with_len}
use Rattle.std.proofs.lemmas.Bool.{eq-eqb}
use Rattle.std.proofs.lemmas.List.{append-nil, drop_all, drop_more, map-id, get_or_default}
use Rattle.std.proofs.lemmas.List.Folds.{list_any_at}
use Rattle.std.proofs.lemmas.List.FromFn.{map-range_with_len_more, filter_of_map_range_with_len_more, length-map-range_with_len, get_or-map-range_with_len}
use Rattle.e57_base.specs.declared.fault.AskFault.{AskFault}
use Rattle.e57_base.specs.declared.fault.AskFault.TheVariants as ask
use Rattle.e57_layout.specs.declared.field.Field.{Field}
use Rattle.e57_layout.specs.Values.{item_kind}
use Rattle.e57_blocks.specs.Fields.{field_at, no_field}
use Rattle.e57_file.specs.Opened.{field_number}
use Rattle.e57_plain.specs.Kept.{Test, chosen}
use Rattle.e57_plain.specs.Pruned.{keeps_some}
use Rattle.e57_filter.specs.Asking.{KeepAsked, is_integer, with_test, tests_from, chosen_of}
use Rattle.e57_filter.specs.Asks.{keep_asked}
use Rattle.e57_filter.specs.declared.ask.Keep.{Keep}
use Rattle.e57_filter.specs.declared.select.FieldTest.{FieldTest}
use Rattle.e57_filter.specs.Selecting.{field_test, IsIntegerField, chosen_numbers}

-- ---- flags

-- a flag for field f behind those of the fields before it
pub next-flag : (numbers : List ℕ) (f : ℕ) (flags : List Bool) (b : Bool) → flags ≡ chosen_of f numbers → b ≡ list_any (λ (k : ℕ). k == f) numbers → flags ++ b ∷ [] ≡ chosen_of (f + 1) numbers
next-flag numbers f flags b is tells =
    ap (λ (xs : List Bool). xs ++ b ∷ []) is ∙ ap (λ (x : Bool). chosen_of f numbers ++ x ∷ []) tells
    ∙ sym (map-range_with_len_more (λ (g : ℕ). list_any (λ (k : ℕ). k == g) numbers) 0 f f (omega arith))

pub chosen-length : (n : ℕ) (numbers : List ℕ) → length (chosen_of n numbers) ≡ n
chosen-length n numbers = length-map-range_with_len (λ (g : ℕ). list_any (λ (k : ℕ). k == g) numbers) 0 n

-- a field that is named is chosen
chosen-first : (n f : ℕ) (numbers : List ℕ) → f < n → get_or (chosen_of n (f ∷ numbers)) f false ≡ true
chosen-first n f numbers below =
    get_or-map-range_with_len (λ (g : ℕ). list_any (λ (k : ℕ). k == g) (f ∷ numbers)) 0 n f f false below (omega arith)
    ∙ ap (λ (b : Bool). b || list_any (λ (k : ℕ). k == f) numbers) (eq-eqb f f refl)

-- one is chosen: its number
some-chosen : (n : ℕ) (numbers : List ℕ) → 0 < length numbers → AllByRecursion (λ f. f < n) numbers → (f : ℕ) × (f < n) × (get_or (chosen_of n numbers) f false ≡ true)
some-chosen n [] some all = absurd (omega (arith, some))
some-chosen n (f ∷ numbers) some all = (f, all.0, chosen-first n f numbers all.0)

pub keeps-chosen : (n : ℕ) (numbers : List ℕ) → 0 < length numbers → AllByRecursion (λ f. f < n) numbers → keeps_some (chosen_of n numbers) ≡ true
keeps-chosen n numbers some all =
    let one = some-chosen n numbers some all in
    let long = chosen-length n numbers in
    let below = one.1 in
    list_any_at (λ (b : Bool). b) (chosen_of n numbers) one.0 false (omega (arith, long, below)) one.2

-- ---- their numbers

more-numbers : (p : ℕ → Bool) (f : ℕ) → filter p (range_with_len 0 (f + 1)) ≡ filter p (range_with_len 0 f) ++ cond (p f) (f ∷ []) []
more-numbers p f =
    ap (filter p) (sym (map-id (range_with_len 0 (f + 1)))) ∙ filter_of_map_range_with_len_more p (λ (g : ℕ). g) 0 f f (omega arith)
    ∙ ap (λ (xs : List ℕ). filter p xs ++ cond (p f) (f ∷ []) []) (map-id (range_with_len 0 f))

pub next-number : (p : ℕ → Bool) (f : ℕ) (numbers : List ℕ) → numbers ≡ filter p (range_with_len 0 f) → p f ≡ true → numbers ++ f ∷ [] ≡ filter p (range_with_len 0 (f + 1))
next-number p f numbers is yes_ = ap (λ (xs : List ℕ). xs ++ f ∷ []) is ∙ ap (λ (b : Bool). filter p (range_with_len 0 f) ++ cond b (f ∷ []) []) (sym yes_) ∙ sym (more-numbers p f)

pub skip-number : (p : ℕ → Bool) (f : ℕ) (numbers : List ℕ) → numbers ≡ filter p (range_with_len 0 f) → p f ≡ false → numbers ≡ filter p (range_with_len 0 (f + 1))
skip-number p f numbers is not_ =
    is ∙ sym (append-nil (filter p (range_with_len 0 f))) ∙ ap (λ (b : Bool). filter p (range_with_len 0 f) ++ cond b (f ∷ []) []) (sym not_) ∙ sym (more-numbers p f)

filter-cons : (p : ℕ → Bool) (x : ℕ) (xs : List ℕ) (b : Bool) → p x ≡ b → filter p (x ∷ xs) ≡ cond b (x ∷ filter p xs) (filter p xs)
filter-cons p x xs b is = rw is (by_test b)
  where
    by_test : (b : Bool) → cond b (x ∷ filter p xs) (filter p xs) ≡ cond b (x ∷ filter p xs) (filter p xs)
    by_test b = refl

some-filtered : (p : ℕ → Bool) (a d n : ℕ) → d < n → p (a + d) ≡ true → 0 < length (filter p (range_with_len a n))
some-filtered p a d zero below is = absurd (omega (arith, below))
some-filtered p a zero (suc n) below is = let first : p a ≡ true = subst (λ (k : ℕ). p k ≡ true) (omega arith) is in rw (filter-cons p a (range_with_len (a + 1) n) true first) (omega arith)
some-filtered p a (suc d) (suc n) below is =
    let rest = some-filtered p (a + 1) d n (omega (arith, below)) (subst (λ (k : ℕ). p k ≡ true) (omega arith) is) in
    subst (λ (xs : List ℕ). 0 < length xs) (sym (filter-cons p a (range_with_len (a + 1) n) (p a) refl)) (by_test (p a) rest)
  where
    by_test : (b : Bool) → 0 < length (filter p (range_with_len (a + 1) n)) → 0 < length (cond b (a ∷ filter p (range_with_len (a + 1) n)) (filter p (range_with_len (a + 1) n)))
    by_test true rest = omega arith
    by_test false rest = rest

pub some-numbered : (n : ℕ) (numbers : List ℕ) → 0 < length numbers → AllByRecursion (λ f. f < n) numbers → 0 < length (chosen_numbers (chosen_of n numbers))
some-numbered n numbers some all =
    let one = some-chosen n numbers some all in
    let long = chosen-length n numbers in
    let below = one.1 in
    some-filtered (λ (f : ℕ). get_or (chosen_of n numbers) f false) 0 one.0 (length (chosen_of n numbers)) (omega (arith, long, below)) (subst (λ (k : ℕ). get_or (chosen_of n numbers) k false ≡ true) (omega arith) one.2)

filtered-below : (p : ℕ → Bool) (a n high : ℕ) → a + n ≤ high → AllByRecursion (λ f. f < high) (filter p (range_with_len a n))
filtered-below p a zero high within = tt
filtered-below p a (suc n) high within =
    subst (λ (xs : List ℕ). AllByRecursion (λ f. f < high) xs) (sym (filter-cons p a (range_with_len (a + 1) n) (p a) refl)) (by_test (p a) (filtered-below p (a + 1) n high (omega (arith, within))))
  where
    by_test : (b : Bool) → AllByRecursion (λ f. f < high) (filter p (range_with_len (a + 1) n)) → AllByRecursion (λ f. f < high) (cond b (a ∷ filter p (range_with_len (a + 1) n)) (filter p (range_with_len (a + 1) n)))
    by_test true rest = (omega (arith, within), rest)
    by_test false rest = rest

pub numbers-within : (chosen : List Bool) → AllByRecursion (λ f. f < length chosen) (chosen_numbers chosen)
numbers-within chosen = filtered-below (λ (f : ℕ). get_or chosen f false) 0 (length chosen) (length chosen) (omega arith)

filtered-few : (p : ℕ → Bool) (a n : ℕ) → length (filter p (range_with_len a n)) ≤ n
filtered-few p a zero = omega arith
filtered-few p a (suc n) =
    subst (λ (xs : List ℕ). length xs ≤ suc n) (sym (filter-cons p a (range_with_len (a + 1) n) (p a) refl)) (by_test (p a) (filtered-few p (a + 1) n))
  where
    by_test : (b : Bool) → length (filter p (range_with_len (a + 1) n)) ≤ n → length (cond b (a ∷ filter p (range_with_len (a + 1) n)) (filter p (range_with_len (a + 1) n))) ≤ suc n
    by_test true rest = omega (arith, rest)
    by_test false rest = omega (arith, rest)

pub few-numbers : (n most : ℕ) (chosen : List Bool) → length chosen ≡ n → n ≤ most → length (chosen_numbers chosen) ≤ most
few-numbers n most chosen long few = let fewer = filtered-few (λ (f : ℕ). get_or chosen f false) 0 (length chosen) in omega (arith, long, few, fewer)

-- what is chosen stands at these numbers
chosen-from : {X : Type 0} (d : X) (p : ℕ → Bool) (g : ℕ → X) (a : ℕ) (keep : List Bool) (xs : List X) → length keep ≡ length xs → ((f : ℕ) → p (a + f) ≡ get_or keep f false) → ((f : ℕ) → f < length xs → g (a + f) ≡ get_or xs f d)
    → chosen keep xs ≡ map g (filter p (range_with_len a (length keep)))
chosen-from d p g a [] xs same flags items = refl
chosen-from d p g a (b ∷ keep) [] same flags items = absurd cc
chosen-from d p g a (b ∷ keep) (x ∷ xs) same flags items =
    let rest = chosen-from d p g (a + 1) keep xs (omega (arith, same)) (λ f. subst (λ (k : ℕ). p k ≡ get_or keep f false) (omega arith) (flags (suc f)))
    (λ f below. subst (λ (k : ℕ). g k ≡ get_or xs f d) (omega arith) (items (suc f) (omega (arith, below)))) in
    let flag : p a ≡ b = subst (λ (k : ℕ). p k ≡ b) (omega arith) (flags 0) in
    let item : g a ≡ x = subst (λ (k : ℕ). g k ≡ x) (omega arith) (items 0 (omega arith)) in
    by_test b rest item ∙ ap (map g) (sym (filter-cons p a (range_with_len (a + 1) (length keep)) b flag))
  where
    by_test : (b : Bool) → chosen keep xs ≡ map g (filter p (range_with_len (a + 1) (length keep))) → g a ≡ x
        → chosen (b ∷ keep) (x ∷ xs) ≡ map g (cond b (a ∷ filter p (range_with_len (a + 1) (length keep))) (filter p (range_with_len (a + 1) (length keep))))
    by_test true rest item = ap (λ ys. x ∷ ys) rest ∙ ap (λ y. y ∷ map g (filter p (range_with_len (a + 1) (length keep)))) (sym item)
    by_test false rest item = rest

pub chosen-at : {X : Type 0} (d : X) (keep : List Bool) (xs : List X) → length keep ≡ length xs → chosen keep xs ≡ map (λ (f : ℕ). get_or xs f d) (chosen_numbers keep)
chosen-at d keep xs same =
    chosen-from d (λ (f : ℕ). get_or keep f false) (λ (f : ℕ). get_or xs f d) 0 keep xs same (λ f. ap (λ (k : ℕ). get_or keep k false) (omega arith)) (λ f below. ap (λ (k : ℕ). get_or xs k d) (omega arith))

-- ---- one test

pub no-test : (fields : List Field) (j : ℕ) (keep : KeepAsked) (keeps : List KeepAsked) → None ≡ field_number keep.field fields → tests_from fields j (keep ∷ keeps) ≡ Err (ask.Keep j (length fields))
unfolding tests_from
no-test fields j keep keeps is = rw (sym is) refl

pub field-is : (fields : List Field) (f : ℕ) (field : Field) → f < length fields → field ≡ get_or fields f field → field_at fields f ≡ field
field-is fields f field below is = sym (is ∙ get_or_default fields f field no_field below)

-- the test of the field that was read
pub integer-at : (fields : List Field) (f : ℕ) (field : Field) (b c : Bool) → f < length fields → field ≡ get_or fields f field → b ≡ is_integer (item_kind field.kind) → b ≡ c → is_integer (item_kind (field_at fields f).kind) ≡ c
integer-at fields f field b c below is tells holds = ap (λ (x : Field). is_integer (item_kind x.kind)) (field-is fields f field below is) ∙ sym tells ∙ holds

pub not-integer : (fields : List Field) (j f : ℕ) (keep : KeepAsked) (keeps : List KeepAsked) → Some f ≡ field_number keep.field fields → is_integer (item_kind (field_at fields f).kind) ≡ false → tests_from fields j (keep ∷ keeps) ≡ Err (ask.NotInteger j (length fields))
unfolding tests_from
not-integer fields j f keep keeps is fails = rw (sym is) (rw fails refl)

pub one-test : (fields : List Field) (j f : ℕ) (keep : KeepAsked) (keeps : List KeepAsked) (low high : ℤ) → Some f ≡ field_number keep.field fields → is_integer (item_kind (field_at fields f).kind) ≡ true → low ≡ keep.low → high ≡ keep.high
    → tests_from fields j (keep ∷ keeps) ≡ with_test (record { field = f; low = low; high = high }) (tests_from fields (j + 1) keeps)
unfolding tests_from
one-test fields j f keep keeps low high is holds at_low at_high = rw (at_low, at_high) (rw (sym is) (rw holds refl))

-- ---- one after another

-- these tests, and then those that are left
abbrev pub behind_tests : List Test → Result (List Test) AskFault → Result (List Test) AskFault
behind_tests first (Ok others) = Ok (first ++ others)
behind_tests first (Err why) = Err why

pub tests-none : (r : Result (List Test) AskFault) → r ≡ behind_tests [] r
tests-none (Ok others) = refl
tests-none (Err why) = refl

behind-one : (first : List Test) (test : Test) (r : Result (List Test) AskFault) → behind_tests first (with_test test r) ≡ behind_tests (first ++ test ∷ []) r
behind-one first test (Ok others) = ap (λ (xs : List Test). Ok xs) (sym (append_assoc first (test ∷ []) others))
behind-one first test (Err why) = refl

pub tests-done : (fields : List Field) (j : ℕ) (first : List Test) → behind_tests first (tests_from fields j []) ≡ Ok first
unfolding tests_from
tests-done fields j first = ap (λ (xs : List Test). Ok xs) (append-nil first)

-- the first j of these tests were made
pub record Made (fields : List Field) (keeps : List Keep) (j : ℕ) (tests : List FieldTest) : Type 0 where
  pub so : tests_from fields 0 (map keep_asked keeps) ≡ behind_tests (map field_test tests) (tests_from fields j (map keep_asked (drop j keeps)))
  pub each : AllByRecursion (IsIntegerField fields) tests

all-and-one : {X : Type 0} (P : X → Type 0) (xs : List X) (x : X) → AllByRecursion P xs → P x → AllByRecursion P (xs ++ x ∷ [])
all-and-one P [] x all one = (one, tt)
all-and-one P (y ∷ xs) x all one = (all.0, all-and-one P xs x all.1 one)

mapped-and-one : (xs : List FieldTest) (x : FieldTest) → map field_test (xs ++ x ∷ []) ≡ map field_test xs ++ field_test x ∷ []
mapped-and-one [] x = refl
mapped-and-one (y ∷ xs) x = ap (λ (ts : List Test). field_test y ∷ ts) (mapped-and-one xs x)

pub made-first : (fields : List Field) (keeps : List Keep) → Made fields keeps 0 []
made-first fields keeps = record { so = tests-none (tests_from fields 0 (map keep_asked keeps)); each = tt }

pub made-next : (fields : List Field) (keeps : List Keep) (j : ℕ) (d : Keep) (tests : List FieldTest) (test : FieldTest) → j < length keeps → Made fields keeps j tests → IsIntegerField fields test
    → ((more : List KeepAsked) → tests_from fields j (keep_asked (slice_index_or keeps j d) ∷ more) ≡ with_test (field_test test) (tests_from fields (j + 1) more)) → Made fields keeps (j + 1) (tests ++ test ∷ [])
made-next fields keeps j d tests test below made is makes = record {
  so =
      made.so ∙ ap (λ (xs : List Keep). behind_tests (map field_test tests) (tests_from fields j (map keep_asked xs))) (drop_more keeps j d below)
      ∙ ap (behind_tests (map field_test tests)) (makes (map keep_asked (drop (j + 1) keeps)))
      ∙ behind-one (map field_test tests) (field_test test) (tests_from fields (j + 1) (map keep_asked (drop (j + 1) keeps)))
      ∙ ap (λ (ts : List Test). behind_tests ts (tests_from fields (j + 1) (map keep_asked (drop (j + 1) keeps)))) (sym (mapped-and-one tests test));
  each = all-and-one (IsIntegerField fields) tests test made.each is;
}

pub made-not : (fields : List Field) (keeps : List Keep) (j : ℕ) (d : Keep) (tests : List FieldTest) (why : AskFault) → j < length keeps → Made fields keeps j tests
    → ((more : List KeepAsked) → tests_from fields j (keep_asked (slice_index_or keeps j d) ∷ more) ≡ Err why) → tests_from fields 0 (map keep_asked keeps) ≡ Err why
made-not fields keeps j d tests why below made lacks =
    made.so ∙ ap (λ (xs : List Keep). behind_tests (map field_test tests) (tests_from fields j (map keep_asked xs))) (drop_more keeps j d below)
    ∙ ap (behind_tests (map field_test tests)) (lacks (map keep_asked (drop (j + 1) keeps)))

pub made-all : (fields : List Field) (keeps : List Keep) (j : ℕ) (tests : List FieldTest) → length keeps ≤ j → Made fields keeps j tests
    → (tests_from fields 0 (map keep_asked keeps) ≡ Ok (map field_test tests)) × AllByRecursion (IsIntegerField fields) tests
made-all fields keeps j tests past made = (
  made.so ∙ ap (λ (xs : List Keep). behind_tests (map field_test tests) (tests_from fields j (map keep_asked xs))) (drop_all j keeps past) ∙ tests-done fields j (map field_test tests),
  made.each,
)

pub few-flags : (n most : ℕ) (numbers : List ℕ) (flags given : List Bool) → n ≤ most → flags ≡ chosen_of n numbers → given ≡ flags → length given ≤ most
few-flags n most numbers flags given few is same =
    let long : length given ≡ n = ap (λ (bs : List Bool). length bs) (same ∙ is) ∙ chosen-length n numbers in
    omega (arith, long, few)
