-- The words that are left, read as options.
use Rattle.std.proofs.Common.{◌≡◌, ℕ, ◌+◌, ◌<◌, ◌≤◌, List, length, drop, map, Some, None, Ok, Err, refl, get_or}
use Rattle.std.proofs.lemmas.List.{drop_all, length-map}
use Rattle.e57_tool.specs.Options.{OptionRow, with_option, with_options}
use Rattle.e57_tool.proofs.Reading.{text_at}

-- the next word is an option
pub option_next : {A Given : Type 0} (rows : List (OptionRow Given)) (text : A → List ℕ) (items : List A) (n : ℕ) (item : A) (word : List ℕ) (given more : Given) → n < length items → item ≡ get_or items n item → word ≡ text item → Some more ≡ with_option rows word given → with_options rows n (drop n (map text items)) given ≡ with_options rows (n + 1) (drop (n + 1) (map text items)) more
unfolding with_options
option_next rows text items n item word given more below is said adds = rw (text_at text items n item word below is said, ← adds) refl

-- it is none
pub no_option : {A Given : Type 0} (rows : List (OptionRow Given)) (text : A → List ℕ) (items : List A) (n : ℕ) (item : A) (word : List ℕ) (given : Given) → n < length items → item ≡ get_or items n item → word ≡ text item → None ≡ with_option rows word given → with_options rows n (drop n (map text items)) given ≡ Err n
unfolding with_options
no_option rows text items n item word given below is said adds = rw (text_at text items n item word below is said, ← adds) refl

-- there is none
pub all_read : {A Given : Type 0} (rows : List (OptionRow Given)) (text : A → List ℕ) (items : List A) (n : ℕ) (given : Given) → length items ≤ n → with_options rows n (drop n (map text items)) given ≡ Ok given
unfolding with_options
all_read rows text items n given past = let none : length (map text items) ≤ n = rw length-map past in rw (drop_all n (map text items) none) refl
