-- The words that are left to be read.
use Rattle.std.proofs.Common.{◌≡◌, ℕ, suc, ◌+◌, ◌<◌, true, false, List, [], ◌∷◌, length, drop, map, Some, Ok, Err, refl, sym, ap, ◌∙◌, add-one, get_or}
use Rattle.std.specs.Prelude.{slice_get}
use Rattle.std.specs.Option.{option_map}
use Rattle.std.proofs.Math.Seq.{drop-cons}
use Rattle.std.proofs.lemmas.List.{length-map}
use Rattle.std.proofs.lemmas.Option.{slice_get_within, get_or_from_slice_get, slice_get_read, slice_get-map}
use Rattle.e57_tool.specs.Cursor.{unread_from, is_place, next_place, left_over}

-- the next word, and those behind it
pub drop_next : {A : Type 0} (words : List A) (n : ℕ) (word : A) → slice_get words n ≡ Some word → drop n words ≡ word ∷ drop (n + 1) words
drop_next words n word is =
    let cut : drop n words ≡ get_or words n word ∷ drop (suc n) words = drop-cons words n word (slice_get_within words n word is) in
    rw (add-one n) (cut ∙ ap (λ w. w ∷ drop (suc n) words) (get_or_from_slice_get words n word word is))

-- the same of the texts of these items
pub text_at : {A : Type 0} (text : A → List ℕ) (items : List A) (n : ℕ) (item : A) (word : List ℕ) → n < length items → item ≡ get_or items n item → word ≡ text item → drop n (map text items) ≡ word ∷ drop (n + 1) (map text items)
text_at text items n item word below is said =
    let here : slice_get items n ≡ Some item = slice_get_read items (length items) n item refl below is in
    drop_next (map text items) n word (slice_get-map text items n ∙ (ap (option_map text) here ∙ ap Some (sym said)))

pub place_read : {A : Type 0} (text : A → List ℕ) (items : List A) (n : ℕ) (item : A) (word : List ℕ) → n < length items → item ≡ get_or items n item → word ≡ text item → is_place word ≡ true → next_place (unread_from n (map text items)) ≡ Ok (word, unread_from (n + 1) (map text items))
place_read text items n item word below is said place = rw (text_at text items n item word below is said, place) refl

pub no_place : {A : Type 0} (text : A → List ℕ) (items : List A) (n : ℕ) (item : A) (word : List ℕ) → n < length items → item ≡ get_or items n item → word ≡ text item → is_place word ≡ false → next_place (unread_from n (map text items)) ≡ Err n
no_place text items n item word below is said place = rw (text_at text items n item word below is said, place) refl

-- a word is left
pub word_left : {A : Type 0} (text : A → List ℕ) (items : List A) (n : ℕ) → n < length items → left_over (unread_from n (map text items)) ≡ Some n
word_left text items n below =
    let within : n < length (map text items) = rw length-map below in
    rw (drop-cons (map text items) n [] within) refl
